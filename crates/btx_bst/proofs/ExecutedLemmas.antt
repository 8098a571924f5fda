-- A function of the style is executed only after the FUNCTION that defines it.
use Rattle.std.proofs.Common.{◌≡◌, ℕ, suc, ◌-◌, ◌<◌, ◌≤◌, ◌⊎◌, inl, inr, Bool, true, false, cond, List, [], ◌∷◌, ◌++◌, length, refl, sym, ap, ◌∙◌, arith}
use Rattle.std.proofs.Common.{Option, None, Some}
use Rattle.std.specs.Prelude.{slice_get}
use Rattle.std.specs.Option.{option_or}
use Rattle.std.specs.Str.{bytes_eq}
use Rattle.std.proofs.lemmas.Option.{slice_get_within, same_Some}
use Rattle.btx_text.specs.language.Keys.{folded}
use Rattle.btx_bst.specs.declared.callee.Callee.{Callee}
use Rattle.btx_bst.specs.declared.callee.Callee.TheVariants.{User, Field, EntryInteger, EntryString, GlobalInteger, GlobalString}
use Rattle.btx_bst.specs.declared.callee.Callee.TheVariants as callee
use Rattle.btx_bst.specs.declared.callee.Kind.{Kind}
use Rattle.btx_bst.specs.declared.callee.Kind.TheVariants as kind
use Rattle.btx_bst.specs.language.Places.{Place, size}
use Rattle.btx_bst.specs.language.Complaints.{Complaint}
use Rattle.btx_bst.specs.language.Reads.{Read, Took, Mistake}
use Rattle.btx_bst.specs.language.Items.{Item}
use Rattle.btx_bst.specs.language.Items as item
use Rattle.btx_bst.specs.language.Names.{Names, named, named_lower, with_name, with_function}
use Rattle.btx_bst.specs.language.Style.{Style}
use Rattle.btx_bst.specs.language.Turns.{Turn}
use Rattle.btx_bst.specs.language.Lists.{opening, closing, next_name, Listing, listing, Listed, name_turn, list_turn_in, list_turn, list_end, list_read}
use Rattle.btx_bst.specs.language.BodyText.{BodyEnd, Whole, Broken, body_end}
use Rattle.btx_bst.specs.language.Commands.{function_in, function_ended, inside_at}
use Rattle.btx_bst.specs.language.Predefined.{predefined}
use Rattle.btx_bst.specs.laws.References.{function_executed, ExecutedLaw}
use Rattle.btx_bst.proofs.TurnLemmas.{OnTurn, turns-keep}
use Rattle.btx_bst.proofs.TableLemmas.{IsFurther}
use Rattle.btx_bst.proofs.FurtherLemmas.{further-function, further-field, further-entry_integer, further-entry_string, further-global_integer}
use Rattle.btx_bst.proofs.FurtherLemmas.{further-global_string, named-pad, padded-length}
use Rattle.btx_bst.proofs.ItemLemmas.{There, there_more, there_last, push_cases, push_left}
use Rattle.btx_bst.proofs.BodyItemLemmas.{OnEnd, body_items}
use Rattle.btx_bst.proofs.KeepLemmas.{Keeps, kept-style}
use Rattle.btx_bst.proofs.ReferenceLemmas.{FineEnd, FineStyle, fine_keeps, fine_start, fine_function_body, refers_within}
use Rattle.btx_bst.specs.refinement.Names.{padded}
use Rattle.btx_bst.specs.laws.StyleText.{unread_style}
use Rattle.btx_bst.specs.refinement.Lists.{unlisted, with_new}

-- ---- functions with a name

-- a FUNCTION defines each function of the style that has a name
abbrev HaveFunctions : List Item → Names → Type 0
HaveFunctions is a = (name : List ℕ) (n : ℕ) → named_lower a name ≡ Some (User n) → There (item.Function n) is

-- one more name, which names no function, or one that is defined
functions_further : (is : List Item) (a b : Names) (name : List ℕ) (c : Callee) → IsFurther a b name c → ((n : ℕ) → c ≡ User n → There (item.Function n) is)
    → HaveFunctions is a → HaveFunctions is b
functions_further is a b name c g new h m n e = at (named_lower a m) refl (sym (g m) ∙ e) where
  new_at : (t : Bool) → cond t (Some c) None ≡ Some (User n) → There (item.Function n) is
  new_at true f = new n (same_Some c (User n) f)
  new_at false f = absurd (cc)

  at : (o : Option Callee) → named_lower a m ≡ o → option_or o (cond (bytes_eq m name) (Some c) None) ≡ Some (User n) → There (item.Function n) is
  at (Some d) e f = h m n (e ∙ f)
  at None e f = new_at (bytes_eq m name) f

functions_name : (is : List Item) (a : Names) (k : Kind) (name : List ℕ) → named_lower a name ≡ None → HaveFunctions is a
    → HaveFunctions is (with_name k name a)
functions_name is a kind.Field name none h = functions_further is a (with_name kind.Field name a) name _ (further-field a name (length a.fields) refl none)
    (λ n e. absurd (cc)) h
functions_name is a kind.EntryInteger name none h = functions_further is a (with_name kind.EntryInteger name a) name _
    (further-entry_integer a name (length a.entry_integers) refl none) (λ n e. absurd (cc)) h
functions_name is a kind.EntryString name none h =
    functions_further is a (with_name kind.EntryString name a) name _ (further-entry_string a name (length a.entry_strings) refl none) (λ n e. absurd (cc)) h
functions_name is a kind.GlobalInteger name none h = functions_further is a (with_name kind.GlobalInteger name a) name _
    (further-global_integer a name (length a.global_integers) refl none) (λ n e. absurd (cc)) h
functions_name is a kind.GlobalString name none h = functions_further is a (with_name kind.GlobalString name a) name _
    (further-global_string a name (length a.global_strings) refl none) (λ n e. absurd (cc)) h

functions_after : (is : List Item) (a : Names) (n : ℕ) (name : List ℕ) → n ≡ length a.functions → named_lower a name ≡ None → There (item.Function n) is
    → HaveFunctions is a → HaveFunctions is (record a { functions = a.functions ++ Some name ∷ [] })
functions_after is a n name l none there h =
    functions_further is a (record a { functions = a.functions ++ Some name ∷ [] }) name (User n) (further-function a name n l none)
    (λ m e. let d : n ≡ m = cc in rw (sym d) there) h

functions_function : (is : List Item) (a : Names) (n : ℕ) (name : List ℕ) → length a.functions ≤ n → named_lower a name ≡ None → There (item.Function n) is
    → HaveFunctions is a → HaveFunctions is (with_function n name a)
functions_function is a n name l none there h =
    let c = n - length a.functions in
    functions_after is (record a { functions = padded n a.functions }) n name (sym (padded-length n a.functions l)) (named-pad a c name ∙ none) there
    (λ m k e. h m k (sym (named-pad a c m) ∙ e))

functions_more : (is : List Item) (x : Item) (a : Names) → HaveFunctions is a → HaveFunctions (is ++ x ∷ []) a
functions_more is x a h name n e = there_more (item.Function n) x is (h name n e)

-- ---- lists of names

abbrev FunctionsTurn : List Item → Turn Listing Listed → Type 0
FunctionsTurn is t = OnTurn (λ s. HaveFunctions is s.names) (λ r. HaveFunctions is r.listing.names) t

functions_new : (is : List Item) (k : Kind) (a : Names) (name : List ℕ) (p : Place) (o : Option Callee) → named a name ≡ o → HaveFunctions is a
    → FunctionsTurn is (with_new k a name p o)
functions_new is k a name p None e h = functions_name is a k (folded name) e h
functions_new is k a name p (Some other) e h = h

functions_read : (is : List Item) (k : Kind) (a : Names) (r : Read (List ℕ)) → HaveFunctions is a → FunctionsTurn is (name_turn k a r)
functions_read is k a (Mistake c p) h = h
functions_read is k a (Took name p) h = functions_new is k a name p (named a name) refl h

functions_turn : (is : List Item) (k : Kind) (a : Names) (r : Read (Unit {0})) → HaveFunctions is a → FunctionsTurn is (list_turn_in k a r)
functions_turn is k a (Took x p) h = h
functions_turn is k a (Mistake c p) h = functions_read is k a (next_name p) h

functions_end : (is : List Item) (k : Kind) (s : Listing) → HaveFunctions is s.names → HaveFunctions is (list_end k s).listing.names
unfolding list_end list_turn
functions_end is k s h =
    turns-keep (λ u. HaveFunctions is u.names) (λ r. HaveFunctions is r.listing.names) (list_turn k) unlisted
    (λ u f. functions_turn is k u.names (closing u.place) f) (λ u f. f) (suc (size s.place)) s h

functions_list : (is : List Item) (k : Kind) (a : Names) (r : Read (Unit {0})) → HaveFunctions is a → HaveFunctions is (list_read k a r).listing.names
functions_list is k a (Mistake c p) h = h
functions_list is k a (Took x p) h = functions_end is k (listing a p) h

-- ---- items

-- each function that is executed stands before
abbrev StandBefore : List Item → Type 0
StandBefore is = (x : Item) (number k : ℕ) → slice_get is k ≡ Some x → function_executed x ≡ Some (User number)
    → (j : ℕ) × (j < k) × (slice_get is j ≡ Some (item.Function number))

before_push : (is : List Item) (x : Item) → ((number : ℕ) → function_executed x ≡ Some (User number) → There (item.Function number) is) → StandBefore is
    → StandBefore (is ++ x ∷ [])
before_push is x need h y number k e f = at (push_cases is x k y e) where
  at : (slice_get is k ≡ Some y) ⊎ ((k ≡ length is) × (x ≡ y)) → (j : ℕ) × (j < k) × (slice_get (is ++ x ∷ []) j ≡ Some (item.Function number))
  at (inl a) = let g = h y number k a f in (g.0, g.1, push_left is x g.0 (item.Function number) g.2)
  at (inr a) =
      let g = need number (ap function_executed a.1 ∙ f) in
      let l = slice_get_within is g.0 (item.Function number) g.1 in
      (g.0, omega (arith, a.0, l), push_left is x g.0 (item.Function number) g.1)

before_message : (c : Complaint) (line : ℕ) (is : List Item) → StandBefore is → StandBefore (is ++ item.Message c line ∷ [])
before_message c line is h = before_push is (item.Message c line) (λ number k. absurd (cc)) h

-- ---- styles

record Defined (s : Style) : Type 0 where
  fine : FineStyle s
  functions : HaveFunctions s.items s.names
  before : StandBefore s.items

defined_plain : (x : Item) (s t : Style) → FineStyle t → t.names ≡ s.names → t.items ≡ s.items ++ x ∷ []
    → ((number : ℕ) → function_executed x ≡ Some (User number) → There (item.Function number) s.items) → Defined s → Defined t
defined_plain x s t f e g need d = record {
  fine = f;
  functions = rw (e, g) (functions_more s.items x s.names d.functions);
  before =
      rw g (before_push s.items x need d.before);
}

-- what a body keeps
abbrev InBody : Names → List Item → Type 0
InBody a is = HaveFunctions is a × StandBefore is

body_message : (a : Names) (c : Complaint) (line : ℕ) (is : List Item) → InBody a is → InBody a (is ++ item.Message c line ∷ [])
body_message a c line is h = (functions_more is (item.Message c line) a h.0, before_message c line is h.1)

defined_ended : (s : Style) (name : List ℕ) (r : BodyEnd) → named_lower s.names name ≡ None → FineStyle s → FineEnd s.names (length s.bodies) r
    → FineStyle (function_ended s name r).style → OnEnd (InBody s.names) r → Defined (function_ended s name r).style
defined_ended s name (Broken c i) none h f g d = record { fine = g; functions = d.0; before = d.1 }
defined_ended s name (Whole i) none h f g d =
    let n = length i.bodies in
    let l = h.no_later in
    let m = f.grown in
    record {
      fine = g;
      functions = functions_function (i.items ++ item.Function n ∷ []) s.names n name (omega arith) none (there_last (item.Function n) i.items)
          (functions_more i.items (item.Function n) s.names d.0);
      before = before_push i.items (item.Function n) (λ number k. absurd (cc)) d.1;
    }

-- a name that names a function of the style
user_in : (o : Option Callee) (n : ℕ) → function_in o ≡ Some (User n) → o ≡ Some (User n)
user_in None n e = absurd (cc)
user_in (Some (User k)) n e = e
user_in (Some (callee.BuiltIn b)) n e = absurd (cc)
user_in (Some (Field k)) n e = absurd (cc)
user_in (Some (EntryInteger k)) n e = absurd (cc)
user_in (Some (EntryString k)) n e = absurd (cc)
user_in (Some (GlobalInteger k)) n e = absurd (cc)
user_in (Some (GlobalString k)) n e = absurd (cc)

executed_there : (s : Style) (name : List ℕ) (c : Callee) → function_in (named s.names name) ≡ Some c → HaveFunctions s.items s.names → (number : ℕ)
    → Some c ≡ Some (User number) → There (item.Function number) s.items
executed_there s name c e h number f = h (folded name) number (user_in (named s.names name) number (e ∙ f))

defined_keeps : Keeps Defined
defined_keeps = record {
  on_message = λ c line s d. defined_plain (item.Message c line) s _ (fine_keeps.on_message c line s d.fine) refl refl (λ n k. absurd (cc)) d;
  on_names = λ s k p d. record {
    fine = fine_keeps.on_names s k p d.fine;
    functions = functions_list s.items k s.names (opening p) d.functions;
    before =
        d.before;
  };
  on_entry = λ s e d. defined_plain item.Entry s _ (fine_keeps.on_entry s e d.fine) refl refl (λ n k. absurd (cc)) d;
  on_read = λ s e f d. defined_plain item.Read s _ (fine_keeps.on_read s e f d.fine) refl refl (λ n k. absurd (cc)) d;
  on_function = λ s name p e d. defined_ended s (folded name) (body_end s.names (inside_at s p)) e d.fine (fine_function_body s p d.fine)
      (fine_keeps.on_function s name p e d.fine) (body_items (InBody s.names) (body_message s.names) s.names (inside_at s p) (d.functions, d.before));
  on_execute = λ s name c r e d. defined_plain (item.Execute c) s _ (fine_keeps.on_execute s name c r e d.fine) refl refl
      (executed_there s name c e d.functions) d;
  on_iterate = λ s name c r e d. defined_plain (item.Iterate c) s _ (fine_keeps.on_iterate s name c r e d.fine) refl refl
      (executed_there s name c e d.functions) d;
  on_reverse = λ s name c r e d. defined_plain (item.Reverse c) s _ (fine_keeps.on_reverse s name c r e d.fine) refl refl
      (executed_there s name c e d.functions) d;
  on_sort = λ s r d. defined_plain item.Sort s _ (fine_keeps.on_sort s r d.fine) refl refl (λ n k. absurd (cc)) d;
  on_integers = λ s d. defined_plain item.Integers s _ (fine_keeps.on_integers s d.fine) refl refl (λ n k. absurd (cc)) d;
  on_strings = λ s d. defined_plain item.Strings s _ (fine_keeps.on_strings s d.fine) refl refl (λ n k. absurd (cc)) d;
  on_macro = λ s name text r e d. defined_plain item.Macro s _ (fine_keeps.on_macro s name text r e d.fine) refl refl (λ n k. absurd (cc)) d;
}

-- before a style no name names a function of it
no_function : (file name : List ℕ) (n : ℕ) → named_lower (unread_style file predefined).names name ≡ Some (User n) → ⊥
no_function file name n e =
    let l : n < length (unread_style file predefined).bodies = (refers_within (unread_style file predefined) (fine_start file)).names name (User n) e in
    absurd (omega arith)

defined_start : (file : List ℕ) → Defined (unread_style file predefined)
defined_start file = record { fine = fine_start file; functions = λ name n e. absurd (no_function file name n e); before = λ x n k e f. absurd (cc) }

pub executed-law : ExecutedLaw
executed-law file text x number k e f = (kept-style Defined defined_keeps file text (defined_start file)).before x number k e f

pub ruleset executed_laws = (executed-law)
