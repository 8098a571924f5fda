-- The name of anything names it.
use Rattle.std.proofs.Common.{◌≡◌, ℕ, zero, suc, ◌-◌, ◌<◌, ◌≤◌, ◌⊎◌, inl, inr, Bool, true, cond, List, [], ◌∷◌, ◌++◌, length, refl, sym, ap, ◌∙◌, arith, Option}
use Rattle.std.proofs.Common.{None, Some}
use Rattle.std.specs.Prelude.{slice_get, slice_index_or, replicate, codes}
use Rattle.std.specs.Option.{option_or}
use Rattle.std.specs.Str.{bytes_eq}
use Rattle.std.proofs.lemmas.Slice.Eq.{bytes_eq-Decides}
use Rattle.std.proofs.lemmas.Option.{slice_get-get_or, same_Some}
use Rattle.btx_text.specs.language.Keys.{folded}
use Rattle.btx_bst.specs.declared.built_in.BuiltIn.{BuiltIn}
use Rattle.btx_bst.specs.declared.built_in.BuiltIn.TheVariants.{Equals}
use Rattle.btx_bst.specs.declared.callee.Callee.{Callee}
use Rattle.btx_bst.specs.declared.callee.Callee.TheVariants.{User, Field, EntryInteger, EntryString, GlobalInteger, GlobalString}
use Rattle.btx_bst.specs.declared.callee.Callee.TheVariants as callee
use Rattle.btx_bst.specs.declared.callee.Kind.{Kind}
use Rattle.btx_bst.specs.declared.callee.Kind.TheVariants as kind
use Rattle.btx_bst.specs.language.BuiltIns.{built_ins, built_in_of, built_in_name}
use Rattle.btx_bst.specs.language.Names.{Names, named_lower, name_of, with_name, with_function}
use Rattle.btx_bst.specs.language.Style.{Style}
use Rattle.btx_bst.specs.language.Lists.{opening}
use Rattle.btx_bst.specs.language.BodyText.{BodyEnd, Whole, Broken, body_end}
use Rattle.btx_bst.specs.language.Commands.{function_ended, inside_at}
use Rattle.btx_bst.specs.language.Predefined.{predefined}
use Rattle.btx_bst.specs.language.StyleText.{style_of}
use Rattle.btx_bst.specs.laws.Meanings.{HasName, MeaningsLaw, OneMeaningLaw}
use Rattle.btx_bst.proofs.TableLemmas.{IsFurther}
use Rattle.btx_bst.proofs.FurtherLemmas.{further-function, further-field, further-entry_integer, further-entry_string, further-global_integer}
use Rattle.btx_bst.proofs.FurtherLemmas.{further-global_string, named-pad, padded-length}
use Rattle.btx_bst.proofs.ItemLemmas.{push_cases}
use Rattle.btx_bst.proofs.KeepLemmas.{Keeps, kept-style, kept_list}
use Rattle.btx_bst.proofs.ReferenceLemmas.{FineEnd, FineStyle, fine_keeps, fine_start, fine_function_body}
use Rattle.btx_bst.specs.refinement.Names.{callee_of, names_of_kind, padded}

-- ---- lists of names

-- each name of a list is found by what looks names up
abbrev pub Found : (List ℕ → Option Callee) → (ℕ → Callee) → List (List ℕ) → Type 0
Found look f xs = (k : ℕ) (m : List ℕ) → slice_get xs k ≡ Some m → look m ≡ Some (f k)

abbrev pub FoundFunctions : (List ℕ → Option Callee) → List (Option (List ℕ)) → Type 0
FoundFunctions look xs = (k : ℕ) (m : List ℕ) → slice_get xs k ≡ Some (Some m) → look m ≡ Some (User k)

-- each name is found
pub record FoundBy (look : List ℕ → Option Callee) (a : Names) : Type 0 where
  pub of_functions : FoundFunctions look a.functions
  pub of_fields : Found look Field a.fields
  pub of_entry_integers : Found look EntryInteger a.entry_integers
  pub of_entry_strings : Found look EntryString a.entry_strings
  pub of_global_integers : Found look GlobalInteger a.global_integers
  pub of_global_strings : Found look GlobalString a.global_strings

abbrev pub AllFound : Names → Type 0
AllFound a = FoundBy (named_lower a) a

-- what finds what another look-up finds
abbrev FindsToo : (List ℕ → Option Callee) → (List ℕ → Option Callee) → Type 0
FindsToo look later = (m : List ℕ) (c : Callee) → look m ≡ Some c → later m ≡ Some c

found_too : (look later : List ℕ → Option Callee) (a : Names) → FindsToo look later → FoundBy look a → FoundBy later a
found_too look later a g t = record {
  of_functions = λ k m e. g m (User k) (t.of_functions k m e);
  of_fields = λ k m e. g m (Field k) (t.of_fields k m e);
  of_entry_integers = λ k m e. g m (EntryInteger k) (t.of_entry_integers k m e);
  of_entry_strings = λ k m e. g m (EntryString k) (t.of_entry_strings k m e);
  of_global_integers = λ k m e. g m (GlobalInteger k) (t.of_global_integers k m e);
  of_global_strings = λ k m e. g m (GlobalString k) (t.of_global_strings k m e);
}

-- ---- a further name

further_finds_too : (a b : Names) (name : List ℕ) (c : Callee) → IsFurther a b name c → FindsToo (named_lower a) (named_lower b)
further_finds_too a b name c g m d e = g m ∙ ap (λ (o : Option Callee). option_or o (cond (bytes_eq m name) (Some c) None)) e

same : (name : List ℕ) → bytes_eq name name ≡ true
same name = (bytes_eq-Decides name name).1 refl

new_look : (a b : Names) (name m : List ℕ) (c d : Callee) → IsFurther a b name c → named_lower a name ≡ None → name ≡ m → c ≡ d → named_lower b m ≡ Some d
new_look a b name m c d g none e f =
    ap (named_lower b) (sym e) ∙ g name ∙ ap (λ (o : Option Callee). option_or o (cond (bytes_eq name name) (Some c) None)) none
    ∙ ap (λ (t : Bool). cond t (Some c) None) (same name) ∙ ap (λ (x : Callee). Some x) f

found_push : (a b : Names) (f : ℕ → Callee) (xs : List (List ℕ)) (name : List ℕ) → IsFurther a b name (f (length xs)) → named_lower a name ≡ None
    → Found (named_lower a) f xs → Found (named_lower b) f (xs ++ name ∷ [])
found_push a b f xs name g none t k m e = at (push_cases xs name k m e) where
  at : (slice_get xs k ≡ Some m) ⊎ ((k ≡ length xs) × (name ≡ m)) → named_lower b m ≡ Some (f k)
  at (inl h) = further_finds_too a b name (f (length xs)) g m (f k) (t k m h)
  at (inr h) = new_look a b name m (f (length xs)) (f k) g none h.1 (ap f (sym h.0))

functions_push : (a b : Names) (xs : List (Option (List ℕ))) (name : List ℕ) (n : ℕ) → n ≡ length xs → IsFurther a b name (User n) → named_lower a name ≡ None
    → FoundFunctions (named_lower a) xs → FoundFunctions (named_lower b) (xs ++ Some name ∷ [])
functions_push a b xs name n l g none t k m e = at (push_cases xs (Some name) k (Some m) e) where
  at : (slice_get xs k ≡ Some (Some m)) ⊎ ((k ≡ length xs) × (◌≡◌ {A = Option (List ℕ)} (Some name) (Some m))) → named_lower b m ≡ Some (User k)
  at (inl h) = further_finds_too a b name (User n) g m (User k) (t k m h)
  at (inr h) = new_look a b name m (User n) (User k) g none (same_Some name m h.1) (ap User (l ∙ sym h.0))

pub pad_cases : (xs : List (Option (List ℕ))) (c k : ℕ) (m : List ℕ) → slice_get (xs ++ replicate c None) k ≡ Some (Some m) → slice_get xs k ≡ Some (Some m)
pad_cases [] zero k m e = e
pad_cases [] (suc c) zero m e = absurd (cc)
pad_cases [] (suc c) (suc k) m e = pad_cases [] c k m e
pad_cases (x ∷ xs) c zero m e = e
pad_cases (x ∷ xs) c (suc k) m e = pad_cases xs c k m e

-- ---- names

further_name : (a : Names) (k : Kind) (name : List ℕ) → named_lower a name ≡ None
    → IsFurther a (with_name k name a) name (callee_of k (length (names_of_kind k a)))
further_name a kind.Field name none = further-field a name (length a.fields) refl none
further_name a kind.EntryInteger name none = further-entry_integer a name (length a.entry_integers) refl none
further_name a kind.EntryString name none = further-entry_string a name (length a.entry_strings) refl none
further_name a kind.GlobalInteger name none = further-global_integer a name (length a.global_integers) refl none
further_name a kind.GlobalString name none = further-global_string a name (length a.global_strings) refl none

found_of : (a : Names) (k : Kind) → AllFound a → Found (named_lower a) (callee_of k) (names_of_kind k a)
found_of a kind.Field t = t.of_fields
found_of a kind.EntryInteger t = t.of_entry_integers
found_of a kind.EntryString t = t.of_entry_strings
found_of a kind.GlobalInteger t = t.of_global_integers
found_of a kind.GlobalString t = t.of_global_strings

-- a list of a kind with a further name, in place of the old one
with_found : (look : List ℕ → Option Callee) (a : Names) (k : Kind) (name : List ℕ) → FoundBy look a
    → Found look (callee_of k) (names_of_kind k a ++ name ∷ []) → FoundBy look (with_name k name a)
with_found look a kind.Field name t f = assumption (t, f)
with_found look a kind.EntryInteger name t f = assumption (t, f)
with_found look a kind.EntryString name t f = assumption (t, f)
with_found look a kind.GlobalInteger name t f = assumption (t, f)
with_found look a kind.GlobalString name t f = assumption (t, f)

-- functions in place of the old ones
with_functions : (look : List ℕ → Option Callee) (a : Names) (functions : List (Option (List ℕ))) → FoundBy look a → FoundFunctions look functions
    → FoundBy look (record a { functions = functions })
with_functions look a functions t f = assumption (t, f)

found_name : (a : Names) (k : Kind) (name : List ℕ) → named_lower a name ≡ None → AllFound a → AllFound (with_name k name a)
found_name a k name none t =
    let b = with_name k name a in
    let f = further_name a k name none in
    let before = found_too (named_lower a) (named_lower b) a (further_finds_too a b name (callee_of k (length (names_of_kind k a))) f) t in
    with_found (named_lower b) a k name before (found_push a b (callee_of k) (names_of_kind k a) name f none (found_of a k t))

found_padded : (a : Names) (n : ℕ) → AllFound a → AllFound (record a { functions = padded n a.functions })
found_padded a n t =
    let c = n - length a.functions in
    let b : Names = record a { functions = padded n a.functions } in
    let before = found_too (named_lower a) (named_lower b) a (λ m d e. named-pad a c m ∙ e) t in
    with_functions (named_lower b) a (padded n a.functions) before (λ k m e. before.of_functions k m (pad_cases a.functions c k m e))

found_after : (a : Names) (n : ℕ) (name : List ℕ) → n ≡ length a.functions → named_lower a name ≡ None → AllFound a
    → AllFound (record a { functions = a.functions ++ Some name ∷ [] })
found_after a n name l none t =
    let b : Names = record a { functions = a.functions ++ Some name ∷ [] } in
    let g = further-function a name n l none in
    let before = found_too (named_lower a) (named_lower b) a (further_finds_too a b name (User n) g) t in
    with_functions (named_lower b) a b.functions before (functions_push a b a.functions name n l g none t.of_functions)

found_function : (a : Names) (n : ℕ) (name : List ℕ) → length a.functions ≤ n → named_lower a name ≡ None → AllFound a → AllFound (with_function n name a)
found_function a n name l none t =
    found_after (record a { functions = padded n a.functions }) n name (sym (padded-length n a.functions l)) (named-pad a (n - length a.functions) name ∙ none)
    (found_padded a n t)

-- ---- styles

abbrev pub Clear : Style → Type 0
Clear s = FineStyle s × AllFound s.names

clear_ended : (s : Style) (name : List ℕ) (r : BodyEnd) → named_lower s.names name ≡ None → Clear s → FineEnd s.names (length s.bodies) r
    → AllFound (function_ended s name r).style.names
clear_ended s name (Broken c i) none h f = h.1
clear_ended s name (Whole i) none h f =
    let l = h.0.no_later in
    let g = f.grown in
    found_function s.names (length i.bodies) name (omega arith) none h.1

clear_keeps : Keeps Clear
clear_keeps = record {
  on_message = λ c line s h. (fine_keeps.on_message c line s h.0, h.1);
  on_names = λ s k p h. (fine_keeps.on_names s k p h.0, kept_list AllFound (λ k a name new t. found_name a k (folded name) new t) k s.names (opening p) h.1);
  on_entry = λ s e h. (fine_keeps.on_entry s e h.0, h.1);
  on_read = λ s e g h. (fine_keeps.on_read s e g h.0, h.1);
  on_function = λ s name p e h. (
    fine_keeps.on_function s name p e h.0,
    clear_ended s (folded name) (body_end s.names (inside_at s p)) e h
        (fine_function_body s p h.0),
  );
  on_execute = λ s name c r e h. (fine_keeps.on_execute s name c r e h.0, h.1);
  on_iterate = λ s name c r e h. (fine_keeps.on_iterate s name c r e h.0, h.1);
  on_reverse = λ s name c r e h. (fine_keeps.on_reverse s name c r e h.0, h.1);
  on_sort = λ s r h. (fine_keeps.on_sort s r h.0, h.1);
  on_integers = λ s h. (fine_keeps.on_integers s h.0, h.1);
  on_strings = λ s h. (fine_keeps.on_strings s h.0, h.1);
  on_macro = λ s name text r e h. (fine_keeps.on_macro s name text r e h.0, h.1);
}

-- the names before a style
found_one : (f : ℕ → Callee) (name : List ℕ) → named_lower predefined name ≡ Some (f 0) → Found (named_lower predefined) f (name ∷ [])
found_one f name h zero m e = ap (named_lower predefined) (sym (same_Some name m e)) ∙ h
found_one f name h (suc k) m e = absurd (cc)

found_two : (f : ℕ → Callee) (first second : List ℕ) → named_lower predefined first ≡ Some (f 0) → named_lower predefined second ≡ Some (f 1)
    → Found (named_lower predefined) f (first ∷ second ∷ [])
found_two f first second h g zero m e = ap (named_lower predefined) (sym (same_Some first m e)) ∙ h
found_two f first second h g (suc zero) m e = ap (named_lower predefined) (sym (same_Some second m e)) ∙ g
found_two f first second h g (suc (suc k)) m e = absurd (cc)

found_predefined : AllFound predefined
unfolding named_lower built_in_of built_ins
found_predefined = record {
  of_functions = λ k m e. absurd (cc);
  of_fields = found_one Field (codes "crossref") refl;
  of_entry_integers = λ k m e. absurd (cc);
  of_entry_strings = found_one EntryString (codes "sort.key$") refl;
  of_global_integers = found_two GlobalInteger (codes "entry.max$") (codes "global.max$") refl refl;
  of_global_strings = λ k m e. absurd (cc);
}

pub clear-style : (file text : List ℕ) → Clear (style_of file text)
clear-style file text = kept-style Clear clear_keeps file text (fine_start file, found_predefined)

-- ---- the name of anything

built_in_word : (b : BuiltIn) → built_in_of (built_in_name b) ≡ Some b
unfolding built_in_of built_ins
built_in_word Equals = refl
built_in_word _ = refl

word_named : (a : Names) (b : BuiltIn) → named_lower a (built_in_name b) ≡ Some (callee.BuiltIn b)
unfolding named_lower
word_named a b = rw (built_in_word b) refl

at_number : (look : List ℕ → Option Callee) (f : ℕ → Callee) (xs : List (List ℕ)) (k : ℕ) → Found look f xs → k < length xs → look (slice_index_or xs k [])
    ≡ Some (f k)
at_number look f xs k t l = t k (slice_index_or xs k []) (slice_get-get_or xs k [] l)

function_there : (xs : List (Option (List ℕ))) (k : ℕ) (m : List ℕ) → slice_index_or xs k None ≡ Some m → slice_get xs k ≡ Some (Some m)
function_there [] k m e = absurd (cc)
function_there (x ∷ xs) zero m e = ap (λ (o : Option (List ℕ)). Some o) e
function_there (x ∷ xs) (suc k) m e = function_there xs k m e

meaning : (a : Names) (c : Callee) → AllFound a → HasName a c → named_lower a (name_of a c) ≡ Some c
meaning a (callee.BuiltIn b) t h = word_named a b
meaning a (User k) t h = rw h.1 (t.of_functions k h.0 (function_there a.functions k h.0 h.1))
meaning a (Field k) t h = at_number (named_lower a) Field a.fields k t.of_fields h
meaning a (EntryInteger k) t h = at_number (named_lower a) EntryInteger a.entry_integers k t.of_entry_integers h
meaning a (EntryString k) t h = at_number (named_lower a) EntryString a.entry_strings k t.of_entry_strings h
meaning a (GlobalInteger k) t h = at_number (named_lower a) GlobalInteger a.global_integers k t.of_global_integers h
meaning a (GlobalString k) t h = at_number (named_lower a) GlobalString a.global_strings k t.of_global_strings h

pub meanings : MeaningsLaw
meanings file text c h = meaning (style_of file text).names c (clear-style file text).1 h

pub one-meaning : OneMeaningLaw
one-meaning file text a b h k e =
    let names = (style_of file text).names in
    same_Some a b (sym (meanings file text a h) ∙ ap (named_lower names) e ∙ meanings file text b k)

pub ruleset meaning_laws = (meanings, one-meaning)
