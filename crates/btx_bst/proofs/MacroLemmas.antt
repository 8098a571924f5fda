-- Macros stand before READ, and each has one meaning.
use Rattle.std.proofs.Common.{◌≡◌, ℕ, ◌<◌, ◌⊎◌, inl, inr, Bool, true, false, cond, List, [], ◌∷◌, ◌++◌, length, refl, sym, ap, ◌∙◌, arith, Option, None, Some}
use Rattle.std.specs.Prelude.{slice_get}
use Rattle.std.specs.Option.{option_or}
use Rattle.std.specs.Str.{bytes_eq}
use Rattle.std.proofs.lemmas.Slice.Eq.{bytes_eq-Decides}
use Rattle.std.proofs.lemmas.Option.{slice_get_within}
use Rattle.btx_text.specs.language.Keys.{folded}
use Rattle.btx_bst.specs.language.Complaints.{Complaint}
use Rattle.btx_bst.specs.language.Items.{Item}
use Rattle.btx_bst.specs.language.Items as item
use Rattle.btx_bst.specs.language.Style.{Style}
use Rattle.btx_bst.specs.language.BodyText.{BodyEnd, Whole, Broken, body_end}
use Rattle.btx_bst.specs.language.Outcomes.{with_item}
use Rattle.btx_bst.specs.language.Commands.{function_ended, has_read, inside_at}
use Rattle.btx_bst.specs.language.Predefined.{predefined}
use Rattle.btx_bst.specs.language.StyleText.{style_of}
use Rattle.btx_bst.specs.laws.Order.{MacroLaw}
use Rattle.btx_bst.specs.laws.Macros.{MacroTextsLaw, OneMacroLaw}
use Rattle.btx_bst.proofs.ItemLemmas.{push_cases}
use Rattle.btx_bst.proofs.BodyItemLemmas.{OnEnd, body_items}
use Rattle.btx_bst.proofs.KeepLemmas.{Keeps, kept-style}
use Rattle.btx_bst.specs.laws.StyleText.{unread_style}
use Rattle.btx_bst.specs.laws.Names.{macro_lower}
use Rattle.btx_bst.specs.refinement.Names.{Macros}

-- ---- before READ

record Behind (taken : Bool) (is : List Item) : Type 0 where
  read_out : (k : ℕ) → slice_get is k ≡ Some item.Read → taken ≡ true
  before : (j k : ℕ) → slice_get is j ≡ Some item.Macro → slice_get is k ≡ Some item.Read → j < k

no_truth : (b : Bool) → b ≡ false → b ≡ true → ⊥
no_truth b e f = absurd (cc)

-- an item that isn't READ, and a MACRO only before READ
behind_push : (t : Bool) (is : List Item) (x : Item) → (x ≡ item.Read → ⊥) → (x ≡ item.Macro → t ≡ false) → Behind t is → Behind t (is ++ x ∷ [])
behind_push t is x no_read no_later h = record {
  read_out = λ k e. read_at k (push_cases is x k item.Read e);
  before = λ j k e f. at j k (push_cases is x j item.Macro e) (push_cases is x k item.Read f);
} where
  read_at : (k : ℕ) → (slice_get is k ≡ Some item.Read) ⊎ ((k ≡ length is) × (x ≡ item.Read)) → t ≡ true
  read_at k (inl e) = h.read_out k e
  read_at k (inr e) = absurd (no_read e.1)

  at : (j k : ℕ) → (slice_get is j ≡ Some item.Macro) ⊎ ((j ≡ length is) × (x ≡ item.Macro)) → (slice_get is k ≡ Some item.Read)
      ⊎ ((k ≡ length is) × (x ≡ item.Read)) → j < k
  at j k (inl e) (inl f) = h.before j k e f
  at j k (inr e) (inl f) = absurd (no_truth t (no_later e.1) (h.read_out k f))
  at j k e (inr f) = absurd (no_read f.1)

behind_read : (is : List Item) → Behind false is → Behind true (is ++ item.Read ∷ [])
behind_read is h = record {
  read_out = λ k e. refl;
  before = λ j k e f. at j k (push_cases is item.Read j item.Macro e) (push_cases is item.Read k item.Read f);
} where
  at : (j k : ℕ) → (slice_get is j ≡ Some item.Macro) ⊎ ((j ≡ length is) × (item.Read ≡ item.Macro)) → (slice_get is k ≡ Some item.Read)
      ⊎ ((k ≡ length is) × (item.Read ≡ item.Read)) → j < k
  at j k (inl e) (inl f) = h.before j k e f
  at j k (inl e) (inr f) = omega (arith, f.0, slice_get_within is j item.Macro e)
  at j k (inr e) f = absurd (let g = e.1 in cc)

-- ---- meanings

lookup_push : (macros : Macros) (name text m : List ℕ) → macro_lower (macros ++ (name, text) ∷ []) m
    ≡ option_or (macro_lower macros m) (cond (bytes_eq m name) (Some text) None)
lookup_push [] name text m = refl
lookup_push (e ∷ es) name text m = at (bytes_eq m e.0) (lookup_push es name text m) where
  at : (t : Bool) → macro_lower (es ++ (name, text) ∷ []) m ≡ option_or (macro_lower es m) (cond (bytes_eq m name) (Some text) None)
      → cond t (Some e.1) (macro_lower (es ++ (name, text) ∷ []) m) ≡ option_or (cond t (Some e.1) (macro_lower es m)) (cond (bytes_eq m name) (Some text) None)
  at true h = refl
  at false h = h

record Meant (macros : Macros) : Type 0 where
  texts : (k : ℕ) (name text : List ℕ) → slice_get macros k ≡ Some (name, text) → macro_lower macros name ≡ Some text
  one : (j k : ℕ) (name first second : List ℕ) → slice_get macros j ≡ Some (name, first) → slice_get macros k ≡ Some (name, second) → j ≡ k

abbrev Pair : Type 0
Pair = List ℕ × List ℕ

same : (name : List ℕ) → bytes_eq name name ≡ true
same name = (bytes_eq-Decides name name).1 refl

found_no_more : (o : Option (List ℕ)) (text : List ℕ) → o ≡ None → o ≡ Some text → ⊥
found_no_more o text e f = absurd (cc)

meant_push : (macros : Macros) (name text : List ℕ) → macro_lower macros name ≡ None → Meant macros → Meant (macros ++ (name, text) ∷ [])
meant_push macros name text none h = record {
  texts = λ k m meaning e. text_at k m meaning (push_cases macros (name, text) k (m, meaning) e);
  one = λ j k m a b e f. at j k m a b (push_cases macros (name, text) j (m, a) e) (push_cases macros (name, text) k (m, b) f);
} where
  text_at : (k : ℕ) (m meaning : List ℕ) → (slice_get macros k ≡ Some (m, meaning)) ⊎ ((k ≡ length macros) × (◌≡◌ {A = Pair} (name, text) (m, meaning)))
      → macro_lower (macros ++ (name, text) ∷ []) m ≡ Some meaning
  text_at k m meaning (inl e) =
      lookup_push macros name text m ∙ ap (λ (o : Option (List ℕ)). option_or o (cond (bytes_eq m name) (Some text) None)) (h.texts k m meaning e)
  text_at k m meaning (inr e) =
      let n : name ≡ m = ap (λ (p : Pair). p.0) e.1 in
      ap (macro_lower (macros ++ (name, text) ∷ [])) (sym n) ∙ lookup_push macros name text name
      ∙ ap (λ (o : Option (List ℕ)). option_or o (cond (bytes_eq name name) (Some text) None)) none
      ∙ ap (λ (t : Bool). cond t (Some text) None) (same name) ∙ ap (λ (p : Pair). Some p.1) e.1

  at : (j k : ℕ) (m a b : List ℕ) → (slice_get macros j ≡ Some (m, a)) ⊎ ((j ≡ length macros) × (◌≡◌ {A = Pair} (name, text) (m, a)))
      → (slice_get macros k ≡ Some (m, b)) ⊎ ((k ≡ length macros) × (◌≡◌ {A = Pair} (name, text) (m, b))) → j ≡ k
  at j k m a b (inl e) (inl f) = h.one j k m a b e f
  at j k m a b (inl e) (inr f) = absurd (found_no_more (macro_lower macros m) a (ap (macro_lower macros) (sym (ap (λ (p : Pair). p.0) f.1)) ∙ none)
      (h.texts j m a e))
  at j k m a b (inr e) (inl f) = absurd (found_no_more (macro_lower macros m) b (ap (macro_lower macros) (sym (ap (λ (p : Pair). p.0) e.1)) ∙ none)
      (h.texts k m b f))
  at j k m a b (inr e) (inr f) = e.0 ∙ sym f.0

-- ---- styles

abbrev InPlace : Style → Type 0
InPlace s = Behind (has_read s) s.items × Meant s.macros

place_push : (x : Item) (s : Style) → (x ≡ item.Read → ⊥) → (x ≡ item.Macro → has_read s ≡ false) → InPlace s → InPlace (with_item x s)
place_push x s no_read no_later h = (behind_push (has_read s) s.items x no_read no_later h.0, h.1)

place_ended : (s : Style) (name : List ℕ) (r : BodyEnd) → OnEnd (Behind (has_read s)) r → InPlace s → InPlace (function_ended s name r).style
place_ended s name (Broken c i) g h = (g, h.1)
place_ended s name (Whole i) g h = (behind_push (has_read s) i.items (item.Function (length i.bodies)) (λ k. absurd (cc)) (λ k. absurd (cc)) g, h.1)

behind_message : (t : Bool) (c : Complaint) (line : ℕ) (is : List Item) → Behind t is → Behind t (is ++ item.Message c line ∷ [])
behind_message t c line is h = behind_push t is (item.Message c line) (λ k. absurd (cc)) (λ k. absurd (cc)) h

place_keeps : Keeps InPlace
place_keeps = record {
  on_message = λ c line s h. (behind_message (has_read s) c line s.items h.0, h.1);
  on_names = λ s k p h. h;
  on_entry = λ s e h. place_push item.Entry (record s { has_entry = true }) (λ k. absurd (cc)) (λ k. absurd (cc)) h;
  on_read = λ s e f h. (behind_read s.items (rw f at h.0), h.1);
  on_function = λ s name p e h. place_ended s (folded name) (body_end s.names (inside_at s p))
      (body_items (Behind (has_read s)) (behind_message (has_read s)) s.names (inside_at s p) h.0) h;
  on_execute = λ s name c r e h. place_push (item.Execute c) s (λ k. absurd (cc)) (λ k. absurd (cc)) h;
  on_iterate = λ s name c r e h. place_push (item.Iterate c) s (λ k. absurd (cc)) (λ k. absurd (cc)) h;
  on_reverse = λ s name c r e h. place_push (item.Reverse c) s (λ k. absurd (cc)) (λ k. absurd (cc)) h;
  on_sort = λ s r h. place_push item.Sort s (λ k. absurd (cc)) (λ k. absurd (cc)) h;
  on_integers = λ s h. place_push item.Integers s (λ k. absurd (cc)) (λ k. absurd (cc)) h;
  on_strings = λ s h. place_push item.Strings s (λ k. absurd (cc)) (λ k. absurd (cc)) h;
  on_macro = λ s name text r e h. (behind_push (has_read s) s.items item.Macro (λ k. absurd (cc)) (λ k. r) h.0, meant_push s.macros (folded name) text e h.1);
}

place_start : (file : List ℕ) → InPlace (unread_style file predefined)
place_start file = (
  record { read_out = λ k e. absurd (cc); before = λ j k e f. absurd (cc) },
  record { texts = λ k name text e. absurd (cc); one = λ j k name a b e f. absurd (cc) },
)

in_place : (file text : List ℕ) → InPlace (style_of file text)
in_place file text = kept-style InPlace place_keeps file text (place_start file)

pub macro-law : MacroLaw
macro-law file text j k e f = (in_place file text).0.before j k e f

pub macro-texts : MacroTextsLaw
macro-texts file text k name meaning e = (in_place file text).1.texts k name meaning e

pub one-macro : OneMacroLaw
one-macro file text j k name a b e f = (in_place file text).1.one j k name a b e f

pub ruleset macro_laws = (macro-texts, one-macro)

pub ruleset macro_order = (macro-law)
