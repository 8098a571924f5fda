-- How many functions a style has, and how many stand before READ.
use Rattle.std.proofs.Common.{◌≡◌, ℕ, suc, Bool, true, false, cond, List, [], ◌∷◌, ◌++◌, length, refl, sym, ap, ◌∙◌, arith, Option, None, Some}
use Rattle.std.specs.Option.{option_or}
use Rattle.std.specs.Prelude.{is_some}
use Rattle.std.specs.List.{fold}
use Rattle.std.proofs.lemmas.List.{length-append}
use Rattle.std.proofs.lemmas.List.Sums.{fold-append}
use Rattle.btx_text.specs.language.Keys.{folded}
use Rattle.btx_bst.specs.language.Complaints.{Complaint}
use Rattle.btx_bst.specs.language.Items.{Item}
use Rattle.btx_bst.specs.language.Items as item
use Rattle.btx_bst.specs.language.Style.{Style}
use Rattle.btx_bst.specs.language.BodyText.{BodyEnd, Whole, Broken, body_end}
use Rattle.btx_bst.specs.language.Commands.{function_ended, inside_at}
use Rattle.btx_bst.specs.laws.Counts.{functions_behind, functions_in, is_read, before_read_in, CountLaw, BeforeReadLaw}
use Rattle.btx_bst.specs.language.Predefined.{predefined}
use Rattle.btx_bst.specs.language.StyleText.{style_of}
use Rattle.btx_bst.proofs.BodyItemLemmas.{OnEnd, body_items}
use Rattle.btx_bst.proofs.KeepLemmas.{Keeps, kept-style}
use Rattle.btx_bst.specs.laws.StyleText.{unread_style}

-- ---- one more item

functions_push : (is : List Item) (x : Item) → functions_in (is ++ x ∷ []) ≡ functions_behind (functions_in is) x
functions_push is x = fold-append functions_behind 0 is (x ∷ [])

before_push : (n : ℕ) (is : List Item) (x : Item) → before_read_in n (is ++ x ∷ [])
    ≡ option_or (before_read_in n is) (before_read_in (fold functions_behind n is) (x ∷ []))
unfolding before_read_in
before_push n [] x = refl
before_push n (i ∷ is) x = at (is_read i) (before_push (functions_behind n i) is x) where
  at : (t : Bool) → before_read_in (functions_behind n i) (is ++ x ∷ []) ≡ option_or (before_read_in (functions_behind n i) is)
      (before_read_in (fold functions_behind (functions_behind n i) is) (x ∷ [])) → cond t (Some n) (before_read_in (functions_behind n i) (is ++ x ∷ []))
      ≡ option_or (cond t (Some n) (before_read_in (functions_behind n i) is)) (before_read_in (fold functions_behind (functions_behind n i) is) (x ∷ []))
  at true h = refl
  at false h = h

or_none : (o : Option ℕ) → option_or o None ≡ o
or_none None = refl
or_none (Some n) = refl

-- an item that isn't READ
before_plain : (is : List Item) (x : Item) → is_read x ≡ false → before_read_in 0 (is ++ x ∷ []) ≡ before_read_in 0 is
unfolding before_read_in
before_plain is x e =
    before_push 0 is x ∙ ap (λ (t : Bool). option_or (before_read_in 0 is) (cond t (Some (functions_in is)) None)) e ∙ or_none (before_read_in 0 is)

-- the first READ
before_first : (is : List Item) → before_read_in 0 is ≡ None → before_read_in 0 (is ++ item.Read ∷ []) ≡ Some (functions_in is)
unfolding before_read_in
before_first is e = before_push 0 is item.Read ∙ ap (λ (o : Option ℕ). option_or o (Some (functions_in is))) e

-- ---- styles

record Counted (count : ℕ) (before : Option ℕ) (is : List Item) : Type 0 where
  all : count ≡ functions_in is
  first : before ≡ before_read_in 0 is

abbrev IsCounted : Style → Type 0
IsCounted s = Counted (length s.bodies) s.before_read s.items

-- an item that neither is READ nor defines a function
counted_push : (n : ℕ) (b : Option ℕ) (is : List Item) (x : Item) → ((m : ℕ) → functions_behind m x ≡ m) → is_read x ≡ false → Counted n b is
    → Counted n b (is ++ x ∷ [])
counted_push n b is x e f h = record {
  all = h.all ∙ sym (e (functions_in is)) ∙ sym (functions_push is x);
  first = h.first ∙ sym (before_plain is x f);
}

counted_message : (n : ℕ) (b : Option ℕ) (c : Complaint) (line : ℕ) (is : List Item) → Counted n b is → Counted n b (is ++ item.Message c line ∷ [])
counted_message n b c line is h = counted_push n b is (item.Message c line) (λ m. refl) refl h

counted_read : (n : ℕ) (b : Option ℕ) (is : List Item) → b ≡ None → Counted n b is → Counted n (Some n) (is ++ item.Read ∷ [])
counted_read n b is e h = record {
  all = h.all ∙ sym (functions_push is item.Read);
  first = ap (λ (m : ℕ). Some m) h.all ∙ sym (before_first is (sym h.first ∙ e));
}

counted_ended : (s : Style) (name : List ℕ) (r : BodyEnd) → OnEnd (Counted (length s.bodies) s.before_read) r → IsCounted (function_ended s name r).style
counted_ended s name (Broken c i) h = h
counted_ended s name (Whole i) h = record {
  all = let e : length (i.bodies ++ i.tokens ∷ []) ≡ suc (length i.bodies) = omega (arith, length-append i.bodies (i.tokens ∷ [])) in e
      ∙ sym (functions_push i.items (item.Function (length i.bodies)));
  first = h.first ∙ sym (before_plain i.items (item.Function (length i.bodies)) refl);
}

no_read : (o : Option ℕ) → is_some o ≡ false → o ≡ None
no_read None e = refl
no_read (Some n) e = absurd (cc)

counted_keeps : Keeps IsCounted
counted_keeps = record {
  on_message = λ c line s h. counted_message (length s.bodies) s.before_read c line s.items h;
  on_names = λ s k p h. h;
  on_entry = λ s e h. counted_push (length s.bodies) s.before_read s.items item.Entry (λ m. refl) refl h;
  on_read = λ s e f h. counted_read (length s.bodies) s.before_read s.items (no_read s.before_read f) h;
  on_function = λ s name p e h. counted_ended s (folded name) (body_end s.names (inside_at s p))
      (body_items (Counted (length s.bodies) s.before_read) (counted_message (length s.bodies) s.before_read) s.names (inside_at s p) h);
  on_execute = λ s name c r e h. counted_push (length s.bodies) s.before_read s.items (item.Execute c) (λ m. refl) refl h;
  on_iterate = λ s name c r e h. counted_push (length s.bodies) s.before_read s.items (item.Iterate c) (λ m. refl) refl h;
  on_reverse = λ s name c r e h. counted_push (length s.bodies) s.before_read s.items (item.Reverse c) (λ m. refl) refl h;
  on_sort = λ s r h. counted_push (length s.bodies) s.before_read s.items item.Sort (λ m. refl) refl h;
  on_integers = λ s h. counted_push (length s.bodies) s.before_read s.items item.Integers (λ m. refl) refl h;
  on_strings = λ s h. counted_push (length s.bodies) s.before_read s.items item.Strings (λ m. refl) refl h;
  on_macro = λ s name text r e h. counted_push (length s.bodies) s.before_read s.items item.Macro (λ m. refl) refl h;
}

counted_start : (file : List ℕ) → IsCounted (unread_style file predefined)
unfolding before_read_in
counted_start file = record { all = refl; first = refl }

counted_style : (file text : List ℕ) → IsCounted (style_of file text)
counted_style file text = kept-style IsCounted counted_keeps file text (counted_start file)

pub counted : CountLaw
counted file text = (counted_style file text).all

pub counted-before : BeforeReadLaw
counted-before file text = (counted_style file text).first

pub ruleset count_laws = (counted, counted-before)
