-- The order of a style's commands.
use Rattle.std.proofs.Common.{◌≡◌, ℕ, ◌<◌, ◌⊎◌, inl, inr, Bool, true, false, List, [], ◌∷◌, ◌++◌, length, refl, sym, ap, ◌∙◌, arith, None, Some}
use Rattle.std.specs.Prelude.{slice_get}
use Rattle.std.proofs.lemmas.Option.{slice_get_within}
use Rattle.btx_text.specs.language.Keys.{folded}
use Rattle.btx_bst.specs.language.Complaints.{Complaint}
use Rattle.btx_bst.specs.language.Items.{Item}
use Rattle.btx_bst.specs.language.Items as item
use Rattle.btx_bst.specs.language.Style.{Style}
use Rattle.btx_bst.specs.language.BodyText.{BodyEnd, Whole, Broken, body_end}
use Rattle.btx_bst.specs.language.Outcomes.{with_item}
use Rattle.btx_bst.specs.language.Commands.{function_ended, has_read, inside_at}
use Rattle.btx_bst.specs.language.Predefined.{predefined}
use Rattle.btx_bst.specs.language.StyleText.{style_of}
use Rattle.btx_bst.specs.laws.Order.{IsOnce, needs, OnceLaw, OrderLaw}
use Rattle.btx_bst.proofs.BodyItemLemmas.{OnEnd, body_items}
use Rattle.btx_bst.proofs.ItemLemmas.{There, there_more, there_last, there_cases, push_cases, push_left}
use Rattle.btx_bst.proofs.KeepLemmas.{Keeps, kept-style}
use Rattle.btx_bst.specs.laws.StyleText.{unread_style}

record Ordered (entered taken : Bool) (is : List Item) : Type 0 where
  entry_in : entered ≡ true → There item.Entry is
  entry_out : There item.Entry is → entered ≡ true
  read_in : taken ≡ true → There item.Read is
  read_out : There item.Read is → taken ≡ true
  once : (i : Item) (j k : ℕ) → IsOnce i → slice_get is j ≡ Some i → slice_get is k ≡ Some i → j ≡ k
  order : (i first : Item) (k : ℕ) → slice_get is k ≡ Some i → needs i ≡ Some first → (j : ℕ) × (j < k) × (slice_get is j ≡ Some first)

-- one more item, which is new if it takes effect once
once_push : (is : List Item) (x : Item) → (IsOnce x → There x is → ⊥)
    → ((i : Item) (j k : ℕ) → IsOnce i → slice_get is j ≡ Some i → slice_get is k ≡ Some i → j ≡ k) → (i : Item) (j k : ℕ) → IsOnce i
    → slice_get (is ++ x ∷ []) j ≡ Some i → slice_get (is ++ x ∷ []) k ≡ Some i → j ≡ k
once_push is x fresh once i j k o e f = at (push_cases is x j i e) (push_cases is x k i f) where
  at : (slice_get is j ≡ Some i) ⊎ ((j ≡ length is) × (x ≡ i)) → (slice_get is k ≡ Some i) ⊎ ((k ≡ length is) × (x ≡ i)) → j ≡ k
  at (inl a) (inl b) = once i j k o a b
  at (inl a) (inr b) = absurd (fresh (rw b.1 o) (j, rw b.1 a))
  at (inr a) (inl b) = absurd (fresh (rw a.1 o) (k, rw a.1 b))
  at (inr a) (inr b) = a.0 ∙ sym b.0

order_push : (is : List Item) (x : Item) → ((first : Item) → needs x ≡ Some first → There first is)
    → ((i first : Item) (k : ℕ) → slice_get is k ≡ Some i → needs i ≡ Some first → (j : ℕ) × (j < k) × (slice_get is j ≡ Some first)) → (i first : Item) (k : ℕ)
    → slice_get (is ++ x ∷ []) k ≡ Some i → needs i ≡ Some first → (j : ℕ) × (j < k) × (slice_get (is ++ x ∷ []) j ≡ Some first)
order_push is x need order i first k e f = at (push_cases is x k i e) where
  at : (slice_get is k ≡ Some i) ⊎ ((k ≡ length is) × (x ≡ i)) → (j : ℕ) × (j < k) × (slice_get (is ++ x ∷ []) j ≡ Some first)
  at (inl a) = let h = order i first k a f in (h.0, h.1, push_left is x h.0 first h.2)
  at (inr a) =
      let g : needs x ≡ Some first = ap needs a.1 ∙ f in
      let h = need first g in
      let l = slice_get_within is h.0 first h.1 in
      (h.0, omega (arith, a.0, l), push_left is x h.0 first h.1)

-- an item that is neither ENTRY nor READ
ordered_push : (e t : Bool) (is : List Item) (x : Item) → ((item.Entry ≡ x) → ⊥) → ((item.Read ≡ x) → ⊥) → (IsOnce x → ⊥)
    → ((first : Item) → needs x ≡ Some first → There first is) → Ordered e t is → Ordered e t (is ++ x ∷ [])
ordered_push e t is x no_entry no_read no_once need h = record {
  entry_in = λ k. there_more item.Entry x is (h.entry_in k);
  entry_out = λ k. entry_at (there_cases item.Entry x is k);
  read_in = λ k. there_more item.Read x is (h.read_in k);
  read_out = λ k. read_at (there_cases item.Read x is k);
  once = once_push is x (λ o k. no_once o) h.once;
  order = order_push is x need h.order;
} where
  entry_at : There item.Entry is ⊎ (x ≡ item.Entry) → e ≡ true
  entry_at (inl k) = h.entry_out k
  entry_at (inr k) = absurd (no_entry (sym k))

  read_at : There item.Read is ⊎ (x ≡ item.Read) → t ≡ true
  read_at (inl k) = h.read_out k
  read_at (inr k) = absurd (no_read (sym k))

ordered_message : (e t : Bool) (is : List Item) (c : Complaint) (line : ℕ) → Ordered e t is → Ordered e t (is ++ item.Message c line ∷ [])
ordered_message e t is c line h = ordered_push e t is (item.Message c line) (λ k. absurd (cc)) (λ k. absurd (cc)) (λ o. o) (λ first k. absurd (cc)) h

-- ---- styles

abbrev InOrder : Style → Type 0
InOrder s = Ordered s.has_entry (has_read s) s.items

order_ended : (s : Style) (name : List ℕ) (r : BodyEnd) → OnEnd (Ordered s.has_entry (has_read s)) r → InOrder (function_ended s name r).style
order_ended s name (Broken c i) h = h
order_ended s name (Whole i) h = ordered_push s.has_entry (has_read s) i.items (item.Function (length i.bodies)) (λ k. absurd (cc)) (λ k. absurd (cc)) (λ o. o)
    (λ first k. absurd (cc)) h

no_truth : (b : Bool) → b ≡ false → b ≡ true → ⊥
no_truth b e f = absurd (cc)

order_entry : (s : Style) → s.has_entry ≡ false → InOrder s → InOrder (with_item item.Entry (record s { has_entry = true }))
order_entry s e h = record {
  entry_in = λ k. there_last item.Entry s.items;
  entry_out = λ k. refl;
  read_in = λ k. there_more item.Read item.Entry s.items (h.read_in k);
  read_out = λ k. read_at (there_cases item.Read item.Entry s.items k);
  once = once_push s.items item.Entry (λ o k. no_truth s.has_entry e (h.entry_out k)) h.once;
  order = order_push s.items item.Entry (λ first k. absurd (cc)) h.order;
} where
  read_at : There item.Read s.items ⊎ (item.Entry ≡ item.Read) → has_read s ≡ true
  read_at (inl k) = h.read_out k
  read_at (inr k) = absurd (cc)

order_read : (s : Style) → s.has_entry ≡ true → has_read s ≡ false → InOrder s
    → InOrder (with_item item.Read (record s { before_read = Some (length s.bodies) }))
order_read s e f h = record {
  entry_in = λ k. there_more item.Entry item.Read s.items (h.entry_in k);
  entry_out = λ k. e;
  read_in = λ k. there_last item.Read s.items;
  read_out = λ k. refl;
  once = once_push s.items item.Read (λ o k. no_truth (has_read s) f (h.read_out k)) h.once;
  order = order_push s.items item.Read (λ first k. let g : item.Entry ≡ first = cc in rw (sym g) (h.entry_in e)) h.order;
}

-- an item that needs READ
needs_read : (x : Item) (s : Style) → needs x ≡ Some item.Read → has_read s ≡ true → InOrder s → (first : Item) → needs x ≡ Some first → There first s.items
needs_read x s n r h first k = let g : item.Read ≡ first = cc in rw (sym g) (h.read_in r)

order_plain : (x : Item) (s : Style) → ((item.Entry ≡ x) → ⊥) → ((item.Read ≡ x) → ⊥) → (IsOnce x → ⊥) → needs x ≡ None → InOrder s → InOrder (with_item x s)
order_plain x s a b c d h = ordered_push s.has_entry (has_read s) s.items x a b c (λ first k. absurd (cc)) h

order_keeps : Keeps InOrder
order_keeps = record {
  on_message = λ c line s h. ordered_message s.has_entry (has_read s) s.items c line h;
  on_names = λ s k p h. h;
  on_entry = order_entry;
  on_read = order_read;
  on_function = λ s name p e h. order_ended s (folded name) (body_end s.names (inside_at s p))
      (body_items (Ordered s.has_entry (has_read s)) (λ c line is k. ordered_message s.has_entry (has_read s) is c line k) s.names (inside_at s p) h);
  on_execute = λ s name c r e h. ordered_push s.has_entry (has_read s) s.items (item.Execute c) (λ k. absurd (cc)) (λ k. absurd (cc)) (λ o. o)
      (needs_read (item.Execute c) s refl r h) h;
  on_iterate = λ s name c r e h. ordered_push s.has_entry (has_read s) s.items (item.Iterate c) (λ k. absurd (cc)) (λ k. absurd (cc)) (λ o. o)
      (needs_read (item.Iterate c) s refl r h) h;
  on_reverse = λ s name c r e h. ordered_push s.has_entry (has_read s) s.items (item.Reverse c) (λ k. absurd (cc)) (λ k. absurd (cc)) (λ o. o)
      (needs_read (item.Reverse c) s refl r h) h;
  on_sort = λ s r h. ordered_push s.has_entry (has_read s) s.items item.Sort (λ k. absurd (cc)) (λ k. absurd (cc)) (λ o. o) (needs_read item.Sort s refl r h) h;
  on_integers = λ s h. order_plain item.Integers s (λ k. absurd (cc)) (λ k. absurd (cc)) (λ o. o) refl h;
  on_strings = λ s h. order_plain item.Strings s (λ k. absurd (cc)) (λ k. absurd (cc)) (λ o. o) refl h;
  on_macro = λ s name text r e h. order_plain item.Macro (record s { macros = s.macros ++ (folded name, text) ∷ [] }) (λ k. absurd (cc)) (λ k. absurd (cc))
      (λ o. o) refl h;
}

order_start : (file : List ℕ) → InOrder (unread_style file predefined)
order_start file = record {
  entry_in = λ k. absurd (cc);
  entry_out = λ k. absurd (nothing item.Entry k);
  read_in = λ k. absurd (cc);
  read_out =
      λ k. absurd (nothing item.Read k);
  once = λ i j k o e f. absurd (cc);
  order = λ i first k e f. absurd (cc);
} where
  nothing : (i : Item) → There i [] → ⊥
  nothing i h = let e = h.1 in absurd (cc)

order_style : (file text : List ℕ) → InOrder (style_of file text)
order_style file text = kept-style InOrder order_keeps file text (order_start file)

pub once-law : OnceLaw
once-law file text i j k o e f = (order_style file text).once i j k o e f

pub order-law : OrderLaw
order-law file text i first k e f = (order_style file text).order i first k e f

pub ruleset order_laws = (once-law, order-law)
