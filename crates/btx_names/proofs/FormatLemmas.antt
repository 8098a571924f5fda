-- Lemmas on the items of a format.
use Rattle.std.proofs.Common.{◌≡◌, ℕ, zero, suc, ◌+◌, ◌-◌, ◌<◌, true, false, eqb, List, [], ◌∷◌, length, take, drop, refl, ◌∙◌, ap, arith}
use Rattle.std.proofs.lemmas.List.{drop_all, drop-drop, length-drop, nil_from_length, take_rest}
use Rattle.std.proofs.lemmas.Bool.{ne_eqb, eq-eqb}
use Rattle.btx_names.specs.declared.runs.Stop.TheVariants.{Closing, Brace}
use Rattle.btx_names.specs.language.Runs.{run_len}
use Rattle.btx_names.specs.language.Formats.{FormatItem, Literal, Illegal, group_item, inside_item, item_at, item_rest, items_from, items_of}
use Rattle.btx_text.specs.language.Elements.{depth_after}
use Rattle.btx_names.proofs.RunLemmas.{run_len-le}

items_from-skip : (skip : ℕ) (s : List ℕ) → items_from skip s ≡ items_from 0 (drop skip s)
unfolding items_from
items_from-skip zero s = refl
items_from-skip (suc skip) [] = refl
items_from-skip (suc skip) (b ∷ bs) = items_from-skip skip bs

items_of-cons : (b : ℕ) (bs : List ℕ) → items_of (b ∷ bs) ≡ item_at b bs ∷ items_of (drop (item_rest b bs) bs)
unfolding items_of items_from
items_of-cons b bs = ap (λ (items : List FormatItem). item_at b bs ∷ items) (items_from-skip (item_rest b bs) bs)

pub items_of-nil : (s : List ℕ) → length s ≡ 0 → items_of s ≡ []
unfolding items_of items_from
items_of-nil [] h = refl
items_of-nil (b ∷ bs) h = absurd (omega arith)

pub items_of-stray : (s bs : List ℕ) (b : ℕ) → s ≡ b ∷ bs → b ≡ 125 → items_of s ≡ Illegal ∷ items_of bs
items_of-stray s bs b is stray = rw (is, stray) (items_of-cons 125 bs)

literal_rest : (b : ℕ) (bs : List ℕ) → (b ≡ 123 → ⊥) → (b ≡ 125 → ⊥) → (n : ℕ) × (run_len Brace 0 (b ∷ bs) ≡ suc n) × (run_len Brace 0 (b ∷ bs) - 1 ≡ n)
unfolding run_len
literal_rest b bs not_open not_close =
    let n = run_len Brace (depth_after 0 b) bs in
    rw (ne_eqb b 123 not_open, ne_eqb b 125 not_close) (run_len Brace 0 bs, refl, omega arith)

pub items_of-literal : (s bs : List ℕ) (b : ℕ) → s ≡ b ∷ bs → (b ≡ 123 → ⊥) → (b ≡ 125 → ⊥) →
    items_of s ≡ Literal (take (run_len Brace 0 s) s) ∷ items_of (drop (run_len Brace 0 s) s)
items_of-literal s bs b is not_open not_close =
    let rest = literal_rest b bs not_open not_close in
    rw is (items_of-cons b bs ∙ rw (ne_eqb b 123 not_open, ne_eqb b 125 not_close, rest.2, rest.1) refl)

-- what follows the closing brace
after_group : (bs after : List ℕ) → after ≡ drop (run_len Closing 0 bs) bs → drop 1 after ≡ drop (suc (run_len Closing 0 bs)) bs
after_group bs after back =
    let e : run_len Closing 0 bs + 1 ≡ suc (run_len Closing 0 bs) = omega arith in
    rw (back, drop-drop 1 (run_len Closing 0 bs) bs, e) refl

pub items_of-group : (s bs after : List ℕ) (b : ℕ) → s ≡ b ∷ bs → b ≡ 123 → after ≡ drop (run_len Closing 0 bs) bs → 0 < length after →
    items_of s ≡ inside_item (take (run_len Closing 0 bs) bs) ∷ items_of (drop 1 after)
unfolding group_item
items_of-group s bs after b is brace back some =
    let len = ap length back in
    let lt : run_len Closing 0 bs < length bs = omega (arith, len, length-drop (run_len Closing 0 bs) bs) in
    let ne : eqb (run_len Closing 0 bs) (length bs) ≡ false = ne_eqb (run_len Closing 0 bs) (length bs) (omega arith) in
    rw (is, brace, after_group bs after back) (items_of-cons 123 bs ∙ rw ne refl)

pub items_of-unclosed : (s bs after : List ℕ) (b : ℕ) → s ≡ b ∷ bs → b ≡ 123 → after ≡ drop (run_len Closing 0 bs) bs → length after ≡ 0 →
    items_of s ≡ Illegal ∷ items_of after
unfolding group_item
items_of-unclosed s bs after b is brace back none =
    let len = ap length back in
    let all : run_len Closing 0 bs ≡ length bs = omega (arith, len, length-drop (run_len Closing 0 bs) bs, run_len-le Closing 0 bs) in
    let same : eqb (run_len Closing 0 bs) (length bs) ≡ true = eq-eqb (run_len Closing 0 bs) (length bs) all in
    let nothing : after ≡ [] = nil_from_length after none in
    rw (is, brace, nothing) (items_of-cons 123 bs ∙ rw (same, drop_all (suc (run_len Closing 0 bs)) bs (omega arith)) refl)

pub ruleset item_steps = (items_of-nil, items_of-stray, items_of-literal, items_of-group, items_of-unclosed, take_rest)
