-- Lemmas on runs.
use Rattle.std.proofs.Common.{◌≡◌, ℕ, suc, ◌+◌, ◌<◌, ◌≤◌, Bool, true, false, cond, eqb, ◌&&◌, List, [], ◌∷◌, length, drop, get_or, refl, arith}
use Rattle.std.proofs.lemmas.List.{drop_all, drop_more}
use Rattle.btx_text.specs.language.Elements.{depth_after}
use Rattle.btx_bib.specs.declared.grammar.byte_sets.ByteSet.{ByteSet}
use Rattle.btx_bib.specs.declared.grammar.byte_sets.Enclosure.{Enclosure}
use Rattle.btx_bib.specs.language.Grammar.ByteSets.{is_in, longest_run_len, ends_enclosed, enclosed_len}

pub run_len_here : (set : ByteSet) (s : List ℕ) (i : ℕ) → i < length s → is_in set (get_or s i 0) ≡ false → longest_run_len set (drop i s) ≡ 0
unfolding longest_run_len
run_len_here set s i h test = rw (drop_more s i 0 h, test) refl

pub run_len_next : (set : ByteSet) (s : List ℕ) (i : ℕ) → i < length s → is_in set (get_or s i 0) ≡ true → longest_run_len set (drop i s)
    ≡ suc (longest_run_len set (drop (i + 1) s))
unfolding longest_run_len
run_len_next set s i h test = rw (drop_more s i 0 h, test) refl

pub run_len_all : (set : ByteSet) (s : List ℕ) (i : ℕ) → length s ≤ i → longest_run_len set (drop i s) ≡ 0
unfolding longest_run_len
run_len_all set s i h = rw (drop_all i s h) refl

pub enclosed_here : (enclosure : Enclosure) (depth : ℕ) (s : List ℕ) (i : ℕ) → i < length s → (eqb depth 0 && ends_enclosed enclosure (get_or s i 0)) ≡ true
    → enclosed_len enclosure depth (drop i s) ≡ 0
unfolding enclosed_len
enclosed_here enclosure depth s i h test = rw (drop_more s i 0 h, test) refl

pub enclosed_next : (enclosure : Enclosure) (depth : ℕ) (s : List ℕ) (i : ℕ) → i < length s → (eqb depth 0 && ends_enclosed enclosure (get_or s i 0)) ≡ false →
    enclosed_len enclosure depth (drop i s) ≡ suc (enclosed_len enclosure (depth_after depth (get_or s i 0)) (drop (i + 1) s))
unfolding enclosed_len
enclosed_next enclosure depth s i h test = rw (drop_more s i 0 h, test) refl

pub enclosed_all : (enclosure : Enclosure) (depth : ℕ) (s : List ℕ) (i : ℕ) → length s ≤ i → enclosed_len enclosure depth (drop i s) ≡ 0
unfolding enclosed_len
enclosed_all enclosure depth s i h = rw (drop_all i s h) refl

pub ruleset run_steps = (run_len_here, run_len_next, run_len_all, enclosed_here, enclosed_next, enclosed_all)

pub run_len-le : (set : ByteSet) (s : List ℕ) → longest_run_len set s ≤ length s
unfolding longest_run_len
run_len-le set [] = omega arith
run_len-le set (b ∷ bs) = at (is_in set b) _ (run_len-le set bs) where
  at : (t : Bool) (n : ℕ) → n ≤ length bs → cond t (suc n) 0 ≤ suc (length bs)
  at true n h = omega arith
  at false n h = omega arith

pub enclosed_len-le : (enclosure : Enclosure) (depth : ℕ) (s : List ℕ) → enclosed_len enclosure depth s ≤ length s
unfolding enclosed_len
enclosed_len-le enclosure depth [] = omega arith
enclosed_len-le enclosure depth (b ∷ bs) = at (eqb depth 0 && ends_enclosed enclosure b) _ (enclosed_len-le enclosure (depth_after depth b) bs) where
  at : (t : Bool) (n : ℕ) → n ≤ length bs → cond t 0 (suc n) ≤ suc (length bs)
  at true n h = omega arith
  at false n h = omega arith
