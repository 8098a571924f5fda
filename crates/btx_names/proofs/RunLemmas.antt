-- Lemmas on runs.
use Rattle.std.proofs.Common.{◌≡◌, ℕ, suc, ◌+◌, ◌<◌, ◌≤◌, Bool, true, false, cond, eqb, ◌&&◌, List, [], ◌∷◌, length, drop, get_or, refl, ◌∙◌, ap, arith}
use Rattle.std.proofs.lemmas.List.{drop_all, drop_more}
use Rattle.std.proofs.lemmas.Bool.{false≢true}
use Rattle.std.proofs.lemmas.Bool.Decides.{nat_tests}
use Rattle.std.proofs.Math.Bool.{and-false}
use Rattle.btx_text.specs.language.Elements.{depth_after}
use Rattle.btx_names.specs.declared.runs.Stop.{Stop}
use Rattle.btx_names.specs.declared.runs.Stop.TheVariants.{Break, Comma, Letter, Closing, Brace}
use Rattle.btx_names.specs.language.Runs.{stops, run_len}
use Rattle.btx_names.specs.refinement.Steps.{is_passed}
use Rattle.std.specs.Int.{is_in_range}

pub run_len_here : (stop : Stop) (depth : ℕ) (s : List ℕ) (i : ℕ) → i < length s → (eqb depth 0 && stops stop (get_or s i 0)) ≡ true
    → run_len stop depth (drop i s) ≡ 0
unfolding run_len
run_len_here stop depth s i h test = rw (drop_more s i 0 h, test) refl

pub run_len_next : (stop : Stop) (depth : ℕ) (s : List ℕ) (i : ℕ) → i < length s → (eqb depth 0 && stops stop (get_or s i 0)) ≡ false →
    run_len stop depth (drop i s) ≡ suc (run_len stop (depth_after depth (get_or s i 0)) (drop (i + 1) s))
unfolding run_len
run_len_next stop depth s i h test = rw (drop_more s i 0 h, test) refl

pub run_len_all : (stop : Stop) (depth : ℕ) (s : List ℕ) (i : ℕ) → length s ≤ i → run_len stop depth (drop i s) ≡ 0
unfolding run_len
run_len_all stop depth s i h = rw (drop_all i s h) refl

-- a byte from `.` to `z`
abbrev is_plain : ℕ → Bool
is_plain = is_in_range 46 122

depth_after-plain : (depth b : ℕ) → is_plain b ≡ true → depth_after depth b ≡ depth
depth_after-plain depth b plain = grind (arith, nat_tests)

break-plain : (b : ℕ) → is_plain b ≡ true → stops Break b ≡ false
break-plain b plain = grind (arith, nat_tests)

comma-plain : (b : ℕ) → is_plain b ≡ true → stops Comma b ≡ false
comma-plain b plain = grind (arith, nat_tests)

closing-plain : (b : ℕ) → is_plain b ≡ true → stops Closing b ≡ false
closing-plain b plain = grind (arith, nat_tests)

brace-plain : (b : ℕ) → is_plain b ≡ true → stops Brace b ≡ false
brace-plain b plain = grind (arith, nat_tests)

-- a byte that is passed neither ends the run nor changes the depth
passed : (stop : Stop) (depth b : ℕ) → is_passed stop b ≡ true → (stops stop b ≡ false) × (depth_after depth b ≡ depth)
passed Break depth b h = (break-plain b h, depth_after-plain depth b h)
passed Comma depth b h = (comma-plain b h, depth_after-plain depth b h)
passed Letter depth b h = absurd (false≢true h)
passed Closing depth b h = (closing-plain b h, depth_after-plain depth b h)
passed Brace depth b h = (brace-plain b h, depth_after-plain depth b h)

pub run_len_passed : (stop : Stop) (depth : ℕ) (s : List ℕ) (i : ℕ) → i < length s → is_passed stop (get_or s i 0) ≡ true →
    run_len stop depth (drop i s) ≡ suc (run_len stop depth (drop (i + 1) s))
run_len_passed stop depth s i h is =
    let both = passed stop depth (get_or s i 0) is in
    let goes_on : (eqb depth 0 && stops stop (get_or s i 0)) ≡ false = rw both.0 (and-false (eqb depth 0)) in
    run_len_next stop depth s i h goes_on ∙ ap (λ d. suc (run_len stop d (drop (i + 1) s))) both.1

pub ruleset run_steps = (run_len_here, run_len_next, run_len_passed, run_len_all)

pub run_len-le : (stop : Stop) (depth : ℕ) (s : List ℕ) → run_len stop depth s ≤ length s
unfolding run_len
run_len-le stop depth [] = omega arith
run_len-le stop depth (b ∷ bs) = at (eqb depth 0 && stops stop b) _ (run_len-le stop (depth_after depth b) bs) where
  at : (t : Bool) (n : ℕ) → n ≤ length bs → cond t 0 (suc n) ≤ suc (length bs)
  at true n h = omega arith
  at false n h = omega arith
