-- Comparison of keys, byte by byte.
use Rattle.std.proofs.Common.{◌≡◌, ℕ, Bool, true, false, cond, List, [], ◌∷◌, nat_lt, nat_cmp, is_lt, Ordering, Less, Equal, Greater, sym, ap, refl, ◌∙◌}
use Rattle.std.proofs.Common.{⊎_elim, ltb-true, ltb-false, arith}
use Rattle.std.specs.Cmp.{nat_cmp_is}
use Rattle.std.specs.Cmp.Lexicographic.{slice_cmp}
use Rattle.std.specs.Ordering.{ordering_then}
use Rattle.std.proofs.lemmas.Bool.{cases_Bool}
use Rattle.btx_step.specs.laws.Orders.{comes_first, precedes}

pub precedes_reads : (b c : List ℕ) → precedes b c ≡ comes_first b c
precedes_reads [] [] = refl
precedes_reads [] (c ∷ cs) = refl
precedes_reads (b ∷ bs) [] = refl
precedes_reads (b ∷ bs) (c ∷ cs) =
    let later : Ordering → Bool = λ o. is_lt (ordering_then o (slice_cmp nat_cmp bs cs)) in
    let last = comes_first bs cs in
    ⊎_elim
    (λ t. ap later (sym (nat_cmp_is b c Less (ltb-true b c t))) ∙ sym (ap (λ p. cond p true (cond (nat_lt c b) false last)) t))
    (λ f. ⊎_elim
    (λ t. ap later (sym (nat_cmp_is b c Greater (ltb-true c b t))) ∙ sym (ap (λ p. cond p false last) t)
    ∙ sym (ap (λ p. cond p true (cond (nat_lt c b) false last)) f))
    (λ g. let x = ltb-false b c f in let y = ltb-false c b g in let same : b ≡ c = omega (arith, x, y) in
    ap later (sym (nat_cmp_is b c Equal same)) ∙ precedes_reads bs cs ∙ sym (ap (λ p. cond p false last) g)
    ∙ sym (ap (λ p. cond p true (cond (nat_lt c b) false last)) f))
    (cases_Bool (nat_lt c b)))
    (cases_Bool (nat_lt b c))
