-- What the two limits of strings begin with.
use Rattle.std.proofs.Common.{◌≡◌, ℕ, ◌<◌, pos, List, [], ◌∷◌, length, replicate, Some, slice_get, slice_set, refl, sym, subst, arith}
use Rattle.btx_bst.specs.laws.FirstNames.{HaveFirstNames}
use Rattle.btx_bst.specs.language.Predefined.{predefined}
use Rattle.btx_bst.specs.laws.References.{NamesRefer}
use Rattle.btx_bst.specs.language.Style.{Style}
use Rattle.btx_bst.proofs.FirstNameLemmas.{StandFirst, first-names}
use Rattle.btx_bst.proofs.ReferenceLemmas.{style-refers_within}
use Rattle.btx_step.specs.laws.Starts.{FirstLimitsLaw}

-- where there are two names, the first two integers are these
first_two : (names : List (List ℕ)) (a b : ℕ) → 1 < length names →
    let integers = slice_set (slice_set (replicate (length names) (pos 0)) 0 (pos a)) 1 (pos b) in
    (slice_get integers 0 ≡ Some (pos a)) × (slice_get integers 1 ≡ Some (pos b))
first_two [] a b l = absurd (omega arith)
first_two (x ∷ []) a b l = absurd (omega arith)
first_two (x ∷ y ∷ names) a b l = (refl, refl)

pub begin_with_limits : FirstLimitsLaw
begin_with_limits file text job e =
    let first : StandFirst predefined = record { parent = refl; sort_key = refl; entry_limit = refl; global_limit = refl } in
    let named : HaveFirstNames job.style.names = subst (λ (s : Style). HaveFirstNames s.names) (sym e) (first-names first file text) in
    let refer : NamesRefer job.style = subst NamesRefer (sym e) (style-refers_within file text).names in
    let two = first_two job.style.names.global_integers job.entry_max job.global_max (refer _ _ named.global_limit) in
    record {
      entry_limit = record { place = 0; named = named.entry_limit; begins = two.0 };
      global_limit = record { place = 1; named = named.global_limit; begins = two.1 };
    }
