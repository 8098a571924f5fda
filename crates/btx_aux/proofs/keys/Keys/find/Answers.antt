use Rattle.std.proofs.Common.{arith, ◌≡◌, ◌<◌, ◌∙◌, ap, sym, length, get_or, None, Some}
use Rattle.std.specs.Prelude.{slice_get}
use Rattle.std.proofs.lemmas.Option.{slice_get_past, slice_get-get_or}
use Rattle.std.proofs.lemmas.Bool.Decides.{nat_tests}
use Rattle.btx_aux.proofs.KeyLemmas.{listed_by-none, listed_by-some}
use Rattle.btx_aux.proofs.keys.Keys.find.Goals as goal

pub returns-in_err-place : goal.returns-in_err-place
returns-in_err-place c = rw c.from_residual.ensures (listed_by-none c.args.self.now c.args.lowered.now c.in_err-place.ensures)

pub returns-in_err-key : goal.returns-in_err-key
returns-in_err-key c =
    let past : slice_get c.as_slice.result.now c.in_ok-place.place ≡ None =
    slice_get_past c.as_slice.result.now c.in_ok-place.place (grind (arith, nat_tests, c.in_err-key.ensures.lookup)) in
    rw c.from_residual-in_err-key.ensures (listed_by-some c.as_slice.result.now c.args.self.now c.args.lowered.now c.in_ok-place.place None c.as_slice.ensures
    c.in_ok-place.ensures (sym past))

pub returns : goal.returns
returns c =
    let within : c.in_ok-place.place < length c.as_slice.result.now = grind (arith, nat_tests, c.in_ok-key.ensures.lookup) in
    let item : get_or c.as_slice.result.now c.in_ok-place.place c.in_ok-key.key.now ≡ c.in_ok-key.key.now = sym c.in_ok-key.ensures.lookup.1 in
    let there = slice_get-get_or c.as_slice.result.now c.in_ok-place.place c.in_ok-key.key.now within ∙ ap Some item in
    ap Some c.as_slice-2.ensures.value
    ∙ listed_by-some c.as_slice.result.now c.args.self.now c.args.lowered.now c.in_ok-place.place (Some c.in_ok-key.key.now) c.as_slice.ensures
    c.in_ok-place.ensures (sym there)
