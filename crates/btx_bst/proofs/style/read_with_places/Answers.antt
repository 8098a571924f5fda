use Rattle.std.proofs.Common.{◌≡◌, ap, refl, Some}
use Rattle.btx_bst.specs.laws.Recorded.{recorded_of}
use Rattle.btx_bst.specs.laws.StylePlaces.{places_of}
use Rattle.btx_bst.proofs.style.read_with_places.Goals as goal

pub returns-clause-places : goal.returns-clause-places
unfolding places_of
returns-clause-places c =
    let e = c.in_ok-style.ensures.recorded (ap Some c.new-recorder.ensures) in
    let is : c.read_text.new.recorder ≡ recorded_of c.args.file_name.now c.args.text.now = cc in
    rw (c.of.ensures, c.in_ok-ends.ensures, is) refl
