use Rattle.std.proofs.Common.{◌≡◌, ◌++◌, drop, map}
use Rattle.btx_bib.specs.refinement.ShortPlaces.{place_in}
use Rattle.btx_bib.proofs.places.lengthened.Given as goal

abbrev pub invariant-loop-place : goal.invariant-loop-place
invariant-loop-place l = l.long.items ++ map place_in (drop l.place-index l.places) ≡ map place_in l.places
