use Rattle.btx_out.proofs.PlaceLemmas.{place_inside, place_past, place_none}
use Rattle.btx_out.proofs.breaking.places.Goals as goal

pub returns-clause-inside : goal.returns-clause-inside
returns-clause-inside c = place_inside

pub returns-clause-past : goal.returns-clause-past
returns-clause-past c = place_past

pub returns-clause-unbroken : goal.returns-clause-unbroken
returns-clause-unbroken c = place_none
