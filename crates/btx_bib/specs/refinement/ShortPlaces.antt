-- Places in a byte each.
use Rattle.std.specs.Prelude.{ℕ, ◌==◌, ◌-◌, nat_lt, List, map, take, if◌then◌else◌}
use Rattle.btx_bib.specs.declared.places.Place.{Place}
use Rattle.btx_bib.specs.declared.places.Place.TheVariants.{Missing, Lent, Made}
use Rattle.btx_bib.specs.declared.places.ShortPlace.{ShortPlace}

-- the place that a byte keeps: none, one of the lent values, or from 128 on one of those that were made
abbrev pub place_of_code : ℕ → Place
place_of_code code = if code == 0 then Missing else if nat_lt code 128 then Lent (code - 1) else Made (code - 128)

-- the place that a short place stands for
abbrev pub place_in : ShortPlace → Place
place_in short = place_of_code short.code

-- the places of the first `count` of some short places
abbrev pub few_places : List ShortPlace → ℕ → List Place
few_places codes count = map place_in (take count codes)
