use Rattle.std.proofs.Common.{◌≤◌, ◌<◌, ◌-◌, length, drop, refl, arith}
use Rattle.std.proofs.lemmas.List.{length-drop}
use Rattle.btx_names.proofs.NameLemmas.{name_len-le}
use Rattle.btx_names.proofs.KeptLemmas.{names_behind, none_behind}
use Rattle.btx_names.proofs.kept_name.start_behind.Goals as goal

pub overflow_sub-names-2 : goal.overflow_sub-names-2
overflow_sub-names-2 c =
    let names = c.args.names.now in
    let place = c.args.place in
    omega (arith, c.requires.measured, name_len-le 0 (drop place.from names), length-drop place.from names)

pub returns-then-names-place-lt3 : goal.returns-then-names-place-lt3
returns-then-names-place-lt3 c =
    let names = c.args.names.now in
    let place = c.args.place in
    let short : length (drop place.from names) - place.len < 3 = omega (arith, c.if-names-place-lt3.true, length-drop place.from names) in
    none_behind names place.from place.len c.requires.measured short

pub returns : goal.returns
returns c =
    let names = c.args.names.now in
    let place = c.args.place in
    let long : 3 ≤ length (drop place.from names) - place.len = omega (arith, c.if-names-place-lt3.false, length-drop place.from names) in
    names_behind names place.from place.len _ c.requires.inside c.requires.measured long refl
