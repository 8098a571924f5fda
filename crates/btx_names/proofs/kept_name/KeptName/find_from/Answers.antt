use Rattle.std.proofs.Common.{◌≡◌, ap, drop, sym, ◌∙◌}
use Rattle.btx_names.specs.language.NameLists.{names_of}
use Rattle.btx_names.specs.refinement.NamesFrom.{names_from}
use Rattle.btx_names.specs.refinement.ReadNames.{IsNameAt}
use Rattle.btx_names.specs.refinement.Steps.{first_name_len}
use Rattle.btx_names.proofs.KeptLemmas.{found_name, found_rest}
use Rattle.btx_names.proofs.PartLemmas.{surname_inside}
use Rattle.btx_names.proofs.kept_name.KeptName.find_from.Goals as goal

pub of-ranges-requires-clause-surname : goal.of-ranges-requires-clause-surname
of-ranges-requires-clause-surname c =
    let names = c.args.names.items in
    let is : IsNameAt names c.in-Some.from c.in_ok-read.read = rw c.deref-2.ensures.value at c.in_ok-read.ensures in
    surname_inside names c.in_ok-read.read.list _ is.list

pub invariant_of-kept : goal.invariant_of-kept
invariant_of-kept c =
    let names = c.args.names.items in
    let from = c.in-Some.from in
    let found = rw c.deref.ensures.value at c.in-Some.ensures in
    let is : IsNameAt names from c.in_ok-read.read = rw c.deref-2.ensures.value at c.in_ok-read.ensures in
    let onwards : drop c.args.before (names_of names) ≡ names_from names from =
    found_rest (names_of names) (names_from names c.args.known.from)
    (names_from names from) c.args.known.before c.args.before c.requires.onwards c.requires.earlier
    found.1 in
    record {
      inside = rw is.begins found.0;
      onwards = rw is.begins onwards;
      measured = is.len ∙ ap (λ n. first_name_len 0 (drop n names)) (sym is.begins);
      named = rw (is.len, is.begins) (found_name names (names_of names) from c.args.before onwards);
      held = is.held;
      divided = is.list;
      ranged = rw c.deref-3.ensures.value at c.of-ranges.ensures;
      ending = is.ending;
      third = is.third;
    }
