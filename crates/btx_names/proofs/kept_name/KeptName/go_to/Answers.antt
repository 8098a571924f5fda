use Rattle.std.proofs.Common.{◌≡◌, ◌∙◌, ap, sym}
use Rattle.std.proofs.lemmas.Bool.{not-false}
use Rattle.std.proofs.lemmas.Slice.Eq.{bytes_eq-Decides}
use Rattle.std.specs.Prelude.{slice_get}
use Rattle.btx_names.specs.language.NameLists.{names_of}
use Rattle.btx_names.specs.refinement.NamesFrom.{names_from}
use Rattle.btx_names.proofs.KeptLemmas.{passed_one, none_left}
use Rattle.btx_names.proofs.kept_name.KeptName.go_to.Goals as goal

pub find_from-requires-clause-onwards : goal.find_from-requires-clause-onwards
find_from-requires-clause-onwards c =
    let kept = c.args.self in
    let names = kept.names.items in
    let next = rw c.deref.ensures.value at c.in-Some.ensures in
    passed_one (names_of names) (names_from names kept.place.from) (names_from names c.in-Some.next) kept.before kept.onwards next.1

pub returns-in-None : goal.returns-in-None
returns-in-None c =
    let kept = c.args.self in
    let names = kept.names.items in
    let none = rw c.deref.ensures.value at c.in-None.ensures in
    let nothing = none_left (names_of names) (names_from names kept.place.from) kept.before c.args.before kept.onwards none c.if-before-self.false in
    let same : names ≡ c.args.names.now = sym c.as_slice.ensures.value
    ∙ (bytes_eq-Decides c.as_slice.result.now c.args.names.now).0 (not-false _ (sym c.if-ne.ensures)) in
    sym (ap (λ list. slice_get (names_of list) c.args.before) same) ∙ nothing
