use Rattle.std.proofs.Common.{arith, ◌≡◌, ◌∙◌, ap, sym, map, nat_lt, true, false, if◌then◌else◌, Bool, None, Some}
use Rattle.std.specs.Str.{bytes_eq}
use Rattle.std.proofs.lemmas.Bool.Decides.{nat_tests}
use Rattle.btx_text.specs.language.Keys.{folded}
use Rattle.btx_bib.proofs.JoinedNameLemmas.{place-take}
use Rattle.btx_bib.proofs.TableNameLemmas.{place_of-position}
use Rattle.btx_bib.proofs.names.CitedNames.position.Goals as goal

pub returns-in-Some : goal.returns-in-Some
returns-in-Some c =
    let test = bytes_eq c.args.name.now in
    let keys = map folded c.self.inside.job.now.keys in
    let near : nat_lt c.in-Some.place c.self.inside.count ≡ true = grind (arith, nat_tests, c.if-place-self.true) in
    sym (ap (λ (b : Bool). if b then Some c.in-Some.place else None) near)
    ∙ place-take test c.self.inside.count keys c.args.self.now c.self.view_is (c.in-Some.ensures ∙ place_of-position test keys)

pub returns-in-Some-2 : goal.returns-in-Some-2
returns-in-Some-2 c =
    let test = bytes_eq c.args.name.now in
    let keys = map folded c.self.inside.job.now.keys in
    let past : nat_lt c.in-Some.place c.self.inside.count ≡ false = grind (arith, nat_tests, c.if-place-self.false) in
    sym (ap (λ (b : Bool). if b then Some c.in-Some.place else None) past)
    ∙ place-take test c.self.inside.count keys c.args.self.now c.self.view_is (c.in-Some.ensures ∙ place_of-position test keys)

pub returns-in-Some-2-2 : goal.returns-in-Some-2-2
returns-in-Some-2-2 c =
    let test = bytes_eq c.args.name.now in
    let keys = map folded c.self.inside.job.now.keys in
    place-take test c.self.inside.count keys c.args.self.now c.self.view_is (c.in-Some-2.ensures ∙ place_of-position test keys)
