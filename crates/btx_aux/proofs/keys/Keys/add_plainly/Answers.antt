use Rattle.std.proofs.Common.{rules, ◌≡◌, ◌∙◌, ap, sym, None, Option, subst, true, map}
use Rattle.std.specs.Str.{bytes_eq}
use Rattle.std.specs.declared.alloc.Global.{Global}
use Rattle.std.specs.declared.vec.Vec.{Vec}
use Rattle.std.proofs.lemmas.Slice.Eq.{bytes_eq-Decides}
use Rattle.btx_text.specs.language.Keys.{folded}
use Rattle.btx_aux.specs.refinement.Entries.{Bytes, texts_of}
use Rattle.btx_aux.specs.refinement.KeyTable.{IsTableOf, spelled_in}
use Rattle.btx_aux.specs.language.Names.{with_key}
use Rattle.btx_aux.proofs.KeyLemmas.{IsTableOf-lowered, with_key-lowered, listed_as-lowered, unspelled}
use Rattle.btx_aux.proofs.keys.Keys.add_plainly.Goals as goal

-- no key is spelled otherwise, and this one isn't
none : (c : goal.In_ok-insert) → c.self.inside.spelled ≡ None
none c = unspelled c.self.inside.spelled (search rules)

table : (c : goal.In_ok-insert) → IsTableOf c.self.inside.lowered.keys c.self.inside.lowered.keys
table c = subst (λ (spelled : Option (Vec Bytes Global)). IsTableOf c.self.inside.lowered.keys (spelled_in spelled c.self.inside.lowered.keys)) (none c)
    c.self.invariant

view : (c : goal.In_ok-insert) → texts_of c.self.inside.lowered.keys ≡ c.args.self.now
view c = subst (λ (spelled : Option (Vec Bytes Global)). texts_of (spelled_in spelled c.self.inside.lowered.keys) ≡ c.args.self.now) (none c) c.self.view_is

same : (c : goal.In_ok-insert) → bytes_eq c.in_ok-lowered.lowered.items c.args.key.now ≡ true
same c = search rules

is_key : (c : goal.In_ok-insert) → c.in_ok-lowered.lowered.items ≡ c.args.key.now
is_key c = (bytes_eq-Decides c.in_ok-lowered.lowered.items c.args.key.now).0 (same c)

form : (c : goal.In_ok-insert) → folded c.in_ok-lowered.lowered.items ≡ c.in_ok-lowered.lowered.items
form c = ap folded (is_key c) ∙ sym c.in_ok-lowered.ensures

pub invariant_of-self-2 : goal.invariant_of-self-2
invariant_of-self-2 c =
    let kept = IsTableOf-lowered c.self.inside.lowered.keys c.in_ok-lowered.lowered (table c) (form c) in
    rw (none c, c.in_ok-insert.ensures.keys) kept

pub returns-clause-listed : goal.returns-clause-listed
returns-clause-listed c =
    let kept = with_key-lowered c.self.inside.lowered.keys c.in_ok-lowered.lowered c.args.self.now (table c) (view c) (form c) in
    rw (none c, c.in_ok-insert.ensures.keys) (kept ∙ ap (with_key c.args.self.now) (is_key c))

pub returns-clause-same : goal.returns-clause-same
returns-clause-same c is =
    listed_as-lowered c.args.self.now c.args.key.now (sym (view c) ∙ table c ∙ ap (map folded) (view c)) (sym c.in_ok-lowered.ensures ∙ is_key c)
