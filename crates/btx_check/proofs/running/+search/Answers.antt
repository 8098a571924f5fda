use Rattle.std.proofs.Common.{arith, rules, IsTrue, List, [], ◌∷◌, ℕ, ◌-◌, refl, ◌∙◌, ap}
use Rattle.btx_check.specs.States.{Abstract, knowing}
use Rattle.std.proofs.lemmas.List.{drop_all}
use Rattle.btx_check.specs.declared.description.Value.TheVariants as value
use Rattle.btx_bst.specs.declared.callee.Callee.{Callee}
use Rattle.btx_bst.specs.declared.callee.Callee.TheVariants as callee
use Rattle.btx_bst.specs.declared.built_in.BuiltIn.{BuiltIn}
use Rattle.btx_bst.specs.declared.built_in.BuiltIn.TheVariants as built_in
use Rattle.btx_bst.specs.declared.token.Token.TheVariants as token
use Rattle.btx_check.specs.Answers.{Ruled, Stepped, Looped}
use Rattle.btx_check.proofs.AddLemmas.{sub_then}
use Rattle.std.proofs.Common.{◌≡◌, subst, sym, map-id}
use Rattle.std.proofs.lemmas.Iterator.Consumers.{YieldsList-end}
use Rattle.std.proofs.lemmas.Iterator.Adapters.{YieldsList-from_vec}
use Rattle.btx_check.proofs.CodeLemmas.{entry_is}
use Rattle.btx_check.proofs.TypeLemmas.{types_step, types_with, types_without}
use Rattle.btx_check.proofs.RunLemmas.{impossible_ran, rule_ran, ok_map, stepped_more, stepped_only, if_ran_of, while_ran_of, reached_init, reached_step}
use Rattle.btx_check.proofs.RunLemmas.{looped}
use Rattle.btx_check.proofs.MemoLemmas.{body_ran_of, runs_copied, stepped_to, within_same}
use Rattle.btx_check.specs.Memos.{Remembers}
use Rattle.btx_check.proofs.RunLemmas.{splits_of, push_one, stepped_at, turned_at, sub_at, into_at}
use Rattle.btx_check.proofs.running.+search.Goals as goal

pub run_where-returns-then-is_impossible_at : goal.run_where-returns-then-is_impossible_at
run_where-returns-then-is_impossible_at t c = λ h. (
  impossible_ran _ _ _ _ _ _ _
      (c.is_impossible_at.ensures (search (rules, c.if-is_impossible_at.true))),
  c.requires,
)

pub run_sure-returns-in_default : goal.run_sure-returns-in_default
run_sure-returns-in_default t c = ok_map c.run_one.result (λ ok. IsTrue ok → Ruled c.args.f c.args.a c.args.out.now.items c.run_one.new.out.items) _
    (λ b h ok. (rule_ran _ _ _ _ _ _ _ _ (h ok), c.requires)) c.run_one.ensures

pub run_sure-returns-in-BuiltIn-Assign : goal.run_sure-returns-in-BuiltIn-Assign
run_sure-returns-in-BuiltIn-Assign t c =
    let q = rw c.in-BuiltIn-Assign.is at c.in-BuiltIn-Assign.field-0-is in
    let e : c.args.f ≡ callee.BuiltIn built_in.Assign = c.in-BuiltIn-Assign.is ∙ ap (λ (x : BuiltIn). callee.BuiltIn x) q in
    ok_map c.run_assign.result (λ ok. IsTrue ok → Stepped c.args.style.now c.args.allowed.now (token.Run (callee.BuiltIn built_in.Assign)) (c.args.a ∷ [])
    c.args.room.deep c.args.room.loops c.args.out.now.items c.run_assign.new.out.items) _
    (λ b h ok. (
      subst (λ (f : Callee). Stepped c.args.style.now c.args.allowed.now (token.Run f) (c.args.a ∷ []) c.args.room.deep c.args.room.loops
          c.args.out.now.items c.run_assign.new.out.items) (sym e) (h ok),
      c.requires,
    )) c.run_assign.ensures

pub run_token-returns-in_default : goal.run_token-returns-in_default
run_token-returns-in_default t c = ok_map c.push_token.result (λ ok. IsTrue ok → (allowed : List ℕ) (deep loops : ℕ)
    → Stepped c.args.style.now allowed c.args.t (c.args.a ∷ []) deep loops c.args.out.now.items c.push_token.new.out.items) _
    (λ b h ok. (h ok c.args.allowed.now c.args.room.deep c.args.room.loops, c.requires)) c.push_token.ensures

pub run_all-loop-a-preserved : goal.run_all-loop-a-preserved
run_all-loop-a-preserved t c = let h = c.in_ok-run_token.ensures (search (rules, c.if-not-branch.false)) in
    (stepped_more _ _ _ _ _ _ _ _ _ _ c.loop-a.invariant.0 h.0, h.1)

pub run_all-returns : goal.run_all-returns
run_all-returns t c =
    let end = YieldsList-end (YieldsList-from_vec {s = c.into_iter-a-iterator.result} c.args.states.items (search rules) (search rules))
    c.loop-a.yielded c.loop-a.a-iterator c.loop-a.yielded_by c.next.result c.next.new.self c.in-None.is c.next.ensures.steps in
    λ ok. (rw (← end.0, map-id) c.loop-a.invariant.0, c.loop-a.invariant.1)

pub run_next-returns-in-Some : goal.run_next-returns-in-Some
run_next-returns-in-Some t c = ok_map c.run_token.result
    (λ ok. IsTrue ok → Stepped c.args.style.now c.args.allowed.now c.args.t (c.in-Some.a ∷ []) c.args.room.deep c.args.room.loops c.pop.new.self.items
    c.run_token.new.out.items × Remembers c.args.style.now c.args.allowed.now c.run_token.new.memo) _
    (λ b h ok. (
      stepped_only _ _ _ _ _ _ _ _ _ (rw c.in-Some.is at c.pop.ensures.items) (omega (arith, c.if-len-eq1.true)) (h ok).0,
      (h ok).1,
    )) c.run_token.ensures

pub run_next-returns-else-len-eq1 : goal.run_next-returns-else-len-eq1
run_next-returns-else-len-eq1 t c = ok_map c.run_all.result
    (λ ok. IsTrue ok → Stepped c.args.style.now c.args.allowed.now c.args.t c.replace-before.result.items c.args.room.deep c.args.room.loops
    c.replace-before.new.dest.items c.run_all.new.out.items × Remembers c.args.style.now c.args.allowed.now c.run_all.new.memo) _
    (λ b h ok. (rw (c.replace-before.ensures.value, c.replace-before.ensures.after, c.new.ensures.items) at (h ok).0, (h ok).1)) c.run_all.ensures

pub run_body-loop-t-init : goal.run_body-loop-t-init
run_body-loop-t-init t c = (reached_init _ _ _ _ _ _ _ (push_one _ _ _ _ c.in_ok-push.ensures.items c.new-states.ensures.items refl), c.requires)

pub run_body-loop-t-preserved : goal.run_body-loop-t-preserved
run_body-loop-t-preserved t c = let h = c.in_ok-run_next.ensures (search (rules, c.if-not-branch.false)) in
    (reached_step _ _ _ _ _ _ _ _ _ _ _ _ (omega arith) refl c.loop-t.invariant.0 h.0, h.1)

pub run_body-returns : goal.run_body-returns
run_body-returns t c = (
  body_ran_of _ _ _ _ _ _ (c.args.room.deep - 1) _ _ _ (omega arith)
      (drop_all c.loop-t.t-index c.body-body.result.now (omega arith)) c.body-body.ensures c.loop-t.invariant.0,
  c.loop-t.invariant.1,
)

pub run_while-returns-in-Function-Function : goal.run_while-returns-in-Function-Function
run_while-returns-in-Function-Function t c =
    ok_map c.run_loop.result (λ ok. IsTrue ok → Looped c.args.style.now c.args.allowed.now c.in-Some.t.below c.in-Function-Function.f c.in-Function-Function.g
    c.args.room.deep (c.args.room.loops - 1) c.args.out.now.items c.run_loop.new.out.items
    × Remembers c.args.style.now c.args.allowed.now c.run_loop.new.memo) _
    (λ b h ok. (
      while_ran_of _ _ _ _ _ _ _ _ _ _ _ (c.args.room.loops - 1) _ _ _ (rw c.in-Some.is at c.pair_of.ensures) c.in-Function-Function.is-0
          c.in-Function-Function.is-1 (omega arith) (h ok).0,
      (h ok).1,
    )) c.run_loop.ensures

pub run_if-returns-else-not-branch : goal.run_if-returns-else-not-branch
run_if-returns-else-not-branch t c = ok_map c.run_where-in-Function-Function-Integer.result
    (λ ok. IsTrue ok → Stepped c.args.style.now c.args.allowed.now (token.Run c.in-Function-Function-Integer.g)
    (c.know-in-Function-Function-Integer.new.self ∷ []) c.args.room.deep c.args.room.loops c.run_where.new.out.items
    c.run_where-in-Function-Function-Integer.new.out.items × Remembers c.args.style.now c.args.allowed.now
    c.run_where-in-Function-Function-Integer.new.memo) _
    (λ b h ok. (
      if_ran_of _ _ _ _ c.know.new.self c.know-in-Function-Function-Integer.new.self _ _ _ _ _ c.in-Function-Function-Integer.low
          c.in-Function-Function-Integer.high _ _ _ c.positive.result c.not_positive.result _ _ _ c.run_where.new.out.items _
          (rw c.in-Some.is at c.triple_of.ensures) c.in-Function-Function-Integer.is-0 c.in-Function-Function-Integer.is-1 c.in-Function-Function-Integer.is-2
          (c.know.ensures ∙ ap (λ (x : Abstract). knowing c.in-Some.t.third.number c.positive.result x) c.in_ok-yes-in-Function-Function-Integer.ensures)
          c.know-in-Function-Function-Integer.ensures
          (splits_of (value.Integer c.in-Function-Function-Integer.low c.in-Function-Function-Integer.high) c.positive.result
          c.not_positive.result c.positive.ensures
          c.not_positive.ensures)
          (c.in_ok-run_where-in-Function-Function-Integer.ensures (search (rules, c.if-not-branch.false))).0 (h ok).0,
      (h ok).1,
    )) c.run_where-in-Function-Function-Integer.ensures

pub run_loop-returns-then-branch-2 : goal.run_loop-returns-then-branch-2
run_loop-returns-then-branch-2 t c = λ ok. (
  looped _ _ _ _ _ _ _ c.loop-round.heads.items c.run_next.new.states.items c.turn_all.new.again.items
      c.turn_all.new.ends.items c.run_next-in-loop-round.new.states.items _ _ _ _ _ _
      (into_at _ _ _ c.deref-in-loop-round-2.ensures.value (c.in_ok-is_in.ensures (search (rules, c.if-branch.true))))
      (stepped_at _ _ _ _ _ _ _ _ _ (c.in_ok-tests.ensures ∙ c.deref.ensures.value) (c.in_ok-run_next.ensures (search (rules, c.if-not-branch.false))).0)
      (turned_at _ _ _ _ _ _ c.deref-in-loop-round.ensures.value (c.in_ok-turn_all.ensures (search (rules, c.if-not-branch-2.false))))
      (c.in_ok-run_next-2.ensures (search (rules, c.if-not-branch-3.false))).0
      (sub_at _ _ _ _ c.deref-then-branch.ensures.value c.deref-then-branch-2.ensures.value (c.in_ok-all_in.ensures (search (rules, c.if-branch-2.true))))
      c.in_ok-add_all.ensures.these
      (sub_then _ _ _ c.loop-round.invariant.0 c.in_ok-add_all.ensures.sub),
  (c.in_ok-run_next-2.ensures (search (rules, c.if-not-branch-3.false))).1,
)

pub run_types-loop-number-preserved : goal.run_types-loop-number-preserved
run_types-loop-number-preserved t c = let h = c.in_ok-run_sure.ensures c.if-not-branch.false in
    (types_step _ _ _ _ _ _ _ _ _ _ _ (omega arith) c.loop-number.invariant.0 (rw c.in_ok-copy.ensures at h.0), h.1)

pub run_types-returns-in-Some : goal.run_types-returns-in-Some
run_types-returns-in-Some t c = ok_map c.run_sure-in-Some.result
    (λ ok. IsTrue ok → Stepped c.args.style.now c.args.allowed.now (token.Run (callee.User c.in-Some.number)) (c.args.a ∷ []) c.args.room.deep
    c.args.room.loops c.loop-number.out.items c.run_sure-in-Some.new.out.items × Remembers c.args.style.now c.args.allowed.now c.run_sure-in-Some.new.memo) _
    (λ b h ok. (
      types_with _ _ _ _ _ _ _ _ _ _ (entry_is _ _ c.has_entry.ensures (search (rules, c.if-not-has_entry.false))) (omega arith)
          c.loop-number.invariant.0 (sym c.type_function.ensures ∙ c.in-Some.is) (h ok).0,
      (h ok).1,
    )) c.run_sure-in-Some.ensures

pub run_types-returns-in_ok-add_sure-in-None : goal.run_types-returns-in_ok-add_sure-in-None
run_types-returns-in_ok-add_sure-in-None t c =
    λ ok. (
      types_without _ _ _ _ _ _ _ _ _ (entry_is _ _ c.has_entry.ensures (search (rules, c.if-not-has_entry.false))) (omega arith) c.loop-number.invariant.0
          (sym c.type_function.ensures ∙ c.in-None.is) c.in_ok-add_sure-in-None.ensures,
      c.loop-number.invariant.1,
    )

pub run_user-returns-in_ok-add_all-in-Some : goal.run_user-returns-in_ok-add_all-in-Some
run_user-returns-in_ok-add_all-in-Some t c = let h = rw c.in-Some.is at c.in_ok-recalled.ensures in
    λ ok. (
      stepped_to _ _ _ _ _ _ _ c.in-Some.recalled.states.items _ _ (within_same _ _ refl) (h.recalls c.args.style.now c.args.allowed.now c.requires)
          c.in_ok-add_all-in-Some.ensures.these
          c.in_ok-add_all-in-Some.ensures.sub,
      c.requires,
    )

pub run_plainly-returns-in_ok-add_all-in-Some : goal.run_plainly-returns-in_ok-add_all-in-Some
run_plainly-returns-in_ok-add_all-in-Some t c = let h = rw c.in-Some.is at c.in_ok-led_to.ensures in
    λ ok. (
      stepped_to _ _ _ _ _ _ _ c.in-Some.states.items _ _ (within_same _ _ refl) h.0 c.in_ok-add_all-in-Some.ensures.these c.in_ok-add_all-in-Some.ensures.sub,
      h.1,
    )

pub run_anew-returns-in_ok-add_all-in-Some : goal.run_anew-returns-in_ok-add_all-in-Some
run_anew-returns-in_ok-add_all-in-Some t c = let h = rw c.in-Some.is at c.in_ok-led_to.ensures in
    λ ok. (
      stepped_to _ _ _ _ _ _ _ c.in-Some.states.items _ _ (within_same _ _ refl) h.0 c.in_ok-add_all-in-Some.ensures.these c.in_ok-add_all-in-Some.ensures.sub,
      c.in_ok-keep-in-Some.ensures.keeps c.args.style.now c.args.allowed.now h.1
          (runs_copied c.args.style.now c.args.allowed.now (token.Run (callee.User c.args.i)) _ _ c.args.room.deep c.args.room.loops c.in-Some.states.items _
          c.in_ok-from.ensures (c.in_ok-to-in-Some.ensures ∙ c.deref.ensures.value) h.0),
    )
