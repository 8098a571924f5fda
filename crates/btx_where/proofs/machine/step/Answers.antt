use Rattle.std.proofs.Common.{◌<◌, ◌≤◌, ◌∙◌, ap, arith, sym}
use Rattle.btx_bst.specs.declared.token.Token.TheVariants.{Run}
use Rattle.btx_code.specs.refinement.Instructions.{token_as}
use Rattle.btx_machine.specs.refinement.Frames.{bodies_in, loops_in, resume}
use Rattle.btx_machine.specs.refinement.Marks.{frames_of}
use Rattle.btx_machine.specs.refinement.Positions.{lead_as, next_token, quoted_before}
use Rattle.btx_machine.proofs.ComesLemmas.{comes_behind, ok_map}
use Rattle.btx_machine.proofs.Counts.{bodies_are, loops_are}
use Rattle.btx_machine.proofs.PlaceLemmas.{body_frame, loop_frame, run_token, within}
use Rattle.btx_machine.proofs.StepLemmas as by
use Rattle.btx_where.proofs.machine.step.Goals as goal

pub returns-in-Nothing-clause-same : goal.returns-in-Nothing-clause-same
returns-in-Nothing-clause-same g c = let stepped = rw c.token.ensures at c.in_ok-step.ensures.ok in
    let job = c.args.program.job.now in
    let code = c.args.program.code.now in
    let next = next_token code c.args.at.now in
    let frames = frames_of code c.args.at.now.place c.args.marks.now in
    ok_map (λ to. comes_behind c.args.work.now c.step.new.self c.go_on.new.work (by.Stepping job next frames) (resume job frames)
    (lead_as job code to c.go_on.new.at c.go_on.new.marks)
    (by.goes_on _ _ _ c.args.work.now c.step.new.self _ stepped c.in-Nothing.is)) c.go_on.result c.go_on.ensures.same

pub returns-in-End-clause-same : goal.returns-in-End-clause-same
returns-in-End-clause-same g c = let stepped = rw c.token.ensures at c.in_ok-step.ensures.ok in
    by.ended _ _ _ c.args.work.now c.step.new.self _ stepped c.in-End.limit c.in-End.is

pub token-requires : goal.token-requires
token-requires g c = within c.args.program.code.now c.args.at.now.place c.args.marks.now c.requires.placed

pub returns-in-Run-clause-same : goal.returns-in-Run-clause-same
returns-in-Run-clause-same g c = let stepped = rw c.token.ensures at c.in_ok-step.ensures.ok in
    let f = c.function_of.result in
    let before = quoted_before c.args.program.code.now c.args.at.now.place in
    rw c.run.ensures (by.ran _ _ _ c.args.work.now c.step.new.self _ stepped c.in-Run.function (token_as f.op before f.number) c.in-Run.is
    (run_token f.op before f.number c.function_of.ensures.runs ∙ ap Run c.function_of.ensures.is))

pub returns-then-bodies-lt-MOST_BODIES-clause-same : goal.returns-then-bodies-lt-MOST_BODIES-clause-same
returns-then-bodies-lt-MOST_BODIES-clause-same g c = let stepped = rw c.token.ensures at c.in_ok-step.ensures.ok in
    let job = c.args.program.job.now in
    let code = c.args.program.code.now in
    let p = c.args.at.now.place in
    let r = c.start-at.result in
    let new = c.open.new.self in
    let work = c.open-then-bodies-lt-MOST_BODIES in
    let on = c.go_on-then-bodies-lt-MOST_BODIES in
    let lt : bodies_in (frames_of code p c.args.marks.now) < 4096 = omega (arith, bodies_are code p c.args.marks.now, c.bodies.ensures.count) in
    ok_map (λ to. comes_behind c.args.work.now work.new.self on.new.work (by.Stepping job (next_token code c.args.at.now) (frames_of code p c.args.marks.now))
    (resume job (frames_of code r new)) (lead_as job code to on.new.at on.new.marks) (by.opened _ _ _ c.args.work.now c.step.new.self _ stepped
    c.in-Open.function c.in-Open.is work.new.self (frames_of code r new) c.bodies-then-bodies-lt-MOST_BODIES.result lt (body_frame code job
    c.in-Open.function p r c.args.marks.now new c.args.program.coded c.open.ensures c.start-at.ensures.tokens)
    (c.bodies-then-bodies-lt-MOST_BODIES.ensures.count ∙ sym (bodies_are code r new)) work.ensures.outputs work.ensures.store)) on.result on.ensures.same

pub returns-else-bodies-lt-MOST_BODIES-clause-same : goal.returns-else-bodies-lt-MOST_BODIES-clause-same
returns-else-bodies-lt-MOST_BODIES-clause-same g c = let stepped = rw c.token.ensures at c.in_ok-step.ensures.ok in
    let le : 4096 ≤ bodies_in (frames_of c.args.program.code.now c.args.at.now.place c.args.marks.now) = omega
    (arith, bodies_are c.args.program.code.now c.args.at.now.place c.args.marks.now, c.bodies.ensures.count) in
    by.full _ _ _ c.args.work.now c.step.new.self _ stepped c.in-Open.function c.in-Open.is le

pub returns-then-loops-lt-MOST_LOOPS-clause-same : goal.returns-then-loops-lt-MOST_LOOPS-clause-same
returns-then-loops-lt-MOST_LOOPS-clause-same g c = let stepped = rw c.token.ensures at c.in_ok-step.ensures.ok in
    let job = c.args.program.job.now in
    let code = c.args.program.code.now in
    let p = c.args.at.now.place in
    let r = c.end-at.result in
    let on = c.go_on-then-loops-lt-MOST_LOOPS in
    let lt : loops_in (frames_of code p c.args.marks.now) < 4096 = omega (arith, loops_are code p c.args.marks.now, c.loops.ensures.count) in
    ok_map (λ to. comes_behind c.args.work.now c.step.new.self on.new.work (by.Stepping job (next_token code c.args.at.now) (frames_of code p
    c.args.marks.now)) (resume job (frames_of code r c.start.new.self)) (lead_as job code to on.new.at on.new.marks) (by.looped _ _ _ c.args.work.now
    c.step.new.self _ stepped c.in-Loop.test c.in-Loop.body c.in-Loop.is (frames_of code r c.start.new.self) lt (loop_frame code c.in-Loop.test
    c.in-Loop.body _ _ p r c.args.marks.now c.start.new.self c.function_of-test.ensures.is c.function_of-body.ensures.is c.start.ensures))) on.result
    on.ensures.same

pub returns-else-loops-lt-MOST_LOOPS-clause-same : goal.returns-else-loops-lt-MOST_LOOPS-clause-same
returns-else-loops-lt-MOST_LOOPS-clause-same g c = let stepped = rw c.token.ensures at c.in_ok-step.ensures.ok in
    let le : 4096 ≤ loops_in (frames_of c.args.program.code.now c.args.at.now.place c.args.marks.now) = omega
    (arith, loops_are c.args.program.code.now c.args.at.now.place c.args.marks.now, c.loops.ensures.count) in
    by.circled _ _ _ c.args.work.now c.step.new.self _ stepped c.in-Loop.test c.in-Loop.body c.in-Loop.is le
