use Rattle.std.proofs.Common.{◌-◌, ◌∙◌, ap}
use Rattle.btx_machine.proofs.Common.{complaint_line, Style}
use Rattle.btx_bst.specs.refinement.Views.{complaint_view, item_view}
use Rattle.btx_machine.proofs.ComesLemmas.{on_err, err_map, ok_map}
use Rattle.btx_machine.proofs.DoLemmas.{at_rest, read_fails, message_fails, execute_fails, iterate_fails, iterate_runs, reverse_fails, reverse_runs}
use Rattle.btx_machine.proofs.ItemMeets.{execute_met, item_failed, iterate_met, message_met, nothing_met, read_met, reverse_met}
use Rattle.btx_machine.proofs.items.do_item.Goals as goal

pub returns-in_err-line-in-Message-clause-err : goal.returns-in_err-line-in-Message-clause-err
returns-in_err-line-in-Message-clause-err g c = on_err c.from_residual.result (at_rest c.args.program.job.now c.args.list.now.items (item_view c.args.item.now)
    c.args.work.now c.args.left.now)

pub returns-in_err-log_one-in-Message-clause-err : goal.returns-in_err-log_one-in-Message-clause-err
returns-in_err-log_one-in-Message-clause-err g c = on_err c.from_residual-in_err-log_one-in-Message.result (message_fails c.args.program.job.now
    c.args.list.now.items (item_view c.args.item.now) c.args.work.now c.args.left.now c.log_one.new.self.outputs (complaint_view c.in-Message.message.complaint)
    c.in-Message.message.line c.in_ok-line-in-Message.line (ap item_view c.in-Message.is) (c.in_ok-line-in-Message.ensures ∙ ap
    (complaint_line (complaint_view c.in-Message.message.complaint) c.in-Message.message.line) (c.file_name.ensures ∙ ap (λ (style : Style). style.file)
    c.style.ensures)) c.in_err-log_one-in-Message.ensures.err)

pub returns-in_err-all-in-Read-clause-err : goal.returns-in_err-all-in-Read-clause-err
returns-in_err-all-in-Read-clause-err g c = on_err c.from_residual-in_err-all-in-Read.result (at_rest c.args.program.job.now c.args.list.now.items
    (item_view c.args.item.now) c.args.work.now c.args.left.now)

pub returns-in_err-log_library-in-Read-clause-err : goal.returns-in_err-log_library-in-Read-clause-err
returns-in_err-log_library-in-Read-clause-err g c = on_err c.from_residual-in_err-log_library-in-Read.result (read_fails c.args.program.job.now
    c.args.list.now.items (item_view c.args.item.now) c.args.work.now c.args.left.now c.log_library.new.self.outputs (ap item_view c.in-Read.is)
    c.in_err-log_library-in-Read.ensures.err)

pub returns-in_err-reversed-in-Reverse-clause-err : goal.returns-in_err-reversed-in-Reverse-clause-err
returns-in_err-reversed-in-Reverse-clause-err g c = on_err c.from_residual-in_err-reversed-in-Reverse.result (at_rest c.args.program.job.now
    c.args.list.now.items (item_view c.args.item.now) c.args.work.now c.args.left.now)

pub returns-in_err-sort-in-Sort-clause-err : goal.returns-in_err-sort-in-Sort-clause-err
returns-in_err-sort-in-Sort-clause-err g c = on_err c.from_residual-in_err-sort-in-Sort.result (at_rest c.args.program.job.now c.args.list.now.items
    (item_view c.args.item.now) c.args.work.now c.args.left.now)

pub returns-in-Execute-clause-err : goal.returns-in-Execute-clause-err
returns-in-Execute-clause-err g c = err_map (execute_fails c.args.program.job.now c.args.list.now.items c.in-Execute.function (item_view c.args.item.now)
    c.args.work.now c.args.left.now c.visit.new.work.outputs (ap item_view c.in-Execute.is)) c.visit.result c.visit.ensures.err

pub returns-in-Iterate-clause-outcome : goal.returns-in-Iterate-clause-outcome
returns-in-Iterate-clause-outcome g c = ok_map (λ end comes. iterate_runs c.args.program.job.now c.args.list.now.items c.in-Iterate.function
    (item_view c.args.item.now) c.args.work.now c.args.left.now c.visit_all.new.work.outputs (ap item_view c.in-Iterate.is) c.as_slice.result.now
    c.as_slice.ensures.value c.visit_all.new.work (c.args.left.now - c.visit_all.new.left) end comes) c.visit_all.result c.visit_all.ensures.outcome

pub returns-in-Iterate-clause-err : goal.returns-in-Iterate-clause-err
returns-in-Iterate-clause-err g c = err_map (iterate_fails c.args.program.job.now c.args.list.now.items c.in-Iterate.function (item_view c.args.item.now)
    c.args.work.now c.args.left.now c.visit_all.new.work.outputs (ap item_view c.in-Iterate.is) c.as_slice.result.now c.as_slice.ensures.value)
    c.visit_all.result c.visit_all.ensures.err

pub returns-in_ok-reversed-in-Reverse-clause-outcome : goal.returns-in_ok-reversed-in-Reverse-clause-outcome
returns-in_ok-reversed-in-Reverse-clause-outcome g c = ok_map (λ end comes. reverse_runs c.args.program.job.now c.args.list.now.items c.in-Reverse.function
    (item_view c.args.item.now) c.args.work.now c.args.left.now c.visit_all-in-Reverse.new.work.outputs (ap item_view c.in-Reverse.is)
    c.as_slice-in-Reverse.result.now (c.as_slice-in-Reverse.ensures.value ∙ c.in_ok-reversed-in-Reverse.ensures) c.visit_all-in-Reverse.new.work
    (c.args.left.now - c.visit_all-in-Reverse.new.left) end comes) c.visit_all-in-Reverse.result c.visit_all-in-Reverse.ensures.outcome

pub returns-in_ok-reversed-in-Reverse-clause-err : goal.returns-in_ok-reversed-in-Reverse-clause-err
returns-in_ok-reversed-in-Reverse-clause-err g c = err_map (reverse_fails c.args.program.job.now c.args.list.now.items c.in-Reverse.function (item_view
    c.args.item.now) c.args.work.now c.args.left.now c.visit_all-in-Reverse.new.work.outputs (ap item_view c.in-Reverse.is) c.as_slice-in-Reverse.result.now
    (c.as_slice-in-Reverse.ensures.value ∙ c.in_ok-reversed-in-Reverse.ensures)) c.visit_all-in-Reverse.result c.visit_all-in-Reverse.ensures.err

pub returns-in_err-line-in-Message-clause-met : goal.returns-in_err-line-in-Message-clause-met
returns-in_err-line-in-Message-clause-met g c = nothing_met c.args.program.job.now c.args.program.code.now c.args.list.now.items (item_view c.args.item.now) _ c.args.work.now

pub returns-in_err-all-in-Read-clause-met : goal.returns-in_err-all-in-Read-clause-met
returns-in_err-all-in-Read-clause-met g c = nothing_met c.args.program.job.now c.args.program.code.now c.args.list.now.items (item_view c.args.item.now) _ c.args.work.now

pub returns-in_err-reversed-in-Reverse-clause-met : goal.returns-in_err-reversed-in-Reverse-clause-met
returns-in_err-reversed-in-Reverse-clause-met g c = nothing_met c.args.program.job.now c.args.program.code.now c.args.list.now.items (item_view c.args.item.now) _ c.args.work.now

pub returns-in_err-sort-in-Sort-clause-met : goal.returns-in_err-sort-in-Sort-clause-met
returns-in_err-sort-in-Sort-clause-met g c = nothing_met c.args.program.job.now c.args.program.code.now c.args.list.now.items (item_view c.args.item.now) _ c.args.work.now

pub returns-in_err-log_one-in-Message-clause-met : goal.returns-in_err-log_one-in-Message-clause-met
returns-in_err-log_one-in-Message-clause-met g c = message_met c.args.program.job.now c.args.program.code.now c.args.list.now.items (item_view c.args.item.now) _ c.args.work.now c.log_one.new.self
    (complaint_view c.in-Message.message.complaint) c.in-Message.message.line c.in_ok-line-in-Message.line _ (ap item_view c.in-Message.is)
    (c.in_ok-line-in-Message.ensures ∙ ap (complaint_line (complaint_view c.in-Message.message.complaint) c.in-Message.message.line) (c.file_name.ensures
    ∙ ap (λ (style : Style). style.file) c.style.ensures)) c.style-in-Message.ensures c.log_one.ensures.noted c.log_one.ensures.handed c.log_one.ensures.item

pub returns-in_ok-log_one-in-Message-clause-met : goal.returns-in_ok-log_one-in-Message-clause-met
returns-in_ok-log_one-in-Message-clause-met g c = message_met c.args.program.job.now c.args.program.code.now c.args.list.now.items (item_view c.args.item.now) _ c.args.work.now c.log_one.new.self
    (complaint_view c.in-Message.message.complaint) c.in-Message.message.line c.in_ok-line-in-Message.line _ (ap item_view c.in-Message.is)
    (c.in_ok-line-in-Message.ensures ∙ ap (complaint_line (complaint_view c.in-Message.message.complaint) c.in-Message.message.line) (c.file_name.ensures
    ∙ ap (λ (style : Style). style.file) c.style.ensures)) c.style-in-Message.ensures c.log_one.ensures.noted c.log_one.ensures.handed c.log_one.ensures.item

pub returns-in_err-log_library-in-Read-clause-met : goal.returns-in_err-log_library-in-Read-clause-met
returns-in_err-log_library-in-Read-clause-met g c = read_met c.args.program.job.now c.args.program.code.now c.args.list.now.items (item_view c.args.item.now) _ c.args.work.now c.log_library.new.self (ap item_view c.in-Read.is) c.log_library.ensures.handed

pub returns-in-Some-clause-met : goal.returns-in-Some-clause-met
returns-in-Some-clause-met g c = read_met c.args.program.job.now c.args.program.code.now c.args.list.now.items (item_view c.args.item.now) _ c.args.work.now c.log_library.new.self (ap item_view c.in-Read.is) c.log_library.ensures.handed

pub returns-in-None-clause-met : goal.returns-in-None-clause-met
returns-in-None-clause-met g c = read_met c.args.program.job.now c.args.program.code.now c.args.list.now.items (item_view c.args.item.now) _ c.args.work.now c.log_library.new.self (ap item_view c.in-Read.is) c.log_library.ensures.handed

pub returns-in-Execute-clause-met : goal.returns-in-Execute-clause-met
returns-in-Execute-clause-met g c = execute_met c.args.program.job.now c.args.program.code.now c.args.list.now.items (item_view c.args.item.now) _ c.args.work.now c.visit.new.work c.in-Execute.function
    (ap item_view c.in-Execute.is) c.visit.ensures.met

pub returns-in-Iterate-clause-met : goal.returns-in-Iterate-clause-met
returns-in-Iterate-clause-met g c = iterate_met c.args.program.job.now c.args.program.code.now c.args.list.now.items (item_view c.args.item.now) _ c.args.work.now c.visit_all.new.work c.in-Iterate.function
    (ap item_view c.in-Iterate.is) c.as_slice.result.now c.as_slice.ensures.value c.visit_all.ensures.met

pub returns-in_ok-reversed-in-Reverse-clause-met : goal.returns-in_ok-reversed-in-Reverse-clause-met
returns-in_ok-reversed-in-Reverse-clause-met g c = reverse_met c.args.program.job.now c.args.program.code.now c.args.list.now.items (item_view c.args.item.now) _ c.args.work.now
    c.visit_all-in-Reverse.new.work c.in-Reverse.function (ap item_view c.in-Reverse.is) c.as_slice-in-Reverse.result.now
    (c.as_slice-in-Reverse.ensures.value ∙ c.in_ok-reversed-in-Reverse.ensures) c.visit_all-in-Reverse.ensures.met
