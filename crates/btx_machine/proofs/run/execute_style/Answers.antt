use Rattle.std.proofs.Common.{rules, ap, ◌∙◌, IfOk, OnErr}
use Rattle.btx_machine.proofs.Common.{Journal, style_product, log_counts}
use Rattle.btx_out.specs.refinement.Breakers.{Held}
use Rattle.btx_machine.specs.refinement.Faults.{CountsOfTwo}
use Rattle.btx_machine.specs.language.KeepingStep.{AtFault, Completes}
use Rattle.btx_machine.specs.refinement.Places.{EndsWithLast, MeetsInStyle, showing, shown}
use Rattle.btx_machine.proofs.ComesLemmas.{ok_map, on_err}
use Rattle.btx_machine.proofs.CountingLemmas.{counts_reported, counts_since}
use Rattle.btx_machine.proofs.EdgeLemmas.{ends_as, of_both, of_equals, pair_is}
use Rattle.btx_machine.proofs.HandLemmas.{handed_none}
use Rattle.btx_machine.proofs.RunLemmas.{nothing_written}
use Rattle.btx_machine.proofs.StyleMeets.{showing_is}
use Rattle.btx_machine.proofs.run.execute_style.Goals as goal

pub returns-in_err-store-clause-err : goal.returns-in_err-store-clause-err
returns-in_err-store-clause-err g c =
    on_err c.from_residual.result (nothing_written (g.W.Sink.received c.args.bbl.now, g.L.LogSink.received c.args.log.now)
    (style_product c.args.job.now c.args.counts c.args.line) c.args.budget)

pub returns-clause-ok : goal.returns-clause-ok
returns-clause-ok g c =
    of_equals (λ a b counts line_length. IfOk c.do_all-result.result
    (λ report. Completes report a b (style_product c.args.job.now counts line_length c.args.budget))) _ _ _ _ _ _ _ _
    (pair_is _ _ _ _ c.new-outputs.ensures.received (ap (λ (log : Journal). log.sink.received) c.new-outputs.ensures.log ∙ c.new-2.ensures.received))
    (pair_is _ _ _ _ (ends_as g.W.Sink.received _ c.into_sinks-list.result.0 _ c.do_all-result.new.work.outputs.bbl.received (c.into_sinks-list.ensures.bbl_name
    ∙ c.do_all-result.ensures.counts.0.0 ∙ c.new-outputs.ensures.name) c.into_sinks-list.ensures.bbl_received (search rules))
    (ends_as g.L.LogSink.received _ c.into_sinks-list.result.1 _ c.do_all-result.new.work.outputs.log.sink.received (c.into_sinks-list.ensures.log_name
    ∙ c.do_all-result.ensures.counts.0.1 ∙ ap (λ (log : Journal). log.sink.name) c.new-outputs.ensures.log ∙ c.new-2.ensures.name)
    c.into_sinks-list.ensures.log_received (search rules)))
    (ap (λ (log : Journal). log_counts log.warnings log.errors) c.new-outputs.ensures.log
    ∙ ap (λ n. log_counts n c.new-2.result.errors) c.new-2.ensures.warnings ∙ ap (log_counts c.args.counts.warnings) c.new-2.ensures.errors)
    (ap (λ (held : Held). held.line_length) c.new-outputs.ensures.breaker) c.do_all-result.ensures.ok

pub returns-clause-err : goal.returns-clause-err
returns-clause-err g c =
    of_equals (λ a b counts line_length. OnErr c.do_all-result.result (AtFault a b (style_product c.args.job.now counts line_length) c.args.budget)) _ _ _ _ _ _
    _ _
    (pair_is _ _ _ _ c.new-outputs.ensures.received (ap (λ (log : Journal). log.sink.received) c.new-outputs.ensures.log ∙ c.new-2.ensures.received))
    (pair_is _ _ _ _ (ends_as g.W.Sink.received _ c.into_sinks-list.result.0 _ c.do_all-result.new.work.outputs.bbl.received (c.into_sinks-list.ensures.bbl_name
    ∙ c.do_all-result.ensures.counts.0.0 ∙ c.new-outputs.ensures.name) c.into_sinks-list.ensures.bbl_received (search rules))
    (ends_as g.L.LogSink.received _ c.into_sinks-list.result.1 _ c.do_all-result.new.work.outputs.log.sink.received (c.into_sinks-list.ensures.log_name
    ∙ c.do_all-result.ensures.counts.0.1 ∙ ap (λ (log : Journal). log.sink.name) c.new-outputs.ensures.log ∙ c.new-2.ensures.name)
    c.into_sinks-list.ensures.log_received (search rules)))
    (ap (λ (log : Journal). log_counts log.warnings log.errors) c.new-outputs.ensures.log
    ∙ ap (λ n. log_counts n c.new-2.result.errors) c.new-2.ensures.warnings ∙ ap (log_counts c.args.counts.warnings) c.new-2.ensures.errors)
    (ap (λ (held : Held). held.line_length) c.new-outputs.ensures.breaker) c.do_all-result.ensures.err

pub returns-clause-counts : goal.returns-clause-counts
returns-clause-counts g c =
    of_equals (λ list list' log log'. CountsOfTwo c.do_all-result.result (list, list') (log, log')) _ _ _ _ _ _ _ _
    c.new-outputs.ensures.failures
    (ends_as g.W.Sink.failures _ c.into_sinks-list.result.0 _ c.do_all-result.new.work.outputs.bbl.failures (c.into_sinks-list.ensures.bbl_name
    ∙ c.do_all-result.ensures.counts.0.0 ∙ c.new-outputs.ensures.name) c.into_sinks-list.ensures.bbl_failures (search rules))
    (ap (λ (log : Journal). log.sink.failures) c.new-outputs.ensures.log ∙ c.new-2.ensures.failures)
    (ends_as g.L.LogSink.failures _ c.into_sinks-list.result.1 _ c.do_all-result.new.work.outputs.log.sink.failures (c.into_sinks-list.ensures.log_name
    ∙ c.do_all-result.ensures.counts.0.1 ∙ ap (λ (log : Journal). log.sink.name) c.new-outputs.ensures.log ∙ c.new-2.ensures.name)
    c.into_sinks-list.ensures.log_failures (search rules)) c.do_all-result.ensures.counts.1

pub returns-clause-counted : goal.returns-clause-counted
returns-clause-counted g c =
    let noted = g.L.LogSink.noted in
    let log = c.do_all-result.new.work.outputs.log in
    let counted = counts_since _ _ _ c.args.counts (log_counts log.warnings log.errors) log.joined c.new-2.result.joined
    (c.do_all-result.ensures.counts.0.2 ∙ ap (λ (log : Journal). log.joined) c.new-outputs.ensures.log) c.new-2.ensures.since_noted
    c.new-2.ensures.since_counts
    (ends_as noted _ c.into_sinks-list.result.1 _ log.noted (c.into_sinks-list.ensures.log_name
    ∙ c.do_all-result.ensures.counts.0.1 ∙ ap (λ (log : Journal). log.sink.name) c.new-outputs.ensures.log ∙ c.new-2.ensures.name)
    c.into_sinks-list.ensures.log_noted (search rules)) c.into_sinks-list.ensures.counted in
    ok_map (λ report is. counts_reported _ c.args.counts _ _ _ _ is.0 is.1 counted) c.do_all-result.result c.do_all-result.ensures.counted

pub returns-in_err-store-clause-met : goal.returns-in_err-store-clause-met
returns-in_err-store-clause-met g c = handed_none (showing (g.L.LogSink.noted c.args.log.now) (g.L.LogSink.handed c.args.log.now))

pub returns-clause-met : goal.returns-clause-met
returns-clause-met g c =
    let log = c.do_all-result.new.work.outputs.log in
    let name = c.into_sinks-list.ensures.log_name ∙ c.do_all-result.ensures.counts.0.1 ∙ ap (λ (log : Journal). log.sink.name) c.new-outputs.ensures.log
    ∙ c.new-2.ensures.name in
    of_equals (λ old new counts line_length. MeetsInStyle c.args.job.now counts line_length c.args.budget c.do_all-result.result old new) _ _ _ _ _ _ _ _
    (ap shown c.new-outputs.ensures.log ∙ showing_is _ _ _ _ c.new-2.ensures.noted c.new-2.ensures.handed)
    (showing_is _ _ _ _
    (ends_as g.L.LogSink.noted _ c.into_sinks-list.result.1 _ log.noted name c.into_sinks-list.ensures.log_noted (search rules))
    (ends_as g.L.LogSink.handed _ c.into_sinks-list.result.1 _ log.handed name c.into_sinks-list.ensures.log_handed (search rules)))
    (ap (λ (log : Journal). log_counts log.warnings log.errors) c.new-outputs.ensures.log
    ∙ ap (λ n. log_counts n c.new-2.result.errors) c.new-2.ensures.warnings ∙ ap (log_counts c.args.counts.warnings) c.new-2.ensures.errors)
    (ap (λ (held : Held). held.line_length) c.new-outputs.ensures.breaker) c.do_all-result.ensures.met

pub returns-clause-last : goal.returns-clause-last
returns-clause-last g c =
    let log = c.do_all-result.new.work.outputs.log in
    let name = c.into_sinks-list.ensures.log_name ∙ c.do_all-result.ensures.counts.0.1 ∙ ap (λ (log : Journal). log.sink.name) c.new-outputs.ensures.log
    ∙ c.new-2.ensures.name in
    of_both (λ old new. IfOk c.do_all-result.result (EndsWithLast old new)) _ _ _ _
    (ap shown c.new-outputs.ensures.log ∙ showing_is _ _ _ _ c.new-2.ensures.noted c.new-2.ensures.handed)
    (showing_is _ _ _ _
    (ends_as g.L.LogSink.noted _ c.into_sinks-list.result.1 _ log.noted name c.into_sinks-list.ensures.log_noted (search rules))
    (ends_as g.L.LogSink.handed _ c.into_sinks-list.result.1 _ log.handed name c.into_sinks-list.ensures.log_handed (search rules)))
    c.do_all-result.ensures.last
