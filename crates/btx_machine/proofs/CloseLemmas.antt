-- What a run writes last.
use Rattle.std.proofs.Common.{◌≡◌, ℕ, List, [], ◌++◌, Option, sym, ap, ◌∙◌, refl, subst, append_assoc, ◌≤◌, inl, inr, arith}
use Rattle.std.specs.Io.KnownBytes.{Appends}
use Rattle.std.specs.List.{flat_map}
use Rattle.std.proofs.KnownBytes.{Appends-trans, Appends-nil}
use Rattle.btx_machine.proofs.Common.{wrap, left, holding, AppendsPrefix, Journal, Outputs, Ending, Out, Start, StandsFor, ended_line, bbl_at, so_far}
use Rattle.btx_out.specs.language.Breaking.{committed}
use Rattle.btx_out.specs.language.Breakers.{written_at_end}
use Rattle.btx_out.specs.refinement.Breakers.{Finishes, FinishesPart, AppendsPartOfRest}
use Rattle.btx_out.specs.language.Pieces.{AppendsAtLeast}
use Rattle.btx_out.proofs.WrittenLemmas.{written_of-finish, begins-finish}
use Rattle.btx_machine.specs.declared.ending.Ending.TheVariants as ends
use Rattle.btx_machine.proofs.LawLemmas.{so_far_begins}
use Rattle.btx_machine.proofs.OutLemmas.{at_least_less, prefix_more, whole_least, whole_most}
use Rattle.btx_machine.specs.refinement.Closing.{FinishedAt, FinishedPart, Closing}

pub finished_at : (old new : Outputs) → Finishes old.breaker old.bbl.received new.bbl.received → FinishedAt old ends.Finished new
finished_at old new finishes start out h = written_of-finish start.line_length out.lines out.pending old.breaker start.bbl old.bbl.received new.bbl.received
    h.line h.bbl finishes

part_least : (start before after : Option (List ℕ)) (front done whole : List ℕ) → Appends start before (front ++ done)
    → AppendsPartOfRest before after done whole → AppendsAtLeast start after (front ++ done)
part_least start before after front done whole so_far more =
    record { more = more.received.front; received = Appends-trans start before after (front ++ done) more.received.front so_far more.received.received }

pub finished_part : (old new : Outputs) → FinishesPart old.breaker old.bbl.received new.bbl.received → FinishedPart old ends.Finished new
finished_part old new finishes start out h =
    let before = old.bbl.received in
    let after = new.bbl.received in
    let part : FinishesPart (holding start.line_length (left start.line_length out.pending)) before after = rw h.line at finishes in (
      part_least start.bbl before after (flat_map (wrap start.line_length) out.lines) (committed start.line_length out.pending)
          (written_at_end start.line_length out.pending) h.bbl (part out.pending refl),
      begins-finish start.line_length out.lines out.pending old.breaker start.bbl before after h.line h.bbl finishes,
    )

-- ---- a part of both ends

module _ (start : Start) (old new : Outputs) (end : Ending) (out : Out) (last : List ℕ) (h : StandsFor start old out) where
  -- the pending line could not be ended
  pub closing_bbl : new.log ≡ old.log → FinishedPart old end new → Closing start new out (bbl_at start.line_length end out) last
  closing_bbl same part =
      let p = part start out h in
      let log : Appends start.log new.log.sink.received out.log = subst (λ (log : Journal). Appends start.log log.sink.received out.log) (sym same) h.log in
      record {
        bbl_least = p.0;
        bbl_most = p.1;
        log_least = whole_least start.log new.log.sink.received out.log log;
        log_most = prefix_more start.log new.log.sink.received out.log (out.log ++ ended_line last) (whole_most start.log new.log.sink.received out.log log)
            (ended_line last, refl);
        last_line = inr (whole_most start.log new.log.sink.received out.log log);
      }

  -- the last line could not be written
  pub closing_log : FinishedAt old end new → AppendsPrefix old.log.sink.received new.log.sink.received (ended_line last)
      → Closing start new out (bbl_at start.line_length end out) last
  closing_log whole part =
      let w = whole start out h in
      let wide : 3 ≤ start.line_length = omega (arith, start.range) in
      let bbl = new.bbl.received in
      let l = old.log.sink.received in
      let m = new.log.sink.received in
      record {
        bbl_least = at_least_less start.bbl bbl (so_far start.line_length out) (bbl_at start.line_length end out) (so_far_begins start.line_length wide end out)
            (whole_least start.bbl bbl (bbl_at start.line_length end out) w);
        bbl_most = whole_most start.bbl bbl (bbl_at start.line_length end out) w;
        log_least = record { more = part.front; received = Appends-trans start.log l m out.log part.front h.log part.received };
        log_most = record {
          front = out.log ++ part.front;
          rest = part.rest;
          whole = ap (λ xs. out.log ++ xs) part.whole
              ∙ sym (append_assoc out.log part.front part.rest);
          received = Appends-trans start.log l m out.log part.front h.log part.received;
        };
        last_line = inl w;
      }

pub nothing_logged : (l : Option (List ℕ)) (bytes : List ℕ) → AppendsPrefix l l bytes
nothing_logged l bytes = record { front = []; rest = bytes; whole = refl; received = Appends-nil l }
