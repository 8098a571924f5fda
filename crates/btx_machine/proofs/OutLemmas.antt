-- What the outputs stand for, and what the sinks have received.
use Rattle.std.proofs.Common.{◌≡◌, ℕ, ◌≤◌, List, [], ◌++◌, Option, sym, ap, subst, ◌∙◌, refl, append-nil, append_assoc, arith}
use Rattle.std.specs.Io.KnownBytes.{Appends}
use Rattle.std.proofs.KnownBytes.{Appends-trans}
use Rattle.std.specs.List.{flat_map}
use Rattle.btx_machine.proofs.Common.{wrap, left, holding, AppendsPrefix, Journal, Outputs, Out, IsPrefix, Starts, Start, StandsFor, Between, so_far}
use Rattle.btx_out.specs.language.Breaking.{committed}
use Rattle.btx_out.specs.laws.Breaking.{Collecting}
use Rattle.btx_out.specs.refinement.Breakers.{Held, AppendsPartOfRest, Puts, PutsPart, Ends, EndsPart}
use Rattle.btx_out.specs.language.Pieces.{AppendsAtLeast}
use Rattle.btx_out.proofs.WrittenLemmas.{written_of-put, begins-put, written_of-newline, begins-newline, left-nil}
use Rattle.btx_machine.specs.refinement.Outputs.{Receiver}
use Rattle.btx_machine.proofs.Goings.{starts_self, written_begins}
use Rattle.btx_machine.specs.refinement.Saying.{wrote, pending_ended}

pub at_least_less : (a n : Option (List ℕ)) (xs ys : List ℕ) → IsPrefix xs ys → AppendsAtLeast a n ys → AppendsAtLeast a n xs
at_least_less a n xs ys f h = record {
  more = f.0 ++ h.more;
  received = subst (Appends a n) (ap (λ l. l ++ h.more) f.1 ∙ append_assoc xs f.0 h.more) h.received;
}

pub prefix_more : (a n : Option (List ℕ)) (xs ys : List ℕ) → AppendsPrefix a n xs → IsPrefix xs ys → AppendsPrefix a n ys
prefix_more a n xs ys h f = record {
  front = h.front;
  rest = h.rest ++ f.0;
  whole = f.1 ∙ ap (λ l. l ++ f.0) h.whole ∙ append_assoc h.front h.rest f.0;
  received = h.received;
}

pub whole_least : (a n : Option (List ℕ)) (xs : List ℕ) → Appends a n xs → AppendsAtLeast a n xs
whole_least a n xs h = record { more = []; received = subst (Appends a n) (sym (append-nil xs)) h }

pub whole_most : (a n : Option (List ℕ)) (xs : List ℕ) → Appends a n xs → AppendsPrefix a n xs
whole_most a n xs h = record { front = xs; rest = []; whole = sym (append-nil xs); received = h }

pub wider : (start : Start) (outputs : Outputs) (a b c d : Out) → Starts a b → Between start outputs b c → Starts c d → Between start outputs a d
wider start outputs a b c d f h g =
    let wide : 3 ≤ start.line_length = omega (arith, start.range) in record {
      bbl_least = at_least_less start.bbl outputs.bbl.received (so_far start.line_length a) (so_far start.line_length b)
          (written_begins start.line_length a b wide f.0) h.bbl_least;
      bbl_most = prefix_more start.bbl outputs.bbl.received (so_far start.line_length c) (so_far start.line_length d) h.bbl_most
          (written_begins start.line_length c d wide g.0);
      log_least = at_least_less start.log outputs.log.sink.received a.log b.log f.1 h.log_least;
      log_most = prefix_more start.log outputs.log.sink.received c.log d.log h.log_most g.1;
    }

-- nothing more was written
pub nothing_more : (start : Start) (outputs : Outputs) (out : Out) → StandsFor start outputs out → Between start outputs out out
nothing_more start outputs out h = record {
  bbl_least = whole_least start.bbl outputs.bbl.received (so_far start.line_length out) h.bbl;
  bbl_most = whole_most start.bbl outputs.bbl.received (so_far start.line_length out) h.bbl;
  log_least = whole_least start.log outputs.log.sink.received out.log h.log;
  log_most = whole_most start.log outputs.log.sink.received out.log h.log;
}

pub at_most : (start : Start) (outputs : Outputs) (a b : Out) → StandsFor start outputs a → Starts a b → Between start outputs a b
at_most start outputs a b h g = wider start outputs a a a b (starts_self a) (nothing_more start outputs a h) g

-- ---- the pending line

part_least : (start before after : Option (List ℕ)) (front done whole : List ℕ) → Appends start before (front ++ done)
    → AppendsPartOfRest before after done whole → AppendsAtLeast start after (front ++ done)
part_least start before after front done whole so_far more =
    record { more = more.received.front; received = Appends-trans start before after (front ++ done) more.received.front so_far more.received.received }

-- the log stayed
module _ (start : Start) (old new : Outputs) (out : Out) (h : StandsFor start old out) (same : new.log ≡ old.log) where
  log_least : AppendsAtLeast start.log new.log.sink.received out.log
  log_least = subst (λ (log : Journal). AppendsAtLeast start.log log.sink.received out.log) (sym same)
      (whole_least start.log old.log.sink.received out.log h.log)

  log_most : AppendsPrefix start.log new.log.sink.received out.log
  log_most = subst (λ (log : Journal). AppendsPrefix start.log log.sink.received out.log) (sym same) (whole_most start.log old.log.sink.received out.log h.log)

  log_whole : Appends start.log new.log.sink.received out.log
  log_whole = subst (λ (log : Journal). Appends start.log log.sink.received out.log) (sym same) h.log

  warnings : new.log.warnings ≡ out.warnings
  warnings = ap (λ (log : Journal). log.warnings) same ∙ h.warnings

  errors : new.log.errors ≡ out.errors
  errors = ap (λ (log : Journal). log.errors) same ∙ h.errors

  pub put_becomes : (bytes : List ℕ) → Puts old.breaker new.breaker bytes old.bbl.received new.bbl.received → StandsFor start new (wrote bytes out)
  put_becomes bytes puts =
      let done = written_of-put start.line_length out.lines out.pending bytes old.breaker new.breaker start.bbl old.bbl.received new.bbl.received h.line h.bbl
      puts in
      record { line = done.0; warnings = warnings; errors = errors; bbl = done.1; log = log_whole }

  pub put_stops : (bytes : List ℕ) → PutsPart old.breaker bytes old.bbl.received new.bbl.received → Between start new out (wrote bytes out)
  put_stops bytes puts =
      let puts' : PutsPart (holding start.line_length (left start.line_length out.pending)) bytes old.bbl.received new.bbl.received = rw h.line at puts in
      record {
        bbl_least = part_least start.bbl old.bbl.received new.bbl.received (flat_map (wrap start.line_length) out.lines) (committed start.line_length out.pending)
            (committed start.line_length (out.pending ++ bytes)) h.bbl (puts' out.pending refl);
        bbl_most = begins-put start.line_length out.lines out.pending bytes old.breaker start.bbl old.bbl.received new.bbl.received h.line h.bbl puts;
        log_least = log_least;
        log_most = log_most;
      }

  pub ended_becomes : Ends old.breaker old.bbl.received new.bbl.received → new.breaker ≡ holding old.breaker.line_length (Collecting [])
      → StandsFor start new (pending_ended out)
  ended_becomes ends fresh =
      record {
        line = fresh ∙ ap (λ (held : Held). holding held.line_length (Collecting [])) h.line
            ∙ ap (holding start.line_length) (sym (left-nil start.line_length));
        warnings = warnings;
        errors = errors;
        bbl = written_of-newline start.line_length out.lines out.pending old.breaker start.bbl old.bbl.received new.bbl.received h.line h.bbl ends;
        log = log_whole;
      }

  pub ended_stops : EndsPart old.breaker old.bbl.received new.bbl.received → Between start new out (pending_ended out)
  ended_stops ends =
      let ends' : EndsPart (holding start.line_length (left start.line_length out.pending)) old.bbl.received new.bbl.received = rw h.line at ends in
      record {
        bbl_least = part_least start.bbl old.bbl.received new.bbl.received (flat_map (wrap start.line_length) out.lines) (committed start.line_length out.pending)
            (wrap start.line_length out.pending) h.bbl (ends' out.pending refl);
        bbl_most = begins-newline start.line_length out.lines out.pending old.breaker start.bbl old.bbl.received new.bbl.received h.line h.bbl ends;
        log_least = log_least;
        log_most = log_most;
      }

-- ---- the log

-- more of the log, with other counts
module _ (start : Start) (old new : Outputs) (out : Out) (bytes : List ℕ) (w e : ℕ) (h : StandsFor start old out) (list : new.bbl ≡ old.bbl) where
  list_whole : Appends start.bbl new.bbl.received (so_far start.line_length out)
  list_whole = subst (λ (bbl : Receiver). Appends start.bbl bbl.received (so_far start.line_length out)) (sym list) h.bbl

  pub log_becomes : new.breaker ≡ old.breaker → new.log.warnings ≡ w → new.log.errors ≡ e → Appends old.log.sink.received new.log.sink.received bytes
      → StandsFor start new (record out { log = out.log ++ bytes; warnings = w; errors = e })
  log_becomes same ws es more =
      record {
        line = same ∙ h.line;
        warnings = ws;
        errors = es;
        bbl = list_whole;
        log = Appends-trans start.log old.log.sink.received new.log.sink.received
            out.log bytes h.log more;
      }

  pub log_stops : AppendsPrefix old.log.sink.received new.log.sink.received bytes
      → Between start new out (record out { log = out.log ++ bytes; warnings = w; errors = e })
  log_stops part =
      record {
        bbl_least = whole_least start.bbl new.bbl.received (so_far start.line_length out) list_whole;
        bbl_most = whole_most start.bbl new.bbl.received (so_far start.line_length out) list_whole;
        log_least = record {
          more = part.front;
          received = Appends-trans start.log old.log.sink.received new.log.sink.received out.log part.front h.log
              part.received;
        };
        log_most = record {
          front = out.log ++ part.front;
          rest = part.rest;
          whole = ap (λ xs. out.log ++ xs) part.whole
              ∙ sym (append_assoc out.log part.front part.rest);
          received = Appends-trans start.log old.log.sink.received new.log.sink.received out.log part.front
              h.log part.received;
        };
      }
