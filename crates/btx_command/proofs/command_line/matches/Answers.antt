use Rattle.std.proofs.Common.{refl, rules, ap, map, ◌≡◌, ◌∙◌, true, [], ◌∷◌, codes}
use Rattle.std.specs.Prelude.{string_bytes}
use Rattle.std.proofs.lemmas.Result.{IfOk-weaker}
use Rattle.clap.specs.Words.{app_of, is_simple, is_simple_and_free}
use Rattle.clap.proofs.OnLiterals.{clap_on_literals}
use Rattle.btx_command.specs.CommandLine.{Modes, bibtex_command}
use Rattle.btx_command.proofs.NumberLemmas.{has_numbers}
use Rattle.btx_command.proofs.command_line.matches.Goals as goal

simple : (modes : Modes) → is_simple (bibtex_command modes) ≡ true
unfolding clap_on_literals bibtex_command
simple modes = refl

simple_and_free : (modes : Modes) → is_simple_and_free (bibtex_command modes) ≡ true
unfolding clap_on_literals bibtex_command
simple_and_free modes = refl

-- the command's clauses, with what the command is put in
pub returns : goal.returns
returns c =
    let is = c.in_ok-bibtex_command.ensures in
    let parse = c.try_get_matches_from in
    let words = map (λ word. string_bytes word) c.args.words.now in
    record {
      rows = IfOk-weaker parse.result _ _ (λ m h. (app_of c.in_ok-bibtex_command.field-0, is, (h (ap is_simple is.2 ∙ simple is.0)).0)) parse.ensures.matches;
      numbers = IfOk-weaker parse.result _ _ (λ m parsed. has_numbers _ m parsed is) parse.ensures.parsed;
      faults = (app_of c.in_ok-bibtex_command.field-0, is, parse.ensures.kinds (ap is_simple_and_free is.2 ∙ simple_and_free is.0));
    }

-- where memory is refused the words of `--text` may stand anywhere
pub returns-in_err-bibtex_command-clause-faults : goal.returns-in_err-bibtex_command-clause-faults
returns-in_err-bibtex_command-clause-faults c =
    let modes : Modes = record {
      ref_ptr = (0, 0);
      now = record { ref_ptr = (0, 0); now = codes "bytes" } ∷ record { ref_ptr = (0, 0); now = codes "utf8" }
          ∷ [];
    } in
    (bibtex_command modes, (modes, refl, refl), search rules)
