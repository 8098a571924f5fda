-- What the parse of a flag's text gives.
use Rattle.std.proofs.Common.{◌≡◌, ◌∙◌, ap, refl, sym, rules, ℕ, Bool, true, false, List, Option, Some, None, codes}
use Rattle.std.specs.Prelude.{unwrap_or}
use Rattle.std.specs.Bool.{Decides}
use Rattle.std.specs.Str.{bytes_eq}
use Rattle.std.specs.Str.Parse.{ParsesBool}
use Rattle.std.proofs.lemmas.Slice.Eq.{bytes_eq-Decides}
use Rattle.clap.specs.Matches.{ReadsOne, found_of, one_text}
use Rattle.clap.specs.Walk.{one_of, rows_of}
use Rattle.clap.specs.declared.parser.matches.ArgMatches.{ArgMatches}
use Rattle.clap.proofs.WalkLemmas.{one_text-rows}
use Rattle.btx_command.specs.CommandLine.{is_set}

tested : (xs ys : List ℕ) (r : Bool) → Decides r (xs ≡ ys) → r ≡ bytes_eq xs ys
tested xs ys r h = search (rules, bytes_eq-Decides)

-- a text that stands there
text_reads : (E : Type 0) (text : List ℕ) (read : Option Bool) → ReadsOne {T = Bool} {E = E} ParsesBool text read
    → unwrap_or read false ≡ bytes_eq text (codes "true")
text_reads E text None is = tested text (codes "true") false (λ e. cc, λ e. absurd (is.1.0 e))
text_reads E text (Some true) is = tested text (codes "true") true (λ e. is, λ e. refl)
text_reads E text (Some false) is = sym (ap (λ (it : List ℕ). bytes_eq it (codes "true")) is)

-- a text, or none
some_reads : (E : Type 0) (text : Option (List ℕ)) (read : Option Bool) → (text ≡ None → read ≡ None)
    → ((it : List ℕ) → text ≡ Some it → ReadsOne {T = Bool} {E = E} ParsesBool it read) → unwrap_or read false ≡ is_set text
some_reads E None read none value = ap (λ (it : Option Bool). unwrap_or it false) (none refl)
some_reads E (Some text) read none value = text_reads E text read (value text refl)

pub flag_reads : (E : Type 0) (m : ArgMatches) (id : List ℕ) (read : Option Bool) → (one_text (found_of m) id ≡ None → read ≡ None)
    → ((it : List ℕ) → one_text (found_of m) id ≡ Some it → ReadsOne {T = Bool} {E = E} ParsesBool it read)
    → unwrap_or read false ≡ is_set (one_of id (rows_of (found_of m)))
flag_reads E m id read none value = some_reads E (one_text (found_of m) id) read none value ∙ ap is_set (one_text-rows (found_of m) id)
