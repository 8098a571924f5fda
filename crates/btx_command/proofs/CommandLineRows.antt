-- The definitions at command lines that are written out.
use Rattle.std.proofs.Common.{◌≡◌, refl, List, [], ◌∷◌, Option, Some, codes, map}
use Rattle.clap.specs.Words.{Kinds, Row, Text, fault_of, first_of, matches_of, one_of}
use Rattle.clap.specs.declared.error.kind.ErrorKind.TheVariants as kind
use Rattle.clap.proofs.OnLiterals.{clap_on_literals}
use Rattle.btx_command.specs.CommandLine.{Modes, bibtex_command}

-- the words of `--text`, at a place of memory
abbrev modes : Modes
modes = record {
  ref_ptr = (0, 0);
  now = record { ref_ptr = (0, 0); now = codes "bytes" } ∷ record { ref_ptr = (0, 0); now = codes "utf8" } ∷ [];
}

-- what the command is given by the words after its name
abbrev given : List Text → List Row
given words = matches_of (bibtex_command modes) (codes "bibtex" ∷ words)

-- and their faults
abbrev faults : List Text → Kinds
faults words = fault_of (bibtex_command modes) (codes "bibtex" ∷ words)

abbrev numbers : List Text
numbers = codes "min-crossrefs" ∷ codes "budget" ∷ codes "line" ∷ codes "entry-max" ∷ codes "global-max" ∷ []

-- the command is run with these words, which give these texts for the folder, for how text is read and for the job, these numbers, and this for `--terse`
abbrev AreRead : List Text → List (Option Text) → List (Option Text) → Option Text → Type 0
AreRead words texts of_numbers terse =
    (faults words ≡ [])
    × (map (λ id. first_of id (given words)) (codes "dir" ∷ codes "text" ∷ codes "JOB" ∷ []) ≡ texts)
    × (map (λ id. one_of id (given words)) numbers ≡ of_numbers)
    × (one_of (codes "terse") (given words) ≡ terse)

-- `j` alone
abbrev job_alone : List Text
job_alone = codes "j" ∷ []

job_alone_is_read : AreRead job_alone (Some (codes ".") ∷ Some (codes "bytes") ∷ Some (codes "j") ∷ [])
    (Some (codes "2") ∷ Some (codes "1000000000") ∷ Some (codes "79") ∷ Some (codes "250") ∷ Some (codes "20000") ∷ []) (Some (codes "false"))
unfolding clap_on_literals bibtex_command
job_alone_is_read = (refl, refl, refl, refl)

-- each option, in both of its forms
abbrev all_words : List Text
all_words =
    codes "--dir=a" ∷ codes "--budget" ∷ codes "7" ∷ codes "--terse" ∷ codes "--min-crossrefs=1" ∷ codes "j.aux" ∷ codes "--text" ∷ codes "utf8"
    ∷ codes "--line=80" ∷ codes "--entry-max" ∷ codes "12" ∷ codes "--global-max=+34" ∷ []

all_words_are_read : AreRead all_words (Some (codes "a") ∷ Some (codes "utf8") ∷ Some (codes "j.aux") ∷ [])
    (Some (codes "1") ∷ Some (codes "7") ∷ Some (codes "80") ∷ Some (codes "12") ∷ Some (codes "+34") ∷ []) (Some (codes "true"))
unfolding clap_on_literals bibtex_command
all_words_are_read = (refl, refl, refl, refl)

-- the faults of one word before `j`
abbrev faults_of_word : Text → Kinds
faults_of_word word = faults (word ∷ job_alone)

-- the ends of the ranges are taken
taken_ends : map faults_of_word
    (codes "--min-crossrefs=0" ∷ codes "--min-crossrefs=2147483647" ∷ codes "--budget=0" ∷ codes "--budget=1000000000000000"
    ∷ codes "--line=20" ∷ codes "--line=1000" ∷ codes "--entry-max=1" ∷ codes "--entry-max=1000000"
    ∷ codes "--global-max=1" ∷ codes "--global-max=1000000" ∷ [])
    ≡ [] ∷ [] ∷ [] ∷ [] ∷ [] ∷ [] ∷ [] ∷ [] ∷ [] ∷ [] ∷ []
unfolding clap_on_literals bibtex_command
taken_ends = refl

abbrev refused : Kinds
refused = kind.ValueValidation ∷ []

-- and one past them is refused
refused_ends : map faults_of_word
    (codes "--min-crossrefs=2147483648" ∷ codes "--budget=1000000000000001" ∷ codes "--line=19" ∷ codes "--line=1001"
    ∷ codes "--entry-max=0" ∷ codes "--entry-max=1000001" ∷ codes "--global-max=0" ∷ codes "--global-max=1000001" ∷ [])
    ≡ refused ∷ refused ∷ refused ∷ refused ∷ refused ∷ refused ∷ refused ∷ refused ∷ []
unfolding clap_on_literals bibtex_command
refused_ends = refl

refused_mode : faults_of_word (codes "--text=utf-8") ≡ kind.InvalidValue ∷ []
unfolding clap_on_literals bibtex_command
refused_mode = refl

terse_twice : faults (codes "--terse" ∷ codes "--terse" ∷ job_alone) ≡ kind.ArgumentConflict ∷ []
unfolding clap_on_literals bibtex_command
terse_twice = refl

no_job : faults [] ≡ kind.MissingRequiredArgument ∷ []
unfolding clap_on_literals bibtex_command
no_job = refl

help_is_asked_for : faults (codes "--help" ∷ []) ≡ kind.DisplayHelp ∷ []
unfolding clap_on_literals bibtex_command
help_is_asked_for = refl

version_is_asked_for : faults (codes "--version" ∷ []) ≡ kind.DisplayVersion ∷ []
unfolding clap_on_literals bibtex_command
version_is_asked_for = refl
