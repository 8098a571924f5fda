-- What the words of a command line mean.
use Rattle.std.specs.Prelude.{◌≡◌, ◌≢◌, ◌≤◌, ◌⊎◌, ◌++◌, ℕ, Bool, true, false, List, [], ◌∷◌, Option, None, Some, Result, MatchResult, codes, if◌then◌else◌, map}
use Rattle.std.specs.Prelude.{unwrap_or}
use Rattle.std.specs.Borrow.{Bor}
use Rattle.std.specs.Str.{bytes_eq}
use Rattle.std.specs.Str.Parse.{digits_value, without_leading_plus}
use Rattle.clap.specs.Simple.{new_shape}
use Rattle.clap.specs.Words.{App, IsAmong, IsUnsignedIn, Kinds, Row, Rule, Text, fault_of, first_of, matches_of, new_rule, one_of}
use Rattle.clap.specs.declared.builder.action.ArgAction.TheVariants.{SetTrue}
use Rattle.clap.specs.declared.builder.value_parser.ValueParser.TheVariants.{Names, Unsigned}
use Rattle.clap.specs.declared.error.kind.ErrorKind.{ErrorKind}
use Rattle.btx_text.specs.declared.element_kind.TextMode.{TextMode}
use Rattle.btx_text.specs.declared.element_kind.TextMode.TheVariants.{Bytes, Utf8}
use Rattle.btx_core.specs.declared.options.Options.{Options}
use Rattle.btx_command.specs.Status.{fault_exit, refusal_exit, refused_memory}
use Rattle.btx_command.specs.declared.given.Refusal.{Refusal}
use Rattle.btx_command.specs.declared.given.Settings.{Settings}

-- ---- the rules

-- an option `--name N`, whose value is a number of this range, and which has this text where it isn't given
abbrev pub number_rule : Text → ℕ → ℕ → Text → Rule
number_rule name least most usual = record (new_rule name) {
  long = Some name;
  value_names = 1;
  defaults = usual ∷ [];
  parser = Some (Unsigned least most);
}

-- the greatest number of references
abbrev pub most_crossrefs : ℕ
most_crossrefs = 2147483647

-- how many references keep an entry in the list that isn't cited
abbrev pub min_crossrefs_rule : Rule
min_crossrefs_rule = number_rule (codes "min-crossrefs") 0 most_crossrefs (codes "2")

-- the greatest budget
abbrev pub most_steps : ℕ
most_steps = 1000000000000000

-- how many steps the style may take at most
abbrev pub budget_rule : Rule
budget_rule = number_rule (codes "budget") 0 most_steps (codes "1000000000")

-- the folder of the job's files
abbrev pub directory_rule : Rule
directory_rule = record (new_rule (codes "dir")) {
  long = Some (codes "dir");
  value_names = 1;
  defaults = codes "." ∷ [];
}

-- the log isn't printed
abbrev pub terse_rule : Rule
terse_rule = record (new_rule (codes "terse")) {
  long = Some (codes "terse");
  action = Some SetTrue;
}

-- the words of `--text`; where they stand in memory says nothing
abbrev pub Modes : Type 0
Modes = Bor (List (Bor Text))

abbrev pub HasModes : Modes → Type 0
HasModes modes = map (λ word. word.now) modes.now ≡ codes "bytes" ∷ codes "utf8" ∷ []

-- how the text of strings is read
abbrev pub text_rule : Modes → Rule
text_rule modes = record (new_rule (codes "text")) {
  long = Some (codes "text");
  value_names = 1;
  defaults = codes "bytes" ∷ [];
  parser = Some (Names modes);
}

-- the greatest length of a line of the `.bbl`
abbrev pub line_rule : Rule
line_rule = number_rule (codes "line") 20 1000 (codes "79")

-- how many bytes of a string a variable of an entry keeps
abbrev pub entry_max_rule : Rule
entry_max_rule = number_rule (codes "entry-max") 1 1000000 (codes "250")

-- and how many a global variable
abbrev pub global_max_rule : Rule
global_max_rule = number_rule (codes "global-max") 1 1000000 (codes "20000")

-- the word JOB, which may not be left out
abbrev pub job_rule : Rule
job_rule = record (new_rule (codes "JOB")) { required = true }

abbrev pub rules_with : Modes → List Rule
rules_with modes =
    min_crossrefs_rule ∷ budget_rule ∷ directory_rule ∷ terse_rule ∷ text_rule modes ∷ line_rule ∷ entry_max_rule ∷ global_max_rule ∷ job_rule ∷ []

-- the command `bibtex`, which has a version
unfoldable pub bibtex_command : Modes → App
bibtex_command modes = record {
  top = record (new_shape (codes "bibtex")) { rules = rules_with modes; has_version = true };
  subs = [];
}

abbrev pub IsBibtex : App → Type 0
IsBibtex app = (modes : Modes) × HasModes modes × (app ≡ bibtex_command modes)

-- ---- what stands in the settings

-- the number of an option's text, and another where there is none
abbrev pub number_or : ℕ → Option Text → ℕ
number_or usual None = usual
number_or usual (Some text) = digits_value 10 (without_leading_plus text)

-- a flag has a text, and that is `true`
abbrev pub is_set : Option Text → Bool
is_set None = false
is_set (Some text) = bytes_eq text (codes "true")

-- a flag is on exactly where its text is `true`, whatever else stands there
abbrev pub IsFlag : Option Text → Bool → Type 0
IsFlag text flag = flag ≡ is_set text

abbrev pub mode_of : Text → TextMode
mode_of word = if bytes_eq word (codes "utf8") then Utf8 else Bytes

abbrev pub IsFrom : ℕ → ℕ → ℕ → Type 0
IsFrom least most number = (least ≤ number) × (number ≤ most)

-- what a run is asked for by these matches
pub record AreOptionsOf (rows : List Row) (options : Options) : Type 0 where
  pub min_crossrefs : options.min_crossrefs ≡ number_or 2 (one_of (codes "min-crossrefs") rows)
  pub budget : options.budget ≡ number_or 1000000000 (one_of (codes "budget") rows)
  pub text : options.text ≡ mode_of (unwrap_or (first_of (codes "text") rows) (codes "bytes"))
  pub line : options.line ≡ number_or 79 (one_of (codes "line") rows)
  pub entry_max : options.entry_max ≡ number_or 250 (one_of (codes "entry-max") rows)
  pub global_max : options.global_max ≡ number_or 20000 (one_of (codes "global-max") rows)
  pub within : IsFrom 0 most_crossrefs options.min_crossrefs × IsFrom 0 most_steps options.budget × IsFrom 20 1000 options.line
      × IsFrom 1 1000000 options.entry_max × IsFrom 1 1000000 options.global_max

-- the name of a job is the job without a last `.aux`
abbrev pub IsNameOf : Text → Text → Type 0
IsNameOf job name = (job ≡ name ++ codes ".aux") ⊎ ((name ≡ job) × ((front : Text) → job ≢ front ++ codes ".aux"))

pub record AreSettingsOf (rows : List Row) (settings : Settings) : Type 0 where
  pub directory : settings.directory.now ≡ unwrap_or (first_of (codes "dir") rows) (codes ".")
  pub job : settings.job.now ≡ unwrap_or (first_of (codes "JOB") rows) []
  pub name : IsNameOf settings.job.now settings.name.now
  pub terse : IsFlag (one_of (codes "terse") rows) settings.terse
  pub options : AreOptionsOf rows settings.options

-- the settings are read from these words, the program's name first
abbrev pub IsSettingsOf : List Text → Settings → Type 0
IsSettingsOf words settings = (app : App) × IsBibtex app × AreSettingsOf (matches_of app words) settings

-- a number that is given to an option lies in its range
abbrev pub IsGivenFrom : ℕ → ℕ → Text → List Row → Type 0
IsGivenFrom least most id rows = (text : Text) → one_of id rows ≡ Some text → IsUnsignedIn least most text

pub record HasNumbers (rows : List Row) : Type 0 where
  pub min_crossrefs : IsGivenFrom 0 most_crossrefs (codes "min-crossrefs") rows
  pub budget : IsGivenFrom 0 most_steps (codes "budget") rows
  pub line : IsGivenFrom 20 1000 (codes "line") rows
  pub entry_max : IsGivenFrom 1 1000000 (codes "entry-max") rows
  pub global_max : IsGivenFrom 1 1000000 (codes "global-max") rows

-- ---- what is not run

-- words with these faults: they are run only where they have none, and a refusal comes to the end of one of them, or of refused memory
abbrev pub RefusesBy : Kinds → Result Settings Refusal → Type 0
RefusesBy faults result = MatchResult result (λ _. faults ≡ [])
    (λ refusal. (refusal_exit refusal ≡ refused_memory) ⊎ ((fault : ErrorKind) × IsAmong fault faults × (refusal_exit refusal ≡ fault_exit fault)))

abbrev pub Refuses : List Text → Result Settings Refusal → Type 0
Refuses words result = (app : App) × IsBibtex app × RefusesBy (fault_of app words) result
