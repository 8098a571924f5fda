-- The functions of which no more need be known than what they push in place of operands that fit: each by the generic row.
use Rattle.std.proofs.Common.{◌≡◌, ℕ, ◌<◌, ℤ, pos, negsuc, List, [], ◌∷◌, ◌++◌, length, None, Some, Bool, true, false, cond, nat_lt, refl, sym, subst, ◌∙◌}
use Rattle.std.proofs.Common.{arith}
use Rattle.std.proofs.lemmas.Int.{ints}
use Rattle.std.specs.Prelude.{codes, ◌||◌}
use Rattle.std.specs.Fmt.{signed_decimal}
use Rattle.std.specs.Option.{option_map_or}
use Rattle.btx_text.specs.language.Lists.{only_if}
use Rattle.btx_bst.specs.declared.built_in.BuiltIn.{BuiltIn}
use Rattle.btx_bst.specs.declared.built_in.BuiltIn.TheVariants as built_in
use Rattle.btx_bst.specs.declared.callee.Callee.TheVariants as callee
use Rattle.btx_bst.specs.language.Names.{name_of}
use Rattle.btx_bib.specs.language.Library.{key_of, entry_type}
use Rattle.btx_stack.specs.declared.literal.Literal.TheVariants.{Integer, Text}
use Rattle.btx_step.specs.declared.said.Note.{Note}
use Rattle.btx_step.specs.declared.said.Note.TheVariants as note
use Rattle.btx_step.specs.declared.said.StepOutput.TheVariants as step_output
use Rattle.btx_step.specs.language.Jobs.{Job}
use Rattle.btx_step.specs.language.Stores.{Store}
use Rattle.btx_step.specs.language.Entries.{entry_of}
use Rattle.btx_step.specs.language.Answers.{noted, pushed, pushed_text, pushes}
use Rattle.btx_step.specs.language.Arithmetic.{gives_character, gives_code}
use Rattle.btx_step.specs.language.Operands.{on_operands}
use Rattle.btx_step.specs.language.Table.{row}
use Rattle.btx_step.specs.language.Steps.{built_in_run}
use Rattle.btx_strings.specs.language.Positions.{add_period_of, substring_of}
use Rattle.btx_strings.specs.language.Case.{change_case_of, case_complaints}
use Rattle.btx_strings.specs.language.Purify.{purify_of}
use Rattle.btx_strings.specs.language.Lengths.{text_length_of, text_prefix_of}
use Rattle.btx_strings.specs.language.Width.{width_of}
use Rattle.btx_names.specs.language.Answered.{format_name_text, format_name_complaints}
use Rattle.btx_check.specs.declared.description.Value.TheVariants as value
use Rattle.btx_check.specs.declared.plain_rules.Plain.{Plain}
use Rattle.btx_check.specs.Calm.{Calm, is_fault}
use Rattle.btx_check.specs.Descriptions.{Is, any_text, open_end}
use Rattle.btx_check.specs.States.{Abstract, pushing_new, with_stack}
use Rattle.btx_check.specs.Inclusion.{Into}
use Rattle.btx_check.specs.Running.{Leads}
use Rattle.btx_check.specs.Answers.{PlainRule, with_result}
use Rattle.btx_check.proofs.Generic.{OnAll, Onward, row_leads, any_text_is, text_onward, push_onward, says_onward}
use Rattle.btx_check.proofs.Assign.{entry_goes}

-- any string; any integer from 0; any integer; nothing
abbrev pub a_text : Plain
a_text = record { needs_entry = false; pushes = Some (value.Text any_text) }

abbrev pub a_count : Plain
a_count = record { needs_entry = false; pushes = Some (value.Integer (Some (pos 0)) open_end) }

abbrev pub a_number : Plain
a_number = record { needs_entry = false; pushes = Some (value.Integer None open_end) }

abbrev pub nothing : Plain
nothing = record { needs_entry = false; pushes = None }

-- any string, of the current entry
abbrev pub text_of_entry : Plain
text_of_entry = record { needs_entry = true; pushes = Some (value.Text any_text) }

-- what a function does on any operands that fit leads to what it is said to push
abbrev Leading : BuiltIn → Plain → Type 0
Leading f plain = (job : Job) (left : ℕ) (a : Abstract) (below : List ℕ) (to : List Abstract) → length below < 1000
    → (plain.needs_entry ≡ true → a.entry ≡ true) → Into (with_result plain.pushes (with_stack below a)) to
    → OnAll (Onward job left a below to) (row f).operands ((row f).does job)

ruled_by : (f : BuiltIn) (plain : Plain)
    → ((job : Job) (s : Store) → built_in_run job f s ≡ on_operands (row f).operands (row f).default ((row f).does job) s.literals s)
    → Leading f plain → PlainRule f plain
ruled_by f plain tabled leading = record {
  rule = λ a below to l en go t job g g' left s h. row_leads job left f a below to s (tabled job s) t (leading job left a below to l en go) h;
}

-- ---- strings

pub add_period : PlainRule built_in.AddPeriod a_text
unfolding built_in_run
add_period = ruled_by built_in.AddPeriod a_text (λ job s. refl)
    (λ job left a below to l en go text. text_onward job left a below to l step_output.Nothing (add_period_of text) tt go)

pub purify : PlainRule built_in.Purify a_text
unfolding built_in_run
purify = ruled_by built_in.Purify a_text (λ job s. refl)
    (λ job left a below to l en go text. text_onward job left a below to l step_output.Nothing (purify_of text) tt go)

pub substring : PlainRule built_in.Substring a_text
unfolding built_in_run
substring = ruled_by built_in.Substring a_text (λ job s. refl)
    (λ job left a below to l en go size start text. text_onward job left a below to l step_output.Nothing (substring_of text start size) tt go)

pub text_prefix : PlainRule built_in.TextPrefix a_text
unfolding built_in_run
text_prefix = ruled_by built_in.TextPrefix a_text (λ job s. refl)
    (λ job left a below to l en go count text. text_onward job left a below to l step_output.Nothing (text_prefix_of job.mode text count) tt go)

one_calm : (b : Bool) (n : Note) → is_fault n ≡ false → Calm (noted (only_if b n))
one_calm true n e = subst (λ (x : Bool). (x || false) ≡ false) (sym e) refl
one_calm false n e = tt

pub change_case : PlainRule built_in.ChangeCase a_text
unfolding built_in_run
change_case = ruled_by built_in.ChangeCase a_text (λ job s. refl)
    (λ job left a below to l en go letter text. text_onward job left a below to l
    (noted (only_if (case_complaints letter).x9 (note.NoConversion letter))) (change_case_of text letter)
    (one_calm (case_complaints letter).x9 (note.NoConversion letter) refl) go)

names_calm : (b c d e : Bool) (n : ℤ) (names format : List ℕ)
    → Calm (noted (only_if b (note.NoSuchName n names) ++ only_if c (note.FinalComma n names) ++ only_if d (note.TooManyCommas n names)
    ++ only_if e (note.IllegalFormat format)))
names_calm false false false false n names format = tt
names_calm false false false true n names format = refl
names_calm false false true false n names format = refl
names_calm false false true true n names format = refl
names_calm false true false false n names format = refl
names_calm false true false true n names format = refl
names_calm false true true false n names format = refl
names_calm false true true true n names format = refl
names_calm true false false false n names format = refl
names_calm true false false true n names format = refl
names_calm true false true false n names format = refl
names_calm true false true true n names format = refl
names_calm true true false false n names format = refl
names_calm true true false true n names format = refl
names_calm true true true false n names format = refl
names_calm true true true true n names format = refl

pub format_name : PlainRule built_in.FormatName a_text
unfolding built_in_run
format_name = ruled_by built_in.FormatName a_text (λ job s. refl)
    (λ job left a below to l en go format number names. let c = format_name_complaints names number format in
    text_onward job left a below to l _ (format_name_text job.mode names number format)
    (names_calm c.x10 c.x11 c.x12 c.x13 number names format) go)

pub int_to_str : PlainRule built_in.IntToStr a_text
unfolding built_in_run
int_to_str = ruled_by built_in.IntToStr a_text (λ job s. refl)
    (λ job left a below to l en go n. push_onward job left a below to l step_output.Nothing (value.Text any_text) (Text (signed_decimal n)) tt
    (any_text_is left (signed_decimal n)) go)

-- a character, or an error and the empty string
character : (job : Job) (left : ℕ) (a : Abstract) (below : List ℕ) (to : List Abstract) → length below < 1000
    → Into (pushing_new (value.Text any_text) (with_stack below a)) to → (n : ℤ) → Onward job left a below to (gives_character n)
character job left a below to l go (pos n) s h = both (nat_lt n 128)
  where
    both : (b : Bool) → Leads job left to s (cond b (pushed (Text (n ∷ [])) s) (pushes (step_output.Noted (note.NotAscii (pos n) ∷ [])) (Text []) s))
    both true = push_onward job left a below to l step_output.Nothing (value.Text any_text) (Text (n ∷ [])) tt (any_text_is left (n ∷ [])) go s h
    both false = push_onward job left a below to l (step_output.Noted (note.NotAscii (pos n) ∷ [])) (value.Text any_text) (Text []) refl refl go s h
character job left a below to l go (negsuc n) s h =
    push_onward job left a below to l (step_output.Noted (note.NotAscii (negsuc n) ∷ [])) (value.Text any_text) (Text []) refl refl go s h

pub int_to_chr : PlainRule built_in.IntToChr a_text
unfolding built_in_run
int_to_chr = ruled_by built_in.IntToChr a_text (λ job s. refl) (λ job left a below to l en go. character job left a below to l go)

pub preamble : PlainRule built_in.Preamble a_text
unfolding built_in_run
preamble = ruled_by built_in.Preamble a_text (λ job s. refl)
    (λ job left a below to l en go. push_onward job left a below to l step_output.Nothing (value.Text any_text) (Text job.library.preamble) tt
    (any_text_is left job.library.preamble) go)

pub quote : PlainRule built_in.Quote a_text
unfolding built_in_run
quote = ruled_by built_in.Quote a_text (λ job s. refl)
    (λ job left a below to l en go. push_onward job left a below to l step_output.Nothing (value.Text any_text) (Text (codes "\"")) tt
    (any_text_is left (codes "\"")) go)

pub cite : PlainRule built_in.Cite text_of_entry
unfolding built_in_run
cite = ruled_by built_in.Cite text_of_entry (λ job s. refl)
    (λ job left a below to l en go s h. entry_goes job left to s (λ entry. pushed_text (key_of (entry_of job entry))) s.current refl (h.1.entry ∙ en refl)
    (λ entry c. text_onward job left a below to l step_output.Nothing (key_of (entry_of job entry)) tt go s h))

pub type_name : PlainRule built_in.Type text_of_entry
unfolding built_in_run
type_name = ruled_by built_in.Type text_of_entry (λ job s. refl)
    (λ job left a below to l en go s h. entry_goes job left to s
    (λ entry. pushed_text (option_map_or (λ (function : ℕ). name_of job.style.names (callee.User function)) (entry_type (entry_of job entry)) []))
    s.current refl (h.1.entry ∙ en refl)
    (λ entry c. text_onward job left a below to l step_output.Nothing
    (option_map_or (λ (function : ℕ). name_of job.style.names (callee.User function)) (entry_type (entry_of job entry)) []) tt go s h))

-- ---- integers

count_is : (left : ℕ) (n : ℕ) → Is left (value.Integer (Some (pos 0)) open_end) (Integer (pos n))
count_is left n = (omega (arith, ints), tt)

pub text_length : PlainRule built_in.TextLength a_count
unfolding built_in_run
text_length = ruled_by built_in.TextLength a_count (λ job s. refl)
    (λ job left a below to l en go text. push_onward job left a below to l step_output.Nothing (value.Integer (Some (pos 0)) open_end)
    (Integer (pos (text_length_of job.mode text))) tt (count_is left (text_length_of job.mode text)) go)

pub width : PlainRule built_in.Width a_count
unfolding built_in_run
width = ruled_by built_in.Width a_count (λ job s. refl)
    (λ job left a below to l en go text. push_onward job left a below to l step_output.Nothing (value.Integer (Some (pos 0)) open_end)
    (Integer (pos (width_of text))) tt (count_is left (width_of text)) go)

-- the code of a character, or an error and 0
code : (job : Job) (left : ℕ) (a : Abstract) (below : List ℕ) (to : List Abstract) → length below < 1000
    → Into (pushing_new (value.Integer None open_end) (with_stack below a)) to → (text : List ℕ) → Onward job left a below to (gives_code text)
code job left a below to l go [] s h =
    push_onward job left a below to l (step_output.Noted (note.NotOneCharacter [] ∷ [])) (value.Integer None open_end) (Integer (pos 0)) refl (tt, tt) go s h
code job left a below to l go (b ∷ []) s h =
    push_onward job left a below to l step_output.Nothing (value.Integer None open_end) (Integer (pos b)) tt (tt, tt) go s h
code job left a below to l go (b ∷ c ∷ text) s h =
    push_onward job left a below to l (step_output.Noted (note.NotOneCharacter (b ∷ c ∷ text) ∷ [])) (value.Integer None open_end) (Integer (pos 0)) refl
    (tt, tt) go s h

pub chr_to_int : PlainRule built_in.ChrToInt a_number
unfolding built_in_run
chr_to_int = ruled_by built_in.ChrToInt a_number (λ job s. refl) (λ job left a below to l en go. code job left a below to l go)

-- ---- nothing is pushed

pub newline : PlainRule built_in.NewLine nothing
unfolding built_in_run
newline = ruled_by built_in.NewLine nothing (λ job s. refl) (λ job left a below to l en go. says_onward job left a below to l step_output.EndedLine tt go)

pub top : PlainRule built_in.Top nothing
unfolding built_in_run
top = ruled_by built_in.Top nothing (λ job s. refl)
    (λ job left a below to l en go v. says_onward job left a below to l (step_output.Noted (note.Shown v ∷ [])) refl go)

pub warning : PlainRule built_in.Warning nothing
unfolding built_in_run
warning = ruled_by built_in.Warning nothing (λ job s. refl)
    (λ job left a below to l en go text. says_onward job left a below to l (step_output.Noted (note.Warning text ∷ [])) refl go)
