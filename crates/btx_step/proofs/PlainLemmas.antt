-- What holds of the functions that push one result at most and change nothing else, from what holds of a push.
use Rattle.std.proofs.Common.{ℕ, ℤ, pos, negsuc, Bool, true, false, cond, nat_lt, List, [], ◌∷◌, Option, Some, None}
use Rattle.btx_step.proofs.Common.{BuiltIn, Literal, Integer, Text, Missing, Note, StepOutput, StandIn, Job, Store, Answer, says, pushes, pushes_text, row}
use Rattle.btx_bst.specs.declared.built_in.BuiltIn.TheVariants as built_in
use Rattle.btx_step.specs.declared.calculation.Calculation.{Calculation}
use Rattle.btx_step.specs.declared.calculation.Calculation.TheVariants.{Greater, Less, Plus, Minus}
use Rattle.btx_step.specs.declared.said.StepOutput.TheVariants as step_output
use Rattle.btx_step.specs.declared.stand_in.StandIn.TheVariants as stand_in
use Rattle.btx_step.specs.language.Answers.{truth, complained}
use Rattle.btx_step.specs.language.Arithmetic as arithmetic
use Rattle.btx_step.specs.refinement.Arithmetic as kept_arithmetic
use Rattle.btx_step.specs.language.Entries as entries
use Rattle.btx_step.specs.refinement.Entries as kept_entries
use Rattle.btx_step.specs.language.Strings as strings
use Rattle.btx_step.specs.refinement.Variables as kept_variables
use Rattle.btx_step.proofs.RuleLemmas.{Each}

-- P of a store and an answer holds where nothing but words, an integer or a string come of it, if R holds of the literals
pub record OfPushes (R : List Literal → Type 0) (P : Store → Answer → Type 0) : Type 0 where
  pub words : (words : StepOutput) (s : Store) → R s.literals → P s (says words s)
  pub integer : (words : StepOutput) (n : ℤ) (s : Store) → R s.literals → P s (pushes words (Integer n) s)
  pub string : (words : StepOutput) (text : List ℕ) (s : Store) → R s.literals → P s (pushes words (Text text) s)
  pub text : (words : StepOutput) (text : List ℕ) (s : Store) → R s.literals → P s (pushes_text words text s)
  pub missing : (s : Store) → R s.literals → P s (pushes step_output.Nothing Missing s)

-- the functions that are so
abbrev pub IsPlain : BuiltIn → Type 0
IsPlain built_in.Assign = ⊥
IsPlain built_in.CallType = ⊥
IsPlain built_in.Duplicate = ⊥
IsPlain built_in.If = ⊥
IsPlain built_in.Stack = ⊥
IsPlain built_in.Swap = ⊥
IsPlain built_in.While = ⊥
IsPlain f = Unit {0}

module _ (R : List Literal → Type 0) (P : Store → Answer → Type 0) (so : OfPushes R P) where
  pub complains : (notes : List Note) (instead : StandIn) (s : Store) → R s.literals → P s (complained notes instead s)
  complains notes stand_in.Nothing s r = so.words (step_output.Noted notes) s r
  complains notes stand_in.Zero s r = so.integer (step_output.Noted notes) (pos 0) s r
  complains notes stand_in.Empty s r = so.string (step_output.Noted notes) [] s r

  truth_pushed : (b : Bool) (s : Store) → R s.literals → P s (pushes step_output.Nothing (truth b) s)
  truth_pushed true s r = so.integer step_output.Nothing (pos 1) s r
  truth_pushed false s r = so.integer step_output.Nothing (pos 0) s r

  equals : (x y : Literal) (s : Store) → R s.literals → P s (arithmetic.equals x y s)
  equals (Integer b) (Integer a) s r = truth_pushed _ s r
  equals (Text b) (Text a) s r = truth_pushed _ s r
  equals x y s r = complains _ stand_in.Zero s r

  result : (b : Bool) (n : ℤ) (s : Store) → R s.literals → P s (kept_arithmetic.result_if b n s)
  result true n s r = so.integer step_output.Nothing n s r
  result false n s r = complains _ stand_in.Zero s r

  calculated : (calculation : Calculation) (b a : ℤ) (s : Store) → R s.literals → P s (kept_arithmetic.calculated calculation b a s)
  calculated Greater b a s r = truth_pushed _ s r
  calculated Less b a s r = truth_pushed _ s r
  calculated Plus b a s r = result _ _ s r
  calculated Minus b a s r = result _ _ s r

  code : (text : List ℕ) (s : Store) → R s.literals → P s (arithmetic.gives_code text s)
  code (b ∷ []) s r = so.integer step_output.Nothing (pos b) s r
  code text s r = complains _ stand_in.Zero s r

  character_if : (b : Bool) (n : ℕ) (notes : List Note) (s : Store) → R s.literals
      → P s (cond b (pushes step_output.Nothing (Text (n ∷ [])) s) (complained notes stand_in.Empty s))
  character_if true n notes s r = so.string step_output.Nothing (n ∷ []) s r
  character_if false n notes s r = complains notes stand_in.Empty s r

  character : (n : ℤ) (s : Store) → R s.literals → P s (arithmetic.gives_character n s)
  character (pos n) s r = character_if (nat_lt n 128) n _ s r
  character (negsuc n) s r = complains _ stand_in.Empty s r

  emptiness : (field : Option (List ℕ)) (s : Store) → R s.literals → P s (strings.finds_empty field s)
  emptiness None s r = truth_pushed true s r
  emptiness (Some text) s r = truth_pushed _ s r

  pub absence : (field : Option (List ℕ)) (s : Store) → R s.literals → P s (entries.finds_missing field s)
  absence None s r = truth_pushed true s r
  absence (Some text) s r = truth_pushed false s r

  value : (value : Option (List ℕ)) (s : Store) → R s.literals → P s (pushes step_output.Nothing (kept_entries.field_literal value) s)
  value None s r = so.missing s r
  value (Some text) s r = so.string step_output.Nothing text s r

  pub field : (job : Job) (i : ℕ) (current : Option ℕ) (s : Store) → R s.literals → P s (kept_entries.field_pushed job i current s)
  field job i None s r = complains _ stand_in.Nothing s r
  field job i (Some entry) s r = value _ s r

  cites : (job : Job) (current : Option ℕ) (s : Store) → R s.literals → P s (kept_entries.cites job current s)
  cites job None s r = complains _ stand_in.Nothing s r
  cites job (Some entry) s r = so.text step_output.Nothing _ s r

  gives_type : (job : Job) (current : Option ℕ) (s : Store) → R s.literals → P s (kept_entries.gives_type job current s)
  gives_type job None s r = complains _ stand_in.Nothing s r
  gives_type job (Some entry) s r = so.text step_output.Nothing _ s r

  pub entry_integer : (i : ℕ) (current : Option ℕ) (s : Store) → R s.literals → P s (kept_variables.entry_integer i current s)
  entry_integer i None s r = complains _ stand_in.Nothing s r
  entry_integer i (Some entry) s r = so.integer step_output.Nothing _ s r

  pub entry_string : (i : ℕ) (current : Option ℕ) (s : Store) → R s.literals → P s (kept_variables.entry_string i current s)
  entry_string i None s r = complains _ stand_in.Nothing s r
  entry_string i (Some entry) s r = so.string step_output.Nothing _ s r

  -- on all operands, whatever Q holds of them: what a function pushes is found among the lemmas above, but for a sum and a difference
  pub plain_row : (Q : Literal → Type 0) (job : Job) (f : BuiltIn) → IsPlain f → Each Q R P (row f).operands ((row f).does job)
  plain_row Q job built_in.Plus p = λ b u a v s r. calculated Plus b a s r
  plain_row Q job built_in.Minus p = λ b u a v s r. calculated Minus b a s r
  plain_row Q job f p =
      search (so.words, so.integer, so.string, so.text, truth_pushed, equals, code, cites, emptiness, character, absence, gives_type)
