-- What the calls of the checker answer.
use Rattle.std.specs.Prelude.{◌≡◌, ℕ, ◌<◌, pos, length, List, [], ◌∷◌, slice_index_or, Option, None, Some, true, false}
use Rattle.btx_bst.specs.language.Style.{Style}
use Rattle.btx_bst.specs.declared.built_in.BuiltIn.{BuiltIn}
use Rattle.btx_bst.specs.declared.callee.Callee.{Callee}
use Rattle.btx_bst.specs.declared.token.Token.{Token}
use Rattle.btx_check.specs.declared.description.Value.{Value}
use Rattle.btx_check.specs.declared.description.Value.TheVariants as value
use Rattle.btx_check.specs.declared.description.Value.TheVariants.{Any as Unknown}
use Rattle.btx_step.specs.declared.literal.OperandKind.TheVariants as wanted
use Rattle.btx_step.specs.declared.operands.Operand.{Operand}
use Rattle.btx_step.specs.declared.operands.Operand.TheVariants.{Any, Of}
use Rattle.btx_step.specs.language.Table.{row}
use Rattle.btx_check.specs.declared.plain_rules.Plain.{Plain}
use Rattle.btx_bst.specs.declared.callee.Callee.TheVariants as callee
use Rattle.btx_bst.specs.declared.token.Token.TheVariants as token
use Rattle.btx_check.specs.Promise.{is_among}
use Rattle.btx_check.specs.Descriptions.{exactly}
use Rattle.btx_check.specs.States.{Abstract, with_stack, pushing_new, knowing}
use Rattle.btx_check.specs.Inclusion.{Sub, Into}
use Rattle.btx_check.specs.Running.{Rule, RuleNow, RunsFrom, BodyRuns, Turned, Closed}

-- a description was added to others: what it stands for is among them, and so is what they stood for before
pub record Added (a : Abstract) (before after : List Abstract) : Type 0 where
  pub into : Into a after
  pub sub : Sub before after

-- on top stands number `i`, of which `d` is known; `b` is what is left below it
pub record TopIs (a : Abstract) (i : ℕ) (d : Value) (b : Abstract) : Type 0 where
  pub stack : a.stack ≡ i ∷ b.stack
  pub rest : b ≡ with_stack b.stack a
  pub known : slice_index_or a.values i Unknown ≡ d
  pub room : length a.stack < 1000

-- an operand gets what it wants, whichever of the literals described so it is
abbrev pub OpFits : Operand → Value → Type 0
OpFits Any d = Unit {0}
OpFits (Of wanted.Integer) (value.Integer low high) = Unit {0}
OpFits (Of wanted.Text) (value.Text m) = m.missing ≡ false
OpFits (Of wanted.Function) (value.Function f) = Unit {0}
OpFits (Of wanted.TextOrMissing) (value.Text m) = Unit {0}
OpFits _ _ = ⊥

-- the numbers on top fit the operands, and `below` are the numbers below them
abbrev pub TopsFit : List Value → List Operand → List ℕ → List ℕ → Type 0
TopsFit ds [] is below = is ≡ below
TopsFit ds (operand ∷ more) [] below = ⊥
TopsFit ds (operand ∷ more) (i ∷ is) below = OpFits operand (slice_index_or ds i Unknown) × TopsFit ds more is below

-- the operands were taken, and fit; `b` is what is left below them
pub record Taken (operands : List Operand) (a b : Abstract) : Type 0 where
  pub fits : TopsFit a.values operands a.stack b.stack
  pub rest : b ≡ with_stack b.stack a
  pub room : length b.stack < 1000

-- some of the operands, the first ones, were taken: if the others fit what is left, all of them fit
pub record TakenSoFar (operands others : List Operand) (a b : Abstract) : Type 0 where
  pub fits : (below : List ℕ) → TopsFit a.values others b.stack below → TopsFit a.values operands a.stack below
  pub rest : b ≡ with_stack b.stack a
  pub room : length b.stack < 1000

-- what is left below operands, with a literal of which this is known, if one is pushed
abbrev pub with_result : Option Value → Abstract → Abstract
with_result None below = below
with_result (Some d) below = pushing_new d below

-- what follows operands that were taken, with what is pushed in their place, was added to others
pub record Followed (taken : Option Abstract) (pushes : Option Value) (before after : List Abstract) : Type 0 where
  pub below : Abstract
  pub is : taken ≡ Some below
  pub added : Added (with_result pushes below) before after

-- the rule of a function of which no more need be known: where its operands fit, it leads to what it pushes in their place
pub record PlainRule (function : BuiltIn) (plain : Plain) : Type 0 where
  pub rule : (a : Abstract) (below : List ℕ) (after : List Abstract) → length below < 1000 → (plain.needs_entry ≡ true → a.entry ≡ true)
      → Into (with_result plain.pushes (with_stack below a)) after → TopsFit a.values (row function).operands a.stack below
      → RuleNow (callee.BuiltIn function) a after

-- the two numbers on top, and what is known of each; `b` is what is left below them
pub record TwoAre (a : Abstract) (j i : ℕ) (d c : Value) (b : Abstract) : Type 0 where
  pub stack : a.stack ≡ j ∷ i ∷ b.stack
  pub rest : b ≡ with_stack b.stack a
  pub first : slice_index_or a.values j Unknown ≡ d
  pub second : slice_index_or a.values i Unknown ≡ c
  pub room : length a.stack < 1000

-- after a comparison of the number `i` and of `j`, which is on top: what is so where it answers 1 was added, and then what is so where it answers 0;
-- `c` and `d` are known of `i` and `j` where it answers 1, and `c'` and `d'` where it answers 0
pub record BothAnswers (b : Abstract) (j i : ℕ) (c d c' d' : Value) (before after : List Abstract) : Type 0 where
  pub between : List Abstract
  pub so : Added (pushing_new (exactly (pos 1)) (knowing j d (knowing i c b))) before between
  pub other : Added (pushing_new (exactly (pos 0)) (knowing j d' (knowing i c' b))) between after

-- two integers, or two strings that are there: what `=` compares
abbrev pub Comparable : Value → Value → Type 0
Comparable (value.Integer low high) (value.Integer low2 high2) = Unit {0}
Comparable (value.Text m) (value.Text n) = (m.missing ≡ false) × (n.missing ≡ false)
Comparable _ _ = ⊥

-- the three numbers on top, and what is known of each; `b` is what is left below them
pub record ThreeAre (a : Abstract) (k j i : ℕ) (g f n : Value) (b : Abstract) : Type 0 where
  pub stack : a.stack ≡ k ∷ j ∷ i ∷ b.stack
  pub rest : b ≡ with_stack b.stack a
  pub first : slice_index_or a.values k Unknown ≡ g
  pub second : slice_index_or a.values j Unknown ≡ f
  pub third : slice_index_or a.values i Unknown ≡ n
  pub room : length a.stack < 1000

-- from `a`, the step of a function leads to the descriptions that there are after it
pub record Ruled (f : Callee) (a : Abstract) (before after : List Abstract) : Type 0 where
  pub rule : Rule f a after
  pub sub : Sub before after

-- from each of `xs`, a token leads to the descriptions that there are after it
pub record Stepped (style : Style) (allowed : List ℕ) (t : Token) (xs : List Abstract) (deep loops : ℕ) (before after : List Abstract) : Type 0 where
  pub steps : RunsFrom style allowed t xs deep loops after
  pub sub : Sub before after

-- after the first tokens of a body: whatever the rest of it does from `xs`, the whole does from `a`
pub record Reached (style : Style) (allowed : List ℕ) (body rest : List Token) (a : Abstract) (deep loops : ℕ) (xs : List Abstract) : Type 0 where
  pub reached : (zs : List Abstract) → BodyRuns style allowed rest xs deep loops zs → BodyRuns style allowed body (a ∷ []) deep loops zs

-- the test of a loop, from each of `xs`, leads to the descriptions that there are after it
pub record TurnedInto (xs : List Abstract) (again ends again' ends' : List Abstract) : Type 0 where
  pub turned : Turned xs again' ends'
  pub again_sub : Sub again again'
  pub ends_sub : Sub ends ends'

-- a loop that begins in `b`: its heads are closed, and where it ends is among the descriptions that there are after it
pub record Looped (style : Style) (allowed : List ℕ) (b : Abstract) (f g : Callee) (deep loops : ℕ) (before after : List Abstract) : Type 0 where
  pub heads : List Abstract
  pub tests : List Abstract
  pub again : List Abstract
  pub ends : List Abstract
  pub into : Into b heads
  pub closed : Closed style allowed heads f g deep loops tests again ends
  pub ends_sub : Sub ends after
  pub sub : Sub before after

-- from `a`, each function of these types leads to the descriptions that there are after it
pub record TypesStepped (style : Style) (allowed numbers : List ℕ) (a : Abstract) (deep loops : ℕ) (before after : List Abstract) : Type 0 where
  pub steps : (number : ℕ) → is_among numbers number ≡ true → RunsFrom style allowed (token.Run (callee.User number)) (a ∷ []) deep loops after
  pub sub : Sub before after
