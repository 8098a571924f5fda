-- What the checker sees to. A certificate claims for each function of a style how many steps a call of it takes at most; 0 claims nothing. Each claim is checked
-- by the function's own body and the claims of what it calls. A call takes a step itself, so a function that calls itself, or one that calls it, bears no claim out.
-- For loops it claims how great a global integer variable can be, which functions are the test of a loop that counts it down, and which are its body.
use Rattle.std.specs.Prelude.{◌≡◌, ℕ, zero, suc, ◌+◌, ◌-◌, ◌*◌, ◌^◌, ◌≤◌, ◌<◌, ◌≢◌, pos, negsuc, ◌≤ℤ◌, List, [], ◌∷◌, length, Bool, Some, true, codes, slice_index_or, ◌⊎◌}
use Rattle.btx_bst.specs.declared.built_in.BuiltIn.{BuiltIn}
use Rattle.btx_bst.specs.declared.built_in.BuiltIn.TheVariants as built_in
use Rattle.btx_bst.specs.declared.callee.Callee.{Callee}
use Rattle.btx_bst.specs.declared.callee.Callee.TheVariants as callee
use Rattle.btx_bst.specs.declared.token.Token.{Token}
use Rattle.btx_bst.specs.declared.token.Token.TheVariants as token
use Rattle.btx_bst.specs.declared.token.Token.TheVariants.{Quote, Run}
use Rattle.btx_bst.specs.language.Items.{Item}
use Rattle.btx_bst.specs.language.Items as item
use Rattle.btx_bst.specs.language.Style.{Style, type_of}
use Rattle.btx_ends.specs.declared.known.Known.{Known}
use Rattle.btx_ends.specs.declared.known.Known.TheVariants as known
use Rattle.btx_ends.specs.declared.measures.Measure.{Measure}
use Rattle.btx_ends.specs.declared.measures.Effect.{Effect}
use Rattle.btx_ends.specs.declared.measures.Effect.TheVariants as effect
use Rattle.btx_ends.specs.declared.measures.Kind.{Kind}
use Rattle.btx_ends.specs.Counters.{above_zero_test}
use Rattle.btx_ends.specs.Ends.{is_among, StyleEnds}
use Rattle.btx_ends.specs.Keeping.{BodiesKeep, BodyCounts}
use Rattle.btx_ends.specs.declared.measures.Walk.{Walk}
use Rattle.btx_ends.specs.Shortening.{Tells, body_of, KindsHold, EffectsHold}
use Rattle.btx_ends.specs.Walking.{TellsPart, place_measure, size_measure, MovesHold}
use Rattle.btx_ends.specs.declared.measures.Limit.{Limit}
use Rattle.btx_ends.specs.declared.measures.Limit.TheVariants as limit
use Rattle.btx_ends.specs.declared.measures.Climb.{Climb}
use Rattle.btx_ends.specs.Climbing.{TellsBelow, Raises}
use Rattle.btx_ends.specs.Descending.{Asks, Lowers}
use Rattle.btx_ends.specs.declared.measures.Replacement.{Replacement}
use Rattle.btx_ends.specs.Replacing.{TellsTop, text_measure, Replaces}

-- what a certificate claims of a style
pub record Claims : Type 0 where
  -- of each function, by its number, the most steps that a call of it takes; 0 claims nothing
  pub costs : List ℕ
  -- the most steps that the function takes which `call.type$` calls
  pub types : ℕ
  -- of each global integer variable, by its number, one more than its greatest value; 0 claims nothing
  pub bounds : List ℕ
  -- of each function, by its number, one more than the number of the global integer variable v of which it is the test `{v #0 >}`; 0 claims nothing
  pub tests : List ℕ
  -- of each function, by its number, one more than the number of the global integer variable that it counts down; 0 claims nothing
  pub counts : List ℕ
  -- of each function, by its number, one more than the number of the measure by which it tells whether a loop may go on; 0 claims nothing
  pub ends : List ℕ
  -- of each function, by its number, one more than the number of the measure that it lessens; 0 claims nothing
  pub shortens : List ℕ
  -- of each function, by its number, one more than the number of the walk of which it is the test; 0 claims nothing
  pub parts : List ℕ
  -- of each function, by its number, one more than the number of the walk whose place it moves on; 0 claims nothing
  pub moves : List ℕ
  -- of each function, by its number, one more than the number of the climb of which it is the test; 0 claims nothing
  pub limits : List ℕ
  -- of each function, by its number, one more than the number of the climb whose place it raises; 0 claims nothing
  pub raises : List ℕ
  -- of each function, by its number, whether it is the test of a loop that counts down an integer on top of the stack; 0 claims nothing
  pub asks : List ℕ
  -- of each function, by its number, whether it makes such an integer less; 0 claims nothing
  pub lowers : List ℕ
  -- of each function, by its number, whether it is the test of a loop over a text on top of the stack; 0 claims nothing
  pub filled : List ℕ
  -- of each function, by its number, one more than the number of the replacement that it makes of such a text; 0 claims nothing
  pub replaces : List ℕ
  -- how many global integer variables there are at least
  pub integers : ℕ
  -- how many bytes a global string variable keeps at most
  pub kept : ℕ

-- ---- what is known of the literals on top of the stack

-- .. of the value of a global integer variable, by the claim on it
abbrev pub known_value : ℕ → Known
known_value zero = known.Anything
known_value (suc most) = known.AtMost most

-- .. of a sum: an integer of 32 bits, whatever the operands are. If it didn't fit, it is 0
abbrev pub known_sum : Known
known_sum = known.AtMost (2 ^ 31)

-- .. of a difference: an integer that isn't below 0 may be taken from one that is at most so great
abbrev pub known_difference : Known → Known → Known
known_difference (known.Integer (pos n)) (known.AtMost most) = known.AtMost most
known_difference _ _ = known_sum

-- .. of the number of names of a string that a variable keeps
abbrev pub known_names : ℕ → Known → Known
known_names kept known.Kept = known.AtMost (suc kept)
known_names kept _ = known.Anything

-- .. of what a built-in function pushes
abbrev pub known_result : Claims → Known → Known → BuiltIn → Known
known_result claims top below built_in.Plus = known_sum
known_result claims top below built_in.Minus = known_difference top below
known_result claims top below built_in.NumNames = known_names claims.kept top
known_result claims top below _ = known.Anything

-- .. of what stands on top after a token, from what is known of the two literals before it
abbrev pub top_after : Claims → Known → Known → Token → Known
top_after claims top below (Quote f) = known.Function f
top_after claims top below (token.Integer n) = known.Integer n
top_after claims top below (Run (callee.GlobalInteger v)) = known_value (slice_index_or claims.bounds v 0)
top_after claims top below (Run (callee.GlobalString i)) = known.Kept
top_after claims top below (Run (callee.BuiltIn f)) = known_result claims top below f
top_after claims top below _ = known.Anything

-- .. and of what stands below that: after a literal or a variable is pushed, what stood on top
abbrev pub below_after : Known → Token → Known
below_after top (Quote f) = top
below_after top (token.Integer n) = top
below_after top (Run (callee.GlobalInteger v)) = top
below_after top (Run (callee.GlobalString i)) = top
below_after top _ = known.Anything

-- ---- steps

-- what is executed under a name takes at most `most` steps, by the claims on the style's functions, and where `call.type$` calls none that takes more than is
-- claimed. A function of the style takes what is claimed of it; an `if$` or a `while$` isn't judged by its name alone, and an `:=` only where nothing is claimed of
-- variables; all else takes a step
abbrev pub CalleeWithin : Claims → ℕ → Callee → Type 0
CalleeWithin claims most (callee.BuiltIn built_in.If) = ⊥
CalleeWithin claims most (callee.BuiltIn built_in.While) = ⊥
CalleeWithin claims most (callee.BuiltIn built_in.Assign) = (length claims.bounds ≡ 0) × (1 ≤ most)
CalleeWithin claims most (callee.BuiltIn built_in.CallType) = claims.types < most
CalleeWithin claims most (callee.User number) = (0 < slice_index_or claims.costs number 0) × (slice_index_or claims.costs number 0 ≤ most)
CalleeWithin claims most _ = 1 ≤ most

-- an `if$` over two functions takes at most `most` steps: its own step, and what the dearer one takes
abbrev pub DearerWithin : Claims → ℕ → Callee → Callee → Type 0
DearerWithin claims most top below = (cost : ℕ) × ((cost < most) × (CalleeWithin claims cost top × CalleeWithin claims cost below))

-- .. where the two are known to stand on top of the stack
abbrev pub ChoiceWithin : Claims → ℕ → Known → Known → Type 0
ChoiceWithin claims most (known.Function top) (known.Function below) = DearerWithin claims most top below
ChoiceWithin claims most _ _ = ⊥

-- a loop that counts a variable down takes at most `most` steps: its own step, and for each turn, of which there is one more than the variable's greatest value, 4
-- steps of the test and those of the body
abbrev pub CountedWithin : Claims → ℕ → ℕ → ℕ → Type 0
CountedWithin claims most body test =
    let counted = slice_index_or claims.tests test 0 in
    let turns = slice_index_or claims.bounds (counted - 1) 0 in
    let cost = slice_index_or claims.costs body 0 in
    (0 < counted) × ((slice_index_or claims.counts body 0 ≡ counted) × ((0 < turns) × ((0 < cost) × (turns * (4 + cost) < most))))

-- a loop of which each turn makes a text shorter or sets a flag takes at most `most` steps: its own step, and for each turn, of which there is one more than a
-- string variable keeps bytes, those of the test and of the body
abbrev pub ShortenedWithin : Claims → ℕ → ℕ → ℕ → Type 0
ShortenedWithin claims most body test =
    let ended = slice_index_or claims.ends test 0 in
    let of_test = slice_index_or claims.costs test 0 in
    let of_body = slice_index_or claims.costs body 0 in
    (0 < ended) × ((slice_index_or claims.shortens body 0 ≡ ended) × ((0 < of_test) × ((0 < of_body) × ((claims.kept + 1) * (of_test + of_body) < most))))

-- a loop that walks along a text takes at most `most` steps: its own step, and for each turn, of which there is one more than twice the bytes that a string
-- variable keeps, those of the test and of the body
abbrev pub WalkedWithin : Claims → ℕ → ℕ → ℕ → Type 0
WalkedWithin claims most body test =
    let told = slice_index_or claims.parts test 0 in
    let of_test = slice_index_or claims.costs test 0 in
    let of_body = slice_index_or claims.costs body 0 in
    (0 < told) × ((slice_index_or claims.moves body 0 ≡ told) × ((0 < of_test) × ((0 < of_body) × ((2 * claims.kept + 1) * (of_test + of_body) < most))))

-- a loop that counts a variable up to a limit takes at most `most` steps: its own step, and for each turn, of which there is one more than 2^32, those of the test
-- and of the body
abbrev pub ClimbedWithin : Claims → ℕ → ℕ → ℕ → Type 0
ClimbedWithin claims most body test =
    let told = slice_index_or claims.limits test 0 in
    let of_test = slice_index_or claims.costs test 0 in
    let of_body = slice_index_or claims.costs body 0 in
    (0 < told) × ((slice_index_or claims.raises body 0 ≡ told) × ((0 < of_test) × ((0 < of_body) × ((2 ^ 32 + 1) * (of_test + of_body) < most))))

-- a loop that counts an integer down which stands on top of the stack takes at most `most` steps: its own step, and for each turn, of which there is one more than
-- 2^31, those of the test and of the body. After the first turn the integer is the result of a difference, and so below 2^31
abbrev pub LoweredWithin : Claims → ℕ → ℕ → ℕ → Type 0
LoweredWithin claims most body test =
    let of_test = slice_index_or claims.costs test 0 in
    let of_body = slice_index_or claims.costs body 0 in
    (0 < slice_index_or claims.asks test 0) × ((0 < slice_index_or claims.lowers body 0)
    × ((0 < of_test) × ((0 < of_body) × ((2 ^ 31 + 1) * (of_test + of_body) < most))))

-- a loop that puts a shorter text in the place of one on top of the stack takes at most `most` steps: its own step, and for each turn, of which there are two more
-- than a string variable keeps bytes, those of the test and of the body. After the first turn the text is that of a variable
abbrev pub ReplacedWithin : Claims → ℕ → ℕ → ℕ → Type 0
ReplacedWithin claims most body test =
    let of_test = slice_index_or claims.costs test 0 in
    let of_body = slice_index_or claims.costs body 0 in
    (0 < slice_index_or claims.filled test 0) × ((0 < slice_index_or claims.replaces body 0)
    × ((0 < of_test) × ((0 < of_body) × ((claims.kept + 2) * (of_test + of_body) < most))))

-- a loop of one of these kinds
abbrev pub TurnsWithin : Claims → ℕ → ℕ → ℕ → Type 0
TurnsWithin claims most body test =
    CountedWithin claims most body test
    ⊎ (ShortenedWithin claims most body test ⊎ (WalkedWithin claims most body test ⊎ (ClimbedWithin claims most body test
    ⊎ (LoweredWithin claims most body test ⊎ ReplacedWithin claims most body test))))

-- .. where its body and its test are known to stand on top of the stack
abbrev pub LoopWithin : Claims → ℕ → Known → Known → Type 0
LoopWithin claims most (known.Function (callee.User body)) (known.Function (callee.User test)) = TurnsWithin claims most body test
LoopWithin claims most _ _ = ⊥

-- a value that is assigned is no greater than is claimed of the variable
abbrev pub ValueWithin : ℕ → Known → Type 0
ValueWithin zero value = Unit {0}
ValueWithin (suc most) (known.AtMost n) = n ≤ most
ValueWithin (suc most) (known.Integer (pos n)) = n ≤ most
ValueWithin (suc most) (known.Integer (negsuc n)) = Unit {0}
ValueWithin (suc most) _ = ⊥

-- what `:=` assigns keeps the claims on variables: the variable is known, and so is its value if something is claimed of it; or nothing is claimed of any
abbrev pub AssignsWithin : Claims → Known → Known → Type 0
AssignsWithin claims (known.Function (callee.GlobalInteger v)) value = ValueWithin (slice_index_or claims.bounds v 0) value
AssignsWithin claims (known.Function f) value = Unit {0}
AssignsWithin claims _ value = length claims.bounds ≡ 0

-- a token takes at most `most` steps, where this is known of the literal on top of the stack and of the one below it
abbrev pub StepWithin : Claims → Known → Known → Token → ℕ → Type 0
StepWithin claims top below (Run (callee.BuiltIn built_in.If)) most = ChoiceWithin claims most top below
StepWithin claims top below (Run (callee.BuiltIn built_in.While)) most = LoopWithin claims most top below
StepWithin claims top below (Run (callee.BuiltIn built_in.Assign)) most = AssignsWithin claims top below × (1 ≤ most)
StepWithin claims top below (Run f) most = CalleeWithin claims most f
StepWithin claims top below _ most = 1 ≤ most

-- tokens one after another take at most `most` steps
abbrev pub TokensWithin : Claims → Known → Known → List Token → ℕ → Type 0
TokensWithin claims top below [] most = Unit {0}
TokensWithin claims top below (x ∷ rest) most =
    (first : ℕ) × ((others : ℕ) × (StepWithin claims top below x first
    × ((first + others ≤ most) × TokensWithin claims (top_after claims top below x) (below_after top x) rest others)))

-- a claim on a function holds of its body: a call takes a step, and then the body's
abbrev pub BodyWithin : Claims → List Token → ℕ → Type 0
BodyWithin claims body zero = Unit {0}
BodyWithin claims body (suc most) = TokensWithin claims known.Anything known.Anything body most

-- an item of a style takes at most `once` steps, and `each` more for each entry: only EXECUTE, ITERATE and REVERSE take steps
abbrev pub ItemWithin : Claims → Item → ℕ → ℕ → Type 0
ItemWithin claims (item.Execute f) once each = CalleeWithin claims once f
ItemWithin claims (item.Iterate f) once each = CalleeWithin claims each f
ItemWithin claims (item.Reverse f) once each = CalleeWithin claims each f
ItemWithin claims _ once each = Unit {0}

-- items one after another take at most `once` steps, and `each` more for each entry: what the first takes, and what the others take
abbrev pub ItemsWithin : Claims → List Item → ℕ → ℕ → Type 0
ItemsWithin claims [] once each = Unit {0}
ItemsWithin claims (x ∷ rest) once each =
    (first_once : ℕ) × ((first_each : ℕ) × ((others_once : ℕ) × ((others_each : ℕ) × (ItemWithin claims x first_once first_each
    × ((first_once + others_once ≤ once) × ((first_each + others_each ≤ each) × ItemsWithin claims rest others_once others_each))))))

-- ---- the claims on a style

-- all claims on costs hold of the style's bodies
abbrev pub BodiesWithin : Claims → Style → Type 0
BodiesWithin claims style = (number : ℕ) → BodyWithin claims (slice_index_or style.bodies number []) (slice_index_or claims.costs number 0)

-- no function of an allowed type takes more than is claimed of all of these
abbrev pub OwnWithin : Claims → List ℕ → Type 0
OwnWithin claims allowed = (number : ℕ) → is_among allowed number ≡ true → CalleeWithin claims claims.types (callee.User number)

-- nor does `default.type`
abbrev pub DefaultWithin : Claims → Style → Type 0
DefaultWithin claims style = (number : ℕ) → type_of style (codes "default.type") ≡ Some number → CalleeWithin claims claims.types (callee.User number)

-- a function is the test that it is claimed to be
abbrev pub TestHolds : ℕ → List Token → Type 0
TestHolds zero body = Unit {0}
TestHolds (suc v) body = body ≡ above_zero_test v

-- all claims on tests hold of the style's bodies
abbrev pub TestsHold : List ℕ → Style → Type 0
TestsHold tests style = (number : ℕ) → TestHolds (slice_index_or tests number 0) (slice_index_or style.bodies number [])

-- a function counts the variable down that it is claimed to count down
abbrev pub CountHolds : Style → ℕ → List Token → Type 0
CountHolds style zero body = Unit {0}
CountHolds style (suc v) body = (keeps : ℕ → Bool) × (BodyCounts keeps v body × BodiesKeep true keeps v style)

-- all claims on counting down hold of the style's bodies
abbrev pub CountsHold : List ℕ → Style → Type 0
CountsHold counts style = (number : ℕ) → CountHolds style (slice_index_or counts number 0) (slice_index_or style.bodies number [])

-- a function tells whether a loop may go on by the measure that is claimed
abbrev pub EndHolds : Style → (ℕ → Measure) → ℕ → ℕ → Type 0
EndHolds style measures zero number = Unit {0}
EndHolds style measures (suc k) number = Tells style (measures k).text (measures k).flag (body_of style number)

-- a function lessens a measure, by what is said of all functions
abbrev pub LessensBy : Style → Measure → (ℕ → Kind) → (ℕ → Effect) → ℕ → Type 0
LessensBy style m kinds effects number =
    KindsHold style kinds × (EffectsHold style m kinds effects × (effects number ≡ effect.Shortens))

-- a function lessens the measure that is claimed
abbrev pub ShortenHolds : Style → (ℕ → Measure) → ℕ → ℕ → Type 0
ShortenHolds style measures zero number = Unit {0}
ShortenHolds style measures (suc k) number = (kinds : ℕ → Kind) × ((effects : ℕ → Effect) × LessensBy style (measures k) kinds effects number)

-- .. and so do all
abbrev pub EndsHold : Style → (ℕ → Measure) → List ℕ → Type 0
EndsHold style measures ends = (number : ℕ) → EndHolds style measures (slice_index_or ends number 0) number

abbrev pub ShortensHold : Style → (ℕ → Measure) → List ℕ → Type 0
ShortensHold style measures shortens = (number : ℕ) → ShortenHolds style measures (slice_index_or shortens number 0) number

-- each flag is a variable that is there
abbrev pub FlagsHold : (ℕ → Measure) → ℕ → Type 0
FlagsHold measures integers = (k : ℕ) → (measures k).flag ≤ integers

-- the measures of a list, by their numbers
abbrev pub measures_by : List Measure → ℕ → Measure
measures_by measures k = slice_index_or measures k (record { text = 0; flag = 0; word = 0 })

-- all claims on loops over texts hold
abbrev pub TextsHold : Claims → Style → Type 0
TextsHold claims style =
    (measures : ℕ → Measure) × (EndsHold style measures claims.ends × (ShortensHold style measures claims.shortens
    × (FlagsHold measures claims.integers × (claims.integers ≤ length style.names.global_integers))))

-- a function is the test of the walk that is claimed, and the walk's place and size are variables that are there
abbrev pub PartHolds : Style → (ℕ → Walk) → ℕ → ℕ → ℕ → Type 0
PartHolds style walks integers zero number = Unit {0}
PartHolds style walks integers (suc k) number =
    TellsPart style (walks k) (body_of style number) × (((walks k).place < integers) × ((walks k).size < integers))

-- functions do to the text, the place and the size of a walk what is said of them
abbrev pub WalkEffectsHold : Style → Walk → (ℕ → Kind) → (ℕ → Effect) → (ℕ → Effect) → Type 0
WalkEffectsHold style walk kinds places sizes =
    EffectsHold style (place_measure walk) kinds places × EffectsHold style (size_measure walk) kinds sizes

-- a function moves the place of a walk on, by what is said of all functions
abbrev pub MovesBy : Style → Walk → (ℕ → Kind) → (ℕ → Effect) → (ℕ → Effect) → (ℕ → Bool) → ℕ → Type 0
MovesBy style walk kinds places sizes moves number =
    KindsHold style kinds × (WalkEffectsHold style walk kinds places sizes
    × (MovesHold style walk kinds places sizes moves × (moves number ≡ true)))

-- a function moves the place on of the walk that is claimed
abbrev pub MoveHolds : Style → (ℕ → Walk) → ℕ → ℕ → Type 0
MoveHolds style walks zero number = Unit {0}
MoveHolds style walks (suc k) number =
    (kinds : ℕ → Kind) × ((places : ℕ → Effect) × ((sizes : ℕ → Effect) × ((moves : ℕ → Bool) × MovesBy style (walks k) kinds places sizes moves number)))

-- .. and so do all
abbrev pub PartsHold : Style → (ℕ → Walk) → ℕ → List ℕ → Type 0
PartsHold style walks integers parts = (number : ℕ) → PartHolds style walks integers (slice_index_or parts number 0) number

abbrev pub AllMove : Style → (ℕ → Walk) → List ℕ → Type 0
AllMove style walks moves = (number : ℕ) → MoveHolds style walks (slice_index_or moves number 0) number

-- the walks of a list, by their numbers
abbrev pub walks_by : List Walk → ℕ → Walk
walks_by walks k = slice_index_or walks k (record { text = 0; place = 0; size = 0 })

-- all claims on loops that walk along texts hold
abbrev pub WalksHold : Claims → Style → Type 0
WalksHold claims style = (walks : ℕ → Walk) × (PartsHold style walks claims.integers claims.parts × AllMove style walks claims.moves)

-- a limit is below 2^31, and a limit that is a variable isn't the place
abbrev pub LimitWithin : Claims → Walk → Limit → Type 0
LimitWithin claims walk limit.Size =
    (0 < slice_index_or claims.bounds walk.size 0) × ((slice_index_or claims.bounds walk.size 0 ≤ 2 ^ 31) × (walk.size ≢ walk.place))
LimitWithin claims walk limit.Length = claims.kept < 2 ^ 31
LimitWithin claims walk (limit.Number n) = n ≤ℤ pos (2 ^ 30)

-- a function is the test of the climb that is claimed, and the climb's place and size are variables that are there
abbrev pub LimitHolds : Claims → Style → (ℕ → Climb) → ℕ → ℕ → Type 0
LimitHolds claims style climbs zero number = Unit {0}
LimitHolds claims style climbs (suc k) number =
    TellsBelow style (climbs k) (body_of style number) × (((climbs k).walk.place < claims.integers) × (((climbs k).walk.size < claims.integers)
    × LimitWithin claims (climbs k).walk (climbs k).limit))

-- a function raises the place of a climb, by what is said of all functions
abbrev pub RaisesBy : Style → Climb → (ℕ → Kind) → (ℕ → Effect) → (ℕ → Effect) → ℕ → Type 0
RaisesBy style climb kinds places sizes number =
    KindsHold style kinds × (WalkEffectsHold style climb.walk kinds places sizes × Raises style climb kinds places sizes (body_of style number))

-- a function raises the place of the climb that is claimed
abbrev pub RaiseHolds : Style → (ℕ → Climb) → ℕ → ℕ → Type 0
RaiseHolds style climbs zero number = Unit {0}
RaiseHolds style climbs (suc k) number =
    (kinds : ℕ → Kind) × ((places : ℕ → Effect) × ((sizes : ℕ → Effect) × RaisesBy style (climbs k) kinds places sizes number))

-- .. and so do all
abbrev pub LimitsHold : Claims → Style → (ℕ → Climb) → List ℕ → Type 0
LimitsHold claims style climbs limits = (number : ℕ) → LimitHolds claims style climbs (slice_index_or limits number 0) number

abbrev pub AllRaise : Style → (ℕ → Climb) → List ℕ → Type 0
AllRaise style climbs raises = (number : ℕ) → RaiseHolds style climbs (slice_index_or raises number 0) number

-- the climbs of a list, by their numbers
abbrev pub climbs_by : List Climb → ℕ → Climb
climbs_by climbs k = slice_index_or climbs k (record { walk = record { text = 0; place = 0; size = 0 }; limit = limit.Size })

-- all claims on loops that count up hold
abbrev pub ClimbsHold : Claims → Style → Type 0
ClimbsHold claims style = (climbs : ℕ → Climb) × (LimitsHold claims style climbs claims.limits × AllRaise style climbs claims.raises)

-- a function is the test that it is claimed to be of a loop over an integer on top of the stack
abbrev pub AskHolds : (ℕ → Kind) → ℕ → List Token → Type 0
AskHolds kinds zero body = Unit {0}
AskHolds kinds (suc k) body = Asks kinds body

-- a function makes that integer less, if it is claimed to
abbrev pub LowerHolds : (ℕ → Kind) → ℕ → List Token → Type 0
LowerHolds kinds zero body = Unit {0}
LowerHolds kinds (suc k) body = Lowers kinds body

-- .. and so do all
abbrev pub AsksHold : Style → (ℕ → Kind) → List ℕ → Type 0
AsksHold style kinds asks = (number : ℕ) → AskHolds kinds (slice_index_or asks number 0) (slice_index_or style.bodies number [])

abbrev pub LowersHold : Style → (ℕ → Kind) → List ℕ → Type 0
LowersHold style kinds lowers = (number : ℕ) → LowerHolds kinds (slice_index_or lowers number 0) (slice_index_or style.bodies number [])

-- all claims on loops hold that count an integer down which stands on top of the stack
abbrev pub DescendingHolds : Claims → Style → Type 0
DescendingHolds claims style =
    (kinds : ℕ → Kind) × (KindsHold style kinds × (AsksHold style kinds claims.asks × LowersHold style kinds claims.lowers))

-- a function is the test that it is claimed to be of a loop over a text on top of the stack
abbrev pub FilledHolds : Style → ℕ → ℕ → Type 0
FilledHolds style zero number = Unit {0}
FilledHolds style (suc k) number = TellsTop style (body_of style number)

-- a function puts a shorter text in the place of that one, by what is said of all functions
abbrev pub ReplacesBy : Style → Replacement → (ℕ → Kind) → (ℕ → Effect) → (ℕ → Effect) → ℕ → Type 0
ReplacesBy style r kinds texts givens number =
    KindsHold style kinds × (EffectsHold style (text_measure r.text) kinds texts × (EffectsHold style (text_measure r.given) kinds givens
    × Replaces style r kinds texts givens (body_of style number)))

-- a function makes the replacement that is claimed
abbrev pub ReplaceHolds : Style → (ℕ → Replacement) → ℕ → ℕ → Type 0
ReplaceHolds style replacements zero number = Unit {0}
ReplaceHolds style replacements (suc k) number =
    (kinds : ℕ → Kind) × ((texts : ℕ → Effect) × ((givens : ℕ → Effect) × ReplacesBy style (replacements k) kinds texts givens number))

-- .. and so do all
abbrev pub AllFilled : Style → List ℕ → Type 0
AllFilled style filled = (number : ℕ) → FilledHolds style (slice_index_or filled number 0) number

abbrev pub AllReplace : Style → (ℕ → Replacement) → List ℕ → Type 0
AllReplace style replacements replaces = (number : ℕ) → ReplaceHolds style replacements (slice_index_or replaces number 0) number

-- the replacements of a list, by their numbers
abbrev pub replacements_by : List Replacement → ℕ → Replacement
replacements_by replacements k = slice_index_or replacements k (record { text = 0; given = 0 })

-- all claims on loops over a text on top of the stack hold
abbrev pub ReplacingHolds : Claims → Style → Type 0
ReplacingHolds claims style =
    (replacements : ℕ → Replacement) × (AllFilled style claims.filled × AllReplace style replacements claims.replaces)

-- nothing is claimed of `entry.max$` and `global.max$`, which don't begin with 0
abbrev pub FirstUnclaimed : List ℕ → Type 0
FirstUnclaimed bounds = (slice_index_or bounds 0 0 ≡ 0) × (slice_index_or bounds 1 0 ≡ 0)

-- all claims on the costs of functions hold
abbrev pub FunctionsWithin : Claims → List ℕ → Style → Type 0
FunctionsWithin claims allowed style = BodiesWithin claims style × (OwnWithin claims allowed × DefaultWithin claims style)

-- all claims on loops and variables hold
abbrev pub LoopsHold : Claims → Style → Type 0
LoopsHold claims style =
    TestsHold claims.tests style × (CountsHold claims.counts style × (FirstUnclaimed claims.bounds × (TextsHold claims style
    × (WalksHold claims style × (ClimbsHold claims style × (DescendingHolds claims style × ReplacingHolds claims style))))))

-- THE LAW: a style of which a certificate's claims hold ends
abbrev pub ClaimsEnd : Type 0
ClaimsEnd = (style : Style) (allowed : List ℕ) (claims : Claims) (once each : ℕ) → FunctionsWithin claims allowed style → LoopsHold claims style
    → ItemsWithin claims style.items once each → StyleEnds style allowed claims.kept once each
