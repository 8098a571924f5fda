-- Loops that go on until a text is empty, or until a flag is set: each turn makes the text shorter, or sets the flag. Read off the tokens, as what keeps a variable.
use Rattle.std.specs.Prelude.{◌≡◌, ◌≢◌, ℕ, zero, suc, ◌<◌, ℤ, pos, negsuc, List, [], ◌∷◌, ◌++◌, length, Bool, true, false, not, ◌&&◌, ◌||◌, if◌then◌else◌, Option, Some, None}
use Rattle.std.specs.Prelude.{◌⊎◌, nat_eq, slice_get, slice_index_or, unwrap_or}
use Rattle.std.specs.Str.{bytes_eq}
use Rattle.btx_bst.specs.declared.built_in.BuiltIn.{BuiltIn}
use Rattle.btx_bst.specs.declared.built_in.BuiltIn.TheVariants as built_in
use Rattle.btx_bst.specs.declared.callee.Callee.{Callee}
use Rattle.btx_bst.specs.declared.callee.Callee.TheVariants as callee
use Rattle.btx_bst.specs.declared.token.Token.{Token}
use Rattle.btx_bst.specs.declared.token.Token.TheVariants as token
use Rattle.btx_bst.specs.declared.token.Token.TheVariants.{Quote, Run}
use Rattle.btx_bst.specs.language.Style.{Style}
use Rattle.btx_strings.specs.language.Positions.{substring_of}
use Rattle.btx_step.specs.language.Control.{is_positive}
use Rattle.btx_machine.specs.language.States.{State}
use Rattle.btx_ends.specs.declared.measures.Measure.{Measure}
use Rattle.btx_ends.specs.declared.measures.Effect.{Effect}
use Rattle.btx_ends.specs.declared.measures.Effect.TheVariants as effect
use Rattle.btx_ends.specs.declared.measures.Kind.{Kind}
use Rattle.btx_ends.specs.declared.measures.Kind.TheVariants as kind
use Rattle.btx_ends.specs.declared.measures.Seen.{Seen}
use Rattle.btx_ends.specs.declared.measures.Seen.TheVariants as seen
use Rattle.btx_ends.specs.declared.measures.Tops.{Tops}
use Rattle.btx_ends.specs.Counters.{value_in}

-- ---- what gets less

-- the value of a global string variable
abbrev pub text_in : ℕ → State → List ℕ
text_in i s = unwrap_or (slice_get s.store.strings i) []

-- the value of a flag, by one more than its variable's number; 0 is no flag, which is never set
abbrev pub flag_in : ℕ → State → ℤ
flag_in zero s = pos 0
flag_in (suc v) s = value_in v s

-- how often a loop may still turn: never once its flag is set, and else as often as its text has bytes
abbrev pub left_of : ℤ → List ℕ → ℕ
left_of flag text = if is_positive flag then 0 else length text

abbrev pub left_in : Measure → State → ℕ
left_in m s = left_of (flag_in m.flag s) (text_in m.text s)

-- the first byte of a text is this word
abbrev pub begins : List ℕ → List ℕ → Bool
begins word text = bytes_eq (substring_of text (pos 1) (pos 1)) word

-- ---- tests

-- a text of the style
abbrev pub word_of : Style → ℕ → List ℕ
word_of style number = slice_index_or style.texts number []

abbrev pub body_of : Style → ℕ → List Token
body_of style number = slice_index_or style.bodies number []

-- the tokens `{#0} {#1} if$`, and those of `and` and of `or`
abbrev pub not_choice : ℕ → ℕ → List Token
not_choice nought one = Quote (callee.User nought) ∷ Quote (callee.User one) ∷ Run (callee.BuiltIn built_in.If) ∷ []

abbrev pub and_choice : Callee → ℕ → List Token
and_choice skip nought = Quote skip ∷ Quote (callee.User nought) ∷ Run (callee.BuiltIn built_in.If) ∷ []

abbrev pub or_choice : Callee → ℕ → List Token
or_choice skip one = Quote (callee.User one) ∷ Quote skip ∷ Run (callee.BuiltIn built_in.If) ∷ []

-- .. an integer, alone or after `pop$`
abbrev pub integer_body : ℤ → List Token
integer_body n = token.Integer n ∷ []

abbrev pub pop_body : ℤ → List Token
pop_body n = Run (callee.BuiltIn built_in.Pop) ∷ token.Integer n ∷ []

-- a function is `{ {#0} {#1} if$ }`: 0 for what is above 0, and else 1
abbrev pub NotOf : Style → ℕ → ℕ → ℕ → Type 0
NotOf style number nought one =
    (body_of style number ≡ not_choice nought one) × ((body_of style nought ≡ integer_body (pos 0)) × (body_of style one ≡ integer_body (pos 1)))

abbrev pub IsNot : Style → ℕ → Type 0
IsNot style number = (nought : ℕ) × ((one : ℕ) × NotOf style number nought one)

-- a function does nothing: it is `skip$`, or `{skip$}`
abbrev pub skip_body : List Token
skip_body = Run (callee.BuiltIn built_in.Skip) ∷ []

abbrev pub IsSkip : Style → Callee → Type 0
IsSkip style f = (f ≡ callee.BuiltIn built_in.Skip) ⊎ ((number : ℕ) × ((f ≡ callee.User number) × (body_of style number ≡ skip_body)))

-- a function is `{ 'skip$ {pop$ #0} if$ }` or `{ {skip$} {pop$ #0} if$ }`: of two integers the lower one, if the other is above 0, and else 0
abbrev pub AndBy : Style → ℕ → Callee → ℕ → Type 0
AndBy style number skip nought =
    IsSkip style skip × ((body_of style number ≡ and_choice skip nought) × (body_of style nought ≡ pop_body (pos 0)))

abbrev pub AndOf : Style → ℕ → ℕ → Type 0
AndOf style number nought = (skip : Callee) × AndBy style number skip nought

abbrev pub IsAnd : Style → ℕ → Type 0
IsAnd style number = (nought : ℕ) × AndOf style number nought

-- the tokens `t empty$ not`
abbrev pub filled_test : ℕ → ℕ → List Token
filled_test t negation = Run (callee.GlobalString t) ∷ Run (callee.BuiltIn built_in.Empty) ∷ Run (callee.User negation) ∷ []

-- .. `v not t empty$ not and`
abbrev pub flag_test : ℕ → ℕ → ℕ → ℕ → List Token
flag_test v t negation conjunction =
    Run (callee.GlobalInteger v) ∷ Run (callee.User negation) ∷ Run (callee.GlobalString t) ∷ Run (callee.BuiltIn built_in.Empty)
    ∷ Run (callee.User negation) ∷ Run (callee.User conjunction) ∷ []

-- .. `t #1 #1 substring$ "w" =`
abbrev pub begins_test : ℕ → ℕ → List Token
begins_test t word =
    Run (callee.GlobalString t) ∷ token.Integer (pos 1) ∷ token.Integer (pos 1) ∷ Run (callee.BuiltIn built_in.Substring) ∷ token.Text word
    ∷ Run (callee.BuiltIn built_in.Equals) ∷ []

-- .. `t empty$ not t #1 #1 substring$ "w" = not and`
abbrev pub until_test : ℕ → ℕ → ℕ → ℕ → List Token
until_test t word negation conjunction =
    filled_test t negation ++ (begins_test t word ++ Run (callee.User negation) ∷ Run (callee.User conjunction) ∷ [])

-- .. `t #1 #1 substring$ "w" = not`
abbrev pub first_test : ℕ → ℕ → ℕ → List Token
first_test t word negation = begins_test t word ++ Run (callee.User negation) ∷ []

-- a body is a test that is true only where the text isn't empty
abbrev pub TellsFilled : Style → ℕ → List Token → Type 0
TellsFilled style t body = (negation : ℕ) × ((body ≡ filled_test t negation) × IsNot style negation)

abbrev pub TellsBegun : Style → ℕ → List Token → Type 0
TellsBegun style t body = (word : ℕ) × ((body ≡ begins_test t word) × (0 < length (word_of style word)))

abbrev pub TellsUntil : Style → ℕ → List Token → Type 0
TellsUntil style t body =
    (word : ℕ) × ((negation : ℕ) × ((conjunction : ℕ) × ((body ≡ until_test t word negation conjunction) × (IsNot style negation × IsAnd style conjunction))))

abbrev pub TellsFirst : Style → ℕ → List Token → Type 0
TellsFirst style t body =
    (word : ℕ) × ((negation : ℕ) × ((body ≡ first_test t word negation) × ((length (word_of style word) ≡ 0) × IsNot style negation)))

-- .. and the flag isn't set
abbrev pub TellsBoth : Style → ℕ → ℕ → List Token → Type 0
TellsBoth style v t body =
    (negation : ℕ) × ((conjunction : ℕ) × ((body ≡ flag_test v t negation conjunction) × (IsNot style negation × IsAnd style conjunction)))

-- a body is a test that is true only where the loop may still turn
abbrev pub Tells : Style → ℕ → ℕ → List Token → Type 0
Tells style t zero body = TellsFilled style t body ⊎ (TellsBegun style t body ⊎ (TellsUntil style t body ⊎ TellsFirst style t body))
Tells style t (suc v) body = TellsBoth style v t body

-- ---- what is known of literals

-- a function is `{ {pop$ #1} 'skip$ if$ }` or `{ {pop$ #1} {skip$} if$ }`: of two integers 1, if the upper one is above 0, and else the lower one
abbrev pub OrBy : Style → ℕ → Callee → ℕ → Type 0
OrBy style number skip one =
    IsSkip style skip × ((body_of style number ≡ or_choice skip one) × (body_of style one ≡ pop_body (pos 1)))

abbrev pub OrOf : Style → ℕ → ℕ → Type 0
OrOf style number one = (skip : Callee) × OrBy style number skip one

-- a function does with integers what is said of it
abbrev pub KindHolds : Style → Kind → ℕ → Type 0
KindHolds style kind.Other number = Unit {0}
KindHolds style kind.Not number = IsNot style number
KindHolds style kind.Or number = (one : ℕ) × OrOf style number one
KindHolds style kind.And number = IsAnd style number

abbrev pub KindsHold : Style → (ℕ → Kind) → Type 0
KindsHold style kinds = (number : ℕ) → KindHolds style (kinds number) number

-- what is known of the literals on top
abbrev pub tops_of : Seen → Seen → Seen → Seen → Tops
tops_of top below third fourth = record { top = top; below = below; third = third; fourth = fourth }

-- .. nothing
abbrev pub nothing_seen : Tops
nothing_seen = tops_of seen.Anything seen.Anything seen.Anything seen.Anything

-- a literal is pushed
abbrev pub push : Seen → Tops → Tops
push it tops = tops_of it tops.top tops.below tops.third

abbrev pub is_number : Seen → Bool
is_number (seen.Integer n) = true
is_number seen.Number = true
is_number seen.Begins = true
is_number it = false

abbrev pub is_text : Seen → Bool
is_text seen.Text = true
is_text (seen.Word w) = true
is_text seen.Whole = true
is_text seen.Start = true
is_text seen.Shorter = true
is_text it = false

-- .. of a part of the text, by its length and its start
abbrev pub part_of : Seen → ℤ → Seen
part_of (seen.Integer (pos (suc zero))) (pos (suc zero)) = seen.Start
part_of size (pos (suc (suc n))) = seen.Shorter
part_of size (negsuc (suc n)) = seen.Shorter
part_of size from = seen.Text

-- .. after `substring$`, of the text alone
abbrev pub part_seen : Tops → Seen → Seen → Tops
part_seen tops (seen.Integer start) seen.Whole =
    if is_number tops.top then tops_of (part_of tops.top start) tops.fourth seen.Anything seen.Anything else nothing_seen
part_seen tops from it = nothing_seen

-- .. after `=`, of strings alone
abbrev pub equal_seen : Style → Measure → Seen → Seen → Seen
equal_seen style m (seen.Word w) seen.Start = if bytes_eq (word_of style w) (word_of style m.word) then seen.Begins else seen.Number
equal_seen style m top below = seen.Number

abbrev pub compared_seen : Style → Measure → Tops → Tops
compared_seen style m tops =
    if is_text tops.top && is_text tops.below then tops_of (equal_seen style m tops.top tops.below) tops.third tops.fourth seen.Anything
    else nothing_seen

-- .. after `duplicate$` and `swap$`, of integers and strings alone
abbrev pub is_value : Seen → Bool
is_value it = is_number it || is_text it

abbrev pub doubled_seen : Tops → Tops
doubled_seen tops = if is_value tops.top then push tops.top tops else nothing_seen

abbrev pub swapped_seen : Tops → Tops
swapped_seen tops = if is_value tops.top && is_value tops.below then tops_of tops.below tops.top tops.third tops.fourth else nothing_seen

abbrev pub built_in_seen : Style → Measure → Tops → BuiltIn → Tops
built_in_seen style m tops built_in.Substring = part_seen tops tops.below tops.third
built_in_seen style m tops built_in.Equals = compared_seen style m tops
built_in_seen style m tops built_in.Duplicate = doubled_seen tops
built_in_seen style m tops built_in.Swap = swapped_seen tops
built_in_seen style m tops f = nothing_seen

-- .. after a function of the style
abbrev pub called_seen : Kind → Tops → Tops
called_seen kind.Not tops = if is_number tops.top then tops_of seen.Number tops.below tops.third tops.fourth else nothing_seen
called_seen kind.Or tops =
    if is_number tops.top && is_number tops.below then tops_of seen.Number tops.third tops.fourth seen.Anything else nothing_seen
called_seen kind.And tops = nothing_seen
called_seen kind.Other tops = nothing_seen

-- .. of the value of a global string variable
abbrev pub string_seen : Measure → ℕ → Seen
string_seen m i = if nat_eq i m.text then seen.Whole else seen.Text

-- .. after a token
abbrev pub tops_after : Style → Measure → (ℕ → Kind) → Tops → Token → Tops
tops_after style m kinds tops (Quote f) = push (seen.Function f) tops
tops_after style m kinds tops (token.Integer n) = push (seen.Integer n) tops
tops_after style m kinds tops (token.Text w) = push (seen.Word w) tops
tops_after style m kinds tops (Run (callee.GlobalInteger v)) = push seen.Number tops
tops_after style m kinds tops (Run (callee.GlobalString i)) = push (string_seen m i) tops
tops_after style m kinds tops (Run (callee.BuiltIn f)) = built_in_seen style m tops f
tops_after style m kinds tops (Run (callee.User number)) = called_seen (kinds number) tops
tops_after style m kinds tops (Run f) = nothing_seen

-- ---- what functions do

abbrev pub built_in_effect : BuiltIn → Effect
built_in_effect built_in.Assign = effect.Other
built_in_effect built_in.CallType = effect.Other
built_in_effect built_in.If = effect.Other
built_in_effect built_in.While = effect.Other
built_in_effect f = effect.Keeps

-- what is executed under a name does this, by what is said of the style's functions
abbrev pub effect_of : (ℕ → Effect) → Callee → Effect
effect_of effects (callee.BuiltIn f) = built_in_effect f
effect_of effects (callee.User number) = effects number
effect_of effects f = effect.Keeps

-- whether that makes less of what is left; None if it may make more of it. `begun` says that the text begins with the word
abbrev pub lessens : Bool → Effect → Option Bool
lessens begun effect.Other = None
lessens begun effect.Keeps = Some false
lessens begun effect.Shortens = Some true
lessens begun effect.ShortensIfBegun = if begun then Some true else None

-- ---- tokens. `before` and `after` say whether less is left than at the beginning; nothing was changed where it isn't

abbrev pub CalleeThrough : (ℕ → Effect) → Bool → Bool → Callee → Bool → Type 0
CalleeThrough effects begun before f after = (less : Bool) × ((lessens begun (effect_of effects f) ≡ Some less) × (after ≡ before || less))

abbrev pub is_begins : Seen → Bool
is_begins seen.Begins = true
is_begins it = false

-- an `if$` over two functions, and an integer below them, does what both do; the lower function is executed where the integer is above 0
abbrev pub ChosenThrough : (ℕ → Effect) → Bool → Bool → Callee → Callee → Seen → Bool → Type 0
ChosenThrough effects begun before g f third after =
    (is_number third ≡ true) × (CalleeThrough effects (begun || is_begins third) before f after × CalleeThrough effects begun before g after)

-- without an integer it executes neither: then it does what both do if that is nothing, or if less is left already
abbrev pub NeitherThrough : (ℕ → Effect) → Bool → Bool → Callee → Callee → Bool → Type 0
NeitherThrough effects begun before g f after = (after ≡ before) × (CalleeThrough effects begun before f after × CalleeThrough effects begun before g after)

abbrev pub ChoiceThrough : (ℕ → Effect) → Bool → Bool → Seen → Seen → Seen → Bool → Type 0
ChoiceThrough effects begun before (seen.Function g) (seen.Function f) third after =
    ChosenThrough effects begun before g f third after ⊎ NeitherThrough effects begun before g f after
ChoiceThrough effects begun before _ _ third after = ⊥

-- a function is a test whether the text begins with the word
abbrev pub IsBeginsTest : Style → Measure → Callee → Type 0
IsBeginsTest style m (callee.User number) =
    (word : ℕ) × ((body_of style number ≡ begins_test m.text word) × (word_of style word ≡ word_of style m.word))
IsBeginsTest style m f = ⊥

-- a `while$` changes nothing if its functions don't. It turns once at least where its test is known to be true, and so makes less if its body does; and so does one
-- of any number of turns where less is left already
abbrev pub LoopThrough : Style → Measure → (ℕ → Effect) → Bool → Bool → Seen → Seen → Bool → Type 0
LoopThrough style m effects begun before (seen.Function body) (seen.Function test) after =
    (effect_of effects test ≡ effect.Keeps)
    × (((effect_of effects body ≡ effect.Keeps) × (after ≡ before))
    ⊎ ((effect_of effects body ≡ effect.Shortens) × ((after ≡ true) × ((before ≡ true) ⊎ (IsBeginsTest style m test × (begun ≡ true))))))
LoopThrough style m effects begun before _ _ after = ⊥

-- a value is shorter than the text, or empty
abbrev pub IsLess : Style → Seen → Type 0
IsLess style seen.Shorter = Unit {0}
IsLess style (seen.Word w) = length (word_of style w) ≡ 0
IsLess style _ = ⊥

-- what `:=` assigns to is known. The text is only given a shorter one, or an empty one, and the flag is only set
abbrev pub AssignThrough : Style → Measure → Bool → Seen → Seen → Bool → Type 0
AssignThrough style m before (seen.Function (callee.GlobalString i)) value after =
    ((i ≢ m.text) × (after ≡ before)) ⊎ ((i ≡ m.text) × (IsLess style value × (after ≡ true)))
AssignThrough style m before (seen.Function (callee.GlobalInteger v)) value after =
    ((suc v ≢ m.flag) × (after ≡ before)) ⊎ ((suc v ≡ m.flag) × ((value ≡ seen.Integer (pos 1)) × (after ≡ true)))
AssignThrough style m before (seen.Function f) value after = after ≡ before
AssignThrough style m before _ value after = ⊥

-- a token leads from what was so before it to what is so after it
abbrev pub StepThrough : Style → Measure → (ℕ → Effect) → Bool → Bool → Tops → Token → Bool → Type 0
StepThrough style m effects begun before tops (Run (callee.BuiltIn built_in.If)) after =
    ChoiceThrough effects (begun && not before) before tops.top tops.below tops.third after
StepThrough style m effects begun before tops (Run (callee.BuiltIn built_in.While)) after =
    LoopThrough style m effects (begun && not before) before tops.top tops.below after
StepThrough style m effects begun before tops (Run (callee.BuiltIn built_in.Assign)) after = AssignThrough style m before tops.top tops.below after
StepThrough style m effects begun before tops (Run f) after = CalleeThrough effects (begun && not before) before f after
StepThrough style m effects begun before tops _ after = after ≡ before

-- .. and so do tokens one after another
abbrev pub TokensThrough : Style → Measure → (ℕ → Kind) → (ℕ → Effect) → Bool → Bool → Tops → List Token → Bool → Type 0
TokensThrough style m kinds effects begun before tops [] after = after ≡ before
TokensThrough style m kinds effects begun before tops (x ∷ rest) after =
    (between : Bool) × (StepThrough style m effects begun before tops x between
    × TokensThrough style m kinds effects begun between (tops_after style m kinds tops x) rest after)

-- a body does what is said of its function
abbrev pub EffectHolds : Style → Measure → (ℕ → Kind) → (ℕ → Effect) → Effect → List Token → Type 0
EffectHolds style m kinds effects effect.Other body = Unit {0}
EffectHolds style m kinds effects effect.Keeps body = TokensThrough style m kinds effects false false nothing_seen body false
EffectHolds style m kinds effects effect.Shortens body = TokensThrough style m kinds effects false false nothing_seen body true
EffectHolds style m kinds effects effect.ShortensIfBegun body = TokensThrough style m kinds effects true false nothing_seen body true

-- all functions do what is said of them
abbrev pub EffectsHold : Style → Measure → (ℕ → Kind) → (ℕ → Effect) → Type 0
EffectsHold style m kinds effects = (number : ℕ) → EffectHolds style m kinds effects (effects number) (body_of style number)

-- what lists say of functions, by their numbers
abbrev pub kinds_by : List Kind → ℕ → Kind
kinds_by kinds number = slice_index_or kinds number kind.Other

abbrev pub effects_by : List Effect → ℕ → Effect
effects_by effects number = slice_index_or effects number effect.Other
