-- Loops that walk along a text: they go on as long as the text has a part from a place on, and each turn moves the place on. Read off the tokens.
use Rattle.std.specs.Prelude.{◌≡◌, ℕ, zero, suc, ◌+◌, ◌-◌, ℤ, pos, negsuc, List, [], ◌∷◌, ◌++◌, length, Bool, true, false, if◌then◌else◌, nat_lt, ◌⊎◌, slice_index_or}
use Rattle.btx_bst.specs.declared.built_in.BuiltIn.TheVariants as built_in
use Rattle.btx_bst.specs.declared.callee.Callee.TheVariants as callee
use Rattle.btx_bst.specs.declared.token.Token.{Token}
use Rattle.btx_bst.specs.declared.token.Token.TheVariants as token
use Rattle.btx_bst.specs.declared.token.Token.TheVariants.{Quote, Run}
use Rattle.btx_bst.specs.language.Style.{Style}
use Rattle.btx_machine.specs.language.States.{State}
use Rattle.btx_ends.specs.declared.measures.Measure.{Measure}
use Rattle.btx_ends.specs.declared.measures.Effect.{Effect}
use Rattle.btx_ends.specs.declared.measures.Kind.{Kind}
use Rattle.btx_ends.specs.declared.measures.Walk.{Walk}
use Rattle.btx_ends.specs.Counters.{value_in}
use Rattle.btx_ends.specs.Shortening.{text_in, word_of, body_of, IsNot, TokensThrough, nothing_seen}

-- ---- what gets less

-- how often a loop may still turn whose place is this in a text of `size` bytes. A place below 0 is counted from the right, and may be moved on past 0
abbrev pub turns_from : ℤ → ℕ → ℕ
turns_from (pos zero) size = 0
turns_from (pos (suc before)) size = size - before
turns_from (negsuc before) size = if nat_lt before size then size + suc before else 0

abbrev pub turns_in : Walk → State → ℕ
turns_in walk s = turns_from (value_in walk.place s) (length (text_in walk.text s))

-- ---- tests

-- the tokens `t p n`, and `substring$ "w" = not` after them
abbrev pub part_operands : Walk → List Token
part_operands walk = Run (callee.GlobalString walk.text) ∷ Run (callee.GlobalInteger walk.place) ∷ Run (callee.GlobalInteger walk.size) ∷ []

abbrev pub differs_test : ℕ → ℕ → List Token
differs_test word negation =
    Run (callee.BuiltIn built_in.Substring) ∷ token.Text word ∷ Run (callee.BuiltIn built_in.Equals) ∷ Run (callee.User negation) ∷ []

abbrev pub part_test : Walk → ℕ → ℕ → List Token
part_test walk word negation = part_operands walk ++ differs_test word negation

-- a body is that test, for an empty w: it is true only where the text has a part of n bytes, or fewer, from p on
abbrev pub TellsPart : Style → Walk → List Token → Type 0
TellsPart style walk body =
    (word : ℕ) × ((negation : ℕ) × ((body ≡ part_test walk word negation) × ((length (word_of style word) ≡ 0) × IsNot style negation)))

-- ---- bodies

-- what is added to the place: how long the part is, or a positive integer of the style
abbrev pub IsStride : Walk → Token → Type 0
IsStride walk (Run (callee.GlobalInteger v)) = v ≡ walk.size
IsStride walk (token.Integer (pos (suc n))) = Unit {0}
IsStride walk x = ⊥

-- the tokens `p x + 'p :=`
abbrev pub move_by : ℕ → Token → List Token
move_by place x =
    Run (callee.GlobalInteger place) ∷ x ∷ Run (callee.BuiltIn built_in.Plus) ∷ Quote (callee.GlobalInteger place) ∷ Run (callee.BuiltIn built_in.Assign) ∷ []

-- the tokens `= 'f 'g if$`: after `=` there is an integer, whatever was compared
abbrev pub compared_choice : ℕ → ℕ → List Token
compared_choice f g =
    Run (callee.BuiltIn built_in.Equals) ∷ Quote (callee.User f) ∷ Quote (callee.User g) ∷ Run (callee.BuiltIn built_in.If) ∷ []

-- the text and the place, and the text and the size, as what tokens may keep
abbrev pub place_measure : Walk → Measure
place_measure walk = record { text = walk.text; flag = suc walk.place; word = 0 }

abbrev pub size_measure : Walk → Measure
size_measure walk = record { text = walk.text; flag = suc walk.size; word = 0 }

-- tokens keep the text, the place and the size, by what is said of the style's functions
abbrev pub TokensStay : Style → Walk → (ℕ → Kind) → (ℕ → Effect) → (ℕ → Effect) → List Token → Type 0
TokensStay style walk kinds places sizes xs =
    TokensThrough style (place_measure walk) kinds places false false nothing_seen xs false
    × TokensThrough style (size_measure walk) kinds sizes false false nothing_seen xs false

-- a body moves the place on by its last tokens, and keeps all three before
abbrev pub MovesLast : Style → Walk → (ℕ → Kind) → (ℕ → Effect) → (ℕ → Effect) → List Token → Type 0
MovesLast style walk kinds places sizes body =
    (others : List Token) × ((x : Token) × ((body ≡ others ++ move_by walk.place x) × (IsStride walk x × TokensStay style walk kinds places sizes others)))

-- .. or by the one or the other of two functions
abbrev pub MovesEither : Style → Walk → (ℕ → Kind) → (ℕ → Effect) → (ℕ → Effect) → (ℕ → Bool) → List Token → Type 0
MovesEither style walk kinds places sizes moves body =
    (others : List Token) × ((f : ℕ) × ((g : ℕ) × ((body ≡ others ++ compared_choice f g)
    × (((moves f ≡ true) × (moves g ≡ true)) × TokensStay style walk kinds places sizes others))))

abbrev pub Moves : Style → Walk → (ℕ → Kind) → (ℕ → Effect) → (ℕ → Effect) → (ℕ → Bool) → List Token → Type 0
Moves style walk kinds places sizes moves body =
    MovesLast style walk kinds places sizes body ⊎ MovesEither style walk kinds places sizes moves body

-- all functions move the place on of which `moves` says so
abbrev pub MovesHold : Style → Walk → (ℕ → Kind) → (ℕ → Effect) → (ℕ → Effect) → (ℕ → Bool) → Type 0
MovesHold style walk kinds places sizes moves = (number : ℕ) → moves number ≡ true → Moves style walk kinds places sizes moves (body_of style number)
