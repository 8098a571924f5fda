-- Loops over a text that stands on top of the stack, and in no variable: they go on until it is empty, and each turn puts a shorter one in its place. Read off the
-- tokens: a function keeps the text in a variable s, and leaves the rest of s from a place on that isn't its first; that is assigned to a variable, and pushed at the end.
use Rattle.std.specs.Prelude.{◌≡◌, ℕ, ℤ, pos, List, [], ◌∷◌, ◌++◌, length, true, false}
use Rattle.btx_bst.specs.declared.built_in.BuiltIn.TheVariants as built_in
use Rattle.btx_bst.specs.declared.callee.Callee.TheVariants as callee
use Rattle.btx_bst.specs.declared.token.Token.{Token}
use Rattle.btx_bst.specs.declared.token.Token.TheVariants as token
use Rattle.btx_bst.specs.declared.token.Token.TheVariants.{Quote, Run}
use Rattle.btx_bst.specs.language.Style.{Style}
use Rattle.btx_ends.specs.declared.held.Held.TheVariants as held
use Rattle.btx_ends.specs.declared.held.Pile.{Pile}
use Rattle.btx_ends.specs.declared.measures.Measure.{Measure}
use Rattle.btx_ends.specs.declared.measures.Effect.{Effect}
use Rattle.btx_ends.specs.declared.measures.Kind.{Kind}
use Rattle.btx_ends.specs.declared.measures.Replacement.{Replacement}
use Rattle.btx_ends.specs.Shortening.{word_of, body_of, integer_body, IsNot, TokensThrough, nothing_seen}
use Rattle.btx_ends.specs.Descending.{nothing_held, push, is_integer, is_apart, pile_through}

-- ---- tests

-- the tokens `duplicate$ "w" = not`
abbrev pub top_test : ℕ → ℕ → List Token
top_test word negation =
    Run (callee.BuiltIn built_in.Duplicate) ∷ token.Text word ∷ Run (callee.BuiltIn built_in.Equals) ∷ Run (callee.User negation) ∷ []

-- a body is that test, for an empty w: it leaves the text on the stack, and is true only where it isn't empty
abbrev pub TellsTop : Style → List Token → Type 0
TellsTop style body =
    (word : ℕ) × ((negation : ℕ) × ((body ≡ top_test word negation) × ((length (word_of style word) ≡ 0) × IsNot style negation)))

-- ---- functions that leave less than a text

-- what is known of the stack: an integer that is at least 2, if it is one
abbrev pub only_late : Pile
only_late = push held.Late nothing_held

-- .. the text, below a literal
abbrev pub over_whole : Pile
over_whole = push held.Anything (push held.Whole nothing_held)

-- the text of a variable, as what tokens may keep
abbrev pub text_measure : ℕ → Measure
text_measure t = record { text = t; flag = 0; word = 0 }

-- tokens keep it, by what is said of the style's functions
abbrev pub TextStays : Style → ℕ → (ℕ → Kind) → (ℕ → Effect) → List Token → Type 0
TextStays style t kinds effects xs = TokensThrough style (text_measure t) kinds effects false false nothing_seen xs false

-- the tokens `'f 'g if$`, `'t :=`, `duplicate$ #2 <` and `t swap$ n substring$`
abbrev pub choice_of : ℕ → ℕ → List Token
choice_of f g = Quote (callee.User f) ∷ Quote (callee.User g) ∷ Run (callee.BuiltIn built_in.If) ∷ []

abbrev pub kept_in : ℕ → List Token
kept_in t = Quote (callee.GlobalString t) ∷ Run (callee.BuiltIn built_in.Assign) ∷ []

abbrev pub below_two : List Token
below_two = Run (callee.BuiltIn built_in.Duplicate) ∷ token.Integer (pos 2) ∷ Run (callee.BuiltIn built_in.Less) ∷ []

abbrev pub rest_tokens : ℕ → ℕ → List Token
rest_tokens t n =
    Run (callee.GlobalString t) ∷ Run (callee.BuiltIn built_in.Swap) ∷ Run (callee.GlobalInteger n) ∷ Run (callee.BuiltIn built_in.Substring) ∷ []

-- a body leaves the empty text
abbrev pub LeavesNothing : Style → List Token → Type 0
LeavesNothing style body =
    (others : List Token) × ((word : ℕ) × ((body ≡ others ++ token.Text word ∷ []) × (length (word_of style word) ≡ 0)))

-- .. the rest of s from a place on that isn't its first, where an integer on top was at least 2
abbrev pub LeavesRest : Style → ℕ → (ℕ → Kind) → (ℕ → Effect) → List Token → Type 0
LeavesRest style s kinds effects body =
    (others : List Token) × ((n : ℕ) × ((body ≡ others ++ rest_tokens s n)
    × (TextStays style s kinds effects others × (is_apart (pile_through kinds only_late others).first ≡ true))))

-- tokens end in the question whether the integer on top is below 2
abbrev pub EndsBelowTwo : List Token → Type 0
EndsBelowTwo xs = (others : List Token) × (xs ≡ others ++ below_two)

-- .. that of the text on top, which it keeps in s, or nothing where the integer on top is below 2
abbrev pub LeavesLess : Style → ℕ → (ℕ → Kind) → (ℕ → Effect) → List Token → Type 0
LeavesLess style s kinds effects body =
    (others : List Token) × ((low : ℕ) × ((late : ℕ) × ((body ≡ kept_in s ++ (others ++ choice_of low late))
    × (EndsBelowTwo others × (TextStays style s kinds effects others
    × (LeavesNothing style (body_of style low) × LeavesRest style s kinds effects (body_of style late)))))))

-- an integer stands on top, and below it the text
abbrev pub IsChoice : Pile → Type 0
IsChoice p = (is_integer p.first ≡ true) × (p.second ≡ held.Whole)

-- .. nothing, or less than the text that stood below the literal on top
abbrev pub Splits : Style → ℕ → (ℕ → Kind) → (ℕ → Effect) → List Token → Type 0
Splits style s kinds effects body =
    (others : List Token) × ((none : ℕ) × ((less : ℕ) × ((body ≡ others ++ choice_of none less)
    × (IsChoice (pile_through kinds over_whole others)
    × (LeavesNothing style (body_of style none) × LeavesLess style s kinds effects (body_of style less))))))

-- ---- bodies of loops

-- a token pushes an integer
abbrev pub IsNumber : Style → Token → Type 0
IsNumber style (token.Integer n) = Unit {0}
IsNumber style (Run (callee.GlobalInteger v)) = Unit {0}
IsNumber style (Run (callee.User number)) = (n : ℤ) × (body_of style number ≡ integer_body n)
IsNumber style x = ⊥

-- tokens assign a text to t, keep it, and push it at their end
abbrev pub Gives : Style → ℕ → (ℕ → Kind) → (ℕ → Effect) → List Token → Type 0
Gives style t kinds effects xs =
    (others : List Token) × ((xs ≡ kept_in t ++ (others ++ Run (callee.GlobalString t) ∷ [])) × TextStays style t kinds effects others)

-- a body is `x f 't := .. t`: f leaves less than the text below the integer x
abbrev pub Replaces : Style → Replacement → (ℕ → Kind) → (ℕ → Effect) → (ℕ → Effect) → List Token → Type 0
Replaces style r kinds texts givens body =
    (x : Token) × ((f : ℕ) × ((rest : List Token) × ((body ≡ x ∷ Run (callee.User f) ∷ rest)
    × (IsNumber style x × (Gives style r.given kinds givens rest × Splits style r.text kinds texts (body_of style f))))))
