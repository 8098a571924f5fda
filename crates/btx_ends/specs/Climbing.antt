-- Loops that count a variable up: they go on as long as a place is below a limit that stays, and each turn raises the place by 1. Read off the tokens.
-- Where the test is true the place is below the limit, which is below 2^31: so one more isn't too great, and the limit less the place falls at each turn. Nothing is
-- asked of the least value of the place. A sum below -2^31 is 0, so the place is below it only before the first turn, and there are at most 2^32 turns.
use Rattle.std.specs.Prelude.{◌≡◌, ◌≢◌, ℕ, ◌+◌, ◌^◌, ◌≤◌, ◌<◌, ℤ, pos, negsuc, ◌-ℤ◌, List, [], ◌∷◌, ◌++◌, if◌then◌else◌, nat_lt, ◌⊎◌}
use Rattle.btx_text.specs.declared.element_kind.TextMode.{TextMode}
use Rattle.btx_bst.specs.declared.built_in.BuiltIn.TheVariants as built_in
use Rattle.btx_bst.specs.declared.callee.Callee.TheVariants as callee
use Rattle.btx_bst.specs.declared.token.Token.{Token}
use Rattle.btx_bst.specs.declared.token.Token.TheVariants as token
use Rattle.btx_bst.specs.declared.token.Token.TheVariants.{Run}
use Rattle.btx_bst.specs.language.Style.{Style}
use Rattle.btx_strings.specs.language.Lengths.{text_length_of}
use Rattle.btx_machine.specs.language.States.{State}
use Rattle.btx_ends.specs.declared.measures.Effect.{Effect}
use Rattle.btx_ends.specs.declared.measures.Kind.{Kind}
use Rattle.btx_ends.specs.declared.measures.Walk.{Walk}
use Rattle.btx_ends.specs.declared.measures.Limit.{Limit}
use Rattle.btx_ends.specs.declared.measures.Limit.TheVariants as limit
use Rattle.btx_ends.specs.declared.measures.Climb.{Climb}
use Rattle.btx_ends.specs.Counters.{value_in, above_zero}
use Rattle.btx_ends.specs.Shortening.{text_in, IsAnd}
use Rattle.btx_ends.specs.Walking.{move_by, TokensStay}

-- ---- what gets less

-- a limit, where the walk's size and its text are these
abbrev pub limit_of : TextMode → Limit → ℤ → List ℕ → ℤ
limit_of mode limit.Size size text = size
limit_of mode limit.Length size text = pos (text_length_of mode text)
limit_of mode (limit.Number n) size text = n

abbrev pub limit_in : TextMode → Climb → State → ℤ
limit_in mode climb s = limit_of mode climb.limit (value_in climb.walk.size s) (text_in climb.walk.text s)

-- how often a loop may still turn whose place and limit are these. No sum is below -2^31, so a place that is below it has no such value after a turn
abbrev pub climbs_from : ℤ → ℤ → ℕ
climbs_from (pos n) most = above_zero (most -ℤ pos n)
climbs_from (negsuc n) most = if nat_lt n (2 ^ 31) then above_zero (most -ℤ negsuc n) else above_zero most + 2 ^ 31 + 1

abbrev pub climbs_in : TextMode → Climb → State → ℕ
climbs_in mode climb s = climbs_from (value_in climb.walk.place s) (limit_in mode climb s)

-- ---- tests

-- the tokens that push the limit
abbrev pub limit_tokens : Limit → Walk → List Token
limit_tokens limit.Size walk = Run (callee.GlobalInteger walk.size) ∷ []
limit_tokens limit.Length walk = Run (callee.GlobalString walk.text) ∷ Run (callee.BuiltIn built_in.TextLength) ∷ []
limit_tokens (limit.Number n) walk = token.Integer n ∷ []

-- `p limit <`, and `limit p >`
abbrev pub less_test : Climb → List Token
less_test climb = Run (callee.GlobalInteger climb.walk.place) ∷ (limit_tokens climb.limit climb.walk ++ Run (callee.BuiltIn built_in.Less) ∷ [])

abbrev pub greater_test : Climb → List Token
greater_test climb =
    limit_tokens climb.limit climb.walk ++ Run (callee.GlobalInteger climb.walk.place) ∷ Run (callee.BuiltIn built_in.Greater) ∷ []

-- tokens are one of these
abbrev pub IsBelow : Climb → List Token → Type 0
IsBelow climb xs = (xs ≡ less_test climb) ⊎ (xs ≡ greater_test climb)

-- the tokens `q r > and`, which ask for something more
abbrev pub also_test : ℕ → ℕ → ℕ → List Token
also_test q r conjunction =
    Run (callee.GlobalInteger q) ∷ Run (callee.GlobalInteger r) ∷ Run (callee.BuiltIn built_in.Greater) ∷ Run (callee.User conjunction) ∷ []

abbrev pub IsBelowAnd : Style → Climb → List Token → Type 0
IsBelowAnd style climb body =
    (first : List Token) × ((q : ℕ) × ((r : ℕ) × ((conjunction : ℕ)
    × ((body ≡ first ++ also_test q r conjunction) × (IsBelow climb first × IsAnd style conjunction)))))

-- a body is a test that is true only where the place is below the limit
abbrev pub TellsBelow : Style → Climb → List Token → Type 0
TellsBelow style climb body = IsBelow climb body ⊎ IsBelowAnd style climb body

-- ---- bodies

-- a body has the tokens `p #1 + 'p :=`. What stands before and after them keeps the text, the place and the size
abbrev pub Raises : Style → Climb → (ℕ → Kind) → (ℕ → Effect) → (ℕ → Effect) → List Token → Type 0
Raises style climb kinds places sizes body =
    (others : List Token) × ((rest : List Token) × ((body ≡ others ++ (move_by climb.walk.place (token.Integer (pos 1)) ++ rest))
    × (TokensStay style climb.walk kinds places sizes others × TokensStay style climb.walk kinds places sizes rest)))
