-- Loops that count an integer down that stands on top of the stack, and in no variable. Read off the tokens, by what is known of the eight literals on top.
use Rattle.std.specs.Prelude.{◌≡◌, ℕ, zero, suc, ℤ, pos, negsuc, List, [], ◌∷◌, ◌++◌, Bool, true, false, ◌&&◌, ◌||◌, if◌then◌else◌}
use Rattle.btx_bst.specs.declared.built_in.BuiltIn.{BuiltIn}
use Rattle.btx_bst.specs.declared.built_in.BuiltIn.TheVariants as built_in
use Rattle.btx_bst.specs.declared.callee.Callee.TheVariants as callee
use Rattle.btx_bst.specs.declared.token.Token.{Token}
use Rattle.btx_bst.specs.declared.token.Token.TheVariants as token
use Rattle.btx_bst.specs.declared.token.Token.TheVariants.{Quote, Run}
use Rattle.btx_ends.specs.declared.held.Held.{Held}
use Rattle.btx_ends.specs.declared.held.Held.TheVariants as held
use Rattle.btx_ends.specs.declared.held.Pile.{Pile}
use Rattle.btx_ends.specs.declared.measures.Kind.{Kind}
use Rattle.btx_ends.specs.declared.measures.Kind.TheVariants as kind

-- ---- what is known of literals

abbrev pub pile : Held → Held → Held → Held → Held → Held → Held → Held → Pile
pile a b c d e f g h = record { first = a; second = b; third = c; fourth = d; fifth = e; sixth = f; seventh = g; eighth = h }

-- nothing
abbrev pub nothing_held : Pile
nothing_held = pile held.Anything held.Anything held.Anything held.Anything held.Anything held.Anything held.Anything held.Anything

-- a literal is pushed
abbrev pub push : Held → Pile → Pile
push it p = pile it p.first p.second p.third p.fourth p.fifth p.sixth p.seventh

-- .. and one is taken off
abbrev pub popped : Pile → Pile
popped p = pile p.second p.third p.fourth p.fifth p.sixth p.seventh p.eighth held.Anything

abbrev pub popped_two : Pile → Pile
popped_two p = popped (popped p)

-- at first, the integer of the loop
abbrev pub only_same : Pile
only_same = push held.Same nothing_held

abbrev pub is_integer : Held → Bool
is_integer held.Number = true
is_integer held.Zero = true
is_integer held.Positive = true
is_integer held.Same = true
is_integer held.Told = true
is_integer it = false

-- it is there
abbrev pub is_there : Held → Bool
is_there held.Anything = false
is_there held.Low = false
is_there held.Late = false
is_there held.Apart = false
is_there it = true

-- if it's an integer, this is known of it; there may be none
abbrev pub is_bound : Held → Bool
is_bound held.Low = true
is_bound held.Late = true
is_bound held.Apart = true
is_bound it = false

-- it is a string
abbrev pub is_text : Held → Bool
is_text held.Text = true
is_text held.Whole = true
is_text it = false

-- if it's an integer, no part of a text from that place on is the whole text
abbrev pub is_apart : Held → Bool
is_apart held.Late = true
is_apart held.Apart = true
is_apart it = false

-- if it's an integer, it is no greater than that of the loop
abbrev pub is_low : Held → Bool
is_low held.Same = true
is_low held.Low = true
is_low it = false

-- it is an integer, and above 0 only where that of the loop is
abbrev pub is_told : Held → Bool
is_told held.Same = true
is_told held.Told = true
is_told it = false

-- ---- what is known after a token

abbrev pub number_held : ℤ → Held
number_held (pos zero) = held.Zero
number_held (pos (suc n)) = held.Positive
number_held (negsuc n) = held.Number

-- .. after `+`, whose sum is 0 where it doesn't fit
abbrev pub sum_held : Held → Held → Held
sum_held held.Positive held.Late = held.Apart
sum_held top below = held.Number

-- .. after `>`
abbrev pub greater_held : Held → Held → Held
greater_held held.Zero held.Same = held.Told
greater_held top below = held.Number

-- .. after `and`
abbrev pub joined_held : Held → Held
joined_held below = if is_told below then held.Told else held.Number

-- .. after `swap$`, which leaves a literal where it is if there is none below it
abbrev pub raised_held : Held → Held → Held
raised_held top below = if is_there below || (is_text top && is_bound below) then below else held.Anything

abbrev pub lowered_held : Held → Held → Held
lowered_held top below = if is_there below then top else if is_low top then held.Low else held.Anything

abbrev pub swapped_held : Pile → Pile
swapped_held p = push (raised_held p.first p.second) (push (lowered_held p.first p.second) (popped_two p))

-- .. after a built-in function: what it pushes stands in place of its operands, whatever these are
abbrev pub built_in_held : Pile → BuiltIn → Pile
built_in_held p built_in.Duplicate = push p.first p
built_in_held p built_in.Swap = swapped_held p
built_in_held p built_in.Substring = push held.Text (popped (popped_two p))
built_in_held p built_in.Concatenate = push held.Text (popped_two p)
built_in_held p built_in.Equals = push held.Number (popped_two p)
built_in_held p built_in.Greater = push (greater_held p.first p.second) (popped_two p)
built_in_held p built_in.Plus = push (sum_held p.first p.second) (popped_two p)
built_in_held p built_in.Assign = popped_two p
built_in_held p f = nothing_held

-- .. after `not`, `or` and `and`
abbrev pub called_held : Kind → Pile → Pile
called_held kind.Not p = if is_integer p.first then push held.Number (popped p) else nothing_held
called_held kind.Or p = if is_integer p.first && is_integer p.second then push held.Number (popped_two p) else nothing_held
called_held kind.And p =
    if is_integer p.first && is_integer p.second then push (joined_held p.second) (popped_two p) else nothing_held
called_held kind.Other p = nothing_held

abbrev pub pile_after : (ℕ → Kind) → Pile → Token → Pile
pile_after kinds p (Quote f) = push held.Anything p
pile_after kinds p (token.Integer n) = push (number_held n) p
pile_after kinds p (token.Text w) = push held.Text p
pile_after kinds p (Run (callee.GlobalInteger v)) = push held.Number p
pile_after kinds p (Run (callee.GlobalString i)) = push held.Text p
pile_after kinds p (Run (callee.BuiltIn f)) = built_in_held p f
pile_after kinds p (Run (callee.User number)) = called_held (kinds number) p
pile_after kinds p x = nothing_held

-- .. and after tokens one after another
abbrev pub pile_through : (ℕ → Kind) → Pile → List Token → Pile
pile_through kinds p [] = p
pile_through kinds p (x ∷ rest) = pile_through kinds (pile_after kinds p x) rest

-- ---- tests and bodies

-- a test leaves the integer on the stack, and above it one that is above 0 only where that integer is
abbrev pub IsAsked : Pile → Type 0
IsAsked p = (is_told p.first ≡ true) × (p.second ≡ held.Same)

abbrev pub Asks : (ℕ → Kind) → List Token → Type 0
Asks kinds body = IsAsked (pile_through kinds only_same body)

-- the tokens `#1 -`
abbrev pub take_one : List Token
take_one = token.Integer (pos 1) ∷ Run (callee.BuiltIn built_in.Minus) ∷ []

-- a body makes it less by its last tokens, and has it on top before them
abbrev pub Lowers : (ℕ → Kind) → List Token → Type 0
Lowers kinds body =
    (others : List Token) × ((body ≡ others ++ take_one) × (is_low (pile_through kinds only_same others).first ≡ true))
