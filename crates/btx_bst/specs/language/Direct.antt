-- Direct styles. Each literal of a function of the style, quoted or nameless, is one of two literals side by side directly before an executed
-- `if$` or `while$`; the other one may be any function, field or variable. And `call.type$` stands in no body, executed or as a literal. Most
-- styles are direct (docs/STYLES.md), and a law bounds how many bodies such a style opens at once, by the number of its functions (`DirectLaw`).
use Rattle.std.specs.Prelude.{◌≡◌, ℕ, ◌+◌, ◌-◌, ◌&&◌, ◌||◌, not, nat_lt, Bool, true, false, [], Option, Some, slice_get, slice_index_or, List}
use Rattle.btx_bst.specs.declared.built_in.BuiltIn.TheVariants.{CallType, If, While}
use Rattle.btx_bst.specs.declared.callee.Callee.TheVariants as callee
use Rattle.btx_bst.specs.declared.callee.Callee.TheVariants.{User}
use Rattle.btx_bst.specs.declared.token.Token.{Token}
use Rattle.btx_bst.specs.declared.token.Token.TheVariants.{Quote, Run}
use Rattle.btx_bst.specs.language.Style.{Style}

-- `call.type$`, executed or as a literal. This test and the next three take the token at a place of a body; `None`, past the body's end, passes none
-- of them
unfoldable pub is_call_type : Option Token → Bool
is_call_type (Some (Quote (callee.BuiltIn CallType))) = true
is_call_type (Some (Run (callee.BuiltIn CallType))) = true
is_call_type _ = false

-- a literal of a function of the style
unfoldable pub is_user_literal : Option Token → Bool
is_user_literal (Some (Quote (User number))) = true
is_user_literal _ = false

-- a literal of a function, a field or a variable
unfoldable pub is_literal : Option Token → Bool
is_literal (Some (Quote callee)) = true
is_literal _ = false

-- an `if$` or a `while$` that is executed
unfoldable pub is_choice : Option Token → Bool
is_choice (Some (Run (callee.BuiltIn If))) = true
is_choice (Some (Run (callee.BuiltIn While))) = true
is_choice _ = false

-- at place `i` of a body two literals of functions, fields or variables stand side by side directly before an `if$` or a `while$` that is executed
unfoldable pub begins_pair : List Token → ℕ → Bool
begins_pair body i = is_literal (slice_get body i) && is_literal (slice_get body (i + 1)) && is_choice (slice_get body (i + 2))

-- the token at place `i` of a body may stand there in a direct style: it is no `call.type$`; and if it is a literal of a function of the style, it is one
-- of two literals side by side directly before an `if$` or a `while$`
unfoldable pub is_direct_at : List Token → ℕ → Bool
is_direct_at body i =
    not (is_call_type (slice_get body i))
    && (not (is_user_literal (slice_get body i)) || begins_pair body i || (nat_lt 0 i && begins_pair body (i - 1)))

-- a style is direct: each token of its functions' bodies may stand where it stands, those of nameless functions too
abbrev pub IsDirect : Style → Type 0
IsDirect style = (number i : ℕ) → is_direct_at (slice_index_or style.bodies number []) i ≡ true
