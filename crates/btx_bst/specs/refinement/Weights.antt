-- How much a style may still hold. Each function, string and name of a style takes a byte of its text at least, so that their numbers
-- never outgrow the text: what there is and what is left of the text weigh no more than the text did.
use Rattle.std.specs.Prelude.{ℕ, ◌+◌, ◌<◌, ◌≤◌, ◌^◌, List, length}
use Rattle.btx_bst.specs.language.Places.{Place, size}
use Rattle.btx_bst.specs.language.Names.{Names}
use Rattle.btx_bst.specs.language.Style.{Style}
use Rattle.btx_bst.specs.refinement.Bodies.{FunctionBody}

-- how many fields and variables there are
abbrev pub names_weight : Names → ℕ
names_weight names =
    length names.fields + length names.entry_integers + length names.entry_strings + length names.global_integers + length names.global_strings

-- functions and strings, and what is left of the text
abbrev pub body_weight : Place → List FunctionBody → List (List ℕ) → ℕ
body_weight place bodies texts = size place + length bodies + length texts

-- functions, strings, fields and variables, and what is left of the text
abbrev pub weight : Style → Place → ℕ
weight style place = body_weight place style.bodies style.texts + names_weight style.names

-- the numbers of all that a style may still hold fit 32 bits; and no function has a name before it has a body
abbrev pub HasRoom : Style → Place → Type 0
HasRoom style place = (weight style place < 2 ^ 32) × (length style.names.functions ≤ length style.bodies)
