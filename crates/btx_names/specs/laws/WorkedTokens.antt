-- Worked tokens: which are von (btxhak, section 5.4).
use Rattle.std.specs.Prelude.{ℕ, List, [], ◌∷◌, codes}

-- tokens that are von: what decides is the first letter at depth 0, or the first special character, and a foreign letter in lower case is one
abbrev pub von_tokens : List (List ℕ)
von_tokens =
    codes "de"
    ∷ codes "d'Aosta"
    ∷ codes "{\\i}X"
    ∷ codes "{\\j}X"
    ∷ codes "{\\o}X"
    ∷ codes "{\\oe}X"
    ∷ codes "{\\ae}X"
    ∷ codes "{\\aa}X"
    ∷ codes "{\\l}X"
    ∷ codes "{\\ss}X"
    ∷ codes "{\\'e}X"
    ∷ codes "{\\' \\i}X"
    ∷ codes "{\\relax x}X"
    -- letters in braces are passed over, and so are bytes from 128 up
    ∷ codes "{X}de"
    ∷ (195 ∷ 137 ∷ codes "lie")
    ∷ []

-- tokens that aren't: the letter that decides is upper case, or there is none
abbrev pub other_tokens : List (List ℕ)
other_tokens =
    codes "De"
    ∷ codes "{\\O}x"
    ∷ codes "{\\OE}x"
    ∷ codes "{\\AE}x"
    ∷ codes "{\\AA}x"
    ∷ codes "{\\L}x"
    -- no foreign control sequence, and no letter after it
    ∷ codes "{\\J}x"
    ∷ codes "{\\'E}x"
    ∷ codes "{\\relax X}x"
    ∷ codes "{de}"
    ∷ (195 ∷ 169 ∷ [])
    ∷ []
