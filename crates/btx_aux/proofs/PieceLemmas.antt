-- The first piece of an argument, byte after byte.
use Rattle.std.proofs.Common.{◌≡◌, ℕ, zero, suc, ◌+◌, ◌-◌, ◌<◌, ◌≤◌, ◌&&◌, Bool, true, false, eqb, List, [], ◌∷◌, ◌++◌, length, take, drop, get_or, refl, sym}
use Rattle.std.proofs.Common.{ap, ◌∙◌, arith, drop-cons, add-one}
use Rattle.std.proofs.lemmas.List.{take_more, take_rest}
use Rattle.btx_text.specs.language.Class.{is_white}
use Rattle.btx_aux.specs.declared.command.Slip.{Slip}
use Rattle.btx_aux.specs.declared.command.Slip.TheVariants.{WhiteSpace, Unclosed, StuffAfter}
use Rattle.btx_aux.specs.language.Grammar.{Piece, Taken, Cut, in_first_piece, closed_before, pieces_of}

-- some bytes in front of the first piece
abbrev pub all_in_front : List ℕ → List Piece → List Piece
all_in_front [] pieces = pieces
all_in_front (b ∷ bs) pieces = in_first_piece b (all_in_front bs pieces)

all_in_front-push : (bs : List ℕ) (b : ℕ) (pieces : List Piece) → all_in_front (bs ++ b ∷ []) pieces ≡ all_in_front bs (in_first_piece b pieces)
all_in_front-push [] b pieces = refl
all_in_front-push (c ∷ cs) b pieces = ap (in_first_piece c) (all_in_front-push cs b pieces)

all_in_front-cut : (bs : List ℕ) (slip : Slip) → all_in_front bs (Cut slip ∷ []) ≡ Cut slip ∷ []
all_in_front-cut [] slip = refl
all_in_front-cut (b ∷ bs) slip = ap (in_first_piece b) (all_in_front-cut bs slip)

all_in_front-taken : (bs : List ℕ) (pieces : List Piece) → all_in_front bs (Taken [] ∷ pieces) ≡ Taken bs ∷ pieces
all_in_front-taken [] pieces = refl
all_in_front-taken (b ∷ bs) pieces = ap (in_first_piece b) (all_in_front-taken bs pieces)

-- an argument whose first bytes, which end no piece, were passed
abbrev pub Passed : Bool → List ℕ → ℕ → Type 0
Passed is_list text at = pieces_of is_list text ≡ all_in_front (take at text) (pieces_of is_list (drop at text))

-- no byte is passed yet
pub Passed-none : (is_list : Bool) (text : List ℕ) → Passed is_list text 0
Passed-none is_list text = refl

-- what the next byte makes
at_byte : (is_list : Bool) (text : List ℕ) (at : ℕ) → at < length text → Passed is_list text at
    → pieces_of is_list text ≡ all_in_front (take at text) (pieces_of is_list (get_or text at 0 ∷ drop (suc at) text))
at_byte is_list text at lt passed = passed ∙ ap (λ (s : List ℕ). all_in_front (take at text) (pieces_of is_list s)) (drop-cons text at 0 lt)

pub Passed-more : (is_list : Bool) (text : List ℕ) (at : ℕ) → at < length text → Passed is_list text at → is_white (get_or text at 0) ≡ false
    → eqb (get_or text at 0) 125 ≡ false → (is_list && eqb (get_or text at 0) 44) ≡ false → Passed is_list text (at + 1)
unfolding pieces_of
Passed-more is_list text at lt passed ink unclosed no_comma =
    let here : pieces_of is_list (get_or text at 0 ∷ drop (suc at) text) ≡ in_first_piece (get_or text at 0) (pieces_of is_list (drop (suc at) text)) =
    rw (ink, unclosed, no_comma) refl in
    let front = all_in_front-push (take at text) (get_or text at 0) (pieces_of is_list (drop (suc at) text)) in
    at_byte is_list text at lt passed ∙ ap (all_in_front (take at text)) here ∙ sym front ∙ rw (take_more text at 0 lt, add-one) refl

pub Passed-white : (is_list : Bool) (text : List ℕ) (at : ℕ) → at < length text → Passed is_list text at → is_white (get_or text at 0) ≡ true
    → pieces_of is_list text ≡ Cut WhiteSpace ∷ []
unfolding pieces_of
Passed-white is_list text at lt passed white =
    let here : pieces_of is_list (get_or text at 0 ∷ drop (suc at) text) ≡ Cut WhiteSpace ∷ [] = rw white refl in
    at_byte is_list text at lt passed ∙ ap (all_in_front (take at text)) here ∙ all_in_front-cut (take at text) WhiteSpace

pub Passed-comma : (is_list : Bool) (text : List ℕ) (at : ℕ) → at < length text → Passed is_list text at → is_white (get_or text at 0) ≡ false
    → eqb (get_or text at 0) 125 ≡ false → is_list ≡ true → eqb (get_or text at 0) 44 ≡ true → pieces_of is_list text ≡ Taken (take at text)
    ∷ pieces_of is_list (take (length text - (at + 1)) (drop (at + 1) text))
unfolding pieces_of
Passed-comma false text at lt passed ink unclosed list comma = cc
Passed-comma true text at lt passed ink unclosed list comma =
    let here : pieces_of true (get_or text at 0 ∷ drop (suc at) text) ≡ Taken [] ∷ pieces_of true (drop (suc at) text) = rw (ink, unclosed, comma) refl in
    let whole = at_byte true text at lt passed ∙ ap (all_in_front (take at text)) here ∙ all_in_front-taken (take at text) _ in
    rw (take_rest text (at + 1), add-one) whole

nothing_behind : (text : List ℕ) (at : ℕ) → at + 1 ≡ length text → drop (suc at) text ≡ []
nothing_behind [] at e = absurd (omega arith)
nothing_behind (b ∷ []) zero e = refl
nothing_behind (b ∷ c ∷ text) zero e = absurd (omega arith)
nothing_behind (b ∷ text) (suc at) e = nothing_behind text at (omega arith)

pub Passed-closed : (is_list : Bool) (text : List ℕ) (at : ℕ) → at + 1 ≡ length text → Passed is_list text at → is_white (get_or text at 0) ≡ false
    → eqb (get_or text at 0) 125 ≡ true → pieces_of is_list text ≡ Taken (take at text) ∷ []
unfolding pieces_of
Passed-closed is_list text at e passed ink closed =
    let here : pieces_of is_list (get_or text at 0 ∷ drop (suc at) text) ≡ Taken [] ∷ [] = rw (ink, closed, nothing_behind text at e) refl in
    at_byte is_list text at (omega arith) passed ∙ ap (all_in_front (take at text)) here ∙ all_in_front-taken (take at text) []

something_behind : (text : List ℕ) (at : ℕ) → at + 1 < length text → closed_before (drop (suc at) text) ≡ Cut StuffAfter ∷ []
something_behind [] at lt = absurd (omega arith)
something_behind (b ∷ []) at lt = absurd (omega arith)
something_behind (b ∷ c ∷ text) zero lt = refl
something_behind (b ∷ c ∷ text) (suc at) lt = something_behind (c ∷ text) at (omega arith)

pub Passed-stuff : (is_list : Bool) (text : List ℕ) (at : ℕ) → at + 1 < length text → Passed is_list text at → is_white (get_or text at 0) ≡ false
    → eqb (get_or text at 0) 125 ≡ true → pieces_of is_list text ≡ Cut StuffAfter ∷ []
unfolding pieces_of
Passed-stuff is_list text at lt passed ink closed =
    let here : pieces_of is_list (get_or text at 0 ∷ drop (suc at) text) ≡ Cut StuffAfter ∷ [] = rw (ink, closed) (something_behind text at lt) in
    at_byte is_list text at (omega arith) passed ∙ ap (all_in_front (take at text)) here ∙ all_in_front-cut (take at text) StuffAfter

drop_all : (text : List ℕ) (at : ℕ) → length text ≤ at → drop at text ≡ []
drop_all [] zero le = refl
drop_all [] (suc at) le = refl
drop_all (b ∷ text) zero le = absurd (omega arith)
drop_all (b ∷ text) (suc at) le = drop_all text at (omega arith)

pub Passed-all : (is_list : Bool) (text : List ℕ) (at : ℕ) → length text ≤ at → Passed is_list text at → pieces_of is_list text ≡ Cut Unclosed ∷ []
unfolding pieces_of
Passed-all is_list text at le passed =
    passed ∙ ap (λ (s : List ℕ). all_in_front (take at text) (pieces_of is_list s)) (drop_all text at le) ∙ all_in_front-cut (take at text) Unclosed

pub ruleset piece_steps = (Passed-none, Passed-more, Passed-white, Passed-comma, Passed-closed, Passed-stuff, Passed-all, take_rest)
