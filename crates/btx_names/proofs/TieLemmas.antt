-- Lemmas on ties and on the end of a piece.
use Rattle.std.proofs.Common.{◌≡◌, ℕ, suc, ◌+◌, ◌-◌, ◌<◌, ◌≤◌, Bool, true, false, ltb, List, [], ◌∷◌, ◌++◌, length, take, drop, set, refl, sym, ◌∙◌, ap, arith}
use Rattle.std.proofs.Common.{append_assoc}
use Rattle.std.proofs.lemmas.Bool.{lt-ltb, le-ltb}
use Rattle.std.proofs.lemmas.List.{take-append-drop, take-take, drop-take, length-drop, drop_all, set_split}
use Rattle.btx_text.specs.declared.element_kind.TextMode.{TextMode}
use Rattle.btx_names.specs.language.FormattedNames.{ends_in_tie, without_last_byte, is_short, finished}

pub ruleset short_steps = (lt-ltb, le-ltb)

-- a list without its last element, after a beginning
front_cut : (text : List ℕ) (start : ℕ) → start < length text → take (length text - 1) text ≡ take start text ++ without_last_byte (drop start text)
front_cut text start lt =
    let len = length-drop start text in
    let size : start + (length (drop start text) - 1) ≡ length text - 1 = omega (arith, len) in
    let less : start ≤ start + (length (drop start text) - 1) = omega arith in
    let joined = take-append-drop start (take (start + (length (drop start text) - 1)) text) in
    rw (sym size) (sym joined ∙ rw (take-take start (start + (length (drop start text) - 1)) text less, drop-take start (length (drop start text) - 1) text)
    refl)

last_set : (text : List ℕ) (start : ℕ) → start < length text → set text (length text - 1) 32 ≡ take start text
    ++ (without_last_byte (drop start text) ++ 32 ∷ [])
last_set text start lt =
    let inside : length text - 1 < length text = omega arith in
    let nothing : drop (suc (length text - 1)) text ≡ [] = drop_all (suc (length text - 1)) text (omega arith) in
    rw (set_split text (length text - 1) 32 inside, nothing, front_cut text start lt)
    (append_assoc (take start text) (without_last_byte (drop start text)) (32 ∷ []))

-- the part of the text from the start to its last byte
pub slice_front : (text : List ℕ) (start : ℕ) → take (length text - 1 - start) (drop start text) ≡ without_last_byte (drop start text)
slice_front text start =
    let len = length-drop start text in
    let size : length text - 1 - start ≡ length (drop start text) - 1 = omega (arith, len) in
    rw size refl

behind_start : (text : List ℕ) (start : ℕ) → 0 < length (drop start text) → start < length text
behind_start text start some = omega (arith, length-drop start text)

pub finish_kept : (mode : TextMode) (text : List ℕ) (start : ℕ) → ends_in_tie (drop start text) ≡ false
    → text ≡ take start text ++ finished mode (drop start text)
unfolding finished
finish_kept mode text start none = rw none (sym (take-append-drop start text))

pub finish_cut : (mode : TextMode) (text : List ℕ) (start : ℕ) → 0 < length (drop start text) → ends_in_tie (drop start text) ≡ true →
    ends_in_tie (without_last_byte (drop start text)) ≡ true → take (length text - 1) text ≡ take start text ++ finished mode (drop start text)
unfolding finished
finish_cut mode text start some tied again = rw (tied, again) (front_cut text start (behind_start text start some))

pub finish_spaced : (mode : TextMode) (text : List ℕ) (start : ℕ) → 0 < length (drop start text) → ends_in_tie (drop start text) ≡ true →
    ends_in_tie (without_last_byte (drop start text)) ≡ false → is_short mode (without_last_byte (drop start text)) ≡ false →
    set text (length text - 1) 32 ≡ take start text ++ finished mode (drop start text)
unfolding finished
finish_spaced mode text start some tied again short = rw (tied, again, short) (last_set text start (behind_start text start some))

pub finish_tied : (mode : TextMode) (text : List ℕ) (start : ℕ) → ends_in_tie (drop start text) ≡ true →
    ends_in_tie (without_last_byte (drop start text)) ≡ false → is_short mode (without_last_byte (drop start text)) ≡ true →
    text ≡ take start text ++ finished mode (drop start text)
unfolding finished
finish_tied mode text start tied again short = rw (tied, again, short) (sym (take-append-drop start text))
