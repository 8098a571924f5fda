-- Lemmas on the pieces of a formatted name.
use Rattle.std.proofs.Common.{Err, ◌≡◌, ℕ, ◌+◌, ◌-◌, ◌<◌, ◌≤◌, Bool, true, false, not, ◌&&◌, cond, eqb, Option, Some, None, List, [], ◌∷◌, ◌++◌, length, take}
use Rattle.std.proofs.Common.{drop, refl, sym, ◌∙◌, ap, arith, length-append, append_assoc}
use Rattle.std.proofs.lemmas.List.{take-append-drop, length-take, take_at, drop_at, take-append-le, drop-append-le, length-drop, append-nil}
use Rattle.std.proofs.lemmas.Bool.{eqb-true, false≢true}
use Rattle.btx_names.specs.refinement.ItemViews.{is_nothing, has_nothing_between}
use Rattle.btx_text.specs.declared.element_kind.TextMode.{TextMode}
use Rattle.btx_names.specs.declared.name_tokens.TokenSeparator.{TokenSeparator}
use Rattle.btx_text.specs.declared.fault.Fault.{Fault}
use Rattle.btx_text.specs.declared.fault.Fault.TheVariants.{Memory, Device, FileLimit, StringLimit}
use Rattle.btx_names.specs.refinement.Becomes.{Becomes}
use Rattle.btx_names.specs.language.Tokens.{NameToken}
use Rattle.btx_names.specs.language.Formats.{FormatPiece}
use Rattle.std.specs.List.{flat_map, join_by}
use Rattle.btx_names.specs.language.FormattedNames.{initial_of, between_text, with_tokens, piece_text, finished, ends_in_tie, without_last_byte, is_short}
use Rattle.btx_names.specs.refinement.FormattedNames.{joined_by}
use Rattle.btx_names.specs.laws.FormattedNames.{shown}

pub with_tokens_cons : (mode : TextMode) (piece : FormatPiece) (so_far : List ℕ) (token : NameToken) (tokens : List NameToken) →
    with_tokens mode piece so_far (token ∷ tokens)
    ≡ with_tokens mode piece (so_far ++ shown mode piece.is_full token.text ++ between_text mode piece (so_far ++ shown mode piece.is_full token.text)
    token.joint (length tokens)) tokens
unfolding with_tokens
with_tokens_cons mode piece so_far token tokens = refl

pub with_tokens_nil : (mode : TextMode) (piece : FormatPiece) (so_far : List ℕ) → with_tokens mode piece so_far [] ≡ so_far
unfolding with_tokens
with_tokens_nil mode piece so_far = refl

-- a piece's text only grows
pub with_tokens_grows : (mode : TextMode) (piece : FormatPiece) (so_far : List ℕ) (tokens : List NameToken)
    → length so_far ≤ length (with_tokens mode piece so_far tokens)
unfolding with_tokens
with_tokens_grows mode piece so_far [] = omega arith
with_tokens_grows mode piece so_far (token ∷ tokens) =
    let next = so_far ++ shown mode piece.is_full token.text in
    let more = between_text mode piece next token.joint (length tokens) in
    let h = with_tokens_grows mode piece (next ++ more) tokens in
    omega (arith, length-append next more, length-append so_far (shown mode piece.is_full token.text))

-- ---- a string between

-- what comes after a token with others left is the string between
between_some : (mode : TextMode) (piece : FormatPiece) (between so_far : List ℕ) (joint : TokenSeparator) (left : ℕ) → piece.between ≡ Some between → 0 < left →
    between_text mode piece so_far joint left ≡ between
unfolding between_text
between_some mode piece between so_far joint left is some = at (eqb left 0) refl where
  at : (none : Bool) → eqb left 0 ≡ none → cond none [] (joined_by mode piece.is_full piece.between so_far joint (eqb left 1)) ≡ between
  at true none = let zero_left : left ≡ 0 = eqb-true left 0 none in absurd (omega arith)
  at false none = rw is refl

-- after the last token stands nothing
between_none : (mode : TextMode) (piece : FormatPiece) (so_far : List ℕ) (joint : TokenSeparator) → between_text mode piece so_far joint 0 ≡ []
unfolding between_text
between_none mode piece so_far joint = refl

-- the tokens follow what stands so far, joined
pub joined : (mode : TextMode) (piece : FormatPiece) (between so_far : List ℕ) (tokens : List NameToken) → piece.between ≡ Some between →
    with_tokens mode piece so_far tokens ≡ so_far ++ join_by (λ token. shown mode piece.is_full token.text) between tokens
joined mode piece between so_far [] is = with_tokens_nil mode piece so_far ∙ sym (append-nil so_far)
joined mode piece between so_far (token ∷ []) is =
    let word = shown mode piece.is_full token.text in
    with_tokens_cons mode piece so_far token []
    ∙ with_tokens_nil mode piece (so_far ++ word ++ between_text mode piece (so_far ++ word) token.joint 0)
    ∙ ap (λ text. so_far ++ word ++ text) (between_none mode piece (so_far ++ word) token.joint)
    ∙ append_assoc so_far word []
joined mode piece between so_far (token ∷ next ∷ tokens) is =
    let word = shown mode piece.is_full token.text in
    let rest = flat_map (λ token. between ++ shown mode piece.is_full token.text) tokens in
    with_tokens_cons mode piece so_far token (next ∷ tokens)
    ∙ ap (λ text. with_tokens mode piece (so_far ++ word ++ text) (next ∷ tokens))
    (between_some mode piece between (so_far ++ word) token.joint (length (next ∷ tokens)) is (omega arith))
    ∙ joined mode piece between (so_far ++ word ++ between) (next ∷ tokens) is
    ∙ in_a_row so_far word between (shown mode piece.is_full next.text) rest where
      in_a_row : (a b c d e : List ℕ) → a ++ b ++ c ++ (d ++ e) ≡ a ++ (b ++ (c ++ d ++ e))
      in_a_row a b c d e = simp append_assoc refl

-- ---- token by token

-- one turn: a token is added, and what comes after it
pub one_token_more : (mode : TextMode) (piece : FormatPiece) (start : ℕ) (old mid new before : List ℕ) (token : NameToken) (tokens all : List NameToken) →
    start ≤ length old → take start old ≡ before → mid ≡ old ++ shown mode piece.is_full token.text →
    new ≡ mid ++ between_text mode piece (drop start mid) token.joint (length tokens) → all ≡ token ∷ tokens →
    (start ≤ length new) × (take start new ≡ before) × (with_tokens mode piece (drop start new) tokens ≡ with_tokens mode piece (drop start old) all)
one_token_more mode piece start old mid new before token tokens all le front first second is =
    let word = shown mode piece.is_full token.text in
    let more = between_text mode piece (drop start mid) token.joint (length tokens) in
    let le' : start ≤ length mid = omega (arith, ap length first, length-append old word) in
    let rest : drop start mid ≡ drop start old ++ word = rw (first, drop-append-le start old word le) refl in
    let rest' : drop start new ≡ drop start old ++ word ++ between_text mode piece (drop start old ++ word) token.joint (length tokens) =
    rw (second, drop-append-le start mid more le', rest) refl in (
      omega (arith, ap length second, length-append mid more),
      rw (second, take-append-le start mid more le', first, take-append-le start old word le) front,
      rw (rest', is) (sym (with_tokens_cons mode piece (drop start old) token tokens)),
    )

-- what a piece comes to is at least as long as its text so far, with one more token and what comes after it
pub grows_by_token : (mode : TextMode) (piece : FormatPiece) (start : ℕ) (text before : List ℕ) (token : NameToken) (tokens all : List NameToken)
    → start ≤ length text → take start text ≡ before →
    all ≡ token ∷ tokens →
    length text + length (shown mode piece.is_full token.text)
    + length (between_text mode piece (drop start text ++ shown mode piece.is_full token.text) token.joint (length tokens))
    ≤ length (before ++ with_tokens mode piece (drop start text) all)
grows_by_token mode piece start text before token tokens all le front is =
    let word = shown mode piece.is_full token.text in
    let next = drop start text ++ word in
    let more = between_text mode piece next token.joint (length tokens) in
    let step : with_tokens mode piece (drop start text) all ≡ with_tokens mode piece (next ++ more) tokens =
    rw is (with_tokens_cons mode piece (drop start text) token tokens) in
    omega (
      arith,
      length-append before (with_tokens mode piece (drop start text) all),
      ap (λ (t : List ℕ). length t) step,
      with_tokens_grows mode piece (next ++ more) tokens,
      length-append next more,
      length-append (drop start text) word,
      length-drop start text,
      sym (ap (λ (t : List ℕ). length t) front),
      length-take start text,
    )

pub shown_too_long : (mode : TextMode) (piece : FormatPiece) (start limit : ℕ) (text before wanted : List ℕ) (token : NameToken) (tokens all : List NameToken)
    → start ≤ length text →
    take start text ≡ before → all ≡ token ∷ tokens → with_tokens mode piece (drop start text) all ≡ wanted →
    limit < length (text ++ shown mode piece.is_full token.text) → limit < length (before ++ wanted)
shown_too_long mode piece start limit text before wanted token tokens all le front is made long =
    let grown = rw made at (grows_by_token mode piece start text before token tokens all le front is) in
    omega (arith, grown, long, length-append text (shown mode piece.is_full token.text))

pub between_too_long : (mode : TextMode) (piece : FormatPiece) (start limit : ℕ) (text mid before wanted : List ℕ) (token : NameToken)
    (tokens all : List NameToken) → start ≤ length text →
    take start text ≡ before → all ≡ token ∷ tokens → with_tokens mode piece (drop start text) all ≡ wanted → mid ≡ text ++ shown mode piece.is_full token.text
    →
    limit < length (mid ++ between_text mode piece (drop start mid) token.joint (length tokens)) → limit < length (before ++ wanted)
between_too_long mode piece start limit text mid before wanted token tokens all le front is made added long =
    let word = shown mode piece.is_full token.text in
    let more = between_text mode piece (drop start text ++ word) token.joint (length tokens) in
    let grown = rw made at (grows_by_token mode piece start text before token tokens all le front is) in
    let long' : limit < length (text ++ word ++ more) = rw (added, drop-append-le start text word le) at long in
    omega (arith, grown, long', length-append (text ++ word) more, length-append text word)

-- the text at the end of a piece's tokens
pub tokens_done : (mode : TextMode) (piece : FormatPiece) (start : ℕ) (text before all : List ℕ) (none : List NameToken) → take start text ≡ before → none ≡ []
    →
    with_tokens mode piece (drop start text) none ≡ all → text ≡ before ++ all
tokens_done mode piece start text before all none front is made =
    sym (take-append-drop start text) ∙ rw (front, sym made, is, with_tokens_nil mode piece (drop start text)) refl

-- a piece with abbreviated tokens and nothing between
pub nothing_between : (piece : FormatPiece) → has_nothing_between piece ≡ true → (piece.is_full ≡ false) × (piece.between ≡ Some [])
nothing_between piece is = at piece.is_full piece.between is where
  at : (full : Bool) (between : Option (List ℕ)) → (not full && is_nothing between) ≡ true → (full ≡ false) × (between ≡ Some [])
  at true between is = absurd (false≢true is)
  at false None is = absurd (false≢true is)
  at false (Some []) is = (refl, refl)
  at false (Some (b ∷ bs)) is = absurd (false≢true is)

-- abbreviated tokens with nothing between
pub initials_joined : (mode : TextMode) (piece : FormatPiece) (start : ℕ) (old : List ℕ) (tokens : List NameToken) → piece.is_full ≡ false
    → piece.between ≡ Some [] →
    take start old ++ with_tokens mode piece (drop start old) tokens ≡ old ++ flat_map (λ token. initial_of mode token.text) tokens
initials_joined mode piece start old tokens short is =
    ap (λ text. take start old ++ text) (joined mode piece [] (drop start old) tokens is ∙ ap (λ text. drop start old ++ text) (at tokens))
    ∙ sym (append_assoc (take start old) (drop start old) (flat_map (λ token. initial_of mode token.text) tokens))
    ∙ ap (λ text. text ++ flat_map (λ token. initial_of mode token.text) tokens) (take-append-drop start old) where
      at : (tokens : List NameToken) → join_by (λ token. shown mode piece.is_full token.text) [] tokens ≡ flat_map (λ token. initial_of mode token.text) tokens
      at [] = refl
      at (token ∷ tokens) = rw short refl

-- ---- a piece

pub piece_of_none : (mode : TextMode) (piece : FormatPiece) (tokens : List NameToken) (text : List ℕ) → length tokens ≡ 0
    → text ≡ text ++ piece_text mode piece tokens
unfolding piece_text
piece_of_none mode piece [] text none = sym (append-nil text)
piece_of_none mode piece (token ∷ tokens) text none = absurd (omega arith)

piece_of_some : (mode : TextMode) (piece : FormatPiece) (tokens : List NameToken) → 0 < length tokens →
    piece_text mode piece tokens ≡ finished mode (with_tokens mode piece piece.before tokens ++ piece.after)
unfolding piece_text
piece_of_some mode piece [] some = absurd (omega arith)
piece_of_some mode piece (token ∷ tokens) some = refl

-- a text after another one
behind : (old more : List ℕ) (start : ℕ) → start ≡ length old → (take start (old ++ more) ≡ old) × (drop start (old ++ more) ≡ more)
behind old more start is = (take_at old more start (sym is), drop_at old more start (sym is))

-- finishing takes one byte away at most
pub length-finished : (mode : TextMode) (text : List ℕ) → length text ≤ length (finished mode text) + 1
unfolding finished
length-finished mode text = at (ends_in_tie text) (ends_in_tie (without_last_byte text)) (is_short mode (without_last_byte text)) where
  at : (one two three : Bool) → length text ≤ length (cond one (cond two (without_last_byte text) (cond three text (without_last_byte text ++ 32 ∷ []))) text) +
      1
  at false two three = omega arith
  at true true three = omega (arith, length-take (length text - 1) text)
  at true false true = omega arith
  at true false false = omega (arith, length-append (without_last_byte text) (32 ∷ []), length-take (length text - 1) text)

-- the whole piece, as the code makes it
pub piece_made : (mode : TextMode) (piece : FormatPiece) (tokens : List NameToken) (start : ℕ) (old opened filled closed new : List ℕ) → 0 < length tokens
    → start ≡ length old →
    opened ≡ old ++ piece.before → filled ≡ take start opened ++ with_tokens mode piece (drop start opened) tokens → closed ≡ filled ++ piece.after →
    new ≡ take start closed ++ finished mode (drop start closed) → new ≡ old ++ piece_text mode piece tokens
piece_made mode piece tokens start old opened filled closed new some at first second third fourth =
    let one = behind old piece.before start at in
    let filled' : filled ≡ old ++ with_tokens mode piece piece.before tokens = rw (second, first, one.0, one.1) refl in
    let closed' : closed ≡ old ++ (with_tokens mode piece piece.before tokens ++ piece.after) =
    rw (third, filled') (append_assoc old (with_tokens mode piece piece.before tokens) piece.after) in
    let two = behind old (with_tokens mode piece piece.before tokens ++ piece.after) start at in
    rw (fourth, closed', two.0, two.1, piece_of_some mode piece tokens some) refl

-- a piece is, but for one byte, at least as long as what stands before its tokens
pub opened_too_long : (mode : TextMode) (piece : FormatPiece) (tokens : List NameToken) (limit : ℕ) (old : List ℕ) → 0 < length tokens →
    limit + 1 < length (old ++ piece.before) → limit < length (old ++ piece_text mode piece tokens)
opened_too_long mode piece tokens limit old some long =
    let filled = with_tokens mode piece piece.before tokens in
    rw (piece_of_some mode piece tokens some)
    (omega (
      arith,
      length-append old piece.before,
      with_tokens_grows mode piece piece.before tokens,
      length-append old (finished mode (filled ++ piece.after)),
      length-append filled piece.after,
      length-finished mode (filled ++ piece.after),
    ))

-- as its tokens with what stands before
pub filled_too_long : (mode : TextMode) (piece : FormatPiece) (tokens : List NameToken) (start limit : ℕ) (old opened : List ℕ) → 0 < length tokens
    → start ≡ length old →
    opened ≡ old ++ piece.before → limit + 1 < length (take start opened ++ with_tokens mode piece (drop start opened) tokens) →
    limit < length (old ++ piece_text mode piece tokens)
filled_too_long mode piece tokens start limit old opened some at first long =
    let one = behind old piece.before start at in
    let long' : limit + 1 < length (old ++ with_tokens mode piece piece.before tokens) = rw (first, one.0, one.1) at long in
    let filled = with_tokens mode piece piece.before tokens in
    rw (piece_of_some mode piece tokens some)
    (omega (
      arith,
      length-append old (finished mode (filled ++ piece.after)),
      length-append old filled,
      length-append filled piece.after,
      length-finished mode (filled ++ piece.after),
    ))

-- and as all of it
pub closed_too_long : (mode : TextMode) (piece : FormatPiece) (tokens : List NameToken) (start limit : ℕ) (old opened filled : List ℕ) → 0 < length tokens
    → start ≡ length old →
    opened ≡ old ++ piece.before → filled ≡ take start opened ++ with_tokens mode piece (drop start opened) tokens → limit + 1 < length (filled ++ piece.after)
    →
    limit < length (old ++ piece_text mode piece tokens)
closed_too_long mode piece tokens start limit old opened filled some at first second long =
    let one = behind old piece.before start at in
    let made = with_tokens mode piece piece.before tokens in
    let filled' : filled ≡ old ++ made = rw (second, first, one.0, one.1) refl in
    rw (piece_of_some mode piece tokens some)
    (omega (
      arith,
      length-append filled piece.after,
      ap (λ (t : List ℕ). length t) filled',
      length-append old (finished mode (made ++ piece.after)),
      length-append old made,
      length-append made piece.after,
      length-finished mode (made ++ piece.after),
    ))

-- a group without a letter is, but for one byte, as long as what stands in it
pub plain_too_long : (mode : TextMode) (limit : ℕ) (old same inside : List ℕ) → same ≡ old → limit + 1 < length (same ++ inside)
    → limit < length (old ++ finished mode inside)
plain_too_long mode limit old same inside is long =
    omega (arith, rw is at long, length-append old inside, length-append old (finished mode inside), length-finished mode inside)

-- a fault on the way is the fault of the whole
pub fails_too : (limit more : ℕ) (fault : Fault) (new new' wanted wanted' : List ℕ) → (limit < length wanted → more < length wanted') →
    Becomes limit (Err fault) new wanted → Becomes more (Err fault) new' wanted'
fails_too limit more Memory new new' wanted wanted' step h = tt
fails_too limit more StringLimit new new' wanted wanted' step h = step h
fails_too limit more Device new new' wanted wanted' step h = h
fails_too limit more FileLimit new new' wanted wanted' step h = h
