-- What stands between the tokens of a piece.
use Rattle.std.proofs.Common.{◌≡◌, ℕ, zero, suc, ◌<◌, Bool, true, false, cond, eqb, List, [], ◌∷◌, ◌++◌, Some, None, length, refl, sym, ◌∙◌, ap, arith}
use Rattle.std.proofs.Common.{append_assoc}
use Rattle.std.proofs.lemmas.Bool.{eqb-true, ne_eqb}
use Rattle.btx_names.specs.declared.name_tokens.TokenSeparator.{TokenSeparator}
use Rattle.std.specs.List.{join_by}
use Rattle.btx_text.specs.declared.element_kind.TextMode.{TextMode}
use Rattle.btx_names.specs.language.Tokens.{NameToken}
use Rattle.btx_names.specs.language.Formats.{FormatPiece}
use Rattle.btx_names.specs.language.FormattedNames.{piece_text, finished, with_tokens, between_text, period_of, tie_of}
use Rattle.btx_names.proofs.PieceLemmas.{joined, with_tokens_cons}
use Rattle.btx_names.specs.refinement.FormattedNames.{joined_by}
use Rattle.btx_names.specs.laws.FormattedNames.{shown}

pub tokens_joined : (mode : TextMode) (piece : FormatPiece) (between : List ℕ) (token : NameToken) (tokens : List NameToken) → piece.between ≡ Some between →
    piece_text mode piece (token ∷ tokens)
    ≡ finished mode (piece.before ++ join_by (λ token. shown mode piece.is_full token.text) between (token ∷ tokens) ++ piece.after)
unfolding piece_text
tokens_joined mode piece between token tokens is = ap (λ text. finished mode (text ++ piece.after)) (joined mode piece between piece.before (token ∷ tokens) is)

-- ---- without a string between

-- what comes after a token with others left is a period, if the token is abbreviated, and a tie
behind_token : (mode : TextMode) (piece : FormatPiece) (so_far : List ℕ) (joint : TokenSeparator) (left : ℕ) (is_last : Bool) → piece.between ≡ None → 0 < left
    → eqb left 1 ≡ is_last →
    between_text mode piece so_far joint left ≡ period_of piece.is_full ++ tie_of mode (so_far ++ period_of piece.is_full) joint is_last ∷ []
unfolding between_text
behind_token mode piece so_far joint left is_last is some last = at (eqb left 0) refl where
  at : (none : Bool) → eqb left 0 ≡ none → cond none [] (joined_by mode piece.is_full piece.between so_far joint (eqb left 1))
      ≡ period_of piece.is_full ++ tie_of mode (so_far ++ period_of piece.is_full) joint is_last ∷ []
  at true none = let zero_left : left ≡ 0 = eqb-true left 0 none in absurd (omega arith)
  at false none = rw (is, last) refl

last_left : (n : ℕ) → eqb (suc n) 1 ≡ eqb n 0
last_left zero = refl
last_left (suc n) = ne_eqb (suc (suc n)) 1 (λ e. absurd (omega arith)) ∙ sym (ne_eqb (suc n) 0 (λ e. absurd (omega arith)))

pub tokens_tied : (mode : TextMode) (piece : FormatPiece) (so_far : List ℕ) (token next : NameToken) (tokens : List NameToken) → piece.between ≡ None →
    let text = so_far ++ shown mode piece.is_full token.text ++ period_of piece.is_full in
    with_tokens mode piece so_far (token ∷ next ∷ tokens) ≡ with_tokens mode piece (text ++ tie_of mode text token.joint (eqb (length tokens) 0) ∷ [])
    (next ∷ tokens)
tokens_tied mode piece so_far token next tokens is =
    let word = so_far ++ shown mode piece.is_full token.text in
    let tie = tie_of mode (word ++ period_of piece.is_full) token.joint (eqb (length tokens) 0) in
    with_tokens_cons mode piece so_far token (next ∷ tokens)
    ∙ ap (λ text. with_tokens mode piece (word ++ text) (next ∷ tokens))
    (behind_token mode piece word token.joint (length (next ∷ tokens)) (eqb (length tokens) 0) is (omega arith) (last_left (length tokens)))
    ∙ ap (λ text. with_tokens mode piece text (next ∷ tokens)) (sym (append_assoc word (period_of piece.is_full) (tie ∷ [])))
