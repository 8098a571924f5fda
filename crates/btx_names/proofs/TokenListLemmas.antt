-- Lemmas on the tokens of a name by their places in the list of names.
use Rattle.std.proofs.Common.{◌≡◌, ℕ, suc, ◌+◌, ◌-◌, ◌≤◌, Bool, true, false, cond, List, [], ◌∷◌, ◌++◌, length, take, drop, refl, sym, ◌∙◌, ap, arith}
use Rattle.std.proofs.lemmas.List.{drop-drop, drop-take}
use Rattle.std.proofs.lemmas.List.Elements.{All-append, All-cons, All-nil}
use Rattle.std.specs.List.{All}
use Rattle.btx_names.specs.language.FormattedNames.{begins_initial}
use Rattle.btx_names.specs.refinement.Lettered.{from_abbreviation}
use Rattle.btx_names.specs.refinement.NameTokens.{Hold}
use Rattle.btx_names.specs.declared.name_token.NameToken.{NameToken}

-- ---- where the abbreviation begins

pub lettered_le : (text : List ℕ) → length (from_abbreviation text) ≤ length text
unfolding from_abbreviation
lettered_le [] = omega arith
lettered_le (b ∷ bs) = at (begins_initial (b ∷ bs)) (lettered_le bs) where
  at : (t : Bool) → length (from_abbreviation bs) ≤ length bs → length (cond t (b ∷ bs) (from_abbreviation bs)) ≤ length (b ∷ bs)
  at true h = omega arith
  at false h = omega arith

pub lettered_behind : (text : List ℕ) → drop (length text - length (from_abbreviation text)) text ≡ from_abbreviation text
unfolding from_abbreviation
lettered_behind [] = refl
lettered_behind (b ∷ bs) = at (begins_initial (b ∷ bs)) (lettered_behind bs) where
  at : (t : Bool) → drop (length bs - length (from_abbreviation bs)) bs ≡ from_abbreviation bs → drop (length (b ∷ bs) - length (cond t (b ∷ bs) (from_abbreviation bs))) (b ∷ bs)
      ≡ cond t (b ∷ bs) (from_abbreviation bs)
  at true h = let e : suc (length bs) - suc (length bs) ≡ 0 = omega arith in rw e refl
  at false h =
      let e : suc (length bs) - length (from_abbreviation bs) ≡ suc (length bs - length (from_abbreviation bs)) = omega (arith, lettered_le bs) in
      rw e h

-- ---- a token

-- a token of a list of names, by where it begins there
pub token_held : (names text lettered : List ℕ) (from : ℕ) (token : NameToken) → text ≡ take (length text) (drop from names) → lettered ≡ from_abbreviation text →
    from + length text ≤ length names → token.text.from ≡ from → token.text.len ≡ length text →
    token.lettered.from ≡ from + length text - length lettered → token.lettered.len ≡ length lettered → Hold names token
token_held names text lettered from token is begins inside text_from text_len lettered_from lettered_len = (
  omega (arith, inside, text_from, text_len),
  omega (arith, inside, le, lettered_from, lettered_len),
  rw (lettered_from, lettered_len, start) behind ∙ begins ∙ ap from_abbreviation (is ∙ sym (rw (text_from, text_len) refl)),
) where
  le : length lettered ≤ length text
  le = rw begins (lettered_le text)

  start : from + length text - length lettered ≡ from + (length text - length lettered)
  start = omega (arith, le)

  whole : length text - length lettered + length lettered ≡ length text
  whole = omega (arith, le)

  ends : drop (length text - length lettered) text ≡ lettered
  ends = rw begins (lettered_behind text)

  behind : take (length lettered) (drop (from + (length text - length lettered)) names) ≡ lettered
  behind =
      ap (take (length lettered)) (sym (drop-drop (length text - length lettered) from names))
      ∙ sym (drop-take (length text - length lettered) (length lettered) (drop from names))
      ∙ ap (λ n. drop (length text - length lettered) (take n (drop from names))) whole
      ∙ ap (drop (length text - length lettered)) (sym is)
      ∙ ends

-- one token more
pub held_pushed : (names : List ℕ) (tokens : List NameToken) (token : NameToken) → All (Hold names) tokens → Hold names token
    → All (Hold names) (tokens ++ token ∷ [])
held_pushed names tokens token held one = All-append (Hold names) tokens (token ∷ []) held (All-cons (Hold names) token [] one (All-nil (Hold names)))
