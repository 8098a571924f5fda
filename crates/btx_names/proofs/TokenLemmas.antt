-- Lemmas on the tokens of a name.
use Rattle.std.proofs.Common.{◌≡◌, ℕ, zero, suc, ◌-◌, ◌<◌, Bool, true, false, cond, List, [], ◌∷◌, drop, refl, sym, ◌∙◌, ap, arith}
use Rattle.btx_text.specs.language.Elements.{depth_after}
use Rattle.btx_names.specs.declared.runs.Stop.TheVariants.{Break}
use Rattle.btx_names.specs.language.Runs.{is_break, run_len}
use Rattle.btx_names.specs.language.Tokens.{NameToken, tokens_from, tokens_of}
use Rattle.btx_names.specs.refinement.Tokens.{token_at}

-- ---- the tokens

pub tokens_from-skip : (skip : ℕ) (s : List ℕ) → tokens_from skip s ≡ tokens_from 0 (drop skip s)
unfolding tokens_from
tokens_from-skip zero s = refl
tokens_from-skip (suc skip) [] = refl
tokens_from-skip (suc skip) (b ∷ bs) = tokens_from-skip skip bs

-- a text that begins with a byte between tokens
pub tokens_of-break : (b : ℕ) (bs : List ℕ) → is_break b ≡ true → tokens_of (b ∷ bs) ≡ tokens_of bs
unfolding tokens_of tokens_from
tokens_of-break b bs breaks = rw breaks refl

-- a run before a break has a byte where the text doesn't begin with one
run_more : (b : ℕ) (bs : List ℕ) → is_break b ≡ false → run_len Break 0 (b ∷ bs) ≡ suc (run_len Break (depth_after 0 b) bs)
unfolding run_len
run_more b bs test = rw test refl

-- and none where it does
run_none : (b : ℕ) (bs : List ℕ) → is_break b ≡ true → run_len Break 0 (b ∷ bs) ≡ 0
unfolding run_len
run_none b bs test = rw test refl

run_nothing : run_len Break 0 [] ≡ 0
unfolding run_len
run_nothing = refl

-- a text that begins with a token
pub tokens_of-run : (s : List ℕ) → 0 < run_len Break 0 s → tokens_of s ≡ token_at s ∷ tokens_of (drop (run_len Break 0 s) s)
unfolding tokens_of tokens_from
tokens_of-run [] some = absurd (omega (arith, some, run_nothing))
tokens_of-run (b ∷ bs) some = at (is_break b) refl where
  at : (t : Bool) → is_break b ≡ t →
      cond t (tokens_from 0 bs) (token_at (b ∷ bs) ∷ tokens_from (run_len Break 0 (b ∷ bs) - 1) bs)
      ≡ token_at (b ∷ bs) ∷ tokens_from 0 (drop (run_len Break 0 (b ∷ bs)) (b ∷ bs))
  at true is = absurd (omega (arith, some, run_none b bs is))
  at false is =
      let size = run_len Break (depth_after 0 b) bs in
      let e : suc size - 1 ≡ size = omega arith in
      ap (λ (tokens : List NameToken). token_at (b ∷ bs) ∷ tokens)
      (ap (λ n. tokens_from (n - 1) bs) (run_more b bs is) ∙ ap (λ n. tokens_from n bs) e ∙ tokens_from-skip size bs
      ∙ sym (ap (λ n. tokens_from 0 (drop n (b ∷ bs))) (run_more b bs is)))
