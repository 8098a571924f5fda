-- The tokens of a name are those of its sections.
use Rattle.std.proofs.Common.{◌≡◌, ℕ, suc, ◌-◌, ◌<◌, Bool, true, false, eqb, ◌&&◌, List, [], ◌∷◌, ◌++◌, length, take, drop, refl, sym, ◌∙◌, ap, subst, arith}
use Rattle.std.proofs.lemmas.Bool.{eqb-true, and_parts, and_from, false_from_ne_true, true≢false}
use Rattle.btx_text.specs.language.Elements.{depth_after}
use Rattle.btx_names.specs.declared.name_tokens.TokenSeparator.{TokenSeparator}
use Rattle.btx_names.specs.declared.runs.Stop.TheVariants.{Break, Comma}
use Rattle.btx_names.specs.language.Runs.{is_break, run_len}
use Rattle.btx_names.specs.language.Tokens.{NameToken, joint_of, tokens_from, tokens_of}

-- ---- tests

-- a byte that passes a test isn't one that fails it
pub never : (p : ℕ → Bool) (b v : ℕ) → p b ≡ true → p v ≡ false → eqb b v ≡ false
never p b v holds fails = false_from_ne_true (eqb b v) (λ same. true≢false (sym holds ∙ ap p (eqb-true b v same) ∙ fails))

-- what stands between tokens keeps the depth
pub break_keeps : (b : ℕ) → is_break b ≡ true → depth_after 0 b ≡ 0
break_keeps b is = rw (never is_break b 123 is refl, never is_break b 125 is refl) refl

-- a comma stands between tokens
pub comma_breaks : (low : Bool) (b : ℕ) → (low && is_break b) ≡ false → (low && eqb b 44) ≡ false
comma_breaks low b none = false_from_ne_true (low && eqb b 44) (λ is. true≢false (sym (breaks is) ∙ none)) where
  breaks : (low && eqb b 44) ≡ true → (low && is_break b) ≡ true
  breaks is = let parts = and_parts low (eqb b 44) is in rw (eqb-true b 44 parts.1) (and_from low true parts.0 refl)

-- ---- the token before a comma

abbrev SameToken : ℕ → List ℕ → Type 0
SameToken depth s =
    let front = take (run_len Comma depth s) s in
    (take (run_len Break depth s) s ≡ take (run_len Break depth front) front)
    × (joint_of (drop (run_len Break depth s) s) ≡ joint_of (drop (run_len Break depth front) front))

same_token : (depth : ℕ) (s : List ℕ) → SameToken depth s
unfolding run_len
same_token depth [] = (refl, refl)
same_token depth (b ∷ bs) = at (eqb depth 0 && is_break b) (eqb depth 0 && eqb b 44) refl refl (same_token (depth_after depth b) bs) where
  comma_ends : eqb b 44 ≡ true → joint_of (b ∷ bs) ≡ joint_of []
  comma_ends is = rw (eqb-true b 44 is) refl

  at : (t u : Bool) → (eqb depth 0 && is_break b) ≡ t → (eqb depth 0 && eqb b 44) ≡ u → SameToken (depth_after depth b) bs → SameToken depth (b ∷ bs)
  at true true breaks is same = rw (breaks, is) (refl, comma_ends (and_parts (eqb depth 0) (eqb b 44) is).1)
  at true false breaks is same = rw (breaks, is, breaks) (refl, refl)
  at false u breaks is same = let no_comma = comma_breaks (eqb depth 0) b breaks in rw (breaks, no_comma, breaks) (ap (λ xs. b ∷ xs) same.0, same.1)

-- ---- the tokens before and after a comma

abbrev Outside : List ℕ → Type 0
Outside s =
    let size = run_len Comma 0 s in
    size < length s → tokens_from 0 s ≡ tokens_from 0 (take size s) ++ tokens_from 0 (drop (suc size) s)

abbrev Inside : ℕ → List ℕ → Type 0
Inside depth s =
    let size = run_len Comma depth s in
    size < length s →
    tokens_from (run_len Break depth s) s ≡ tokens_from (run_len Break depth (take size s)) (take size s) ++ tokens_from 0 (drop (suc size) s)

same_token_at : (b : ℕ) (bs front : List ℕ) (k m : ℕ) → take k bs ≡ take m front → joint_of (drop k bs) ≡ joint_of (drop m front) →
    let one : NameToken = record { text = b ∷ take k bs; joint = joint_of (drop k bs) } in
    let other : NameToken = record { text = b ∷ take m front; joint = joint_of (drop m front) } in
    one ≡ other
same_token_at b bs front k m text joint =
    let make = λ (text : List ℕ) (joint : TokenSeparator). let token : NameToken = record { text = text; joint = joint } in token in
    ap (λ t. make (b ∷ t) (joint_of (drop k bs))) text ∙ ap (λ j. make (b ∷ take m front) j) joint

skip_break : (b : ℕ) (bs : List ℕ) → is_break b ≡ true → tokens_from 0 (b ∷ bs) ≡ tokens_from 0 bs
unfolding tokens_from
skip_break b bs breaks = rw breaks refl

run_here : (b : ℕ) (bs : List ℕ) → is_break b ≡ true → run_len Break 0 (b ∷ bs) ≡ 0
unfolding run_len
run_here b bs breaks = rw breaks refl

comma_later : (b : ℕ) (bs : List ℕ) → is_break b ≡ true → eqb b 44 ≡ false → run_len Comma 0 (b ∷ bs) ≡ suc (run_len Comma 0 bs)
unfolding run_len
comma_later b bs breaks is = rw (is, break_keeps b breaks) refl

zero_break : (b : ℕ) (bs : List ℕ) → is_break b ≡ true → eqb b 44 ≡ false → Outside bs → Inside 0 (b ∷ bs)
zero_break b bs breaks is more =
    rw (comma_later b bs breaks is)
    (λ less. rw (
      run_here b bs breaks,
      run_here b (take (run_len Comma 0 bs) bs) breaks,
      skip_break b bs breaks,
      skip_break b (take (run_len Comma 0 bs) bs) breaks,
    ) (more (omega arith)))

same_list : {one other : NameToken} {tokens others : List NameToken} → one ≡ other → tokens ≡ others → one ∷ tokens ≡ other ∷ others
same_list head tail = rw (head, tail) refl

both : (s : List ℕ) → Outside s × ((depth : ℕ) → Inside depth s)
unfolding tokens_from run_len
both [] = (λ less. absurd (omega arith), λ depth less. absurd (omega arith))
both (b ∷ bs) =
    let more = both bs in
    (outside (is_break b) (eqb b 44) refl refl more, λ depth. inside depth (eqb depth 0 && is_break b) (eqb depth 0 && eqb b 44) refl refl more) where
      More : Type 0
      More = Outside bs × ((depth : ℕ) → Inside depth bs)

      outside : (t u : Bool) → is_break b ≡ t → eqb b 44 ≡ u → More → Outside (b ∷ bs)
      outside true true breaks is more = rw (breaks, is) (λ less. refl)
      outside true false breaks is more =
          rw (breaks, is, break_keeps b breaks, breaks)
          (λ less. more.0 (omega arith) ∙ ap (λ n. tokens_from 0 (take (run_len Comma 0 bs) bs) ++ tokens_from 0 (drop (suc (run_len Comma n bs)) bs))
          (sym (break_keeps b breaks)))
      outside false u breaks is more =
          let no_comma : eqb b 44 ≡ false = comma_breaks true b breaks in
          let depth = depth_after 0 b in
          let front = take (run_len Comma depth bs) bs in
          let k = run_len Break depth bs in
          let m = run_len Break depth front in
          let same = same_token depth bs in
          let less_k : suc k - 1 ≡ k = omega arith in
          let less_m : suc m - 1 ≡ m = omega arith in
          rw (breaks, no_comma, breaks, less_k, less_m)
          (λ less.
          let tail = more.1 depth (omega arith) in
          let head = same_token_at b bs front k m same.0 same.1 in
          same_list head tail)

      inside : (depth : ℕ) (t u : Bool) → (eqb depth 0 && is_break b) ≡ t → (eqb depth 0 && eqb b 44) ≡ u → More → Inside depth (b ∷ bs)
      inside depth true true breaks is more =
          let here = and_parts (eqb depth 0) (is_break b) breaks in
          rw (is, breaks, here.1) (λ less. refl)
      inside depth true false breaks is more =
          let here = and_parts (eqb depth 0) (is_break b) breaks in
          let no_comma : eqb b 44 ≡ false = rw here.0 at is in
          let P : ℕ → Type 0 = λ n. Inside n (b ∷ bs) in
          subst P (sym (eqb-true depth 0 here.0)) (zero_break b bs here.1 no_comma more.0)
      inside depth false u breaks is more =
          let no_comma = comma_breaks (eqb depth 0) b breaks in
          rw (no_comma, breaks) (λ less. more.1 (depth_after depth b) (omega arith))

-- the tokens of a text with a comma are those before it and those after it
pub tokens_of-comma : (text : List ℕ) → run_len Comma 0 text < length text →
    tokens_of text ≡ tokens_of (take (run_len Comma 0 text) text) ++ tokens_of (drop (suc (run_len Comma 0 text)) text)
unfolding tokens_of
tokens_of-comma text less = (both text).0 less
