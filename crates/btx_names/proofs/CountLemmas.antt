-- Lemmas on places in a list of tokens.
use Rattle.std.proofs.Common.{◌≡◌, ℕ, suc, ◌+◌, ◌-◌, ◌<◌, ◌≤◌, Bool, true, false, cond, ltb, List, [], ◌∷◌, ◌++◌, length, get_or, take, drop, refl, ◌∙◌, ap}
use Rattle.std.proofs.Common.{arith}
use Rattle.std.proofs.lemmas.Bool.{lt-ltb}
use Rattle.std.proofs.lemmas.List.{drop_all, drop_more, take_more, take-map, length-map, take_rest, length-take-le}
use Rattle.btx_names.specs.language.Tokens.{NameToken as Token}
use Rattle.btx_names.specs.refinement.Steps.{passes}
use Rattle.btx_names.specs.declared.name_token.NameToken.{NameToken}
use Rattle.btx_names.specs.declared.token_counts.TokenTest.{TokenTest}
use Rattle.btx_names.specs.language.NameParts.{before_final, up_to_last, before_first}
use Rattle.btx_names.specs.refinement.NameTokens.{token_of, tokens_in}

-- ---- the first, of a list whose first tokens were seen

pub before_first_here : (test : TokenTest) (bytes : List ℕ) (tokens : List NameToken) (i : ℕ) (default : NameToken) → i < length tokens →
    passes test (token_of bytes (get_or tokens i default)) ≡ true → before_first (passes test) (tokens_in bytes (drop i tokens)) ≡ 0
unfolding before_first
before_first_here test bytes tokens i default h is = rw (drop_more tokens i default h, is) refl

pub before_first_next : (test : TokenTest) (bytes : List ℕ) (tokens : List NameToken) (i : ℕ) (default : NameToken) → i < length tokens →
    passes test (token_of bytes (get_or tokens i default)) ≡ false →
    before_first (passes test) (tokens_in bytes (drop i tokens)) ≡ suc (before_first (passes test) (tokens_in bytes (drop (i + 1) tokens)))
unfolding before_first
before_first_next test bytes tokens i default h is = rw (drop_more tokens i default h, is) refl

pub before_first_all : (test : TokenTest) (bytes : List ℕ) (tokens : List NameToken) (i : ℕ) → length tokens ≤ i
    → before_first (passes test) (tokens_in bytes (drop i tokens)) ≡ 0
unfolding before_first
before_first_all test bytes tokens i h = rw (drop_all i tokens h) refl

pub ruleset first_steps = (before_first_here, before_first_next, before_first_all, take_rest)

-- ---- the last

-- the tokens before the final one are all but one
pub before_final_front : (tokens : List Token) → before_final tokens ≡ take (length tokens - 1) tokens
unfolding before_final
before_final_front [] = refl
before_final_front (token ∷ []) = refl
before_final_front (token ∷ next ∷ tokens) =
    let e : length (token ∷ next ∷ tokens) - 1 ≡ suc (length (next ∷ tokens) - 1) = omega arith in
    rw e (ap (λ (others : List Token). token ∷ others) (before_final_front (next ∷ tokens)))

-- with one token more at the end
up_to_last_push : (test : TokenTest) (tokens : List Token) (token : Token) →
    up_to_last (passes test) (tokens ++ token ∷ []) ≡ cond (passes test token) (length tokens + 1) (up_to_last (passes test) tokens)
unfolding up_to_last
up_to_last_push test [] token = refl
up_to_last_push test (first ∷ tokens) token =
    ap (λ n. cond (ltb 0 n) (suc n) (cond (passes test first) 1 0)) (up_to_last_push test tokens token) ∙ at (passes test token) where
      at : (t : Bool) →
          cond (ltb 0 (cond t (length tokens + 1) (up_to_last (passes test) tokens))) (suc (cond t (length tokens + 1) (up_to_last (passes test) tokens)))
          (cond (passes test first) 1 0)
          ≡ cond t (suc (length tokens) + 1) (up_to_last (passes test) (first ∷ tokens))
      at true = let some : ltb 0 (length tokens + 1) ≡ true = lt-ltb 0 (length tokens + 1) (omega arith) in rw some (omega arith)
      at false = refl

one_more : (bytes : List ℕ) (tokens : List NameToken) (i : ℕ) (default : NameToken) → 0 < i → i ≤ length tokens →
    tokens_in bytes (take i tokens) ≡ tokens_in bytes (take (i - 1) tokens) ++ token_of bytes (get_or tokens (i - 1) default) ∷ []
one_more bytes tokens i default some le =
    let token = get_or tokens (i - 1) default in
    let e : i ≡ i - 1 + 1 = omega arith in
    let split : take (i - 1 + 1) tokens ≡ take (i - 1) tokens ++ token ∷ [] = take_more tokens (i - 1) default (omega arith) in
    ap (λ n. tokens_in bytes (take n tokens)) e ∙ ap (λ (front : List NameToken). tokens_in bytes front) split ∙ map_push (take (i - 1) tokens) token where
      map_push : (tokens : List NameToken) (token : NameToken) → tokens_in bytes (tokens ++ token ∷ []) ≡ tokens_in bytes tokens ++ token_of bytes token ∷ []
      map_push [] token = refl
      map_push (first ∷ tokens) token = ap (λ (others : List Token). token_of bytes first ∷ others) (map_push tokens token)

-- the last that passes is the last of the first `i` tokens
pub up_to_last_here : (test : TokenTest) (bytes : List ℕ) (tokens : List NameToken) (i : ℕ) (default : NameToken) → 0 < i → i ≤ length tokens →
    passes test (token_of bytes (get_or tokens (i - 1) default)) ≡ true → up_to_last (passes test) (tokens_in bytes (take i tokens)) ≡ i
up_to_last_here test bytes tokens i default some le is =
    let len : length (tokens_in bytes (take (i - 1) tokens)) ≡ i - 1 = length-map (take (i - 1) tokens) (token_of bytes)
    ∙ length-take-le (i - 1) tokens (omega arith) in
    rw (
      one_more bytes tokens i default some le,
      up_to_last_push test (tokens_in bytes (take (i - 1) tokens)) (token_of bytes (get_or tokens (i - 1) default)),
      is,
    ) (omega (arith, len))

pub up_to_last_next : (test : TokenTest) (bytes : List ℕ) (tokens : List NameToken) (i : ℕ) (default : NameToken) → 0 < i → i ≤ length tokens →
    passes test (token_of bytes (get_or tokens (i - 1) default)) ≡ false → up_to_last (passes test) (tokens_in bytes (take i tokens))
    ≡ up_to_last (passes test) (tokens_in bytes (take (i - 1) tokens))
up_to_last_next test bytes tokens i default some le is =
    rw (
      one_more bytes tokens i default some le,
      up_to_last_push test (tokens_in bytes (take (i - 1) tokens)) (token_of bytes (get_or tokens (i - 1) default)),
      is,
    ) refl

pub up_to_last_none : (test : TokenTest) (bytes : List ℕ) (tokens : List NameToken) (i : ℕ) → i ≡ 0 → up_to_last (passes test) (tokens_in bytes (take i tokens))
    ≡ 0
unfolding up_to_last
up_to_last_none test bytes tokens i is = rw is refl

pub up_to_last_start : (test : TokenTest) (bytes : List ℕ) (tokens : List NameToken) →
    up_to_last (passes test) (before_final (tokens_in bytes tokens)) ≡ up_to_last (passes test) (tokens_in bytes (take (length tokens - 1) tokens))
up_to_last_start test bytes tokens =
    rw (before_final_front (tokens_in bytes tokens), length-map tokens (token_of bytes), take-map (token_of bytes) (length tokens - 1) tokens) refl

pub ruleset last_steps = (up_to_last_here, up_to_last_next, up_to_last_none, up_to_last_start)
