-- A walk over the tokens of a function, and the literals on top.
use Rattle.std.proofs.Common.{◌≡◌, ◌≤◌, ℕ, zero, suc, ◌+◌, ◌-◌, List, [], ◌∷◌, ◌++◌, length, take, drop, sym, ap, subst, ◌∙◌, refl, arith, append_assoc}
use Rattle.std.proofs.lemmas.List.{append-nil, take_all}
use Rattle.btx_bst.specs.declared.token.Token.{Token}
use Rattle.btx_code.specs.refinement.Codes.{Coded, tokens_left}

-- ---- a walk over tokens

module _ {A : Type 0} (x : A) (rest : List A) where
  no_more : [] ≡ x ∷ rest → ⊥
  no_more e = let z : 0 ≡ suc (length rest) = ap length e in omega (arith, z)

  tail : List A → List A
  tail [] = []
  tail (y ∷ ys) = ys

  -- after one more of them
  pub drop_more : (n : ℕ) (xs : List A) → drop n xs ≡ x ∷ rest → drop (suc n) xs ≡ rest
  unfolding tail
  drop_more zero [] e = absurd (no_more e)
  drop_more zero (y ∷ xs) e = ap tail e
  drop_more (suc n) [] e = absurd (no_more e)
  drop_more (suc n) (y ∷ xs) e = drop_more n xs e

pub walked : (code : Coded) (start at : ℕ) (t : Token) → start ≤ at → drop (at - start) (tokens_left code start) ≡ tokens_left code at
    → tokens_left code at ≡ t ∷ tokens_left code (at + 1)
    → drop (at + 1 - start) (tokens_left code start) ≡ tokens_left code (at + 1)
walked code start at t le before next =
    let z : at + 1 - start ≡ suc (at - start) = omega (arith, le) in
    ap (λ n. drop n (tokens_left code start)) z ∙ drop_more t (tokens_left code (at + 1)) (at - start) (tokens_left code start) (before ∙ next)

-- ---- literals

module _ {A : Type 0} where
  front : (ys xs : List A) (n : ℕ) → length xs ≡ n → xs ≡ take n (xs ++ ys)
  front ys [] zero l = refl
  front ys [] (suc n) l = absurd (omega (arith, l))
  front ys (x ∷ xs) zero l = absurd (omega (arith, l))
  front ys (x ∷ xs) (suc n) l = ap (λ xs. x ∷ xs) (front ys xs n (omega (arith, l)))

  -- as many as are taken
  pub taken : (n : ℕ) (xs ys zs : List A) → xs ++ ys ≡ zs → length xs ≡ n → xs ≡ take n zs
  taken n xs ys zs e l = front ys xs n l ∙ ap (take n) e

  -- fewer than may be taken
  pub taken_all : (n : ℕ) (xs ys zs : List A) → xs ++ ys ≡ zs → ys ≡ [] → length xs ≤ n → xs ≡ take n zs
  taken_all n xs ys zs e none le =
      let whole : xs ≡ zs = sym (append-nil xs) ∙ ap (λ more. xs ++ more) (sym none) ∙ e in
      whole ∙ sym (take_all n zs (subst (λ xs. length xs ≤ n) whole le))

  pub one_more : (xs : List A) (x : A) (old new zs : List A) → xs ++ old ≡ zs → old ≡ x ∷ new → (xs ++ x ∷ []) ++ new ≡ zs
  one_more xs x old new zs before is = append_assoc xs (x ∷ []) new ∙ ap (λ more. xs ++ more) (sym is) ∙ before
