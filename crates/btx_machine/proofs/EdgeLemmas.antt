-- The two sinks that were lent, once the outputs are taken apart.
use Rattle.std.proofs.Common.{◌≡◌, ℕ, ap, sym, subst, ◌∙◌, MutBor}

-- a sink ends as it was given back, since it is the one that was lent
pub ends_as : {A B : Type 0} (shows : A → B) (lent : ℕ) (back : MutBor A) (last : A) (seen : B) → back.ghost_name ≡ lent → shows back.now ≡ seen
    → (lent ≡ back.ghost_name → last ≡ back.now) → seen ≡ shows last
ends_as shows lent back last seen name e is = sym (ap shows (is (sym name)) ∙ e)

abbrev pub pair : {A B : Type 0} → A → B → A × B
pair a b = (a, b)

pub pair_is : {A B : Type 0} (a a' : A) (b b' : B) → a ≡ a' → b ≡ b' → pair a b ≡ pair a' b'
pair_is a a' b b' e f = ap (λ x. pair x b) e ∙ ap (pair a') f

-- what holds of four values holds of equal ones
pub of_equals : {A B C D : Type 0} (P : A → B → C → D → Type 0) (a a' : A) (b b' : B) (c c' : C) (d d' : D) → a ≡ a' → b ≡ b' → c ≡ c' → d ≡ d' → P a b c d
    → P a' b' c' d'
of_equals P a a' b b' c c' d d' e f g h p = subst (λ x. P x b' c' d') e (subst (λ x. P a x c' d') f (subst (λ x. P a b x d') g (subst (λ x. P a b c x) h p)))

-- and what holds of two
pub of_both : {A B : Type 0} (P : A → B → Type 0) (a a' : A) (b b' : B) → a ≡ a' → b ≡ b' → P a b → P a' b'
of_both P a a' b b' e f p = subst (λ x. P x b') e (subst (P a) f p)
