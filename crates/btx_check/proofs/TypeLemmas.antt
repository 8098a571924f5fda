-- `call.type$`, in the form in which the code meets it.
use Rattle.std.proofs.Common.{◌≡◌, ℕ, ◌+◌, ◌<◌, ◌≤◌, List, [], ◌∷◌, ◌++◌, length, take, None, Some, Bool, true, false, get_or, refl, sym, subst, ◌∙◌, inl, inr}
use Rattle.std.proofs.Common.{nat_eq}
use Rattle.std.specs.Prelude.{◌⊎◌, ◌||◌}
use Rattle.std.proofs.lemmas.List.{take_more, take_all}
use Rattle.std.proofs.lemmas.Bool.{eqb-true}
use Rattle.btx_bst.specs.language.Style.{Style}
use Rattle.btx_bst.specs.declared.built_in.BuiltIn.TheVariants as built_in
use Rattle.btx_bst.specs.declared.callee.Callee.TheVariants as callee
use Rattle.btx_bst.specs.declared.token.Token.TheVariants as token
use Rattle.btx_check.specs.Promise.{is_among}
use Rattle.btx_check.specs.States.{Abstract}
use Rattle.btx_check.specs.Running.{RunsFrom}
use Rattle.btx_check.specs.Answers.{Added, Stepped, TypesStepped}
use Rattle.btx_check.proofs.AddLemmas.{sub_same, sub_then}
use Rattle.btx_check.proofs.RunLemmas.{runs_sub}
use Rattle.btx_check.proofs.CallType.{Called, default_of, call_type_runs}

pub types_none : (style : Style) (allowed : List ℕ) (a : Abstract) (r w : ℕ) (old : List Abstract) → TypesStepped style allowed [] a r w old old
types_none style allowed a r w old = record { steps = λ number e. absurd (cc); sub = sub_same old }

or_parts : (b c : Bool) → (b || c) ≡ true → (b ≡ true) ⊎ (c ≡ true)
or_parts true c e = inl refl
or_parts false c e = inr e

among_pick : (b c d : Bool) (P : Type 0) → (b || c) ≡ true → (c ≡ true → (d ≡ true) ⊎ P) → ((b || d) ≡ true) ⊎ P
among_pick true c d P e h = inl refl
among_pick false c d P e h = h e

among_snoc : (xs : List ℕ) (x n : ℕ) → is_among (xs ++ x ∷ []) n ≡ true → (is_among xs n ≡ true) ⊎ (x ≡ n)
among_snoc [] x n e = elim (or_parts (nat_eq x n) false e) [ inl h ↦ inr (eqb-true x n h) | inr h ↦ absurd (cc) ]
among_snoc (y ∷ xs) x n e = among_pick (nat_eq y n) (is_among (xs ++ x ∷ []) n) (is_among xs n) (x ≡ n) e (λ h. among_snoc xs x n h)

types_snoc : (style : Style) (allowed numbers : List ℕ) (x : ℕ) (a : Abstract) (r w : ℕ) (old mid new : List Abstract)
    → TypesStepped style allowed numbers a r w old mid → Stepped style allowed (token.Run (callee.User x)) (a ∷ []) r w mid new
    → TypesStepped style allowed (numbers ++ x ∷ []) a r w old new
types_snoc style allowed numbers x a r w old mid new h g = record {
  steps = λ number e. elim (among_snoc numbers x number e) [
    | inl k ↦ runs_sub style allowed (token.Run (callee.User number)) (a ∷ []) r w mid new (h.steps number k) g.sub
    | inr k ↦ subst (λ (n : ℕ). RunsFrom style allowed (token.Run (callee.User n)) (a ∷ []) r w new) k g.steps
  ];
  sub = sub_then old mid new h.sub g.sub;
}

pub types_step : (style : Style) (allowed numbers : List ℕ) (k d : ℕ) (a : Abstract) (r w : ℕ) (old mid new : List Abstract) → k < length numbers
    → TypesStepped style allowed (take k numbers) a r w old mid
    → Stepped style allowed (token.Run (callee.User (get_or numbers k d))) (a ∷ []) r w mid new
    → TypesStepped style allowed (take (k + 1) numbers) a r w old new
types_step style allowed numbers k d a r w old mid new l h g =
    subst (λ (ns : List ℕ). TypesStepped style allowed ns a r w old new) (sym (take_more numbers k d l))
    (types_snoc style allowed (take k numbers) (get_or numbers k d) a r w old mid new h g)

all_types : (style : Style) (allowed : List ℕ) (k : ℕ) (a : Abstract) (r w : ℕ) (old mid : List Abstract) → length allowed ≤ k
    → TypesStepped style allowed (take k allowed) a r w old mid → TypesStepped style allowed allowed a r w old mid
all_types style allowed k a r w old mid l h = subst (λ (ns : List ℕ). TypesStepped style allowed ns a r w old mid) (take_all k allowed l) h

-- no default type
pub types_without : (style : Style) (allowed : List ℕ) (k : ℕ) (a : Abstract) (r w : ℕ) (old mid new : List Abstract) → a.entry ≡ true → length allowed ≤ k
    → TypesStepped style allowed (take k allowed) a r w old mid → default_of style ≡ None
    → Added a mid new → Stepped style allowed (token.Run (callee.BuiltIn built_in.CallType)) (a ∷ []) r w old new
types_without style allowed k a r w old mid new en l g e x =
    let h = all_types style allowed k a r w old mid l g in
    record {
      steps = call_type_runs style allowed a r w new en each (λ e2. x.into);
      sub = sub_then old mid new h.sub x.sub;
    }
  where
    each : (number : ℕ) → Called style allowed number → RunsFrom style allowed (token.Run (callee.User number)) (a ∷ []) r w new
    each number (inl q) = runs_sub style allowed (token.Run (callee.User number)) (a ∷ []) r w mid new
        ((all_types style allowed k a r w old mid l g).steps number q) x.sub
    each number (inr q) = absurd (cc)

-- a default type
pub types_with : (style : Style) (allowed : List ℕ) (k n : ℕ) (a : Abstract) (r w : ℕ) (old mid new : List Abstract) → a.entry ≡ true → length allowed ≤ k
    → TypesStepped style allowed (take k allowed) a r w old mid → default_of style ≡ Some n
    → Stepped style allowed (token.Run (callee.User n)) (a ∷ []) r w mid new → Stepped style allowed (token.Run (callee.BuiltIn built_in.CallType)) (a ∷ []) r w
    old new
types_with style allowed k n a r w old mid new en l g e x =
    record {
      steps = call_type_runs style allowed a r w new en each (λ e2. absurd (cc));
      sub = sub_then old mid new (all_types style allowed k a r w old mid l g).sub x.sub;
    }
  where
    some_is : (y z : ℕ) → Some y ≡ Some z → y ≡ z
    some_is y z e = cc

    each : (number : ℕ) → Called style allowed number → RunsFrom style allowed (token.Run (callee.User number)) (a ∷ []) r w new
    each number (inl q) = runs_sub style allowed (token.Run (callee.User number)) (a ∷ []) r w mid new
        ((all_types style allowed k a r w old mid l g).steps number q) x.sub
    each number (inr q) = subst (λ (m : ℕ). RunsFrom style allowed (token.Run (callee.User m)) (a ∷ []) r w new) (some_is n number (sym e ∙ q)) x.steps
