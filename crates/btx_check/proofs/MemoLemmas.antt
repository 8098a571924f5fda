-- What is remembered of functions of the style: looked up, kept, and handed out again.
use Rattle.std.proofs.Common.{◌≡◌, ℕ, zero, suc, ◌<◌, ◌≤◌, List, [], ◌∷◌, ◌++◌, length, get_or, sym, subst, arith, inl, inr}
use Rattle.std.proofs.Math.ListN.{set}
use Rattle.std.specs.Prelude.{slice_index_or}
use Rattle.btx_bst.specs.language.Style.{Style}
use Rattle.btx_bst.specs.declared.callee.Callee.TheVariants as callee
use Rattle.btx_bst.specs.declared.token.Token.{Token}
use Rattle.btx_bst.specs.declared.token.Token.TheVariants as token
use Rattle.btx_check.specs.declared.memo.Remembered.{Remembered}
use Rattle.btx_check.specs.declared.memo.VisitCache.{VisitCache}
use Rattle.btx_check.specs.States.{Abstract}
use Rattle.btx_check.specs.Inclusion.{Sub, Within}
use Rattle.btx_check.specs.Running.{RunsFrom, BodyRuns}
use Rattle.btx_check.specs.Answers.{Stepped, Reached}
use Rattle.btx_check.specs.Tables.{IsKept}
use Rattle.btx_check.specs.Memos.{Holds, AllHold, Keeps, Recalls}
use Rattle.btx_check.proofs.Covering.{body_none, user_runs, one_of}
use Rattle.btx_check.proofs.RunLemmas.{runs_sub}

holds_at : (style : Style) (allowed : List ℕ) (es : List Remembered) (k : ℕ) (e : Remembered) → k < length es → e ≡ get_or es k e → AllHold style allowed es
    → Holds style allowed e
holds_at style allowed [] k e l q h = absurd (omega (arith, l))
holds_at style allowed (x ∷ es) zero e l q h = subst (λ (y : Remembered). Holds style allowed y) (sym q) h.0
holds_at style allowed (x ∷ es) (suc k) e l q h = holds_at style allowed es k e (omega (arith, l)) q h.1

hold_push : (style : Style) (allowed : List ℕ) (es : List Remembered) (e : Remembered) → AllHold style allowed es → Holds style allowed e
    → AllHold style allowed (es ++ e ∷ [])
hold_push style allowed [] e h g = (g, tt)
hold_push style allowed (x ∷ es) e h g = (h.0, hold_push style allowed es e h.1 g)

hold_set : (style : Style) (allowed : List ℕ) (es : List Remembered) (k : ℕ) (e : Remembered) → AllHold style allowed es → Holds style allowed e
    → AllHold style allowed (set es k e)
hold_set style allowed [] k e h g = h
hold_set style allowed (x ∷ es) zero e h g = (g, h.1)
hold_set style allowed (x ∷ es) (suc k) e h g = (h.0, hold_set style allowed es k e h.1 g)

pub keeps_kept : (e : Remembered) (before after : VisitCache) → IsKept Remembered e before.table.entries.items after.table.entries.items → Keeps e before after
keeps_kept e before after (inl q) = record {
  keeps = λ style allowed h g. subst (λ (es : List Remembered). AllHold style allowed es) (sym q) (hold_push style allowed before.table.entries.items e h g);
}
keeps_kept e before after (inr (k, q)) = record {
  keeps = λ style allowed h g. subst (λ (es : List Remembered). AllHold style allowed es) (sym q) (hold_set style allowed before.table.entries.items k e h g);
}

-- a run from a description that says no more, with no less room
runs_within : (style : Style) (allowed : List ℕ) (t : Token) (a b : Abstract) (d l deep loops : ℕ) (xs : List Abstract) → Within a b → d ≤ deep → l ≤ loops
    → RunsFrom style allowed t (b ∷ []) d l xs → RunsFrom style allowed t (a ∷ []) deep loops xs
runs_within style allowed t a b d l deep loops xs w q r h job of n m bodies running left s i f l1 l2 l3 =
    h job of n m bodies running left s (inl (w.within job left s.store (one_of job left a s.store i))) f (omega (arith, l1, q)) l2 (omega (arith, l3, r))

pub recalls_of : (m : VisitCache) (k : ℕ) (e : Remembered) (i : ℕ) (a : Abstract) (deep loops : ℕ) (states : List Abstract) → k < length m.table.entries.items
    → e ≡ get_or m.table.entries.items k e → e.function ≡ i → e.deep ≤ deep → e.loops ≤ loops → Within a e.from → states ≡ e.to.items
    → Recalls m i a deep loops states
recalls_of m k e i a deep loops states l q f d r w s = record {
  recalls = λ style allowed h. subst (λ (xs : List Abstract). RunsFrom style allowed (token.Run (callee.User i)) (a ∷ []) deep loops xs) (sym s)
      (subst (λ (j : ℕ). RunsFrom style allowed (token.Run (callee.User j)) (a ∷ []) deep loops e.to.items) f
      (runs_within style allowed (token.Run (callee.User e.function)) a e.from e.deep e.loops deep loops e.to.items w d r
      (holds_at style allowed m.table.entries.items k e l q h)));
}

pub stepped_to : (style : Style) (allowed : List ℕ) (t : Token) (a b : Abstract) (deep loops : ℕ) (xs old new : List Abstract) → Within a b
    → RunsFrom style allowed t (b ∷ []) deep loops xs → Sub xs new → Sub old new → Stepped style allowed t (a ∷ []) deep loops old new
stepped_to style allowed t a b deep loops xs old new w h g k = record {
  steps = runs_sub style allowed t (a ∷ []) deep loops xs new (runs_within style allowed t a b deep loops deep loops xs w (omega arith) (omega arith) h) g;
  sub = k;
}

pub within_same : (a b : Abstract) → a ≡ b → Within a b
within_same a b e = subst (λ (x : Abstract). Within a x) e (record { within = λ job left s i. i })

-- the tokens of the body were all run
pub body_ran_of : (style : Style) (allowed : List ℕ) (i : ℕ) (body rest : List Token) (a : Abstract) (r w deep : ℕ) (xs : List Abstract) → deep ≡ suc r
    → rest ≡ [] → body ≡ slice_index_or style.bodies i []
    → Reached style allowed body rest a r w xs → RunsFrom style allowed (token.Run (callee.User i)) (a ∷ []) deep w xs
body_ran_of style allowed i body rest a r w deep xs ed er e h =
    let h2 = subst (λ (ts : List Token). Reached style allowed body ts a r w xs) er h in
    subst (λ (d : ℕ). RunsFrom style allowed (token.Run (callee.User i)) (a ∷ []) d w xs) (sym ed)
    (user_runs style allowed i (a ∷ []) r w xs
    (subst (λ (ts : List Token). BodyRuns style allowed ts (a ∷ []) r w xs) e (h2.reached xs (body_none style allowed xs r w))))

pub runs_copied : (style : Style) (allowed : List ℕ) (t : Token) (a b : Abstract) (deep loops : ℕ) (xs ys : List Abstract) → b ≡ a → ys ≡ xs
    → RunsFrom style allowed t (a ∷ []) deep loops xs → RunsFrom style allowed t (b ∷ []) deep loops ys
runs_copied style allowed t a b deep loops xs ys e f h = subst (λ (zs : List Abstract). RunsFrom style allowed t (b ∷ []) deep loops zs) (sym f)
    (subst (λ (x : Abstract). RunsFrom style allowed t (x ∷ []) deep loops xs) (sym e) h)

pub remembers_none : (style : Style) (allowed : List ℕ) (es : List Remembered) → es ≡ [] → AllHold style allowed es
remembers_none style allowed es e = subst (λ (xs : List Remembered). AllHold style allowed xs) (sym e) tt
