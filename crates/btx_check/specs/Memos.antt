-- What is remembered of functions of the style, and handed out again.
use Rattle.std.specs.Prelude.{ℕ, List, [], ◌∷◌}
use Rattle.btx_bst.specs.language.Style.{Style}
use Rattle.btx_bst.specs.declared.callee.Callee.TheVariants as callee
use Rattle.btx_bst.specs.declared.token.Token.TheVariants as token
use Rattle.btx_check.specs.declared.memo.Remembered.{Remembered}
use Rattle.btx_check.specs.declared.memo.VisitCache.{VisitCache}
use Rattle.btx_check.specs.States.{Abstract}
use Rattle.btx_check.specs.Running.{RunsFrom}

-- what is remembered of a function of the style is so
abbrev pub Holds : Style → List ℕ → Remembered → Type 0
Holds style allowed e = RunsFrom style allowed (token.Run (callee.User e.function)) (e.from ∷ []) e.deep e.loops e.to.items

-- .. of each
abbrev pub AllHold : Style → List ℕ → List Remembered → Type 0
AllHold style allowed [] = Unit {0}
AllHold style allowed (e ∷ es) = Holds style allowed e × AllHold style allowed es

-- all that is remembered is so, in each job of the style
abbrev pub Remembers : Style → List ℕ → VisitCache → Type 0
Remembers style allowed m = AllHold style allowed m.table.entries.items

-- if what was remembered is so, what is remembered now is so, too, as long as this is
pub record Keeps (e : Remembered) (before after : VisitCache) : Type 0 where
  pub keeps : (style : Style) (allowed : List ℕ) → Remembers style allowed before → Holds style allowed e → Remembers style allowed after

-- if what is remembered is so, a function of the style leads from `a` to `states`
pub record Recalls (m : VisitCache) (i : ℕ) (a : Abstract) (deep loops : ℕ) (states : List Abstract) : Type 0 where
  pub recalls : (style : Style) (allowed : List ℕ) → Remembers style allowed m → RunsFrom style allowed (token.Run (callee.User i)) (a ∷ []) deep loops states
