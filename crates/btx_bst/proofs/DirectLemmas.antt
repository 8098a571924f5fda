-- Direct styles, place by place.
use Rattle.std.proofs.Common.{◌≡◌, ℕ, ◌<◌, ◌≤◌, ◌⊎◌, inl, inr, Bool, true, false, [], length, refl, arith, ltb}
use Rattle.std.specs.Prelude.{slice_index_or}
use Rattle.std.proofs.lemmas.Option.{slice_get_past}
use Rattle.std.proofs.lemmas.Bool.{ltb-true, ltb-false}
use Rattle.std.proofs.lemmas.List.{get_or_past}
use Rattle.btx_bst.specs.language.Style.{Style}
use Rattle.btx_bst.specs.language.Direct.{is_direct_at, is_call_type, is_user_literal, IsDirect}
use Rattle.btx_bst.specs.refinement.Direct.{IsDirectBody}
use Rattle.btx_bst.specs.refinement.Bodies.{FunctionBody}

-- past its end a body is direct
direct-past : (body : FunctionBody) (i : ℕ) → length body ≤ i → is_direct_at body i ≡ true
unfolding is_direct_at is_call_type is_user_literal
direct-past body i h = rw (slice_get_past body i h) refl

cases : (k n : ℕ) → (k < n) ⊎ (n ≤ k)
cases k n = at (ltb k n) refl where
  at : (t : Bool) → ltb k n ≡ t → (k < n) ⊎ (n ≤ k)
  at true e = inl (ltb-true k n e)
  at false e = inr (ltb-false k n e)

-- a body that is direct at each of its places is direct
pub direct-body : (body : FunctionBody) (n : ℕ) → length body ≤ n → ((k : ℕ) → k < n → is_direct_at body k ≡ true) → IsDirectBody body
direct-body body n h all k = at (cases k n) where
  at : (k < n) ⊎ (n ≤ k) → is_direct_at body k ≡ true
  at (inl l) = all k l
  at (inr l) = direct-past body k (omega arith)

pub direct-no_body : IsDirectBody []
unfolding is_direct_at is_call_type is_user_literal
direct-no_body k = refl

-- a style whose bodies are direct is direct
pub direct-style : (style : Style) (n : ℕ) → length style.bodies ≤ n → ((k : ℕ) → k < n → IsDirectBody (slice_index_or style.bodies k [])) → IsDirect style
direct-style style n h all k = at (cases k n) where
  at : (k < n) ⊎ (n ≤ k) → IsDirectBody (slice_index_or style.bodies k [])
  at (inl l) = all k l
  at (inr l) = rw (get_or_past style.bodies k [] (omega arith)) direct-no_body

pub ruleset direct_steps = (direct-body, direct-style)
