-- Long strings below the top.
use Rattle.std.proofs.Common.{ℕ, zero, suc, ◌≡◌, ◌≤◌, ◌<◌, ◌+◌, List, [], ◌∷◌, true, false, length, take, drop, get_or, Some, None, refl, sym, ap, subst, ◌∙◌}
use Rattle.std.proofs.Common.{arith}
use Rattle.std.proofs.lemmas.List.{take_all, take-take, length-take-le, get_or-take, get_or_default}
use Rattle.btx_stack.specs.refinement.Content.{Content}
use Rattle.btx_stack.specs.refinement.Content as content
use Rattle.btx_stack.specs.declared.literal.Literal.{Literal}
use Rattle.btx_stack.specs.declared.literal.Literal.TheVariants as literal
use Rattle.btx_stack.specs.refinement.Steps.{large_on}
use Rattle.btx_stack.specs.refinement.Steps as steps
use Rattle.btx_stack.specs.refinement.LongStrings.{filled, Owns}
use Rattle.btx_stack.specs.refinement.Stacks.{has_text}
use Rattle.btx_stack.specs.refinement.Stacks as stacks
use Rattle.btx_bst.specs.declared.callee.Callee.{Callee}
use Rattle.btx_stack.proofs.Depths.{rest_is}
use Rattle.btx_stack.proofs.LongStrings.{no_text, large_within}

-- the literals from a depth on have the first long strings
record Under (xs : List Content) (large : List (List ℕ)) (d : ℕ) : Type 0 where
  count : ℕ
  few : count ≤ length large
  owns : Owns (drop d xs) count
  shown : drop d (filled xs large) ≡ filled (drop d xs) (take count large)

under : (xs : List Content) (large : List (List ℕ)) (d : ℕ) → Owns xs (length large) → Under xs large d
under xs large zero o = record { count = length large; few = omega arith; owns = o; shown = ap (filled xs) (sym (take_all (length large) large (omega arith))) }
under [] large (suc d) o = record { count = 0; few = omega arith; owns = refl; shown = refl }
under (content.Integer n ∷ xs) large (suc d) o = let u = under xs large d o in record { count = u.count; few = u.few; owns = u.owns; shown = u.shown }
under (content.Text t ∷ xs) large (suc d) o = let u = under xs large d o in record { count = u.count; few = u.few; owns = u.owns; shown = u.shown }
under (content.Function f ∷ xs) large (suc d) o = let u = under xs large d o in record { count = u.count; few = u.few; owns = u.owns; shown = u.shown }
under (content.Missing ∷ xs) large (suc d) o = let u = under xs large d o in record { count = u.count; few = u.few; owns = u.owns; shown = u.shown }
under (content.Large i ∷ xs) large (suc d) o =
    let n : length (take i large) ≡ i = length-take-le i large (omega (arith, o.0)) in
    let u = under xs (take i large) d (subst (Owns xs) (sym n) o.1) in
    let few : u.count ≤ i = omega (arith, u.few, n) in
    record {
      count = u.count;
      few = omega (arith, few, o.0);
      owns = u.owns;
      shown = u.shown ∙ ap (filled (drop d xs)) (take-take u.count i large few);
    }

pub deep_text : (old : List Content) (large : List (List ℕ)) (was : List Literal) (d : ℕ) (text : List ℕ) → drop d old ≡ content.Text text ∷ drop (d + 1) old
    → filled old large ≡ was → Owns old (length large) → drop d was ≡ literal.Text text ∷ drop (d + 1) was
deep_text old large was d text e o w =
    let u = under old large d w in
    rest_is was (filled (drop (d + 1) old) (take u.count large)) (literal.Text text) d
    (sym (ap (drop d) o) ∙ (u.shown ∙ ap (λ xs. filled xs (take u.count large)) e))

-- a long string of a depth is the last one up to there
opened : (xs : List Content) (i : ℕ) → large_on xs ≡ Some i → xs ≡ content.Large i ∷ steps.below_top xs
opened [] i e = cc
opened (content.Integer n ∷ xs) i e = cc
opened (content.Text t ∷ xs) i e = cc
opened (content.Function f ∷ xs) i e = cc
opened (content.Missing ∷ xs) i e = cc
opened (content.Large j ∷ xs) i e = let s : j ≡ i = cc in ap (λ k. content.Large k ∷ xs) s

pub deep_within : (old : List Content) (large : List (List ℕ)) (d i : ℕ) → large_on (drop d old) ≡ Some i → Owns old (length large) → i < length large
deep_within old large d i e w = let u = under old large d w in omega (arith, u.few, large_within (drop d old) u.count i e u.owns)

deep_large : (old : List Content) (large : List (List ℕ)) (was : List Literal) (d i : ℕ) (text : List ℕ) → large_on (drop d old) ≡ Some i
    → filled old large ≡ was → Owns old (length large) → text ≡ get_or large i [] → drop d was ≡ literal.Text text ∷ drop (d + 1) was
deep_large old large was d i text e o w g =
    let u = under old large d w in
    let below = steps.below_top (drop d old) in
    let front = take u.count large in
    let read : get_or front i [] ≡ text = get_or-take u.count large i [] (large_within (drop d old) u.count i e u.owns) ∙ sym g in
    rest_is was (filled below (take i front)) (literal.Text text) d
    (sym (ap (drop d) o) ∙ (u.shown ∙ (ap (λ xs. filled xs front) (opened (drop d old) i e) ∙ ap (λ t. literal.Text t ∷ filled below (take i front)) read)))

pub deep_long : (old : List Content) (large : List (List ℕ)) (was : List Literal) (d i : ℕ) (text item : List ℕ) → large_on (drop d old) ≡ Some i
    → filled old large ≡ was → Owns old (length large) → text ≡ item → item ≡ get_or large i item → drop d was ≡ literal.Text text ∷ drop (d + 1) was
deep_long old large was d i text item e o w t g =
    deep_large old large was d i text e o w (t ∙ (g ∙ get_or_default large i item [] (deep_within old large d i e w)))

deep_some : (was below : List Literal) (d : ℕ) (text : List ℕ) → drop d was ≡ literal.Text text ∷ below → true ≡ has_text (drop d was)
deep_some was below d text e = sym (ap has_text e)

pub deep_large_some : (old : List Content) (large : List (List ℕ)) (was : List Literal) (d i : ℕ) → large_on (drop d old) ≡ Some i → filled old large ≡ was
    → Owns old (length large) → true ≡ has_text (drop d was)
deep_large_some old large was d i e o w = deep_some was (drop (d + 1) was) d (get_or large i []) (deep_large old large was d i (get_or large i []) e o w refl)

pub deep_none : (old : List Content) (large : List (List ℕ)) (was : List Literal) (d : ℕ) → steps.has_text (drop d old) ≡ false → large_on (drop d old) ≡ None
    → filled old large ≡ was → Owns old (length large) → has_text (drop d was) ≡ false
deep_none old large was d e f o w =
    let u = under old large d w in
    no_text (drop d old) (take u.count large) (drop d was) e f (sym (sym (ap (drop d) o) ∙ u.shown))

-- what is asked of the contents is so of the literals that they show
abbrev AreAsked : List Content → List Literal → Type 0
AreAsked xs shown =
    (steps.integer_on xs ≡ stacks.integer_on shown) × (steps.has_function xs ≡ stacks.has_function shown) × (steps.has_missing xs ≡ stacks.has_missing shown)

are_asked : (xs : List Content) (large : List (List ℕ)) → AreAsked xs (filled xs large)
are_asked [] large = (refl, refl, refl)
are_asked (content.Large i ∷ xs) large = (refl, refl, refl)
are_asked (x ∷ xs) large = (refl, refl, refl)

module _ (old : List Content) (large : List (List ℕ)) (was : List Literal) (d : ℕ) (o : filled old large ≡ was) (w : Owns old (length large)) where
  deep_asked : AreAsked (drop d old) (drop d was)
  deep_asked =
      let u = under old large d w in
      subst (AreAsked (drop d old)) (sym (sym (ap (drop d) o) ∙ u.shown)) (are_asked (drop d old) (take u.count large))

  pub deep_integer : steps.integer_on (drop d old) ≡ stacks.integer_on (drop d was)
  deep_integer = deep_asked.0

  pub deep_has_function : steps.has_function (drop d old) ≡ stacks.has_function (drop d was)
  deep_has_function = deep_asked.1

  pub deep_missing : steps.has_missing (drop d old) ≡ stacks.has_missing (drop d was)
  deep_missing = deep_asked.2

pub deep_function : (old : List Content) (large : List (List ℕ)) (was : List Literal) (d : ℕ) (f : Callee) → drop d old ≡ content.Function f ∷ drop (d + 1) old
    → filled old large ≡ was → Owns old (length large) → drop d was ≡ literal.Function f ∷ drop (d + 1) was
deep_function old large was d f e o w =
    let u = under old large d w in
    rest_is was (filled (drop (d + 1) old) (take u.count large)) (literal.Function f) d
    (sym (ap (drop d) o) ∙ (u.shown ∙ ap (λ xs. filled xs (take u.count large)) e))
