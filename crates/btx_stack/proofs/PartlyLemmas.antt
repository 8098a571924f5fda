-- Steps that may be left to a slower way, with the long strings.
use Rattle.std.proofs.Common.{ℕ, ℤ, ◌≡◌, Bool, true, false, cond, List, [], ◌∷◌, Option, Some, None, refl, sym, ap, subst, ◌∙◌}
use Rattle.btx_bst.specs.declared.callee.Callee.{Callee}
use Rattle.btx_stack.specs.refinement.Content.{Content}
use Rattle.btx_stack.specs.refinement.Content as content
use Rattle.btx_stack.specs.declared.literal.Literal.{Literal}
use Rattle.btx_stack.specs.declared.literal.Literal.TheVariants as literal
use Rattle.btx_stack.specs.refinement.Steps.{Partly, compared, put_for_integers, replaced, below_choice, is_large, one_if}
use Rattle.btx_stack.specs.refinement.LongStrings.{filled, before, Owns}
use Rattle.std.specs.Prelude.{IfSome, IfNone}
use Rattle.btx_stack.specs.refinement.Stacks.{top, below_top}
use Rattle.btx_stack.specs.refinement.Stacks as stacks
use Rattle.std.specs.Str.{bytes_eq}
use Rattle.std.specs.Ordering.{int_eq}
use Rattle.btx_stack.proofs.LongStrings.{plain_before, owns_off}

-- a step without long strings is one with them
module _ (f : List Content → Option (List Content)) (g : List Literal → Option (List Literal))
    (is : (old new : List Content) (large : List (List ℕ)) → f old ≡ Some new → g (filled old large) ≡ Some (filled new large))
    (owns : (old new : List Content) (n : ℕ) → f old ≡ Some new → Owns old n → Owns new n) where
  pub done : (r : Bool) (old new : List Content) (large : List (List ℕ)) (was : List Literal) → Partly r old (f old) new → filled old large ≡ was
      → stacks.Partly r was (g was) (filled new large)
  done true old new large was e o = subst (λ w. g w ≡ Some (filled new large)) o (is old new large e)
  done false old new large was e o = ap (λ xs. filled xs large) e ∙ o

  pub owned : (r : Bool) (old new : List Content) (n : ℕ) → Partly r old (f old) new → Owns old n → Owns new n
  owned true old new n e o = owns old new n e o
  owned false old new n e o = subst (λ xs. Owns xs n) (sym e) o

-- a step that wasn't done
pub partly_left : (r : Bool) (old new : List Content) (outcome : Option (List Content)) (large : List (List ℕ)) (was : List Literal) → Partly r old outcome new
    → r ≡ false → filled old large ≡ was → filled new large ≡ was
partly_left false old new outcome large was e t o = ap (λ xs. filled xs large) e ∙ o
partly_left true old new outcome large was e t o = cc

-- `=`
compared_is : (old new : List Content) (large : List (List ℕ)) → compared old ≡ Some new → stacks.compared (filled old large) ≡ Some (filled new large)
compared_is [] new large e = cc
compared_is (content.Integer b ∷ content.Integer a ∷ xs) new large e = let s : content.Integer (one_if (int_eq a b)) ∷ xs ≡ new = cc in
    ap (λ vs. Some (filled vs large)) s
compared_is (content.Text b ∷ content.Text a ∷ xs) new large e = let s : content.Integer (one_if (bytes_eq a b)) ∷ xs ≡ new = cc in
    ap (λ vs. Some (filled vs large)) s
compared_is (x ∷ xs) new large e = cc

compared_owned : (old new : List Content) (n : ℕ) → compared old ≡ Some new → Owns old n → Owns new n
compared_owned [] new n e o = cc
compared_owned (content.Integer b ∷ content.Integer a ∷ xs) new n e o = let s : content.Integer (one_if (int_eq a b)) ∷ xs ≡ new = cc in
    subst (λ vs. Owns vs n) s o
compared_owned (content.Text b ∷ content.Text a ∷ xs) new n e o = let s : content.Integer (one_if (bytes_eq a b)) ∷ xs ≡ new = cc in subst (λ vs. Owns vs n) s o
compared_owned (x ∷ xs) new n e o = cc

pub compare_done : (r : Bool) (old new : List Content) (large : List (List ℕ)) (was : List Literal) → Partly r old (compared old) new → filled old large ≡ was
    → stacks.Partly r was (stacks.compared was) (filled new large)
compare_done r old new large was e o = done compared stacks.compared compared_is compared_owned r old new large was e o

pub compare_owns : (r : Bool) (old new : List Content) (n : ℕ) → Partly r old (compared old) new → Owns old n → Owns new n
compare_owns r old new n e o = owned compared stacks.compared compared_is compared_owned r old new n e o

-- an integer for two
put_is : (m : ℤ) (old new : List Content) (large : List (List ℕ)) → put_for_integers m old ≡ Some new → stacks.put_for_integers m (filled old large)
    ≡ Some (filled new large)
put_is m [] new large e = cc
put_is m (content.Integer b ∷ content.Integer a ∷ xs) new large e = let s : content.Integer m ∷ xs ≡ new = cc in ap (λ vs. Some (filled vs large)) s
put_is m (x ∷ xs) new large e = cc

put_owned : (m : ℤ) (old new : List Content) (n : ℕ) → put_for_integers m old ≡ Some new → Owns old n → Owns new n
put_owned m [] new n e o = cc
put_owned m (content.Integer b ∷ content.Integer a ∷ xs) new n e o = let s : content.Integer m ∷ xs ≡ new = cc in subst (λ vs. Owns vs n) s o
put_owned m (x ∷ xs) new n e o = cc

pub put_done : (m : ℤ) (r : Bool) (old new : List Content) (large : List (List ℕ)) (was : List Literal) → Partly r old (put_for_integers m old) new
    → filled old large ≡ was → stacks.Partly r was (stacks.put_for_integers m was) (filled new large)
put_done m r old new large was e o = done (put_for_integers m) (stacks.put_for_integers m) (put_is m) (put_owned m) r old new large was e o

pub put_owns : (m : ℤ) (r : Bool) (old new : List Content) (n : ℕ) → Partly r old (put_for_integers m old) new → Owns old n → Owns new n
put_owns m r old new n e o = owned (put_for_integers m) (stacks.put_for_integers m) (put_is m) (put_owned m) r old new n e o

-- `if$`
choice_is : (old new : List Content) (large : List (List ℕ)) → below_choice old ≡ Some new → stacks.below_choice (filled old large) ≡ Some (filled new large)
choice_is [] new large e = cc
choice_is (content.Function f ∷ content.Function g ∷ content.Integer m ∷ xs) new large e = let s : xs ≡ new = cc in ap (λ vs. Some (filled vs large)) s
choice_is (x ∷ xs) new large e = cc

choice_owned : (old new : List Content) (n : ℕ) → below_choice old ≡ Some new → Owns old n → Owns new n
choice_owned [] new n e o = cc
choice_owned (content.Function f ∷ content.Function g ∷ content.Integer m ∷ xs) new n e o = let s : xs ≡ new = cc in subst (λ vs. Owns vs n) s o
choice_owned (x ∷ xs) new n e o = cc

pub choice_done : (r : Bool) (old new : List Content) (large : List (List ℕ)) (was : List Literal) → Partly r old (below_choice old) new
    → filled old large ≡ was → stacks.Partly r was (stacks.below_choice was) (filled new large)
choice_done r old new large was e o = done below_choice stacks.below_choice choice_is choice_owned r old new large was e o

pub choice_owns : (r : Bool) (old new : List Content) (n : ℕ) → Partly r old (below_choice old) new → Owns old n → Owns new n
choice_owns r old new n e o = owned below_choice stacks.below_choice choice_is choice_owned r old new n e o

-- the top one is replaced by an integer
record Replaced (m : ℤ) (x : Content) (xs new : List Content) : Type 0 where
  plain : is_large x ≡ false
  same : content.Integer m ∷ xs ≡ new

was_replaced : (b : Bool) (m : ℤ) (x : Content) (xs new : List Content) → is_large x ≡ b → cond b None (Some (content.Integer m ∷ xs)) ≡ Some new
    → Replaced m x xs new
was_replaced true m x xs new p e = cc
was_replaced false m x xs new p e = record { plain = p; same = cc }

replace_is : (m : ℤ) (old new : List Content) (large : List (List ℕ)) → replaced (content.Integer m) old ≡ Some new → filled new large ≡ literal.Integer m
    ∷ below_top (filled old large)
replace_is m [] new large e = cc
replace_is m (x ∷ xs) new large e =
    let was = was_replaced (is_large x) m x xs new refl e in
    ap (λ vs. filled vs large) (sym was.same) ∙ ap (λ ys. literal.Integer m ∷ filled xs ys) (sym (plain_before x large was.plain))

pub replace_done : (m : ℤ) (r : Bool) (old new : List Content) (large : List (List ℕ)) (was : List Literal)
    → Partly r old (replaced (content.Integer m) old) new → r ≡ true → filled old large ≡ was → filled new large ≡ literal.Integer m ∷ below_top was
replace_done m true old new large was e t o = replace_is m old new large e ∙ ap (λ ys. literal.Integer m ∷ below_top ys) o
replace_done m false old new large was e t o = cc

pub replace_owns : (m : ℤ) (r : Bool) (old new : List Content) (n : ℕ) → Partly r old (replaced (content.Integer m) old) new → Owns old n → Owns new n
replace_owns m false old new n e o = subst (λ xs. Owns xs n) (sym e) o
replace_owns m true [] new n e o = cc
replace_owns m true (x ∷ xs) new n e o =
    let was = was_replaced (is_large x) m x xs new refl e in
    subst (λ vs. Owns vs n) was.same (owns_off x xs n was.plain o)

-- a function, or an integer, comes off
pub function_taken : (f : Callee) (old new : List Content) (large : List (List ℕ)) (was : List Literal) → old ≡ content.Function f ∷ new
    → filled old large ≡ was → was ≡ literal.Function f ∷ filled new large
function_taken f old new large was e o = sym o ∙ ap (λ xs. filled xs large) e

pub function_taken_owns : (f : Callee) (old new : List Content) (n : ℕ) → old ≡ content.Function f ∷ new → Owns old n → Owns new n
function_taken_owns f old new n e o = let p : Owns (content.Function f ∷ new) n = subst (λ xs. Owns xs n) e o in p

pub integer_taken : (m : ℤ) (old new : List Content) (large : List (List ℕ)) (was : List Literal) → old ≡ content.Integer m ∷ new → filled old large ≡ was
    → was ≡ literal.Integer m ∷ filled new large
integer_taken m old new large was e o = sym o ∙ ap (λ xs. filled xs large) e

pub integer_taken_owns : (m : ℤ) (old new : List Content) (n : ℕ) → old ≡ content.Integer m ∷ new → Owns old n → Owns new n
integer_taken_owns m old new n e o = let p : Owns (content.Integer m ∷ new) n = subst (λ xs. Owns xs n) e o in p

pub nothing_taken : (old new : List Content) (large : List (List ℕ)) (was : List Literal) → new ≡ old → filled old large ≡ was → filled new large ≡ was
nothing_taken old new large was e o = ap (λ xs. filled xs large) e ∙ o

pub nothing_taken_owns : (old new : List Content) (n : ℕ) → new ≡ old → Owns old n → Owns new n
nothing_taken_owns old new n e o = subst (λ xs. Owns xs n) (sym e) o

-- what was popped stood on top
pub some_on_top : (value : Option Literal) (xs ys : List Literal) → value ≡ top xs → ys ≡ below_top xs → IfSome value (λ x. xs ≡ x ∷ ys)
some_on_top (Some x) [] ys e b = cc
some_on_top (Some x) (y ∷ xs) ys e b = let s : y ≡ x = cc in ap (λ z. z ∷ xs) s ∙ ap (λ zs. x ∷ zs) (sym b)
some_on_top None xs ys e b = tt

pub none_on_top : (value : Option Literal) (xs : List Literal) → value ≡ top xs → IfNone value (xs ≡ [])
none_on_top None [] e = refl
none_on_top None (y ∷ xs) e = cc
none_on_top (Some x) xs e = tt
