-- The literals, from what the slots hold and the long strings.
use Rattle.std.proofs.Common.{ℕ, ◌≡◌, ◌≤◌, ◌<◌, ◌+◌, ◌^◌, suc, Bool, true, false, cond, List, [], ◌∷◌, ◌++◌, length, take, Option, Some, None, refl, sym, ap}
use Rattle.std.proofs.Common.{subst, ◌∙◌, arith}
use Rattle.std.specs.Prelude.{nat_lt, nat_le, IsTrue}
use Rattle.std.proofs.lemmas.Bool.Decides.{nat_tests}
use Rattle.std.proofs.lemmas.List.{take_at, length-append}
use Rattle.std.proofs.Math.Seq.{get_or-append_seam}
use Rattle.btx_stack.specs.refinement.Content.{Content}
use Rattle.btx_stack.specs.refinement.Content as content
use Rattle.btx_stack.specs.declared.literal.Literal.{Literal}
use Rattle.btx_stack.specs.declared.literal.Literal.TheVariants as literal
use Rattle.btx_stack.specs.refinement.Steps.{Steps, with_pushed, is_large, are_large, large_on, plain_on, plain_off, top_joined, swapped, duplicated}
use Rattle.btx_stack.specs.refinement.Steps as steps
use Rattle.btx_stack.specs.refinement.LongStrings.{shown_literal, before, filled, Owns}
use Rattle.btx_stack.specs.refinement.Stacks.{Pushes, has_text, top, below_top}
use Rattle.btx_stack.specs.refinement.Stacks as stacks

pub length_filled : (xs : List Content) (large : List (List ℕ)) → length (filled xs large) ≡ length xs
length_filled [] large = refl
length_filled (x ∷ xs) large = ap suc (length_filled xs (before x large))

-- what is none of the long strings
plain_shown : (x : Content) (large : List (List ℕ)) → is_large x ≡ false → shown_literal x large ≡ shown_literal x []
plain_shown (content.Large i) large p = cc
plain_shown x large p = refl

pub plain_before : (x : Content) (large : List (List ℕ)) → is_large x ≡ false → before x large ≡ large
plain_before (content.Large i) large p = cc
plain_before x large p = refl

owns_put : (x : Content) (xs : List Content) (n : ℕ) → is_large x ≡ false → Owns xs n → Owns (x ∷ xs) n
owns_put (content.Large i) xs n p o = cc
owns_put x xs n p o = o

pub owns_off : (x : Content) (xs : List Content) (n : ℕ) → is_large x ≡ false → Owns (x ∷ xs) n → Owns xs n
owns_off (content.Large i) xs n p o = cc
owns_off x xs n p o = o

filled_plain : (x : Content) (xs : List Content) (large : List (List ℕ)) → is_large x ≡ false → filled (x ∷ xs) large ≡ shown_literal x [] ∷ filled xs large
filled_plain x xs large p = ap (λ y. y ∷ filled xs (before x large)) (plain_shown x large p)
    ∙ ap (λ ys. shown_literal x [] ∷ filled xs ys) (plain_before x large p)

-- a test that was passed
pub record Passed (b : Bool) (old new : List Content) : Type 0 where
  pub test : b ≡ true
  pub same : old ≡ new

passed : (b : Bool) (xs new : List Content) → cond b (Some xs) None ≡ Some new → Passed b xs new
passed true xs new e = record { test = refl; same = cc }
passed false xs new e = cc

pub record NotPassed (b : Bool) (old new : List Content) : Type 0 where
  pub test : b ≡ false
  pub same : old ≡ new

not_passed : (b : Bool) (xs new : List Content) → cond b None (Some xs) ≡ Some new → NotPassed b xs new
not_passed true xs new e = cc
not_passed false xs new e = record { test = refl; same = cc }

failed : (b : Bool) (xs : List Content) → cond b (Some xs) None ≡ None → b ≡ false
failed true xs e = cc
failed false xs e = refl

below_limit : (n : ℕ) → nat_lt n 1000 ≡ true → n < 1000
below_limit n e = grind (arith, nat_tests)

at_limit : (n : ℕ) → nat_lt n 1000 ≡ false → 1000 ≤ n
at_limit n e = grind (arith, nat_tests)

is_below : (n : ℕ) → n < 1000 → nat_lt n 1000 ≡ true
is_below n l = grind (arith, nat_tests)

not_below : (n : ℕ) → 1000 ≤ n → nat_lt n 1000 ≡ false
not_below n l = grind (arith, nat_tests)

not_long : (n most : ℕ) → n ≤ most → nat_le n most ≡ true
not_long n most l = grind (arith, nat_tests)

longer : (n : ℕ) → nat_le n 1024 ≡ true → nat_le n 1000000 ≡ true
longer n e = grind (arith, nat_tests)

-- pushes
push_same : (r : Bool) (x : Content) (old new : List Content) (large : List (List ℕ)) → is_large x ≡ false → Steps r old (with_pushed x old) new
    → Pushes r (shown_literal x []) (filled old large) (filled new large)
push_same true x old new large p e =
    let was = passed (nat_lt (length old) 1000) (x ∷ old) new e in
    (ap (λ xs. filled xs large) (sym was.same) ∙ filled_plain x old large p, omega (arith, length_filled old large, below_limit (length old) was.test))
push_same false x old new large p e =
    (ap (λ xs. filled xs large) e.0, omega (arith, length_filled old large, at_limit (length old) (failed (nat_lt (length old) 1000) (x ∷ old) e.1)))

pub push_plain : (r : Bool) (x : Content) (old new : List Content) (large : List (List ℕ)) (was : List Literal) (y : Literal)
    → Steps r old (with_pushed x old) new → filled old large ≡ was → is_large x ≡ false → shown_literal x [] ≡ y → Pushes r y was (filled new large)
push_plain r x old new large was y e o p s =
    subst (λ z. Pushes r z was (filled new large)) s (subst (λ xs. Pushes r (shown_literal x []) xs (filled new large)) o (push_same r x old new large p e))

pub push_owns : (r : Bool) (x : Content) (old new : List Content) (n : ℕ) → is_large x ≡ false → Steps r old (with_pushed x old) new → Owns old n → Owns new n
push_owns true x old new n p e o =
    subst (λ xs. Owns xs n) (passed (nat_lt (length old) 1000) (x ∷ old) new e).same (owns_put x old n p o)
push_owns false x old new n p e o = subst (λ xs. Owns xs n) (sym e.0) o

-- how many long strings
pub few_owned : (xs : List Content) (n : ℕ) → Owns xs n → n ≤ length xs
few_owned [] n o = omega (arith, o)
few_owned (content.Large i ∷ xs) n o = omega (arith, o.0, few_owned xs i o.1)
few_owned (x ∷ xs) n o = omega (arith, few_owned xs n o)

pub large_small : (xs : List Content) (n : ℕ) → Owns xs n → length xs ≤ 1000 → n < 2 ^ 32
large_small xs n o l = omega (arith, few_owned xs n o)

true_step : (r : Bool) (x : Content) (old new : List Content) → Steps r old (with_pushed x old) new → (length old < 1000 → IsTrue r) → length old < 1000
    → x ∷ old ≡ new
true_step true x old new e room l = (passed (nat_lt (length old) 1000) (x ∷ old) new e).same
true_step false x old new e room l = let t : false ≡ true = room l in cc

-- a long string on top
filled_large : (old : List Content) (large : List (List ℕ)) (text : List ℕ) → filled (content.Large (length large) ∷ old) (large ++ text ∷ [])
    ≡ literal.Text text ∷ filled old large
filled_large old large text =
    ap (λ t. literal.Text t ∷ filled old (take (length large) (large ++ text ∷ []))) (get_or-append_seam large text [] [])
    ∙ ap (λ ys. literal.Text text ∷ filled old ys) (take_at large (text ∷ []) (length large) refl)

pub push_large : (r : Bool) (old new : List Content) (large now : List (List ℕ)) (was : List Literal) (text : List ℕ) (count number : ℕ)
    → Steps r old (with_pushed (content.Large number) old) new → (length old < 1000 → IsTrue r) → filled old large ≡ was → now ≡ large ++ text ∷ []
    → number ≡ length large → count ≡ length old → length old ≤ 1000 → (count ≡ 1000 → ⊥) →
    filled new now ≡ literal.Text text ∷ was
push_large r old new large now was text count number e room o i m c w n =
    let l : length old < 1000 = omega (arith, c, w, n) in
    ap (λ ys. filled new ys) i ∙ (ap (λ xs. filled xs (large ++ text ∷ [])) (sym (true_step r (content.Large number) old new e room l))
    ∙ (ap (λ k. filled (content.Large k ∷ old) (large ++ text ∷ [])) m ∙ (filled_large old large text ∙ ap (λ xs. literal.Text text ∷ xs) o)))

pub large_under : (old : List Content) (large : List (List ℕ)) (was : List Literal) (count : ℕ) → filled old large ≡ was → count ≡ length old
    → length old ≤ 1000 → (count ≡ 1000 → ⊥) → length was < 1000
large_under old large was count o c w n = omega (arith, c, w, n, length_filled old large, ap length o)

pub large_owns : (r : Bool) (old new : List Content) (large now : List (List ℕ)) (text : List ℕ) (count number : ℕ)
    → Steps r old (with_pushed (content.Large number) old) new → (length old < 1000 → IsTrue r) → now ≡ large ++ text ∷ [] → number ≡ length large
    → count ≡ length old → length old ≤ 1000 → (count ≡ 1000 → ⊥) → Owns old (length large) → Owns new (length now)
large_owns r old new large now text count number e room i m c w n o =
    let l : length old < 1000 = omega (arith, c, w, n) in
    subst (λ xs. Owns xs (length now)) (true_step r (content.Large number) old new e room l) (
      omega (arith, ap length i, length-append large (text ∷ []), m),
      subst (λ k. Owns old k) (sym m) o,
    )

pub large_full : (old : List Content) (large : List (List ℕ)) (count : ℕ) → count ≡ length old → count ≡ 1000 → 1000 ≤ length (filled old large)
large_full old large count c n = omega (arith, length_filled old large)

pub pushes_with_room : (r : Bool) (x : Literal) (old new : List Literal) → Pushes r x old new → length old < 1000 → new ≡ x ∷ old
pushes_with_room true x old new p l = p.0
pushes_with_room false x old new p l = absurd (omega (arith, p.1))

-- the top literal comes off
pub plain_top : (old : List Content) (large : List (List ℕ)) → large_on old ≡ None → plain_on old ≡ top (filled old large)
plain_top [] large e = refl
plain_top (content.Large i ∷ xs) large e = cc
plain_top (x ∷ xs) large e = refl

pub plain_below : (old : List Content) (large : List (List ℕ)) → large_on old ≡ None → filled (plain_off old) large ≡ below_top (filled old large)
plain_below [] large e = refl
plain_below (content.Large i ∷ xs) large e = cc
plain_below (x ∷ xs) large e = refl

pub plain_owns : (old : List Content) (n : ℕ) → large_on old ≡ None → Owns old n → Owns (plain_off old) n
plain_owns [] n e o = o
plain_owns (content.Large i ∷ xs) n e o = cc
plain_owns (x ∷ xs) n e o = o

-- a long string comes off
pub record LargeOff (old : List Content) (large rest : List (List ℕ)) (text : List ℕ) : Type 0 where
  pub shown : filled old large ≡ literal.Text text ∷ filled (steps.below_top old) rest
  pub owns : Owns (steps.below_top old) (length rest)

pub large_off : (old : List Content) (large rest : List (List ℕ)) (text : List ℕ) (i : ℕ) → large_on old ≡ Some i → Owns old (length large)
    → large ≡ rest ++ text ∷ [] → LargeOff old large rest text
large_off [] large rest text i e o l = cc
large_off (content.Large j ∷ xs) large rest text i e o l =
    let at : j ≡ length rest = omega (arith, o.0, ap length l, length-append rest (text ∷ [])) in
    record {
      shown = ap (filled (content.Large j ∷ xs)) l ∙ (ap (λ k. filled (content.Large k ∷ xs) (rest ++ text ∷ [])) at ∙ filled_large xs rest text);
      owns = subst (λ k. Owns xs k) at o.1;
    }
large_off (x ∷ xs) large rest text i e o l = cc

pub large_top : (old : List Content) (large rest : List (List ℕ)) (text : List ℕ) (i : ℕ) → large_on old ≡ Some i → Owns old (length large)
    → large ≡ rest ++ text ∷ [] → Some (literal.Text text) ≡ top (filled old large)
large_top old large rest text i e o l = sym (ap top (large_off old large rest text i e o l).shown)

pub large_below : (old : List Content) (large rest : List (List ℕ)) (text : List ℕ) (i : ℕ) → large_on old ≡ Some i → Owns old (length large)
    → large ≡ rest ++ text ∷ [] → filled (steps.below_top old) rest ≡ below_top (filled old large)
large_below old large rest text i e o l = sym (ap below_top (large_off old large rest text i e o l).shown)

pub large_below_owns : (old : List Content) (large rest : List (List ℕ)) (text : List ℕ) (i : ℕ) → large_on old ≡ Some i → Owns old (length large)
    → large ≡ rest ++ text ∷ [] → Owns (steps.below_top old) (length rest)
large_below_owns old large rest text i e o l = (large_off old large rest text i e o l).owns

pub large_stands : (old : List Content) (i : ℕ) → large_on old ≡ Some i → 0 < length old
large_stands [] i e = cc
large_stands (x ∷ xs) i e = omega arith

pub large_some : (old : List Content) (n i : ℕ) → large_on old ≡ Some i → Owns old n → n ≡ 0 → ⊥
large_some [] n i e o z = cc
large_some (content.Large j ∷ xs) n i e o z = omega (arith, o.0)
large_some (x ∷ xs) n i e o z = cc

below_fewer : (old : List Content) → 0 < length old → length (steps.below_top old) < length old
below_fewer [] l = absurd (omega arith)
below_fewer (x ∷ xs) l = omega arith

pub large_room : (old : List Content) (rest : List (List ℕ)) (i : ℕ) → large_on old ≡ Some i → length old ≤ 1000 → length (filled (steps.below_top old) rest)
    < 1000
large_room old rest i e l = omega (arith, length_filled (steps.below_top old) rest, below_fewer old (large_stands old i e))

-- a step that wasn't done
pub step_left : (r : Bool) (old new : List Content) (outcome : Option (List Content)) (large : List (List ℕ)) (was : List Literal) → Steps r old outcome new
    → r ≡ false → filled old large ≡ was → filled new large ≡ was
step_left false old new outcome large was e t o = ap (λ xs. filled xs large) e.0 ∙ o
step_left true old new outcome large was e t o = cc

-- a step that was done comes to the same with the long strings, if it does without them
step_done : (f : List Content → Option (List Content)) (g : List Literal → Option (List Literal)) →
    ((old new : List Content) (large : List (List ℕ)) → f old ≡ Some new → g (filled old large) ≡ Some (filled new large)) →
    (r : Bool) (old new : List Content) (large : List (List ℕ)) (was : List Literal) → Steps r old (f old) new → r ≡ true → filled old large ≡ was →
    g was ≡ Some (filled new large)
step_done f g is true old new large was e t o = sym (ap g o) ∙ is old new large e
step_done f g is false old new large was e t o = cc

-- the long strings are still owned after a step, if they are after it was done
step_owned : (f : List Content → Option (List Content)) → ((old new : List Content) (n : ℕ) → f old ≡ Some new → Owns old n → Owns new n) →
    (r : Bool) (old new : List Content) (n : ℕ) → Steps r old (f old) new → Owns old n → Owns new n
step_owned f owns true old new n e o = owns old new n e o
step_owned f owns false old new n e o = subst (λ xs. Owns xs n) (sym e.0) o

-- `*`
by_length : (n : ℕ) (xs new : List Content) (ys : List Literal) (large : List (List ℕ)) → cond (nat_le n 1024) (Some xs) None ≡ Some new → filled xs large ≡ ys
    → cond (nat_le n 1000000) (Some ys) None ≡ Some (filled new large)
by_length n xs new ys large e f =
    let was = passed (nat_le n 1024) xs new e in
    ap (λ b. cond b (Some ys) None) (longer n was.test) ∙ ap Some (sym f ∙ ap (λ vs. filled vs large) was.same)

joined_owns : (old new : List Content) (n : ℕ) → top_joined old ≡ Some new → Owns old n → Owns new n
joined_owns [] new n e o = cc
joined_owns (x ∷ []) new n e o = cc
joined_owns (content.Text b ∷ content.Text a ∷ xs) new n e o =
    subst (λ vs. Owns vs n) (passed (nat_le (length (a ++ b)) 1024) (content.Text (a ++ b) ∷ xs) new e).same o
joined_owns (x ∷ y ∷ xs) new n e o = cc

pub join_owns : (r : Bool) (old new : List Content) (n : ℕ) → Steps r old (top_joined old) new → Owns old n → Owns new n
join_owns r old new n e o = step_owned top_joined joined_owns r old new n e o

joined_is : (old new : List Content) (large : List (List ℕ)) → top_joined old ≡ Some new → stacks.top_joined (filled old large) ≡ Some (filled new large)
joined_is [] new large e = cc
joined_is (x ∷ []) new large e = cc
joined_is (content.Text b ∷ content.Text a ∷ xs) new large e =
    by_length (length (a ++ b)) (content.Text (a ++ b) ∷ xs) new (literal.Text (a ++ b) ∷ filled xs large) large e refl
joined_is (x ∷ y ∷ xs) new large e = cc

pub join_done : (r : Bool) (old new : List Content) (large : List (List ℕ)) (was : List Literal) → Steps r old (top_joined old) new → r ≡ true
    → filled old large ≡ was → stacks.top_joined was ≡ Some (filled new large)
join_done r old new large was e t o = step_done top_joined stacks.top_joined joined_is r old new large was e t o

-- `swap$`
turned : (x y : Content) (xs : List Content) (large : List (List ℕ)) → are_large x y ≡ false → stacks.swapped (filled (x ∷ y ∷ xs) large)
    ≡ Some (filled (y ∷ x ∷ xs) large)
turned (content.Large i) (content.Large j) xs large p = cc
turned x y xs large p = refl

owns_under : (x y : Content) (xs : List Content) (n : ℕ) → is_large x ≡ false → Owns (y ∷ xs) n → Owns (y ∷ x ∷ xs) n
owns_under x (content.Large j) xs n p o = (o.0, owns_put x xs j p o.1)
owns_under x y xs n p o = owns_put x xs n p o

turned_owns : (x y : Content) (xs : List Content) (n : ℕ) → are_large x y ≡ false → Owns (x ∷ y ∷ xs) n → Owns (y ∷ x ∷ xs) n
turned_owns (content.Large i) y xs n p o = owns_put y (content.Large i ∷ xs) n p (o.0, owns_off y xs i p o.1)
turned_owns x y xs n p o = owns_under x y xs n refl o

swapped_owns : (old new : List Content) (n : ℕ) → swapped old ≡ Some new → Owns old n → Owns new n
swapped_owns [] new n e o = cc
swapped_owns (x ∷ []) new n e o = cc
swapped_owns (x ∷ y ∷ xs) new n e o =
    let was = not_passed (are_large x y) (y ∷ x ∷ xs) new e in
    subst (λ vs. Owns vs n) was.same (turned_owns x y xs n was.test o)

pub swap_owns : (r : Bool) (old new : List Content) (n : ℕ) → Steps r old (swapped old) new → Owns old n → Owns new n
swap_owns r old new n e o = step_owned swapped swapped_owns r old new n e o

swapped_is : (old new : List Content) (large : List (List ℕ)) → swapped old ≡ Some new → stacks.swapped (filled old large) ≡ Some (filled new large)
swapped_is [] new large e = cc
swapped_is (x ∷ []) new large e = cc
swapped_is (x ∷ y ∷ xs) new large e =
    let was = not_passed (are_large x y) (y ∷ x ∷ xs) new e in
    turned x y xs large was.test ∙ ap (λ vs. Some (filled vs large)) was.same

pub swap_done : (r : Bool) (old new : List Content) (large : List (List ℕ)) (was : List Literal) → Steps r old (swapped old) new → r ≡ true
    → filled old large ≡ was → stacks.swapped was ≡ Some (filled new large)
swap_done r old new large was e t o = step_done swapped stacks.swapped swapped_is r old new large was e t o

-- `duplicate$`
pub record Doubled (x : Content) (xs new : List Content) : Type 0 where
  pub plain : is_large x ≡ false
  pub room : length (x ∷ xs) < 1000
  pub same : x ∷ x ∷ xs ≡ new

doubled : (b : Bool) (x : Content) (xs new : List Content) → is_large x ≡ b → cond b None (with_pushed x (x ∷ xs)) ≡ Some new → Doubled x xs new
doubled true x xs new p e = cc
doubled false x xs new p e =
    let was = passed (nat_lt (length (x ∷ xs)) 1000) (x ∷ x ∷ xs) new e in
    record { plain = p; room = below_limit (length (x ∷ xs)) was.test; same = was.same }

duplicated_owns : (old new : List Content) (n : ℕ) → duplicated old ≡ Some new → Owns old n → Owns new n
duplicated_owns [] new n e o = cc
duplicated_owns (x ∷ xs) new n e o =
    let was = doubled (is_large x) x xs new refl e in
    subst (λ vs. Owns vs n) was.same (owns_put x (x ∷ xs) n was.plain o)

pub duplicate_owns : (r : Bool) (old new : List Content) (n : ℕ) → Steps r old (duplicated old) new → Owns old n → Owns new n
duplicate_owns r old new n e o = step_owned duplicated duplicated_owns r old new n e o

duplicated_is : (old new : List Content) (large : List (List ℕ)) → duplicated old ≡ Some new → stacks.duplicated (filled old large) ≡ Some (filled new large)
duplicated_is [] new large e = cc
duplicated_is (x ∷ xs) new large e =
    let was = doubled (is_large x) x xs new refl e in
    let one : filled (x ∷ xs) large ≡ shown_literal x [] ∷ filled xs large = filled_plain x xs large was.plain in
    let two : filled new large ≡ shown_literal x [] ∷ shown_literal x [] ∷ filled xs large =
    ap (λ vs. filled vs large) (sym was.same) ∙ (filled_plain x (x ∷ xs) large was.plain ∙ ap (λ ys. shown_literal x [] ∷ ys) one) in
    let room : nat_lt (length (shown_literal x [] ∷ filled xs large)) 1000 ≡ true =
    is_below (length (shown_literal x [] ∷ filled xs large)) (omega (arith, was.room, length_filled xs large)) in
    ap stacks.duplicated one ∙ (ap (λ b. cond b (Some (shown_literal x [] ∷ shown_literal x [] ∷ filled xs large)) None) room ∙ ap Some (sym two))

pub duplicate_done : (r : Bool) (old new : List Content) (large : List (List ℕ)) (was : List Literal) → Steps r old (duplicated old) new → r ≡ true
    → filled old large ≡ was → stacks.duplicated was ≡ Some (filled new large)
duplicate_done r old new large was e t o = step_done duplicated stacks.duplicated duplicated_is r old new large was e t o

-- a variable takes the string on top
gives_off : (old new : List Content) (large : List (List ℕ)) (text : List ℕ) → old ≡ content.Text text ∷ new → filled old large ≡ literal.Text text
    ∷ filled new large
gives_off old new large text e = ap (λ xs. filled xs large) e

pub given : (most : ℕ) (old new : List Content) (large : List (List ℕ)) (was : List Literal) (before after : List ℕ)
    → steps.GivesString true most old new before after → filled old large ≡ was → was ≡ literal.Text after ∷ filled new large
given most old new large was before after g o = sym o ∙ gives_off old new large after g.0

pub not_given : (r : Bool) (most : ℕ) (old new : List Content) (large : List (List ℕ)) (was : List Literal) (before after : List ℕ)
    → steps.GivesString r most old new before after → r ≡ false → filled old large ≡ was → filled new large ≡ was
not_given false most old new large was before after g e o = ap (λ xs. filled xs large) g.0 ∙ o
not_given true most old new large was before after g e o = cc

pub too_long : (n most : ℕ) → most < n → nat_le n most ≡ false
too_long n most l = grind (arith, nat_tests)

pub give_owns : (r : Bool) (most n : ℕ) (old new : List Content) (before after : List ℕ) → steps.GivesString r most old new before after → Owns old n
    → Owns new n
give_owns true most n old new before after g o = let p : Owns (content.Text after ∷ new) n = subst (λ xs. Owns xs n) g.0 o in p
give_owns false most n old new before after g o = subst (λ xs. Owns xs n) (sym g.0) o

-- what is none of the long strings comes off
pub off_shown : (old : List Content) (large : List (List ℕ)) → large_on old ≡ None → filled (steps.below_top old) large ≡ below_top (filled old large)
off_shown [] large e = refl
off_shown (content.Large i ∷ xs) large e = cc
off_shown (x ∷ xs) large e = refl

pub off_owns : (old : List Content) (n : ℕ) → large_on old ≡ None → Owns old n → Owns (steps.below_top old) n
off_owns [] n e o = o
off_owns (content.Large i ∷ xs) n e o = cc
off_owns (x ∷ xs) n e o = o

pub off_stands : (old : List Content) (large : List (List ℕ)) (was : List Literal) → filled old large ≡ was → 0 < length was → 0 < length old
off_stands old large was o l = omega (arith, ap length o, length_filled old large)

pub large_within : (old : List Content) (n i : ℕ) → large_on old ≡ Some i → Owns old n → i < n
large_within [] n i e o = cc
large_within (content.Large j ∷ xs) n i e o = let s : j ≡ i = cc in omega (arith, o.0, s)
large_within (x ∷ xs) n i e o = cc

pub no_text : (old : List Content) (large : List (List ℕ)) (was : List Literal) → steps.has_text old ≡ false → large_on old ≡ None → filled old large ≡ was
    → has_text was ≡ false
no_text [] large was e f o = sym (ap has_text o)
no_text (content.Integer m ∷ xs) large was e f o = sym (ap has_text o)
no_text (content.Text t ∷ xs) large was e f o = cc
no_text (content.Function g ∷ xs) large was e f o = sym (ap has_text o)
no_text (content.Missing ∷ xs) large was e f o = sym (ap has_text o)
no_text (content.Large i ∷ xs) large was e f o = cc

-- how many there are
pub counted : (old : List Content) (large : List (List ℕ)) (was : List Literal) (n : ℕ) → filled old large ≡ was → n ≡ length old → n ≡ length was
counted old large was n o c = omega (arith, ap length o, length_filled old large, c)

pub below_has_room : (was : List Literal) → 0 < length was → length was ≤ 1000 → length (below_top was) < 1000
below_has_room [] l w = absurd (omega arith)
below_has_room (x ∷ xs) l w = omega arith

-- room for two that were popped
pub two_below : (xs : List Literal) (x : Literal) → top xs ≡ Some x → length xs < 1000 → length (x ∷ below_top xs) < 1000
two_below [] x e l = cc
two_below (y ∷ ys) x e l = omega (arith, l)

-- a literal that was popped, shared and copied
pub pushed_again : (r : Bool) (x : Literal) (old new : List Literal) → top old ≡ Some x → Pushes r x (x ∷ below_top old) new
    → stacks.Steps r old (stacks.duplicated old) new
pushed_again r x [] new e p = cc
pushed_again true x (y ∷ ys) new e p =
    let s : y ≡ x = cc in
    ap (λ z. stacks.duplicated (z ∷ ys)) s ∙ (ap (λ b. cond b (Some (x ∷ x ∷ ys)) None) (is_below (length (x ∷ ys)) p.1) ∙ ap Some (sym p.0))
pushed_again false x (y ∷ ys) new e p =
    let s : y ≡ x = cc in
    (p.0 ∙ ap (λ z. z ∷ ys) (sym s), ap (λ b. cond b (Some (y ∷ y ∷ ys)) None) (not_below (length (y ∷ ys)) p.1))

-- what can't be joined
pub not_joined : (a b : List ℕ) (xs : List Literal) → 1000000 < length a + length b → stacks.top_joined (literal.Text b ∷ literal.Text a ∷ xs) ≡ None
not_joined a b xs l = ap (λ t. cond t (Some (literal.Text (a ++ b) ∷ xs)) None) (too_long (length (a ++ b)) 1000000 (omega (arith, l, length-append a b)))

pub now_joined : (a b text : List ℕ) (xs : List Literal) → length a + length b ≤ 1000000 → text ≡ a ++ b
    → stacks.top_joined (literal.Text b ∷ literal.Text a ∷ xs) ≡ Some (literal.Text text ∷ xs)
now_joined a b text xs l e = ap (λ t. cond t (Some (literal.Text (a ++ b) ∷ xs)) None)
    (not_long (length (a ++ b)) 1000000 (omega (arith, l, length-append a b))) ∙ ap (λ t. Some (literal.Text t ∷ xs)) (sym e)
