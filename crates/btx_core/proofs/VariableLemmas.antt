-- Variables, in names: values by number and values by name, and how `:=` changes both.
use Rattle.std.proofs.Common.{◌≡◌, ℕ, zero, suc, ◌<◌, ◌==◌, Bool, true, false, List, [], ◌∷◌, length, Option, None, Some, if◌then◌else◌, slice_get}
use Rattle.std.proofs.Common.{slice_set, unwrap_or, sym, ap, ◌∙◌, refl, arith, true≢false}
use Rattle.std.specs.Option.{option_map_or}
use Rattle.std.specs.Str.{bytes_eq}
use Rattle.std.proofs.lemmas.Slice.Eq.{bytes_eq-Decides}
use Rattle.std.proofs.lemmas.Bool.{eqb-true, eq-eqb}
use Rattle.btx_step.proofs.AssignLemmas.{read_other}
use Rattle.btx_core.specs.language.Styles.{set}

-- names of numbers: which name a number has, and which number a name has, if it has one
pub record Numbering : Type 0 where
  pub name : ℕ → List ℕ
  pub find : List ℕ → Option ℕ
  pub found : (n : List ℕ) (j : ℕ) → find n ≡ Some j → name j ≡ n

-- values by name, given those by number
abbrev pub by_name : {A : Type 0} → Numbering → (ℕ → A) → A → List ℕ → A
by_name numbers f d n = option_map_or f (numbers.find n) d

pub value_at : {A : Type 0} (numbers : Numbering) (f : ℕ → A) (d : A) (i : ℕ) → numbers.find (numbers.name i) ≡ Some i → by_name numbers f d (numbers.name i)
    ≡ f i
value_at numbers f d i e = ap (λ o. option_map_or f o d) e

-- where the value of one number changes, the value of its name does
abbrev pub changed : {A : Type 0} → ℕ → A → (ℕ → A) → ℕ → A
changed i v f j = if j == i then v else f j

same_names : (x y : List ℕ) → x ≡ y → bytes_eq x y ≡ true
same_names x y e = (bytes_eq-Decides x y).1 e

pub set_at : {A : Type 0} (numbers : Numbering) (f : ℕ → A) (d v : A) (i : ℕ) → numbers.find (numbers.name i) ≡ Some i
    → set (numbers.name i) v (by_name numbers f d) ≡ by_name numbers (changed i v f) d
set_at numbers f d v i e = λ k n. at n (bytes_eq n (numbers.name i)) refl (numbers.find n) refl k where
  at : (n : List ℕ) (b : Bool) → bytes_eq n (numbers.name i) ≡ b → (o : Option ℕ) → numbers.find n ≡ o → (if b then v else option_map_or f o d)
      ≡ option_map_or (changed i v f) o d
  at n true t o g =
      let is : n ≡ numbers.name i = (bytes_eq-Decides n (numbers.name i)).0 t in
      sym (ap (λ o. option_map_or (changed i v f) o d) (sym g ∙ ap numbers.find is ∙ e) ∙ ap (λ (z : Bool). if z then v else f i) (eq-eqb i i refl))
  at n false t None g = refl
  at n false t (Some j) g = sym (other (j == i) refl) where
    other : (c : Bool) → (j == i) ≡ c → (if c then v else f j) ≡ f j
    other false h = refl
    other true h =
        let is : n ≡ numbers.name i = sym (numbers.found n j g) ∙ ap numbers.name (eqb-true j i h) in
        absurd (true≢false (sym (same_names n (numbers.name i) is) ∙ t))

-- lists of values
abbrev pub item : {A : Type 0} → List A → A → ℕ → A
item xs d i = unwrap_or (slice_get xs i) d

read_at : {X : Type 0} (xs : List X) (i : ℕ) (v : X) → i < length xs → slice_get (slice_set xs i v) i ≡ Some v
read_at [] i v within = absurd (omega (arith, within))
read_at (x ∷ xs) zero v within = refl
read_at (x ∷ xs) (suc i) v within = read_at xs i v (omega (arith, within))

pub item_set : {A : Type 0} (xs : List A) (d v : A) (i : ℕ) → i < length xs → item (slice_set xs i v) d ≡ changed i v (item xs d)
item_set xs d v i lt = λ k j. at j (j == i) refl k where
  at : (j : ℕ) (b : Bool) → (j == i) ≡ b → item (slice_set xs i v) d j ≡ (if b then v else item xs d j)
  at j true h = ap (item (slice_set xs i v) d) (eqb-true j i h) ∙ ap (λ o. unwrap_or o d) (read_at xs i v lt)
  at j false h = ap (λ o. unwrap_or o d) (read_other xs i j v (λ e. absurd (true≢false (sym (eq-eqb j i e) ∙ h))))

-- a value by its name, where one of a list by number is replaced
pub set_item : {A : Type 0} (numbers : Numbering) (xs : List A) (d v : A) (i : ℕ) → numbers.find (numbers.name i) ≡ Some i → i < length xs
    → set (numbers.name i) v (by_name numbers (item xs d) d) ≡ by_name numbers (item (slice_set xs i v) d) d
set_item numbers xs d v i e lt = set_at numbers (item xs d) d v i e ∙ ap (λ f. by_name numbers f d) (sym (item_set xs d v i lt))

through_changed : {A B : Type 0} (g : A → B) (i : ℕ) (v : A) (f : ℕ → A) → changed i (g v) (λ j. g (f j)) ≡ (λ j. g (changed i v f j))
through_changed g i v f = λ k j. at j (j == i) k where
  at : (j : ℕ) (b : Bool) → (if b then g v else g (f j)) ≡ g (if b then v else f j)
  at j true = refl
  at j false = refl

-- and where one of the values of an entry is replaced: `values` are the values of an entry, `list` is one kind of them
pub set_both : {A E : Type 0} (keys numbers : Numbering) (entries : List E) (none : E) (list : E → List A) (put : List A → E → E)
    (puts : (xs : List A) (e : E) → list (put xs e) ≡ xs)
    (d v : A) (e i : ℕ) → keys.find (keys.name e) ≡ Some e → e < length entries → numbers.find (numbers.name i) ≡ Some i
    → i < length (list (item entries none e))
    → set (keys.name e) (set (numbers.name i) v (by_name keys (λ j. by_name numbers (item (list (item entries none j)) d) d) (λ n. d) (keys.name e)))
    (by_name keys (λ j. by_name numbers (item (list (item entries none j)) d) d) (λ n. d))
    ≡ by_name keys (λ j. by_name numbers
    (item (list (item (slice_set entries e (put (slice_set (list (item entries none e)) i v) (item entries none e))) none j)) d) d) (λ n. d)
set_both {A = A} {E = E} keys numbers entries none list put puts d v e i ek le ei li =
    ap (λ m. set (keys.name e) (set (numbers.name i) v m) (by_name keys f (λ n. d))) (value_at keys f (λ n. d) e ek)
    ∙ ap (λ m. set (keys.name e) m (by_name keys f (λ n. d))) (set_item numbers (list (item entries none e)) d v i ei li)
    ∙ ap (λ xs. set (keys.name e) (by_name numbers (item xs d) d) (by_name keys f (λ n. d)))
    (sym (puts (slice_set (list (item entries none e)) i v) (item entries none e)))
    ∙ set_at keys f (λ n. d) (of y) e ek
    ∙ ap (λ g. by_name keys g (λ n. d)) (through_changed of e y (item entries none)
    ∙ ap (λ (h : ℕ → E). λ (j : ℕ). of (h j)) (sym (item_set entries none y e le))) where
      of : E → List ℕ → A
      of x = by_name numbers (item (list x) d) d

      f : ℕ → List ℕ → A
      f j = by_name numbers (item (list (item entries none j)) d) d

      y : E
      y = put (slice_set (list (item entries none e)) i v) (item entries none e)

-- what a replaced value agrees in stays
pub kept : {E B : Type 0} (entries : List E) (none y : E) (e : ℕ) (g : E → B) → e < length entries → g y ≡ g (item entries none e)
    → ◌≡◌ {A = ℕ → B} (λ j. g (item entries none j)) (λ j. g (item (slice_set entries e y) none j))
kept entries none y e g le same = λ k j. at j (j == e) refl k where
  at : (j : ℕ) (b : Bool) → (j == e) ≡ b → g (item entries none j) ≡ g (item (slice_set entries e y) none j)
  at j true h =
      ap (λ i. g (item entries none i)) (eqb-true j e h) ∙ sym same ∙ sym (ap g (ap (λ o. unwrap_or o none) (read_at entries e y le)))
      ∙ ap (λ i. g (item (slice_set entries e y) none i)) (sym (eqb-true j e h))
  at j false h = ap (λ o. g (unwrap_or o none)) (sym (read_other entries e j y (λ i. absurd (true≢false (sym (eq-eqb j e i) ∙ h)))))
