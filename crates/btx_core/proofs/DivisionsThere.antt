-- Strings have divisions: fronts, names, tokens and cuts as the definitions of btx_text, btx_strings and btx_names compute them.
use Rattle.std.proofs.Common.{◌≡◌, ℕ, zero, suc, ◌+◌, ◌-◌, ◌<◌, ◌==◌, ◌⊎◌, inl, inr, Bool, true, false, not, ◌&&◌, List, [], ◌∷◌, ◌++◌, length, take, drop}
use Rattle.std.proofs.Common.{fold, Option, None, Some, if◌then◌else◌, sym, ap, ap₂, subst, ◌∙◌, refl, arith, true≢false, ◌≤◌, append_assoc}
use Rattle.std.specs.List.{list_all}
use Rattle.std.specs.Str.{byte}
use Rattle.std.proofs.lemmas.List.{take-append-drop, drop-drop, take-take, drop-take, length-drop, length-take-le}
use Rattle.std.specs.Prelude.{nat_lt}
use Rattle.std.proofs.lemmas.Bool.{eqb-true, eq-eqb, lt-ltb, ltb-true, ltb-false}
use Rattle.btx_core.proofs.DivisionLemmas.{front_one, not_empty}
use Rattle.btx_text.specs.language.Elements.{depth_after, depth_of}
use Rattle.btx_bib.specs.language.Grammar.ByteSets.{begins}
use Rattle.btx_names.specs.declared.runs.Stop.{Stop}
use Rattle.btx_names.specs.declared.runs.Stop.TheVariants.{Break, Comma}
use Rattle.btx_names.specs.language.Runs.{is_break, stops, run_len}
use Rattle.btx_names.specs.language.Tokens.{NameToken, joint_of, tokens_from, tokens_of}
use Rattle.btx_names.specs.language.NameLists.{names_of}
use Rattle.btx_names.specs.language.NameParts.{NameParts, Sections, One, Two, Three, before_final, before_first, cut_again, cut_first, is_hyphen, parts_by}
use Rattle.btx_names.specs.language.NameParts.{sections_of, split_at_comma, up_to_last, von_end}
use Rattle.btx_names.specs.declared.name_tokens.TokenSeparator.{TokenSeparator}
use Rattle.btx_names.specs.declared.name_tokens.TokenSeparator.TheVariants.{Space, Tie, Hyphen}
use Rattle.btx_names.specs.language.Formats.{is_legal, items_of}
use Rattle.btx_names.specs.laws.WrittenFormats.{are_items, IsFormatOf}
use Rattle.btx_names.proofs.WrittenLemmas.{written_legal}
use Rattle.btx_text.proofs.DivisionLemmas.{elements_of-divides}
use Rattle.btx_strings.proofs.ReadingLemmas.{glyphs_of-reads}
use Rattle.std.specs.Option.{option_map_or}
use Rattle.btx_names.specs.language.VonTokens.{is_von as is_von_computed}
use Rattle.btx_core.proofs.ComputedLemmas.{computed}
use Rattle.btx_names.proofs.GapLemmas.{names_between}
use Rattle.btx_core.specs.language.Names.{IsUpTo, AreNames, AreTokens, AreVonLast, AreNameParts, AreDivisions, CutsAt, HasVon, HasNoVon, IsCut, IsFormat, is_von}
use Rattle.btx_core.specs.language.Names.{sections}

-- ---- fronts

no_list : {X : Type 0} (a : List X) (x : X) (m : List X) → [] ≡ a ++ x ∷ m → ⊥
no_list [] x m e = absurd (cc)
no_list (y ∷ a) x m e = absurd (cc)

run_none : (stop : Stop) (d : ℕ) (text before behind : List ℕ) (b : ℕ) → take (run_len stop d text) text ≡ before ++ b ∷ behind → fold depth_after d before ≡ 0
    → stops stop b ≡ false
unfolding run_len
run_none stop d [] before behind b e z = absurd (no_list before b behind e)
run_none stop d (x ∷ xs) before behind b e z =
    by (d == 0) (stops stop x) refl refl before e z (λ before e z. run_none stop (depth_after d x) xs before behind b e z) where
      by : (zero_ hit : Bool) → (d == 0) ≡ zero_ → stops stop x ≡ hit → (before : List ℕ)
          → take (if zero_ && hit then 0 else suc (run_len stop (depth_after d x) xs)) (x ∷ xs) ≡ before ++ b ∷ behind
          → fold depth_after d before ≡ 0
          → ((before : List ℕ) → take (run_len stop (depth_after d x) xs) xs ≡ before ++ b ∷ behind → fold depth_after (depth_after d x) before ≡ 0
          → stops stop b ≡ false) → stops stop b ≡ false
      by true true h k before e z more = absurd (no_list before b behind e)
      by true false h k [] e z more = let same : x ≡ b = cc in subst (λ c. stops stop c ≡ false) same k
      by true false h k (y ∷ before) e z more =
          let same : x ≡ y = cc in
          let rest : take (run_len stop (depth_after d x) xs) xs ≡ before ++ b ∷ behind = cc in
          more before rest (ap (λ c. fold depth_after (depth_after d c) before) same ∙ z)
      by false hit h k [] e z more = absurd (true≢false (sym (eq-eqb d 0 z) ∙ h))
      by false hit h k (y ∷ before) e z more =
          let same : x ≡ y = cc in
          let rest : take (run_len stop (depth_after d x) xs) xs ≡ before ++ b ∷ behind = cc in
          more before rest (ap (λ c. fold depth_after (depth_after d c) before) same ∙ z)

abbrev Ends : (ℕ → Bool) → ℕ → List ℕ → List ℕ → Type 0
Ends test d front rest = (rest ≡ []) ⊎ ((fold depth_after d front ≡ 0) × (begins test rest ≡ true))

run_ends : (stop : Stop) (d : ℕ) (text : List ℕ) → Ends (stops stop) d (take (run_len stop d text) text) (drop (run_len stop d text) text)
unfolding run_len
run_ends stop d [] = inl refl
run_ends stop d (x ∷ xs) = by (d == 0) (stops stop x) refl refl (run_ends stop (depth_after d x) xs) where
  by : (zero_ hit : Bool) → (d == 0) ≡ zero_ → stops stop x ≡ hit → Ends (stops stop) (depth_after d x) (take (run_len stop (depth_after d x) xs) xs)
      (drop (run_len stop (depth_after d x) xs) xs)
      → Ends (stops stop) d (take (if zero_ && hit then 0 else suc (run_len stop (depth_after d x) xs)) (x ∷ xs))
      (drop (if zero_ && hit then 0 else suc (run_len stop (depth_after d x) xs)) (x ∷ xs))
  by true true h k more = inr (eqb-true d 0 h, k)
  by true false h k more = more
  by false hit h k more = more

pub run_front : (stop : Stop) (text : List ℕ) → IsUpTo (stops stop) (take (run_len stop 0 text) text) (drop (run_len stop 0 text) text)
run_front stop text = record {
  none = λ before behind b e z. run_none stop 0 text before behind b e z;
  ends = run_ends stop 0 text;
}

-- ---- names and tokens

pub names_there : (string : List ℕ) → AreNames string (names_of string)
unfolding names_of
names_there [] = refl
names_there (b ∷ bs) = names_between b bs

break_before : (b : ℕ) (bs : List ℕ) (ts : List NameToken) → is_break b ≡ true → AreTokens bs ts → AreTokens (b ∷ bs) ts
break_before b bs [] hit h = ap (λ (t : Bool). t && list_all is_break bs) hit ∙ h
break_before b bs (t ∷ ts) hit h =
    (b ∷ h.0, h.1, ap (λ l. b ∷ l) h.2, ap (λ (x : Bool). x && list_all is_break h.0) hit ∙ h.3, h.4, h.5, h.6, h.7)

run_is : (b : ℕ) (bs : List ℕ) → is_break b ≡ false → run_len Break 0 (b ∷ bs) ≡ suc (run_len Break (depth_after 0 b) bs)
unfolding run_len
run_is b bs h = ap (λ (t : Bool). if t then 0 else suc (run_len Break (depth_after 0 b) bs)) h

less_one : (k b : ℕ) (bs : List ℕ) → AreTokens (drop (suc k - 1) bs) (tokens_from (suc k - 1) bs)
    → AreTokens (drop (suc k) (b ∷ bs)) (tokens_from (suc k - 1) bs)
less_one k b bs h = let z : suc k - 1 ≡ k = omega arith in subst (λ n. AreTokens (drop n bs) (tokens_from (suc k - 1) bs)) z h

tokens_at : (skip : ℕ) (text : List ℕ) → AreTokens (drop skip text) (tokens_from skip text)
unfolding tokens_from
tokens_at zero [] = refl
tokens_at (suc skip) [] = refl
tokens_at (suc skip) (b ∷ bs) = tokens_at skip bs
tokens_at zero (b ∷ bs) = by (is_break b) refl (tokens_at zero bs) (tokens_at (run_len Break 0 (b ∷ bs) - 1) bs) where
  by : (t : Bool) → is_break b ≡ t → AreTokens bs (tokens_from zero bs)
      → AreTokens (drop (run_len Break 0 (b ∷ bs) - 1) bs) (tokens_from (run_len Break 0 (b ∷ bs) - 1) bs)
      → AreTokens (b ∷ bs) (if t then tokens_from zero bs else record {
        text = take (run_len Break 0 (b ∷ bs)) (b ∷ bs);
        joint =
            joint_of (drop (run_len Break 0 (b ∷ bs)) (b ∷ bs));
      } ∷ tokens_from (run_len Break 0 (b ∷ bs) - 1) bs)
  by true h more others = break_before b bs (tokens_from zero bs) h more
  by false h more others = (
    [],
    drop (run_len Break 0 (b ∷ bs)) (b ∷ bs),
    sym (take-append-drop (run_len Break 0 (b ∷ bs)) (b ∷ bs)),
    refl,
    some,
    run_front Break (b ∷ bs),
    refl,
    moved,
  ) where
    size_is : run_len Break 0 (b ∷ bs) ≡ suc (run_len Break (depth_after 0 b) bs)
    size_is = run_is b bs h

    some : 0 < length (take (run_len Break 0 (b ∷ bs)) (b ∷ bs))
    some = subst (λ n. 0 < length (take n (b ∷ bs))) (sym size_is) (omega arith)

    moved : AreTokens (drop (run_len Break 0 (b ∷ bs)) (b ∷ bs)) (tokens_from (run_len Break 0 (b ∷ bs) - 1) bs)
    moved = subst (λ n. AreTokens (drop n (b ∷ bs)) (tokens_from (n - 1) bs)) (sym size_is)
        (less_one (run_len Break (depth_after 0 b) bs) b bs (subst (λ n. AreTokens (drop (n - 1) bs) (tokens_from (n - 1) bs)) size_is others))

pub tokens_there : (text : List ℕ) → AreTokens text (tokens_of text)
unfolding tokens_of
tokens_there text = tokens_at zero text

-- ---- commas

-- what comes after the front: nothing, or a byte that ends it
cut_there_by : (name front rest : List ℕ) → name ≡ front ++ rest → IsUpTo (λ b. b == byte ",") front rest → (t : Bool) → list_all is_break (drop 1 rest) ≡ t
    → IsCut name (if t then None else Some (front, drop 1 rest))
cut_there_by name front rest e h true k = λ f r c. cut_false name front rest e h k f r c where
  cut_false : (name front rest : List ℕ) → name ≡ front ++ rest → IsUpTo (λ b. b == byte ",") front rest → list_all is_break (drop 1 rest) ≡ true
      → (f r : List ℕ) → CutsAt name f r → ⊥
  cut_false name front rest e h k f r c =
      let same = front_one (λ b. b == byte ",") front rest f (byte "," ∷ r) (sym e ∙ c.joined) h c.first in
      absurd (true≢false (sym k ∙ ap (λ l. list_all is_break (drop 1 l)) same.1 ∙ c.counts))
cut_there_by name front [] e h false k = absurd (true≢false k)
cut_there_by name front (b ∷ bs) e h false k = by h.ends where
  by : (b ∷ bs ≡ []) ⊎ ((depth_of front ≡ 0) × (begins (λ b. b == byte ",") (b ∷ bs) ≡ true)) → CutsAt name front bs
  by (inl n) = absurd (no_list [] b bs (sym n))
  by (inr n) =
      let comma : b ≡ byte "," = eqb-true b (byte ",") n.1 in
      record {
        joined = e ∙ ap (λ c. front ++ c ∷ bs) comma;
        first = subst (λ c. IsUpTo (λ b. b == byte ",") front (c ∷ bs)) comma h;
        counts = k;
      }

pub cut_there : (name : List ℕ) → IsCut name (split_at_comma name)
unfolding split_at_comma
cut_there name =
    let size = run_len Comma 0 name in
    let one_more : drop (size + 1) name ≡ drop 1 (drop size name) = sym (rw (drop-drop 1 size name) refl) in
    subst (λ after. IsCut name (if list_all is_break after then None else Some (take size name, after))) (sym one_more)
    (cut_there_by name (take size name) (drop size name) (sym (take-append-drop size name)) (run_front Comma name) (list_all is_break (drop 1 (drop size name)))
    refl)

-- ---- von and Last

nothing_long : {X : Type 0} (a : X) (left right : List X) (t next : X) → a ∷ [] ≡ left ++ t ∷ next ∷ right → ⊥
nothing_long a [] right t next e = absurd (cc)
nothing_long a (l ∷ left) right t next e = let rest : [] ≡ left ++ t ∷ next ∷ right = cc in no_list left t (next ∷ right) rest

module _ (passes : NameToken → Bool) where
  -- up to the last that passes and isn't the final one
  abbrev reach : List NameToken → ℕ
  reach xs = up_to_last passes (before_final xs)

  abbrev HaveNone : List NameToken → Type 0
  HaveNone xs = (left right : List NameToken) (t next : NameToken) → xs ≡ left ++ t ∷ next ∷ right → passes t ≡ false

  rest_none : (xs : List NameToken) → HaveNone (drop (reach xs) xs)
  unfolding before_final up_to_last
  rest_none [] left right t next e = absurd (no_list left t (next ∷ right) e)
  rest_none (x ∷ []) left right t next e = absurd (nothing_long x left right t next e)
  rest_none (x ∷ y ∷ ys) left right t next e = by (reach (y ∷ ys)) (passes x) refl (λ left right t next e. rest_none (y ∷ ys) left right t next e) left e where
    by : (m : ℕ) (p : Bool) → passes x ≡ p → HaveNone (drop m (y ∷ ys)) → (left : List NameToken)
        → drop (if nat_lt 0 m then suc m else if p then 1 else 0) (x ∷ y ∷ ys) ≡ left ++ t ∷ next ∷ right → passes t ≡ false
    by (suc m) p h more left e = let some : nat_lt 0 (suc m) ≡ true = lt-ltb 0 (suc m) (omega arith) in more left right t next (rw some at e)
    by zero true h more left e = more left right t next e
    by zero false h more [] e = let same : x ≡ t = cc in subst (λ u. passes u ≡ false) same h
    by zero false h more (l ∷ left) e = let rest : y ∷ ys ≡ left ++ t ∷ next ∷ right = cc in more left right t next rest

  last_yes : (xs left : List NameToken) (t : NameToken) → take (reach xs) xs ≡ left ++ t ∷ [] → passes t ≡ true
  unfolding before_final up_to_last
  last_yes [] left t e = absurd (no_list left t [] e)
  last_yes (x ∷ []) left t e = absurd (no_list left t [] e)
  last_yes (x ∷ y ∷ ys) left t e = by (reach (y ∷ ys)) (passes x) refl (λ left e. last_yes (y ∷ ys) left t e) left e where
    by : (m : ℕ) (p : Bool) → passes x ≡ p → ((left : List NameToken) → take m (y ∷ ys) ≡ left ++ t ∷ [] → passes t ≡ true) → (left : List NameToken)
        → take (if nat_lt 0 m then suc m else if p then 1 else 0) (x ∷ y ∷ ys) ≡ left ++ t ∷ [] → passes t ≡ true
    by (suc m) p h more [] e =
        let some : nat_lt 0 (suc m) ≡ true = lt-ltb 0 (suc m) (omega arith) in
        let cut : x ∷ y ∷ take m ys ≡ t ∷ [] = rw some at e in
        absurd (cc)
    by (suc m) p h more (l ∷ left) e =
        let some : nat_lt 0 (suc m) ≡ true = lt-ltb 0 (suc m) (omega arith) in
        let cut : x ∷ take (suc m) (y ∷ ys) ≡ l ∷ left ++ t ∷ [] = rw some at e in
        let rest : take (suc m) (y ∷ ys) ≡ left ++ t ∷ [] = cc in
        more left rest
    by zero true h more [] e = let same : x ≡ t = cc in subst (λ u. passes u ≡ true) same h
    by zero true h more (l ∷ left) e = let rest : [] ≡ left ++ t ∷ [] = cc in absurd (no_list left t [] rest)
    by zero false h more left e = absurd (no_list left t [] e)

  never_all : (xs : List NameToken) → drop (reach xs) xs ≡ [] → xs ≡ []
  unfolding before_final up_to_last
  never_all [] e = refl
  never_all (x ∷ []) e = e
  never_all (x ∷ y ∷ ys) e = by (reach (y ∷ ys)) (passes x) (never_all (y ∷ ys)) e where
    by : (m : ℕ) (p : Bool) → (drop m (y ∷ ys) ≡ [] → y ∷ ys ≡ []) → drop (if nat_lt 0 m then suc m else if p then 1 else 0) (x ∷ y ∷ ys) ≡ [] → x ∷ y ∷ ys ≡ []
    by (suc m) p more e = let some : nat_lt 0 (suc m) ≡ true = lt-ltb 0 (suc m) (omega arith) in absurd (not_empty y ys (more (rw some at e)))
    by zero true more e = absurd (not_empty y ys e)
    by zero false more e = absurd (not_empty x (y ∷ ys) e)

  bound : (xs : List NameToken) → reach xs ≤ length xs
  unfolding before_final up_to_last
  bound [] = omega arith
  bound (x ∷ []) = omega arith
  bound (x ∷ y ∷ ys) = by (reach (y ∷ ys)) (passes x) (bound (y ∷ ys)) where
    by : (m : ℕ) (p : Bool) → m ≤ length (y ∷ ys) → (if nat_lt 0 m then suc m else if p then 1 else 0) ≤ length (x ∷ y ∷ ys)
    by (suc m) p le = let some : nat_lt 0 (suc m) ≡ true = lt-ltb 0 (suc m) (omega arith) in rw some (omega (arith, le))
    by zero true le = omega arith
    by zero false le = omega arith

  first_last : (xs : List NameToken) → 0 < reach xs → before_first passes xs < reach xs
  unfolding before_final before_first up_to_last
  first_last [] some = absurd (omega (arith, some))
  first_last (x ∷ []) some = absurd (omega (arith, some))
  first_last (x ∷ y ∷ ys) some = by (reach (y ∷ ys)) (passes x) (first_last (y ∷ ys)) some where
    by : (m : ℕ) (p : Bool) → (0 < m → before_first passes (y ∷ ys) < m) → 0 < (if nat_lt 0 m then suc m else if p then 1 else 0)
        → (if p then 0 else suc (before_first passes (y ∷ ys))) < (if nat_lt 0 m then suc m else if p then 1 else 0)
    by (suc m) true more some = let hit : nat_lt 0 (suc m) ≡ true = lt-ltb 0 (suc m) (omega arith) in rw hit (omega arith)
    by (suc m) false more some = let hit : nat_lt 0 (suc m) ≡ true = lt-ltb 0 (suc m) (omega arith) in let k = more (omega arith) in rw hit (omega (arith, k))
    by zero true more some = omega arith
    by zero false more some = absurd (omega (arith, some))

  -- up to the first that passes
  before_none : (xs left right : List NameToken) (t : NameToken) → take (before_first passes xs) xs ≡ left ++ t ∷ right → passes t ≡ false
  unfolding before_first
  before_none [] left right t e = absurd (no_list left t right e)
  before_none (x ∷ xs) left right t e = by (passes x) refl (λ left e. before_none xs left right t e) left e where
    by : (p : Bool) → passes x ≡ p → ((left : List NameToken) → take (before_first passes xs) xs ≡ left ++ t ∷ right → passes t ≡ false)
        → (left : List NameToken)
        → take (if p then 0 else suc (before_first passes xs)) (x ∷ xs) ≡ left ++ t ∷ right → passes t ≡ false
    by true h more left e = absurd (no_list left t right e)
    by false h more [] e = let same : x ≡ t = cc in subst (λ u. passes u ≡ false) same h
    by false h more (l ∷ left) e = let rest : take (before_first passes xs) xs ≡ left ++ t ∷ right = cc in more left rest

  first_yes : (xs right : List NameToken) (t : NameToken) → drop (before_first passes xs) xs ≡ t ∷ right → passes t ≡ true
  unfolding before_first
  first_yes [] right t e = absurd (no_list [] t right e)
  first_yes (x ∷ xs) right t e = by (passes x) refl (first_yes xs right t) e where
    by : (p : Bool) → passes x ≡ p → (drop (before_first passes xs) xs ≡ t ∷ right → passes t ≡ true)
        → drop (if p then 0 else suc (before_first passes xs)) (x ∷ xs) ≡ t ∷ right → passes t ≡ true
    by true h more e = let same : x ≡ t = cc in subst (λ u. passes u ≡ true) same h
    by false h more e = more e

von_is : (t : NameToken) → is_von computed t ≡ is_von_computed t.text
unfolding is_von_computed
von_is t = refl

von_last_there : (tokens : List NameToken) → AreVonLast computed tokens (take (von_end tokens) tokens) (drop (von_end tokens) tokens)
von_last_there tokens = record {
  whole = sym (take-append-drop (von_end tokens) tokens);
  ends = λ left t e. von_is t ∙ last_yes (λ (token : NameToken). is_von_computed token.text) tokens left t e;
  others = λ left right t next e. von_is t ∙ rest_none (λ (token : NameToken). is_von_computed token.text) tokens left right t next e;
  some = λ e. never_all (λ (token : NameToken). is_von_computed token.text) tokens e;
}

-- ---- a name without commas

abbrev is_von_token : NameToken → Bool
is_von_token token = is_von_computed token.text

abbrev is_apart : NameToken → Bool
is_apart token = not (is_hyphen token.joint)

not_false : (b : Bool) → not b ≡ false → b ≡ true
not_false true h = refl
not_false false h = absurd (true≢false h)

not_true : (b : Bool) → not b ≡ true → b ≡ false
not_true false h = refl
not_true true h = absurd (true≢false (sym h))

hyphen_is : (j : TokenSeparator) → is_hyphen j ≡ true → j ≡ Hyphen
hyphen_is Hyphen h = refl
hyphen_is Space h = absurd (true≢false (sym h))
hyphen_is Tie h = absurd (true≢false (sym h))

final_of : {X : Type 0} (x : X) (m : List X) → (left : List X) × (y : X) × (x ∷ m ≡ left ++ y ∷ [])
final_of x [] = ([], x, refl)
final_of x (y ∷ m) = let h = final_of y m in (x ∷ h.0, h.1, ap (λ l. x ∷ l) h.2)

-- the cut of a list in three
three : (tokens : List NameToken) (start end : ℕ) → start ≤ end → tokens ≡ take start tokens ++ (take (end - start) (drop start tokens) ++ drop end tokens)
three tokens start end le =
    let size : start + (end - start) ≡ end = omega (arith, le) in
    let rest : drop (end - start) (drop start tokens) ≡ drop end tokens = drop-drop (end - start) start tokens ∙ ap (λ n. drop n tokens) size in
    sym (take-append-drop start tokens)
    ∙ ap (λ more. take start tokens ++ more) (sym (take-append-drop (end - start) (drop start tokens))
    ∙ ap (λ more. take (end - start) (drop start tokens) ++ more) rest)

front_two : (tokens : List NameToken) (start end : ℕ) → start ≤ end → take end tokens ≡ take start tokens ++ take (end - start) (drop start tokens)
front_two tokens start end le =
    let size : start + (end - start) ≡ end = omega (arith, le) in
    sym (take-append-drop start (take end tokens))
    ∙ ap₂ (λ a b. a ++ b) (take-take start end tokens le) (ap (λ n. drop start (take n tokens)) (sym size) ∙ drop-take start (end - start) tokens)

none_left : (n : ℕ) (tokens : List NameToken) → take (n - n) tokens ≡ []
none_left n tokens = let z : n - n ≡ 0 = omega arith in ap (λ k. take k tokens) z

head_of_take : {X : Type 0} (n : ℕ) (d : List X) (t : X) (rest : List X) → take n d ≡ t ∷ rest → (r : List X) × (d ≡ t ∷ r)
head_of_take zero d t rest e = absurd (no_list [] t rest e)
head_of_take (suc n) [] t rest e = absurd (no_list [] t rest e)
head_of_take (suc n) (x ∷ xs) t rest e = let same : x ≡ t = cc in (xs, ap (λ y. y ∷ xs) same)

-- the parts of a name without commas, by whether it has a von
abbrev parts_if : Bool → List NameToken → NameParts
parts_if t tokens =
    let last = if t then von_end tokens else up_to_last (λ (token : NameToken). not (is_hyphen token.joint)) (before_final tokens) in
    let von_start = if t then before_first (λ (token : NameToken). is_von_computed token.text) tokens else last in
    record { first = take von_start tokens; von = take (last - von_start) (drop von_start tokens); last = drop last tokens; jr = [] }

with_von_there : (tokens : List NameToken) → 0 < von_end tokens → HasVon computed tokens (parts_if true tokens)
with_von_there tokens has =
    let passes : NameToken → Bool = λ token. is_von_computed token.text in
    let start = before_first passes tokens in
    let end = von_end tokens in
    let lt : start < end = first_last passes tokens has in
    let most : end ≤ length tokens = bound passes tokens in
    let le : start ≤ end = omega (arith, lt) in
    record {
      first = three tokens start end le;
      none = λ left right t e. von_is t ∙ before_none passes tokens left right t e;
      begins = λ t rest e. let h = head_of_take (end - start) (drop start tokens) t rest e in von_is t ∙ first_yes passes tokens h.0 t h.1;
      some = let a = length-drop start tokens in let b = length-take-le (end - start) (drop start tokens) (omega (arith, a, most, le)) in omega (arith, b, lt);
      surname = record {
        whole = refl;
        ends = λ left t e. von_is t ∙ last_yes passes tokens (take start tokens ++ left) t
            (front_two tokens start end le ∙ ap (λ l. take start tokens ++ l) e ∙ sym (append_assoc (take start tokens) left (t ∷ [])));
        others = λ left right t next e. von_is t ∙ rest_none passes tokens left right t next e;
        some = λ e. let gone : length tokens ≡ 0 = ap length (never_all passes tokens e) in absurd (omega (arith, gone, most, has));
      };
    }

without_von_there : (tokens : List NameToken) → von_end tokens ≡ 0 → HasNoVon computed tokens (parts_if false tokens)
without_von_there tokens zero_ =
    let passes : NameToken → Bool = λ token. is_von_computed token.text in
    let n = up_to_last is_apart (before_final tokens) in
    record {
      first = sym (take-append-drop n tokens);
      no_von = none_left n (drop n tokens);
      none = λ left right t next e. von_is t ∙ rest_none passes tokens left right t next (ap (λ k. drop k tokens) zero_ ∙ e);
      joined = λ left right t next e. hyphen_is t.joint (not_false (is_hyphen t.joint) (rest_none is_apart tokens left right t next e));
      apart = λ left t e. not_true (is_hyphen t.joint) (last_yes is_apart tokens left t e);
      some = λ e. never_all is_apart tokens e;
    }

unsplit_by : (tokens : List NameToken) (t : Bool) → nat_lt 0 (von_end tokens) ≡ t → HasVon computed tokens (parts_if t tokens)
    ⊎ HasNoVon computed tokens (parts_if t tokens)
unsplit_by tokens true e = inl (with_von_there tokens (ltb-true 0 (von_end tokens) e))
unsplit_by tokens false e = let le = ltb-false 0 (von_end tokens) e in inr (without_von_there tokens (omega (arith, le)))

parts_of_sections : (s : Sections) → AreNameParts computed s (parts_by s)
parts_of_sections (One name) = (unsplit_by (tokens_of name) (nat_lt 0 (von_end (tokens_of name))) refl, refl)
parts_of_sections (Two surname first) = (von_last_there (tokens_of surname), refl, refl)
parts_of_sections (Three surname jr first) = (von_last_there (tokens_of surname), refl, refl)

sections_by : (name : List ℕ) (cut : Option (List ℕ × List ℕ)) → option_map_or (λ (cut : List ℕ × List ℕ). cut_again cut.0 cut.1 (split_at_comma cut.1)) cut
    (One name) ≡ cut_first name cut
sections_by name None = refl
sections_by name (Some cut) = refl

pub parts_there : (name : List ℕ) → AreNameParts computed (sections computed name) (parts_by (sections_of name))
unfolding sections_of
parts_there name = subst (λ s. AreNameParts computed s (parts_by (cut_first name (split_at_comma name)))) (sym (sections_by name (split_at_comma name)))
    (parts_of_sections (cut_first name (split_at_comma name)))

-- ---- formats: what is written so is legal. That each legal format is written so isn't proved yet

abbrev pub WrittenSo : Type 0
WrittenSo = (format : List ℕ) → is_legal format ≡ true → (are_items (items_of format) ≡ true) × IsFormatOf (items_of format) format

items_by : WrittenSo → (format : List ℕ) (t : Bool) → is_legal format ≡ t → IsFormat format (if t then Some (items_of format) else None)
items_by so format true e = so format e
items_by so format false e = λ items a f. absurd (true≢false (sym (written_legal items format a f) ∙ e))

-- the computed divisions are divisions, if each legal format is written so
pub are_divisions : WrittenSo → AreDivisions computed
are_divisions so = record {
  elements = elements_of-divides;
  glyphs = glyphs_of-reads;
  names = names_there;
  tokens = tokens_there;
  cut = cut_there;
  parts = parts_there;
  items = λ format. items_by so format (is_legal format) refl;
}
