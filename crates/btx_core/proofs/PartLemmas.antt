-- Parts of the relation that one thing alone meets: inheritance, the lines of the list, and what the `.aux` files come to.
use Rattle.std.proofs.Common.{◌≡◌, ℕ, zero, suc, ◌+◌, ◌<◌, ◌≤◌, List, [], ◌∷◌, ◌++◌, length, Option, None, Some, Bool, true, false, nat_lt, nat_le}
use Rattle.std.proofs.Common.{length-append, leb-true, leb-false, if◌then◌else◌, option_and_then, codes, sym, ap, ap₂, ◌∙◌, arith, refl, append-nil, ⊎_elim}
use Rattle.std.proofs.Common.{true≢false, slice_index, All}
use Rattle.std.specs.Option.{option_or}
use Rattle.std.proofs.lemmas.Bool.{ltb-true, cases_lt}
use Rattle.std.specs.List.{AllByRecursion}
use Rattle.std.proofs.lemmas.List.Elements.{recursion_from_All}
use Rattle.btx_text.specs.language.Class.{is_white}
use Rattle.btx_out.specs.language.Breaking.{Break, Broken, Unbroken, break_of, written_line, wrap, committed}
use Rattle.btx_out.proofs.BreakLemmas.{cut_short, cut_long, table_ends, table_more}
use Rattle.btx_out.specs.laws.Places.{IsBreakInside, IsBreakPast, IsUnbroken}
use Rattle.btx_out.proofs.PlaceLemmas.{place_inside, place_past, place_none}
use Rattle.btx_core.specs.language.Lines.{IsBroken, IsWrapped, IsCommitted, continuation_lines}
use Rattle.btx_core.specs.language.Lists.{ListedKey, own_value, parent_place, IsInherited}

module _ (slots : List ListedKey) (one other : ℕ → List ℕ → Option (List ℕ)) (is : IsInherited slots one) (also : IsInherited slots other) where
  -- what is the same at all places before one is the same at it
  given_by : (k i : ℕ) (name : List ℕ) → ((j : ℕ) → j < i → one j name ≡ other j name) → (yes : Bool) → nat_lt k i ≡ yes
      → (if yes then one k name else own_value slots k name) ≡ (if yes then other k name else own_value slots k name)
  given_by k i name h true lt = h k (ltb-true k i lt)
  given_by k i name h false lt = refl

  from_parent : (i : ℕ) (name : List ℕ) (p : Option ℕ) → ((j : ℕ) → j < i → one j name ≡ other j name)
      → option_and_then (λ j. if nat_lt j i then one j name else own_value slots j name) p
      ≡ option_and_then (λ j. if nat_lt j i then other j name else own_value slots j name) p
  from_parent i name None h = refl
  from_parent i name (Some j) h = given_by j i name h (nat_lt j i) refl

  below : (n i : ℕ) (name : List ℕ) → i < n → one i name ≡ other i name
  below zero i name lt = absurd (omega (arith, lt))
  below (suc n) i name lt =
      is i name ∙ ap (option_or (own_value slots i name)) (from_parent i name (parent_place slots i) (λ j le. below n j name (omega (arith, lt, le)))) ∙ sym (also i name)

  -- there is one way to inherit
  pub one_inheritance : one ≡ other
  one_inheritance = λ x i name. below (suc i) i name (omega arith) x

-- ---- lines

module _ (most : ℕ) (short long f g : List ℕ → List ℕ) (is : IsBroken most short long f) (also : IsBroken most short long g) (room : 3 ≤ most) where
  same_rest : (n : ℕ) → ((text : List ℕ) → length text < n → f text ≡ g text) → (head rest : List ℕ) → length rest + 2 < n
      → written_line head ++ continuation_lines f rest ≡ written_line head ++ continuation_lines g rest
  same_rest n h head [] lt = refl
  same_rest n h head (b ∷ bs) lt = ap (λ t. written_line head ++ t) (h (codes "  " ++ b ∷ bs) (omega (arith, lt)))

  inside_shorter : (text head rest : List ℕ) → IsBreakInside most text head rest → length rest + 2 < length text
  inside_shorter text head rest h =
      let whole = ap length h.whole ∙ length-append head (h.white ∷ rest) in
      omega (arith, whole, h.first)

  past_shorter : (text head rest : List ℕ) → IsBreakPast most text head rest → length rest + 2 < length text
  past_shorter text head rest h =
      let whole = ap length h.whole ∙ length-append head (h.run ++ rest) in
      let inner = length-append h.run rest in
      omega (arith, whole, inner, h.past, h.some, room)

  -- a text that is longer than a line, by its break
  same_by : (n : ℕ) (text : List ℕ) → ((t : List ℕ) → length t < n → f t ≡ g t) → length text ≤ n → most < length text → (b : Break) → break_of most text ≡ b
      → f text ≡ g text
  same_by n text h le long_ Unbroken e =
      let none = place_none most text long_ e in
      is.unbroken text long_ none ∙ sym (also.unbroken text long_ none)
  same_by n text h le long_ (Broken false head rest) e =
      let inside = place_inside most text head rest long_ e in
      is.inside text head rest long_ inside ∙ same_rest n h head rest (omega (arith, inside_shorter text head rest inside, le))
      ∙ sym (also.inside text head rest long_ inside)
  same_by n text h le long_ (Broken true head rest) e =
      let past = place_past most text head rest long_ e in
      is.past text head rest long_ past ∙ same_rest n h head rest (omega (arith, past_shorter text head rest past, le))
      ∙ sym (also.past text head rest long_ past)

  same_if : (n : ℕ) (text : List ℕ) → ((t : List ℕ) → length t < n → f t ≡ g t) → length text ≤ n → (yes : Bool) → nat_le (length text) most ≡ yes
      → f text ≡ g text
  same_if n text h le true fits = is.fits text (leb-true (length text) most fits) ∙ sym (also.fits text (leb-true (length text) most fits))
  same_if n text h le false too_long = same_by n text h le (leb-false (length text) most too_long) (break_of most text) refl

  same_below : (n : ℕ) (text : List ℕ) → length text < n → f text ≡ g text
  same_below zero text lt = absurd (omega (arith, lt))
  same_below (suc n) text lt = same_if n text (λ t le. same_below n t le) (omega (arith, lt)) (nat_le (length text) most) refl

  -- there is one way to break lines
  pub one_breaking : f ≡ g
  one_breaking = λ x text. same_below (suc (length text)) text (omega arith) x

-- ---- and there is one of each

module _ (slots : List ListedKey) where
  -- what an entry has, with at most n parents above one another
  abbrev pub upto : ℕ → ℕ → List ℕ → Option (List ℕ)
  upto zero i name = None
  upto (suc n) i name = option_or (own_value slots i name) (option_and_then (λ j. if nat_lt j i then upto n j name else own_value slots j name) (parent_place slots i))

  by_place : (n m i j : ℕ) (name : List ℕ) → (j < i → upto n j name ≡ upto m j name) → (yes : Bool) → nat_lt j i ≡ yes
      → (if yes then upto n j name else own_value slots j name) ≡ (if yes then upto m j name else own_value slots j name)
  by_place n m i j name h true lt = h (ltb-true j i lt)
  by_place n m i j name h false lt = refl

  by_parent : (n i : ℕ) (name : List ℕ) (f : ℕ → ℕ) (p : Option ℕ) → ((j : ℕ) → j < i → upto n j name ≡ upto (f j) j name)
      → option_and_then (λ j. if nat_lt j i then upto n j name else own_value slots j name) p
      ≡ option_and_then (λ j. if nat_lt j i then upto (f j) j name else own_value slots j name) p
  by_parent n i name f None h = refl
  by_parent n i name f (Some j) h = by_place n (f j) i j name (h j) (nat_lt j i) refl

  enough : (n m i : ℕ) (name : List ℕ) → i < n → i < m → upto n i name ≡ upto m i name
  enough zero m i name lt lt' = absurd (omega (arith, lt))
  enough (suc n) zero i name lt lt' = absurd (omega (arith, lt'))
  enough (suc n) (suc m) i name lt lt' =
      ap (option_or (own_value slots i name)) (by_parent n i name (λ j. m) (parent_place slots i)
      (λ j le. enough n m j name (omega (arith, lt, le)) (omega (arith, lt', le))))

  pub there_is_inheritance : IsInherited slots (λ i name. upto (suc i) i name)
  there_is_inheritance i name =
      ap (option_or (own_value slots i name)) (by_parent i i name (λ j. suc j) (parent_place slots i) (λ j le. enough i (suc j) j name le (omega arith)))

-- ---- lines

-- of a text cut at a place, the byte there
mid : (head rest : List ℕ) (w : ℕ) → slice_index (head ++ w ∷ rest) (length head) ≡ w
mid [] rest w = refl
mid (b ∷ head) rest w = mid head rest w

at_mid : (text head rest : List ℕ) (w : ℕ) → text ≡ head ++ w ∷ rest → is_white w ≡ true → is_white (slice_index text (length head)) ≡ true
at_mid text head rest w e h = ap (λ t. is_white (slice_index t (length head))) e ∙ ap is_white (mid head rest w) ∙ h

not_both : (text : List ℕ) (i : ℕ) → is_white (slice_index text i) ≡ true → is_white (slice_index text i) ≡ false → ⊥
not_both text i a b = absurd (true≢false (sym a ∙ b))

-- two heads of one text with the same length are one
same_heads : (head head' rest rest' : List ℕ) → length head ≡ length head' → head ++ rest ≡ head' ++ rest' → (head ≡ head') × (rest ≡ rest')
same_heads [] [] rest rest' l e = (refl, e)
same_heads [] (b ∷ head') rest rest' l e = absurd (omega (arith, l))
same_heads (a ∷ head) [] rest rest' l e = absurd (omega (arith, l))
same_heads (a ∷ head) (b ∷ head') rest rest' l e =
    let first : a ≡ b = cc in
    let tails : head ++ rest ≡ head' ++ rest' = cc in
    let more = same_heads head head' rest rest' (omega (arith, l)) tails in
    (ap₂ (λ x xs. x ∷ xs) first more.0, more.1)

-- the first byte of a run of whitespace
run_first : (run : List ℕ) → 0 < length run → All (λ b. is_white b ≡ true) run → (b : ℕ) × (bs : List ℕ) × (run ≡ b ∷ bs) × (is_white b ≡ true)
run_first [] some all = absurd (omega (arith, some))
run_first (b ∷ bs) some all = (b, bs, refl, (recursion_from_All (λ b. is_white b ≡ true) (b ∷ bs) all).0)

module _ (most : ℕ) (text : List ℕ) (long_ : most < length text) where
  inside_white : (head rest : List ℕ) → IsBreakInside most text head rest → is_white (slice_index text (length head)) ≡ true
  inside_white head rest h = at_mid text head rest h.white h.whole h.of_white

  inside_one : (head rest head' rest' : List ℕ) → IsBreakInside most text head rest → IsBreakInside most text head' rest' → (head ≡ head') × (rest ≡ rest')
  inside_one head rest head' rest' h k =
      let low : length head ≤ length head' → length head ≡ length head' = λ le.
      ⊎_elim (λ lt. absurd (not_both text (length head') (inside_white head' rest' k)
      (h.none_after (length head') (omega (arith, lt)) (omega (arith, k.last))))) (λ ge. omega (arith, le, ge)) (cases_lt (length head) (length head')) in
      let high : length head' ≤ length head → length head ≡ length head' = λ le.
      ⊎_elim (λ lt. absurd (not_both text (length head) (inside_white head rest h) (k.none_after (length head) (omega (arith, lt)) (omega (arith, h.last)))))
      (λ ge. omega (arith, le, ge)) (cases_lt (length head') (length head)) in
      let same : length head ≡ length head' = ⊎_elim (λ lt. low (omega (arith, lt))) high (cases_lt (length head) (length head')) in
      let parts = same_heads head head' (h.white ∷ rest) (k.white ∷ rest') same (sym h.whole ∙ k.whole) in
      (parts.0, (let e = parts.1 in cc))

  inside_past : (head rest head' rest' : List ℕ) → IsBreakInside most text head rest → IsBreakPast most text head' rest' → ⊥
  inside_past head rest head' rest' h k =
      not_both text (length head) (inside_white head rest h) (k.none_before (length head) h.first (omega (arith, h.last, k.past)))

  inside_none : (head rest : List ℕ) → IsBreakInside most text head rest → IsUnbroken text → ⊥
  inside_none head rest h k = not_both text (length head) (inside_white head rest h) (k (length head) h.first (omega (arith, h.last, long_)))

  past_white : (head rest : List ℕ) → IsBreakPast most text head rest → is_white (slice_index text (length head)) ≡ true
  past_white head rest h =
      let r = run_first h.run h.some h.of_white in
      at_mid text head (r.1 ++ rest) r.0 (h.whole ∙ ap (λ l. head ++ (l ++ rest)) r.2) r.3

  past_length : (head rest : List ℕ) → IsBreakPast most text head rest → length head < length text
  past_length head rest h =
      let whole = ap length h.whole ∙ length-append head (h.run ++ rest) in
      let inner = length-append h.run rest in
      omega (arith, whole, inner, h.some)

  past_none : (room : 3 ≤ most) (head rest : List ℕ) → IsBreakPast most text head rest → IsUnbroken text → ⊥
  past_none room head rest h k = not_both text (length head) (past_white head rest h) (k (length head) (omega (arith, room, h.past)) (past_length head rest h))

-- what follows a run of whitespace is one text
runs_one : (run run' rest rest' : List ℕ) → run ++ rest ≡ run' ++ rest' → AllByRecursion (λ b. is_white b ≡ true) run
    → AllByRecursion (λ b. is_white b ≡ true) run'
    → (0 < length rest → is_white (slice_index rest 0) ≡ false) → (0 < length rest' → is_white (slice_index rest' 0) ≡ false) → rest ≡ rest'
runs_one [] [] rest rest' e all all' ink ink' = e
runs_one [] (b ∷ run') rest rest' e all all' ink ink' =
    absurd (not_both rest 0 (ap (λ t. is_white (slice_index t 0)) e ∙ all'.0) (ink (let l = ap length e in omega (arith, l))))
runs_one (a ∷ run) [] rest rest' e all all' ink ink' =
    absurd (not_both rest' 0 (ap (λ t. is_white (slice_index t 0)) (sym e) ∙ all.0) (ink' (let l = ap length e in omega (arith, l))))
runs_one (a ∷ run) (b ∷ run') rest rest' e all all' ink ink' =
    let tails : run ++ rest ≡ run' ++ rest' = cc in
    runs_one run run' rest rest' tails all.1 all'.1 ink ink'

module _ (most : ℕ) (text : List ℕ) (long_ : most < length text) (room : 3 ≤ most) where
  past_one : (head rest head' rest' : List ℕ) → IsBreakPast most text head rest → IsBreakPast most text head' rest' → (head ≡ head') × (rest ≡ rest')
  past_one head rest head' rest' h k =
      let low : length head ≤ length head' → length head ≡ length head' = λ le.
      ⊎_elim (λ lt. absurd (not_both text (length head) (past_white most text long_ head rest h)
      (k.none_before (length head) (omega (arith, room, h.past)) lt))) (λ ge. omega (arith, le, ge)) (cases_lt (length head) (length head')) in
      let high : length head' ≤ length head → length head ≡ length head' = λ le.
      ⊎_elim (λ lt. absurd (not_both text (length head') (past_white most text long_ head' rest' k)
      (h.none_before (length head') (omega (arith, room, k.past)) lt))) (λ ge. omega (arith, le, ge)) (cases_lt (length head') (length head)) in
      let same : length head ≡ length head' = ⊎_elim (λ lt. low (omega (arith, lt))) high (cases_lt (length head) (length head')) in
      let parts = same_heads head head' (h.run ++ rest) (k.run ++ rest') same (sym h.whole ∙ k.whole) in (
        parts.0,
        runs_one h.run k.run rest rest' parts.1 (recursion_from_All (λ b. is_white b ≡ true) h.run h.of_white)
            (recursion_from_All (λ b. is_white b ≡ true) k.run k.of_white) h.ink k.ink,
      )

  -- what a text gives whose break is given, by the table of btx_out
  abbrev Gives : (List ℕ → List ℕ) → (List ℕ → List ℕ) → Break → Type 0
  Gives f long Unbroken = f text ≡ long text
  Gives f long (Broken past head rest) = f text ≡ written_line head ++ continuation_lines f rest

  wrap_gives : (b : Break) → break_of most text ≡ b → Gives (wrap most) (λ t. t ++ codes "\n") b
  wrap_gives Unbroken e = rw (cut_long most text room long_, e) refl
  wrap_gives (Broken past head []) e = (table_ends most text head past room long_ e).0 ∙ sym (append-nil (written_line head))
  wrap_gives (Broken past head (b ∷ rest)) e = (table_more most text head rest b past room long_ e).0

  sure_gives : (b : Break) → break_of most text ≡ b → Gives (committed most) (λ t. t) b
  sure_gives Unbroken e = rw (cut_long most text room long_, e) refl
  sure_gives (Broken past head []) e = (table_ends most text head past room long_ e).1 ∙ sym (append-nil (written_line head))
  sure_gives (Broken past head (b ∷ rest)) e = (table_more most text head rest b past room long_ e).1

  inside_by : (f long : List ℕ → List ℕ) (head rest : List ℕ) → IsBreakInside most text head rest → (b : Break) → break_of most text ≡ b → Gives f long b
      → f text ≡ written_line head ++ continuation_lines f rest
  inside_by f long head rest h Unbroken e g = absurd (inside_none most text long_ head rest h (place_none most text long_ e))
  inside_by f long head rest h (Broken false head' rest') e g =
      let same = inside_one most text long_ head rest head' rest' h (place_inside most text head' rest' long_ e) in
      g ∙ ap₂ (λ x y. written_line x ++ continuation_lines f y) (sym same.0) (sym same.1)
  inside_by f long head rest h (Broken true head' rest') e g =
      absurd (inside_past most text long_ head rest head' rest' h (place_past most text head' rest' long_ e))

  past_by : (f long : List ℕ → List ℕ) (head rest : List ℕ) → IsBreakPast most text head rest → (b : Break) → break_of most text ≡ b → Gives f long b
      → f text ≡ written_line head ++ continuation_lines f rest
  past_by f long head rest h Unbroken e g = absurd (past_none most text long_ room head rest h (place_none most text long_ e))
  past_by f long head rest h (Broken false head' rest') e g =
      absurd (inside_past most text long_ head' rest' head rest (place_inside most text head' rest' long_ e) h)
  past_by f long head rest h (Broken true head' rest') e g =
      let same = past_one head rest head' rest' h (place_past most text head' rest' long_ e) in
      g ∙ ap₂ (λ x y. written_line x ++ continuation_lines f y) (sym same.0) (sym same.1)

  none_by : (f long : List ℕ → List ℕ) → IsUnbroken text → (b : Break) → break_of most text ≡ b → Gives f long b → f text ≡ long text
  none_by f long h Unbroken e g = g
  none_by f long h (Broken false head rest) e g = absurd (inside_none most text long_ head rest (place_inside most text head rest long_ e) h)
  none_by f long h (Broken true head rest) e g = absurd (past_none most text long_ room head rest (place_past most text head rest long_ e) h)

-- the breaker that btx_out computes meets the four equations
pub wrapped : (most : ℕ) → 3 ≤ most → IsWrapped most (wrap most)
wrapped most room = record {
  fits = λ text le. rw (cut_short most text le) refl;
  inside = λ text head rest lt h. inside_by most text lt room (wrap most) (λ t. t ++ codes "\n") head rest h (break_of most text) refl
      (wrap_gives most text lt room (break_of most text) refl);
  past = λ text head rest lt h. past_by most text lt room (wrap most) (λ t. t ++ codes "\n") head rest h (break_of most text) refl
      (wrap_gives most text lt room (break_of most text) refl);
  unbroken = λ text lt h. none_by most text lt room (wrap most) (λ t. t ++ codes "\n") h (break_of most text) refl
      (wrap_gives most text lt room (break_of most text) refl);
}

pub sure_is : (most : ℕ) → 3 ≤ most → IsCommitted most (committed most)
sure_is most room = record {
  fits = λ text le. rw (cut_short most text le) refl;
  inside = λ text head rest lt h. inside_by most text lt room (committed most) (λ t. t) head rest h (break_of most text) refl
      (sure_gives most text lt room (break_of most text) refl);
  past = λ text head rest lt h. past_by most text lt room (committed most) (λ t. t) head rest h (break_of most text) refl
      (sure_gives most text lt room (break_of most text) refl);
  unbroken = λ text lt h. none_by most text lt room (committed most) (λ t. t) h (break_of most text) refl (sure_gives most text lt room (break_of most text) refl);
}
