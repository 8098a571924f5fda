-- Von and Last in the list of a name's tokens.
use Rattle.std.proofs.Common.{◌≡◌, ℕ, zero, suc, ◌+◌, ◌-◌, ◌≤◌, Bool, true, false, not, cond, ltb, List, [], ◌∷◌, ◌++◌, length, take, drop, refl, sym, ◌∙◌, ap}
use Rattle.std.proofs.Common.{arith, length-append, append_assoc}
use Rattle.std.specs.List.{list_all}
use Rattle.std.proofs.lemmas.Bool.{ltb-true, ltb-false, lt-ltb, false≢true}
use Rattle.std.proofs.lemmas.List.{take-append-drop, length-take-le, length-drop, take-take, drop-take}
use Rattle.btx_names.specs.language.Tokens.{NameToken, tokens_of}
use Rattle.btx_names.specs.refinement.Steps.{passes}
use Rattle.btx_names.specs.language.VonTokens.{is_von}
use Rattle.btx_names.specs.declared.token_counts.TokenTest.{TokenTest}
use Rattle.btx_names.specs.declared.token_counts.TokenTest.TheVariants.{Von, Apart}
use Rattle.btx_names.specs.language.NameParts.{Sections, One, Two, Three, unsplit, sections_of, parts_by, is_hyphen, before_final, up_to_last, before_first}
use Rattle.btx_names.specs.language.NameParts.{von_end}
use Rattle.btx_names.proofs.CountLemmas.{before_final_front}
use Rattle.btx_names.proofs.RangeLemmas.{before_first-le}
use Rattle.btx_names.specs.laws.NameParts.{parts_of}

-- ---- the first that passes

first_passes : (test : TokenTest) (tokens others : List NameToken) (token : NameToken) → drop (before_first (passes test) tokens) tokens ≡ token ∷ others
    → passes test token ≡ true
unfolding before_first
first_passes test [] others token is = absurd (omega (arith, ap (λ (t : List NameToken). length t) is))
first_passes test (first ∷ tokens) others token is = at (passes test first) refl (first_passes test tokens others token) is where
  at : (t : Bool) → passes test first ≡ t → (drop (before_first (passes test) tokens) tokens ≡ token ∷ others → passes test token ≡ true) →
      drop (cond t 0 (suc (before_first (passes test) tokens))) (first ∷ tokens) ≡ token ∷ others → passes test token ≡ true
  at true passed more is = let same : first ≡ token = cc in rw (sym same) passed
  at false failed more is = more is

none_before : (test : TokenTest) (tokens : List NameToken) → list_all (λ token. not (passes test token)) (take (before_first (passes test) tokens) tokens)
    ≡ true
unfolding before_first
none_before test [] = refl
none_before test (first ∷ tokens) = at (passes test first) refl (none_before test tokens) where
  at : (t : Bool) → passes test first ≡ t → list_all (λ token. not (passes test token)) (take (before_first (passes test) tokens) tokens) ≡ true
      → list_all (λ token. not (passes test token)) (take (cond t 0 (suc (before_first (passes test) tokens))) (first ∷ tokens)) ≡ true
  at true passed more = refl
  at false failed more = rw failed more

-- ---- no token passes

none_at_all : (test : TokenTest) (tokens : List NameToken) → up_to_last (passes test) tokens ≡ 0 → list_all (λ token. not (passes test token)) tokens ≡ true
unfolding up_to_last
none_at_all test [] none = refl
none_at_all test (first ∷ tokens) none = at (passes test first) (up_to_last (passes test) tokens) refl refl (none_at_all test tokens) none where
  at : (t : Bool) (n : ℕ) → passes test first ≡ t → up_to_last (passes test) tokens ≡ n
      → (up_to_last (passes test) tokens ≡ 0 → list_all (λ token. not (passes test token)) tokens ≡ true) → cond (ltb 0 n) (suc n) (cond t 1 0) ≡ 0 →
      list_all (λ token. not (passes test token)) (first ∷ tokens) ≡ true
  at true zero passed is more none = absurd (omega arith)
  at false zero failed is more none = rw failed (more is)
  at t (suc n) passed is more none =
      let some : ltb 0 (suc n) ≡ true = lt-ltb 0 (suc n) (omega arith) in
      absurd (omega (arith, rw some at none))

none_in_front : (test : TokenTest) (n : ℕ) (tokens : List NameToken) → list_all (λ token. not (passes test token)) tokens ≡ true →
    list_all (λ token. not (passes test token)) (take n tokens) ≡ true
none_in_front test zero tokens none = refl
none_in_front test (suc n) [] none = refl
none_in_front test (suc n) (first ∷ tokens) none = at (passes test first) refl (none_in_front test n tokens) none where
  at : (t : Bool) → passes test first ≡ t
      → (list_all (λ token. not (passes test token)) tokens ≡ true → list_all (λ token. not (passes test token)) (take n tokens) ≡ true) →
      list_all (λ token. not (passes test token)) (first ∷ tokens) ≡ true →
      list_all (λ token. not (passes test token)) (first ∷ take n tokens) ≡ true
  at true passed more none = absurd (false≢true (rw passed at none))
  at false failed more none = rw failed (more (rw failed at none))

-- ---- the last that passes

up_to_last_all : (test : TokenTest) (tokens : List NameToken) → up_to_last (passes test) tokens ≤ length tokens
unfolding up_to_last
up_to_last_all test [] = omega arith
up_to_last_all test (first ∷ tokens) = at (passes test first) (up_to_last (passes test) tokens) (up_to_last_all test tokens) where
  at : (t : Bool) (n : ℕ) → n ≤ length tokens → cond (ltb 0 n) (suc n) (cond t 1 0) ≤ length (first ∷ tokens)
  at true zero le = omega arith
  at false zero le = omega arith
  at t (suc n) le = let some : ltb 0 (suc n) ≡ true = lt-ltb 0 (suc n) (omega arith) in rw some (omega arith)

last_passes : (test : TokenTest) (tokens front : List NameToken) (final : NameToken) → take (up_to_last (passes test) tokens) tokens ≡ front ++ final ∷ []
    → passes test final ≡ true
unfolding up_to_last
last_passes test [] front final is = absurd (omega (arith, ap (λ (t : List NameToken). length t) is, length-append front (final ∷ [])))
last_passes test (first ∷ tokens) front final is =
    at (passes test first) (up_to_last (passes test) tokens) front refl refl (up_to_last_all test tokens) (λ front. last_passes test tokens front final)
    is where
      at : (t : Bool) (n : ℕ) (front : List NameToken) → passes test first ≡ t → up_to_last (passes test) tokens ≡ n → up_to_last (passes test) tokens
          ≤ length tokens →
          ((front : List NameToken) → take (up_to_last (passes test) tokens) tokens ≡ front ++ final ∷ [] → passes test final ≡ true) →
          take (cond (ltb 0 n) (suc n) (cond t 1 0)) (first ∷ tokens) ≡ front ++ final ∷ [] → passes test final ≡ true
      at true zero [] passed count le more is = let same : first ≡ final = cc in rw (sym same) passed
      at true zero (f ∷ front) passed count le more is = absurd (omega (arith, ap (λ (t : List NameToken). length t) is, length-append front (final ∷ [])))
      at false zero front failed count le more is = absurd (omega (arith, ap (λ (t : List NameToken). length t) is, length-append front (final ∷ [])))
      at t (suc n) [] passed count le more is =
          let some : ltb 0 (suc n) ≡ true = lt-ltb 0 (suc n) (omega arith) in
          let longer = ap (λ (t : List NameToken). length t) (rw some at is) in
          absurd (omega (arith, longer, count, le, length-take-le (suc n) tokens (omega (arith, count, le))))
      at t (suc n) (f ∷ front) passed count le more is =
          let some : ltb 0 (suc n) ≡ true = lt-ltb 0 (suc n) (omega arith) in
          let cut = rw some at is in
          let rest : take (suc n) tokens ≡ front ++ final ∷ [] = cc in
          more front (rw count rest)

-- those after it fail
rest_fails : (test : TokenTest) (tokens : List NameToken) → list_all (λ token. not (passes test token)) (drop (up_to_last (passes test) tokens) tokens) ≡ true
unfolding up_to_last
rest_fails test [] = refl
rest_fails test (first ∷ tokens) = at (passes test first) (up_to_last (passes test) tokens) refl refl (rest_fails test tokens) where
  at : (t : Bool) (n : ℕ) → passes test first ≡ t → up_to_last (passes test) tokens ≡ n
      → list_all (λ token. not (passes test token)) (drop (up_to_last (passes test) tokens) tokens) ≡ true →
      list_all (λ token. not (passes test token)) (drop (cond (ltb 0 n) (suc n) (cond t 1 0)) (first ∷ tokens)) ≡ true
  at true zero passed count more = none_at_all test tokens count
  at false zero failed count more = rw failed (none_at_all test tokens count)
  at t (suc n) passed count more =
      let some : ltb 0 (suc n) ≡ true = lt-ltb 0 (suc n) (omega arith) in
      rw some (rw count at more)

-- ---- the parts of a name without commas

-- what stands before the final token reaches as far
front_before_final : (n : ℕ) (tokens : List NameToken) → n ≤ length (before_final tokens) → take n tokens ≡ take n (before_final tokens)
front_before_final n tokens le =
    let front = before_final_front tokens in
    let le' : n ≤ length tokens - 1 = omega (arith, le, ap (λ (t : List NameToken). length t) front, length-take-le (length tokens - 1) tokens (omega arith)) in
    sym (ap (λ (t : List NameToken). take n t) front ∙ take-take n (length tokens - 1) tokens le')

von_front : (tokens : List NameToken) → take (von_end tokens) tokens ≡ take (von_end tokens) (before_final tokens)
von_front tokens = front_before_final (von_end tokens) tokens (up_to_last_all Von (before_final tokens))

no_last : (front tokens : List NameToken) (final : NameToken) (n : ℕ) → take (n - n) tokens ≡ front ++ final ∷ [] → ⊥
no_last front tokens final n is =
    let none : n - n ≡ 0 = omega arith in
    omega (arith, ap (λ (t : List NameToken). length t) (rw none at is), length-append front (final ∷ []))

unsplit_ends : (tokens front : List NameToken) (final : NameToken) → (unsplit tokens).von ≡ front ++ final ∷ [] → passes Von final ≡ true
unsplit_ends tokens front final is = at (ltb 0 (von_end tokens)) refl where
  at : (t : Bool) → ltb 0 (von_end tokens) ≡ t → passes Von final ≡ true
  at true some =
      let from = before_first (passes Von) tokens in
      let end = von_end tokens in
      let cut : take (end - from) (drop from tokens) ≡ front ++ final ∷ [] = rw some at is in
      let le : from ≤ end = before_first-le Von tokens (ltb-true 0 end some) in
      let e : from + (end - from) ≡ end = omega arith in
      let rest : drop from (take end tokens) ≡ front ++ final ∷ [] = ap (λ n. drop from (take n tokens)) (sym e) ∙ drop-take from (end - from) tokens ∙ cut in
      last_passes Von (before_final tokens) (take from (take end tokens) ++ front) final
      (sym (von_front tokens) ∙ sym (take-append-drop from (take end tokens)) ∙ ap (λ (t : List NameToken). take from (take end tokens) ++ t) rest
      ∙ sym (append_assoc (take from (take end tokens)) front (final ∷ [])))
  at false none = absurd (no_last front (drop (up_to_last (passes Apart) (before_final tokens)) tokens) final (up_to_last (passes Apart) (before_final tokens))
      (rw none at is))

pub von_ends : (name : List ℕ) (front : List NameToken) (final : NameToken) → (parts_of name).von ≡ front ++ final ∷ [] → is_von final.text ≡ true
von_ends name front final is = at (sections_of name) is where
  at : (sections : Sections) → (parts_by sections).von ≡ front ++ final ∷ [] → is_von final.text ≡ true
  at (One whole) is = unsplit_ends (tokens_of whole) front final is
  at (Two surname first) is = last_passes Von (before_final (tokens_of surname)) front final (sym (von_front (tokens_of surname)) ∙ is)
  at (Three surname jr first) is = last_passes Von (before_final (tokens_of surname)) front final (sym (von_front (tokens_of surname)) ∙ is)

first_of_front : (n : ℕ) (tokens others : List NameToken) (token : NameToken) → take n tokens ≡ token ∷ others
    → (rest : List NameToken) × (tokens ≡ token ∷ rest)
first_of_front zero tokens others token is = absurd (omega (arith, ap (λ (t : List NameToken). length t) is))
first_of_front (suc n) [] others token is = absurd (omega (arith, ap (λ (t : List NameToken). length t) is))
first_of_front (suc n) (first ∷ tokens) others token is = let same : first ≡ token = cc in (tokens, ap (λ (t : NameToken). t ∷ tokens) same)

pub von_begins : (name : List ℕ) (token : NameToken) (others : List NameToken) → sections_of name ≡ One name → (parts_of name).von ≡ token ∷ others
    → is_von token.text ≡ true
von_begins name token others form is = at (ltb 0 (von_end (tokens_of name))) refl (rw form at is) where
  at : (t : Bool) → ltb 0 (von_end (tokens_of name)) ≡ t → (unsplit (tokens_of name)).von ≡ token ∷ others → is_von token.text ≡ true
  at true some is =
      let tokens = tokens_of name in
      let front = first_of_front (von_end tokens - before_first (passes Von) tokens) (drop (before_first (passes Von) tokens) tokens) others token
      (rw some at is) in
      first_passes Von tokens front.0 token front.1
  at false none is =
      let end = up_to_last (passes Apart) (before_final (tokens_of name)) in
      let zero_left : end - end ≡ 0 = omega arith in
      absurd (omega (arith, ap (λ (t : List NameToken). length t) (rw zero_left at (rw none at is))))

pub none_in_first : (name : List ℕ) → sections_of name ≡ One name → list_all (λ token. not (is_von token.text)) (parts_of name).first ≡ true
none_in_first name form = rw form (at (ltb 0 (von_end (tokens_of name))) refl) where
  at : (t : Bool) → ltb 0 (von_end (tokens_of name)) ≡ t → list_all (λ token. not (is_von token.text)) (unsplit (tokens_of name)).first ≡ true
  at true some = rw some (none_before Von (tokens_of name))
  at false none =
      let tokens = tokens_of name in
      let count : von_end tokens ≡ 0 = omega (arith, ltb-false 0 (von_end tokens) none) in
      let end = up_to_last (passes Apart) (before_final tokens) in
      rw (none, front_before_final end tokens (up_to_last_all Apart (before_final tokens)))
      (none_in_front Von end (before_final tokens) (none_at_all Von (before_final tokens) count))

-- ---- without von

none_up_to_last : (test : TokenTest) (tokens : List NameToken) → list_all (λ token. not (passes test token)) tokens ≡ true → up_to_last (passes test) tokens ≡ 0
unfolding up_to_last
none_up_to_last test [] none = refl
none_up_to_last test (first ∷ tokens) none = at (passes test first) refl (none_up_to_last test tokens) none where
  at : (t : Bool) → passes test first ≡ t → (list_all (λ token. not (passes test token)) tokens ≡ true → up_to_last (passes test) tokens ≡ 0) →
      list_all (λ token. not (passes test token)) (first ∷ tokens) ≡ true → up_to_last (passes test) (first ∷ tokens) ≡ 0
  at true passed more none = absurd (false≢true (rw passed at none))
  at false failed more none = rw (more (rw failed at none), failed) refl

-- not apart is joined by `-`
all_joined : (tokens : List NameToken) → list_all (λ token. not (passes Apart token)) tokens ≡ true → list_all (λ token. is_hyphen token.joint) tokens ≡ true
all_joined [] all = refl
all_joined (first ∷ tokens) all = at (is_hyphen first.joint) refl (all_joined tokens) all where
  at : (t : Bool) → is_hyphen first.joint ≡ t
      → (list_all (λ token. not (passes Apart token)) tokens ≡ true → list_all (λ token. is_hyphen token.joint) tokens ≡ true) →
      list_all (λ token. not (passes Apart token)) (first ∷ tokens) ≡ true → list_all (λ token. is_hyphen token.joint) (first ∷ tokens) ≡ true
  at true joined more all = rw joined (more (rw joined at all))
  at false apart more all = absurd (false≢true (rw apart at all))

not_true : (b : Bool) → not b ≡ true → b ≡ false
not_true true is = absurd (false≢true is)
not_true false is = refl

before_final_rest : (n : ℕ) (tokens : List NameToken) → n ≤ length (before_final tokens) → before_final (drop n tokens) ≡ drop n (before_final tokens)
before_final_rest n tokens le =
    let front = before_final_front tokens in
    let le' : n ≤ length tokens - 1 = omega (arith, le, ap (λ (t : List NameToken). length t) front, length-take-le (length tokens - 1) tokens (omega arith)) in
    let len = length-drop n tokens in
    let e : n + (length (drop n tokens) - 1) ≡ length tokens - 1 = omega (arith, len) in
    before_final_front (drop n tokens) ∙ sym (drop-take n (length (drop n tokens) - 1) tokens) ∙ ap (λ k. drop n (take k tokens)) e
    ∙ ap (λ (t : List NameToken). drop n t) (sym front)

no_von_end : (name : List ℕ) → list_all (λ token. not (is_von token.text)) (before_final (tokens_of name)) ≡ true → ltb 0 (von_end (tokens_of name)) ≡ false
no_von_end name none = rw (none_up_to_last Von (before_final (tokens_of name)) none) refl

pub joined_to_last : (name : List ℕ) → sections_of name ≡ One name → list_all (λ token. not (is_von token.text)) (before_final (tokens_of name)) ≡ true →
    list_all (λ token. is_hyphen token.joint) (before_final (parts_of name).last) ≡ true
joined_to_last name form none =
    let tokens = tokens_of name in
    let end = up_to_last (passes Apart) (before_final tokens) in
    rw (form, no_von_end name none, before_final_rest end tokens (up_to_last_all Apart (before_final tokens)))
    (all_joined (drop end (before_final tokens)) (rest_fails Apart (before_final tokens)))

pub apart_from_last : (name : List ℕ) (front : List NameToken) (final : NameToken) → sections_of name ≡ One name →
    list_all (λ token. not (is_von token.text)) (before_final (tokens_of name)) ≡ true → (parts_of name).first ≡ front ++ final ∷ []
    → is_hyphen final.joint ≡ false
apart_from_last name front final form none is =
    let tokens = tokens_of name in
    let end = up_to_last (passes Apart) (before_final tokens) in
    let cut : take end tokens ≡ front ++ final ∷ [] = rw (no_von_end name none) at (rw form at is) in
    not_true (is_hyphen final.joint)
    (last_passes Apart (before_final tokens) front final (sym (front_before_final end tokens (up_to_last_all Apart (before_final tokens))) ∙ cut))

pub ruleset von_laws = (von_ends, von_begins, none_in_first, joined_to_last, apart_from_last)
