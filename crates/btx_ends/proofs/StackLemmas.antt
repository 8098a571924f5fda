-- What is known of the literals on top of the stack, where a text gets shorter, is so after each token.
use Rattle.std.proofs.Common.{◌≡◌, ℕ, zero, suc, ◌-◌, ◌≤◌, ℤ, pos, negsuc, Bool, true, false, ◌&&◌, ◌||◌, cond, nat_eq, List, [], ◌∷◌, ◌++◌, length, take, drop, refl, arith, sym, ap, subst, ◌∙◌}
use Rattle.std.proofs.lemmas.List.{length-take, length-drop}
use Rattle.std.proofs.lemmas.Bool.{eqb-true}
use Rattle.btx_step.specs.declared.next.Next.{Next}
use Rattle.btx_step.specs.declared.next.Next.TheVariants as next
use Rattle.std.specs.Str.{bytes_eq}
use Rattle.btx_bst.specs.language.Style.{Style}
use Rattle.btx_stack.specs.declared.literal.Literal.{Literal}
use Rattle.btx_stack.specs.declared.literal.Literal.TheVariants as literal
use Rattle.btx_strings.specs.language.Positions.{substring_of}
use Rattle.btx_bst.specs.declared.built_in.BuiltIn.TheVariants as built_in
use Rattle.btx_bst.specs.declared.callee.Callee.TheVariants as callee
use Rattle.btx_bst.specs.declared.token.Token.{Token}
use Rattle.btx_bst.specs.declared.token.Token.TheVariants.{Run}
use Rattle.btx_step.specs.laws.Leaves.{is_assignment}
use Rattle.btx_step.specs.declared.said.StepOutput.TheVariants as step_output
use Rattle.btx_step.specs.language.Answers.{Answer, truth, with_literals, pushed, done}
use Rattle.btx_step.specs.language.Jobs.{Job}
use Rattle.btx_step.specs.language.Operands.{on_operands}
use Rattle.btx_step.specs.language.Steps.{step_of, function_run, built_in_run}
use Rattle.btx_step.specs.language.Stores.{Store}
use Rattle.btx_step.specs.language.Table.{row}
use Rattle.btx_step.proofs.LeaveLemmas.{variables_stay}
use Rattle.btx_step.specs.language.Control.{is_positive}
use Rattle.btx_ends.specs.declared.measures.Measure.{Measure}
use Rattle.btx_ends.specs.declared.measures.Seen.{Seen}
use Rattle.btx_ends.specs.declared.measures.Seen.TheVariants as seen
use Rattle.btx_ends.specs.declared.measures.Tops.{Tops}
use Rattle.btx_ends.specs.Shortening.{begins, word_of, is_number, is_text, is_value, part_of, tops_of, nothing_seen, push, equal_seen, part_seen, compared_seen}
use Rattle.btx_ends.specs.Shortening.{doubled_seen, swapped_seen}
use Rattle.btx_ends.proofs.DoneLemmas.{NextSo, AnswerSo, pushes_so, text_so, so_by, substring_step, equals_step}
use Rattle.btx_ends.proofs.QuietLemmas.{IsQuiet, IsSingleToken, step_quiet}

or_true : (b : Bool) → (b || true) ≡ true
or_true true = refl
or_true false = refl

pub and_both : (a b : Bool) → (a && b) ≡ true → (a ≡ true) × (b ≡ true)
and_both true true e = (refl, refl)
and_both true false e = absurd (cc)
and_both false b e = absurd (cc)

pub value_number : (k : Seen) → is_number k ≡ true → is_value k ≡ true
value_number k e = ap (λ (b : Bool). b || is_text k) e

pub value_text : (k : Seen) → is_text k ≡ true → is_value k ≡ true
value_text k e = ap (λ (b : Bool). is_number k || b) e ∙ or_true (is_number k)

quiet_next : (P : Store → Type 0) (after : Next) (r : Store) → IsQuiet after → P r → NextSo P after r
quiet_next P next.Nothing r q h = h
quiet_next P (next.End limit) r q h = tt
quiet_next P (next.Run f) r q h = absurd q
quiet_next P (next.Open number) r q h = absurd q
quiet_next P (next.Loop f g) r q h = absurd q

pub quiet_so : (P : Store → Type 0) (a : Answer) → IsQuiet a.next → P a.store → AnswerSo P a
quiet_so P a q h = quiet_next P a.next a.store q h

-- texts that are compared as equal are
pub bytes_same : (a b : List ℕ) → bytes_eq a b ≡ true → a ≡ b
bytes_same [] [] e = refl
bytes_same [] (y ∷ ys) e = absurd (cc)
bytes_same (x ∷ xs) [] e = absurd (cc)
bytes_same (x ∷ xs) (y ∷ ys) e =
    let h = and_both (nat_eq x y) (bytes_eq xs ys) e in
    let q : x ≡ y = eqb-true x y h.0 in ap (λ (n : ℕ). n ∷ xs) q ∙ ap (λ (zs : List ℕ). y ∷ zs) (bytes_same xs ys h.1)

shorter_part : (text : List ℕ) (k : ℕ) (n : ℤ) → length (substring_of text (pos (suc (suc k))) n) ≤ length text - 1
shorter_part text k (pos n) =
    let a = length-take n (drop (suc (suc k) - 1) text) in let b = length-drop (suc (suc k) - 1) text in omega (arith, a, b)
shorter_part text k (negsuc n) = omega arith

shorter_front : (text : List ℕ) (k : ℕ) (n : ℤ) → length (substring_of text (negsuc (suc k)) n) ≤ length text - 1
shorter_front text k (pos n) =
    let front = take (length text - (suc (suc k) - 1)) text in
    let a = length-take (length text - (suc (suc k) - 1)) text in let b = length-drop (length front - n) front in omega (arith, a, b)
shorter_front text k (negsuc n) = omega arith

module _ (style : Style) (m : Measure) (text : List ℕ) where
  abbrev pub IsSeen : Seen → Literal → Type 0
  IsSeen seen.Anything y = Unit {0}
  IsSeen (seen.Function f) y = y ≡ literal.Function f
  IsSeen (seen.Integer n) y = y ≡ literal.Integer n
  IsSeen seen.Number y = (n : ℤ) × (y ≡ literal.Integer n)
  IsSeen seen.Text y = (z : List ℕ) × (y ≡ literal.Text z)
  IsSeen (seen.Word w) y = y ≡ literal.Text (word_of style w)
  IsSeen seen.Whole y = y ≡ literal.Text text
  IsSeen seen.Start y = y ≡ literal.Text (substring_of text (pos 1) (pos 1))
  IsSeen seen.Shorter y = (z : List ℕ) × ((y ≡ literal.Text z) × (length z ≤ length text - 1))
  IsSeen seen.Begins y = (n : ℤ) × ((y ≡ literal.Integer n) × (is_positive n ≡ true → begins (word_of style m.word) text ≡ true))

  -- nothing is asked of what nothing is known of, not even that it's there
  abbrev pub Stands : List Seen → List Literal → Type 0
  Stands [] ys = Unit {0}
  Stands (seen.Anything ∷ ks) [] = Stands ks []
  Stands (k ∷ ks) [] = ⊥
  Stands (k ∷ ks) (y ∷ ys) = IsSeen k y × Stands ks ys

  abbrev pub On : Tops → List Literal → Type 0
  On tops ys = Stands (tops.top ∷ tops.below ∷ tops.third ∷ tops.fourth ∷ []) ys

  stands_tail : (k : Seen) (ks : List Seen) (y : Literal) (ys : List Literal) → Stands (k ∷ ks) (y ∷ ys) → Stands ks ys
  stands_tail seen.Anything ks y ys h = h.1
  stands_tail (seen.Function f) ks y ys h = h.1
  stands_tail (seen.Integer n) ks y ys h = h.1
  stands_tail seen.Number ks y ys h = h.1
  stands_tail seen.Text ks y ys h = h.1
  stands_tail (seen.Word w) ks y ys h = h.1
  stands_tail seen.Whole ks y ys h = h.1
  stands_tail seen.Start ks y ys h = h.1
  stands_tail seen.Shorter ks y ys h = h.1
  stands_tail seen.Begins ks y ys h = h.1

  stands_head : (k : Seen) (ks : List Seen) (y : Literal) (ys : List Literal) → Stands (k ∷ ks) (y ∷ ys) → IsSeen k y
  stands_head seen.Anything ks y ys h = h.0
  stands_head (seen.Function f) ks y ys h = h.0
  stands_head (seen.Integer n) ks y ys h = h.0
  stands_head seen.Number ks y ys h = h.0
  stands_head seen.Text ks y ys h = h.0
  stands_head (seen.Word w) ks y ys h = h.0
  stands_head seen.Whole ks y ys h = h.0
  stands_head seen.Start ks y ys h = h.0
  stands_head seen.Shorter ks y ys h = h.0
  stands_head seen.Begins ks y ys h = h.0

  pub stands_on : (k : Seen) (ks : List Seen) (y : Literal) (ys : List Literal) → IsSeen k y → Stands ks ys → Stands (k ∷ ks) (y ∷ ys)
  stands_on seen.Anything ks y ys h st = (h, st)
  stands_on (seen.Function f) ks y ys h st = (h, st)
  stands_on (seen.Integer n) ks y ys h st = (h, st)
  stands_on seen.Number ks y ys h st = (h, st)
  stands_on seen.Text ks y ys h st = (h, st)
  stands_on (seen.Word w) ks y ys h st = (h, st)
  stands_on seen.Whole ks y ys h st = (h, st)
  stands_on seen.Start ks y ys h st = (h, st)
  stands_on seen.Shorter ks y ys h st = (h, st)
  stands_on seen.Begins ks y ys h st = (h, st)

  pub number_is : (k : Seen) (y : Literal) → is_number k ≡ true → IsSeen k y → (n : ℤ) × (y ≡ literal.Integer n)
  number_is (seen.Integer n) y e h = (n, h)
  number_is seen.Number y e h = h
  number_is seen.Begins y e h = (h.0, h.1.0)
  number_is seen.Anything y e h = absurd (cc)
  number_is (seen.Function f) y e h = absurd (cc)
  number_is seen.Text y e h = absurd (cc)
  number_is (seen.Word w) y e h = absurd (cc)
  number_is seen.Whole y e h = absurd (cc)
  number_is seen.Start y e h = absurd (cc)
  number_is seen.Shorter y e h = absurd (cc)

  pub text_is : (k : Seen) (y : Literal) → is_text k ≡ true → IsSeen k y → (z : List ℕ) × (y ≡ literal.Text z)
  text_is seen.Text y e h = h
  text_is (seen.Word w) y e h = (word_of style w, h)
  text_is seen.Whole y e h = (text, h)
  text_is seen.Start y e h = (substring_of text (pos 1) (pos 1), h)
  text_is seen.Shorter y e h = (h.0, h.1.0)
  text_is (seen.Integer n) y e h = absurd (cc)
  text_is seen.Number y e h = absurd (cc)
  text_is seen.Begins y e h = absurd (cc)
  text_is seen.Anything y e h = absurd (cc)
  text_is (seen.Function f) y e h = absurd (cc)

  -- nothing is known
  blank : (ks : List Seen) → ((ys : List Literal) → Stands ks ys) → (ys : List Literal) → Stands (seen.Anything ∷ ks) ys
  blank ks f [] = f []
  blank ks f (y ∷ ys) = (tt, f ys)

  pub nothing_on : (ys : List Literal) → On nothing_seen ys
  nothing_on ys =
      blank (seen.Anything ∷ seen.Anything ∷ seen.Anything ∷ [])
      (λ a. blank (seen.Anything ∷ seen.Anything ∷ []) (λ b. blank (seen.Anything ∷ []) (λ c. blank [] (λ d. tt) c) b) a) ys

  -- one less is looked at, or one more of which nothing is known
  none_less : (j : Seen) (ks ls : List Seen) → (Stands ls [] → Stands ks []) → Stands (j ∷ ls) [] → Stands (j ∷ ks) []
  none_less seen.Anything ks ls f h = f h
  none_less (seen.Function g) ks ls f h = absurd h
  none_less (seen.Integer n) ks ls f h = absurd h
  none_less seen.Number ks ls f h = absurd h
  none_less seen.Text ks ls f h = absurd h
  none_less (seen.Word w) ks ls f h = absurd h
  none_less seen.Whole ks ls f h = absurd h
  none_less seen.Start ks ls f h = absurd h
  none_less seen.Shorter ks ls f h = absurd h
  none_less seen.Begins ks ls f h = absurd h

  stands_short : (ks : List Seen) (k : Seen) (ys : List Literal) → Stands (ks ++ k ∷ []) ys → Stands ks ys
  stands_short [] k ys h = tt
  stands_short (j ∷ ks) k [] h = none_less j ks (ks ++ k ∷ []) (stands_short ks k []) h
  stands_short (j ∷ ks) k (y ∷ ys) h =
      stands_on j ks y ys (stands_head j (ks ++ k ∷ []) y ys h) (stands_short ks k ys (stands_tail j (ks ++ k ∷ []) y ys h))

  -- ---- after each kind of token

  pub pushed_on : (k : Seen) (tops : Tops) (y : Literal) (ys : List Literal) → IsSeen k y → On tops ys → On (push k tops) (y ∷ ys)
  pushed_on k tops y ys h st = stands_on k (tops.top ∷ tops.below ∷ tops.third ∷ []) y ys h (stands_short (tops.top ∷ tops.below ∷ tops.third ∷ []) tops.fourth ys st)

  -- a literal is there of which something is known
  pub record There (k : Seen) (ks : List Seen) (ls : List Literal) : Type 0 where
    pub first : Literal
    pub others : List Literal
    pub is : ls ≡ first ∷ others
    pub seen_so : IsSeen k first
    pub below : Stands ks others

  abbrev pub is_known : Seen → Bool
  is_known seen.Anything = false
  is_known k = true

  pub known_value : (k : Seen) → is_value k ≡ true → is_known k ≡ true
  known_value seen.Anything e = absurd (cc)
  known_value (seen.Function f) e = refl
  known_value (seen.Integer n) e = refl
  known_value seen.Number e = refl
  known_value seen.Text e = refl
  known_value (seen.Word w) e = refl
  known_value seen.Whole e = refl
  known_value seen.Start e = refl
  known_value seen.Shorter e = refl
  known_value seen.Begins e = refl

  none_there : (k : Seen) (ks : List Seen) → is_known k ≡ true → Stands (k ∷ ks) [] → ⊥
  none_there seen.Anything ks e h = absurd (cc)
  none_there (seen.Function f) ks e h = h
  none_there (seen.Integer n) ks e h = h
  none_there seen.Number ks e h = h
  none_there seen.Text ks e h = h
  none_there (seen.Word w) ks e h = h
  none_there seen.Whole ks e h = h
  none_there seen.Start ks e h = h
  none_there seen.Shorter ks e h = h
  none_there seen.Begins ks e h = h

  pub there : (k : Seen) (ks : List Seen) (ls : List Literal) → is_known k ≡ true → Stands (k ∷ ks) ls → There k ks ls
  there k ks [] e h = absurd (none_there k ks e h)
  there k ks (y ∷ ys) e h = record { first = y; others = ys; is = refl; seen_so = stands_head k ks y ys h; below = stands_tail k ks y ys h }

  -- one more of which nothing is known
  padded_one : (k : Seen) (ys : List Literal) → Stands (k ∷ []) ys → Stands (k ∷ seen.Anything ∷ seen.Anything ∷ []) ys
  padded_one k [] h = none_less k (seen.Anything ∷ seen.Anything ∷ []) [] (λ st. tt) h
  padded_one k (y ∷ ys) h =
      stands_on k (seen.Anything ∷ seen.Anything ∷ []) y ys (stands_head k [] y ys h) (blank (seen.Anything ∷ []) (λ a. blank [] (λ b. tt) a) ys)

  pub padded_two : (j k : Seen) (ys : List Literal) → Stands (j ∷ k ∷ []) ys → Stands (j ∷ k ∷ seen.Anything ∷ []) ys
  padded_two j k [] h = none_less j (k ∷ seen.Anything ∷ []) (k ∷ []) (λ st. none_less k (seen.Anything ∷ []) [] (λ st. tt) st) h
  padded_two j k (y ∷ ys) h =
      stands_on j (k ∷ seen.Anything ∷ []) y ys (stands_head j (k ∷ []) y ys h)
      (stands_short (k ∷ seen.Anything ∷ []) seen.Anything ys (padded_one k ys (stands_tail j (k ∷ []) y ys h)))

  -- ---- what built-in functions leave

  -- the variables of a store, and literals of which this is known
  abbrev pub SeenIn : Tops → Store → Store → Type 0
  SeenIn tops r q = ((q.integers ≡ r.integers) × (q.strings ≡ r.strings)) × On tops q.literals

  -- a token that assigns nothing, and after which nothing is known
  pub single_so : (job : Job) (x : Token) (s : Store) → IsSingleToken x
      → is_assignment x ≡ false → AnswerSo (SeenIn nothing_seen s) (step_of job x s)
  single_so job x s single a =
      quiet_so (SeenIn nothing_seen s) (step_of job x s) (step_quiet job x s single)
      ((ap (λ (r : Store). r.integers) (variables_stay job x s a), ap (λ (r : Store). r.strings) (variables_stay job x s a)), nothing_on _)

  part_is : (top : Seen) (start : ℤ) (n : ℤ) (y : Literal) → y ≡ literal.Integer n → IsSeen top y
      → IsSeen (part_of top start) (literal.Text (substring_of text start n))
  part_is (seen.Integer (pos (suc zero))) (pos (suc zero)) n y e h =
      let q : n ≡ pos 1 = cc in ap (λ (k : ℤ). literal.Text (substring_of text (pos 1) k)) q
  part_is top (pos (suc (suc k))) n y e h = (substring_of text (pos (suc (suc k))) n, (refl, shorter_part text k n))
  part_is top (negsuc (suc k)) n y e h = (substring_of text (negsuc (suc k)) n, (refl, shorter_front text k n))
  part_is top start n y e h = (substring_of text start n, refl)

  pub substring_so : (job : Job) (top below third fourth : Seen) (s : Store) → Stands (top ∷ below ∷ third ∷ fourth ∷ []) s.literals
      → AnswerSo (SeenIn (part_seen (tops_of top below third fourth) below third) s) (step_of job (Run (callee.BuiltIn built_in.Substring)) s)
  substring_so job top (seen.Integer start) seen.Whole fourth s st = by (is_number top) refl
    where
      by : (b : Bool) → is_number top ≡ b
          → AnswerSo (SeenIn (cond b (tops_of (part_of top start) fourth seen.Anything seen.Anything) nothing_seen) s)
          (step_of job (Run (callee.BuiltIn built_in.Substring)) s)
      by false e = single_so job (Run (callee.BuiltIn built_in.Substring)) s tt refl
      by true e =
          let a = there top (seen.Integer start ∷ seen.Whole ∷ fourth ∷ []) s.literals (known_value top (value_number top e)) st in
          let b = there (seen.Integer start) (seen.Whole ∷ fourth ∷ []) a.others refl a.below in
          let c = there seen.Whole (fourth ∷ []) b.others refl b.below in
          let n = number_is top a.first e a.seen_so in
          let top_is : s.literals ≡ literal.Integer n.0 ∷ literal.Integer start ∷ literal.Text text ∷ c.others =
          a.is ∙ ap (λ (y : Literal). y ∷ a.others) n.1
          ∙ ap (λ (ys : List Literal). literal.Integer n.0 ∷ ys) (b.is ∙ ap (λ (y : Literal). y ∷ b.others) b.seen_so
          ∙ ap (λ (ys : List Literal). literal.Integer start ∷ ys) (c.is ∙ ap (λ (y : Literal). y ∷ c.others) c.seen_so)) in
          let P = SeenIn (tops_of (part_of top start) fourth seen.Anything seen.Anything) s in
          so_by P _ _ (substring_step job n.0 start text c.others s top_is)
          (text_so P (substring_of text start n.0) (with_literals c.others s)
          ((refl, refl), stands_on (part_of top start) (fourth ∷ seen.Anything ∷ seen.Anything ∷ []) (literal.Text (substring_of text start n.0)) c.others (part_is top start n.0 a.first n.1 a.seen_so) (padded_one fourth c.others c.below)))
  substring_so job top below third fourth s st = single_so job (Run (callee.BuiltIn built_in.Substring)) s tt refl

  pub compared_so : (job : Job) (top below third fourth : Seen) (s : Store) → Stands (top ∷ below ∷ third ∷ fourth ∷ []) s.literals
      → AnswerSo (SeenIn (compared_seen style m (tops_of top below third fourth)) s) (step_of job (Run (callee.BuiltIn built_in.Equals)) s)
  compared_so job top below third fourth s st = by (is_text top && is_text below) refl
    where
      equal_is : (top below : Seen) (z x : List ℕ) → literal.Text z ≡ literal.Text z → IsSeen top (literal.Text z) → IsSeen below (literal.Text x)
          → IsSeen (equal_seen style m top below) (truth (bytes_eq x z))
      equal_is (seen.Word w) seen.Start z x e h k = begun (bytes_eq (word_of style w) (word_of style m.word)) refl
        where
          is_integer : (b : Bool) → (n : ℤ) × ((truth b ≡ literal.Integer n) × (is_positive n ≡ true → b ≡ true))
          is_integer true = (pos 1, (refl, λ yes. refl))
          is_integer false = (pos 0, (refl, λ yes. absurd (cc)))

          begun : (b : Bool) → bytes_eq (word_of style w) (word_of style m.word) ≡ b
              → IsSeen (cond b seen.Begins seen.Number) (truth (bytes_eq x z))
          begun false q = ((is_integer (bytes_eq x z)).0, (is_integer (bytes_eq x z)).1.0)
          begun true q =
              let i = is_integer (bytes_eq x z) in (
                i.0,
                (
                  i.1.0,
                  λ yes.
                      let same : word_of style w ≡ word_of style m.word = bytes_same _ _ q in
                      let zw : z ≡ word_of style w = cc in
                      let xt : x ≡ substring_of text (pos 1) (pos 1) = cc in
                      ap (λ (ws : List ℕ). bytes_eq (substring_of text (pos 1) (pos 1)) ws) (sym (zw ∙ same))
                      ∙ ap (λ (us : List ℕ). bytes_eq us z) (sym xt) ∙ i.1.1 yes,
                ),
              )
      equal_is top below z x e h k = number (bytes_eq x z)
        where
          number : (b : Bool) → (n : ℤ) × (truth b ≡ literal.Integer n)
          number true = (pos 1, refl)
          number false = (pos 0, refl)

      by : (b : Bool) → (is_text top && is_text below) ≡ b
          → AnswerSo (SeenIn (cond b (tops_of (equal_seen style m top below) third fourth seen.Anything) nothing_seen) s)
          (step_of job (Run (callee.BuiltIn built_in.Equals)) s)
      by false e = single_so job (Run (callee.BuiltIn built_in.Equals)) s tt refl
      by true e =
          let both = and_both (is_text top) (is_text below) e in
          let a = there top (below ∷ third ∷ fourth ∷ []) s.literals (known_value top (value_text top both.0)) st in
          let b = there below (third ∷ fourth ∷ []) a.others (known_value below (value_text below both.1)) a.below in
          let z = text_is top a.first both.0 a.seen_so in
          let x = text_is below b.first both.1 b.seen_so in
          let top_is : s.literals ≡ literal.Text z.0 ∷ literal.Text x.0 ∷ b.others =
          a.is ∙ ap (λ (y : Literal). y ∷ a.others) z.1
          ∙ ap (λ (ys : List Literal). literal.Text z.0 ∷ ys) (b.is ∙ ap (λ (y : Literal). y ∷ b.others) x.1) in
          let P = SeenIn (tops_of (equal_seen style m top below) third fourth seen.Anything) s in
          so_by P _ _ (equals_step job z.0 x.0 b.others s top_is)
          (pushes_so P step_output.Nothing (truth (bytes_eq x.0 z.0)) (with_literals b.others s) (
            (refl, refl),
            stands_on (equal_seen style m top below) (third ∷ fourth ∷ seen.Anything ∷ []) (truth (bytes_eq x.0 z.0)) b.others
                (equal_is top below z.0 x.0 refl (subst (IsSeen top) z.1 a.seen_so) (subst (IsSeen below) x.1 b.seen_so)) (padded_two third fourth b.others b.below),
          ))

  duplicate_step : (job : Job) (y : Literal) (ys : List Literal) (s : Store) → s.literals ≡ y ∷ ys
      → step_of job (Run (callee.BuiltIn built_in.Duplicate)) s ≡ pushed y (with_literals (y ∷ ys) s)
  unfolding step_of function_run built_in_run
  duplicate_step job y ys s e =
      ap (λ xs. on_operands (row built_in.Duplicate).operands (row built_in.Duplicate).default ((row built_in.Duplicate).does job) xs s) e

  swap_step : (job : Job) (y x : Literal) (ys : List Literal) (s : Store) → s.literals ≡ y ∷ x ∷ ys
      → step_of job (Run (callee.BuiltIn built_in.Swap)) s ≡ done (with_literals (x ∷ y ∷ ys) s)
  unfolding step_of function_run built_in_run
  swap_step job y x ys s e =
      ap (λ xs. on_operands (row built_in.Swap).operands (row built_in.Swap).default ((row built_in.Swap).does job) xs s) e

  pub doubled_so : (job : Job) (top below third fourth : Seen) (s : Store) → Stands (top ∷ below ∷ third ∷ fourth ∷ []) s.literals
      → AnswerSo (SeenIn (doubled_seen (tops_of top below third fourth)) s) (step_of job (Run (callee.BuiltIn built_in.Duplicate)) s)
  doubled_so job top below third fourth s st = by (is_value top) refl
    where
      by : (b : Bool) → is_value top ≡ b
          → AnswerSo (SeenIn (cond b (tops_of top top below third) nothing_seen) s) (step_of job (Run (callee.BuiltIn built_in.Duplicate)) s)
      by false e = single_so job (Run (callee.BuiltIn built_in.Duplicate)) s tt refl
      by true e =
          let a = there top (below ∷ third ∷ fourth ∷ []) s.literals (known_value top e) st in
          let P = SeenIn (tops_of top top below third) s in
          so_by P _ _ (duplicate_step job a.first a.others s a.is)
          (pushes_so P step_output.Nothing a.first (with_literals (a.first ∷ a.others) s) (
            (refl, refl),
            stands_on top (top ∷ below ∷ third ∷ []) a.first (a.first ∷ a.others) a.seen_so
                (stands_on top (below ∷ third ∷ []) a.first a.others a.seen_so (stands_short (below ∷ third ∷ []) fourth a.others a.below)),
          ))

  pub swapped_so : (job : Job) (top below third fourth : Seen) (s : Store) → Stands (top ∷ below ∷ third ∷ fourth ∷ []) s.literals
      → AnswerSo (SeenIn (swapped_seen (tops_of top below third fourth)) s) (step_of job (Run (callee.BuiltIn built_in.Swap)) s)
  swapped_so job top below third fourth s st = by (is_value top && is_value below) refl
    where
      by : (b : Bool) → (is_value top && is_value below) ≡ b
          → AnswerSo (SeenIn (cond b (tops_of below top third fourth) nothing_seen) s) (step_of job (Run (callee.BuiltIn built_in.Swap)) s)
      by false e = single_so job (Run (callee.BuiltIn built_in.Swap)) s tt refl
      by true e =
          let both = and_both (is_value top) (is_value below) e in
          let a = there top (below ∷ third ∷ fourth ∷ []) s.literals (known_value top both.0) st in
          let b = there below (third ∷ fourth ∷ []) a.others (known_value below both.1) a.below in
          let P = SeenIn (tops_of below top third fourth) s in
          so_by P _ _ (swap_step job a.first b.first b.others s (a.is ∙ ap (λ (ys : List Literal). a.first ∷ ys) b.is)) (
            (refl, refl),
            stands_on below (top ∷ third ∷ fourth ∷ []) b.first (a.first ∷ b.others) b.seen_so
                (stands_on top (third ∷ fourth ∷ []) a.first b.others a.seen_so b.below),
          )
