-- What is wrong with operands, and what follows where they fit.
use Rattle.std.proofs.Common.{◌≡◌, ◌<◌, ◌≤◌, ◌+◌, ◌-◌, ◌⊎◌, inl, inr, ℕ, zero, suc, Bool, true, false, ◌||◌, List, [], ◌∷◌, length, take, drop, get_or}
use Rattle.std.proofs.Common.{replicate, cond, Option, Some, None, refl, sym, ap, ◌∙◌, arith, is_some, is_none}
use Rattle.std.specs.Option.{option_map_or}
use Rattle.std.proofs.lemmas.List.{drop_all, drop_more, drop-drop, length-drop}
use Rattle.std.specs.Prelude.{option_and_then}
use Rattle.btx_step.proofs.Common.{BuiltIn, Literal, below_top, has_missing, OperandKind, Default, Push, Back, Operand, Any, Of, Note, Answer, with_literals, Does}
use Rattle.btx_step.proofs.Common.{applied, or_default, wrong, finds_missing, Job, built_in_run, Store, misses_entry, row, runs, runs_missing}
use Rattle.btx_bst.specs.declared.built_in.BuiltIn.TheVariants as built_in
use Rattle.btx_stack.specs.declared.literal.Literal.TheVariants as literal
use Rattle.btx_stack.specs.refinement.Stacks.{has_text}
use Rattle.btx_step.specs.declared.literal.OperandKind.TheVariants as wanted
use Rattle.btx_step.specs.declared.said.Note.TheVariants as note
use Rattle.btx_step.specs.language.Operands.{absent, or_else, seen_as}
use Rattle.btx_step.specs.laws.Applied.{FollowsRule}
use Rattle.btx_step.specs.refinement.Operands.{Fitting, WrongAt, has_text_or_missing, stands}

-- ---- a kind

pub text_or_missing : (xs : List Literal) → has_text_or_missing xs ≡ (has_missing xs || has_text xs)
text_or_missing [] = refl
text_or_missing (literal.Integer n ∷ xs) = refl
text_or_missing (literal.Text text ∷ xs) = refl
text_or_missing (literal.Function f ∷ xs) = refl
text_or_missing (literal.Missing ∷ xs) = refl

-- one more is dropped
below_is_dropped : (xs : List Literal) → below_top xs ≡ drop 1 xs
below_is_dropped [] = refl
below_is_dropped (x ∷ xs) = refl

pub below_dropped : (n : ℕ) (xs : List Literal) → below_top (drop n xs) ≡ drop (n + 1) xs
below_dropped n xs = below_is_dropped (drop n xs) ∙ drop-drop 1 n xs

pub ruleset drop_steps = (below_dropped, length-drop)

-- ---- the first wrong one

-- what is wrong where an operand of a kind is wanted: the literal on top, or what is wrong with the others
wrong_of : (kind : OperandKind) (more : List Operand) (x : Literal) (xs : List Literal)
    → wrong (Of kind ∷ more) (x ∷ xs) ≡ cond (stands kind (x ∷ xs)) (wrong more xs) (note.WrongKind x kind ∷ [])
wrong_of wanted.Integer more (literal.Integer n) xs = refl
wrong_of wanted.Text more (literal.Text text) xs = refl
wrong_of wanted.Function more (literal.Function f) xs = refl
wrong_of wanted.TextOrMissing more (literal.Text text) xs = refl
wrong_of wanted.TextOrMissing more literal.Missing xs = refl
wrong_of kind more x xs = refl

wrong_as : (fits : Bool) (kind : OperandKind) (operands more : List Operand) (ys xs : List Literal) (x : Literal) → operands ≡ Of kind ∷ more → ys ≡ x ∷ xs
    → stands kind ys ≡ fits → wrong operands ys ≡ cond fits (wrong more xs) (note.WrongKind x kind ∷ [])
wrong_as fits kind operands more ys xs x e f p = ap (λ o. wrong o ys) e ∙ ap (λ y. wrong (Of kind ∷ more) y) f ∙ wrong_of kind more x xs
    ∙ ap (λ b. cond b (wrong more xs) (note.WrongKind x kind ∷ [])) (ap (stands kind) (sym f) ∙ p)

any_passed : (operands more : List Operand) (ys xs : List Literal) (x : Literal) → operands ≡ Any ∷ more → ys ≡ x ∷ xs → wrong operands ys ≡ wrong more xs
any_passed operands more ys xs x e f = ap (λ o. wrong o ys) e ∙ ap (λ y. wrong (Any ∷ more) y) f

-- at a place
pub passed_at : (operands : List Operand) (xs : List Literal) (i : ℕ) (d : Operand) (kind : OperandKind) → i < length operands → length operands ≤ length xs
    → get_or operands i d ≡ Of kind → stands kind (drop i xs) ≡ true
    → wrong (drop i operands) (drop i xs) ≡ wrong (drop (i + 1) operands) (drop (i + 1) xs)
passed_at operands xs i d kind h l e p =
    wrong_as true kind (drop i operands) (drop (i + 1) operands) (drop i xs) (drop (i + 1) xs) (get_or xs i literal.Missing) (drop_more operands i d h
    ∙ ap (λ o. o ∷ drop (i + 1) operands) e) (drop_more xs i literal.Missing (omega (arith, h, l))) p

pub any_passed_at : (operands : List Operand) (xs : List Literal) (i : ℕ) (d : Operand) → i < length operands → length operands ≤ length xs
    → get_or operands i d ≡ Any → wrong (drop i operands) (drop i xs) ≡ wrong (drop (i + 1) operands) (drop (i + 1) xs)
any_passed_at operands xs i d h l e =
    any_passed (drop i operands) (drop (i + 1) operands) (drop i xs) (drop (i + 1) xs) (get_or xs i literal.Missing) (drop_more operands i d h
    ∙ ap (λ o. o ∷ drop (i + 1) operands) e) (drop_more xs i literal.Missing (omega (arith, h, l)))

pub found_at : (operands : List Operand) (xs : List Literal) (i : ℕ) (d : Operand) (kind : OperandKind) → i < length operands → get_or operands i d ≡ Of kind
    → stands kind (drop i xs) ≡ false → wrong (drop i operands) (drop i xs) ≡ wrong operands xs
    → WrongAt i kind operands xs
found_at operands xs i d kind h e p same = (
  h,
  λ x ys f. sym same ∙ wrong_as false kind (drop i operands) (drop (i + 1) operands) (drop i xs) ys x (drop_more operands i d h
      ∙ ap (λ o. o ∷ drop (i + 1) operands) e) f p,
)

pub ruleset wrong_steps = (passed_at, any_passed_at, found_at)

-- ---- where none is wrong

pub fitting : (operands : List Operand) (xs : List Literal) → length operands ≤ length xs → wrong operands xs ≡ [] → Fitting operands xs
fitting [] xs h e = tt
fitting (operand ∷ more) [] h e = absurd (omega (arith, h))
fitting (Any ∷ more) (x ∷ xs) h e = (omega arith, fitting more xs (omega (arith, h)) e)
fitting (Of wanted.Integer ∷ more) (literal.Integer n ∷ xs) h e = (refl, fitting more xs (omega (arith, h)) e)
fitting (Of wanted.Text ∷ more) (literal.Text text ∷ xs) h e = (refl, fitting more xs (omega (arith, h)) e)
fitting (Of wanted.Function ∷ more) (literal.Function f ∷ xs) h e = (refl, fitting more xs (omega (arith, h)) e)
fitting (Of wanted.TextOrMissing ∷ more) (literal.Text text ∷ xs) h e = (refl, fitting more xs (omega (arith, h)) e)
fitting (Of wanted.TextOrMissing ∷ more) (literal.Missing ∷ xs) h e = (refl, fitting more xs (omega (arith, h)) e)
fitting (Of kind ∷ more) (x ∷ xs) h e = absurd (cc)

-- ---- where something is

then_none : {A B : Type 0} (o : Option A) (f : A → Option B) → ((a : A) → f a ≡ None) → option_and_then f o ≡ None
then_none None f h = refl
then_none (Some a) f h = h a

not_applied_to_few : (operands : List Operand) (does : Does operands) (xs : List Literal) → length xs < length operands → applied operands does xs ≡ None
not_applied_to_few [] does xs h = absurd (omega (arith, h))
not_applied_to_few (operand ∷ more) does [] h = refl
not_applied_to_few (operand ∷ more) does (x ∷ xs) h = then_none (seen_as operand x) (λ value. applied more (does value) xs) (λ value. not_applied_to_few more
    (does value) xs (omega (arith, h)))

none_by_value : {A B : Type 0} (o : Option A) (others here notes : List Note) (f : A → Option B) → option_map_or (λ value. others) o here ≡ notes
    → ((a : A) → others ≡ notes → f a ≡ None) → option_and_then f o ≡ None
none_by_value None others here notes f e h = refl
none_by_value (Some a) others here notes f e h = h a e

not_applied_to_wrong : (operands : List Operand) (does : Does operands) (xs : List Literal) (n : Note) (ns : List Note) → wrong operands xs ≡ n ∷ ns
    → applied operands does xs ≡ None
not_applied_to_wrong [] does xs n ns e = absurd (cc)
not_applied_to_wrong (operand ∷ more) does [] n ns e = refl
not_applied_to_wrong (Any ∷ more) does (x ∷ xs) n ns e = not_applied_to_wrong more (does x) xs n ns e
not_applied_to_wrong (Of kind ∷ more) does (x ∷ xs) n ns e = none_by_value (seen_as (Of kind) x) (wrong more xs) (note.WrongKind x kind ∷ []) (n ∷ ns) (λ
    value. applied more (does value) xs) e (λ value h. not_applied_to_wrong more (does value) xs n ns h)

-- each that isn't there is logged
absent_all : (operands : List Operand) → absent operands [] ≡ replicate (length operands) note.EmptyStack
absent_all [] = refl
absent_all (operand ∷ more) = ap (λ notes. note.EmptyStack ∷ notes) (absent_all more)

same : (a b : ℕ) → a ≡ b → a ≡ b
same a b e = e

absent_few : (operands : List Operand) (xs : List Literal) (missing : ℕ) → missing + length xs ≡ length operands
    → absent operands xs ≡ replicate missing note.EmptyStack
absent_few [] [] missing h = ap (λ n. replicate n note.EmptyStack) (same 0 missing (omega (arith, h)))
absent_few [] (x ∷ xs) missing h = absurd (omega (arith, h))
absent_few (operand ∷ more) [] missing h = absent_all (operand ∷ more)
    ∙ ap (λ n. replicate n note.EmptyStack) (same (suc (length more)) missing (omega (arith, h)))
absent_few (operand ∷ more) (x ∷ xs) missing h = absent_few more xs missing (omega (arith, h))

absent_none : (operands : List Operand) (xs : List Literal) → length operands ≤ length xs → absent operands xs ≡ []
absent_none [] xs h = refl
absent_none (operand ∷ more) [] h = absurd (omega (arith, h))
absent_none (operand ∷ more) (x ∷ xs) h = absent_none more xs (omega (arith, h))

-- a function whose operands can be of a wrong kind pushes its default
not_back : (f : BuiltIn) (xs : List Literal) (n : Note) (ns : List Note) → wrong (row f).operands xs ≡ n ∷ ns → (row f).default ≡ Back → ⊥
not_back built_in.Swap [] n ns e d = absurd (cc)
not_back built_in.Swap (x ∷ []) n ns e d = absurd (cc)
not_back built_in.Swap (x ∷ y ∷ xs) n ns e d = absurd (cc)
not_back f xs n ns e d = absurd (cc)

some_logged : (missing : ℕ) (notes others : List Note) → notes ≡ replicate missing note.EmptyStack → 0 < missing
    → replicate missing note.EmptyStack ≡ or_else notes others
some_logged zero notes others e some = absurd (omega (arith, some))
some_logged (suc missing) notes others e some = sym (ap (λ notes. or_else notes others) e)

none_left : (n : ℕ) (xs : List Literal) → length xs ≤ n → drop n xs ≡ drop (length xs) xs
none_left n xs h = drop_all n xs h ∙ sym (drop_all (length xs) xs (omega arith))

-- the rule where some aren't there
pub by_lack : (f : BuiltIn) (does : Does (row f).operands) (missing : ℕ) (a : Answer) (s : Store) → length s.literals < length (row f).operands
    → missing ≡ length (row f).operands - length s.literals
    → a ≡ or_default None (row f).default (replicate missing note.EmptyStack) s.literals (drop (length s.literals) s.literals) s → a ≡ runs f does s
by_lack f does missing a s h m e =
    e ∙ ap (λ o. or_default o (row f).default (replicate missing note.EmptyStack) s.literals (drop (length s.literals) s.literals) s) (sym
    (not_applied_to_few (row f).operands does s.literals h))
    ∙ ap (λ below. or_default (applied (row f).operands does s.literals) (row f).default (replicate missing note.EmptyStack) s.literals below s) (sym
    (none_left (length (row f).operands) s.literals (omega (arith, h))))
    ∙ ap (λ notes. or_default (applied (row f).operands does s.literals) (row f).default notes s.literals (drop (length (row f).operands) s.literals) s)
    (logged (absent_few (row f).operands s.literals missing (omega (arith, h, m))) (omega (arith, h, m)))
  where
    logged : absent (row f).operands s.literals ≡ replicate missing note.EmptyStack → 0 < missing
        → replicate missing note.EmptyStack ≡ or_else (absent (row f).operands s.literals) (wrong (row f).operands s.literals)
    logged e some = some_logged missing (absent (row f).operands s.literals) (wrong (row f).operands s.literals) e some

left_below : (place n : ℕ) (x : Literal) (ys xs : List Literal) → place < n → drop place xs ≡ x ∷ ys → drop (n - place - 1) ys ≡ drop n xs
left_below place n x ys xs h e =
    ap (λ zs. drop (n - place - 1) zs) (sym (ap below_top e) ∙ below_dropped place xs) ∙ drop-drop (n - place - 1) (place + 1) xs
    ∙ ap (λ k. drop k xs) (omega (arith, h))

-- the rule where one is wrong
pub by_kind : (f : BuiltIn) (does : Does (row f).operands) (place : ℕ) (kind : OperandKind) (x : Literal) (ys : List Literal) (a : Answer) (s : Store)
    → length (row f).operands ≤ length s.literals → WrongAt place kind (row f).operands s.literals
    → drop place s.literals ≡ x ∷ ys
    → a ≡ or_default None (row f).default (note.WrongKind x kind ∷ []) ys (drop (length (row f).operands - place - 1) ys) (with_literals ys s)
    → a ≡ runs f does s
by_kind f does place kind x ys a s l w e h = h ∙ fallen (row f).default refl
  where
    notes : wrong (row f).operands s.literals ≡ note.WrongKind x kind ∷ []
    notes = w.1 x ys e

    below : drop (length (row f).operands - place - 1) ys ≡ drop (length (row f).operands) s.literals
    below = left_below place (length (row f).operands) x ys s.literals (w.0) e

    fallen : (default : Default) → (row f).default ≡ default → or_default None (row f).default (note.WrongKind x kind ∷ []) ys (drop (length (row f).operands
        - place - 1) ys) (with_literals ys s) ≡ runs f does s
    fallen Back d = absurd (not_back f s.literals (note.WrongKind x kind) [] notes d)
    fallen (Push instead) d =
        ap (λ default. or_default None default (note.WrongKind x kind ∷ []) ys (drop (length (row f).operands - place - 1) ys) (with_literals ys s)) d
        ∙ ap (λ below. or_default None (Push instead) (note.WrongKind x kind ∷ []) s.literals below s) below
        ∙ ap (λ default. or_default None default (note.WrongKind x kind ∷ []) s.literals (drop (length (row f).operands) s.literals) s) (sym d)
        ∙ ap (λ o. or_default o (row f).default (note.WrongKind x kind ∷ []) s.literals (drop (length (row f).operands) s.literals) s) (sym
        (not_applied_to_wrong (row f).operands does s.literals (note.WrongKind x kind) [] notes))
        ∙ ap (λ notes. or_default (applied (row f).operands does s.literals) (row f).default notes s.literals (drop (length (row f).operands) s.literals) s)
        (sym (ap (λ absences. or_else absences (wrong (row f).operands s.literals)) (absent_none (row f).operands s.literals l) ∙ notes))

-- ---- the one exception

in_an_entry : (s : Store) (current : Option ℕ) → FollowsRule built_in.Missing current → runs built_in.Missing finds_missing s ≡ runs_missing current s
in_an_entry s None h = absurd h
in_an_entry s (Some entry) h = refl

pub missing_in_entry : (a : Answer) (s : Store) → FollowsRule built_in.Missing s.current → a ≡ runs built_in.Missing finds_missing s
    → a ≡ runs_missing s.current s
missing_in_entry a s h e = e ∙ in_an_entry s s.current h

by_its_row : (job : Job) (f : BuiltIn) (s : Store) → FollowsRule f s.current → runs f ((row f).does job) s ≡ built_in_run job f s
unfolding built_in_run
by_its_row job built_in.Missing s h = in_an_entry s s.current h
by_its_row job f s h = refl

pub reported : (job : Job) (f : BuiltIn) (a : Answer) (s : Store) → FollowsRule f s.current → ((does : Does (row f).operands) → a ≡ runs f does s)
    → a ≡ built_in_run job f s
reported job f a s h e = e ((row f).does job) ∙ by_its_row job f s h

pub rule_followed : (f : BuiltIn) (current : Option ℕ) → (f ≡ built_in.Missing → is_none current ≡ true → ⊥) → FollowsRule f current
rule_followed built_in.Missing None h = absurd (h refl refl)
rule_followed built_in.Missing (Some entry) h = tt
rule_followed f current h = tt

pub rule_broken : (job : Job) (f : BuiltIn) (a : Answer) (s : Store) → f ≡ built_in.Missing → is_none s.current ≡ true → a ≡ misses_entry s.literals s
    → a ≡ built_in_run job f s
unfolding built_in_run
rule_broken job f a s e n h = h ∙ without s.current n ∙ ap (λ f. built_in_run job f s) (sym e)
  where
    without : (current : Option ℕ) → is_none current ≡ true → misses_entry s.literals s ≡ runs_missing current s
    without None n = refl
    without (Some entry) n = absurd (cc)
