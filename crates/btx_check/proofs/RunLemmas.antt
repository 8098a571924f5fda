-- Executions in the form in which the code meets them.
use Rattle.std.proofs.Common.{◌≡◌, ℕ, zero, suc, ◌+◌, ◌<◌, ℤ, List, [], ◌∷◌, ◌++◌, length, Option, Bool, true, false, cond, take, drop, drop-cons, add-one}
use Rattle.std.proofs.Common.{Result, Ok, Err, get_or, refl, sym, ap, subst, ◌∙◌, arith, inl, inr}
use Rattle.std.proofs.lemmas.List.{take_more}
use Rattle.std.specs.Prelude.{◌⊎◌, slice_index_or}
use Rattle.std.specs.Result.{IfOk}
use Rattle.std.specs.declared.alloc.AllocError.{AllocError}
use Rattle.btx_bst.specs.language.Style.{Style}
use Rattle.btx_bst.specs.declared.built_in.BuiltIn.TheVariants as built_in
use Rattle.btx_bst.specs.declared.callee.Callee.{Callee}
use Rattle.btx_bst.specs.declared.callee.Callee.TheVariants as callee
use Rattle.btx_bst.specs.declared.token.Token.{Token}
use Rattle.btx_bst.specs.declared.token.Token.TheVariants as token
use Rattle.btx_stack.specs.declared.literal.Literal.TheVariants.{Integer}
use Rattle.btx_step.specs.language.Jobs.{Job}
use Rattle.btx_step.specs.language.Stores.{Store}
use Rattle.btx_step.specs.language.Control.{is_positive, tested}
use Rattle.btx_machine.specs.language.MeaningBySteps.{act, in_turn}
use Rattle.btx_check.specs.declared.description.Value.{Value}
use Rattle.btx_check.specs.declared.description.Value.TheVariants as value
use Rattle.btx_check.specs.declared.description.Upper.{Upper}
use Rattle.btx_check.specs.Calm.{CalmAct, CalmInTurn}
use Rattle.btx_check.specs.Descriptions.{Is}
use Rattle.btx_check.specs.States.{Abstract, In, Among, knowing, with_stack}
use Rattle.btx_check.specs.Inclusion.{Sub, Into, Within, IsImpossible}
use Rattle.btx_check.specs.Bounds.{Splits}
use Rattle.btx_check.specs.Running.{RunsFrom, BodyRuns, TurnsTo, RuleNow}
use Rattle.btx_check.specs.Answers.{Ruled, Stepped, Reached, Added, TopIs, TwoAre, ThreeAre, TurnedInto, Looped}
use Rattle.btx_check.proofs.AddLemmas.{sub_same, sub_then}
use Rattle.btx_check.proofs.Covering.{passes_sub, rule_runs, body_none, body_next, user_runs, one_of}
use Rattle.btx_check.proofs.Choices.{if_runs, while_runs, turned}
use Rattle.btx_check.proofs.Later.{later}

pub rest_into : (a b : Abstract) (f : Abstract → Abstract) (to : List Abstract) → b ≡ with_stack b.stack a → Into (f b) to → Into (f (with_stack b.stack a)) to
rest_into a b f to e h = subst (λ (x : Abstract). Into (f x) to) e h

pub two_are : (a m b : Abstract) (j i : ℕ) (d c : Value) → TopIs a j d m → TopIs m i c b → TwoAre a j i d c b
two_are a m b j i d c s t =
    record {
      stack = s.stack ∙ ap (λ (is : List ℕ). j ∷ is) t.stack;
      rest = t.rest ∙ ap (λ (x : Abstract). with_stack b.stack x) s.rest;
      first = s.known;
      second = subst (λ (vs : List Value). get_or vs i value.Any ≡ c) (ap (λ (x : Abstract). x.values) s.rest) t.known;
      room = s.room;
    }

pub three_are : (a m b : Abstract) (k j i : ℕ) (e d c : Value) → TwoAre a k j e d m → TopIs m i c b → ThreeAre a k j i e d c b
three_are a m b k j i e d c s t =
    record {
      stack = s.stack ∙ ap (λ (is : List ℕ). k ∷ j ∷ is) t.stack;
      rest = t.rest ∙ ap (λ (x : Abstract). with_stack b.stack x) s.rest;
      first = s.first;
      second = s.second;
      third = subst (λ (vs : List Value). get_or vs i value.Any ≡ c) (ap (λ (x : Abstract). x.values) s.rest) t.known;
      room = s.room;
    }

pub runs_sub : (style : Style) (allowed : List ℕ) (t : Token) (xs : List Abstract) (r w : ℕ) (ys zs : List Abstract) → RunsFrom style allowed t xs r w ys
    → Sub ys zs → RunsFrom style allowed t xs r w zs
runs_sub style allowed t xs r w ys zs h g job of n m b run left s i f l1 l2 l3 =
    passes_sub job m ys zs (CalmAct job n t b run left s) (act job n t b run left s) g (h job of n m b run left s i f l1 l2 l3)

pub rule_ran : (style : Style) (allowed : List ℕ) (f : Callee) (a : Abstract) (r w : ℕ) (old new : List Abstract) → Ruled f a old new
    → Stepped style allowed (token.Run f) (a ∷ []) r w old new
rule_ran style allowed f a r w old new h = record { steps = rule_runs style allowed f a r w new h.rule; sub = h.sub }

pub impossible_ran : (style : Style) (allowed : List ℕ) (t : Token) (a : Abstract) (r w : ℕ) (old : List Abstract) → IsImpossible a
    → Stepped style allowed t (a ∷ []) r w old old
impossible_ran style allowed t a r w old h =
    record { steps = λ job of n m b run left s i f l1 l2 l3. absurd (h.impossible job left s.store (one_of job left a s.store i)); sub = sub_same old }

pub stepped_none : (style : Style) (allowed : List ℕ) (t : Token) (r w : ℕ) (old : List Abstract) → Stepped style allowed t [] r w old old
stepped_none style allowed t r w old = record { steps = λ job of n m b run left s i f l1 l2 l3. absurd i; sub = sub_same old }

among_parts : (xs : List Abstract) (a : Abstract) (job : Job) (left : ℕ) (s : Store) → Among job left (xs ++ a ∷ []) s → Among job left xs s ⊎ In job left a s
among_parts [] a job left s (inl h) = inr h
among_parts [] a job left s (inr h) = absurd h
among_parts (x ∷ xs) a job left s (inl h) = inl (inl h)
among_parts (x ∷ xs) a job left s (inr h) = elim (among_parts xs a job left s h) [ inl k ↦ inl (inr k) | inr k ↦ inr k ]

pub stepped_more : (style : Style) (allowed : List ℕ) (t : Token) (xs : List Abstract) (a : Abstract) (r w : ℕ) (old mid new : List Abstract)
    → Stepped style allowed t xs r w old mid → Stepped style allowed t (a ∷ []) r w mid new
    → Stepped style allowed t (xs ++ a ∷ []) r w old new
stepped_more style allowed t xs a r w old mid new h g = record {
  steps = λ job of n m b run left s i f l1 l2 l3. elim (among_parts xs a job left s.store i) [
    | inl k ↦ passes_sub job m mid new (CalmAct job n t b run left s) (act job n t b run left s) g.sub (h.steps job of n m b run left s k f l1 l2 l3)
    | inr k ↦ g.steps job of n m b run left s (inl k) f l1 l2 l3
  ];
  sub = sub_then old mid new h.sub g.sub;
}

pub taking : (xs : List Abstract) (k : ℕ) (a : Abstract) → k < length xs → a ≡ get_or xs k a → take (k + 1) xs ≡ take k xs ++ a ∷ []
taking xs k a l e = take_more xs k a l ∙ ap (λ (x : Abstract). take k xs ++ x ∷ []) (sym e)

pub stepped_step : (style : Style) (allowed : List ℕ) (t : Token) (r w : ℕ) (xs : List Abstract) (k : ℕ) (a : Abstract) (old mid new : List Abstract)
    → k < length xs → a ≡ get_or xs k a → Stepped style allowed t (take k xs) r w old mid
    → Stepped style allowed t (a ∷ []) r w mid new → Stepped style allowed t (take (k + 1) xs) r w old new
stepped_step style allowed t r w xs k a old mid new l e h g = subst (λ (ys : List Abstract). Stepped style allowed t ys r w old new) (sym (taking xs k a l e))
    (stepped_more style allowed t (take k xs) a r w old mid new h g)

pub copied_step : (xs : List Abstract) (k : ℕ) (a b : Abstract) (old new : List Abstract) → k < length xs → a ≡ get_or xs k a → old ≡ take k xs
    → new ≡ old ++ b ∷ [] → b ≡ a → new ≡ take (k + 1) xs
copied_step xs k a b old new l e h n q =
    n ∙ (ap (λ (ys : List Abstract). ys ++ b ∷ []) h ∙ (ap (λ (x : Abstract). take k xs ++ x ∷ []) q ∙ sym (taking xs k a l e)))

-- ---- the tokens of a body

pub reached_init : (style : Style) (allowed : List ℕ) (body : List Token) (a : Abstract) (r w : ℕ) (xs : List Abstract) → xs ≡ a ∷ []
    → Reached style allowed body body a r w xs
reached_init style allowed body a r w xs e = subst (λ (ys : List Abstract). Reached style allowed body body a r w ys) (sym e) (record { reached = λ zs h. h })

pub reached_step : (style : Style) (allowed : List ℕ) (body : List Token) (k : ℕ) (d : Token) (a : Abstract) (r w : ℕ) (xs zs old ys : List Abstract)
    → k < length body → zs ≡ xs → Reached style allowed body (drop k body) a r w xs
    → Stepped style allowed (get_or body k d) zs r w old ys → Reached style allowed body (drop (k + 1) body) a r w ys
reached_step style allowed body k d a r w xs zs old ys l e h g =
    let e2 : drop k body ≡ get_or body k d ∷ drop (k + 1) body = rw add-one (drop-cons body k d l) in
    let h2 = subst (λ (ts : List Token). Reached style allowed body ts a r w xs) e2 h in
    let g2 = subst (λ (us : List Abstract). Stepped style allowed (get_or body k d) us r w old ys) e g in
    record { reached = λ vs z. h2.reached vs (body_next style allowed (get_or body k d) (drop (k + 1) body) xs ys vs r w g2.steps z) }

pub user_ran_of : (style : Style) (allowed : List ℕ) (i : ℕ) (body rest : List Token) (a : Abstract) (r w deep : ℕ) (xs old new : List Abstract) → deep ≡ suc r
    → rest ≡ [] → body ≡ slice_index_or style.bodies i []
    → Reached style allowed body rest a r w xs → Sub xs new → Sub old new → Stepped style allowed (token.Run (callee.User i)) (a ∷ []) deep w old new
user_ran_of style allowed i body rest a r w deep xs old new ed er e h g k =
    let h2 = subst (λ (ts : List Token). Reached style allowed body ts a r w xs) er h in
    subst (λ (d : ℕ). Stepped style allowed (token.Run (callee.User i)) (a ∷ []) d w old new) (sym ed)
    (record {
      steps = user_runs style allowed i (a ∷ []) r w new
          (subst (λ (ts : List Token). BodyRuns style allowed ts (a ∷ []) r w new) e (body_sub (h2.reached xs (body_none style allowed xs r w))));
      sub = k;
    })
  where
    body_sub : BodyRuns style allowed body (a ∷ []) r w xs → BodyRuns style allowed body (a ∷ []) r w new
    body_sub z job of n m b run left s i f l1 l2 l3 =
        passes_sub job m xs new (CalmInTurn (act job n) (CalmAct job n) body b run left s) (in_turn (act job n) body b run left s) g
        (z job of n m b run left s i f l1 l2 l3)

-- ---- choices and loops

pub if_ran_of : (style : Style) (allowed : List ℕ) (a b y n : Abstract) (k j i : ℕ) (f g : Callee) (lo : Option ℤ) (hi : Upper) (p q s c d : Value) (r w : ℕ)
    (old mid new : List Abstract) → ThreeAre a k j i p q s b
    → p ≡ value.Function g → q ≡ value.Function f → s ≡ value.Integer lo hi → y ≡ knowing i c b → n ≡ knowing i d b
    → Splits (value.Integer lo hi) c d → Stepped style allowed (token.Run f) (y ∷ []) r w old mid → Stepped style allowed (token.Run g) (n ∷ []) r w mid new
    → Stepped style allowed (token.Run (callee.BuiltIn built_in.If)) (a ∷ []) r w old new
if_ran_of style allowed a b y n k j i f g lo hi p q s c d r w old mid new t ep eq es ey en splits u v = record {
  steps = if_runs style allowed a k j i b.stack f g lo hi c d r w new t.stack (t.first ∙ ep) (t.second ∙ eq) (t.third ∙ es) splits
      (runs_at f y c ey (runs_sub style allowed (token.Run f) (y ∷ []) r w mid new u.steps v.sub)) (runs_at g n d en v.steps);
  sub = sub_then old mid new u.sub v.sub;
}
  where
    runs_at : (f : Callee) (y : Abstract) (c : Value) → y ≡ knowing i c b → RunsFrom style allowed (token.Run f) (y ∷ []) r w new
        → RunsFrom style allowed (token.Run f) (knowing i c (with_stack b.stack a) ∷ []) r w new
    runs_at f y c e h = subst (λ (x : Abstract). RunsFrom style allowed (token.Run f) (knowing i c x ∷ []) r w new) t.rest
        (subst (λ (x : Abstract). RunsFrom style allowed (token.Run f) (x ∷ []) r w new) e h)

pub while_ran_of : (style : Style) (allowed : List ℕ) (a b : Abstract) (j i : ℕ) (f g : Callee) (p q : Value) (r w loops : ℕ) (old new : List Abstract)
    → TwoAre a j i p q b → p ≡ value.Function g → q ≡ value.Function f → loops ≡ suc w
    → Looped style allowed b f g r w old new → Stepped style allowed (token.Run (callee.BuiltIn built_in.While)) (a ∷ []) r loops old new
while_ran_of style allowed a b j i f g p q r w loops old new t ep eq e h =
    subst (λ (l : ℕ). Stepped style allowed (token.Run (callee.BuiltIn built_in.While)) (a ∷ []) r l old new) (sym e)
    (record {
      steps = runs_sub style allowed (token.Run (callee.BuiltIn built_in.While)) (a ∷ []) r (suc w) h.ends new
          (while_runs style allowed a j i b.stack f g r w h.heads h.tests h.again h.ends t.stack (t.first ∙ ep) (t.second ∙ eq)
          (rest_into a b (λ x. x) h.heads t.rest h.into) h.closed) h.ends_sub;
      sub = h.sub;
    })

pub looped : (style : Style) (allowed : List ℕ) (b : Abstract) (f g : Callee) (r w : ℕ) (heads tests again ends bodies t0 b0 a0 e0 old new : List Abstract)
    → Into b heads → Stepped style allowed (token.Run f) heads r w t0 tests
    → TurnedInto tests a0 e0 again ends → Stepped style allowed (token.Run g) again r w b0 bodies → Sub bodies heads → Sub ends new → Sub old new
    → Looped style allowed b f g r w old new
looped style allowed b f g r w heads tests again ends bodies t0 b0 a0 e0 old new i p t q k x y = record {
  heads = heads;
  tests = tests;
  again = again;
  ends = ends;
  into = i;
  ends_sub = x;
  sub = y;
  closed = record { tested = p.steps; turned = t.turned; bodies = runs_sub style allowed (token.Run g) again r w bodies heads q.steps k };
}

-- ---- after tests

pub turned_none : (again ends : List Abstract) → TurnedInto [] again ends again ends
turned_none again ends = record {
  turned = record {
    calm = λ job left s h. absurd h;
    deepest = λ job left s h. absurd h;
    sized = λ job left s h. absurd h;
    goes = λ job left s h. absurd h;
  };
  again_sub = sub_same again;
  ends_sub = sub_same ends;
}

pub turn_one : (a b : Abstract) (i : ℕ) (lo : Option ℤ) (hi : Upper) (c d : Value) (again ends again' ends' : List Abstract) → TopIs a i (value.Integer lo hi) b
    → Splits (value.Integer lo hi) c d
    → Added (knowing i c b) again again' → Added (knowing i d b) ends ends' → TurnedInto (a ∷ []) again ends again' ends'
turn_one a b i lo hi c d again ends again' ends' t splits x y = record {
  turned = turned a i b.stack lo hi c d again' ends' t.stack t.known splits (rest_into a b (λ x. knowing i c x) again' t.rest x.into)
      (rest_into a b (λ x. knowing i d x) ends' t.rest y.into);
  again_sub = x.sub;
  ends_sub = y.sub;
}

turns_sub : (job : Job) (left : ℕ) (xs ys xs' ys' : List Abstract) (yes : Bool) (s : Store) → Sub xs xs' → Sub ys ys' → TurnsTo job left xs ys yes s
    → TurnsTo job left xs' ys' yes s
turns_sub job left xs ys xs' ys' true s f g h = f job left s h
turns_sub job left xs ys xs' ys' false s f g h = g job left s h

pub turned_more : (xs : List Abstract) (a : Abstract) (x0 y0 x1 y1 x2 y2 : List Abstract) → TurnedInto xs x0 y0 x1 y1 → TurnedInto (a ∷ []) x1 y1 x2 y2
    → TurnedInto (xs ++ a ∷ []) x0 y0 x2 y2
turned_more xs a x0 y0 x1 y1 x2 y2 h g = record {
  turned = record {
    calm = λ job left s i. elim (among_parts xs a job left s i) [ inl k ↦ h.turned.calm job left s k | inr k ↦ g.turned.calm job left s (inl k) ];
    deepest = λ job left s i. elim (among_parts xs a job left s i) [ inl k ↦ h.turned.deepest job left s k | inr k ↦ g.turned.deepest job left s (inl k) ];
    sized = λ job left s i. elim (among_parts xs a job left s i) [ inl k ↦ h.turned.sized job left s k | inr k ↦ g.turned.sized job left s (inl k) ];
    goes = λ job left s i. elim (among_parts xs a job left s i) [
      | inl k ↦ turns_sub job left x1 y1 x2 y2 (tested s.literals s).again (tested s.literals s).store g.again_sub g.ends_sub (h.turned.goes job left s k)
      | inr k ↦ g.turned.goes job left s (inl k)
    ];
  };
  again_sub = sub_then x0 x1 x2 h.again_sub g.again_sub;
  ends_sub = sub_then y0 y1 y2 h.ends_sub g.ends_sub;
}

-- ---- inclusion

pub into_one : (xs : List Abstract) (k : ℕ) (a d : Abstract) → k < length xs → Within a (get_or xs k d) → Into a xs
into_one [] k a d l h = absurd (omega (arith, l))
into_one (x ∷ xs) zero a d l h = record { into = λ job left s i. inl (h.within job left s i) }
into_one (x ∷ xs) (suc k) a d l h = record { into = λ job left s i. inr ((into_one xs k a d (omega (arith, l)) h).into job left s i) }

pub sub_none : (zs : List Abstract) → Sub [] zs
sub_none zs job left s h = absurd h

pub sub_more : (xs : List Abstract) (a : Abstract) (zs : List Abstract) → Sub xs zs → Into a zs → Sub (xs ++ a ∷ []) zs
sub_more xs a zs h g job left s i = elim (among_parts xs a job left s i) [ inl k ↦ h job left s k | inr k ↦ g.into job left s k ]

-- ---- steps of loops

pub sub_step : (xs : List Abstract) (k : ℕ) (a : Abstract) (old mid new : List Abstract) → k < length xs → a ≡ get_or xs k a → Sub (take k xs) mid → Sub mid new
    → Into a new → Sub (take (k + 1) xs) new
sub_step xs k a old mid new l e h g i = subst (λ (ys : List Abstract). Sub ys new) (sym (taking xs k a l e))
    (sub_more (take k xs) a new (sub_then (take k xs) mid new h g) i)

pub turned_step : (xs : List Abstract) (k : ℕ) (a : Abstract) (x0 y0 x1 y1 x2 y2 : List Abstract) → k < length xs → a ≡ get_or xs k a
    → TurnedInto (take k xs) x0 y0 x1 y1 → TurnedInto (a ∷ []) x1 y1 x2 y2 → TurnedInto (take (k + 1) xs) x0 y0 x2 y2
turned_step xs k a x0 y0 x1 y1 x2 y2 l e h g = subst (λ (ys : List Abstract). TurnedInto ys x0 y0 x2 y2) (sym (taking xs k a l e))
    (turned_more (take k xs) a x0 y0 x1 y1 x2 y2 h g)

pub into_read : (xs : List Abstract) (k : ℕ) (a b : Abstract) → k < length xs → b ≡ get_or xs k b → Within a b → Into a xs
into_read xs k a b l e h = into_one xs k a b l (subst (λ (x : Abstract). Within a x) e h)

pub top_at : (a b : Abstract) (i : ℕ) (d d' : Value) → TopIs a i d b → d ≡ d' → TopIs a i d' b
top_at a b i d d' t e = record { stack = t.stack; rest = t.rest; known = t.known ∙ e; room = t.room }

pub splits_of : (e c d : Value) → ((left : ℕ) (n : ℤ) → Is left e (Integer n) → is_positive n ≡ true → Is left c (Integer n))
    → ((left : ℕ) (n : ℤ) → Is left e (Integer n) → is_positive n ≡ false → Is left d (Integer n)) → Splits e c d
splits_of e c d f g left n o = cond_by (is_positive n) refl
  where
    cond_by : (b : Bool) → is_positive n ≡ b → Is left (cond b c d) (Integer n)
    cond_by true q = f left n o q
    cond_by false q = g left n o q

pub ok_map : (r : Result Bool AllocError) (P Q : Bool → Type 0) → ((b : Bool) → P b → Q b) → IfOk r P → IfOk r Q
ok_map (Ok b) P Q f h = f b h
ok_map (Err e) P Q f h = h

pub push_one : (xs ys : List Abstract) (x a : Abstract) → ys ≡ xs ++ x ∷ [] → xs ≡ [] → x ≡ a → ys ≡ a ∷ []
push_one xs ys x a e f g = e ∙ (ap (λ (zs : List Abstract). zs ++ x ∷ []) f ∙ ap (λ (z : Abstract). z ∷ []) g)

pub turned_at : (xs ys x0 y0 x1 y1 : List Abstract) → xs ≡ ys → TurnedInto xs x0 y0 x1 y1 → TurnedInto ys x0 y0 x1 y1
turned_at xs ys x0 y0 x1 y1 e h = subst (λ (zs : List Abstract). TurnedInto zs x0 y0 x1 y1) e h

pub sub_at : (xs ys zs ws : List Abstract) → xs ≡ ys → zs ≡ ws → Sub xs zs → Sub ys ws
sub_at xs ys zs ws e f h = subst (λ (us : List Abstract). Sub us ws) e (subst (λ (us : List Abstract). Sub xs us) f h)

pub into_at : (a : Abstract) (xs ys : List Abstract) → xs ≡ ys → Into a xs → Into a ys
into_at a xs ys e h = subst (λ (zs : List Abstract). Into a zs) e h

pub stepped_at : (style : Style) (allowed : List ℕ) (t : Token) (xs ys : List Abstract) (r w : ℕ) (old new : List Abstract) → xs ≡ ys
    → Stepped style allowed t xs r w old new → Stepped style allowed t ys r w old new
stepped_at style allowed t xs ys r w old new e h = subst (λ (zs : List Abstract). Stepped style allowed t zs r w old new) e h

-- the only description of a list
pub stepped_only : (style : Style) (allowed : List ℕ) (t : Token) (xs ys : List Abstract) (a : Abstract) (r w : ℕ) (new : List Abstract) → xs ≡ ys ++ a ∷ []
    → length xs ≡ 1 → Stepped style allowed t (a ∷ []) r w ys new → Stepped style allowed t xs r w [] new
stepped_only style allowed t xs [] a r w new e l h = subst (λ (zs : List Abstract). Stepped style allowed t zs r w [] new) (sym e) h
stepped_only style allowed t xs (y ∷ []) a r w new e l h = let n = ap {B = ℕ} length e in absurd (omega (arith, n, l))
stepped_only style allowed t xs (y ∷ z ∷ ys) a r w new e l h = let n = ap {B = ℕ} length e in absurd (omega (arith, n, l))

-- a rule that needs no step less, in the form in which the code meets it
pub ruled : (f : Callee) (a : Abstract) (old new : List Abstract) → RuleNow f a new → Sub old new → Ruled f a old new
ruled f a old new rule sub = record { rule = later f a new rule; sub = sub }
