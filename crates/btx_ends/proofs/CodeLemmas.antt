-- What the checker's calls cite.
use Rattle.std.proofs.Common.{◌≡◌, ℕ, zero, suc, ◌+◌, ◌-◌, ◌≤◌, ◌<◌, ◌⊎◌, inl, inr, Bool, true, false, ◌||◌, nat_eq, List, [], ◌∷◌, ◌++◌, length, Option, None, Some}
use Rattle.std.proofs.Common.{take, drop, drop-cons, add-one, get_or, refl, arith, sym, ap, subst, ◌∙◌, true≢false}
use Rattle.std.specs.Prelude.{slice_index_or, IfSome}
use Rattle.std.proofs.lemmas.Bool.{eqb-true}
use Rattle.std.proofs.lemmas.List.{take-append-drop, take_all, take_more, get_or_past}
use Rattle.btx_bst.specs.declared.built_in.BuiltIn.TheVariants as built_in
use Rattle.btx_bst.specs.declared.callee.Callee.{Callee}
use Rattle.btx_bst.specs.declared.callee.Callee.TheVariants as callee
use Rattle.btx_bst.specs.declared.token.Token.{Token}
use Rattle.btx_bst.specs.declared.item.Item.{Item as Written}
use Rattle.btx_bst.specs.language.Items.{Item}
use Rattle.btx_bst.specs.language.Style.{Style}
use Rattle.btx_bst.specs.refinement.Views.{item_view, items_view}
use Rattle.btx_ends.specs.Ends.{is_among}
use Rattle.btx_ends.specs.declared.known.Known.{Known}
use Rattle.btx_ends.specs.declared.known.Known.TheVariants as known
use Rattle.btx_ends.specs.Certificates.{Claims, ItemWithin, ItemsWithin, CalleeWithin, DearerWithin, StepWithin, TokensWithin, BodyWithin, BodiesWithin, OwnWithin}
use Rattle.btx_ends.specs.declared.measures.Measure.{Measure}
use Rattle.btx_ends.specs.declared.measures.Effect.{Effect}
use Rattle.btx_ends.specs.declared.measures.Effect.TheVariants as effect
use Rattle.btx_ends.specs.declared.measures.Kind.{Kind}
use Rattle.btx_ends.specs.declared.measures.Kind.TheVariants as kind
use Rattle.btx_ends.specs.declared.measures.Tops.{Tops}
use Rattle.btx_ends.specs.declared.measures.Walk.{Walk}
use Rattle.btx_ends.specs.Shortening.{body_of, nothing_seen, tops_after, StepThrough, TokensThrough, EffectHolds, EffectsHold, KindHolds, KindsHold, kinds_by, effects_by, Tells, TellsBoth}
use Rattle.btx_ends.specs.Certificates.{EndHolds, EndsHold, LessensBy, ShortenHolds, ShortensHold, FlagsHold, measures_by}
use Rattle.btx_ends.specs.Certificates.{PartHolds, PartsHold, MovesBy, MoveHolds, AllMove}
use Rattle.btx_ends.specs.Certificates.{LimitHolds, LimitsHold, RaisesBy, RaiseHolds, AllRaise}
use Rattle.btx_ends.specs.declared.measures.Climb.{Climb}
use Rattle.btx_ends.specs.Walking.{Moves, MovesHold}
use Rattle.btx_ends.specs.Certificates.{TestHolds, TestsHold, CountHolds, CountsHold, top_after, below_after}
use Rattle.btx_ends.specs.Keeping.{TokensKeep, StepKeeps, BodiesKeep, BodyCounts, said_by, pushed_after, pushed_below}

-- what takes at most `less` steps takes at most more
pub callee_more : (claims : Claims) (less more : ℕ) (f : Callee) → CalleeWithin claims less f → less ≤ more → CalleeWithin claims more f
callee_more claims less more (callee.BuiltIn built_in.If) h l = absurd h
callee_more claims less more (callee.BuiltIn built_in.While) h l = absurd h
callee_more claims less more (callee.BuiltIn built_in.Assign) h l = (h.0, (let e = h.1 in omega (arith, e, l)))
callee_more claims less more (callee.BuiltIn built_in.CallType) h l = omega (arith, h, l)
callee_more claims less more (callee.BuiltIn f) h l = omega (arith, h, l)
callee_more claims less more (callee.User number) h l = (h.0, (let e = h.1 in omega (arith, e, l)))
callee_more claims less more f h l = omega (arith, h, l)

-- the dearer of two, and a step
pub dearer : (claims : Claims) (first second most : ℕ) (f g : Callee) → CalleeWithin claims first f → CalleeWithin claims second g → first ≤ most
    → second ≤ most → DearerWithin claims (most + 1) f g
dearer claims first second most f g h k l m =
    (most, (omega arith, (callee_more claims first most f h l, callee_more claims second most g k m)))

-- after the first tokens of a body: whatever the rest of it takes, the whole takes `cost` more
pub record Reached (claims : Claims) (body rest : List Token) (cost : ℕ) (top below : Known) : Type 0 where
  pub reached : (others : ℕ) → TokensWithin claims top below rest others → TokensWithin claims known.Anything known.Anything body (cost + others)

pub reached_init : (claims : Claims) (body : List Token) → Reached claims body body 0 known.Anything known.Anything
reached_init claims body = record {
  reached = λ others w. let e : others ≡ 0 + others = omega arith in subst (λ n. TokensWithin claims known.Anything known.Anything body n) e w;
}

pub reached_step : (claims : Claims) (body : List Token) (k : ℕ) (d : Token) (top below top' below' : Known) (cost step cost' : ℕ)
    → k < length body → Reached claims body (drop k body) cost top below → StepWithin claims top below (get_or body k d) step
    → top' ≡ top_after claims top below (get_or body k d) → below' ≡ below_after top (get_or body k d) → cost' ≡ cost + step
    → Reached claims body (drop (k + 1) body) cost' top' below'
reached_step claims body k d top below top' below' cost step cost' l h g et eb ec =
    let e2 : drop k body ≡ get_or body k d ∷ drop (k + 1) body = rw add-one (drop-cons body k d l) in
    let h2 = subst (λ (ts : List Token). Reached claims body ts cost top below) e2 h in
    let at : Reached claims body (drop (k + 1) body) cost' (top_after claims top below (get_or body k d)) (below_after top (get_or body k d)) = record {
      reached = λ others w.
          let e : cost + (step + others) ≡ cost' + others = omega (arith, ec) in
          subst (λ n. TokensWithin claims known.Anything known.Anything body n) e (h2.reached (step + others) (step, (others, (g, (omega arith, w)))));
    } in
    subst (λ (o : Known). Reached claims body (drop (k + 1) body) cost' o below') (sym et)
    (subst (λ (o : Known). Reached claims body (drop (k + 1) body) cost' (top_after claims top below (get_or body k d)) o) (sym eb) at)

pub reached_end : (claims : Claims) (body rest : List Token) (cost : ℕ) (top below : Known) → rest ≡ []
    → Reached claims body rest cost top below → TokensWithin claims known.Anything known.Anything body cost
reached_end claims body rest cost top below e h =
    let h2 = subst (λ (ts : List Token). Reached claims body ts cost top below) e h in
    let z : cost + 0 ≡ cost = omega arith in
    subst (λ n. TokensWithin claims known.Anything known.Anything body n) z (h2.reached 0 tt)

-- after the first tokens of a body that doesn't raise a variable: if the rest of it doesn't, nor does the whole
pub record KeptSoFar (one : Bool) (keeps : ℕ → Bool) (v : ℕ) (body rest : List Token) (top below : Option Token) : Type 0 where
  pub so_far : TokensKeep one keeps v top below rest → TokensKeep one keeps v None None body

pub kept_init : (one : Bool) (keeps : ℕ → Bool) (v : ℕ) (body : List Token) → KeptSoFar one keeps v body body None None
kept_init one keeps v body = record { so_far = λ w. w }

pub kept_step : (one : Bool) (keeps : ℕ → Bool) (v : ℕ) (body : List Token) (k : ℕ) (d : Token) (top below top' below' : Option Token) → k < length body
    → KeptSoFar one keeps v body (drop k body) top below → StepKeeps one keeps v top below (get_or body k d) → top' ≡ pushed_after (get_or body k d)
    → below' ≡ pushed_below top (get_or body k d) → KeptSoFar one keeps v body (drop (k + 1) body) top' below'
kept_step one keeps v body k d top below top' below' l h g et eb =
    let e2 : drop k body ≡ get_or body k d ∷ drop (k + 1) body = rw add-one (drop-cons body k d l) in
    let h2 = subst (λ (ts : List Token). KeptSoFar one keeps v body ts top below) e2 h in
    let at : KeptSoFar one keeps v body (drop (k + 1) body) (pushed_after (get_or body k d)) (pushed_below top (get_or body k d)) =
    record { so_far = λ w. h2.so_far (g, w) } in
    subst (λ (o : Option Token). KeptSoFar one keeps v body (drop (k + 1) body) o below') (sym et)
    (subst (λ (o : Option Token). KeptSoFar one keeps v body (drop (k + 1) body) (pushed_after (get_or body k d)) o) (sym eb) at)

pub kept_end : (one : Bool) (keeps : ℕ → Bool) (v : ℕ) (body rest : List Token) (top below : Option Token) → rest ≡ []
    → KeptSoFar one keeps v body rest top below → TokensKeep one keeps v None None body
kept_end one keeps v body rest top below e h = (subst (λ (ts : List Token). KeptSoFar one keeps v body ts top below) e h).so_far tt

-- ---- items

-- after the first items of a style: whatever the rest of them takes, all of them take `once` and `each` more
pub record ItemsReached (claims : Claims) (items rest : List Item) (once each : ℕ) : Type 0 where
  pub reached : (o e : ℕ) → ItemsWithin claims rest o e → ItemsWithin claims items (once + o) (each + e)

pub items_init : (claims : Claims) (items : List Item) → ItemsReached claims items items 0 0
items_init claims items = record {
  reached = λ o e w.
      let p : o ≡ 0 + o = omega arith in
      let q : e ≡ 0 + e = omega arith in
      subst (λ n. ItemsWithin claims items n (0 + e)) p (subst (λ n. ItemsWithin claims items o n) q w);
}

pub items_step : (claims : Claims) (items : List Written) (k : ℕ) (d : Written) (once each o e once' each' : ℕ) → k < length items
    → ItemsReached claims (items_view items) (items_view (drop k items)) once each → ItemWithin claims (item_view (get_or items k d)) o e
    → once' ≡ once + o → each' ≡ each + e → ItemsReached claims (items_view items) (items_view (drop (k + 1) items)) once' each'
items_step claims items k d once each o e once' each' l h w eo ee =
    let split : drop k items ≡ get_or items k d ∷ drop (k + 1) items = rw add-one (drop-cons items k d l) in
    let h2 = subst (λ (ys : List Item). ItemsReached claims (items_view items) ys once each) (ap items_view split) h in
    record {
      reached = λ m n v.
          let p : once + (o + m) ≡ once' + m = omega (arith, eo) in
          let q : each + (e + n) ≡ each' + n = omega (arith, ee) in
          subst (λ a. ItemsWithin claims (items_view items) a (each' + n)) p
          (subst (λ a. ItemsWithin claims (items_view items) (once + (o + m)) a) q
          (h2.reached (o + m) (e + n) (o, (e, (m, (n, (w, (omega arith, (omega arith, v)))))))));
    }

pub items_end : (claims : Claims) (items rest : List Item) (once each : ℕ) → rest ≡ [] → ItemsReached claims items rest once each
    → ItemsWithin claims items once each
items_end claims items rest once each e h =
    let h2 = subst (λ (ys : List Item). ItemsReached claims items ys once each) e h in
    let p : once + 0 ≡ once = omega arith in
    let q : each + 0 ≡ each = omega arith in
    subst (λ n. ItemsWithin claims items n each) p (subst (λ n. ItemsWithin claims items (once + 0) n) q (h2.reached 0 0 tt))

-- ---- claims

tokens_more : (claims : Claims) (top below : Known) (xs : List Token) (less more : ℕ) → TokensWithin claims top below xs less → less ≤ more
    → TokensWithin claims top below xs more
tokens_more claims top below [] less more w l = tt
tokens_more claims top below (x ∷ xs) less more w l = (w.0, (w.1.0, (w.1.1.0, (let e = w.1.1.1.0 in omega (arith, e, l), w.1.1.1.1))))

pub claim_holds : (claims : Claims) (body : List Token) (cost claim : ℕ) → TokensWithin claims known.Anything known.Anything body cost → cost < claim
    → BodyWithin claims body claim
claim_holds claims body cost zero w l = tt
claim_holds claims body cost (suc claim) w l = tokens_more claims known.Anything known.Anything body cost claim w (omega (arith, l))

before_or_at : (k n : ℕ) → k < n + 1 → (k < n) ⊎ (k ≡ n)
before_or_at zero zero l = inr refl
before_or_at zero (suc n) l = inl (omega arith)
before_or_at (suc k) zero l = absurd (omega (arith, l))
before_or_at (suc k) (suc n) l =
    elim (before_or_at k n (omega (arith, l))) [ inl m ↦ inl (omega (arith, m)) | inr e ↦ inr (ap suc e) ]

before_or_past : (k n : ℕ) → (k < n) ⊎ (n ≤ k)
before_or_past k zero = inr (omega arith)
before_or_past zero (suc n) = inl (omega arith)
before_or_past (suc k) (suc n) = elim (before_or_past k n) [ inl m ↦ inl (omega (arith, m)) | inr m ↦ inr (omega (arith, m)) ]

-- something holds of the first functions
abbrev pub FirstHold : (ℕ → Type 0) → ℕ → Type 0
FirstHold P n = (k : ℕ) → k < n → P k

pub first_more : (P : ℕ → Type 0) (n : ℕ) → FirstHold P n → P n → FirstHold P (n + 1)
first_more P n h w k l = by (before_or_at k n l)
  where
    by : (k < n) ⊎ (k ≡ n) → P k
    by (inl m) = h k m
    by (inr e) = subst P (sym e) w

pub all_hold : (P : ℕ → Type 0) (n : ℕ) → FirstHold P n → ((k : ℕ) → n ≤ k → P k) → (k : ℕ) → P k
all_hold P n h past k = by (before_or_past k n)
  where
    by : (k < n) ⊎ (n ≤ k) → P k
    by (inl m) = h k m
    by (inr m) = past k m

-- .. the claims on costs
abbrev pub CostHolds : Claims → Style → ℕ → Type 0
CostHolds claims style k = BodyWithin claims (slice_index_or style.bodies k []) (slice_index_or claims.costs k 0)

pub costs_more : (claims : Claims) (style : Style) (n : ℕ) (body : List Token) (claim : ℕ) → FirstHold (CostHolds claims style) n
    → body ≡ slice_index_or style.bodies n [] → claim ≡ slice_index_or claims.costs n 0 → BodyWithin claims body claim
    → FirstHold (CostHolds claims style) (n + 1)
costs_more claims style n body claim h eb ec w =
    first_more (CostHolds claims style) n h (subst (λ (xs : List Token). BodyWithin claims xs (slice_index_or claims.costs n 0)) eb (subst (BodyWithin claims body) ec w))

pub costs_all : (claims : Claims) (style : Style) (n : ℕ) → length claims.costs ≤ n → FirstHold (CostHolds claims style) n → BodiesWithin claims style
costs_all claims style n l h =
    all_hold (CostHolds claims style) n h
    (λ k m. subst (BodyWithin claims (slice_index_or style.bodies k [])) (sym (get_or_past claims.costs k 0 (omega (arith, l, m)))) tt)

-- .. the claims on tests
abbrev pub TestAt : List ℕ → Style → ℕ → Type 0
TestAt tests style k = TestHolds (slice_index_or tests k 0) (slice_index_or style.bodies k [])

pub tests_more : (tests : List ℕ) (style : Style) (n : ℕ) (body : List Token) (claim : ℕ) → FirstHold (TestAt tests style) n
    → body ≡ slice_index_or style.bodies n [] → claim ≡ slice_index_or tests n 0 → TestHolds claim body → FirstHold (TestAt tests style) (n + 1)
tests_more tests style n body claim h eb ec w =
    first_more (TestAt tests style) n h (subst (λ (xs : List Token). TestHolds (slice_index_or tests n 0) xs) eb (subst (λ c. TestHolds c body) ec w))

pub tests_all : (tests : List ℕ) (style : Style) (n : ℕ) → length tests ≤ n → FirstHold (TestAt tests style) n → TestsHold tests style
tests_all tests style n l h =
    all_hold (TestAt tests style) n h
    (λ k m. subst (λ c. TestHolds c (slice_index_or style.bodies k [])) (sym (get_or_past tests k 0 (omega (arith, l, m)))) tt)

-- .. the claims on counting down
abbrev pub CountAt : List ℕ → Style → ℕ → Type 0
CountAt counts style k = CountHolds style (slice_index_or counts k 0) (slice_index_or style.bodies k [])

pub counted : (style : Style) (claim : ℕ) (keeps : ℕ → Bool) (body : List Token) → (claim ≡ 0 → ⊥) → BodyCounts keeps (claim - 1) body
    → BodiesKeep true keeps (claim - 1) style → CountHolds style claim body
counted style zero keeps body h w k = absurd (h refl)
counted style (suc v) keeps body h w k =
    let e : suc v - 1 ≡ v = omega arith in
    (keeps, (subst (λ n. BodyCounts keeps n body) e w, subst (λ n. BodiesKeep true keeps n style) e k))

pub counts_more : (counts : List ℕ) (style : Style) (n : ℕ) (body : List Token) (claim : ℕ) → FirstHold (CountAt counts style) n
    → body ≡ slice_index_or style.bodies n [] → claim ≡ slice_index_or counts n 0 → CountHolds style claim body → FirstHold (CountAt counts style) (n + 1)
counts_more counts style n body claim h eb ec w =
    first_more (CountAt counts style) n h
    (subst (λ (xs : List Token). CountHolds style (slice_index_or counts n 0) xs) eb (subst (λ c. CountHolds style c body) ec w))

pub counts_all : (counts : List ℕ) (style : Style) (n : ℕ) → length counts ≤ n → FirstHold (CountAt counts style) n → CountsHold counts style
counts_all counts style n l h =
    all_hold (CountAt counts style) n h
    (λ k m. subst (λ c. CountHolds style c (slice_index_or style.bodies k [])) (sym (get_or_past counts k 0 (omega (arith, l, m)))) tt)

-- .. what is said of functions that keep a variable
abbrev pub KeepsAt : List Bool → ℕ → Style → ℕ → Type 0
KeepsAt keeps v style k = slice_index_or keeps k false ≡ true → TokensKeep true (said_by keeps) v None None (slice_index_or style.bodies k [])

pub keeps_more : (keeps : List Bool) (v : ℕ) (style : Style) (n : ℕ) → FirstHold (KeepsAt keeps v style) n → KeepsAt keeps v style n
    → FirstHold (KeepsAt keeps v style) (n + 1)
keeps_more keeps v style n h w = first_more (KeepsAt keeps v style) n h w

pub keeps_all : (keeps : List Bool) (v : ℕ) (style : Style) (n : ℕ) → length keeps ≤ n → FirstHold (KeepsAt keeps v style) n → BodiesKeep true (said_by keeps) v style
keeps_all keeps v style n l h =
    all_hold (KeepsAt keeps v style) n h
    (λ k m e. absurd (let q : slice_index_or keeps k false ≡ false = get_or_past keeps k false (omega (arith, l, m)) in true≢false (sym e ∙ q)))

-- ---- lists of known length

pub three : (xs : List Token) (d a b c : Token) → length xs ≡ 3 → get_or xs 0 d ≡ a → get_or xs 1 d ≡ b → get_or xs 2 d ≡ c → xs ≡ a ∷ b ∷ c ∷ []
three (x ∷ y ∷ z ∷ []) d a b c l ea eb ec =
    ap (λ (t : Token). t ∷ y ∷ z ∷ []) ea ∙ ap (λ (t : Token). a ∷ t ∷ z ∷ []) eb ∙ ap (λ (t : Token). a ∷ b ∷ t ∷ []) ec
three [] d a b c l ea eb ec = absurd (omega (arith, l))
three (x ∷ []) d a b c l ea eb ec = absurd (omega (arith, l))
three (x ∷ y ∷ []) d a b c l ea eb ec = absurd (omega (arith, l))
three (x ∷ y ∷ z ∷ t ∷ xs) d a b c l ea eb ec = absurd (omega (arith, l))

pub five : (xs : List Token) (d a b c e f : Token) → length xs ≡ 5 → get_or xs 0 d ≡ a → get_or xs 1 d ≡ b → get_or xs 2 d ≡ c → get_or xs 3 d ≡ e
    → get_or xs 4 d ≡ f → xs ≡ a ∷ b ∷ c ∷ e ∷ f ∷ []
five (x ∷ y ∷ xs) d a b c e f l ea eb ec ee ef =
    ap (λ (t : Token). t ∷ y ∷ xs) ea ∙ ap (λ (t : Token). a ∷ t ∷ xs) eb
    ∙ ap (λ (ts : List Token). a ∷ b ∷ ts) (three xs d c e f (omega (arith, l)) ec ee ef)
five [] d a b c e f l ea eb ec ee ef = absurd (omega (arith, l))
five (x ∷ []) d a b c e f l ea eb ec ee ef = absurd (omega (arith, l))

pub one : (xs : List Token) (d a : Token) → length xs ≡ 1 → get_or xs 0 d ≡ a → xs ≡ a ∷ []
one (x ∷ []) d a l ea = ap (λ (t : Token). t ∷ []) ea
one [] d a l ea = absurd (omega (arith, l))
one (x ∷ y ∷ xs) d a l ea = absurd (omega (arith, l))

pub four : (xs : List Token) (d a b c e : Token) → length xs ≡ 4 → get_or xs 0 d ≡ a → get_or xs 1 d ≡ b → get_or xs 2 d ≡ c → get_or xs 3 d ≡ e
    → xs ≡ a ∷ b ∷ c ∷ e ∷ []
four (x ∷ xs) d a b c e l ea eb ec ee =
    ap (λ (t : Token). t ∷ xs) ea ∙ ap (λ (ts : List Token). a ∷ ts) (three xs d b c e (omega (arith, l)) eb ec ee)
four [] d a b c e l ea eb ec ee = absurd (omega (arith, l))

-- a list in three parts
pub parted : (body a b c : List Token) (k n : ℕ) → take k body ≡ a → take n (drop k body) ≡ b → drop n (drop k body) ≡ c → body ≡ a ++ (b ++ c)
parted body a b c k n ea eb ec =
    sym (take-append-drop k body) ∙ ap (λ (xs : List Token). xs ++ drop k body) ea
    ∙ ap (λ (xs : List Token). a ++ xs)
    (sym (take-append-drop n (drop k body)) ∙ ap (λ (xs : List Token). xs ++ drop n (drop k body)) eb ∙ ap (λ (xs : List Token). b ++ xs) ec)

pub two : (xs : List Token) (d a b : Token) → length xs ≡ 2 → get_or xs 0 d ≡ a → get_or xs 1 d ≡ b → xs ≡ a ∷ b ∷ []
two (x ∷ y ∷ []) d a b l ea eb = ap (λ (t : Token). t ∷ y ∷ []) ea ∙ ap (λ (t : Token). a ∷ t ∷ []) eb
two [] d a b l ea eb = absurd (omega (arith, l))
two (x ∷ []) d a b l ea eb = absurd (omega (arith, l))
two (x ∷ y ∷ z ∷ xs) d a b l ea eb = absurd (omega (arith, l))

pub six : (xs : List Token) (d a b c e f g : Token) → length xs ≡ 6 → get_or xs 0 d ≡ a → get_or xs 1 d ≡ b → get_or xs 2 d ≡ c → get_or xs 3 d ≡ e
    → get_or xs 4 d ≡ f → get_or xs 5 d ≡ g → xs ≡ a ∷ b ∷ c ∷ e ∷ f ∷ g ∷ []
six (x ∷ y ∷ z ∷ xs) d a b c e f g l ea eb ec ee ef eg =
    ap (λ (t : Token). t ∷ y ∷ z ∷ xs) ea ∙ ap (λ (t : Token). a ∷ t ∷ z ∷ xs) eb ∙ ap (λ (t : Token). a ∷ b ∷ t ∷ xs) ec
    ∙ ap (λ (ts : List Token). a ∷ b ∷ c ∷ ts) (three xs d e f g (omega (arith, l)) ee ef eg)
six [] d a b c e f g l ea eb ec ee ef eg = absurd (omega (arith, l))
six (x ∷ []) d a b c e f g l ea eb ec ee ef eg = absurd (omega (arith, l))
six (x ∷ y ∷ []) d a b c e f g l ea eb ec ee ef eg = absurd (omega (arith, l))

-- ---- loops over texts

-- after the first tokens of a body: if the rest of it leads on from there, so does the whole
pub record LedSoFar (style : Style) (m : Measure) (kinds : ℕ → Kind) (effects : ℕ → Effect) (begun : Bool) (body rest : List Token) (before : Bool) (tops : Tops)
    : Type 0 where
  pub so_far : (after : Bool) → TokensThrough style m kinds effects begun before tops rest after
      → TokensThrough style m kinds effects begun false nothing_seen body after

pub led_init : (style : Style) (m : Measure) (kinds : ℕ → Kind) (effects : ℕ → Effect) (begun : Bool) (body : List Token)
    → LedSoFar style m kinds effects begun body body false nothing_seen
led_init style m kinds effects begun body = record { so_far = λ after w. w }

pub led_step : (style : Style) (m : Measure) (kinds : ℕ → Kind) (effects : ℕ → Effect) (begun : Bool) (body : List Token) (k : ℕ) (d : Token) (before between : Bool)
    (tops tops' : Tops) → k < length body → LedSoFar style m kinds effects begun body (drop k body) before tops
    → StepThrough style m effects begun before tops (get_or body k d) between → tops' ≡ tops_after style m kinds tops (get_or body k d)
    → LedSoFar style m kinds effects begun body (drop (k + 1) body) between tops'
led_step style m kinds effects begun body k d before between tops tops' l h g et =
    let e2 : drop k body ≡ get_or body k d ∷ drop (k + 1) body = rw add-one (drop-cons body k d l) in
    let h2 = subst (λ (ts : List Token). LedSoFar style m kinds effects begun body ts before tops) e2 h in
    let at : LedSoFar style m kinds effects begun body (drop (k + 1) body) between (tops_after style m kinds tops (get_or body k d)) =
    record { so_far = λ after w. h2.so_far after (between, (g, w)) } in
    subst (λ (o : Tops). LedSoFar style m kinds effects begun body (drop (k + 1) body) between o) (sym et) at

pub led_end : (style : Style) (m : Measure) (kinds : ℕ → Kind) (effects : ℕ → Effect) (begun : Bool) (body rest : List Token) (before : Bool) (tops : Tops)
    → rest ≡ [] → LedSoFar style m kinds effects begun body rest before tops → TokensThrough style m kinds effects begun false nothing_seen body before
led_end style m kinds effects begun body rest before tops e h =
    (subst (λ (ts : List Token). LedSoFar style m kinds effects begun body ts before tops) e h).so_far before refl

-- .. what is said of functions
abbrev pub EffectAt : Style → Measure → List Kind → List Effect → ℕ → Type 0
EffectAt style m kinds effects k = EffectHolds style m (kinds_by kinds) (effects_by effects) (effects_by effects k) (body_of style k)

pub effects_more : (style : Style) (m : Measure) (kinds : List Kind) (effects : List Effect) (n : ℕ) (body : List Token) (said : Effect)
    → FirstHold (EffectAt style m kinds effects) n → body ≡ body_of style n → said ≡ effects_by effects n
    → EffectHolds style m (kinds_by kinds) (effects_by effects) said body → FirstHold (EffectAt style m kinds effects) (n + 1)
effects_more style m kinds effects n body said h eb es w =
    first_more (EffectAt style m kinds effects) n h
    (subst (λ (xs : List Token). EffectHolds style m (kinds_by kinds) (effects_by effects) (effects_by effects n) xs) eb
    (subst (λ (e : Effect). EffectHolds style m (kinds_by kinds) (effects_by effects) e body) es w))

pub effects_all : (style : Style) (m : Measure) (kinds : List Kind) (effects : List Effect) (n : ℕ) → length effects ≤ n
    → FirstHold (EffectAt style m kinds effects) n → EffectsHold style m (kinds_by kinds) (effects_by effects)
effects_all style m kinds effects n l h =
    all_hold (EffectAt style m kinds effects) n h
    (λ k j. subst (λ (e : Effect). EffectHolds style m (kinds_by kinds) (effects_by effects) e (body_of style k))
    (sym (get_or_past effects k effect.Other (omega (arith, l, j)))) tt)

-- .. of their kinds
abbrev pub KindAt : Style → List Kind → ℕ → Type 0
KindAt style kinds k = KindHolds style (kinds_by kinds k) k

pub kinds_more : (style : Style) (kinds : List Kind) (n number : ℕ) (said : Kind) → FirstHold (KindAt style kinds) n → number ≡ n → said ≡ kinds_by kinds n
    → KindHolds style said number → FirstHold (KindAt style kinds) (n + 1)
kinds_more style kinds n number said h en es w =
    first_more (KindAt style kinds) n h (subst (λ k. KindHolds style (kinds_by kinds n) k) en (subst (λ (e : Kind). KindHolds style e number) es w))

pub kinds_all : (style : Style) (kinds : List Kind) (n : ℕ) → length kinds ≤ n → FirstHold (KindAt style kinds) n → KindsHold style (kinds_by kinds)
kinds_all style kinds n l h =
    all_hold (KindAt style kinds) n h
    (λ k j. subst (λ (e : Kind). KindHolds style e k) (sym (get_or_past kinds k kind.Other (omega (arith, l, j)))) tt)

-- .. the claims on tests and on bodies
abbrev pub EndAt : Style → (ℕ → Measure) → List ℕ → ℕ → Type 0
EndAt style measures ends k = EndHolds style measures (slice_index_or ends k 0) k

pub ends_more : (style : Style) (measures : ℕ → Measure) (ends : List ℕ) (n claim : ℕ) → FirstHold (EndAt style measures ends) n
    → claim ≡ slice_index_or ends n 0 → EndHolds style measures claim n → FirstHold (EndAt style measures ends) (n + 1)
ends_more style measures ends n claim h e w = first_more (EndAt style measures ends) n h (subst (λ c. EndHolds style measures c n) e w)

pub ends_all : (style : Style) (measures : ℕ → Measure) (ends : List ℕ) (n : ℕ) → length ends ≤ n → FirstHold (EndAt style measures ends) n
    → EndsHold style measures ends
ends_all style measures ends n l h =
    all_hold (EndAt style measures ends) n h
    (λ k j. subst (λ c. EndHolds style measures c k) (sym (get_or_past ends k 0 (omega (arith, l, j)))) tt)

abbrev pub ShortenAt : Style → (ℕ → Measure) → List ℕ → ℕ → Type 0
ShortenAt style measures shortens k = ShortenHolds style measures (slice_index_or shortens k 0) k

pub shortens_more : (style : Style) (measures : ℕ → Measure) (shortens : List ℕ) (n claim : ℕ) → FirstHold (ShortenAt style measures shortens) n
    → claim ≡ slice_index_or shortens n 0 → ShortenHolds style measures claim n → FirstHold (ShortenAt style measures shortens) (n + 1)
shortens_more style measures shortens n claim h e w =
    first_more (ShortenAt style measures shortens) n h (subst (λ c. ShortenHolds style measures c n) e w)

pub shortens_all : (style : Style) (measures : ℕ → Measure) (shortens : List ℕ) (n : ℕ) → length shortens ≤ n
    → FirstHold (ShortenAt style measures shortens) n → ShortensHold style measures shortens
shortens_all style measures shortens n l h =
    all_hold (ShortenAt style measures shortens) n h
    (λ k j. subst (λ c. ShortenHolds style measures c k) (sym (get_or_past shortens k 0 (omega (arith, l, j)))) tt)

-- .. flags
abbrev pub FlagAt : List Measure → ℕ → ℕ → Type 0
FlagAt measures integers k = (measures_by measures k).flag ≤ integers

pub flags_more : (measures : List Measure) (integers n : ℕ) (m : Measure) → FirstHold (FlagAt measures integers) n → m ≡ measures_by measures n
    → m.flag ≤ integers → FirstHold (FlagAt measures integers) (n + 1)
flags_more measures integers n m h e l = first_more (FlagAt measures integers) n h (subst (λ (a : Measure). a.flag ≤ integers) e l)

pub flags_all : (measures : List Measure) (integers n : ℕ) → length measures ≤ n → FirstHold (FlagAt measures integers) n → FlagsHold (measures_by measures) integers
flags_all measures integers n l h =
    all_hold (FlagAt measures integers) n h
    (λ k j. subst (λ (a : Measure). a.flag ≤ integers) (sym (get_or_past measures k (record { text = 0; flag = 0; word = 0 }) (omega (arith, l, j)))) (omega arith))

-- what bears a claim on a body out
pub shorten_by : (style : Style) (measures : ℕ → Measure) (kinds : ℕ → Kind) (effects : ℕ → Effect) (claim number : ℕ) (m : Measure) → (claim ≡ 0 → ⊥)
    → m ≡ measures (claim - 1) → LessensBy style m kinds effects number → ShortenHolds style measures claim number
shorten_by style measures kinds effects zero number m h e w = absurd (h refl)
shorten_by style measures kinds effects (suc k) number m h e w =
    let of_k : suc k - 1 ≡ k = omega arith in
    (kinds, (effects, subst (λ n. LessensBy style (measures n) kinds effects number) of_k (subst (λ (a : Measure). LessensBy style a kinds effects number) e w)))

-- ---- loops that walk along texts

abbrev pub PartAt : Style → (ℕ → Walk) → ℕ → List ℕ → ℕ → Type 0
PartAt style walks integers parts k = PartHolds style walks integers (slice_index_or parts k 0) k

pub parts_more : (style : Style) (walks : ℕ → Walk) (integers : ℕ) (parts : List ℕ) (n claim : ℕ) → FirstHold (PartAt style walks integers parts) n
    → claim ≡ slice_index_or parts n 0 → PartHolds style walks integers claim n → FirstHold (PartAt style walks integers parts) (n + 1)
parts_more style walks integers parts n claim h e w =
    first_more (PartAt style walks integers parts) n h (subst (λ c. PartHolds style walks integers c n) e w)

pub parts_all : (style : Style) (walks : ℕ → Walk) (integers : ℕ) (parts : List ℕ) (n : ℕ) → length parts ≤ n
    → FirstHold (PartAt style walks integers parts) n → PartsHold style walks integers parts
parts_all style walks integers parts n l h =
    all_hold (PartAt style walks integers parts) n h
    (λ k j. subst (λ c. PartHolds style walks integers c k) (sym (get_or_past parts k 0 (omega (arith, l, j)))) tt)

abbrev pub MoveAt : Style → (ℕ → Walk) → List ℕ → ℕ → Type 0
MoveAt style walks moves k = MoveHolds style walks (slice_index_or moves k 0) k

pub moves_more : (style : Style) (walks : ℕ → Walk) (moves : List ℕ) (n claim : ℕ) → FirstHold (MoveAt style walks moves) n
    → claim ≡ slice_index_or moves n 0 → MoveHolds style walks claim n → FirstHold (MoveAt style walks moves) (n + 1)
moves_more style walks moves n claim h e w = first_more (MoveAt style walks moves) n h (subst (λ c. MoveHolds style walks c n) e w)

pub moves_all : (style : Style) (walks : ℕ → Walk) (moves : List ℕ) (n : ℕ) → length moves ≤ n → FirstHold (MoveAt style walks moves) n
    → AllMove style walks moves
moves_all style walks moves n l h =
    all_hold (MoveAt style walks moves) n h
    (λ k j. subst (λ c. MoveHolds style walks c k) (sym (get_or_past moves k 0 (omega (arith, l, j)))) tt)

-- the test of a walk
pub part_by : (style : Style) (walks : ℕ → Walk) (integers claim number : ℕ) (walk : Walk) → (claim ≡ 0 → ⊥) → walk ≡ walks (claim - 1)
    → PartHolds style (λ k. walk) integers 1 number → PartHolds style walks integers claim number
part_by style walks integers zero number walk h e w = absurd (h refl)
part_by style walks integers (suc k) number walk h e w =
    let of_k : suc k - 1 ≡ k = omega arith in
    subst (λ (a : Walk). PartHolds style (λ j. a) integers 1 number) (e ∙ ap walks of_k) w

-- what bears a claim on a body out
pub move_by : (style : Style) (walks : ℕ → Walk) (kinds : ℕ → Kind) (places sizes : ℕ → Effect) (moves : ℕ → Bool) (claim number : ℕ) (walk : Walk)
    → (claim ≡ 0 → ⊥) → walk ≡ walks (claim - 1) → MovesBy style walk kinds places sizes moves number → MoveHolds style walks claim number
move_by style walks kinds places sizes moves zero number walk h e w = absurd (h refl)
move_by style walks kinds places sizes moves (suc k) number walk h e w =
    let of_k : suc k - 1 ≡ k = omega arith in
    (kinds, (places, (sizes, (moves, subst (λ (a : Walk). MovesBy style a kinds places sizes moves number) (e ∙ ap walks of_k) w))))

-- .. what is said of functions that move the place on
abbrev pub MoverAt : Style → Walk → (ℕ → Kind) → (ℕ → Effect) → (ℕ → Effect) → List Bool → ℕ → Type 0
MoverAt style walk kinds places sizes moves k =
    slice_index_or moves k false ≡ true → Moves style walk kinds places sizes (said_by moves) (slice_index_or style.bodies k [])

pub movers_more : (style : Style) (walk : Walk) (kinds : ℕ → Kind) (places sizes : ℕ → Effect) (moves : List Bool) (n : ℕ) (body : List Token) (is_mover : Bool)
    → FirstHold (MoverAt style walk kinds places sizes moves) n → body ≡ slice_index_or style.bodies n [] → is_mover ≡ slice_index_or moves n false
    → (is_mover ≡ true → Moves style walk kinds places sizes (said_by moves) body) → FirstHold (MoverAt style walk kinds places sizes moves) (n + 1)
movers_more style walk kinds places sizes moves n body is_mover h eb em w =
    first_more (MoverAt style walk kinds places sizes moves) n h
    (λ e. subst (λ (xs : List Token). Moves style walk kinds places sizes (said_by moves) xs) eb (w (em ∙ e)))

pub movers_all : (style : Style) (walk : Walk) (kinds : ℕ → Kind) (places sizes : ℕ → Effect) (moves : List Bool) (n : ℕ) → length moves ≤ n
    → FirstHold (MoverAt style walk kinds places sizes moves) n → MovesHold style walk kinds places sizes (said_by moves)
movers_all style walk kinds places sizes moves n l h =
    all_hold (MoverAt style walk kinds places sizes moves) n h
    (λ k m e. absurd (let q : slice_index_or moves k false ≡ false = get_or_past moves k false (omega (arith, l, m)) in true≢false (sym e ∙ q)))

-- ---- loops that count up

abbrev pub LimitAt : Claims → Style → (ℕ → Climb) → List ℕ → ℕ → Type 0
LimitAt claims style climbs limits k = LimitHolds claims style climbs (slice_index_or limits k 0) k

pub limits_more : (claims : Claims) (style : Style) (climbs : ℕ → Climb) (limits : List ℕ) (n claim : ℕ) → FirstHold (LimitAt claims style climbs limits) n
    → claim ≡ slice_index_or limits n 0 → LimitHolds claims style climbs claim n → FirstHold (LimitAt claims style climbs limits) (n + 1)
limits_more claims style climbs limits n claim h e w =
    first_more (LimitAt claims style climbs limits) n h (subst (λ c. LimitHolds claims style climbs c n) e w)

pub limits_all : (claims : Claims) (style : Style) (climbs : ℕ → Climb) (limits : List ℕ) (n : ℕ) → length limits ≤ n
    → FirstHold (LimitAt claims style climbs limits) n → LimitsHold claims style climbs limits
limits_all claims style climbs limits n l h =
    all_hold (LimitAt claims style climbs limits) n h
    (λ k j. subst (λ c. LimitHolds claims style climbs c k) (sym (get_or_past limits k 0 (omega (arith, l, j)))) tt)

abbrev pub RaiseAt : Style → (ℕ → Climb) → List ℕ → ℕ → Type 0
RaiseAt style climbs raises k = RaiseHolds style climbs (slice_index_or raises k 0) k

pub raises_more : (style : Style) (climbs : ℕ → Climb) (raises : List ℕ) (n claim : ℕ) → FirstHold (RaiseAt style climbs raises) n
    → claim ≡ slice_index_or raises n 0 → RaiseHolds style climbs claim n → FirstHold (RaiseAt style climbs raises) (n + 1)
raises_more style climbs raises n claim h e w = first_more (RaiseAt style climbs raises) n h (subst (λ c. RaiseHolds style climbs c n) e w)

pub raises_all : (style : Style) (climbs : ℕ → Climb) (raises : List ℕ) (n : ℕ) → length raises ≤ n → FirstHold (RaiseAt style climbs raises) n
    → AllRaise style climbs raises
raises_all style climbs raises n l h =
    all_hold (RaiseAt style climbs raises) n h
    (λ k j. subst (λ c. RaiseHolds style climbs c k) (sym (get_or_past raises k 0 (omega (arith, l, j)))) tt)

-- the test of a climb
pub limit_by : (claims : Claims) (style : Style) (climbs : ℕ → Climb) (claim number : ℕ) (climb : Climb) → (claim ≡ 0 → ⊥) → climb ≡ climbs (claim - 1)
    → LimitHolds claims style (λ k. climb) 1 number → LimitHolds claims style climbs claim number
limit_by claims style climbs zero number climb h e w = absurd (h refl)
limit_by claims style climbs (suc k) number climb h e w =
    let of_k : suc k - 1 ≡ k = omega arith in
    subst (λ (a : Climb). LimitHolds claims style (λ j. a) 1 number) (e ∙ ap climbs of_k) w

-- what bears a claim on a body out
pub raise_by : (style : Style) (climbs : ℕ → Climb) (kinds : ℕ → Kind) (places sizes : ℕ → Effect) (claim number : ℕ) (climb : Climb)
    → (claim ≡ 0 → ⊥) → climb ≡ climbs (claim - 1) → RaisesBy style climb kinds places sizes number → RaiseHolds style climbs claim number
raise_by style climbs kinds places sizes zero number climb h e w = absurd (h refl)
raise_by style climbs kinds places sizes (suc k) number climb h e w =
    let of_k : suc k - 1 ≡ k = omega arith in
    (kinds, (places, (sizes, subst (λ (a : Climb). RaisesBy style a kinds places sizes number) (e ∙ ap climbs of_k) w)))

-- a test that looks at a flag too
pub tells_flag : (style : Style) (t flag : ℕ) (body : List Token) → (flag ≡ 0 → ⊥) → TellsBoth style (flag - 1) t body → Tells style t flag body
tells_flag style t zero body h w = absurd (h refl)
tells_flag style t (suc v) body h w = let e : suc v - 1 ≡ v = omega arith in subst (λ n. TellsBoth style n t body) e w

-- ---- types

among_cases : (b c : Bool) → (b || c) ≡ true → (b ≡ true) ⊎ (c ≡ true)
among_cases true c e = inl refl
among_cases false c e = inr e

among_pick : (b c d : Bool) (P : Type 0) → (b || c) ≡ true → (c ≡ true → (d ≡ true) ⊎ P) → ((b || d) ≡ true) ⊎ P
among_pick true c d P e h = inl refl
among_pick false c d P e h = h e

among_last : (xs : List ℕ) (x n : ℕ) → is_among (xs ++ x ∷ []) n ≡ true → (is_among xs n ≡ true) ⊎ (x ≡ n)
among_last [] x n e = elim (among_cases (nat_eq x n) false e) [ inl h ↦ inr (eqb-true x n h) | inr h ↦ absurd (cc) ]
among_last (y ∷ xs) x n e = among_pick (nat_eq y n) (is_among (xs ++ x ∷ []) n) (is_among xs n) (x ≡ n) e (λ h. among_last xs x n h)

pub own_none : (claims : Claims) → OwnWithin claims []
own_none claims number e = absurd (cc)

own_last : (claims : Claims) (xs : List ℕ) (x : ℕ) → OwnWithin claims xs → CalleeWithin claims claims.types (callee.User x)
    → OwnWithin claims (xs ++ x ∷ [])
own_last claims xs x h w number e =
    elim (among_last xs x number e) [ inl q ↦ h number q | inr q ↦ subst (λ n. CalleeWithin claims claims.types (callee.User n)) q w ]

pub own_more : (claims : Claims) (xs : List ℕ) (k d : ℕ) → k < length xs → OwnWithin claims (take k xs)
    → CalleeWithin claims claims.types (callee.User (get_or xs k d)) → OwnWithin claims (take (k + 1) xs)
own_more claims xs k d l h w =
    subst (λ (ns : List ℕ). OwnWithin claims ns) (sym (take_more xs k d l)) (own_last claims (take k xs) (get_or xs k d) h w)

pub own_end : (claims : Claims) (xs : List ℕ) (k : ℕ) → length xs ≤ k → OwnWithin claims (take k xs) → OwnWithin claims xs
own_end claims xs k l h = subst (λ (ns : List ℕ). OwnWithin claims ns) (take_all k xs l) h

-- a claim that isn't 0
pub some_claim : (claim : ℕ) → (claim ≡ 0 → ⊥) → 0 < claim
some_claim zero h = absurd (h refl)
some_claim (suc n) h = omega arith

pub some_map : {X : Type 0} (o : Option X) (P Q : X → Type 0) → ((x : X) → P x → Q x) → IfSome o P → IfSome o Q
some_map (Some x) P Q f h = f x h
some_map None P Q f h = h
