-- What the checker's calls cite, where it looks at loops over an integer or a text on top of the stack.
use Rattle.std.proofs.Common.{◌≡◌, ℕ, zero, suc, ◌+◌, ◌-◌, ◌≤◌, ◌<◌, List, [], ◌∷◌, length, drop, drop-cons, add-one, get_or, refl, arith, sym, ap, subst, ◌∙◌}
use Rattle.std.specs.Prelude.{slice_index_or}
use Rattle.std.proofs.lemmas.List.{get_or_past}
use Rattle.btx_bst.specs.declared.token.Token.{Token}
use Rattle.btx_bst.specs.language.Style.{Style}
use Rattle.btx_ends.specs.declared.held.Pile.{Pile}
use Rattle.btx_ends.specs.declared.measures.Effect.{Effect}
use Rattle.btx_ends.specs.declared.measures.Kind.{Kind}
use Rattle.btx_ends.specs.declared.measures.Replacement.{Replacement}
use Rattle.btx_ends.specs.Certificates.{AskHolds, AsksHold, LowerHolds, LowersHold, FilledHolds, AllFilled, ReplaceHolds, ReplacesBy, AllReplace}
use Rattle.btx_ends.specs.Descending.{pile_after, pile_through}
use Rattle.btx_ends.proofs.CodeLemmas.{FirstHold, first_more, all_hold}

-- after the first tokens of a body: what is known after the others is known after the whole
pub record PiledSoFar (kinds : ℕ → Kind) (start : Pile) (body rest : List Token) (p : Pile) : Type 0 where
  pub so_far : pile_through kinds p rest ≡ pile_through kinds start body

pub piled_init : (kinds : ℕ → Kind) (start : Pile) (body : List Token) → PiledSoFar kinds start body body start
piled_init kinds start body = record { so_far = refl }

pub piled_step : (kinds : ℕ → Kind) (start : Pile) (body : List Token) (k : ℕ) (d : Token) (p p' : Pile) → k < length body → PiledSoFar kinds start body (drop k body) p
    → p' ≡ pile_after kinds p (get_or body k d) → PiledSoFar kinds start body (drop (k + 1) body) p'
piled_step kinds start body k d p p' l h e =
    let e2 : drop k body ≡ get_or body k d ∷ drop (k + 1) body = rw add-one (drop-cons body k d l) in
    let h2 = subst (λ (ts : List Token). PiledSoFar kinds start body ts p) e2 h in
    let at : PiledSoFar kinds start body (drop (k + 1) body) (pile_after kinds p (get_or body k d)) = record { so_far = h2.so_far } in
    subst (λ (q : Pile). PiledSoFar kinds start body (drop (k + 1) body) q) (sym e) at

pub piled_end : (kinds : ℕ → Kind) (start : Pile) (body rest : List Token) (p : Pile) → rest ≡ [] → PiledSoFar kinds start body rest p
    → p ≡ pile_through kinds start body
piled_end kinds start body rest p e h = (subst (λ (ts : List Token). PiledSoFar kinds start body ts p) e h).so_far

-- the claims on tests
abbrev pub AskAt : Style → (ℕ → Kind) → List ℕ → ℕ → Type 0
AskAt style kinds asks k = AskHolds kinds (slice_index_or asks k 0) (slice_index_or style.bodies k [])

pub asks_more : (style : Style) (kinds : ℕ → Kind) (asks : List ℕ) (n claim : ℕ) (body : List Token) → FirstHold (AskAt style kinds asks) n
    → body ≡ slice_index_or style.bodies n [] → claim ≡ slice_index_or asks n 0 → AskHolds kinds claim body → FirstHold (AskAt style kinds asks) (n + 1)
asks_more style kinds asks n claim body h eb ec w =
    first_more (AskAt style kinds asks) n h
    (subst (λ (xs : List Token). AskHolds kinds (slice_index_or asks n 0) xs) eb (subst (λ c. AskHolds kinds c body) ec w))

pub asks_all : (style : Style) (kinds : ℕ → Kind) (asks : List ℕ) (n : ℕ) → length asks ≤ n → FirstHold (AskAt style kinds asks) n
    → AsksHold style kinds asks
asks_all style kinds asks n l h =
    all_hold (AskAt style kinds asks) n h
    (λ k j. subst (λ c. AskHolds kinds c (slice_index_or style.bodies k [])) (sym (get_or_past asks k 0 (omega (arith, l, j)))) tt)

-- .. and on bodies
abbrev pub LowerAt : Style → (ℕ → Kind) → List ℕ → ℕ → Type 0
LowerAt style kinds lowers k = LowerHolds kinds (slice_index_or lowers k 0) (slice_index_or style.bodies k [])

pub lowers_more : (style : Style) (kinds : ℕ → Kind) (lowers : List ℕ) (n claim : ℕ) (body : List Token) → FirstHold (LowerAt style kinds lowers) n
    → body ≡ slice_index_or style.bodies n [] → claim ≡ slice_index_or lowers n 0 → LowerHolds kinds claim body → FirstHold (LowerAt style kinds lowers) (n + 1)
lowers_more style kinds lowers n claim body h eb ec w =
    first_more (LowerAt style kinds lowers) n h
    (subst (λ (xs : List Token). LowerHolds kinds (slice_index_or lowers n 0) xs) eb (subst (λ c. LowerHolds kinds c body) ec w))

pub lowers_all : (style : Style) (kinds : ℕ → Kind) (lowers : List ℕ) (n : ℕ) → length lowers ≤ n → FirstHold (LowerAt style kinds lowers) n
    → LowersHold style kinds lowers
lowers_all style kinds lowers n l h =
    all_hold (LowerAt style kinds lowers) n h
    (λ k j. subst (λ c. LowerHolds kinds c (slice_index_or style.bodies k [])) (sym (get_or_past lowers k 0 (omega (arith, l, j)))) tt)

-- a claim that isn't 0 bears out what it claims
pub ask_by : (kinds : ℕ → Kind) (claim : ℕ) (body : List Token) → (claim ≡ 0 → ⊥) → AskHolds kinds 1 body → AskHolds kinds claim body
ask_by kinds zero body h w = absurd (h refl)
ask_by kinds (suc k) body h w = w

pub lower_by : (kinds : ℕ → Kind) (claim : ℕ) (body : List Token) → (claim ≡ 0 → ⊥) → LowerHolds kinds 1 body → LowerHolds kinds claim body
lower_by kinds zero body h w = absurd (h refl)
lower_by kinds (suc k) body h w = w

-- ---- loops over a text on top of the stack

abbrev pub FilledAt : Style → List ℕ → ℕ → Type 0
FilledAt style filled k = FilledHolds style (slice_index_or filled k 0) k

pub filled_more : (style : Style) (filled : List ℕ) (n claim : ℕ) → FirstHold (FilledAt style filled) n → claim ≡ slice_index_or filled n 0
    → FilledHolds style claim n → FirstHold (FilledAt style filled) (n + 1)
filled_more style filled n claim h e w = first_more (FilledAt style filled) n h (subst (λ c. FilledHolds style c n) e w)

pub filled_all : (style : Style) (filled : List ℕ) (n : ℕ) → length filled ≤ n → FirstHold (FilledAt style filled) n → AllFilled style filled
filled_all style filled n l h =
    all_hold (FilledAt style filled) n h (λ k j. subst (λ c. FilledHolds style c k) (sym (get_or_past filled k 0 (omega (arith, l, j)))) tt)

abbrev pub ReplaceAt : Style → (ℕ → Replacement) → List ℕ → ℕ → Type 0
ReplaceAt style replacements replaces k = ReplaceHolds style replacements (slice_index_or replaces k 0) k

pub replaces_more : (style : Style) (replacements : ℕ → Replacement) (replaces : List ℕ) (n claim : ℕ) → FirstHold (ReplaceAt style replacements replaces) n
    → claim ≡ slice_index_or replaces n 0 → ReplaceHolds style replacements claim n → FirstHold (ReplaceAt style replacements replaces) (n + 1)
replaces_more style replacements replaces n claim h e w =
    first_more (ReplaceAt style replacements replaces) n h (subst (λ c. ReplaceHolds style replacements c n) e w)

pub replaces_all : (style : Style) (replacements : ℕ → Replacement) (replaces : List ℕ) (n : ℕ) → length replaces ≤ n
    → FirstHold (ReplaceAt style replacements replaces) n → AllReplace style replacements replaces
replaces_all style replacements replaces n l h =
    all_hold (ReplaceAt style replacements replaces) n h
    (λ k j. subst (λ c. ReplaceHolds style replacements c k) (sym (get_or_past replaces k 0 (omega (arith, l, j)))) tt)

-- a claim that isn't 0 bears out what it claims
pub filled_by : (style : Style) (claim number : ℕ) → (claim ≡ 0 → ⊥) → FilledHolds style 1 number → FilledHolds style claim number
filled_by style zero number h w = absurd (h refl)
filled_by style (suc k) number h w = w

pub replace_by : (style : Style) (replacements : ℕ → Replacement) (kinds : ℕ → Kind) (texts givens : ℕ → Effect) (claim number : ℕ) (r : Replacement)
    → (claim ≡ 0 → ⊥) → r ≡ replacements (claim - 1) → ReplacesBy style r kinds texts givens number → ReplaceHolds style replacements claim number
replace_by style replacements kinds texts givens zero number r h e w = absurd (h refl)
replace_by style replacements kinds texts givens (suc k) number r h e w =
    let of_k : suc k - 1 ≡ k = omega arith in
    (kinds, (texts, (givens, subst (λ (a : Replacement). ReplacesBy style a kinds texts givens number) (e ∙ ap replacements of_k) w)))
