-- Values put on top, and how large the pool is.
use Rattle.std.proofs.Common.{ℕ, ◌≡◌, ◌≤◌, ◌<◌, ◌+◌, ◌-◌, ◌*◌, ◌^◌, suc, List, [], ◌∷◌, ◌++◌, length, take, drop, set, Some, None, refl, sym, ap, ◌∙◌, arith}
use Rattle.std.proofs.lemmas.List.{drop-set, take_at, drop_at, append-nil, length-drop}
use Rattle.std.proofs.lemmas.Bool.{cond_below}
use Rattle.btx_stack.specs.declared.slot.SlotKind.{SlotKind}
use Rattle.btx_stack.specs.declared.slot.SlotKind.TheVariants as kind
use Rattle.btx_stack.specs.declared.slot.Slot.{Slot}
use Rattle.btx_stack.specs.refinement.Content.{Content}
use Rattle.btx_stack.specs.refinement.Slots.{content_of, contents_of, Stand, HasBytes}
use Rattle.btx_stack.specs.refinement.Steps.{with_pushed}

few : (k : SlotKind) (v : Slot) (n : ℕ) → HasBytes k v n → n ≤ 1000000
few kind.Integer v n h = omega arith
few kind.Function v n h = omega (arith, h.0)
few kind.Missing v n h = omega arith
few kind.Lent v n h = omega (arith, h.0)
few kind.Made v n h = omega (arith, h)
few kind.Large v n h = omega arith

pub bounded : (vs : List Slot) (n : ℕ) → Stand vs n → n ≤ 1000000 * length vs
bounded [] n s = omega arith
bounded (v ∷ below) n s = omega (arith, bounded below v.start s.1, few v.kind v (n - v.start) s.0.bytes, s.0.start)

pub length-contents : (vs : List Slot) (pool : List ℕ) → length (contents_of vs pool) ≡ length vs
length-contents [] pool = refl
length-contents (v ∷ below) pool = ap suc (length-contents below (take v.start pool))

-- the pool's length fits into 32 bits
pub small : (slots : List Slot) (top n : ℕ) → length slots ≡ 1000 → Stand (drop top slots) n → n < 2 ^ 32
small slots top n l s = omega (arith, bounded (drop top slots) n s, length-drop top slots)

-- the top value, where the pool is in two parts
pub on_parts : (v : Slot) (below : List Slot) (front made : List ℕ) → v.start ≡ length front → contents_of (v ∷ below) (front ++ made) ≡ content_of v made
    ∷ contents_of below front
on_parts v below front made b =
    ap (λ n. content_of v (drop n (front ++ made)) ∷ contents_of below (take n (front ++ made))) b
    ∙ ap (λ ys. content_of v ys ∷ contents_of below (take (length front) (front ++ made))) (drop_at front made (length front) refl)
    ∙ ap (λ ys. content_of v made ∷ contents_of below ys) (take_at front made (length front) refl)

-- a value in the place `at`, on those below it
pub put_on : (slots : List Slot) (at : ℕ) (v : Slot) (x : Content) (front made : List ℕ) → at < length slots → v.start ≡ length front → content_of v made ≡ x →
    contents_of (drop at (set slots at v)) (front ++ made) ≡ x ∷ contents_of (drop (at + 1) slots) front
put_on slots at v x front made l b e =
    ap (λ vs. contents_of vs (front ++ made)) (drop-set slots at v l) ∙ on_parts v (drop (at + 1) slots) front made b
    ∙ ap (λ y. y ∷ contents_of (drop (at + 1) slots) front) e

-- how many there are
pub count_is : (slots : List Slot) (top : ℕ) (pool : List ℕ) (old : List Content) → contents_of (drop top slots) pool ≡ old → length slots ≡ 1000
    → length old ≡ 1000 - top
count_is slots top pool old o l = omega (arith, ap length o, length-contents (drop top slots) pool, length-drop top slots)

-- where there is room, a place is left
pub has_room : (slots : List Slot) (top : ℕ) (pool : List ℕ) (old : List Content) → contents_of (drop top slots) pool ≡ old → length slots ≡ 1000
    → length old < 1000 → 0 < top
has_room slots top pool old o l r = omega (arith, count_is slots top pool old o l)

-- a value whose bytes are at the end of the pool
pub put_there : (slots : List Slot) (top : ℕ) (v : Slot) (x : Content) (pool made : List ℕ) (old : List Content) → contents_of (drop top slots) pool ≡ old
    → length slots ≡ 1000 → 0 < top → top ≤ 1000 → v.start ≡ length pool → content_of v made ≡ x →
    contents_of (drop (top - 1) (set slots (top - 1) v)) (pool ++ made) ≡ x ∷ old
put_there slots top v x pool made old o l p t b e =
    let back : top - 1 + 1 ≡ top = omega arith in
    put_on slots (top - 1) v x pool made (omega arith) b e ∙ (ap (λ n. x ∷ contents_of (drop n slots) pool) back ∙ ap (λ ys. x ∷ ys) o)

-- a value without bytes
pub put_here : (slots : List Slot) (top : ℕ) (v : Slot) (x : Content) (pool : List ℕ) (old : List Content) → contents_of (drop top slots) pool ≡ old
    → length slots ≡ 1000 → 0 < top → top ≤ 1000 → v.start ≡ length pool → ((made : List ℕ) → content_of v made ≡ x) →
    contents_of (drop (top - 1) (set slots (top - 1) v)) pool ≡ x ∷ old
put_here slots top v x pool old o l p t b e = ap (contents_of (drop (top - 1) (set slots (top - 1) v))) (sym (append-nil pool))
    ∙ put_there slots top v x pool [] old o l p t b (e [])

pub pushed_with_room : (x : Content) (old : List Content) → length old < 1000 → with_pushed x old ≡ Some (x ∷ old)
pushed_with_room x old room = sym (cond_below (length old) 1000 (Some (x ∷ old)) None room)

pub count_within : (slots : List Slot) (top : ℕ) (pool : List ℕ) (old : List Content) → contents_of (drop top slots) pool ≡ old → length slots ≡ 1000
    → length old ≤ 1000
count_within slots top pool old o l = omega (arith, count_is slots top pool old o l)

-- where no place is left, there are 1,000
pub full : (slots : List Slot) (top : ℕ) (pool : List ℕ) (old : List Content) → contents_of (drop top slots) pool ≡ old → length slots ≡ 1000 → top ≡ 0
    → length old < 1000 → ⊥
full slots top pool old o l e h = omega (arith, count_is slots top pool old o l)

-- a value whose bytes are at the end of the pool
pub push_there : (slots : List Slot) (top : ℕ) (v : Slot) (x : Content) (pool made : List ℕ) (old : List Content) → contents_of (drop top slots) pool ≡ old
    → length slots ≡ 1000 → 0 < top → top ≤ 1000 → v.start ≡ length pool → content_of v made ≡ x →
    with_pushed x old ≡ Some (contents_of (drop (top - 1) (set slots (top - 1) v)) (pool ++ made))
push_there slots top v x pool made old o l p t b e =
    pushed_with_room x old (omega (arith, count_is slots top pool old o l)) ∙ ap Some (sym (put_there slots top v x pool made old o l p t b e))

-- a value without bytes
pub push_here : (slots : List Slot) (top : ℕ) (v : Slot) (x : Content) (pool : List ℕ) (old : List Content) → contents_of (drop top slots) pool ≡ old
    → length slots ≡ 1000 → 0 < top → top ≤ 1000 → v.start ≡ length pool → ((made : List ℕ) → content_of v made ≡ x) →
    with_pushed x old ≡ Some (contents_of (drop (top - 1) (set slots (top - 1) v)) pool)
push_here slots top v x pool old o l p t b e =
    pushed_with_room x old (omega (arith, count_is slots top pool old o l)) ∙ ap Some (sym (put_here slots top v x pool old o l p t b e))

-- one less leaves room
pub room_below : (slots : List Slot) (top : ℕ) (pool : List ℕ) → length slots ≡ 1000 → length (contents_of (drop (top + 1) slots) pool) < 1000
room_below slots top pool l = omega (arith, length-contents (drop (top + 1) slots) pool, length-drop (top + 1) slots)
