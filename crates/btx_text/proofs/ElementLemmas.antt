-- Lemmas on the elements of a string.
use Rattle.std.proofs.Common.{◌≡◌, ℕ, zero, suc, ◌+◌, ◌-◌, ◌<◌, ◌≤◌, Bool, true, false, cond, eqb, ◌&&◌, List, [], ◌∷◌, length, take, drop, get_or, fold, ◌⊎◌}
use Rattle.std.proofs.Common.{inl, inr, refl, ◌∙◌, ap, arith, add-zero}
use Rattle.std.proofs.lemmas.List.{drop_all, drop_more, length-take-le}
use Rattle.std.proofs.lemmas.Bool.{eqb-true, and_parts}
use Rattle.btx_text.specs.declared.element_kind.Kind.{Kind}
use Rattle.btx_text.specs.declared.element_kind.Kind.TheVariants.{Byte, Open, Close, Special, Wide}
use Rattle.btx_text.specs.declared.element_kind.TextMode.{TextMode}
use Rattle.btx_text.specs.declared.element_kind.TextMode.TheVariants.{Bytes, Utf8}
use Rattle.btx_text.specs.language.Sequences.{sequence_size, begins_sequence}
use Rattle.btx_text.proofs.SequenceLemmas.{begins_sequence-front, begins_sequence-size, begins_sequence-low, fold-sequence}
use Rattle.btx_text.specs.language.Elements.{depth_after, Element, is_utf8, kind_at, extent, group_len, elements_from, elements_of}
use Rattle.btx_text.specs.laws.Elements.{is_wide}
use Rattle.btx_text.specs.refinement.Elements.{depth_past, begins_special, kind_of, element_at}
use Rattle.std.specs.List.{All, list_any}

-- ---- `group_len`

-- one step, at a place of a list
pub group_len_at : (depth : ℕ) (s : List ℕ) (i : ℕ) → i < length s → group_len depth (drop i s) ≡ cond (eqb (depth_after depth (get_or s i 0)) 0) 1
    (suc (group_len (depth_after depth (get_or s i 0)) (drop (i + 1) s)))
unfolding group_len
group_len_at depth s i h = rw (drop_more s i 0) refl

pub group_len_all : (depth : ℕ) (s : List ℕ) (i : ℕ) → length s ≤ i → group_len depth (drop i s) ≡ 0
unfolding group_len
group_len_all depth s i h = rw (drop_all i s h) refl

pub group_len-le : (depth : ℕ) (s : List ℕ) → group_len depth s ≤ length s
unfolding group_len
group_len-le depth [] = omega arith
group_len-le depth (b ∷ bs) = le_step (eqb (depth_after depth b) 0) _ _ (group_len-le (depth_after depth b) bs) where
  le_step : (t : Bool) (n m : ℕ) → n ≤ m → cond t 1 (suc n) ≤ suc m
  le_step true n m h = omega arith
  le_step false n m h = omega arith

pub ruleset group_steps = (group_len_at, group_len_all)

-- a group ends at depth 0 or at the end
abbrev pub Closes : ℕ → List ℕ → ℕ → Type 0
Closes depth s n = (fold depth_after depth (take n s) ≡ 0) ⊎ (drop n s ≡ [])

closes_step : (depth b : ℕ) (bs : List ℕ) (t : Bool) (n : ℕ) → eqb (depth_after depth b) 0 ≡ t → Closes (depth_after depth b) bs n
    → Closes depth (b ∷ bs) (cond t 1 (suc n))
closes_step depth b bs true n e h = inl (eqb-true _ _ e)
closes_step depth b bs false n e h = h

pub group_closes : (depth : ℕ) (s : List ℕ) → Closes depth s (group_len depth s)
unfolding group_len
group_closes depth [] = inr refl
group_closes depth (b ∷ bs) = closes_step depth b bs _ _ refl (group_closes (depth_after depth b) bs)

-- ---- where an element of a kind can begin

abbrev pub Stands : Kind → ℕ → List ℕ → Type 0
Stands Special depth s = depth ≡ 0
Stands Wide depth s = begins_sequence s ≡ true
Stands _ depth s = Unit {0}

stands_byte : (t u : Bool) (depth : ℕ) (s : List ℕ) → Stands (cond t Open (cond u Close Byte)) depth s
stands_byte true u depth s = tt
stands_byte false true depth s = tt
stands_byte false false depth s = tt

stands_cond : (special wide : Bool) (depth b : ℕ) (s : List ℕ) → (special ≡ true → depth ≡ 0) → (wide ≡ true → begins_sequence s ≡ true)
    → Stands (cond special Special (cond wide Wide (kind_of b))) depth s
stands_cond true wide depth b s h k = h refl
stands_cond false true depth b s h k = k refl
stands_cond false false depth b s h k = stands_byte (eqb b 123) (eqb b 125) depth s

pub stands_at : (mode : TextMode) (depth : ℕ) (s : List ℕ) → Stands (kind_at mode depth s) depth s
unfolding kind_at
stands_at mode depth s =
    stands_cond (begins_special depth s) (is_utf8 mode && begins_sequence s) depth (get_or s 0 0) s
    (λ e. eqb-true _ _ (and_parts _ _ e).0) (λ e. (and_parts _ _ e).1)

-- ---- the first element's extent

take_front : (n m b : ℕ) (bs : List ℕ) → n ≡ suc m → take n (b ∷ bs) ≡ b ∷ take m bs
take_front n m b bs e = rw e refl

-- it has at least a byte, and no more than there are
pub length_take_extent : (kind : Kind) (depth b : ℕ) (bs : List ℕ) → Stands kind depth (b ∷ bs)
    → (m : ℕ) × (take (extent kind (b ∷ bs)) (b ∷ bs) ≡ b ∷ take m bs) × (m ≤ length bs) × (extent kind (b ∷ bs) ≡ suc m)
unfolding group_len
length_take_extent Special depth b bs h = take_cond (eqb (depth_after 0 b) 0) (group_len (depth_after 0 b) bs) (group_len-le (depth_after 0 b) bs) where
  take_cond : (t : Bool) (n : ℕ) → n ≤ length bs → (m : ℕ) × (take (cond t 1 (suc n)) (b ∷ bs) ≡ b ∷ take m bs) × (m ≤ length bs) × (cond t 1 (suc n) ≡ suc m)
  take_cond true n h = (0, refl, omega arith, refl)
  take_cond false n h = (n, refl, h, refl)
length_take_extent Wide depth b bs h =
    let n = sequence_size b in
    let size = begins_sequence-size (b ∷ bs) h in
    let e : n ≡ suc (n - 1) = omega arith in
    (n - 1, take_front n (n - 1) b bs e, omega arith, e)
length_take_extent _ depth b bs h = (0, refl, omega arith, refl)

pub extent-le : (mode : TextMode) (depth : ℕ) (s : List ℕ) → 0 < length s → extent (kind_at mode depth s) s ≤ length s
extent-le mode depth [] h = absurd (omega arith)
extent-le mode depth (b ∷ bs) h = let parts = length_take_extent (kind_at mode depth (b ∷ bs)) depth b bs (stands_at mode depth (b ∷ bs)) in omega arith

pub extent-some : (mode : TextMode) (depth : ℕ) (s : List ℕ) → 0 < length s → 0 < length (take (extent (kind_at mode depth s) s) s)
extent-some mode depth [] h = absurd (omega arith)
extent-some mode depth (b ∷ bs) h = let parts = length_take_extent (kind_at mode depth (b ∷ bs)) depth b bs (stands_at mode depth (b ∷ bs)) in
    rw parts.1 (omega arith)

-- ---- `elements_from`

pub elements_from-skip : (mode : TextMode) (skip start depth : ℕ) (s : List ℕ) → elements_from mode skip start depth s
    ≡ elements_from mode 0 (start + skip) (fold depth_after depth (take skip s)) (drop skip s)
unfolding elements_from
elements_from-skip mode zero start depth s = rw add-zero refl
elements_from-skip mode (suc skip) start depth [] = refl
elements_from-skip mode (suc skip) start depth (b ∷ bs) =
    let moved : start + 1 + skip ≡ start + suc skip = omega arith in
    elements_from-skip mode skip (start + 1) (depth_after depth b) bs
    ∙ ap (λ n. elements_from mode 0 n (fold depth_after depth (take (suc skip) (b ∷ bs))) (drop skip bs)) moved

-- a first element and the others, in a string that isn't empty
others : (mode : TextMode) (m start depth b : ℕ) (bs : List ℕ) → elements_from mode (suc m - 1) (start + 1) (depth_after depth b) bs
    ≡ elements_from mode 0 (start + suc m) (fold depth_after depth (b ∷ take m bs)) (drop m bs)
unfolding elements_from
others mode m start depth b bs = let e : suc m - 1 ≡ m = omega arith in rw e (elements_from-skip mode (suc m) start depth (b ∷ bs))

pub elements_from-cons : (mode : TextMode) (start depth b : ℕ) (bs : List ℕ) →
    let part = element_at mode start depth (b ∷ bs) in
    elements_from mode 0 start depth (b ∷ bs) ≡ part ∷ elements_from mode 0 (start + length part.text) (fold depth_after depth part.text)
    (drop (length part.text) (b ∷ bs))
unfolding elements_from
elements_from-cons mode start depth b bs =
    let parts = length_take_extent (kind_at mode depth (b ∷ bs)) depth b bs (stands_at mode depth (b ∷ bs)) in
    let len : length (take parts.0 bs) ≡ parts.0 = length-take-le parts.0 bs parts.2 in
    rw (parts.1, len, others mode parts.0 start depth b bs) refl

-- the depth after the first element; where it ends at the end of the string, that says nothing
others_past : (mode : TextMode) (kind : Kind) (start depth b : ℕ) (bs : List ℕ) → Stands kind depth (b ∷ bs) →
    elements_from mode 0 start (fold depth_after depth (take (extent kind (b ∷ bs)) (b ∷ bs))) (drop (extent kind (b ∷ bs)) (b ∷ bs))
    ≡ elements_from mode 0 start (depth_past kind depth b) (drop (extent kind (b ∷ bs)) (b ∷ bs))
unfolding elements_from
others_past mode Special start depth b bs h = past (group_closes 0 (b ∷ bs)) where
  past : Closes 0 (b ∷ bs) (group_len 0 (b ∷ bs)) → elements_from mode 0 start (fold depth_after depth (take (group_len 0 (b ∷ bs)) (b ∷ bs)))
      (drop (group_len 0 (b ∷ bs)) (b ∷ bs)) ≡ elements_from mode 0 start 0 (drop (group_len 0 (b ∷ bs)) (b ∷ bs))
  past (inl e) = rw (h, e) refl
  past (inr e) = rw e refl
others_past mode Wide start depth b bs h = rw (fold-sequence _ depth (begins_sequence-front (b ∷ bs) h)) refl
others_past mode _ start depth b bs h = refl

pub elements_from-step : (mode : TextMode) (start depth b : ℕ) (s bs : List ℕ) → s ≡ b ∷ bs →
    let kind = kind_at mode depth s in
    let n = extent kind s in
    elements_from mode 0 start depth s ≡ element_at mode start depth s ∷ elements_from mode 0 (start + length (take n s)) (depth_past kind depth b) (drop n s)
elements_from-step mode start depth b s bs e = rw e (step (kind_at mode depth (b ∷ bs)) refl) where
  step : (kind : Kind) → kind ≡ kind_at mode depth (b ∷ bs) →
      let text = take (extent kind (b ∷ bs)) (b ∷ bs) in
      elements_from mode 0 start depth (b ∷ bs) ≡ record { kind = kind; text = text; start = start; depth = depth } ∷ elements_from mode 0 (start + length text)
      (depth_past kind depth b) (drop (extent kind (b ∷ bs)) (b ∷ bs))
  step kind is =
      let n = extent kind (b ∷ bs) in
      let text = take n (b ∷ bs) in
      let stands : Stands kind depth (b ∷ bs) = rw is (stands_at mode depth (b ∷ bs)) in
      let parts = length_take_extent kind depth b bs stands in
      let fits : n ≤ length (b ∷ bs) = omega arith in
      let len : length text ≡ n = length-take-le n (b ∷ bs) fits in
      let first : elements_from mode 0 start depth (b ∷ bs) ≡ record { kind = kind; text = text; start = start; depth = depth }
      ∷ elements_from mode 0 (start + length text) (fold depth_after depth text) (drop (length text) (b ∷ bs)) =
      rw is (elements_from-cons mode start depth b bs) in
      let tail : elements_from mode 0 (start + length text) (fold depth_after depth text) (drop (length text) (b ∷ bs))
      ≡ elements_from mode 0 (start + length text) (depth_past kind depth b) (drop n (b ∷ bs)) =
      ap (λ k. elements_from mode 0 (start + length text) (fold depth_after depth text) (drop k (b ∷ bs))) len
      ∙ others_past mode kind (start + length text) depth b bs stands in
      first ∙ ap (λ (ps : List Element). record { kind = kind; text = text; start = start; depth = depth } ∷ ps) tail

pub elements_from-nil : (mode : TextMode) (skip start depth : ℕ) (s : List ℕ) → length s ≡ 0 → elements_from mode skip start depth s ≡ []
unfolding elements_from
elements_from-nil mode skip start depth [] h = refl
elements_from-nil mode skip start depth (b ∷ bs) h = absurd (omega arith)

-- ---- how many there are

pub length-elements_from : (mode : TextMode) (skip start depth : ℕ) (s : List ℕ) → length (elements_from mode skip start depth s) ≤ length s
unfolding elements_from
length-elements_from mode skip start depth [] = omega arith
length-elements_from mode (suc skip) start depth (b ∷ bs) = let h = length-elements_from mode skip (start + 1) (depth_after depth b) bs in omega arith
length-elements_from mode zero start depth (b ∷ bs) =
    let part = element_at mode start depth (b ∷ bs) in
    let h = length-elements_from mode (length part.text - 1) (start + 1) (depth_after depth b) bs in
    omega arith

pub ruleset lengths = (length-elements_from)

-- ---- the two modes

-- in a text of bytes below 128 an element is the same in both
kind_at-low : (depth b : ℕ) (bs : List ℕ) → b < 128 → kind_at Utf8 depth (b ∷ bs) ≡ kind_at Bytes depth (b ∷ bs)
unfolding kind_at
kind_at-low depth b bs h = rw (begins_sequence-low b bs h) refl

low_tail : (b : ℕ) (bs : List ℕ) → All (λ c. c < 128) (b ∷ bs) → All (λ c. c < 128) bs
low_tail b bs h = λ k d lt. h (suc k) d (omega arith)

elements_from-low : (skip start depth : ℕ) (s : List ℕ) → All (λ b. b < 128) s → elements_from Utf8 skip start depth s ≡ elements_from Bytes skip start depth s
unfolding elements_from
elements_from-low skip start depth [] h = refl
elements_from-low (suc skip) start depth (b ∷ bs) h = elements_from-low skip (start + 1) (depth_after depth b) bs (low_tail b bs h)
elements_from-low zero start depth (b ∷ bs) h =
    let here : b < 128 = h 0 0 (omega arith) in
    let part = element_at Bytes start depth (b ∷ bs) in
    rw (kind_at-low depth b bs here) (ap (λ (ps : List Element). part ∷ ps)
    (elements_from-low (length part.text - 1) (start + 1) (depth_after depth b) bs (low_tail b bs h)))

pub elements_of-low : (string : List ℕ) → All (λ b. b < 128) string → elements_of Utf8 string ≡ elements_of Bytes string
unfolding elements_of
elements_of-low string h = elements_from-low 0 0 0 string h

-- read as bytes, none is wide
kind_at-bytes : (depth : ℕ) (s : List ℕ) → is_wide (kind_at Bytes depth s) ≡ false
unfolding kind_at
kind_at-bytes depth s = at (begins_special depth s) (eqb (get_or s 0 0) 123) (eqb (get_or s 0 0) 125) where
  at : (t u v : Bool) → is_wide (cond t Special (cond u Open (cond v Close Byte))) ≡ false
  at true u v = refl
  at false true v = refl
  at false false true = refl
  at false false false = refl

elements_from-bytes : (skip start depth : ℕ) (s : List ℕ) → list_any (λ (part : Element). is_wide part.kind) (elements_from Bytes skip start depth s) ≡ false
unfolding elements_from
elements_from-bytes skip start depth [] = refl
elements_from-bytes (suc skip) start depth (b ∷ bs) = elements_from-bytes skip (start + 1) (depth_after depth b) bs
elements_from-bytes zero start depth (b ∷ bs) =
    let part = element_at Bytes start depth (b ∷ bs) in
    rw (kind_at-bytes depth (b ∷ bs)) (elements_from-bytes (length part.text - 1) (start + 1) (depth_after depth b) bs)

pub elements_of-bytes : (string : List ℕ) → list_any (λ (part : Element). is_wide part.kind) (elements_of Bytes string) ≡ false
unfolding elements_of
elements_of-bytes string = elements_from-bytes 0 0 0 string

-- ---- for the iterator

pub ruleset element_steps = (elements_from-step, elements_from-nil, extent-le, extent-some)
