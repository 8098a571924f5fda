-- The two passes of cross-references with numbers leave what the equation of inheritance says by names.
use Rattle.std.proofs.Common.{◌≡◌, ◌⊎◌, inl, inr, ℕ, zero, suc, ◌+◌, ◌<◌, ◌≤◌, Bool, true, false, cond, not, if◌then◌else◌, List, [], ◌∷◌, ◌++◌, length, map}
use Rattle.std.proofs.Common.{Option, None, Some, is_some, option_map, option_and_then, nat_lt, nat_le, sym, ap, ap₂, subst, ◌∙◌, refl, arith, append-nil}
use Rattle.std.proofs.Common.{leb-true, leb-false, true≢false}
use Rattle.std.specs.List.{flat_map, position, position_from, range_with_len}
use Rattle.std.specs.Option.{option_map_or, option_or}
use Rattle.std.specs.Prelude.{codes, slice_get, ◌&&◌, ◌||◌}
use Rattle.std.specs.Str.{bytes_eq}
use Rattle.std.proofs.lemmas.Bool.{ltb-true, lt-ltb}
use Rattle.std.proofs.Math.Bool.{and-true, and-false}
use Rattle.std.proofs.lemmas.Iterator.Adapters.{position_from-zero}
use Rattle.std.proofs.lemmas.List.{length-append}
use Rattle.std.proofs.lemmas.Option.{slice_get-map}
use Rattle.std.proofs.lemmas.Slice.Eq.{bytes_eq-Decides}
use Rattle.btx_aux.specs.language.Names.{is_same_key}
use Rattle.btx_bib.specs.language.MessageTexts.{message_line, message_text}
use Rattle.btx_text.specs.declared.log_line.LineKind.TheVariants as line
use Rattle.btx_text.specs.language.LogLines.{Line, mark_of}
use Rattle.btx_bib.specs.declared.message.Message.TheVariants.{BadReference, NestedReference}
use Rattle.btx_bib.specs.declared.slots.Body.{Body}
use Rattle.btx_bib.specs.language.Listing.{Slot as NumberedSlot}
use Rattle.btx_bib.specs.language.Entries.{parent_in}
use Rattle.btx_bib.specs.language.Passes as passes
use Rattle.btx_bib.specs.language.Passes.{passed, pass_messages, body_values, parent_at, slot_at, or_values, inherited_values, inherited, inherited_from}
use Rattle.btx_bib.specs.language.Passes.{without_parent, without_crossref, is_parent, checked, check_messages}
use Rattle.btx_bib.specs.language.Values.{field_value}
use Rattle.btx_bib.specs.language.Request.{Request as NumberedRequest}
use Rattle.btx_bib.proofs.ListedKeyLemmas.{folded-same}
use Rattle.btx_bib.proofs.PassLemmas.{inherited-alone, inherited-by, key-inherited, checked-alone, checked-is, messages-alone, messages-is, key-checked}
use Rattle.btx_bib.proofs.StayingLemmas.{view-next}
use Rattle.btx_core.specs.language.Databases.{Request, Stored}
use Rattle.btx_core.specs.language.Lists.{ListedKey, own_value, place_of, parent_place, key_at, parent_key, has_entry, is_kept_at, IsInherited, keeps_parent, parent_messages}
use Rattle.btx_core.specs.language.Lists.{bad_reference, nested_reference}
use Rattle.btx_core.specs.laws.SameLibraries.{value_named}
use Rattle.btx_core.specs.laws.SameStyles.{Numbers}
use Rattle.btx_core.proofs.SameKnownLemmas.{SameRequest, lines_more}
use Rattle.btx_text.specs.language.Keys.{folded}
use Rattle.btx_text.specs.language.Lists.{only_if}

-- ---- the place of a key

from_later : {A : Type 0} (test : A → Bool) (i : ℕ) (xs : List A) → position_from test (i + 1) xs ≡ option_map suc (position_from test i xs)
from_later test i [] = refl
from_later test i (x ∷ xs) = by (test x) (from_later test (i + 1) xs) where
  by : (t : Bool) → position_from test (i + 1 + 1) xs ≡ option_map suc (position_from test (i + 1) xs)
      → cond t (Some (i + 1)) (position_from test (i + 1 + 1) xs) ≡ option_map suc (cond t (Some i) (position_from test (i + 1) xs))
  by true h = ap Some (let e : i + 1 ≡ suc i = omega arith in e)
  by false h = h

-- the place of the first is the one before, or one further
position_next : {A : Type 0} (test : A → Bool) (x : A) (xs : List A) → position test (x ∷ xs) ≡ (if test x then Some 0 else option_map suc (position test xs))
position_next test x xs =
    position_from-zero test (x ∷ xs) ∙ ap (cond (test x) (Some 0)) (from_later test 0 xs ∙ ap (option_map suc) (sym (position_from-zero test xs)))

abbrev key_of : NumberedSlot → List ℕ
key_of s = s.key

abbrev named_key : ListedKey → List ℕ
named_key c = c.key

shifted : {A : Type 0} (x : A) (xs : List A) (o : Option ℕ) → option_and_then (slice_get (x ∷ xs)) (option_map suc o) ≡ option_and_then (slice_get xs) o
shifted x xs None = refl
shifted x xs (Some n) = refl

-- a key is found at the same place of two lists with the same keys
find_by : (key : List ℕ) (L : List NumberedSlot) (C : List ListedKey) → map key_of L ≡ map named_key C
    → slot_at L key ≡ option_and_then (slice_get L) (place_of C key)
find_by key [] [] e = refl
find_by key [] (c ∷ C) e = absurd (cc)
find_by key (s ∷ L) [] e = absurd (cc)
find_by key (s ∷ L) (c ∷ C) e =
    let first : s.key ≡ c.key = cc in
    let rest : map key_of L ≡ map named_key C = cc in
    ap (λ (k : List ℕ). cond (is_same_key key k) (Some s) (slot_at L key)) first
    ∙ by (is_same_key key c.key) (find_by key L C rest)
    ∙ sym (ap (option_and_then (slice_get (s ∷ L))) (position_next (λ (slot : ListedKey). is_same_key key slot.key) c C)) where
      by : (t : Bool) → slot_at L key ≡ option_and_then (slice_get L) (place_of C key)
          → cond t (Some s) (slot_at L key) ≡ option_and_then (slice_get (s ∷ L)) (if t then Some 0 else option_map suc (place_of C key))
      by true h = refl
      by false h = h ∙ sym (shifted s L (place_of C key))

-- what is found of a key: its place, with what stands there in both lists
record Found (L : List NumberedSlot) (C : List ListedKey) (key : List ℕ) (j : ℕ) : Type 0 where
  c : ListedKey
  s : NumberedSlot
  there : slice_get C j ≡ Some c
  here : slice_get L j ≡ Some s
  keys : s.key ≡ c.key
  same : is_same_key key c.key ≡ true
  found : slot_at L key ≡ Some s

-- the place of a key is one where its key stands
place_test : (key : List ℕ) (C : List ListedKey) (j : ℕ) → place_of C key ≡ Some j → (c : ListedKey) × (slice_get C j ≡ Some c) × (is_same_key key c.key ≡ true)
place_test key [] j e = absurd (cc)
place_test key (c ∷ C) j e = by (is_same_key key c.key) refl (place_of C key) refl (λ k f. place_test key C k f)
    (sym (position_next (λ (slot : ListedKey). is_same_key key slot.key) c C) ∙ e) where
      by : (t : Bool) → is_same_key key c.key ≡ t → (o : Option ℕ) → place_of C key ≡ o
          → ((k : ℕ) → place_of C key ≡ Some k → (d : ListedKey) × (slice_get C k ≡ Some d) × (is_same_key key d.key ≡ true))
          → (if t then Some 0 else option_map suc o) ≡ Some j → (d : ListedKey) × (slice_get (c ∷ C) j ≡ Some d) × (is_same_key key d.key ≡ true)
      by true f o g more h = let z : 0 ≡ j = cc in (c, subst (λ n. slice_get (c ∷ C) n ≡ Some c) z refl, f)
      by false f None g more h = absurd (cc)
      by false f (Some k) g more h =
          let n : suc k ≡ j = cc in
          let m = more k g in
          (m.0, subst (λ n. slice_get (c ∷ C) n ≡ Some m.0) n m.1, m.2)

mapped : (o : Option NumberedSlot) (key : List ℕ) → option_map key_of o ≡ Some key → (s : NumberedSlot) × (o ≡ Some s) × (s.key ≡ key)
mapped None key e = absurd (cc)
mapped (Some s) key e = (s, refl, cc)

find_key : (L : List NumberedSlot) (C : List ListedKey) (key : List ℕ) (j : ℕ) → map key_of L ≡ map named_key C → place_of C key ≡ Some j → Found L C key j
find_key L C key j e f =
    let t = place_test key C j f in
    let keys : option_map key_of (slice_get L j) ≡ Some t.0.key =
    sym (slice_get-map key_of L j) ∙ ap (λ (ks : List (List ℕ)). slice_get ks j) e ∙ slice_get-map named_key C j ∙ ap (option_map named_key) t.1 in
    let m = mapped (slice_get L j) t.0.key keys in
    record { c = t.0; s = m.0; there = t.1; here = m.1; keys = m.2; same = t.2; found = find_by key L C e ∙ ap (option_and_then (slice_get L)) f ∙ m.1 }

-- two spellings of one key stand at one place
place_spelled : (C : List ListedKey) (key other : List ℕ) → is_same_key key other ≡ true → place_of C other ≡ place_of C key
place_spelled C key other same = ap (λ (name : List ℕ). position (λ (slot : ListedKey). bytes_eq name (folded slot.key)) C) (sym (folded-same key other same))

-- ---- places, one after another

abbrev pub AllFrom : (ℕ → NumberedSlot → Type 0) → ℕ → List NumberedSlot → Type 0
AllFrom Is i [] = Unit {0}
AllFrom Is i (s ∷ L) = Is i s × AllFrom Is (i + 1) L

all_push : (Is : ℕ → NumberedSlot → Type 0) (i n : ℕ) (L : List NumberedSlot) (s : NumberedSlot) → n ≡ i + length L → AllFrom Is i L → Is n s
    → AllFrom Is i (L ++ s ∷ [])
all_push Is i n [] s e h k = let same : n ≡ i = omega (arith, e) in (subst (λ m. Is m s) same k, tt)
all_push Is i n (x ∷ L) s e h k = (h.0, all_push Is (i + 1) n L s (omega (arith, e)) h.1 k)

all_at : (Is : ℕ → NumberedSlot → Type 0) (i n : ℕ) (L : List NumberedSlot) (s : NumberedSlot) → AllFrom Is i L → slice_get L n ≡ Some s → Is (i + n) s
all_at Is i n [] s h e = absurd (cc)
all_at Is i zero (x ∷ L) s h e =
    let same : x ≡ s = cc in
    let zero_more : i ≡ i + 0 = omega arith in
    subst (λ m. Is m s) zero_more (subst (λ x. Is i x) same h.0)
all_at Is i (suc n) (x ∷ L) s h e = let same : i + 1 + n ≡ i + suc n = omega arith in subst (λ m. Is m s) same (all_at Is (i + 1) n L s h.1 e)

-- of the places that are done and those that are left
in_both : (Is Was : ℕ → NumberedSlot → Type 0) (i n : ℕ) (done left : List NumberedSlot) (s : NumberedSlot) → AllFrom Is i done
    → AllFrom Was (i + length done) left → slice_get (done ++ left) n ≡ Some s
    → ((n < length done) × Is (i + n) s) ⊎ ((length done ≤ n) × Was (i + n) s)
in_both Is Was i n [] left s h k e =
    let start : i + 0 ≡ i = omega arith in
    inr (omega arith, all_at Was i n left s (subst (λ m. AllFrom Was m left) start k) e)
in_both Is Was i zero (x ∷ done) left s h k e =
    let same : x ≡ s = cc in
    let zero_more : i ≡ i + 0 = omega arith in
    inl (omega arith, subst (λ m. Is m s) zero_more (subst (λ x. Is i x) same h.0))
in_both Is Was i (suc n) (x ∷ done) left s h k e =
    let start : i + suc (length done) ≡ i + 1 + length done = omega arith in
    let place : i + 1 + n ≡ i + suc n = omega arith in
    by place (in_both Is Was (i + 1) n done left s h.1 (subst (λ m. AllFrom Was m left) start k) e) where
      by : i + 1 + n ≡ i + suc n → ((n < length done) × Is (i + 1 + n) s) ⊎ ((length done ≤ n) × Was (i + 1 + n) s)
          → ((suc n < suc (length done)) × Is (i + suc n) s) ⊎ ((suc (length done) ≤ suc n) × Was (i + suc n) s)
      by place (inl g) = let lt = g.0 in inl (omega (arith, lt), subst (λ m. Is m s) place g.1)
      by place (inr g) = let le = g.0 in inr (omega (arith, le), subst (λ m. Was m s) place g.1)

not_less : (j k : ℕ) → k ≤ j → nat_lt j k ≡ false
not_less j k le = by (nat_lt j k) refl where
  by : (t : Bool) → nat_lt j k ≡ t → nat_lt j k ≡ false
  by false e = e
  by true e = let lt = ltb-true j k e in absurd (omega (arith, lt, le))

not_most : (k j : ℕ) → j < k → nat_le k j ≡ false
not_most k j lt = by (nat_le k j) refl where
  by : (t : Bool) → nat_le k j ≡ t → nat_le k j ≡ false
  by false e = e
  by true e = let le = leb-true k j e in absurd (omega (arith, lt, le))

is_most : (k j : ℕ) → k ≤ j → nat_le k j ≡ true
is_most k j le = by (nat_le k j) refl where
  by : (t : Bool) → nat_le k j ≡ t → nat_le k j ≡ true
  by true e = e
  by false e = let lt = leb-false k j e in absurd (omega (arith, lt, le))

-- ---- values

or_length : (own_value parents : List (Option (List ℕ))) → length (or_values own_value parents) ≡ length own_value
or_length [] parents = refl
or_length (v ∷ own_value) [] = refl
or_length (v ∷ own_value) (p ∷ parents) = ap suc (or_length own_value parents)

or_at : (own_value parents : List (Option (List ℕ))) (n : ℕ) → n < length own_value → field_value n (or_values own_value parents)
    ≡ option_or (field_value n own_value) (field_value n parents)
or_at [] parents n lt = absurd (omega (arith, lt))
or_at (v ∷ own_value) [] n lt = sym (plain (field_value n (v ∷ own_value))) where
  plain : (o : Option (List ℕ)) → option_or o None ≡ o
  plain None = refl
  plain (Some x) = refl
or_at (v ∷ own_value) (p ∷ parents) zero lt = refl
or_at (v ∷ own_value) (p ∷ parents) (suc n) lt = or_at own_value parents n (omega (arith, lt))

plain_or : (o : Option (List ℕ)) → option_or o None ≡ o
plain_or None = refl
plain_or (Some x) = refl

inherited_length : (key : List ℕ) (own_value parents : List (Option (List ℕ))) → length (inherited_values key own_value parents) ≡ length own_value
inherited_length key [] parents = refl
inherited_length key (v ∷ own_value) [] = refl
inherited_length key (v ∷ own_value) (p ∷ parents) = ap suc (or_length own_value parents)

inherited_at : (key : List ℕ) (own_value parents : List (Option (List ℕ))) (n : ℕ) → suc n < length own_value → field_value (suc n) (inherited_values key own_value parents)
    ≡ option_or (field_value (suc n) own_value) (field_value (suc n) parents)
inherited_at key [] parents n lt = absurd (omega (arith, lt))
inherited_at key (v ∷ own_value) [] n lt = sym (plain_or (field_value (suc n) (v ∷ own_value)))
inherited_at key (v ∷ own_value) (p ∷ parents) n lt = or_at own_value parents n (omega (arith, lt))

inherited_parent : (key : List ℕ) (own_value parents : List (Option (List ℕ))) → 0 < length own_value → parent_in (inherited_values key own_value parents) ≡ Some key
inherited_parent key [] parents lt = absurd (omega (arith, lt))
inherited_parent key (v ∷ own_value) [] lt = refl
inherited_parent key (v ∷ own_value) (p ∷ parents) lt = refl

without_length : (own_value : List (Option (List ℕ))) → length (without_parent own_value) ≡ length own_value
without_length [] = refl
without_length (v ∷ own_value) = refl

without_at : (own_value : List (Option (List ℕ))) (n : ℕ) → field_value (suc n) (without_parent own_value) ≡ field_value (suc n) own_value
without_at [] n = refl
without_at (v ∷ own_value) n = refl

without_none : (own_value : List (Option (List ℕ))) → parent_in (without_parent own_value) ≡ None
without_none [] = refl
without_none (v ∷ own_value) = refl

-- ---- what stands at a place

module _ (numbers : Numbers) (R : NumberedRequest) (Q : Request) (h : SameRequest numbers R Q) (C : List ListedKey) where
  abbrev pub IsSameBody : Option Body → Option Stored → Type 0
  IsSameBody None None = Unit {0}
  IsSameBody (Some b) (Some e) = (b.kind ≡ R.kind (folded e.kind)) × (length b.values ≡ R.count)
  IsSameBody b e = ⊥

  -- a place with these values by names, and this parent
  pub record Place (values : List ℕ → Option (List ℕ)) (its_parent : Option (List ℕ)) (j : ℕ) (s : NumberedSlot) : Type 0 where
    pub c : ListedKey
    pub there : slice_get C j ≡ Some c
    pub key : s.key ≡ c.key
    pub stays : s.stays ≡ c.stays
    pub body : IsSameBody s.body c.entry
    pub values_are : (name : List ℕ) → bytes_eq name (codes "crossref") ≡ false → value_named R.field (body_values s.body) name ≡ values name
    pub parent_is : parent_at s ≡ its_parent

  -- the same place, whose body has these values and this parent
  with_values : (values others : List ℕ → Option (List ℕ)) (its_parent other : Option (List ℕ)) (j : ℕ) (s t : NumberedSlot)
      (p : Place values its_parent j s) → t.key ≡ s.key → t.stays ≡ s.stays → IsSameBody t.body p.c.entry
      → ((name : List ℕ) → bytes_eq name (codes "crossref") ≡ false → value_named R.field (body_values t.body) name ≡ others name) → parent_at t ≡ other
      → Place others other j t
  with_values values others its_parent other j s t p same_key same_stays body are is = record {
    c = p.c;
    there = p.there;
    key = same_key ∙ p.key;
    stays = same_stays ∙ p.stays;
    body = body;
    values_are = are;
    parent_is = is;
  }

  has_body : (b : Option Body) (e : Option Stored) → IsSameBody b e → is_some e ≡ is_some b
  has_body None None k = refl
  has_body (Some b) (Some e) k = refl
  has_body None (Some e) k = absurd k
  has_body (Some b) None k = absurd k

  abbrev pub Own : ℕ → NumberedSlot → Type 0
  Own j s = Place (own_value C j) (own_value C j (codes "crossref")) j s

  module _ (value : ℕ → List ℕ → Option (List ℕ)) (inherits : IsInherited C value) where
    abbrev pub Passed : ℕ → NumberedSlot → Type 0
    Passed j s = Place (value j) (parent_key C j) j s

    abbrev pub Checked : ℕ → NumberedSlot → Type 0
    Checked j s = Place (value j) (if keeps_parent C j then parent_key C j else None) j s

    -- ---- the first pass

    -- the number of a field that isn't `crossref`
    later_field : (name : List ℕ) (n : ℕ) → bytes_eq name (codes "crossref") ≡ false → R.field name ≡ Some n → (m : ℕ) × (n ≡ suc m)
    later_field name zero apart e =
        let same : name ≡ codes "crossref" = h.one_name name (codes "crossref") 0 e h.parent in
        absurd (true≢false (sym ((bytes_eq-Decides name (codes "crossref")).1 same) ∙ apart))
    later_field name (suc m) apart e = (m, refl)

    -- an entry that names no parent that is listed keeps what it has
    alone : (k : ℕ) (s : NumberedSlot) → Own k s → parent_place C k ≡ None → parent_key C k ≡ own_value C k (codes "crossref") → Passed k s
    alone k s p none same = with_values _ _ _ _ k s s p refl refl p.body (λ name apart. p.values_are name apart
        ∙ sym (inherits k name ∙ ap (λ (o : Option ℕ). option_or (own_value C k name)
        (option_and_then (λ j. if nat_lt j k then value j name else own_value C j name) o)) none
        ∙ plain_or (own_value C k name)))
        (p.parent_is ∙ sym same)

    -- the values that an entry takes from the place of its parent
    abbrev given : ℕ → ℕ → List ℕ → Option (List ℕ)
    given k j name = if nat_lt j k then value j name else own_value C j name

    takes : (k j : ℕ) (s p : NumberedSlot) (key : List ℕ) (c : ListedKey) → Own k s → own_value C k (codes "crossref") ≡ Some key → place_of C key ≡ Some j
        → slice_get C j ≡ Some c → p.key ≡ c.key
        → ((name : List ℕ) → bytes_eq name (codes "crossref") ≡ false → value_named R.field (body_values p.body) name ≡ given k j name)
        → Passed k (inherited_from (Some p) s)
    takes k j s p key c own_k is place there keys gives = by s.body refl own_k.c.entry refl own_k.body where
      parents : List (Option (List ℕ))
      parents = body_values p.body

      found_place : parent_place C k ≡ Some j
      found_place = ap (option_and_then (place_of C)) is ∙ place

      named : parent_key C k ≡ Some p.key
      named =
          ap (option_map (λ key. option_map_or (key_at C) (place_of C key) key)) is
          ∙ ap (λ (o : Option ℕ). Some (option_map_or (key_at C) o key)) place
          ∙ ap (λ (o : Option ListedKey). Some (option_map_or (λ (slot : ListedKey). slot.key) o [])) there ∙ ap Some (sym keys)

      by : (b : Option Body) → s.body ≡ b → (e : Option Stored) → own_k.c.entry ≡ e → IsSameBody s.body own_k.c.entry → Passed k (inherited_from (Some p) s)
      by None f e g same =
          let no : None ≡ Some key = sym (ap (λ (b : Option Body). parent_in (body_values b)) f) ∙ own_k.parent_is ∙ is in
          absurd (cc)
      by (Some b) f None g same = absurd (subst (λ e. IsSameBody (Some b) e) g (subst (λ b. IsSameBody b own_k.c.entry) f same))
      by (Some b) f (Some e) g same =
          let both : IsSameBody (Some b) (Some e) = subst (λ e. IsSameBody (Some b) e) g (subst (λ b. IsSameBody b own_k.c.entry) f same) in
          let new = inherited_values p.key b.values parents in
          let whole : (inherited_from (Some p) s).body ≡ Some (record b { values = new }) =
          ap (λ (x : Option Body). option_map (λ (body : Body). record body { values = inherited_values p.key (body_values x) parents }) x) f in
          let first : 0 < R.count = h.within (codes "crossref") 0 h.parent in
          let size : length b.values ≡ R.count = both.1 in
          with_values _ _ _ _ k s (inherited_from (Some p) s) own_k refl refl
          (subst (λ x. IsSameBody x own_k.c.entry) (sym whole)
          (subst (λ e. IsSameBody (Some (record b { values = new })) e) (sym g) (both.0, inherited_length p.key b.values parents ∙ size)))
          (λ name apart. ap (λ (x : Option Body). value_named R.field (body_values x) name) whole ∙ valued name apart (R.field name) refl size)
          (ap (λ (x : Option Body). parent_in (body_values x)) whole ∙ inherited_parent p.key b.values parents (omega (arith, first, size)) ∙ sym named) where
            inherited_value : (name : List ℕ) → value k name ≡ option_or (own_value C k name) (given k j name)
            inherited_value name = inherits k name ∙ ap (λ (o : Option ℕ). option_or (own_value C k name) (option_and_then (λ j. given k j name) o)) found_place

            own_named : (name : List ℕ) → bytes_eq name (codes "crossref") ≡ false → value_named R.field b.values name ≡ own_value C k name
            own_named name apart = ap (λ (x : Option Body). value_named R.field (body_values x) name) (sym f) ∙ own_k.values_are name apart

            valued : (name : List ℕ) → bytes_eq name (codes "crossref") ≡ false → (o : Option ℕ) → R.field name ≡ o → length b.values ≡ R.count
                → option_and_then (λ (n : ℕ). field_value n (inherited_values p.key b.values parents)) (R.field name) ≡ value k name
            valued name apart None q size =
                let mine : own_value C k name ≡ None = sym (own_named name apart) ∙ ap (option_and_then (λ (n : ℕ). field_value n b.values)) q in
                let theirs : given k j name ≡ None = sym (gives name apart) ∙ ap (option_and_then (λ (n : ℕ). field_value n parents)) q in
                ap (option_and_then (λ (n : ℕ). field_value n (inherited_values p.key b.values parents))) q
                ∙ sym (inherited_value name ∙ ap₂ option_or mine theirs)
            valued name apart (Some n) q size =
                let m = later_field name n apart q in
                let within : n < R.count = h.within name n q in
                let is_later = m.1 in
                let mine : field_value (suc m.0) b.values ≡ own_value C k name = ap (λ n. field_value n b.values) (sym m.1)
                ∙ sym (ap (option_and_then (λ (n : ℕ). field_value n b.values)) q) ∙ own_named name apart in
                let theirs : field_value (suc m.0) parents ≡ given k j name = ap (λ n. field_value n parents) (sym m.1)
                ∙ sym (ap (option_and_then (λ (n : ℕ). field_value n parents)) q) ∙ gives name apart in
                ap (option_and_then (λ (n : ℕ). field_value n (inherited_values p.key b.values parents))) q
                ∙ ap (λ n. field_value n (inherited_values p.key b.values parents)) m.1
                ∙ inherited_at p.key b.values parents m.0 (omega (arith, within, is_later, size))
                ∙ ap₂ option_or mine theirs ∙ sym (inherited_value name)

    -- what the first pass makes of a place
    inherits_there : (k : ℕ) (done left : List NumberedSlot) (s : NumberedSlot) → k ≡ length done → map key_of (done ++ s ∷ left) ≡ map named_key C
        → AllFrom Passed 0 done → AllFrom Own k (s ∷ left) → Passed k (inherited (done ++ s ∷ left) s)
    inherits_there k done left s size keys before after = by (parent_at s) refl where
      L : List NumberedSlot
      L = done ++ s ∷ left

      mine : Own k s
      mine = after.0

      of_key : (key : List ℕ) → parent_at s ≡ Some key → (o : Option ℕ) → place_of C key ≡ o → Passed k (inherited L s)
      of_key key e None f =
          let is : own_value C k (codes "crossref") ≡ Some key = sym mine.parent_is ∙ e in
          let none : slot_at L key ≡ None = find_by key L C keys ∙ ap (option_and_then (slice_get L)) f in
          let same : parent_key C k ≡ Some key = ap (option_map (λ key. option_map_or (key_at C) (place_of C key) key)) is
          ∙ ap (λ (o : Option ℕ). Some (option_map_or (key_at C) o key)) f in
          subst (Passed k) (sym (inherited-by L s key None e none)) (alone k s mine (ap (option_and_then (place_of C)) is ∙ f) (same ∙ sym is))
      of_key key e (Some j) f =
          let found = find_key L C key j keys f in
          subst (Passed k) (sym (inherited-by L s key (Some found.s) e found.found))
          (takes k j s found.s key found.c mine (sym mine.parent_is ∙ e) f found.there found.keys
          (gives j found.s (in_both Passed Own 0 j done (s ∷ left) found.s before (subst (λ m. AllFrom Own m (s ∷ left)) starts after) found.here))) where
            starts : k ≡ 0 + length done
            starts = omega (arith, size)

            gives : (j : ℕ) (p : NumberedSlot) → ((j < length done) × Passed (0 + j) p) ⊎ ((length done ≤ j) × Own (0 + j) p)
                → (name : List ℕ) → bytes_eq name (codes "crossref") ≡ false → value_named R.field (body_values p.body) name ≡ given k j name
            gives j p (inl g) name apart =
                let lt = g.0 in
                let zero_less : 0 + j ≡ j = omega arith in
                let q : Passed j p = subst (λ m. Passed m p) zero_less g.1 in
                q.values_are name apart ∙ sym (ap (λ (t : Bool). if t then value j name else own_value C j name) (lt-ltb j k (omega (arith, lt, size))))
            gives j p (inr g) name apart =
                let le = g.0 in
                let zero_less : 0 + j ≡ j = omega arith in
                let q : Own j p = subst (λ m. Own m p) zero_less g.1 in
                q.values_are name apart ∙ sym (ap (λ (t : Bool). if t then value j name else own_value C j name) (not_less j k (omega (arith, le, size))))

      by : (o : Option (List ℕ)) → parent_at s ≡ o → Passed k (inherited L s)
      by None e =
          let is : own_value C k (codes "crossref") ≡ None = sym mine.parent_is ∙ e in
          subst (Passed k) (sym (inherited-alone L s e))
          (alone k s mine (ap (option_and_then (place_of C)) is) (ap (option_map (λ key. option_map_or (key_at C) (place_of C key) key)) is ∙ sym is))
      by (Some key) e = of_key key e (place_of C key) refl

    -- the list after the first pass
    pub first_pass : (left done : List NumberedSlot) → map key_of (done ++ left) ≡ map named_key C → AllFrom Passed 0 done → AllFrom Own (length done) left
        → AllFrom Passed 0 (passed inherited done left)
    first_pass [] done keys before after = before
    first_pass (s ∷ left) done keys before after =
        let L = done ++ s ∷ left in
        let new = inherited L s in
        let step : Passed (length done) new = inherits_there (length done) done left s refl keys before after in
        let longer : length done + 1 ≡ length (done ++ new ∷ []) = omega (arith, length-append done (new ∷ [])) in
        first_pass left (done ++ new ∷ []) (view-next key_of inherited key-inherited s left done ∙ keys)
        (all_push Passed 0 (length done) done new (omega arith) before step)
        (subst (λ m. AllFrom Own m left) longer after.1)

    -- ---- the second pass

    -- the parent's place is the one that its key has in the list
    parent_found : (k : ℕ) (key : List ℕ) → parent_key C k ≡ Some key → place_of C key ≡ parent_place C k
    parent_found k key e = by (own_value C k (codes "crossref")) refl where
      by : (o : Option (List ℕ)) → own_value C k (codes "crossref") ≡ o → place_of C key ≡ parent_place C k
      by None f = let no : None ≡ Some key = sym (ap (option_map (λ key. option_map_or (key_at C) (place_of C key) key)) f) ∙ e in absurd (cc)
      by (Some own_key) f = at (place_of C own_key) refl where
        at : (o : Option ℕ) → place_of C own_key ≡ o → place_of C key ≡ parent_place C k
        at None g =
            let is : Some own_key ≡ Some key = sym (ap (option_map (λ key. option_map_or (key_at C) (place_of C key) key)) f
            ∙ ap (λ (o : Option ℕ). Some (option_map_or (key_at C) o own_key)) g) ∙ e in
            let same : own_key ≡ key = cc in
            ap (place_of C) (sym same) ∙ sym (ap (option_and_then (place_of C)) f)
        at (Some j) g =
            let t = place_test own_key C j g in
            let is : Some t.0.key ≡ Some key =
            sym (ap (option_map (λ key. option_map_or (key_at C) (place_of C key) key)) f ∙ ap (λ (o : Option ℕ). Some (option_map_or (key_at C) o own_key)) g
            ∙ ap (λ (o : Option ListedKey). Some (option_map_or (λ (slot : ListedKey). slot.key) o [])) t.1) ∙ e in
            let same : t.0.key ≡ key = cc in
            place_spelled C own_key key (subst (λ x. is_same_key own_key x ≡ true) same t.2) ∙ sym (ap (option_and_then (place_of C)) f)

    -- what is left of a place is the same but for its parent
    kept_parent : (k : ℕ) (s : NumberedSlot) → Passed k s → (if keeps_parent C k then parent_key C k else None) ≡ parent_key C k → Checked k s
    kept_parent k s p same = with_values _ _ _ _ k s s p refl refl p.body p.values_are (p.parent_is ∙ sym same)

    lost_parent : (k : ℕ) (s : NumberedSlot) → Passed k s → keeps_parent C k ≡ false → Checked k (without_crossref s)
    lost_parent k s p lost = by s.body refl p.c.entry refl p.body where
      none : None ≡ (if keeps_parent C k then parent_key C k else None)
      none = sym (ap (λ (t : Bool). if t then parent_key C k else None) lost)

      by : (b : Option Body) → s.body ≡ b → (e : Option Stored) → p.c.entry ≡ e → IsSameBody s.body p.c.entry → Checked k (without_crossref s)
      by None f e g same =
          with_values _ _ _ _ k s (without_crossref s) p refl refl
          (subst (λ x. IsSameBody (option_map (λ (body : Body). record body { values = without_parent (body_values x) }) x) p.c.entry) (sym f)
          (subst (λ b. IsSameBody b p.c.entry) f same))
          (λ name apart. ap (λ (x : Option Body). value_named R.field
          (body_values (option_map (λ (body : Body). record body { values = without_parent (body_values x) }) x)) name) f
          ∙ ap (λ (x : Option Body). value_named R.field (body_values x) name) (sym f) ∙ p.values_are name apart)
          (ap (λ (x : Option Body). parent_in (body_values (option_map (λ (body : Body). record body { values = without_parent (body_values x) }) x))) f ∙ none)
      by (Some b) f None g same = absurd (subst (λ e. IsSameBody (Some b) e) g (subst (λ b. IsSameBody b p.c.entry) f same))
      by (Some b) f (Some e) g same =
          let both : IsSameBody (Some b) (Some e) = subst (λ e. IsSameBody (Some b) e) g (subst (λ b. IsSameBody b p.c.entry) f same) in
          let whole : (without_crossref s).body ≡ Some (record b { values = without_parent b.values }) =
          ap (λ (x : Option Body). option_map (λ (body : Body). record body { values = without_parent (body_values x) }) x) f in
          with_values _ _ _ _ k s (without_crossref s) p refl refl
          (subst (λ x. IsSameBody x p.c.entry) (sym whole)
          (subst (λ e. IsSameBody (Some (record b { values = without_parent b.values })) e) (sym g) (both.0, without_length b.values ∙ both.1)))
          (λ name apart. ap (λ (x : Option Body). value_named R.field (body_values x) name) whole ∙ valued name apart (R.field name) refl
          ∙ ap (λ (x : Option Body). value_named R.field (body_values x) name) (sym f) ∙ p.values_are name apart)
          (ap (λ (x : Option Body). parent_in (body_values x)) whole ∙ without_none b.values ∙ none) where
            valued : (name : List ℕ) → bytes_eq name (codes "crossref") ≡ false → (o : Option ℕ) → R.field name ≡ o
                → value_named R.field (without_parent b.values) name ≡ value_named R.field b.values name
            valued name apart None q = ap (option_and_then (λ (n : ℕ). field_value n (without_parent b.values))) q
                ∙ sym (ap (option_and_then (λ (n : ℕ). field_value n b.values)) q)
            valued name apart (Some n) q =
                let m = later_field name n apart q in
                ap (option_and_then (λ (n : ℕ). field_value n (without_parent b.values))) q ∙ ap (λ n. field_value n (without_parent b.values)) m.1
                ∙ without_at b.values m.0
                ∙ ap (λ n. field_value n b.values) (sym m.1) ∙ sym (ap (option_and_then (λ (n : ℕ). field_value n b.values)) q)

    -- a parent that has an entry and stays
    stays_same : (j : ℕ) (s : NumberedSlot) (c : ListedKey) → slice_get C j ≡ Some c → s.stays ≡ c.stays → IsSameBody s.body c.entry
        → is_parent (Some s) ≡ is_kept_at C j
    stays_same j s c there stays body =
        ap₂ (λ (t u : Bool). t && u) (sym (has_body s.body c.entry body)) stays
        ∙ sym (ap₂ (λ (o p : Option ListedKey). option_map_or (λ (slot : ListedKey). is_some slot.entry) o false && option_map_or (λ (slot : ListedKey). slot.stays) p false)
        there there)

    -- what is known of the place of a parent
    record Seen (k j : ℕ) (s : NumberedSlot) : Type 0 where
      c : ListedKey
      there : slice_get C j ≡ Some c
      stays : s.stays ≡ c.stays
      body : IsSameBody s.body c.entry
      has_parent : is_some (parent_at s) ≡ (is_some (parent_key C j) && (nat_le k j || keeps_parent C j))

    seen : (k : ℕ) (done left : List NumberedSlot) (j : ℕ) (s : NumberedSlot) → k ≡ length done → AllFrom Checked 0 done → AllFrom Passed k left
        → slice_get (done ++ left) j ≡ Some s → Seen k j s
    seen k done left j s size before after e = by (in_both Checked Passed 0 j done left s before (subst (λ m. AllFrom Passed m left) starts after) e) where
      starts : k ≡ 0 + length done
      starts = omega (arith, size)

      zero_less : 0 + j ≡ j
      zero_less = omega arith

      of_checked : (t : Bool) → keeps_parent C j ≡ t → is_some (if t then parent_key C j else None) ≡ (is_some (parent_key C j) && t)
      of_checked true f = sym (and-true (is_some (parent_key C j)))
      of_checked false f = sym (and-false (is_some (parent_key C j)))

      -- the place of a parent, of which it is known whether the first pass has kept it
      of_place : (t : Bool) → nat_le k j ≡ t → (c : ListedKey) → slice_get C j ≡ Some c → s.stays ≡ c.stays → IsSameBody s.body c.entry
          → is_some (parent_at s) ≡ (is_some (parent_key C j) && (t || keeps_parent C j)) → Seen k j s
      of_place t is c there stays body parent_place = record {
        c = c;
        there = there;
        stays = stays;
        body = body;
        has_parent = parent_place ∙ sym (ap (λ (t : Bool). is_some (parent_key C j) && (t || keeps_parent C j)) is);
      }

      by : ((j < length done) × Checked (0 + j) s) ⊎ ((length done ≤ j) × Passed (0 + j) s) → Seen k j s
      by (inl g) =
          let q : Checked j s = subst (λ m. Checked m s) zero_less g.1 in
          let lt = g.0 in
          of_place false (not_most k j (omega (arith, lt, size))) q.c q.there q.stays q.body (ap is_some q.parent_is ∙ of_checked (keeps_parent C j) refl)
      by (inr g) =
          let q : Passed j s = subst (λ m. Passed m s) zero_less g.1 in
          let le = g.0 in
          of_place true (is_most k j (omega (arith, le, size))) q.c q.there q.stays q.body (ap is_some q.parent_is ∙ sym (and-true (is_some (parent_key C j))))

    -- the lines of messages
    bad_line : (child parent_place : List ℕ) → message_line (BadReference child parent_place) ∷ [] ≡ bad_reference child parent_place ∷ []
    unfolding message_text mark_of
    bad_line child parent_place = ap (λ t. record { text = mark_of line.Error ++ t; kind = line.Error } ∷ []) (append-nil (message_text (BadReference child parent_place)))

    nested_line : (child parent_place : List ℕ) → message_line (NestedReference child parent_place) ∷ [] ≡ nested_reference child parent_place ∷ []
    unfolding message_text mark_of
    nested_line child parent_place = ap (λ t. record { text = mark_of line.Warning ++ t; kind = line.Warning } ∷ [])
        (append-nil (message_text (NestedReference child parent_place)))

    -- what the second pass makes of a place, and what it logs
    record Judged (k : ℕ) (L : List NumberedSlot) (s : NumberedSlot) : Type 0 where
      place : Checked k (checked L s)
      logged : map message_line (check_messages L s) ≡ parent_messages C k

    judged : (k : ℕ) (done left : List NumberedSlot) (s : NumberedSlot) → k ≡ length done → map key_of (done ++ s ∷ left) ≡ map named_key C
        → AllFrom Checked 0 done → AllFrom Passed k (s ∷ left) → Judged k (done ++ s ∷ left) s
    judged k done left s size keys before after = by (parent_at s) refl where
      L : List NumberedSlot
      L = done ++ s ∷ left

      mine : Passed k s
      mine = after.0

      key_same : key_at C k ≡ s.key
      key_same = ap (λ (o : Option ListedKey). option_map_or (λ (slot : ListedKey). slot.key) o []) mine.there ∙ sym mine.key

      -- what is said of a parent at a place, or of one that isn't listed
      says : List ℕ → Option ℕ → List Line
      says key o = option_map_or (λ j.
          if not (has_entry C j) then bad_reference (key_at C k) key ∷ []
          else only_if (is_some (parent_key C j) && (nat_le k j || keeps_parent C j)) (nested_reference (key_at C k) key)) o
          (bad_reference (key_at C k) key ∷ [])

      of_key : (key : List ℕ) → parent_at s ≡ Some key → (o : Option ℕ) → place_of C key ≡ o → Judged k L s
      of_key key e None f =
          let is : parent_key C k ≡ Some key = sym mine.parent_is ∙ e in
          let none : slot_at L key ≡ None = find_by key L C keys ∙ ap (option_and_then (slice_get L)) f in
          let no_parent : parent_place C k ≡ None = sym (parent_found k key is) ∙ f in
          let lost : keeps_parent C k ≡ false = ap (λ (o : Option ℕ). option_map_or (is_kept_at C) o false) no_parent in
          record {
            place = subst (Checked k) (sym (checked-is L s key None e none)) (lost_parent k s mine lost);
            logged = ap (map message_line) (messages-is L s key None e none) ∙ bad_line s.key key
                ∙ sym (ap₂ (λ (o : Option (List ℕ)) (p : Option ℕ). option_map_or (λ key. says key p) o []) is no_parent
                ∙ ap (λ x. bad_reference x key ∷ []) key_same);
          }
      of_key key e (Some j) f =
          let is : parent_key C k ≡ Some key = sym mine.parent_is ∙ e in
          let found = find_key L C key j keys f in
          let known = seen k done (s ∷ left) j found.s size before after found.here in
          let its_parent : parent_place C k ≡ Some j = sym (parent_found k key is) ∙ f in
          let keeps : keeps_parent C k ≡ is_parent (Some found.s) =
          ap (λ (o : Option ℕ). option_map_or (is_kept_at C) o false) its_parent ∙ sym (stays_same j found.s known.c known.there known.stays known.body) in
          record {
            place = subst (Checked k) (sym (checked-is L s key (Some found.s) e found.found)) (either (is_parent (Some found.s)) keeps);
            logged = ap (map message_line) (messages-is L s key (Some found.s) e found.found) ∙ said found.s known
                ∙ sym (ap₂ (λ (o : Option (List ℕ)) (p : Option ℕ). option_map_or (λ key. says key p) o []) is its_parent);
          } where
            either : (t : Bool) → keeps_parent C k ≡ t → Checked k (if t then s else without_crossref s)
            either true g = kept_parent k s mine (ap (λ (t : Bool). if t then parent_key C k else None) g)
            either false g = lost_parent k s mine g

            nested_if : (b : Bool) → map message_line (if b then NestedReference (key_at C k) key ∷ [] else []) ≡ only_if b (nested_reference (key_at C k) key)
            nested_if true = nested_line (key_at C k) key
            nested_if false = refl

            said : (p : NumberedSlot) → Seen k j p → map message_line (passes.parent_messages s.key key (Some p)) ≡ says key (Some j)
            said p known =
                let there : has_entry C j ≡ is_some p.body = ap (λ (o : Option ListedKey). option_map_or (λ (slot : ListedKey). is_some slot.entry) o false) known.there
                ∙ has_body p.body known.c.entry known.body in
                ap (map message_line) (ap₂ (λ x (t : Bool). if is_some p.body then (if t then NestedReference x key ∷ [] else []) else BadReference x key ∷ [])
                (sym key_same) known.has_parent)
                ∙ choose (is_some p.body)
                ∙ ap (λ (t : Bool). if not t then bad_reference (key_at C k) key
                ∷ [] else only_if (is_some (parent_key C j) && (nat_le k j || keeps_parent C j)) (nested_reference (key_at C k) key)) (sym there) where
                  choose : (t : Bool) → map message_line
                      (if t then (if is_some (parent_key C j) && (nat_le k j || keeps_parent C j) then NestedReference (key_at C k) key ∷ [] else []) else
                      BadReference (key_at C k) key ∷ [])
                      ≡ (if not t then bad_reference (key_at C k) key ∷ [] else only_if (is_some (parent_key C j) && (nat_le k j || keeps_parent C j))
                      (nested_reference (key_at C k) key))
                  choose true = nested_if (is_some (parent_key C j) && (nat_le k j || keeps_parent C j))
                  choose false = bad_line (key_at C k) key

      by : (o : Option (List ℕ)) → parent_at s ≡ o → Judged k L s
      by None e =
          let is : parent_key C k ≡ None = sym mine.parent_is ∙ e in
          record {
            place = subst (Checked k) (sym (checked-alone L s e)) (kept_parent k s mine (either (keeps_parent C k) is));
            logged = ap (map message_line) (messages-alone L s e) ∙ sym (ap (λ (o : Option (List ℕ)). option_map_or (λ key. says key (parent_place C k)) o []) is);
          } where
            either : (t : Bool) → parent_key C k ≡ None → (if t then parent_key C k else None) ≡ parent_key C k
            either true f = refl
            either false f = sym f
      by (Some key) e = of_key key e (place_of C key) refl

    -- the list after the second pass, and its messages
    pub record Second (done left : List NumberedSlot) : Type 0 where
      pub places : AllFrom Checked 0 (passed checked done left)
      pub logged : map message_line (pass_messages checked check_messages done left) ≡ flat_map (parent_messages C) (range_with_len (length done) (length left))

    pub second_pass : (left done : List NumberedSlot) → map key_of (done ++ left) ≡ map named_key C → AllFrom Checked 0 done → AllFrom Passed (length done) left
        → Second done left
    second_pass [] done keys before after = record { places = before; logged = refl }
    second_pass (s ∷ left) done keys before after =
        let L = done ++ s ∷ left in
        let new = checked L s in
        let step = judged (length done) done left s refl keys before after in
        let longer : length done + 1 ≡ length (done ++ new ∷ []) = omega (arith, length-append done (new ∷ [])) in
        let rest = second_pass left (done ++ new ∷ []) (view-next key_of checked key-checked s left done ∙ keys)
        (all_push Checked 0 (length done) done new (omega arith) before step.place)
        (subst (λ m. AllFrom Passed m left) longer after.1) in
        record {
          places = rest.places;
          logged = lines_more (check_messages L s) (pass_messages checked check_messages (done ++ new ∷ []) left)
              ∙ ap₂ (λ (ms ns : List Line). ms ++ ns) step.logged
              (rest.logged ∙ ap (λ n. flat_map (parent_messages C) (range_with_len n (length left))) (sym longer));
        }
