-- What is kept of the list after the stored entries is what these entries come to.
use Rattle.std.proofs.Common.{◌≡◌, ℕ, zero, suc, arith, ◌+◌, Bool, true, false, ◌||◌, cond, if◌then◌else◌, List, [], ◌∷◌, ◌++◌, map, fold, Option, None, Some}
use Rattle.std.proofs.Common.{is_some, refl, sym, ap, ◌∙◌, append_assoc, append-nil, take, drop}
use Rattle.std.specs.Prelude.{count_by, slice_get, option_to_list}
use Rattle.std.specs.Str.{bytes_eq}
use Rattle.std.specs.Option.{option_map}
use Rattle.std.specs.List.{find, list_any, flat_map, IsDistinct}
use Rattle.std.proofs.lemmas.Bool.{or_parts}
use Rattle.std.proofs.lemmas.Grind.{fold-append}
use Rattle.btx_text.specs.language.Keys.{folded}
use Rattle.btx_aux.specs.language.Names.{is_same_key, listed_as, with_key}
use Rattle.btx_bib.specs.declared.draft.ListBuilder.{ListBuilder}
use Rattle.btx_bib.specs.declared.draft.StoreDecision.{StoreDecision}
use Rattle.btx_bib.specs.declared.draft.StoreDecision.TheVariants as decision
use Rattle.btx_bib.specs.declared.slots.Slot.{Slot as CodeSlot}
use Rattle.btx_bib.specs.language.Request.{Request}
use Rattle.btx_bib.specs.refinement.Finding.{first_place, changed_at}
use Rattle.btx_bib.specs.language.Entries.{Given, body_of}
use Rattle.btx_bib.specs.language.Stored.{entry_with_key, references, is_wanted}
use Rattle.btx_bib.specs.language.Listing.{Slot, added, first_cited, list_keys, last_cited, slot_of, slots_of}
use Rattle.btx_bib.specs.refinement.Drafts.{cited_all, cited_at, empty, place_in, open_slot, with_entry, once_more, has_body, settled_all, late_slot}
use Rattle.btx_bib.specs.refinement.Drafts.{new_standing, put_at, referred_at, referred_by, standing_at, stored_at}
use Rattle.btx_bib.specs.refinement.Steps.{lower_keys}
use Rattle.btx_bib.proofs.PlaceLemmas.{place_of-none}
use Rattle.btx_bib.proofs.ListedKeyLemmas.{same_key_equiv, folded-same, is_any_key-same, entry_of-same, is_any_key-append, is_any_key-fold, distinct-fold}
use Rattle.btx_bib.proofs.ListedKeyLemmas.{found-first, distinct-none, changed_key, unchanged, none_same, changed_at-key}
use Rattle.btx_bib.proofs.SlotLemmas.{slot_by, with_entry-slot, once_more-slot, settled-slot, entry_of-new, count_by-push}
use Rattle.btx_bib.specs.refinement.Entries.{parent_of}
use Rattle.btx_bib.specs.laws.Stored.{is_any_key}
use Rattle.btx_bib.specs.refinement.Stored.{references_by}

flat_map-push : {A B : Type 0} (f : A → List B) (xs : List A) (x : A) → flat_map f (xs ++ x ∷ []) ≡ flat_map f xs ++ f x
flat_map-push f [] x = append-nil (f x)
flat_map-push f (y ∷ ys) x = ap (λ (rest : List _). f y ++ rest) (flat_map-push f ys x) ∙ sym (append_assoc (f y) (flat_map f ys) (f x))

map-push : {A B : Type 0} (f : A → B) (xs : List A) (x : A) → map f (xs ++ x ∷ []) ≡ map f xs ++ f x ∷ []
map-push f [] x = refl
map-push f (y ∷ ys) x = ap (λ (rest : List _). f y ∷ rest) (map-push f ys x)

map-same : {A B : Type 0} (f g : A → B) → ((x : A) → f x ≡ g x) → (xs : List A) → map f xs ≡ map g xs
map-same f g same [] = refl
map-same f g same (x ∷ xs) = ap (λ (first : _). first ∷ map f xs) (same x) ∙ ap (λ (rest : List _). g x ∷ rest) (map-same f g same xs)

any-folded : (keys : List (List ℕ)) (key : List ℕ) → list_any (bytes_eq (folded key)) (map folded keys) ≡ is_any_key keys key
any-folded [] key = refl
any-folded (k ∷ keys) key = ap (λ (b : Bool). is_same_key key k || b) (any-folded keys key)

-- what stands at the place of a key

at_place : (f : List ℕ → CodeSlot) (keys : List (List ℕ)) (key : List ℕ) (place : ℕ) → first_place (bytes_eq (folded key)) (map folded keys) ≡ Some place
    → (other : List ℕ) × ((is_same_key key other ≡ true) × (slice_get (map f keys) place ≡ Some (f other)))
at_place f [] key place at = cc
at_place f (k ∷ keys) key place at = by_test (is_same_key key k) refl (first_place (bytes_eq (folded key)) (map folded keys)) refl at
    (λ before there. at_place f keys key before there) where
      by_test : (b : Bool) → is_same_key key k ≡ b → (o : Option ℕ) → o ≡ first_place (bytes_eq (folded key)) (map folded keys)
          → (if b then Some 0 else option_map suc o) ≡ Some place
          → ((before : ℕ) → first_place (bytes_eq (folded key)) (map folded keys) ≡ Some before
          → (other : List ℕ) × ((is_same_key key other ≡ true) × (slice_get (map f keys) before ≡ Some (f other))))
          → (other : List ℕ) × ((is_same_key key other ≡ true) × (slice_get (f k ∷ map f keys) place ≡ Some (f other)))
      by_test true same o is h rest = let first : place ≡ 0 = cc in (k, (same, rw first refl))
      by_test false other None is h rest = cc
      by_test false other (Some before) is h rest =
          let later : place ≡ suc before = cc in
          let found = rest before (sym is) in
          (found.0, (found.1.0, rw later found.1.1))

place_of-some : (keys : List (List ℕ)) (key : List ℕ) (place : ℕ) → first_place (bytes_eq (folded key)) (map folded keys) ≡ Some place
    → is_any_key keys key ≡ true
place_of-some [] key place at = cc
place_of-some (k ∷ keys) key place at = by_test (is_same_key key k) (first_place (bytes_eq (folded key)) (map folded keys)) refl at
    (λ before there. place_of-some keys key before there) where
      by_test : (b : Bool) (o : Option ℕ) → o ≡ first_place (bytes_eq (folded key)) (map folded keys) → (if b then Some 0 else option_map suc o) ≡ Some place
          → ((before : ℕ) → first_place (bytes_eq (folded key)) (map folded keys) ≡ Some before → is_any_key keys key ≡ true)
          → (b || is_any_key keys key) ≡ true
      by_test true o is h rest = refl
      by_test false None is h rest = cc
      by_test false (Some before) is h rest = rest before (sym is)

take_drop : (n : ℕ) (xs : List (List ℕ)) → take n xs ++ drop n xs ≡ xs
take_drop zero xs = refl
take_drop (suc n) [] = refl
take_drop (suc n) (x ∷ xs) = ap (λ (rest : List (List ℕ)). x ∷ rest) (take_drop n xs)

find-none : {T : Type 0} (test : T → Bool) (xs : List T) → list_any test xs ≡ false → find test xs ≡ None
find-none test [] h = refl
find-none test (x ∷ xs) h = by_test (test x) (find-none test xs) h where
  by_test : (b : Bool) → (list_any test xs ≡ false → find test xs ≡ None) → (b || list_any test xs) ≡ false → cond b (Some x) (find test xs) ≡ None
  by_test true rest h = cc
  by_test false rest h = rest h

true_or : (a b : Bool) → a ≡ true → (a || b) ≡ true
true_or true b h = refl
true_or false b h = cc

none_if : {T : Type 0} (o : Option T) (b : Bool) → (is_some o ≡ true → b ≡ true) → b ≡ false → o ≡ None
none_if None b h f = refl
none_if (Some x) b h f = let t = h refl in cc

pub none-of : {T : Type 0} (o : Option T) → is_some o ≡ false → o ≡ None
none-of None h = refl
none-of (Some x) h = cc

count-none : (ks : List (List ℕ)) (key : List ℕ) → is_any_key ks key ≡ false → count_by (is_same_key key) ks ≡ 0
count-none ks key h = none ks 0 h where
  none : (xs : List (List ℕ)) (n : ℕ) → is_any_key xs key ≡ false → fold (λ (m : ℕ) (k : List ℕ). m + cond (is_same_key key k) 1 0) n xs ≡ n
  none [] n h = refl
  none (x ∷ xs) n h =
      let here : is_same_key key x ≡ false = (or_parts (is_same_key key x) (is_any_key xs key) h).0 in
      ap (λ (b : Bool). fold (λ (m : ℕ) (k : List ℕ). m + cond (is_same_key key k) 1 0) (n + cond b 1 0) xs) here
      ∙ ap (λ (m : ℕ). fold (λ (m : ℕ) (k : List ℕ). m + cond (is_same_key key k) 1 0) m xs) (omega arith)
      ∙ none xs n (or_parts (is_same_key key x) (is_any_key xs key) h).1

module _ (wanted : Request) where
  -- ---- the keys of the list

  -- the keys that were asked for, the keys of the list and the place for a key, after these stored entries
  abbrev pub asked : List Given → List (List ℕ)
  asked stored = first_cited wanted.all wanted.cited ++ added wanted.all wanted stored

  abbrev pub keys : List Given → List (List ℕ)
  keys stored = fold with_key [] (asked stored)

  abbrev pub slot : List Given → List ℕ → CodeSlot
  slot stored key =
      let cited = listed_as wanted.cited key in
      slot_by wanted (is_some cited) key cited (entry_with_key stored key) (count_by (is_same_key key) (references wanted stored))

  abbrev pub draft : List Given → ListBuilder
  draft stored = record { names = map folded (keys stored); slots = map (slot stored) (keys stored) }

  -- the key of each stored entry was asked for
  abbrev pub Covered : List Given → Type 0
  Covered stored = (key : List ℕ) → is_some (entry_with_key stored key) ≡ true → is_any_key (asked stored) key ≡ true

  distinct : (stored : List Given) → IsDistinct is_same_key (keys stored)
  distinct stored = distinct-fold (asked stored) [] distinct-none

  listed_keys : (stored : List Given) (key : List ℕ) → is_any_key (keys stored) key ≡ is_any_key (asked stored) key
  listed_keys stored key = is_any_key-fold (asked stored) [] key

  -- what a stored entry adds to the list and to the references
  abbrev more_by : Option ℕ → Given → List (List ℕ)
  more_by None entry = option_to_list (parent_of wanted entry)
  more_by (Some place) entry = entry.key ∷ []

  abbrev counted_by : Option ℕ → Given → List (List ℕ)
  counted_by None entry = option_to_list (parent_of wanted entry)
  counted_by (Some place) entry = []

  added-push : (all : Option ℕ) (stored : List Given) (entry : Given) → added all wanted (stored ++ entry ∷ []) ≡ added all wanted stored ++ more_by all entry
  added-push None stored entry = flat_map-push (λ (e : Given). option_to_list (parent_of wanted e)) stored entry
  added-push (Some place) stored entry = map-push (λ (e : Given). e.key) stored entry

  references-push : (all : Option ℕ) (stored : List Given) (entry : Given) → references_by all wanted (stored ++ entry ∷ []) ≡ references_by all wanted stored
      ++ counted_by all entry
  references-push None stored entry = flat_map-push (λ (e : Given). option_to_list (parent_of wanted e)) stored entry
  references-push (Some place) stored entry = refl

  asked-push : (stored : List Given) (entry : Given) → asked (stored ++ entry ∷ []) ≡ asked stored ++ more_by wanted.all entry
  asked-push stored entry =
      ap (λ (xs : List (List ℕ)). first_cited wanted.all wanted.cited ++ xs) (added-push wanted.all stored entry)
      ∙ sym (append_assoc (first_cited wanted.all wanted.cited) (added wanted.all wanted stored) (more_by wanted.all entry))

  keys-push : (stored : List Given) (entry : Given) → keys (stored ++ entry ∷ []) ≡ fold with_key (keys stored) (more_by wanted.all entry)
  keys-push stored entry = ap (fold with_key []) (asked-push stored entry) ∙ fold-append with_key [] (asked stored) (more_by wanted.all entry)

  Covered-push : (stored : List Given) (entry : Given) → Covered stored → is_any_key (asked (stored ++ entry ∷ [])) entry.key ≡ true
      → entry_with_key stored entry.key ≡ None → Covered (stored ++ entry ∷ [])
  Covered-push stored entry covered there absent key some =
      by_test (is_same_key entry.key key) refl (sym (ap (λ (o : Option Given). is_some o) (entry_of-new stored entry key absent)) ∙ some) where
        by_test : (b : Bool) → is_same_key entry.key key ≡ b → is_some (if b then Some entry else entry_with_key stored key) ≡ true
            → is_any_key (asked (stored ++ entry ∷ [])) key ≡ true
        by_test true same h = sym (is_any_key-same (asked (stored ++ entry ∷ [])) entry.key key same) ∙ there
        by_test false other h =
            ap (λ (ks : List (List ℕ)). is_any_key ks key) (asked-push stored entry)
            ∙ is_any_key-append (asked stored) (more_by wanted.all entry) key
            ∙ true_or (is_any_key (asked stored) key) (is_any_key (more_by wanted.all entry) key) (covered key h)

  -- an entry that is wanted was asked for, at the latest by itself
  asked-wanted : (stored : List Given) (entry : Given) → (all : Option ℕ) → wanted.all ≡ all → is_wanted wanted stored entry.key ≡ true
      → is_any_key (asked (stored ++ entry ∷ [])) entry.key ≡ true
  asked-wanted stored entry None plain asks =
      let same : is_wanted wanted stored entry.key ≡ is_any_key (asked stored) entry.key = rw plain refl in
      ap (λ (ks : List (List ℕ)). is_any_key ks entry.key) (asked-push stored entry)
      ∙ is_any_key-append (asked stored) (more_by wanted.all entry) entry.key
      ∙ true_or (is_any_key (asked stored) entry.key) (is_any_key (more_by wanted.all entry) entry.key) (sym same ∙ asks)
  asked-wanted stored entry (Some place) starred asks =
      ap (λ (ks : List (List ℕ)). is_any_key ks entry.key) (asked-push stored entry)
      ∙ is_any_key-append (asked stored) (more_by wanted.all entry) entry.key
      ∙ ap (λ (o : Option ℕ). is_any_key (asked stored) entry.key || is_any_key (more_by o entry) entry.key) starred
      ∙ ap (λ (b : Bool). is_any_key (asked stored) entry.key || (b || false)) (same_key_equiv.refl entry.key)
      ∙ or_true (is_any_key (asked stored) entry.key) where
        or_true : (b : Bool) → (b || (true || false)) ≡ true
        or_true true = refl
        or_true false = refl

  pub Covered-stored : (stored : List Given) (entry : Given) → Covered stored → is_wanted wanted stored entry.key ≡ true → entry_with_key stored entry.key
      ≡ None → Covered (stored ++ entry ∷ [])
  Covered-stored stored entry covered asks absent = Covered-push stored entry covered (asked-wanted stored entry wanted.all refl asks) absent

  -- the place for a key, with this entry and these references
  abbrev slot_with : Option Given → List (List ℕ) → List ℕ → CodeSlot
  slot_with entry parents key =
      let cited = listed_as wanted.cited key in
      slot_by wanted (is_some cited) key cited entry (count_by (is_same_key key) parents)

  abbrev slot_counting : Option Given → ℕ → List ℕ → CodeSlot
  slot_counting entry count key =
      let cited = listed_as wanted.cited key in
      slot_by wanted (is_some cited) key cited entry count

  -- ---- a key that gets its entry

  module _ (stored : List Given) (entry : Given) (absent : entry_with_key stored entry.key ≡ None) where
    abbrev longer : List Given
    longer = stored ++ entry ∷ []

    -- the place for a key with the new entry and these references
    abbrev by_parents : List (List ℕ) → List ℕ → CodeSlot
    by_parents parents key = slot_with (entry_with_key longer key) parents key

    -- where its reference doesn't count yet
    abbrev between : List ℕ → CodeSlot
    between = by_parents (references wanted stored)

    abbrev change : CodeSlot → CodeSlot
    change = with_entry (body_of wanted entry) entry.key

    filled-key : (key : List ℕ) → changed_key (slot stored) change entry.key key ≡ between key
    filled-key key = by_test (is_same_key entry.key key) refl ∙ ap (λ (o : Option Given). slot_with o (references wanted stored) key)
        (sym (entry_of-new stored entry key absent)) where
          by_test : (b : Bool) → is_same_key entry.key key ≡ b → (if b then change (slot stored key) else slot stored key)
              ≡ slot_with (if b then Some entry else entry_with_key stored key) (references wanted stored) key
          by_test true same =
              let none : entry_with_key stored key ≡ None = sym (entry_of-same stored entry.key key same) ∙ absent in
              ap (λ (o : Option Given). change (slot_with o (references wanted stored) key)) none
              ∙ with_entry-slot wanted key (listed_as wanted.cited key) entry (count_by (is_same_key key) (references wanted stored))
          by_test false other = refl

    filled-at : (place : ℕ) → first_place (bytes_eq (folded entry.key)) (map folded (keys stored)) ≡ Some place
        → changed_at place change (map (slot stored) (keys stored)) ≡ map between (keys stored)
    filled-at place at =
        changed_at-key (slot stored) change entry.key (keys stored) place (distinct stored) at
        ∙ map-same (changed_key (slot stored) change entry.key) between filled-key (keys stored)

    -- what is kept, with these keys and references
    abbrev shape : List (List ℕ) → List (List ℕ) → ListBuilder
    shape ks parents = record { names = map folded ks; slots = map (by_parents parents) ks }

    -- ---- its parent, without `*`

    module _ (plain : wanted.all ≡ None) (parent : List ℕ) where
      abbrev more : List (List ℕ)
      more = references wanted stored ++ parent ∷ []

      referred-key : (key : List ℕ) → changed_key between once_more parent key ≡ by_parents more key
      referred-key key = by_test (is_same_key parent key)
          ∙ ap (λ (n : ℕ). slot_counting (entry_with_key longer key) n key) (sym (count_by-push (references wanted stored) parent key)) where
            by_test : (b : Bool) → (if b then once_more (between key) else between key) ≡ slot_counting (entry_with_key longer key)
                (if b then count_by (is_same_key key) (references wanted stored) + 1 else count_by (is_same_key key) (references wanted stored)) key
            by_test true = once_more-slot wanted (is_some (listed_as wanted.cited key)) key (listed_as wanted.cited key) (entry_with_key longer key)
                (count_by (is_same_key key) (references wanted stored))
            by_test false = refl

      -- a parent that isn't listed
      open-key : Covered stored → is_any_key (asked stored) entry.key ≡ true → is_any_key (keys stored) parent ≡ false → open_slot wanted false 1 parent
          ≡ by_parents more parent
      open-key covered there none =
          let unasked : is_any_key (asked stored) parent ≡ false = sym (listed_keys stored parent) ∙ none in
          let parts : asked stored ≡ wanted.cited ++ references wanted stored = rw plain refl in
          let apart = sym (is_any_key-append wanted.cited (references wanted stored) parent) ∙ ap (λ (ks : List (List ℕ)). is_any_key ks parent) (sym parts)
          ∙ unasked in
          let uncited : listed_as wanted.cited parent ≡ None =
          find-none (is_same_key parent) wanted.cited (or_parts (is_any_key wanted.cited parent) (is_any_key (references wanted stored) parent) apart).0 in
          let unreferred : count_by (is_same_key parent) (references wanted stored) ≡ 0 =
          count-none (references wanted stored) parent
          (or_parts (is_any_key wanted.cited parent) (is_any_key (references wanted stored) parent) apart).1 in
          let once : count_by (is_same_key parent) more ≡ 1 =
          count_by-push (references wanted stored) parent parent
          ∙ ap (λ (b : Bool). if b then count_by (is_same_key parent) (references wanted stored) + 1 else count_by (is_same_key parent)
          (references wanted stored)) (same_key_equiv.refl parent)
          ∙ ap (λ (n : ℕ). n + 1) unreferred in
          let unstored : entry_with_key stored parent ≡ None = none_if (entry_with_key stored parent) (is_any_key (asked stored) parent) (covered parent)
          unasked in
          let others = by_test (is_same_key entry.key parent) refl unasked there in
          let missing : entry_with_key longer parent ≡ None = entry_of-new stored entry parent absent
          ∙ ap (λ (b : Bool). if b then Some entry else entry_with_key stored parent) others ∙ unstored in
          ap (λ (n : ℕ). slot_by wanted false parent None None n) (sym once)
          ∙ ap (λ (o : Option Given). slot_by wanted false parent None o (count_by (is_same_key parent) more)) (sym missing)
          ∙ ap (λ (c : Option (List ℕ)). slot_by wanted (is_some c) parent c (entry_with_key longer parent) (count_by (is_same_key parent) more))
          (sym uncited) where
            by_test : (b : Bool) → is_same_key entry.key parent ≡ b → is_any_key (asked stored) parent ≡ false → is_any_key (asked stored) entry.key ≡ true
                → b ≡ false
            by_test true same unasked there = let both = is_any_key-same (asked stored) entry.key parent same in cc
            by_test false other unasked there = refl

      referred-at : Covered stored → is_any_key (asked stored) entry.key ≡ true
          → referred_at wanted parent (shape (keys stored) (references wanted stored)) (first_place (bytes_eq (folded parent)) (map folded (keys stored)))
          ≡ shape (with_key (keys stored) parent) more
      referred-at covered there = by_place (first_place (bytes_eq (folded parent)) (map folded (keys stored))) refl where
        by_place : (o : Option ℕ) → first_place (bytes_eq (folded parent)) (map folded (keys stored)) ≡ o
            → referred_at wanted parent (shape (keys stored) (references wanted stored)) o ≡ shape (with_key (keys stored) parent) more
        by_place (Some place) at =
            let listed-there : is_any_key (keys stored) parent ≡ true = place_of-some (keys stored) parent place at in
            ap (λ (slots : List CodeSlot). record (shape (keys stored) (references wanted stored)) { slots = slots })
            (changed_at-key between once_more parent (keys stored) place (distinct stored) at
            ∙ map-same (changed_key between once_more parent) (by_parents more) referred-key (keys stored))
            ∙ ap (λ (b : Bool). shape (if b then keys stored else keys stored ++ parent ∷ []) more) (sym listed-there)
        by_place None at =
            let none : is_any_key (keys stored) parent ≡ false = sym (any-folded (keys stored) parent)
            ∙ place_of-none (bytes_eq (folded parent)) (map folded (keys stored)) at in
            let names = sym (map-push folded (keys stored) parent) in
            let slots =
            ap (λ (slots : List CodeSlot). slots ++ open_slot wanted false 1 parent ∷ [])
            (unchanged between once_more parent (keys stored) (none_same parent (keys stored) none)
            ∙ map-same (changed_key between once_more parent) (by_parents more) referred-key (keys stored))
            ∙ ap (λ (slot : CodeSlot). map (by_parents more) (keys stored) ++ slot ∷ []) (open-key covered there none)
            ∙ sym (map-push (by_parents more) (keys stored) parent) in
            ap (λ (ns : List (List ℕ)). record { names = ns; slots = map between (keys stored) ++ open_slot wanted false 1 parent ∷ [] }) names
            ∙ ap (λ (ss : List CodeSlot). record { names = map folded (keys stored ++ parent ∷ []); slots = ss }) slots
            ∙ ap (λ (b : Bool). shape (if b then keys stored else keys stored ++ parent ∷ []) more) (sym none)

    referred-parent : wanted.all ≡ None → Covered stored → is_any_key (asked stored) entry.key ≡ true → (parent : Option (List ℕ))
        → parent_of wanted entry ≡ parent
        → referred_by None wanted (shape (keys stored) (references wanted stored)) parent ≡ draft longer
    referred-parent plain covered there None is =
        let ks : keys longer ≡ keys stored =
        keys-push stored entry ∙ ap (λ (o : Option ℕ). fold with_key (keys stored) (more_by o entry)) plain
        ∙ ap (λ (p : Option (List ℕ)). fold with_key (keys stored) (option_to_list p)) is in
        let parents : references wanted longer ≡ references wanted stored =
        references-push wanted.all stored entry ∙ ap (λ (o : Option ℕ). references wanted stored ++ counted_by o entry) plain
        ∙ ap (λ (p : Option (List ℕ)). references wanted stored ++ option_to_list p) is ∙ append-nil (references wanted stored) in
        ap (λ (xs : List (List ℕ)). shape xs (references wanted stored)) (sym ks) ∙ ap (λ (xs : List (List ℕ)). shape (keys longer) xs) (sym parents)
    referred-parent plain covered there (Some parent) is =
        let ks : keys longer ≡ with_key (keys stored) parent =
        keys-push stored entry ∙ ap (λ (o : Option ℕ). fold with_key (keys stored) (more_by o entry)) plain
        ∙ ap (λ (p : Option (List ℕ)). fold with_key (keys stored) (option_to_list p)) is in
        let parents : references wanted longer ≡ more plain parent =
        references-push wanted.all stored entry ∙ ap (λ (o : Option ℕ). references wanted stored ++ counted_by o entry) plain
        ∙ ap (λ (p : Option (List ℕ)). references wanted stored ++ option_to_list p) is in
        referred-at plain parent covered there
        ∙ ap (λ (xs : List (List ℕ)). shape xs (more plain parent)) (sym ks) ∙ ap (λ (xs : List (List ℕ)). shape (keys longer) xs) (sym parents)

    -- ---- the whole entry, without `*`

    stored-plain : wanted.all ≡ None → Covered stored → is_wanted wanted stored entry.key ≡ true → (o : Option ℕ)
        → first_place (bytes_eq (folded entry.key)) (map folded (keys stored)) ≡ o
        → referred_by None wanted (put_at wanted entry.key (body_of wanted entry) (draft stored) o) (parent_of wanted entry) ≡ draft longer
    stored-plain plain covered asks None at =
        let none : is_any_key (keys stored) entry.key ≡ false = sym (any-folded (keys stored) entry.key)
        ∙ place_of-none (bytes_eq (folded entry.key)) (map folded (keys stored)) at in
        let same : is_wanted wanted stored entry.key ≡ is_any_key (asked stored) entry.key = rw plain refl in
        let both : true ≡ false = sym asks ∙ same ∙ sym (listed_keys stored entry.key) ∙ none in
        cc
    stored-plain plain covered asks (Some place) at =
        let same : is_wanted wanted stored entry.key ≡ is_any_key (asked stored) entry.key = rw plain refl in
        ap (λ (slots : List CodeSlot). referred_by None wanted (record { names = map folded (keys stored); slots = slots }) (parent_of wanted entry))
        (filled-at place at)
        ∙ referred-parent plain covered (sym same ∙ asks) (parent_of wanted entry) refl

    -- ---- the same with `*`

    module _ (count : ℕ) (starred : wanted.all ≡ Some count) where
      uncounted : (entries : List Given) → references wanted entries ≡ []
      uncounted entries = rw starred refl

      keys-starred : keys longer ≡ with_key (keys stored) entry.key
      keys-starred = keys-push stored entry ∙ ap (λ (o : Option ℕ). fold with_key (keys stored) (more_by o entry)) starred

      whole : (ks : List (List ℕ)) → keys longer ≡ ks → shape ks (references wanted stored) ≡ draft longer
      whole ks are =
          ap (λ (xs : List (List ℕ)). shape xs (references wanted stored)) (sym are)
          ∙ ap (λ (xs : List (List ℕ)). shape (keys longer) xs) (uncounted stored ∙ sym (uncounted longer))

      late-slot : (cited : Option (List ℕ)) (parents : List (List ℕ)) → parents ≡ []
          → with_entry (body_of wanted entry) entry.key (late_slot wanted entry.key cited) ≡ slot_by wanted (is_some cited) entry.key cited (Some entry)
          (count_by (is_same_key entry.key) parents)
      late-slot None parents are = rw are refl
      late-slot (Some spelling) parents are = rw are refl

      late-key : with_entry (body_of wanted entry) entry.key (late_slot wanted entry.key (listed_as wanted.cited entry.key)) ≡ between entry.key
      late-key =
          let found : entry_with_key longer entry.key ≡ Some entry =
          entry_of-new stored entry entry.key absent ∙ ap (λ (b : Bool). if b then Some entry else entry_with_key stored entry.key)
          (same_key_equiv.refl entry.key) in
          late-slot (listed_as wanted.cited entry.key) (references wanted stored) (uncounted stored)
          ∙ ap (λ (o : Option Given). slot_with o (references wanted stored) entry.key) (sym found)

      stored-starred : (o : Option ℕ) → first_place (bytes_eq (folded entry.key)) (map folded (keys stored)) ≡ o
          → put_at wanted entry.key (body_of wanted entry) (draft stored) o ≡ draft longer
      stored-starred (Some place) at =
          let there : is_any_key (keys stored) entry.key ≡ true = place_of-some (keys stored) entry.key place at in
          let are : keys longer ≡ keys stored = keys-starred ∙ ap (λ (b : Bool). if b then keys stored else keys stored ++ entry.key ∷ []) there in
          ap (λ (slots : List CodeSlot). record { names = map folded (keys stored); slots = slots }) (filled-at place at) ∙ whole (keys stored) are
      stored-starred None at =
          let none : is_any_key (keys stored) entry.key ≡ false = sym (any-folded (keys stored) entry.key)
          ∙ place_of-none (bytes_eq (folded entry.key)) (map folded (keys stored)) at in
          let are : keys longer ≡ keys stored ++ entry.key ∷ [] = keys-starred ∙ ap (λ (b : Bool). if b then keys stored else keys stored ++ entry.key ∷ [])
          none in
          let late = with_entry (body_of wanted entry) entry.key (late_slot wanted entry.key (listed_as wanted.cited entry.key)) in
          let slots : map (slot stored) (keys stored) ++ late ∷ [] ≡ map between (keys stored ++ entry.key ∷ []) =
          ap (λ (ss : List CodeSlot). ss ++ late ∷ []) (unchanged (slot stored) change entry.key (keys stored) (none_same entry.key (keys stored) none)
          ∙ map-same (changed_key (slot stored) change entry.key) between filled-key (keys stored))
          ∙ ap (λ (s : CodeSlot). map between (keys stored) ++ s ∷ []) late-key
          ∙ sym (map-push between (keys stored) entry.key) in
          ap (λ (ns : List (List ℕ)). record { names = ns; slots = map (slot stored) (keys stored) ++ late ∷ [] })
          (sym (map-push folded (keys stored) entry.key))
          ∙ ap (λ (ss : List CodeSlot). record { names = map folded (keys stored ++ entry.key ∷ []); slots = ss }) slots
          ∙ whole (keys stored ++ entry.key ∷ []) are

    -- ---- the whole entry

    by_all : (all : Option ℕ) → wanted.all ≡ all → Covered stored → is_wanted wanted stored entry.key ≡ true
        → referred_by all wanted (put_at wanted entry.key (body_of wanted entry) (draft stored) (place_in (draft stored) entry.key)) (parent_of wanted entry)
        ≡ draft longer
    by_all None plain covered asks = stored-plain plain covered asks (place_in (draft stored) entry.key) refl
    by_all (Some count) starred covered asks = stored-starred count starred (place_in (draft stored) entry.key) refl

    pub stored_at-draft : Covered stored → is_wanted wanted stored entry.key ≡ true
        → stored_at wanted entry.key (body_of wanted entry) (draft stored) (place_in (draft stored) entry.key) ≡ draft longer
    unfolding stored_at body_of
    stored_at-draft covered asks = by_all wanted.all refl covered asks

  -- ---- how an entry stands

  has-body : (stored : List Given) (key other : List ℕ) → is_same_key key other ≡ true → has_body (Some (slot stored other))
      ≡ is_some (entry_with_key stored key)
  has-body stored key other same = by_entry (entry_with_key stored other)
      ∙ ap (λ (o : Option Given). is_some o) (sym (entry_of-same stored key other same)) where
        by_entry : (o : Option Given) → is_some (option_map (body_of wanted) o) ≡ is_some o
        by_entry None = refl
        by_entry (Some e) = refl

  -- how an entry stands, by whether one of its key is stored, and whether it is wanted
  abbrev pub standing_of : Bool → Bool → StoreDecision
  standing_of repeated asks = if repeated then decision.Repeated else (if asks then decision.Expected else decision.Unwanted)

  standing-new : (stored : List Given) (key : List ℕ) → (all : Option ℕ) → wanted.all ≡ all → is_any_key (asked stored) key ≡ false
      → new_standing all ≡ (if is_wanted wanted stored key then decision.Expected else decision.Unwanted)
  standing-new stored key None plain unasked =
      let same : is_wanted wanted stored key ≡ is_any_key (asked stored) key = rw plain refl in
      ap (λ (b : Bool). if b then decision.Expected else decision.Unwanted) (sym unasked ∙ sym same)
  standing-new stored key (Some place) starred unasked =
      let asks : is_wanted wanted stored key ≡ true = rw starred refl in
      ap (λ (b : Bool). if b then decision.Expected else decision.Unwanted) (sym asks)

  wanted-listed : (stored : List Given) (key : List ℕ) → (all : Option ℕ) → wanted.all ≡ all → is_any_key (asked stored) key ≡ true
      → is_wanted wanted stored key ≡ true
  wanted-listed stored key None plain there =
      let same : is_wanted wanted stored key ≡ is_any_key (asked stored) key = rw plain refl in same ∙ there
  wanted-listed stored key (Some place) starred there = rw starred refl

  standing-by : (stored : List Given) (key : List ℕ) → Covered stored → (o : Option ℕ) → first_place (bytes_eq (folded key)) (map folded (keys stored)) ≡ o
      → standing_at wanted (draft stored) o ≡ standing_of (is_some (entry_with_key stored key)) (is_wanted wanted stored key)
  standing-by stored key covered None at =
      let none : is_any_key (keys stored) key ≡ false = sym (any-folded (keys stored) key) ∙ place_of-none (bytes_eq (folded key)) (map folded (keys stored))
      at in
      let unasked : is_any_key (asked stored) key ≡ false = sym (listed_keys stored key) ∙ none in
      let unstored : entry_with_key stored key ≡ None = none_if (entry_with_key stored key) (is_any_key (asked stored) key) (covered key) unasked in
      standing-new stored key wanted.all refl unasked
      ∙ ap (λ (o : Option Given). standing_of (is_some o) (is_wanted wanted stored key)) (sym unstored)
  standing-by stored key covered (Some place) at =
      let found = at_place (slot stored) (keys stored) key place at in
      let there : is_any_key (asked stored) key ≡ true = sym (listed_keys stored key) ∙ place_of-some (keys stored) key place at in
      let asks : is_wanted wanted stored key ≡ true = wanted-listed stored key wanted.all refl there in
      ap (λ (b : Bool). if b then decision.Repeated else decision.Expected) (ap has_body found.1.1 ∙ has-body stored key found.0 found.1.0)
      ∙ ap (λ (w : Bool). standing_of (is_some (entry_with_key stored key)) w) (sym asks)

  pub standing-draft : (stored : List Given) (key : List ℕ) → Covered stored
      → standing_at wanted (draft stored) (place_in (draft stored) key) ≡ standing_of (is_some (entry_with_key stored key)) (is_wanted wanted stored key)
  standing-draft stored key covered = standing-by stored key covered (place_in (draft stored) key) refl

  -- ---- cited keys

  listed_as-first : (done : List (List ℕ)) (key : List ℕ) (rest : List (List ℕ)) → is_any_key done key ≡ false → listed_as (done ++ key ∷ rest) key ≡ Some key
  listed_as-first [] key rest none = ap (λ (b : Bool). cond b (Some key) (listed_as rest key)) (same_key_equiv.refl key)
  listed_as-first (k ∷ done) key rest none =
      ap (λ (b : Bool). cond b (Some k) (listed_as (done ++ key ∷ rest) key)) (or_parts (is_same_key key k) (is_any_key done key) none).0
      ∙ listed_as-first done key rest (or_parts (is_same_key key k) (is_any_key done key) none).1

  -- the list with these keys, where no reference counts
  abbrev pub listing : List Given → List (List ℕ) → ListBuilder
  listing stored ks = record { names = map folded ks; slots = map (slot stored) ks }

  module _ (stored : List Given) (uncounted : references wanted stored ≡ []) where
    -- the cited keys so far, and the stored entries, have their places
    abbrev Begun : List (List ℕ) → List (List ℕ) → Type 0
    Begun done ks = ((key : List ℕ) → is_any_key done key ≡ true → is_any_key ks key ≡ true)
        × ((key : List ℕ) → is_some (entry_with_key stored key) ≡ true → is_any_key ks key ≡ true)

    false_if : (a b : Bool) → (a ≡ true → b ≡ true) → b ≡ false → a ≡ false
    false_if true b h f = let t = h refl in cc
    false_if false b h f = refl

    open-cited : (done ks rest : List (List ℕ)) (key : List ℕ) → wanted.cited ≡ done ++ key ∷ rest → Begun done ks → is_any_key ks key ≡ false
        → open_slot wanted true 0 key ≡ slot stored key
    open-cited done ks rest key parts begun none =
        let undone : is_any_key done key ≡ false = false_if (is_any_key done key) (is_any_key ks key) (begun.0 key) none in
        let cited : listed_as wanted.cited key ≡ Some key = ap (λ (xs : List (List ℕ)). listed_as xs key) parts ∙ listed_as-first done key rest undone in
        let unstored : entry_with_key stored key ≡ None = none_if (entry_with_key stored key) (is_any_key ks key) (begun.1 key) none in
        ap (λ (xs : List (List ℕ)). slot_by wanted true key (Some key) None (count_by (is_same_key key) xs)) (sym uncounted)
        ∙ ap (λ (o : Option Given). slot_by wanted true key (Some key) o (count_by (is_same_key key) (references wanted stored))) (sym unstored)
        ∙ ap (λ (c : Option (List ℕ)). slot_by wanted (is_some c) key c (entry_with_key stored key) (count_by (is_same_key key) (references wanted stored)))
        (sym cited)

    cited-listing : (done ks rest : List (List ℕ)) (key : List ℕ) → wanted.cited ≡ done ++ key ∷ rest → Begun done ks → (o : Option ℕ)
        → first_place (bytes_eq (folded key)) (map folded ks) ≡ o
        → cited_at wanted key (listing stored ks) o ≡ listing stored (with_key ks key)
    cited-listing done ks rest key parts begun (Some place) at =
        ap (λ (b : Bool). listing stored (if b then ks else ks ++ key ∷ [])) (sym (place_of-some ks key place at))
    cited-listing done ks rest key parts begun None at =
        let none : is_any_key ks key ≡ false = sym (any-folded ks key) ∙ place_of-none (bytes_eq (folded key)) (map folded ks) at in
        ap (λ (ns : List (List ℕ)). record { names = ns; slots = map (slot stored) ks ++ open_slot wanted true 0 key ∷ [] }) (sym (map-push folded ks key))
        ∙ ap (λ (s : CodeSlot). record { names = map folded (ks ++ key ∷ []); slots = map (slot stored) ks ++ s ∷ [] })
        (open-cited done ks rest key parts begun none)
        ∙ ap (λ (ss : List CodeSlot). record { names = map folded (ks ++ key ∷ []); slots = ss }) (sym (map-push (slot stored) ks key))
        ∙ ap (λ (b : Bool). listing stored (if b then ks else ks ++ key ∷ [])) (sym none)

    kept-key : (ks : List (List ℕ)) (new key : List ℕ) → is_any_key ks key ≡ true → is_any_key (with_key ks new) key ≡ true
    kept-key ks new key there = is_any_key-fold (new ∷ []) ks key ∙ true_or (is_any_key ks key) (is_any_key (new ∷ []) key) there

    Begun-next : (done ks : List (List ℕ)) (new : List ℕ) → Begun done ks → Begun (done ++ new ∷ []) (with_key ks new)
    Begun-next done ks new begun = (λ key h. by_done key (sym (is_any_key-append done (new ∷ []) key) ∙ h), λ key h. kept-key ks new key (begun.1 key h)) where
      by_done : (key : List ℕ) → (is_any_key done key || is_any_key (new ∷ []) key) ≡ true → is_any_key (with_key ks new) key ≡ true
      by_done key h = by_test (is_any_key done key) refl h where
        or_last : (a b : Bool) → b ≡ true → (a || b) ≡ true
        or_last true b h = refl
        or_last false b h = h

        by_test : (b : Bool) → is_any_key done key ≡ b → (b || is_any_key (new ∷ []) key) ≡ true → is_any_key (with_key ks new) key ≡ true
        by_test true there h = kept-key ks new key (begun.0 key there)
        by_test false absent h = is_any_key-fold (new ∷ []) ks key ∙ or_last (is_any_key ks key) (is_any_key (new ∷ []) key) h

    pub cited_all-listing : (more done ks rest : List (List ℕ)) → wanted.cited ≡ done ++ (more ++ rest) → Begun done ks
        → cited_all wanted (listing stored ks) more ≡ listing stored (fold with_key ks more)
    cited_all-listing [] done ks rest parts begun = refl
    cited_all-listing (key ∷ more) done ks rest parts begun =
        ap (λ (d : ListBuilder). cited_all wanted d more) (cited-listing done ks (more ++ rest) key parts begun (place_in (listing stored ks) key) refl)
        ∙ cited_all-listing more (done ++ key ∷ []) (with_key ks key) rest (parts ∙ sym (append_assoc done (key ∷ []) (more ++ rest)))
        (Begun-next done ks key begun)

  -- ---- the keys of the places

  found-same : (ks : List (List ℕ)) (key other : List ℕ) → listed_as ks key ≡ Some other → is_same_key key other ≡ true
  found-same [] key other h = cc
  found-same (k ∷ ks) key other h =
      found-first (λ (x : List ℕ). x) key k other (listed_as ks key) (is_same_key key k) refl h (found-same ks key other)

  entry-same : (entries : List Given) (key : List ℕ) (entry : Given) → entry_with_key entries key ≡ Some entry → is_same_key key entry.key ≡ true
  entry-same [] key entry h = cc
  entry-same (e ∷ entries) key entry h =
      found-first (λ (x : Given). x.key) key e entry (entry_with_key entries key) (is_same_key key e.key) refl h (entry-same entries key entry)

  slot-key : (stored : List Given) (key : List ℕ) → folded key ≡ folded (slot stored key).key
  slot-key stored key = by_case (listed_as wanted.cited key) refl (entry_with_key stored key) refl where
    by_case : (o : Option (List ℕ)) → listed_as wanted.cited key ≡ o → (e : Option Given) → entry_with_key stored key ≡ e
        → folded key ≡ folded (slot_by wanted (is_some o) key o e 0).key
    by_case (Some other) is e at = folded-same key other (found-same wanted.cited key other is)
    by_case None is (Some entry) at = folded-same key entry.key (entry-same stored key entry at)
    by_case None is None at = refl

  pub names-listing : (stored : List Given) (ks : List (List ℕ)) → map folded ks ≡ lower_keys (settled_all (map (slot stored) ks))
  names-listing stored [] = refl
  names-listing stored (k ∷ ks) = ap (λ (f : List ℕ). f ∷ map folded ks) (slot-key stored k)
      ∙ ap (λ (fs : List (List ℕ)). folded (slot stored k).key ∷ fs) (names-listing stored ks)

  -- ---- the beginning and the end

  references-none : (all : Option ℕ) → references_by all wanted [] ≡ []
  references-none None = refl
  references-none (Some place) = refl

  added-none : (all : Option ℕ) → added all wanted [] ≡ []
  added-none None = refl
  added-none (Some place) = refl

  first-parts : (all : Option ℕ) → first_cited all wanted.cited ++ last_cited all wanted.cited ≡ wanted.cited
  first-parts None = append-nil wanted.cited
  first-parts (Some place) = take_drop place wanted.cited

  pub first-draft : cited_all wanted empty (first_cited wanted.all wanted.cited) ≡ draft []
  first-draft =
      let same : asked [] ≡ first_cited wanted.all wanted.cited = ap (λ (xs : List (List ℕ)). first_cited wanted.all wanted.cited ++ xs) (added-none wanted.all)
      ∙ append-nil (first_cited wanted.all wanted.cited) in
      cited_all-listing [] (references-none wanted.all) (first_cited wanted.all wanted.cited) [] [] (last_cited wanted.all wanted.cited)
      (sym (first-parts wanted.all)) (λ key h. absurd (untrue h), λ key h. absurd (untrue h))
      ∙ ap (λ (ks : List (List ℕ)). listing [] (fold with_key [] ks)) (sym same) where
        untrue : false ≡ true → ⊥
        untrue h = cc

  covered-keys : (stored : List Given) (key : List ℕ) → Covered stored → is_some (entry_with_key stored key) ≡ true → is_any_key (keys stored) key ≡ true
  covered-keys stored key covered some = listed_keys stored key ∙ covered key some

  first-keys : (stored : List Given) (key : List ℕ) → is_any_key (first_cited wanted.all wanted.cited) key ≡ true → is_any_key (keys stored) key ≡ true
  first-keys stored key there =
      listed_keys stored key
      ∙ is_any_key-append (first_cited wanted.all wanted.cited) (added wanted.all wanted stored) key
      ∙ true_or (is_any_key (first_cited wanted.all wanted.cited) key) (is_any_key (added wanted.all wanted stored) key) there

  last-by : (stored : List Given) → Covered stored → (all : Option ℕ) → wanted.all ≡ all → cited_all wanted (draft stored) (last_cited all wanted.cited)
      ≡ listing stored (fold with_key (keys stored) (last_cited all wanted.cited))
  last-by stored covered None plain = refl
  last-by stored covered (Some place) starred =
      let uncounted : references wanted stored ≡ [] = rw starred refl in
      let parts : wanted.cited ≡ first_cited wanted.all wanted.cited ++ (last_cited (Some place) wanted.cited ++ []) =
      sym (first-parts wanted.all)
      ∙ ap (λ (o : Option ℕ). first_cited wanted.all wanted.cited ++ last_cited o wanted.cited) starred
      ∙ ap (λ (xs : List (List ℕ)). first_cited wanted.all wanted.cited ++ xs) (sym (append-nil (last_cited (Some place) wanted.cited))) in
      cited_all-listing stored uncounted (last_cited (Some place) wanted.cited) (first_cited wanted.all wanted.cited) (keys stored) [] parts
      (λ key h. first-keys stored key h, λ key h. covered-keys stored key covered h)

  pub last-draft : (stored : List Given) → Covered stored → cited_all wanted (draft stored) (last_cited wanted.all wanted.cited)
      ≡ listing stored (list_keys wanted stored)
  last-draft stored covered = last-by stored covered wanted.all refl

  settled-slots : (stored : List Given) (ks : List (List ℕ)) → settled_all (map (slot stored) ks) ≡ map (slot_of wanted stored) ks
  settled-slots stored [] = refl
  settled-slots stored (k ∷ ks) =
      ap (λ (first : Slot). first ∷ settled_all (map (slot stored) ks)) (settled-slot wanted stored k)
      ∙ ap (λ (rest : List Slot). slot_of wanted stored k ∷ rest) (settled-slots stored ks)

  pub slots-listing : (stored : List Given) → settled_all (listing stored (list_keys wanted stored)).slots ≡ slots_of wanted stored
  slots-listing stored = settled-slots stored (list_keys wanted stored)

  pub covered-none : Covered []
  covered-none key h = absurd (untrue h) where
    untrue : false ≡ true → ⊥
    untrue h = cc
