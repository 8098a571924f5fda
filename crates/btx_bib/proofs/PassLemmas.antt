-- The passes, place by place.
use Rattle.std.proofs.Common.{◌≡◌, ℕ, zero, suc, arith, ◌+◌, ◌<◌, ◌≤◌, IfSome, Bool, true, false, cond, if◌then◌else◌, List, [], ◌∷◌, ◌++◌, take, drop, length}
use Rattle.std.proofs.Common.{Option, None, Some, is_some, refl, sym, ap, subst, ◌∙◌, add-one, append_assoc, append-nil, nat_eq}
use Rattle.std.specs.Prelude.{slice_get}
use Rattle.std.specs.Str.{bytes_eq}
use Rattle.std.specs.Option.{option_map, option_map_or}
use Rattle.btx_text.specs.language.Keys.{folded}
use Rattle.btx_text.specs.language.Limits.{greatest_string}
use Rattle.btx_aux.specs.language.Names.{is_same_key}
use Rattle.btx_bib.specs.declared.message.Message.{Message}
use Rattle.btx_bib.specs.language.Listing.{Slot}
use Rattle.btx_bib.specs.refinement.Finding.{first_place, changed_at}
use Rattle.btx_bib.specs.language.Passes.{body_values, check_messages, checked, inherited, inherited_from, inherited_values, is_parent, parent_at}
use Rattle.btx_bib.specs.language.Passes.{parent_messages, pass_messages, passed, slot_at, without_crossref}
use Rattle.btx_bib.specs.refinement.Passes.{check_messages_by, checked_by, parent_slot, with_body, with_field_values}
use Rattle.btx_bib.specs.refinement.Steps.{lower_keys, messages_by, parent_by, place_by, slot_by}
use Rattle.btx_bib.specs.declared.slots.Body.{Body}
use Rattle.btx_bib.proofs.ValueLemmas.{inherited-same}
use Rattle.std.proofs.lemmas.Bool.Decides.{nat_tests}
use Rattle.btx_bib.proofs.ListedKeyLemmas.{folded-same, found-first}

-- a changed list by what is at the place: two changes that agree there, and one that leaves it alone
changed_at-same : (xs : List Slot) (p : ℕ) (f g : Slot → Slot) → ((x : Slot) → slice_get xs p ≡ Some x → f x ≡ g x) → changed_at p f xs ≡ changed_at p g xs
changed_at-same [] p f g same = refl
changed_at-same (x ∷ xs) zero f g same = ap (λ (first : Slot). first ∷ xs) (same x refl)
changed_at-same (x ∷ xs) (suc p) f g same = ap (λ (rest : List Slot). x ∷ rest) (changed_at-same xs p f g same)

changed_at-keep : (xs : List Slot) (p : ℕ) (f : Slot → Slot) → ((x : Slot) → slice_get xs p ≡ Some x → f x ≡ x) → xs ≡ changed_at p f xs
changed_at-keep [] p f same = refl
changed_at-keep (x ∷ xs) zero f same = ap (λ (first : Slot). first ∷ xs) (sym (same x refl))
changed_at-keep (x ∷ xs) (suc p) f same = ap (λ (rest : List Slot). x ∷ rest) (changed_at-keep xs p f same)

names_of-changed : (xs : List Slot) (p : ℕ) (f : Slot → Slot) → ((x : Slot) → (f x).key ≡ x.key) → lower_keys (changed_at p f xs) ≡ lower_keys xs
names_of-changed [] p f keeps = refl
names_of-changed (x ∷ xs) zero f keeps = ap (λ (key : List ℕ). folded key ∷ lower_keys xs) (keeps x)
names_of-changed (x ∷ xs) (suc p) f keeps = ap (λ (rest : List (List ℕ)). folded x.key ∷ rest) (names_of-changed xs p f keeps)

-- ---- the place of a key

later : (slot : Slot) (slots : List Slot) (o : Option ℕ) → slot_by (slot ∷ slots) (option_map suc o) ≡ slot_by slots o
later slot slots None = refl
later slot slots (Some place) = refl

pub slot_at-place : (slots : List Slot) (key : List ℕ) → slot_at slots key ≡ slot_by slots (first_place (bytes_eq (folded key)) (lower_keys slots))
slot_at-place [] key = refl
slot_at-place (slot ∷ slots) key = by_test (is_same_key key slot.key) (slot_at-place slots key) where
  by_test : (b : Bool) → slot_at slots key ≡ slot_by slots (first_place (bytes_eq (folded key)) (lower_keys slots))
      → cond b (Some slot) (slot_at slots key)
      ≡ slot_by (slot ∷ slots) (if b then Some 0 else option_map suc (first_place (bytes_eq (folded key)) (lower_keys slots)))
  by_test true rest = refl
  by_test false rest = rest ∙ sym (later slot slots (first_place (bytes_eq (folded key)) (lower_keys slots)))

pub slot_at-by : (slots : List Slot) (names : List (List ℕ)) (key : List ℕ) (o : Option Slot) → names ≡ lower_keys slots
    → o ≡ slot_by slots (first_place (bytes_eq (folded key)) names) → slot_at slots key ≡ o
slot_at-by slots names key o are is = slot_at-place slots key ∙ ap (λ (ns : List (List ℕ)). slot_by slots (first_place (bytes_eq (folded key)) ns)) (sym are)
    ∙ sym is

-- ---- what a pass makes of a place

pub inherited-alone : (slots : List Slot) (slot : Slot) → parent_at slot ≡ None → inherited slots slot ≡ slot
unfolding inherited
inherited-alone slots slot none = ap (λ (o : Option (List ℕ)). inherited_from (parent_slot slots o) slot) none

pub inherited-by : (slots : List Slot) (slot : Slot) (key : List ℕ) (o : Option Slot) → parent_at slot ≡ Some key → slot_at slots key ≡ o
    → inherited slots slot ≡ inherited_from o slot
unfolding inherited
inherited-by slots slot key o some is = ap (λ (o : Option (List ℕ)). inherited_from (parent_slot slots o) slot) some
    ∙ ap (λ (o : Option Slot). inherited_from o slot) is

key-from : (o : Option Slot) (slot : Slot) → (inherited_from o slot).key ≡ slot.key
key-from None slot = refl
key-from (Some parent) slot = refl

pub key-inherited : (slots : List Slot) (slot : Slot) → (inherited slots slot).key ≡ slot.key
unfolding inherited
key-inherited slots slot = key-from (parent_slot slots (parent_at slot)) slot

pub checked-alone : (slots : List Slot) (slot : Slot) → parent_at slot ≡ None → checked slots slot ≡ slot
unfolding checked
checked-alone slots slot none = ap (λ (o : Option (List ℕ)). checked_by o slots slot) none

pub messages-alone : (slots : List Slot) (slot : Slot) → parent_at slot ≡ None → check_messages slots slot ≡ []
unfolding check_messages
messages-alone slots slot none = ap (λ (o : Option (List ℕ)). check_messages_by o slots slot) none

pub checked-is : (slots : List Slot) (slot : Slot) (key : List ℕ) (o : Option Slot) → parent_at slot ≡ Some key → slot_at slots key ≡ o
    → checked slots slot ≡ (if is_parent o then slot else without_crossref slot)
unfolding checked
checked-is slots slot key o some is = ap (λ (o : Option (List ℕ)). checked_by o slots slot) some
    ∙ ap (λ (o : Option Slot). if is_parent o then slot else without_crossref slot) is

pub messages-is : (slots : List Slot) (slot : Slot) (key : List ℕ) (o : Option Slot) → parent_at slot ≡ Some key → slot_at slots key ≡ o
    → check_messages slots slot ≡ parent_messages slot.key key o
unfolding check_messages
messages-is slots slot key o some is = ap (λ (o : Option (List ℕ)). check_messages_by o slots slot) some
    ∙ ap (λ (o : Option Slot). parent_messages slot.key key o) is

key-checked_by : (o : Option (List ℕ)) (slots : List Slot) (slot : Slot) → (checked_by o slots slot).key ≡ slot.key
key-checked_by None slots slot = refl
key-checked_by (Some key) slots slot = by_test (is_parent (slot_at slots key)) where
  by_test : (b : Bool) → (if b then slot else without_crossref slot).key ≡ slot.key
  by_test true = refl
  by_test false = refl

pub key-checked : (slots : List Slot) (slot : Slot) → (checked slots slot).key ≡ slot.key
unfolding checked
key-checked slots slot = key-checked_by (parent_at slot) slots slot

-- ---- a pass at a place

module _ (slots : List Slot) (names : List (List ℕ)) (place : ℕ) (are : names ≡ lower_keys slots) where
  -- the place of the parent that an entry has, by the keys in lower case
  abbrev parent_of : Option (List ℕ) → Option Slot
  parent_of o = slot_by slots (place_by names o)

  inherits_by : (slot : Slot) (o : Option (List ℕ)) → parent_at slot ≡ o → inherited_from (parent_of o) slot ≡ inherited slots slot
  inherits_by slot None alone = sym (inherited-alone slots slot alone)
  inherits_by slot (Some key) some = sym (inherited-by slots slot key _ some (slot_at-by slots names key _ are refl))

  pub inherits_nothing : None ≡ place_by names (parent_by (slice_get slots place)) → slots ≡ changed_at place (inherited slots) slots
  inherits_nothing none = changed_at-keep slots place (inherited slots) (λ slot there. sym (inherits_by slot (parent_at slot) refl)
      ∙ ap (λ (o : Option ℕ). inherited_from (slot_by slots o) slot) (sym (none ∙ ap (λ (o : Option Slot). place_by names (parent_by o)) there)))

  pub inherits_listed : (parent : ℕ) → Some parent ≡ place_by names (parent_by (slice_get slots place))
      → changed_at place (inherited_from (slice_get slots parent)) slots ≡ changed_at place (inherited slots) slots
  inherits_listed parent some = changed_at-same slots place (inherited_from (slice_get slots parent)) (inherited slots) (λ slot there.
      ap (λ (o : Option ℕ). inherited_from (slot_by slots o) slot) (some ∙ ap (λ (o : Option Slot). place_by names (parent_by o)) there)
      ∙ inherits_by slot (parent_at slot) refl)

  pub checks_nothing : None ≡ parent_by (slice_get slots place) → slots ≡ changed_at place (checked slots) slots
  checks_nothing none = changed_at-keep slots place (checked slots) (λ slot there. checked-alone slots slot (sym (none ∙ ap parent_by there)))

  checks_by : (slot : Slot) (b : Bool) (o : Option (List ℕ)) → parent_at slot ≡ o → true ≡ is_some o → b ≡ is_parent (parent_of o)
      → checked slots slot ≡ (if b then slot else without_crossref slot)
  checks_by slot b None alone some is = cc
  checks_by slot b (Some key) names_it some is =
      checked-is slots slot key _ names_it (slot_at-by slots names key _ are refl) ∙ ap (λ (t : Bool). if t then slot else without_crossref slot) (sym is)

  -- where there is a parent: whether it has an entry that stays
  checks_at : (b : Bool) → true ≡ is_some (parent_by (slice_get slots place)) → b ≡ is_parent (parent_of (parent_by (slice_get slots place))) → (slot : Slot)
      → slice_get slots place ≡ Some slot → checked slots slot ≡ (if b then slot else without_crossref slot)
  checks_at b some is slot there = checks_by slot b (parent_at slot) refl (some ∙ ap (λ (o : Option Slot). is_some (parent_by o)) there)
      (is ∙ ap (λ (o : Option Slot). is_parent (parent_of (parent_by o))) there)

  pub checks_staying : true ≡ is_some (parent_by (slice_get slots place)) → true ≡ is_parent (parent_of (parent_by (slice_get slots place)))
      → slots ≡ changed_at place (checked slots) slots
  checks_staying some stays = changed_at-keep slots place (checked slots) (checks_at true some stays)

  pub checks_leaving : true ≡ is_some (parent_by (slice_get slots place)) → false ≡ is_parent (parent_of (parent_by (slice_get slots place)))
      → changed_at place without_crossref slots ≡ changed_at place (checked slots) slots
  checks_leaving some leaves = changed_at-same slots place without_crossref (checked slots) (λ slot there. sym (checks_at false some leaves slot there))

  pub logs_nothing : (messages : List Message) → None ≡ parent_by (slice_get slots place) → messages ≡ messages ++ messages_by slots (slice_get slots place)
  logs_nothing messages none = sym (append-nil messages) ∙ ap (λ (more : List Message). messages ++ more) (at (slice_get slots place) none) where
    at : (o : Option Slot) → None ≡ parent_by o → [] ≡ messages_by slots o
    at None none = refl
    at (Some slot) none = sym (messages-alone slots slot (sym none))

  pub logs_parent : (child key : List ℕ) (o : Option Slot) → Some child ≡ option_map (λ (slot : Slot). slot.key) (slice_get slots place)
      → Some key ≡ parent_by (slice_get slots place) → o ≡ slot_by slots (first_place (bytes_eq (folded key)) names)
      → parent_messages child key o ≡ messages_by slots (slice_get slots place)
  logs_parent child key o = at (slice_get slots place) where
    at : (s : Option Slot) → Some child ≡ option_map (λ (slot : Slot). slot.key) s → Some key ≡ parent_by s
        → o ≡ slot_by slots (first_place (bytes_eq (folded key)) names) → parent_messages child key o ≡ messages_by slots s
    at None spelled some found = cc
    at (Some slot) spelled some found =
        let same : child ≡ slot.key = cc in
        ap (λ (c : List ℕ). parent_messages c key o) same ∙ sym (messages-is slots slot key o (sym some) (slot_at-by slots names key o are found))

-- what search tries for the second pass at a place
pub ruleset check_steps = (checks_nothing, checks_staying, checks_leaving, logs_nothing, logs_parent)

-- ---- a whole pass

split : (xs : List Slot) (p : ℕ) → p < length xs
    → (x : Slot) × ((slice_get xs p ≡ Some x) × ((drop p xs ≡ x ∷ drop (suc p) xs) × (take p xs ++ x ∷ drop (suc p) xs ≡ xs)))
split [] p h = absurd (omega arith)
split (x ∷ xs) zero h = (x, (refl, (refl, refl)))
split (x ∷ xs) (suc p) h =
    let rest = split xs p (omega arith) in
    (rest.0, (rest.1.0, (rest.1.1.0, ap (λ (ys : List Slot). x ∷ ys) rest.1.1.1)))

take-changed : (xs : List Slot) (p : ℕ) (x : Slot) (f : Slot → Slot) → slice_get xs p ≡ Some x → take (suc p) (changed_at p f xs) ≡ take p xs ++ f x ∷ []
take-changed [] p x f at = cc
take-changed (y ∷ xs) zero x f at = let is : y ≡ x = cc in ap (λ (first : Slot). f first ∷ []) is
take-changed (y ∷ xs) (suc p) x f at = ap (λ (ys : List Slot). y ∷ ys) (take-changed xs p x f at)

drop-changed : (xs : List Slot) (p : ℕ) (f : Slot → Slot) → drop (suc p) (changed_at p f xs) ≡ drop (suc p) xs
drop-changed [] p f = refl
drop-changed (y ∷ xs) zero f = refl
drop-changed (y ∷ xs) (suc p) f = drop-changed xs p f

length-changed : (xs : List Slot) (p : ℕ) (f : Slot → Slot) → length (changed_at p f xs) ≡ length xs
length-changed [] p f = refl
length-changed (x ∷ xs) zero f = refl
length-changed (x ∷ xs) (suc p) f = ap suc (length-changed xs p f)

module _ (judge : List Slot → Slot → Slot) where
  passed-next : (slots after : List Slot) (p : ℕ) → p < length slots → after ≡ changed_at p (judge slots) slots
      → passed judge (take (p + 1) after) (drop (p + 1) after) ≡ passed judge (take p slots) (drop p slots)
  passed-next slots after p within is =
      let s = split slots p within in
      ap (λ (n : ℕ). passed judge (take n after) (drop n after)) (add-one p)
      ∙ ap (λ (xs : List Slot). passed judge (take (suc p) xs) (drop (suc p) xs)) is
      ∙ ap (λ (xs : List Slot). passed judge xs (drop (suc p) (changed_at p (judge slots) slots))) (take-changed slots p s.0 (judge slots) s.1.0)
      ∙ ap (λ (xs : List Slot). passed judge (take p slots ++ judge slots s.0 ∷ []) xs) (drop-changed slots p (judge slots))
      ∙ ap (λ (xs : List Slot). passed judge (take p slots ++ judge xs s.0 ∷ []) (drop (suc p) slots)) (sym s.1.1.1)
      ∙ ap (λ (xs : List Slot). passed judge (take p slots) xs) (sym s.1.1.0)

  -- a place that is passed keeps the names of the list, its length, and what the pass comes to
  pub place_passed : ((slots : List Slot) (slot : Slot) → (judge slots slot).key ≡ slot.key) → (slots after : List Slot) (p : ℕ) → p < length slots
      → after ≡ changed_at p (judge slots) slots → (lower_keys after ≡ lower_keys slots) × (length after ≡ length slots)
      × (passed judge (take (p + 1) after) (drop (p + 1) after) ≡ passed judge (take p slots) (drop p slots))
  place_passed keeps slots after p within is = (
    ap lower_keys is ∙ names_of-changed slots p (judge slots) (keeps slots),
    ap (λ (xs : List Slot). length xs) is ∙ length-changed slots p (judge slots),
    passed-next slots after p within is,
  )

  -- what is logged at a place
  abbrev pub messages_here : (List Slot → Slot → List Message) → List Slot → Option Slot → List Message
  messages_here report slots None = []
  messages_here report slots (Some slot) = report slots slot

  pub messages-next : (report : List Slot → Slot → List Message) (slots after : List Slot) (p : ℕ) (messages messages' whole : List Message) → p < length slots
      → after ≡ changed_at p (judge slots) slots
      → messages' ≡ messages ++ messages_here report slots (slice_get slots p) → messages ++ pass_messages judge report (take p slots) (drop p slots) ≡ whole
      → messages' ++ pass_messages judge report (take (p + 1) after) (drop (p + 1) after) ≡ whole
  messages-next report slots after p messages messages' whole within is logs total =
      let s = split slots p within in
      let rest = pass_messages judge report (take p slots ++ judge slots s.0 ∷ []) (drop (suc p) slots) in
      ap (λ (n : ℕ). messages' ++ pass_messages judge report (take n after) (drop n after)) (add-one p)
      ∙ ap (λ (xs : List Slot). messages' ++ pass_messages judge report (take (suc p) xs) (drop (suc p) xs)) is
      ∙ ap (λ (xs : List Slot). messages' ++ pass_messages judge report xs (drop (suc p) (changed_at p (judge slots) slots)))
      (take-changed slots p s.0 (judge slots) s.1.0)
      ∙ ap (λ (xs : List Slot). messages' ++ pass_messages judge report (take p slots ++ judge slots s.0 ∷ []) xs) (drop-changed slots p (judge slots))
      ∙ ap (λ (ms : List Message). ms ++ rest) logs
      ∙ ap (λ (o : Option Slot). (messages ++ messages_here report slots o) ++ rest) s.1.0
      ∙ append_assoc messages (report slots s.0) rest
      ∙ ap (λ (xs : List Slot). messages ++ (report xs s.0 ++ pass_messages judge report (take p slots ++ judge xs s.0 ∷ []) (drop (suc p) slots)))
      (sym s.1.1.1)
      ∙ ap (λ (xs : List Slot). messages ++ pass_messages judge report (take p slots) xs) (sym s.1.1.0)
      ∙ total

pub messages_by-here : (slots : List Slot) (o : Option Slot) → messages_by slots o ≡ messages_here checked check_messages slots o
messages_by-here slots None = refl
messages_by-here slots (Some slot) = refl

-- ---- an entry that is away while it inherits

abbrev pub away : Slot → Slot
away slot = with_body slot None

at-place : (slots : List Slot) (place : ℕ) (slot : Slot) → slice_get slots place ≡ Some slot → slice_get (changed_at place away slots) place ≡ Some (away slot)
at-place [] place slot at = cc
at-place (s ∷ slots) zero slot at = let is : s ≡ slot = cc in ap (λ (x : Slot). Some (away x)) is
at-place (s ∷ slots) (suc place) slot at = at-place slots place slot at

at-other : (slots : List Slot) (place other : ℕ) → (other ≡ place → ⊥) → slice_get (changed_at place away slots) other ≡ slice_get slots other
at-other [] place other apart = refl
at-other (s ∷ slots) zero zero apart = absurd (apart refl)
at-other (s ∷ slots) zero (suc other) apart = refl
at-other (s ∷ slots) (suc place) zero apart = refl
at-other (s ∷ slots) (suc place) (suc other) apart = at-other slots place other (λ is. apart (ap suc is))

changed-twice : (slots : List Slot) (place : ℕ) (f g : Slot → Slot) → changed_at place g (changed_at place f slots)
    ≡ changed_at place (λ slot. g (f slot)) slots
changed-twice [] place f g = refl
changed-twice (s ∷ slots) zero f g = refl
changed-twice (s ∷ slots) (suc place) f g = ap (λ (rest : List Slot). s ∷ rest) (changed-twice slots place f g)

-- what values become by those of a parent, if there is one
abbrev pub given_by : Option Slot → List (Option (List ℕ)) → List (Option (List ℕ))
given_by None values = values
given_by (Some parent) values = inherited_values parent.key values (body_values parent.body)

given-from : (slot : Slot) (body : Body) (o : Option Slot) → slot.body ≡ Some body → with_body slot (Some (record body { values = given_by o body.values }))
    ≡ inherited_from o slot
given-from slot body None is = ap (with_body slot) (sym is)
given-from slot body (Some parent) is = rw is refl

given-own : (slot : Slot) (body : Body) → slot.body ≡ Some body → given_by (Some (away slot)) body.values ≡ given_by (Some slot) body.values
given-own slot body is = rw is (inherited-same slot.key body.values)

given-there : (slots : List Slot) (place parent : ℕ) (slot : Slot) (body : Body) → slice_get slots place ≡ Some slot → slot.body ≡ Some body →
    given_by (slice_get (changed_at place away slots) parent) body.values ≡ given_by (slice_get slots parent) body.values
given-there slots place parent slot body there is = by_test (nat_eq parent place) refl where
  by_test : (b : Bool) → nat_eq parent place ≡ b → given_by (slice_get (changed_at place away slots) parent) body.values
      ≡ given_by (slice_get slots parent) body.values
  by_test true same =
      let one : parent ≡ place = grind (arith, nat_tests) in
      ap (λ (p : ℕ). given_by (slice_get (changed_at place away slots) p) body.values) one
      ∙ ap (λ (o : Option Slot). given_by o body.values) (at-place slots place slot there)
      ∙ given-own slot body is
      ∙ ap (λ (o : Option Slot). given_by o body.values) (sym there)
      ∙ ap (λ (p : ℕ). given_by (slice_get slots p) body.values) (sym one)
  by_test false apart = ap (λ (o : Option Slot). given_by o body.values) (at-other slots place parent (λ same. grind (arith, nat_tests)))

-- the entry at a place, if there is one
abbrev pub body_in : Option Slot → Option Body
body_in o = option_map_or (λ (slot : Slot). slot.body) o None

pub given-back : (slots : List Slot) (place parent : ℕ) (body : Body) → Some body ≡ body_in (slice_get slots place) →
    changed_at place (λ slot. with_body slot (Some (record body { values = given_by (slice_get (changed_at place away slots) parent) body.values })))
    (changed_at place away slots) ≡ changed_at place (inherited_from (slice_get slots parent)) slots
given-back slots place parent body is =
    let values = given_by (slice_get (changed_at place away slots) parent) body.values in
    let put : Slot → Slot = λ slot. with_body slot (Some (record body { values = values })) in
    changed-twice slots place away put ∙ changed_at-same slots place (λ slot. put (away slot)) (inherited_from (slice_get slots parent)) (λ slot there.
    (let whole : slot.body ≡ Some body = sym (is ∙ ap body_in there) in
    ap (λ (vs : List (Option (List ℕ))). with_body slot (Some (record body { values = vs }))) (given-there slots place parent slot body there whole)
    ∙ given-from slot body (slice_get slots parent) whole))

-- nothing is inherited where no entry is
alone : (slot : Slot) (o : Option Slot) → slot.body ≡ None → inherited_from o slot ≡ slot
alone slot None is = refl
alone slot (Some parent) is = ap (λ (body : Option Body). with_body slot
    (with_field_values body (inherited_values parent.key (body_values slot.body) (body_values parent.body)))) is ∙ ap (with_body slot) (sym is)

pub given-none : (slots : List Slot) (place parent : ℕ) → None ≡ body_in (slice_get slots place) → changed_at place away slots
    ≡ changed_at place (inherited_from (slice_get slots parent)) slots
given-none slots place parent none = changed_at-same slots place away (inherited_from (slice_get slots parent)) (λ slot there.
    (let no_body : None ≡ slot.body = none ∙ ap body_in there in ap (with_body slot) no_body ∙ sym (alone slot (slice_get slots parent) (sym no_body))))

some-short : (o : Option Slot) (slot : Slot) (most : ℕ) → IfSome o (λ (slot : Slot). length slot.key ≤ most) → o ≡ Some slot → length slot.key ≤ most
some-short None slot most short is = cc
some-short (Some s) slot most short is = let same : s ≡ slot = cc in subst (λ (x : Slot). length x.key ≤ most) same short

pub away-short : (slots : List Slot) (place parent : ℕ) (slot : Slot) (most : ℕ) → IfSome (slice_get slots parent) (λ (slot : Slot). length slot.key ≤ most) →
    slice_get (changed_at place away slots) parent ≡ Some slot → length slot.key ≤ most
away-short [] place parent slot most short is = cc
away-short (s ∷ slots) zero zero slot most short is = some-short (Some (away s)) slot most short is
away-short (s ∷ slots) zero (suc parent) slot most short is = some-short (slice_get slots parent) slot most short is
away-short (s ∷ slots) (suc place) zero slot most short is = some-short (Some s) slot most short is
away-short (s ∷ slots) (suc place) (suc parent) slot most short is = away-short slots place parent slot most short is

-- ---- the length of a parent's key

pub slot_at-same : (slots : List Slot) (key : List ℕ) (slot : Slot) → slot_at slots key ≡ Some slot → is_same_key key slot.key ≡ true
slot_at-same [] key slot h = cc
slot_at-same (s ∷ slots) key slot h =
    found-first (λ (x : Slot). x.key) key s slot (slot_at slots key) (is_same_key key s.key) refl h (slot_at-same slots key slot)

length-folded : (key : List ℕ) → length (folded key) ≡ length key
length-folded [] = refl
length-folded (b ∷ key) = ap suc (length-folded key)

pub parent-length : (slots : List Slot) (key : List ℕ) (parent : Slot) → slot_at slots key ≡ Some parent → length parent.key ≡ length key
parent-length slots key parent at =
    sym (length-folded parent.key) ∙ ap (λ (name : List ℕ). length name) (sym (folded-same key parent.key (slot_at-same slots key parent at)))
    ∙ length-folded key

short_at : (slots : List Slot) (key : List ℕ) (o : Option Slot) → slot_at slots key ≡ o → length key ≤ greatest_string
    → IfSome o (λ (slot : Slot). length slot.key ≤ greatest_string)
short_at slots key None at within = tt
short_at slots key (Some parent) at within = omega (arith, parent-length slots key parent at)

pub parent_short : (slots : List Slot) (names : List (List ℕ)) (key : List ℕ) (place : ℕ) → length key ≤ greatest_string → names ≡ lower_keys slots
    → Some place ≡ first_place (bytes_eq (folded key)) names → IfSome (slice_get slots place) (λ (slot : Slot). length slot.key ≤ greatest_string)
parent_short slots names key place within are found = short_at slots key (slice_get slots place)
    (slot_at-by slots names key (slice_get slots place) are (ap (slot_by slots) found)) within

-- what search tries for the first pass at a place
pub ruleset inherit_steps = (inherits_nothing, inherits_listed, parent_short)
