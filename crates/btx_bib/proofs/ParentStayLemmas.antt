-- Where no reference is asked for, each parent that has an entry stays.
use Rattle.std.proofs.Common.{◌≡◌, ℕ, nat_le, arith, Bool, true, false, ◌||◌, ◌&&◌, cond, List, [], ◌∷◌, ◌++◌, map, Option, None, Some, is_some, refl, sym, ap}
use Rattle.std.proofs.Common.{◌∙◌}
use Rattle.std.specs.Prelude.{count_by}
use Rattle.std.specs.Option.{option_map, option_or, unwrap_or}
use Rattle.std.specs.List.{filter, find}
use Rattle.std.proofs.lemmas.Bool.Decides.{nat_tests}
use Rattle.btx_aux.specs.language.Names.{is_same_key, listed_as}
use Rattle.btx_bib.specs.language.Request.{Request}
use Rattle.btx_bib.specs.language.Entries.{Given}
use Rattle.btx_bib.specs.language.Stored.{entry_with_key, parents_in, references}
use Rattle.btx_bib.specs.language.Listing.{first_cited, added, last_cited, list_keys}
use Rattle.btx_bib.specs.laws.Laws.{keeps_entry, stored_by}
use Rattle.btx_bib.specs.laws.Parents.{NoParentLeaves}
use Rattle.btx_bib.proofs.ListedKeyLemmas.{same_key_equiv, found-first, entry_of-same, is_any_key-append, is_any_key-fold}
use Rattle.btx_bib.proofs.StayingLemmas.{list-is-kept}
use Rattle.btx_bib.specs.laws.Listing.{spelled, stays}
use Rattle.btx_bib.specs.laws.Stored.{is_any_key, keys_in}
use Rattle.btx_bib.specs.refinement.Listing.{first_keys}

or-right : (a b : Bool) → b ≡ true → (a || b) ≡ true
or-right true b h = refl
or-right false b h = h

or-left : (a b : Bool) → a ≡ true → (a || b) ≡ true
or-left true b h = refl
or-left false b h = cc

-- ---- a parent that has an entry is on the list

stored-key : (stored : List Given) (key : List ℕ) → is_some (entry_with_key stored key) ≡ true → is_any_key (keys_in stored) key ≡ true
stored-key [] key h = cc
stored-key (given ∷ stored) key h = by_test (is_same_key key given.key) h (stored-key stored key) where
  by_test : (b : Bool) → is_some (cond b (Some given) (entry_with_key stored key)) ≡ true
      → (is_some (entry_with_key stored key) ≡ true → is_any_key (keys_in stored) key ≡ true) → (b || is_any_key (keys_in stored) key) ≡ true
  by_test true h later = refl
  by_test false h later = later h

added-parent : (all : Option ℕ) (wanted : Request) (stored : List Given) (parent : List ℕ) → is_any_key (parents_in wanted stored) parent ≡ true
    → is_some (entry_with_key stored parent) ≡ true → is_any_key (added all wanted stored) parent ≡ true
added-parent None wanted stored parent named has = named
added-parent (Some place) wanted stored parent named has = stored-key stored parent has

on-list : (wanted : Request) (stored : List Given) (parent : List ℕ) → is_any_key (parents_in wanted stored) parent ≡ true
    → is_some (entry_with_key stored parent) ≡ true → is_any_key (list_keys wanted stored) parent ≡ true
on-list wanted stored parent named has =
    let cited = first_cited wanted.all wanted.cited in
    let more = added wanted.all wanted stored in
    let last = last_cited wanted.all wanted.cited in
    is_any_key-fold last (first_keys wanted stored) parent
    ∙ or-left (is_any_key (first_keys wanted stored) parent) (is_any_key last parent)
    (is_any_key-fold (cited ++ more) [] parent ∙ is_any_key-append cited more parent
    ∙ or-right (is_any_key cited parent) (is_any_key more parent) (added-parent wanted.all wanted stored parent named has))

-- ---- a key of the list that has an entry stays

found-same : {T : Type 0} (key_in : T → List ℕ) (xs : List T) (key : List ℕ) (x : T) → find (λ (y : T). is_same_key key (key_in y)) xs ≡ Some x
    → is_same_key key (key_in x) ≡ true
found-same key_in [] key x h = cc
found-same {T} key_in (y ∷ xs) key x h =
    found-first key_in key y x (find (λ (y : T). is_same_key key (key_in y)) xs) (is_same_key key (key_in y)) refl h (found-same key_in xs key x)

spelled-same : (wanted : Request) (stored : List Given) (key : List ℕ) → is_same_key key (spelled wanted stored key) ≡ true
spelled-same wanted stored key = by_cited (listed_as wanted.cited key) refl where
  by_entry : (o : Option Given) → entry_with_key stored key ≡ o → is_same_key key (unwrap_or (option_map (λ (given : Given). given.key) o) key) ≡ true
  by_entry None h = same_key_equiv.refl key
  by_entry (Some given) h = found-same (λ (g : Given). g.key) stored key given h

  by_cited : (o : Option (List ℕ)) → listed_as wanted.cited key ≡ o
      → is_same_key key (unwrap_or (option_or o (option_map (λ (given : Given). given.key) (entry_with_key stored key))) key) ≡ true
  by_cited None h = by_entry (entry_with_key stored key) refl
  by_cited (Some cited) h = found-same (λ (k : List ℕ). k) wanted.cited key cited h

zero-least : (n : ℕ) → nat_le 0 n ≡ true
zero-least n = by_test (nat_le 0 n) refl where
  by_test : (b : Bool) → nat_le 0 n ≡ b → b ≡ true
  by_test true h = refl
  by_test false h = absurd (grind (arith, nat_tests))

due-always : (wanted : Request) (stored : List Given) (key : List ℕ) → wanted.fewest ≡ 0 → stays wanted stored key ≡ true
due-always wanted stored key none =
    or-right (is_some (listed_as wanted.cited key)) (nat_le wanted.fewest (count_by (is_same_key key) (references wanted stored)))
    (ap (λ (n : ℕ). nat_le n (count_by (is_same_key key) (references wanted stored))) none ∙ zero-least (count_by (is_same_key key) (references wanted stored)))

both-true : (a b : Bool) → a ≡ true → b ≡ true → (a && b) ≡ true
both-true true true g h = refl
both-true true false g h = cc
both-true false b g h = cc

stays-there : (wanted : Request) (stored : List Given) (parent : List ℕ) → wanted.fewest ≡ 0 → is_some (entry_with_key stored parent) ≡ true
    → (keys : List (List ℕ)) → is_any_key keys parent ≡ true
    → is_any_key (map (spelled wanted stored) (filter (keeps_entry wanted stored) keys)) parent ≡ true
stays-there wanted stored parent none has [] there = cc
stays-there wanted stored parent none has (key ∷ keys) there =
    by_same (is_same_key parent key) refl there (stays-there wanted stored parent none has keys) where
      others : List (List ℕ)
      others = map (spelled wanted stored) (filter (keeps_entry wanted stored) keys)

      first : is_same_key parent key ≡ true → keeps_entry wanted stored key ≡ true
      first same = both-true (is_some (entry_with_key stored key)) (stays wanted stored key)
          (ap (λ (o : Option Given). is_some o) (sym (entry_of-same stored parent key same)) ∙ has) (due-always wanted stored key none)

      shown : Bool → List (List ℕ)
      shown b = map (spelled wanted stored) (cond b (key ∷ filter (keeps_entry wanted stored) keys) (filter (keeps_entry wanted stored) keys))

      more : (b : Bool) → is_any_key others parent ≡ true → is_any_key (shown b) parent ≡ true
      more true rest = or-right (is_same_key parent (spelled wanted stored key)) (is_any_key others parent) rest
      more false rest = rest

      by_same : (b : Bool) → is_same_key parent key ≡ b → (b || is_any_key keys parent) ≡ true
          → (is_any_key keys parent ≡ true → is_any_key others parent ≡ true)
          → is_any_key (shown (keeps_entry wanted stored key)) parent ≡ true
      by_same true same there rest =
          ap (λ (b : Bool). is_any_key (shown b) parent) (first same)
          ∙ or-left (is_same_key parent (spelled wanted stored key)) (is_any_key others parent)
          (same_key_equiv.congr parent key (spelled wanted stored key) same
          ∙ spelled-same wanted stored key)
      by_same false differs there rest = more (keeps_entry wanted stored key) (rest there)

pub no-parent-leaves : NoParentLeaves
no-parent-leaves wanted macros databases parent whole none named has =
    let stored = stored_by wanted macros databases in
    ap (λ (keys : List (List ℕ)). is_any_key keys parent) (list-is-kept wanted macros databases whole)
    ∙ stays-there wanted stored parent none has (list_keys wanted stored) (on-list wanted stored parent named has)
