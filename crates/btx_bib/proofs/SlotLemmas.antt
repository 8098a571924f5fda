-- The place of the list for a key, after one more entry.
use Rattle.std.proofs.Common.{◌≡◌, ℕ, nat_eq, nat_le, arith, ◌+◌, ◌-◌, Bool, true, false, ◌||◌, cond, if◌then◌else◌, List, [], ◌∷◌, ◌++◌, Option, None, Some}
use Rattle.std.proofs.Common.{is_some, refl, sym, ap, ◌∙◌}
use Rattle.std.specs.Prelude.{count_by}
use Rattle.std.specs.Option.{option_map, option_or, unwrap_or}
use Rattle.std.specs.List.{sum_by}
use Rattle.std.proofs.lemmas.Bool.Decides.{nat_tests}
use Rattle.std.proofs.lemmas.List.Sums.{sum_by-append}
use Rattle.btx_aux.specs.language.Names.{is_same_key, listed_as}
use Rattle.btx_bib.specs.declared.slots.Slot.{Slot as CodeSlot}
use Rattle.btx_bib.specs.language.Request.{Request}
use Rattle.btx_bib.specs.language.Entries.{Given, body_of}
use Rattle.btx_bib.specs.language.Stored.{entry_with_key, references}
use Rattle.btx_bib.specs.language.Listing.{slot_of}
use Rattle.btx_bib.specs.refinement.Drafts.{with_entry, once_more, settled}
use Rattle.btx_bib.proofs.ListedKeyLemmas.{same_key_equiv, entry_of-same}
use Rattle.btx_bib.specs.laws.Listing.{spelled}

-- the place for a key, by how it was cited, its entry and the references to it
abbrev pub slot_by : Request → Bool → List ℕ → Option (List ℕ) → Option Given → ℕ → CodeSlot
slot_by wanted kept key cited entry count = record {
  key = unwrap_or (option_or cited (option_map (λ (entry : Given). entry.key) entry)) key;
  is_cited = kept;
  wanting = wanted.fewest - count;
  body = option_map (body_of wanted) entry;
}

pub with_entry-slot : (wanted : Request) (key : List ℕ) (cited : Option (List ℕ)) (entry : Given) (count : ℕ)
    → with_entry (body_of wanted entry) entry.key (slot_by wanted (is_some cited) key cited None count) ≡ slot_by wanted (is_some cited) key cited (Some entry)
    count
with_entry-slot wanted key None entry count = refl
with_entry-slot wanted key (Some spelling) entry count = refl

pub once_more-slot : (wanted : Request) (kept : Bool) (key : List ℕ) (cited : Option (List ℕ)) (entry : Option Given) (count : ℕ)
    → once_more (slot_by wanted kept key cited entry count) ≡ slot_by wanted kept key cited entry (count + 1)
once_more-slot wanted kept key cited entry count =
    let slot = slot_by wanted kept key cited entry count in
    ap (λ (wanting : ℕ). record slot { wanting = wanting }) (omega arith)

-- a place stays if it was cited or lacks no reference
enough-is : (cited : Bool) (fewest count : ℕ) → (cited || nat_eq (fewest - count) 0) ≡ (cited || nat_le fewest count)
enough-is true fewest count = refl
enough-is false fewest count = by_tests (nat_eq (fewest - count) 0) (nat_le fewest count) refl refl where
  by_tests : (a b : Bool) → nat_eq (fewest - count) 0 ≡ a → nat_le fewest count ≡ b → a ≡ b
  by_tests true true left right = refl
  by_tests false false left right = refl
  by_tests true false left right = absurd (grind (arith, nat_tests))
  by_tests false true left right = absurd (grind (arith, nat_tests))

pub settled-slot : (wanted : Request) (stored : List Given) (key : List ℕ)
    → (let cited = listed_as wanted.cited key in
    settled (slot_by wanted (is_some cited) key cited (entry_with_key stored key) (count_by (is_same_key key) (references wanted stored)))
    ≡ slot_of wanted stored key)
unfolding slot_of
settled-slot wanted stored key =
    ap (λ (stays : Bool). record { key = spelled wanted stored key; stays = stays; body = option_map (body_of wanted) (entry_with_key stored key) })
    (enough-is (is_some (listed_as wanted.cited key)) wanted.fewest (count_by (is_same_key key) (references wanted stored)))

or_chosen : (b : Bool) (x : Given) (rest last : Option Given) → cond b (Some x) (option_or rest last) ≡ option_or (cond b (Some x) rest) last
or_chosen true x rest last = refl
or_chosen false x rest last = refl

pub entry_of-push : (entries : List Given) (entry : Given) (key : List ℕ) → entry_with_key (entries ++ entry ∷ []) key ≡ option_or (entry_with_key entries key)
    (cond (is_same_key key entry.key) (Some entry) None)
entry_of-push [] entry key = refl
entry_of-push (first ∷ entries) entry key =
    ap (cond (is_same_key key first.key) (Some first)) (entry_of-push entries entry key)
    ∙ or_chosen (is_same_key key first.key) first (entry_with_key entries key) (cond (is_same_key key entry.key) (Some entry) None)

or_none : (o : Option Given) → option_or o None ≡ o
or_none None = refl
or_none (Some x) = refl

-- the entry for a key after a new one, of whose key there is none yet
pub entry_of-new : (entries : List Given) (entry : Given) (key : List ℕ) → entry_with_key entries entry.key ≡ None
    → entry_with_key (entries ++ entry ∷ []) key ≡ (if is_same_key entry.key key then Some entry else entry_with_key entries key)
entry_of-new entries entry key absent = by_test (is_same_key entry.key key) refl where
  by_test : (b : Bool) → is_same_key entry.key key ≡ b → entry_with_key (entries ++ entry ∷ []) key ≡ (if b then Some entry else entry_with_key entries key)
  by_test true same =
      let back : is_same_key key entry.key ≡ true = same_key_equiv.symm key entry.key ∙ same in
      let none : entry_with_key entries key ≡ None = sym (entry_of-same entries entry.key key same) ∙ absent in
      entry_of-push entries entry key
      ∙ ap (λ (o : Option Given). option_or o (cond (is_same_key key entry.key) (Some entry) None)) none
      ∙ ap (λ (b : Bool). cond b (Some entry) None) back
  by_test false other =
      let back : is_same_key key entry.key ≡ false = same_key_equiv.symm key entry.key ∙ other in
      entry_of-push entries entry key
      ∙ ap (λ (b : Bool). option_or (entry_with_key entries key) (cond b (Some entry) None)) back
      ∙ or_none (entry_with_key entries key)

pub count_by-push : (keys : List (List ℕ)) (last key : List ℕ) → count_by (is_same_key key) (keys ++ last ∷ [])
    ≡ (if is_same_key last key then count_by (is_same_key key) keys + 1 else count_by (is_same_key key) keys)
count_by-push keys last key =
    let ones : List ℕ → ℕ = λ (k : List ℕ). cond (is_same_key key k) 1 0 in
    let whole : count_by (is_same_key key) (keys ++ last ∷ []) ≡ count_by (is_same_key key) keys + count_by (is_same_key key) (last ∷ []) =
    sum_by-append ones keys (last ∷ []) in
    by_test (is_same_key last key) (is_same_key key last) (same_key_equiv.symm key last) whole where
      by_test : (b back : Bool) → back ≡ b → count_by (is_same_key key) (keys ++ last ∷ []) ≡ count_by (is_same_key key) keys + sum_by
          (λ (same : Bool). cond same 1 0) (back ∷ [])
          → count_by (is_same_key key) (keys ++ last ∷ []) ≡ (if b then count_by (is_same_key key) keys + 1 else count_by (is_same_key key) keys)
      by_test true true e h = h ∙ omega arith
      by_test true false e h = cc
      by_test false true e h = cc
      by_test false false e h = h ∙ omega arith
