-- The library of databases with numbers, and the one in names, are the same.
use Rattle.std.proofs.Common.{◌≡◌, ◌⊎◌, inl, inr, ℕ, suc, ◌+◌, Bool, true, false, if◌then◌else◌, List, [], ◌∷◌, ◌++◌, length, map, drop, take, count_by, Option}
use Rattle.std.proofs.Common.{None, Some, is_some, is_none, option_map, option_and_then, unwrap_or, nat_le, sym, ap, ap₂, subst, ◌∙◌, refl, arith, append-nil}
use Rattle.std.proofs.Common.{append_assoc, leb-false}
use Rattle.std.specs.List.{flat_map, fold, position, range_with_len}
use Rattle.std.specs.Option.{option_map_or, option_or}
use Rattle.std.specs.Prelude.{codes, slice_get, slice_index_or, ◌||◌}
use Rattle.std.specs.Str.{bytes_eq}
use Rattle.std.proofs.lemmas.List.{length-map}
use Rattle.std.proofs.lemmas.List.Quantifiers.{position-Some}
use Rattle.std.proofs.lemmas.Option.{slice_get_within, slice_get-get_or, same_Some}
use Rattle.std.proofs.lemmas.Slice.Eq.{bytes_eq-Decides}
use Rattle.btx_aux.specs.language.Job.{AuxJob}
use Rattle.btx_aux.specs.language.Names.{is_same_key, listed_as, with_key}
use Rattle.btx_bib.specs.declared.end.End.{End}
use Rattle.btx_bib.specs.declared.end.End.TheVariants as end
use Rattle.btx_bib.specs.declared.entry.Entry.{Entry as NumberedEntry}
use Rattle.btx_bib.specs.declared.message.Message.{Message}
use Rattle.btx_text.specs.declared.log_line.LineKind.TheVariants as line
use Rattle.btx_bib.specs.declared.message.Message.TheVariants.{NoEntry}
use Rattle.btx_bib.specs.declared.slots.Body.{Body}
use Rattle.btx_bib.specs.language.Databases.{library_of, library_by, read_one}
use Rattle.btx_bib.specs.language.Entries.{Given, body_of}
use Rattle.btx_bib.specs.language.Listing as listing
use Rattle.btx_bib.specs.language.Listing.{Slot as NumberedSlot, first_cited, last_cited, added, list_keys}
use Rattle.btx_bib.specs.language.MessageTexts.{message_line, message_text}
use Rattle.btx_text.specs.language.LogLines.{Line, mark_of}
use Rattle.btx_bib.specs.language.Messages.{Database, Reading}
use Rattle.btx_bib.specs.language.Passes as passes
use Rattle.btx_bib.specs.language.Passes.{body_values, parent_at, after_first, after_second, entries_of, reference_messages, inherited, checked, pass_messages}
use Rattle.btx_bib.specs.language.Passes.{check_messages}
use Rattle.btx_bib.specs.language.Requests.{asked}
use Rattle.btx_bib.specs.language.Stored.{entry_with_key, parents_in, references}
use Rattle.btx_bib.specs.language.Values.{field_value}
use Rattle.btx_bib.specs.language.Request.{Request as NumberedRequest}
use Rattle.btx_bib.specs.laws.Databases.{with_macros as macros_known}
use Rattle.btx_bib.proofs.PassLemmas.{key-inherited, key-checked}
use Rattle.btx_bib.proofs.StayingLemmas.{view-passed}
use Rattle.btx_bst.specs.declared.built_in.BuiltIn.{BuiltIn}
use Rattle.btx_bst.specs.declared.callee.Callee.{Callee}
use Rattle.btx_bst.specs.declared.callee.Callee.TheVariants as callee
use Rattle.btx_bst.specs.language.BuiltIns.{built_in_of}
use Rattle.btx_bst.specs.language.Names.{Names, named_lower}
use Rattle.btx_bst.specs.language.Style.{as_field}
use Rattle.btx_bst.specs.language.StyleText.{style_of}
use Rattle.btx_bst.specs.laws.FirstNames.{FirstNamesLaw}
use Rattle.btx_bst.proofs.FirstNameLemmas.{first-names}
use Rattle.btx_core.specs.language.Databases.{Request, Stored, DatabaseState, parents_named, stored_with, with_macros}
use Rattle.btx_core.specs.language.Lists.{ListedKey, listed_key, list_of, listed_keys, IsInherited, keeps_parent, parent_key, parent_messages, entry_at, places_of_list}
use Rattle.btx_core.specs.language.Lists.{IsLibraryAtEnd, IsLibrary, no_entry_line}
use Rattle.btx_core.specs.laws.SameLibraries.{value_named, IsSameEntry, AreSameEntries, limit_met, IsSameLibrary, asked_of, SameLibrary}
use Rattle.btx_core.specs.laws.SameStyles.{IsMeant, IsSameStyle, Numbers, numbers_of}
use Rattle.btx_core.specs.language.Styles.{Entry, Library, Style, set}
use Rattle.btx_core.proofs.SameKnownLemmas.{SameRequest, AreSameGiven, IsSameCurrent, SameReading, values_length, value_kept, parent_named, found_same}
use Rattle.btx_core.proofs.SameKnownLemmas.{parents_same, databases_same, macros_same, lines_more}
use Rattle.btx_core.proofs.SamePassLemmas.{AllFrom, IsSameBody, Own, Passed, Checked, Second, first_pass, second_pass}
use Rattle.btx_core.proofs.LibraryLemmas.{library_one}
use Rattle.btx_core.proofs.PartLemmas.{there_is_inheritance, upto}
use Rattle.btx_text.specs.declared.limits.Limit.{Limit}
use Rattle.btx_text.specs.language.Keys.{folded}
use Rattle.btx_text.specs.language.Lists.{only_if}

-- ---- the list

fold_both : (xs ys : List (List ℕ)) (keys : List (List ℕ)) → fold with_key (fold with_key keys xs) ys ≡ fold with_key keys (xs ++ ys)
fold_both [] ys keys = refl
fold_both (x ∷ xs) ys keys = fold_both xs ys (with_key keys x)

module _ (numbers : Numbers) (R : NumberedRequest) (Q : Request) (h : SameRequest numbers R Q) where
  own_keys : (gs : List Given) (es : List Stored) → AreSameGiven R gs es → map (λ (e : Stored). e.key) es ≡ map (λ (g : Given). g.key) gs
  own_keys [] [] k = refl
  own_keys [] (e ∷ es) k = absurd k
  own_keys (g ∷ gs) [] k = absurd k
  own_keys (g ∷ gs) (e ∷ es) k = ap₂ (λ (x : List ℕ) (xs : List (List ℕ)). x ∷ xs) k.0.key (own_keys gs es k.1)

  keys_same : (gs : List Given) (es : List Stored) → AreSameGiven R gs es → listed_keys Q es ≡ list_keys R gs
  keys_same gs es k =
      ap₂ (λ (o : Option ℕ) (cited : List (List ℕ)). listed_by o cited (map (λ (e : Stored). e.key) es) (parents_named es)) h.all h.cited
      ∙ ap₂ (listed_by R.all R.cited) (own_keys gs es k) (parents_same numbers R Q h gs es k)
      ∙ by R.all where
        listed_by : Option ℕ → List (List ℕ) → List (List ℕ) → List (List ℕ) → List (List ℕ)
        listed_by o cited keys parents = fold with_key [] (option_map_or (λ (place : ℕ). take place cited ++ keys ++ drop place cited) o (cited ++ parents))

        by : (o : Option ℕ) → listed_by o R.cited (map (λ (g : Given). g.key) gs) (parents_in R gs)
            ≡ fold with_key (fold with_key [] (first_cited o R.cited ++ added o R gs)) (last_cited o R.cited)
        by None = refl
        by (Some place) = sym (fold_both (take place R.cited ++ map (λ (g : Given). g.key) gs) (drop place R.cited) [])

  zero_most : (n : ℕ) → nat_le 0 n ≡ true
  zero_most n = by (nat_le 0 n) refl where
    by : (t : Bool) → nat_le 0 n ≡ t → nat_le 0 n ≡ true
    by true e = e
    by false e = let lt = leb-false 0 n e in absurd (omega (arith, lt))

  -- how many children are enough
  enough_same : (gs : List Given) (es : List Stored) → AreSameGiven R gs es → (key : List ℕ) → nat_le Q.fewest (count_by (is_same_key key) (parents_named es))
      ≡ nat_le R.fewest (count_by (is_same_key key) (references R gs))
  enough_same gs es k key =
      ap₂ (λ n (ps : List (List ℕ)). nat_le n (count_by (is_same_key key) ps)) h.fewest (parents_same numbers R Q h gs es k)
      ∙ by (is_some R.all) h.starred where
        by : (t : Bool) → (t ≡ true → R.fewest ≡ 0) → nat_le R.fewest (count_by (is_same_key key) (parents_in R gs))
            ≡ nat_le R.fewest (count_by (is_same_key key) (if t then [] else parents_in R gs))
        by false few = refl
        by true few =
            ap (λ n. nat_le n (count_by (is_same_key key) (parents_in R gs))) (few refl) ∙ zero_most (count_by (is_same_key key) (parents_in R gs))
            ∙ sym (ap (λ n. nat_le n (count_by (is_same_key key) [])) (few refl) ∙ zero_most (count_by (is_same_key key) []))

  found_key : (g : Option Given) (e : Option Stored) → IsSameCurrent R g e → option_map (λ (e : Stored). e.key) e ≡ option_map (λ (g : Given). g.key) g
  found_key None None k = refl
  found_key (Some g) (Some e) k = ap Some k.key
  found_key None (Some e) k = absurd k
  found_key (Some g) None k = absurd k

  body_same : (C : List ListedKey) (g : Option Given) (e : Option Stored) → IsSameCurrent R g e → IsSameBody numbers R Q h C (option_map (body_of R) g) e
  unfolding body_of
  body_same C None None k = tt
  body_same C (Some g) (Some e) k = (ap (λ kind. R.kind (folded kind)) (sym k.kind), values_length R g.fields 0 R.count)
  body_same C None (Some e) k = absurd k
  body_same C (Some g) None k = absurd k

  no_values : (name : List ℕ) → value_named R.field [] name ≡ None
  no_values name = by (R.field name) where
    by : (o : Option ℕ) → option_and_then (λ (n : ℕ). field_value n []) o ≡ None
    by None = refl
    by (Some n) = refl

  values_same : (g : Option Given) (e : Option Stored) → IsSameCurrent R g e → (name : List ℕ)
      → value_named R.field (body_values (option_map (body_of R) g)) name ≡ option_and_then (λ (entry : Stored). entry.value name) e
  unfolding body_of
  values_same None None k name = no_values name
  values_same (Some g) (Some e) k name = value_kept numbers R Q h g.fields name ∙ sym (k.value name)
  values_same None (Some e) k name = absurd k
  values_same (Some g) None k name = absurd k

  -- the place of a key
  place_same : (C : List ListedKey) (gs : List Given) (es : List Stored) → AreSameGiven R gs es → (key : List ℕ) (j : ℕ) → slice_get C j ≡ Some (listed_key Q es key)
      → Own numbers R Q h C j (listing.slot_of R gs key)
  unfolding listing.slot_of
  place_same C gs es k key j there =
      let found = found_same R gs es k key in
      let owned = λ (name : List ℕ). ap (λ (o : Option ListedKey). option_and_then
      (λ (slot : ListedKey). option_and_then (λ (entry : Stored). entry.value name) slot.entry) o) there in
      record {
        c = listed_key Q es key;
        there = there;
        key = sym (ap₂ (λ (o p : Option (List ℕ)). unwrap_or (option_or o p) key) (ap (λ cited. listed_as cited key) h.cited)
            (found_key (entry_with_key gs key) (stored_with es key) found));
        stays = sym (ap₂ (λ (o : Option (List ℕ)) (t : Bool). is_some o || t) (ap (λ cited. listed_as cited key) h.cited) (enough_same gs es k key));
        body = body_same C (entry_with_key gs key) (stored_with es key) found;
        values_are = λ name apart. values_same (entry_with_key gs key) (stored_with es key) found name ∙ sym (owned name);
        parent_is = parent_named numbers R Q h (body_values (option_map (body_of R) (entry_with_key gs key)))
            ∙ values_same (entry_with_key gs key) (stored_with es key) found (codes "crossref") ∙ sym (owned (codes "crossref"));
      }

  all_places : (C : List ListedKey) (gs : List Given) (es : List Stored) → AreSameGiven R gs es → (keys : List (List ℕ)) (i : ℕ)
      → ((n : ℕ) → slice_get C (i + n) ≡ slice_get (map (listed_key Q es) keys) n)
      → AllFrom (Own numbers R Q h C) i (map (listing.slot_of R gs) keys)
  all_places C gs es k [] i there = tt
  all_places C gs es k (key ∷ keys) i there =
      let first : slice_get C i ≡ Some (listed_key Q es key) = let z : i ≡ i + 0 = omega arith in ap (slice_get C) z ∙ there 0 in (
        place_same C gs es k key i first,
        all_places C gs es k keys (i + 1) (λ n. let e : i + 1 + n ≡ i + suc n = omega arith in ap (slice_get C) e ∙ there (suc n)),
      )

  -- the same keys stand in the list
  slot_keys : (gs : List Given) (es : List Stored) → AreSameGiven R gs es → (keys : List (List ℕ))
      → map (λ (s : NumberedSlot). s.key) (map (listing.slot_of R gs) keys) ≡ map (λ (c : ListedKey). c.key) (map (listed_key Q es) keys)
  slot_keys gs es k [] = refl
  slot_keys gs es k (key ∷ keys) =
      let p = place_same (listed_key Q es key ∷ []) gs es k key 0 refl in
      ap₂ (λ (x : List ℕ) (xs : List (List ℕ)). x ∷ xs) (p.key ∙ sym (ap (λ (c : ListedKey). c.key) (same_Some (listed_key Q es key) p.c p.there)))
      (slot_keys gs es k keys)

  -- ---- what is left of the list

  module _ (C : List ListedKey) (value : ℕ → List ℕ → Option (List ℕ)) (inherits : IsInherited C value) where
    abbrev entry_by : ℕ → ListedKey → List Entry
    entry_by i c = entry_at C Q.types value i c

    one_entry : (e : Entry) (n : NumberedEntry) → IsSameEntry numbers R.field n e → (more : List NumberedEntry) (others : List Entry)
        → AreSameEntries numbers R.field more others → AreSameEntries numbers R.field (n ∷ more) (e ∷ others)
    one_entry e n k more others m = (e, others, k, m, refl)

    place_entry : (i : ℕ) (s : NumberedSlot) → Checked numbers R Q h C value inherits i s → (more : List NumberedEntry) (others : List Entry)
        → AreSameEntries numbers R.field more others
        → AreSameEntries numbers R.field (passes.entry_at s ++ more) (option_map_or (entry_by i) (slice_get C i) [] ++ others)
    place_entry i s p more others m =
        subst (λ (o : Option ListedKey). AreSameEntries numbers R.field (passes.entry_at s ++ more) (option_map_or (entry_by i) o [] ++ others)) (sym p.there)
        (by s.body refl p.c.entry refl p.body s.stays refl) where
          by : (b : Option Body) → s.body ≡ b → (e : Option Stored) → p.c.entry ≡ e → IsSameBody numbers R Q h C s.body p.c.entry → (t : Bool) → s.stays ≡ t
              → AreSameEntries numbers R.field (passes.entry_at s ++ more) (entry_by i p.c ++ others)
          by b f e g same t stay =
              subst (λ (x : Option Body). AreSameEntries numbers R.field
              (option_map_or (λ (body : Body). if s.stays then record { key = s.key; kind = body.kind; values = body.values } ∷ [] else []) x [] ++ more)
              (entry_by i p.c ++ others)) (sym f)
              (subst (λ (x : Option Stored). AreSameEntries numbers R.field
              (option_map_or (λ (body : Body). if s.stays then record { key = s.key; kind = body.kind; values = body.values } ∷ [] else []) b [] ++ more)
              (of_entry x p.c.stays ++ others)) (sym g)
              (subst (λ (u : Bool). AreSameEntries numbers R.field
              (option_map_or (λ (body : Body). if s.stays then record { key = s.key; kind = body.kind; values = body.values } ∷ [] else []) b [] ++ more)
              (of_entry e u ++ others)) (sym (sym p.stays ∙ stay))
              (subst (λ (u : Bool). AreSameEntries numbers R.field
              (option_map_or (λ (body : Body). if u then record { key = s.key; kind = body.kind; values = body.values } ∷ [] else []) b [] ++ more)
              (of_entry e t ++ others)) (sym stay)
              (both b f e (subst (λ e. IsSameBody numbers R Q h C b e) g (subst (λ b. IsSameBody numbers R Q h C b p.c.entry) f same)) t)))) where
                kept : Stored → Entry
                kept e = record {
                  key = p.c.key;
                  kind = Q.types (folded e.kind);
                  value =
                      set (codes "crossref") (if keeps_parent C i then parent_key C i else None) (value i);
                }

                of_entry : Option Stored → Bool → List Entry
                of_entry x u = option_map_or (λ (entry : Stored). only_if u (kept entry)) x []

                same_value : (body : Body) → s.body ≡ Some body → (name : List ℕ) → set (codes "crossref") (if keeps_parent C i then parent_key C i else None)
                    (value i) name ≡ value_named R.field body.values name
                same_value body is name = at (bytes_eq name (codes "crossref")) refl where
                  at : (t : Bool) → bytes_eq name (codes "crossref") ≡ t → (if t then (if keeps_parent C i then parent_key C i else None) else value i name)
                      ≡ value_named R.field body.values name
                  at true e =
                      let same : name ≡ codes "crossref" = (bytes_eq-Decides name (codes "crossref")).0 e in
                      sym p.parent_is ∙ ap (λ (b : Option Body). parent_of b) is ∙ parent_named numbers R Q h body.values
                      ∙ ap (value_named R.field body.values) (sym same) where
                        parent_of : Option Body → Option (List ℕ)
                        parent_of b = parent_at (record s { body = b })
                  at false e = sym (p.values_are name e) ∙ ap (λ (b : Option Body). value_named R.field (body_values b) name) is

                both : (b : Option Body) → s.body ≡ b → (e : Option Stored) → IsSameBody numbers R Q h C b e → (t : Bool)
                    → AreSameEntries numbers R.field (option_map_or (λ (body : Body). if t then record { key = s.key; kind = body.kind; values = body.values }
                    ∷ [] else []) b [] ++ more) (of_entry e t ++ others)
                both None f None same t = m
                both None f (Some e) same t = absurd same
                both (Some b) f None same t = absurd same
                both (Some b) f (Some e) same false = m
                both (Some b) f (Some e) same true =
                    one_entry (kept e) (record { key = s.key; kind = b.kind; values = b.values }) (record {
                      key = sym p.key;
                      kind = subst (λ k. IsMeant numbers (option_map callee.User k) (Q.types (folded e.kind))) (sym same.0) (h.types (folded e.kind));
                      values = same_value b f;
                    }) more others m

    entries_same : (L : List NumberedSlot) (i : ℕ) → AllFrom (Checked numbers R Q h C value inherits) i L
        → AreSameEntries numbers R.field (flat_map passes.entry_at L)
        (flat_map (λ i. option_map_or (entry_by i) (slice_get C i) []) (range_with_len i (length L)))
    entries_same [] i k = refl
    entries_same (s ∷ L) i k = place_entry i s k.0 (flat_map passes.entry_at L)
        (flat_map (λ i. option_map_or (entry_by i) (slice_get C i) []) (range_with_len (i + 1) (length L))) (entries_same L (i + 1) k.1)

    -- the keys that have no entry
    missing_same : (L : List NumberedSlot) (D : List ListedKey) (i : ℕ) → AllFrom (Checked numbers R Q h C value inherits) i L
        → ((n : ℕ) → slice_get C (i + n) ≡ slice_get D n) → length L ≡ length D
        → map message_line (flat_map (λ (s : NumberedSlot). if is_some s.body then [] else NoEntry s.key ∷ []) L)
        ≡ flat_map (λ (c : ListedKey). only_if (is_none c.entry) (no_entry_line c.key)) D
    unfolding message_text mark_of
    missing_same [] [] i k there e = refl
    missing_same [] (c ∷ D) i k there e = absurd (omega (arith, e))
    missing_same (s ∷ L) [] i k there e = absurd (omega (arith, e))
    missing_same (s ∷ L) (c ∷ D) i k there e =
        let p = k.0 in
        let first : Some p.c ≡ Some c = sym p.there ∙ (let z : i ≡ i + 0 = omega arith in ap (slice_get C) z) ∙ there 0 in
        let one = same_Some p.c c first in
        lines_more (if is_some s.body then [] else NoEntry s.key ∷ []) (flat_map (λ (s : NumberedSlot). if is_some s.body then [] else NoEntry s.key ∷ []) L)
        ∙ ap₂ (λ (ms ns : List Line). ms ++ ns)
        (ap (λ key. map message_line (if is_some s.body then [] else NoEntry key ∷ [])) p.key ∙ said p.c.key s.body p.c.entry p.body
        ∙ ap (λ (c : ListedKey). only_if (is_none c.entry) (no_entry_line c.key)) one)
        (missing_same L D (i + 1) k.1 (λ n. let z : i + 1 + n ≡ i + suc n = omega arith in ap (slice_get C) z ∙ there (suc n)) (omega (arith, e))) where
          said : (key : List ℕ) (b : Option Body) (e : Option Stored) → IsSameBody numbers R Q h C b e
              → map message_line (if is_some b then [] else NoEntry key ∷ []) ≡ only_if (is_none e) (no_entry_line key)
          said key None None same = ap (λ t. record { text = mark_of line.Warning ++ t; kind = line.Warning } ∷ []) (append-nil (message_text (NoEntry key)))
          said key (Some b) (Some e) same = refl
          said key None (Some e) same = absurd same
          said key (Some b) None same = absurd same

  -- ---- the library

  -- what is known at the end, in both ways
  gathered_same : (reading : Reading) (known : DatabaseState) → SameReading R reading known → (library : Library) × IsLibraryAtEnd known.limit Q known library
      × IsSameLibrary numbers R.field (library_by reading.known.ending R reading.known reading.messages) library
  unfolding entries_of reference_messages
  gathered_same reading known k = by reading.known.ending k.limit where
    stopped : (e : End) (l : Limit) → limit_met e ≡ Some l → known.limit ≡ Some l → (library : Library) × IsLibraryAtEnd known.limit Q known library
        × IsSameLibrary numbers R.field (record { entries = []; preamble = []; messages = reading.messages; ending = e }) library
    stopped e l f g =
        let library : Library = record { entries = []; preamble = []; log = known.log; limit = Some l } in
        (library, subst (λ o. IsLibraryAtEnd o Q known library) (sym g) refl, record { entries = refl; preamble = refl; log = k.messages; limit = sym f })

    by : (e : End) → known.limit ≡ limit_met e → (library : Library) × IsLibraryAtEnd known.limit Q known library
        × IsSameLibrary numbers R.field (library_by e R reading.known reading.messages) library
    by end.FileLimit e = stopped end.FileLimit _ refl e
    by end.StringLimit e = stopped end.StringLimit _ refl e
    by end.Whole e = (library, subst (λ o. IsLibraryAtEnd o Q known library) (sym e) (slots, refl, value, there_is_inheritance slots, refl), same) where
      slots : List ListedKey
      slots = list_of Q known.stored

      numbered_slots : List NumberedSlot
      numbered_slots = listing.slots_of R reading.known.stored

      value : ℕ → List ℕ → Option (List ℕ)
      value i name = upto slots (suc i) i name

      library : Library
      library = record {
        entries = flat_map (λ i. option_map_or (entry_at slots Q.types value i) (slice_get slots i) []) (places_of_list slots);
        preamble = known.preamble;
        log = known.log ++ flat_map (parent_messages slots) (places_of_list slots) ++ flat_map (λ (slot : ListedKey). only_if (is_none slot.entry) (no_entry_line slot.key))
            slots;
        limit = None;
      }

      keys : map (λ (s : NumberedSlot). s.key) numbered_slots ≡ map (λ (c : ListedKey). c.key) slots
      keys = slot_keys reading.known.stored known.stored k.stored (list_keys R reading.known.stored)
          ∙ ap (λ ks. map (λ (c : ListedKey). c.key) (map (listed_key Q known.stored) ks)) (sym (keys_same reading.known.stored known.stored k.stored))

      start : AllFrom (Own numbers R Q h slots) 0 numbered_slots
      start = all_places slots reading.known.stored known.stored k.stored (list_keys R reading.known.stored) 0 (λ n.
          let z : 0 + n ≡ n = omega arith in
          ap (slice_get slots) z ∙ ap (λ ks. slice_get (map (listed_key Q known.stored) ks) n) (keys_same reading.known.stored known.stored k.stored))

      first : AllFrom (Passed numbers R Q h slots value (there_is_inheritance slots)) 0 (after_first numbered_slots)
      first = first_pass numbers R Q h slots value (there_is_inheritance slots) numbered_slots [] keys tt start

      keys_after : map (λ (s : NumberedSlot). s.key) (after_first numbered_slots) ≡ map (λ (c : ListedKey). c.key) slots
      keys_after = view-passed (λ (s : NumberedSlot). s.key) inherited key-inherited numbered_slots [] ∙ keys

      second : Second numbers R Q h slots value (there_is_inheritance slots) [] (after_first numbered_slots)
      second = second_pass numbers R Q h slots value (there_is_inheritance slots) (after_first numbered_slots) [] keys_after tt first

      last : List NumberedSlot
      last = after_second (after_first numbered_slots)

      references : List Message
      references = pass_messages checked check_messages [] (after_first numbered_slots)

      lost : List Message
      lost = flat_map (λ (s : NumberedSlot). if is_some s.body then [] else NoEntry s.key ∷ []) last

      long_as : {A B : Type 0} (f : A → List ℕ) (g : B → List ℕ) (xs : List A) (ys : List B) → map f xs ≡ map g ys → length xs ≡ length ys
      long_as f g xs ys e = sym (length-map xs f) ∙ ap length e ∙ length-map ys g

      size : length last ≡ length slots
      size = long_as (λ (s : NumberedSlot). s.key) (λ (c : ListedKey). c.key) last slots
          (view-passed (λ (s : NumberedSlot). s.key) checked key-checked (after_first numbered_slots) [] ∙ keys_after)

      size_first : length (after_first numbered_slots) ≡ length slots
      size_first = long_as (λ (s : NumberedSlot). s.key) (λ (c : ListedKey). c.key) (after_first numbered_slots) slots keys_after

      same : IsSameLibrary numbers R.field (library_by end.Whole R reading.known reading.messages) library
      same = record {
        entries = subst (λ n. AreSameEntries numbers R.field (flat_map passes.entry_at last)
            (flat_map (λ i. option_map_or (entry_at slots Q.types value i) (slice_get slots i) []) (range_with_len 0 n))) size
            (entries_same slots value (there_is_inheritance slots) last 0 second.places);
        preamble = k.preamble;
        log = append_assoc known.log (flat_map (parent_messages slots) (places_of_list slots))
            (flat_map (λ (slot : ListedKey). only_if (is_none slot.entry) (no_entry_line slot.key)) slots)
            ∙ ap₂ (λ (ms ns : List Line). ms ++ ns) k.messages
            (ap₂ (λ (ms ns : List Line). ms ++ ns) (sym (second.logged ∙ ap (λ n. flat_map (parent_messages slots) (range_with_len 0 n)) size_first))
            (sym (missing_same slots value (there_is_inheritance slots) last slots 0 second.places (λ n. let z : 0 + n ≡ n = omega arith in
            ap (slice_get slots) z) size)))
            ∙ ap (λ (lines : List Line). map message_line reading.messages ++ lines) (sym (lines_more references lost))
            ∙ sym (lines_more reading.messages (references ++ lost));
        limit = refl;
      }

  pub library_same : (macros : List (List ℕ × List ℕ)) (databases : List Database) (library : Library) → IsLibrary Q macros databases library
      → IsSameLibrary numbers R.field (library_of R macros databases) library
  unfolding library_of
  library_same macros databases library k =
      let begun : Reading = record { known = macros_known macros; messages = [] } in
      let read = databases_same numbers R Q h databases begun (with_macros macros) (macros_same numbers R Q h macros) in
      let made = gathered_same (fold (read_one R) begun databases) read.0 read.2 in
      subst (IsSameLibrary numbers R.field (library_of R macros databases)) (library_one Q macros databases made.0 library (read.0, read.1, made.1) k) made.2

-- ---- what a job and the style of a text ask

-- the one of seven look-ups that finds a field
field_found : (a : Option Callee) (b c d e f g : Option ℕ) (n : ℕ)
    → option_or a (option_or (option_map callee.User b)
    (option_or (option_map callee.Field c) (option_or (option_map callee.EntryInteger d) (option_or (option_map callee.EntryString e)
    (option_or (option_map callee.GlobalInteger f) (option_map callee.GlobalString g)))))) ≡ Some (callee.Field n) → (a ≡ Some (callee.Field n)) ⊎ (c ≡ Some n)
field_found (Some x) b c d e f g n h = inl h
field_found None (Some x) c d e f g n h = absurd (cc)
field_found None None (Some x) d e f g n h = inr (cc)
field_found None None None (Some x) e f g n h = absurd (cc)
field_found None None None None (Some x) f g n h = absurd (cc)
field_found None None None None None (Some x) g n h = absurd (cc)
field_found None None None None None None (Some x) n h = absurd (cc)
field_found None None None None None None None n h = absurd (cc)

no_built_in : (b : Option BuiltIn) (n : ℕ) → option_map callee.BuiltIn b ≡ Some (callee.Field n) → ⊥
no_built_in None n h = absurd (cc)
no_built_in (Some b) n h = absurd (cc)

-- a name that names a field is the one that the field has
field_name : (names : Names) (name : List ℕ) (n : ℕ) → named_lower names name ≡ Some (callee.Field n) → slice_get names.fields n ≡ Some name
unfolding named_lower
field_name names name n h =
    by (field_found (option_map callee.BuiltIn (built_in_of name)) _ (position (bytes_eq name) names.fields) _ _ _ _ n h) where
      by : (option_map callee.BuiltIn (built_in_of name) ≡ Some (callee.Field n)) ⊎ (position (bytes_eq name) names.fields ≡ Some n) → slice_get names.fields n
          ≡ Some name
      by (inl e) = absurd (no_built_in (built_in_of name) n e)
      by (inr e) =
          let found = position-Some (bytes_eq name) names.fields n [] e in
          slice_get-get_or names.fields n [] found.0 ∙ ap Some (sym ((bytes_eq-Decides name (slice_index_or names.fields n [])).0 found.1))

is_field_number : (c : Option Callee) (n : ℕ) → as_field c ≡ Some n → c ≡ Some (callee.Field n)
is_field_number None n h = absurd (cc)
is_field_number (Some (callee.BuiltIn b)) n h = absurd (cc)
is_field_number (Some (callee.User k)) n h = absurd (cc)
is_field_number (Some (callee.Field k)) n h = let same : k ≡ n = cc in ap (λ k. Some (callee.Field k)) same
is_field_number (Some (callee.EntryInteger k)) n h = absurd (cc)
is_field_number (Some (callee.EntryString k)) n h = absurd (cc)
is_field_number (Some (callee.GlobalInteger k)) n h = absurd (cc)
is_field_number (Some (callee.GlobalString k)) n h = absurd (cc)

pub predefined_first : FirstNamesLaw
predefined_first = first-names (record { parent = refl; sort_key = refl; entry_limit = refl; global_limit = refl })

request_same : (file text : List ℕ) (style : Style) (same : IsSameStyle (style_of file text) style) (job : AuxJob) (least : ℕ)
    → SameRequest (numbers_of (style_of file text) same.functions) (asked (style_of file text) job least) (asked_of job style least)
request_same file text style same job least =
    let names = (style_of file text).names in
    record {
      cited = refl;
      all = refl;
      fewest = refl;
      fields = same.fields;
      types = same.types;
      within = λ name n e. slice_get_within names.fields n name (field_name names name n (is_field_number (named_lower names name) n e));
      one_name = λ a b n e f. same_Some a b
          (sym (field_name names a n (is_field_number (named_lower names a) n e)) ∙ field_name names b n (is_field_number (named_lower names b) n f));
      parent = ap as_field (predefined_first file text).parent;
      starred = λ e. ap (λ (t : Bool). if t then 0 else least) e;
    }

pub same_library : SameLibrary
same_library file text style same job least databases library k =
    library_same (numbers_of (style_of file text) same.functions) (asked (style_of file text) job least) (asked_of job style least)
    (request_same file text style same job least) (style_of file text).macros databases library
    (subst (λ (macros : List (List ℕ × List ℕ)). IsLibrary (asked_of job style least) macros databases library) same.macros k)
