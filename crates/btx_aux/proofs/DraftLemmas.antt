-- What a single event makes of what is known.
use Rattle.std.proofs.Common.{◌≡◌, ℕ, zero, suc, arith, ◌||◌, Bool, true, false, cond, List, [], ◌∷◌, ◌++◌, map, fold, Option, None, Some, is_some, refl, sym}
use Rattle.std.proofs.Common.{ap, ◌∙◌, append_assoc, append-nil}
use Rattle.std.specs.Prelude.{codes}
use Rattle.std.specs.Str.{bytes_eq}
use Rattle.std.specs.List.{find, list_any, flat_map}
use Rattle.btx_aux.specs.declared.draft.AuxJobBuilder.{AuxJobBuilder}
use Rattle.btx_aux.specs.language.Names.{listed_as, is_same_key, with_ending, with_name_once}
use Rattle.btx_aux.specs.language.Grammar.{Piece, Taken, Cut, Cites, Databases, Opens}
use Rattle.btx_aux.specs.language.Events.{event_at}
use Rattle.btx_text.specs.language.LogLines.{Line}
use Rattle.btx_aux.specs.language.Notes.{AuxComplaint, TopFile, LevelFile, CaseMismatch, RepeatedDatabase, Slipped, AuxNote, Wrong}
use Rattle.btx_aux.specs.language.Job.{is_star, taken_with, database_complaints}
use Rattle.btx_aux.specs.refinement.Drafts.{learned, asked_in, with_notes, with_database, with_databases, complaining}
use Rattle.btx_text.specs.language.Lists.{only_if, is_among}
use Rattle.btx_aux.specs.refinement.Notes.{aux_note_line}

-- a draft with a further line in its log
abbrev pub complained : AuxJobBuilder → AuxComplaint → ℕ → List ℕ → AuxJobBuilder
complained draft complaint line file = record draft { log = draft.log ++ aux_note_line (Wrong complaint line file) ∷ [] }

-- ---- a `\citation`

is_listed : {T : Type 0} (test : T → Bool) (xs : List T) → list_any test xs ≡ is_some (find test xs)
is_listed test [] = refl
is_listed test (x ∷ xs) = at (test x) (is_listed test xs) where
  at : (b : Bool) → list_any test xs ≡ is_some (find test xs) → (b || list_any test xs) ≡ is_some (cond b (Some x) (find test xs))
  at true h = refl
  at false h = h

module _ (draft : AuxJobBuilder) (file : List ℕ) (line : ℕ) (key : List ℕ) where
  pub learned-key_new : is_star key ≡ false → None ≡ listed_as draft.keys key → learned draft (event_at file line (Cites (Taken key)))
      ≡ record draft { keys = draft.keys ++ key ∷ [] }
  unfolding learned
  learned-key_new star none =
      let none' : listed_as draft.keys key ≡ None = sym none in
      let new : list_any (is_same_key key) draft.keys ≡ false = is_listed (is_same_key key) draft.keys ∙ ap (λ (o : Option (List ℕ)). is_some o) none' in
      rw (star, none', new) refl

  pub learned-key_same : (earlier : List ℕ) → is_star key ≡ false → Some earlier ≡ listed_as draft.keys key → bytes_eq earlier key ≡ true
      → learned draft (event_at file line (Cites (Taken key))) ≡ draft
  unfolding learned
  learned-key_same earlier star found same =
      let found' : listed_as draft.keys key ≡ Some earlier = sym found in
      let old : list_any (is_same_key key) draft.keys ≡ true = is_listed (is_same_key key) draft.keys ∙ ap (λ (o : Option (List ℕ)). is_some o) found' in
      rw (star, found', old, same) refl

  pub learned-key_other : (earlier : List ℕ) → is_star key ≡ false → Some earlier ≡ listed_as draft.keys key → bytes_eq earlier key ≡ false
      → learned draft (event_at file line (Cites (Taken key))) ≡ complained draft (CaseMismatch earlier key) line file
  unfolding learned
  learned-key_other earlier star found other =
      let found' : listed_as draft.keys key ≡ Some earlier = sym found in
      let old : list_any (is_same_key key) draft.keys ≡ true = is_listed (is_same_key key) draft.keys ∙ ap (λ (o : Option (List ℕ)). is_some o) found' in
      rw (star, found', old, other) refl

-- ---- a line

pub asked_in-Cites : (files : List (List ℕ)) (pieces : List Piece) → asked_in files (map Cites pieces) ≡ None
asked_in-Cites files [] = refl
asked_in-Cites files (piece ∷ pieces) = asked_in-Cites files pieces

pub ruleset line_steps = (asked_in-Cites)

-- ---- a `\bibdata` line

map_more : (file : List ℕ) (line : ℕ) (xs ys : List AuxComplaint) → map (λ (c : AuxComplaint). Wrong c line file) (xs ++ ys)
    ≡ map (λ (c : AuxComplaint). Wrong c line file) xs ++ map (λ (c : AuxComplaint). Wrong c line file) ys
map_more file line [] ys = refl
map_more file line (x ∷ xs) ys = ap (λ (notes : List AuxNote). Wrong x line file ∷ notes) (map_more file line xs ys)

pub lines_more : (xs ys : List AuxNote) → map aux_note_line (xs ++ ys) ≡ map aux_note_line xs ++ map aux_note_line ys
lines_more [] ys = refl
lines_more (x ∷ xs) ys = ap (λ (lines : List Line). aux_note_line x ∷ lines) (lines_more xs ys)

pub with_notes-append : (log : List Line) (xs ys : List AuxNote) → with_notes (with_notes log xs) ys ≡ with_notes log (xs ++ ys)
with_notes-append log [] ys = refl
with_notes-append log (x ∷ xs) [] = ap (with_notes log) (sym (append-nil (x ∷ xs)))
with_notes-append log (x ∷ xs) (y ∷ ys) =
    append_assoc log (aux_note_line x ∷ map aux_note_line xs) (aux_note_line y ∷ map aux_note_line ys)
    ∙ ap (λ (lines : List Line). log ++ aux_note_line x ∷ lines) (sym (lines_more xs (y ∷ ys)))

-- the databases of some pieces at once
abbrev all_at_once : List ℕ → ℕ → AuxJobBuilder → List Piece → AuxJobBuilder
all_at_once file line draft pieces =
    complaining file line (record draft { databases = fold with_name_once draft.databases (flat_map (taken_with (codes ".bib")) pieces) })
    (database_complaints draft.databases pieces)

complaining_twice : (file : List ℕ) (line : ℕ) (draft : AuxJobBuilder) (xs ys : List AuxComplaint) → complaining file line (complaining file line draft xs) ys
    ≡ complaining file line draft (xs ++ ys)
complaining_twice file line draft xs ys =
    ap (λ (log : List Line). record draft { log = log })
    (with_notes-append draft.log (map (λ (c : AuxComplaint). Wrong c line file) xs) (map (λ (c : AuxComplaint). Wrong c line file) ys)
    ∙ ap (with_notes draft.log) (sym (map_more file line xs ys)))

with_databases-once : (file : List ℕ) (line : ℕ) (draft : AuxJobBuilder) (pieces : List Piece) → with_databases file line draft pieces
    ≡ all_at_once file line draft pieces
with_databases-once file line draft [] = refl
with_databases-once file line draft (Taken name ∷ pieces) =
    let database = with_ending (codes ".bib") name in
    let after = record draft { databases = fold with_name_once draft.databases (flat_map (taken_with (codes ".bib")) (Taken name ∷ pieces)) } in
    with_databases-once file line (with_database file line draft name) pieces
    ∙ complaining_twice file line after (only_if (is_among draft.databases database) (RepeatedDatabase database))
    (database_complaints (with_name_once draft.databases database) pieces)
with_databases-once file line draft (Cut slip ∷ pieces) =
    let after = record draft { databases = fold with_name_once draft.databases (flat_map (taken_with (codes ".bib")) pieces) } in
    with_databases-once file line (complaining file line draft (Slipped slip ∷ [])) pieces
    ∙ complaining_twice file line after (Slipped slip ∷ []) (database_complaints draft.databases pieces)

pub learned-bibdata : (file : List ℕ) (line : ℕ) (draft : AuxJobBuilder) (pieces : List Piece) (none : List (List ℕ)) → none ≡ [] → draft.has_bibdata ≡ false
    → with_databases file line (record draft { databases = none; has_bibdata = true }) pieces ≡ learned draft (event_at file line (Databases pieces))
unfolding learned
learned-bibdata file line draft pieces none empty first =
    ap (λ (databases : List (List ℕ)). with_databases file line (record draft { databases = databases; has_bibdata = true }) pieces) empty
    ∙ with_databases-once file line (record draft { databases = []; has_bibdata = true }) pieces ∙ rw first refl

-- ---- a file that is opened

pub learned-Opens_top : (draft : AuxJobBuilder) (name : List ℕ) (level : ℕ) → level ≡ 0 → learned draft (event_at name 0 (Opens level))
    ≡ record draft { files = with_name_once draft.files name; log = draft.log ++ aux_note_line (TopFile name) ∷ [] }
unfolding learned
learned-Opens_top draft name zero is = refl
learned-Opens_top draft name (suc level) is = absurd (omega arith)

pub learned-Opens_level : (draft : AuxJobBuilder) (name : List ℕ) (level : ℕ) → (level ≡ 0 → ⊥) → learned draft (event_at name 0 (Opens level))
    ≡ record draft { log = draft.log ++ aux_note_line (LevelFile level name) ∷ [] }
unfolding learned
learned-Opens_level draft name zero is = absurd (is refl)
learned-Opens_level draft name (suc level) is = refl
