-- Which files are opened, shown along the reading.
use Rattle.std.proofs.Common.{◌≡◌, ℕ, zero, suc, ◌+◌, ◌-◌, ◌≤◌, nat_lt, arith, not, ◌&&◌, ◌||◌, Bool, true, false, cond, if◌then◌else◌, List, [], ◌∷◌, ◌++◌}
use Rattle.std.proofs.Common.{map, fold, take, drop, Option, None, Some, is_some, refl, sym, ap, ◌∙◌, subst, append_assoc, append-nil}
use Rattle.std.specs.Prelude.{codes}
use Rattle.std.specs.List.{flat_map, list_any, IsDistinct}
use Rattle.std.specs.Map.{lookup}
use Rattle.std.specs.Option.{option_or, option_map_or}
use Rattle.std.specs.Str.{bytes_eq}
use Rattle.std.specs.Cmp.{IsEquivalence}
use Rattle.std.proofs.lemmas.Bool.Decides.{nat_tests}
use Rattle.std.proofs.lemmas.Cmp.{nat_list_eq_equiv}
use Rattle.std.proofs.lemmas.Grind.{flat_map-append}
use Rattle.std.proofs.lemmas.List.{map-append}
use Rattle.std.proofs.lemmas.List.Folds.{list_any-append}
use Rattle.std.proofs.lemmas.Map.Keys.{IsDistinct-cons, IsDistinct-head, IsDistinct-push, IsDistinct-tail}
use Rattle.std.proofs.lemmas.Map.Made.{is_some-lookup}
use Rattle.std.proofs.lemmas.Slice.Eq.{bytes_eq-Decides}
use Rattle.btx_text.specs.language.Lines.{lines_of}
use Rattle.btx_text.specs.language.Keys.{folded}
use Rattle.btx_aux.specs.declared.command.Command.{Command}
use Rattle.btx_aux.specs.declared.command.Command.TheVariants.{Citation, Bibdata, Bibstyle, Input}
use Rattle.btx_aux.specs.language.Files.{Files}
use Rattle.btx_aux.specs.language.Names.{has_ending, is_same_key, with_name_once, with_key}
use Rattle.btx_aux.specs.language.Grammar.{Piece, Taken, Cut, EventKind, Cites, Databases, Styles, Includes, Opens, Absent, Full, TooLong, NoTop}
use Rattle.btx_aux.specs.language.Grammar.{aux_command_named, end_by, is_whole, pieces_of, words_of, words_of_command}
use Rattle.btx_aux.specs.language.Events.{AuxEvent, FileEvents, asked_of, event_at, job_events, expanded, files_named, followed, named_by, opened, said}
use Rattle.btx_aux.specs.language.Events.{said_from, until_end}
use Rattle.btx_aux.specs.language.Job.{job_of_files}
use Rattle.btx_aux.proofs.AnswerLemmas.{all-front}
use Rattle.btx_aux.specs.laws.Openings.{NoFileTwice, NoKeyTwice, OpensByConditions, TopOpensFirst, files_opened, includes, levels_by, files_open_at}
use Rattle.btx_aux.specs.laws.Openings.{opened_first, opening_of, openings, opens}
use Rattle.btx_text.specs.language.Limits.{is_too_long}
use Rattle.btx_text.specs.language.Lists.{is_among}
use Rattle.btx_aux.specs.refinement.Events.{file_named, input_events, inside, from_top}
use Rattle.btx_aux.specs.refinement.Job.{cited}
use Rattle.btx_aux.specs.refinement.Grammar.{words_at}

-- ---- keys

same_key_equiv : IsEquivalence is_same_key
same_key_equiv = record {
  refl = λ x. nat_list_eq_equiv.refl (folded x);
  symm = λ x y. nat_list_eq_equiv.symm (folded x) (folded y);
  congr = λ x y z. nat_list_eq_equiv.congr (folded x) (folded y) (folded z);
}

distinct-with_key : (keys : List (List ℕ)) (key : List ℕ) → IsDistinct is_same_key keys → IsDistinct is_same_key (with_key keys key)
distinct-with_key keys key distinct = by_test (list_any (is_same_key key) keys) refl where
  by_test : (b : Bool) → list_any (is_same_key key) keys ≡ b → IsDistinct is_same_key (if b then keys else keys ++ key ∷ [])
  by_test true there = distinct
  by_test false absent = IsDistinct-push same_key_equiv keys key distinct absent

distinct-fold : (more keys : List (List ℕ)) → IsDistinct is_same_key keys → IsDistinct is_same_key (fold with_key keys more)
distinct-fold [] keys distinct = distinct
distinct-fold (key ∷ more) keys distinct = distinct-fold more (with_key keys key) (distinct-with_key keys key distinct)

distinct-none : {T : Type 0} (same : T → T → Bool) → IsDistinct same []
unfolding IsDistinct
distinct-none same = tt

pub no_key_twice : NoKeyTwice
unfolding job_of_files
no_key_twice files top = distinct-fold (flat_map cited (job_events files top)) [] (distinct-none is_same_key)

-- ---- tests

or_first : (a b : Bool) → (a || b) ≡ false → a ≡ false
or_first true b none = cc
or_first false b none = refl

or_second : (a b : Bool) → (a || b) ≡ false → b ≡ false
or_second true b none = cc
or_second false b none = none

or_false : (a b : Bool) → a ≡ false → b ≡ false → (a || b) ≡ false
or_false true b off none = cc
or_false false b off none = none

or_true : (a b : Bool) → a ≡ true → (a || b) ≡ true
or_true true b on = refl
or_true false b on = cc

or_then : (a b : Bool) → b ≡ true → (a || b) ≡ true
or_then true b on = refl
or_then false b on = on

bytes_eq-same : (name : List ℕ) → bytes_eq name name ≡ true
bytes_eq-same name = (bytes_eq-Decides name name).1 refl

-- ---- names

is_among-push : (names : List (List ℕ)) (name other : List ℕ) → is_among (names ++ name ∷ []) other ≡ (is_among names other || (bytes_eq other name || false))
is_among-push names name other = list_any-append (bytes_eq other) names (name ∷ [])

is_among-less : (names : List (List ℕ)) (name other : List ℕ) → is_among (with_name_once names name) other ≡ false → is_among names other ≡ false
is_among-less names name other none = by_test (is_among names name) none where
  by_test : (b : Bool) → is_among (if b then names else names ++ name ∷ []) other ≡ false → is_among names other ≡ false
  by_test true none = none
  by_test false none = or_first (is_among names other) (bytes_eq other name || false) (sym (is_among-push names name other) ∙ none)

is_among-fold : (more names : List (List ℕ)) (other : List ℕ) → is_among (fold with_name_once names more) other ≡ false → is_among names other ≡ false
is_among-fold [] names other none = none
is_among-fold (name ∷ more) names other none = is_among-less names name other (is_among-fold more (with_name_once names name) other none)

-- a name is one of those that it is added to
is_among-with_name : (names : List (List ℕ)) (name : List ℕ) → is_among (with_name_once names name) name ≡ true
is_among-with_name names name = by_test (is_among names name) refl where
  by_test : (b : Bool) → is_among names name ≡ b → is_among (if b then names else names ++ name ∷ []) name ≡ true
  by_test true there = there
  by_test false absent = is_among-push names name name
      ∙ or_then (is_among names name) (bytes_eq name name || false) (or_true (bytes_eq name name) false (bytes_eq-same name))

-- ---- one more event

module _ (events : List AuxEvent) (event : AuxEvent) where
  names_more : files_named (events ++ event ∷ []) ≡ fold with_name_once (files_named events) (file_named event)
  names_more = ap (fold with_name_once []) (flat_map-append file_named events (event ∷ []) ∙ ap (λ (names : List (List ℕ)). flat_map file_named events ++ names)
      (append-nil (file_named event))) ∙ fold-more [] (flat_map file_named events) (file_named event) where
        fold-more : (names xs ys : List (List ℕ)) → fold with_name_once names (xs ++ ys) ≡ fold with_name_once (fold with_name_once names xs) ys
        fold-more names [] ys = refl
        fold-more names (x ∷ xs) ys = fold-more (with_name_once names x) xs ys

  openings_more : openings (events ++ event ∷ []) ≡ openings events ++ opening_of event
  openings_more = flat_map-append opening_of events (event ∷ []) ∙ ap (λ (more : List (List ℕ × ℕ)). openings events ++ more) (append-nil (opening_of event))

  opened_more : files_opened (events ++ event ∷ []) ≡ files_opened events ++ map (λ (opening : List ℕ × ℕ). opening.0) (opening_of event)
  opened_more = ap (map (λ (opening : List ℕ × ℕ). opening.0)) openings_more ∙ map-append (λ (opening : List ℕ × ℕ). opening.0) (openings events)
      (opening_of event)

  -- an event that opens nothing
  opened_same : levels_by event.word ≡ [] → files_opened (events ++ event ∷ []) ≡ files_opened events
  opened_same none =
      opened_more
      ∙ ap (λ (levels : List ℕ). files_opened events ++ map (λ (opening : List ℕ × ℕ). opening.0) (map (λ (level : ℕ). (event.file, level)) levels)) none
      ∙ append-nil (files_opened events)

  -- an event that opens its file
  opened_once : (level : ℕ) → levels_by event.word ≡ level ∷ [] → files_opened (events ++ event ∷ []) ≡ files_opened events ++ event.file ∷ []
  opened_once level one =
      opened_more ∙ ap (λ (levels : List ℕ). files_opened events ++ map (λ (opening : List ℕ × ℕ). opening.0) (map (λ (level : ℕ). (event.file, level)) levels))
      one

  -- what is named stays named
  named_before : (file : List ℕ) → is_among (files_named (events ++ event ∷ [])) file ≡ false → is_among (files_named events) file ≡ false
  named_before file none = is_among-fold (file_named event) (files_named events) file (ap (λ (names : List (List ℕ)). is_among names file) (sym names_more)
      ∙ none)

-- ---- each opened file was named, and none was opened twice

record Sound (events : List AuxEvent) : Type 0 where
  named : (file : List ℕ) → is_among (files_named events) file ≡ false → is_among (files_opened events) file ≡ false
  once : IsDistinct bytes_eq (files_opened events)

sound-none : Sound []
sound-none = record { named = λ file none. refl; once = distinct-none bytes_eq }

sound-more : (events : List AuxEvent) (event : AuxEvent) → levels_by event.word ≡ [] → Sound events → Sound (events ++ event ∷ [])
sound-more events event none sound = record {
  named = λ file new. ap (λ (names : List (List ℕ)). is_among names file) (opened_same events event none)
      ∙ sound.named file (named_before events event file new);
  once = subst (λ (names : List (List ℕ)). IsDistinct bytes_eq names) (sym (opened_same events event none)) sound.once;
}

sound-opens : (events : List AuxEvent) (event : AuxEvent) (level : ℕ) → levels_by event.word ≡ level ∷ [] → is_among (files_opened events) event.file ≡ false
    → is_among (files_named (events ++ event ∷ [])) event.file ≡ true → Sound events → Sound (events ++ event ∷ [])
sound-opens events event level one absent there sound = record {
  named = λ file new. ap (λ (names : List (List ℕ)). is_among names file) (opened_once events event level one)
      ∙ is_among-push (files_opened events) event.file file
      ∙ or_false (is_among (files_opened events) file) (bytes_eq file event.file || false) (sound.named file (named_before events event file new))
      (or_false (bytes_eq file event.file) false (other file new (bytes_eq file event.file) refl) refl);
  once = subst (λ (names : List (List ℕ)). IsDistinct bytes_eq names) (sym (opened_once events event level one))
      (IsDistinct-push nat_list_eq_equiv (files_opened events) event.file sound.once absent);
} where
  other : (file : List ℕ) → is_among (files_named (events ++ event ∷ [])) file ≡ false → (b : Bool) → bytes_eq file event.file ≡ b → b ≡ false
  other file new true same =
      let is : file ≡ event.file = (bytes_eq-Decides file event.file).0 same in
      let bad : is_among (files_named (events ++ event ∷ [])) event.file ≡ false = ap (λ (f : List ℕ). is_among (files_named (events ++ event ∷ [])) f) (sym is)
      ∙ new in
      cc
  other file new false same = refl

-- ---- the level of a file

lookup-append : {K X : Type 0} (test : K → Bool) (xs ys : List (K × X)) → lookup test (xs ++ ys) ≡ option_or (lookup test xs) (lookup test ys)
lookup-append test [] ys = refl
lookup-append test (x ∷ xs) ys = by_test (test x.0) (lookup-append test xs ys) where
  by_test : (b : Bool) → lookup test (xs ++ ys) ≡ option_or (lookup test xs) (lookup test ys) → cond b (Some x.1) (lookup test (xs ++ ys))
      ≡ option_or (cond b (Some x.1) (lookup test xs)) (lookup test ys)
  by_test true rest = refl
  by_test false rest = rest

some_stays : (o p : Option ℕ) (level : ℕ) → o ≡ Some level → option_or o p ≡ Some level
some_stays None p level is = cc
some_stays (Some x) p level is = is

none_gives : (o p : Option ℕ) → is_some o ≡ false → option_or o p ≡ p
none_gives None p is = refl
none_gives (Some x) p is = cc

level_stays : (events more : List AuxEvent) (file : List ℕ) (level : ℕ) → lookup (bytes_eq file) (openings events) ≡ Some level
    → lookup (bytes_eq file) (openings (events ++ more)) ≡ Some level
level_stays events more file level at =
    ap (lookup (bytes_eq file)) (flat_map-append opening_of events more)
    ∙ lookup-append (bytes_eq file) (openings events) (openings more)
    ∙ some_stays (lookup (bytes_eq file) (openings events)) (lookup (bytes_eq file) (openings more)) level at

level_is : (events : List AuxEvent) (file : List ℕ) (level : ℕ) → is_among (files_opened events) file ≡ false
    → lookup (bytes_eq file) (openings (events ++ event_at file 0 (Opens level) ∷ [])) ≡ Some level
level_is events file level absent =
    ap (lookup (bytes_eq file)) (openings_more events (event_at file 0 (Opens level)))
    ∙ lookup-append (bytes_eq file) (openings events) ((file, level) ∷ [])
    ∙ none_gives (lookup (bytes_eq file) (openings events)) (lookup (bytes_eq file) ((file, level) ∷ [])) (is_some-lookup (bytes_eq file) (openings events)
    ∙ absent)
    ∙ ap (λ (b : Bool). cond b (Some level) None) (bytes_eq-same file)

-- ---- a file's own lines open nothing by themselves

abbrev Silently : List EventKind → Type 0
Silently [] = Unit {0}
Silently (word ∷ words) = (levels_by word ≡ []) × Silently words

abbrev Said : List ℕ → List AuxEvent → Type 0
Said file [] = Unit {0}
Said file (event ∷ events) = (event.file ≡ file) × (levels_by event.word ≡ []) × Said file events

silent-cites : (pieces : List Piece) → Silently (map Cites pieces)
silent-cites [] = tt
silent-cites (piece ∷ pieces) = (refl, silent-cites pieces)

silent-command : (command : Option Command) (argument : List ℕ) → Silently (words_of_command command argument)
silent-command None argument = tt
silent-command (Some Citation) argument = silent-cites (pieces_of true argument)
silent-command (Some Bibdata) argument = (refl, tt)
silent-command (Some Bibstyle) argument = (refl, tt)
silent-command (Some Input) argument = (refl, tt)

silent-words_at : (brace : Option ℕ) (line : List ℕ) → Silently (words_at brace line)
silent-words_at None line = tt
silent-words_at (Some brace) line = silent-command (aux_command_named (take brace line)) (drop (brace + 1) line)

silent-line : (line : List ℕ) → Silently (words_of line)
unfolding words_of
silent-line line = silent-words_at _ line

said-words : (file : List ℕ) (number : ℕ) (words : List EventKind) → Silently words → Said file (map (event_at file number) words)
said-words file number [] silent = tt
said-words file number (word ∷ words) silent = (refl, silent.0, said-words file number words silent.1)

said-append : (file : List ℕ) (xs ys : List AuxEvent) → Said file xs → Said file ys → Said file (xs ++ ys)
said-append file [] ys first second = second
said-append file (x ∷ xs) ys first second = (first.0, first.1, said-append file xs ys first.2 second)

said-lines : (file : List ℕ) (number : ℕ) (lines : List (List ℕ)) → Said file (said_from file number lines)
said-lines file number [] = tt
said-lines file number (line ∷ lines) =
    said-append file (map (event_at file number) (words_of line)) (said_from file (number + 1) lines)
    (said-words file number (words_of line) (silent-line line)) (said-lines file (number + 1) lines)

said-file : (file text : List ℕ) → Said file (said file text)
unfolding said
said-file file text = said-lines file 1 (lines_of text)

-- ---- what follows each event

-- the first of some events opens nothing
abbrev Silent : List AuxEvent → Type 0
Silent events = (name : List ℕ) → opened_first events name ≡ None

silent-event : (event : AuxEvent) (events : List AuxEvent) → levels_by event.word ≡ [] → Silent (event ∷ events)
silent-event event events none = λ name. ap (λ (levels : List ℕ). lookup (bytes_eq name) (map (λ (level : ℕ). (event.file, level)) levels)) none

-- what follows an event, which comes after the earlier ones and before the later ones
abbrev Fate : Files → List AuxEvent → AuxEvent → List AuxEvent → Type 0
Fate files earlier event later = (name : List ℕ)
    → opened_first later name ≡ (if opens files earlier event name then Some (files_open_at earlier event.file) else None)

-- what follows each of some events, with these after all
abbrev Each : Files → List AuxEvent → List AuxEvent → List AuxEvent → Type 0
Each files earlier [] behind = Unit {0}
Each files earlier (event ∷ events) behind = Fate files earlier event (events ++ behind) × Each files (earlier ++ event ∷ []) events behind

each-append : (files : Files) (earlier xs ys behind : List AuxEvent) → Each files earlier xs (ys ++ behind) → Each files (earlier ++ xs) ys behind
    → Each files earlier (xs ++ ys) behind
each-append files earlier [] ys behind first second = subst (λ (e : List AuxEvent). Each files e ys behind) (append-nil earlier) second
each-append files earlier (x ∷ xs) ys behind first second = (
  subst (λ (later : List AuxEvent). Fate files earlier x later) (sym (append_assoc xs ys behind)) first.0,
  each-append files (earlier ++ x ∷ []) xs ys behind first.1
      (subst (λ (e : List AuxEvent). Each files e ys behind) (sym (append_assoc earlier (x ∷ []) xs)) second),
)

-- an event that is no `\@input` and is followed by nothing that opens a file
fate_none : (files : Files) (earlier : List AuxEvent) (event : AuxEvent) (later : List AuxEvent) → ((name : List ℕ) → includes event.word name ≡ false)
    → Silent later → Fate files earlier event later
fate_none files earlier event later off silent = λ name. silent name ∙ sym (
    ap (λ (b : Bool). if b && has_ending (codes ".aux") name && not (is_among (files_named earlier) name) && is_some (files name)
    && nat_lt (files_open_at earlier event.file) 20 then Some (files_open_at earlier event.file) else None) (off name))

-- ---- reading

-- the number of open files where there is room for `room` more
abbrev open_with : ℕ → ℕ
open_with room = 20 - room

-- a file that is read: what follows each of its events, and by what it begins
record IsRead (files : Files) (room : ℕ) (earlier : List AuxEvent) (name : List ℕ) (events behind : List AuxEvent) : Type 0 where
  each : Each files earlier events behind
  sound : Sound (earlier ++ events)
  first : (other : List ℕ) → opened_first (events ++ behind) other ≡ (if nat_lt (open_with room) 20 && bytes_eq other name then Some (open_with room) else None)

abbrev Reads : Files → ℕ → FileEvents → Type 0
Reads files room reading = (earlier : List AuxEvent) (name text : List ℕ) (behind : List AuxEvent) → Sound earlier → is_among (files_opened earlier) name
    ≡ false
    → ((level : ℕ) → level ≡ open_with room → is_among (files_named (earlier ++ event_at name 0 (Opens level) ∷ [])) name ≡ true) → Silent behind
    → IsRead files room earlier name (reading earlier name text) behind

-- a line that asks for no file
unasked : (names : List (List ℕ)) (word : EventKind) (name : List ℕ) → asked_of names word ≡ None
    → (includes word name && has_ending (codes ".aux") name && not (is_among names name)) ≡ false
unasked names (Includes (Taken text)) name none = by_test (bytes_eq text name) refl where
  refused : (b c : Bool) → (if b && c then Some text else None) ≡ None → (b && c) ≡ false
  refused true true off = cc
  refused true false off = refl
  refused false c off = refl

  by_test : (b : Bool) → bytes_eq text name ≡ b → (b && has_ending (codes ".aux") name && not (is_among names name)) ≡ false
  by_test true same = subst (λ (n : List ℕ). (true && has_ending (codes ".aux") n && not (is_among names n)) ≡ false) ((bytes_eq-Decides text name).0 same)
      (refused (has_ending (codes ".aux") text) (not (is_among names text)) none)
  by_test false other = refl
unasked names (Includes (Cut slip)) name none = refl
unasked names (Cites piece) name none = refl
unasked names (Databases pieces) name none = refl
unasked names (Styles piece) name none = refl
unasked names (Opens level) name none = refl
unasked names (Absent text) name none = refl
unasked names Full name none = refl
unasked names TooLong name none = refl
unasked names NoTop name none = refl

-- a line that asks for a file
record Asks (names : List (List ℕ)) (word : EventKind) (name : List ℕ) : Type 0 where
  word_is : word ≡ Includes (Taken name)
  ending : has_ending (codes ".aux") name ≡ true
  new : is_among names name ≡ false

none_some : (name : List ℕ) → None ≡ Some name → ⊥
none_some name is = cc

asks : (names : List (List ℕ)) (word : EventKind) (name : List ℕ) → asked_of names word ≡ Some name → Asks names word name
asks names (Includes (Taken text)) name some = by_tests (has_ending (codes ".aux") text) (is_among names text) refl refl some where
  by_tests : (b c : Bool) → has_ending (codes ".aux") text ≡ b → is_among names text ≡ c → (if b && not c then Some text else None) ≡ Some name
      → Asks names (Includes (Taken text)) name
  by_tests true false ending new is =
      let same : text ≡ name = cc in
      subst (λ (n : List ℕ). Asks names (Includes (Taken text)) n) same (record { word_is = refl; ending = ending; new = new })
  by_tests true true ending new is = absurd (none_some name is)
  by_tests false c ending new is = absurd (none_some name is)
asks names (Includes (Cut slip)) name some = record { word_is = cc; ending = cc; new = cc }
asks names (Cites piece) name some = record { word_is = cc; ending = cc; new = cc }
asks names (Databases pieces) name some = record { word_is = cc; ending = cc; new = cc }
asks names (Styles piece) name some = record { word_is = cc; ending = cc; new = cc }
asks names (Opens level) name some = record { word_is = cc; ending = cc; new = cc }
asks names (Absent text) name some = record { word_is = cc; ending = cc; new = cc }
asks names Full name some = record { word_is = cc; ending = cc; new = cc }
asks names TooLong name some = record { word_is = cc; ending = cc; new = cc }
asks names NoTop name some = record { word_is = cc; ending = cc; new = cc }

-- the name of a line that asks for its file is one of the names from there on
is_among-kept : (names : List (List ℕ)) (name other : List ℕ) → is_among names other ≡ true → is_among (with_name_once names name) other ≡ true
is_among-kept names name other there = by_test (is_among names name) where
  by_test : (b : Bool) → is_among (if b then names else names ++ name ∷ []) other ≡ true
  by_test true = there
  by_test false = is_among-push names name other ∙ or_true (is_among names other) (bytes_eq other name || false) there

is_among-all_kept : (more names : List (List ℕ)) (other : List ℕ) → is_among names other ≡ true → is_among (fold with_name_once names more) other ≡ true
is_among-all_kept [] names other there = there
is_among-all_kept (name ∷ more) names other there = is_among-all_kept more (with_name_once names name) other (is_among-kept names name other there)

named_now : (earlier : List AuxEvent) (event : AuxEvent) (name : List ℕ) → Asks (files_named earlier) event.word name → (next : AuxEvent)
    → is_among (files_named ((earlier ++ event ∷ []) ++ next ∷ [])) name ≡ true
named_now earlier event name ask next =
    let front = earlier ++ event ∷ [] in
    let names : files_named front ≡ with_name_once (files_named earlier) name = names_more earlier event
    ∙ ap (λ (w : EventKind). fold with_name_once (files_named earlier) (named_by event.file w)) ask.word_is
    ∙ ap (λ (b : Bool). fold with_name_once (files_named earlier) (if b then name ∷ [] else [])) ask.ending in
    let here : is_among (files_named front) name ≡ true = ap (λ (ns : List (List ℕ)). is_among ns name) names ∙ is_among-with_name (files_named earlier) name in
    ap (λ (ns : List (List ℕ)). is_among ns name) (names_more front next) ∙ is_among-all_kept (file_named next) (files_named front) name here

-- which file such a line opens: the one that it asks for, if it is there and there is room
module _ (files : Files) (earlier : List AuxEvent) (event : AuxEvent) (name : List ℕ) (ask : Asks (files_named earlier) event.word name) where
  opens_asked : (other : List ℕ) → opens files earlier event other
      ≡ (bytes_eq name other && is_some (files name) && nat_lt (files_open_at earlier event.file) 20)
  opens_asked other =
      ap (λ (w : EventKind). includes w other && has_ending (codes ".aux") other && not (is_among (files_named earlier) other) && is_some (files other)
      && nat_lt (files_open_at earlier event.file) 20) ask.word_is
      ∙ by_test (bytes_eq name other) refl where
        by_test : (b : Bool) → bytes_eq name other ≡ b
            → (b && has_ending (codes ".aux") other && not (is_among (files_named earlier) other) && is_some (files other)
            && nat_lt (files_open_at earlier event.file) 20) ≡ (b && is_some (files name) && nat_lt (files_open_at earlier event.file) 20)
        by_test false differ = refl
        by_test true same =
            subst (λ (n : List ℕ). (true && has_ending (codes ".aux") n && not (is_among (files_named earlier) n) && is_some (files n)
            && nat_lt (files_open_at earlier event.file) 20) ≡ (is_some (files name) && nat_lt (files_open_at earlier event.file) 20))
            ((bytes_eq-Decides name other).0 same) (rw (ask.ending, ask.new) refl)

-- what becomes of an event: what follows it, and what follows each event that it brings
record IsFollowed (files : Files) (earlier : List AuxEvent) (event : AuxEvent) (more behind : List AuxEvent) : Type 0 where
  fate : Fate files earlier event (more ++ behind)
  each : Each files (earlier ++ event ∷ []) more behind
  sound : Sound ((earlier ++ event ∷ []) ++ more)

second_false : (a b c : Bool) → b ≡ false → (a && b && c) ≡ false
second_false true b c off = rw off refl
second_false false b c off = refl

second_true : (a b c : Bool) → b ≡ true → (a && b && c) ≡ (c && a)
second_true true b true on = rw on refl
second_true true b false on = rw on refl
second_true false b true on = refl
second_true false b false on = refl

module _ (files : Files) (room : ℕ) (reading : FileEvents) (reads : Reads files room reading) (small : room ≤ 19) where
  open_is : (earlier : List AuxEvent) (file : List ℕ) → lookup (bytes_eq file) (openings earlier) ≡ Some (19 - room) → files_open_at earlier file
      ≡ open_with room
  open_is earlier file at =
      let is : (19 - room) + 1 ≡ open_with room = omega arith in
      ap (λ (o : Option ℕ). option_map_or (λ (level : ℕ). level + 1) o 0) at ∙ is

  found-follows : (earlier : List AuxEvent) (event : AuxEvent) (name : List ℕ) (text : Option (List ℕ)) (behind : List AuxEvent) → files name ≡ text
      → levels_by event.word ≡ [] → Asks (files_named earlier) event.word name
      → files_open_at earlier event.file ≡ open_with room → Sound earlier → Silent behind
      → IsFollowed files earlier event (input_events reading (earlier ++ event ∷ []) event name text) behind
  found-follows earlier event name None behind there none ask count sound silent =
      let front = earlier ++ event ∷ [] in
      let absent : AuxEvent = record event { word = Absent name } in
      record {
        fate = λ other. sym (ap (λ (b : Bool). if b then Some (files_open_at earlier event.file) else None)
            (opens_asked files earlier event name ask other
            ∙ second_false (bytes_eq name other) (is_some (files name)) (nat_lt (files_open_at earlier event.file) 20)
            (ap (λ (o : Option (List ℕ)). is_some o) there)));
        each = (fate_none files front absent behind (λ other. refl) silent, tt);
        sound = sound-more front absent refl (sound-more earlier event none sound);
      }
  found-follows earlier event name (Some text) behind there none ask count sound silent =
      let front = earlier ++ event ∷ [] in
      let unopened : is_among (files_opened front) name ≡ false = ap (λ (names : List (List ℕ)). is_among names name) (opened_same earlier event none)
      ∙ sound.named name ask.new in
      let read = reads front name text behind (sound-more earlier event none sound) unopened
      (λ level is. named_now earlier event name ask (event_at name 0 (Opens level))) silent in
      record {
        fate = λ other. read.first other ∙ sym (
            ap (λ (b : Bool). if b then Some (files_open_at earlier event.file) else None) (opens_asked files earlier event name ask other
            ∙ second_true (bytes_eq name other) (is_some (files name)) (nat_lt (files_open_at earlier event.file) 20)
            (ap (λ (o : Option (List ℕ)). is_some o) there))
            ∙ ap (λ (n : ℕ). if nat_lt n 20 && bytes_eq name other then Some n else None) count
            ∙ ap (λ (b : Bool). if nat_lt (open_with room) 20 && b then Some (open_with room) else None) (nat_list_eq_equiv.symm name other));
        each = read.each;
        sound = read.sound;
      }

  followed-follows : (earlier : List AuxEvent) (event : AuxEvent) (asked : Option (List ℕ)) (behind : List AuxEvent) → asked_of (files_named earlier) event.word
      ≡ asked → levels_by event.word ≡ []
      → files_open_at earlier event.file ≡ open_with room → Sound earlier → Silent behind
      → IsFollowed files earlier event (followed files reading (earlier ++ event ∷ []) event asked) behind
  followed-follows earlier event None behind unask none count sound silent = record {
    fate = λ name. silent name ∙ sym (ap (λ (b : Bool). if b && is_some (files name) && nat_lt (files_open_at earlier event.file) 20 then Some
        (files_open_at earlier event.file) else None) (unasked (files_named earlier) event.word name unask));
    each = tt;
    sound = subst Sound (sym (append-nil (earlier ++ event ∷ []))) (sound-more earlier event none sound);
  }
  followed-follows earlier event (Some name) behind is none count sound silent =
      found-follows earlier event name (files name) behind refl none (asks (files_named earlier) event.word name is) count sound silent

  expanded-silent : (earlier : List AuxEvent) (file : List ℕ) (events behind : List AuxEvent) → Said file events → Silent behind
      → Silent (expanded files reading earlier events ++ behind)
  expanded-silent earlier file [] behind said silent = silent
  expanded-silent earlier file (event ∷ events) behind said silent =
      let front = earlier ++ event ∷ [] in
      let more = followed files reading front event (asked_of (files_named earlier) event.word) in
      silent-event event ((more ++ expanded files reading (front ++ more) events) ++ behind) said.1

  expanded-read : (earlier : List AuxEvent) (file : List ℕ) (events behind : List AuxEvent) → Said file events → Sound earlier
      → lookup (bytes_eq file) (openings earlier) ≡ Some (19 - room) → Silent behind
      → Each files earlier (expanded files reading earlier events) behind × Sound (earlier ++ expanded files reading earlier events)
  expanded-read earlier file [] behind said sound at silent = (tt, subst Sound (sym (append-nil earlier)) sound)
  expanded-read earlier file (event ∷ events) behind said sound at silent =
      let front = earlier ++ event ∷ [] in
      let asked = asked_of (files_named earlier) event.word in
      let more = followed files reading front event asked in
      let rest = expanded files reading (front ++ more) events in
      let count : files_open_at earlier event.file ≡ open_with room = ap (files_open_at earlier) said.0 ∙ open_is earlier file at in
      let follows = followed-follows earlier event asked (rest ++ behind) refl said.1 count sound
      (expanded-silent (front ++ more) file events behind said.2 silent) in
      let at' = level_stays front more file (19 - room) (level_stays earlier (event ∷ []) file (19 - room) at) in
      let onward = expanded-read (front ++ more) file events behind said.2 follows.sound at' silent in (
        (
          subst (λ (later : List AuxEvent). Fate files earlier event later) (sym (append_assoc more rest behind)) follows.fate,
          each-append files front more rest behind follows.each onward.0,
        ),
        subst Sound (ap (λ (es : List AuxEvent). es ++ rest) (append_assoc earlier (event ∷ []) more) ∙ append_assoc earlier (event ∷ more) rest) onward.1,
      )

-- a file that is open, whether it is too long or is read
inside-read : (files : Files) (room : ℕ) → Reads files room (opened files room) → room ≤ 19
    → (long : Bool) (earlier : List AuxEvent) (name text : List ℕ) (behind : List AuxEvent) → Sound earlier → lookup (bytes_eq name) (openings earlier)
    ≡ Some (19 - room) → Silent behind
    → Each files earlier (inside long files (opened files room) earlier name text) behind
    × Sound (earlier ++ inside long files (opened files room) earlier name text)
    × Silent (inside long files (opened files room) earlier name text ++ behind)
inside-read files room reads small true earlier name text behind sound at silent = (
  (fate_none files earlier (event_at name 0 TooLong) behind (λ other. refl) silent, tt),
  sound-more earlier (event_at name 0 TooLong) refl sound,
  silent-event (event_at name 0 TooLong) behind refl,
)
inside-read files room reads small false earlier name text behind sound at silent =
    let read = expanded-read files room (opened files room) reads small earlier name (said name text) behind (said-file name text) sound at silent in
    (read.0, read.1, expanded-silent files room (opened files room) reads small earlier name (said name text) behind (said-file name text) silent)

opened-read : (files : Files) (room : ℕ) → room ≤ 20 → Reads files room (opened files room)
opened-read files zero fits earlier name text behind sound unopened names silent = record {
  each = (fate_none files earlier (event_at name 0 Full) behind (λ other. refl) silent, tt);
  sound = sound-more earlier (event_at name 0 Full) refl sound;
  first = λ other. refl;
}
opened-read files (suc room) fits earlier name text behind sound unopened names silent =
    let opening = event_at name 0 (Opens (19 - room)) in
    let level : 19 - room ≡ open_with (suc room) = omega arith in
    let small : room ≤ 19 = omega arith in
    let fewer : nat_lt (open_with (suc room)) 20 ≡ true = grind (arith, nat_tests) in
    let body = inside (is_too_long text) files (opened files room) (earlier ++ opening ∷ []) name text in
    let read = inside-read files room (opened-read files room (omega arith)) small (is_too_long text) (earlier ++ opening ∷ []) name text behind
    (sound-opens earlier opening (19 - room) refl unopened (names (19 - room) level) sound) (level_is earlier name (19 - room) unopened) silent in
    record {
      each = (fate_none files earlier opening (body ++ behind) (λ other. refl) read.2, read.0);
      sound = subst Sound (append_assoc earlier (opening ∷ []) body) read.1;
      first = λ other. ap (λ (n : ℕ). if bytes_eq other name then Some n else None) level
          ∙ sym (ap (λ (b : Bool). if b && bytes_eq other name then Some (open_with (suc room)) else None) fewer);
    }

and_false : (b : Bool) → (b && false) ≡ false
and_false true = refl
and_false false = refl

and_true : (b : Bool) → (b && true) ≡ b
and_true true = refl
and_true false = refl

-- the top file, there or not
record TopIsRead (files : Files) (top : List ℕ) (text : Option (List ℕ)) (events : List AuxEvent) : Type 0 where
  each : Each files [] events []
  sound : Sound events
  first : (name : List ℕ) → opened_first events name ≡ (if bytes_eq name top && is_some text then Some 0 else None)

top-read : (files : Files) (top : List ℕ) (text : Option (List ℕ)) → TopIsRead files top text (from_top files top text)
top-read files top None = record {
  each = (fate_none files [] (event_at top 0 NoTop) [] (λ other. refl) (λ other. refl), tt);
  sound = sound-more [] (event_at top 0 NoTop) refl sound-none;
  first = λ name. sym (ap (λ (b : Bool). if b then Some 0 else None) (and_false (bytes_eq name top)));
}
top-read files top (Some text) =
    let named_top : (level : ℕ) → level ≡ open_with 20 → is_among (files_named (event_at top 0 (Opens level) ∷ [])) top ≡ true =
    λ level is. rw is (or_true (bytes_eq top top) false (bytes_eq-same top)) in
    let read = opened-read files 20 (omega arith) [] top text [] sound-none refl named_top (λ other. refl) in
    record {
      each = read.each;
      sound = read.sound;
      first = λ name. ap (λ (es : List AuxEvent). opened_first es name) (sym (append-nil (opened files 20 [] top text))) ∙ read.first name
          ∙ sym (ap (λ (b : Bool). if b then Some 0 else None) (and_true (bytes_eq name top)));
    }

-- ---- up to the end

first-until_end : (events : List AuxEvent) (name : List ℕ) → opened_first (until_end events) name ≡ opened_first events name
first-until_end [] name = refl
first-until_end (event ∷ events) name = by_test (is_whole (end_by event.word)) where
  by_test : (b : Bool) → opened_first (if b then event ∷ until_end events else event ∷ []) name ≡ opened_first (event ∷ events) name
  by_test true = refl
  by_test false = refl

-- an `\@input` line doesn't end the reading
ends_elsewhere : (word : EventKind) (name : List ℕ) → is_whole (end_by word) ≡ false → includes word name ≡ false
ends_elsewhere (Includes piece) name ends = cc
ends_elsewhere (Cites piece) name ends = refl
ends_elsewhere (Databases pieces) name ends = refl
ends_elsewhere (Styles piece) name ends = refl
ends_elsewhere (Opens level) name ends = refl
ends_elsewhere (Absent text) name ends = refl
ends_elsewhere Full name ends = refl
ends_elsewhere TooLong name ends = refl
ends_elsewhere NoTop name ends = refl

each-until_end : (files : Files) (earlier events : List AuxEvent) → Each files earlier events [] → Each files earlier (until_end events) []
each-until_end files earlier [] each = tt
each-until_end files earlier (event ∷ events) each =
    by_test (is_whole (end_by event.word)) refl (each-until_end files (earlier ++ event ∷ []) events each.1) where
      by_test : (b : Bool) → is_whole (end_by event.word) ≡ b → Each files (earlier ++ event ∷ []) (until_end events) []
          → Each files earlier (if b then event ∷ until_end events else event ∷ []) []
      by_test true goes rest = (
        λ name. ap (λ (es : List AuxEvent). opened_first es name) (append-nil (until_end events)) ∙ first-until_end events name
            ∙ ap (λ (es : List AuxEvent). opened_first es name) (sym (append-nil events)) ∙ each.0 name,
        rest,
      )
      by_test false ends rest = (fate_none files earlier event [] (λ name. ends_elsewhere event.word name ends) (λ name. refl), tt)

-- what follows one of some events
fate_of : (files : Files) (earlier front later : List AuxEvent) (event : AuxEvent) → Each files earlier (front ++ event ∷ later) []
    → Fate files (earlier ++ front) event later
fate_of files earlier [] later event each =
    subst (λ (es : List AuxEvent). Fate files es event later) (sym (append-nil earlier))
    (subst (λ (es : List AuxEvent). Fate files earlier event es) (append-nil later) each.0)
fate_of files earlier (x ∷ front) later event each =
    subst (λ (es : List AuxEvent). Fate files es event later) (append_assoc earlier (x ∷ []) front) (fate_of files (earlier ++ x ∷ []) front later event each.1)

pub opens_by_conditions : OpensByConditions
unfolding job_events
opens_by_conditions files top earlier later event name is =
    let each = each-until_end files [] (from_top files top (files top)) (top-read files top (files top)).each in
    fate_of files [] earlier later event (subst (λ (es : List AuxEvent). Each files [] es []) is each) name

pub top_opens_first : TopOpensFirst
unfolding job_events
top_opens_first files top name = first-until_end (from_top files top (files top)) name ∙ (top-read files top (files top)).first name

-- ---- no file twice

until_end-front : (events : List AuxEvent) → (rest : List AuxEvent) × (until_end events ++ rest ≡ events)
until_end-front [] = ([], refl)
until_end-front (event ∷ events) = by_test (is_whole (end_by event.word)) (until_end-front events) where
  by_test : (b : Bool) → (rest : List AuxEvent) × (until_end events ++ rest ≡ events)
      → (rest : List AuxEvent) × ((if b then event ∷ until_end events else event ∷ []) ++ rest ≡ event ∷ events)
  by_test true front = (front.0, ap (λ (es : List AuxEvent). event ∷ es) front.1)
  by_test false front = (events, refl)

distinct-front : {T : Type 0} (same : T → T → Bool) (xs ys : List T) → IsDistinct same (xs ++ ys) → IsDistinct same xs
distinct-front same [] ys distinct = distinct-none same
distinct-front same (x ∷ xs) ys distinct =
    IsDistinct-cons same x xs (all-front (λ y. same x y ≡ false) xs ys (IsDistinct-head same x (xs ++ ys) distinct))
    (distinct-front same xs ys (IsDistinct-tail same x (xs ++ ys) distinct))

files_opened-append : (xs ys : List AuxEvent) → files_opened (xs ++ ys) ≡ files_opened xs ++ files_opened ys
files_opened-append xs ys = ap (map (λ (opening : List ℕ × ℕ). opening.0)) (flat_map-append opening_of xs ys)
    ∙ map-append (λ (opening : List ℕ × ℕ). opening.0) (openings xs) (openings ys)

pub no_file_twice : NoFileTwice
unfolding job_events
no_file_twice files top =
    let events = from_top files top (files top) in
    let front = until_end-front events in
    let whole = ap files_opened (sym front.1) ∙ files_opened-append (until_end events) front.0 in
    distinct-front bytes_eq (files_opened (until_end events)) (files_opened front.0)
    (subst (λ (names : List (List ℕ)). IsDistinct bytes_eq names) whole (top-read files top (files top)).sound.once)
