-- What a line, an include and a file make of what is known.
use Rattle.std.proofs.Common.{◌≡◌, ℕ, zero, suc, ◌+◌, ◌-◌, ◌≤◌, Bool, true, false, cond, eqb, List, [], ◌∷◌, ◌++◌, map, length, Option, None, Some, not, refl}
use Rattle.std.proofs.Common.{sym, ap, ◌∙◌, arith}
use Rattle.std.specs.Option.{option_or}
use Rattle.btx_aux.specs.declared.draft.AuxJobBuilder.{AuxJobBuilder}
use Rattle.btx_aux.specs.declared.command.Command.{Command}
use Rattle.btx_aux.specs.declared.command.Command.TheVariants.{Citation, Bibdata, Bibstyle, Input}
use Rattle.btx_aux.specs.declared.end.End.TheVariants as end
use Rattle.btx_aux.specs.language.Files.{Files, file_of}
use Rattle.btx_aux.specs.language.Grammar.{Piece, Cites, Databases, Styles, Includes, Opens, Absent, words_of, words_of_command, is_whole, pieces_of}
use Rattle.btx_aux.specs.language.Events.{AuxEvent, event_at, said, said_from, asked_of}
use Rattle.btx_aux.specs.refinement.Drafts.{learned, learned_words, asked_in}
use Rattle.btx_aux.specs.refinement.Reads.{after, Opening, included, asked_for, run, within, opened_by}
use Rattle.btx_aux.proofs.DraftLemmas.{asked_in-Cites}
use Rattle.btx_text.specs.language.Lines.{line_pieces, trimmed, lines_of}
use Rattle.std.specs.List.{onto_first}
use Rattle.btx_text.specs.language.Limits.{is_too_long}
use Rattle.btx_aux.specs.refinement.Grammar.{piece_of, words_at}

module _ (files : Files) (opening : Opening) where
  pub run-append : (draft : AuxJobBuilder) (xs ys : List AuxEvent) → run files opening draft (xs ++ ys) ≡ run files opening (run files opening draft xs) ys
  unfolding run
  run-append draft [] ys = refl
  run-append draft (x ∷ xs) ys = run-append (asked_for files opening (after draft x) x.file x.line (asked_of draft.files x.word)) xs ys

  after-whole : (draft : AuxJobBuilder) (event : AuxEvent) → is_whole draft.ending ≡ true → after draft event ≡ learned draft event
  after-whole draft event whole = rw whole refl

  -- the words of a `\citation`
  run-Cites : (file : List ℕ) (line : ℕ) (draft : AuxJobBuilder) (pieces : List Piece) → is_whole draft.ending ≡ true
      → run files opening draft (map (event_at file line) (map Cites pieces)) ≡ learned_words file line draft (map Cites pieces)
  unfolding run learned
  run-Cites file line draft [] whole = refl
  run-Cites file line draft (piece ∷ pieces) whole =
      ap (λ (d : AuxJobBuilder). run files opening d (map (event_at file line) (map Cites pieces))) (after-whole draft (event_at file line (Cites piece)) whole)
      ∙ run-Cites file line (learned draft (event_at file line (Cites piece))) pieces whole

  or_none : (o : Option (List ℕ)) → option_or o None ≡ o
  or_none None = refl
  or_none (Some x) = refl

  run_command : (file : List ℕ) (line : ℕ) (draft : AuxJobBuilder) (command : Option Command) (argument : List ℕ) → is_whole draft.ending ≡ true
      → run files opening draft (map (event_at file line) (words_of_command command argument))
      ≡ asked_for files opening (learned_words file line draft (words_of_command command argument)) file line
      (asked_in draft.files (words_of_command command argument))
  unfolding run
  run_command file line draft None argument whole = refl
  run_command file line draft (Some Citation) argument whole =
      run-Cites file line draft (pieces_of true argument) whole
      ∙ ap (asked_for files opening (learned_words file line draft (map Cites (pieces_of true argument))) file line)
      (sym (asked_in-Cites draft.files (pieces_of true argument)))
  run_command file line draft (Some Bibdata) argument whole = after-whole draft (event_at file line (Databases (pieces_of true argument))) whole
  run_command file line draft (Some Bibstyle) argument whole = after-whole draft (event_at file line (Styles (piece_of argument))) whole
  run_command file line draft (Some Input) argument whole =
      ap (λ (d : AuxJobBuilder). asked_for files opening d file line (asked_of draft.files (Includes (piece_of argument))))
      (after-whole draft (event_at file line (Includes (piece_of argument))) whole)
      ∙ ap (asked_for files opening (learned draft (event_at file line (Includes (piece_of argument)))) file line)
      (sym (or_none (asked_of draft.files (Includes (piece_of argument)))))

  run_at : (file : List ℕ) (number : ℕ) (draft : AuxJobBuilder) (brace : Option ℕ) (line : List ℕ) → is_whole draft.ending ≡ true
      → run files opening draft (map (event_at file number) (words_at brace line))
      ≡ asked_for files opening (learned_words file number draft (words_at brace line)) file number (asked_in draft.files (words_at brace line))
  unfolding run
  run_at file number draft None line whole = refl
  run_at file number draft (Some brace) line whole = run_command file number draft _ _ whole

  -- a line
  pub run-words : (file : List ℕ) (number : ℕ) (draft : AuxJobBuilder) (line : List ℕ) → is_whole draft.ending ≡ true
      → run files opening draft (map (event_at file number) (words_of line))
      ≡ asked_for files opening (learned_words file number draft (words_of line)) file number (asked_in draft.files (words_of line))
  unfolding words_of
  run-words file number draft line whole = run_at file number draft _ line whole

  -- a line that asks for no file
  pub run-quiet : (file : List ℕ) (number : ℕ) (draft after : AuxJobBuilder) (line : List ℕ) → is_whole draft.ending ≡ true
      → after ≡ learned_words file number draft (words_of line) → None ≡ asked_in draft.files (words_of line)
      → after ≡ run files opening draft (map (event_at file number) (words_of line))
  run-quiet file number draft after line whole is none =
      is ∙ ap (asked_for files opening (learned_words file number draft (words_of line)) file number) none ∙ sym (run-words file number draft line whole)

  -- a line that asks for one
  pub run-asking : (file : List ℕ) (number : ℕ) (draft between after : AuxJobBuilder) (line name : List ℕ) → is_whole draft.ending ≡ true
      → between ≡ learned_words file number draft (words_of line) → Some name ≡ asked_in draft.files (words_of line)
      → after ≡ included opening between file number name (files name)
      → after ≡ run files opening draft (map (event_at file number) (words_of line))
  run-asking file number draft between after line name whole is asked goes =
      goes ∙ ap (λ (d : AuxJobBuilder). included opening d file number name (files name)) is
      ∙ ap (asked_for files opening (learned_words file number draft (words_of line)) file number) asked
      ∙ sym (run-words file number draft line whole)

  -- a line, and then the others
  pub run-more : (file : List ℕ) (number : ℕ) (draft after whole : AuxJobBuilder) (left lines : List (List ℕ)) (line : List ℕ)
      → left ≡ line ∷ lines → run files opening draft (said_from file number left) ≡ whole
      → after ≡ run files opening draft (map (event_at file number) (words_of line))
      → run files opening after (said_from file (number + 1) lines) ≡ whole
  run-more file number draft after whole left lines line parts total is =
      ap (λ (d : AuxJobBuilder). run files opening d (said_from file (number + 1) lines)) is
      ∙ sym (run-append draft (map (event_at file number) (words_of line)) (said_from file (number + 1) lines))
      ∙ ap (λ (ls : List (List ℕ)). run files opening draft (said_from file number ls)) (sym parts) ∙ total

-- the words of a line don't end the reading
pub cites_whole : (file : List ℕ) (line : ℕ) (draft : AuxJobBuilder) (pieces : List Piece) → (learned_words file line draft (map Cites pieces)).ending ≡ draft.ending
unfolding learned
cites_whole file line draft [] = refl
cites_whole file line draft (piece ∷ pieces) = cites_whole file line (learned draft (event_at file line (Cites piece))) pieces

pub bibdata_whole : (file : List ℕ) (line : ℕ) (draft : AuxJobBuilder) (pieces : List Piece) → (learned draft (event_at file line (Databases pieces))).ending
    ≡ draft.ending
unfolding learned
bibdata_whole file line draft pieces = refl

pub bibstyle_whole : (file : List ℕ) (line : ℕ) (draft : AuxJobBuilder) (piece : Piece) → (learned draft (event_at file line (Styles piece))).ending ≡ draft.ending
unfolding learned
bibstyle_whole file line draft piece = refl

pub include_whole : (file : List ℕ) (line : ℕ) (draft : AuxJobBuilder) (piece : Piece) → (learned draft (event_at file line (Includes piece))).ending ≡ draft.ending
unfolding learned
include_whole file line draft piece = refl

-- ---- a reading that has ended

module _ (files : Files) where
  module _ (opening : Opening) (still : (draft : AuxJobBuilder) (name text : List ℕ) → is_whole draft.ending ≡ false → opening draft name text ≡ draft) where
    after-ended : (draft : AuxJobBuilder) (event : AuxEvent) → is_whole draft.ending ≡ false → after draft event ≡ draft
    after-ended draft event ended = rw ended refl

    included-ended : (draft : AuxJobBuilder) (file : List ℕ) (line : ℕ) (name : List ℕ) (text : Option (List ℕ)) → is_whole draft.ending ≡ false
        → included opening draft file line name text ≡ draft
    unfolding included
    included-ended draft file line name None ended = rw ended refl
    included-ended draft file line name (Some text) ended = still draft name text ended

    asked_for-ended : (draft : AuxJobBuilder) (file : List ℕ) (line : ℕ) (asked : Option (List ℕ)) → is_whole draft.ending ≡ false
        → asked_for files opening draft file line asked ≡ draft
    asked_for-ended draft file line None ended = refl
    asked_for-ended draft file line (Some name) ended = included-ended draft file line name (files name) ended

    pub run-still : (draft : AuxJobBuilder) (events : List AuxEvent) → is_whole draft.ending ≡ false → run files opening draft events ≡ draft
    unfolding run
    run-still draft [] ended = refl
    run-still draft (event ∷ events) ended =
        let here = ap (λ (d : AuxJobBuilder). asked_for files opening d event.file event.line (asked_of draft.files event.word)) (after-ended draft event ended)
        ∙ asked_for-ended draft event.file event.line (asked_of draft.files event.word) ended in
        ap (λ (d : AuxJobBuilder). run files opening d events) here ∙ run-still draft events ended

  within-ended : (long : Bool) (opening : Opening) → ((draft : AuxJobBuilder) (name text : List ℕ) → is_whole draft.ending ≡ false → opening draft name text ≡ draft)
      → (draft : AuxJobBuilder) (name text : List ℕ) → is_whole draft.ending ≡ false → within long files opening draft name text ≡ draft
  unfolding within
  within-ended true opening still draft name text ended = rw ended refl
  within-ended false opening still draft name text ended = run-still opening still draft _ ended

  pub opened_by-ended : (room : ℕ) (draft : AuxJobBuilder) (name text : List ℕ) → is_whole draft.ending ≡ false → opened_by files room draft name text ≡ draft
  unfolding opened_by
  opened_by-ended zero draft name text ended = rw ended refl
  opened_by-ended (suc room) draft name text ended =
      rw ended (within-ended (is_too_long text) (opened_by files room) (opened_by-ended room) draft name text ended)

  -- nothing follows where the reading has ended
  pub run-ended : (room : ℕ) (draft : AuxJobBuilder) (events : List AuxEvent) → is_whole draft.ending ≡ false → run files (opened_by files room) draft events ≡ draft
  run-ended room = run-still (opened_by files room) (opened_by-ended room)

-- ---- files

-- the whole of a file, line by line
pub said_whole : (file text : List ℕ) (left : List (List ℕ)) → left ≡ lines_of text → said_from file 1 left ≡ said file text
unfolding said
said_whole file text left is = ap (said_from file 1) is

module _ (files : Files) where
  -- an include of a file that isn't there
  pub included-missing : (room : ℕ) (draft after : AuxJobBuilder) (file : List ℕ) (line : ℕ) (name : List ℕ) → is_whole draft.ending ≡ true → files name ≡ None
      → after ≡ learned draft (event_at file line (Absent name)) → after ≡ included (opened_by files room) draft file line name (files name)
  unfolding included
  included-missing room draft after file line name whole missing is = rw missing (rw whole is)

  -- an include of one that is
  pub included-found : (room : ℕ) (draft after : AuxJobBuilder) (file : List ℕ) (line : ℕ) (name bytes text : List ℕ) → files name ≡ Some bytes → text ≡ bytes
      → after ≡ opened_by files room draft name text → after ≡ included (opened_by files room) draft file line name (files name)
  unfolding included
  included-found room draft after file line name bytes text there same is = rw there (is ∙ ap (opened_by files room draft name) same)

  -- a file that has no room
  pub opened_by-full : (room : ℕ) (draft : AuxJobBuilder) (name text : List ℕ) → room ≡ 0 → is_whole draft.ending ≡ true → record draft { ending = end.TooManyOpen }
      ≡ opened_by files room draft name text
  unfolding opened_by learned
  opened_by-full zero draft name text none whole = rw whole refl
  opened_by-full (suc room) draft name text none whole = absurd (omega arith)

  -- one that is opened
  opened_by-room : (room : ℕ) (draft opening : AuxJobBuilder) (name text : List ℕ) → (room ≡ 0 → ⊥) → is_whole draft.ending ≡ true
      → opening ≡ learned draft (event_at name 0 (Opens (20 - room)))
      → within (is_too_long text) files (opened_by files (room - 1)) opening name text ≡ opened_by files room draft name text
  unfolding opened_by
  opened_by-room zero draft opening name text some whole is = absurd (some refl)
  opened_by-room (suc room) draft opening name text some whole is =
      let level : 20 - suc room ≡ 19 - room = omega arith in
      let left : suc room - 1 ≡ room = omega arith in
      let is' : opening ≡ after draft (event_at name 0 (Opens (19 - room))) = is ∙ ap (λ (level : ℕ). learned draft (event_at name 0 (Opens level))) level
      ∙ rw whole refl in
      ap (λ (r : ℕ). within (is_too_long text) files (opened_by files r) opening name text) left
      ∙ ap (λ (d : AuxJobBuilder). within (is_too_long text) files (opened_by files room) d name text) is'

  -- and is too long
  pub opened_by-long : (room : ℕ) (draft opening : AuxJobBuilder) (name text : List ℕ) → (room ≡ 0 → ⊥) → is_whole draft.ending ≡ true → opening.ending ≡ draft.ending
      → opening ≡ learned draft (event_at name 0 (Opens (20 - room))) → is_too_long text ≡ true
      → record opening { ending = end.FileLimit } ≡ opened_by files room draft name text
  unfolding within learned
  opened_by-long room draft opening name text some whole still is long =
      let whole' : is_whole opening.ending ≡ true = ap is_whole still ∙ whole in
      let here : record opening { ending = end.FileLimit } ≡ within (is_too_long text) files (opened_by files (room - 1)) opening name text =
      rw long (rw whole' refl) in
      here ∙ opened_by-room room draft opening name text some whole is

  -- and is read
  pub opened_by-read : (room : ℕ) (draft opening new : AuxJobBuilder) (name text : List ℕ) → (room ≡ 0 → ⊥) → is_whole draft.ending ≡ true
      → opening ≡ learned draft (event_at name 0 (Opens (20 - room))) → is_too_long text ≡ false
      → new ≡ run files (opened_by files (room - 1)) opening (said name text) → new ≡ opened_by files room draft name text
  unfolding within
  opened_by-read room draft opening new name text some whole is short reads =
      let here : new ≡ within (is_too_long text) files (opened_by files (room - 1)) opening name text = rw short reads in
      here ∙ opened_by-room room draft opening name text some whole is

-- ---- the number of lines

in_front_one : (b : ℕ) (pieces : List (List ℕ)) → length (onto_first b pieces) ≤ length pieces + 1
in_front_one b [] = omega arith
in_front_one b (piece ∷ pieces) = omega arith

pieces_few : (text : List ℕ) → length (line_pieces text) ≤ length text
unfolding line_pieces
pieces_few [] = omega arith
pieces_few (b ∷ bs) = by (eqb b 10) (pieces_few bs) where
  by : (t : Bool) → length (line_pieces bs) ≤ length bs → length (cond t ([] ∷ line_pieces bs) (onto_first b (line_pieces bs))) ≤ length (b ∷ bs)
  by true few = omega arith
  by false few = omega (arith, in_front_one b (line_pieces bs))

map_length : (pieces : List (List ℕ)) → length (map trimmed pieces) ≡ length pieces
map_length [] = refl
map_length (piece ∷ pieces) = ap suc (map_length pieces)

-- a text has no more lines than bytes
pub lines_few : (text : List ℕ) → length (lines_of text) ≤ length text
lines_few text = omega (arith, map_length (line_pieces text), pieces_few text)

-- ---- what a fetch found, and tests

pub file_missing : (found : Bool) (bytes : List ℕ) → found ≡ false → file_of found bytes ≡ None
file_missing true bytes h = cc
file_missing false bytes h = refl

pub file_found : (found : Bool) (bytes : List ℕ) → found ≡ true → file_of found bytes ≡ Some bytes
file_found true bytes h = refl
file_found false bytes h = cc

pub untrue : (b : Bool) → not b ≡ true → b ≡ false
untrue true h = cc
untrue false h = refl

pub unfalse : (b : Bool) → not b ≡ false → b ≡ true
unfalse true h = refl
unfalse false h = cc

-- no line is left
pub run-none : (files : Files) (opening : Opening) (draft whole : AuxJobBuilder) (file : List ℕ) (number : ℕ) (left : List (List ℕ)) → left ≡ []
    → run files opening draft (said_from file number left) ≡ whole → draft ≡ whole
unfolding run
run-none files opening draft whole file number left none total = ap (λ (ls : List (List ℕ)). run files opening draft (said_from file number ls)) (sym none)
    ∙ total
