-- What the `.aux` files of a job say is one thing alone, and it is what the reader of them makes of them, event by event.
use Rattle.std.proofs.Common.{◌≡◌, ℕ, zero, suc, ◌+◌, ◌-◌, ◌&&◌, ◌||◌, inl, inr, Bool, true, false, not, List, [], ◌∷◌, ◌++◌, Option, None, Some, Ok, Err}
use Rattle.std.proofs.Common.{if◌then◌else◌, map, fold, take, drop, length, position, sym, ap, subst, ◌∙◌, refl, arith, append-nil, append_assoc}
use Rattle.std.specs.Prelude.{codes, is_none, is_some, ◌==◌}
use Rattle.std.specs.Option.{option_map_or}
use Rattle.std.specs.Str.{byte, bytes_eq}
use Rattle.std.proofs.lemmas.Bool.{eqb-true}
use Rattle.std.proofs.lemmas.Slice.Eq.{bytes_eq-Decides}
use Rattle.btx_text.specs.language.Class.{is_white}
use Rattle.btx_text.specs.language.Limits.{is_too_long}
use Rattle.btx_text.specs.language.Lines.{lines_of}
use Rattle.btx_text.specs.language.Lists.{is_among, only_if}
use Rattle.btx_text.specs.declared.log_line.LineKind.TheVariants.{Error}
use Rattle.btx_text.specs.language.LogLines.{Line, message}
use Rattle.btx_aux.specs.declared.command.Command.{Command}
use Rattle.btx_aux.specs.declared.command.Command.TheVariants.{Citation, Bibdata, Bibstyle, Input}
use Rattle.btx_aux.specs.declared.command.Slip.TheVariants.{WhiteSpace}
use Rattle.btx_aux.specs.declared.draft.AuxJobBuilder.{AuxJobBuilder}
use Rattle.btx_aux.specs.declared.end.End.{End}
use Rattle.btx_aux.specs.declared.end.End.TheVariants as end
use Rattle.btx_aux.specs.declared.reading.TheConstants.{MOST_OPEN}
use Rattle.btx_aux.specs.language.Events.{AuxEvent, asked_of, event_at, said, said_from}
use Rattle.btx_aux.specs.language.Files.{Files}
use Rattle.btx_aux.specs.language.Grammar.{Absent, Cites, Cut, Databases, EventKind, Full, Includes, Opens, Piece, Styles, Taken, TooLong, aux_command_named}
use Rattle.btx_aux.specs.language.Grammar.{closed_before, first_piece, in_first_piece, is_whole, pieces_of, words_of, words_of_command}
use Rattle.btx_aux.specs.language.Job.{is_empty, is_star, job_of_files}
use Rattle.btx_aux.specs.language.Names.{has_ending, listed_as, with_ending}
use Rattle.btx_aux.specs.language.Notes.{NoBibdata, NoBibstyle, NoCitations, RepeatedDatabase, Slipped, aux_complaint_text, aux_note_kind, aux_note_text}
use Rattle.btx_aux.specs.refinement.Drafts.{blank, complaining, learned, with_database, with_databases}
use Rattle.btx_aux.specs.refinement.Notes.{aux_note_line}
use Rattle.btx_aux.specs.refinement.Reads.{after, asked_for, included, opened_by, run, topped, within}
use Rattle.btx_aux.specs.refinement.Reads as reads
use Rattle.btx_aux.proofs.DraftLemmas.{learned-bibdata, learned-key_new, learned-key_other, learned-key_same}
use Rattle.btx_aux.proofs.JobLemmas.{closed-topped}
use Rattle.btx_aux.proofs.ReadLemmas.{run-ended}
use Rattle.btx_core.specs.language.AuxFiles.{AuxContents, FileGives, AreAuxContents, LinesGive, absent, cites, checked_at_end, command_says, ended, full, inputs, line_says}
use Rattle.btx_core.specs.language.AuxFiles.{names_database, names_style, none, opening, opens, pieces, plain, read, too_long, initial_contents, wrong}
use Rattle.btx_core.specs.language.AuxFiles as core
use Rattle.btx_core.specs.laws.SameParts.{job_said}

-- ---- the two ways to say what is known

-- what is known, as the reader has it
abbrev pub as_draft : AuxContents → AuxJobBuilder
as_draft s = record {
  keys = s.keys;
  all = s.all;
  databases = s.databases;
  has_bibdata = s.has_bibdata;
  style = s.style;
  has_bibstyle = s.has_bibstyle;
  files = s.files;
  log = s.log;
  ending = s.ending;
}

-- and back
abbrev pub of_draft : AuxJobBuilder → AuxContents
of_draft d = record {
  keys = d.keys;
  all = d.all;
  databases = d.databases;
  has_bibdata = d.has_bibdata;
  style = d.style;
  has_bibstyle = d.has_bibstyle;
  files = d.files;
  log = d.log;
  ending = d.ending;
}

-- a number above 0
not_zero : (n : ℕ) → (suc n == 0) ≡ false
not_zero n = by (suc n == 0) refl where
  by : (t : Bool) → (suc n == 0) ≡ t → (suc n == 0) ≡ false
  by true e = let z = eqb-true (suc n) 0 e in absurd (omega (arith, z))
  by false e = e

-- ---- pieces

-- a piece, with the text of what is wrong
abbrev as_piece : Piece → core.Piece
as_piece (Taken text) = Ok text
as_piece (Cut slip) = Err (aux_complaint_text (Slipped slip))

-- bytes at the front of the first piece
abbrev in_front : List ℕ → List Piece → List Piece
in_front front [] = []
in_front front (Taken text ∷ more) = Taken (front ++ text) ∷ more
in_front front (Cut slip ∷ more) = Cut slip ∷ more

front_more : (front : List ℕ) (b : ℕ) (ps : List Piece) → in_front (front ++ b ∷ []) ps ≡ in_front front (in_first_piece b ps)
front_more front b [] = refl
front_more front b (Taken text ∷ more) = ap (λ t. Taken t ∷ more) (append_assoc front (b ∷ []) text)
front_more front b (Cut slip ∷ more) = refl

front_none : (ps : List Piece) → in_front [] ps ≡ ps
front_none [] = refl
front_none (Taken text ∷ more) = refl
front_none (Cut slip ∷ more) = refl

closed_piece : (front bs : List ℕ) → (if length bs == 0 then Ok front else Err (codes "Stuff after \"}\"")) ∷ []
    ≡ map as_piece (in_front front (closed_before bs))
unfolding aux_complaint_text
closed_piece front [] = ap (λ t. Ok t ∷ []) (sym (append-nil front))
closed_piece front (b ∷ bs) = ap (λ t. (if t then Ok front else Err (codes "Stuff after \"}\"")) ∷ []) (not_zero (length bs))

pieces_are : (is_list : Bool) (front text : List ℕ) → pieces is_list front text ≡ map as_piece (in_front front (pieces_of is_list text))
unfolding pieces_of aux_complaint_text
pieces_are is_list front [] = refl
pieces_are is_list front (b ∷ bs) =
    by (λ front. pieces_are is_list front bs) (is_white b) (b == byte "}") (is_list && b == byte ",") where
      by : ((front : List ℕ) → pieces is_list front bs ≡ map as_piece (in_front front (pieces_of is_list bs))) → (white brace comma : Bool)
          → (if white then Err (codes "White space in argument") ∷ []
          else if brace then (if length bs == 0 then Ok front else Err (codes "Stuff after \"}\"")) ∷ []
          else if comma then Ok front ∷ pieces is_list [] bs
          else pieces is_list (front ++ b ∷ []) bs)
          ≡ map as_piece (in_front front (if white then Cut WhiteSpace ∷ []
          else (if brace then closed_before bs
          else (if comma then Taken [] ∷ pieces_of is_list bs
          else in_first_piece b (pieces_of is_list bs)))))
      by more true brace list = refl
      by more false true list = closed_piece front bs
      by more false false true =
          ap (λ ps. Ok front ∷ ps) (more [] ∙ ap (map as_piece) (front_none (pieces_of is_list bs)))
          ∙ ap (λ t. Ok t ∷ map as_piece (pieces_of is_list bs)) (sym (append-nil front))
      by more false false false = more (front ++ b ∷ []) ∙ ap (map as_piece) (front_more front b (pieces_of is_list bs))

list_pieces : (is_list : Bool) (text : List ℕ) → pieces is_list [] text ≡ map as_piece (pieces_of is_list text)
list_pieces is_list text = pieces_are is_list [] text ∙ ap (map as_piece) (front_none (pieces_of is_list text))

-- an argument that is no list has one piece
one_more : (b : ℕ) (p : Piece) → in_first_piece b (p ∷ []) ≡ first_piece (in_first_piece b (p ∷ [])) ∷ []
one_more b (Taken text) = refl
one_more b (Cut slip) = refl

one_closed : (bs : List ℕ) → closed_before bs ≡ first_piece (closed_before bs) ∷ []
one_closed [] = refl
one_closed (b ∷ bs) = refl

one_piece : (text : List ℕ) → pieces_of false text ≡ first_piece (pieces_of false text) ∷ []
unfolding pieces_of
one_piece [] = refl
one_piece (b ∷ bs) =
    by (subst (λ ps. in_first_piece b ps ≡ first_piece (in_first_piece b ps) ∷ []) (sym (one_piece bs)) (one_more b (first_piece (pieces_of false bs))))
    (is_white b) (b == byte "}") where
      by : in_first_piece b (pieces_of false bs) ≡ first_piece (in_first_piece b (pieces_of false bs)) ∷ [] → (white brace : Bool)
          → (if white then Cut WhiteSpace ∷ [] else (if brace then closed_before bs else in_first_piece b (pieces_of false bs)))
          ≡ first_piece (if white then Cut WhiteSpace ∷ [] else (if brace then closed_before bs else in_first_piece b (pieces_of false bs))) ∷ []
      by more true brace = refl
      by more false true = one_closed bs
      by more false false = more

single_piece : (text : List ℕ) → pieces false [] text ≡ as_piece (first_piece (pieces_of false text)) ∷ []
single_piece text = list_pieces false text ∙ ap (map as_piece) (one_piece text)

-- ---- one thing that a line says

module _ (file : List ℕ) (line : ℕ) where
  cite_is : (s : AuxContents) (p : Piece) → as_draft (cites file line s (as_piece p)) ≡ learned (as_draft s) (event_at file line (Cites p))
  unfolding learned aux_note_text aux_note_kind aux_complaint_text
  cite_is s (Cut slip) = refl
  cite_is s (Taken key) = star (bytes_eq key (codes "*")) refl where
    other : (earlier : List ℕ) → AuxContents
    other earlier = wrong file line (codes "Case mismatch error between cite keys " ++ earlier ++ codes " and " ++ key) s

    same : (earlier : List ℕ) (b : Bool) → bytes_eq earlier key ≡ b → is_star key ≡ false → Some earlier ≡ listed_as s.keys key
        → as_draft (if b then s else other earlier) ≡ learned (as_draft s) (event_at file line (Cites (Taken key)))
    same earlier true g e h = sym (learned-key_same (as_draft s) file line key earlier e h g)
    same earlier false g e h = sym (learned-key_other (as_draft s) file line key earlier e h g)

    listed : (o : Option (List ℕ)) → listed_as s.keys key ≡ o → is_star key ≡ false
        → as_draft (option_map_or (λ (earlier : List ℕ). if bytes_eq earlier key then s else other earlier) o (record s { keys = s.keys ++ key ∷ [] }))
        ≡ learned (as_draft s) (event_at file line (Cites (Taken key)))
    listed None h e = sym (learned-key_new (as_draft s) file line key e (sym h))
    listed (Some earlier) h e = same earlier (bytes_eq earlier key) refl e (sym h)

    all : (o : Option ℕ) → s.all ≡ o → is_star key ≡ true
        → as_draft (if is_some o then wrong file line (codes "Multiple inclusions of entire database") s else record s { all = Some (length s.keys) })
        ≡ learned (as_draft s) (event_at file line (Cites (Taken key)))
    all None h e = rw (e, h) refl
    all (Some n) h e = rw (e, h) refl

    star : (b : Bool) → is_star key ≡ b
        → as_draft (if b then (if is_some s.all then wrong file line (codes "Multiple inclusions of entire database") s else record
        s { all = Some (length s.keys) })
        else option_map_or (λ (earlier : List ℕ). if bytes_eq earlier key then s else other earlier) (listed_as s.keys key)
        (record s { keys = s.keys ++ key ∷ [] }))
        ≡ learned (as_draft s) (event_at file line (Cites (Taken key)))
    star true e = all s.all refl e
    star false e = listed (listed_as s.keys key) refl e

  cite_whole : (s : AuxContents) (p : Piece) → is_whole s.ending ≡ true → is_whole (cites file line s (as_piece p)).ending ≡ true
  unfolding learned
  cite_whole s p w = ap (λ (d : AuxJobBuilder). is_whole d.ending) (cite_is s p) ∙ w

  database_is : (s : AuxContents) (name : List ℕ) → as_draft (names_database file line s (Ok name)) ≡ with_database file line (as_draft s) name
  unfolding aux_note_text aux_note_kind aux_complaint_text
  database_is s name = by (is_among s.databases (with_ending (codes ".bib") name)) where
    database : List ℕ
    database = with_ending (codes ".bib") name

    by : (b : Bool)
        → as_draft (if b then wrong file line (codes "This database file appears more than once: " ++ database) s else record
        s { databases = s.databases ++ database ∷ [] })
        ≡ complaining file line (record (as_draft s) { databases = if b then s.databases else s.databases ++ database ∷ [] })
        (only_if b (RepeatedDatabase database))
    by true = refl
    by false = refl

  databases_are : (s : AuxContents) (ps : List Piece) → as_draft (fold (names_database file line) s (map as_piece ps)) ≡ with_databases file line (as_draft s) ps
  unfolding aux_note_text aux_note_kind
  databases_are s [] = refl
  databases_are s (Taken name ∷ ps) =
      databases_are (names_database file line s (Ok name)) ps ∙ ap (λ (d : AuxJobBuilder). with_databases file line d ps) (database_is s name)
  databases_are s (Cut slip ∷ ps) = databases_are (wrong file line (aux_complaint_text (Slipped slip)) s) ps

  bibdata_is : (s : AuxContents) (ps : List Piece) (had : Bool) → s.has_bibdata ≡ had
      → as_draft (if had then wrong file line (codes "Illegal, another \\bibdata command") s
      else fold (names_database file line) (record s { has_bibdata = true; databases = [] }) (map as_piece ps))
      ≡ learned (as_draft s) (event_at file line (Databases ps))
  unfolding learned aux_note_text aux_note_kind aux_complaint_text
  bibdata_is s ps true h = rw h refl
  bibdata_is s ps false h = databases_are (record s { has_bibdata = true; databases = [] }) ps ∙ learned-bibdata file line (as_draft s) ps [] refl h

  style_is : (s : AuxContents) (p : Piece) (had : Bool) → s.has_bibstyle ≡ had
      → as_draft (if had then wrong file line (codes "Illegal, another \\bibstyle command") s
      else names_style file line (record s { has_bibstyle = true }) (as_piece p))
      ≡ learned (as_draft s) (event_at file line (Styles p))
  unfolding learned aux_note_text aux_note_kind aux_complaint_text
  style_is s p true h = rw h refl
  style_is s (Taken name) false h = rw h refl
  style_is s (Cut slip) false h = rw h refl

-- ---- what a line says

-- what is known after a line, and what is to be read, before the file that it asks for is read
abbrev go_on : Files → reads.Opening → List ℕ → ℕ → AuxContents × Option (List ℕ) → List AuxEvent → AuxJobBuilder
go_on files op file line said rest = run files op (asked_for files op (as_draft said.0) file line said.1) rest

module _ (files : Files) (op : reads.Opening) (file : List ℕ) (line : ℕ) where
  cites_run : (s : AuxContents) (ps : List Piece) (rest : List AuxEvent) → is_whole s.ending ≡ true
      → run files op (as_draft s) (map (event_at file line) (map Cites ps) ++ rest) ≡ run files op (as_draft (fold (cites file line) s (map as_piece ps))) rest
  unfolding run
  cites_run s [] rest w = refl
  cites_run s (p ∷ ps) rest w =
      let step : after (as_draft s) (event_at file line (Cites p)) ≡ as_draft (cites file line s (as_piece p)) = rw w (sym (cite_is file line s p)) in
      ap (λ (d : AuxJobBuilder). run files op d (map (event_at file line) (map Cites ps) ++ rest)) step
      ∙ cites_run (cites file line s (as_piece p)) ps rest (cite_whole file line s p w)

  -- a thing that asks for no file
  quiet_run : (s next : AuxContents) (word : EventKind) (rest : List AuxEvent) → is_whole s.ending ≡ true → asked_of s.files word ≡ None
      → as_draft next ≡ learned (as_draft s) (event_at file line word)
      → run files op (as_draft s) (event_at file line word ∷ rest) ≡ run files op (as_draft next) rest
  unfolding run
  quiet_run s next word rest w quiet is =
      ap (λ (o : Option (List ℕ)). run files op (asked_for files op (after (as_draft s) (event_at file line word)) file line o) rest) quiet
      ∙ ap (λ (b : Bool). run files op (if b then learned (as_draft s) (event_at file line word) else as_draft s) rest) w
      ∙ ap (λ (d : AuxJobBuilder). run files op d rest) (sym is)

  input_run : (s : AuxContents) (p : Piece) (rest : List AuxEvent) → is_whole s.ending ≡ true
      → run files op (as_draft s) (event_at file line (Includes p) ∷ rest) ≡ go_on files op file line (inputs file line s (as_piece p ∷ [])) rest
  unfolding run learned aux_note_text aux_note_kind aux_complaint_text
  input_run s (Cut slip) rest w = rw w refl
  input_run s (Taken name) rest w = by (has_ending (codes ".aux") name) (is_among s.files name) refl refl where
    by : (a m : Bool) → has_ending (codes ".aux") name ≡ a → is_among s.files name ≡ m
        → run files op (asked_for files op (after (as_draft s) (event_at file line (Includes (Taken name)))) file line
        (asked_of s.files (Includes (Taken name)))) rest
        ≡ go_on files op file line (if not a then (wrong file line (name ++ codes " has a wrong extension") s, None)
        else if m then (wrong file line (codes "Already encountered file " ++ name) s, None)
        else (record s { files = s.files ++ name ∷ [] }, Some name)) rest
    by false m h g = rw (w, h) refl
    by true true h g = rw (w, h, g) refl
    by true false h g = rw (w, h, g) refl

  command_run : (s : AuxContents) (command argument : List ℕ) (rest : List AuxEvent) → is_whole s.ending ≡ true
      → run files op (as_draft s) (map (event_at file line) (words_of_command (aux_command_named command) argument) ++ rest)
      ≡ go_on files op file line (command_says file line s command argument) rest
  unfolding aux_command_named
  command_run s command argument rest w =
      by (bytes_eq command (codes "\\citation")) (bytes_eq command (codes "\\bibdata")) (bytes_eq command (codes "\\bibstyle"))
      (bytes_eq command (codes "\\@input")) where
        many : List Piece
        many = pieces_of true argument

        one : Piece
        one = first_piece (pieces_of false argument)

        known : Option Command → List AuxEvent
        known command = map (event_at file line) (words_of_command command argument) ++ rest

        cited : run files op (as_draft s) (known (Some Citation)) ≡ go_on files op file line (fold (cites file line) s (pieces true [] argument), None) rest
        cited = cites_run s many rest w ∙ ap (λ ps. run files op (as_draft (fold (cites file line) s ps)) rest) (sym (list_pieces true argument))

        data_read : List core.Piece → AuxContents
        data_read ps = if s.has_bibdata then wrong file line (codes "Illegal, another \\bibdata command") s
            else fold (names_database file line) (record s { has_bibdata = true; databases = [] }) ps

        databases : run files op (as_draft s) (known (Some Bibdata)) ≡ go_on files op file line (data_read (pieces true [] argument), None) rest
        databases =
            quiet_run s (data_read (map as_piece many)) (Databases many) rest w refl (bibdata_is file line s many s.has_bibdata refl)
            ∙ ap (λ ps. run files op (as_draft (data_read ps)) rest) (sym (list_pieces true argument))

        style_read : List core.Piece → AuxContents
        style_read ps = if s.has_bibstyle then wrong file line (codes "Illegal, another \\bibstyle command") s
            else fold (names_style file line) (record s { has_bibstyle = true }) ps

        style : run files op (as_draft s) (known (Some Bibstyle)) ≡ go_on files op file line (style_read (pieces false [] argument), None) rest
        style =
            quiet_run s (style_read (as_piece one ∷ [])) (Styles one) rest w refl (style_is file line s one s.has_bibstyle refl)
            ∙ ap (λ ps. run files op (as_draft (style_read ps)) rest) (sym (single_piece argument))

        input : run files op (as_draft s) (known (Some Input)) ≡ go_on files op file line (inputs file line s (pieces false [] argument)) rest
        input = input_run s one rest w ∙ ap (λ ps. go_on files op file line (inputs file line s ps) rest) (sym (single_piece argument))

        by : (c d b i : Bool)
            → run files op (as_draft s) (known (if c then Some Citation else
            (if d then Some Bibdata else (if b then Some Bibstyle else (if i then Some Input else None)))))
            ≡ go_on files op file line (if c then (fold (cites file line) s (pieces true [] argument), None)
            else if d then (data_read (pieces true [] argument), None)
            else if b then (style_read (pieces false [] argument), None)
            else if i then inputs file line s (pieces false [] argument)
            else (s, None)) rest
        by true d b i = cited
        by false true b i = databases
        by false false true i = style
        by false false false true = input
        by false false false false = refl

  line_run : (s : AuxContents) (text : List ℕ) (rest : List AuxEvent) → is_whole s.ending ≡ true
      → run files op (as_draft s) (map (event_at file line) (words_of text) ++ rest) ≡ go_on files op file line (line_says file line s text) rest
  unfolding words_of
  line_run s text rest w = by (position (λ b. b == byte "{") text) where
    by : (o : Option ℕ)
        → run files op (as_draft s) (map (event_at file line)
        (option_map_or (λ place. words_of_command (aux_command_named (take place text)) (drop (place + 1) text)) o []) ++ rest)
        ≡ go_on files op file line (option_map_or (λ place. command_says file line s (take place text) (drop (place + 1) text)) o (s, None)) rest
    by None = refl
    by (Some place) = command_run s (take place text) (drop (place + 1) text) rest w

-- ---- nothing that a line says ends the reading

module _ (file : List ℕ) (line : ℕ) where
  either_whole : (b : Bool) (e : End) (x y : AuxContents) → x.ending ≡ e → y.ending ≡ e → (if b then x else y).ending ≡ e
  either_whole true e x y h k = h
  either_whole false e x y h k = k

  either_whole₂ : (b : Bool) (e : End) (x y : AuxContents × Option (List ℕ)) → x.0.ending ≡ e → y.0.ending ≡ e → (if b then x else y).0.ending ≡ e
  either_whole₂ true e x y h k = h
  either_whole₂ false e x y h k = k

  fold_whole : (step : AuxContents → core.Piece → AuxContents) → ((s : AuxContents) (p : core.Piece) → (step s p).ending ≡ s.ending) → (s : AuxContents) (ps : List core.Piece)
      → (fold step s ps).ending ≡ s.ending
  fold_whole step keeps s [] = refl
  fold_whole step keeps s (p ∷ ps) = fold_whole step keeps (step s p) ps ∙ keeps s p

  cites_whole : (s : AuxContents) (p : core.Piece) → (cites file line s p).ending ≡ s.ending
  cites_whole s (Err text) = refl
  cites_whole s (Ok key) = either_whole (bytes_eq key (codes "*")) s.ending _ _ (either_whole (is_some s.all) s.ending _ _ refl refl)
      (listed (listed_as s.keys key)) where
        listed : (o : Option (List ℕ))
            → (option_map_or (λ (earlier : List ℕ). if bytes_eq earlier key then s
            else wrong file line (codes "Case mismatch error between cite keys " ++ earlier ++ codes " and " ++ key) s) o
            (record s { keys = s.keys ++ key ∷ [] })).ending ≡ s.ending
        listed None = refl
        listed (Some earlier) = either_whole (bytes_eq earlier key) s.ending s _ refl refl

  database_whole : (s : AuxContents) (p : core.Piece) → (names_database file line s p).ending ≡ s.ending
  database_whole s (Err text) = refl
  database_whole s (Ok name) = either_whole (is_among s.databases (with_ending (codes ".bib") name)) s.ending _ _ refl refl

  style_whole : (s : AuxContents) (p : core.Piece) → (names_style file line s p).ending ≡ s.ending
  style_whole s (Err text) = refl
  style_whole s (Ok name) = refl

  inputs_whole : (s : AuxContents) (ps : List core.Piece) → (inputs file line s ps).0.ending ≡ s.ending
  inputs_whole s [] = refl
  inputs_whole s (Err text ∷ ps) = refl
  inputs_whole s (Ok name ∷ ps) =
      either_whole₂ (not (has_ending (codes ".aux") name)) s.ending _ _ refl (either_whole₂ (is_among s.files name) s.ending _ _ refl refl)

  command_whole : (s : AuxContents) (command argument : List ℕ) → (command_says file line s command argument).0.ending ≡ s.ending
  command_whole s command argument =
      either_whole₂ (bytes_eq command (codes "\\citation")) s.ending _ _ (fold_whole (cites file line) cites_whole s (pieces true [] argument))
      (either_whole₂ (bytes_eq command (codes "\\bibdata")) s.ending _ _
      (either_whole s.has_bibdata s.ending _ _ refl (fold_whole (names_database file line) database_whole (record s { has_bibdata = true; databases = [] })
      (pieces true [] argument)))
      (either_whole₂ (bytes_eq command (codes "\\bibstyle")) s.ending _ _
      (either_whole s.has_bibstyle s.ending _ _ refl
      (fold_whole (names_style file line) style_whole (record s { has_bibstyle = true }) (pieces false [] argument)))
      (either_whole₂ (bytes_eq command (codes "\\@input")) s.ending _ _ (inputs_whole s (pieces false [] argument)) refl)))

  line_whole : (s : AuxContents) (text : List ℕ) → (line_says file line s text).0.ending ≡ s.ending
  line_whole s text = by (position (λ b. b == byte "{") text) where
    by : (o : Option ℕ) → (option_map_or (λ place. command_says file line s (take place text) (drop (place + 1) text)) o (s, None)).0.ending ≡ s.ending
    by None = refl
    by (Some place) = command_whole s (take place text) (drop (place + 1) text)

  -- so it goes on after a line
  still_whole : (s next : AuxContents) (text : List ℕ) (asked : Option (List ℕ)) → is_whole s.ending ≡ true → line_says file line s text ≡ (next, asked)
      → is_whole next.ending ≡ true
  still_whole s next text asked w e =
      ap (λ (x : AuxContents × Option (List ℕ)). is_whole x.0.ending) (sym e) ∙ ap is_whole (line_whole s text) ∙ w

-- ---- files

-- the top file has a name that is known
abbrev IsKnown : ℕ → AuxContents → List ℕ → Type 0
IsKnown level s name = level ≡ 0 → is_among s.files name ≡ true

opening_same : (level : ℕ) (s : AuxContents) (name : List ℕ) → is_whole s.ending ≡ true → IsKnown level s name
    → as_draft (opening level name s) ≡ after (as_draft s) (event_at name 0 (Opens level))
unfolding learned aux_note_text aux_note_kind
opening_same zero s name w known = let among : is_among s.files name ≡ true = known refl in rw (w, among) refl
opening_same (suc level) s name w known = let above : (suc level == 0) ≡ false = not_zero level in rw (w, above) refl

full_is : (s : AuxContents) (name : List ℕ) → is_whole s.ending ≡ true → as_draft (record s { ending = end.TooManyOpen })
    ≡ after (as_draft s) (event_at name 0 Full)
unfolding learned
full_is s name w = rw w refl

long_is : (s : AuxContents) (name : List ℕ) → is_whole s.ending ≡ true → as_draft (record s { ending = end.FileLimit })
    ≡ after (as_draft s) (event_at name 0 TooLong)
unfolding learned
long_is s name w = rw w refl

missing_is : (s : AuxContents) (file : List ℕ) (line : ℕ) (name : List ℕ) → is_whole s.ending ≡ true
    → as_draft (wrong file line (codes "I couldn't open auxiliary file " ++ name) s) ≡ after (as_draft s) (event_at file line (Absent name))
unfolding learned aux_note_text aux_note_kind aux_complaint_text
missing_is s file line name w = rw w refl

module _ (files : Files) where
  opening_is : (r level : ℕ) → suc r + level ≡ MOST_OPEN → level ≡ 19 - r
  opening_is r level e = omega (arith, e)

  -- a file after its opening
  opened_at : (r level : ℕ) (s : AuxContents) (name text : List ℕ) → suc r + level ≡ MOST_OPEN → is_whole s.ending ≡ true → IsKnown level s name
      → within (is_too_long text) files (opened_by files r) (as_draft (opening level name s)) name text ≡ opened_by files (suc r) (as_draft s) name text
  unfolding opened_by
  opened_at r level s name text e w known =
      ap (λ (d : AuxJobBuilder). within (is_too_long text) files (opened_by files r) d name text) (opening_same level s name w known)
      ∙ ap (λ l. within (is_too_long text) files (opened_by files r) (after (as_draft s) (event_at name 0 (Opens l))) name text) (opening_is r level e)

  found_run : (op : reads.Opening) (file : List ℕ) (line : ℕ) (s : AuxContents) (name : List ℕ) (there : Option (List ℕ)) → files name ≡ there
      → asked_for files op (as_draft s) file line (Some name) ≡ included op (as_draft s) file line name there
  found_run op file line s name there is = ap (included op (as_draft s) file line name) is

  mutual
    unfolding opened_by within said run included

    file_is : {level : ℕ} {s : AuxContents} {name text : List ℕ} {next : AuxContents} → FileGives files level s name text next
        → (room : ℕ) → room + level ≡ MOST_OPEN → is_whole s.ending ≡ true → IsKnown level s name → as_draft next ≡ opened_by files room (as_draft s) name text
    file_is (full level s name text le) room e w known =
        let z : 0 ≡ room = omega (arith, le, e) in full_is s name w ∙ ap (λ m. opened_by files m (as_draft s) name text) z
    file_is (too_long level s name text lt tl) room e w known =
        let z : suc (room - 1) ≡ room = omega (arith, lt, e) in
        long_is (opening level name s) name w
        ∙ ap (λ t. within t files (opened_by files (room - 1)) (as_draft (opening level name s)) name text) (sym tl)
        ∙ opened_at (room - 1) level s name text (omega (arith, lt, e)) w known ∙ ap (λ m. opened_by files m (as_draft s) name text) z
    file_is (read level s name text next lt tl h) room e w known =
        let z : suc (room - 1) ≡ room = omega (arith, lt, e) in
        lines_are h (room - 1) (omega (arith, lt, e))
        ∙ ap (λ t. within t files (opened_by files (room - 1)) (as_draft (opening level name s)) name text) (sym tl)
        ∙ opened_at (room - 1) level s name text (omega (arith, lt, e)) w known ∙ ap (λ m. opened_by files m (as_draft s) name text) z

    lines_are : {level : ℕ} {file : List ℕ} {number : ℕ} {s : AuxContents} {lines : List (List ℕ)} {behind : AuxContents}
        → LinesGive files level file number s lines behind
        → (room : ℕ) → suc room + level ≡ MOST_OPEN → as_draft behind ≡ run files (opened_by files room) (as_draft s) (said_from file number lines)
    lines_are (none level file number s) room e = refl
    lines_are (ended level file number s lines off) room e = sym (run-ended files room (as_draft s) (said_from file number lines) off)
    lines_are (plain level file number s next behind line lines w says h) room e =
        let op = opened_by files room in
        let rest = said_from file (number + 1) lines in
        lines_are h room e ∙ ap (λ x. go_on files op file number x rest) (sym says) ∙ sym (line_run files op file number s line rest w)
    lines_are (absent level file number s next behind line name lines w says gone h) room e =
        let op = opened_by files room in
        let rest = said_from file (number + 1) lines in
        lines_are h room e
        ∙ ap (λ (d : AuxJobBuilder). run files op d rest) (missing_is next file number name (still_whole file number s next line (Some name) w says)
        ∙ sym (found_run op file number next name None gone))
        ∙ ap (λ x. go_on files op file number x rest) (sym says) ∙ sym (line_run files op file number s line rest w)
    lines_are (opens level file number s next inside behind line name text lines w says there g h) room e =
        let op = opened_by files room in
        let rest = said_from file (number + 1) lines in
        let deeper : IsKnown (level + 1) next name = λ z. absurd (omega (arith, z)) in
        lines_are h room e
        ∙ ap (λ (d : AuxJobBuilder). run files op d rest)
        (file_is g room (omega (arith, e)) (still_whole file number s next line (Some name) w says) deeper
        ∙ sym (found_run op file number next name (Some text) there))
        ∙ ap (λ x. go_on files op file number x rest) (sym says) ∙ sym (line_run files op file number s line rest w)

  -- ---- and there is one

  lines_there : (level : ℕ) → ((s : AuxContents) (name text : List ℕ) → (next : AuxContents) × FileGives files (level + 1) s name text next)
      → (file : List ℕ) (number : ℕ) (s : AuxContents) (lines : List (List ℕ)) → (behind : AuxContents) × LinesGive files level file number s lines behind
  lines_there level file_there file number s [] = (s, none level file number s)
  lines_there level file_there file number s (line ∷ lines) = by (is_whole s.ending) refl (λ n t. lines_there level file_there file n t lines) where
    Rest : Type 0
    Rest = (n : ℕ) (t : AuxContents) → (behind : AuxContents) × LinesGive files level file n t lines behind

    Here : Type 0
    Here = (behind : AuxContents) × LinesGive files level file number s (line ∷ lines) behind

    found : is_whole s.ending ≡ true → (next : AuxContents) (name : List ℕ) → line_says file number s line ≡ (next, Some name) → (o : Option (List ℕ))
        → files name ≡ o → Rest → Here
    found w next name says None gone rest =
        let r = rest (number + 1) (wrong file number (codes "I couldn't open auxiliary file " ++ name) next) in
        (r.0, absent level file number s next r.0 line name lines w says gone r.1)
    found w next name says (Some text) there rest =
        let g = file_there next name text in
        let r = rest (number + 1) g.0 in
        (r.0, opens level file number s next g.0 r.0 line name text lines w says there g.1 r.1)

    said_so : is_whole s.ending ≡ true → (next : AuxContents) (asked : Option (List ℕ)) → line_says file number s line ≡ (next, asked) → Rest → Here
    said_so w next None says rest = let r = rest (number + 1) next in (r.0, plain level file number s next r.0 line lines w says r.1)
    said_so w next (Some name) says rest = found w next name says (files name) refl rest

    by : (b : Bool) → is_whole s.ending ≡ b → Rest → Here
    by false off rest = (s, ended level file number s (line ∷ lines) off)
    by true w rest = said_so w (line_says file number s line).0 (line_says file number s line).1 refl rest

  file_there : (room level : ℕ) → room + level ≡ MOST_OPEN → (s : AuxContents) (name text : List ℕ) → (next : AuxContents) × FileGives files level s name text next
  file_there zero level e s name text = (record s { ending = end.TooManyOpen }, full level s name text (omega (arith, e)))
  file_there (suc room) level e s name text = by (is_too_long text) refl (λ s name text. file_there room (level + 1) (omega (arith, e)) s name text) where
    by : (t : Bool) → is_too_long text ≡ t → ((s : AuxContents) (name text : List ℕ) → (next : AuxContents) × FileGives files (level + 1) s name text next)
        → (next : AuxContents) × FileGives files level s name text next
    by true tl inner = (record (opening level name s) { ending = end.FileLimit }, too_long level s name text (omega (arith, e)) tl)
    by false tl inner =
        let r = lines_there level inner name 1 (opening level name s) (lines_of text) in
        (r.0, read level s name text r.0 (omega (arith, e)) tl r.1)

  -- ---- the job

  -- what is known before the top file
  abbrev start : List ℕ → AuxContents
  start top = record initial_contents { files = top ∷ [] }

  top_known : (top : List ℕ) → IsKnown 0 (start top) top
  top_known top z = ap (λ b. b || false) ((bytes_eq-Decides top top).1 refl)

  -- what is known after it
  abbrev last_of : List ℕ → List ℕ → AuxContents
  last_of top text = of_draft (opened_by files MOST_OPEN (as_draft (start top)) top text)

  last_is : (top text : List ℕ) (last : AuxContents) → FileGives files 0 (start top) top text last → last ≡ last_of top text
  last_is top text last g = ap of_draft (file_is g MOST_OPEN (omega arith) refl (top_known top))

  abbrev pub said_by : List ℕ → AuxContents
  said_by top = option_map_or (λ text. checked_at_end (last_of top text)) (files top) (record initial_contents { ending = end.TopMissing })

  pub only_said : (top : List ℕ) (job : AuxContents) → AreAuxContents files top job → job ≡ said_by top
  only_said top job (inl h) = h.1 ∙ ap (λ f. option_map_or (λ text. checked_at_end (last_of top text)) f (record initial_contents { ending = end.TopMissing })) (sym h.0)
  only_said top job (inr h) =
      h.4 ∙ ap checked_at_end (last_is top h.0 h.1 h.3)
      ∙ ap (λ f. option_map_or (λ text. checked_at_end (last_of top text)) f (record initial_contents { ending = end.TopMissing })) (sym h.2)

  pub is_said : (top : List ℕ) → AreAuxContents files top (said_by top)
  is_said top = by (files top) refl where
    by : (f : Option (List ℕ)) → files top ≡ f
        → AreAuxContents files top (option_map_or (λ text. checked_at_end (last_of top text)) f (record initial_contents { ending = end.TopMissing }))
    by None gone = inl (gone, refl)
    by (Some text) there =
        let g = file_there MOST_OPEN 0 (omega arith) (start top) top text in
        inr (text, last_of top text, there, subst (λ (s : AuxContents). FileGives files 0 (start top) top text s) (last_is top text g.0 g.1) g.1, refl)

  -- ---- and the job is the reader's

  start_same : (top text : List ℕ) → opened_by files MOST_OPEN (as_draft (start top)) top text ≡ opened_by files MOST_OPEN blank top text
  unfolding opened_by learned
  start_same top text =
      let among : is_among (top ∷ []) top ≡ true = top_known top refl in
      let same : after (as_draft (start top)) (event_at top 0 (Opens 0)) ≡ after blank (event_at top 0 (Opens 0)) = rw among refl in
      ap (λ (d : AuxJobBuilder). within (is_too_long text) files (opened_by files 19) d top text) same

  missing_same : (c b s : Bool)
      → only_if c (message Error (codes "I found no " ++ codes "\\citation commands"))
      ++ only_if b (message Error (codes "I found no " ++ codes "\\bibdata command"))
      ++ only_if s (message Error (codes "I found no " ++ codes "\\bibstyle command"))
      ≡ map aux_note_line (only_if c NoCitations ++ only_if b NoBibdata ++ only_if s NoBibstyle)
  unfolding aux_note_text aux_note_kind
  missing_same true true true = refl
  missing_same true true false = refl
  missing_same true false true = refl
  missing_same true false false = refl
  missing_same false true true = refl
  missing_same false true false = refl
  missing_same false false true = refl
  missing_same false false false = refl

  no_keys : (keys : List (List ℕ)) → (length keys == 0) ≡ is_empty keys
  no_keys [] = refl
  no_keys (key ∷ keys) = not_zero (length keys)

  closed_same : (d : AuxJobBuilder) (e : End) → d.ending ≡ e → job_said (checked_at_end (of_draft (record d { ending = e }))) ≡ reads.closed (record d { ending = e })
  closed_same d end.Whole h =
      ap (λ (lines : List Line). record { keys = d.keys; all = d.all; databases = d.databases; style = d.style; log = d.log ++ lines; ending = end.Whole })
      (missing_same (length d.keys == 0 && is_none d.all) (not d.has_bibdata) (not d.has_bibstyle)
      ∙ ap (λ b. map aux_note_line (only_if (b && is_none d.all) NoCitations ++ only_if (not d.has_bibdata) NoBibdata
      ++ only_if (not d.has_bibstyle) NoBibstyle)) (no_keys d.keys))
  closed_same d end.TooManyOpen h = ap
      (λ (lines : List Line). record { keys = d.keys; all = d.all; databases = d.databases; style = d.style; log = lines; ending = end.TooManyOpen })
      (sym (append-nil d.log))
  closed_same d end.TopMissing h = ap
      (λ (lines : List Line). record { keys = d.keys; all = d.all; databases = d.databases; style = d.style; log = lines; ending = end.TopMissing })
      (sym (append-nil d.log))
  closed_same d end.FileLimit h = ap (λ (lines : List Line). record {
    keys = d.keys;
    all = d.all;
    databases = d.databases;
    style = d.style;
    log = lines;
    ending = end.FileLimit;
  }) (sym (append-nil d.log))

  -- the job that is said is the one that the reader makes of the files
  pub same_job : (top : List ℕ) → job_said (said_by top) ≡ job_of_files files top
  unfolding topped learned
  same_job top = by (files top) ∙ closed-topped files top where
    by : (f : Option (List ℕ))
        → job_said (option_map_or (λ text. checked_at_end (last_of top text)) f (record initial_contents { ending = end.TopMissing })) ≡ reads.closed (topped files top f)
    by None = refl
    by (Some text) =
        let d = opened_by files MOST_OPEN (as_draft (start top)) top text in
        closed_same d d.ending refl ∙ ap reads.closed (start_same top text)
