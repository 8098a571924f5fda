-- Worked examples of the definitions, which compute.
use Rattle.std.proofs.Common.{◌≡◌, ℕ, zero, suc, ◌+◌, false, List, [], ◌∷◌, ◌++◌, replicate, length, Option, None, Some, refl}
use Rattle.std.specs.Prelude.{codes}
use Rattle.btx_text.specs.language.Lines.{line_pieces, trimmed}
use Rattle.btx_aux.specs.declared.end.End.{End}
use Rattle.btx_aux.specs.declared.end.End.TheVariants as end
use Rattle.btx_aux.specs.declared.command.Slip.TheVariants.{WhiteSpace, Unclosed, StuffAfter}
use Rattle.btx_aux.specs.laws.Pairs.{files_of_pairs}
use Rattle.btx_aux.specs.language.Grammar.{pieces_of, aux_command_named, words_of}
use Rattle.btx_aux.specs.language.Events.{AuxEvent, said, job_events}
use Rattle.btx_aux.specs.language.Notes.{AuxComplaint, Slipped, AnotherBibdata, AnotherBibstyle, CaseMismatch, SecondStar, WrongExtension, AlreadyMet}
use Rattle.btx_aux.specs.language.Notes.{NotOpened, RepeatedDatabase, AuxNote, TopFile, LevelFile, Wrong, NoCitations, NoBibdata, NoBibstyle}
use Rattle.btx_aux.specs.language.Names.{has_ending}
use Rattle.btx_aux.specs.language.Job.{cited_keys, all_of, notes_of, end_of}
use Rattle.btx_aux.specs.refinement.Job.{databases_of, style_name_of}

-- what is compared: keys, the place of `*`, databases, style, the log's notes, the end
abbrev Shown : Type 0
Shown = (List (List ℕ)) × (Option ℕ) × (List (List ℕ)) × (Option (List ℕ)) × (List AuxNote) × End

-- what the events of a job come to: the keys, the number of keys before `*`, the databases, the style, the lines of the log, and how the reading
-- ends
abbrev shown : List AuxEvent → Shown
shown events = (cited_keys events, all_of events, databases_of events, style_name_of events, notes_of events, end_of events)

-- the name of the top file, `job.aux`
abbrev top : List ℕ
top = codes "job.aux"

-- the line of the log that says that the top file was found
abbrev found_top : AuxNote
found_top = TopFile (codes "job.aux")

-- an error at a line of the top file
abbrev error_at : ℕ → AuxComplaint → AuxNote
error_at line complaint = Wrong complaint line (codes "job.aux")

-- a top file with these first lines, and then one for a database and one for a style
abbrev alone : List ℕ → Shown
alone line = shown (job_events (files_of_pairs ((top, line ++ codes "\n\\bibdata{d}\n\\bibstyle{s}\n") ∷ [])) top)

-- what a job comes to whose database is `d` and whose style is `s`: these keys, this number of keys before `*`, and in the log these lines after
-- that of the top file
abbrev base_with : List (List ℕ) → Option ℕ → List AuxNote → Shown
base_with keys all notes = (keys, all, codes "d.bib" ∷ [], Some (codes "s.bst"), found_top ∷ notes, end.Whole)

-- a chain of files: a name of n letters inputs one of n + 1
abbrev link : ℕ → List ℕ
link n = replicate n 102 ++ codes ".aux"

abbrev chain : ℕ → ℕ → List (List ℕ × List ℕ)
chain zero n = []
chain (suc more) n = (link n, codes "\\@input{" ++ link (n + 1) ++ codes "}\n") ∷ chain more (n + 1)

abbrev count_and_end : List AuxEvent → ℕ × End
count_and_end events = (length (notes_of events), end_of events)

-- one key in two spellings: the second isn't taken
case_mismatch : alone (codes "\\citation{k,K}") ≡ base_with (codes "k" ∷ []) None (error_at 1 (CaseMismatch (codes "k") (codes "K")) ∷ [])
unfolding job_events said words_of aux_command_named pieces_of line_pieces trimmed
case_mismatch = refl

-- whitespace in the argument: what stands before it is taken
white_space : alone (codes "\\citation{k, j}") ≡ base_with (codes "k" ∷ []) None (error_at 1 (Slipped WhiteSpace) ∷ [])
unfolding job_events said words_of aux_command_named pieces_of line_pieces trimmed
white_space = refl

-- no closing brace: nothing is taken, and no citation is left
unclosed : alone (codes "\\citation{k") ≡ base_with [] None (error_at 1 (Slipped Unclosed) ∷ NoCitations ∷ [])
unfolding job_events said words_of aux_command_named pieces_of line_pieces trimmed
unclosed = refl

-- whitespace at the end of a line is no part of it
unclosed_before_white : alone (codes "\\citation{k ") ≡ alone (codes "\\citation{k")
unfolding job_events said words_of aux_command_named pieces_of line_pieces trimmed
unclosed_before_white = refl

-- a line without a brace is ignored; braces in a piece aren't matched; a second `*` is logged
no_brace : alone (codes "\\citation\n\\citation{k} x\n\\citation{*,a{b,*}")
    ≡ base_with (codes "a{b" ∷ []) (Some 0) (error_at 2 (Slipped StuffAfter) ∷ error_at 3 SecondStar ∷ [])
unfolding job_events said words_of aux_command_named pieces_of line_pieces trimmed
no_brace = refl

-- an empty piece is a key
empty_pieces : alone (codes "\\citation{k,,*}") ≡ base_with (codes "k" ∷ [] ∷ []) (Some 2) []
unfolding job_events said words_of aux_command_named pieces_of line_pieces trimmed
empty_pieces = refl

-- each repetition of another spelling is logged again
repeated_spelling : alone (codes "\\citation{k,K,k,K}")
    ≡ base_with (codes "k" ∷ []) None (error_at 1 (CaseMismatch (codes "k") (codes "K")) ∷ error_at 1 (CaseMismatch (codes "k") (codes "K")) ∷ [])
unfolding job_events said words_of aux_command_named pieces_of line_pieces trimmed
repeated_spelling = refl

-- `*` stands though the line goes wrong later
star_before_slip : alone (codes "\\citation{*, x") ≡ base_with [] (Some 0) (error_at 1 (Slipped WhiteSpace) ∷ [])
unfolding job_events said words_of aux_command_named pieces_of line_pieces trimmed
star_before_slip = refl

-- a faulty first line stands: the next ones are others
faulty_first : alone (codes "\\citation{*}\n\\bibdata{a b}\n\\bibstyle{s s}") ≡ (
  [],
  Some 0,
  [],
  None,
  found_top ∷ error_at 2 (Slipped WhiteSpace) ∷ error_at 3 (Slipped WhiteSpace) ∷ error_at 4 AnotherBibdata ∷ error_at 5 AnotherBibstyle ∷ [],
  end.Whole,
)
unfolding job_events said words_of aux_command_named pieces_of line_pieces trimmed
faulty_first = refl

-- a database is compared with its ending, which isn't put on twice
database_twice : alone (codes "\\citation{*}\n\\bibdata{e,e.bib,,f}") ≡ (
  [],
  Some 0,
  codes "e.bib" ∷ codes ".bib" ∷ codes "f.bib" ∷ [],
  Some (codes "s.bst"),
  found_top ∷ error_at 2 (RepeatedDatabase (codes "e.bib")) ∷ error_at 3 AnotherBibdata ∷ [],
  end.Whole,
)
unfolding job_events said words_of aux_command_named pieces_of line_pieces trimmed
database_twice = refl

-- a comma is part of the one piece of a `\bibstyle` and of an `\@input`; of a second `\bibstyle` line nothing else is logged
one_piece : shown (job_events (files_of_pairs ((top, codes "\\citation{k}\n\\bibdata{d.bib}\n\\bibstyle{s,t.bst}\n\\@input{a,b.aux}\n\\bibstyle{u u}") ∷ []))
    top) ≡ (
      codes "k" ∷ [],
      None,
      codes "d.bib" ∷ [],
      Some (codes "s,t.bst"),
      found_top ∷ error_at 4 (NotOpened (codes "a,b.aux")) ∷ error_at 5 AnotherBibstyle ∷ [],
      end.Whole,
    )
unfolding job_events said words_of aux_command_named pieces_of line_pieces trimmed
one_piece = refl

-- an ending is in lower case
capitals : has_ending (codes ".bib") (codes "d.BIB") ≡ false
capitals = refl

-- an empty top file
nothing : shown (job_events (files_of_pairs ((top, []) ∷ [])) top) ≡ ([], None, [], None, found_top ∷ NoCitations ∷ NoBibdata ∷ NoBibstyle ∷ [], end.Whole)
unfolding job_events said words_of aux_command_named pieces_of line_pieces trimmed
nothing = refl

-- a file that inputs the top one again
through_another : shown (job_events (files_of_pairs (
    (top, codes "\\@input{a.aux}\n\\citation{k}\n\\bibdata{d}\n\\bibstyle{s}\n")
    ∷ (codes "a.aux", codes "\\citation{k}\n\\@input{job.aux}\n") ∷ [])) top)
    ≡ base_with (codes "k" ∷ []) None (LevelFile 1 (codes "a.aux") ∷ Wrong (AlreadyMet top) 2 (codes "a.aux") ∷ [])
unfolding job_events said words_of aux_command_named pieces_of line_pieces trimmed
through_another = refl

-- an included file is read in its line's place: its key, its `*` and its spelling come between those around it
in_place : shown (job_events (files_of_pairs (
    (top, codes "\\citation{a}\n\\@input{a.aux}\n\\citation{C,b,*}\n\\bibdata{d}\n\\bibstyle{s}\n")
    ∷ (codes "a.aux", codes "\\citation{c,*}") ∷ [])) top) ≡ base_with (codes "a" ∷ codes "c" ∷ codes "b" ∷ []) (Some 2) (
    LevelFile 1 (codes "a.aux") ∷ error_at 3 (CaseMismatch (codes "c") (codes "C")) ∷ error_at 3 SecondStar ∷ [])
unfolding job_events said words_of aux_command_named pieces_of line_pieces trimmed
in_place = refl

-- names that open no file: a wrong ending, an empty name, one that isn't there, the same again
not_opened : alone (codes "\\citation{k}\n\\@input{x}\n\\@input{}\n\\@input{x.aux}\n\\@input{x.aux}") ≡ base_with (codes "k" ∷ []) None (
    error_at 2 (WrongExtension (codes "x")) ∷ error_at 3 (WrongExtension [])
    ∷ error_at 4 (NotOpened (codes "x.aux")) ∷ error_at 5 (AlreadyMet (codes "x.aux")) ∷ [])
unfolding job_events said words_of aux_command_named pieces_of line_pieces trimmed
not_opened = refl

-- 20 files are open and the 21st isn't there: the reading goes on
twenty_open : count_and_end (job_events (files_of_pairs (chain 20 1)) (link 1)) ≡ (24, end.Whole)
unfolding job_events said words_of aux_command_named pieces_of line_pieces trimmed
twenty_open = refl

-- the 21st is there: the reading ends
twenty_first : count_and_end (job_events (files_of_pairs (chain 21 1)) (link 1)) ≡ (20, end.TooManyOpen)
unfolding job_events said words_of aux_command_named pieces_of line_pieces trimmed
twenty_first = refl

-- no top file
no_top : shown (job_events (files_of_pairs []) top) ≡ ([], None, [], None, [], end.TopMissing)
unfolding job_events said words_of aux_command_named pieces_of line_pieces trimmed
no_top = refl
