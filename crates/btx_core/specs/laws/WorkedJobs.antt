-- Worked jobs: what whole runs write and answer, from the bytes of their files to the list of references, the log and the status. The values are
-- those of the reference, which was written from the rules alone.
use Prim.Native.String.{String}
use Rattle.std.specs.List.{flat_map}
use Rattle.std.specs.Prelude.{◌≡◌, ℕ, List, [], ◌∷◌, ◌++◌, codes}
use Rattle.btx_text.specs.declared.element_kind.TextMode.TheVariants as mode
use Rattle.btx_aux.specs.laws.Pairs.{files_of_pairs}
use Rattle.btx_machine.specs.language.Product.{Product, log_of}
use Rattle.btx_core.specs.declared.options.Options.{Options}
use Rattle.btx_core.specs.refinement.ComputedProduct.{product}

-- a file: its name and its bytes
abbrev pub File : Type 0
File = List ℕ × List ℕ

-- a run of the job `job`: its files and what is asked of it; and the list, the log and the status that it comes to
pub record WorkedJob : Type 0 where
  pub files : List File
  pub options : Options
  pub list : List ℕ
  pub log : List ℕ
  pub status : ℕ

-- a run with these files and options, which comes to this list, log and status
abbrev pub worked_job : List File → Options → List ℕ → List ℕ → ℕ → WorkedJob
worked_job files options list log status = record { files = files; options = options; list = list; log = log; status = status }

-- what a run comes to: the list, the log and the status
abbrev pub outputs_shown : Product → List ℕ × List ℕ × ℕ
outputs_shown run = (run.bbl, log_of run, run.report.status)

-- what the run of its job comes to is what is said
abbrev pub IsSo : WorkedJob → Type 0
IsSo job = outputs_shown (product (files_of_pairs job.files) (codes "job") job.options) ≡ (job.list, job.log, job.status)

-- ---- files and options

-- the file `job.aux`: it cites these keys, and names these databases and the style `s`
abbrev pub aux_citing : String → String → File
aux_citing keys databases = (codes "job.aux", codes "\\citation{" ++ codes keys ++ codes "}\n\\bibdata{" ++ codes databases ++ codes "}\n\\bibstyle{s}\n")

-- the file `s.bst` of this text
abbrev pub whole_style : String → File
whole_style text = (codes "s.bst", codes text)

-- the file `s.bst`, whose entries are of the type `misc` and have a title; this comes after READ
abbrev pub style_file : String → File
style_file text = (codes "s.bst", codes "ENTRY {title}{}{} FUNCTION {misc}{} READ " ++ codes text)

-- the file `d.bib`
abbrev pub database_file : String → File
database_file text = (codes "d.bib", codes text)

-- an `.aux` file of this name, whose one line opens another
abbrev pub aux_opening : String → String → File
aux_opening name next = (codes name ++ codes ".aux", codes "\\@input{" ++ codes next ++ codes ".aux}\n")

-- the usual options, with a budget, the least number of references of a parent that isn't cited, and the greatest length of a line
abbrev pub options : ℕ → ℕ → ℕ → Options
options budget references line = record {
  min_crossrefs = references;
  budget = budget;
  text = mode.Bytes;
  line = line;
  entry_max = 250;
  global_max = 20000;
}

-- a budget of 1,000 steps, two entries that have to name an uncited parent for it to stay, and lines of 79 bytes
abbrev pub usual : Options
usual = options 1000 2 79

-- ---- rows

-- lines, each with its end
abbrev pub lines : List String → List ℕ
lines texts = flat_map (λ (text : String). codes text ++ codes "\n") texts

-- the lines of the log on the files of a job that has all three
abbrev pub files_logged : List String
files_logged = "The top-level auxiliary file: job.aux" ∷ "The style file: s.bst" ∷ "Database file #1: d.bib" ∷ []

-- a run with these files, which comes to this list, these lines of the log, and this status
abbrev pub comes_to : List File → String → List String → ℕ → WorkedJob
comes_to files list log status = worked_job files usual (codes list) (lines log) status

-- the files of a run that cites these keys: its database, and its style after READ
abbrev pub files_of : String → String → String → List File
files_of keys database style = aux_citing keys "d" ∷ database_file database ∷ style_file style ∷ []

-- a run that cites these keys, with this database and style, which comes to this list, these lines of the log after those on files, and this status
abbrev pub gathers : String → String → String → String → List String → ℕ → WorkedJob
gathers keys database style list log status = comes_to (files_of keys database style) list (files_logged ++ log) status

-- a run that logs nothing but its files and its end: its keys, database and style, the list, and the number of its steps
abbrev pub lists : String → String → String → String → String → WorkedJob
lists keys database style list steps =
    worked_job (files_of keys database style) usual (codes list)
    (lines files_logged ++ codes "Ended: finished, warnings 0, errors 0, steps " ++ codes steps ++ codes "\n") 0

-- the same run with these options
abbrev pub under : Options → WorkedJob → WorkedJob
under asked job = record job { options = asked }

-- ---- texts

-- a style that writes each entry's key
abbrev pub shows_key : String
shows_key = "FUNCTION {f} {cite$ write$ newline$} ITERATE {f}"

-- a style that writes each entry's title
abbrev pub writes_title : String
writes_title = "FUNCTION {f} {title write$ newline$} ITERATE {f}"

-- a database with one entry, which has a title
abbrev pub one_entry : String
one_entry = "@misc{k, title = {T}}\n"

-- ---- entries

-- a citation comes to a line of the list
abbrev pub a_citation : WorkedJob
a_citation = lists "k" "@misc{k, title = {T}}\n" "FUNCTION {f} {cite$ write$ \": \" write$ title write$ newline$} ITERATE {f}" "k: T\n" "8"

-- a parent that two cited entries name stays in the list, after them, and they have its fields
abbrev pub cross_references : WorkedJob
cross_references =
    lists "a,b" "@misc{a, crossref = {p}}\n@misc{b, crossref = {P}}\n@misc{p, title = {Whole}}\n"
    "FUNCTION {f} {cite$ write$ \" \" write$ title write$ newline$} ITERATE {f}" "a Whole\nb Whole\np Whole\n" "24"

-- with one reference enough, one child keeps its parent
abbrev pub fewer_references : WorkedJob
fewer_references = under (options 1000 1 79) (lists "a" "@misc{a, crossref = {p}}\n@misc{p}\n" shows_key "a\np\n" "8")

-- `*` stands for all entries, in the order of the database
abbrev pub all_cited : WorkedJob
all_cited = lists "*" "@misc{b}\n@misc{a}\n" shows_key "b\na\n" "8"

-- SORT orders the entries by their sort keys
abbrev pub sorted_entries : WorkedJob
sorted_entries =
    lists "b,a" "@misc{a}\n@misc{b}\n" "FUNCTION {f} {cite$ 'sort.key$ :=} ITERATE {f} SORT FUNCTION {g} {cite$ write$ newline$} ITERATE {g}" "a\nb\n" "16"

-- REVERSE goes through the entries from the last to the first, and what follows it doesn't
abbrev pub reversed_entries : WorkedJob
reversed_entries = lists "a,b" "@misc{a}\n@misc{b}\n" "FUNCTION {f} {cite$ write$ newline$} REVERSE {f} ITERATE {f}" "b\na\na\nb\n" "16"

-- the macros of a style and of a database stand for their texts
abbrev pub macros : WorkedJob
macros =
    comes_to
    (aux_citing "k" "d" ∷ whole_style "ENTRY {title}{}{} FUNCTION {misc}{} MACRO {m} {\"M\"} READ FUNCTION {f} {title write$ newline$} ITERATE {f}"
    ∷ database_file "@string{v = \"V\" # m}\n@misc{k, title = v # \"!\"}\n" ∷ [])
    "VM!\n" (files_logged ++ "Ended: finished, warnings 0, errors 0, steps 4" ∷ []) 0

-- a line that is too long is broken at whitespace
abbrev pub broken_lines : WorkedJob
broken_lines =
    under (options 1000 2 20) (lists "k" "@misc{k, title = {one two three four five six seven}}\n" writes_title "one two three four\n  five six seven\n" "4")

-- ---- what is wrong

-- without its top file a run ends at once
abbrev pub no_top_file : WorkedJob
no_top_file = comes_to [] "" ("Ended: no top file, warnings 0, errors 0, steps 0" ∷ []) 3

-- without its style a run ends after an error
abbrev pub no_style : WorkedJob
no_style =
    comes_to (aux_citing "k" "d" ∷ database_file one_entry ∷ []) ""
    ("The top-level auxiliary file: job.aux" ∷ "Error--I couldn't open style file s.bst" ∷ "Ended: finished, warnings 0, errors 1, steps 0" ∷ []) 2

-- a database that is missing is an error
abbrev pub missing_database : WorkedJob
missing_database =
    comes_to (aux_citing "k" "gone,d" ∷ style_file writes_title ∷ database_file one_entry ∷ []) "T\n"
    ("The top-level auxiliary file: job.aux" ∷ "The style file: s.bst" ∷ "Error--I couldn't open database file gone.bib" ∷ "Database file #1: d.bib"
    ∷ "Ended: finished, warnings 0, errors 1, steps 4" ∷ []) 2

-- a key without an entry is a warning
abbrev pub undefined_key : WorkedJob
undefined_key =
    gathers "nope" one_entry shows_key ""
    ("Warning--I didn't find a database entry for \"nope\"" ∷ "Ended: finished, warnings 1, errors 0, steps 0" ∷ []) 0

-- what is no command of a style is an error at its line
abbrev pub error_of_a_style : WorkedJob
error_of_a_style =
    comes_to
    (aux_citing "k" "d" ∷ database_file one_entry
    ∷ whole_style "nonsense\n\nENTRY {title}{}{} FUNCTION {misc}{} READ FUNCTION {f} {title write$ newline$} ITERATE {f}" ∷ []) "T\n"
    (files_logged ++ "Error--nonsense isn't a command--line 1 of file s.bst" ∷ "Ended: finished, warnings 0, errors 1, steps 4" ∷ []) 2

-- of two entries with one key the first stays
abbrev pub error_of_a_database : WorkedJob
error_of_a_database =
    gathers "k" "@misc{k, title = {T}}\n@misc{K, title = {U}}\n" writes_title "T\n"
    ("Error--Repeated entry--line 2 of file d.bib" ∷ "Ended: finished, warnings 0, errors 1, steps 4" ∷ []) 2

-- the log has the messages of the databases first, then those of cross-references, and then those of keys without an entry
abbrev pub messages_in_order : WorkedJob
messages_in_order =
    comes_to
    (aux_citing "gone,a" "d,e" ∷ style_file shows_key ∷ database_file "@misc{a, crossref = {p}}\n" ∷ (codes "e.bib", codes "\n@other{a}\n") ∷ [])
    "a\n"
    (files_logged ++ "Database file #2: e.bib" ∷ "Error--Repeated entry--line 2 of file e.bib"
    ∷ "Error--A bad cross reference--entry \"a\" refers to entry \"p\", which doesn't exist" ∷ "Warning--I didn't find a database entry for \"gone\""
    ∷ "Warning--I didn't find a database entry for \"p\"" ∷ "Ended: finished, warnings 2, errors 2, steps 4" ∷ []) 2

-- what a function leaves on the stack is an error, with its values
abbrev pub literal_left : WorkedJob
literal_left =
    gathers "k" one_entry "FUNCTION {f} {#7 \"x\"} EXECUTE {f}" ""
    ("Error--The literal stack isn't empty while executing EXECUTE" ∷ "\"x\"" ∷ "7" ∷ "Ended: finished, warnings 0, errors 1, steps 3" ∷ []) 2

-- a style's warning is counted
abbrev pub warned : WorkedJob
warned =
    gathers "k" one_entry "FUNCTION {f} {\"look at \" cite$ * warning$} ITERATE {f}" ""
    ("Warning--look at k" ∷ "Ended: finished, warnings 1, errors 0, steps 5" ∷ []) 0

-- ---- limits and the budget

-- a run whose budget is spent is stopped
abbrev pub stopped : WorkedJob
stopped =
    under (options 20 2 79) (gathers "k" one_entry "FUNCTION {f} {\"x\" write$ newline$ {#1} {skip$} while$} EXECUTE {f}" "x\n"
    ("Ended: stopped, warnings 0, errors 0, steps 20" ∷ []) 4)

-- a function that calls itself through the stack meets the limit of calls
abbrev pub too_deep : WorkedJob
too_deep =
    under (options 100000 2 79) (gathers "k" one_entry "FUNCTION {h} {duplicate$ #1 swap$ 'skip$ if$} FUNCTION {g} {'h h} EXECUTE {g}" ""
    ("Ended: limit calls, warnings 0, errors 0, steps 24573" ∷ []) 3)

-- the literal stack holds 1,000 literals at most
abbrev pub too_many_literals : WorkedJob
too_many_literals =
    under (options 100000 2 79) (gathers "k" one_entry "FUNCTION {f} {{#1} {#5} while$} EXECUTE {f}" ""
    ("Ended: limit literals, warnings 0, errors 0, steps 4006" ∷ []) 3)

-- at most 20 `.aux` files are open at once
abbrev pub too_many_open : WorkedJob
too_many_open =
    comes_to
    (aux_opening "job" "f1" ∷ aux_opening "f1" "f2" ∷ aux_opening "f2" "f3" ∷ aux_opening "f3" "f4" ∷ aux_opening "f4" "f5" ∷ aux_opening "f5" "f6"
    ∷ aux_opening "f6" "f7" ∷ aux_opening "f7" "f8" ∷ aux_opening "f8" "f9" ∷ aux_opening "f9" "f10" ∷ aux_opening "f10" "f11" ∷ aux_opening "f11" "f12"
    ∷ aux_opening "f12" "f13" ∷ aux_opening "f13" "f14" ∷ aux_opening "f14" "f15" ∷ aux_opening "f15" "f16" ∷ aux_opening "f16" "f17"
    ∷ aux_opening "f17" "f18" ∷ aux_opening "f18" "f19" ∷ aux_opening "f19" "f20" ∷ aux_opening "f20" "f21" ∷ [])
    ""
    ("The top-level auxiliary file: job.aux" ∷ "A level-1 auxiliary file: f1.aux" ∷ "A level-2 auxiliary file: f2.aux" ∷ "A level-3 auxiliary file: f3.aux"
    ∷ "A level-4 auxiliary file: f4.aux" ∷ "A level-5 auxiliary file: f5.aux" ∷ "A level-6 auxiliary file: f6.aux" ∷ "A level-7 auxiliary file: f7.aux"
    ∷ "A level-8 auxiliary file: f8.aux" ∷ "A level-9 auxiliary file: f9.aux" ∷ "A level-10 auxiliary file: f10.aux" ∷ "A level-11 auxiliary file: f11.aux"
    ∷ "A level-12 auxiliary file: f12.aux" ∷ "A level-13 auxiliary file: f13.aux" ∷ "A level-14 auxiliary file: f14.aux"
    ∷ "A level-15 auxiliary file: f15.aux" ∷ "A level-16 auxiliary file: f16.aux" ∷ "A level-17 auxiliary file: f17.aux"
    ∷ "A level-18 auxiliary file: f18.aux" ∷ "A level-19 auxiliary file: f19.aux" ∷ "Ended: limit files, warnings 0, errors 0, steps 0" ∷ []) 3

-- ---- all of them

-- all of these jobs
abbrev pub worked_jobs : List WorkedJob
worked_jobs =
    a_citation ∷ cross_references ∷ fewer_references ∷ all_cited ∷ sorted_entries ∷ reversed_entries ∷ macros ∷ broken_lines
    ∷ no_top_file ∷ no_style ∷ missing_database ∷ undefined_key ∷ error_of_a_style ∷ error_of_a_database ∷ messages_in_order ∷ literal_left ∷ warned
    ∷ stopped ∷ too_deep ∷ too_many_literals ∷ too_many_open ∷ []

-- each of these jobs comes to what is said
abbrev pub JobsAreSo : List WorkedJob → Type 0
JobsAreSo [] = Unit {0}
JobsAreSo (job ∷ jobs) = IsSo job × JobsAreSo jobs
