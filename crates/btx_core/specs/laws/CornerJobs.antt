-- Worked jobs for the corners of the rules: what stands where two rules meet, or at the end of one. The values are those of the reference, which was
-- written from the rules alone.
use Prim.Native.String.{String}
use Rattle.std.specs.Prelude.{ℕ, List, [], codes, ◌++◌, ◌∷◌}
use Rattle.btx_core.specs.declared.options.Options.{Options}
use Rattle.btx_core.specs.laws.WorkedJobs.{WorkedJob, aux_citing, comes_to, database_file, files_logged, gathers, lists, options, shows_key, style_file, under}
use Rattle.btx_core.specs.laws.WorkedJobs.{usual, whole_style}

-- ---- rows

-- a style that writes each entry's key and title
abbrev pub shows_title : String
shows_title = "FUNCTION {f} {cite$ write$ \"=\" write$ title missing$ {\"-\"} {title} if$ write$ newline$} ITERATE {f}"

-- a style that writes each entry's key, type, title and cross-reference
abbrev pub shows_all : String
shows_all =
    "FUNCTION {f} {cite$ write$ \"/\" write$ type$ write$ \"/\" write$ title missing$ {\"-\"} {title} if$ write$ \"/\" write$ crossref missing$ {\"-\"} {crossref} if$ write$ newline$} ITERATE {f}"

-- lines of 20 bytes
abbrev pub narrow : Options
narrow = options 1000 2 20

-- a run of a style with one entry, the key `k`, whose title is `T`: the style after READ, the list, the lines of the log after those on files, and the status
abbrev pub does : String → String → List String → ℕ → WorkedJob
does style list log status = gathers "k" "@misc{k, title = {T}}" style list log status

-- the same run where nothing is logged but the files and the end: the style after READ, the list, and the number of steps
abbrev pub writes : String → String → String → WorkedJob
writes style list steps = lists "k" "@misc{k, title = {T}}" style list steps

-- ---- jobs

-- the corners of `.aux` files
abbrev pub aux_corners : List WorkedJob
aux_corners =
    -- a repeated key in another case is logged again
    comes_to (aux_citing "k,K,k,K" "d" ∷ database_file "@misc{k}" ∷ style_file shows_key ∷ []) "k\n"
    ("The top-level auxiliary file: job.aux" ∷ "Error--Case mismatch error between cite keys k and K--line 1 of file job.aux"
    ∷ "Error--Case mismatch error between cite keys k and K--line 1 of file job.aux" ∷ "The style file: s.bst" ∷ "Database file #1: d.bib"
    ∷ "Ended: finished, warnings 0, errors 2, steps 4" ∷ []) 2
    -- two stars
    ∷ comes_to (aux_citing "*,*" "d" ∷ database_file "@misc{k}" ∷ style_file shows_key ∷ []) "k\n"
    ("The top-level auxiliary file: job.aux" ∷ "Error--Multiple inclusions of entire database--line 1 of file job.aux" ∷ "The style file: s.bst"
    ∷ "Database file #1: d.bib" ∷ "Ended: finished, warnings 0, errors 1, steps 4" ∷ []) 2
    -- a file that isn't there, twice
    ∷ comes_to
    ((codes "job.aux", codes "\\@input{x.aux}\n\\@input{x.aux}\n\\citation{k}\n\\bibdata{d}\n\\bibstyle{s}\n") ∷ database_file "@misc{k}" ∷ style_file shows_key
    ∷ []) "k\n"
    ("The top-level auxiliary file: job.aux" ∷ "Error--I couldn't open auxiliary file x.aux--line 1 of file job.aux"
    ∷ "Error--Already encountered file x.aux--line 2 of file job.aux" ∷ "The style file: s.bst" ∷ "Database file #1: d.bib"
    ∷ "Ended: finished, warnings 0, errors 2, steps 4" ∷ []) 2
    -- a database twice by both names
    ∷ comes_to (aux_citing "k" "d,d.bib" ∷ database_file "@misc{k, title = {T}}" ∷ style_file "" ∷ []) ""
    ("The top-level auxiliary file: job.aux" ∷ "Error--This database file appears more than once: d.bib--line 2 of file job.aux" ∷ "The style file: s.bst"
    ∷ "Database file #1: d.bib" ∷ "Ended: finished, warnings 0, errors 1, steps 0" ∷ []) 2
    -- a faulty first line of databases is the one
    ∷ comes_to
    ((codes "job.aux", codes "\\citation{k}\n\\bibdata{a b}\n\\bibdata{d}\n\\bibstyle{s}\n") ∷ database_file "@misc{k, title = {T}}" ∷ style_file "" ∷ []) ""
    ("The top-level auxiliary file: job.aux" ∷ "Error--White space in argument--line 2 of file job.aux"
    ∷ "Error--Illegal, another \\bibdata command--line 3 of file job.aux" ∷ "The style file: s.bst" ∷ "Warning--I didn't find a database entry for \"k\""
    ∷ "Ended: finished, warnings 1, errors 2, steps 0" ∷ []) 2
    -- a faulty first style leaves none
    ∷ comes_to
    ((codes "job.aux", codes "\\citation{k}\n\\bibdata{d}\n\\bibstyle{s s}\n\\bibstyle{s}\n") ∷ database_file "@misc{k, title = {T}}" ∷ style_file "" ∷ []) ""
    ("The top-level auxiliary file: job.aux" ∷ "Error--White space in argument--line 3 of file job.aux"
    ∷ "Error--Illegal, another \\bibstyle command--line 4 of file job.aux" ∷ "Ended: finished, warnings 0, errors 2, steps 0" ∷ []) 2
    ∷ []

-- the corners of databases
abbrev pub database_corners : List WorkedJob
database_corners =
    -- an entry is stored at its key's end
    gathers "k" "@misc{k" shows_title "k=-\n"
    ("Error--Illegal end of database file--line 1 of file d.bib" ∷ "Ended: finished, warnings 0, errors 1, steps 14" ∷ []) 2
    -- the line of an extra field is that of its value's end
    ∷ gathers "k" "@misc{k,title={A},title={B\n}\n\n}" shows_title "k=A\n"
    ("Warning--I'm ignoring k's extra \"title\" field--line 2 of file d.bib" ∷ "Ended: finished, warnings 1, errors 0, steps 14" ∷ []) 0
    -- a key in parentheses
    ∷ gathers "k" "@misc(k)" shows_title ""
    ("Error--Illegal end of database file--line 1 of file d.bib" ∷ "Warning--I didn't find a database entry for \"k\""
    ∷ "Ended: finished, warnings 1, errors 1, steps 0" ∷ []) 2
    -- a value with a fault logs nothing else
    ∷ gathers "k" "@misc{k,title=zz # (}" shows_title "k=-\n"
    ("Error--I was expecting a value--line 1 of file d.bib" ∷ "Ended: finished, warnings 0, errors 1, steps 14" ∷ []) 2
    -- one space at each end
    ∷ lists "k" "@misc{k,title={  a\n }}" shows_title "k=a\n" "14"
    -- strings keep their spaces
    ∷ lists "k" "@string{s={ a }}@misc{k,title={x} # s # {x}}" shows_title "k=x a x\n" "14"
    -- a name in its own definition, with a value before
    ∷ gathers "k" "@string{s={a}}@string{S=s # {b}}@misc{k,title=s}" shows_title "k=b\n"
    ("Warning--string name \"s\" is used in its own definition--line 1 of file d.bib" ∷ "Ended: finished, warnings 1, errors 0, steps 14" ∷ []) 0
    -- a repeated entry at the end of the file
    ∷ gathers "k" "@misc{k}@misc{K" shows_title "k=-\n" ("Error--Repeated entry--line 1 of file d.bib" ∷ "Ended: finished, warnings 0, errors 1, steps 14" ∷ [])
    2
    -- a quote in braces in quotes
    ∷ lists "k" "@misc{k,title=\"a{\"}b\"}" shows_title "k=a{\"}b\n" "14"
    ∷ []

-- the corners of cross-references and the list
abbrev pub reference_corners : List WorkedJob
reference_corners =
    -- an empty cross-reference
    gathers "k" "@misc{k,crossref={}}" shows_all "k/misc/-/-\n"
    ("Error--A bad cross reference--entry \"k\" refers to entry \"\", which doesn't exist" ∷ "Warning--I didn't find a database entry for \"\""
    ∷ "Ended: finished, warnings 1, errors 1, steps 28" ∷ []) 2
    -- an entry that refers to itself
    ∷ gathers "k" "@misc{k,crossref={K}}" shows_all "k/misc/-/k\n"
    ("Warning--you've nested cross references--entry \"k\" refers to entry \"k\"" ∷ "Ended: finished, warnings 1, errors 0, steps 28" ∷ []) 0
    -- all are cited, and a parent isn't there
    ∷ gathers "*" "@misc{k,crossref={P}}" shows_all "k/misc/-/-\n"
    ("Error--A bad cross reference--entry \"k\" refers to entry \"P\", which doesn't exist" ∷ "Ended: finished, warnings 0, errors 1, steps 28" ∷ []) 2
    -- a key that is cited after the star stands at its entry's place
    ∷ lists "b,*,k" "@misc{a}@misc{K}@misc{b}" shows_title "b=-\na=-\nk=-\n" "42"
    -- no reference is wanted
    ∷ under (options 1000 0 79) (lists "k" "@misc{k,crossref={p}}@misc{p,title={T}}" shows_all "k/misc/T/p\np/misc/T/-\n" "56")
    -- an uncited parent is spelled as its entry
    ∷ under (options 1000 1 79) (lists "k" "@misc{k,crossref={p}}@misc{P,title={T}}" shows_all "k/misc/T/P\nP/misc/T/-\n" "56")
    -- with a star no parent leaves
    ∷ lists "*" "@misc{k,crossref={p}}@misc{p}" shows_title "k=-\np=-\n" "28"
    -- an ignored cross-reference names nothing
    ∷ gathers "k" "@misc{k,crossref={p},crossref={q}}@misc{q}@misc{p,title={T}}" shows_title "k=T\n"
    ("Warning--I'm ignoring k's extra \"crossref\" field--line 1 of file d.bib" ∷ "Ended: finished, warnings 1, errors 0, steps 14" ∷ []) 0
    -- parents are logged before missing entries
    ∷ gathers "k,j" "@misc{j,crossref={k}}" shows_title "j=-\n"
    ("Error--A bad cross reference--entry \"j\" refers to entry \"k\", which doesn't exist" ∷ "Warning--I didn't find a database entry for \"k\""
    ∷ "Ended: finished, warnings 1, errors 1, steps 14" ∷ []) 2
    -- a field's own value stands
    ∷ lists "k" "@misc{k,title={A},crossref={p}}@misc{p,title={B}}" shows_title "k=A\n" "14"
    ∷ []

-- the corners of styles
abbrev pub style_corners : List WorkedJob
style_corners =
    -- a name ends only at white, a brace or a comment
    does "FUNCTION {f} {a{b x'y skip$} EXECUTE {f}" ""
    ("Error--a{b is an unknown function--line 1 of file s.bst" ∷ "Error--x'y is an unknown function--line 1 of file s.bst"
    ∷ "Ended: finished, warnings 0, errors 2, steps 2" ∷ []) 2
    -- a name twice
    ∷ does "STRINGS {x X}\n\nFUNCTION {skip$} {}" ""
    ("Error--X is already defined--line 1 of file s.bst" ∷ "Error--skip$ is already defined--line 3 of file s.bst"
    ∷ "Ended: finished, warnings 0, errors 2, steps 0" ∷ []) 2
    -- a macro after READ
    ∷ does "MACRO {a} {\"b\"} EXECUTE {skip$}\n \nEXECUTE {skip$}" ""
    ("Error--Illegal, MACRO command after READ--line 1 of file s.bst" ∷ "Ended: finished, warnings 0, errors 1, steps 1" ∷ []) 2
    -- a string without its end drops the function
    ∷ does "FUNCTION {f} {{skip$} \"a}\n\nEXECUTE {f}" ""
    ("Error--No \" to end string literal--line 1 of file s.bst" ∷ "Error--f is an unknown function--line 3 of file s.bst"
    ∷ "Ended: finished, warnings 0, errors 2, steps 0" ∷ []) 2
    ∷ []

-- the corners of the execution of a style
abbrev pub execution_corners : List WorkedJob
execution_corners =
    -- missing$ without an entry, and nothing to pop
    does "FUNCTION {f} {missing$} EXECUTE {f}" ""
    ("Error--You can't pop an empty literal stack while executing missing$" ∷ "Error--You can't mess with entries here while executing missing$"
    ∷ "Ended: finished, warnings 0, errors 2, steps 2" ∷ []) 2
    -- missing$ without an entry takes anything
    ∷ does "FUNCTION {f} {#1 missing$} EXECUTE {f}" ""
    ("Error--You can't mess with entries here while executing missing$" ∷ "Ended: finished, warnings 0, errors 1, steps 3" ∷ []) 2
    -- literals left for an entry
    ∷ does "FUNCTION {f} {'skip$ {} title #-1} ITERATE {f}" ""
    ("Error--The literal stack isn't empty while executing ITERATE for entry k" ∷ "-1" ∷ "\"T\"" ∷ "'{}" ∷ "'skip$"
    ∷ "Ended: finished, warnings 0, errors 1, steps 5" ∷ []) 2
    -- what can't be compared
    ∷ does "FUNCTION {f} {'skip$ 'skip$ = pop$ #1 \"a\" = pop$} EXECUTE {f}" ""
    ("Error--= needs two integers or two strings while executing =" ∷ "Error--= needs two integers or two strings while executing ="
    ∷ "Ended: finished, warnings 0, errors 2, steps 9" ∷ []) 2
    -- the order of what := asks
    ∷ does "FUNCTION {f} {#1 #2 := 'skip$ 'skip$ := #1 'sort.key$ := \"a\" 'entry.max$ := :=} EXECUTE {f}" ""
    ("Error--2 is not a function while executing :=" ∷ "Error--You can't assign to skip$ while executing :="
    ∷ "Error--You can't mess with entries here while executing :=" ∷ "Error--\"a\" is not an integer while executing :="
    ∷ "Error--You can't pop an empty literal stack while executing :=" ∷ "Error--You can't pop an empty literal stack while executing :="
    ∷ "Ended: finished, warnings 0, errors 6, steps 14" ∷ []) 2
    -- where an operand is missing, the kind of another isn't logged
    ∷ does "FUNCTION {f} {\"a\" + top$} EXECUTE {f}" ""
    ("Error--You can't pop an empty literal stack while executing +" ∷ "0" ∷ "Ended: finished, warnings 0, errors 1, steps 4" ∷ []) 2
    -- a string that just fits isn't cut
    ∷ under (record usual { global_max = 3 }) (does "STRINGS {s} FUNCTION {f} {\"abc\" 's := s top$} EXECUTE {f}" ""
    ("\"abc\"" ∷ "Ended: finished, warnings 0, errors 0, steps 6" ∷ []) 0)
    -- what a test leaves
    ∷ does "FUNCTION {f} {{\"a\"} {} while$ 'skip$ {} while$} EXECUTE {f}" ""
    ("Error--\"a\" is not an integer while executing while$" ∷ "Error--You can't pop an empty literal stack while executing while$"
    ∷ "Ended: finished, warnings 0, errors 2, steps 10" ∷ []) 2
    -- conversions
    ∷ does "FUNCTION {f} {\"Ab\" \"x\" change.case$ top$ \"Ab\" \"\" change.case$ top$ \"Ab\" \"U\" change.case$ top$} EXECUTE {f}" ""
    ("Error--\"x\" is an illegal case-conversion string while executing change.case$" ∷ "\"Ab\""
    ∷ "Error--\"\" is an illegal case-conversion string while executing change.case$" ∷ "\"Ab\"" ∷ "\"AB\"" ∷ "Ended: finished, warnings 0, errors 2, steps 13"
    ∷ []) 2
    -- names that go wrong
    ∷ does "FUNCTION {f} {\"A,B,C,D,\" #1 \"{lll}\" format.name$ \"A\" #0 \"{ll\" format.name$ pop$ pop$} EXECUTE {f}" ""
    ("Error--Name 1 in \"A,B,C,D,\" has a comma at the end while executing format.name$"
    ∷ "Error--Too many commas in name 1 of \"A,B,C,D,\" while executing format.name$"
    ∷ "Error--The format string \"{lll}\" is illegal while executing format.name$" ∷ "Error--There is no name number 0 in \"A\" while executing format.name$"
    ∷ "Ended: finished, warnings 0, errors 4, steps 11" ∷ []) 2
    -- default.type after READ
    ∷ gathers "k" "@other{k}" "FUNCTION {default.type} {\"d\" write$} ITERATE {call.type$}" ""
    ("Warning--entry type for \"k\" isn't style-file defined--line 1 of file d.bib" ∷ "Ended: finished, warnings 1, errors 0, steps 1" ∷ []) 0
    -- a variable of an entry is each entry's own
    ∷ comes_to
    (aux_citing "a,b" "d" ∷ database_file "@misc{a}@misc{b}"
    ∷ whole_style "ENTRY {title}{i}{} FUNCTION {misc}{} READ FUNCTION {f} {i top$ #7 'i :=} ITERATE {f} ITERATE {f}" ∷ []) ""
    (files_logged ++ "0" ∷ "0" ∷ "7" ∷ "7" ∷ "Ended: finished, warnings 0, errors 0, steps 24" ∷ []) 0
    -- SORT twice keeps the present order of ties
    ∷ lists "c,a,b" "@misc{a}@misc{b}@misc{c}"
    "FUNCTION {f} {cite$ 'sort.key$ :=} FUNCTION {g} {\"x\" 'sort.key$ :=} FUNCTION {h} {cite$ write$ newline$} ITERATE {f} SORT ITERATE {g} SORT ITERATE {h}"
    "a\nb\nc\n" "36"
    ∷ []

-- the corners of names, formats and strings
abbrev pub name_corners : List WorkedJob
name_corners =
    -- a piece without a letter is finished too
    writes "FUNCTION {f} {\"A\" #1 \"{...~}|{~}|{ll~~}\" format.name$ write$ newline$} EXECUTE {f}" "... |~|A~\n" "7"
    -- a letter twice in two cases
    ∷ writes "FUNCTION {f} {\"Ann Lee\" #1 \"{fF }{Ll}\" format.name$ write$ newline$} EXECUTE {f}" "Ann Lee\n" "7"
    -- an abbreviation of nothing keeps its period
    ∷ writes "FUNCTION {f} {\"12 34 Lee\" #1 \"{f.}\" format.name$ write$ newline$} EXECUTE {f}" ".~.\n" "7"
    -- letters of later control sequences decide
    ∷ writes "FUNCTION {f} {\"{\\foo B}b C\" #1 \"{vv}|{ff}\" format.name$ write$ newline$} EXECUTE {f}" "|{\\foo B}b\n" "7"
    -- an and at an end separates nothing
    ∷ writes "FUNCTION {f} {\"and b\" num.names$ int.to.str$ \"a and\" num.names$ int.to.str$ * \" and \" num.names$ int.to.str$ * write$ newline$} EXECUTE {f}"
    "112\n" "14"
    -- a period counts for a tie
    ∷ writes "FUNCTION {f} {\"Ann Bo Cy Dee\" #1 \"{,f.}\" format.name$ write$ newline$} EXECUTE {f}" ",A. B.~C.\n" "7"
    -- a hyphen joins the last name
    ∷ writes "FUNCTION {f} {\"Ann Lucas-Dubois\" #1 \"{ll}|{ff}\" format.name$ write$ newline$} EXECUTE {f}" "Lucas-Dubois|Ann\n" "7"
    -- two separators share their white
    ∷ writes "FUNCTION {f} {\"a and and b\" num.names$ int.to.str$ write$ newline$} EXECUTE {f}" "3\n" "6"
    -- the byte after a token joins it
    ∷ writes "FUNCTION {f} {\"A -B C\" #1 \"{ff}\" format.name$ write$ newline$} EXECUTE {f}" "A~B\n" "7"
    -- a colon ends no sentence
    ∷ writes "FUNCTION {f} {\"a:\" add.period$ write$ newline$} EXECUTE {f}" "a:.\n" "5"
    -- a prefix of an open special character
    ∷ writes "FUNCTION {f} {\"{\\'e{x\" #1 text.prefix$ write$ newline$} EXECUTE {f}" "{\\'e{x}}\n" "6"
    -- no special character inside braces
    ∷ writes "FUNCTION {f} {\"{{\\ss}}\" \"u\" change.case$ write$ newline$} EXECUTE {f}" "{{\\ss}}\n" "6"
    -- the longest start
    ∷ writes "FUNCTION {f} {\"abc\" #-2147483648 #2147483647 substring$ write$ newline$} EXECUTE {f}" "\n" "7"
    ∷ []

-- the corners of the lines of the list
abbrev pub line_corners : List WorkedJob
line_corners =
    -- white at index 2 is no break
    under narrow (writes "FUNCTION {f} {\"ab cccccccccccccccccccc\" write$ newline$} EXECUTE {f}" "ab cccccccccccccccccccc\n" "4")
    -- white at index 3 is one
    ∷ under narrow (writes "FUNCTION {f} {\"abc dddddddddddddddddddd\" write$ newline$} EXECUTE {f}" "abc\n  dddddddddddddddddddd\n" "4")
    -- a head of white alone isn't written
    ∷ under narrow (writes "FUNCTION {f} {\"     bbbbbbbbbbbbbbbbbbbb\" write$ newline$} EXECUTE {f}" "  bbbbbbbbbbbbbbbbbbbb\n" "4")
    -- a head loses all its white
    ∷ under narrow (writes "FUNCTION {f} {\"abcd   eeeeeeeeeeeeeeee\" write$ newline$} EXECUTE {f}" "abcd\n  eeeeeeeeeeeeeeee\n" "4")
    -- white past the line, and then nothing
    ∷ under narrow (writes "FUNCTION {f} {\"aaaaaaaaaaaaaaaaaaaaa  \" write$ newline$} EXECUTE {f}" "aaaaaaaaaaaaaaaaaaaaa\n" "4")
    -- white of the line, and then nothing
    ∷ under narrow (writes "FUNCTION {f} {\"aaaaaaaaaaaaaaaaaaaa \" write$ newline$} EXECUTE {f}" "aaaaaaaaaaaaaaaaaaaa\n" "4")
    -- pending white at the end
    ∷ writes "FUNCTION {f} {\"  \" write$} EXECUTE {f}" "" "3"
    ∷ []
