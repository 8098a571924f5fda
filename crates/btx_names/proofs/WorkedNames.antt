-- Worked names, by computation.
use Rattle.std.specs.Prelude.{◌≡◌, ℕ, ℤ, pos, true, List, [], ◌∷◌, ◌++◌, length, map, codes, refl}
use Rattle.btx_text.specs.declared.element_kind.TextMode.{TextMode}
use Rattle.btx_text.specs.declared.element_kind.TextMode.TheVariants.{Bytes, Utf8}
use Rattle.btx_text.specs.language.Elements.{kind_at, group_len, elements_from, elements_of}
use Rattle.btx_text.specs.language.Sequences.{sequence_size, second_fits, is_sequence, begins_sequence}
use Rattle.btx_strings.specs.declared.answers.Complaints.{Complaints}
use Rattle.btx_strings.specs.language.Answers.{no_complaints}
use Rattle.btx_names.specs.language.NameLists.{is_separator, pieces_from, names_of}
use Rattle.btx_names.specs.language.Runs.{run_len}
use Rattle.btx_names.specs.language.Tokens.{tokens_from, tokens_of}
use Rattle.btx_strings.specs.language.Controls.{letters_of}
use Rattle.btx_names.specs.language.VonTokens.{is_lower_special, first_is_lower, is_von}
use Rattle.btx_names.specs.language.NameParts.{split_at_comma, sections_of, ends_in_comma, before_final, up_to_last, before_first}
use Rattle.btx_names.specs.laws.Commas.{commas_of, commas_in}
use Rattle.btx_names.specs.language.Formats.{part_named, piece_item, inside_item, group_item, items_from, items_of}
use Rattle.btx_names.specs.laws.FormatTexts.{text_of_items, copied_of}
use Rattle.btx_names.specs.laws.WrittenFormats.{are_items}
use Rattle.btx_names.specs.language.FormattedNames.{initial_of, between_text, with_tokens, finished, piece_text}
use Rattle.btx_names.specs.language.Answered.{names_before, nth_name, one_name_text, one_name_complaints, format_name_text, format_name_complaints}

-- an `and` inside braces separates nothing, and case says nothing
names_counted : length (names_of (codes "A and {B and C} AND D")) ≡ 3
unfolding names_of pieces_from is_separator
names_counted = refl

-- the empty string has no name
no_names : names_of [] ≡ []
unfolding names_of
no_names = refl

-- separators may share a whitespace byte, and need one on both sides
shared_white : names_of (codes "a and and b") ≡ codes "a " ∷ codes " " ∷ codes " b" ∷ []
unfolding names_of pieces_from is_separator
shared_white = refl

no_white : names_of (codes "and b") ≡ codes "and b" ∷ []
unfolding names_of pieces_from is_separator
no_white = refl

-- ---- names in formats

-- a name of some names, by its number, and a format
record Asked : Type 0 where
  names : List ℕ
  number : ℤ
  format : List ℕ

-- what is asked, with the text that it gives
record Formatted : Type 0 where
  mode : TextMode
  asked : Asked
  text : List ℕ

-- names, the number of one of them and a format, and the text that it has in it
abbrev formatted : TextMode → List ℕ → ℤ → List ℕ → List ℕ → Formatted
formatted mode names number format text = record { mode = mode; asked = record { names = names; number = number; format = format }; text = text }

abbrev formatted_names : List Formatted
formatted_names =
    formatted Bytes (codes "Charles Louis Xavier Joseph de la Vall{\\'e}e Poussin") (pos 1) (codes "{vv~}{ll}{, jj}{, f}?")
    (codes "de~la Vall{\\'e}e~Poussin, C. L. X.~J?")
    ∷ formatted Bytes (codes "Jean-Paul Sartre") (pos 1) (codes "{f.~}{ll}") (codes "J.-P. Sartre")
    ∷ formatted Bytes (codes "D. Knuth") (pos 1) (codes "{f.~}{ll}") (codes "D.~Knuth")
    ∷ formatted Bytes (codes "Smith, Jr, John") (pos 1) (codes "{ff }{vv }{ll}{, jj}") (codes "John Smith, Jr")
    -- abbreviations with nothing between pass over tokens without a letter
    ∷ formatted Bytes (codes "1 Donald 2 E. 3 Knuth") (pos 1) (codes "{f{}}") (codes "DE")
    -- the letters of a format stand in either case
    ∷ formatted Bytes (codes "Smith, Jr, John") (pos 1) (codes "{FF }{VV }{LL}{, JJ}") (codes "John Smith, Jr")
    ∷ formatted Bytes (codes "de la Smith, Jr, John") (pos 1) (codes "{F.}{V.}{L.}{J.}") (codes "J.d.~l.S.J.")
    ∷ formatted Bytes (codes "jean de la fontaine") (pos 1) (codes "{f. }{vv }{ll}") (codes "jean de~la fontaine")
    ∷ formatted Bytes (codes "{{\\'E}x} Y") (pos 1) (codes "{f.}") (codes "{\\'E}.")
    ∷ formatted Bytes (codes "A {\\'\\i}b C") (pos 1) (codes "{vv}") (codes "{\\'\\i}b")
    ∷ formatted Bytes (codes "A") (pos 2) (codes "{ll}") []
    ∷ formatted Bytes (codes "A") (pos 1) (codes "{lll}") []
    ∷ formatted Bytes (codes "Knuth, Donald,") (pos 1) (codes "{ll}") (codes "Knuth")
    ∷ formatted Bytes (codes "A") (pos 1) (codes "{...~}{~}{ll~~~}") (codes "... ~A~~")
    ∷ formatted Utf8 (codes "Cartan, " ++ 0xC3 ∷ 0x89 ∷ codes "lie") (pos 1) (codes "{f. }{ll}") (0xC3 ∷ 0x89 ∷ codes ". Cartan")
    ∷ formatted Bytes (codes "Cartan, " ++ 0xC3 ∷ 0x89 ∷ codes "lie") (pos 1) (codes "{f. }{ll}") (0xC3 ∷ codes ". Cartan")
    ∷ formatted Utf8 (0xC3 ∷ 0x89 ∷ codes "lie Cartan") (pos 1) (codes "{f. }{ll}") (codes "Cartan")
    ∷ []

formatted-worked : map (λ row. format_name_text row.mode row.asked.names row.asked.number row.asked.format) formatted_names
    ≡ map (λ row. row.text) formatted_names
unfolding kind_at group_len elements_from elements_of is_separator pieces_from names_of run_len tokens_from tokens_of letters_of is_lower_special first_is_lower
    is_von split_at_comma sections_of ends_in_comma before_final up_to_last before_first part_named piece_item inside_item group_item items_from items_of
    initial_of between_text with_tokens finished piece_text names_before nth_name one_name_text one_name_complaints sequence_size second_fits is_sequence
    begins_sequence
formatted-worked = refl

-- what is asked, with what is wrong
record Complained : Type 0 where
  asked : Asked
  wrong : Complaints

-- names, the number of one of them and a format, and what is wrong with them
abbrev complained : List ℕ → ℤ → List ℕ → Complaints → Complained
complained names number format wrong = record { asked = record { names = names; number = number; format = format }; wrong = wrong }

abbrev complained_names : List Complained
complained_names =
    complained (codes "A") (pos 2) (codes "{lll}") (record no_complaints { x10 = true })
    ∷ complained (codes "Knuth, Donald,") (pos 1) (codes "{ll}") (record no_complaints { x11 = true })
    ∷ complained (codes "a, b, c, d") (pos 1) (codes "{ll}") (record no_complaints { x12 = true })
    ∷ complained (codes "A") (pos 1) (codes "{lll}") (record no_complaints { x13 = true })
    ∷ complained (codes "a, b, c, d,") (pos 1) (codes "{ll}}") (record no_complaints { x11 = true; x12 = true; x13 = true })
    ∷ []

complained-worked : map (λ row. format_name_complaints row.asked.names row.asked.number row.asked.format) complained_names
    ≡ map (λ row. row.wrong) complained_names
unfolding kind_at group_len elements_from elements_of is_separator pieces_from names_of run_len tokens_from tokens_of letters_of is_lower_special first_is_lower
    is_von split_at_comma sections_of ends_in_comma before_final up_to_last before_first part_named piece_item inside_item group_item items_from items_of
    initial_of between_text with_tokens finished piece_text names_before nth_name one_name_text one_name_complaints
complained-worked = refl

-- a comma inside braces doesn't count, nor one that no token follows
commas_counted : commas_of (codes "a, {b, c}, d,-") ≡ 1 ∷ 9 ∷ []
commas_counted = refl

no_token_behind : commas_of (codes "a,~,") ≡ []
no_token_behind = refl

three_commas : commas_in (sections_of (codes "a, b, c, d")) ≡ 2
unfolding run_len split_at_comma sections_of
three_commas = refl

-- the items of a format, written again: the letter of a part in lower case
format_again : text_of_items (items_of (codes "{FF~}{vV{-}} by {ll, }{~}")) ≡ codes "{ff~}{vv{-}} by {ll, }{~}"
unfolding run_len part_named piece_item inside_item group_item items_from items_of
format_again = refl

-- a stray brace is no literal, and nothing that follows a brace that stays open is one
copied_bytes : copied_of (codes "{ff~}a {b}}c{d") ≡ codes "a c"
copied_bytes = refl

-- the items of a format can be written: a string between tokens, a special character before a letter, a group without one, literals
can_be_written : are_items (items_of (codes "{VV~}{ll}{, jj}{, {\\bf x}f{-}.} and {~{x}}!")) ≡ true
unfolding run_len part_named piece_item inside_item group_item items_from items_of are_items
can_be_written = refl

-- a letter stands for its part in either case, both where it stands twice
either_case : items_of (codes "{VV~}{Ll}{, J}{, F.}") ≡ items_of (codes "{vv~}{ll}{, j}{, f.}")
unfolding run_len part_named piece_item inside_item group_item items_from items_of
either_case = refl
