-- How a format is written (btxhak, section 5.4): which items it can be made of, and their texts, with a part's letter in either case.
use Rattle.std.specs.Prelude.{◌≡◌, ℕ, ◌==◌, ◌&&◌, Bool, true, false, not, List, [], ◌∷◌, ◌++◌, Option, Some, None, length, nat_lt, slice_index}
use Rattle.std.specs.List.{list_all}
use Rattle.btx_text.specs.language.Elements.{depth_of}
use Rattle.btx_names.specs.declared.runs.Stop.TheVariants.{Closing}
use Rattle.btx_names.specs.language.Runs.{run_len}
use Rattle.btx_names.specs.language.Formats.{FormatPiece, FormatItem, Literal, Plain, Name, Illegal}
use Rattle.btx_names.specs.laws.FormatTexts.{in_braces, is_brace, in_lower_case, letters_of_part, text_of_between}
use Rattle.btx_names.specs.laws.Formats.{has_no_letter}
use Rattle.btx_text.specs.laws.Bytes.{open_brace}

-- ---- the items

-- a text closes each brace that it opens, and no other
abbrev pub is_balanced : List ℕ → Bool
is_balanced text = run_len Closing 0 text == length text && depth_of text == 0

-- a text that may stand before or after a part's letter: a letter may stand only inside its braces
abbrev pub is_outer : List ℕ → Bool
is_outer text = is_balanced text && has_no_letter text

-- a string between tokens is balanced; without one, what follows the letter begins with no brace
abbrev pub can_be_between : Option (List ℕ) → List ℕ → Bool
can_be_between None after = not (slice_index after 0 == open_brace)
can_be_between (Some text) after = is_balanced text

-- a piece with a part that can be written
abbrev pub is_piece : FormatPiece → Bool
is_piece piece = is_outer piece.before && (can_be_between piece.between piece.after && is_outer piece.after)

-- an item that can be written: a literal is bytes other than braces
abbrev pub is_item : FormatItem → Bool
is_item (Literal text) = nat_lt 0 (length text) && list_all (λ b. not (is_brace b)) text
is_item (Plain text) = is_outer text
is_item (Name piece) = is_piece piece
is_item Illegal = false

-- some items begin with a literal
abbrev pub begin_literal : List FormatItem → Bool
begin_literal (Literal text ∷ items) = true
begin_literal _ = false

-- items that can be written one after another: no literal stands directly after another, since both would be one
unfoldable pub are_items : List FormatItem → Bool
are_items [] = true
are_items (item ∷ items) = is_item item && (not (begin_literal (item ∷ []) && begin_literal items) && are_items items)

-- ---- their texts

-- a text is an item as a format may write it, the letter of a part in either case, both where it stands twice
abbrev pub IsTextOf : FormatItem → List ℕ → Type 0
IsTextOf (Literal text) written = written ≡ text
IsTextOf (Plain text) written = written ≡ in_braces text
IsTextOf (Name piece) written =
    (letters : List ℕ) × (in_lower_case letters ≡ letters_of_part piece.part piece.is_full)
    × (written ≡ in_braces (piece.before ++ letters ++ text_of_between piece.between ++ piece.after))
IsTextOf Illegal written = ⊥

-- a format is items, written one after another
unfoldable pub IsFormatOf : List FormatItem → List ℕ → Type 0
IsFormatOf [] format = format ≡ []
IsFormatOf (item ∷ items) format = (text rest : List ℕ) × IsTextOf item text × IsFormatOf items rest × (format ≡ text ++ rest)
