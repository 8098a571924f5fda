-- With the divisions that the definitions compute, the functions on strings of the relation are those of the string functions' definitions.
use Rattle.std.proofs.Common.{◌≡◌, ℕ, ℤ, zero, suc, ◌==◌, ◌&&◌, Bool, true, false, List, [], ◌∷◌, ◌++◌, length, None, Some, if◌then◌else◌, unwrap_or, sym, ap}
use Rattle.std.proofs.Common.{◌∙◌, refl, arith, true≢false}
use Rattle.std.proofs.lemmas.Bool.{eqb-true, eq-eqb}
use Rattle.std.specs.List.{flat_map}
use Rattle.std.specs.Option.{option_map_or}
use Rattle.btx_text.specs.declared.element_kind.TextMode.{TextMode}
use Rattle.btx_text.specs.declared.element_kind.TextMode.TheVariants.{Bytes}
use Rattle.btx_text.specs.language.Elements.{Element, elements_of}
use Rattle.btx_strings.specs.declared.conversions.Conversion.{Conversion}
use Rattle.btx_strings.specs.language.Case.{begins_title, cased_parts, is_title}
use Rattle.btx_strings.specs.language.Controls.{glyphs_of}
use Rattle.btx_strings.specs.language.Lengths.{text_length_of, text_prefix_of}
use Rattle.btx_strings.specs.language.Purify.{purify_of}
use Rattle.btx_strings.specs.language.Width.{width_of}
use Rattle.btx_names.specs.declared.name_tokens.TokenSeparator.{TokenSeparator}
use Rattle.btx_names.specs.declared.name_tokens.TokenSeparator.TheVariants.{Space, Tie, Hyphen}
use Rattle.btx_names.specs.language.Answered.{nth_name, one_name_text, format_name_text}
use Rattle.btx_names.specs.language.Formats.{FormatItem, FormatPiece, Literal, Plain, Name, Illegal, is_legal, items_of}
use Rattle.btx_names.specs.language.FormattedNames.{between_text, ends_in_tie, finished, initial_of, item_text, piece_text, tie_of, tokens_of_part, with_tokens}
use Rattle.btx_names.specs.language.FormattedNames.{begins_initial, first_text, period_of}
use Rattle.btx_names.specs.language.NameLists.{names_of}
use Rattle.btx_names.specs.language.NameParts.{NameParts, parts_by, sections_of, split_at_comma}
use Rattle.btx_names.specs.language.Tokens.{NameToken, tokens_of}
use Rattle.btx_core.specs.language.Divisions.{Divisions}
use Rattle.btx_core.specs.language.Strings as strings
use Rattle.btx_core.specs.language.Names as names

abbrev pub computed : Divisions
computed = record {
  elements = elements_of;
  glyphs = glyphs_of;
  names = names_of;
  tokens = tokens_of;
  cut = split_at_comma;
  parts = λ name. parts_by (sections_of name);
  items = λ format. if is_legal format then Some (items_of format) else None;
}

pub text_length_same : (mode : TextMode) (string : List ℕ) → strings.text_length computed mode string ≡ text_length_of mode string
text_length_same mode string = refl

pub text_prefix_same : (mode : TextMode) (string : List ℕ) (count : ℤ) → strings.text_prefix computed mode string count ≡ text_prefix_of mode string count
text_prefix_same mode string count = refl

pub purified_same : (string : List ℕ) → strings.purified computed string ≡ purify_of string
purified_same string = refl

pub width_same : (string : List ℕ) → strings.width computed string ≡ width_of string
width_same string = refl

all_cased_same : (to : Conversion) (parts before : List Element) → strings.all_cased computed to before parts ≡ cased_parts to before parts
unfolding cased_parts
all_cased_same to [] before = refl
all_cased_same to (part ∷ parts) before =
    ap (λ more. (if is_title to && begins_title before then part.text else strings.cased computed to part.kind part.depth part.text) ++ more)
    (all_cased_same to parts (part ∷ before))

pub in_case_same : (to : Conversion) (string : List ℕ) → strings.in_case computed to string ≡ cased_parts to [] (elements_of Bytes string)
in_case_same to string = all_cased_same to (elements_of Bytes string) []

initial_same : (mode : TextMode) (text : List ℕ) → names.initial computed mode text ≡ initial_of mode text
unfolding initial_of
initial_same mode [] = refl
initial_same mode (b ∷ bs) = ap (λ more. if begins_initial (b ∷ bs) then first_text (elements_of mode (b ∷ bs)) else more) (initial_same mode bs)

ended_by : (mode : TextMode) (text : List ℕ) (t : Bool) → ends_in_tie text ≡ t → names.with_final_tie_resolved computed mode text ≡ finished mode text
unfolding finished
ended_by mode text true e = rw e refl
ended_by mode text false e = rw e refl

ended_same : (mode : TextMode) (text : List ℕ) → names.with_final_tie_resolved computed mode text ≡ finished mode text
ended_same mode text = ended_by mode text (ends_in_tie text) refl

tie_same : (mode : TextMode) (so_far : List ℕ) (joint : TokenSeparator) (is_last : Bool) → names.separator_between computed mode so_far joint is_last
    ≡ tie_of mode so_far joint is_last
tie_same mode so_far Tie is_last = refl
tie_same mode so_far Hyphen is_last = refl
tie_same mode so_far Space is_last = refl

last_is : (left : ℕ) → (left == 0) ≡ (suc left == 1)
last_is left = by (left == 0) (suc left == 1) refl refl where
  by : (t u : Bool) → (left == 0) ≡ t → (suc left == 1) ≡ u → (left == 0) ≡ (suc left == 1)
  by true true h k = h ∙ sym k
  by false false h k = h ∙ sym k
  by true false h k = let z : suc left ≡ 1 = ap suc (eqb-true left 0 h) in absurd (true≢false (sym (eq-eqb (suc left) 1 z) ∙ k))
  by false true h k = let z : left ≡ 0 = let y = eqb-true (suc left) 1 k in omega (arith, y) in absurd (true≢false (sym (eq-eqb left 0 z) ∙ h))

not_zero : (left : ℕ) → (suc left == 0) ≡ false
not_zero left = by (suc left == 0) refl where
  by : (t : Bool) → (suc left == 0) ≡ t → (suc left == 0) ≡ false
  by true h = let z = eqb-true (suc left) 0 h in absurd (omega (arith, z))
  by false h = h

behind_same : (mode : TextMode) (piece : FormatPiece) (so_far : List ℕ) (joint : TokenSeparator) (left : ℕ) → names.behind_token computed mode piece so_far joint left
    ≡ between_text mode piece so_far joint left
unfolding between_text
behind_same mode piece so_far joint zero = refl
behind_same mode piece so_far joint (suc left) =
    let t = so_far ++ period_of piece.is_full in
    let zero_ : (suc left == 0) ≡ false = not_zero left in
    ap (λ x. unwrap_or piece.between (period_of piece.is_full ++ x ∷ [])) (tie_same mode t joint (left == 0) ∙ ap (tie_of mode t joint) (last_is left))
    ∙ ap (λ (z : Bool). if z then [] else unwrap_or piece.between (period_of piece.is_full ++ tie_of mode t joint (suc left == 1) ∷ [])) (sym zero_)

tokens_same : (mode : TextMode) (piece : FormatPiece) (tokens : List NameToken) (so_far : List ℕ) → names.and_tokens computed mode piece so_far tokens
    ≡ with_tokens mode piece so_far tokens
unfolding with_tokens
tokens_same mode piece [] so_far = refl
tokens_same mode piece (token ∷ tokens) so_far =
    ap (λ i. names.and_tokens computed mode piece
    ((so_far ++ (if piece.is_full then token.text else i)) ++ names.behind_token computed mode piece (so_far ++ (if piece.is_full then token.text else i))
    token.joint (length tokens)) tokens)
    (initial_same mode token.text)
    ∙ ap (λ x. names.and_tokens computed mode piece ((so_far ++ (if piece.is_full then token.text else initial_of mode token.text)) ++ x) tokens)
    (behind_same mode piece (so_far ++ (if piece.is_full then token.text else initial_of mode token.text)) token.joint (length tokens))
    ∙ tokens_same mode piece tokens _

piece_same : (mode : TextMode) (form : FormatPiece) (tokens : List NameToken) → names.piece computed mode form tokens ≡ piece_text mode form tokens
unfolding piece_text
piece_same mode form [] = refl
piece_same mode form (token ∷ tokens) =
    ended_same mode _ ∙ ap (λ t. finished mode (t ++ form.after)) (tokens_same mode form (token ∷ tokens) form.before)

item_same : (mode : TextMode) (parts : NameParts) (x : FormatItem) → names.item computed mode parts x ≡ item_text mode parts x
item_same mode parts (Literal text) = refl
item_same mode parts (Plain text) = ended_same mode text
item_same mode parts (Name form) = piece_same mode form (tokens_of_part form.part parts)
item_same mode parts Illegal = refl

format_same : (mode : TextMode) (name format : List ℕ) (t : Bool) → is_legal format ≡ t
    → option_map_or (flat_map (names.item computed mode (parts_by (sections_of name)))) (if t then Some (items_of format) else None) []
    ≡ one_name_text mode name format
unfolding one_name_text
format_same mode name format true e = ap (λ (f : FormatItem → List ℕ). flat_map f (items_of format)) (λ i x. item_same mode (parts_by (sections_of name)) x i)
    ∙ rw e refl
format_same mode name format false e = rw e refl

pub formatted_same : (mode : TextMode) (format : List ℕ) (number : ℤ) (string : List ℕ) → names.formatted_name computed mode format number string
    ≡ format_name_text mode string number format
unfolding nth_name
formatted_same mode format number string =
    ap (λ (f : List ℕ → List ℕ). option_map_or f (nth_name string number) []) (λ i name. format_same mode name format (is_legal format) refl i)
