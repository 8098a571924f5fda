-- The length of a string in characters of text, and its prefixes (btxhak, section 5.3, at `text.length$` and `text.prefix$`).
use Rattle.std.specs.Prelude.{ℕ, zero, suc, ℤ, pos, negsuc, List, [], ◌∷◌, ◌++◌, count_by, replicate, if◌then◌else◌}
use Rattle.std.specs.Str.{byte}
use Rattle.std.specs.List.{flat_map}
use Rattle.btx_text.specs.declared.element_kind.TextMode.{TextMode}
use Rattle.btx_text.specs.language.Elements.{Element, is_character, elements_of, depth_of}

-- `text.length$`: how many characters of text a string has, at any depth; a special character is one, a brace by itself none
abbrev pub text_length_of : TextMode → List ℕ → ℕ
text_length_of mode string = count_by (λ part. is_character part.kind) (elements_of mode string)

-- the shortest prefix of the elements with `n` characters of text, or all elements if there are fewer
unfoldable pub take_characters : ℕ → List Element → List Element
take_characters n [] = []
take_characters zero (part ∷ parts) = []
take_characters (suc n) (part ∷ parts) = part ∷ take_characters (if is_character part.kind then n else suc n) parts

-- the number of characters that `text.prefix$` is asked for; 0 if it is negative
abbrev pub wanted_length : ℤ → ℕ
wanted_length (pos n) = n
wanted_length (negsuc n) = 0

-- `text.prefix$`: the shortest prefix of whole elements that has `count` characters of text, with a `}` for each brace that it leaves open
abbrev pub text_prefix_of : TextMode → List ℕ → ℤ → List ℕ
text_prefix_of mode string count =
    let front = flat_map (λ (part : Element). part.text) (take_characters (wanted_length count) (elements_of mode string)) in
    front ++ replicate (depth_of front) (byte "}")
