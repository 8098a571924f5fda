-- The parts of a name (btxhak, section 5.4). Commas say which of three forms it has: First von Last; von Last, First; von Last, Jr, First.
use Rattle.std.specs.Prelude.{ℕ, suc, ◌+◌, ◌-◌, ◌==◌, ◌&&◌, ◌||◌, Bool, true, false, not, List, [], ◌∷◌, Option, Some, None, take, drop, find, reverse, nat_lt}
use Rattle.std.specs.Prelude.{if◌then◌else◌}
use Rattle.std.specs.List.{list_all}
use Rattle.std.specs.Option.{option_map_or, is_some}
use Rattle.std.specs.Str.{byte}
use Rattle.btx_text.specs.language.Class.{is_white, is_sep}
use Rattle.btx_text.specs.language.Elements.{depth_of}
use Rattle.btx_names.specs.declared.name_tokens.TokenSeparator.{TokenSeparator}
use Rattle.btx_names.specs.declared.name_tokens.TokenSeparator.TheVariants.{Hyphen}
use Rattle.btx_names.specs.declared.runs.Stop.TheVariants.{Comma}
use Rattle.btx_names.specs.language.Runs.{is_break, run_len}
use Rattle.btx_names.specs.language.Tokens.{NameToken, tokens_of}
use Rattle.btx_names.specs.language.VonTokens.{is_von}

-- ---- commas

-- the texts before and after the first comma at depth 0, if a token follows it. A comma that only whitespace, `~`, `-` and commas follow says nothing
unfoldable pub split_at_comma : List ℕ → Option (List ℕ × List ℕ)
split_at_comma text =
    let size = run_len Comma 0 text in
    let after = drop (size + 1) text in
    if list_all is_break after then None else Some (take size text, after)

-- a name, cut at its first two commas that a token follows; further commas count as whitespace
pub data Sections : Type 0 where
  One : List ℕ → Sections
  Two : List ℕ → List ℕ → Sections
  Three : List ℕ → List ℕ → List ℕ → Sections

-- the sections of a name whose first section is `one`, given the cut of what follows its comma, `rest`, if that has a comma
abbrev pub cut_again : List ℕ → List ℕ → Option (List ℕ × List ℕ) → Sections
cut_again one rest None = Two one rest
cut_again one rest (Some cut) = Three one cut.0 cut.1

-- the sections of a name, given its first cut at a comma, if there is one
abbrev pub cut_first : List ℕ → Option (List ℕ × List ℕ) → Sections
cut_first name None = One name
cut_first name (Some cut) = cut_again cut.0 cut.1 (split_at_comma cut.1)

-- the sections of a name: what stands between its first two commas that a token follows
unfoldable pub sections_of : List ℕ → Sections
sections_of name = cut_first name (split_at_comma name)

-- the name's last byte that is neither whitespace nor `~` nor `-` is a comma, at depth 0
unfoldable pub ends_in_comma : List ℕ → Bool
ends_in_comma name =
    option_map_or (λ b. b == byte ",") (find (λ b. not (is_white b || is_sep b)) (reverse name)) false && depth_of name == 0

-- a name has a third comma that a token follows
abbrev pub has_third_comma : Sections → Bool
has_third_comma (Three one two three) = is_some (split_at_comma three)
has_third_comma _ = false

-- ---- places in a list of tokens

-- the tokens of a list but for the final one
unfoldable pub before_final : List NameToken → List NameToken
before_final [] = []
before_final (token ∷ []) = []
before_final (token ∷ next ∷ tokens) = token ∷ before_final (next ∷ tokens)

-- the number of tokens up to and including the last one that passes the test; 0 if none does
unfoldable pub up_to_last : (NameToken → Bool) → List NameToken → ℕ
up_to_last passes [] = 0
up_to_last passes (token ∷ tokens) =
    if nat_lt 0 (up_to_last passes tokens) then suc (up_to_last passes tokens) else if passes token then 1 else 0

-- the number of tokens before the first one that passes the test; all if none does
unfoldable pub before_first : (NameToken → Bool) → List NameToken → ℕ
before_first passes [] = 0
before_first passes (token ∷ tokens) = if passes token then 0 else suc (before_first passes tokens)

-- the token is joined to the next one by a `-`
abbrev pub is_hyphen : TokenSeparator → Bool
is_hyphen Hyphen = true
is_hyphen _ = false

-- how many tokens there are up to the last von token before the final one: the final token is never von
abbrev pub von_end : List NameToken → ℕ
von_end tokens = up_to_last (λ (token : NameToken). is_von token.text) (before_final tokens)

-- the index of the first token of Last in a name without commas: the one after von; without von the final token, or the first of those that `-`
-- joins to it
abbrev pub last_start : List NameToken → ℕ
last_start tokens =
    if nat_lt 0 (von_end tokens) then von_end tokens
    else up_to_last (λ (token : NameToken). not (is_hyphen token.joint))
    (before_final tokens)

-- ---- the parts

-- the four parts of a name, each a range of its tokens
pub record NameParts : Type 0 where
  pub first : List NameToken
  pub von : List NameToken
  pub last : List NameToken
  pub jr : List NameToken

-- the parts of a name without commas, First von Last, given its tokens. First ends before `von_start`: that is the index of the first von token, or,
-- where there is no von, of the first token of Last
abbrev pub unsplit : List NameToken → NameParts
unsplit tokens =
    let von_start =
    if nat_lt 0 (von_end tokens) then
    before_first (λ (token : NameToken). is_von token.text) tokens
    else last_start tokens in
    record {
      first = take von_start tokens;
      von = take (last_start tokens - von_start) (drop von_start tokens);
      last = drop (last_start tokens) tokens;
      jr = [];
    }

-- the parts of a name with commas, given the tokens of its sections: von and Last stand in the first section
abbrev pub parted : List NameToken → List NameToken → List NameToken → NameParts
parted surname jr first = record { first = first; von = take (von_end surname) surname; last = drop (von_end surname) surname; jr = jr }

-- the parts of a name by its sections: none, one or two commas say in which of them each part stands
abbrev pub parts_by : Sections → NameParts
parts_by (One name) = unsplit (tokens_of name)
parts_by (Two surname first) = parted (tokens_of surname) [] (tokens_of first)
parts_by (Three surname jr first) = parted (tokens_of surname) (tokens_of jr) (tokens_of first)
