-- The tokens of a name (btxhak, section 5.4): its longest runs without whitespace, `~`, `-` and commas at depth 0.
use Rattle.std.specs.Prelude.{ℕ, zero, suc, ◌-◌, ◌==◌, List, [], ◌∷◌, take, drop, slice_index, if◌then◌else◌}
use Rattle.std.specs.Str.{byte}
use Rattle.btx_names.specs.declared.name_tokens.TokenSeparator.{TokenSeparator}
use Rattle.btx_names.specs.declared.name_tokens.TokenSeparator.TheVariants.{Space, Tie, Hyphen}
use Rattle.btx_names.specs.declared.runs.Stop.TheVariants.{Break}
use Rattle.btx_names.specs.language.Runs.{is_break, run_len}

-- a token, and how it is joined to the next: by the byte directly after it
pub record NameToken : Type 0 where
  pub text : List ℕ
  pub joint : TokenSeparator

-- what joins a token to the next one, if `after` is the text directly after the token
abbrev pub joint_of : List ℕ → TokenSeparator
joint_of after = if slice_index after 0 == byte "~" then Tie else if slice_index after 0 == byte "-" then Hyphen else Space

-- the tokens that begin in a text, whose first `skip` bytes belong to one before
unfoldable pub tokens_from : ℕ → List ℕ → List NameToken
tokens_from skip [] = []
tokens_from (suc skip) (b ∷ bs) = tokens_from skip bs
tokens_from zero (b ∷ bs) =
    if is_break b then tokens_from zero bs
    else
    (let size = run_len Break 0 (b ∷ bs) in
    record { text = take size (b ∷ bs); joint = joint_of (drop size (b ∷ bs)) } ∷ tokens_from (size - 1) bs)

-- the tokens of a text, in order: its longest runs without whitespace, `~`, `-` and commas at depth 0
unfoldable pub tokens_of : List ℕ → List NameToken
tokens_of text = tokens_from 0 text
