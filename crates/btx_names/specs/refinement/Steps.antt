-- What steps of the code answer: no promise of this crate needs these words.
use Rattle.std.specs.Prelude.{ℕ, suc, ◌==◌, ◌&&◌, Bool, false, List, [], ◌∷◌, if◌then◌else◌}
use Rattle.btx_text.specs.language.Elements.{depth_after}
use Rattle.btx_names.specs.declared.runs.Stop.{Stop}
use Rattle.btx_names.specs.declared.runs.Stop.TheVariants.{Letter}
use Rattle.btx_names.specs.declared.token_counts.TokenTest.{TokenTest}
use Rattle.btx_names.specs.declared.token_counts.TokenTest.TheVariants.{Von, Apart}
use Rattle.btx_names.specs.language.NameLists.{is_separator}
use Rattle.btx_names.specs.language.Tokens.{NameToken}
use Rattle.std.specs.Int.{is_in_range}
use Rattle.btx_names.specs.refinement.NameParts.{is_von_token, is_apart}

-- how long the first piece of a text is
unfoldable pub first_name_len : ℕ → List ℕ → ℕ
first_name_len depth [] = 0
first_name_len depth (b ∷ bs) = if depth == 0 && is_separator (b ∷ bs) then 1 else suc (first_name_len (depth_after depth b) bs)

-- a byte from `.` to `z`, in a run that ends at no letter: the run does not end at it, and it is no brace
abbrev pub is_passed : Stop → ℕ → Bool
is_passed Letter b = false
is_passed _ b = is_in_range 46 122 b

-- what is asked of a token: that it is von, or that no `-` joins it to the next
abbrev pub passes : TokenTest → NameToken → Bool
passes Von token = is_von_token token
passes Apart token = is_apart token
