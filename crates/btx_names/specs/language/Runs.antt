-- Runs of bytes: the longest prefixes of a text in which no byte of some kind stands at depth 0.
use Rattle.std.specs.Prelude.{ℕ, suc, ◌==◌, ◌||◌, ◌&&◌, Bool, List, [], ◌∷◌, if◌then◌else◌}
use Rattle.std.specs.Str.{byte}
use Rattle.btx_text.specs.language.Class.{is_white, is_alpha, is_sep}
use Rattle.btx_text.specs.language.Elements.{depth_after}
use Rattle.btx_names.specs.declared.runs.Stop.{Stop}
use Rattle.btx_names.specs.declared.runs.Stop.TheVariants.{Break, Comma, Letter, Closing, Brace}

-- a byte that stands between tokens where it is at depth 0: whitespace, `~`, `-` or a comma
abbrev pub is_break : ℕ → Bool
is_break b = is_white b || is_sep b || b == byte ","

-- byte `b` ends a run of this kind, where it is at depth 0
abbrev pub stops : Stop → ℕ → Bool
stops Break b = is_break b
stops Comma b = b == byte ","
stops Letter b = is_alpha b
stops Closing b = b == byte "}"
stops Brace b = b == byte "{" || b == byte "}"

-- the number of bytes before the first byte at depth 0 that ends a run of this kind, from brace depth `depth` on; all bytes if there is none
unfoldable pub run_len : Stop → ℕ → List ℕ → ℕ
run_len stop depth [] = 0
run_len stop depth (b ∷ bs) = if depth == 0 && stops stop b then 0 else suc (run_len stop (depth_after depth b) bs)
