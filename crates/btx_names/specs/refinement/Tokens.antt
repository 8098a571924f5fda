-- The token that a text begins with, as proofs name it.
use Rattle.std.specs.Prelude.{ℕ, List, take, drop}
use Rattle.btx_names.specs.declared.runs.Stop.TheVariants.{Break}
use Rattle.btx_names.specs.language.Runs.{run_len}
use Rattle.btx_names.specs.language.Tokens.{NameToken, joint_of}

-- the token that a text begins with
abbrev pub token_at : List ℕ → NameToken
token_at text = let size = run_len Break 0 text in record { text = take size text; joint = joint_of (drop size text) }
