-- What clauses see of a part of a name in the code.
use Rattle.std.specs.Prelude.{List}
use Rattle.btx_names.specs.language.Tokens.{NameToken}
use Rattle.btx_names.specs.refinement.NameTokens.{tokens_in}
use Rattle.btx_names.specs.declared.part.Part.{Part}

-- the tokens of a part
abbrev pub part_tokens : Part → List NameToken
part_tokens part = tokens_in part.bytes.now part.tokens.now
