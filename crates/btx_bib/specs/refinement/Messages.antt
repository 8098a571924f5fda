-- The messages of an event, as proofs name them.
use Rattle.std.specs.Prelude.{List, [], if◌then◌else◌, ℕ, ◌∷◌, Option, Bool, false, is_none}
use Rattle.btx_bib.specs.declared.message.Message.{Message}
use Rattle.btx_bib.specs.language.Grammar.Items.{Placed}
use Rattle.btx_bib.specs.language.Request.{Request}
use Rattle.btx_bib.specs.language.Known.{Known, goes_on}
use Rattle.btx_bib.specs.language.Messages.{Database, event_messages}
use Rattle.btx_bib.specs.declared.message.Message.TheVariants as message
use Rattle.btx_bib.specs.declared.message.SourcePosition.{SourcePosition}
use Rattle.btx_aux.specs.language.Names.{is_same_key}
use Rattle.std.specs.Option.{option_map_or}

-- the warning that the style has no function for the type of the entry with this key, if it has none
abbrev pub type_messages : List ℕ → Option ℕ → SourcePosition → List Message
type_messages key kind spot = if is_none kind then message.UnknownKind key spot ∷ [] else []

-- the name is that of the string that is being defined
abbrev pub is_own : Option (List ℕ) → List ℕ → Bool
is_own own name = option_map_or (λ (defined : List ℕ). is_same_key defined name) own false

-- the messages of an event that was read; once a limit was met there are none
abbrev pub messages_at : Request → Database → Known → Placed → List Message
messages_at wanted database known placed = if goes_on known.ending then event_messages wanted database known placed.event placed.rest else []
