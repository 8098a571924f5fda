-- The notes of a run as texts, a line each.
use Rattle.std.specs.Prelude.{ℕ, zero, suc, ◌+◌, ◌-◌, ◌^◌, ◌==◌, ◌||◌, ◌&&◌, nat_lt, if◌then◌else◌, Bool, List, [], ◌∷◌, ◌++◌, Option, None, Some, length}
use Rattle.std.specs.Prelude.{map, take, drop, slice_get, codes, decimal}
use Rattle.std.specs.List.{flat_map}
use Rattle.std.specs.Option.{option_map_or}
use Rattle.std.specs.Str.{bytes_eq}
use Rattle.btx_bib.specs.language.Library.{key_of}
use Rattle.btx_bst.specs.declared.callee.Callee.{Callee}
use Rattle.btx_bst.specs.declared.callee.Callee.TheVariants.{User}
use Rattle.btx_bst.specs.declared.token.Token.{Token}
use Rattle.btx_bst.specs.declared.token.Token.TheVariants.{Run}
use Rattle.btx_bst.specs.language.Items.{Item}
use Rattle.btx_bst.specs.language.Items as item
use Rattle.btx_bst.specs.language.Names.{name_of}
use Rattle.btx_bst.specs.language.Style.{Style}
use Rattle.btx_stack.specs.declared.literal.Literal.{Literal}
use Rattle.btx_step.specs.declared.said.Note.TheVariants as note
use Rattle.btx_step.specs.language.Entries.{entry_of}
use Rattle.btx_step.specs.language.Jobs.{Job}
use Rattle.btx_step.specs.language.Notes.{note_line}
use Rattle.btx_where.specs.declared.course.Word.{Word}
use Rattle.btx_where.specs.declared.course.Word.TheVariants as kind
use Rattle.btx_where.specs.declared.place.Place.{Place}
use Rattle.btx_where.specs.declared.scene.Level.{Level}
use Rattle.btx_where.specs.declared.scene.Level.TheVariants as level
use Rattle.btx_where.specs.declared.scene.StoppedState.{StoppedState}

-- ---- a text

-- a byte as a note shows it: a control byte as a question mark
abbrev pub printed : ℕ → ℕ
printed byte = if nat_lt byte 32 || byte == 127 then 63 else byte

-- the first 200 bytes of a text, and the end of the line
unfoldable pub shown : List ℕ → List ℕ
shown text = map printed (take 200 text) ++ codes "\n"

-- ---- a token

-- the name of a function by its number, in lower case; `{}` for a nameless one, and past all numbers of functions
unfoldable pub function_name : Style → ℕ → List ℕ
function_name style function = if nat_lt function (2 ^ 32) then name_of style.names (User function) else codes "{}"

-- the first function that has a name among these `left` ones from `number` on; `otherwise` if none has
abbrev pub first_named : Style → ℕ → ℕ → ℕ → ℕ
first_named style otherwise zero number = otherwise
first_named style otherwise (suc left) number =
    if bytes_eq (function_name style number) (codes "{}") then first_named style otherwise left (number + 1) else number

-- the named function in whose command a function stands: itself, or the next one that has a name
unfoldable pub owner_of : Style → ℕ → ℕ
owner_of style function = first_named style function (length style.bodies - function) function

-- a token after a word: whether it stands in a function with a name or in one in braces, its line, the numbers of its function and of the token, and the
-- name of the function, or of the one round it. `line_of` gives the lines of tokens
unfoldable pub place_note : Style → (Place → ℕ) → List ℕ → Place → List ℕ
place_note style line_of word place =
    word ++ (if owner_of style place.function == place.function then codes " in " else codes " of ") ++ decimal (line_of place) ++ codes " "
    ++ decimal place.function ++ codes " " ++ decimal place.token ++ codes " " ++ shown (function_name style (owner_of style place.function))

-- ---- the callers

-- the number of callers that are left out, if there are any
abbrev pub left_out_note : ℕ → List ℕ
left_out_note zero = []
left_out_note (suc n) = codes "more " ++ decimal (suc n) ++ codes "\n"

-- callers far away: of all but the outermost how many they are, and then the outermost
unfoldable pub far_note : Style → (Place → ℕ) → List Place → List ℕ
far_note style line_of callers =
    option_map_or (λ outermost. left_out_note (length callers - 1) ++ place_note style line_of (codes "from") outermost)
    (slice_get callers (length callers - 1)) []

-- who called, the innermost first: 64 of them, and what is far away
unfoldable pub callers_note : Style → (Place → ℕ) → List Place → List ℕ
callers_note style line_of callers = flat_map (place_note style line_of (codes "from")) (take 64 callers) ++ far_note style line_of (drop 64 callers)

-- the tokens at which bodies stand
abbrev pub places_of : List Level → List Place
places_of [] = []
places_of (level.Body place ∷ levels) = place ∷ places_of levels
places_of (level.LoopTest test body ∷ levels) = places_of levels
places_of (level.LoopBody test body ∷ levels) = places_of levels

-- two places are one
abbrev pub is_same : Place → Place → Bool
is_same a b = (a.function == b.function) && (a.token == b.token)

-- the places round one of them
abbrev pub places_round : Place → List Place → List Place
places_round at [] = []
places_round at (place ∷ places) = if is_same place at then places else places_round at places

-- the tokens that called, the innermost first: those round the one where the run stands; all, if no such token is known
abbrev pub callers_of : Option Place → List Place → List Place
callers_of None places = places
callers_of (Some at) places = places_round at places

-- ---- a scene

abbrev pub entry_note : Job → Option ℕ → List ℕ
entry_note job None = []
entry_note job (Some entry) = codes "entry " ++ shown (key_of (entry_of job entry))

-- what is run next: nothing for a literal
abbrev pub next_note : Style → Token → List ℕ
next_note style (Run function) = codes "next " ++ shown (name_of style.names function)
next_note style _ = []

-- the token where the run stands, if it is known
abbrev pub at_note : Style → (Place → ℕ) → Option Place → List ℕ
at_note style line_of None = []
at_note style line_of (Some place) = place_note style line_of (codes "at") place

-- a literal, as a log shows it
unfoldable pub literal_note : Style → Literal → List ℕ
literal_note style literal =
    let line = note_line style [] None (note.Shown literal) in
    codes "literal " ++ decimal (length line.text) ++ codes " " ++ shown line.text

-- how many literals there are, and those on top
unfoldable pub literals_note : Style → ℕ → List Literal → List ℕ
literals_note style depth literals = codes "depth " ++ decimal depth ++ codes "\n" ++ flat_map (literal_note style) literals

-- a scene of a run of `job`, whose style is `style`: the current entry, what comes next, the token where the run stands, who called the function in which that
-- stands, and the literals on top
unfoldable pub scene_note : Style → Job → (Place → ℕ) → Option Place → StoppedState → List ℕ
scene_note style job line_of at scene =
    entry_note job scene.entry ++ next_note style scene.next ++ at_note style line_of at ++ callers_note style line_of
    (callers_of at (places_of scene.levels.items))
    ++ literals_note style scene.depth scene.literals.items

-- where a run stands, as it is noted for an event of this word: at the token of its innermost body; for the test of a loop, at the one that is said to have
-- begun it
abbrev pub noted_at : Word → Option Place → List Level → Option Place
noted_at kind.Test began levels = began
noted_at _ began levels = slice_get (places_of levels) 0

-- a scene that was found for an event of this word; nothing, if none was found
abbrev pub found_note : Style → Job → (Place → ℕ) → Word → Option Place → Option StoppedState → List ℕ
found_note style job line_of event began None = []
found_note style job line_of event began (Some scene) = scene_note style job line_of (noted_at event began scene.levels.items) scene

-- since which token a literal has been there, if that is known
abbrev pub since_note : Style → (Place → ℕ) → Option Place → List ℕ
since_note style line_of None = codes "since\n"
since_note style line_of (Some place) = place_note style line_of (codes "since") place

-- ---- an event

-- the word of an event
abbrev pub word_text : Word → List ℕ
word_text kind.Step = codes "step"
word_text kind.Test = codes "test"
word_text kind.Left = codes "left"
word_text kind.Stop = codes "stop"
word_text kind.Limit = codes "limit"

-- what logged, its step, and the numbers in the log of its first error and of the one after its last
unfoldable pub event_note : List ℕ → ℕ → ℕ → ℕ → List ℕ
event_note word steps errors behind =
    codes "event " ++ word ++ codes " " ++ decimal steps ++ codes " " ++ decimal errors ++ codes " " ++ decimal behind ++ codes "\n"

-- a command by its word, the line of its item, and its function
abbrev pub command_note : Style → ℕ → List ℕ → Callee → List ℕ
command_note style line word function = word ++ decimal line ++ codes " " ++ shown (name_of style.names function)

-- the command of an item, its line and its function; nothing for what isn't one
abbrev pub item_note : Style → ℕ → Option Item → List ℕ
item_note style line (Some (item.Execute function)) = command_note style line (codes "item EXECUTE ") function
item_note style line (Some (item.Iterate function)) = command_note style line (codes "item ITERATE ") function
item_note style line (Some (item.Reverse function)) = command_note style line (codes "item REVERSE ") function
item_note style line _ = []
