-- The reading of a database: the one list of what stands in it and of what is wrong.
use Rattle.std.specs.Prelude.{◌≡◌, ℕ, ◌==◌, true, false, List, [], ◌∷◌, ◌++◌, ◌⊎◌, Option, Some, None, Result, Ok, Err}
use Rattle.btx_bib.specs.declared.grammar.byte_sets.Delimiter.{Delimiter}
use Rattle.btx_bib.specs.declared.grammar.byte_sets.Delimiter.TheVariants.{Braces, Parens}
use Rattle.btx_bib.specs.declared.grammar.byte_sets.ByteSet.TheVariants.{KeyByte}
use Rattle.btx_bib.specs.declared.grammar.commands.DatabaseCommand.{DatabaseCommand}
use Rattle.btx_bib.specs.declared.grammar.commands.DatabaseCommand.TheVariants as command
use Rattle.btx_bib.specs.declared.grammar.commands.Expected.{Expected}
use Rattle.btx_bib.specs.declared.grammar.commands.Expected.TheVariants.{Item, Closing, Fields}
use Rattle.btx_bib.specs.declared.grammar.slip.SyntaxError.{SyntaxError}
use Rattle.btx_bib.specs.declared.grammar.slip.SyntaxError.TheVariants.{NoDelimiter, NoComma, NoEquals, NoClosing, EndOfFile}
use Rattle.btx_bib.specs.language.Grammar.ByteSets.{begins}
use Rattle.btx_bib.specs.language.Grammar.Tokens.{closing_delimiter}
use Rattle.btx_bib.specs.language.Grammar.Fields.{Field}
use Rattle.btx_bib.specs.language.Grammar.Items.{Event, Comment, Preamble, Definition, Entry, FieldOf, ItemEnd, Wrong, command_of, Placed, StoredKeys, as_known}
use Rattle.btx_bib.specs.laws.Grammar.Spelling.{Grammar, Gives, Then, Spaced, IsRun, IsWrongHere, NameHere, SignHere, ValueSpelling, FieldSpelling}
use Rattle.btx_text.specs.laws.Bytes.{at_sign, comma, equals_sign, open_brace, open_parenthesis}

-- a thing as `R` has it, after the byte `sign`; or one as `S` has it where the text doesn't begin with that byte
abbrev pub OnSign : {A : Type 0} → ℕ → Grammar A → Grammar A → Grammar A
OnSign sign R S o front rest =
    ((behind : List ℕ) × (front ≡ sign ∷ behind) × R o behind rest) ⊎ ((begins (λ b. b == sign) (front ++ rest) ≡ false) × S o front rest)

-- the error `slip`, whatever stands here
abbrev pub WrongHere : {A : Type 0} → SyntaxError → Grammar A
WrongHere slip (Ok a) front rest = ⊥
WrongHere slip (Err met) front rest = IsWrongHere slip met front rest

-- the opening delimiter of an item, `{` or `(`, or the error that none stands here
abbrev pub OpenHere : Grammar Delimiter
OpenHere = OnSign open_brace (Gives Braces) (OnSign open_parenthesis (Gives Parens) (WrongHere NoDelimiter))

-- a key, which may be empty; at the end of the file there is none
abbrev pub KeyHere : Delimiter → Grammar (List ℕ)
KeyHere delimiter (Ok key) front rest = (front ≡ key) × IsRun (KeyByte delimiter) key rest × (begins (λ b. true) (key ++ rest) ≡ true)
KeyHere delimiter (Err slip) front rest = (slip ≡ EndOfFile) × (front ≡ []) × (rest ≡ [])

-- after a comma in an entry: the closing delimiter or a field
abbrev pub AfterComma : Delimiter → Grammar (Option Field)
AfterComma delimiter = OnSign (closing_delimiter delimiter) (Gives None) (Then FieldSpelling (λ field. Gives (Some field)))

-- after the key or a field: the closing delimiter, or a comma and then the closing delimiter or a field
abbrev pub MoreHere : Delimiter → Grammar (Option Field)
MoreHere delimiter = OnSign (closing_delimiter delimiter) (Gives None) (OnSign comma (Spaced (AfterComma delimiter)) (WrongHere (NoComma delimiter)))

-- what follows the name after an `@`, by the command that the name is: the event that it comes to, and what is wanted after it
abbrev pub HeadOf : DatabaseCommand → List ℕ → Grammar (Event × Expected)
HeadOf command.Comment name = Gives (Comment, Item)
HeadOf command.Preamble name =
    Then (Spaced OpenHere) (λ delimiter. Then ValueSpelling (λ value. Gives (Preamble value, Closing delimiter)))
HeadOf command.Definition name =
    Then (Spaced OpenHere) (λ delimiter. Then (Spaced NameHere) (λ string. Then (Spaced (SignHere equals_sign NoEquals)) (λ sign.
    Then ValueSpelling (λ value. Gives (Definition string value, Closing delimiter)))))
HeadOf command.Entry name =
    Then (Spaced OpenHere) (λ delimiter. Then (Spaced (KeyHere delimiter)) (λ key. Gives (Entry name key, Fields delimiter)))

-- what follows an `@`: a name, and then what its command has, up to the first event of the item
abbrev pub Head : Grammar (Event × Expected)
Head = Then (Spaced NameHere) (λ name. HeadOf (command_of name) name)

-- the event of a field, after which the entry goes on; or, without a field, of the entry's end, after which an item is wanted
abbrev pub more_event : Delimiter → Option Field → Event × Expected
more_event delimiter None = (ItemEnd, Item)
more_event delimiter (Some field) = (FieldOf field, Fields delimiter)

-- no byte of the text is an `@`
abbrev pub HasNoAt : List ℕ → Type 0
HasNoAt [] = Unit {0}
HasNoAt (b ∷ bs) = ((b == at_sign) ≡ false) × HasNoAt bs

-- what may stand at a place: the next item after its `@`, an item's closing delimiter, or a field of an entry or its end, as `Expected` says
abbrev pub Stands : Expected → Grammar (Event × Expected)
Stands Item o front rest = (ignored : List ℕ) × (behind : List ℕ) × (front ≡ ignored ++ at_sign ∷ behind) × HasNoAt ignored × Head o behind rest
Stands (Closing delimiter) o front rest = Then (Spaced (SignHere (closing_delimiter delimiter) (NoClosing delimiter))) (λ sign. Gives (ItemEnd, Item)) o front rest
Stands (Fields delimiter) o front rest = Then (Spaced (MoreHere delimiter)) (λ more. Gives (more_event delimiter more)) o front rest

-- an event and what is wanted after it are what was read: the key of an entry that is stored already counts as the error `Repeated`; after an error
-- an item is wanted
abbrev pub IsEventOf : {S : Type 0} → StoredKeys S → S → Event → Expected → Result (Event × Expected) SyntaxError → Type 0
IsEventOf stored_keys state event next (Ok got) = (event ≡ (as_known (stored_keys.is_stored state) got).0) × (next ≡ (as_known (stored_keys.is_stored state) got).1)
IsEventOf stored_keys state event next (Err slip) = (event ≡ Wrong slip) × (next ≡ Item)

-- these are the events of a text, if `state` is what is known before it and `wanted` what is wanted first: each is what its front spells, or what is
-- wrong at its end; and after the last one no `@` is left
abbrev pub IsReading : {S : Type 0} → StoredKeys S → S → Expected → List ℕ → List Placed → Type 0
IsReading stored_keys state wanted text [] = (wanted ≡ Item) × HasNoAt text
IsReading stored_keys state wanted text (placed ∷ others) =
    (o : Result (Event × Expected) SyntaxError) × (next : Expected) × (front : List ℕ) × (front ++ placed.rest ≡ text) ×
    IsEventOf stored_keys state placed.event next o × Stands wanted o front placed.rest ×
    IsReading stored_keys (stored_keys.after state placed.event) next placed.rest others
