-- What clauses see of a field in its plainest form: a name, and one part as its value, which is plain.
use Rattle.std.specs.Prelude.{◌≡◌, ℕ, Bool, true, false, List, [], ◌∷◌, Some, is_some, Ok}
use Rattle.btx_bib.specs.declared.grammar.byte_sets.Delimiter.{Delimiter}
use Rattle.btx_bib.specs.declared.grammar.byte_sets.Enclosure.{Enclosure}
use Rattle.btx_bib.specs.declared.grammar.byte_sets.Enclosure.TheVariants.{Group, Quotes}
use Rattle.btx_bib.specs.declared.grammar.plain_fields.PlainField.{PlainField}
use Rattle.btx_bib.specs.declared.grammar.plain_fields.PlainKind.{PlainKind}
use Rattle.btx_bib.specs.declared.grammar.plain_fields.PlainKind.TheVariants as kind
use Rattle.btx_bib.specs.declared.grammar.plain_fields.PlainValue.{PlainValue}
use Rattle.btx_bib.specs.declared.grammar.plain_fields.Purpose.{Purpose}
use Rattle.btx_bib.specs.declared.grammar.plain_fields.Purpose.TheVariants as purpose
use Rattle.btx_bib.specs.declared.grammar.item_readers.EntryHead.{EntryHead}
use Rattle.btx_bib.specs.declared.grammar.commands.Expected.TheVariants.{Item, Fields}
use Rattle.btx_bib.specs.declared.grammar.value_ends.Ends.TheVariants.{Trimmed}
use Rattle.btx_bib.specs.declared.grammar.commands.Expected.{Expected}
use Rattle.btx_bib.specs.language.Grammar.Fields.{Field}
use Rattle.btx_bib.specs.language.Grammar.Items.{Entry, ItemEnd, FieldOf, Step, expected_step}
use Rattle.btx_bib.specs.refinement.Grammar.Squeezing.{stands}
use Rattle.btx_bib.specs.language.Grammar.Values.{Part, Braced, Quoted, Digits, Named}
use Rattle.btx_bib.specs.laws.Grammar.Fields.{more_at}
use Rattle.btx_bib.specs.refinement.Grammar.ValueTexts.{StringValues}

-- a part of this kind and of this text, with the text from its end on
abbrev pub part_of : PlainKind → List ℕ → List ℕ → Part
part_of kind.Braced text rest = Braced text
part_of kind.Quoted text rest = Quoted text
part_of kind.Digits text rest = Digits text
part_of kind.Named text rest = Named (record { name = text; rest = rest })

-- the part that is the value, without where its text lies in memory
abbrev pub part_in_view : PlainValue → Part
part_in_view value = part_of value.kind value.text.now value.rest.now

-- a field in its plainest form, without where its texts lie in memory
abbrev pub plain_field_view : PlainField → Field
plain_field_view field = record { name = field.name.now; value = part_in_view field.value ∷ [] }

-- the part of a text that is enclosed so
abbrev pub enclosed_part : Enclosure → List ℕ → Part
enclosed_part Group text = Braced text
enclosed_part Quotes text = Quoted text

-- the text of a part stands as a field's value, where it is enclosed; of digits and names nothing is said
abbrev pub IsPlainPart : Part → Type 0
IsPlainPart (Braced text) = stands Trimmed text ≡ true
IsPlainPart (Quoted text) = stands Trimmed text ≡ true
IsPlainPart (Digits text) = Unit {0}
IsPlainPart (Named string) = Unit {0}

-- the same where the field may be taken; where it is passed over nothing is said
abbrev pub FitsText : Purpose → List ℕ → Type 0
FitsText purpose.Taking text = stands Trimmed text ≡ true
FitsText purpose.Passing text = Unit {0}

abbrev pub Fits : Purpose → Part → Type 0
Fits purpose (Braced text) = FitsText purpose text
Fits purpose (Quoted text) = FitsText purpose text
Fits purpose (Digits text) = Unit {0}
Fits purpose (Named string) = Unit {0}

-- where the fields of an entry are wanted, this one stands next in a text, whatever delimiter the entry has
abbrev pub StandsNext : List ℕ → PlainField → Type 0
StandsNext text field = (delimiter : Delimiter) → more_at delimiter text ≡ Ok (Some (plain_field_view field), field.value.rest.now)

-- what the reader reads there: the field, after which the same is wanted as before it
abbrev pub plain_step : Expected → PlainField → Step
plain_step wanted field = record { event = FieldOf (plain_field_view field); wanted = wanted; rest = field.value.rest.now }

-- what the reader reads where an entry's type and key stand
abbrev pub entry_step : EntryHead → Step
entry_step head = record { event = Entry head.kind.now head.key.now; wanted = Fields head.delimiter; rest = head.rest.now }

-- the end of an entry stands next, after which this text is left; or it doesn't, and the reader stays where it is
abbrev pub IsLeft : Bool → Expected × List ℕ → Expected × List ℕ → Type 0
IsLeft true old new = (expected_step old.0 old.1 ≡ Some (record { event = ItemEnd; wanted = Item; rest = new.1 })) × (new.0 ≡ Item)
IsLeft false old new = new ≡ old

-- a part that is a name has a value
abbrev pub HasString : StringValues → Part → Type 0
HasString strings (Braced text) = Unit {0}
HasString strings (Quoted text) = Unit {0}
HasString strings (Digits text) = Unit {0}
HasString strings (Named string) = is_some (strings string.name) ≡ true
