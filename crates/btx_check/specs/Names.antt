-- What is known of names: of a style's variables and fields.
use Rattle.std.specs.Prelude.{◌≡◌, ◌<◌, length, true, false, None}
use Rattle.btx_bst.specs.language.Style.{Style}
use Rattle.btx_bst.specs.declared.callee.Callee.{Callee}
use Rattle.btx_bst.specs.declared.callee.Callee.TheVariants as callee
use Rattle.btx_check.specs.declared.description.Value.{Value}
use Rattle.btx_check.specs.declared.description.Value.TheVariants as value
use Rattle.btx_check.specs.Descriptions.{any_field, any_text, open_end}
use Rattle.btx_check.specs.States.{Abstract}

-- a variable or a field
abbrev pub IsName : Callee → Type 0
IsName (callee.BuiltIn b) = ⊥
IsName (callee.User i) = ⊥
IsName _ = Unit {0}

-- its value can be asked for: a name of entries has one only where an entry is current
abbrev pub NeedsEntry : Callee → Abstract → Type 0
NeedsEntry (callee.GlobalInteger i) a = Unit {0}
NeedsEntry (callee.GlobalString i) a = Unit {0}
NeedsEntry _ a = a.entry ≡ true

-- what is known of the value of a name of which nothing else is known
abbrev pub kind_of : Callee → Value
kind_of (callee.GlobalInteger i) = value.Integer None open_end
kind_of (callee.EntryInteger i) = value.Integer None open_end
kind_of (callee.GlobalString i) = value.Text any_text
kind_of (callee.EntryString i) = value.Text any_text
kind_of (callee.Field i) = value.Text any_field
kind_of _ = value.Any

-- an integer variable that the style declares; one of entries needs an entry
abbrev pub IsIntegerOf : Style → Callee → Abstract → Type 0
IsIntegerOf style (callee.GlobalInteger k) a = k < length style.names.global_integers
IsIntegerOf style (callee.EntryInteger k) a = (k < length style.names.entry_integers) × (a.entry ≡ true)
IsIntegerOf style _ a = ⊥

-- a string variable that the style declares; one of entries needs an entry
abbrev pub IsStringOf : Style → Callee → Abstract → Type 0
IsStringOf style (callee.GlobalString k) a = k < length style.names.global_strings
IsStringOf style (callee.EntryString k) a = (k < length style.names.entry_strings) × (a.entry ≡ true)
IsStringOf style _ a = ⊥

-- a literal of which this is known can be assigned to it: an integer to an integer variable, and a string that is there to a string variable
abbrev pub IsAssignable : Style → Callee → Value → Abstract → Type 0
IsAssignable style f (value.Integer low high) a = IsIntegerOf style f a
IsAssignable style f (value.Text m) a = (m.missing ≡ false) × IsStringOf style f a
IsAssignable style f _ a = ⊥
