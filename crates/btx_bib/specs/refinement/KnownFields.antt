-- Fields whose numbers the reader has looked up already.
use Rattle.std.specs.Prelude.{◌≡◌, Option, Some, IfSome}
use Rattle.btx_text.specs.language.Keys.{folded}
use Rattle.btx_bst.specs.language.Style.{Style, field_of}
use Rattle.btx_bib.specs.declared.style_fields.KnownField.{KnownField}

-- a name that is remembered is that of the field of its number
abbrev pub IsKnownField : Style → Option KnownField → Type 0
IsKnownField style known = IfSome known (λ (field : KnownField). field_of style (folded field.name.now) ≡ Some field.number)
