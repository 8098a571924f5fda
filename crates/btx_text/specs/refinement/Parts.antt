-- What clauses see of an element of the code.
use Rattle.btx_text.specs.language.Elements.{Element as Part}
use Rattle.btx_text.specs.declared.string_elements.Element.{Element}

-- an element, without where its text lies in memory
abbrev pub part_of : Element → Part
part_of e = record { kind = e.kind; text = e.text.now; start = e.start; depth = e.depth }
