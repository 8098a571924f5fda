-- Reading a string element by element.
use Rattle.std.specs.Prelude.{ℕ, Bool, ◌&&◌, ◌==◌, nat_eq, List, [], ◌∷◌, if◌then◌else◌, take, codes}
use Rattle.btx_text.specs.declared.element_kind.Kind.{Kind}
use Rattle.btx_text.specs.declared.element_kind.Kind.TheVariants.{Special, Wide, Byte, Open, Close}
use Rattle.btx_text.specs.language.Elements.{depth_after, Element, kind_at, extent}
use Rattle.std.specs.List.{starts_with}
use Rattle.std.specs.Str.{byte}
use Rattle.btx_text.specs.declared.element_kind.TextMode.{TextMode}

-- a special character begins here: at depth 0, with a `{` directly before a backslash
abbrev pub begins_special : ℕ → List ℕ → Bool
begins_special depth rest = depth == 0 && starts_with nat_eq rest (codes "{\\")

-- the kind of an element that is one byte: a brace or a plain byte
abbrev pub kind_of : ℕ → Kind
kind_of b = if b == byte "{" then Open else if b == byte "}" then Close else Byte

-- the element with which `rest` begins, at index `start` and brace depth `depth` of the string
abbrev pub element_at : TextMode → ℕ → ℕ → List ℕ → Element
element_at mode start depth rest =
    let kind = kind_at mode depth rest in
    record { kind = kind; text = take (extent kind rest) rest; start = start; depth = depth }

-- the depth after an element of a kind: a special character ends at 0, or nothing follows it
abbrev pub depth_past : Kind → ℕ → ℕ → ℕ
depth_past Special depth first = 0
depth_past Wide depth first = depth
depth_past _ depth first = depth_after depth first
