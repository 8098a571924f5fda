-- How a key or a name is spelled, in a file or in a value.
use Rattle.std.specs.Prelude.{ℕ, List}
use Rattle.std.specs.Rc.{rc_slice_items}
use Rattle.btx_bib.specs.declared.spelling.Source.{Source}
use Rattle.btx_bib.specs.declared.spelling.Source.TheVariants.{File, Value}

-- the bytes, wherever they are
abbrev pub spelled_in : Source → List ℕ
spelled_in (File bytes) = bytes.now
spelled_in (Value bytes) = rc_slice_items bytes
