-- The bytes of a string, wherever they are kept.
use Rattle.std.specs.Prelude.{ℕ, List}
use Rattle.std.specs.Rc.{rc_slice_items}
use Rattle.btx_text.specs.declared.text.Kept.{Kept}
use Rattle.btx_text.specs.declared.text.Kept.TheVariants.{Borrowed, Owned, Shared}

-- the bytes of a file that is lent, of this string alone, or of several strings
abbrev pub bytes_of : Kept → List ℕ
bytes_of (Borrowed bytes) = bytes.now
bytes_of (Owned bytes) = bytes.items
bytes_of (Shared bytes) = rc_slice_items bytes
