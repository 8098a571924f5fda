-- Lemmas on formats that are kept.
use Rattle.std.proofs.Common.{Err, ◌≡◌, ℕ, ◌+◌, ◌<◌, ◌≤◌, true, false, List, [], ◌∷◌, ◌++◌, length, length-append, drop, get_or, refl, sym, ap, arith}
use Rattle.std.proofs.lemmas.List.{drop_all, drop_more, take_rest}
use Rattle.std.specs.List.{list_any}
use Rattle.btx_text.specs.declared.fault.Fault.{Fault}
use Rattle.btx_text.specs.declared.fault.Fault.TheVariants.{Memory, Device, FileLimit, StringLimit}
use Rattle.btx_names.specs.refinement.Becomes.{Becomes, WritesLegal}
use Rattle.btx_names.specs.language.Formats.{FormatItem, is_illegal, is_legal, items_of}
use Rattle.btx_names.specs.refinement.KeptItems.{kept_view, items_in}
use Rattle.btx_names.specs.declared.kept_item.KeptItem.{KeptItem}
use Rattle.btx_names.specs.declared.kept_item.KeptItem.TheVariants.{Literal, Plain, Name}

-- none of the items that are kept is illegal
kept_are_legal : (items : List KeptItem) → list_any is_illegal (items_in items) ≡ false
kept_are_legal [] = refl
kept_are_legal (Literal text ∷ items) = kept_are_legal items
kept_are_legal (Plain text ∷ items) = kept_are_legal items
kept_are_legal (Name piece ∷ items) = kept_are_legal items

pub kept_is_legal : (items : List KeptItem) (format : List ℕ) → items_in items ≡ items_of format → is_legal format ≡ true
kept_is_legal items format read = rw (sym read, kept_are_legal items) refl

pub items_at : (items : List KeptItem) (i : ℕ) (default : KeptItem) → i < length items →
    items_in (drop i items) ≡ kept_view (get_or items i default) ∷ items_in (drop (i + 1) items)
items_at items i default lt = ap items_in (drop_more items i default lt)

pub no_items_left : (items : List KeptItem) (i : ℕ) → length items ≤ i → items_in (drop i items) ≡ []
no_items_left items i le = rw (drop_all i items le) refl

pub ruleset kept_items = (kept_is_legal, items_at, no_items_left, take_rest)

-- ---- reading

pub items_pushed : (items : List KeptItem) (item : KeptItem) → items_in (items ++ item ∷ []) ≡ items_in items ++ kept_view item ∷ []
items_pushed [] item = refl
items_pushed (first ∷ items) item = ap (λ (others : List FormatItem). kept_view first ∷ others) (items_pushed items item)

pub ruleset item_pushed = (items_pushed)

-- ---- writing

-- too long a text on the way is too long a text of the whole
pub items_fail : (format old item rest wanted new new' : List ℕ) (fault : Fault) → is_legal format ≡ true → old ++ (item ++ rest) ≡ wanted →
    Becomes 1000000 (Err fault) new (old ++ item) → WritesLegal 1000000 (is_legal format) (Err fault) new' wanted
items_fail format old item rest wanted new new' Memory legal whole h = tt
items_fail format old item rest wanted new new' StringLimit legal whole h =
    (legal, omega (arith, h, sym (ap length whole), length-append old item, length-append old (item ++ rest), length-append item rest))
items_fail format old item rest wanted new new' Device legal whole h = h
items_fail format old item rest wanted new new' FileLimit legal whole h = h
