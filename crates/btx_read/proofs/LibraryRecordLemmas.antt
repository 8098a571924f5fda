-- Rows that grow by those of some records, and then of others.
use Rattle.std.proofs.Common.{arith, add-one, drop, get_or, ◌≤◌, ◌≡◌, ◌<◌, ℕ, suc, ◌+◌, ◌-◌, List, [], ◌∷◌, ◌++◌, length, refl, sym, ap, ◌∙◌, append_assoc, append-nil, length-append, subst}
use Rattle.std.proofs.Math.Seq.{drop-cons}
use Rattle.std.proofs.lemmas.List.{drop_all}
use Rattle.std.specs.List.{flat_map}
use Rattle.btx_bib.specs.declared.entry.Entry.{Entry}
use Rattle.btx_bst.specs.language.Style.{Style}
use Rattle.btx_read.specs.declared.record.Record.{Record}
use Rattle.btx_read.specs.declared.row.Row.{Row}
use Rattle.btx_read.specs.declared.rows.Rows.{Rows}
use Rattle.btx_read.specs.LibraryRecords.{Adds, entry_records, field_records, fields_from}
use Rattle.btx_read.specs.Rows.{row_of, rows_along, texts_of}

-- ---- records after others

texts-behind : (file : List ℕ) (first second : List Record) → flat_map (texts_of file) (first ++ second) ≡ flat_map (texts_of file) first ++ flat_map (texts_of file) second
texts-behind file [] second = refl
texts-behind file (one ∷ first) second =
    ap (λ (rest : List ℕ). texts_of file one ++ rest) (texts-behind file first second)
    ∙ sym (append_assoc (texts_of file one) (flat_map (texts_of file) first) (flat_map (texts_of file) second))

rows-behind : (file : List ℕ) (room : ℕ) (first second : List Record)
    → rows_along file room (first ++ second) ≡ rows_along file room first ++ rows_along file (room + length (flat_map (texts_of file) first)) second
rows-behind file room [] second = ap (λ (n : ℕ). rows_along file n second) (omega arith)
rows-behind file room (one ∷ first) second =
    let texts = texts_of file one in
    let rest = flat_map (texts_of file) first in
    let at : room + length texts + length rest ≡ room + length (texts ++ rest) = omega (arith, length-append texts rest) in
    ap (λ (rows : List Row). row_of file room one ∷ rows)
    (rows-behind file (room + length texts) first second
    ∙ ap (λ (n : ℕ). rows_along file (room + length texts) first ++ rows_along file n second) at)

-- ---- what is added

pub adds-none : (made : Rows) → Adds [] made made
adds-none made = record { rows_are = sym (append-nil made.rows.items); texts_are = sym (append-nil made.texts.items) }

-- what some records add, and then others, is what both add
pub adds-both : (first second : List Record) (old made new : Rows) → Adds first old made → Adds second made new → Adds (first ++ second) old new
adds-both first second old made new one other =
    let texts = flat_map (texts_of []) first in
    let room : length made.texts.items ≡ length old.texts.items + length texts = ap length one.texts_are ∙ length-append old.texts.items texts in
    record {
      rows_are = other.rows_are
          ∙ ap (λ (rows : List Row). rows ++ rows_along [] (length made.texts.items) second) one.rows_are
          ∙ append_assoc old.rows.items (rows_along [] (length old.texts.items) first) (rows_along [] (length made.texts.items) second)
          ∙ ap (λ (n : ℕ). old.rows.items ++ (rows_along [] (length old.texts.items) first ++ rows_along [] n second)) room
          ∙ ap (λ (rows : List Row). old.rows.items ++ rows) (sym (rows-behind [] (length old.texts.items) first second));
      texts_are = other.texts_are
          ∙ ap (λ (bytes : List ℕ). bytes ++ flat_map (texts_of []) second) one.texts_are
          ∙ append_assoc old.texts.items texts (flat_map (texts_of []) second)
          ∙ ap (λ (bytes : List ℕ). old.texts.items ++ bytes) (sym (texts-behind [] first second));
    }

-- what one record adds
pub adds-one : (one : Record) (old new : Rows) → new.rows.items ≡ old.rows.items ++ row_of [] (length old.texts.items) one ∷ []
    → new.texts.items ≡ old.texts.items ++ texts_of [] one → Adds (one ∷ []) old new
adds-one one old new rows texts = record {
  rows_are = rows;
  texts_are = texts ∙ ap (λ (bytes : List ℕ). old.texts.items ++ bytes) (sym (append-nil (texts_of [] one)));
}

-- what is added to nothing is all that there is
pub all_rows : (records : List Record) (old new : Rows) → Adds records old new → old.rows.items ≡ [] → old.texts.items ≡ []
    → new.rows.items ≡ rows_along [] 0 records
all_rows records old new adds rows texts =
    adds.rows_are
    ∙ ap (λ (rows : List Row). rows ++ rows_along [] (length old.texts.items) records) rows
    ∙ ap (λ (bytes : List ℕ). rows_along [] (length bytes) records) texts

pub all_texts : (records : List Record) (old new : Rows) → Adds records old new → old.texts.items ≡ [] → new.texts.items ≡ flat_map (texts_of []) records
all_texts records old new adds texts = adds.texts_are ∙ ap (λ (bytes : List ℕ). bytes ++ flat_map (texts_of []) records) texts

-- ---- fields, one after another

module _ (style : Style) (entry : Entry) (number count : ℕ) (old made : Rows) where
  -- what the field of a number adds, and then those from the next number on
  pub adds-field : number < count → Adds (field_records style entry number) old made → (all : List Record) (first : Rows)
      → ((last : Rows) → Adds (fields_from style entry number (count - number)) old last → Adds all first last)
      → (last : Rows) → Adds (fields_from style entry (number + 1) (count - (number + 1))) made last → Adds all first last
  adds-field below one all first before last others =
      let left : suc (count - suc number) ≡ count - number = omega (arith, below) in
      let rest : Adds (fields_from style entry (suc number) (count - suc number)) made last = rw add-one at others in
      before last (subst (λ (n : ℕ). Adds (fields_from style entry number n) old last) left
      (adds-both (field_records style entry number) (fields_from style entry (suc number) (count - suc number)) old made last one rest))

  -- past the last number no field adds anything
  pub adds-no-field : count ≤ number → Adds (fields_from style entry number (count - number)) made made
  adds-no-field past =
      let left : 0 ≡ count - number = omega (arith, past) in
      subst (λ (n : ℕ). Adds (fields_from style entry number n) made made) left (adds-none made)

-- ---- entries, one after another

module _ (style : Style) (entries : List Entry) (place : ℕ) (old made : Rows) where
  -- what an entry adds, and then those after it
  pub adds-entry : (entry : Entry) → place < length entries → entry ≡ get_or entries place entry → Adds (entry_records style entry) old made
      → (all : List Record) (first : Rows)
      → ((last : Rows) → Adds (flat_map (entry_records style) (drop place entries)) old last → Adds all first last)
      → (last : Rows) → Adds (flat_map (entry_records style) (drop (place + 1) entries)) made last → Adds all first last
  adds-entry entry below is one all first before last others =
      let left : drop place entries ≡ entry ∷ drop (place + 1) entries =
      rw add-one (drop-cons entries place entry below) ∙ ap (λ (e : Entry). e ∷ drop (place + 1) entries) (sym is) in
      before last (subst (λ (es : List Entry). Adds (flat_map (entry_records style) es) old last) (sym left)
      (adds-both (entry_records style entry) (flat_map (entry_records style) (drop (place + 1) entries)) old made last one others))

  -- past the last entry none adds anything
  pub adds-no-entry : length entries ≤ place → Adds (flat_map (entry_records style) (drop place entries)) made made
  adds-no-entry past = subst (λ (es : List Entry). Adds (flat_map (entry_records style) es) made made) (sym (drop_all place entries past)) (adds-none made)
