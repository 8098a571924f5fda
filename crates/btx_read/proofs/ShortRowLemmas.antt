-- Short rows give the rows of their records.
use Rattle.std.proofs.Common.{◌≡◌, ◌≤◌, ◌<◌, ◌⊎◌, inl, inr, ℕ, suc, ◌+◌, List, [], ◌∷◌, ◌++◌, length, map, take, drop, set, get_or, refl, sym, ap, ◌∙◌, append_assoc, length-append, arith}
use Rattle.std.proofs.Math.Seq.{drop-nil, take-nil}
use Rattle.std.proofs.lemmas.List.{drop-set-lt, drop_all, drop_more, take-append-drop, take_all, take_more_set}
use Rattle.std.specs.List.{flat_map}
use Rattle.btx_read.specs.declared.record.Record.{Record}
use Rattle.btx_read.specs.declared.row.Row.{Row}
use Rattle.btx_read.specs.declared.short_rows.ShortRow.{ShortRow}
use Rattle.btx_read.specs.declared.short_rows.ShortRows.{ShortRows}
use Rattle.btx_read.specs.Rows.{name_of, row_of, rows_along, text_of, texts_of}
use Rattle.btx_read.specs.ShortRows.{StandFor, bytes_of, bytes_of_all, put_into, row_from, rows_from, short_of}

pub rows_are_along : (file : List ℕ) (room : ℕ) (records : List Record) → rows_from room (map (short_of file) records) ≡ rows_along file room records
rows_are_along file room [] = refl
rows_are_along file room (one ∷ others) =
    ap (λ (n : ℕ). row_of file room one ∷ rows_from n (map (short_of file) others))
    (ap (λ (n : ℕ). room + n) (sym (length-append (name_of one.content) (text_of file one))))
    ∙ ap (λ (rows : List Row). row_of file room one ∷ rows) (rows_are_along file (room + length (texts_of file one)) others)

pub bytes_are : (file : List ℕ) (records : List Record) → bytes_of_all (map (short_of file) records) ≡ length (flat_map (texts_of file) records)
bytes_are file [] = refl
bytes_are file (one ∷ others) =
    ap (λ (n : ℕ). n + bytes_of_all (map (short_of file) others)) (sym (length-append (name_of one.content) (text_of file one)))
    ∙ ap (λ (n : ℕ). length (texts_of file one) + n) (bytes_are file others)
    ∙ sym (length-append (texts_of file one) (flat_map (texts_of file) others))

-- ---- one more row

module _ (file : List ℕ) (one : Record) (left others : List Record) (is : left ≡ one ∷ others) where
  pub short-next : (rows rows' : List ShortRow) → rows' ≡ rows ++ short_of file one ∷ []
      → rows' ++ map (short_of file) others ≡ rows ++ map (short_of file) left
  short-next rows rows' rows_is =
      ap (λ (rs : List ShortRow). rs ++ map (short_of file) others) rows_is
      ∙ append_assoc rows (short_of file one ∷ []) (map (short_of file) others)
      ∙ ap (λ (ls : List Record). rows ++ map (short_of file) ls) (sym is)

-- ---- rows that are put into memory

module _ (rows : List ShortRow) (place room : ℕ) (none : ShortRow) (below : place < length rows) where
  abbrev short : ShortRow
  short = get_or rows place none

  -- the bytes of a row, and those of the rows after it
  pub bytes-left : (all : ℕ) → room + bytes_of_all (drop place rows) ≡ all
      → room + short.name_len + short.text_len + bytes_of_all (drop (place + 1) rows) ≡ all
  bytes-left all is = omega (arith, ap bytes_of_all (drop_more rows place none below), is)

  -- one row more is put
  pub one-put : (into : List Row) (row : Row) → row ≡ row_from room short → place < length into
      → take (place + 1) (set into place row)
      ++ put_into (drop (place + 1) (set into place row)) (rows_from (room + short.name_len + short.text_len) (drop (place + 1) rows))
      ≡ take place into ++ put_into (drop place into) (rows_from room (drop place rows))
  one-put into row made within =
      let after : room + short.name_len + short.text_len ≡ room + bytes_of short = omega arith in
      let others = rows_from (room + bytes_of short) (drop (place + 1) rows) in
      ap (λ (n : ℕ). take (place + 1) (set into place row) ++ put_into (drop (place + 1) (set into place row)) (rows_from n (drop (place + 1) rows))) after
      ∙ ap (λ (rs : List Row). rs ++ put_into (drop (place + 1) (set into place row)) others) (take_more_set into place row within)
      ∙ ap (λ (rest : List Row). (take place into ++ row ∷ []) ++ put_into rest others) (drop-set-lt (place + 1) into place row (omega arith))
      ∙ append_assoc (take place into) (row ∷ []) (put_into (drop (place + 1) into) others)
      ∙ ap (λ (r : Row). take place into ++ r ∷ put_into (drop (place + 1) into) others) made
      ∙ ap (λ (rest : List Row). take place into ++ put_into rest (row_from room short ∷ others)) (sym (drop_more into place row within))
      ∙ ap (λ (rest : List ShortRow). take place into ++ put_into (drop place into) (rows_from room rest)) (sym (drop_more rows place none below))

-- no row is left, or no room
pub all-put : (rows : List ShortRow) (into : List Row) (place room : ℕ) → (length rows ≤ place) ⊎ (length into ≤ place)
    → take place into ++ put_into (drop place into) (rows_from room (drop place rows)) ≡ into
all-put rows into place room (inl past) =
    ap (λ (rest : List ShortRow). take place into ++ put_into (drop place into) (rows_from room rest)) (drop_all place rows past)
    ∙ ap (λ (none : List Row). take place into ++ (none ++ drop place into)) (take-nil (length (drop place into)))
    ∙ take-append-drop place into
all-put rows into place room (inr past) =
    ap (λ (rest : List Row). take place into ++ put_into rest (rows_from room (drop place rows))) (drop_all place into past)
    ∙ ap (λ (rest : List Row). take place into ++ rest) (drop-nil (length (rows_from room (drop place rows))))
    ∙ ap (λ (rest : List Row). take place into ++ rest) (sym (drop_all place into past))
    ∙ take-append-drop place into

pub count_is : (room : ℕ) (rows : List ShortRow) → length (rows_from room rows) ≡ length rows
count_is room [] = refl
count_is room (one ∷ others) = ap suc (count_is (room + bytes_of one) others)

pub stand : (file : List ℕ) (records : List Record) (made : ShortRows) → made.rows.items ≡ map (short_of file) records
    → made.texts.items ≡ flat_map (texts_of file) records → StandFor made (rows_along file 0 records)
stand file records made rows_is texts_is =
    let rows : rows_from 0 made.rows.items ≡ rows_along file 0 records = ap (rows_from 0) rows_is ∙ rows_are_along file 0 records in
    record {
      rows_are = rows;
      count_is = sym (count_is 0 made.rows.items) ∙ ap length rows;
      bytes_are = ap bytes_of_all rows_is ∙ bytes_are file records ∙ sym (ap length texts_is);
    }
