-- Rows show their records.
use Rattle.std.proofs.Common.{◌≡◌, ℕ, ◌+◌, List, [], ◌∷◌, ◌++◌, length, map, take, refl, sym, ap, ◌∙◌, append_assoc, length-append}
use Rattle.std.proofs.Math.Seq.{take-append_seam, drop-append_seam}
use Rattle.std.specs.List.{flat_map}
use Rattle.btx_read.specs.declared.record.Record.{Record}
use Rattle.btx_read.specs.declared.row.Row.{Row}
use Rattle.btx_read.specs.RowLaws.{RowsShowRecords}
use Rattle.btx_read.specs.Rows.{Shown, bytes_at, name_of, row_of, row_shows, rows_along, shown, text_of, texts_of}

-- ---- what rows show

-- the bytes that stand between others
bytes-between : (before bytes after : List ℕ) → bytes_at (before ++ (bytes ++ after)) (length before) (length bytes) ≡ bytes
bytes-between before bytes after = ap (take (length bytes)) (drop-append_seam before (bytes ++ after)) ∙ take-append_seam bytes after

-- the name and the text of a record, which stand between others
name-between : (before name text after : List ℕ) → bytes_at (before ++ ((name ++ text) ++ after)) (length before) (length name) ≡ name
name-between before name text after =
    ap (λ (r : List ℕ). bytes_at (before ++ r) (length before) (length name)) (append_assoc name text after) ∙ bytes-between before name (text ++ after)

text-between : (before name text after : List ℕ) → bytes_at (before ++ ((name ++ text) ++ after)) (length before + length name) (length text) ≡ text
text-between before name text after =
    let at = length before + length name in
    ap (λ (r : List ℕ). bytes_at (before ++ r) at (length text)) (append_assoc name text after)
    ∙ ap (λ (r : List ℕ). bytes_at r at (length text)) (sym (append_assoc before name (text ++ after)))
    ∙ ap (λ (n : ℕ). bytes_at ((before ++ name) ++ (text ++ after)) n (length text)) (sym (length-append before name))
    ∙ bytes-between (before ++ name) text after

-- the row of a record shows it, in a room that has its texts between others
row-shows : (file : List ℕ) (before after : List ℕ) (one : Record) →
    row_shows (before ++ (texts_of file one ++ after)) (row_of file (length before) one) ≡ shown file one
row-shows file before after one =
    let name = name_of one.content in
    let text = text_of file one in
    rw (name-between before name text after, text-between before name text after) refl

rows-show : (file : List ℕ) (before : List ℕ) (records : List Record) →
    map (row_shows (before ++ flat_map (texts_of file) records)) (rows_along file (length before) records) ≡ map (shown file) records
rows-show file before [] = refl
rows-show file before (one ∷ others) =
    let texts = texts_of file one in
    let after = flat_map (texts_of file) others in
    let rest : map (row_shows (before ++ (texts ++ after))) (rows_along file (length before + length texts) others) ≡ map (shown file) others =
    ap (λ (r : List ℕ). map (row_shows r) (rows_along file (length before + length texts) others)) (sym (append_assoc before texts after))
    ∙ ap (λ (n : ℕ). map (row_shows ((before ++ texts) ++ after)) (rows_along file n others)) (sym (length-append before texts))
    ∙ rows-show file (before ++ texts) others in
    ap (λ (s : Shown). s ∷ map (row_shows (before ++ (texts ++ after))) (rows_along file (length before + length texts) others)) (row-shows file before after one)
    ∙ ap (λ (ss : List Shown). shown file one ∷ ss) rest

pub rows_show_records : RowsShowRecords
rows_show_records file records = rows-show file [] records

-- ---- one more row

module _ (file : List ℕ) (one : Record) (left others : List Record) (is : left ≡ one ∷ others) where
  pub rows-next : (rows rows' : List Row) (texts texts' : List ℕ) → rows' ≡ rows ++ row_of file (length texts) one ∷ [] → texts' ≡ texts ++ texts_of file one
      → rows' ++ rows_along file (length texts') others ≡ rows ++ rows_along file (length texts) left
  rows-next rows rows' texts texts' rows_is texts_is =
      let row = row_of file (length texts) one in
      ap (λ (rs : List Row). rs ++ rows_along file (length texts') others) rows_is
      ∙ append_assoc rows (row ∷ []) (rows_along file (length texts') others)
      ∙ ap (λ (n : ℕ). rows ++ row ∷ rows_along file n others) (ap length texts_is ∙ length-append texts (texts_of file one))
      ∙ ap (λ (ls : List Record). rows ++ rows_along file (length texts) ls) (sym is)

  pub texts-next : (texts texts' : List ℕ) → texts' ≡ texts ++ texts_of file one
      → texts' ++ flat_map (texts_of file) others ≡ texts ++ flat_map (texts_of file) left
  texts-next texts texts' texts_is =
      ap (λ (ts : List ℕ). ts ++ flat_map (texts_of file) others) texts_is
      ∙ append_assoc texts (texts_of file one) (flat_map (texts_of file) others)
      ∙ ap (λ (ls : List Record). texts ++ flat_map (texts_of file) ls) (sym is)
