-- What a call that reads a database has left in the caller's memory.
use Rattle.std.specs.Prelude.{◌≡◌, ◌⊎◌, ◌<◌, ◌≤◌, ℕ, List, [], ◌++◌, fold, length, take, drop}
use Rattle.std.specs.List.{flat_map}
use Rattle.btx_bib.specs.language.Grammar.ValueTexts.{squeezed}
use Rattle.btx_read.specs.declared.record.Record.{Record}
use Rattle.btx_read.specs.declared.row.Row.{Row}
use Rattle.btx_read.specs.Records.{records_of, with_string}
use Rattle.btx_read.specs.Rows.{rows_along, texts_of}
use Rattle.btx_c.specs.Outcomes.{filled}
use Rattle.btx_c.specs.declared.read.BtxString.{BtxString}
use Rattle.btx_c.specs.declared.read.BtxSizes.{BtxSizes}

-- the strings that are known once one more was handed in
abbrev pub with_handed : List (List ℕ × List ℕ) → BtxString → List (List ℕ × List ℕ)
with_handed strings string = with_string strings string.name.now (squeezed string.text.now)

-- the strings that were handed in, of which the last of a name counts
abbrev pub handed_strings : List BtxString → List (List ℕ × List ℕ)
handed_strings strings = fold with_handed [] strings

-- the records of a database, before which these strings were handed in
abbrev pub records_read : List BtxString → List ℕ → List Record
records_read strings text = records_of (handed_strings strings) text

-- memory into which rows were put, as many as there is room for; the rest stays
abbrev pub filled_rows : List Row → List Row → List Row
filled_rows room rows = take (length room) rows ++ drop (length rows) room

-- The rows and the texts of these records of a file were put into memory, as many as there is room for, and the sizes are those of all of them
pub record AreRead (file : List ℕ) (records : List Record) (rows : List Row × List Row) (texts : List ℕ × List ℕ) (sizes : BtxSizes) : Type 0 where
  pub rows_is : rows.1 ≡ filled_rows rows.0 (rows_along file 0 records)
  pub texts_is : texts.1 ≡ filled texts.0 (flat_map (texts_of file) records)
  pub records_len : sizes.records ≡ length (rows_along file 0 records)
  pub texts_len : sizes.texts ≡ length (flat_map (texts_of file) records)

-- there is room for all
abbrev pub Fits : BtxSizes → List Row → List ℕ → Type 0
Fits sizes rows texts = (sizes.records ≤ length rows) × (sizes.texts ≤ length texts)

-- there is too little room for the rows or for the texts
abbrev pub IsFull : BtxSizes → List Row → List ℕ → Type 0
IsFull sizes rows texts = (length rows < sizes.records) ⊎ (length texts < sizes.texts)
