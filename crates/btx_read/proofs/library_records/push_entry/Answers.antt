use Rattle.std.proofs.Common.{[], ◌∷◌, ◌++◌, length}
use Rattle.std.proofs.lemmas.Result.{on_ok_weaker}
use Rattle.btx_read.specs.LibraryRecords.{fields_from, placeless, type_word}
use Rattle.btx_read.specs.declared.content.Content.TheVariants.{End, Entry}
use Rattle.btx_read.proofs.LibraryRecordLemmas.{adds-both}
use Rattle.btx_read.proofs.library_records.push_entry.Goals as goal

pub returns : goal.returns
returns c =
    let style = c.args.style.now in
    let entry = c.args.entry.now in
    let first = placeless (Entry (type_word style entry.kind) entry.key) ∷ [] in
    let fields = fields_from style entry 0 (length style.names.fields) in
    on_ok_weaker c.push_placeless-2.result
    (λ end. adds-both first (fields ++ placeless End ∷ []) _ _ _
    (rw (c.new-kind.ensures, c.type_word.ensures, c.kind.ensures, c.new-key.ensures, c.key.ensures) at c.in_ok-push_placeless.ensures)
    (adds-both fields (placeless End ∷ []) _ _ _ c.in_ok-push_fields.ensures end))
    c.push_placeless-2.ensures
