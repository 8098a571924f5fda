use Rattle.std.proofs.Common.{◌≡◌, ◌∙◌, rules, sym, refl, true, false}
use Rattle.std.proofs.lemmas.Result.{err_from_is_err_and}
use Rattle.btx_names.specs.language.NameParts.{sections_of}
use Rattle.btx_names.specs.language.Formats.{is_legal}
use Rattle.btx_names.specs.refinement.KeptNames.{kept_bytes, kept_parts}
use Rattle.btx_names.proofs.FormattedLemmas.{one_illegal, one_legal, answers_fault}
use Rattle.btx_names.proofs.formatted.format_one.Goals as goal
use Rattle.btx_names.specs.refinement.FormattedNames.{formatted}

pub returns-then-branch : goal.returns-then-branch
returns-then-branch c =
    let name = kept_bytes c.args.name.now in
    let format = c.args.format.now in
    let made : (is_legal format ≡ true) × (c.write_format.new.writer.text.items ≡ formatted c.args.mode (kept_parts c.args.name.now) format) = search rules in
    let is = one_legal c.args.mode name format (sections_of name) true (kept_parts c.args.name.now) c.complaints.result refl (sym made.0) refl refl
    c.complaints.ensures in
    rw (is.0, is.1, sym (c.text.ensures ∙ made.1)) c.copy_of.ensures

pub returns-else-branch : goal.returns-else-branch
returns-else-branch c =
    let name = kept_bytes c.args.name.now in
    let made : is_legal c.args.format.now ≡ false = search rules in
    let is = one_illegal c.args.mode name c.args.format.now (sections_of name) false c.complaints-else-branch.result refl (sym made) refl
    c.complaints-else-branch.ensures in
    rw (is.0, is.1, sym c.new.ensures.items) c.new-else-branch.ensures

pub returns-in_err-write_format : goal.returns-in_err-write_format
returns-in_err-write_format c =
    let name = kept_bytes c.args.name.now in
    let p = err_from_is_err_and c.from_residual.result c.from_residual.ensures.1 in
    rw (p.1, p.2) (answers_fault c.args.mode name c.args.format.now _ (sections_of name) (kept_parts c.args.name.now) c.in_err-write_format.field-0.0 refl refl
    (rw c.begin.ensures.mode at c.in_err-write_format.ensures))
