use Rattle.std.proofs.Common.{◌∙◌, ◌∷◌, ◌++◌, [], ap, sym, List, ℕ}
use Rattle.std.proofs.lemmas.Result.{on_ok_weaker}
use Rattle.btx_aux.specs.language.Names.{with_name_once}
use Rattle.btx_aux.specs.language.Notes.{TopFile}
use Rattle.btx_aux.proofs.DraftLemmas.{learned-Opens_top, learned-Opens_level}
use Rattle.btx_aux.proofs.draft.AuxJobBuilder.open_file.Goals as goal
use Rattle.btx_aux.specs.refinement.Notes.{aux_note_line}

pub returns-then-level-eq0-clause-draft : goal.returns-then-level-eq0-clause-draft
returns-then-level-eq0-clause-draft c =
    let draft = c.args.self.now in
    let name = c.args.name.now in
    let files = c.in_ok-add.ensures ∙ ap (with_name_once draft.files) c.in_ok-copy.ensures.items in
    let opened = λ (files : List (List ℕ)). record draft { files = files; log = draft.log ++ aux_note_line (TopFile name) ∷ [] } in
    on_ok_weaker c.log_note.result (λ e. e ∙ ap opened files ∙ sym (learned-Opens_top draft name c.args.level c.if-level-eq0.true)) c.log_note.ensures

pub returns-clause-draft : goal.returns-clause-draft
returns-clause-draft c =
    on_ok_weaker c.log_note-2.result (λ e. e ∙ sym (learned-Opens_level c.args.self.now c.args.name.now c.args.level c.if-level-eq0.false)) c.log_note-2.ensures
