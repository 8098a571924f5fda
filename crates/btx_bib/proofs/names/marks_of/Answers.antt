use Rattle.std.proofs.Common.{◌≡◌, ◌∙◌, ◌+◌, ap, sym, subst, get_or, map, take, List, Bool}
use Rattle.btx_text.specs.language.Keys.{folded}
use Rattle.btx_aux.specs.refinement.Entries.{Bytes, texts_of}
use Rattle.btx_bib.specs.refinement.Marks.{AreMarked, marked}
use Rattle.btx_bib.proofs.NameMarkLemmas.{marked-next}
use Rattle.btx_bib.proofs.names.marks_of.Goals as goal

pub loop-key-preserved : goal.loop-key-preserved
loop-key-preserved c =
    let keys = c.args.keys.now in
    let place = c.loop-key.key-index in
    let key = c.key-item.result in
    let name : c.as_bytes.result.now ≡ folded (get_or keys place key).items =
    c.as_bytes.ensures ∙ c.in_ok-lowered.ensures ∙ ap folded (c.as_slice.ensures.value ∙ ap (λ (b : Bytes). b.items) c.key-item.is) in
    subst (λ (marks : List Bool). AreMarked marks (map folded (texts_of (take (place + 1) keys))))
    (sym (c.add.ensures.added ∙ ap (marked c.loop-key.marks) name))
    (marked-next c.loop-key.marks keys place key c.add.ensures.room c.loop-key-test.true c.loop-key.invariant)
