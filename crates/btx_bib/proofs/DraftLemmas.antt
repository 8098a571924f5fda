-- The list while keys are cited.
use Rattle.std.proofs.Common.{◌≡◌, ℕ, suc, ◌+◌, ◌<◌, List, ap, ◌∙◌, sym, add-one, drop, drop-cons, get_or, length}
use Rattle.btx_aux.specs.refinement.Entries.{Bytes, texts_of}
use Rattle.btx_bib.specs.declared.draft.ListBuilder.{ListBuilder}
use Rattle.btx_bib.specs.language.Request.{Request}
use Rattle.btx_bib.specs.refinement.Drafts.{cited_all, cited_at, place_in}

pub cited-next : (wanted : Request) (keys : List Bytes) (place : ℕ) (d : Bytes) (before after : ListBuilder) → place < length keys
    → after ≡ cited_at wanted (get_or keys place d).items before (place_in before (get_or keys place d).items)
    → cited_all wanted after (texts_of (drop (place + 1) keys)) ≡ cited_all wanted before (texts_of (drop place keys))
cited-next wanted keys place d before after within is =
    ap (λ (n : ℕ). cited_all wanted after (texts_of (drop n keys))) (add-one place)
    ∙ ap (λ (x : ListBuilder). cited_all wanted x (texts_of (drop (suc place) keys))) is
    ∙ ap (λ (ks : List Bytes). cited_all wanted before (texts_of ks)) (sym (drop-cons keys place d within))
