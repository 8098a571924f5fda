use Rattle.std.proofs.Common.{◌≡◌, drop}
use Rattle.btx_aux.specs.refinement.Entries.{texts_of}
use Rattle.btx_bib.specs.refinement.Drafts.{cited_all}
use Rattle.btx_bib.specs.refinement.Requests.{wanted}
use Rattle.btx_bib.proofs.draft.ListBuilder.cite_all.Given as goal

abbrev pub invariant-loop-key : goal.invariant-loop-key
invariant-loop-key l = cited_all (wanted l.request) l.self (texts_of (drop l.key-index l.keys)) ≡ cited_all (wanted l.request) l.initial.self (texts_of l.keys)
