use Rattle.std.proofs.Common.{◌≡◌, ◌∙◌, cond, refl, arith}
use Rattle.std.proofs.lemmas.List.{length-drop}
use Rattle.btx_names.specs.language.NameParts.{Sections, parts_by}
use Rattle.btx_names.specs.refinement.NameTokens.{tokens_in}
use Rattle.btx_names.specs.refinement.PartViews.{part_tokens}
use Rattle.btx_names.specs.refinement.TokenLists.{IsListOf, surname_in}
use Rattle.btx_names.proofs.PartLemmas.{parts_cut}
use Rattle.btx_names.proofs.RangeLemmas.{ranges_within}
use Rattle.btx_names.proofs.name_parts.part_in.Goals as goal
use Rattle.btx_names.proofs.name_parts.part_in.Goals.{After-split_at-4, then-list, else-list}

pub split_at-requires-3 : goal.split_at-requires-3
split_at-requires-3 c =
    let within = ranges_within c.args.names.now c.args.list.now c.args.ranges c.requires.ranges in
    let surname : part_tokens c.split_at.result.0 ≡ surname_in c.args.names.now c.args.list.now = rw c.deref.ensures.value at c.split_at.ensures.front in
    rw surname (omega (arith, within.0, within.1))

pub overflow_sub-ranges : goal.overflow_sub-ranges
overflow_sub-ranges c = (ranges_within c.args.names.now c.args.list.now c.args.ranges c.requires.ranges).0

pub split_at-requires-4 : goal.split_at-requires-4
split_at-requires-4 c =
    let within = ranges_within c.args.names.now c.args.list.now c.args.ranges c.requires.ranges in
    let surname : part_tokens c.split_at.result.0 ≡ surname_in c.args.names.now c.args.list.now = rw c.deref.ensures.value at c.split_at.ensures.front in
    rw (c.split_at-3.ensures.back, surname)
    (omega (arith, within.0, within.1, length-drop c.args.ranges.von_start (surname_in c.args.names.now c.args.list.now)))

-- the four parts of every list of sections that this is the list of
parts : (c : After-split_at-4) (sections : Sections) → IsListOf c.args.names.now c.args.list.now sections →
    (cond c.args.list.now.has_commas (part_tokens c.split_at-2.result.1) (part_tokens c.split_at-3.result.0) ≡ (parts_by sections).first)
    × (part_tokens c.split_at-4.result.0 ≡ (parts_by sections).von) × (part_tokens c.split_at-4.result.1 ≡ (parts_by sections).last)
    × (part_tokens c.split_at-2.result.0 ≡ (parts_by sections).jr)
parts c sections is =
    let all : tokens_in c.args.names.now c.deref.result.now ≡ tokens_in c.args.names.now c.args.list.now.tokens.items = rw c.deref.ensures.value refl in
    parts_cut c.args.names.now c.args.list.now c.args.ranges sections (tokens_in c.args.names.now c.deref.result.now)
    (part_tokens c.split_at.result.0) (part_tokens c.split_at.result.1) (part_tokens c.split_at-2.result.0) (part_tokens c.split_at-2.result.1)
    (part_tokens c.split_at-3.result.0) (part_tokens c.split_at-3.result.1) (part_tokens c.split_at-4.result.0) (part_tokens c.split_at-4.result.1) is
    c.requires.ranges all c.split_at.ensures.front c.split_at.ensures.back
    c.split_at-2.ensures.front c.split_at-2.ensures.back c.split_at-3.ensures.front c.split_at-3.ensures.back c.split_at-4.ensures.front
    c.split_at-4.ensures.back

pub returns-in-First : goal.returns-in-First
returns-in-First c = λ sections is.
    let first : part_tokens c.if-list.first ≡ cond c.args.list.now.has_commas (part_tokens c.split_at-2.result.1) (part_tokens c.split_at-3.result.0) =
    elim c.if-list.branch [
      | then-list w ↦ rw (w.if-list.true, w.first-is) refl
      | else-list w ↦ rw (w.if-list.false, w.first-is) refl
    ] in
    rw c.in-First.is (first ∙ (parts (goal.at.returns-in-First c).After-split_at-4 sections is).0)

pub returns-in-Von : goal.returns-in-Von
returns-in-Von c = λ sections is. rw c.in-Von.is (parts (goal.at.returns-in-Von c).After-split_at-4 sections is).1

pub returns-in-Last : goal.returns-in-Last
returns-in-Last c = λ sections is. rw c.in-Last.is (parts (goal.at.returns-in-Last c).After-split_at-4 sections is).2

pub returns-in-Jr : goal.returns-in-Jr
returns-in-Jr c = λ sections is. rw c.in-Jr.is (parts (goal.at.returns-in-Jr c).After-split_at-4 sections is).3
