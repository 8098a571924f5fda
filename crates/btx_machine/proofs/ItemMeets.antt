-- Where the lines of a style's items are met.
use Rattle.std.proofs.Common.{◌≡◌, ◌≤◌, ◌+◌, ◌-◌, ◌∙◌, ℕ, List, [], ◌∷◌, drop, reverse, Option, None, Some, Result, IsErr, ap, arith, refl, subst, sym}
use Rattle.std.specs.Borrow.{Bor}
use Rattle.btx_text.specs.declared.fault.Fault.{Fault}
use Rattle.btx_bst.specs.language.Complaints.{Complaint}
use Rattle.btx_bst.specs.language.Items as item
use Rattle.btx_code.specs.refinement.Codes.{bodies_of}
use Rattle.btx_machine.proofs.Common.{Callee, Coded, Item, Job, Line, Style, Work, Out, State, StandsFor, Start, Comes, Open, complaint_line, do_items, state}
use Rattle.btx_machine.proofs.Common.{Midway, Reached}
use Rattle.btx_machine.specs.declared.command.Command.TheVariants as command
use Rattle.btx_machine.specs.declared.notebook.About.{About}
use Rattle.btx_machine.specs.declared.notebook.About.TheVariants as about
use Rattle.btx_machine.specs.laws.Noting.{AddsLines}
use Rattle.btx_machine.specs.refinement.Met.{AddsMet, Met, met}
use Rattle.btx_machine.specs.refinement.Outputs.{in_item}
use Rattle.btx_machine.specs.refinement.Places.{HandsInItem, MeetsInItem, MeetsInItems, MeetsInVisit, MeetsInVisits, MetInItem, MetInItems, MetOfMessages}
use Rattle.btx_machine.specs.refinement.Places.{NamesItem, most_taken}
use Rattle.btx_machine.proofs.HandLemmas.{handed_as, handed_then, hands_as, hands_none, hands_one}
use Rattle.btx_machine.proofs.MeetLemmas.{most_failed}

-- ---- one item

module _ (job : Job) (code : Coded) (list : List ℕ) (x : Item) (most : ℕ) (old new : Work) where
  -- the line of a complaint about the style's text
  pub message_met : (complaint : Complaint) (number : ℕ) (line : Line) (style : Bor Style) → x ≡ item.Message complaint number
      → line ≡ complaint_line complaint number job.style.file → style.now ≡ job.style
      → AddsLines old.outputs.log.noted new.outputs.log.noted (line ∷ [])
      → AddsMet old.outputs.log.handed new.outputs.log.handed (met line (about.Style style) ∷ []) → new.outputs.log.item ≡ old.outputs.log.item
      → MeetsInItem job code list x most old new
  message_met complaint number line style is is_line is_style noted handed same =
      subst (λ x. MeetsInItem job code list x most old new) (sym is)
      (hands_one old.outputs.log new.outputs.log line (about.Style style) noted handed same
      (λ start out stands. record { style = style; about_it = refl; is_style = is_style; is_line = is_line }) tt)

  -- what READ logs
  pub read_met : x ≡ item.Read → HandsInItem old.outputs.log new.outputs.log (MetOfMessages job.library.messages) → MeetsInItem job code list x most old new
  read_met is h = subst (λ x. MeetsInItem job code list x most old new) (sym is) (hands_as (λ m of_messages start out stands. of_messages) h)

  module _ (f : Callee) where
    pub execute_met : x ≡ item.Execute f → MeetsInVisit job code command.Execute f None most old new → MeetsInItem job code list x most old new
    execute_met is h = subst (λ x. MeetsInItem job code list x most old new) (sym is) h

    pub iterate_met : x ≡ item.Iterate f → (ys : List ℕ) → ys ≡ list → MeetsInVisits job code command.Iterate f ys most old new
        → MeetsInItem job code list x most old new
    iterate_met is ys e h = subst (λ x. MeetsInItem job code list x most old new) (sym is)
        (subst (λ zs. MeetsInVisits job code command.Iterate f zs most old new) e h)

    pub reverse_met : x ≡ item.Reverse f → (ys : List ℕ) → ys ≡ reverse list → MeetsInVisits job code command.Reverse f ys most old new
        → MeetsInItem job code list x most old new
    reverse_met is ys e h = subst (λ x. MeetsInItem job code list x most old new) (sym is)
        (subst (λ zs. MeetsInVisits job code command.Reverse f zs most old new) e h)

-- nothing was met
pub nothing_met : (job : Job) (code : Coded) (list : List ℕ) (x : Item) (most : ℕ) (old : Work) → MeetsInItem job code list x most old old
nothing_met job code list x most old = hands_none old.outputs.log

-- after a fault any of the steps may have been taken
pub item_failed : (job : Job) (code : Coded) (list : List ℕ) (x : Item) (before after : ℕ) (old new : Work) {T : Type 0} (result : Result T Fault) → IsErr result
    → MeetsInItem job code list x before old new → MeetsInItem job code list x (most_taken result before after) old new
item_failed job code list x before after old new result failed =
    subst (λ most. MeetsInItem job code list x most old new) (most_failed result failed before after)

pub items_failed : (job : Job) (items : List Item) (before after : ℕ) (old new : Work) {T : Type 0} (result : Result T Fault) → IsErr result
    → MeetsInItems job items before old new → MeetsInItems job items (most_taken result before after) old new
items_failed job items before after old new result failed =
    subst (λ most. MeetsInItems job items most old new) (most_failed result failed before after)

-- ---- an item is begun

-- the outputs stand for the same
stands_begun : (start : Start) (number : ℕ) (work : Work) (out : Out) → StandsFor start work.outputs out → StandsFor start (in_item number work).outputs out
stands_begun start number work out h = record { line = h.line; warnings = h.warnings; errors = h.errors; bbl = h.bbl; log = h.log }

begun_comes : (number : ℕ) (old mid : Work) (claim : State → State → Type 0) → Comes old mid claim → Comes old (in_item number mid) claim
begun_comes number old mid claim comes start out h =
    let l = comes start out h in
    record { out = l.out; stands = stands_begun start number mid l.out l.stands; is = l.is }

pub midway_begun : {old mid begun : Work} {opens : List Open} {first left : ℕ} {claim : State → State → Type 0} (number : ℕ) → begun ≡ in_item number mid
    → Midway old mid opens first left claim → Midway old begun opens first left claim
midway_begun {old} {mid} {begun} {opens} {first} {left} {claim} number is h =
    subst (λ work. Midway old work opens first left claim) (sym is)
    (record { marks = h.marks; fewer = h.fewer; writes = h.writes; same = begun_comes number old mid claim h.same })

-- ---- one item after others

-- within more steps
pub met_within : (job : Job) (items : List Item) (k all : ℕ) (s : State) (m : Met) → k ≤ all → MetInItems job items k s m → MetInItems job items all s m
met_within job items k all s m le w = record {
  number = w.number;
  here = w.here;
  others = w.others;
  is_next = w.is_next;
  list = w.list;
  taken = w.taken;
  further = w.further;
  within = omega (arith, w.within, le);
  there = w.there;
  same = w.same;
  code = w.code;
  is_code = w.is_code;
  met = w.met;
  is_numbered = w.is_numbered;
}

module _ (job : Job) (items : List Item) (k all : ℕ) (old mid : Work) where
  with_more : k ≤ all → (m : Met)
      → ((start : Start) (out : Out) → StandsFor start old.outputs out → MetInItems job items k (state old.store out) m)
      → (start : Start) (out : Out) → StandsFor start old.outputs out → MetInItems job items all (state old.store out) m
  with_more le m h start out stands = met_within job items k all (state old.store out) m le (h start out stands)

  module _ (code : Coded) (is_code : bodies_of code ≡ job.style.bodies) (number : ℕ) (x : Item) (rest others : List Item) (list : List ℕ) (most : ℕ)
      (is_next : drop number items ≡ x ∷ others) (is : rest ≡ x ∷ others) (le : k + most ≤ all)
      (comes : Comes old mid (Reached (do_items job items []) (do_items job rest list) k)) where
    -- what is met in one of the items
    one_in_item : (m : Met)
        → ((start : Start) (out : Out) → StandsFor start (in_item number mid).outputs out → MetInItem job code list x most (state mid.store out) m)
        × NamesItem number m.about
        → (start : Start) (out : Out) → StandsFor start old.outputs out → MetInItems job items all (state old.store out) m
    one_in_item m h start out stands =
        let l = comes start out stands in
        record {
          number = number;
          here = x;
          others = others;
          is_next = is_next;
          list = list;
          taken = k;
          further = most;
          within = le;
          there = state mid.store l.out;
          same = λ left. ap (λ items. do_items job items list left (state mid.store l.out)) (sym is) ∙ l.is.goes_on left;
          code = code;
          is_code = is_code;
          met = h.0 start l.out (stands_begun start number mid l.out l.stands);
          is_numbered = h.1;
        }

    -- some items were done, and then one
    pub next_item : (begun new : Work) → begun ≡ in_item number mid → MeetsInItems job items k old mid → MeetsInItem job code list x most begun new
        → MeetsInItems job items all old new
    next_item begun new is_begun h done =
        let enough : k ≤ all = omega (arith, le) in
        let here : MeetsInItem job code list x most (in_item number mid) new = subst (λ work. MeetsInItem job code list x most work new) is_begun done in
        handed_then (handed_as (with_more enough) h) (handed_as one_in_item here.hands)
