-- Commands and items end within their bounds, and so does a style.
use Rattle.std.proofs.Common.{◌≡◌, ℕ, zero, suc, ◌+◌, ◌*◌, ◌≤◌, pos, Bool, true, false, cond, List, [], ◌∷◌, length, reverse, Option, Some, None, refl, arith, sym, ap}
use Rattle.std.proofs.Common.{subst, ◌∙◌, codes}
use Rattle.std.specs.Prelude.{slice_index_or, replicate}
use Rattle.std.proofs.lemmas.List.{length-reverse}
use Rattle.std.proofs.lemmas.List.FromFn.{length-range_with_len}
use Rattle.btx_bst.specs.declared.callee.Callee.{Callee}
use Rattle.btx_bst.specs.declared.callee.Callee.TheVariants as callee
use Rattle.btx_bst.specs.declared.token.Token.TheVariants.{Run}
use Rattle.btx_bst.specs.language.Items.{Item}
use Rattle.btx_bst.specs.language.Items as item
use Rattle.btx_bst.specs.language.Style.{Style, type_of}
use Rattle.btx_bib.specs.language.Library.{entry_type}
use Rattle.btx_bib.specs.declared.end.End.{End as LibraryEnd}
use Rattle.btx_bib.specs.declared.end.End.TheVariants as library
use Rattle.btx_step.specs.language.Entries.{entry_of}
use Rattle.btx_step.specs.language.Jobs.{Job}
use Rattle.btx_step.specs.language.Starts.{first_store}
use Rattle.btx_step.specs.language.Stores.{Store}
use Rattle.btx_step.specs.language.Sorting.{sorted_by}
use Rattle.btx_step.specs.language.Sorting.{inserted}
use Rattle.btx_step.specs.refinement.Entries.{runner_of}
use Rattle.btx_machine.specs.declared.command.Command.{Command}
use Rattle.btx_machine.specs.declared.command.Command.TheVariants as command
use Rattle.btx_machine.specs.declared.report.End.{End}
use Rattle.btx_machine.specs.declared.report.End.TheVariants as ended
use Rattle.btx_machine.specs.language.States.{State, Outcome, Done, Stopped, Limit}
use Rattle.btx_machine.specs.language.Saying.{logging}
use Rattle.btx_machine.specs.language.MeaningBySteps.{meaning}
use Rattle.btx_machine.specs.language.Commands.{in_order, cleared}
use Rattle.btx_machine.specs.language.Commands.{visit}
use Rattle.btx_machine.specs.language.Items.{do_item, do_items}
use Rattle.btx_machine.specs.language.Items.{list_after, read_limit}
use Rattle.btx_machine.specs.language.Product.{product_of}
use Rattle.btx_machine.specs.refinement.Items.{outcome_of_read, read_lines}
use Rattle.btx_ends.specs.Ends.{EndsWithin, IsOf, bound_of, first_state, ReportsNoStop}
use Rattle.btx_ends.specs.Counters.{above_zero}
use Rattle.btx_ends.specs.Costs.{Ended}
use Rattle.btx_ends.specs.Certificates.{Claims, CalleeWithin, BodyWithin, BodiesWithin, OwnWithin, DefaultWithin, TestsHold, CountsHold, TextsHold, WalksHold, ClimbsHold, DescendingHolds, ReplacingHolds, FirstUnclaimed, ItemWithin}
use Rattle.btx_ends.specs.Certificates.{ItemsWithin, ClaimsEnd}
use Rattle.btx_ends.proofs.EndLemmas.{then_ends, at_most}
use Rattle.btx_ends.proofs.FineLemmas.{Fine, FineIn, value_of, text_of, put_value, length-slice_set}
use Rattle.btx_ends.proofs.LevelLemmas.{call_within}
use Rattle.btx_ends.proofs.RunLemmas.{level}

-- ---- arithmetic

times_le : (m n cost : ℕ) → m ≤ n → m * cost ≤ n * cost
times_le zero n cost l = omega (arith)
times_le (suc m) zero cost l = absurd (omega (arith, l))
times_le (suc m) (suc n) cost l = let h = times_le m n cost (omega (arith, l)) in omega (arith, h)

times_split : (n first others each : ℕ) → first + others ≤ each → n * first + n * others ≤ n * each
times_split zero first others each l = omega (arith)
times_split (suc n) first others each l = let h = times_split n first others each l in omega (arith, l, h)

-- ---- lists of entries

picked : {X : Type 0} (b : Bool) (x y : X) (ys zs : List X) → length zs ≡ suc (length ys) → length (cond b (y ∷ zs) (x ∷ y ∷ ys)) ≡ suc (suc (length ys))
picked true x y ys zs e = ap suc e
picked false x y ys zs e = refl

length-inserted : {X : Type 0} (lt : X → X → Bool) (x : X) (ys : List X) → length (inserted lt x ys) ≡ suc (length ys)
length-inserted lt x [] = refl
length-inserted lt x (y ∷ ys) = picked (lt y x) x y ys (inserted lt x ys) (length-inserted lt x ys)

length-sorted_by : {X : Type 0} (lt : X → X → Bool) (xs : List X) → length (sorted_by lt xs) ≡ length xs
unfolding sorted_by
length-sorted_by lt [] = refl
length-sorted_by lt (x ∷ xs) = length-inserted lt x (sorted_by lt xs) ∙ ap suc (length-sorted_by lt xs)

-- no list has more entries than the library
list_short : (job : Job) (x : Item) (list : List ℕ) (s : Store) → length list ≤ length job.library.entries
    → length (list_after job x list s) ≤ length job.library.entries
list_short job item.Read list s l = let e = length-range_with_len 0 (length job.library.entries) in omega (arith, e)
list_short job item.Sort list s l = let e = length-sorted_by _ list in subst (λ n. n ≤ length job.library.entries) (sym e) l
list_short job _ list s l = l

-- ---- commands

-- each of some things ends within `cost` steps
in_order_ends : {A : Type 0} (P : State → Type 0) (cost : ℕ) (go : A → ℕ → State → Outcome)
    → ((x : A) (left : ℕ) (s : State) → P s → cost ≤ left → Ended cost P left (go x left s))
    → (xs : List A) (left : ℕ) (s : State) → P s → length xs * cost ≤ left → Ended (length xs * cost) P left (in_order go xs left s)
in_order_ends P cost go h [] left s g l = (g, omega (arith))
in_order_ends P cost go h (x ∷ xs) left s g l =
    at_most (cost + length xs * cost) (length (x ∷ xs) * cost) left P _ (omega (arith))
    (then_ends cost (length xs * cost) left P P (go x left s) (in_order go xs) (h x left s g (omega (arith, l))) (omega (arith, l))
    (λ rest t b m. in_order_ends P cost go h xs rest t b m))

-- ---- where a run begins

zeros : (k v n : ℕ) → above_zero (value_of (replicate k (pos 0)) v) ≤ n
zeros zero v n = omega (arith)
zeros (suc k) zero n = omega (arith)
zeros (suc k) (suc v) n = zeros k v n

nothing : (k i n : ℕ) → length (text_of (replicate k []) i) ≤ n
nothing zero i n = omega (arith)
nothing (suc k) zero n = omega (arith)
nothing (suc k) (suc i) n = nothing k i n

unclaimed : (claims : Claims) (v n : ℕ) (P : Type 0) → slice_index_or claims.bounds v 0 ≡ 0 → slice_index_or claims.bounds v 0 ≡ suc n → P
unclaimed claims v n P e q = absurd (omega (arith, e, q))

length-zeros : (k : ℕ) → length (replicate k (pos 0)) ≡ k
length-zeros zero = refl
length-zeros (suc k) = ap suc (length-zeros k)

first_fine : (claims : Claims) (job : Job) → FirstUnclaimed claims.bounds → claims.integers ≤ length job.style.names.global_integers
    → FineIn claims (first_store job)
first_fine claims job first there = (
  λ v n e. put_value _ 1 v (pos job.global_max) n
      (put_value (replicate (length job.style.names.global_integers) (pos 0)) 0 v (pos job.entry_max) n (zeros (length job.style.names.global_integers) v n)
      (λ q. unclaimed claims 0 n _ first.0 (ap (λ i. slice_index_or claims.bounds i 0) q ∙ e)))
      (λ q. unclaimed claims 1 n _ first.1 (ap (λ i. slice_index_or claims.bounds i 0) q ∙ e)),
  (
    λ i. nothing (length job.style.names.global_strings) i claims.kept,
    subst (λ k. claims.integers ≤ k) (sym (length-slice_set _ 1 (pos job.global_max) ∙ length-slice_set _ 0 (pos job.entry_max) ∙ length-zeros _)) there,
  ),
)

module _ (style : Style) (allowed : List ℕ) (claims : Claims) (bodies_hold : BodiesWithin claims style) (own_hold : OwnWithin claims allowed)
    (default_holds : DefaultWithin claims style) (tests_hold : TestsHold claims.tests style) (counts_hold : CountsHold claims.counts style)
    (texts_hold : TextsHold claims style) (walks_hold : WalksHold claims style) (climbs_hold : ClimbsHold claims style)
    (descending_holds : DescendingHolds claims style) (replacing_holds : ReplacingHolds claims style) (job : Job) (of : IsOf style allowed claims.kept job) where
  bodies_of : (number : ℕ) → BodyWithin claims (slice_index_or job.style.bodies number []) (slice_index_or claims.costs number 0)
  bodies_of = subst (λ (a : Style). BodiesWithin claims a) (sym of.same) bodies_hold

  tests_of : TestsHold claims.tests job.style
  tests_of = subst (λ (a : Style). TestsHold claims.tests a) (sym of.same) tests_hold

  counts_of : CountsHold claims.counts job.style
  counts_of = subst (λ (a : Style). CountsHold claims.counts a) (sym of.same) counts_hold

  texts_of : TextsHold claims job.style
  texts_of = subst (λ (a : Style). TextsHold claims a) (sym of.same) texts_hold

  walks_of : WalksHold claims job.style
  walks_of = subst (λ (a : Style). WalksHold claims a) (sym of.same) walks_hold

  climbs_of : ClimbsHold claims job.style
  climbs_of = subst (λ (a : Style). ClimbsHold claims a) (sym of.same) climbs_hold

  descending_of : DescendingHolds claims job.style
  descending_of = subst (λ (a : Style). DescendingHolds claims a) (sym of.same) descending_holds

  replacing_of : ReplacingHolds claims job.style
  replacing_of = subst (λ (a : Style). ReplacingHolds claims a) (sym of.same) replacing_holds

  runner_holds : (own : Option ℕ) → ((number : ℕ) → own ≡ Some number → CalleeWithin claims claims.types (callee.User number))
      → (number : ℕ) → runner_of job own ≡ Some number → CalleeWithin claims claims.types (callee.User number)
  runner_holds None f number e = default_holds number (ap (λ (a : Style). type_of a (codes "default.type")) (sym of.same) ∙ e)
  runner_holds (Some own) f number e = f number e

  types_of : (entry number : ℕ) → runner_of job (entry_type (entry_of job entry)) ≡ Some number → CalleeWithin claims claims.types (callee.User number)
  types_of entry number e = runner_holds (entry_type (entry_of job entry)) (λ f q. own_hold f (of.types entry f q)) number e

  call_ends : (f : Callee) (cost : ℕ) → CalleeWithin claims cost f → (left : ℕ) (s : State) → Fine claims s → cost ≤ left
      → Ended cost (Fine claims) left (meaning job (Run f) 0 0 left s)
  unfolding meaning
  call_ends f cost w left s h l =
      call_within job claims (suc left)
      (level job claims bodies_of types_of tests_of counts_of texts_of walks_of climbs_of descending_of replacing_of of.keeps (suc left)) f cost w (omega (arith, l)) 0 0 left s h l

  visit_ends : (command : Command) (f : Callee) (cost : ℕ) → CalleeWithin claims cost f → (entry : Option ℕ) (left : ℕ) (s : State) → Fine claims s → cost ≤ left
      → Ended cost (Fine claims) left (visit job command f entry left s)
  unfolding visit
  visit_ends command f cost w entry left s h l =
      at_most (cost + 0) cost left (Fine claims) _ (omega (arith))
      (then_ends cost 0 left (Fine claims) (Fine claims) (meaning job (Run f) 0 0 left (record s { store = record s.store { current = entry } }))
      (λ rest t. Done (cleared job command t) rest) (call_ends f cost w left _ h l) (omega (arith, l)) (λ rest t b m. (b, omega (arith))))

  visits_end : (command : Command) (f : Callee) (cost : ℕ) → CalleeWithin claims cost f → (list : List ℕ) → length list ≤ length job.library.entries
      → (left : ℕ) (s : State) → Fine claims s → length job.library.entries * cost ≤ left
      → Ended (length job.library.entries * cost) (Fine claims) left (in_order (λ entry. visit job command f (Some entry)) list left s)
  visits_end command f cost w list short left s h l =
      let le : length list * cost ≤ length job.library.entries * cost = times_le (length list) (length job.library.entries) cost short in
      at_most (length list * cost) (length job.library.entries * cost) left (Fine claims) _ le
      (in_order_ends (Fine claims) cost (λ entry. visit job command f (Some entry)) (λ entry. visit_ends command f cost w (Some entry)) list left s h
      (omega (arith, le, l)))

  read_ends : (end : LibraryEnd) (left : ℕ) (s : State) → Fine claims s → Ended 0 (Fine claims) left (outcome_of_read (read_limit end) left s)
  read_ends library.Whole left s h = (h, omega (arith))
  read_ends library.FileLimit left s h = omega (arith)
  read_ends library.StringLimit left s h = omega (arith)

  abbrev entries : ℕ
  entries = length job.library.entries

  item_ends : (x : Item) (list : List ℕ) (once each : ℕ) → ItemWithin claims x once each → length list ≤ entries → (left : ℕ) (s : State) → Fine claims s
      → once + entries * each ≤ left → Ended (once + entries * each) (Fine claims) left (do_item job list x left s)
  unfolding do_item
  item_ends (item.Execute f) list once each w short left s h l =
      at_most once (once + entries * each) left (Fine claims) _ (omega (arith)) (visit_ends command.Execute f once w None left s h (omega (arith, l)))
  item_ends (item.Iterate f) list once each w short left s h l =
      at_most (entries * each) (once + entries * each) left (Fine claims) _ (omega (arith))
      (visits_end command.Iterate f each w list short left s h (omega (arith, l)))
  item_ends (item.Reverse f) list once each w short left s h l =
      at_most (entries * each) (once + entries * each) left (Fine claims) _ (omega (arith))
      (visits_end command.Reverse f each w (reverse list) (subst (λ n. n ≤ entries) (sym (length-reverse list)) short) left s h (omega (arith, l)))
  item_ends item.Read list once each w short left s h l =
      at_most 0 (once + entries * each) left (Fine claims) _ (omega (arith)) (read_ends job.library.ending left (logging (read_lines job) s) h)
  item_ends _ list once each w short left s h l = (h, omega (arith))

  items_end : (xs : List Item) (list : List ℕ) (once each : ℕ) → ItemsWithin claims xs once each → length list ≤ entries → (left : ℕ) (s : State) → Fine claims s
      → once + entries * each ≤ left → Ended (once + entries * each) (Fine claims) left (do_items job xs list left s)
  unfolding do_items
  items_end [] list once each w short left s h l = (h, omega (arith))
  items_end (x ∷ xs) list once each w short left s h l =
      let fo = w.0 in
      let fe = w.1.0 in
      let oo = w.1.1.0 in
      let oe = w.1.1.1.0 in
      let le : fo + oo ≤ once = w.1.1.1.1.1.0 in
      let split = times_split entries fe oe each w.1.1.1.1.1.1.0 in
      at_most ((fo + entries * fe) + (oo + entries * oe)) (once + entries * each) left (Fine claims) _ (omega (arith, le, split))
      (then_ends (fo + entries * fe) (oo + entries * oe) left (Fine claims) (Fine claims) (do_item job list x left s) (do_items job xs (list_after job x list s.store))
      (item_ends x list fo fe w.1.1.1.1.0 short left s h (omega (arith, le, split, l))) (omega (arith, le, split, l))
      (λ rest t b m. items_end xs (list_after job x list s.store) oo oe w.1.1.1.1.1.1.1 (list_short job x list s.store short) rest t b m))

-- ---- whole runs

ends_within : (P : State → Type 0) (bound budget : ℕ) (o : Outcome) → Ended bound P budget o → EndsWithin bound budget o
ends_within P bound budget (Done s left) h = h.1
ends_within P bound budget (Stopped s) h = h
ends_within P bound budget (Limit kind s left) h = h

pub claims_end : ClaimsEnd
claims_end style allowed claims once each functions loops items_hold job of counts budget l =
    ends_within (Fine claims) (bound_of once each job) budget _
    (items_end style allowed claims functions.0 functions.1.0 functions.1.1 loops.0 loops.1.0 loops.1.1.1.0 loops.1.1.1.1.0 loops.1.1.1.1.1.0 loops.1.1.1.1.1.1.0 loops.1.1.1.1.1.1.1 job of job.style.items [] once each
    (subst (λ (a : Style). ItemsWithin claims a.items once each) (sym of.same) items_hold) (omega arith) budget (first_state job counts)
    (first_fine claims job loops.1.1.0
    (subst (λ (a : Style). claims.integers ≤ length a.names.global_integers) (sym of.same) loops.1.1.1.0.1.1.1.1)) l)

-- the end of a run that wasn't stopped
abbrev IsNoStop : End → Type 0
IsNoStop ended.Stopped = ⊥
IsNoStop _ = Unit {0}

no_stop : (line_length bound budget : ℕ) (o : Outcome) → EndsWithin bound budget o → IsNoStop (product_of line_length budget o).report.end
no_stop line_length bound budget (Done s left) h = tt
no_stop line_length bound budget (Stopped s) h = h
no_stop line_length bound budget (Limit kind s left) h = tt

pub reports_no_stop : ReportsNoStop
reports_no_stop style allowed kept once each h job of counts line_length budget l e =
    subst IsNoStop e (no_stop line_length (bound_of once each job) budget (do_items job job.style.items [] budget (first_state job counts)) (h job of counts budget l))
