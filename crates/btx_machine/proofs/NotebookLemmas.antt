-- What a log and a notebook have of the same lines, line by line.
use Rattle.std.proofs.Common.{◌≡◌, Bool, List, [], ◌∷◌, ◌++◌, ℕ, Option, None, Some, Result, Ok, Err, OnOk, OnErr, is_err, sym, ap, subst, ◌∙◌, append-nil}
use Rattle.std.proofs.Common.{append_assoc}
use Rattle.std.proofs.lemmas.Grind.{flat_map-append}
use Rattle.std.proofs.KnownBytes.{Appends-trans}
use Rattle.std.specs.Io.KnownBytes.{Appends}
use Rattle.btx_text.specs.declared.fault.Fault.{Fault}
use Rattle.btx_machine.proofs.Common.{Line, AppendsPrefix, ended_line}
use Rattle.btx_machine.specs.declared.wholeness.Wholeness.{Wholeness}
use Rattle.btx_machine.specs.declared.wholeness.Wholeness.TheVariants.{Whole, CutOff, Lost}
use Rattle.btx_machine.specs.laws.Noting.{AddsLines, Printed, BrokenOff, printed}
use Rattle.btx_machine.specs.refinement.Joined.{Beginning, HasNoted}
use Rattle.btx_machine.specs.refinement.Wholeness.{wholeness_after}

-- lines, and then further ones
pub adds_then : (a b c : Option (List Line)) (xs ys : List Line) → AddsLines a b xs → AddsLines b c ys → AddsLines a c (xs ++ ys)
adds_then None None None xs ys h k = tt
adds_then None None (Some z) xs ys h k = k
adds_then None (Some y) c xs ys h k = absurd h
adds_then (Some x) None None xs ys h k = tt
adds_then (Some x) None (Some z) xs ys h k = absurd k
adds_then (Some x) (Some y) None xs ys h k = tt
adds_then (Some x) (Some y) (Some z) xs ys h k = k ∙ ap (λ l. l ++ ys) h ∙ append_assoc x xs ys

printed_more : (lines : List Line) (line : Line) → printed (lines ++ line ∷ []) ≡ printed lines ++ ended_line line.text
printed_more lines line =
    flat_map-append (λ (line : Line). ended_line line.text) lines (line ∷ []) ∙ ap (λ l. printed lines ++ l) (append-nil (ended_line line.text))

module _ (a b c : Option (List Line)) (x y z : Option (List ℕ)) (line : Line) (adds : AddsLines b c (line ∷ [])) where
  -- a line was noted and logged
  line_printed : Printed (a, b) (x, y) → Appends y z (ended_line line.text) → Printed (a, c) (x, z)
  line_printed h more = record {
    lines = h.lines ++ line ∷ [];
    are_noted = adds_then a b c h.lines (line ∷ []) h.are_noted adds;
    are_logged = subst (Appends x z) (sym (printed_more h.lines line)) (Appends-trans x y z (printed h.lines) (ended_line line.text) h.are_logged more);
  }

  -- a line was noted, and its writing failed
  line_broken : Printed (a, b) (x, y) → AppendsPrefix y z (ended_line line.text) → BrokenOff (a, c) (x, z)
  line_broken h part = record {
    lines = h.lines;
    last = line;
    front = part.front;
    rest = part.rest;
    are_noted = adds_then a b c h.lines (line ∷ []) h.are_noted adds;
    last_is = part.whole;
    are_logged = Appends-trans x y z (printed h.lines) part.front h.are_logged part.received;
  }

-- after one more line the log has what was noted, as its answer says
has_noted_after : {T : Type 0} (since : Beginning) (b c : Option (List Line)) (y z : Option (List ℕ)) (wholeness : Wholeness) (line : Line) (answer : Result T Fault)
    → AddsLines b c (line ∷ []) → OnOk answer (Appends y z (ended_line line.text)) → OnErr answer (AppendsPrefix y z (ended_line line.text))
    → HasNoted since b y wholeness → HasNoted since c z (wholeness_after (is_err answer) wholeness)
has_noted_after since b c y z Whole line (Ok v) adds ok err h = line_printed since.noted b c since.received y z line adds h ok
has_noted_after since b c y z Whole line (Err f) adds ok err h = line_broken since.noted b c since.received y z line adds h err
has_noted_after since b c y z CutOff line (Ok v) adds ok err h = tt
has_noted_after since b c y z CutOff line (Err f) adds ok err h = tt
has_noted_after since b c y z Lost line (Ok v) adds ok err h = tt
has_noted_after since b c y z Lost line (Err f) adds ok err h = tt

-- the same by what the code reads of the line and of the answer
pub has_noted_now : {T : Type 0} (since : Beginning) (b c : Option (List Line)) (y z : Option (List ℕ)) (wholeness now : Wholeness) (line : Line) (text : List ℕ)
    (answer : Result T Fault) (failed : Bool) → text ≡ line.text → failed ≡ is_err answer → now ≡ wholeness_after failed wholeness
    → AddsLines b c (line ∷ []) → OnOk answer (Appends y z (ended_line text)) → OnErr answer (AppendsPrefix y z (ended_line text))
    → HasNoted since b y wholeness → HasNoted since c z now
has_noted_now since b c y z wholeness now line text answer failed is_text is_failed is_now adds ok err h =
    subst (HasNoted since c z) (sym (is_now ∙ ap (λ f. wholeness_after f wholeness) is_failed))
    (has_noted_after since b c y z wholeness line answer adds
    (subst (λ t. OnOk answer (Appends y z (ended_line t))) is_text ok)
    (subst (λ t. OnErr answer (AppendsPrefix y z (ended_line t))) is_text err) h)
