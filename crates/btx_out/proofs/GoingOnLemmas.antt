-- How what is left of a pending line goes on over several bytes.
use Rattle.std.proofs.Common.{◌≡◌, ℕ, ◌+◌, ◌-◌, ◌<◌, ◌≤◌, Bool, true, false, cond, List, [], ◌∷◌, ◌++◌, length, Option, refl, sym, subst, ◌∙◌, ap, arith}
use Rattle.std.proofs.Common.{append_assoc, length-append}
use Rattle.std.proofs.lemmas.List.{append-nil}
use Rattle.std.proofs.lemmas.Bool.{lt-ltb, le-ltb}
use Rattle.std.specs.Io.KnownBytes.{Appends}
use Rattle.std.proofs.KnownBytes.{Appends-trans, Appends-nil}
use Rattle.btx_text.specs.language.Class.{is_white}
use Rattle.btx_out.specs.language.Breaking.{skip_white, till_white, from_white, indented, last_white}
use Rattle.btx_out.specs.laws.Breaking.{Left, Collecting, Passing, Swallowing}
use Rattle.btx_out.specs.laws.States.{break_full, step, left_after, sure_after}
use Rattle.btx_out.specs.refinement.Parts.{Advances}
use Rattle.btx_out.specs.language.Pieces.{AppendsPrefix}
use Rattle.btx_out.proofs.PieceLemmas.{prefix-after, prefix-longer}

-- ---- some bytes, and then others

left_after-append : (line_length : ℕ) (state : Left) (xs ys : List ℕ) → left_after line_length state (xs ++ ys)
    ≡ left_after line_length (left_after line_length state xs) ys
unfolding left_after
left_after-append line_length state [] ys = refl
left_after-append line_length state (x ∷ xs) ys = left_after-append line_length (step line_length state x).0 xs ys

sure_after-append : (line_length : ℕ) (state : Left) (xs ys : List ℕ) → sure_after line_length state (xs ++ ys) ≡ sure_after line_length state xs
    ++ sure_after line_length (left_after line_length state xs) ys
unfolding left_after sure_after
sure_after-append line_length state [] ys = refl
sure_after-append line_length state (x ∷ xs) ys =
    let next = (step line_length state x).0 in
    rw (sure_after-append line_length next xs ys)
    (sym (append_assoc (step line_length state x).1 (sure_after line_length next xs) (sure_after line_length (left_after line_length next xs) ys)))

-- ---- one part after another

-- nothing has been done yet
pub goes_nowhere : (line_length : ℕ) (state : Left) (bytes : List ℕ) (received : Option (List ℕ))
    → Advances line_length state bytes state bytes received received
goes_nowhere line_length state bytes received = record { written = []; lefts = refl; committed_lines = refl; received = Appends-nil received }

-- a part after the parts before
pub goes_further : (line_length : ℕ) (s t u : Left) (xs ys zs : List ℕ) (a b c : Option (List ℕ)) → Advances line_length s xs t ys a b
    → Advances line_length t ys u zs b c → Advances line_length s xs u zs a c
goes_further line_length s t u xs ys zs a b c p q = record {
  written = p.written ++ q.written;
  lefts = p.lefts ∙ q.lefts;
  committed_lines = p.committed_lines ∙ ap (λ more. p.written ++ more) q.committed_lines ∙ sym (append_assoc p.written q.written (sure_after line_length u zs));
  received = Appends-trans a b c p.written q.written p.received q.received;
}

-- all parts
pub goes_all : (line_length : ℕ) (s t : Left) (xs ys : List ℕ) (a b : Option (List ℕ)) → length ys ≡ 0 → Advances line_length s xs t ys a b
    → (t ≡ left_after line_length s xs) × Appends a b (sure_after line_length s xs)
unfolding left_after sure_after
goes_all line_length s t xs [] a b none p = (sym p.lefts, subst (Appends a b) (sym (p.committed_lines ∙ append-nil p.written)) p.received)
goes_all line_length s t xs (c ∷ zs) a b none p = absurd (omega arith)

-- a part that fails
pub goes_partly : (line_length : ℕ) (s t : Left) (xs ys : List ℕ) (a b c : Option (List ℕ)) → Advances line_length s xs t ys a b
    → AppendsPrefix b c (sure_after line_length t ys) → AppendsPrefix a c (sure_after line_length s xs)
goes_partly line_length s t xs ys a b c p q = subst (AppendsPrefix a c) (sym p.committed_lines) (prefix-after a b c p.written (sure_after line_length t ys) p.received q)

-- ---- collecting

collect_some : (line_length : ℕ) (kept bytes : List ℕ) → length kept + length bytes ≤ line_length →
    (left_after line_length (Collecting kept) bytes ≡ Collecting (kept ++ bytes)) × (sure_after line_length (Collecting kept) bytes ≡ [])
unfolding left_after sure_after
collect_some line_length kept [] fits = (ap Collecting (sym (append-nil kept)), refl)
collect_some line_length kept (b ∷ bs) fits =
    let short : length kept < line_length = omega arith in
    let more = collect_some line_length (kept ++ b ∷ []) bs (omega (arith, length-append kept (b ∷ []))) in
    rw (lt-ltb (length kept) line_length short) (more.0 ∙ ap Collecting (append_assoc kept (b ∷ []) bs), more.1)

-- the byte that fills the line
step_full : (line_length : ℕ) (kept : List ℕ) (b : ℕ) (whole : List ℕ) → whole ≡ kept ++ b ∷ [] → line_length ≤ length kept
    → step line_length (Collecting kept) b ≡ break_full whole (last_white (line_length + 1) whole)
step_full line_length kept b whole is full = rw (is, le-ltb (length kept) line_length full) refl

-- one byte
left_after-one : (line_length : ℕ) (state : Left) (b : ℕ) → left_after line_length state (b ∷ []) ≡ (step line_length state b).0
unfolding left_after
left_after-one line_length state b = refl

sure_after-one : (line_length : ℕ) (state : Left) (b : ℕ) → sure_after line_length state (b ∷ []) ≡ (step line_length state b).1
unfolding sure_after
sure_after-one line_length state b = append-nil (step line_length state b).1

collect_last : (line_length : ℕ) (kept bytes : List ℕ) (b : ℕ) → length kept + length bytes ≡ line_length →
    (left_after line_length (Collecting kept) (bytes ++ b ∷ [])
    ≡ (break_full (kept ++ (bytes ++ b ∷ [])) (last_white (line_length + 1) (kept ++ (bytes ++ b ∷ [])))).0)
    × (sure_after line_length (Collecting kept) (bytes ++ b ∷ [])
    ≡ (break_full (kept ++ (bytes ++ b ∷ [])) (last_white (line_length + 1) (kept ++ (bytes ++ b ∷ [])))).1)
collect_last line_length kept bytes b full =
    let some = collect_some line_length kept bytes (omega arith) in
    let none : line_length ≤ length (kept ++ bytes) = omega (arith, length-append kept bytes) in
    let last = step_full line_length (kept ++ bytes) b (kept ++ (bytes ++ b ∷ [])) (sym (append_assoc kept bytes (b ∷ []))) none in
    let lefts = rw some.0 at (left_after-append line_length (Collecting kept) bytes (b ∷ [])) in
    let committed_lines = rw (some.0, some.1) at (sure_after-append line_length (Collecting kept) bytes (b ∷ [])) in (
      lefts ∙ left_after-one line_length (Collecting (kept ++ bytes)) b ∙ ap (λ s. s.0) last,
      committed_lines ∙ sure_after-one line_length (Collecting (kept ++ bytes)) b
          ∙ ap (λ s. s.1) last,
    )

-- the last byte of several
split_last : (bytes : List ℕ) → 0 < length bytes → (front : List ℕ) × (last : ℕ) × (bytes ≡ front ++ last ∷ [])
split_last [] some = absurd (omega arith)
split_last (b ∷ []) some = ([], b, refl)
split_last (b ∷ c ∷ bs) some = let more = split_last (c ∷ bs) (omega arith) in (b ∷ more.0, more.1, ap (λ xs. b ∷ xs) more.2)

collect_full : (line_length : ℕ) (kept bytes : List ℕ) → length kept ≤ line_length → length kept + length bytes ≡ line_length + 1 →
    (left_after line_length (Collecting kept) bytes ≡ (break_full (kept ++ bytes) (last_white (line_length + 1) (kept ++ bytes))).0)
    × (sure_after line_length (Collecting kept) bytes ≡ (break_full (kept ++ bytes) (last_white (line_length + 1) (kept ++ bytes))).1)
collect_full line_length kept bytes short full =
    let cut = split_last bytes (omega arith) in
    rw cut.2 (collect_last line_length kept cut.0 cut.1 (omega (arith, ap length cut.2, length-append cut.0 (cut.1 ∷ []))))

-- all the bytes fit
pub goes_collected : (line_length : ℕ) (kept kept' bytes : List ℕ) (received : Option (List ℕ)) → length kept ≤ line_length
    → length bytes < line_length + 1 - length kept → kept' ≡ kept ++ bytes →
    Advances line_length (Collecting kept) bytes (Collecting kept') [] received received
unfolding left_after sure_after
goes_collected line_length kept kept' bytes received short fits is =
    let some = collect_some line_length kept bytes (omega arith) in
    record { written = []; lefts = some.0 ∙ ap Collecting (sym is); committed_lines = some.1; received = Appends-nil received }

-- the line is full
pub goes_full : (line_length : ℕ) (kept full bytes first rest : List ℕ) (next : Left) (before after : Option (List ℕ)) → length kept ≤ line_length
    → bytes ≡ first ++ rest → length first ≡ line_length + 1 - length kept → full ≡ kept ++ first →
    next ≡ (break_full full (last_white (length full) full)).0 → Appends before after (break_full full (last_white (length full) full)).1 →
    Advances line_length (Collecting kept) bytes next rest before after
goes_full line_length kept full bytes first rest next before after short cut room is state received =
    let len : length full ≡ line_length + 1 = rw is (omega (arith, length-append kept first)) in
    let all = rw (← is, ← len) at (collect_full line_length kept first short (omega arith)) in
    record {
      written = (break_full full (last_white (length full) full)).1;
      lefts = rw cut (left_after-append line_length (Collecting kept) first rest ∙ ap (λ s. left_after line_length s rest) (all.0 ∙ sym state));
      committed_lines = rw cut (sure_after-append line_length (Collecting kept) first rest ∙ rw (all.0, all.1, state) refl);
      received = received;
    }

-- ---- passing

abbrev PassesOn : ℕ → List ℕ → Type 0
PassesOn line_length ink = (left_after line_length Passing ink ≡ Passing) × (sure_after line_length Passing ink ≡ ink)

passes_more : (line_length b : ℕ) (ink : List ℕ) → is_white b ≡ false → PassesOn line_length ink → PassesOn line_length (b ∷ ink)
unfolding left_after sure_after
passes_more line_length b ink test more = rw test (more.0, ap (λ xs. b ∷ xs) more.1)

goes_ink : (line_length : ℕ) (bytes : List ℕ) → PassesOn line_length (till_white bytes)
unfolding left_after sure_after till_white
goes_ink line_length [] = (refl, refl)
goes_ink line_length (b ∷ bs) = at (is_white b) refl (goes_ink line_length bs) where
  at : (t : Bool) → is_white b ≡ t → PassesOn line_length (till_white bs) → PassesOn line_length (cond t [] (b ∷ till_white bs))
  at true test more = (refl, refl)
  at false test more = passes_more line_length b (till_white bs) test more

-- the two sides of the first whitespace byte
pub till_from : (bytes : List ℕ) → bytes ≡ till_white bytes ++ from_white bytes
unfolding till_white from_white
till_from [] = refl
till_from (b ∷ bs) = at (is_white b) (till_from bs) where
  at : (t : Bool) → bs ≡ till_white bs ++ from_white bs → b ∷ bs ≡ cond t [] (b ∷ till_white bs) ++ cond t (b ∷ bs) (from_white bs)
  at true more = refl
  at false more = ap (λ xs. b ∷ xs) more

-- a run of whitespace begins with whitespace
pub from_white-white : (bytes : List ℕ) (b : ℕ) (bs : List ℕ) → from_white bytes ≡ b ∷ bs → is_white b ≡ true
unfolding from_white
from_white-white [] b bs is = cc
from_white-white (c ∷ cs) b bs is = at (is_white c) refl is (λ h. from_white-white cs b bs h) where
  at : (t : Bool) → is_white c ≡ t → cond t (c ∷ cs) (from_white cs) ≡ b ∷ bs → (from_white cs ≡ b ∷ bs → is_white b ≡ true) → is_white b ≡ true
  at true test is more = let same : c ≡ b = cc in rw same at test
  at false test is more = more is

-- no whitespace comes
pub goes_passed : (line_length : ℕ) (bytes : List ℕ) (before after : Option (List ℕ)) → length (from_white bytes) ≡ 0 → Appends before after (till_white bytes)
    → Advances line_length Passing bytes Passing [] before after
unfolding left_after sure_after
goes_passed line_length bytes before after none received =
    let ink = goes_ink line_length bytes in
    at (from_white bytes) none (till_from bytes) where
      at : (rest : List ℕ) → length rest ≡ 0 → bytes ≡ till_white bytes ++ rest → Advances line_length Passing bytes Passing [] before after
      at [] none is =
          let ink = goes_ink line_length bytes in
          let all : bytes ≡ till_white bytes = is ∙ append-nil (till_white bytes) in
          record {
            written = till_white bytes;
            lefts = ap (left_after line_length Passing) all ∙ ink.0;
            committed_lines = ap (sure_after line_length Passing) all ∙ ink.1 ∙ sym (append-nil (till_white bytes));
            received = received;
          }
      at (c ∷ cs) none is = absurd (omega arith)

-- what is passed on, and the end of the line at the first whitespace byte
passed_ended : (line_length : ℕ) (bytes : List ℕ) (b : ℕ) (others : List ℕ) → from_white bytes ≡ b ∷ others →
    (left_after line_length Passing bytes ≡ left_after line_length Swallowing others)
    × (sure_after line_length Passing bytes ≡ (till_white bytes ++ 10 ∷ []) ++ sure_after line_length Swallowing others)
unfolding left_after sure_after
passed_ended line_length bytes b others is =
    let ink = goes_ink line_length bytes in
    let white = from_white-white bytes b others is in
    let all : bytes ≡ till_white bytes ++ b ∷ others = till_from bytes ∙ ap (λ xs. till_white bytes ++ xs) is in
    let lefts = left_after-append line_length Passing (till_white bytes) (b ∷ others) in
    let committed_lines = sure_after-append line_length Passing (till_white bytes) (b ∷ others) in
    let lefts' = rw (ink.0, white) at lefts in
    let sures' = rw (ink.0, ink.1, white) at committed_lines in (
      ap (left_after line_length Passing) all ∙ lefts',
      ap (sure_after line_length Passing) all ∙ sures'
          ∙ sym (append_assoc (till_white bytes) (10 ∷ []) (sure_after line_length Swallowing others)),
    )

pub goes_ended : (line_length : ℕ) (bytes : List ℕ) (b : ℕ) (others : List ℕ) (before mid after : Option (List ℕ)) → from_white bytes ≡ b ∷ others
    → Appends before mid (till_white bytes) → Appends mid after (10 ∷ []) →
    Advances line_length Passing bytes Swallowing others before after
goes_ended line_length bytes b others before mid after is first second =
    let all = passed_ended line_length bytes b others is in
    record { written = till_white bytes ++ 10 ∷ []; lefts = all.0; committed_lines = all.1; received = Appends-trans before mid after _ _ first second }

-- the writing of what is passed on fails
pub fails_passed : (line_length : ℕ) (bytes : List ℕ) (before after : Option (List ℕ)) → AppendsPrefix before after (till_white bytes)
    → AppendsPrefix before after (sure_after line_length Passing bytes)
fails_passed line_length bytes before after begins =
    let ink = goes_ink line_length bytes in
    let committed_lines = sure_after-append line_length Passing (till_white bytes) (from_white bytes) in
    let sures' = rw ink.1 at committed_lines in
    rw (ap (sure_after line_length Passing) (till_from bytes) ∙ sures') (prefix-longer before after _ _ begins)

-- or that of the line's end
pub fails_ended : (line_length : ℕ) (bytes : List ℕ) (b : ℕ) (others : List ℕ) (before mid after : Option (List ℕ)) → from_white bytes ≡ b ∷ others
    → Appends before mid (till_white bytes) → AppendsPrefix mid after (10 ∷ []) →
    AppendsPrefix before after (sure_after line_length Passing bytes)
fails_ended line_length bytes b others before mid after is first begins =
    rw (passed_ended line_length bytes b others is).1 (prefix-longer before after _ _ (prefix-after before mid after _ _ first begins))

-- ---- swallowing

pub skip_white-ink : (bytes : List ℕ) (b : ℕ) (bs : List ℕ) → skip_white bytes ≡ b ∷ bs → is_white b ≡ false
unfolding skip_white
skip_white-ink [] b bs is = cc
skip_white-ink (c ∷ cs) b bs is = at (is_white c) refl is (λ h. skip_white-ink cs b bs h) where
  at : (t : Bool) → is_white c ≡ t → cond t (skip_white cs) (c ∷ cs) ≡ b ∷ bs → (skip_white cs ≡ b ∷ bs → is_white b ≡ false) → is_white b ≡ false
  at true test is more = more is
  at false test is more = let same : c ≡ b = cc in rw same at test

-- whitespace changes nothing
goes_white : (line_length : ℕ) (bytes : List ℕ) → (left_after line_length Swallowing bytes ≡ left_after line_length Swallowing (skip_white bytes))
    × (sure_after line_length Swallowing bytes ≡ sure_after line_length Swallowing (skip_white bytes))
unfolding left_after sure_after skip_white
goes_white line_length [] = (refl, refl)
goes_white line_length (b ∷ bs) = at (is_white b) refl (goes_white line_length bs) where
  at : (t : Bool) → is_white b ≡ t → (left_after line_length Swallowing bs ≡ left_after line_length Swallowing (skip_white bs))
      × (sure_after line_length Swallowing bs ≡ sure_after line_length Swallowing (skip_white bs)) →
      (left_after line_length Swallowing (b ∷ bs) ≡ left_after line_length Swallowing (cond t (skip_white bs) (b ∷ bs)))
      × (sure_after line_length Swallowing (b ∷ bs) ≡ sure_after line_length Swallowing (cond t (skip_white bs) (b ∷ bs)))
  at true test more = rw test (more.0, more.1)
  at false test more = (refl, refl)

-- all of it is whitespace
pub goes_swallowed : (line_length : ℕ) (bytes : List ℕ) (received : Option (List ℕ)) → length (skip_white bytes) ≡ 0
    → Advances line_length Swallowing bytes Swallowing [] received received
goes_swallowed line_length bytes received none =
    let all = goes_white line_length bytes in
    at (skip_white bytes) none all where
      at : (rest : List ℕ) → length rest ≡ 0 → (left_after line_length Swallowing bytes ≡ left_after line_length Swallowing rest)
          × (sure_after line_length Swallowing bytes ≡ sure_after line_length Swallowing rest)
          → Advances line_length Swallowing bytes Swallowing [] received received
      at [] none all = record { written = []; lefts = all.0; committed_lines = all.1; received = Appends-nil received }
      at (c ∷ cs) none all = absurd (omega arith)

-- something follows it
pub goes_begun : (line_length : ℕ) (bytes : List ℕ) (b : ℕ) (others kept : List ℕ) (received : Option (List ℕ)) → skip_white bytes ≡ b ∷ others
    → kept ≡ indented (b ∷ []) →
    Advances line_length Swallowing bytes (Collecting kept) others received received
unfolding left_after sure_after
goes_begun line_length bytes b others kept received is begun =
    let all = rw is at (goes_white line_length bytes) in
    let ink = skip_white-ink bytes b others is in
    let all' = rw ink at all in
    record { written = []; lefts = rw begun all'.0; committed_lines = rw begun all'.1; received = Appends-nil received }
