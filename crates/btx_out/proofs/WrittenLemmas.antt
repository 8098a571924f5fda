-- For callers: what a breaker has written after several lines, and some of the next.
use Rattle.std.proofs.Common.{◌≡◌, ℕ, ◌≤◌, List, [], ◌∷◌, ◌++◌, Option, refl, sym, subst, ◌∙◌, ap, append_assoc}
use Rattle.std.proofs.lemmas.List.{append-nil}
use Rattle.std.proofs.lemmas.List.Concat.{flat_map-append}
use Rattle.std.specs.List.{flat_map}
use Rattle.std.specs.Io.KnownBytes.{Appends}
use Rattle.std.proofs.KnownBytes.{Appends-trans}
use Rattle.btx_out.specs.language.Breaking.{cut_of, cut_within, committed, wrap, written_of}
use Rattle.btx_out.specs.laws.Breaking.{Collecting, left}
use Rattle.btx_out.specs.language.Breakers.{written_at_end}
use Rattle.btx_out.specs.refinement.Breakers.{Held, holding, AppendsRest, AppendsPartOfRest, Puts, PutsPart, Ends, EndsPart, Finishes, FinishesPart}
use Rattle.btx_out.specs.language.Pieces.{AppendsPrefix}
use Rattle.btx_out.specs.laws.States.{sure_after, wrap_after}
use Rattle.btx_out.proofs.BreakLemmas.{go_on, wrap_on}
use Rattle.btx_out.proofs.PieceLemmas.{prefix-after}

-- a new breaker holds what is left of no text, and nothing is written
pub left-nil : (line_length : ℕ) → left line_length [] ≡ Collecting []
unfolding cut_of cut_within
left-nil line_length = refl

pub written_of-nil : (line_length : ℕ) → written_of line_length [] [] ≡ []
unfolding cut_of cut_within
written_of-nil line_length = refl

-- what was done, and the rest
rest_written : (start before after : Option (List ℕ)) (front done whole : List ℕ) → Appends start before (front ++ done) → AppendsRest before after done whole
    → Appends start after (front ++ whole)
rest_written start before after front done whole so_far more =
    subst (Appends start after) (append_assoc front done more.written ∙ ap (λ xs. front ++ xs) more.joined)
    (Appends-trans start before after (front ++ done) more.written so_far more.received)

part_written : (start before after : Option (List ℕ)) (front done whole : List ℕ) → Appends start before (front ++ done)
    → AppendsPartOfRest before after done whole → AppendsPrefix start after (front ++ whole)
part_written start before after front done whole so_far more =
    subst (AppendsPrefix start after) (append_assoc front done more.written ∙ ap (λ xs. front ++ xs) more.joined)
    (prefix-after start before after (front ++ done) more.written so_far more.received)

-- ---- more of the pending line

pub written_of-put : (line_length : ℕ) (lines : List (List ℕ)) (text bytes : List ℕ) (old new : Held) (start before after : Option (List ℕ))
    → old ≡ holding line_length (left line_length text) →
    Appends start before (written_of line_length lines text) → Puts old new bytes before after → (new ≡ holding line_length (left line_length (text ++ bytes)))
    × Appends start after (written_of line_length lines (text ++ bytes))
written_of-put line_length lines text bytes old new start before after held so_far puts =
    let puts' : Puts (holding line_length (left line_length text)) new bytes before after = rw held at puts in
    let more = puts' text refl in
    (more.0, rest_written start before after (flat_map (wrap line_length) lines) (committed line_length text) (committed line_length (text ++ bytes)) so_far more.1)

pub begins-put : (line_length : ℕ) (lines : List (List ℕ)) (text bytes : List ℕ) (old : Held) (start before after : Option (List ℕ))
    → old ≡ holding line_length (left line_length text) →
    Appends start before (written_of line_length lines text) → PutsPart old bytes before after
    → AppendsPrefix start after (written_of line_length lines (text ++ bytes))
begins-put line_length lines text bytes old start before after held so_far puts =
    let puts' : PutsPart (holding line_length (left line_length text)) bytes before after = rw held at puts in
    part_written start before after (flat_map (wrap line_length) lines) (committed line_length text) (committed line_length (text ++ bytes)) so_far (puts' text refl)

-- ---- the end of the pending line

one_more : (line_length : ℕ) (lines : List (List ℕ)) (text : List ℕ) → flat_map (wrap line_length) lines ++ wrap line_length text
    ≡ written_of line_length (lines ++ text ∷ []) []
unfolding cut_of cut_within
one_more line_length lines text =
    sym (append-nil (flat_map (wrap line_length) (lines ++ text ∷ [])) ∙ flat_map-append (wrap line_length) lines (text ∷ [])
    ∙ ap (λ xs. flat_map (wrap line_length) lines ++ xs) (append-nil (wrap line_length text)))

module _ (line_length : ℕ) (lines : List (List ℕ)) (text : List ℕ) (old : Held) (start before after : Option (List ℕ))
    (held : old ≡ holding line_length (left line_length text)) (so_far : Appends start before (written_of line_length lines text)) where
  pub written_of-newline : Ends old before after → Appends start after (written_of line_length (lines ++ text ∷ []) [])
  written_of-newline ends =
      let ends' : Ends (holding line_length (left line_length text)) before after = rw held at ends in
      subst (Appends start after) (one_more line_length lines text)
      (rest_written start before after (flat_map (wrap line_length) lines) (committed line_length text) (wrap line_length text) so_far (ends' text refl))

  pub begins-newline : EndsPart old before after → AppendsPrefix start after (written_of line_length (lines ++ text ∷ []) [])
  begins-newline ends =
      let ends' : EndsPart (holding line_length (left line_length text)) before after = rw held at ends in
      subst (AppendsPrefix start after) (one_more line_length lines text)
      (part_written start before after (flat_map (wrap line_length) lines) (committed line_length text) (wrap line_length text) so_far (ends' text refl))

  -- ---- the very end

  pub written_of-finish : Finishes old before after → Appends start after (flat_map (wrap line_length) lines ++ written_at_end line_length text)
  written_of-finish ends =
      let ends' : Finishes (holding line_length (left line_length text)) before after = rw held at ends in
      rest_written start before after (flat_map (wrap line_length) lines) (committed line_length text) (written_at_end line_length text) so_far (ends' text refl)

  pub begins-finish : FinishesPart old before after → AppendsPrefix start after (flat_map (wrap line_length) lines ++ written_at_end line_length text)
  begins-finish ends =
      let ends' : FinishesPart (holding line_length (left line_length text)) before after = rw held at ends in
      part_written start before after (flat_map (wrap line_length) lines) (committed line_length text) (written_at_end line_length text) so_far (ends' text refl)

-- ---- what was written begins what more of the same lines writes

pub written_of-longer : (line_length : ℕ) (lines : List (List ℕ)) (t u : List ℕ) → 3 ≤ line_length → written_of line_length lines (t ++ u)
    ≡ written_of line_length lines t ++ sure_after line_length (left line_length t) u
written_of-longer line_length lines t u wide =
    let front = flat_map (wrap line_length) lines in
    ap (λ xs. front ++ xs) (go_on line_length u t wide).1 ∙ sym (append_assoc front (committed line_length t) (sure_after line_length (left line_length t) u))

pub written_of-more : (line_length : ℕ) (lines : List (List ℕ)) (t u : List ℕ) (others : List (List ℕ)) (pending : List ℕ) → 3 ≤ line_length →
    written_of line_length (lines ++ (t ++ u) ∷ others) pending ≡ written_of line_length lines t
    ++ (wrap_after line_length (left line_length t) u ++ written_of line_length others pending)
written_of-more line_length lines t u others pending wide =
    let cut = flat_map-append (wrap line_length) lines ((t ++ u) ∷ others) in
    let ended = wrap_on line_length t u wide in
    joined (flat_map (wrap line_length) lines) (committed line_length t) (wrap_after line_length (left line_length t) u) (flat_map (wrap line_length) others)
    (committed line_length pending) _ _ ended cut where
      joined : (front done more rest last ended all : List ℕ) → ended ≡ done ++ more → all ≡ front ++ (ended ++ rest) → all ++ last ≡ (front ++ done)
          ++ (more ++ (rest ++ last))
      joined front done more rest last ended all is cut = rw (cut, is) (simp append_assoc)

ended_longer : (line_length : ℕ) (lines : List (List ℕ)) (t u : List ℕ) → 3 ≤ line_length
    → (more : List ℕ) × (flat_map (wrap line_length) lines ++ wrap line_length (t ++ u) ≡ written_of line_length lines t ++ more)
ended_longer line_length lines t u wide =
    let front = flat_map (wrap line_length) lines in
    let more = wrap_after line_length (left line_length t) u in
    (more, ap (λ xs. front ++ xs) (wrap_on line_length t u wide) ∙ sym (append_assoc front (committed line_length t) more))

-- at the very end
pub finished-longer : (line_length : ℕ) (lines : List (List ℕ)) (t u : List ℕ) → 3 ≤ line_length
    → (more : List ℕ) × (flat_map (wrap line_length) lines ++ written_at_end line_length (t ++ u) ≡ written_of line_length lines t ++ more)
unfolding cut_of cut_within
finished-longer line_length lines [] [] wide = ([], sym (append-nil (written_of line_length lines [])))
finished-longer line_length lines [] (b ∷ bs) wide = ended_longer line_length lines [] (b ∷ bs) wide
finished-longer line_length lines (b ∷ bs) u wide = ended_longer line_length lines (b ∷ bs) u wide
