-- What was written and logged goes on.
use Rattle.std.proofs.Common.{◌≡◌, ℕ, ◌≤◌, List, [], ◌∷◌, ◌++◌, ◌⊎◌, inl, inr, sym, ap, ◌∙◌, refl, append-nil, append_assoc}
use Rattle.btx_machine.proofs.Common.{left, Out, IsPrefix, Starts, so_far}
use Rattle.btx_out.specs.language.Breaking.{written_of}
use Rattle.btx_out.specs.laws.States.{wrap_after, sure_after}
use Rattle.btx_out.proofs.WrittenLemmas.{written_of-longer, written_of-more}
use Rattle.btx_machine.specs.laws.Goings.{Grown, Ended}

pub begins_self : (xs : List ℕ) → IsPrefix xs xs
begins_self xs = ([], sym (append-nil xs))

pub begins_trans : (xs ys zs : List ℕ) → IsPrefix xs ys → IsPrefix ys zs → IsPrefix xs zs
begins_trans xs ys zs f g = (f.0 ++ g.0, g.1 ∙ ap (λ l. l ++ g.0) f.1 ∙ append_assoc xs f.0 g.0)

grown_self : (s : Out) → Grown s s
grown_self s = ([], refl, sym (append-nil s.pending))

pub starts_self : (s : Out) → Starts s s
starts_self s = (inl (grown_self s), begins_self s.log)

-- a text that went on twice
twice : (xs more later : List ℕ) → (xs ++ more) ++ later ≡ xs ++ (more ++ later)
twice xs more later = append_assoc xs more later

goes_on : (r s t : Out) → Grown r s ⊎ Ended r s → Grown s t ⊎ Ended s t → Grown r t ⊎ Ended r t
goes_on r s t (inl f) (inl g) = inl (f.0 ++ g.0, g.1 ∙ f.1, g.2 ∙ ap (λ l. l ++ g.0) f.2 ∙ twice r.pending f.0 g.0)
goes_on r s t (inl f) (inr g) =
    inr (f.0 ++ g.0, g.1, g.2 ∙ ap (λ l. l ++ (s.pending ++ g.0) ∷ g.1) f.1 ∙ ap (λ l. r.lines ++ l ∷ g.1) (ap (λ l. l ++ g.0) f.2 ∙ twice r.pending f.0 g.0))
goes_on r s t (inr f) (inl g) = inr (f.0, f.1, g.1 ∙ f.2)
goes_on r s t (inr f) (inr g) =
    inr (
      f.0,
      f.1 ++ (s.pending ++ g.0) ∷ g.1,
      g.2 ∙ ap (λ l. l ++ (s.pending ++ g.0) ∷ g.1) f.2
          ∙ append_assoc r.lines ((r.pending ++ f.0) ∷ f.1) ((s.pending ++ g.0) ∷ g.1),
    )

pub starts_trans : (r s t : Out) → Starts r s → Starts s t → Starts r t
starts_trans r s t f g = (goes_on r s t f.0 g.0, begins_trans r.log s.log t.log f.1 g.1)

-- the list of references goes on too, for each length of a line
pub written_begins : (line_length : ℕ) (s t : Out) → 3 ≤ line_length → Grown s t ⊎ Ended s t → IsPrefix (so_far line_length s) (so_far line_length t)
written_begins line_length s t wide (inl f) = (
  sure_after line_length (left line_length s.pending) f.0,
  ap (λ lines. written_of line_length lines t.pending) f.1 ∙ ap (λ text. written_of line_length s.lines text) f.2
      ∙ written_of-longer line_length s.lines s.pending f.0 wide,
)
written_begins line_length s t wide (inr f) = (
  wrap_after line_length (left line_length s.pending) f.0 ++ written_of line_length f.1 t.pending,
  ap (λ lines. written_of line_length lines t.pending) f.2 ∙ written_of-more line_length s.lines s.pending f.0 f.1 t.pending wide,
)
