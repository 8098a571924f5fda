-- What is read of an open file, piece by piece.
use Rattle.std.proofs.Common.{◌≡◌, ◌∙◌, ℕ, ◌+◌, ◌-◌, ◌<◌, ◌≤◌, List, [], ◌++◌, Option, None, Some, IfSome, Ok, length, min, take, ap, refl, sym, subst}
use Rattle.std.proofs.Common.{append-nil, append_assoc, length-append, length-take-le, take_all, true≢false, arith}
use mathlib.Core.Logic.{inl, inr}
use lib.Seq.{take-append-le, take-append_seam}
use Rattle.std.specs.Prelude.{◌⊎◌, zero, suc, Bool, true, false, if◌then◌else◌}
use Rattle.std.specs.declared.io.Error.{Error}
use Rattle.std.specs.Io.KnownBytes.{Consumes, IsAtEnd, ReadConsumes}
use Rattle.std.proofs.KnownBytes.{Consumes-nil, Consumes-trans}
use Rattle.btx_command.specs.FolderFiles.{most_read}

-- of a file that had `all` left and has `rest` left now, what was read comes after `before`, and as many bytes as `left` may still be read
pub record IsFront (all rest : Option (List ℕ)) (before after : List ℕ) (left : ℕ) : Type 0 where
  pub got : List ℕ
  pub appends : after ≡ before ++ got
  pub allowed : left + length got ≡ most_read
  pub consumes : Consumes all rest got

pub nothing_read : (all : Option (List ℕ)) (before : List ℕ) → IsFront all all before before most_read
nothing_read all before = record { got = []; appends = sym (append-nil before); allowed = refl; consumes = Consumes-nil all }

-- a piece of `count` bytes more was read
pub piece_read : (all rest later : Option (List ℕ)) (before mid after piece : List ℕ) (left less count : ℕ) → IsFront all rest before mid left
    → Consumes rest later (take count piece) → count ≤ length piece → count ≤ left → after ≡ mid ++ take count piece → less ≡ left - count
    → IsFront all later before after less
piece_read all rest later before mid after piece left less count h consumes fits within appends is =
    let it = take count piece in
    let long : length it ≡ count = length-take-le count piece fits in
    let allowed : left + length h.got ≡ most_read = h.allowed in
    let both : length (h.got ++ it) ≡ length h.got + length it = length-append h.got it in
    record {
      got = h.got ++ it;
      appends = appends ∙ ap (λ (front : List ℕ). front ++ it) h.appends ∙ append_assoc before h.got it;
      allowed = omega arith;
      consumes = Consumes-trans all rest later h.got it h.consumes consumes;
    }

-- what was appended, where that could be done, is the front of the room that was read into
pub piece_appended : (done : Bool) (before piece rest : List ℕ) (count : ℕ) → done ≡ true → count ≤ length piece
    → (if done then before ++ take count (piece ++ rest) else before) ≡ before ++ take count piece
piece_appended true before piece rest count is fits = ap (λ (it : List ℕ). before ++ it) (take-append-le count piece rest fits)
piece_appended false before piece rest count is fits = absurd (true≢false (sym is))

-- a file of which nothing was left after a reading had nothing left before it, if it gave nothing
ended_before : (rest later : Option (List ℕ)) → Consumes rest later [] → IsAtEnd later → IsAtEnd rest
ended_before None later consumes ends = tt
ended_before (Some xs) None consumes ends = absurd consumes
ended_before (Some xs) (Some ys) consumes ends = consumes ∙ ends

-- a reading that gives nothing is one at the end of the file, or one that asked for nothing
pub gives_nothing : (rest later : Option (List ℕ)) (piece : List ℕ) (left count most : ℕ) → ReadConsumes {E = Error} rest later (Ok count) piece → count ≡ 0
    → length piece ≡ min left most → 0 < most → (left ≡ 0) ⊎ IsAtEnd rest
gives_nothing rest later piece zero count most read none long some = inl refl
gives_nothing rest later piece (suc n) count most read none long some =
    let asked : 0 < length piece = omega arith in
    inr (ended_before rest later (subst (λ (k : ℕ). Consumes rest later (take k piece)) none read.0) (read.1 none asked))

-- the front of the file is read
pub front_read : (all rest : Option (List ℕ)) (before after : List ℕ) (left : ℕ) → IsFront all rest before after left → (left ≡ 0) ⊎ IsAtEnd rest
    → IfSome all (λ bytes. after ≡ before ++ take most_read bytes)
front_read None rest before after left h ends = tt
front_read (Some xs) None before after left h ends = absurd h.consumes
front_read (Some xs) (Some ys) before after left h (inl none) =
    let allowed : left + length h.got ≡ most_read = h.allowed in
    let long : most_read ≡ length h.got = omega arith in
    let front : take most_read xs ≡ h.got = ap (take most_read) h.consumes ∙ ap (λ (n : ℕ). take n (h.got ++ ys)) long ∙ take-append_seam h.got ys in
    h.appends ∙ ap (λ (it : List ℕ). before ++ it) (sym front)
front_read (Some xs) (Some ys) before after left h (inr ends) =
    let allowed : left + length h.got ≡ most_read = h.allowed in
    let whole : xs ≡ h.got = h.consumes ∙ ap (λ (it : List ℕ). h.got ++ it) ends ∙ append-nil h.got in
    let front : take most_read xs ≡ h.got = ap (take most_read) whole ∙ take_all most_read h.got (omega arith) in
    h.appends ∙ ap (λ (it : List ℕ). before ++ it) (sym front)
