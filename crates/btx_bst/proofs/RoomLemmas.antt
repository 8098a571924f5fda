-- Room for what follows: what was read leaves no more of the text, and what was made of it weighs no more than it did.
use Rattle.std.proofs.Common.{◌≡◌, ℕ, zero, suc, ◌+◌, ◌≤◌, List, length, Option, None, Some, Ok, Err, arith}
use Rattle.std.specs.Prelude.{Result}
use Rattle.std.proofs.lemmas.List.{length-drop}
use Rattle.std.specs.Borrow.{Bor}
use Rattle.btx_bst.specs.declared.callee.Kind.{Kind}
use Rattle.btx_bst.specs.declared.complaint.Complaint.{Complaint}
use Rattle.btx_text.specs.language.Limits.{greatest_file}
use Rattle.btx_bst.specs.language.Places.{Place, size}
use Rattle.btx_bst.specs.language.Style.{Style}
use Rattle.btx_bst.specs.language.Predefined.{predefined}
use Rattle.btx_bst.proofs.PlaceLemmas.{beginning-size}
use Rattle.btx_bst.specs.language.Names.{Names}
use Rattle.btx_bst.specs.language.Lists.{front_of, opening, closing, next_name, letters_at, list_at}
use Rattle.btx_bst.specs.language.Complaints.{NoCommand}
use Rattle.btx_bst.specs.language.BodyText.{Inside, BodyEnd, Whole, Broken, body_end}
use Rattle.btx_bst.specs.refinement.Weights.{names_weight, HasRoom}
use Rattle.btx_bst.specs.refinement.Views.{read_unit, read_text, listed_view, body_end_view, complaint_view}
use Rattle.btx_bst.proofs.ListLemmas.{Sized, opening-size, closing-size, name_at-size, list_at-weight, Weighs}
use Rattle.btx_bst.proofs.BodyTurnLemmas.{weight_of, inside_of, body_end-weight}
use Rattle.btx_bst.proofs.StyleLemmas.{Adds, body_end-grows}
use Rattle.btx_bst.specs.laws.StyleText.{unread_style}
use Rattle.btx_bst.specs.refinement.Fronts.{letters_len}
use Rattle.btx_bst.specs.laws.Places.{beginning}

unit-size : (r : Result (Unit {0}) Complaint) (q : Place) (n : ℕ) → Sized n (read_unit r q) → size q ≤ n
unit-size (Ok x) q n h = omega arith
unit-size (Err c) q n h = h

text-size : (r : Result (Bor (List ℕ)) Complaint) (q : Place) (n : ℕ) → Sized n (read_text r q) → size q ≤ n
text-size (Ok x) q n h = omega arith
text-size (Err c) q n h = h

pub opening-shorter : (r : Result (Unit {0}) Complaint) (p q : Place) → read_unit r q ≡ opening p → size q ≤ size p
opening-shorter r p q e = let h : Sized (size p) (read_unit r q) = rw e (opening-size p) in unit-size r q (size p) h

pub closing-shorter : (r : Result (Unit {0}) Complaint) (p q : Place) → read_unit r q ≡ closing p → size q ≤ size p
closing-shorter r p q e = let h : Sized (size p) (read_unit r q) = rw e (closing-size p) in unit-size r q (size p) h

pub name-shorter : (r : Result (Bor (List ℕ)) Complaint) (p q : Place) → read_text r q ≡ next_name p → size q ≤ size p
name-shorter r p q e = let h : Sized (size p) (read_text r q) = rw e (name_at-size p) in text-size r q (size p) h

front-shorter : (p : Place) (k : ℕ) → Sized (suc (size p)) (front_of NoCommand p p.line k)
unfolding size
front-shorter p zero = omega arith
front-shorter p (suc k) = omega (arith, length-drop (suc k) p.line)

letters-size : (r : Result (Bor (List ℕ)) Complaint) (p q : Place) → Sized (suc (size p)) (read_text r q) → (k : ℕ)
    → read_text r q ≡ front_of NoCommand p p.line k → size q ≤ size p
unfolding size
letters-size (Ok x) p q h k e = omega arith
letters-size (Err c) p q h zero e = let s : q ≡ p = cc in rw s (omega arith)
letters-size (Err c) p q h (suc k) e = absurd (cc)

pub letters-shorter : (r : Result (Bor (List ℕ)) Complaint) (p q : Place) → read_text r q ≡ letters_at p → size q ≤ size p
letters-shorter r p q e =
    let h : Sized (suc (size p)) (read_text r q) = rw e (front-shorter p (letters_len p.line)) in
    letters-size r p q h (letters_len p.line) e

listed-weight : (o : Option Complaint) (more : Names) (q : Place) (n : ℕ) (functions : List (Option (List ℕ)))
    → Weighs n functions (listed_view o more q).listing → size q + names_weight more ≤ n
listed-weight None more q n functions h = h.0
listed-weight (Some c) more q n functions h = h.0

pub list-room : (o : Option Complaint) (kind : Kind) (names more : Names) (p q : Place) → listed_view o more q ≡ list_at kind names p
    → size q + names_weight more ≤ size p + names_weight names
list-room o kind names more p q e =
    let h : Weighs (size p + names_weight names) names.functions (listed_view o more q).listing = rw e (list_at-weight kind names p) in
    listed-weight o more q (size p + names_weight names) names.functions h

-- a body, whole or broken off, weighs no more than it did, and has added bodies alone
abbrev pub Grown : Inside → Inside → Type 0
Grown s t = (weight_of t ≤ weight_of s) × Adds s.bodies s.texts t

grown-end : (names : Names) (s : Inside) (r : BodyEnd) → r ≡ body_end names s → Grown s (inside_of r)
grown-end names s r e = rw e (body_end-weight names s, body_end-grows names s)

pub body-room : (o : Option Complaint) (names : Names) (s t : Inside) → body_end_view o t ≡ body_end names s → Grown s t
body-room None names s t e = grown-end names s (Whole t) e
body-room (Some c) names s t e = grown-end names s (Broken (complaint_view c) t) e

-- a style of which nothing has been read has room
pub start-room : (style : Style) (file : List ℕ) (names : Names) (p : Place) (text : List ℕ) → style ≡ unread_style file names → names ≡ predefined
    → p ≡ beginning text → length text ≤ greatest_file → HasRoom style p
start-room style file names p text e n b h =
    let s : HasRoom (unread_style file predefined) (beginning text) = (omega (arith, beginning-size text, h), omega arith) in rw (e, n, b) s
