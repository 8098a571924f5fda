-- A function whose body is broken off.
use Rattle.std.proofs.Common.{◌≡◌, ℕ, List, [], length, take, ap, ◌∙◌, Some}
use Rattle.btx_bst.specs.declared.token.Token.{Token}
use Rattle.btx_bst.specs.language.Places.{Place}
use Rattle.btx_bst.specs.language.Complaints.{Complaint}
use Rattle.btx_bst.specs.language.BodyText.{Inside, Broken, body_end}
use Rattle.btx_bst.specs.language.Style.{Style}
use Rattle.btx_bst.specs.language.Outcomes.{outcome}
use Rattle.btx_bst.specs.language.Commands.{function_ended, inside_at}
use Rattle.btx_bst.specs.refinement.Views.{OpenBodies, open_bodies, inside_of_reader}
use Rattle.btx_bst.proofs.StyleLemmas.{broken-grows}
use Rattle.btx_bst.specs.refinement.Bodies.{FunctionBody}

pub defined-broken : (style : Style) (lowered : List ℕ) (p : Place) (o : OpenBodies Token) (c : Complaint) (t : Inside) (n m : ℕ) (bodies : List FunctionBody)
    (texts : List (List ℕ)) → o ≡ open_bodies [] [] → Broken c t ≡ body_end style.names (inside_of_reader p o style.bodies style.texts style.items)
    → n ≡ length style.bodies → bodies ≡ take n t.bodies → m ≡ length style.texts → texts ≡ take m t.texts
    → outcome (Some c) (record style { bodies = bodies; texts = texts; items = t.items }) t.place
    ≡ function_ended style lowered (body_end style.names (inside_at style p))
defined-broken style lowered p o c t n m bodies texts new e count cut count_texts cut_texts =
    let e' : Broken c t ≡ body_end style.names (inside_at style p) = rw new at e in
    let grows = broken-grows style.names (inside_at style p) t c e' in
    let same : bodies ≡ style.bodies = cut ∙ ap (λ k. take k t.bodies) count ∙ grows.0.1 in
    let same_texts : texts ≡ style.texts = cut_texts ∙ ap (λ k. take k t.texts) count_texts ∙ grows.1.1 in
    let with_bodies = λ (bs : List FunctionBody). outcome (Some c) (record style { bodies = bs; texts = texts; items = t.items }) t.place in
    let with_texts = λ (ts : List (List ℕ)). outcome (Some c) (record style { texts = ts; items = t.items }) t.place in
    ap with_bodies same ∙ ap with_texts same_texts ∙ ap (function_ended style lowered) e'
