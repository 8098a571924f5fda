-- A body adds nothing to a style's items but messages.
use Rattle.std.proofs.Common.{ℕ, suc, List, [], ◌∷◌, ◌++◌, Option, None, Some}
use Rattle.btx_bst.specs.declared.callee.Callee.{Callee}
use Rattle.btx_bst.specs.declared.token.Token.{Token}
use Rattle.btx_bst.specs.declared.token.Token.TheVariants.{Quote, Run}
use Rattle.btx_bst.specs.language.Places.{size}
use Rattle.btx_bst.specs.language.Complaints.{Complaint, EndOfFile}
use Rattle.btx_bst.specs.language.Items.{Item, Message}
use Rattle.btx_bst.specs.language.Names.{Names, named}
use Rattle.btx_bst.specs.language.Turns.{Turn}
use Rattle.btx_bst.specs.language.Words.{BodyWord, Open, Close, String, Integer, Quoted, Name, Faulty, Unended, Ended, met_at}
use Rattle.btx_bst.specs.language.BodyText.{Inside, BodyEnd, Whole, Broken, with_named, closed_inside, word_turn, body_turn, body_end}
use Rattle.btx_bst.proofs.TurnLemmas.{OnTurn, turns-keep}
use Rattle.btx_bst.specs.refinement.Bodies.{FunctionBody}

-- kept by each further message
abbrev pub OnMessages : (List Item → Type 0) → Type 0
OnMessages P = (c : Complaint) (line : ℕ) (is : List Item) → P is → P (is ++ Message c line ∷ [])

abbrev pub OnEnd : (List Item → Type 0) → BodyEnd → Type 0
OnEnd P (Whole inside) = P inside.items
OnEnd P (Broken complaint inside) = P inside.items

abbrev OnInside : (List Item → Type 0) → Turn Inside BodyEnd → Type 0
OnInside P turn = OnTurn (λ s. P s.items) (OnEnd P) turn

items_named : (P : List Item → Type 0) → OnMessages P → (token : Callee → Token) (name : List ℕ) (s : Inside) (o : Option Callee) → P s.items
    → P (with_named token name s o).items
items_named P each token name s None h = each _ _ s.items h
items_named P each token name s (Some c) h = h

items_closed : (P : List Item → Type 0) (s : Inside) (around : List FunctionBody) → P s.items → OnInside P (closed_inside s around)
items_closed P s [] h = h
items_closed P s (outer ∷ around) h = h

items_word : (P : List Item → Type 0) → OnMessages P → (names : Names) (s : Inside) (w : BodyWord) → P s.items → OnInside P (word_turn names s w)
items_word P each names s Open h = h
items_word P each names s Close h = items_closed P s s.around h
items_word P each names s (String text) h = h
items_word P each names s (Integer value) h = h
items_word P each names s (Quoted name) h = items_named P each Quote name s (named names name) h
items_word P each names s (Name name) h = items_named P each Run name s (named names name) h
items_word P each names s (Faulty c) h = each c _ s.items h
items_word P each names s Unended h = h
items_word P each names s Ended h = h

pub body_items : (P : List Item → Type 0) → OnMessages P → (names : Names) (s : Inside) → P s.items → OnEnd P (body_end names s)
unfolding body_end body_turn
body_items P each names s h =
    turns-keep (λ u. P u.items) (OnEnd P) (body_turn names) (Broken EndOfFile)
    (λ u k. items_word P each names (record u { place = (met_at u.place).place }) (met_at u.place).word k)
    (λ u k. k) (suc (size s.place)) s h
