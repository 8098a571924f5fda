-- Bodies as they are spelled, and as they are read.
use Rattle.std.proofs.Common.{◌≡◌, ℕ, zero, suc, ◌<◌, false, List, [], ◌∷◌, refl, sym, ap, ◌∙◌, arith, Option, Some, None, inl, inr}
use Rattle.btx_bst.specs.declared.callee.Callee.{Callee}
use Rattle.btx_bst.specs.language.Places.{Place, size}
use Rattle.btx_bst.specs.language.Complaints.{Complaint, NoQuoteEnd, EndOfFile}
use Rattle.btx_bst.specs.declared.token.Token.{Token}
use Rattle.btx_bst.specs.declared.token.Token.TheVariants.{Quote, Run}
use Rattle.btx_bst.specs.language.Words.{BodyWord, Open, Close, String, Integer, Quoted, Name, Faulty, Unended, Ended, Met, met, met_at}
use Rattle.btx_bst.specs.language.Names.{Names, named}
use Rattle.btx_bst.specs.language.Turns.{Again, Ends, after_turn}
use Rattle.btx_bst.specs.language.BodyText.{Whole, Broken, with_named, closed_inside, word_turn, body_turn, body_end}
use Rattle.btx_bst.specs.laws.Spelling.{Parts, Nothing, Plain, Group, IsPlain, Spells, Fragment, Here, After, AfterGroup, Inner, breaks, Breaks, Made}
use Rattle.btx_bst.specs.laws.Spelling.{made_named, made_word, nameless_begun, nameless_defined, made_by, complaint_in, made_till, Division, inside_made}
use Rattle.btx_bst.specs.laws.Spelling.{IsBroken}
use Rattle.btx_bst.proofs.BodyTurnLemmas.{body_end-next, met_at-size, is_ended}
use Rattle.btx_bst.specs.refinement.Bodies.{FunctionBody}

-- ---- one word

step : (names : Names) (p q : Place) (w : BodyWord) (around : List FunctionBody) (m : Made) → met_at p ≡ met w q → body_turn names (inside_made p around m)
    ≡ word_turn names (inside_made q around m) w
unfolding body_turn
step names p q w around m e = ap (λ (x : Met). word_turn names (record (inside_made p around m) { place = x.place }) x.word) e

named_part : (token : Callee → Token) (name : List ℕ) (q : Place) (around : List FunctionBody) (m : Made) (o : Option Callee)
    → with_named token name (inside_made q around m) o ≡ inside_made q around (made_named token q.number name o m)
named_part token name q around m None = refl
named_part token name q around m (Some callee) = refl

plain : (names : Names) (q : Place) (w : BodyWord) (around : List FunctionBody) (m : Made) → IsPlain w → word_turn names (inside_made q around m) w
    ≡ Again (inside_made q around (made_word names q.number w m))
plain names q Open around m h = absurd h
plain names q Close around m h = absurd h
plain names q (String text) around m h = refl
plain names q (Integer value) around m h = refl
plain names q (Quoted name) around m h = ap Again (named_part Quote name q around m (named names name))
plain names q (Name name) around m h = ap Again (named_part Run name q around m (named names name))
plain names q (Faulty c) around m h = refl
plain names q Unended around m h = absurd h
plain names q Ended around m h = absurd h

-- a plain word, and what follows it
plain_next : (names : Names) (p q : Place) (w : BodyWord) (line : ℕ) (around : List FunctionBody) (m : Made) → met_at p ≡ met w q → line ≡ q.number → IsPlain w
    → body_end names (inside_made p around m) ≡ body_end names (inside_made q around (made_word names line w m))
plain_next names p q w line around m e l h =
    body_end-next names (inside_made p around m) ∙ ap (after_turn (body_end names)) (step names p q w around m e ∙ plain names q w around m h)
    ∙ ap (λ (n : ℕ). body_end names (inside_made q around (made_word names n w m))) (sym l)

-- a `{`, and what follows it
open_next : (names : Names) (p q : Place) (around : List FunctionBody) (m : Made) → met_at p ≡ met Open q → body_end names (inside_made p around m)
    ≡ body_end names (inside_made q (m.tokens ∷ around) (nameless_begun m))
open_next names p q around m e = body_end-next names (inside_made p around m) ∙ ap (after_turn (body_end names)) (step names p q Open around m e)

-- ---- bodies

spelled_in : (names : Names) (parts : Parts) (p q : Place) (around : List FunctionBody) (m : Made) → Spells parts p q → body_end names (inside_made p around m)
    ≡ after_turn (body_end names) (closed_inside (inside_made q around (made_by names parts m)) around)
unfolding made_by
spelled_in names Nothing p q around m h = body_end-next names (inside_made p around m) ∙ ap (after_turn (body_end names)) (step names p q Close around m h)
spelled_in names (Plain line w more) p q around m h =
    plain_next names p h.0 w line around m h.1 h.2 h.3 ∙ spelled_in names more h.0 q around (made_word names line w m) h.4
spelled_in names (Group inside more) p q around m h =
    open_next names p h.0 around m h.2 ∙ spelled_in names inside h.0 h.1 (m.tokens ∷ around) (nameless_begun m) h.3
    ∙ spelled_in names more h.1 q around (nameless_defined m.tokens (made_by names inside (nameless_begun m))) h.4

pub spelled : (names : Names) (parts : Parts) (p q : Place) (m : Made) → Spells parts p q → body_end names (inside_made p [] m)
    ≡ Whole (inside_made q [] (made_by names parts m))
spelled names parts p q m h = spelled_in names parts p q [] m h

here : (names : Names) (q : Place) (w : BodyWord) (c : Complaint) (around : List FunctionBody) (m : Made) → breaks w ≡ Some c
    → word_turn names (inside_made q around m) w ≡ Ends (Broken c (inside_made q around m))
here names q Unended c around m h = let e : NoQuoteEnd ≡ c = cc in ap (λ d. Ends (Broken d (inside_made q around m))) e
here names q Ended c around m h = let e : EndOfFile ≡ c = cc in ap (λ d. Ends (Broken d (inside_made q around m))) e
here names q Open c around m h = cc
here names q Close c around m h = cc
here names q (String text) c around m h = cc
here names q (Integer value) c around m h = cc
here names q (Quoted name) c around m h = cc
here names q (Name name) c around m h = cc
here names q (Faulty d) c around m h = cc

broken_in : (names : Names) (f : Fragment) (p q : Place) (around : List FunctionBody) (m : Made) → Breaks f p q
    → IsBroken (complaint_in f) q (made_till names f m).items (body_end names (inside_made p around m))
unfolding made_till
broken_in names (Here c) p q around m h =
    rw (body_end-next names (inside_made p around m) ∙ ap (after_turn (body_end names)) (step names p q h.0 around m h.1 ∙ here names q h.0 c around m h.2))
    (refl, refl, refl)
broken_in names (After line w more) p q around m h =
    rw (plain_next names p h.0 w line around m h.1 h.2 h.3) (broken_in names more h.0 q around (made_word names line w m) h.4)
broken_in names (AfterGroup inside more) p q around m h =
    rw (open_next names p h.0 around m h.2 ∙ spelled_in names inside h.0 h.1 (m.tokens ∷ around) (nameless_begun m) h.3)
    (broken_in names more h.1 q around (nameless_defined m.tokens (made_by names inside (nameless_begun m))) h.4)
broken_in names (Inner inside) p q around m h =
    rw (open_next names p h.0 around m h.1) (broken_in names inside h.0 q (m.tokens ∷ around) (nameless_begun m) h.2)

-- ---- each text begins with a body or breaks off

met-less : (p q : Place) (w : BodyWord) → met_at p ≡ met w q → is_ended w ≡ false → size q < size p
met-less p q w e h =
    let s = met_at-size p in
    let t : (is_ended w ≡ false) → size q < size p = rw e at s.1 in t h

plain-less : (w : BodyWord) → IsPlain w → is_ended w ≡ false
plain-less Open h = refl
plain-less Close h = refl
plain-less (String text) h = refl
plain-less (Integer value) h = refl
plain-less (Quoted name) h = refl
plain-less (Name name) h = refl
plain-less (Faulty c) h = refl
plain-less Unended h = refl
plain-less Ended h = absurd h

spells-less : (parts : Parts) (p q : Place) → Spells parts p q → size q < size p
spells-less Nothing p q h = met-less p q Close h refl
spells-less (Plain line w more) p q h =
    let a = met-less p h.0 w h.1 (plain-less w h.3) in let b = spells-less more h.0 q h.4 in omega arith
spells-less (Group inside more) p q h =
    let a = met-less p h.0 Open h.2 refl in let b = spells-less inside h.0 h.1 h.3 in let d = spells-less more h.1 q h.4 in omega arith

plain_divided : (p q : Place) (w : BodyWord) → met_at p ≡ met w q → IsPlain w → Division q → Division p
plain_divided p q w e h (inl d) = inl (Plain q.number w d.0, d.1, (q, e, refl, h, d.2))
plain_divided p q w e h (inr d) = inr (After q.number w d.0, d.1, (q, e, refl, h, d.2))

rest_divided : (p q s : Place) (inside : Parts) → met_at p ≡ met Open q → Spells inside q s → Division s → Division p
rest_divided p q s inside e h (inl d) = inl (Group inside d.0, d.1, (q, s, e, h, d.2))
rest_divided p q s inside e h (inr d) = inr (AfterGroup inside d.0, d.1, (q, s, e, h, d.2))

open_divided : (p q : Place) → met_at p ≡ met Open q → ((s : Place) → size s < size q → Division s) → Division q → Division p
open_divided p q e more (inl d) = rest_divided p q d.1 d.0 e d.2 (more d.1 (spells-less d.0 q d.1 d.2))
open_divided p q e more (inr d) = inr (Inner d.0, d.1, (q, e, d.2))

word_divided : (p q : Place) (w : BodyWord) → met_at p ≡ met w q → ((s : Place) → size s < size p → Division s) → Division p
word_divided p q Open e more =
    let l = met-less p q Open e refl in
    open_divided p q e (λ s h. more s (omega arith)) (more q l)
word_divided p q Close e more = inl (Nothing, q, e)
word_divided p q (String text) e more = plain_divided p q (String text) e tt (more q (met-less p q (String text) e refl))
word_divided p q (Integer value) e more = plain_divided p q (Integer value) e tt (more q (met-less p q (Integer value) e refl))
word_divided p q (Quoted name) e more = plain_divided p q (Quoted name) e tt (more q (met-less p q (Quoted name) e refl))
word_divided p q (Name name) e more = plain_divided p q (Name name) e tt (more q (met-less p q (Name name) e refl))
word_divided p q (Faulty c) e more = plain_divided p q (Faulty c) e tt (more q (met-less p q (Faulty c) e refl))
word_divided p q Unended e more = inr (Here NoQuoteEnd, q, (Unended, e, refl))
word_divided p q Ended e more = inr (Here EndOfFile, q, (Ended, e, refl))

divided_within : (n : ℕ) (p : Place) → size p < n → Division p
divided_within zero p h = absurd (omega arith)
divided_within (suc n) p h = word_divided p (met_at p).place (met_at p).word refl (λ s l. divided_within n s (omega arith))

pub divided : (p : Place) → Division p
divided p = divided_within (suc (size p)) p (omega arith)

pub broken : (names : Names) (f : Fragment) (p q : Place) (m : Made) → Breaks f p q
    → IsBroken (complaint_in f) q (made_till names f m).items (body_end names (inside_made p [] m))
broken names f p q m h = broken_in names f p q [] m h

pub ruleset spelling_laws = (spelled, broken)
