-- Nothing of a text is read twice, and nothing is left out.
use Rattle.std.proofs.Common.{◌≡◌, ℕ, ℤ, zero, suc, ◌+◌, ◌==◌, Bool, true, false, cond, List, [], ◌∷◌, ◌++◌, length, take, drop, refl, sym, ap, ◌∙◌, arith}
use Rattle.std.proofs.Common.{append_assoc, append-nil, Option, None, Some}
use Rattle.std.proofs.lemmas.List.{take-append-drop}
use Rattle.btx_text.specs.language.Class.{is_white}
use Rattle.btx_text.specs.language.Keys.{folded}
use Rattle.btx_bst.specs.declared.callee.Callee.{Callee}
use Rattle.btx_bst.specs.declared.callee.Kind.{Kind}
use Rattle.btx_bst.specs.declared.callee.Kind.TheVariants as kind
use Rattle.btx_bst.specs.declared.command.Command.{Command}
use Rattle.btx_bst.specs.declared.command.Command.TheVariants as command
use Rattle.btx_bst.specs.declared.token.Token.{Token}
use Rattle.btx_bst.specs.declared.token.Token.TheVariants.{Quote, Run}
use Rattle.btx_bst.specs.language.Places.{Place, place_at, further, ink, ink_from, behind_white, line_or, skipped_from, size}
use Rattle.btx_bst.specs.language.Complaints.{Complaint, NoCommand, NoOpen, NoClose, NoName, NoQuote, EndOfFile, TextAfter, Another, BeforeEntry, BeforeRead}
use Rattle.btx_bst.specs.language.Complaints.{AfterRead}
use Rattle.btx_bst.specs.language.Reads.{Read, Took, Mistake}
use Rattle.btx_bst.specs.language.Items as item
use Rattle.btx_bst.specs.language.Items.{Item}
use Rattle.btx_bst.specs.language.Fronts.{name_len, quote_len, word_len, digits_len, is_word_end}
use Rattle.btx_bst.specs.language.Words.{BodyWord, Open, Close, String, Integer, Quoted, Name, Faulty, Unended, Ended, front, word_front, integer_at}
use Rattle.btx_bst.specs.language.Words.{integer_front, integer_before, string_at, string_ended, met_at, met_in}
use Rattle.btx_bst.specs.language.Names.{Names, named}
use Rattle.btx_bst.specs.language.Style.{Style}
use Rattle.btx_bst.specs.language.Turns.{Turn}
use Rattle.btx_bst.specs.language.Lists.{brace_in, opening, closing, front_of, name_in, next_name, letters_at, quoted_text, quoted_in, quoted_at, Listing}
use Rattle.btx_bst.specs.language.Lists.{listing, Listed, name_turn, list_turn_in, list_turn, list_end, list_read, list_at}
use Rattle.btx_bst.specs.language.BodyText.{Inside, BodyEnd, Whole, Broken, with_named, closed_inside, word_turn, body_turn, body_end}
use Rattle.btx_bst.specs.language.Outcomes.{CommandOutcome, outcome, after_read, with_item}
use Rattle.btx_bst.specs.language.Commands.{after_list, entry_command, function_ended, function_command, has_read, read_command, function_in, run_of}
use Rattle.btx_bst.specs.language.Commands.{run_command, sort_command, declare, macro_command, command_at, command_named, after_listed, inside_at}
use Rattle.btx_bst.specs.laws.Passages.{lines_text, text_from, Passage, InkLaw, CommandLaw, SkipLaw}
use Rattle.btx_bst.proofs.TurnLemmas.{OnTurn, turns-keep}
use Rattle.btx_bst.specs.refinement.Commands.{entry_lists, run_name, macro_name, function_of, macro_of}
use Rattle.btx_bst.specs.refinement.Words.{string_before}
use Rattle.btx_bst.specs.refinement.Lists.{unlisted, with_new}
use Rattle.btx_bst.specs.refinement.Fronts.{letters_len}
use Rattle.btx_bst.specs.laws.Names.{macro_lower}
use Rattle.btx_bst.specs.refinement.StyleText.{word_outcome}
use Rattle.btx_bst.specs.refinement.Bodies.{FunctionBody}

-- ---- passages

pass_here : (p : Place) → Passage p p
pass_here p = record { between = []; joined = refl; counted = refl }

pass_on : (p q r : Place) → Passage p q → Passage q r → Passage p r
pass_on p q r a b =
    let l = a.counted in
    let m = b.counted in
    record {
      between = a.between ++ b.between;
      joined = a.joined ∙ ap (λ (xs : List ℕ). a.between ++ xs) b.joined ∙ sym (append_assoc a.between b.between (text_from r));
      counted = m ∙ l;
    }

-- a line ends in this
abbrev EndsIn : List ℕ → List ℕ → Type 0
EndsIn line rest = (w : List ℕ) × (line ≡ w ++ rest)

ends_here : (s : List ℕ) → EndsIn s s
ends_here s = ([], refl)

ends_drop : (n : ℕ) (s : List ℕ) → EndsIn s (drop n s)
ends_drop n s = (take n s, sym (take-append-drop n s))

ends_on : (s t u : List ℕ) → EndsIn s t → EndsIn t u → EndsIn s u
ends_on s t u a b = (a.0 ++ b.0, a.1 ∙ ap (λ (xs : List ℕ). a.0 ++ xs) b.1 ∙ sym (append_assoc a.0 b.0 u))

ends_byte : (b : ℕ) (s t : List ℕ) → EndsIn s t → EndsIn (b ∷ s) t
ends_byte b s t a = (b ∷ a.0, ap (λ (xs : List ℕ). b ∷ xs) a.1)

pass_further : (p : Place) (line rest : List ℕ) → p.line ≡ line → EndsIn line rest → Passage p (further p rest)
pass_further p line rest e a = record {
  between = a.0;
  joined = ap (λ (xs : List ℕ). xs ++ lines_text p.after) (e ∙ a.1) ∙ append_assoc a.0 rest (lines_text p.after);
  counted = refl;
}

-- a line's end, with what is left of the line
pass_line : (n : ℕ) (line next : List ℕ) (after : List (List ℕ)) → Passage (place_at n line (next ∷ after)) (place_at (n + 1) next after)
pass_line n line next after = record { between = line ++ 10 ∷ []; joined = sym (append_assoc line (10 ∷ []) (next ++ lines_text after)); counted = omega arith }

-- ---- whitespace and what is skipped

white_ends : (line : List ℕ) → EndsIn line (behind_white line)
unfolding behind_white
white_ends [] = ([], refl)
white_ends (b ∷ bs) = at (is_white b) (b == 37) (white_ends bs) where
  at : (t u : Bool) → EndsIn bs (behind_white bs) → EndsIn (b ∷ bs) (cond t (behind_white bs) (cond u [] (b ∷ bs)))
  at true u h = ends_byte b bs (behind_white bs) h
  at false true h = (b ∷ bs, sym (append-nil (b ∷ bs)))
  at false false h = ends_here (b ∷ bs)

ink_at : (n : ℕ) (line x next : List ℕ) (after : List (List ℕ)) (later : Place) → EndsIn line x → Passage (place_at (n + 1) next after) later
    → Passage (place_at n line (next ∷ after)) (line_or n x (next ∷ after) later)
ink_at n line [] next after later a h = pass_on _ (place_at (n + 1) next after) later (pass_line n line next after) h
ink_at n line (b ∷ bs) next after later a h = pass_further (place_at n line (next ∷ after)) line (b ∷ bs) refl a

ink_passes : (n : ℕ) (line : List ℕ) (after : List (List ℕ)) → Passage (place_at n line after) (ink_from n line after)
unfolding ink_from
ink_passes n line [] = pass_further (place_at n line []) line (behind_white line) refl (white_ends line)
ink_passes n line (next ∷ after) = ink_at n line (behind_white line) next after (ink_from (n + 1) next after) (white_ends line) (ink_passes (n + 1) next after)

pub ink-law : InkLaw
ink-law p = ink_passes p.number p.line p.after

skip_passes : (n : ℕ) (line : List ℕ) (after : List (List ℕ)) → Passage (place_at n line after) (skipped_from n after)
unfolding skipped_from
skip_passes n line [] = pass_further (place_at n line []) line [] refl (line, sym (append-nil line))
skip_passes n line ([] ∷ after) = pass_line n line [] after
skip_passes n line ((b ∷ bs) ∷ after) = pass_on _ (place_at (n + 1) (b ∷ bs) after) _ (pass_line n line (b ∷ bs) after) (skip_passes (n + 1) (b ∷ bs) after)

pub skip-law : SkipLaw
skip-law p = skip_passes p.number p.line p.after

-- ---- arguments

abbrev ReadPasses : {A : Type 0} → Place → Read A → Type 0
ReadPasses p (Took x q) = Passage p q
ReadPasses p (Mistake c q) = Passage p q

brace_passes : (brace : ℕ) (c : Complaint) (p : Place) (line : List ℕ) → p.line ≡ line → ReadPasses p (brace_in brace c p line)
brace_passes brace c p [] e = pass_here p
brace_passes brace c p (b ∷ bs) e = at (b == brace) where
  at : (t : Bool) → ReadPasses p (cond {A = Read (Unit {0})} t (Took tt (further p bs)) (Mistake c p))
  at true = pass_further p (b ∷ bs) bs e (b ∷ [], refl)
  at false = pass_here p

front_passes : (c : Complaint) (p : Place) (line : List ℕ) (n : ℕ) → p.line ≡ line → ReadPasses p (front_of c p line n)
front_passes c p line zero e = pass_here p
front_passes c p line (suc n) e = pass_further p line (drop (suc n) line) e (ends_drop (suc n) line)

name_passes : (p : Place) (line : List ℕ) → p.line ≡ line → ReadPasses p (name_in p line)
name_passes p [] e = pass_here p
name_passes p (b ∷ bs) e = front_passes NoName p (b ∷ bs) (name_len (b ∷ bs)) e

text_passes : (p : Place) (line text behind : List ℕ) → p.line ≡ line → EndsIn line behind → ReadPasses p (quoted_text p text behind)
text_passes p line text [] e a = pass_here p
text_passes p line text (quote ∷ rest) e a = pass_further p line rest e (ends_on line (quote ∷ rest) rest a (quote ∷ [], refl))

quoted_passes : (p : Place) (line : List ℕ) → p.line ≡ line → ReadPasses p (quoted_in p line)
quoted_passes p [] e = pass_here p
quoted_passes p (b ∷ bs) e = at (b == 34) where
  at : (t : Bool) → ReadPasses p (cond t (quoted_text p (take (quote_len bs) bs) (drop (quote_len bs) bs)) (Mistake NoQuote p))
  at true = text_passes p (b ∷ bs) (take (quote_len bs) bs) (drop (quote_len bs) bs) e (ends_byte b bs _ (ends_drop (quote_len bs) bs))
  at false = pass_here p

-- what is read from a place without whitespace on
behind_ink : {A : Type 0} (p : Place) (r : Read A) → ReadPasses (ink p) r → ReadPasses p r
behind_ink p (Took x q) h = pass_on p (ink p) q (ink-law p) h
behind_ink p (Mistake c q) h = pass_on p (ink p) q (ink-law p) h

opening_passes : (p : Place) → ReadPasses p (opening p)
opening_passes p = behind_ink p _ (brace_passes 123 NoOpen (ink p) (ink p).line refl)

closing_passes : (p : Place) → ReadPasses p (closing p)
closing_passes p = behind_ink p _ (brace_passes 125 NoClose (ink p) (ink p).line refl)

name_at_passes : (p : Place) → ReadPasses p (next_name p)
name_at_passes p = behind_ink p _ (name_passes (ink p) (ink p).line refl)

quoted_at_passes : (p : Place) → ReadPasses p (quoted_at p)
quoted_at_passes p = behind_ink p _ (quoted_passes (ink p) (ink p).line refl)

-- ---- lists of names

abbrev ListPasses : Place → Turn Listing Listed → Type 0
ListPasses p t = OnTurn (λ s. Passage p s.place) (λ r. Passage p r.listing.place) t

new_passes : (p : Place) (k : Kind) (names : Names) (name : List ℕ) (q : Place) (o : Option Callee) → Passage p q → ListPasses p (with_new k names name q o)
new_passes p k names name q None h = h
new_passes p k names name q (Some other) h = h

named_passes : (p : Place) (k : Kind) (names : Names) (r : Read (List ℕ)) → ReadPasses p r → ListPasses p (name_turn k names r)
named_passes p k names (Mistake c q) h = h
named_passes p k names (Took name q) h = new_passes p k names name q (named names name) h

on_read : {A : Type 0} (p q : Place) (r : Read A) → Passage p q → ReadPasses q r → ReadPasses p r
on_read p q (Took x s) a h = pass_on p q s a h
on_read p q (Mistake c s) a h = pass_on p q s a h

turn_passes : (p : Place) (k : Kind) (names : Names) (r : Read (Unit {0})) → ReadPasses p r → ListPasses p (list_turn_in k names r)
turn_passes p k names (Took x q) h = h
turn_passes p k names (Mistake c q) h = named_passes p k names (next_name q) (on_read p q (next_name q) h (name_at_passes q))

list_end_passes : (p : Place) (k : Kind) (s : Listing) → Passage p s.place → Passage p (list_end k s).listing.place
unfolding list_end list_turn
list_end_passes p k s h =
    turns-keep (λ u. Passage p u.place) (λ r. Passage p r.listing.place) (list_turn k) unlisted
    (λ u f. turn_passes p k u.names (closing u.place) (on_read p u.place (closing u.place) f (closing_passes u.place))) (λ u f. f) (suc (size s.place)) s h

list_read_passes : (p : Place) (k : Kind) (names : Names) (r : Read (Unit {0})) → ReadPasses p r → Passage p (list_read k names r).listing.place
list_read_passes p k names (Mistake c q) h = h
list_read_passes p k names (Took x q) h = list_end_passes p k (listing names q) h

list_passes : (p : Place) (k : Kind) (names : Names) → Passage p (list_at k names p).listing.place
list_passes p k names = list_read_passes p k names (opening p) (opening_passes p)

-- ---- words

string_before_ends : (t s : List ℕ) → EndsIn s (string_before t s).rest
string_before_ends t s = at (is_word_end s) where
  at : (b : Bool) → EndsIn s (cond b (front (String t) s) (front (Faulty TextAfter) (drop (word_len s) s))).rest
  at true = ends_here s
  at false = ends_drop (word_len s) s

string_ended_ends : (line t s : List ℕ) → EndsIn line s → EndsIn line (string_ended line t s).rest
string_ended_ends line t [] a = ends_here line
string_ended_ends line t (q ∷ s) a = ends_on line (q ∷ s) _ a (ends_byte q s _ (string_before_ends t s))

string_ends : (s : List ℕ) → EndsIn s (string_at s).rest
string_ends s = string_ended_ends s (take (quote_len s) s) (drop (quote_len s) s) (ends_drop (quote_len s) s)

integer_before_ends : (line rest : List ℕ) (o : Option ℤ) → EndsIn line rest → EndsIn line (integer_before line rest o).rest
integer_before_ends line rest None a = ends_drop (word_len line) line
integer_before_ends line rest (Some z) a = at (is_word_end rest) where
  at : (b : Bool) → EndsIn line (cond b (front (Integer z) rest) (front (Faulty TextAfter) (drop (word_len rest) rest))).rest
  at true = a
  at false = ends_on line rest _ a (ends_drop (word_len rest) rest)

integer_of_ends : (line : List ℕ) (minus : Bool) (rest : List ℕ) (n : ℕ) → EndsIn line rest → EndsIn line (integer_front line minus rest n).rest
integer_of_ends line minus rest zero a = ends_drop (word_len line) line
integer_of_ends line minus rest (suc n) a = integer_before_ends line (drop (suc n) rest) _ (ends_on line rest _ a (ends_drop (suc n) rest))

integer_ends : (s : List ℕ) → EndsIn s (integer_at s).rest
unfolding integer_at
integer_ends [] = ends_here []
integer_ends (b ∷ bs) = at (b == 45) where
  at : (t : Bool) → EndsIn (b ∷ bs) (cond t (integer_front (b ∷ bs) true bs (digits_len bs)) (integer_front (b ∷ bs) false (b ∷ bs) (digits_len (b ∷ bs)))).rest
  at true = integer_of_ends (b ∷ bs) true bs (digits_len bs) (b ∷ [], refl)
  at false = integer_of_ends (b ∷ bs) false (b ∷ bs) (digits_len (b ∷ bs)) (ends_here (b ∷ bs))

word_ends : (b : ℕ) (bs : List ℕ) → EndsIn bs (word_front b bs).rest
unfolding word_front
word_ends b bs = at (b == 123) (b == 125) (b == 34) (b == 35) (b == 39) where
  at : (t u v w x : Bool) → EndsIn bs
      (cond t (front Open bs) (cond u (front Close bs)
      (cond v (string_at bs) (cond w (integer_at bs)
      (cond x (front (Quoted (take (word_len bs) bs)) (drop (word_len bs) bs)) (front (Name (b ∷ take (word_len bs) bs)) (drop (word_len bs) bs))))))).rest
  at true u v w x = ends_here bs
  at false true v w x = ends_here bs
  at false false true w x = string_ends bs
  at false false false true x = integer_ends bs
  at false false false false true = ends_drop (word_len bs) bs
  at false false false false false = ends_drop (word_len bs) bs

met_in_passes : (p : Place) (line : List ℕ) → p.line ≡ line → Passage p (met_in p line).place
met_in_passes p [] e = pass_here p
met_in_passes p (b ∷ bs) e = pass_further p (b ∷ bs) _ e (ends_byte b bs _ (word_ends b bs))

met_passes : (p : Place) → Passage p (met_at p).place
met_passes p = pass_on p (ink p) _ (ink-law p) (met_in_passes (ink p) (ink p).line refl)

-- ---- bodies

abbrev EndPasses : Place → BodyEnd → Type 0
EndPasses p (Whole s) = Passage p s.place
EndPasses p (Broken c s) = Passage p s.place

abbrev BodyPasses : Place → Turn Inside BodyEnd → Type 0
BodyPasses p t = OnTurn (λ s. Passage p s.place) (EndPasses p) t

named_body_passes : (p : Place) (token : Callee → Token) (name : List ℕ) (s : Inside) (o : Option Callee) → Passage p s.place
    → Passage p (with_named token name s o).place
named_body_passes p token name s None h = h
named_body_passes p token name s (Some c) h = h

closed_passes : (p : Place) (s : Inside) (around : List FunctionBody) → Passage p s.place → BodyPasses p (closed_inside s around)
closed_passes p s [] h = h
closed_passes p s (outer ∷ around) h = h

word_passes : (p : Place) (names : Names) (s : Inside) (w : BodyWord) → Passage p s.place → BodyPasses p (word_turn names s w)
word_passes p names s Open h = h
word_passes p names s Close h = closed_passes p s s.around h
word_passes p names s (String text) h = h
word_passes p names s (Integer value) h = h
word_passes p names s (Quoted name) h = named_body_passes p Quote name s (named names name) h
word_passes p names s (Name name) h = named_body_passes p Run name s (named names name) h
word_passes p names s (Faulty c) h = h
word_passes p names s Unended h = h
word_passes p names s Ended h = h

body_passes : (p : Place) (names : Names) (s : Inside) → Passage p s.place → EndPasses p (body_end names s)
unfolding body_end body_turn
body_passes p names s h =
    turns-keep (λ u. Passage p u.place) (EndPasses p) (body_turn names) (Broken EndOfFile)
    (λ u f. word_passes p names (record u { place = (met_at u.place).place }) (met_at u.place).word (pass_on p u.place _ f (met_passes u.place)))
    (λ u f. f) (suc (size s.place)) s h

-- ---- commands

after_passes : {A : Type 0} (p : Place) (s : Style) (r : Read A) (go : A → Place → CommandOutcome) → ReadPasses p r
    → ((x : A) (q : Place) → Passage q (go x q).place) → Passage p (after_read s r go).place
after_passes p s (Took x q) go h each = pass_on p q _ h (each x q)
after_passes p s (Mistake c q) go h each = h

listed_passes : (p : Place) (c : Option Complaint) (s : Style) (q : Place) (go : Style → Place → CommandOutcome) → Passage p q
    → ((t : Style) (r : Place) → Passage r (go t r).place) → Passage p (after_listed c s q go).place
listed_passes p None s q go h each = pass_on p q _ h (each s q)
listed_passes p (Some c) s q go h each = h

after_list_passes : (k : Kind) (s : Style) (p : Place) (go : Style → Place → CommandOutcome) → ((t : Style) (r : Place) → Passage r (go t r).place)
    → Passage p (after_list s (list_at k s.names p) go).place
after_list_passes k s p go each =
    let l = list_at k s.names p in listed_passes p l.complaint (record s { names = l.listing.names }) l.listing.place go (list_passes p k s.names) each

entry_passes : (s : Style) (p : Place) → Passage p (entry_command s p).place
unfolding entry_command
entry_passes s p = at s.has_entry where
  at : (t : Bool) → Passage p (cond t (outcome (Some (Another command.Entry)) s p) (entry_lists s p)).place
  at true = pass_here p
  at false =
      after_list_passes kind.Field s p _ (λ t q.
      after_list_passes kind.EntryInteger t q _ (λ u r.
      after_list_passes kind.EntryString u r _ (λ v z. pass_here z)))

ended_passes : (p : Place) (s : Style) (name : List ℕ) (r : BodyEnd) → EndPasses p r → Passage p (function_ended s name r).place
ended_passes p s name (Broken c i) h = h
ended_passes p s name (Whole i) h = h

function_of_passes : (s : Style) (name : List ℕ) (p : Place) (o : Option Callee) → Passage p (function_of s name p o).place
function_of_passes s name p (Some other) = pass_here p
function_of_passes s name p None =
    after_passes p s (closing p) _ (closing_passes p) (λ x q.
    after_passes q s (opening q) _ (opening_passes q) (λ x r. ended_passes r s (folded name) _ (body_passes r s.names (inside_at s r) (pass_here r))))

function_passes : (s : Style) (p : Place) → Passage p (function_command s p).place
unfolding function_command
function_passes s p =
    after_passes p s (opening p) _ (opening_passes p) (λ x q.
    after_passes q s (next_name q) _ (name_at_passes q) (λ name r. function_of_passes s name r (named s.names name)))

read_passes : (s : Style) (p : Place) → Passage p (read_command s p).place
unfolding read_command
read_passes s p = at (has_read s) s.has_entry where
  at : (t u : Bool) → Passage p (cond t (outcome (Some (Another command.Read)) s p)
      (cond u (outcome None (with_item item.Read (record s { before_read = Some (length s.bodies) })) p) (outcome (Some BeforeEntry) s p))).place
  at true u = pass_here p
  at false true = pass_here p
  at false false = pass_here p

run_of_passes : (make : Callee → Item) (s : Style) (name : List ℕ) (p : Place) (o : Option Callee) → Passage p (run_of make s name p o).place
run_of_passes make s name p None = pass_here p
run_of_passes make s name p (Some c) = after_passes p s (closing p) _ (closing_passes p) (λ x q. pass_here q)

run_passes : (c : Command) (make : Callee → Item) (s : Style) (p : Place) → Passage p (run_command c make s p).place
unfolding run_command
run_passes c make s p = at (has_read s) where
  at : (t : Bool) → Passage p (cond t (run_name make s p) (outcome (Some (BeforeRead c)) s p)).place
  at true =
      after_passes p s (opening p) _ (opening_passes p) (λ x q.
      after_passes q s (next_name q) _ (name_at_passes q) (λ name r. run_of_passes make s name r (function_in (named s.names name))))
  at false = pass_here p

sort_passes : (s : Style) (p : Place) → Passage p (sort_command s p).place
unfolding sort_command
sort_passes s p = at (has_read s) where
  at : (t : Bool) → Passage p (cond t (outcome None (with_item item.Sort s) p) (outcome (Some (BeforeRead command.Sort)) s p)).place
  at true = pass_here p
  at false = pass_here p

declare_passes : (k : Kind) (i : Item) (s : Style) (p : Place) → Passage p (declare k i s p).place
unfolding declare
declare_passes k i s p = after_list_passes k s p _ (λ t q. pass_here q)

macro_of_passes : (s : Style) (name : List ℕ) (p : Place) (o : Option (List ℕ)) → Passage p (macro_of s name p o).place
macro_of_passes s name p (Some other) = pass_here p
macro_of_passes s name p None =
    after_passes p s (closing p) _ (closing_passes p) (λ x q.
    after_passes q s (opening q) _ (opening_passes q) (λ x r.
    after_passes r s (quoted_at r) _ (quoted_at_passes r) (λ text t.
    after_passes t s (closing t) _ (closing_passes t) (λ x u. pass_here u))))

macro_passes : (s : Style) (p : Place) → Passage p (macro_command s p).place
unfolding macro_command
macro_passes s p = at (has_read s) where
  at : (t : Bool) → Passage p (cond t (outcome (Some AfterRead) s p) (macro_name s p)).place
  at true = pass_here p
  at false =
      after_passes p s (opening p) _ (opening_passes p) (λ x q.
      after_passes q s (next_name q) _ (name_at_passes q) (λ name r. macro_of_passes s name r (macro_lower s.macros (folded name))))

command_at_passes : (c : Command) (s : Style) (p : Place) → Passage p (command_at c s p).place
command_at_passes command.Entry s p = entry_passes s p
command_at_passes command.Function s p = function_passes s p
command_at_passes command.Read s p = read_passes s p
command_at_passes command.Execute s p = run_passes _ _ s p
command_at_passes command.Iterate s p = run_passes _ _ s p
command_at_passes command.Reverse s p = run_passes _ _ s p
command_at_passes command.Sort s p = sort_passes s p
command_at_passes command.Integers s p = declare_passes _ _ s p
command_at_passes command.Strings s p = declare_passes _ _ s p
command_at_passes command.Macro s p = macro_passes s p

word_outcome_passes : (s : Style) (p : Place) (word : List ℕ) (o : Option Command) → Passage p (word_outcome s p word o).place
word_outcome_passes s p word None = pass_here p
word_outcome_passes s p word (Some c) = command_at_passes c s p

pub command-law : CommandLaw
command-law s p = after_passes p s (letters_at p) _ (front_passes NoCommand p p.line (letters_len p.line) refl)
    (λ word q. word_outcome_passes s q word (command_named (folded word)))

pub ruleset passage_laws = (ink-law, command-law, skip-law)
