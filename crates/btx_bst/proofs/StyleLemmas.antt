-- Styles, item by item.
use Rattle.std.proofs.Common.{◌≡◌, ℕ, zero, suc, ◌+◌, ◌<◌, ◌≤◌, Bool, true, false, cond, List, [], ◌∷◌, ◌++◌, length, take, drop, refl, ap, arith, Option}
use Rattle.std.proofs.Common.{Some, None}
use Rattle.std.specs.Prelude.{is_some}
use Rattle.std.proofs.lemmas.List.{length-drop, length-append, take-append-le}
use Rattle.btx_text.specs.language.Keys.{folded}
use Rattle.btx_bst.specs.declared.callee.Callee.{Callee}
use Rattle.btx_bst.specs.declared.callee.Kind.{Kind}
use Rattle.btx_bst.specs.declared.callee.Kind.TheVariants as kind
use Rattle.btx_bst.specs.declared.token.Token.{Token}
use Rattle.btx_bst.specs.declared.token.Token.TheVariants.{Quote, Run}
use Rattle.btx_bst.specs.declared.command.Command.{Command}
use Rattle.btx_bst.specs.declared.command.Command.TheVariants as command
use Rattle.btx_bst.specs.language.Places.{Place, ink, size, further}
use Rattle.btx_bst.specs.language.Complaints.{Complaint, Defined, Unknown, EndOfFile, NoCommand, Another, BeforeEntry, BeforeRead, AfterRead}
use Rattle.btx_bst.specs.language.Reads.{Read, Took, Mistake}
use Rattle.btx_bst.specs.language.Items.{Item, Read as ReadItem, Sort as SortItem}
use Rattle.btx_bst.specs.language.Words.{BodyWord, Open, Close, String, Integer, Quoted, Name, Faulty, Unended, Ended, met_at}
use Rattle.btx_bst.specs.language.Names.{Names, named}
use Rattle.btx_bst.specs.language.Turns.{Turn, Again, Ends, after_turn}
use Rattle.btx_bst.specs.language.Lists.{opening, closing, next_name, quoted_at, front_of, list_at, list_read, list_end, list_turn, Listing, Listed, listing}
use Rattle.btx_bst.specs.language.BodyText.{Inside, BodyEnd, Whole, Broken, with_named, closed_inside, word_turn, body_turn, body_end}
use Rattle.btx_bst.specs.language.Style.{Style}
use Rattle.btx_bst.specs.language.Outcomes.{CommandOutcome, outcome, after_read, with_item}
use Rattle.btx_bst.specs.language.Commands.{after_list, entry_command, function_command, function_ended, read_command, run_command, run_of, sort_command}
use Rattle.btx_bst.specs.language.Commands.{declare, macro_command, function_in, command_at, command_named, after_listed, inside_at}
use Rattle.btx_bst.specs.language.StyleText.{StyleState, item_in, item_turn, style_from, resumed}
use Rattle.btx_bst.specs.refinement.Weights.{names_weight, weight, HasRoom}
use Rattle.btx_bst.proofs.TurnLemmas.{OnTurn, turns-next, turns-keep}
use Rattle.btx_bst.proofs.FurtherLemmas.{padded-len}
use Rattle.btx_bst.proofs.SizeLemmas.{ink-size, skipped-size}
use Rattle.btx_bst.proofs.ListLemmas.{Sized, closing-size, opening-size, name_at-size, quoted_at-size, list_turn-size, ListTurn, list_at-weight}
use Rattle.btx_bst.proofs.BodyTurnLemmas.{place_of, body_turn-size, BodyTurn, body_end-weight, inside_of}
use Rattle.btx_bst.specs.refinement.Commands.{entry_lists, run_name, macro_name, function_of, macro_of}
use Rattle.btx_bst.specs.refinement.StyleText.{style_so_far, resumed_after, word_outcome}
use Rattle.btx_bst.specs.refinement.Lists.{unlisted}
use Rattle.btx_bst.specs.refinement.Fronts.{letters_len}
use Rattle.btx_bst.specs.laws.Names.{macro_lower}
use Rattle.btx_bst.specs.refinement.Bodies.{FunctionBody}

-- ---- what is left after a list, and after a body

weaken_list : (m n : ℕ) (t : Turn Listing Listed) → m ≤ n → ListTurn m t → OnTurn (λ s. size s.place ≤ n) (λ r. size r.listing.place ≤ n) t
weaken_list m n (Again s) h k = omega arith
weaken_list m n (Ends r) h k = omega arith

list_end-size : (kind : Kind) (s : Listing) → size (list_end kind s).listing.place ≤ size s.place
unfolding list_end
list_end-size kind s =
    turns-keep (λ t. size t.place ≤ size s.place) (λ r. size r.listing.place ≤ size s.place) (list_turn kind) unlisted
    (λ t h. weaken_list (size t.place) (size s.place) (list_turn kind t) h (list_turn-size kind t)) (λ t h. h) (suc (size s.place)) s (omega arith)

list_at-size : (kind : Kind) (names : Names) (p : Place) → size (list_at kind names p).listing.place ≤ size p
list_at-size kind names p = at (opening p) (opening-size p) where
  at : (r : Read (Unit {0})) → Sized (size p) r → size (list_read kind names r).listing.place ≤ size p
  at (Mistake c q) h = h
  at (Took x q) h = let k = list_end-size kind (listing names q) in omega arith

weaken_body : (m n : ℕ) (t : Turn Inside BodyEnd) → m ≤ n → BodyTurn m t → OnTurn (λ s. size s.place ≤ n) (λ r. size (place_of r) ≤ n) t
weaken_body m n (Again s) h k = omega arith
weaken_body m n (Ends r) h k = omega arith

body_end-size : (names : Names) (s : Inside) → size (place_of (body_end names s)) ≤ size s.place
unfolding body_end
body_end-size names s =
    turns-keep (λ t. size t.place ≤ size s.place) (λ r. size (place_of r) ≤ size s.place) (body_turn names) (Broken EndOfFile)
    (λ t h. weaken_body (size t.place) (size s.place) (body_turn names t) h (body_turn-size names t)) (λ t h. h) (suc (size s.place)) s (omega arith)

-- ---- a body adds bodies and strings alone

-- one list begins another
abbrev pub Begins : {A : Type 0} → List A → List A → Type 0
Begins xs ys = (length xs ≤ length ys) × (take (length xs) ys ≡ xs)

take-whole : {A : Type 0} (xs : List A) → take (length xs) xs ≡ xs
take-whole [] = refl
take-whole (x ∷ xs) = rw (take-whole xs) refl

Begins-more : {A : Type 0} (xs ys : List A) (y : A) → Begins xs ys → Begins xs (ys ++ y ∷ [])
Begins-more xs ys y h = (omega (arith, h.0, length-append ys (y ∷ [])), rw (take-append-le (length xs) ys (y ∷ []) h.0) h.1)

-- what is known inside a body adds to these bodies and strings
abbrev pub Adds : List FunctionBody → List (List ℕ) → Inside → Type 0
Adds bodies texts s = Begins bodies s.bodies × Begins texts s.texts

abbrev Grows : List FunctionBody → List (List ℕ) → Turn Inside BodyEnd → Type 0
Grows bodies texts t = OnTurn (Adds bodies texts) (λ r. Adds bodies texts (inside_of r)) t

with_named-adds : (token : Callee → Token) (name : List ℕ) (bodies : List FunctionBody) (texts : List (List ℕ)) (s : Inside) (o : Option Callee)
    → Adds bodies texts s → Adds bodies texts (with_named token name s o)
with_named-adds token name bodies texts s None h = h
with_named-adds token name bodies texts s (Some callee) h = h

closed_inside-grows : (bodies : List FunctionBody) (texts : List (List ℕ)) (s : Inside) (around : List FunctionBody) → Adds bodies texts s
    → Grows bodies texts (closed_inside s around)
closed_inside-grows bodies texts s [] h = h
closed_inside-grows bodies texts s (outer ∷ around) h = (Begins-more bodies s.bodies s.tokens h.0, h.1)

word_turn-grows : (names : Names) (bodies : List FunctionBody) (texts : List (List ℕ)) (s : Inside) (w : BodyWord) → Adds bodies texts s
    → Grows bodies texts (word_turn names s w)
word_turn-grows names bodies texts s Open h = h
word_turn-grows names bodies texts s Close h = closed_inside-grows bodies texts s s.around h
word_turn-grows names bodies texts s (String text) h = (h.0, Begins-more texts s.texts text h.1)
word_turn-grows names bodies texts s (Integer value) h = h
word_turn-grows names bodies texts s (Quoted name) h = with_named-adds Quote name bodies texts s (named names name) h
word_turn-grows names bodies texts s (Name name) h = with_named-adds Run name bodies texts s (named names name) h
word_turn-grows names bodies texts s (Faulty c) h = h
word_turn-grows names bodies texts s Unended h = h
word_turn-grows names bodies texts s Ended h = h

body_turn-grows : (names : Names) (bodies : List FunctionBody) (texts : List (List ℕ)) (s : Inside) → Adds bodies texts s
    → Grows bodies texts (body_turn names s)
unfolding body_turn
body_turn-grows names bodies texts s h = word_turn-grows names bodies texts (record s { place = (met_at s.place).place }) (met_at s.place).word h

pub body_end-grows : (names : Names) (s : Inside) → Adds s.bodies s.texts (inside_of (body_end names s))
unfolding body_end
body_end-grows names s =
    turns-keep (Adds s.bodies s.texts) (λ r. Adds s.bodies s.texts (inside_of r)) (body_turn names) (Broken EndOfFile)
    (λ t h. body_turn-grows names s.bodies s.texts t h) (λ t h. h) (suc (size s.place)) s (
      (omega arith, take-whole s.bodies),
      (omega arith, take-whole s.texts),
    )

pub broken-grows : (names : Names) (s t : Inside) (c : Complaint) → Broken c t ≡ body_end names s → Adds s.bodies s.texts t
broken-grows names s t c e = let h : Adds s.bodies s.texts (inside_of (Broken c t)) = rw (← e) at (body_end-grows names s) in h

pub whole-grows : (names : Names) (s t : Inside) → Whole t ≡ body_end names s → Adds s.bodies s.texts t
whole-grows names s t e = let h : Adds s.bodies s.texts (inside_of (Whole t)) = rw (← e) at (body_end-grows names s) in h

pub whole-weight : (names : Names) (s t : Inside) → Whole t ≡ body_end names s → size t.place + length t.bodies + length t.texts
    ≤ size s.place + length s.bodies + length s.texts
whole-weight names s t e = let h : size (inside_of (Whole t)).place + length (inside_of (Whole t)).bodies + length (inside_of (Whole t)).texts
    ≤ size s.place + length s.bodies + length s.texts = rw (← e) at (body_end-weight names s) in h

-- ---- what is left after a command, and what the style weighs then

abbrev pub counts : Style → ℕ
counts style = length style.bodies + length style.texts + names_weight style.names

-- no function has a name before it has a body
abbrev BodiesLead : Style → Type 0
BodiesLead style = length style.names.functions ≤ length style.bodies

-- the text that is left has a size of at most `n`, the style and it weigh at most `m`, and bodies lead where `F` holds
abbrev Within : Type 0 → ℕ → ℕ → CommandOutcome → Type 0
Within F n m o = (size o.place ≤ n) × (weight o.style o.place ≤ m) × (F → BodiesLead o.style)

abbrev Base : Type 0 → ℕ → ℕ → Style → Type 0
Base F n m style = (n + counts style ≤ m) × (F → BodiesLead style)

here : {F : Type 0} (c : Option Complaint) (style : Style) (p : Place) (n m : ℕ) → size p ≤ n → Base F n m style → Within F n m (outcome c style p)
here c style p n m h b = (h, omega (arith, b.0), b.1)

after_read-within : {F : Type 0} {A : Type 0} (style : Style) (r : Read A) (go : A → Place → CommandOutcome) (n m : ℕ) → Sized n r → Base F n m style
    → ((x : A) (p : Place) → size p < n → Within F n m (go x p)) → Within F n m (after_read style r go)
after_read-within style (Took x p) go n m h b k = k x p h
after_read-within style (Mistake c p) go n m h b k = here (Some c) style p n m h b

weaker : {A : Type 0} (m n : ℕ) (r : Read A) → m ≤ n → Sized m r → Sized n r
weaker m n (Took x p) h k = omega arith
weaker m n (Mistake c p) h k = omega arith

after_listed-within : {F : Type 0} (c : Option Complaint) (style : Style) (p : Place) (go : Style → Place → CommandOutcome) (n m : ℕ) → size p ≤ n
    → size p + counts style ≤ m → (F → BodiesLead style) → Within F n m (go style p) → Within F n m (after_listed c style p go)
after_listed-within None style p go n m h w f k = k
after_listed-within (Some c) style p go n m h w f k = (h, omega arith, f)

after_list-within : {F : Type 0} (style : Style) (kind : Kind) (p : Place) (go : Style → Place → CommandOutcome) (n m : ℕ) → size p ≤ n
    → size p + counts style ≤ m → (F → BodiesLead style)
    → ((d : Style) (q : Place) → size q ≤ n → size q + counts d ≤ m → (F → BodiesLead d) → Within F n m (go d q))
    → Within F n m (after_list style (list_at kind style.names p) go)
after_list-within {F = F} style kind p go n m h w f k =
    let l = list_at kind style.names p in
    let d : Style = record style { names = l.listing.names } in
    let a = list_at-weight kind style.names p in
    let less : size l.listing.place ≤ n = let s = list_at-size kind style.names p in omega arith in
    let heavy : size l.listing.place + counts d ≤ m = omega (arith, a.0) in
    let lead : F → BodiesLead d = λ h. rw a.1 (f h) in
    after_listed-within l.complaint d l.listing.place go n m less heavy lead (k d l.listing.place less heavy lead)

entry-within : {F : Type 0} (style : Style) (p : Place) → (F → BodiesLead style) → Within F (size p) (weight style p) (entry_command style p)
unfolding entry_command
entry-within {F = F} style p f = at style.has_entry where
  at : (t : Bool) → Within F (size p) (weight style p) (cond t (outcome (Some (Another command.Entry)) style p) (entry_lists style p))
  at true = (omega arith, omega arith, f)
  at false =
      after_list-within style kind.Field p _ (size p) (weight style p) (omega arith) (omega arith) f (λ d q h w g.
      after_list-within d kind.EntryInteger q _ (size p) (weight style p) h w g (λ d q h w g.
      after_list-within d kind.EntryString q _ (size p) (weight style p) h w g (λ d q h w g. (h, omega arith, g))))

function_ended-within : {F : Type 0} (style : Style) (name : List ℕ) (s : Inside) (n m : ℕ) → size s.place < n → Base F n m style → s.bodies ≡ style.bodies
    → s.texts ≡ style.texts → Within F n m (function_ended style name (body_end style.names s))
function_ended-within {F = F} style name s n m h b e g = at (body_end style.names s) (body_end-weight style.names s) (body_end-grows style.names s)
    (body_end-size style.names s) where
      at : (r : BodyEnd) → size (inside_of r).place + length (inside_of r).bodies + length (inside_of r).texts ≤ size s.place + length s.bodies + length s.texts
          → Adds s.bodies s.texts (inside_of r) → size (place_of r) ≤ size s.place → Within F n m (function_ended style name r)
      at (Broken c i) w a z = (omega arith, omega (arith, b.0), b.1)
      at (Whole i) w a z =
          let eb : length s.bodies ≡ length style.bodies = ap (λ (xs : List FunctionBody). length xs) e in
          let et : length s.texts ≡ length style.texts = ap (λ (xs : List (List ℕ)). length xs) g in
          let f : F → length style.names.functions ≤ length i.bodies = λ h. omega (arith, a.0.0, eb, b.1 h) in
          let l = length-append i.bodies (i.tokens ∷ []) in
          (omega arith, omega (arith, l, eb, et, b.0), λ h. omega (arith, l, padded-len (length i.bodies) style.names.functions name (f h)))

function_of-within : {F : Type 0} (style : Style) (name : List ℕ) (p : Place) (o : Option Callee) (n m : ℕ) → size p < n → Base F n m style
    → Within F n m (function_of style name p o)
function_of-within style name p (Some other) n m h b = here (Some (Defined name)) style p n m (omega arith) b
function_of-within style name p None n m h b =
    after_read-within style (closing p) _ n m (weaker (size p) n (closing p) (omega arith) (closing-size p)) b (λ x q k.
    after_read-within style (opening q) _ n m (weaker (size q) n (opening q) (omega arith) (opening-size q)) b (λ x r l.
    function_ended-within style (folded name) (inside_at style r) n m l b refl refl))

function-within : {F : Type 0} (style : Style) (p : Place) → (F → BodiesLead style) → Within F (size p) (weight style p) (function_command style p)
unfolding function_command
function-within {F = F} style p f =
    let b : Base F (size p) (weight style p) style = (omega arith, f) in
    after_read-within style (opening p) _ (size p) (weight style p) (opening-size p) b (λ x q k.
    after_read-within style (next_name q) _ (size p) (weight style p) (weaker (size q) (size p) (next_name q) (omega arith) (name_at-size q)) b (λ name r l.
    function_of-within style name r (named style.names name) (size p) (weight style p) l b))

read-within : {F : Type 0} (style : Style) (p : Place) → (F → BodiesLead style) → Within F (size p) (weight style p) (read_command style p)
unfolding read_command
read-within {F = F} style p f = at (is_some style.before_read) style.has_entry where
  at : (t u : Bool) → Within F (size p) (weight style p)
      (cond t (outcome (Some (Another command.Read)) style p)
      (cond u (outcome None (with_item ReadItem (record style { before_read = Some (length style.bodies) })) p) (outcome (Some BeforeEntry) style p)))
  at true u = (omega arith, omega arith, f)
  at false true = (omega arith, omega arith, f)
  at false false = (omega arith, omega arith, f)

run_of-within : {F : Type 0} (item : Callee → Item) (style : Style) (name : List ℕ) (p : Place) (o : Option Callee) (n m : ℕ) → size p ≤ n → Base F n m style
    → Within F n m (run_of item style name p o)
run_of-within item style name p None n m h b = here (Some (Unknown name)) style p n m h b
run_of-within item style name p (Some callee) n m h b =
    after_read-within style (closing p) _ n m (weaker (size p) n (closing p) h (closing-size p)) b (λ x q k. (omega arith, omega (arith, b.0), b.1))

run-within : {F : Type 0} (c : Command) (item : Callee → Item) (style : Style) (p : Place) → (F → BodiesLead style)
    → Within F (size p) (weight style p) (run_command c item style p)
unfolding run_command
run-within {F = F} c item style p f = at (is_some style.before_read) where
  at : (t : Bool) → Within F (size p) (weight style p) (cond t (run_name item style p) (outcome (Some (BeforeRead c)) style p))
  at true =
      after_read-within style (opening p) _ (size p) (weight style p) (opening-size p) (omega arith, f) (λ x q k.
      after_read-within style (next_name q) _ (size p) (weight style p) (weaker (size q) (size p) (next_name q) (omega arith) (name_at-size q)) (omega arith, f)
      (λ name r l.
      run_of-within item style name r (function_in (named style.names name)) (size p) (weight style p) (omega arith) (omega arith, f)))
  at false = (omega arith, omega arith, f)

sort-within : {F : Type 0} (style : Style) (p : Place) → (F → BodiesLead style) → Within F (size p) (weight style p) (sort_command style p)
unfolding sort_command
sort-within {F = F} style p f = at (is_some style.before_read) where
  at : (t : Bool) → Within F (size p) (weight style p) (cond t (outcome None (with_item SortItem style) p) (outcome (Some (BeforeRead command.Sort)) style p))
  at true = (omega arith, omega arith, f)
  at false = (omega arith, omega arith, f)

declare-within : {F : Type 0} (kind : Kind) (item : Item) (style : Style) (p : Place) → (F → BodiesLead style)
    → Within F (size p) (weight style p) (declare kind item style p)
unfolding declare
declare-within kind item style p f = after_list-within style kind p _ (size p) (weight style p) (omega arith) (omega arith) f (λ d q h w g. (h, omega arith, g))

macro_of-within : {F : Type 0} (style : Style) (name : List ℕ) (p : Place) (o : Option (List ℕ)) (n m : ℕ) → size p ≤ n → Base F n m style
    → Within F n m (macro_of style name p o)
macro_of-within style name p (Some other) n m h b = here (Some (Defined name)) style p n m h b
macro_of-within style name p None n m h b =
    after_read-within style (closing p) _ n m (weaker (size p) n (closing p) h (closing-size p)) b (λ x q k.
    after_read-within style (opening q) _ n m (weaker (size q) n (opening q) (omega arith) (opening-size q)) b (λ x r l.
    after_read-within style (quoted_at r) _ n m (weaker (size r) n (quoted_at r) (omega arith) (quoted_at-size r)) b (λ text s o.
    after_read-within style (closing s) _ n m (weaker (size s) n (closing s) (omega arith) (closing-size s)) b
    (λ x t u. (omega arith, omega (arith, b.0), b.1)))))

macro-within : {F : Type 0} (style : Style) (p : Place) → (F → BodiesLead style) → Within F (size p) (weight style p) (macro_command style p)
unfolding macro_command
macro-within {F = F} style p f = at (is_some style.before_read) where
  at : (t : Bool) → Within F (size p) (weight style p) (cond t (outcome (Some AfterRead) style p) (macro_name style p))
  at true = (omega arith, omega arith, f)
  at false =
      after_read-within style (opening p) _ (size p) (weight style p) (opening-size p) (omega arith, f) (λ x q k.
      after_read-within style (next_name q) _ (size p) (weight style p) (weaker (size q) (size p) (next_name q) (omega arith) (name_at-size q)) (omega arith, f)
      (λ name r l.
      macro_of-within style name r (macro_lower style.macros (folded name)) (size p) (weight style p) (omega arith) (omega arith, f)))

command_at-within : {F : Type 0} (c : Command) (style : Style) (p : Place) → (F → BodiesLead style)
    → Within F (size p) (weight style p) (command_at c style p)
command_at-within command.Entry style p = entry-within style p
command_at-within command.Function style p = function-within style p
command_at-within command.Read style p = read-within style p
command_at-within command.Execute style p = run-within _ _ style p
command_at-within command.Iterate style p = run-within _ _ style p
command_at-within command.Reverse style p = run-within _ _ style p
command_at-within command.Sort style p = sort-within style p
command_at-within command.Integers style p = declare-within _ _ style p
command_at-within command.Strings style p = declare-within _ _ style p
command_at-within command.Macro style p = macro-within style p

word_outcome-within : {F : Type 0} (style : Style) (p : Place) (word : List ℕ) (o : Option Command) → (F → BodiesLead style)
    → Within F (size p) (weight style p) (word_outcome style p word o)
word_outcome-within style p word None f = (omega arith, omega arith, f)
word_outcome-within style p word (Some c) f = command_at-within c style p f

-- what is left after an item, and the style's weight then
abbrev StateWithin : Type 0 → ℕ → ℕ → StyleState → Type 0
StateWithin F n m s = (size s.place ≤ n) × (weight s.style s.place ≤ m) × (F → BodiesLead s.style)

resumed-within : {F : Type 0} (c : Option Complaint) (style : Style) (p : Place) (n m : ℕ) → Within F n m (outcome c style p)
    → StateWithin F n m (resumed c style p)
resumed-within None style p n m h = h
resumed-within (Some c) style p n m h = (omega (arith, h.0, skipped-size p), omega (arith, h.1, skipped-size p), h.2)

front_of-within : {F : Type 0} (style : Style) (p : Place) (n k : ℕ) (go : List ℕ → Place → CommandOutcome) → size p ≤ n → 0 < length p.line
    → (F → BodiesLead style) → ((word : List ℕ) (q : Place) → Within F (size q) (weight style q) (go word q))
    → (size (resumed_after (after_read style (front_of NoCommand p p.line k) go)).place < n)
    × StateWithin F n (weight style p) (resumed_after (after_read style (front_of NoCommand p p.line k) go))
unfolding size
front_of-within style p n zero go h some f each =
    let a = skipped-size p in (omega arith, (omega arith, omega arith, f))
front_of-within style p n (suc k) go h some f each =
    let q = further p (drop (suc k) p.line) in
    let o = go (take (suc k) p.line) q in
    let l = length-drop (suc k) p.line in
    let r = resumed-within o.complaint o.style o.place (size q) (weight style q) (each (take (suc k) p.line) q) in
    (omega (arith, l, r.0), (omega (arith, l, r.0), omega (arith, l, r.1), r.2))

item_in-within : {F : Type 0} (style : Style) (p : Place) (line : List ℕ) (n : ℕ) → p.line ≡ line → size p ≤ n → (F → BodiesLead style)
    → OnTurn (λ t. (size t.place < n) × StateWithin F n (weight style p) t) (λ (r : Style). Unit {0}) (item_in style p line)
item_in-within style p [] n e h f = tt
item_in-within style p (b ∷ bs) n e h f =
    let some : 0 < length p.line = rw e (omega arith) in
    front_of-within style p n (letters_len p.line) _ h some f (λ word q. word_outcome-within style q word (command_named (folded word)) f)

abbrev left_in : StyleState → ℕ
left_in s = size s.place

-- an item leaves less, and bodies lead as they did
abbrev ItemTurn : StyleState → Turn StyleState Style → Type 0
ItemTurn s t =
    OnTurn (λ u. (size u.place < size s.place) × StateWithin (BodiesLead s.style) (size s.place) (weight s.style (ink s.place)) u) (λ (r : Style). Unit {0}) t

item_turn-within : (s : StyleState) → ItemTurn s (item_turn s)
unfolding item_turn
item_turn-within s = item_in-within s.style (ink s.place) (ink s.place).line (size s.place) refl (ink-size s.place) (λ h. h)

pub item_turn-falls : (s : StyleState) → OnTurn (λ t. left_in t < left_in s) (λ (r : Style). Unit {0}) (item_turn s)
item_turn-falls s = at (item_turn s) (item_turn-within s) where
  at : (t : Turn StyleState Style) → ItemTurn s t → OnTurn (λ u. left_in u < left_in s) (λ (r : Style). Unit {0}) t
  at (Again u) h = h.0
  at (Ends r) h = tt

pub style_from-next : (s : StyleState) → style_from s ≡ after_turn style_from (item_turn s)
unfolding style_from
style_from-next s = turns-next item_turn style_so_far left_in item_turn-falls s

pub style_from-again : (s t : StyleState) → item_turn s ≡ Again t → style_from s ≡ style_from t
style_from-again s t e = rw (style_from-next s, e) refl

pub style_from-ends : (s : StyleState) (r : Style) → item_turn s ≡ Ends r → style_from s ≡ r
style_from-ends s r e = rw (style_from-next s, e) refl

pub item_turn-less : (s t : StyleState) → item_turn s ≡ Again t → size t.place < size s.place
item_turn-less s t e = let h : OnTurn (λ t. left_in t < left_in s) (λ (r : Style). Unit {0}) (Again t) = rw e at (item_turn-falls s) in h

-- a style keeps its room, item by item
pub item_turn-room : (s t : StyleState) → item_turn s ≡ Again t → HasRoom s.style s.place → HasRoom t.style t.place
item_turn-room s t e h =
    let k : ItemTurn s (Again t) = rw e at (item_turn-within s) in
    (omega (arith, h.0, k.1.1, ink-size s.place), k.1.2 h.1)

pub ruleset style_steps = (style_from-again, style_from-ends, item_turn-less)
