-- Bodies and commands refer to what is defined before.
use Rattle.std.proofs.Common.{◌≡◌, ℕ, zero, suc, ◌+◌, ◌<◌, ◌≤◌, Bool, true, false, cond, List, [], ◌∷◌, ◌++◌, length, refl, sym, arith, Option, None, Some}
use Rattle.std.specs.Prelude.{slice_get, slice_index_or, position, nat_lt}
use Rattle.std.specs.Option.{option_map, option_or}
use Rattle.std.specs.Str.{bytes_eq}
use Rattle.std.proofs.lemmas.List.{length-append}
use Rattle.std.proofs.lemmas.List.Quantifiers.{position-Some}
use Rattle.btx_text.specs.language.Keys.{folded}
use Rattle.btx_bst.specs.declared.callee.Callee.{Callee}
use Rattle.btx_bst.specs.declared.callee.Callee.TheVariants.{User, Field, EntryInteger, EntryString, GlobalInteger, GlobalString}
use Rattle.btx_bst.specs.declared.callee.Callee.TheVariants as callee
use Rattle.btx_bst.specs.declared.callee.Kind.{Kind}
use Rattle.btx_bst.specs.declared.callee.Kind.TheVariants as kind
use Rattle.btx_bst.specs.declared.token.Token.{Token}
use Rattle.btx_bst.specs.declared.token.Token.TheVariants.{Text, Quote, Run}
use Rattle.btx_bst.specs.declared.token.Token.TheVariants as token
use Rattle.btx_bst.specs.language.Places.{Place, size}
use Rattle.btx_bst.specs.language.Complaints.{Complaint, EndOfFile}
use Rattle.btx_bst.specs.language.Reads.{Read, Took, Mistake}
use Rattle.btx_bst.specs.language.Items.{Item}
use Rattle.btx_bst.specs.language.Items as item
use Rattle.btx_bst.specs.language.BuiltIns.{built_in_of}
use Rattle.btx_bst.specs.language.Names.{Names, named, named_lower, with_name, with_function}
use Rattle.btx_bst.specs.language.Style.{Style, as_type}
use Rattle.btx_bst.specs.language.Turns.{Turn}
use Rattle.btx_bst.specs.language.Words.{BodyWord, Open, Close, String, Integer, Quoted, Name, Faulty, Unended, Ended, met_at}
use Rattle.btx_bst.specs.language.Lists.{opening, closing, next_name, Listing, listing, Listed, name_turn, list_turn_in, list_turn, list_end, list_read}
use Rattle.btx_bst.specs.language.Lists.{list_at}
use Rattle.btx_bst.specs.language.BodyText.{Inside, BodyEnd, Whole, Broken, with_named, closed_inside, word_turn, body_turn, body_end}
use Rattle.btx_bst.specs.language.Outcomes.{with_item}
use Rattle.btx_bst.specs.language.Commands.{function_ended, function_in, inside_at}
use Rattle.btx_bst.specs.language.Predefined.{predefined}
use Rattle.btx_bst.specs.language.StyleText.{style_of}
use Rattle.btx_bst.specs.laws.References.{IsKnown, IsFunction, Refers, IsKnownItem, RefersWithin, ReferencesLaw, ItemsLaw}
use Rattle.btx_bst.proofs.TurnLemmas.{OnTurn, turns-keep}
use Rattle.btx_bst.proofs.FurtherLemmas.{padded-len}
use Rattle.btx_bst.proofs.KeepLemmas.{Keeps, kept-style}
use Rattle.btx_bst.specs.refinement.Names.{number_in, has_name}
use Rattle.btx_bst.specs.laws.StyleText.{unread_style}
use Rattle.btx_bst.specs.refinement.Lists.{unlisted, with_new}
use Rattle.btx_bst.specs.refinement.Bodies.{FunctionBody}

-- ---- more of each kind

-- as many fields and variables at least
record Wider (a b : Names) : Type 0 where
  fields : length a.fields ≤ length b.fields
  entry_integers : length a.entry_integers ≤ length b.entry_integers
  entry_strings : length a.entry_strings ≤ length b.entry_strings
  global_integers : length a.global_integers ≤ length b.global_integers
  global_strings : length a.global_strings ≤ length b.global_strings

same-width : (a : Names) → Wider a a
same-width a = record {
  fields = omega arith;
  entry_integers = omega arith;
  entry_strings = omega arith;
  global_integers = omega arith;
  global_strings =
      omega arith;
}

known_more : (a b : Names) (n m : ℕ) (c : Callee) → Wider a b → n ≤ m → IsKnown a n c → IsKnown b m c
known_more a b n m (callee.BuiltIn x) w h k = tt
known_more a b n m (User x) w h k = omega arith
known_more a b n m (Field x) w h k = let l = w.fields in omega arith
known_more a b n m (EntryInteger x) w h k = let l = w.entry_integers in omega arith
known_more a b n m (EntryString x) w h k = let l = w.entry_strings in omega arith
known_more a b n m (GlobalInteger x) w h k = let l = w.global_integers in omega arith
known_more a b n m (GlobalString x) w h k = let l = w.global_strings in omega arith

refers_more : (a b : Names) (t u n m : ℕ) (x : Token) → Wider a b → t ≤ u → n ≤ m → Refers a t n x → Refers b u m x
refers_more a b t u n m (Text x) w g h k = omega arith
refers_more a b t u n m (token.Integer x) w g h k = tt
refers_more a b t u n m (Quote c) w g h k = known_more a b n m c w h k
refers_more a b t u n m (Run c) w g h k = known_more a b n m c w h k

-- all tokens of a body
abbrev pub AllRefer : Names → ℕ → ℕ → FunctionBody → Type 0
AllRefer names t n [] = Unit {0}
AllRefer names t n (x ∷ xs) = Refers names t n x × AllRefer names t n xs

all_more : (a b : Names) (t u n m : ℕ) (xs : FunctionBody) → Wider a b → t ≤ u → n ≤ m → AllRefer a t n xs → AllRefer b u m xs
all_more a b t u n m [] w g h k = tt
all_more a b t u n m (x ∷ xs) w g h k = (refers_more a b t u n m x w g h k.0, all_more a b t u n m xs w g h k.1)

all_push : (a : Names) (t n : ℕ) (xs : FunctionBody) (x : Token) → AllRefer a t n xs → Refers a t n x → AllRefer a t n (xs ++ x ∷ [])
all_push a t n [] x h k = (k, tt)
all_push a t n (y ∷ xs) x h k = (h.0, all_push a t n xs x h.1 k)

-- each body, the first of which has this number
abbrev pub AreEarlier : Names → ℕ → ℕ → List FunctionBody → Type 0
AreEarlier names t n [] = Unit {0}
AreEarlier names t n (body ∷ bodies) = AllRefer names t n body × AreEarlier names t (suc n) bodies

earlier_more : (a b : Names) (t u n : ℕ) (bodies : List FunctionBody) → Wider a b → t ≤ u → AreEarlier a t n bodies → AreEarlier b u n bodies
earlier_more a b t u n [] w g h = tt
earlier_more a b t u n (body ∷ bodies) w g h = (all_more a b t u n n body w g (omega arith) h.0, earlier_more a b t u (suc n) bodies w g h.1)

earlier_push : (a : Names) (t n m : ℕ) (bodies : List FunctionBody) (body : FunctionBody) → m ≡ n + length bodies → AreEarlier a t n bodies
    → AllRefer a t m body → AreEarlier a t n (bodies ++ body ∷ [])
earlier_push a t n m [] body e h k = (all_more a a t t m n body (same-width a) (omega arith) (omega arith) k, tt)
earlier_push a t n m (first ∷ bodies) body e h k = (h.0, earlier_push a t (suc n) m bodies body (omega arith) h.1 k)

-- the bodies round the innermost one
abbrev pub AroundRefer : Names → ℕ → ℕ → List FunctionBody → Type 0
AroundRefer names t n [] = Unit {0}
AroundRefer names t n (body ∷ bodies) = AllRefer names t n body × AroundRefer names t n bodies

around_more : (a : Names) (t u n m : ℕ) (bodies : List FunctionBody) → t ≤ u → n ≤ m → AroundRefer a t n bodies → AroundRefer a u m bodies
around_more a t u n m [] g h k = tt
around_more a t u n m (body ∷ bodies) g h k = (all_more a a t u n m body (same-width a) g h k.0, around_more a t u n m bodies g h k.1)

-- all items
abbrev pub AllItems : ℕ → List Item → Type 0
AllItems n [] = Unit {0}
AllItems n (i ∷ is) = IsKnownItem n i × AllItems n is

function_more : (n m : ℕ) (c : Callee) → n ≤ m → IsFunction n c → IsFunction m c
function_more n m (callee.BuiltIn x) h k = tt
function_more n m (User x) h k = omega arith
function_more n m (Field x) h k = k
function_more n m (EntryInteger x) h k = k
function_more n m (EntryString x) h k = k
function_more n m (GlobalInteger x) h k = k
function_more n m (GlobalString x) h k = k

item_more : (n m : ℕ) (i : Item) → n ≤ m → IsKnownItem n i → IsKnownItem m i
item_more n m (item.Message c line) h k = tt
item_more n m item.Entry h k = tt
item_more n m (item.Function x) h k = omega arith
item_more n m item.Read h k = tt
item_more n m (item.Execute c) h k = function_more n m c h k
item_more n m (item.Iterate c) h k = function_more n m c h k
item_more n m (item.Reverse c) h k = function_more n m c h k
item_more n m item.Sort h k = tt
item_more n m item.Integers h k = tt
item_more n m item.Strings h k = tt
item_more n m item.Macro h k = tt

items_more : (n m : ℕ) (is : List Item) → n ≤ m → AllItems n is → AllItems m is
items_more n m [] h k = tt
items_more n m (i ∷ is) h k = (item_more n m i h k.0, items_more n m is h k.1)

items_push : (n : ℕ) (is : List Item) (i : Item) → AllItems n is → IsKnownItem n i → AllItems n (is ++ i ∷ [])
items_push n [] i h k = (k, tt)
items_push n (j ∷ is) i h k = (h.0, items_push n is i h.1 k)

-- ---- what a name names

abbrev FoundKnown : Names → ℕ → Option Callee → Type 0
FoundKnown names n None = Unit {0}
FoundKnown names n (Some c) = IsKnown names n c

found_or : (a : Names) (n : ℕ) (o p : Option Callee) → FoundKnown a n o → FoundKnown a n p → FoundKnown a n (option_or o p)
found_or a n None p h k = k
found_or a n (Some c) p h k = h

found_map : {A : Type 0} (a : Names) (n : ℕ) (f : A → Callee) (o : Option A) → ((i : A) → o ≡ Some i → IsKnown a n (f i)) → FoundKnown a n (option_map f o)
found_map a n f None h = tt
found_map a n f (Some i) h = h i refl

number_in-within : (names : List (List ℕ)) (name : List ℕ) (i : ℕ) → number_in names name ≡ Some i → i < length names
number_in-within names name i h = (position-Some (bytes_eq name) names i [] h).0

found_known : (a : Names) (n : ℕ) (name : List ℕ) → length a.functions ≤ n → FoundKnown a n (named_lower a name)
unfolding named_lower
found_known a n name h =
    found_or a n _ _ (found_map a n callee.BuiltIn (built_in_of name) (λ i e. tt))
    (found_or a n _ _ (found_map a n User (position (has_name name) a.functions) (λ i e. let l = (position-Some (has_name name) a.functions i None e).0 in
    omega arith))
    (found_or a n _ _ (found_map a n Field (number_in a.fields name) (λ i e. number_in-within a.fields name i e))
    (found_or a n _ _ (found_map a n EntryInteger (number_in a.entry_integers name) (λ i e. number_in-within a.entry_integers name i e))
    (found_or a n _ _ (found_map a n EntryString (number_in a.entry_strings name) (λ i e. number_in-within a.entry_strings name i e))
    (found_or a n _ _ (found_map a n GlobalInteger (number_in a.global_integers name) (λ i e. number_in-within a.global_integers name i e))
    (found_map a n GlobalString (number_in a.global_strings name) (λ i e. number_in-within a.global_strings name i e)))))))

-- ---- bodies

-- inside a body that began when `before` functions were defined
pub record Fine (names : Names) (before : ℕ) (inside : Inside) : Type 0 where
  pub grown : before ≤ length inside.bodies
  pub tokens_known : AllRefer names (length inside.texts) (length inside.bodies) inside.tokens
  pub around_known : AroundRefer names (length inside.texts) (length inside.bodies) inside.around
  pub earlier : AreEarlier names (length inside.texts) 0 inside.bodies
  pub items_known : AllItems before inside.items

abbrev pub FineEnd : Names → ℕ → BodyEnd → Type 0
FineEnd names before (Whole inside) = Fine names before inside
FineEnd names before (Broken complaint inside) = Fine names before inside

abbrev FineTurn : Names → ℕ → Turn Inside BodyEnd → Type 0
FineTurn names before t = OnTurn (Fine names before) (FineEnd names before) t

fine_token : (a : Names) (b : ℕ) (s : Inside) (x : Token) → Refers a (length s.texts) (length s.bodies) x → Fine a b s
    → Fine a b (record s { tokens = s.tokens ++ x ∷ [] })
fine_token a b s x k f = record {
  grown = f.grown;
  tokens_known = all_push a (length s.texts) (length s.bodies) s.tokens x f.tokens_known k;
  around_known =
      f.around_known;
  earlier = f.earlier;
  items_known = f.items_known;
}

fine_message : (a : Names) (b : ℕ) (s : Inside) (c : Complaint) (line : ℕ) → Fine a b s → Fine a b (record s { items = s.items ++ item.Message c line ∷ [] })
fine_message a b s c line f = record {
  grown = f.grown;
  tokens_known = f.tokens_known;
  around_known = f.around_known;
  earlier = f.earlier;
  items_known =
      items_push b s.items (item.Message c line) f.items_known tt;
}

fine_named : (a : Names) (b : ℕ) (token : Callee → Token) (name : List ℕ) (s : Inside) (o : Option Callee)
    → ((t n : ℕ) (c : Callee) → IsKnown a n c → Refers a t n (token c)) → Fine a b s → FoundKnown a (length s.bodies) o → Fine a b (with_named token name s o)
fine_named a b token name s None h f k = fine_message a b s _ _ f
fine_named a b token name s (Some c) h f k = fine_token a b s (token c) (h (length s.texts) (length s.bodies) c k) f

fine_text : (a : Names) (b : ℕ) (s : Inside) (text : List ℕ) → Fine a b s
    → Fine a b (record s { tokens = s.tokens ++ Text (length s.texts) ∷ []; texts = s.texts ++ text ∷ [] })
fine_text a b s text f =
    let t = length s.texts in
    let u = length (s.texts ++ text ∷ []) in
    let n = length s.bodies in
    let longer : u ≡ suc t = omega (arith, length-append s.texts (text ∷ [])) in
    let w = same-width a in
    record {
      grown = f.grown;
      tokens_known = all_push a u n s.tokens (Text t) (all_more a a t u n n s.tokens w (omega arith) (omega arith) f.tokens_known) (omega arith);
      around_known = around_more a t u n n s.around (omega arith) (omega arith) f.around_known;
      earlier = earlier_more a a t u 0 s.bodies w (omega arith) f.earlier;
      items_known = f.items_known;
    }

fine_closed : (a : Names) (b : ℕ) (s : Inside) (around : List FunctionBody) → s.around ≡ around → Fine a b s → FineTurn a b (closed_inside s around)
fine_closed a b s [] e f = f
fine_closed a b s (outer ∷ around) e f =
    let t = length s.texts in
    let n = length s.bodies in
    let m = length (s.bodies ++ s.tokens ∷ []) in
    let longer : m ≡ suc n = omega (arith, length-append s.bodies (s.tokens ∷ [])) in
    let k : AroundRefer a t n (outer ∷ around) = rw e at f.around_known in
    let g = f.grown in
    record {
      grown = omega arith;
      tokens_known = all_push a t m outer (Quote (User n)) (all_more a a t t n m outer (same-width a) (omega arith) (omega arith) k.0) (omega arith);
      around_known = around_more a t t n m around (omega arith) (omega arith) k.1;
      earlier = earlier_push a t 0 n s.bodies s.tokens (omega arith) f.earlier f.tokens_known;
      items_known = f.items_known;
    }

fine_word : (a : Names) (b : ℕ) (s : Inside) (w : BodyWord) → ((n : ℕ) (name : List ℕ) → b ≤ n → FoundKnown a n (named a name)) → Fine a b s
    → FineTurn a b (word_turn a s w)
fine_word a b s Open found f = record {
  grown = f.grown;
  tokens_known = tt;
  around_known = (f.tokens_known, f.around_known);
  earlier = f.earlier;
  items_known =
      f.items_known;
}
fine_word a b s Close found f = fine_closed a b s s.around refl f
fine_word a b s (String text) found f = fine_text a b s text f
fine_word a b s (Integer value) found f = fine_token a b s (token.Integer value) tt f
fine_word a b s (Quoted name) found f = fine_named a b Quote name s (named a name) (λ t n c k. k) f (found (length s.bodies) name f.grown)
fine_word a b s (Name name) found f = fine_named a b Run name s (named a name) (λ t n c k. k) f (found (length s.bodies) name f.grown)
fine_word a b s (Faulty c) found f = fine_message a b s c _ f
fine_word a b s Unended found f = f
fine_word a b s Ended found f = f

fine_body : (a : Names) (b : ℕ) (s : Inside) → length a.functions ≤ b → Fine a b s → FineEnd a b (body_end a s)
unfolding body_end body_turn
fine_body a b s h f =
    let found : (n : ℕ) (name : List ℕ) → b ≤ n → FoundKnown a n (named a name) = λ n name l. found_known a n (folded name) (omega arith) in
    turns-keep (Fine a b) (FineEnd a b) (body_turn a) (Broken EndOfFile)
    (λ t k. fine_word a b (record t { place = (met_at t.place).place }) (met_at t.place).word found
    (record { grown = k.grown; tokens_known = k.tokens_known; around_known = k.around_known; earlier = k.earlier; items_known = k.items_known }))
    (λ t k. k) (suc (size s.place)) s f

-- ---- lists of names

-- as many fields and variables at least, and the same functions
abbrev Further : Names → Names → Type 0
Further a b = Wider a b × (length b.functions ≤ length a.functions)

-- a list that grows stays as long at least
longer : (n : ℕ) (xs : List (List ℕ)) (name : List ℕ) → n ≤ length xs → n ≤ length (xs ++ name ∷ [])
longer n xs name h = omega (arith, length-append xs (name ∷ []))

wider_name : (a b : Names) (k : Kind) (name : List ℕ) → Further a b → Further a (with_name k name b)
wider_name a b kind.Field name h = assumption (h, longer _ b.fields name h.0.fields)
wider_name a b kind.EntryInteger name h = assumption (h, longer _ b.entry_integers name h.0.entry_integers)
wider_name a b kind.EntryString name h = assumption (h, longer _ b.entry_strings name h.0.entry_strings)
wider_name a b kind.GlobalInteger name h = assumption (h, longer _ b.global_integers name h.0.global_integers)
wider_name a b kind.GlobalString name h = assumption (h, longer _ b.global_strings name h.0.global_strings)

abbrev FurtherTurn : Names → Turn Listing Listed → Type 0
FurtherTurn a t = OnTurn (λ s. Further a s.names) (λ r. Further a r.listing.names) t

further_new : (a : Names) (k : Kind) (b : Names) (name : List ℕ) (p : Place) (o : Option Callee) → Further a b → FurtherTurn a (with_new k b name p o)
further_new a k b name p None h = wider_name a b k (folded name) h
further_new a k b name p (Some other) h = h

further_name : (a : Names) (k : Kind) (b : Names) (r : Read (List ℕ)) → Further a b → FurtherTurn a (name_turn k b r)
further_name a k b (Mistake c p) h = h
further_name a k b (Took name p) h = further_new a k b name p (named b name) h

further_turn : (a : Names) (k : Kind) (b : Names) (r : Read (Unit {0})) → Further a b → FurtherTurn a (list_turn_in k b r)
further_turn a k b (Took x p) h = h
further_turn a k b (Mistake c p) h = further_name a k b (next_name p) h

further_end : (a : Names) (k : Kind) (s : Listing) → Further a s.names → Further a (list_end k s).listing.names
unfolding list_end list_turn
further_end a k s h =
    turns-keep (λ u. Further a u.names) (λ r. Further a r.listing.names) (list_turn k) unlisted
    (λ u f. further_turn a k u.names (closing u.place) f) (λ u f. f) (suc (size s.place)) s h

further_read : (a : Names) (k : Kind) (r : Read (Unit {0})) → Further a (list_read k a r).listing.names
further_read a k (Mistake c p) = (same-width a, omega arith)
further_read a k (Took x p) = further_end a k (listing a p) (same-width a, omega arith)

-- ---- styles

pub record FineStyle (s : Style) : Type 0 where
  pub no_later : length s.names.functions ≤ length s.bodies
  pub earlier : AreEarlier s.names (length s.texts) 0 s.bodies
  pub items_known : AllItems (length s.bodies) s.items

fine_item : (i : Item) (s : Style) → IsKnownItem (length s.bodies) i → FineStyle s → FineStyle (with_item i s)
fine_item i s k f = record { no_later = f.no_later; earlier = f.earlier; items_known = items_push (length s.bodies) s.items i f.items_known k }

fine_names : (s : Style) (k : Kind) (p : Place) → FineStyle s → FineStyle (record s { names = (list_at k s.names p).listing.names })
fine_names s k p f =
    let h : Further s.names (list_at k s.names p).listing.names = further_read s.names k (opening p) in
    let l = f.no_later in
    let g = h.1 in
    record {
      no_later = omega arith;
      earlier = earlier_more s.names _ (length s.texts) (length s.texts) 0 s.bodies h.0 (omega arith) f.earlier;
      items_known = f.items_known;
    }

fine_ended : (s : Style) (name : List ℕ) (r : BodyEnd) → FineStyle s → FineEnd s.names (length s.bodies) r → FineStyle (function_ended s name r).style
fine_ended s name (Broken c i) h f = record { no_later = h.no_later; earlier = h.earlier; items_known = f.items_known }
fine_ended s name (Whole i) h f =
    let t = length i.texts in
    let n = length i.bodies in
    let m = length (i.bodies ++ i.tokens ∷ []) in
    let longer : m ≡ suc n = omega (arith, length-append i.bodies (i.tokens ∷ [])) in
    let g = f.grown in
    let l = h.no_later in
    let names = with_function n name s.names in
    let w : Wider s.names names = record {
      fields = omega arith;
      entry_integers = omega arith;
      entry_strings = omega arith;
      global_integers = omega arith;
      global_strings = omega arith;
    } in
    record {
      no_later = omega (arith, padded-len n s.names.functions name (omega arith));
      earlier = earlier_push names t 0 n i.bodies i.tokens (omega arith) (earlier_more s.names names t t 0 i.bodies w (omega arith) f.earlier)
          (all_more s.names names t t n n i.tokens w (omega arith) (omega arith) f.tokens_known);
      items_known = items_push m i.items (item.Function n) (items_more (length s.bodies) m i.items (omega arith) f.items_known) (omega arith);
    }

pub fine_function_body : (s : Style) (p : Place) → FineStyle s → FineEnd s.names (length s.bodies) (body_end s.names (inside_at s p))
fine_function_body s p h =
    fine_body s.names (length s.bodies) (inside_at s p) h.no_later
    (record { grown = omega arith; tokens_known = tt; around_known = tt; earlier = h.earlier; items_known = h.items_known })

fine_function : (s : Style) (name : List ℕ) (p : Place) → FineStyle s → FineStyle (function_ended s (folded name) (body_end s.names (inside_at s p))).style
fine_function s name p h = fine_ended s (folded name) (body_end s.names (inside_at s p)) h (fine_function_body s p h)

found_function : (a : Names) (n : ℕ) (o : Option Callee) (c : Callee) → function_in o ≡ Some c → FoundKnown a n o → IsFunction n c
found_function a n None c e h = absurd (cc)
found_function a n (Some (User k)) c e h = let d : User k ≡ c = cc in rw (sym d) h
found_function a n (Some (callee.BuiltIn b)) c e h = let d : callee.BuiltIn b ≡ c = cc in rw (sym d) tt
found_function a n (Some (Field k)) c e h = absurd (cc)
found_function a n (Some (EntryInteger k)) c e h = absurd (cc)
found_function a n (Some (EntryString k)) c e h = absurd (cc)
found_function a n (Some (GlobalInteger k)) c e h = absurd (cc)
found_function a n (Some (GlobalString k)) c e h = absurd (cc)

fine_run : (s : Style) (name : List ℕ) (c : Callee) → function_in (named s.names name) ≡ Some c → FineStyle s → IsFunction (length s.bodies) c
fine_run s name c e f = found_function s.names (length s.bodies) (named s.names name) c e (found_known s.names (length s.bodies) (folded name) f.no_later)

pub fine_keeps : Keeps FineStyle
fine_keeps = record {
  on_message = λ c line s f. fine_item (item.Message c line) s tt f;
  on_names = fine_names;
  on_entry = λ s e f. fine_item item.Entry (record s { has_entry = true }) tt
      (record { no_later = f.no_later; earlier = f.earlier; items_known = f.items_known });
  on_read = λ s e g f. fine_item item.Read (record s { before_read = Some (length s.bodies) }) tt
      (record { no_later = f.no_later; earlier = f.earlier; items_known = f.items_known });
  on_function = λ s name p e f. fine_function s name p f;
  on_execute = λ s name c r e f. fine_item (item.Execute c) s (fine_run s name c e f) f;
  on_iterate = λ s name c r e f. fine_item (item.Iterate c) s (fine_run s name c e f) f;
  on_reverse = λ s name c r e f. fine_item (item.Reverse c) s (fine_run s name c e f) f;
  on_sort = λ s r f. fine_item item.Sort s tt f;
  on_integers = λ s f. fine_item item.Integers s tt f;
  on_strings = λ s f. fine_item item.Strings s tt f;
  on_macro = λ s name text r e f. fine_item item.Macro (record s { macros = s.macros ++ (folded name, text) ∷ [] }) tt
      (record { no_later = f.no_later; earlier = f.earlier; items_known = f.items_known });
}

pub fine_start : (file : List ℕ) → FineStyle (unread_style file predefined)
fine_start file = record { no_later = omega arith; earlier = tt; items_known = tt }

fine_style : (file text : List ℕ) → FineStyle (style_of file text)
fine_style file text = kept-style FineStyle fine_keeps file text (fine_start file)

-- ---- by number and place

token_at : (a : Names) (t n : ℕ) (body : FunctionBody) (k : ℕ) (x : Token) → AllRefer a t n body → slice_get body k ≡ Some x → Refers a t n x
token_at a t n [] k x h e = absurd (cc)
token_at a t n (y ∷ body) zero x h e = let d : y ≡ x = cc in rw (sym d) h.0
token_at a t n (y ∷ body) (suc k) x h e = token_at a t n body k x h.1 e

body_at : (a : Names) (t n m : ℕ) (bodies : List FunctionBody) (k : ℕ) → m ≡ n + k → AreEarlier a t n bodies → AllRefer a t m (slice_index_or bodies k [])
body_at a t n m [] k e h = tt
body_at a t n m (body ∷ bodies) zero e h = all_more a a t t n m body (same-width a) (omega arith) (omega arith) h.0
body_at a t n m (body ∷ bodies) (suc k) e h = body_at a t (suc n) m bodies k (omega arith) h.1

item_at : (n : ℕ) (is : List Item) (k : ℕ) (x : Item) → AllItems n is → slice_get is k ≡ Some x → IsKnownItem n x
item_at n [] k x h e = absurd (cc)
item_at n (y ∷ is) zero x h e = let d : y ≡ x = cc in rw (sym d) h.0
item_at n (y ∷ is) (suc k) x h e = item_at n is k x h.1 e

known_found : (a : Names) (n : ℕ) (o : Option Callee) (c : Callee) → o ≡ Some c → FoundKnown a n o → IsKnown a n c
known_found a n None c e h = absurd (cc)
known_found a n (Some d) c e h = let g : d ≡ c = cc in rw (sym g) h

-- the function of a type is known
type_known : (a : Names) (n : ℕ) (before : Option ℕ) (o : Option Callee) (number : ℕ) → as_type before o ≡ Some number → FoundKnown a n o → number < n
type_known a n None o number e h = absurd (cc)
type_known a n (Some count) None number e h = absurd (cc)
type_known a n (Some count) (Some (User k)) number e h = at (nat_lt k count) e where
  at : (t : Bool) → cond t (Some k) None ≡ Some number → number < n
  at true g = let d : k ≡ number = cc in rw (sym d) h
  at false g = absurd (cc)
type_known a n (Some count) (Some (callee.BuiltIn b)) number e h = absurd (cc)
type_known a n (Some count) (Some (Field k)) number e h = absurd (cc)
type_known a n (Some count) (Some (EntryInteger k)) number e h = absurd (cc)
type_known a n (Some count) (Some (EntryString k)) number e h = absurd (cc)
type_known a n (Some count) (Some (GlobalInteger k)) number e h = absurd (cc)
type_known a n (Some count) (Some (GlobalString k)) number e h = absurd (cc)

pub refers_within : (s : Style) → FineStyle s → RefersWithin s
refers_within s f = record {
  bodies = λ number place token e. token_at s.names (length s.texts) number (slice_index_or s.bodies number []) place token
      (body_at s.names (length s.texts) 0 number s.bodies number (omega arith) f.earlier) e;
  commands = λ place item e. item_at (length s.bodies) s.items place item f.items_known e;
  names = λ name c e. known_found s.names (length s.bodies) (named_lower s.names name) c e (found_known s.names (length s.bodies) name f.no_later);
  types = λ name number e. type_known s.names (length s.bodies) s.before_read (named_lower s.names name) number e
      (found_known s.names (length s.bodies) name f.no_later);
}

pub style-refers_within : (file text : List ℕ) → RefersWithin (style_of file text)
style-refers_within file text = refers_within (style_of file text) (fine_style file text)

pub read-refers_within : (file text : List ℕ) (s : Style) → s ≡ style_of file text → RefersWithin s
read-refers_within file text s e = rw e (style-refers_within file text)

pub references-earlier : ReferencesLaw
references-earlier file text = (style-refers_within file text).bodies

pub items-known : ItemsLaw
items-known file text = (style-refers_within file text).commands

pub ruleset reference_laws = (references-earlier, items-known)
