-- What the numbers of a job stand for: functions with their bodies, entries, and variables with their names.
use Rattle.std.proofs.Common.{◌≡◌, ℕ, zero, suc, ◌+◌, ◌<◌, Bool, true, false, if◌then◌else◌, List, [], ◌∷◌, length, map, Option, None, Some, option_map}
use Rattle.std.proofs.Common.{option_and_then, unwrap_or, sym, ap, subst, ◌∙◌, refl, arith, true≢false, codes}
use Rattle.std.specs.List.{position, position_from, IsDistinct, AllByRecursion}
use Rattle.std.specs.Prelude.{slice_get, slice_index_or}
use Rattle.std.specs.Str.{bytes_eq}
use Rattle.std.proofs.lemmas.Iterator.Adapters.{position_from-zero}
use Rattle.std.proofs.lemmas.List.{length-map}
use Rattle.std.proofs.lemmas.List.Quantifiers.{position-Some}
use Rattle.std.proofs.lemmas.Option.{slice_get_within, same_Some}
use Rattle.std.proofs.lemmas.Slice.Eq.{bytes_eq-Decides}
use Rattle.btx_aux.specs.language.Names.{is_same_key}
use Rattle.btx_bib.specs.declared.entry.Entry.{Entry as NumberedEntry}
use Rattle.btx_bib.specs.language.Library.{entry_type, entry_value, key_of}
use Rattle.btx_bib.specs.language.Values.{field_value}
use Rattle.btx_bib.proofs.ListedKeyLemmas.{same_key_equiv}
use Rattle.btx_bst.specs.declared.callee.Callee.{Callee}
use Rattle.btx_bst.specs.declared.callee.Callee.TheVariants as callee
use Rattle.btx_bst.specs.declared.callee.Kind.TheVariants as kind
use Rattle.btx_bst.specs.declared.token.Token.{Token}
use Rattle.btx_bst.specs.declared.token.Token.TheVariants as token
use Rattle.btx_bst.specs.language.Names.{Names, name_of, named_lower}
use Rattle.btx_bst.specs.language.Style.{as_field, field_of, type_of}
use Rattle.btx_bst.specs.laws.FirstNames.{HaveFirstNames}
use Rattle.btx_bst.specs.laws.Meanings.{HasName}
use Rattle.btx_bst.specs.laws.References.{RefersWithin}
use Rattle.btx_step.specs.language.Entries.{entry_of}
use Rattle.btx_step.specs.language.Jobs.{Job as NumberedJob}
use Rattle.btx_core.specs.laws.SameLibraries.{IsSameEntry, AreSameEntries, IsSameLibrary}
use Rattle.btx_core.specs.laws.SameStyles.{Numbers, numbers_of, stands_for, word_of, IsBodyOf, AreFunctionsOf, IsMeant, IsSameStyle}
use Rattle.btx_core.specs.language.Styles.{Body, Built, Declared, Defined, Empty, Entry, Function, Integer, Library, Push, Quoted, Run, Style, Text, Then, StyleToken}
use Rattle.btx_core.specs.language.Notes.{name_of as shown_name}
use Rattle.btx_core.proofs.SameNumberLemmas.{functions_length}
use Rattle.btx_core.proofs.VariableLemmas.{Numbering}

-- ---- numbers of lists

from_later : {A : Type 0} (test : A → Bool) (i : ℕ) (xs : List A) → position_from test (i + 1) xs ≡ option_map suc (position_from test i xs)
from_later test i [] = refl
from_later test i (x ∷ xs) = by (test x) (from_later test (i + 1) xs) where
  by : (t : Bool) → position_from test (i + 1 + 1) xs ≡ option_map suc (position_from test (i + 1) xs)
      → (if t then Some (i + 1) else position_from test (i + 1 + 1) xs) ≡ option_map suc (if t then Some i else position_from test (i + 1) xs)
  by true h = ap Some (let e : i + 1 ≡ suc i = omega arith in e)
  by false h = h

pub position_next : {A : Type 0} (test : A → Bool) (x : A) (xs : List A)
    → position test (x ∷ xs) ≡ (if test x then Some 0 else option_map suc (position test xs))
position_next test x xs =
    position_from-zero test (x ∷ xs) ∙ ap (λ o. if test x then Some 0 else o) (from_later test 0 xs ∙ ap (option_map suc) (sym (position_from-zero test xs)))

-- the first of a list that has a name is the one of a number, if none before it has the name
first_named : (xs : List (List ℕ)) (i : ℕ) → i < length xs → ((j : ℕ) → j < i → bytes_eq (slice_index_or xs i []) (slice_index_or xs j []) ≡ false)
    → position (bytes_eq (slice_index_or xs i [])) xs ≡ Some i
first_named [] i lt apart = absurd (omega (arith, lt))
first_named (x ∷ xs) zero lt apart =
    position_next (bytes_eq x) x xs ∙ ap (λ (t : Bool). if t then Some 0 else option_map suc (position (bytes_eq x) xs)) ((bytes_eq-Decides x x).1 refl)
first_named (x ∷ xs) (suc i) lt apart =
    let name = slice_index_or xs i [] in
    position_next (bytes_eq name) x xs ∙ ap (λ (t : Bool). if t then Some 0 else option_map suc (position (bytes_eq name) xs)) (apart 0 (omega arith))
    ∙ ap (option_map suc) (first_named xs i (omega (arith, lt)) (λ j le. apart (suc j) (omega (arith, le))))

-- the names of a list, by their places
abbrev pub listed : List (List ℕ) → Numbering
listed xs = record {
  name = λ i. slice_index_or xs i [];
  find = λ name. position (bytes_eq name) xs;
  found = λ name j e. let h = position-Some (bytes_eq name) xs j [] e in sym ((bytes_eq-Decides name (slice_index_or xs j [])).0 h.1);
}

differs : (a b : List ℕ) → (a ≡ b → ⊥) → bytes_eq a b ≡ false
differs a b apart = by (bytes_eq a b) refl where
  by : (t : Bool) → bytes_eq a b ≡ t → bytes_eq a b ≡ false
  by false e = e
  by true e = absurd (apart ((bytes_eq-Decides a b).0 e))

-- the number of a name is that of its place, where a look-up finds each name of the list by its place
pub own_number : (look : List ℕ → Option Callee) (make : ℕ → Callee) → ((i j : ℕ) → make i ≡ make j → i ≡ j) → (xs : List (List ℕ))
    → ((i : ℕ) → i < length xs → look (slice_index_or xs i []) ≡ Some (make i)) → (i : ℕ) → i < length xs → position (bytes_eq (slice_index_or xs i [])) xs
    ≡ Some i
own_number look make one xs there i lt = first_named xs i lt (λ j less. differs (slice_index_or xs i []) (slice_index_or xs j []) (λ same.
    let makes : Some (make i) ≡ Some (make j) = sym (there i lt) ∙ ap look same ∙ there j (omega (arith, lt, less)) in
    let number = one i j (same_Some (make i) (make j) makes) in
    absurd (omega (arith, number, less))))

-- the same of keys, no two of which are the same
pub own_place : (xs : List (List ℕ)) → IsDistinct is_same_key xs → (i : ℕ) → i < length xs → position (bytes_eq (slice_index_or xs i [])) xs ≡ Some i
unfolding IsDistinct
own_place xs distinct i lt = first_named xs i lt (λ j less. apart xs distinct i j lt less) where
  one_apart : (x : List ℕ) (xs : List (List ℕ)) → AllByRecursion (λ y. is_same_key x y ≡ false) xs → (i : ℕ) → i < length xs
      → bytes_eq (slice_index_or xs i []) x ≡ false
  one_apart x [] h i lt = absurd (omega (arith, lt))
  one_apart x (y ∷ xs) h zero lt = differs y x (λ same. absurd (true≢false (sym (same_key_equiv.refl x) ∙ ap (is_same_key x) (sym same) ∙ h.0)))
  one_apart x (y ∷ xs) h (suc i) lt = one_apart x xs h.1 i (omega (arith, lt))

  apart : (xs : List (List ℕ)) → IsDistinct is_same_key xs → (i j : ℕ) → i < length xs → j < i → bytes_eq (slice_index_or xs i []) (slice_index_or xs j [])
      ≡ false
  apart [] h i j lt less = absurd (omega (arith, lt))
  apart (x ∷ xs) h zero j lt less = absurd (omega (arith, less))
  apart (x ∷ xs) h (suc i) zero lt less = one_apart x xs h.0 i (omega (arith, lt))
  apart (x ∷ xs) h (suc i) (suc j) lt less = apart xs h.1 i j (omega (arith, lt)) (omega (arith, less))

-- ---- functions and entries

-- the function of a number
record IsAt (a : Numbers) (tokens : List Token) (f : Function) (n : ℕ) : Type 0 where
  body : Body
  is_body : IsBodyOf a tokens body
  is : f ≡ Defined (name_of a.names (callee.User n)) body

function_at : (a : Numbers) (n : ℕ) (bodies : List (List Token)) (functions : List Function) → AreFunctionsOf a n bodies functions → (k : ℕ) (f : Function)
    → slice_get functions k ≡ Some f → IsAt a (slice_index_or bodies k []) f (n + k)
function_at a n [] functions h k f e = let no : None ≡ Some f = sym (ap (λ (fs : List Function). slice_get fs k) h) ∙ e in absurd (cc)
function_at a n (tokens ∷ bodies) functions h zero f e =
    let is : Some (Defined (name_of a.names (callee.User n)) h.0) ≡ Some f = sym (ap (λ (fs : List Function). slice_get fs zero) h.4) ∙ e in
    let plus : n ≡ n + 0 = omega arith in
    record { body = h.0; is_body = h.2; is = sym (same_Some _ f is) ∙ ap (λ m. Defined (name_of a.names (callee.User m)) h.0) plus }
function_at a n (tokens ∷ bodies) functions h (suc k) f e =
    let rest = function_at a (suc n) bodies h.1 h.3 k f (sym (ap (λ (fs : List Function). slice_get fs (suc k)) h.4) ∙ e) in
    let plus : suc n + k ≡ n + suc k = omega arith in
    record { body = rest.body; is_body = rest.is_body; is = rest.is ∙ ap (λ m. Defined (name_of a.names (callee.User m)) rest.body) plus }

-- there is one for each body
there_is_function : (a : Numbers) (n : ℕ) (bodies : List (List Token)) (functions : List Function) → AreFunctionsOf a n bodies functions → (k : ℕ)
    → k < length bodies → (f : Function) × (slice_get functions k ≡ Some f)
there_is_function a n [] functions h k lt = absurd (omega (arith, lt))
there_is_function a n (tokens ∷ bodies) functions h zero lt =
    (Defined (name_of a.names (callee.User n)) h.0, ap (λ (fs : List Function). slice_get fs zero) h.4)
there_is_function a n (tokens ∷ bodies) functions h (suc k) lt =
    let rest = there_is_function a (suc n) bodies h.1 h.3 k (omega (arith, lt)) in
    (rest.0, ap (λ (fs : List Function). slice_get fs (suc k)) h.4 ∙ rest.1)

abbrev IsSameAt : Numbers → (List ℕ → Option ℕ) → Option NumberedEntry → Option Entry → Type 0
IsSameAt numbers field None None = Unit {0}
IsSameAt numbers field (Some n) (Some e) = IsSameEntry numbers field n e
IsSameAt numbers field n e = ⊥

entries_at : (numbers : Numbers) (field : List ℕ → Option ℕ) (ns : List NumberedEntry) (es : List Entry) → AreSameEntries numbers field ns es → (i : ℕ)
    → IsSameAt numbers field (slice_get ns i) (slice_get es i)
entries_at numbers field [] es h i = subst (λ (es : List Entry). IsSameAt numbers field None (slice_get es i)) (sym h) tt
entries_at numbers field (n ∷ ns) es h zero = subst (λ (es : List Entry). IsSameAt numbers field (Some n) (slice_get es zero)) (sym h.4) h.2
entries_at numbers field (n ∷ ns) es h (suc i) = subst (λ (es : List Entry). IsSameAt numbers field (slice_get ns i) (slice_get es (suc i))) (sym h.4)
    (entries_at numbers field ns h.1 h.3 i)

pub entries_length : (numbers : Numbers) (field : List ℕ → Option ℕ) (ns : List NumberedEntry) (es : List Entry) → AreSameEntries numbers field ns es
    → length es ≡ length ns
entries_length numbers field [] es h = ap length h
entries_length numbers field (n ∷ ns) es h = ap length h.4 ∙ ap suc (entries_length numbers field ns h.1 h.3)

-- ---- the job

-- a job with numbers and what it is in names
pub record SameJob (job : NumberedJob) (style : Style) (library : Library) : Type 0 where
  pub same_style : IsSameStyle job.style style
  pub same_library : IsSameLibrary (numbers_of job.style same_style.functions) (field_of job.style) job.library library
  pub refers : RefersWithin job.style
  pub meanings : (c : Callee) → HasName job.style.names c → named_lower job.style.names (name_of job.style.names c) ≡ Some c
  pub first : HaveFirstNames job.style.names
  pub keys : IsDistinct is_same_key (map (λ (e : NumberedEntry). e.key) job.library.entries)

module _ (job : NumberedJob) (style : Style) (library : Library) (h : SameJob job style library) where
  abbrev pub numbers : Numbers
  numbers = numbers_of job.style h.same_style.functions

  abbrev names : Names
  names = job.style.names

  abbrev body_in : Option Function → Body
  body_in (Some (Defined name body)) = body
  body_in f = Empty

  -- the body of the function of a number, and what any number stands for
  abbrev pub body : ℕ → Body
  body i = body_in (slice_get h.same_style.functions i)

  abbrev pub of : Callee → Function
  of (callee.BuiltIn f) = Built f
  of (callee.User i) = Defined (name_of names (callee.User i)) (body i)
  of (callee.Field i) = Declared kind.Field (name_of names (callee.Field i))
  of (callee.EntryInteger i) = Declared kind.EntryInteger (name_of names (callee.EntryInteger i))
  of (callee.EntryString i) = Declared kind.EntryString (name_of names (callee.EntryString i))
  of (callee.GlobalInteger i) = Declared kind.GlobalInteger (name_of names (callee.GlobalInteger i))
  of (callee.GlobalString i) = Declared kind.GlobalString (name_of names (callee.GlobalString i))

  abbrev pub no_one : Entry
  no_one = record { key = []; kind = None; value = λ name. None }

  -- the entry of a number
  abbrev pub entry : ℕ → Entry
  entry i = unwrap_or (slice_get library.entries i) no_one

  index_is : (xs : List (List ℕ)) (i : ℕ) (x : List ℕ) → slice_get xs i ≡ Some x → slice_index_or xs i [] ≡ x
  index_is [] i x e = absurd (cc)
  index_is (y ∷ xs) zero x e = cc
  index_is (y ∷ xs) (suc i) x e = index_is xs i x e

  declared_is : (k : List ℕ → Function) (xs : List (List ℕ)) (i : ℕ) (f : Function) → option_map k (slice_get xs i) ≡ Some f → k (slice_index_or xs i []) ≡ f
  declared_is k xs i f e = by (slice_get xs i) refl where
    by : (o : Option (List ℕ)) → slice_get xs i ≡ o → k (slice_index_or xs i []) ≡ f
    by None g = let no : None ≡ Some f = sym (ap (option_map k) g) ∙ e in absurd (cc)
    by (Some x) g = let is : Some (k x) ≡ Some f = sym (ap (option_map k) g) ∙ e in ap k (index_is xs i x g) ∙ same_Some (k x) f is

  -- what a number stands for is that
  pub stands_of : (c : Callee) (f : Function) → stands_for numbers c ≡ Some f → of c ≡ f
  stands_of (callee.BuiltIn b) f e = same_Some (Built b) f e
  stands_of (callee.User i) f e =
      let at = function_at numbers 0 job.style.bodies h.same_style.functions h.same_style.defined i f e in
      let plus : 0 + i ≡ i = omega arith in
      let is : f ≡ Defined (name_of names (callee.User i)) at.body = at.is ∙ ap (λ m. Defined (name_of names (callee.User m)) at.body) plus in
      ap (λ (o : Option Function). Defined (name_of names (callee.User i)) (body_in o)) (e ∙ ap Some is) ∙ sym is
  stands_of (callee.Field i) f e = declared_is (Declared kind.Field) names.fields i f e
  stands_of (callee.EntryInteger i) f e = declared_is (Declared kind.EntryInteger) names.entry_integers i f e
  stands_of (callee.EntryString i) f e = declared_is (Declared kind.EntryString) names.entry_strings i f e
  stands_of (callee.GlobalInteger i) f e = declared_is (Declared kind.GlobalInteger) names.global_integers i f e
  stands_of (callee.GlobalString i) f e = declared_is (Declared kind.GlobalString) names.global_strings i f e

  meant_type : (n : Option ℕ) (f : Option Function) → IsMeant numbers (option_map callee.User n) f → f ≡ option_map (λ (n : ℕ). of (callee.User n)) n
  meant_type None f k = k
  meant_type (Some n) f k = k.2 ∙ ap Some (sym (stands_of (callee.User n) k.0 k.1))

  pub named : (c : Callee) → shown_name (of c) ≡ name_of names c
  named (callee.BuiltIn b) = refl
  named (callee.User i) = refl
  named (callee.Field i) = refl
  named (callee.EntryInteger i) = refl
  named (callee.EntryString i) = refl
  named (callee.GlobalInteger i) = refl
  named (callee.GlobalString i) = refl

  at_entry : (i : ℕ) → IsSameAt numbers (field_of job.style) (slice_get job.library.entries i) (slice_get library.entries i)
  at_entry i = entries_at numbers (field_of job.style) job.library.entries library.entries h.same_library.entries i

  pub keyed : (i : ℕ) → (entry i).key ≡ key_of (entry_of job i)
  keyed i = by (slice_get job.library.entries i) (slice_get library.entries i) (at_entry i) where
    by : (n : Option NumberedEntry) (e : Option Entry) → IsSameAt numbers (field_of job.style) n e → (unwrap_or e no_one).key ≡ key_of n
    by None None k = refl
    by (Some n) (Some e) k = k.key
    by None (Some e) k = absurd k
    by (Some n) None k = absurd k

  pub typed : (i : ℕ) → (entry i).kind ≡ option_map (λ (f : ℕ). of (callee.User f)) (entry_type (entry_of job i))
  typed i = by (slice_get job.library.entries i) (slice_get library.entries i) (at_entry i) where
    by : (n : Option NumberedEntry) (e : Option Entry) → IsSameAt numbers (field_of job.style) n e → (unwrap_or e no_one).kind
        ≡ option_map (λ (f : ℕ). of (callee.User f)) (entry_type n)
    by None None k = refl
    by (Some n) (Some e) k = meant_type n.kind e.kind k.kind
    by None (Some e) k = absurd k
    by (Some n) None k = absurd k

  pub default : style.types (codes "default.type") ≡ option_map (λ (f : ℕ). of (callee.User f)) (type_of job.style (codes "default.type"))
  default = meant_type (type_of job.style (codes "default.type")) (style.types (codes "default.type")) (h.same_style.types (codes "default.type"))

  -- the value of a field that the style has
  pub valued : (e i : ℕ) → i < length names.fields → (entry e).value (name_of names (callee.Field i)) ≡ entry_value i (entry_of job e)
  valued e i lt = by (slice_get job.library.entries e) (slice_get library.entries e) (at_entry e) where
    number : field_of job.style (name_of names (callee.Field i)) ≡ Some i
    number = ap as_field (h.meanings (callee.Field i) lt)

    by : (n : Option NumberedEntry) (x : Option Entry) → IsSameAt numbers (field_of job.style) n x → (unwrap_or x no_one).value (name_of names (callee.Field i))
        ≡ entry_value i n
    by None None k = refl
    by (Some n) (Some x) k = k.values (name_of names (callee.Field i)) ∙ ap (option_and_then (λ (number : ℕ). field_value number n.values)) number
    by None (Some x) k = absurd k
    by (Some n) None k = absurd k

  -- the types of entries are functions that the style has
  pub type_known : (e n : ℕ) → entry_type (entry_of job e) ≡ Some n → n < length job.style.bodies
  type_known e n is = by (slice_get job.library.entries e) (slice_get library.entries e) (at_entry e) is where
    by : (m : Option NumberedEntry) (x : Option Entry) → IsSameAt numbers (field_of job.style) m x → entry_type m ≡ Some n → n < length job.style.bodies
    by None None k e = absurd (cc)
    by None (Some x) k e = absurd k
    by (Some m) None k e = absurd k
    by (Some m) (Some x) k e =
        let meant : IsMeant numbers (Some (callee.User n)) x.kind = subst (λ o. IsMeant numbers (option_map callee.User o) x.kind) e k.kind in
        let within = slice_get_within h.same_style.functions n meant.0 meant.1 in
        let size = functions_length numbers 0 job.style.bodies h.same_style.functions h.same_style.defined in
        omega (arith, within, size)

  -- ---- bodies

  abbrev pub word : Token → StyleToken
  word (token.Text n) = Push (Text (slice_index_or job.style.texts n []))
  word (token.Integer n) = Push (Integer n)
  word (token.Quote c) = Push (Quoted (of c))
  word (token.Run c) = Run (of c)

  word_is : (t : Token) (w : StyleToken) → word_of numbers t ≡ Some w → word t ≡ w
  word_is (token.Text n) w e = by (slice_get job.style.texts n) refl where
    by : (o : Option (List ℕ)) → slice_get job.style.texts n ≡ o → word (token.Text n) ≡ w
    by None g = let no : None ≡ Some w = sym (ap (option_map (λ (text : List ℕ). Push (Text text))) g) ∙ e in absurd (cc)
    by (Some x) g =
        let is : Some (Push (Text x)) ≡ Some w = sym (ap (option_map (λ (text : List ℕ). Push (Text text))) g) ∙ e in
        ap (λ (t : List ℕ). Push (Text t)) (index_is job.style.texts n x g) ∙ same_Some (Push (Text x)) w is
  word_is (token.Integer n) w e = same_Some (Push (Integer n)) w e
  word_is (token.Quote c) w e = by (stands_for numbers c) refl where
    by : (o : Option Function) → stands_for numbers c ≡ o → Push (Quoted (of c)) ≡ w
    by None g = let no : None ≡ Some w = sym (ap (option_map (λ (f : Function). Push (Quoted f))) g) ∙ e in absurd (cc)
    by (Some f) g =
        let is : Some (Push (Quoted f)) ≡ Some w = sym (ap (option_map (λ (f : Function). Push (Quoted f))) g) ∙ e in
        ap (λ f. Push (Quoted f)) (stands_of c f g) ∙ same_Some (Push (Quoted f)) w is
  word_is (token.Run c) w e = by (stands_for numbers c) refl where
    by : (o : Option Function) → stands_for numbers c ≡ o → Run (of c) ≡ w
    by None g = let no : None ≡ Some w = sym (ap (option_map Run) g) ∙ e in absurd (cc)
    by (Some f) g =
        let is : Some (Run f) ≡ Some w = sym (ap (option_map Run) g) ∙ e in
        ap Run (stands_of c f g) ∙ same_Some (Run f) w is

  -- the words of tokens, one after another
  abbrev pub words_of : List Token → Body
  words_of [] = Empty
  words_of (t ∷ ts) = Then (word t) (words_of ts)

  words_are : (ts : List Token) (b : Body) → IsBodyOf numbers ts b → words_of ts ≡ b
  words_are [] b k = sym k
  words_are (t ∷ ts) b k = ap (λ w. Then w (words_of ts)) (word_is t k.0 k.2) ∙ ap (Then k.0) (words_are ts k.1 k.3) ∙ sym k.4

  -- the body of a number is that of its tokens
  pub body_is : (i : ℕ) → i < length job.style.bodies → words_of (slice_index_or job.style.bodies i []) ≡ body i
  body_is i lt =
      let f = there_is_function numbers 0 job.style.bodies h.same_style.functions h.same_style.defined i lt in
      let at = function_at numbers 0 job.style.bodies h.same_style.functions h.same_style.defined i f.0 f.1 in
      words_are (slice_index_or job.style.bodies i []) at.body at.is_body ∙ sym (ap body_in (f.1 ∙ ap Some at.is))

  -- ---- variables

  pub global_integer_number : (i : ℕ) → i < length names.global_integers → position (bytes_eq (name_of names (callee.GlobalInteger i))) names.global_integers
      ≡ Some i
  global_integer_number i lt = own_number (named_lower names) callee.GlobalInteger (λ i j e. cc) names.global_integers
      (λ i lt. h.meanings (callee.GlobalInteger i) lt) i lt

  pub global_string_number : (i : ℕ) → i < length names.global_strings → position (bytes_eq (name_of names (callee.GlobalString i))) names.global_strings
      ≡ Some i
  global_string_number i lt = own_number (named_lower names) callee.GlobalString (λ i j e. cc) names.global_strings
      (λ i lt. h.meanings (callee.GlobalString i) lt) i lt

  pub entry_integer_number : (i : ℕ) → i < length names.entry_integers → position (bytes_eq (name_of names (callee.EntryInteger i))) names.entry_integers
      ≡ Some i
  entry_integer_number i lt = own_number (named_lower names) callee.EntryInteger (λ i j e. cc) names.entry_integers
      (λ i lt. h.meanings (callee.EntryInteger i) lt) i lt

  pub entry_string_number : (i : ℕ) → i < length names.entry_strings → position (bytes_eq (name_of names (callee.EntryString i))) names.entry_strings ≡ Some i
  entry_string_number i lt = own_number (named_lower names) callee.EntryString (λ i j e. cc) names.entry_strings (λ i lt. h.meanings (callee.EntryString i) lt)
      i lt

  abbrev pub key_list : List (List ℕ)
  key_list = map (λ (e : NumberedEntry). e.key) job.library.entries

  key_listed : (es : List NumberedEntry) (i : ℕ) → key_of (slice_get es i) ≡ slice_index_or (map (λ (e : NumberedEntry). e.key) es) i []
  key_listed [] i = refl
  key_listed (e ∷ es) zero = refl
  key_listed (e ∷ es) (suc i) = key_listed es i

  pub key_names : (i : ℕ) → (entry i).key ≡ slice_index_or key_list i []
  key_names i = keyed i ∙ key_listed job.library.entries i

  pub key_number : (i : ℕ) → i < length job.library.entries → position (bytes_eq (slice_index_or key_list i [])) key_list ≡ Some i
  key_number i lt = own_place key_list h.keys i (let e = length-map job.library.entries (λ (e : NumberedEntry). e.key) in omega (arith, lt, e))
