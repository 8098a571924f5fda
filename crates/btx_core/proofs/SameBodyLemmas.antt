-- What the parts of a body come to: tokens by numbers, and words in names.
use Rattle.std.proofs.Common.{◌≡◌, ℕ, zero, suc, ◌≤◌, List, [], ◌∷◌, ◌++◌, length, map, Option, None, Some, option_map, is_none, unwrap_or, sym, ap, subst, ◌∙◌}
use Rattle.std.proofs.Common.{refl, arith, append_assoc, append-nil, slice_index_or}
use Rattle.std.specs.Option.{option_map_or}
use Rattle.std.specs.Prelude.{codes, slice_get}
use Rattle.std.proofs.lemmas.List.{length-append}
use Rattle.btx_text.specs.language.Lists.{only_if}
use Rattle.btx_bst.specs.declared.callee.Callee.{Callee}
use Rattle.btx_bst.specs.declared.callee.Callee.TheVariants as callee
use Rattle.btx_bst.specs.declared.token.Token.{Token}
use Rattle.btx_bst.specs.declared.token.Token.TheVariants as token
use Rattle.btx_bst.specs.language.Complaints.{Complaint, Unknown}
use Rattle.btx_bst.specs.language.Items as item
use Rattle.btx_bst.specs.language.Items.{Item}
use Rattle.btx_bst.specs.language.MessageTexts.{complaint_line}
use Rattle.btx_bst.specs.language.Names.{Names, named, name_of}
use Rattle.btx_bst.specs.language.Words as words
use Rattle.btx_bst.specs.language.Words.{BodyWord}
use Rattle.btx_bst.specs.laws.Spelling.{Parts, Nothing, Plain, Group, Fragment, Here, After, AfterGroup, Inner, Made, made_named, made_word, nameless_begun}
use Rattle.btx_bst.specs.laws.Spelling.{nameless_defined, made_by, made_till}
use Rattle.btx_core.specs.laws.SameStyles.{Numbers, stands_for, word_of, IsBodyOf, AreFunctionsOf, AreCommandsOf, IsMeant}
use Rattle.btx_core.specs.language.Styles.{Body, Command, Defined, Function, Integer, Push, Quoted, Run, Says, Text, Then, StyleToken}
use Rattle.btx_core.specs.language.StyleTexts.{and_word, body_of, wrong_in_word, wrong_in, wrong_till}
use Rattle.btx_core.proofs.SameNumberLemmas.{Kept, kept_same, kept_push, last_of, Extends, extends_both, extends_by, still_stands, still_body, still_meant}
use Rattle.btx_core.proofs.SameNumberLemmas.{still_functions, functions_length, one_more_word, one_more_function}

-- a name means the same in both ways
abbrev pub MeanSame : Numbers → Names → (List ℕ → Option Function) → Type 0
MeanSame numbers names means = (name : List ℕ) → IsMeant numbers (named names name) (means name)

-- ---- messages

abbrev pub Message : Type 0
Message = Complaint × ℕ

abbrev pub item_of : Message → Item
item_of m = item.Message m.0 m.1

abbrev pub said_of : List ℕ → Message → Command
said_of file m = Says (complaint_line m.0 m.1 file)

pub messages_said : (a : Numbers) (file : List ℕ) (said : List Message) → AreCommandsOf a file (map item_of said) (map (said_of file) said)
messages_said a file [] = refl
messages_said a file (m ∷ said) = (said_of file m ∷ [], map (said_of file) said, refl, messages_said a file said, refl)

named_items : (a : Numbers) (kind : Callee → Token) (line : ℕ) (name : List ℕ) (c : Option Callee) (f : Option Function) (m : Made) → IsMeant a c f
    → (made_named kind line name c m).items ≡ m.items ++ map item_of (only_if (is_none f) (Unknown name, line))
named_items a kind line name None f m h = ap (λ (g : Option Function). m.items ++ map item_of (only_if (is_none g) (Unknown name, line))) (sym h)
named_items a kind line name (Some c) f m h = sym (ap (λ (g : Option Function). m.items ++ map item_of (only_if (is_none g) (Unknown name, line))) h.2
    ∙ append-nil m.items)

word_items : (a : Numbers) (names : Names) (means : List ℕ → Option Function) → MeanSame a names means → (line : ℕ) (w : BodyWord) (m : Made)
    → (made_word names line w m).items ≡ m.items ++ map item_of (wrong_in_word means line w)
word_items a names means h line (words.String text) m = sym (append-nil m.items)
word_items a names means h line (words.Integer n) m = sym (append-nil m.items)
word_items a names means h line (words.Quoted name) m = named_items a token.Quote line name (named names name) (means name) m (h name)
word_items a names means h line (words.Name name) m = named_items a token.Run line name (named names name) (means name) m (h name)
word_items a names means h line (words.Faulty wrong) m = refl
word_items a names means h line words.Open m = sym (append-nil m.items)
word_items a names means h line words.Close m = sym (append-nil m.items)
word_items a names means h line words.Unended m = sym (append-nil m.items)
word_items a names means h line words.Ended m = sym (append-nil m.items)

both_items : (items first second : List Item) (xs ys : List Message) → first ≡ items ++ map item_of xs → second ≡ first ++ map item_of ys
    → second ≡ items ++ map item_of (xs ++ ys)
both_items items first second xs ys e f =
    f ∙ ap (λ (is : List Item). is ++ map item_of ys) e ∙ append_assoc items (map item_of xs) (map item_of ys)
    ∙ ap (λ (is : List Item). items ++ is) (sym (mapped xs)) where
      mapped : (zs : List Message) → map item_of (zs ++ ys) ≡ map item_of zs ++ map item_of ys
      mapped [] = refl
      mapped (z ∷ zs) = ap (λ (is : List Item). item_of z ∷ is) (mapped zs)

-- the messages of a word, and those of what comes after it
word_before : (a : Numbers) (names : Names) (means : List ℕ → Option Function) → MeanSame a names means → (line : ℕ) (w : BodyWord) (m : Made)
    (behind : List Message) (last : List Item)
    → last ≡ (made_word names line w m).items ++ map item_of behind → last ≡ m.items ++ map item_of (wrong_in_word means line w ++ behind)
word_before a names means h line w m behind last =
    both_items m.items (made_word names line w m).items last (wrong_in_word means line w) behind (word_items a names means h line w m)

-- and those of a group
group_before : (means : List ℕ → Option Function) (inside : Parts) (m made : Made) (behind : List Message) (last : List Item)
    → made.items ≡ m.items ++ map item_of (wrong_in means inside) → last ≡ made.items ++ map item_of behind
    → last ≡ m.items ++ map item_of (wrong_in means inside ++ behind)
group_before means inside m made behind last = both_items m.items made.items last (wrong_in means inside) behind

-- the messages of a body, after the items before it
pub parts_items : (a : Numbers) (names : Names) (means : List ℕ → Option Function) → MeanSame a names means → (parts : Parts) (m : Made)
    → (made_by names parts m).items ≡ m.items ++ map item_of (wrong_in means parts)
unfolding made_by
parts_items a names means h Nothing m = sym (append-nil m.items)
parts_items a names means h (Plain line w more) m =
    word_before a names means h line w m (wrong_in means more) _ (parts_items a names means h more (made_word names line w m))
parts_items a names means h (Group inside more) m =
    group_before means inside m (made_by names inside (nameless_begun m)) (wrong_in means more) _ (parts_items a names means h inside (nameless_begun m))
    (parts_items a names means h more (nameless_defined m.tokens (made_by names inside (nameless_begun m))))

-- and of one that breaks off
pub fragment_items : (a : Numbers) (names : Names) (means : List ℕ → Option Function) → MeanSame a names means → (f : Fragment) (m : Made)
    → (made_till names f m).items ≡ m.items ++ map item_of (wrong_till means f)
unfolding made_till
fragment_items a names means h (Here wrong) m = sym (append-nil m.items)
fragment_items a names means h (After line w more) m =
    word_before a names means h line w m (wrong_till means more) _ (fragment_items a names means h more (made_word names line w m))
fragment_items a names means h (AfterGroup inside more) m =
    group_before means inside m (made_by names inside (nameless_begun m)) (wrong_till means more) _ (parts_items a names means h inside (nameless_begun m))
    (fragment_items a names means h more (nameless_defined m.tokens (made_by names inside (nameless_begun m))))
fragment_items a names means h (Inner inside) m = fragment_items a names means h inside (nameless_begun m)

-- ---- words

-- the numbers of a style while a body is read
abbrev pub numbers_at : Names → Made → List Function → Numbers
numbers_at names m functions = record { names = names; texts = m.texts; functions = functions }

-- what a word adds: tokens, perhaps a string, and the word
record Adds (names : Names) (means : List ℕ → Option Function) (functions : List Function) (w : BodyWord) (m next : Made) : Type 0 where
  tokens : List Token
  after : next.tokens ≡ m.tokens ++ tokens
  bodies : next.bodies ≡ m.bodies
  texts : Kept m.texts next.texts
  body : (b : Numbers) → Extends (numbers_at names next functions) b → (others : List Token) (rest : Body) → IsBodyOf b others rest
      → IsBodyOf b (tokens ++ others) (and_word means w rest)

adds_nothing : (names : Names) (means : List ℕ → Option Function) (functions : List Function) (w : BodyWord) (m next : Made) → next.tokens ≡ m.tokens
    → next.bodies ≡ m.bodies → next.texts ≡ m.texts
    → ((rest : Body) → and_word means w rest ≡ rest) → Adds names means functions w m next
adds_nothing names means functions w m next e f g h = record {
  tokens = [];
  after = e ∙ sym (append-nil m.tokens);
  bodies = f;
  texts = subst (Kept m.texts) (sym g) (kept_same m.texts);
  body = λ b x others rest k. subst (IsBodyOf b others) (sym (h rest)) k;
}

named_adds : (names : Names) (means : List ℕ → Option Function) (functions : List Function) (w : BodyWord) (kind : Callee → Token) (made : Function → StyleToken)
    (line : ℕ) (name : List ℕ) (c : Option Callee) (m : Made)
    → ((b : Numbers) (d : Callee) (f : Function) → stands_for b d ≡ Some f → word_of b (kind d) ≡ Some (made f))
    → ((rest : Body) → and_word means w rest ≡ option_map_or (λ (f : Function). Then (made f) rest) (means name) rest)
    → IsMeant (numbers_at names m functions) c (means name) → Adds names means functions w m (made_named kind line name c m)
named_adds names means functions w kind made line name None m word same h =
    adds_nothing names means functions w m _ refl refl refl (λ rest. same rest ∙ ap (λ o. option_map_or (λ (f : Function). Then (made f) rest) o rest) h)
named_adds names means functions w kind made line name (Some c) m word same h = record {
  tokens = kind c ∷ [];
  after = refl;
  bodies = refl;
  texts = kept_same m.texts;
  body = λ b x others rest k.
      subst (IsBodyOf b (kind c ∷ others)) (sym (same rest ∙ ap (λ o. option_map_or (λ (f : Function). Then (made f) rest) o rest) h.2))
      (one_more_word b (kind c) (made h.0) others rest (word b c h.0 (still_stands (numbers_at names m functions) b x c h.0 h.1)) k);
}

word_adds : (names : Names) (means : List ℕ → Option Function) (functions : List Function) (line : ℕ) (w : BodyWord) (m : Made)
    → MeanSame (numbers_at names m functions) names means
    → Adds names means functions w m (made_word names line w m)
word_adds names means functions line (words.String text) m h = record {
  tokens = token.Text (length m.texts) ∷ [];
  after = refl;
  bodies = refl;
  texts = kept_push m.texts (text ∷ []);
  body = λ b x others rest k.
      one_more_word b (token.Text (length m.texts)) (Push (Text text)) others rest
      (ap (λ (o : Option (List ℕ)). option_map (λ (text : List ℕ). Push (Text text)) o)
      (x.texts (length m.texts) text (last_of m.texts text (length m.texts) refl))) k;
}
word_adds names means functions line (words.Integer n) m h = record {
  tokens = token.Integer n ∷ [];
  after = refl;
  bodies = refl;
  texts = kept_same m.texts;
  body = λ b x others rest k. one_more_word b (token.Integer n) (Push (Integer n)) others rest refl k;
}
word_adds names means functions line (words.Quoted name) m h =
    named_adds names means functions (words.Quoted name) token.Quote (λ f. Push (Quoted f)) line name (named names name) m
    (λ b d f e. ap (λ (o : Option Function). option_map (λ (f : Function). Push (Quoted f)) o) e) (λ rest. refl) (h name)
word_adds names means functions line (words.Name name) m h =
    named_adds names means functions (words.Name name) token.Run Run line name (named names name) m
    (λ b d f e. ap (λ (o : Option Function). option_map Run o) e) (λ rest. refl) (h name)
word_adds names means functions line (words.Faulty wrong) m h = adds_nothing names means functions (words.Faulty wrong) m _ refl refl refl (λ rest. refl)
word_adds names means functions line words.Open m h = adds_nothing names means functions words.Open m _ refl refl refl (λ rest. refl)
word_adds names means functions line words.Close m h = adds_nothing names means functions words.Close m _ refl refl refl (λ rest. refl)
word_adds names means functions line words.Unended m h = adds_nothing names means functions words.Unended m _ refl refl refl (λ rest. refl)
word_adds names means functions line words.Ended m h = adds_nothing names means functions words.Ended m _ refl refl refl (λ rest. refl)

-- ---- bodies

-- what a body comes to: its tokens after those before, which are its words, and the functions, with the nameless ones in it
pub record Comes (names : Names) (functions : List Function) (m next : Made) (body : Body) : Type 0 where
  pub all : List Function
  pub kept : Kept functions all
  pub texts : Kept m.texts next.texts
  pub defined : AreFunctionsOf (numbers_at names next all) 0 next.bodies all
  pub grown : length m.bodies ≤ length next.bodies
  pub tokens : List Token
  pub after : next.tokens ≡ m.tokens ++ tokens
  pub is_body : IsBodyOf (numbers_at names next all) tokens body

-- a number after all names is that of a nameless function
past_names : (names : List (Option (List ℕ))) (n : ℕ) → length names ≤ n → slice_index_or names n None ≡ None
past_names [] n h = refl
past_names (x ∷ names) zero h = absurd (omega (arith, h))
past_names (x ∷ names) (suc n) h = past_names names n (omega (arith, h))

pub is_nameless : (names : Names) (n : ℕ) → length names.functions ≤ n → name_of names (callee.User n) ≡ codes "{}"
is_nameless names n h = ap (λ (o : Option (List ℕ)). unwrap_or o (codes "{}")) (past_names names.functions n h)

still_mean : (a b : Numbers) → Extends a b → (names : Names) (means : List ℕ → Option Function) → MeanSame a names means → MeanSame b names means
still_mean a b x names means h name = still_meant a b x (named names name) (means name) (h name)

pub parts_come : (names : Names) (means : List ℕ → Option Function) (parts : Parts) (m : Made) (functions : List Function)
    → MeanSame (numbers_at names m functions) names means
    → length names.functions ≤ length m.bodies → AreFunctionsOf (numbers_at names m functions) 0 m.bodies functions
    → Comes names functions m (made_by names parts m) (body_of means parts)
unfolding made_by
parts_come names means Nothing m functions h le k = record {
  all = functions;
  kept = kept_same functions;
  texts = kept_same m.texts;
  defined = k;
  grown = omega arith;
  tokens = [];
  after = sym (append-nil m.tokens);
  is_body = refl;
}
parts_come names means (Plain line w more) m functions h le k =
    let next = made_word names line w m in
    let adds = word_adds names means functions line w m h in
    let x : Extends (numbers_at names m functions) (numbers_at names next functions) = extends_by names m.texts next.texts functions functions adds.texts
    (kept_same functions) in
    let defined : AreFunctionsOf (numbers_at names next functions) 0 next.bodies functions =
    subst (λ (bodies : List (List Token)). AreFunctionsOf (numbers_at names next functions) 0 bodies functions) (sym adds.bodies)
    (still_functions (numbers_at names m functions) (numbers_at names next functions) x (length m.bodies) 0 m.bodies functions (λ n lt. refl) (omega arith)
    k) in
    let longer : length names.functions ≤ length next.bodies = subst (λ (bodies : List (List Token)). length names.functions ≤ length bodies) (sym adds.bodies)
    le in
    let rest = parts_come names means more next functions (still_mean (numbers_at names m functions) (numbers_at names next functions) x names means h) longer
    defined in
    let end = made_by names more next in
    record {
      all = rest.all;
      kept = rest.kept;
      texts = λ n y e. rest.texts n y (adds.texts n y e);
      defined = rest.defined;
      grown = subst (λ (bodies : List (List Token)). length bodies ≤ length end.bodies) adds.bodies rest.grown;
      tokens = adds.tokens ++ rest.tokens;
      after = rest.after ∙ ap (λ (ts : List Token). ts ++ rest.tokens) adds.after ∙ append_assoc m.tokens adds.tokens rest.tokens;
      is_body = adds.body (numbers_at names end rest.all) (extends_by names next.texts end.texts functions rest.all rest.texts rest.kept) rest.tokens
          (body_of means more) rest.is_body;
    }
parts_come names means (Group inside more) m functions h le k =
    let inner = parts_come names means inside (nameless_begun m) functions h le k in
    let made = made_by names inside (nameless_begun m) in
    let next = nameless_defined m.tokens made in
    let number = length made.bodies in
    let body = body_of means inside in
    let all = inner.all ++ Defined (codes "{}") body ∷ [] in
    let grown = inner.grown in
    let before : Extends (numbers_at names made inner.all) (numbers_at names next all) =
    extends_by names made.texts made.texts inner.all all (kept_same made.texts) (kept_push inner.all (Defined (codes "{}") body ∷ [])) in
    let start : Extends (numbers_at names m functions) (numbers_at names next all) =
    extends_both (numbers_at names m functions) (numbers_at names made inner.all) (numbers_at names next all)
    (extends_by names m.texts made.texts functions inner.all inner.texts inner.kept) before in
    let tokens : IsBodyOf (numbers_at names next all) made.tokens body =
    subst (λ (ts : List Token). IsBodyOf (numbers_at names next all) ts body) (sym inner.after)
    (still_body (numbers_at names made inner.all) (numbers_at names next all) before inner.tokens body inner.is_body) in
    let defined : AreFunctionsOf (numbers_at names next all) 0 next.bodies all =
    one_more_function (numbers_at names next all) 0 number made.bodies inner.all made.tokens (codes "{}") body
    (still_functions (numbers_at names made inner.all) (numbers_at names next all) before (length made.bodies) 0 made.bodies inner.all (λ n lt. refl)
    (omega arith) inner.defined)
    tokens (omega arith) (is_nameless names number (omega arith)) in
    let longer : length names.functions ≤ length next.bodies = omega (arith, length-append made.bodies (made.tokens ∷ [])) in
    let rest = parts_come names means more next all (still_mean (numbers_at names m functions) (numbers_at names next all) start names means h) longer
    defined in
    let end = made_by names more next in
    let there : slice_get rest.all number ≡ Some (Defined (codes "{}") body) =
    rest.kept number (Defined (codes "{}") body)
    (last_of inner.all (Defined (codes "{}") body) number
    (sym (functions_length (numbers_at names made inner.all) 0 made.bodies inner.all inner.defined))) in
    let last = rest.grown in
    record {
      all = rest.all;
      kept = λ n f e. rest.kept n f (start.functions n f e);
      texts = λ n y e. rest.texts n y (inner.texts n y e);
      defined = rest.defined;
      grown = omega (arith, length-append made.bodies (made.tokens ∷ []), last, grown);
      tokens = token.Quote (callee.User number) ∷ rest.tokens;
      after = rest.after ∙ append_assoc m.tokens (token.Quote (callee.User number) ∷ []) rest.tokens;
      is_body = one_more_word (numbers_at names end rest.all) (token.Quote (callee.User number)) (Push (Quoted (Defined (codes "{}") body))) rest.tokens
          (body_of means more)
          (ap (λ (o : Option Function). option_map (λ (f : Function). Push (Quoted f)) o) there) rest.is_body;
    }
