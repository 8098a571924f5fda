-- What numbers stand for stays so where more numbers are given: names, strings and functions are only added at the end of their lists.
use Rattle.std.proofs.Common.{◌≡◌, ℕ, zero, suc, ◌+◌, ◌<◌, ◌≤◌, List, [], ◌∷◌, ◌++◌, length, Option, None, Some, option_map, sym, ap, subst, ◌∙◌, refl, arith}
use Rattle.std.proofs.Common.{append_assoc, append-nil}
use Rattle.std.specs.Prelude.{slice_get}
use Rattle.btx_bst.specs.declared.callee.Callee.{Callee}
use Rattle.btx_bst.specs.declared.callee.Callee.TheVariants as callee
use Rattle.btx_bst.specs.declared.callee.Kind.{Kind}
use Rattle.btx_bst.specs.declared.callee.Kind.TheVariants as kind
use Rattle.btx_bst.specs.refinement.Names.{names_of_kind}
use Rattle.btx_bst.specs.declared.token.Token.{Token}
use Rattle.btx_bst.specs.declared.token.Token.TheVariants as token
use Rattle.btx_bst.specs.language.Items as item
use Rattle.btx_bst.specs.language.Items.{Item}
use Rattle.btx_bst.specs.language.Names.{Names, name_of}
use Rattle.btx_core.specs.laws.SameStyles.{Numbers, stands_for, word_of, IsBodyOf, AreFunctionsOf, commands_of, AreCommandsOf, IsMeant}
use Rattle.btx_core.specs.language.Styles.{Body, Command, Declared, Defined, Execute, Function, Iterate, Push, Quoted, Reverse, Run, Text, Then, StyleToken}

-- ---- lists that only grow

-- what stands in a list stands at the same place of another
abbrev pub Kept : {A : Type 0} → List A → List A → Type 0
Kept {A} xs ys = (n : ℕ) (x : A) → slice_get xs n ≡ Some x → slice_get ys n ≡ Some x

pub kept_same : {A : Type 0} (xs : List A) → Kept xs xs
kept_same xs n x e = e

pub kept_push : {A : Type 0} (xs ys : List A) → Kept xs (xs ++ ys)
kept_push [] ys n x e = absurd (cc)
kept_push (y ∷ xs) ys zero x e = e
kept_push (y ∷ xs) ys (suc n) x e = kept_push xs ys n x e

pub last_of : {A : Type 0} (xs : List A) (y : A) (n : ℕ) → n ≡ length xs → slice_get (xs ++ y ∷ []) n ≡ Some y
last_of [] y zero e = refl
last_of [] y (suc n) e = absurd (omega arith)
last_of (x ∷ xs) y zero e = absurd (omega arith)
last_of (x ∷ xs) y (suc n) e = last_of xs y n (omega arith)

-- ---- more numbers

pub record Extends (a b : Numbers) : Type 0 where
  pub names : (k : Kind) → Kept (names_of_kind k a.names) (names_of_kind k b.names)
  pub texts : Kept a.texts b.texts
  pub functions : Kept a.functions b.functions

pub extends_both : (a b c : Numbers) → Extends a b → Extends b c → Extends a c
extends_both a b c h k = record {
  names = λ kind n x e. k.names kind n x (h.names kind n x e);
  texts = λ n x e. k.texts n x (h.texts n x e);
  functions = λ n x e. k.functions n x (h.functions n x e);
}

-- the same names, and more strings and functions
pub extends_by : (names : Names) (texts texts' : List (List ℕ)) (functions functions' : List Function) → Kept texts texts' → Kept functions functions'
    → Extends (record { names = names; texts = texts; functions = functions }) (record { names = names; texts = texts'; functions = functions' })
extends_by names texts texts' functions functions' h k = record {
  names = λ kind n x e. e;
  texts = h;
  functions = k;
}

-- what a value is mapped to, given what it is
mapped : {A B : Type 0} (f : A → B) (o : Option A) (b : B) → option_map f o ≡ Some b → (a : A) × (o ≡ Some a) × (f a ≡ b)
mapped f None b e = absurd (cc)
mapped f (Some a) b e = (a, refl, cc)

map_kept : {A B : Type 0} (f : A → B) (o p : Option A) → ((a : A) → o ≡ Some a → p ≡ Some a) → (b : B) → option_map f o ≡ Some b → option_map f p ≡ Some b
map_kept f o p h b e = let m = mapped f o b e in ap (option_map f) (h m.0 m.1) ∙ ap Some m.2

pub still_stands : (a b : Numbers) → Extends a b → (c : Callee) (f : Function) → stands_for a c ≡ Some f → stands_for b c ≡ Some f
still_stands a b h (callee.BuiltIn g) f e = e
still_stands a b h (callee.User n) f e = h.functions n f e
still_stands a b h (callee.Field n) f e = map_kept (Declared kind.Field) (slice_get a.names.fields n) (slice_get b.names.fields n) (h.names kind.Field n) f e
still_stands a b h (callee.EntryInteger n) f e = map_kept (Declared kind.EntryInteger) (slice_get a.names.entry_integers n) (slice_get b.names.entry_integers n)
    (h.names kind.EntryInteger n) f e
still_stands a b h (callee.EntryString n) f e = map_kept (Declared kind.EntryString) (slice_get a.names.entry_strings n) (slice_get b.names.entry_strings n)
    (h.names kind.EntryString n) f e
still_stands a b h (callee.GlobalInteger n) f e = map_kept (Declared kind.GlobalInteger) (slice_get a.names.global_integers n)
    (slice_get b.names.global_integers n) (h.names kind.GlobalInteger n) f e
still_stands a b h (callee.GlobalString n) f e = map_kept (Declared kind.GlobalString) (slice_get a.names.global_strings n) (slice_get b.names.global_strings n)
    (h.names kind.GlobalString n) f e

pub still_word : (a b : Numbers) → Extends a b → (t : Token) (w : StyleToken) → word_of a t ≡ Some w → word_of b t ≡ Some w
still_word a b h (token.Text n) w e = map_kept (λ (text : List ℕ). Push (Text text)) (slice_get a.texts n) (slice_get b.texts n) (h.texts n) w e
still_word a b h (token.Integer n) w e = e
still_word a b h (token.Quote c) w e = map_kept (λ (f : Function). Push (Quoted f)) (stands_for a c) (stands_for b c) (still_stands a b h c) w e
still_word a b h (token.Run c) w e = map_kept Run (stands_for a c) (stands_for b c) (still_stands a b h c) w e

pub still_body : (a b : Numbers) → Extends a b → (tokens : List Token) (body : Body) → IsBodyOf a tokens body → IsBodyOf b tokens body
still_body a b h [] body k = k
still_body a b h (t ∷ tokens) body k = (k.0, k.1, still_word a b h t k.0 k.2, still_body a b h tokens k.1 k.3, k.4)

pub still_meant : (a b : Numbers) → Extends a b → (c : Option Callee) (f : Option Function) → IsMeant a c f → IsMeant b c f
still_meant a b h None f k = k
still_meant a b h (Some c) f k = (k.0, still_stands a b h c k.0 k.1, k.2)

-- the functions up to a number keep their names
abbrev pub SameNames : ℕ → Numbers → Numbers → Type 0
SameNames most a b = (n : ℕ) → n < most → name_of a.names (callee.User n) ≡ name_of b.names (callee.User n)

pub still_functions : (a b : Numbers) → Extends a b → (most n : ℕ) (bodies : List (List Token)) (functions : List Function) → SameNames most a b
    → n + length bodies ≤ most
    → AreFunctionsOf a n bodies functions → AreFunctionsOf b n bodies functions
still_functions a b h most n [] functions same le k = k
still_functions a b h most n (tokens ∷ bodies) functions same le k = (
  k.0,
  k.1,
  still_body a b h tokens k.0 k.2,
  still_functions a b h most (suc n) bodies k.1 same (omega (arith, le)) k.3,
  k.4 ∙ ap (λ name. Defined name k.0 ∷ k.1) (same n (omega (arith, le))),
)

still_command : (a b : Numbers) → Extends a b → (file : List ℕ) (x : Item) (commands : List Command) → commands_of a file x ≡ Some commands
    → commands_of b file x ≡ Some commands
still_command a b h file (item.Message complaint line) commands e = e
still_command a b h file item.Entry commands e = e
still_command a b h file (item.Function number) commands e = e
still_command a b h file item.Read commands e = e
still_command a b h file (item.Execute c) commands e = map_kept (λ (f : Function). Execute f ∷ []) (stands_for a c) (stands_for b c) (still_stands a b h c)
    commands e
still_command a b h file (item.Iterate c) commands e = map_kept (λ (f : Function). Iterate f ∷ []) (stands_for a c) (stands_for b c) (still_stands a b h c)
    commands e
still_command a b h file (item.Reverse c) commands e = map_kept (λ (f : Function). Reverse f ∷ []) (stands_for a c) (stands_for b c) (still_stands a b h c)
    commands e
still_command a b h file item.Sort commands e = e
still_command a b h file item.Integers commands e = e
still_command a b h file item.Strings commands e = e
still_command a b h file item.Macro commands e = e

pub still_commands : (a b : Numbers) → Extends a b → (file : List ℕ) (items : List Item) (commands : List Command) → AreCommandsOf a file items commands
    → AreCommandsOf b file items commands
still_commands a b h file [] commands k = k
still_commands a b h file (x ∷ items) commands k = (k.0, k.1, still_command a b h file x k.0 k.2, still_commands a b h file items k.1 k.3, k.4)

-- ---- one more

pub one_more_word : (a : Numbers) (t : Token) (w : StyleToken) (tokens : List Token) (body : Body) → word_of a t ≡ Some w → IsBodyOf a tokens body
    → IsBodyOf a (t ∷ tokens) (Then w body)
one_more_word a t w tokens body e k = (w, body, e, k, refl)

pub functions_length : (a : Numbers) (n : ℕ) (bodies : List (List Token)) (functions : List Function) → AreFunctionsOf a n bodies functions
    → length functions ≡ length bodies
functions_length a n [] functions k = ap length k
functions_length a n (tokens ∷ bodies) functions k = ap length k.4 ∙ ap suc (functions_length a (suc n) bodies k.1 k.3)

pub one_more_function : (a : Numbers) (n m : ℕ) (bodies : List (List Token)) (functions : List Function) (tokens : List Token) (name : List ℕ) (body : Body)
    → AreFunctionsOf a n bodies functions → IsBodyOf a tokens body → m ≡ n + length bodies → name_of a.names (callee.User m) ≡ name
    → AreFunctionsOf a n (bodies ++ tokens ∷ []) (functions ++ Defined name body ∷ [])
one_more_function a n m [] functions tokens name body k h e f =
    let same : m ≡ n = omega (arith, e) in (
      body,
      [],
      h,
      refl,
      ap (λ (fs : List Function). fs ++ Defined name body ∷ []) k
          ∙ ap (λ x. Defined x body ∷ []) (sym (ap (λ (x : ℕ). name_of a.names (callee.User x)) (sym same) ∙ f)),
    )
one_more_function a n m (first ∷ bodies) functions tokens name body k h e f = (
  k.0,
  k.1 ++ Defined name body ∷ [],
  k.2,
  one_more_function a (suc n) m bodies k.1 tokens name body k.3 h (omega (arith, e)) f,
  ap (λ (fs : List Function). fs ++ Defined name body ∷ []) k.4,
)

pub more_commands : (a : Numbers) (file : List ℕ) (items : List Item) (commands : List Command) (others : List Item) (more : List Command)
    → AreCommandsOf a file items commands → AreCommandsOf a file others more
    → AreCommandsOf a file (items ++ others) (commands ++ more)
more_commands a file [] commands others more k h = subst (λ (cs : List Command). AreCommandsOf a file others (cs ++ more)) (sym k) h
more_commands a file (x ∷ items) commands others more k h =
    (k.0, k.1 ++ more, k.2, more_commands a file items k.1 others more k.3 h, ap (λ (cs : List Command). cs ++ more) k.4 ∙ append_assoc k.0 k.1 more)

pub one_more_command : (a : Numbers) (file : List ℕ) (items : List Item) (commands : List Command) (x : Item) (more : List Command)
    → AreCommandsOf a file items commands → commands_of a file x ≡ Some more
    → AreCommandsOf a file (items ++ x ∷ []) (commands ++ more)
one_more_command a file items commands x more k e = more_commands a file items commands (x ∷ []) more k (more, [], e, refl, sym (append-nil more))

pub no_more_command : (a : Numbers) (file : List ℕ) (items : List Item) (commands : List Command) (x : Item) → AreCommandsOf a file items commands
    → commands_of a file x ≡ Some []
    → AreCommandsOf a file (items ++ x ∷ []) commands
no_more_command a file items commands x k e = subst (AreCommandsOf a file (items ++ x ∷ [])) (append-nil commands)
    (one_more_command a file items commands x [] k e)
