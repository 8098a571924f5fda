-- Tables of names.
use Rattle.std.proofs.Common.{◌≡◌, ℕ, Bool, true, false, cond, List, [], ◌∷◌, ◌++◌, Option, None, Some, refl, sym, ap, ◌∙◌}
use Rattle.std.specs.Option.{option_map, option_or}
use Rattle.std.specs.Str.{bytes_eq}
use Rattle.std.specs.Map.{lookup}
use Rattle.std.specs.List.{fold, find}
use Rattle.std.specs.Borrow.{Bor}
use Rattle.std.specs.declared.vec.Vec.{Vec}
use Rattle.std.specs.declared.alloc.Global.{Global}
use Rattle.indexmap.specs.IndexMap.{insert_entry}
use Rattle.btx_bst.specs.declared.built_in.BuiltIn.{BuiltIn}
use Rattle.btx_bst.specs.declared.built_in.TheConstants.{BUILT_INS}
use Rattle.btx_bst.specs.declared.callee.Callee.{Callee}
use Rattle.btx_bst.specs.declared.callee.Callee.TheVariants as callee
use Rattle.btx_bst.specs.language.BuiltIns.{built_ins, built_in_of, built_in_name}
use Rattle.btx_bst.specs.language.Names.{Names, named_lower}
use Rattle.btx_bst.specs.laws.Names.{no_names, macro_lower}
use Rattle.btx_bst.specs.refinement.NameTables.{Entries, found_in, pairs_in, words_in, with_built_in, IsTable, macros_view}

abbrev pub same_name : Vec ℕ Global → Vec ℕ Global → Bool
same_name a b = bytes_eq a.items b.items

abbrev Pair : Type 0
Pair = List ℕ × Callee

pub pairs-insert : (es : Entries) (k : Vec ℕ Global) (c : Callee) → pairs_in (insert_entry same_name es k c) ≡ insert_entry bytes_eq (pairs_in es) k.items c
pairs-insert [] k c = refl
pairs-insert (e ∷ es) k c = at (bytes_eq k.items e.0.items) (pairs-insert es k c) where
  at : (b : Bool) → pairs_in (insert_entry same_name es k c) ≡ insert_entry bytes_eq (pairs_in es) k.items c
      → pairs_in (cond b ((e.0, c) ∷ es) (e ∷ insert_entry same_name es k c))
      ≡ cond b ((e.0.items, c) ∷ pairs_in es) ((e.0.items, e.1) ∷ insert_entry bytes_eq (pairs_in es) k.items c)
  at true h = refl
  at false h = ap (λ (rest : List Pair). (e.0.items, e.1) ∷ rest) h

-- the words are all different
pub all-words : fold with_built_in [] BUILT_INS ≡ words_in built_ins
unfolding built_ins
all-words = refl

pub word-added : (es fs : Entries) (k : Vec ℕ Global) (b : BuiltIn) → k.items ≡ built_in_name b → fs ≡ insert_entry same_name es k (callee.BuiltIn b)
    → pairs_in fs ≡ with_built_in (pairs_in es) b
word-added es fs k b e f =
    ap pairs_in f ∙ pairs-insert es k (callee.BuiltIn b) ∙ ap (λ (w : List ℕ). insert_entry bytes_eq (pairs_in es) w (callee.BuiltIn b)) e

-- ---- look-ups

pub found-pairs : (es : Entries) (m : List ℕ) → found_in es m ≡ lookup (bytes_eq m) (pairs_in es)
found-pairs [] m = refl
found-pairs (e ∷ es) m = ap (cond (bytes_eq m e.0.items) (Some e.1)) (found-pairs es m)

found-words : (bs : List BuiltIn) (m : List ℕ) → lookup (bytes_eq m) (words_in bs)
    ≡ option_map callee.BuiltIn (find (λ (b : BuiltIn). bytes_eq m (built_in_name b)) bs)
found-words [] m = refl
found-words (b ∷ bs) m = at (bytes_eq m (built_in_name b)) (found-words bs m) where
  at : (t : Bool) → lookup (bytes_eq m) (words_in bs) ≡ option_map callee.BuiltIn (find (λ (b : BuiltIn). bytes_eq m (built_in_name b)) bs)
      → cond t (Some (callee.BuiltIn b)) (lookup (bytes_eq m) (words_in bs))
      ≡ option_map callee.BuiltIn (cond t (Some b) (find (λ (b : BuiltIn). bytes_eq m (built_in_name b)) bs))
  at true h = refl
  at false h = h

or-none : (o : Option Callee) → option_or o None ≡ o
or-none None = refl
or-none (Some c) = refl

-- the table of the built-in functions
pub table-new : (es : Entries) → pairs_in es ≡ words_in built_ins → IsTable es no_names
unfolding named_lower built_in_of
table-new es e m =
    found-pairs es m ∙ ap (lookup (bytes_eq m)) e ∙ found-words built_ins m ∙ sym (or-none (option_map callee.BuiltIn (built_in_of m)))

pub found-push : (es : Entries) (k : Vec ℕ Global) (c : Callee) (m : List ℕ) → found_in (es ++ (k, c) ∷ []) m
    ≡ option_or (found_in es m) (cond (bytes_eq m k.items) (Some c) None)
found-push [] k c m = refl
found-push (e ∷ es) k c m = at (bytes_eq m e.0.items) (found-push es k c m) where
  at : (t : Bool) → found_in (es ++ (k, c) ∷ []) m ≡ option_or (found_in es m) (cond (bytes_eq m k.items) (Some c) None)
      → cond t (Some e.1) (found_in (es ++ (k, c) ∷ []) m) ≡ option_or (cond t (Some e.1) (found_in es m)) (cond (bytes_eq m k.items) (Some c) None)
  at true h = refl
  at false h = h

-- names with a further one, which names something new
abbrev pub IsFurther : Names → Names → List ℕ → Callee → Type 0
IsFurther names more name c = (m : List ℕ) → named_lower more m ≡ option_or (named_lower names m) (cond (bytes_eq m name) (Some c) None)

pub table-push : (es fs : Entries) (names more : Names) (k : Vec ℕ Global) (c : Callee) → IsTable es names → fs ≡ es ++ (k, c) ∷ []
    → IsFurther names more k.items c → IsTable fs more
table-push es fs names more k c table e further m =
    ap (λ (xs : Entries). found_in xs m) e ∙ found-push es k c m ∙ ap (λ (o : Option Callee). option_or o (cond (bytes_eq m k.items) (Some c) None)) (table m)
    ∙ sym (further m)

-- ---- macros

abbrev text_in : Bor (List ℕ) → List ℕ
text_in b = b.now

mapped : (b : Bool) (v : Bor (List ℕ)) (rest : Option (Bor (List ℕ))) → option_map text_in (cond b (Some v) rest)
    ≡ cond b (Some v.now) (option_map text_in rest)
mapped true v rest = refl
mapped false v rest = refl

pub lookup-macros : (es : List (Vec ℕ Global × Bor (List ℕ))) (l : List ℕ) → option_map text_in (lookup (λ (k : Vec ℕ Global). bytes_eq l k.items) es)
    ≡ macro_lower (macros_view es) l
lookup-macros [] l = refl
lookup-macros (e ∷ es) l = mapped (bytes_eq l e.0.items) e.1 _ ∙ ap (cond (bytes_eq l e.0.items) (Some e.1.now)) (lookup-macros es l)

pub unmapped : (o : Option (Bor (List ℕ))) → option_map text_in o ≡ None → o ≡ None
unmapped None h = refl
unmapped (Some b) h = cc

pub ruleset word_steps = (word-added)

pub ruleset all_words_differ = (all-words)
