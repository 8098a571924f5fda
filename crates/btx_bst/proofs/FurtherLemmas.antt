-- Names with a further one.
use Rattle.std.proofs.Common.{◌≡◌, ℕ, zero, suc, ◌+◌, ◌-◌, ◌≤◌, Bool, true, false, cond, List, [], ◌∷◌, ◌++◌, length, Option, None, Some, Result, Ok, Err, OnOk}
use Rattle.std.proofs.Common.{OnErr, refl, sym, ap, ◌∙◌, arith}
use Rattle.std.specs.Prelude.{position, replicate}
use Rattle.std.specs.Option.{option_map, option_or}
use Rattle.std.specs.Str.{bytes_eq}
use Rattle.std.specs.List.{position_from}
use Rattle.std.proofs.lemmas.Iterator.Adapters.{position_from-zero}
use Rattle.std.proofs.lemmas.Slice.Eq.{bytes_eq-Decides}
use Rattle.std.proofs.lemmas.List.{length-append, length-replicate}
use Rattle.btx_bst.specs.declared.callee.Callee.{Callee}
use Rattle.btx_bst.specs.declared.callee.Callee.TheVariants as callee
use Rattle.btx_bst.specs.declared.callee.Callee.TheVariants.{User, Field, EntryInteger, EntryString, GlobalInteger, GlobalString}
use Rattle.btx_bst.specs.language.BuiltIns.{built_in_of}
use Rattle.btx_bst.specs.language.Names.{Names, named_lower}
use Rattle.std.specs.declared.vec.Vec.{Vec}
use Rattle.std.specs.declared.alloc.Global.{Global}
use Rattle.btx_bst.specs.refinement.NameTables.{IsPadded, Entries, IsTable}
use Rattle.btx_bst.proofs.TableLemmas.{IsFurther, table-push}
use Rattle.btx_bst.specs.refinement.Names.{number_in, padded, has_name}

-- ---- the place of the first that passes

from_push : {A : Type 0} (p : A → Bool) (i : ℕ) (xs : List A) (y : A) → position_from p i (xs ++ y ∷ [])
    ≡ option_or (position_from p i xs) (cond (p y) (Some (i + length xs)) None)
from_push p i [] y = ap (λ (n : ℕ). cond (p y) (Some n) None) (let e : i ≡ i + 0 = omega arith in e)
from_push p i (x ∷ xs) y = at (p x) (from_push p (i + 1) xs y ∙ ap (λ (n : ℕ). option_or (position_from p (i + 1) xs) (cond (p y) (Some n) None))
    (let e : i + 1 + length xs ≡ i + suc (length xs) = omega arith in e)) where
      at : (t : Bool) → position_from p (i + 1) (xs ++ y ∷ []) ≡ option_or (position_from p (i + 1) xs) (cond (p y) (Some (i + suc (length xs))) None)
          → cond t (Some i) (position_from p (i + 1) (xs ++ y ∷ [])) ≡ option_or (cond t (Some i) (position_from p (i + 1) xs))
          (cond (p y) (Some (i + suc (length xs))) None)
      at true h = refl
      at false h = h

position-push : {A : Type 0} (p : A → Bool) (xs : List A) (y : A) (n : ℕ) → n ≡ length xs → position p (xs ++ y ∷ [])
    ≡ option_or (position p xs) (cond (p y) (Some n) None)
position-push p xs y n e =
    position_from-zero p (xs ++ y ∷ []) ∙ from_push p 0 xs y
    ∙ ap (λ (o : Option ℕ). option_or o (cond (p y) (Some (0 + length xs)) None)) (sym (position_from-zero p xs))
    ∙ ap (λ (k : ℕ). option_or (position p xs) (cond (p y) (Some k) None)) (let g : 0 + length xs ≡ n = omega arith in g)

or-none : {A : Type 0} (o : Option A) → option_or o None ≡ o
or-none None = refl
or-none (Some x) = refl

-- ---- look-ups, one after another

-- what look-ups find before others
abbrev before : List (Option Callee) → Option Callee → Option Callee
before [] o = o
before (e ∷ es) o = option_or e (before es o)

-- what a look-up finds, with those after it
abbrev then_after : Option Callee → List (Option Callee) → Option Callee
then_after o [] = o
then_after o (l ∷ ls) = option_or o (then_after l ls)

-- where look-ups find nothing, what one of them would find is found
none_here : (ls : List (Option Callee)) (o : Option Callee) → then_after o ls ≡ None → (o ≡ None) × ((x : Callee) → then_after (Some x) ls ≡ Some x)
none_here [] o h = (h, λ x. refl)
none_here (l ∷ ls) None h = (refl, λ x. refl)
none_here (l ∷ ls) (Some y) h = absurd (cc)

at_its_place : (es ls : List (Option Callee)) (o : Option Callee) → before es (then_after o ls) ≡ None
    → (o ≡ None) × ((x : Callee) → before es (then_after (Some x) ls) ≡ Some x)
at_its_place [] ls o h = none_here ls o h
at_its_place (None ∷ es) ls o h = at_its_place es ls o h
at_its_place (Some y ∷ es) ls o h = absurd (cc)

-- a look-up that finds one more
abbrev more : (ℕ → Callee) → Option ℕ → Bool → ℕ → Option Callee
more f o t n = option_map f (option_or o (cond t (Some n) None))

more-true : (f : ℕ → Callee) (o : Option ℕ) (n : ℕ) → option_map f o ≡ None → more f o true n ≡ Some (f n)
more-true f None n h = refl
more-true f (Some k) n h = absurd (cc)

-- a look-up with one more at its place
more_found : (es ls : List (Option Callee)) (f : ℕ → Callee) (o : Option ℕ) (n : ℕ) (t : Bool)
    → (t ≡ true → before es (then_after (option_map f o) ls) ≡ None) → before es (then_after (more f o t n) ls)
    ≡ option_or (before es (then_after (option_map f o) ls)) (cond t (Some (f n)) None)
more_found es ls f o n false none =
    ap (λ (p : Option ℕ). before es (then_after (option_map f p) ls)) (or-none o) ∙ sym (or-none (before es (then_after (option_map f o) ls)))
more_found es ls f o n true none =
    let e = none refl in
    let w = at_its_place es ls (option_map f o) e in
    ap (λ (p : Option Callee). before es (then_after p ls)) (more-true f o n w.0) ∙ w.1 (f n) ∙ sym (ap (λ (p : Option Callee). option_or p (Some (f n))) e)

-- a list with one more at its end, among look-ups in other lists
list_grows : {A : Type 0} (es ls : List (Option Callee)) (f : ℕ → Callee) (p : A → Bool) (xs : List A) (y : A) (n : ℕ) → n ≡ length xs
    → (p y ≡ true → before es (then_after (option_map f (position p xs)) ls) ≡ None)
    → before es (then_after (option_map f (position p (xs ++ y ∷ []))) ls)
    ≡ option_or (before es (then_after (option_map f (position p xs)) ls)) (cond (p y) (Some (f n)) None)
list_grows es ls f p xs y n e none =
    ap (λ (o : Option ℕ). before es (then_after (option_map f o) ls)) (position-push p xs y n e) ∙ more_found es ls f (position p xs) n (p y) none

unknown_too : (names : Names) (m name : List ℕ) → named_lower names name ≡ None → bytes_eq m name ≡ true → named_lower names m ≡ None
unknown_too names m name h e = ap (named_lower names) ((bytes_eq-Decides m name).0 e) ∙ h

-- what a name finds in each list
abbrev built_in : List ℕ → Option Callee
built_in m = option_map callee.BuiltIn (built_in_of m)

abbrev function : Names → List ℕ → Option Callee
function names m = option_map User (position (has_name m) names.functions)

abbrev field : Names → List ℕ → Option Callee
field names m = option_map Field (number_in names.fields m)

abbrev entry_integer : Names → List ℕ → Option Callee
entry_integer names m = option_map EntryInteger (number_in names.entry_integers m)

abbrev entry_string : Names → List ℕ → Option Callee
entry_string names m = option_map EntryString (number_in names.entry_strings m)

abbrev global_integer : Names → List ℕ → Option Callee
global_integer names m = option_map GlobalInteger (number_in names.global_integers m)

abbrev global_string : Names → List ℕ → Option Callee
global_string names m = option_map GlobalString (number_in names.global_strings m)

pub further-function : (names : Names) (name : List ℕ) (n : ℕ) → n ≡ length names.functions → named_lower names name ≡ None
    → IsFurther names (record names { functions = names.functions ++ Some name ∷ [] }) name (User n)
unfolding named_lower
further-function names name n len none m =
    list_grows (built_in m ∷ []) (field names m ∷ entry_integer names m ∷ entry_string names m ∷ global_integer names m ∷ global_string names m ∷ []) User
    (has_name m) names.functions (Some name) n len (unknown_too names m name none)

pub further-field : (names : Names) (name : List ℕ) (n : ℕ) → n ≡ length names.fields → named_lower names name ≡ None
    → IsFurther names (record names { fields = names.fields ++ name ∷ [] }) name (Field n)
unfolding named_lower
further-field names name n len none m =
    list_grows (built_in m ∷ function names m ∷ []) (entry_integer names m ∷ entry_string names m ∷ global_integer names m ∷ global_string names m ∷ []) Field
    (bytes_eq m) names.fields name n len (unknown_too names m name none)

pub further-entry_integer : (names : Names) (name : List ℕ) (n : ℕ) → n ≡ length names.entry_integers → named_lower names name ≡ None
    → IsFurther names (record names { entry_integers = names.entry_integers ++ name ∷ [] }) name (EntryInteger n)
unfolding named_lower
further-entry_integer names name n len none m =
    list_grows (built_in m ∷ function names m ∷ field names m ∷ []) (entry_string names m ∷ global_integer names m ∷ global_string names m ∷ []) EntryInteger
    (bytes_eq m) names.entry_integers name n len (unknown_too names m name none)

pub further-entry_string : (names : Names) (name : List ℕ) (n : ℕ) → n ≡ length names.entry_strings → named_lower names name ≡ None
    → IsFurther names (record names { entry_strings = names.entry_strings ++ name ∷ [] }) name (EntryString n)
unfolding named_lower
further-entry_string names name n len none m =
    list_grows (built_in m ∷ function names m ∷ field names m ∷ entry_integer names m ∷ []) (global_integer names m ∷ global_string names m ∷ []) EntryString
    (bytes_eq m) names.entry_strings name n len (unknown_too names m name none)

pub further-global_integer : (names : Names) (name : List ℕ) (n : ℕ) → n ≡ length names.global_integers → named_lower names name ≡ None
    → IsFurther names (record names { global_integers = names.global_integers ++ name ∷ [] }) name (GlobalInteger n)
unfolding named_lower
further-global_integer names name n len none m =
    list_grows (built_in m ∷ function names m ∷ field names m ∷ entry_integer names m ∷ entry_string names m ∷ []) (global_string names m ∷ []) GlobalInteger
    (bytes_eq m) names.global_integers name n len (unknown_too names m name none)

pub further-global_string : (names : Names) (name : List ℕ) (n : ℕ) → n ≡ length names.global_strings → named_lower names name ≡ None
    → IsFurther names (record names { global_strings = names.global_strings ++ name ∷ [] }) name (GlobalString n)
unfolding named_lower
further-global_string names name n len none m =
    list_grows (built_in m ∷ function names m ∷ field names m ∷ entry_integer names m ∷ entry_string names m ∷ global_integer names m ∷ []) [] GlobalString
    (bytes_eq m) names.global_strings name n len (unknown_too names m name none)

-- nameless functions change nothing
from_pad : {A : Type 0} (p : A → Bool) (i : ℕ) (xs : List A) (k : ℕ) (y : A) → p y ≡ false → position_from p i (xs ++ replicate k y) ≡ position_from p i xs
from_pad p i [] zero y h = refl
from_pad p i [] (suc k) y h = rw h (from_pad p (i + 1) [] k y h)
from_pad p i (x ∷ xs) k y h = ap (cond (p x) (Some i)) (from_pad p (i + 1) xs k y h)

position-pad : (m : List ℕ) (xs : List (Option (List ℕ))) (k : ℕ) → position (has_name m) (xs ++ replicate k None) ≡ position (has_name m) xs
position-pad m xs k =
    position_from-zero (has_name m) (xs ++ replicate k None) ∙ from_pad (has_name m) 0 xs k None refl ∙ sym (position_from-zero (has_name m) xs)

pub named-pad : (names : Names) (k : ℕ) (m : List ℕ) → named_lower (record names { functions = names.functions ++ replicate k None }) m ≡ named_lower names m
unfolding named_lower
named-pad names k m =
    ap (λ (o : Option ℕ). before (built_in m ∷ []) (then_after (option_map User o)
    (field names m ∷ entry_integer names m ∷ entry_string names m ∷ global_integer names m ∷ global_string names m ∷ []))) (position-pad m names.functions k)

-- ---- the table with a further name, or as it was

pub put-keeps : {A E : Type 0} (known : List A → Names) (xs ys : List A) (x : A) (es fs : Entries) (key : Vec ℕ Global) (name : List ℕ) (c : Callee)
    (r : Result (Unit {0}) E) → IsTable es (known xs) → key.items ≡ name → IsFurther (known xs) (known (xs ++ x ∷ [])) name c
    → OnOk r (fs ≡ es ++ (key, c) ∷ []) → OnOk r (ys ≡ xs ++ x ∷ []) → OnErr r (fs ≡ es) → OnErr r (ys ≡ xs) → IsTable fs (known ys)
put-keeps known xs ys x es fs key name c (Ok u) table e further a b g h =
    let k : IsFurther (known xs) (known (xs ++ x ∷ [])) key.items c = rw e further in
    rw b (table-push es fs (known xs) (known (xs ++ x ∷ [])) key c table a k)
put-keeps known xs ys x es fs key name c (Err u) table e further a b g h = rw (g, h) table

-- ---- nameless functions before a further one

pub named-padded : (names : Names) (more : List (Option (List ℕ))) (m : List ℕ) → IsPadded names.functions more
    → named_lower (record names { functions = more }) m ≡ named_lower names m
named-padded names more m p = ap (λ (functions : List (Option (List ℕ))). named_lower (record names { functions = functions }) m) p.1 ∙ named-pad names p.0 m

pub pad-keeps : (names : Names) (more : List (Option (List ℕ))) (es : Entries) → IsTable es names → IsPadded names.functions more
    → IsTable es (record names { functions = more })
pad-keeps names more es table p m = table m ∙ sym (named-padded names more m p)

pub padded-length : (n : ℕ) (functions : List (Option (List ℕ))) → length functions ≤ n → length (padded n functions) ≡ n
padded-length n functions h =
    omega (arith, length-append functions (replicate (n - length functions) None), length-replicate {A = Option (List ℕ)} (n - length functions) None)

pub padded-len : (n : ℕ) (functions : List (Option (List ℕ))) (name : List ℕ) → length functions ≤ n → length (padded n functions ++ Some name ∷ []) ≡ suc n
padded-len n functions name h = omega (arith, length-append (padded n functions) (Some name ∷ []), padded-length n functions h)
