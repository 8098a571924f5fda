-- The names before a style keep their numbers.
use Rattle.std.proofs.Common.{◌≡◌, ℕ, zero, suc, List, [], ◌∷◌, ◌++◌, Some}
use Rattle.std.specs.Prelude.{slice_get, codes}
use Rattle.btx_text.specs.language.Keys.{folded}
use Rattle.btx_bst.specs.declared.callee.Kind.{Kind}
use Rattle.btx_bst.specs.declared.callee.Kind.TheVariants as kind
use Rattle.btx_bst.specs.language.Names.{Names, with_name}
use Rattle.btx_bst.specs.language.Style.{Style}
use Rattle.btx_bst.specs.language.Lists.{opening}
use Rattle.btx_bst.specs.language.BodyText.{BodyEnd, Whole, Broken, body_end}
use Rattle.btx_bst.specs.language.Commands.{function_ended, inside_at}
use Rattle.btx_bst.specs.language.Predefined.{predefined}
use Rattle.btx_bst.specs.language.StyleText.{style_of}
use Rattle.btx_bst.specs.laws.FirstNames.{FirstNamesLaw}
use Rattle.btx_bst.proofs.KeepLemmas.{Keeps, kept-style, kept_list}
use Rattle.btx_bst.proofs.MeaningLemmas.{clear-style}

-- these names stand first in their lists
pub record StandFirst (a : Names) : Type 0 where
  pub parent : slice_get a.fields 0 ≡ Some (codes "crossref")
  pub sort_key : slice_get a.entry_strings 0 ≡ Some (codes "sort.key$")
  pub entry_limit : slice_get a.global_integers 0 ≡ Some (codes "entry.max$")
  pub global_limit : slice_get a.global_integers 1 ≡ Some (codes "global.max$")

pushed : (xs ys : List (List ℕ)) (k : ℕ) (x : List ℕ) → slice_get xs k ≡ Some x → slice_get (xs ++ ys) k ≡ Some x
pushed [] ys k x e = absurd (cc)
pushed (y ∷ xs) ys zero x e = e
pushed (y ∷ xs) ys (suc k) x e = pushed xs ys k x e

first_named : (k : Kind) (name : List ℕ) (a : Names) → StandFirst a → StandFirst (with_name k name a)
first_named kind.Field name a h = record {
  parent = pushed a.fields (name ∷ []) 0 _ h.parent;
  sort_key = h.sort_key;
  entry_limit = h.entry_limit;
  global_limit =
      h.global_limit;
}
first_named kind.EntryInteger name a h = record { parent = h.parent; sort_key = h.sort_key; entry_limit = h.entry_limit; global_limit = h.global_limit }
first_named kind.EntryString name a h = record {
  parent = h.parent;
  sort_key = pushed a.entry_strings (name ∷ []) 0 _ h.sort_key;
  entry_limit = h.entry_limit;
  global_limit = h.global_limit;
}
first_named kind.GlobalInteger name a h =
    record {
      parent = h.parent;
      sort_key = h.sort_key;
      entry_limit = pushed a.global_integers (name ∷ []) 0 _ h.entry_limit;
      global_limit =
          pushed a.global_integers (name ∷ []) 1 _ h.global_limit;
    }
first_named kind.GlobalString name a h = record { parent = h.parent; sort_key = h.sort_key; entry_limit = h.entry_limit; global_limit = h.global_limit }

abbrev IsFirstIn : Style → Type 0
IsFirstIn s = StandFirst s.names

first_ended : (s : Style) (name : List ℕ) (r : BodyEnd) → IsFirstIn s → IsFirstIn (function_ended s name r).style
first_ended s name (Broken c i) h = h
first_ended s name (Whole i) h = record { parent = h.parent; sort_key = h.sort_key; entry_limit = h.entry_limit; global_limit = h.global_limit }

first_keeps : Keeps IsFirstIn
first_keeps = record {
  on_message = λ c line s h. h;
  on_names = λ s k p h. kept_list StandFirst (λ k a name new h. first_named k (folded name) a h) k s.names (opening p) h;
  on_entry = λ s e h. h;
  on_read = λ s e f h. h;
  on_function = λ s name p e h. first_ended s (folded name) (body_end s.names (inside_at s p)) h;
  on_execute = λ s name c r e h. h;
  on_iterate = λ s name c r e h. h;
  on_reverse = λ s name c r e h. h;
  on_sort = λ s r h. h;
  on_integers = λ s h. h;
  on_strings = λ s h. h;
  on_macro = λ s name text r e h. h;
}

-- what stands first before a style is found by its number in it
pub first-names : StandFirst predefined → FirstNamesLaw
first-names first file text =
    let clear = (clear-style file text).1 in
    let h : IsFirstIn (style_of file text) = kept-style IsFirstIn first_keeps file text first in
    record {
      parent = clear.of_fields 0 _ h.parent;
      sort_key = clear.of_entry_strings 0 _ h.sort_key;
      entry_limit = clear.of_global_integers 0 _ h.entry_limit;
      global_limit = clear.of_global_integers 1 _ h.global_limit;
    }
