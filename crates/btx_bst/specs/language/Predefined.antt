-- The names that are known before a style, beside the built-in functions: the field `crossref`, the entry string `sort.key$` and the two
-- integers `entry.max$` and `global.max$` (btxhak, section 5.2).
use Rattle.std.specs.Prelude.{[], ◌∷◌, codes}
use Rattle.btx_bst.specs.language.Names.{Names}

-- what every style can name without declaring it: one field, one string of an entry and two global integers
abbrev pub predefined : Names
predefined = record {
  functions = [];
  fields = codes "crossref" ∷ [];
  entry_integers = [];
  entry_strings = codes "sort.key$" ∷ [];
  global_integers = codes "entry.max$" ∷ codes "global.max$" ∷ [];
  global_strings = [];
}
