-- The names that are known before a style.
use Rattle.std.proofs.Common.{◌≡◌, None, refl}
use Rattle.std.specs.Prelude.{codes}
use Rattle.btx_bst.specs.language.BuiltIns.{built_ins, built_in_of}
use Rattle.btx_bst.specs.language.Names.{named_lower, with_name}
use Rattle.btx_bst.specs.laws.Names.{no_names}
use Rattle.btx_bst.specs.declared.callee.Kind.TheVariants as kind

-- none of them is a built-in function or another one of them
pub new-crossref : named_lower no_names (codes "crossref") ≡ None
unfolding named_lower built_in_of built_ins
new-crossref = refl

pub new-sort_key : named_lower (with_name kind.Field (codes "crossref") no_names) (codes "sort.key$") ≡ None
unfolding named_lower built_in_of built_ins
new-sort_key = refl

pub new-entry_max : named_lower (with_name kind.EntryString (codes "sort.key$") (with_name kind.Field (codes "crossref") no_names)) (codes "entry.max$") ≡ None
unfolding named_lower built_in_of built_ins
new-entry_max = refl

pub new-global_max : named_lower (with_name kind.GlobalInteger (codes "entry.max$")
    (with_name kind.EntryString (codes "sort.key$") (with_name kind.Field (codes "crossref") no_names))) (codes "global.max$") ≡ None
unfolding named_lower built_in_of built_ins
new-global_max = refl

pub ruleset new_names = (new-crossref, new-sort_key, new-entry_max, new-global_max)
