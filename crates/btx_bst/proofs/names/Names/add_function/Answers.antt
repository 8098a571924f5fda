use Rattle.std.proofs.Common.{◌∙◌, ap, List, ℕ, Option, Some, arith, length}
use Rattle.btx_bst.specs.language.Names.{Names, named_lower}
use Rattle.btx_bst.specs.refinement.NameTables.{known_in}
use Rattle.btx_bst.specs.declared.callee.Callee.TheVariants as callee
use Rattle.btx_bst.proofs.FurtherLemmas.{put-keeps, pad-keeps, named-padded, padded-length, further-function}
use Rattle.btx_bst.proofs.names.Names.add_function.Goals as goal

pub invariant_of-self : goal.invariant_of-self
invariant_of-self c =
    let i = c.self.inside in
    let known = λ (fs : List (Option (List ℕ))). known_in fs i.fields.items i.entry_integers.items i.entry_strings.items i.global_integers.items
    i.global_strings.items in
    pad-keeps (known i.functions.items) c.pad.new.functions.items i.table.entries c.self.invariant c.pad.ensures.padded

pub invariant_of-self-2 : goal.invariant_of-self-2
invariant_of-self-2 c =
    let i = c.self.inside in
    let known = λ (fs : List (Option (List ℕ))). known_in fs i.fields.items i.entry_integers.items i.entry_strings.items i.global_integers.items
    i.global_strings.items in
    let padded = c.pad.new.functions.items in
    let known_none = ap (λ (names : Names). named_lower names c.args.name) c.self.view_is ∙ c.requires.new in
    let none = named-padded (known i.functions.items) padded c.args.name c.pad.ensures.padded ∙ known_none in
    let old = ap (λ (names : Names). length names.functions) c.self.view_is in
    let l = padded-length c.args.number i.functions.items (let h = c.requires.further in omega (arith, old, h)) in
    let e = ap (λ (fs : List (Option (List ℕ))). length fs) c.in_ok-pad.ensures.ok in
    put-keeps known padded c.put.new.list.items (Some c.args.name) i.table.entries c.put.new.table.entries c.in_ok-key.key c.args.name
    (callee.User c.args.number) c.put.result
    (pad-keeps (known i.functions.items) padded i.table.entries c.self.invariant c.pad.ensures.padded) (c.in_ok-key.ensures.items ∙ c.as_bytes.ensures)
    (further-function (known padded) c.args.name c.args.number (omega (arith, l, e)) none)
    c.put.ensures.table c.put.ensures.list c.put.ensures.table_stays c.put.ensures.list_stays
