use Rattle.std.proofs.Common.{◌∙◌, ap, List, ℕ, arith}
use Rattle.btx_bst.specs.language.Names.{Names, named_lower}
use Rattle.btx_bst.specs.refinement.NameTables.{known_in}
use Rattle.btx_bst.specs.declared.callee.Callee.TheVariants as callee
use Rattle.btx_bst.proofs.FurtherLemmas.{put-keeps, further-field, further-entry_integer, further-entry_string, further-global_integer, further-global_string}
use Rattle.btx_bst.proofs.names.Names.add.Goals as goal

pub invariant_of-self : goal.invariant_of-self
invariant_of-self c =
    let i = c.self.inside in
    let known = λ (xs : List (List ℕ)). known_in i.functions.items xs i.entry_integers.items i.entry_strings.items i.global_integers.items
    i.global_strings.items in
    let new = ap (λ (names : Names). named_lower names c.args.name) c.self.view_is ∙ c.requires.new in
    put-keeps known i.fields.items c.put.new.list.items c.args.name i.table.entries c.put.new.table.entries c.in_ok-key.key c.args.name
    (callee.Field c.len.result) c.put.result
    c.self.invariant (c.in_ok-key.ensures.items ∙ c.as_bytes.ensures)
    (further-field (known i.fields.items) c.args.name c.len.result (let e = c.len.ensures in let b = i.fields.ok.0 in omega (arith, e, b)) new)
    c.put.ensures.table c.put.ensures.list c.put.ensures.table_stays c.put.ensures.list_stays

pub invariant_of-self-in-EntryInteger : goal.invariant_of-self-in-EntryInteger
invariant_of-self-in-EntryInteger c =
    let i = c.self.inside in
    let known = λ (xs : List (List ℕ)). known_in i.functions.items i.fields.items xs i.entry_strings.items i.global_integers.items i.global_strings.items in
    let new = ap (λ (names : Names). named_lower names c.args.name) c.self.view_is ∙ c.requires.new in
    put-keeps known i.entry_integers.items c.put-in-EntryInteger.new.list.items c.args.name i.table.entries c.put-in-EntryInteger.new.table.entries
    c.in_ok-key.key c.args.name (callee.EntryInteger c.len-in-EntryInteger.result) c.put-in-EntryInteger.result
    c.self.invariant (c.in_ok-key.ensures.items ∙ c.as_bytes.ensures)
    (further-entry_integer (known i.entry_integers.items) c.args.name c.len-in-EntryInteger.result (let e = c.len-in-EntryInteger.ensures in
    let b = i.entry_integers.ok.0 in omega (arith, e, b)) new)
    c.put-in-EntryInteger.ensures.table c.put-in-EntryInteger.ensures.list c.put-in-EntryInteger.ensures.table_stays c.put-in-EntryInteger.ensures.list_stays

pub invariant_of-self-in-EntryString : goal.invariant_of-self-in-EntryString
invariant_of-self-in-EntryString c =
    let i = c.self.inside in
    let known = λ (xs : List (List ℕ)). known_in i.functions.items i.fields.items i.entry_integers.items xs i.global_integers.items i.global_strings.items in
    let new = ap (λ (names : Names). named_lower names c.args.name) c.self.view_is ∙ c.requires.new in
    put-keeps known i.entry_strings.items c.put-in-EntryString.new.list.items c.args.name i.table.entries c.put-in-EntryString.new.table.entries c.in_ok-key.key
    c.args.name (callee.EntryString c.len-in-EntryString.result) c.put-in-EntryString.result
    c.self.invariant (c.in_ok-key.ensures.items ∙ c.as_bytes.ensures)
    (further-entry_string (known i.entry_strings.items) c.args.name c.len-in-EntryString.result (let e = c.len-in-EntryString.ensures in
    let b = i.entry_strings.ok.0 in omega (arith, e, b)) new)
    c.put-in-EntryString.ensures.table c.put-in-EntryString.ensures.list c.put-in-EntryString.ensures.table_stays c.put-in-EntryString.ensures.list_stays

pub invariant_of-self-in-GlobalInteger : goal.invariant_of-self-in-GlobalInteger
invariant_of-self-in-GlobalInteger c =
    let i = c.self.inside in
    let known = λ (xs : List (List ℕ)). known_in i.functions.items i.fields.items i.entry_integers.items i.entry_strings.items xs i.global_strings.items in
    let new = ap (λ (names : Names). named_lower names c.args.name) c.self.view_is ∙ c.requires.new in
    put-keeps known i.global_integers.items c.put-in-GlobalInteger.new.list.items c.args.name i.table.entries c.put-in-GlobalInteger.new.table.entries
    c.in_ok-key.key c.args.name (callee.GlobalInteger c.len-in-GlobalInteger.result) c.put-in-GlobalInteger.result
    c.self.invariant (c.in_ok-key.ensures.items ∙ c.as_bytes.ensures)
    (further-global_integer (known i.global_integers.items) c.args.name c.len-in-GlobalInteger.result (let e = c.len-in-GlobalInteger.ensures in
    let b = i.global_integers.ok.0 in omega (arith, e, b)) new)
    c.put-in-GlobalInteger.ensures.table c.put-in-GlobalInteger.ensures.list c.put-in-GlobalInteger.ensures.table_stays
    c.put-in-GlobalInteger.ensures.list_stays

pub invariant_of-self-in-GlobalString : goal.invariant_of-self-in-GlobalString
invariant_of-self-in-GlobalString c =
    let i = c.self.inside in
    let known = λ (xs : List (List ℕ)). known_in i.functions.items i.fields.items i.entry_integers.items i.entry_strings.items i.global_integers.items xs in
    let new = ap (λ (names : Names). named_lower names c.args.name) c.self.view_is ∙ c.requires.new in
    put-keeps known i.global_strings.items c.put-in-GlobalString.new.list.items c.args.name i.table.entries c.put-in-GlobalString.new.table.entries
    c.in_ok-key.key c.args.name (callee.GlobalString c.len-in-GlobalString.result) c.put-in-GlobalString.result
    c.self.invariant (c.in_ok-key.ensures.items ∙ c.as_bytes.ensures)
    (further-global_string (known i.global_strings.items) c.args.name c.len-in-GlobalString.result (let e = c.len-in-GlobalString.ensures in
    let b = i.global_strings.ok.0 in omega (arith, e, b)) new)
    c.put-in-GlobalString.ensures.table c.put-in-GlobalString.ensures.list c.put-in-GlobalString.ensures.table_stays c.put-in-GlobalString.ensures.list_stays
