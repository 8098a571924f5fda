use Rattle.std.proofs.Common.{◌≡◌, ◌<◌, sym, ◌∙◌, ap, length, drop}
use Rattle.std.proofs.lemmas.List.{take_rest}
use Rattle.btx_names.specs.language.FormattedNames as spec
use Rattle.btx_names.proofs.TieLemmas.{slice_front, finish_kept, finish_cut, finish_spaced, finish_tied}
use Rattle.btx_names.proofs.writer.Writer.finish_piece.Goals as goal
use Rattle.btx_names.proofs.writer.Writer.finish_piece.Goals.{After-len-last, After-deref-3}

-- what the tests answer, in the words of the definition, and the length of a piece that has a last byte
tied : (c : After-len-last) → c.ends_in_tie.result ≡ spec.ends_in_tie (drop c.args.self.now.start c.args.self.now.text.items)
tied c = rw (c.deref.ensures.value, take_rest c.args.self.now.text.items c.args.self.now.start) at c.ends_in_tie.ensures.value

some : (c : After-len-last) → 0 < length (drop c.args.self.now.start c.args.self.now.text.items)
some c = rw (c.deref.ensures.value, take_rest c.args.self.now.text.items c.args.self.now.start) at (c.ends_in_tie.ensures.some c.if-not-ends_in_tie.false)

len : (c : After-len-last) → c.len-last.result ≡ length c.args.self.now.text.items
len c = c.len-last.ensures ∙ sym c.deref.ensures.len ∙ ap length c.deref.ensures.value

again : (c : After-deref-3) → c.len-last.result ≡ length c.args.self.now.text.items →
    c.ends_in_tie-2.result ≡ spec.ends_in_tie (spec.without_last_byte (drop c.args.self.now.start c.args.self.now.text.items))
again c last = rw (c.deref-2.ensures.value, last, slice_front c.args.self.now.text.items c.args.self.now.start) at c.ends_in_tie-2.ensures.value

pub returns-then-not-ends_in_tie-clause-text : goal.returns-then-not-ends_in_tie-clause-text
returns-then-not-ends_in_tie-clause-text c =
    let text = c.args.self.now.text.items in
    let test = rw (c.deref.ensures.value, take_rest text c.args.self.now.start) at c.ends_in_tie.ensures.value in
    finish_kept c.args.self.now.mode text c.args.self.now.start (sym test ∙ c.if-not-ends_in_tie.true)

pub returns-then-ends_in_tie-clause-text : goal.returns-then-ends_in_tie-clause-text
returns-then-ends_in_tie-clause-text c =
    let path = (goal.at.returns-then-ends_in_tie-clause-text c).After-len-last in
    let front = slice_front c.args.self.now.text.items c.args.self.now.start in
    let second = rw (c.deref-2.ensures.value, len path, front) at c.ends_in_tie-2.ensures.value in
    rw (c.truncate.ensures.items, len path)
    (finish_cut c.args.self.now.mode c.args.self.now.text.items c.args.self.now.start (some path) (sym (tied path) ∙ c.if-not-ends_in_tie.false)
    (sym second ∙ c.if-ends_in_tie.true))

pub returns-then-not-is_short-clause-text : goal.returns-then-not-is_short-clause-text
returns-then-not-is_short-clause-text c =
    let path = (goal.at.returns-then-not-is_short-clause-text c).After-len-last in
    let second = again (goal.at.returns-then-not-is_short-clause-text c).After-deref-3 (len path) in
    let short = rw (c.deref-3.ensures.value, len path, slice_front c.args.self.now.text.items c.args.self.now.start) at c.is_short.ensures in
    rw (len path)
    (finish_spaced c.args.self.now.mode c.args.self.now.text.items c.args.self.now.start (some path) (sym (tied path) ∙ c.if-not-ends_in_tie.false)
    (sym second ∙ c.if-ends_in_tie.false) (sym short ∙ c.if-not-is_short.true))

pub returns-else-not-is_short-clause-text : goal.returns-else-not-is_short-clause-text
returns-else-not-is_short-clause-text c =
    let path = (goal.at.returns-else-not-is_short-clause-text c).After-len-last in
    let second = again (goal.at.returns-else-not-is_short-clause-text c).After-deref-3 (len path) in
    let short = rw (c.deref-3.ensures.value, len path, slice_front c.args.self.now.text.items c.args.self.now.start) at c.is_short.ensures in
    finish_tied c.args.self.now.mode c.args.self.now.text.items c.args.self.now.start (sym (tied path) ∙ c.if-not-ends_in_tie.false)
    (sym second ∙ c.if-ends_in_tie.false) (sym short ∙ c.if-not-is_short.false)
