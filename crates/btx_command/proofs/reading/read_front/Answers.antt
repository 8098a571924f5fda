use Rattle.std.proofs.Common.{rules, ◌≡◌, ◌≤◌, ◌++◌, length, min, take, refl, ◌∙◌, true}
use Rattle.std.specs.Result.{is_ok}
use Rattle.btx_command.proofs.ReadingLemmas.{front_read, gives_nothing, piece_appended, piece_read}
use Rattle.btx_command.proofs.reading.read_front.Goals as goal

-- a reading gave nothing
pub returns-then-count-eq0-clause-bytes : goal.returns-then-count-eq0-clause-bytes
returns-then-count-eq0-clause-bytes g c =
    let none : c.in_ok-count.count ≡ 0 = search rules in
    let long : length c.read_some.new.into ≡ min c.loop.left 16384 = search rules in
    front_read _ _ _ _ c.loop.left c.loop.invariant.0
    (gives_nothing _ (g.S.File.Read.remaining c.read_some.new.file) c.read_some.new.into c.loop.left c.in_ok-count.count 16384 c.in_ok-count.ensures.bytes none
    long (search rules))

-- a piece was read
pub loop-preserved : goal.loop-preserved
loop-preserved g c =
    let within : c.in_ok-count.count ≤ c.loop.left = search rules in
    let ok : is_ok c.extend_from_slice.result ≡ true = search rules in
    let appends : c.extend_from_slice.new.self.items ≡ c.loop.into.items ++ take c.in_ok-count.count c.read_some.new.into = c.extend_from_slice.ensures.items
    ∙ piece_appended (is_ok c.extend_from_slice.result) c.loop.into.items c.read_some.new.into _ c.in_ok-count.count ok c.in_ok-count.ensures.bound.0 in (
      piece_read _ _ (g.S.File.Read.remaining c.read_some.new.file) _ c.loop.into.items _ c.read_some.new.into c.loop.left _ c.in_ok-count.count
          c.loop.invariant.0 c.in_ok-count.ensures.bytes.0
          c.in_ok-count.ensures.bound.0 within appends refl,
      search rules,
      search rules,
    )
