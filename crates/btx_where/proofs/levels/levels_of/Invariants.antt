use Rattle.std.proofs.Common.{◌≡◌, ◌++◌, length, map}
use Rattle.btx_machine.specs.refinement.Marks.{frames_of}
use Rattle.btx_where.specs.Shown.{frame_of}
use Rattle.btx_where.proofs.levels.levels_of.Given as goal

-- the levels so far, and what is open below them
abbrev pub invariant-levels : goal.invariant-levels
invariant-levels l = map (frame_of l.style) l.levels.items ++ frames_of l.code l.place l.marks ≡ frames_of l.code l.from l.fn.marks

abbrev pub decreases-levels : goal.decreases-levels
decreases-levels l = length l.marks
