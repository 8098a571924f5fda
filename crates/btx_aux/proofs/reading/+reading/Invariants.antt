use Rattle.std.proofs.Common.{◌≡◌, ◌≤◌, ◌+◌, ◌*◌, length, true}
use Rattle.btx_aux.specs.refinement.Answers.{ByAnswers}
use Rattle.btx_aux.specs.language.Grammar.{is_whole}
use Rattle.btx_aux.specs.language.Events.{said, said_from}
use Rattle.btx_aux.specs.refinement.Reads.{AddsNames, opened_by, run}
use Rattle.btx_aux.proofs.reading.+reading.Given as goal

-- each file that is opened leaves room for one less
abbrev pub decreases-include : goal.decreases-include
decreases-include g l = 4 * l.room + 1

abbrev pub decreases-open_file : goal.decreases-open_file
decreases-open_file g l = 4 * l.room

abbrev pub decreases-read_lines : goal.decreases-read_lines
decreases-read_lines g l = 4 * l.room + 3

abbrev pub decreases-read_line : goal.decreases-read_line
decreases-read_line g l = 4 * l.room + 2

-- the lines left do the rest
abbrev pub invariant-read_lines-loop-line : goal.invariant-read_lines-loop-line
invariant-read_lines-loop-line g l =
    let finder = g.F.Finder in
    record {
      whole : is_whole l.draft.ending ≡ true;
      count : l.number + length l.line-iterator ≤ length l.text;
      reads : ByAnswers (finder.content l.initial.finder) (finder.answers l.initial.finder) (finder.answers l.finder)
          (AddsNames l.initial.draft.files l.draft.files)
          (λ files. run files (opened_by files l.room) l.draft (said_from l.name (l.number + 1) l.line-iterator)
          ≡ run files (opened_by files l.room) l.initial.draft (said l.name l.text));
      failures : (finder.failures l.finder).count ≡ (finder.failures l.initial.finder).count;
      content : finder.content l.finder ≡ finder.content l.initial.finder;
    }
