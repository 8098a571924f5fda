-- The store before the first command.
use Rattle.std.specs.Prelude.{pos, [], length, replicate, slice_set, None}
use Rattle.btx_step.specs.language.Jobs.{Job}
use Rattle.btx_step.specs.language.Stores.{Store}

-- the store before the first command: no literal on the stack, no current entry, and no body open yet. Variables begin with 0 and the empty string,
-- but for the first two global integers, `entry.max$` and `global.max$`, which begin with the number of bytes that a string variable of an entry and a
-- global one keep
abbrev pub first_store : Job → Store
first_store job = record {
  literals = [];
  integers = slice_set (slice_set (replicate (length job.style.names.global_integers) (pos 0)) 0 (pos job.entry_max)) 1 (pos job.global_max);
  strings = replicate (length job.style.names.global_strings) [];
  entries = replicate (length job.library.entries) (record {
    integers = replicate (length job.style.names.entry_integers) (pos 0);
    strings = replicate (length job.style.names.entry_strings) [];
  });
  current = None;
  deepest = 0;
}
