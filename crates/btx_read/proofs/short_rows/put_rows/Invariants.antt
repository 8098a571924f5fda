use Rattle.std.proofs.Common.{◌≡◌, ◌≤◌, ◌+◌, ◌-◌, ◌++◌, drop, length, take}
use Rattle.btx_read.specs.ShortRows.{bytes_of_all, put_into, rows_from}
use Rattle.btx_read.proofs.short_rows.put_rows.Given as goal

-- the rows that are left do the rest, and the bytes of all are those before and those of the rows that are left
abbrev pub invariant-loop-place : goal.invariant-loop-place
invariant-loop-place l = record {
  within : l.place ≤ l.fits;
  len : length l.into ≡ length l.initial.into;
  bytes : l.room + bytes_of_all (drop l.place l.rows) ≡ bytes_of_all l.rows;
  put : take l.place l.into ++ put_into (drop l.place l.into) (rows_from l.room (drop l.place l.rows)) ≡ put_into l.initial.into (rows_from 0 l.rows);
}

abbrev pub decreases-loop-place : goal.decreases-loop-place
decreases-loop-place l = l.fits - l.place
