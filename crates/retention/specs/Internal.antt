-- The contracts of private functions: no public promise depends on them.
use Rattle.std.specs.Prelude.{ℕ, ◌+◌, ◌-◌, ◌*◌}
use Rattle.retention.specs.Stream.{most_records}

-- the longest text: a letter for each record but the last, with a newline, and "refused 20" with its newline
abbrev pub longest : ℕ
longest = 2 * (most_records - 1) + 11
