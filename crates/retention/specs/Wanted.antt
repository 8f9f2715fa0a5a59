-- How many bytes of a stream must still arrive before the output can be decided: fewer do not decide it, and 0 means
-- that it is decided.
use Rattle.std.specs.Prelude.{ℕ, zero, suc, ◌+◌, ◌-◌, ◌≡◌, cond, List, length, eqb, leb}
use Rattle.retention.specs.declared.reading.Standing.{Standing}
use Rattle.retention.specs.Retention.{known}
use Rattle.retention.specs.Stream.{most_records, time_fault, kind_at, record_fault, place_of}

-- ---- an item: item 0 is the time, and item k + 1 is record k
abbrev pub item_fault : List ℕ → ℕ → ℕ
item_fault s zero = time_fault s
item_fault s (suc k) = record_fault s (place_of k)

-- of a record that is faulty or cut short: its kind and, if the kind is known, the rest of its body
unfoldable pub wanted_record : List ℕ → ℕ → ℕ
wanted_record s at = cond (leb (length s) at) 1 (cond (known (kind_at s at)) (at + 9 - length s) 0)

-- of the time: the rest of it
abbrev pub wanted_item : List ℕ → ℕ → ℕ
wanted_item s zero = 8 - length s
wanted_item s (suc k) = wanted_record s (place_of k)

-- ---- from item k on, looking at no more than n items

-- the first item that is faulty or cut short
unfoldable pub passed_from : List ℕ → ℕ → ℕ → ℕ
passed_from s zero k = k
passed_from s (suc n) k = cond (eqb (item_fault s k) 0) (passed_from s n (suc k)) k

-- the bytes of it that are needed
unfoldable pub wanted_from : List ℕ → ℕ → ℕ → ℕ
wanted_from s zero k = 0
wanted_from s (suc n) k = cond (eqb (item_fault s k) 0) (wanted_from s n (suc k)) (wanted_item s k)

-- ---- for a stream: the time and its records
abbrev pub items : ℕ
items = most_records + 1

abbrev pub wanted : List ℕ → ℕ
wanted s = wanted_from s items 0

-- the promise of `wanted`, which looks at the items from item k on
pub record Stands (s : List ℕ) (k : ℕ) (r : Standing) : Type 0 where
  pub passed : r.passed ≡ passed_from s (items - k) k
  pub bytes : r.bytes ≡ wanted_from s (items - k) k
