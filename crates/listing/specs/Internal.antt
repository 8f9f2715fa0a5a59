-- The contracts of private functions: no public promise depends on them.
use Rattle.std.specs.Prelude.{ℕ, ◌+◌, ◌*◌, ◌≤◌, ◌≡◌, List, [], ◌∷◌, ◌++◌, length}
use Rattle.lists.specs.Buffer.{placed}
use Rattle.listing.specs.Answer.{most_corners}

-- the longest text of so many corners: "corners 512" and a newline, and lines of two numbers of 20 digits, three of 8,
-- one of 10, and six bytes between and after them
abbrev pub longest : ℕ
longest = 12 + most_corners * 80

-- `bytes` are at `at` of the buffer, which is `after` and was `before`; `end` is the place after them
pub record Wrote (bytes : List ℕ) (at : ℕ) (before : List ℕ) (end : ℕ) (after : List ℕ) : Type 0 where
  pub fits : at + length bytes ≤ length before
  pub ends : end ≡ at + length bytes
  pub holds : after ≡ placed at bytes before

-- a column and the byte after it
abbrev pub ended : List ℕ → ℕ → List ℕ
ended column end = column ++ (end ∷ [])
