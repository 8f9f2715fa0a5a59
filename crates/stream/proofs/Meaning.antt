-- What it means that so many bytes are wanted, for a way to read bytes. Assumes nothing.
use Prim.Native.Nat.{ℕ, ◌+◌, ◌<◌, ◌≤◌}
use mathlib.Core.Path.{◌≡◌}
use mathlib.Core.List.{List, ◌++◌}
use lib.ListN.{length}
use Rattle.lists.specs.Places.{All}
use Rattle.stream.specs.Stream.{Reading, refused}

-- whatever follows, the same is read
abbrev pub Decided : (List ℕ → Reading) → List ℕ → Type 0
Decided read s = (t : List ℕ) → read (s ++ t) ≡ read s

-- the bytes are refused as cut short, and some that may follow make another refusal of it
pub record Open (read : List ℕ → Reading) (s : List ℕ) : Type 0 where
  pub cut : read s ≡ refused 7
  pub more : List ℕ
  pub bytes : All (λ v. v < 256) more
  pub number : ℕ
  pub other : number < 7
  pub refusal : read (s ++ more) ≡ refused number

-- n bytes are wanted: with none it is decided, with fewer it is open, and there are at most `most` in all
pub record Wanted (read : List ℕ → Reading) (most : ℕ) (s : List ℕ) (n : ℕ) : Type 0 where
  pub decided : n ≡ 0 → Decided read s
  pub fewer : (t : List ℕ) → length t < n → Open read (s ++ t)
  pub total : 0 < n → length s + n ≤ most
