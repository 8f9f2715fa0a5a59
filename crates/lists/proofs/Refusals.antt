-- Laws of numbered conditions, and what an image or a map is that the first two do not refuse. Assumes nothing.
use Prim.Native.Nat.{ℕ, ◌*◌, ◌<◌, ◌≤◌}
use native.Mathlib.Omega.{arith}
use mathlib.Core.Path.{◌≡◌, refl}
use mathlib.Core.Bool.{Bool, true, false}
use mathlib.Core.List.{List, [], ◌∷◌, ◌++◌}
use lib.Dec.{ltb, eqb}
use borrow.Author.Tests.{ltb-false, eqb-true, not-false}
use Rattle.lists.specs.Limits.{largest_side}
use Rattle.lists.specs.Places.{All}
use Rattle.lists.specs.Refusals.{lowest, is_large, is_misfit}
use Rattle.lists.specs.Internal.{Sized}
use Rattle.lists.proofs.Tests.{or-neither}

-- no number: the first condition does not hold, and none behind it
pub lowest-none : (b : Bool) (n : ℕ) (cs : List (Bool × ℕ)) → 0 < n → lowest ((b, n) ∷ cs) ≡ 0 → (b ≡ false) × (lowest cs ≡ 0)
lowest-none true n cs p e = absurd (let no : ⊥ = omega arith in no)
lowest-none false n cs p e = (refl, e)

-- no number: no condition of the table holds
pub all-clear : (cs : List (Bool × ℕ)) → All (λ c. 0 < c.1) cs → lowest cs ≡ 0 → All (λ c. c.0 ≡ false) cs
all-clear [] p e = tt
all-clear (c ∷ cs) p e = let r = lowest-none c.0 c.1 cs p.0 e in (r.0, all-clear cs p.1 r.1)

-- a number: conditions behind those that give it do not count
pub lowest-some : (cs ds : List (Bool × ℕ)) → (lowest cs ≡ 0 → ⊥) → lowest (cs ++ ds) ≡ lowest cs
lowest-some [] ds h = absurd (h refl)
lowest-some ((true, n) ∷ cs) ds h = refl
lowest-some ((false, n) ∷ cs) ds h = lowest-some cs ds h

-- no number of a table: none of its first part
pub lowest-before : (cs ds : List (Bool × ℕ)) → lowest (cs ++ ds) ≡ 0 → lowest cs ≡ 0
lowest-before [] ds e = refl
lowest-before ((true, n) ∷ cs) ds e = e
lowest-before ((false, n) ∷ cs) ds e = lowest-before cs ds e

-- no number: those behind decide
pub lowest-past : (cs ds : List (Bool × ℕ)) → All (λ c. 0 < c.1) cs → lowest cs ≡ 0 → lowest (cs ++ ds) ≡ lowest ds
lowest-past [] ds p e = refl
lowest-past ((true, n) ∷ cs) ds p e = absurd (let no : ⊥ = omega (arith, p.0) in no)
lowest-past ((false, n) ∷ cs) ds p e = lowest-past cs ds p.1 e

-- no number is above those of the table
pub lowest-le : (cs : List (Bool × ℕ)) (m : ℕ) → All (λ c. c.1 ≤ m) cs → lowest cs ≤ m
lowest-le [] m h = omega arith
lowest-le ((true, n) ∷ cs) m h = h.0
lowest-le ((false, n) ∷ cs) m h = lowest-le cs m h.1

-- ---- the first two conditions do not hold: sides up to the largest, and a slice of width × height
pub sides-small : (w h : ℕ) → is_large w h ≡ false → (w ≤ largest_side) × (h ≤ largest_side)
sides-small w h e =
    let o = or-neither (ltb largest_side w) (ltb largest_side h) e in
    (ltb-false largest_side w o.0, ltb-false largest_side h o.1)

pub sized_of : (size w h : ℕ) → is_large w h ≡ false → is_misfit size w h ≡ false → Sized size w h
sized_of size w h p q =
    let s = sides-small w h p in
    record { narrow = s.0; low = s.1; sized = eqb-true size (w * h) (not-false (eqb size (w * h)) q) }

-- a table that begins with them, and gives no number
pub sized-none : (size w h : ℕ) (cs : List (Bool × ℕ)) → lowest ((is_large w h, 1) ∷ (is_misfit size w h, 2) ∷ cs) ≡ 0
    → Sized size w h × (lowest cs ≡ 0)
sized-none size w h cs e =
    let p = lowest-none (is_large w h) 1 ((is_misfit size w h, 2) ∷ cs) (omega arith) e in
    let q = lowest-none (is_misfit size w h) 2 cs (omega arith) p.1 in
    (sized_of size w h p.0 q.0, q.1)
