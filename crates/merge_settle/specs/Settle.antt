-- Corners settled one after the other (RULES 8.4; merge.rs): each joins the first kept corner that passes a test, and
-- replaces it if it is strictly stronger; if there is none, it is kept.
use Rattle.std.specs.Prelude.{ℕ, ◌+◌, min, ◌≡◌, Bool, cond, eqb, List, [], ◌∷◌, length, Option, None, Some}
use Rattle.std.specs.Float.Ieee.{lt}
use Rattle.corner_list.specs.declared.Corner.{Corner}
use Rattle.corner_list.specs.declared.buffer.CornerView.{CornerView}
use Rattle.corner_list.specs.CornerList.{Slices, places_of, corner_at, corners_of, with_corner, front_corners}
use Rattle.corner_list.specs.Buffer.{seen}
use Rattle.merge_grid.specs.declared.Grid.{Grid}
use Rattle.merge_grid.specs.Grid.{joins}

-- c if it is strictly stronger than o, else o; each keeps its own neighbours
abbrev pub stronger : Corner → Corner → Corner
stronger c o = cond (lt o.strength c.strength) c o

-- the kept corners with c: it replaces the first that it joins, in its place, or is dropped; if it joins none, it comes
-- last
abbrev pub settle : (Corner → Corner → Bool) → List Corner → Corner → List Corner
settle j [] c = c ∷ []
settle j (o ∷ kept) c = cond (j c o) (stronger c o ∷ kept) (o ∷ settle j kept c)

-- the kept corners with each of a list, in its order
abbrev pub merged : (Corner → Corner → Bool) → List Corner → List Corner → List Corner
merged j kept [] = kept
merged j kept (c ∷ cs) = merged j (settle j kept c) cs

-- ---- one corner settled in a buffer, whichever corners join

-- how many corners are kept when one is put at a place, or at none: one more than the k before if that is the next
-- place
abbrev pub count_with : ℕ → Option ℕ → ℕ
count_with k None = k
count_with k (Some r) = cond (eqb r k) (k + 1) k

-- the place that c takes among the first k corners of a buffer, of which `joined` is the first that it joins
abbrev pub place_of : Slices → ℕ → Corner → Option ℕ → Option ℕ
place_of b k c None = Some k
place_of b k c (Some i) = cond (lt (corner_at b i).strength c.strength) (Some i) None

-- a corner put at a place of a buffer, or at none
abbrev pub put_at : Option ℕ → Corner → Slices → Slices
put_at None c b = b
put_at (Some r) c b = with_corner r c b

-- ---- the promise

-- the buffer where the list to merge is: one of its own, or the one that has the kept corners
abbrev pub given : Option CornerView → Slices → Slices
given None b = b
given (Some own) b = seen own

-- n corners are now at the start of a buffer: what is left of a list
pub record Left (left : List Corner) (b : Slices) (n : ℕ) (b' : Slices) : Type 0 where
  pub count : n ≡ length left
  pub buffer : b' ≡ front_corners left b

-- What settling the first n corners of a list by the grid g promises, for as many of them as the buffer b has places:
-- how many are kept, k, and the buffer after: these at the start, the rest unchanged. The list is in a buffer of its
-- own, or else in b
abbrev pub Settles : Grid → Option CornerView → ℕ → Slices → ℕ → Slices → Type 0
Settles g list n b k b' = Left (merged (joins g) [] (corners_of (given list b) (min n (places_of b)))) b k b'
