-- Merging apart (RULES 25): the list that merging a buffer would leave, written to a separate buffer. The buffer that
-- it comes from is only read.
use Rattle.std.specs.Prelude.{ℕ, min, ◌||◌, ltb, Float, Result}
use Rattle.lists.specs.declared.refusal.Refusal.{Refusal}
use Rattle.lists.specs.Refusals.{lowest, unless}
use Rattle.corner_list.specs.CornerList.{Slices, places_of, corners_of}
use Rattle.merge.specs.Merge.{result_of, Leaves}
use Rattle.merge_refusal.specs.Refusals.{conditions}

-- the number (RULES 2.2), 0 for none, for merging the first `count` corners of a buffer b into a separate buffer with a
-- given number of places: 4 is checked for all counted corners that b has, however short the separate buffer; 10 is
-- given if either has fewer places than the stated count, however many corners would be left
unfoldable pub refusal_apart : Float → ℕ → ℕ → Slices → ℕ
refusal_apart radius places count b =
    lowest (conditions radius (corners_of b (min count (places_of b))) (ltb (places_of b) count || ltb places count))

-- a number, and another if it is 0: the place of 10 in that table is after the refusals of merging in place
abbrev pub or_else : ℕ → ℕ → ℕ
or_else k m = unless (λ (i : ℕ). i) k m

-- What merging the first `count` corners of a buffer b apart promises about the answer, its number and values, and
-- about the separate buffer d after: the list that is left of b's corners at the start, the rest unchanged; if refused,
-- all of it unchanged. About b it has nothing to promise: its type (`&`) says that it is not written to.
abbrev pub MergedApart : Float → ℕ → Slices → Slices → Result ℕ Refusal → Slices → Type 0
MergedApart radius count b d r d' =
    Leaves (refusal_apart radius (places_of d) count b) (result_of radius (corners_of b count)) d r d'
