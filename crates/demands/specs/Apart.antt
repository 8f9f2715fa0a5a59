-- Request 6 (RULES 25): "List and count equal those the original's own merge would leave, refusal and all; in its
-- order, 10 also where the original list doesn't fit" the separate buffer. That the original does not change needs no
-- statement: `merge_apart` borrows it only to read it.
use Rattle.std.specs.Prelude.{ℕ, ◌<◌, ◌≤◌, ◌≡◌, Float, Result, Ok, Err}
use Rattle.lists.specs.declared.refusal.Refusal.{Refusal}
use Rattle.lists.specs.Refusals.{number_of, unless}
use Rattle.corner_list.specs.CornerList.{Slices, places_of, corner_at, corners_of}
use Rattle.merge.specs.Merge.{Merges}
use Rattle.merge.specs.Apart.{MergedApart}

-- two calls on the same corners of a buffer, with the same count and radius, each with its promise word for word
pub record ApartAndInPlace : Type 0 where
  pub radius : Float
  pub count : ℕ
  pub original : Slices
  -- the call of `merge_apart`, with a separate buffer
  pub separate : Slices
  pub answer : Result ℕ Refusal
  pub separate' : Slices
  pub apart : MergedApart radius count original separate answer separate'
  -- the call of `merge_corners_simple`
  pub own_answer : Result ℕ Refusal
  pub original' : Slices
  pub own : Merges radius (places_of original) count original own_answer original'

pub record ApartIsMerge : Type 0 where
  -- if the count fits the separate buffer: the same answer, so the same number, and the same count
  pub same_answer : (t : ApartAndInPlace) → t.count ≤ places_of t.separate → t.answer ≡ t.own_answer
  -- and the same list
  pub same_list : (t : ApartAndInPlace) → t.count ≤ places_of t.separate → (n : ℕ) → t.answer ≡ Ok n
      → corners_of t.separate' n ≡ corners_of t.original' n
  -- if it does not fit: the number of the merge, or 10 if the merge is not refused
  pub crowded : (t : ApartAndInPlace) → places_of t.separate < t.count
      → number_of t.answer ≡ unless (λ k. k) (number_of t.own_answer) 10
  -- refused, with any number, it leaves the separate buffer unchanged
  pub refused : (t : ApartAndInPlace) (e : Refusal) → t.answer ≡ Err e → t.separate' ≡ t.separate
  -- what follows the list stays: it is not a copy that is merged in place
  pub behind : (t : ApartAndInPlace) (n : ℕ) → t.answer ≡ Ok n → (i : ℕ) → n ≤ i
      → corner_at t.separate' i ≡ corner_at t.separate i
