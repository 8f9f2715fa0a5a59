-- The answers of merging: refused, the list as it came, and the list merged. Assumes nothing.
use Prim.Native.Nat.{ℕ, ◌≤◌, min}
use native.Mathlib.Omega.{arith}
use mathlib.Core.Path.{◌≡◌, refl, sym, subst}
use mathlib.Core.Bool.{Bool, true, false}
use mathlib.Core.List.{List, [], ◌∷◌}
use lib.ListN.{length}
use lib.Dec.{ltb}
use lib.Ieee.{Float}
use Rattle.lists.specs.Buffer.{wiped_from}
use Rattle.std.specs.Prelude.{Option, Result, Ok, Err}
use Rattle.lists.specs.declared.refusal.Refusal.{Refusal}
use Rattle.lists.specs.Refusals.{lowest, verdict}
use Rattle.lists.proofs.Judged.{Known, lowest-known, number-judged, values-judged, judged-err, refused-stays}
use Rattle.float32.specs.Float32 as float32
use Rattle.corner_list.specs.declared.Corner.{Corner}
use Rattle.corner_list.specs.declared.buffer.CornerView.{CornerView}
use Rattle.corner_list.specs.CornerList.{Slices, slices, places_of, corners_of, front_corners}
use Rattle.corner_list.proofs.Corners.{corners-length, corners-same}
use Rattle.merge_grid.specs.declared.Grid.{Grid}
use Rattle.merge_radius.specs.MergeRadius.{is_off}
use Rattle.merge_refusal.specs.Refusals.{conditions}
use Rattle.merge_refusal.proofs.Judged.{judged-viewed}
use Rattle.merge_grid.specs.Grid.{grid_of, joins}
use Rattle.merge_settle.specs.Settle.{merged, given, Left, Settles}
use Rattle.merge.specs.Merge.{refusal_of, result_of, Leaves, Merges}
use Rattle.merge.specs.Table.{MergesByTable}

-- ---- what is left of a list: all of it, as it came, or what merging leaves
-- the list is of the first n corners of b, and stands first in d
module _ (radius : Float) (b : Slices) (n : ℕ) (d : Slices) (k : ℕ) (d' : Slices) where
  pub left-off : is_off radius ≡ true → Left (corners_of b n) d k d' → Left (result_of radius (corners_of b n)) d k d'
  left-off e l = subst (λ (cs : List Corner). Left cs d k d') same l
    where
      same : corners_of b n ≡ result_of radius (corners_of b n)
      same = unfold result_of in (rw e)

  pub left-on : (g : Grid) → is_off radius ≡ false
      → (viewed : Slices) → viewed ≡ b
      → ((strengths : List Float) (counts : List ℕ) → g ≡ grid_of radius (corners_of (slices viewed.xs viewed.ys strengths counts) n))
      → Left (merged (joins g) [] (corners_of b n)) d k d' → Left (result_of radius (corners_of b n)) d k d'
  left-on g e viewed all is l = subst (λ (cs : List Corner). Left cs d k d') same l
    where
      same : merged (joins g) [] (corners_of b n) ≡ result_of radius (corners_of b n)
      same = unfold result_of in (rw (e, is viewed.strengths viewed.neighbours, all))

-- a list that the buffer has places for is settled whole
pub left-settled : (g : Grid) (list : Option CornerView) (n : ℕ) (b : Slices) (k : ℕ) (b' : Slices) → n ≤ places_of b
    → Settles g list n b k b' → Left (merged (joins g) [] (corners_of (given list b) n)) b k b'
left-settled g list n b k b' h l =
    let all : min n (places_of b) ≡ n = omega arith in
    subst (λ (m : ℕ). Left (merged (joins g) [] (corners_of (given list b) m)) b k b') all l

-- all of it, where it stands, and in another buffer
pub left-all : (b : Slices) (n : ℕ) → n ≤ places_of b → Left (corners_of b n) b n b
left-all b n h = record { count = sym (corners-length b n); buffer = corners-same b n h }

pub left-copied : (b : Slices) (n : ℕ) (d d' : Slices) → d' ≡ front_corners (corners_of b n) d → Left (corners_of b n) d n d'
left-copied b n d d' e = record { count = sym (corners-length b n); buffer = e }

-- ---- the answer

-- the number of a table of merging's conditions is one of them, or 0
pub conditions-known : (radius : Float) (cs : List Corner) (lacks : Bool) → Known (lowest (conditions radius cs lacks))
conditions-known radius cs lacks = lowest-known (conditions radius cs lacks) (refl, (refl, (refl, tt)))

pub known : (radius : Float) (places count : ℕ) (b : Slices) → Known (refusal_of radius places count b)
unfolding refusal_of
known radius places count b = conditions-known radius (corners_of b (min count places)) (ltb places count)

module _ (number : ℕ) (left : List Corner) (b : Slices) where
  pub leaves-refused : Known number → (e : Refusal) → Err e ≡ verdict number → Leaves number left b (Err e) b
  leaves-refused k e p =
      let a = judged-err number tt (length left) e p in
      record {
        answer = a;
        number = number-judged number (length left) a k;
        values = values-judged (λ n. n ∷ []) number (length left) a;
        buffer = sym (refused-stays number tt e (front_corners left b) b p);
      }

  pub leaves_kept : number ≡ 0 → (n : ℕ) (b' : Slices) → Left left b n b' → Leaves number left b (Ok n) b'
  leaves_kept z n b' l = record {
    answer = rw (z, l.count);
    number = sym z;
    values = rw (z, l.count);
    buffer = rw z l.buffer;
  }

-- a buffer of its own places
pub own-places : (b : Slices) → min (length b.xs) (places_of b) ≡ places_of b
own-places b = omega arith

pub merges-whole : (radius : Float) (count : ℕ) (b : Slices) (answer : Result ℕ Refusal) (b' : Slices)
    → Merges radius (min (length b.xs) (places_of b)) count b answer b' → Merges radius (places_of b) count b answer b'
merges-whole radius count b answer b' m = rw own-places at m

-- what refuses such a call, through a view of the buffer
pub judged-own : (radius : Float) (count : ℕ) (b b' : Slices) (r : Result (Unit {0}) Refusal) → b ≡ b'
    → r ≡ verdict (refusal_of radius (min (length b'.xs) (places_of b)) count b) → r ≡ verdict (refusal_of radius (places_of b') count b')
judged-own radius count b b' r e p = rw own-places at (judged-viewed radius (length b'.xs) count b b' r e p)

-- by a table: refused, or merged and the table cleared
module _ (radius : Float) (count : ℕ) (b : Slices) (table : List Float) where
  pub by-table-refused : (e : Refusal) → Err e ≡ verdict (refusal_of radius (places_of b) count b)
      → MergesByTable radius count b table (Err e) b table
  by-table-refused e p = record {
    merges = leaves-refused _ _ _ (known _ _ _ _) e p;
    cleared = sym (refused-stays _ tt e (wiped_from 0 float32.zero table) table p);
  }

  pub by-table-kept : refusal_of radius (places_of b) count b ≡ 0 → (n : ℕ) (b' : Slices)
      → Left (result_of radius (corners_of b count)) b n b' → (table' : List Float) → table' ≡ wiped_from 0 float32.zero table
      → MergesByTable radius count b table (Ok n) b' table'
  by-table-kept z n b' l table' c = record { merges = leaves_kept _ _ _ z n b' l; cleared = rw z c }
