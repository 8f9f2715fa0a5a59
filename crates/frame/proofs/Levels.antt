-- The search of the levels: the last one as a box, and the two lists from what was added. Assumes nothing.
use Prim.Native.Nat.{ℕ, zero, suc, ◌-◌, ◌*◌, ◌<◌, ◌≤◌}
use native.Mathlib.Nat.{mul-le-mul, div-one}
use native.Mathlib.Omega.{arith}
use mathlib.Core.Path.{◌≡◌, refl, sym, ap, subst, ◌∙◌}
use mathlib.Core.Bool.{Bool}
use mathlib.Core.List.{List, [], map}
use lib.ListN.{length}
use lib.Dec.{ltb}
use borrow.Author.Tests.{lt-ltb}
use Rattle.std.specs.Prelude.{Result, Ok, Err}
use Rattle.lists.specs.declared.refusal.Refusal.{Refusal}
use Rattle.lists.specs.Limits.{largest_map}
use Rattle.lists.specs.Places.{flat_map, sum_of}
use Rattle.lists.proofs.Buffer.{placed_first}
use Rattle.lists.proofs.Tests.{or_right}
use Rattle.pyramid.specs.Level.{level_in}
use Rattle.pyramid_levels.specs.Levels.{level_side}
use Rattle.pyramid.specs.Pyramid.{level_pixels}
use Rattle.pyramid_levels.proofs.Sides.{side-le}
use Rattle.pyramid.proofs.Levels.{level-found, levels-few}
use Rattle.corner_list.specs.declared.Corner.{Corner}
use Rattle.corner_list.specs.CornerList.{Slices, x_of, y_of, strength_of, neighbours_of, places_of, corners_of, front_corners}
use Rattle.corner_list.specs.CornerList.{placed_corners}
use Rattle.corner_list.proofs.Corners.{slices-alike, corners-front}
use Rattle.detect.specs.declared.Peaks.{Peaks}
use Rattle.frame_params.specs.declared.FrameParams.{FrameParams}
use Rattle.patch_corners.specs.OneMap.{Choice, choice_of, corners_in, ties_on}
use Rattle.frame_pass.specs.Pass.{corners_about, ties_about, level_view, seeds_of, found_of, ties_found}
use Rattle.frame_pass.proofs.Maps.{sound-level}
use Rattle.frame_pass.proofs.Ties.{level-few}
use Rattle.frame.specs.declared.search.Lists.{Lists}
use Rattle.frame.specs.Internal.{FrameChecked, BuiltLevels, AddsCorners, SeedsAdded, found_by, ties_by}
use Rattle.frame.specs.Internal.{Searched}
use Rattle.frame.proofs.Adding.{adds-to, adds_none, same-lengths}
use Rattle.frame.proofs.Patches.{box_in}

-- corners added from a buffer's first place on stand first in it
first-corners : (cs : List Corner) (b : Slices) → placed_corners 0 cs b ≡ front_corners cs b
first-corners cs b =
    slices-alike (placed_first (map x_of cs) b.xs) (placed_first (map y_of cs) b.ys) (placed_first (map strength_of cs) b.strengths)
    (placed_first (map neighbours_of cs) b.neighbours)

-- a map buffer of another length, at least as long
pub ready-kept : (p : FrameParams) (img : List ℕ) (w h places places' : ℕ) → FrameChecked p img w h places → places' ≡ places
    → FrameChecked p img w h places'
ready-kept p img w h places places' r e = rw e r

-- ---- the last of n levels, which is level k
last-is : (p : FrameParams) (img : List ℕ) (w h : ℕ) (choose : Choice) (n : ℕ) → 2 ≤ n → (k : ℕ) → k ≡ n - 1
    → corners_in p choose (level_view p img w h k) ≡ seeds_of p img w h choose n
unfolding seeds_of
last-is p img w h choose zero z k e = absurd (let no : ⊥ = omega arith in no)
last-is p img w h choose (suc zero) z k e = absurd (let no : ⊥ = omega arith in no)
last-is p img w h choose (suc (suc j)) z k e = let same : k ≡ suc j = omega arith in rw same

module _ (p : FrameParams) (img : List ℕ) (w h n : ℕ) (levels : List ℕ) (built : BuiltLevels p img w h n levels) where
  pub levels-most : n ≤ 13
  levels-most = levels-few img w h p.levels p.minimum_side built.before levels n built.complete

  module _ (some : 2 ≤ n) (k : ℕ) (is : k ≡ n - 1) (places : ℕ) (ready : FrameChecked p img w h places) (last : List ℕ)
      (l : last ≡ level_in img levels w h p.levels p.minimum_side k)
      (lw lh : ℕ) (wide : lw ≡ level_side w k) (high : lh ≡ level_side h k) where
    pixels : last ≡ level_pixels img w h k
    pixels = l ∙ level-found img w h p.levels p.minimum_side built.before levels n built.complete k (omega (arith, some, is))

    -- it is searched like the image
    pub last-ready : FrameChecked p last lw lh places
    last-ready =
        let area : level_side w k * level_side h k ≤ w * h = mul-le-mul (side-le w k) (side-le h k) in
        rw (pixels, wide, high) (record { sound = sound-level p img w h ready.sound k; enough = omega (arith, area, ready.enough) })

    -- and its corners, as of one box, are the seeds
    pub last-seeds : (choose : Choice) (b : Slices) (answer : Result Peaks Refusal) (b' : Slices)
        → AddsCorners (corners_in p choose (box_in p last lw lh 0 0 lw lh)) (ties_on p choose (box_in p last lw lh 0 0 lw lh)) 0 b answer b'
        → SeedsAdded p img w h choose n b answer b'
    last-seeds choose b answer b' a =
        let ties = ties_on p choose (box_in p last lw lh 0 0 lw lh) in
        record {
          ties = ties;
          adds = adds-to _ ties 0 b _ ties answer b' (rw (pixels, wide, high) (last-is p img w h choose n some k is)) refl a;
        }

-- fewer levels have none
pub no-seeds : (p : FrameParams) (img : List ℕ) (w h : ℕ) (choose : Choice) (n : ℕ) → n < 2 → (b : Slices)
    → SeedsAdded p img w h choose n b (Ok (record { count = 0; ties = 0 })) b
unfolding seeds_of
no-seeds p img w h choose n l b = record { ties = 0; adds = adds_none (seeds_of p img w h choose n) 0 0 b (of n l) refl (omega arith) }
  where
    of : (n : ℕ) → n < 2 → seeds_of p img w h choose n ≡ []
    of zero z = refl
    of (suc zero) z = refl
    of (suc (suc j)) z = absurd (let no : ⊥ = omega arith in no)

-- so few seeds were added as one level of a sound image has
pub seeds-few : (p : FrameParams) (exact : Bool) (img : List ℕ) (w h places : ℕ) → FrameChecked p img w h places
    → (n : ℕ) (b : Slices) (answer : Result Peaks Refusal) (b' : Slices) → SeedsAdded p img w h (choice_of p exact) n b answer b'
    → (q : Peaks) → answer ≡ Ok q → q.count ≤ largest_map
unfolding seeds_of
seeds-few p exact img w h places ready n b answer b' a q z = omega (arith, (a.adds.added q z).0, few n)
  where
    few : (n : ℕ) → length (seeds_of p img w h (choice_of p exact) n) ≤ largest_map
    few zero = omega arith
    few (suc zero) = omega arith
    few (suc (suc k)) = level-few p exact img w h ready.sound (suc k)

-- ---- what is found, by the number of levels
module _ (choose : Choice) (p : FrameParams) (img : List ℕ) (w h : ℕ) where
  -- one level: the corners of its map
  pub found-whole : (n : ℕ) → n ≡ 1 → (seeds : List Corner) (c : Slices) (answer : Result Peaks Refusal) (c' : Slices)
      → AddsCorners (corners_in p choose (box_in p img w h 0 0 w h)) (ties_on p choose (box_in p img w h 0 0 w h)) 0 c answer c'
      → AddsCorners (found_by p img w h choose n seeds) (ties_by p img w h choose n seeds) 0 c answer c'
  found-whole n e seeds c answer c' a = rw e (adds-to _ _ 0 c _ _ answer c' base tied a)
    where
      tied : ties_on p choose (box_in p img w h 0 0 w h) ≡ ties_on p choose (level_view p img w h 0)
      tied = unfold level_pixels in (rw (div-one w, div-one h))

      base : corners_in p choose (box_in p img w h 0 0 w h) ≡ corners_in p choose (level_view p img w h 0)
      base = unfold level_pixels in (rw (div-one w, div-one h))

  -- any other number: those of the boxes of the seeds, which are of level k
  pub found-boxes : (n : ℕ) → (n ≡ 1 → ⊥) → (k : ℕ) → k ≡ n - 1
      → (seeds : List Corner) (c : Slices) (answer : Result Peaks Refusal) (c' : Slices)
      → AddsCorners (flat_map (corners_about p img w h choose k) seeds) (sum_of (ties_about p img w h choose k) seeds) 0 c answer c'
      → AddsCorners (found_by p img w h choose n seeds) (ties_by p img w h choose n seeds) 0 c answer c'
  found-boxes zero z k e seeds c answer c' a = let same : k ≡ 0 = omega arith in rw same at a
  found-boxes (suc zero) z k e seeds c answer c' a = absurd (z refl)
  found-boxes (suc (suc j)) z k e seeds c answer c' a = let same : k ≡ suc j = omega arith in rw same at a

  -- with the seeds of the pass they are what it finds
  found-is : (n : ℕ) → found_by p img w h choose n (seeds_of p img w h choose n) ≡ found_of p img w h choose n
  unfolding seeds_of found_of
  found-is zero = refl
  found-is (suc zero) = refl
  found-is (suc (suc k)) = refl

  ties_are : (n : ℕ) → ties_by p img w h choose n (seeds_of p img w h choose n) ≡ ties_found p img w h choose n
  unfolding seeds_of ties_found
  ties_are zero = refl
  ties_are (suc zero) = refl
  ties_are (suc (suc k)) = refl

-- ---- the two lists, from the answers of adding the seeds and what was found with those that stand in their buffer
module _ (choose : Choice) (p : FrameParams) (img : List ℕ) (w h n : ℕ) (s s' : Slices) (answer : Result Peaks Refusal)
    (a : SeedsAdded p img w h choose n s answer s') where
  abbrev seeds : List Corner
  seeds = seeds_of p img w h choose n

  abbrev found : List Corner
  found = found_of p img w h choose n

  abbrev ties : ℕ
  ties = ties_found p img w h choose n

  -- the seeds do not fit
  pub seeds-short : (e : Refusal) → answer ≡ Err e → (c : Slices) → Searched seeds found ties s c (Err e) s' c
  seeds-short e z c =
      let t = a.adds.refused e z in record {
        both = λ l q. absurd (let no : ⊥ = grind arith in no);
        short = λ r q. let same : e ≡ r = grind arith in (sym same ∙ t.0, rw (lt-ltb (places_of s) (length seeds) (omega (arith, t.1))));
        seeds_lengths = a.adds.lengths;
        corners_lengths = same-lengths c;
      }

  -- they do, and are read to find the corners
  module _ (q : Peaks) (z : answer ≡ Ok q) (c c' : Slices) (answer' : Result Peaks Refusal)
      (b : AddsCorners (found_by p img w h choose n (corners_of s' q.count)) (ties_by p img w h choose n (corners_of s' q.count)) 0 c
      answer' c') where
    first : s' ≡ front_corners seeds s
    first = (a.adds.added q z).2 ∙ first-corners seeds s

    read : corners_of s' q.count ≡ seeds
    read = ap (λ (t : Slices). corners_of t q.count) first ∙ corners-front seeds s q.count (a.adds.added q z).0

    adds : AddsCorners found ties 0 c answer' c'
    adds =
        adds-to _ _ 0 c _ _ answer' c' (ap (found_by p img w h choose n) read ∙ found-is choose p img w h n)
        (ap (ties_by p img w h choose n) read ∙ ties_are choose p img w h n) b

    pub corners-short : (e : Refusal) → answer' ≡ Err e → Searched seeds found ties s c (Err e) s' c'
    corners-short e y =
        let t = adds.refused e y in record {
          both = λ l x. absurd (let no : ⊥ = grind arith in no);
          short = λ r x. let same : e ≡ r = grind arith in (
            sym same ∙ t.0,
            rw (lt-ltb (places_of c) (length found) (omega (arith, t.1))) (or_right (ltb (places_of s) (length seeds))),
          );
          seeds_lengths = a.adds.lengths;
          corners_lengths = adds.lengths;
        }

    pub both-listed : (r : Peaks) → answer' ≡ Ok r
        → Searched seeds found ties s c (Ok (record { seeds = q.count; corners = r.count; ties = r.ties })) s' c'
    both-listed r y =
        let t = a.adds.added q z in
        let u = adds.added r y in
        let due : Lists = record { seeds = q.count; corners = r.count; ties = r.ties } in
        let done : (due.seeds ≡ length seeds) × (due.seeds ≤ places_of s) × (s' ≡ front_corners seeds s) × (due.corners ≡ length found)
        × (due.corners ≤ places_of c) × (c' ≡ front_corners found c) × (due.ties ≡ ties) =
        (t.0, omega (arith, t.1), first, u.0, omega (arith, u.1), u.2 ∙ first-corners found c, u.3) in
        record {
          both = λ l x. let same : due ≡ l = grind arith in
              subst (λ (l : Lists). (l.seeds ≡ length seeds) × (l.seeds ≤ places_of s) × (s' ≡ front_corners seeds s)
              × (l.corners ≡ length found)
              × (l.corners ≤ places_of c) × (c' ≡ front_corners found c) × (l.ties ≡ ties)) same done;
          short = λ e x. absurd (let no : ⊥ = grind arith in no);
          seeds_lengths = a.adds.lengths;
          corners_lengths = adds.lengths;
        }
