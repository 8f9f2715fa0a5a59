-- From the theorems of tolerance: the map that a call left is that of its box; the lists that a frame left are those of its pass, by
-- `finished-tells`, and merging leaves corners of the list, by `result-all`. Assumes nothing.
use Prim.Native.Nat.{ℕ, zero, suc, ◌-◌, ◌≤◌}
use native.Mathlib.Omega.{arith}
use mathlib.Core.Path.{◌≡◌, refl, sym, ap}
use mathlib.Core.List.{List, map}
use lib.ListN.{length}
use Rattle.lists.specs.Places.{All, flat_map}
use Rattle.lists.proofs.Members.{all_map, all_both, all_of, all-mapped, all-unmapped, all-flat, all-unflat}
use Rattle.std.specs.Prelude.{Ok}
use Rattle.response.proofs.Map.{filled}
use Rattle.response.specs.Patch.{View, cells}
use Rattle.corner_list.specs.declared.Corner.{Corner}
use Rattle.detect.specs.Detect.{start_at}
use Rattle.merge.proofs.Result.{result-all}
use Rattle.frame_params.specs.declared.FrameParams.{FrameParams}
use Rattle.patch_corners.specs.OneMap.{Choice, search_on, localized, moved, corners_in}
use Rattle.patch_corners.proofs.Fine.{Fine}
use Rattle.frame_pass.specs.Pass.{levels_in, level_view, seed_patch, seeds_of, found_of, corners_on, corners_about, frame_pass}
use Rattle.frame_pass.specs.Theorems.{SoundFrame}
use Rattle.frame_pass.proofs.Maps.{fine-level, seed-fine}
use Rattle.frame.specs.Frame.{Buffers}
use Rattle.frame.proofs.Callers.{finished-tells, corners-padded}
use Rattle.tolerance.specs.Tolerance.{CloseCorner}
use Rattle.tolerance.proofs.Tolerance as tolerance
use Rattle.demands.specs.ResponseCall.{view_in}
use Rattle.demands.specs.Neighbours.{IsIn}
use Rattle.demands.specs.Tolerance.{CentreTolerance, CloseIn, found_in, in_frame, CloseFound, FrameTolerance}
use Rattle.demands.proofs.BitForBit.{bit_for_bit}
use Rattle.demands.proofs.FrameExact.{sound}
use Rattle.demands.proofs.Neighbours.{all_in}

pub centre_tolerance : CentreTolerance
centre_tolerance c r x y has_map cx cy mass R f =
    let v = view_in c in
    let q = filled v c.ring c.before c.after (Ok (record { w = c.pw; h = c.ph })) c.promise c.pw c.ph refl in
    tolerance.centre_tolerance v c.bytes r x y has_map cx cy mass R
    (sym (rw (bit_for_bit.chess_response_u8_patch c, q.cols-are, q.rows_are) at f.answer))

-- ---- the corners of a map
module _ (p : FrameParams) (choose : Choice) (R : p.centroid_radius ≤ 2) where
  close-in : (v : View) → Fine p v → All (CloseIn p choose v) (corners_in p choose v)
  unfolding corners_in
  close-in v f =
      let start = start_at (cells v) (search_on p v) in
      let peaks = choose v in
      let close = all-unmapped (λ s. All (CloseCorner p v s) (localized p v s)) start peaks
      (tolerance.close-corners p v f.bytes R choose) in
      all-flat (CloseIn p choose v) (localized p v) (map start peaks)
      (all-mapped (λ s. All (CloseIn p choose v) (localized p v s)) start peaks
      (all_map (λ a. IsIn a peaks × All (CloseCorner p v (start a)) (localized p v (start a)))
      (λ a. All (CloseIn p choose v) (localized p v (start a)))
      (λ a k.
      all_map (CloseCorner p v (start a)) (CloseIn p choose v) (λ c near. record { peak = a; chosen = k.0; close = near })
      (localized p v (start a)) k.1)
      peaks (all_both (λ a. IsIn a peaks) (λ a. All (CloseCorner p v (start a)) (localized p v (start a))) peaks (all_in peaks) close)))

  -- ---- of a sound image
  module _ (img : List ℕ) (w h : ℕ) (s : SoundFrame p img w h) where
    close-seeds : (n : ℕ) → All (CloseIn p choose (level_view p img w h (n - 1))) (seeds_of p img w h choose n)
    unfolding seeds_of
    close-seeds zero = tt
    close-seeds (suc zero) = tt
    close-seeds (suc (suc k)) =
        let last : suc (suc k) - 1 ≡ suc k = omega arith in
        rw last (close-in (level_view p img w h (suc k)) (fine-level p img w h s (suc k)))

    -- the corners of a map that is searched, as they stand in the buffer
    abbrev Searched : ℕ → View → Type 0
    Searched n v = IsIn v (found_in p img w h choose n) × Fine p v

    close-in-frame : (n : ℕ) (v : View) → Searched n v
        → All (λ c. CloseFound p img w h choose n (in_frame p img w h choose n v c)) (corners_in p choose v)
    close-in-frame n v i =
        all_map (CloseIn p choose v) (λ c. CloseFound p img w h choose n (in_frame p img w h choose n v c))
        (λ c near. record { view = v; searched = i.0; own = c; close = near; stands = refl }) (corners_in p choose v) (close-in v i.1)

    on-patch : (k : ℕ) (v : View) → Searched (suc (suc k)) v
        → All (CloseFound p img w h choose (suc (suc k))) (corners_on p img w h choose v)
    on-patch k v i =
        all-mapped (CloseFound p img w h choose (suc (suc k))) (moved v.x0 v.y0) (corners_in p choose v)
        (close-in-frame (suc (suc k)) v i)

    patch-fine : (k : ℕ) (l : List Corner) → All (Fine p) (flat_map (seed_patch p img w h k) l)
    patch-fine k l =
        all-flat (Fine p) (seed_patch p img w h k) l (all_of (λ c. All (Fine p) (seed_patch p img w h k c)) (seed-fine p img w h s k) l)

    close-found : (n : ℕ) → All (λ v. IsIn v (found_in p img w h choose n)) (found_in p img w h choose n)
        → All (CloseFound p img w h choose n) (found_of p img w h choose n)
    unfolding found_in found_of
    close-found zero i = tt
    close-found (suc zero) i = close-in-frame (suc zero) (level_view p img w h 0) (i.0, fine-level p img w h s 0)
    close-found (suc (suc k)) i =
        let n = suc (suc k) in
        let seeds = seeds_of p img w h choose n in
        let patch = seed_patch p img w h (suc k) in
        let searched = all_both (λ v. IsIn v (found_in p img w h choose n)) (Fine p) (flat_map patch seeds) i (patch-fine (suc k) seeds) in
        all-flat (CloseFound p img w h choose n) (corners_about p img w h choose (suc k)) seeds
        (all_map (λ c. All (Searched n) (patch c)) (λ c. All (CloseFound p img w h choose n) (corners_about p img w h choose (suc k) c))
        (λ c j.
        all-flat (CloseFound p img w h choose n) (corners_on p img w h choose) (patch c)
        (all_map (Searched n) (λ v. All (CloseFound p img w h choose n) (corners_on p img w h choose v)) (on-patch k) (patch c) j))
        seeds (all-unflat (Searched n) patch seeds searched))

-- ---- a call left them, the corners merged
pub frame_tolerance : FrameTolerance
unfolding frame_pass
frame_tolerance choose c R =
    let p = c.parameters in
    let n = levels_in p c.img c.w c.h in
    let f = finished-tells _ p c.img c.w c.h c.before (record { corners = c.count; ties = c.ties }) c.after c.promise in
    let seeds = seeds_of p c.img c.w c.h (choose p) n in
    let found = found_in p c.img c.w c.h (choose p) n in
    record {
      seeds = rw (ap (λ (b : Buffers). b.seeds) f.left, corners-padded seeds c.before.seeds (length seeds) refl)
          (close-seeds p (choose p) R c.img c.w c.h (sound c) n);
      corners = rw f.corners
          (result-all (CloseFound p c.img c.w c.h (choose p) n) p.merge_radius (found_of p c.img c.w c.h (choose p) n)
          (close-found p (choose p) R c.img c.w c.h (sound c) n (all_in found)));
    }
