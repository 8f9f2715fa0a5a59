-- What a call of peak finding that added corners left: the names of the computed peaks, and so those of any others exactly when they are
-- the same. Assumes nothing.
use Prim.Native.Nat.{ℕ, ◌<◌}
use native.Mathlib.Omega.{arith}
use mathlib.Core.Path.{◌≡◌, refl, sym, ap, ◌∙◌}
use mathlib.Core.Logic.{◌↔◌}
use mathlib.Core.List.{List, map, map-map}
use lib.ListN.{length}
use lib.Ieee.{Float}
use Rattle.lists.specs.Places.{All}
use Rattle.lists.proofs.Members.{all_map}
use Rattle.corner_list.proofs.Placed.{corners-placed}
use Rattle.detect.specs.Peaks.{CellTests}
use Rattle.detect.specs.Detect.{read_in, peaks_in, peaks_by, start_at, starts_in, ties_in, conditions}
use Rattle.detect.proofs.Choice.{peaks-in-map}
use Rattle.detect.proofs.Answers.{Clear, Fitted, clear, sound, unrefused, added-tells}
use Rattle.demands.specs.PeakCall.{PeakCall, search_in}
use Rattle.demands.specs.PeaksAlike.{program_list, position, name_of}
use Rattle.demands.proofs.Names.{PlaceInRange, names-only}

module _ (m : List Float) (w h : ℕ) (p : PeakCall m w h) where
  pub no-fault : Clear (conditions (length m) w h p.ring p.window p.radius)
  no-fault = clear (length m) w h p.ring p.window p.radius (unrefused _ _ _ _ _ _ _ p.promise)

  fitted : Fitted (starts_in m (search_in p)) (ties_in m (search_in p)) p.held p.before p.added p.ties p.after
  fitted = added-tells _ no-fault _ _ _ _ _ _ p.promise (record { count = p.added; ties = p.ties }) refl

  pub ties_are : p.ties ≡ ties_in m (search_in p)
  ties_are = fitted.tied

  pub added-are : program_list p ≡ starts_in m (search_in p)
  added-are =
      rw fitted.buffer (corners-placed p.held (starts_in m (search_in p)) p.before (omega (arith, fitted.fits)) p.added
      fitted.count)

  names-are : map position (program_list p) ≡ map name_of (peaks_in m (search_in p))
  names-are = ap (map position) added-are ∙ map-map position (start_at m (search_in p)) (peaks_in m (search_in p))

  peaks-small : (v : CellTests) → All PlaceInRange (peaks_by v (search_in p))
  peaks-small v =
      let k = sound (length m) w h p.ring p.window p.radius no-fault in
      all_map (λ q. (q.x < w) × (q.y < h)) PlaceInRange (λ q i. (omega (arith, i.0, k.wide), omega (arith, i.1, k.high)))
      (peaks_by v (search_in p))
      (peaks-in-map v w h (search_in p).border p.window p.least_neighbours)

  pub named : (v : CellTests) → (map position (program_list p) ≡ map name_of (peaks_by v (search_in p)))
      ↔ (peaks_in m (search_in p) ≡ peaks_by v (search_in p))
  named v = (
    λ e. names-only _ _ (peaks-small (read_in m (search_in p))) (peaks-small v) (sym names-are ∙ e),
    λ e. names-are ∙ ap (map name_of) e,
  )
