-- From `finished-tells` of frame, for either call; without ties from `frame_without_ties`. Assumes nothing.
use mathlib.Core.Path.{◌≡◌, sym, ap, ◌∙◌}
use lib.ListN.{length}
use Rattle.lists.specs.Places.{All}
use Rattle.patch_corners.specs.OneMap.{exact_choice}
use Rattle.frame_pass.specs.Pass.{Pass, frame_pass}
use Rattle.frame.proofs.Callers.{finished-tells}
use Rattle.demands.specs.FrameExact.{FrameCall, frame_list, exact_corners, maps_in, Alike}
use Rattle.demands.specs.OnePrice.{ExactCall, exact_pass, ExactFrame, OnOneFrame, OnePrice, SamePrice, NothingTipped}
use Rattle.demands.proofs.FrameExact.{frame_exact, all_alike}
use Rattle.demands.proofs.Ties.{frame_ties}

pub exact_frame : ExactFrame
exact_frame d =
    let f = finished-tells _ d.parameters d.img d.w d.h d.before (record { corners = d.count; ties = d.ties }) d.after d.promise in
    record { corners = f.corners; count = f.count; ties = f.tied }

module _ (c : FrameCall) (d : ExactCall) (one : OnOneFrame c d) where
  -- both calls have one exact pass
  same-pass : exact_pass d ≡ frame_pass c.parameters c.img c.w c.h (exact_choice c.parameters)
  same-pass = rw (one.parameters, one.img, one.w, one.h)

  exactly : frame_list d ≡ exact_corners c
  exactly = (exact_frame d).corners ∙ ap (λ (q : Pass). q.corners) same-pass

  exact-count : d.count ≡ length (exact_corners c)
  exact-count = (exact_frame d).count ∙ ap (λ (q : Pass). length q.corners) same-pass

pub one_price : OnePrice
one_price c d one = record {
  corners = (λ e. e ∙ exactly c d one, λ e. e ∙ sym (exactly c d one));
  count = (λ e. e ∙ exact-count c d one, λ e. e ∙ sym (exact-count c d one));
}

-- ---- alike
same-price : (c : FrameCall) (d : ExactCall) → OnOneFrame c d → All (Alike c.parameters) (maps_in c) → SamePrice c d
same-price c d one alike =
    let e = frame_exact c alike in
    record {
      corners = e.corners ∙ sym (exactly c d one);
      count = e.count ∙ sym (exact-count c d one);
      ties = (frame_ties c).exact alike ∙ sym ((exact_frame d).ties ∙ ap (λ (q : Pass). q.ties) (same-pass c d one));
    }

pub nothing_tipped : NothingTipped
nothing_tipped = record { alike = same-price; untied = λ c d one k whole untied. same-price c d one (all_alike c k whole untied) }
