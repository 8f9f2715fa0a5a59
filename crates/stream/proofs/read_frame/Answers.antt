-- `stream::read_frame` meets its contract: the stream is judged whole, and its sides fit the buffer. Assumes nothing.
use Prim.Native.Nat.{◌*◌}
use native.Mathlib.Omega.{arith}
use mathlib.Core.Path.{◌≡◌, refl}
use Rattle.lists.proofs.Judged.{passed-on, refused-above}
use Rattle.stream.specs.Internal.{header_at, Whole}
use Rattle.stream.proofs.Answer.{pixels_are, pixels-fit, refused-read, frame-read}
use Rattle.stream.proofs.read_frame.Goals as goal
use Rattle.stream.proofs.read_frame.Goals.{After-header_of-header, In_ok-stream_fault}

pub returns-in_err-stream_fault : goal.returns-in_err-stream_fault
returns-in_err-stream_fault c =
    rw (passed-on _ c.from_residual.ensures.1)
    (refused-read c.args.input.now c.args.pixels.now _ c.in_err-stream_fault.ensures _ refl (refused-above _))

whole : (c : In_ok-stream_fault) → Whole c.args.input.now
whole c = c.in_ok-stream_fault.ensures.whole refl

header_is : (c : After-header_of-header)
    → c.header_of-header.result ≡ header_at c.args.input.now
unfolding header_at
header_is c = c.header_of-header.ensures

pub slice_bounds-sides-end : goal.slice_bounds-sides-end
slice_bounds-sides-end c = omega (arith, (whole (goal.at.slice_bounds-sides-end c).In_ok-stream_fault).long)

pub slice_bounds-parameters-end : goal.slice_bounds-parameters-end
slice_bounds-parameters-end c = omega (arith, (whole (goal.at.slice_bounds-parameters-end c).In_ok-stream_fault).long)

pub overflow_mul-header : goal.overflow_mul-header
overflow_mul-header c =
    omega (
      arith,
      pixels_are c.args.input.now c.header_of-header.result (header_is (goal.at.overflow_mul-header c).After-header_of-header),
      pixels-fit c.args.input.now (whole (goal.at.overflow_mul-header c).In_ok-stream_fault).small,
    )

pub store_pixels-requires : goal.store_pixels-requires
store_pixels-requires c =
    let n = pixels_are c.args.input.now c.header_of-header.result (header_is (goal.at.store_pixels-requires c).After-header_of-header) in
    let ok = whole (goal.at.store_pixels-requires c).In_ok-stream_fault in
    (rw n ok.long, omega (arith, n, pixels-fit c.args.input.now ok.small, c.store_pixels-arg-1.given.0.1))

pub returns : goal.returns
returns c =
    frame-read c.args.input.now c.args.pixels.now _ c.in_ok-stream_fault.ensures
    refl c.header_of-header.result
    (c.header_of-header.result.width * c.header_of-header.result.height) c.store_pixels.new.pixels
    (header_is (goal.at.returns c).After-header_of-header)
    (pixels_are c.args.input.now c.header_of-header.result (header_is (goal.at.returns c).After-header_of-header)) c.store_pixels.ensures
