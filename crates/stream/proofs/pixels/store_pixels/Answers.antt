-- `stream::pixels::store_pixels` meets its contract. The invariant: the pixels passed stand first, and the buffer behind them is as it was.
-- Assumes nothing.
use Prim.Native.Nat.{ℕ, ◌+◌, ◌/◌, ◌<◌, ◌≤◌}
use native.Mathlib.Omega.{arith}
use mathlib.Core.Path.{◌≡◌, refl, ap, ◌∙◌}
use mathlib.Core.List.{List, ◌++◌, append-nil}
use lib.ListN.{length, set, take, drop, drop_of_length-le, length-take}
use Rattle.lists.specs.Tab.{tab}
use Rattle.lists.specs.Buffer.{front}
use Rattle.lists.proofs.Tab.{length-tab}
use Rattle.lists.proofs.Buffer.{front-tab}
use Rattle.stream.specs.Internal.{pixel_byte}
use Rattle.stream.proofs.PixelPlaces.{pixel-in}
use Rattle.stream.proofs.pixels.store_pixels.Goals as goal
use Rattle.stream.proofs.pixels.store_pixels.Goals.{In-loop-i}

pub loop-i-init : goal.loop-i-init
unfolding tab
loop-i-init c = refl

in-stream : (c : In-loop-i) → 23 + c.loop-i.i + c.loop-i.i / 32 < length c.args.input.now
in-stream c =
    pixel-in c.args.n c.loop-i.i (length c.args.input.now)
    (omega (arith, c.loop-i-test.true, length-take c.args.n c.args.pixels.now)) c.requires.0

pub overflow_add-pixel : goal.overflow_add-pixel
overflow_add-pixel c = omega (arith, in-stream (goal.at.overflow_add-pixel c).In-loop-i)

pub overflow_add-pixel-in-loop-i : goal.overflow_add-pixel-in-loop-i
overflow_add-pixel-in-loop-i c = omega (arith, in-stream (goal.at.overflow_add-pixel-in-loop-i c).In-loop-i)

pub bounds-input-i : goal.bounds-input-i
bounds-input-i c = omega (arith, in-stream (goal.at.bounds-input-i c).In-loop-i)

pub loop-i-preserved : goal.loop-i-preserved
loop-i-preserved c =
    ap (λ (s : List ℕ). set s c.loop-i.i (pixel_byte c.args.input.now c.loop-i.i)) c.loop-i.invariant
    ∙ front-tab (pixel_byte c.args.input.now) (take c.args.n c.args.pixels.now) c.loop-i.i c.loop-i-test.true

-- all of them
stored : (n : ℕ) (f : ℕ → ℕ) (d : List ℕ) → n ≤ length d → front (tab n f) (take n d) ++ drop n d ≡ front (tab n f) d
stored n f d l =
    let all : length (take n d) ≤ length (tab n f) = omega (arith, length-take n d, length-tab n f) in
    rw (drop_of_length-le (take n d) all, append-nil, length-tab n f)

pub returns : goal.returns
returns c =
    let done : c.loop-i.i ≡ c.args.n = omega (arith, length-take c.args.n c.args.pixels.now) in
    rw (c.loop-i.invariant, done) (stored c.args.n (pixel_byte c.args.input.now) c.args.pixels.now c.requires.1)
