-- `stream::fields::sides_fault` meets its contract, return by return. Assumes nothing.
use mathlib.Core.Path.{sym}
use borrow.Author.Tests.{lt-ltb, le-ltb}
use Rattle.lists.proofs.Tests.{or_right}
use Rattle.stream.specs.Stream.{largest_stream_side, sides_fault}
use Rattle.stream.proofs.fields.sides_fault.Goals as goal

pub returns-then-from-gt-LARGEST_STREAM_SIDE : goal.returns-then-from-gt-LARGEST_STREAM_SIDE
unfolding sides_fault
returns-then-from-gt-LARGEST_STREAM_SIDE c =
    rw (sym c.u16_at.ensures, sym c.from.ensures, lt-ltb largest_stream_side _ c.if-from-gt-LARGEST_STREAM_SIDE.true)

pub returns-then-from-gt-LARGEST_STREAM_SIDE-2 : goal.returns-then-from-gt-LARGEST_STREAM_SIDE-2
unfolding sides_fault
returns-then-from-gt-LARGEST_STREAM_SIDE-2 c =
    rw (sym c.u16_at-2.ensures, sym c.from-2.ensures, lt-ltb largest_stream_side _ c.if-from-gt-LARGEST_STREAM_SIDE-2.true, or_right)

pub returns : goal.returns
unfolding sides_fault
returns c =
    rw (
      sym c.u16_at.ensures,
      sym c.from.ensures,
      le-ltb largest_stream_side _ c.if-from-gt-LARGEST_STREAM_SIDE.false,
      sym c.u16_at-2.ensures,
      sym c.from-2.ensures,
      le-ltb largest_stream_side _ c.if-from-gt-LARGEST_STREAM_SIDE-2.false,
    )
