use Rattle.std.proofs.Common.{rules}
use Rattle.stream.specs.Internal.{pixel_count}
use Rattle.stream.proofs.pixels.pixel_count.Goals as goal

pub returns : goal.returns
unfolding pixel_count
returns c = search rules
