-- `stream::fields::parameters_fault` meets its contract: the range is judged before the radius. Assumes nothing.
use mathlib.Core.Path.{ap, ap₂, ◌∙◌}
use Rattle.std.specs.Result.{result_and}
use Rattle.lists.specs.Refusals.{verdict}
use Rattle.stream.specs.Stream.{u8, u32}
use Rattle.stream.specs.Internal.{radius_fault}
use Rattle.stream.proofs.Parameters.{range-first}
use Rattle.stream.proofs.fields.parameters_fault.Goals as goal

pub returns : goal.returns
returns c =
    c.and.ensures
    ∙ ap₂ result_and c.range_fault-range.ensures (c.radius_fault-radius.ensures ∙ ap (λ n. verdict (radius_fault n)) c.u32_at.ensures)
    ∙ range-first (u8 c.args.body.now 0) (u8 c.args.body.now 5) (u8 c.args.body.now 7) (u32 c.args.body.now 8)
