-- `merge_settle::search::find_joined` meets its contract: the four homes list all that c joins. Assumes nothing.
use Rattle.std.proofs.Common.{ℕ, ◌/◌, ap, arith, rules}
use Rattle.merge_settle.proofs.First.{among_then, among_some, among_none}
use Rattle.merge_settle.proofs.Slots.{some-floats}
use Rattle.merge_settle.proofs.Nearby.{all_near}
use Rattle.merge_settle.proofs.search.find_joined.Goals as goal

pub lowest_of_two-low-requires : goal.lowest_of_two-low-requires
lowest_of_two-low-requires c =
    let some = some-floats c.args.table.now c.requires.some in
    let small = (c.index_holds.ensures c.if-not-index_holds.false).1 in search rules

pub lowest_of_two-low-requires-2 : goal.lowest_of_two-low-requires-2
lowest_of_two-low-requires-2 c =
    let some = some-floats c.args.table.now c.requires.some in
    let small = (c.index_holds.ensures c.if-not-index_holds.false).1 in search rules

pub returns-then-low-k : goal.returns-then-low-k
returns-then-low-k c =
    let holds = c.index_holds.ensures c.if-not-index_holds.false in
    let half : ℕ → ℕ = λ n. n / 2 in
    among_some _ _ _ _ (among_then _ _ _ _ _ _ c.lowest_of_two-low.ensures c.lowest_of_two-low-2.ensures)
    (all_near _ _ _ _ _ _ c.requires _ _ _ (ap half c.column_of-x.ensures) (ap half c.row_of-row.ensures) holds.1
    (omega (arith, c.row_of-row.ensures, holds.0))) c.if-low-k.true

pub returns-else-low-k : goal.returns-else-low-k
returns-else-low-k c =
    let holds = c.index_holds.ensures c.if-not-index_holds.false in
    let half : ℕ → ℕ = λ n. n / 2 in
    among_none _ _ _ _ (among_then _ _ _ _ _ _ c.lowest_of_two-low.ensures c.lowest_of_two-low-2.ensures)
    (all_near _ _ _ _ _ _ c.requires _ _ _ (ap half c.column_of-x.ensures) (ap half c.row_of-row.ensures) holds.1
    (omega (arith, c.row_of-row.ensures, holds.0))) c.if-low-k.false
