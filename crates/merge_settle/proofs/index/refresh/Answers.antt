-- `merge_settle::index::refresh` meets its contract: the index is unchanged, or rebuilt. Assumes nothing.
use borrow.Author.Rules.{rules}
use Rattle.merge_settle.proofs.Slots.{some-floats}
use Rattle.merge_settle.proofs.index.refresh.Goals as goal

pub list_kept-requires : goal.list_kept-requires
list_kept-requires c =
    let some = some-floats c.args.table.now c.requires.some in search rules
