-- `merge_settle::settling::settle_listed` meets its contract: put in the place that it takes, and listed. Assumes nothing.
use Rattle.std.proofs.Common.{sym, ap, ◌∙◌, arith}
use Rattle.std.specs.Prelude.{Some}
use Rattle.corner_list.specs.CornerList.{Slices, corner_at}
use Rattle.corner_list.specs.Buffer.{contents}
use Rattle.merge_grid.specs.Grid.{joins}
use Rattle.merge_settle.specs.Internal.{FirstPasses}
use Rattle.merge_settle.specs.Settle.{count_with}
use Rattle.merge_settle.proofs.Settle.{settles-by, place-by, counted-all}
use Rattle.merge_settle.proofs.Slots.{some-floats}
use Rattle.merge_settle.proofs.Indexing.{found-viewed, indexed-viewed, indexed-dropped, indexed-placed}
use Rattle.merge_settle.proofs.settling.settle_listed.Goals as goal
use Rattle.merge_settle.proofs.settling.settle_listed.Goals.{After-find_joined-joined}

pub find_joined-joined-requires : goal.find_joined-joined-requires
find_joined-joined-requires c = indexed-viewed _ _ (sym c.view-v.ensures) c.requires.indexed

pub list_place-requires : goal.list_place-requires
list_place-requires c = some-floats c.args.table.now c.requires.indexed.some

-- the buffer before
abbrev buffer : After-find_joined-joined → Slices
buffer c = contents c.args.b.now

-- the first that c joins, of corners
found : (c : After-find_joined-joined)
    → FirstPasses (λ m. joins c.args.g c.args.c (corner_at (buffer c) m)) c.args.k c.find_joined-joined.result
found c =
    found-viewed _ _ _ _ c.args.c _ _ c.view-v.ensures c.from-p.ensures c.find_joined-joined.ensures

pub returns-in_default : goal.returns-in_default
returns-in_default c = record {
  same_slices = c.settle_corner-at.ensures.same_slices;
  settled =
      settles-by _ _ _ _ c.requires.k_bound _ (found (goal.at.returns-in_default c).After-find_joined-joined)
      _ c.settle_corner-at.ensures.place _ (ap (count_with c.args.k) (sym c.in_default.is)) _ c.settle_corner-at.ensures.put;
  indexed_2 = indexed-dropped _ _ _ (buffer (goal.at.returns-in_default c).After-find_joined-joined) _ c.requires.indexed _ _ _
      c.settle_corner-at.ensures.put c.in_default.is;
}

pub returns : goal.returns
returns c =
    let first = found (goal.at.returns c).After-find_joined-joined in
    let place = c.settle_corner-at.ensures.place in
    let counted = counted-all c.args.k (Some c.in-Some.place) _ c.count_with.ensures (omega (arith, c.requires.k_bound, c.well_formed)) in
    record {
      same_slices = c.settle_corner-at.ensures.same_slices;
      settled =
          settles-by _ _ _ _ c.requires.k_bound _ first _ place _ (counted ∙ ap (count_with c.args.k) (sym c.in-Some.is))
          _ c.settle_corner-at.ensures.put;
      indexed_2 =
          indexed-placed _ _ _ (buffer (goal.at.returns c).After-find_joined-joined) _ c.requires.indexed _ _ _
          c.settle_corner-at.ensures.put _ c.in-Some.is (place-by (joins c.args.g) _ c.args.c _ c.requires.k_bound _ first _ place)
          _ c.from-p.ensures _ c.list_place.ensures _ counted;
    }
