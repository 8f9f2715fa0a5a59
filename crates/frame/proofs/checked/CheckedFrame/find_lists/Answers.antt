-- `frame::checked::CheckedFrame::find_lists` meets its contract, by the laws of `Levels`. Assumes nothing.
use Rattle.lists.proofs.Judged.{passed-on}
use Rattle.patch_corners.specs.OneMap.{choice_of}
use Rattle.frame.proofs.Levels.{levels-most, seeds-few, seeds-short, corners-short, both-listed}
use Rattle.frame.proofs.checked.CheckedFrame.find_lists.Goals as goal

pub returns-in_err-first-clause-searched : goal.returns-in_err-first-clause-searched
returns-in_err-first-clause-searched c =
    rw (passed-on _ c.from_residual.ensures.1)
    (seeds-short (choice_of c.args.self.now.p c.args.self.now.exact) _ _ _ _ _ _ _ _ c.add_seeds.ensures.added _ c.in_err-first.was _)

pub add_found-requires-clause-few : goal.add_found-requires-clause-few
add_found-requires-clause-few c = (
  levels-most c.args.self.now.p c.args.self.now.img.now c.args.self.now.w c.args.self.now.h _ _ c.requires.built_levels,
  seeds-few c.args.self.now.p c.args.self.now.exact c.args.self.now.img.now c.args.self.now.w c.args.self.now.h _
      (record { sound = c.args.self.now.sound; enough = c.requires.enough }) _ _ _ _ c.add_seeds.ensures.added _
      c.in_ok-first.was,
)

pub returns-in_err-found-clause-searched : goal.returns-in_err-found-clause-searched
returns-in_err-found-clause-searched c =
    rw (passed-on _ c.from_residual-in_err-found.ensures.1)
    (corners-short (choice_of c.args.self.now.p c.args.self.now.exact) _ _ _ _ _ _ _ _ c.add_seeds.ensures.added _ c.in_ok-first.was _ _ _
    (rw c.view.ensures at c.add_found.ensures.added) _ c.in_err-found.was)

pub returns-clause-searched : goal.returns-clause-searched
returns-clause-searched c =
    both-listed (choice_of c.args.self.now.p c.args.self.now.exact) _ _ _ _ _ _ _ _ c.add_seeds.ensures.added _ c.in_ok-first.was _ _ _
    (rw c.view.ensures at c.add_found.ensures.added) _ c.in_ok-found.was
