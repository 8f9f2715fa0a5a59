-- `merge_naive::first_near` meets its contract. Assumes nothing.
use Rattle.std.proofs.Common.{ℕ, Bool, ◌≡◌, true, rules, tests}
use Rattle.std.proofs.lemmas.Iterator.{first_from_Range}
use Rattle.merge_grid.specs.Grid.{position_at, near}
use Rattle.merge_settle.proofs.First.{first-found}
use Rattle.merge_naive.proofs.first_near.Goals as goal

pub returns : goal.returns
returns c =
    let joins : ℕ → Bool = λ i. near c.args.square c.args.p (position_at c.args.xs.now c.args.ys.now i) in
    first-found joins c.args.k _
    (first_from_Range _ _ _ _ (λ i. joins i ≡ true) (λ i. joins i ≡ true → ⊥) c.find.ensures.ran
    (λ x q k. search (rules, tests)) (λ x q k. search (rules, tests)))
