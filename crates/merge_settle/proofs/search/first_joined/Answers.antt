-- `merge_settle::search::first_joined` meets its contract. Assumes nothing.
use Rattle.std.proofs.Common.{ℕ, ◌≡◌, true, rules, tests}
use Rattle.std.proofs.lemmas.Iterator.{first_from_Range}
use Rattle.merge_settle.specs.Internal.{joins_at}
use Rattle.merge_settle.proofs.First.{first-found}
use Rattle.merge_settle.proofs.search.first_joined.Goals as goal

pub returns : goal.returns
returns c =
    let joins : ℕ → _ = joins_at c.args.g c.args.p c.args.xs.now c.args.ys.now in
    first-found joins c.args.k _
    (first_from_Range _ _ _ _ (λ i. joins i ≡ true) (λ i. joins i ≡ true → ⊥) c.find.ensures.ran
    (λ x q k. search (rules, tests)) (λ x q k. search (rules, tests)))
