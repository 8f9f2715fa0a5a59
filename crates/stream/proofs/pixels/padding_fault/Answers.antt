-- `stream::pixels::padding_fault` meets its contract: the chain tests the bytes behind the last pixel. Assumes nothing.
use Rattle.std.proofs.Common.{◌≡◌, ℕ, Bool, List, [], ◌∷◌, drop, eqb, not, refl, ap, ◌∙◌, ◌||◌, rules, tests}
use Rattle.std.specs.List.{list_any}
use Rattle.std.proofs.lemmas.Iterator.{YieldsList-from_slice}
use Rattle.std.proofs.lemmas.Iterator.Adapters.{YieldsList-from_skip}
use Rattle.std.proofs.lemmas.Iterator.Search.{any_from_yields_List}
use Rattle.lists.specs.Places.{any}
use Rattle.stream.specs.Stream.{padding_fault}
use Rattle.stream.proofs.pixels.padding_fault.Goals as goal
use Rattle.stream.proofs.pixels.padding_fault.Goals.{After-any}

any-is : (f : ℕ → Bool) (s : List ℕ) → list_any f s ≡ any f s
any-is f [] = refl
any-is f (v ∷ s) = ap (λ (b : Bool). f v || b) (any-is f s)

padded : (c : After-any) → c.any.result ≡ any (λ v. not (eqb v 0)) (drop c.args.left c.args.body.now)
padded c =
    any_from_yields_List (λ v. not (eqb v 0)) _ _ c.any.result c.any.ensures.ran
    (YieldsList-from_skip c.args.left (YieldsList-from_slice c.args.body.now cc) cc)
    (λ x b q k. search (rules, tests))
    ∙ any-is (λ v. not (eqb v 0)) (drop c.args.left c.args.body.now)

pub returns-then-any : goal.returns-then-any
unfolding padding_fault
returns-then-any c = rw (← padded (goal.at.returns-then-any c).After-any, c.if-any.true)

pub returns : goal.returns
unfolding padding_fault
returns c = rw (← padded (goal.at.returns c).After-any, c.if-any.false)
