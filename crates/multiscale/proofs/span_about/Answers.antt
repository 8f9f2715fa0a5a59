-- `multiscale::span_about` meets its contract, by the tests. Assumes nothing.
use borrow.Author.Rules.{rules}
use Rattle.multiscale.specs.Multiscale.{span_about}
use Rattle.multiscale.proofs.span_about.Goals as goal

pub returns-then-c-b : goal.returns-then-c-b
unfolding span_about
returns-then-c-b c = search rules

pub returns-then-high-low : goal.returns-then-high-low
unfolding span_about
returns-then-high-low c = search rules

pub returns : goal.returns
unfolding span_about
returns c = search rules
