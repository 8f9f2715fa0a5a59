-- `merge_settle::index::slot_for` meets its contract: the slots passed are neither empty nor hold the place. Assumes nothing.
use Rattle.std.proofs.Common.{ℕ, ◌≡◌, ◌⊎◌, rules, tests}
use Rattle.std.proofs.lemmas.Iterator.{first_from_Range, serves_from_Range}
use lib.Ieee.{nan, binary32, to_bits}
use lib.ListN.{get_or}
use Rattle.merge_settle.specs.Internal.{empty}
use Rattle.merge_settle.proofs.Slots.{slot-found}
use Rattle.merge_settle.proofs.index.slot_for.Goals as goal

pub find-requires-clause-callable : goal.find-requires-clause-callable
find-requires-clause-callable c = serves_from_Range (λ x q e. search rules) (λ x l h. search rules)

pub returns : goal.returns
returns c =
    let bits : ℕ → ℕ = λ p. to_bits binary32 (get_or c.args.table.now p nan) in
    let found = slot-found c.args.table.now c.args.home c.args.place c.find.result c.requires
    (first_from_Range _ _ _ _ (λ p. (bits p ≡ empty) ⊎ (bits p ≡ c.args.place)) (λ p. bits p ≡ empty → ⊥) c.find.ensures.ran
    (λ x q k. search (rules, tests)) (λ x q k. search (rules, tests))) in
    record { slot = found.0; inside = found.1 }
