-- The measure of `merge_settle::settling::merge_up_to`, which calls itself. Assumes nothing.
use Rattle.merge_settle.proofs.settling.+merge_up_to.Given as goal

abbrev pub decreases-merge_up_to : goal.decreases-merge_up_to
decreases-merge_up_to l = l.most
