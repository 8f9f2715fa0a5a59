-- `detect::searching::rival` meets its contract. Assumes nothing.
use Rattle.std.proofs.Common.{sym, refl, ◌∙◌}
use mathlib.Core.Bool.{false≢true}
use Rattle.detect.proofs.searching.rival.Goals as goal

pub most_beside-requires : goal.most_beside-requires
most_beside-requires c = let around = c.requires.le_w c.if-beside.true in record { le_w = (around.0, around.1); w_in_bounds = around.2 }

pub returns-then-beside : goal.returns-then-beside
returns-then-beside c =
    record {
      of_four = λ e. c.most_beside.ensures;
      itself = λ e. absurd (false≢true (sym e ∙ c.if-beside.true));
    }

pub returns : goal.returns
returns c =
    record {
      of_four = λ e. absurd (false≢true (sym c.if-beside.false ∙ e));
      itself = λ e. refl;
    }
