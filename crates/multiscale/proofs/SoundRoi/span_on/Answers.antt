-- `multiscale::SoundRoi::span_on` meets its contract: the rounded centre, and what `span_about` finds about it. Assumes nothing.
use borrow.Author.Rules.{rules}
use native.Mathlib.Omega.{arith}
use Rattle.multiscale.proofs.Contexts.{border-small, radius-small, scale-is}
use Rattle.multiscale.proofs.Axis.{no-centre, about-centre}
use Rattle.multiscale.proofs.SoundRoi.span_on.Goals as goal

pub returns-in_default : goal.returns-in_default
returns-in_default c =
    no-centre _ _ _ _ (scale-is _ c.args.self.sound) _ c.round_half_away.ensures.answer (search rules)

pub span_about-requires : goal.span_about-requires
span_about-requires c =
    omega (
      arith,
      radius-small c.args.self.context c.args.self.sound,
      border-small c.args.self.context c.args.self.sound,
    )

pub returns : goal.returns
returns c =
    about-centre c.args.self.context c.args.side c.args.x _ (scale-is c.args.self.context c.args.self.sound) _
    c.round_half_away.ensures.answer _ _ _ _ c.in-Natural.is c.roi_radius.ensures c.border.ensures c.span_about.ensures
