-- `listing::write_refusal` meets its contract. Assumes nothing.
use Rattle.listing.specs.Text.{refused_text}
use Rattle.listing.proofs.Texts.{wrote-first}
use Rattle.listing.proofs.write_refusal.Goals as goal

pub returns : goal.returns
unfolding refused_text
returns c = rw (← c.from.ensures) (wrote-first c.put_heading.ensures)
