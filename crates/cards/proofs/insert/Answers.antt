use Rattle.summary.proofs.Shifts.{shifted}
use Rattle.cards.proofs.insert.Goals as goal

pub returns : goal.returns
returns c = shifted _ _ _ _ c.requires.0 c.requires.1 _ c.carry.ensures
