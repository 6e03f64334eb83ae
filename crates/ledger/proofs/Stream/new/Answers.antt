use Rattle.std.proofs.Common.{refl}
use Rattle.ledger.specs.Passing.{fresh}
use Rattle.ledger.proofs.Stream.new.Goals as goal

pub returns : goal.returns
unfolding fresh
returns c = refl
