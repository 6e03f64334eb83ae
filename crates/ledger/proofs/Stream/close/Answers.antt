use Rattle.std.proofs.Common.{arith}
use Rattle.ledger.proofs.Steps.{closes-empty, closes-broken}
use Rattle.ledger.proofs.Stream.close.Goals as goal

pub returns-then-self-eq0 : goal.returns-then-self-eq0
returns-then-self-eq0 g c = let E = g.E.Verifier.scheme in closes-empty E _ _ _ (omega arith) c.end.ensures

pub returns : goal.returns
returns g c = let E = g.E.Verifier.scheme in closes-broken E _ _ _ (omega arith) (λ l. (c.broken_line.ensures l).1)
