use Rattle.std.proofs.Common.{arith}
use Rattle.std.proofs.KnownBytes.{Consumes-trans}
use Rattle.quarter_io.proofs.run.Goals as goal

pub returns-in_err-take : goal.returns-in_err-take
returns-in_err-take g c = (_, Consumes-trans _ _ _ _ _ c.loop.invariant.3.1 c.in_ok-got.ensures.bytes.0)

pub loop-preserved : goal.loop-preserved
loop-preserved g c =
    let i = c.loop.invariant in
    let p = c.in_ok-take.ensures in
    (p.0, p.1, omega (arith, c.take.auto.line, i.2), (_, Consumes-trans _ _ _ _ _ i.3.1 c.in_ok-got.ensures.bytes.0))
