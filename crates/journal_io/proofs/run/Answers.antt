use Rattle.std.proofs.Common.{◌≡◌, refl, arith, length}
use Rattle.std.proofs.KnownBytes.{Consumes-trans}
use Rattle.judging.specs.declared.Order.TheVariants.{Strict}
use Rattle.ledger.proofs.Parts.{ready-after}
use Rattle.ledger.proofs.Ends.{fresh-ready}
use Rattle.verdicts.specs.Turning.{Runs}
use Rattle.verdicts.proofs.Along.{along-none}
use Rattle.journal_io.proofs.Turn.{turn-on, turn-last}
use Rattle.journal_io.proofs.run.Goals as goal

pub loop-init : goal.loop-init
loop-init g c =
    let E = g.E.Verifier.scheme in
    (fresh-ready E Strict c.new-stream.ensures c.requires.0, along-none (Runs E) c.args.line.now _ _ c.new-stream.ensures, refl, c.requires.1, c.requires.2)

pub returns-in_err-write_all-clause-left : goal.returns-in_err-write_all-clause-left
returns-in_err-write_all-clause-left g c = (_, Consumes-trans _ _ _ _ _ c.loop.invariant.1.reads c.in_ok-got.ensures.bytes.0)

pub returns-then-turned-clause-whole : goal.returns-then-turned-clause-whole
returns-then-turned-clause-whole g c = λ h.
    let E = g.E.Verifier.scheme in
    let i = c.loop.invariant in
    turn-last E _ _ _ _ _ _ i.1 (c.in_ok-got.ensures.bytes.0) c.in_ok-write_all.ensures.bytes c.turn-turned.ensures c.if-turned.true
    (λ e. c.in_ok-got.ensures.bytes.1 (omega (arith, e, c.in_ok-got.ensures.bound.1)) (omega (arith, h, c.read.auto.buf, i.2)))

pub returns-then-turned-clause-left : goal.returns-then-turned-clause-left
returns-then-turned-clause-left g c = (_, Consumes-trans _ _ _ _ _ c.loop.invariant.1.reads c.in_ok-got.ensures.bytes.0)

pub loop-preserved : goal.loop-preserved
loop-preserved g c =
    let E = g.E.Verifier.scheme in
    let i = c.loop.invariant in
    let room : length c.turn-turned.new.line ≡ 2048 = omega (arith, c.turn-turned.auto.line, i.0.room) in (
      ready-after E i.0 c.turn-turned.ensures.takes room,
      turn-on E _ _ _ _ _ _ i.1 (c.in_ok-got.ensures.bytes.0) c.in_ok-write_all.ensures.bytes c.turn-turned.ensures c.if-turned.false,
      omega (arith, c.read.auto.buf, i.2),
      omega (arith, c.read.auto.buf, i.3),
      omega (arith, c.turn-turned.auto.out, i.4),
    )
