use Rattle.std.proofs.Common.{◌≡◌, refl, arith, length}
use Rattle.std.proofs.KnownBytes.{Consumes-trans}
use Rattle.judging.specs.declared.Order.TheVariants.{Free}
use Rattle.ledger.proofs.Parts.{ready-after}
use Rattle.ledger.proofs.Ends.{fresh-ready}
use Rattle.verdicts.proofs.Along.{along-none}
use Rattle.salvage_io.proofs.Turn.{Saves, Lists, save-on, save-last, list-on, list-last}
use Rattle.salvage_io.proofs.run.Goals as goal

pub loop-init : goal.loop-init
loop-init g c =
    let E = g.E.Verifier.scheme in
    let line = c.args.line.now in
    let e = c.start-stream.ensures in
    (fresh-ready E Free e c.requires.0, along-none (Saves E) line _ _ e, along-none (Lists E) line _ _ e, refl, c.requires.1, c.requires.2, c.requires.3)

pub returns-in_err-write_both-clause-left : goal.returns-in_err-write_both-clause-left
returns-in_err-write_both-clause-left g c = (_, Consumes-trans _ _ _ _ _ c.loop.invariant.1.reads c.in_ok-got.ensures.bytes.0)

pub returns-then-turned-clause-saved : goal.returns-then-turned-clause-saved
returns-then-turned-clause-saved g c = λ h.
    let E = g.E.Verifier.scheme in
    let i = c.loop.invariant in
    save-last E c.turn-turned.ensures _ _ _ _ _ _ (c.in_ok-got.ensures.bytes.0) i.1 c.in_ok-write_both.ensures.saved c.if-turned.true
    (λ e. c.in_ok-got.ensures.bytes.1 (omega (arith, e, c.in_ok-got.ensures.bound.1)) (omega (arith, h, c.read.auto.buf, i.3)))

pub returns-then-turned-clause-listed : goal.returns-then-turned-clause-listed
returns-then-turned-clause-listed g c = λ h.
    let E = g.E.Verifier.scheme in
    let i = c.loop.invariant in
    list-last E c.turn-turned.ensures _ _ _ _ _ _ (c.in_ok-got.ensures.bytes.0) i.2 c.in_ok-write_both.ensures.listed c.if-turned.true
    (λ e. c.in_ok-got.ensures.bytes.1 (omega (arith, e, c.in_ok-got.ensures.bound.1)) (omega (arith, h, c.read.auto.buf, i.3)))

pub returns-then-turned-clause-left : goal.returns-then-turned-clause-left
returns-then-turned-clause-left g c = (_, Consumes-trans _ _ _ _ _ c.loop.invariant.1.reads c.in_ok-got.ensures.bytes.0)

pub loop-preserved : goal.loop-preserved
loop-preserved g c =
    let E = g.E.Verifier.scheme in
    let i = c.loop.invariant in
    let t = c.turn-turned in
    let room : length t.new.line ≡ 2048 = omega (arith, t.auto.line, i.0.room) in (
      ready-after E i.0 t.ensures.takes room,
      save-on E t.ensures _ _ _ _ _ _ (c.in_ok-got.ensures.bytes.0) i.1 c.in_ok-write_both.ensures.saved c.if-turned.false,
      list-on E t.ensures _ _ _ _ _ _ (c.in_ok-got.ensures.bytes.0) i.2 c.in_ok-write_both.ensures.listed c.if-turned.false,
      omega (arith, c.read.auto.buf, i.3),
      omega (arith, c.read.auto.buf, i.4),
      omega (arith, t.auto.journal, i.5),
      omega (arith, t.auto.list, i.6),
    )
