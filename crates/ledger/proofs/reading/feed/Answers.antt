use Rattle.std.proofs.Common.{◌<◌, refl, sym, length, take, arith}
use lib.Seq.{length-take-le}
use Rattle.ledger.proofs.Parts.{along-none, along-step, along-whole}
use Rattle.ledger.proofs.Readers.{step-size, none-met, still-met, met-on, can-on, all-met}
use Rattle.ledger.proofs.reading.feed.Goals as goal

pub loop-i-init : goal.loop-i-init
loop-i-init g c =
    let E = g.E.Verifier.scheme in
    let a = c.args in
    let t = g.R.Reader in
    (along-none E a.stream.now a.line.now a.piece.now c.requires.0, none-met E t.can_meet t.after a.stream.now a.line.now a.piece.now a.reader.now, refl)

pub slice_bounds-meet-end : goal.slice_bounds-meet-end
slice_bounds-meet-end g c =
    let t = c.step-step in
    omega (arith, step-size g.E.Verifier.scheme t.ensures, t.auto.line, c.loop-i.invariant.0.ready.room)

pub slice_bounds-meet-end-in_default : goal.slice_bounds-meet-end-in_default
slice_bounds-meet-end-in_default g c = sym (length-take-le c.step-step.result.size c.step-step.new.line (slice_bounds-meet-end g c))

pub meet-requires-clause-can : goal.meet-requires-clause-can
meet-requires-clause-can g c =
    let l = c.loop-i in
    let t = g.R.Reader in
    let h : l.i < length c.args.piece.now = c.loop-i-test.true in
    can-on g.E.Verifier.scheme t.can_meet t.after c.args.reader.now h l.invariant.0 c.step-step.ensures l.invariant.1 c.requires.1

pub loop-i-preserved : goal.loop-i-preserved
loop-i-preserved g c =
    let E = g.E.Verifier.scheme in
    let t = g.R.Reader in
    let l = c.loop-i in
    let s = c.step-step in
    let h : l.i < length c.args.piece.now = c.loop-i-test.true in (
      along-step E h l.invariant.0 s.ensures (omega (arith, s.auto.line, l.invariant.0.ready.room)),
      met-on E t.can_meet t.after c.args.reader.now h l.invariant.0 s.ensures l.invariant.1 c.meet.ensures,
      omega (arith, s.auto.line, l.invariant.2),
    )

pub loop-i-preserved-in-NoLine : goal.loop-i-preserved-in-NoLine
loop-i-preserved-in-NoLine g c =
    let E = g.E.Verifier.scheme in
    let t = g.R.Reader in
    let l = c.loop-i in
    let s = c.step-step in
    let h : l.i < length c.args.piece.now = c.loop-i-test.true in (
      along-step E h l.invariant.0 s.ensures (omega (arith, s.auto.line, l.invariant.0.ready.room)),
      met-on E t.can_meet t.after c.args.reader.now h l.invariant.0 s.ensures l.invariant.1
          (still-met t.can_meet t.after s.result.event (take s.result.size s.new.line) l.reader c.in-NoLine.is),
      omega (arith, s.auto.line, l.invariant.2),
    )

pub returns-clause-takes : goal.returns-clause-takes
returns-clause-takes g c = along-whole g.E.Verifier.scheme (omega (arith, c.loop-i-test.false)) c.loop-i.invariant.0

pub returns-clause-meets : goal.returns-clause-meets
returns-clause-meets g c =
    let a = c.args in
    all-met g.E.Verifier.scheme g.R.Reader.can_meet g.R.Reader.after a.stream.now a.line.now a.piece.now a.reader.now (omega (arith, c.loop-i-test.false)) c.loop-i.invariant.1
