use Rattle.std.proofs.Common.{sym, arith}
use lib.Seq.{length-take-le}
use Rattle.lines.proofs.Law.{bounds}
use Rattle.quarter_io.proofs.Names.take.Goals as goal
use Rattle.quarter_io.proofs.Names.take.Goals.{in-Whole, in-Long}

pub slice_bounds-enter-end : goal.slice_bounds-enter-end
slice_bounds-enter-end g c =
    elim c.match-take_line.branch [
      | in-Whole w ↦ rw w.size-is (omega (arith, (bounds w.in-Whole.ensures).2, c.take_line.auto.line, c.loop-i.invariant.2))
      | in-Long w ↦ rw w.size-is (omega (arith, c.take_line.auto.line, c.loop-i.invariant.2))
    ]

pub slice_bounds-enter-end-in-loop-i : goal.slice_bounds-enter-end-in-loop-i
slice_bounds-enter-end-in-loop-i g c = sym (length-take-le c.match-take_line.size.0 c.take_line.new.line (slice_bounds-enter-end g c))

pub loop-i-smaller : goal.loop-i-smaller
loop-i-smaller g c =
    elim c.match-take_line.branch [
      | in-Whole w ↦ let b = bounds w.in-Whole.ensures in rw w.size-is (omega (arith, b.0, b.1))
      | in-Long w ↦ let b = bounds w.in-Long.ensures in rw w.size-is (omega (arith, b.0, b.1))
    ]
