use Rattle.std.proofs.Common.{length, ◌-◌, ◌≡◌, ◌≤◌}
use Rattle.accounts.specs.Inside.{SoundQuarter}
use Rattle.quarter_io.proofs.Names.take.Given as goal

abbrev pub invariant-loop-i : goal.invariant-loop-i
invariant-loop-i g l = SoundQuarter l.self.quarter × (l.self.held ≤ 2048) × (length l.line ≡ 2048)

abbrev pub decreases-loop-i : goal.decreases-loop-i
decreases-loop-i g l = length l.piece - l.i
