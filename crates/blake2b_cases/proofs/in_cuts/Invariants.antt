use Rattle.std.proofs.Common.{◌<◌, ◌≤◌, length}
use Rattle.blake2b_cases.proofs.in_cuts.Given as goal

abbrev pub invariant-loop-rest : goal.invariant-loop-rest
invariant-loop-rest l = (0 < l.size) × (l.size ≤ 300)

abbrev pub decreases-loop-rest : goal.decreases-loop-rest
decreases-loop-rest l = length l.rest
