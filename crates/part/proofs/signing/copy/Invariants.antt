use Rattle.std.proofs.Common.{◌≡◌, ◌++◌, take, drop}
use Rattle.part.proofs.signing.copy.Given as goal

-- the first i bytes are written
abbrev pub invariant-loop-i : goal.invariant-loop-i
invariant-loop-i l = l.out ≡ take l.i l.bytes ++ drop l.i l.initial.out
