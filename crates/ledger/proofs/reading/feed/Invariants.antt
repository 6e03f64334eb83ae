use Rattle.std.proofs.Common.{◌≡◌, ◌-◌, fold, length, take}
use Rattle.ledger.specs.Passing.{met_after}
use Rattle.ledger.proofs.Parts.{Along}
use Rattle.ledger.proofs.reading.feed.Given as goal

-- the lines before index i have been met
abbrev pub invariant-loop-i : goal.invariant-loop-i
invariant-loop-i g l =
    Along g.E.Verifier.scheme l.initial.stream l.initial.line l.piece l.i l.stream l.line
    × (l.reader ≡ fold g.R.Reader.after l.initial.reader (met_after g.E.Verifier.scheme l.initial.stream (take l.initial.stream.size l.initial.line) (take l.i l.piece)))
    × (length l.line ≡ length l.initial.line)

abbrev pub decreases-loop-i : goal.decreases-loop-i
decreases-loop-i g l = length l.piece - l.i
