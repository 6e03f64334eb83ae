use Rattle.std.proofs.Common.{ℕ, List, length, ◌≡◌, ◌≤◌}
use Rattle.std.specs.Io.KnownBytes.{Consumes}
use Rattle.accounts.specs.Inside.{SoundQuarter}
use Rattle.quarter_io.proofs.run.Given as goal

abbrev pub invariant-loop : goal.invariant-loop
invariant-loop g l =
    SoundQuarter l.names.quarter
    × (l.names.held ≤ 2048)
    × (length l.line ≡ 2048)
    × ((bs : List ℕ) × Consumes (g.R.Read.remaining l.fn.from) (g.R.Read.remaining l.from) bs)
