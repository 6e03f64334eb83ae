-- Contracts that only proved callers use, which nobody needs to believe: lines met are written behind one another.
use Rattle.std.specs.Prelude.{◌+◌, ◌≤◌, length}
use Rattle.fields.specs.Fields.{put}
use Rattle.ledger.specs.Meeting.{Met}
use Rattle.verdicts.specs.Printing.{text_of}
use Rattle.verdicts.specs.declared.feeding.Writing.{Writing}

abbrev pub written : Writing → Met → Writing
written w m = record w { out = record w.out { now = put w.out.now w.end (length (text_of m)) (text_of m) }; end = w.end + length (text_of m) }

-- a line's text has at most 23 bytes
abbrev pub HasRoom : Writing → Type 0
HasRoom w = w.end + 23 ≤ length w.out.now
