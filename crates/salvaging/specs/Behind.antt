-- Contracts that only proved callers use, which nobody needs to believe: lines met are saved or listed behind one another.
use Rattle.std.specs.Prelude.{◌+◌, ◌≤◌, length}
use Rattle.fields.specs.Fields.{put}
use Rattle.ledger.specs.Meeting.{Met}
use Rattle.saving.specs.Salvage.{saved_of, listed_of}
use Rattle.salvaging.specs.declared.feeding.Salvaging.{Salvaging}

abbrev pub salvaged : Salvaging → Met → Salvaging
salvaged w m = record w {
  journal = record w.journal { now = put w.journal.now w.saved (length (saved_of m)) (saved_of m) };
  saved = w.saved + length (saved_of m);
  list = record w.list { now = put w.list.now w.listed (length (listed_of m)) (listed_of m) };
  listed = w.listed + length (listed_of m);
}

-- there is room for what is saved of a line, and for the 23 bytes that may be listed of it
abbrev pub HasRoom : Salvaging → Met → Type 0
HasRoom w m = (w.saved + length (saved_of m) ≤ length w.journal.now) × (w.listed + 23 ≤ length w.list.now)
