-- Contracts that only proved callers use, which nobody needs to believe: lines met are counted one after the other.
use Rattle.ledger.specs.Meeting.{Met}
use Rattle.accounts.specs.Inside.{on_met, AccountFits}
use Rattle.accounts.specs.declared.counting.Counting.{Counting}

abbrev pub counted : Counting → Met → Counting
counted w m = record { account = on_met w.account m }

abbrev pub Fits : Counting → Met → Type 0
Fits w m = AccountFits (on_met w.account m)
