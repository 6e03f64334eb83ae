-- A reader can take lines one after the other.
use Rattle.std.specs.Prelude.{List, [], ◌∷◌}
use Prim.{Unit}
use Rattle.ledger.specs.Meeting.{Met}

abbrev pub CanMeet : {R : Type 0} → (R → Met → Type 0) → (R → Met → R) → R → List Met → Type 0
CanMeet can after r [] = Unit {0}
CanMeet can after r (m ∷ ms) = can r m × CanMeet can after (after r m) ms
