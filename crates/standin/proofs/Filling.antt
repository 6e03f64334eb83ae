-- A digest that is written byte by byte, one byte longer.
use Rattle.std.proofs.Common.{◌≡◌, ℕ, ◌+◌, ◌%◌, ◌<◌, List, length, take, add-one}
use lib.ListN.{set}
use lib.Seq.{take-suc-set}
use Rattle.standin.specs.Standin.{lane, lanes}

pub digest_next : (d m : List ℕ) (i v : ℕ) → i < length d → take i d ≡ lanes i m → v ≡ lane (i + 2) 0 m % 256 → take (i + 1) (set d i v) ≡ lanes (i + 1) m
unfolding lanes
digest_next d m i v h e f = rw (add-one i, take-suc-set d i v, e, f)
