-- The count that make, move and catch-up tell fits above the number in the word that they answer.
use mathlib.Core.Path.{◌≡◌, refl}
use mathlib.Core.Bool.{true}
use mathlib.Core.List.{List}
use Prim.Native.Nat.{ℕ, ◌<◌}
use native.Mathlib.Omega.{arith}
use Rattle.std.specs.Prelude.{Result, Ok, Err}
use Rattle.refusal.specs.declared.Refusal.{Refusal}
use Rattle.ed25519.specs.Ed25519.{Scheme}
use Rattle.rules.specs.Answers.{grown_told}
use Rattle.rules.specs.Calls.{make_tallied, move_tallied, catch_tallied}
use Rattle.rules.specs.Trees.{two_or_three}
use Rattle.rules.specs.Trees.{Heights}
use Rattle.rules.proofs.Small.{make-small, move-small}
use Rattle.rules.proofs.Unanswered.{make-tallied-done, move-tallied-done}
use Rattle.rules.proofs.CatchingUp.{catch-small, catch-tallied-done}

fits : (a : Result ℕ Refusal) → ((n : ℕ) → a ≡ Ok n → n < 0x1_0000_0000) → (grown_told a).count < 0x1_0000_0000
fits (Ok n) small = small n refl
fits (Err why) small = omega arith

module _ (E : Scheme) where
  pub make_fits : (ht : Heights) (s d : List ℕ) (t : ℕ) → two_or_three ht ≡ true → (grown_told (make_tallied E ht s d t).answer).count < 0x1_0000_0000
  make_fits ht s d t k = fits (make_tallied E ht s d t).answer (λ n e. make-small E ht s d k (make-tallied-done E ht s d t e))

  pub move_fits : (d : List ℕ) (b t : ℕ) → (grown_told (move_tallied E d b t).answer).count < 0x1_0000_0000
  move_fits d b t = fits (move_tallied E d b t).answer (λ n e. move-small E d b (move-tallied-done E d b t e))

  pub catch_fits : (d : List ℕ) (b t : ℕ) → (grown_told (catch_tallied E d b t).answer).count < 0x1_0000_0000
  catch_fits d b t = fits (catch_tallied E d b t).answer (λ n e. catch-small E d b (catch-tallied-done E d b t e))
