-- What both calls refuse, case by case, and what they admit.
use mathlib.Core.Path.{◌≡◌, refl}
use mathlib.Core.Bool.{Bool, true, false, ◌&&◌}
use Prim.Native.Nat.{ℕ, ◌≤◌, ◌<◌}
use native.Mathlib.Omega.{arith}
use lib.Dec.{leb, eqb}
use borrow.Author.Tests.{le-leb, lt-leb, leb-true, eq-eqb, eqb-true, ne_eqb}
use Rattle.fields.specs.Tests.{pick}
use Rattle.fields.proofs.Cases.{both}
use Rattle.refusal.specs.declared.Refusal.TheVariants.{Table, Length, CardOrAmount}
use Rattle.std.specs.Prelude.{Result, Ok, Err}
use Rattle.refusal.specs.declared.Refusal.{Refusal}
use Rattle.summary.specs.Entries.{most_cards}
use Rattle.summary.specs.Calls.{admitted}
use Rattle.summary.specs.Inside.{Admitted}

module _ (n held : ℕ) (right fits : Bool) where
  pub admit-length : (n ≡ most_cards → ⊥) → admitted n held right fits ≡ Err Length
  unfolding admitted
  admit-length h = simp (ne_eqb n most_cards h)

  module _ (size : n ≡ most_cards) where
    pub admit-over : most_cards < held → admitted n held right fits ≡ Err Table
    unfolding admitted
    admit-over h = simp (eq-eqb n most_cards size, lt-leb held most_cards h)

    module _ (few : held ≤ most_cards) where
      pub admit-wrong : right ≡ false → admitted n held right fits ≡ Err Table
      unfolding admitted
      admit-wrong e = simp (eq-eqb n most_cards size, le-leb held most_cards few, e)

      module _ (good : right ≡ true) where
        pub admit-range : fits ≡ false → admitted n held right fits ≡ Err CardOrAmount
        unfolding admitted
        admit-range e = simp (eq-eqb n most_cards size, le-leb held most_cards few, good, e)

        pub admit-done : fits ≡ true → admitted n held right fits ≡ Ok tt
        unfolding admitted
        admit-done e = simp (eq-eqb n most_cards size, le-leb held most_cards few, good, e)

pub admission : (n held : ℕ) (right fits : Bool) → admitted n held right fits ≡ Ok tt → Admitted n held right fits
unfolding admitted
admission n held right fits e = go (eqb n most_cards) (leb held most_cards && right) fits refl refl refl e
  where
    go : (a b c : Bool) → eqb n most_cards ≡ a → (leb held most_cards && right) ≡ b → fits ≡ c
        → ◌≡◌ {A = Result (Unit {0}) Refusal} (pick a (pick b (pick c (Ok tt) (Err CardOrAmount)) (Err Table)) (Err Length)) (Ok tt) → Admitted n held right fits
    go true true true p q r d =
        let h = both (leb held most_cards) right q in
        record { size = eqb-true n most_cards p; few = leb-true held most_cards h.0; good = h.1; ranged = r }
    go true true false p q r d = absurd (let z : ◌≡◌ {A = ℕ} 0 1 = cc in let w : ⊥ = omega arith in w)
    go true false c p q r d = absurd (let z : ◌≡◌ {A = ℕ} 0 1 = cc in let w : ⊥ = omega arith in w)
    go false b c p q r d = absurd (let z : ◌≡◌ {A = ℕ} 0 1 = cc in let w : ⊥ = omega arith in w)
