-- Entries rise where each fits and its card is below the next one's, and only there.
use mathlib.Core.Path.{◌≡◌, refl, sym, ◌∙◌}
use mathlib.Core.List.{List, [], ◌∷◌}
use mathlib.Core.Bool.{Bool, true, false}
use Prim.Native.Nat.{ℕ, zero, suc, ◌+◌, ◌≤◌, ◌<◌}
use native.Mathlib.Omega.{arith}
use lib.Dec.{ltb}
use lib.ListN.{length, get_or}
use borrow.Author.Tests.{lt-ltb, ltb-true}
use Rattle.std.specs.List.{list_all, AllAdjacentBelow, IsAllAdjacentAnswer}
use Rattle.fields.proofs.Cases.{both}
use Rattle.summary.specs.declared.CardEntry.{CardEntry}
use Rattle.summary.specs.Entries.{entry_fits, rising}
use Rattle.summary.proofs.Sorted.{rises, rises-back}

-- the next card is above
abbrev Climb : List CardEntry → Type 0
Climb es = AllAdjacentBelow (λ a b. true ≡ ltb a.card b.card) es (length es)

all-fit : (low : ℕ) (es : List CardEntry) → rising low es ≡ true → list_all entry_fits es ≡ true
all-fit low [] p = refl
all-fit low (e ∷ es) p = let r = rises low e es p in rw (r.fits, all-fit (e.card + 1) es r.rest)

-- no card is below the first that may stand
pub from-low : (low : ℕ) (es : List CardEntry) (k : ℕ) (d : CardEntry) → rising low es ≡ true → k < length es → low ≤ (get_or es k d).card
from-low low [] k d p h = absurd (omega arith)
from-low low (e ∷ es) zero d p h = (rises low e es p).above
from-low low (e ∷ es) (suc k) d p h =
    let r = rises low e es p in
    let a = r.above in
    let n = from-low (e.card + 1) es k d r.rest (omega arith) in
    omega arith

pub climbs : (low : ℕ) (es : List CardEntry) (k : ℕ) (d : CardEntry) → rising low es ≡ true → k + 1 < length es → (get_or es k d).card < (get_or es (k + 1) d).card
climbs low [] k d p h = absurd (omega arith)
climbs low (e ∷ es) zero d p h = let n = from-low (e.card + 1) es 0 d (rises low e es p).rest (omega arith) in omega arith
climbs low (e ∷ es) (suc k) d p h = let n : suc k + 1 ≡ suc (k + 1) = omega arith in rw n (climbs (e.card + 1) es k d (rises low e es p).rest (omega arith))

climb-rises : (low : ℕ) (es : List CardEntry) → ((d : CardEntry) → 0 < length es → low ≤ (get_or es 0 d).card) → list_all entry_fits es ≡ true → Climb es → rising low es ≡ true
unfolding rising
climb-rises low [] a f c = refl
climb-rises low (e ∷ es) a f c =
    let h = both (entry_fits e) (list_all entry_fits es) f in
    rises-back low e es
    (record {
      above = a e (omega arith);
      fits = h.0;
      rest =
          climb-rises (e.card + 1) es
          (λ d k. let n : e.card < (get_or es 0 d).card = ltb-true e.card (get_or es 0 d).card (sym (c 0 d (omega arith))) in omega arith)
          h.1 (λ k d l. let n : suc k + 1 ≡ suc (k + 1) = omega arith in rw n at (c (suc k) d (omega arith)));
    })

module _ (es : List CardEntry) where
  -- not all fit
  pub unfit-falls : list_all entry_fits es ≡ false → false ≡ rising 0 es
  unfit-falls f = go (rising 0 es) refl
    where
      go : (b : Bool) → rising 0 es ≡ b → false ≡ b
      go false p = refl
      go true p = sym f ∙ all-fit 0 es p

  -- all fit
  pub climb-answers : (r : Bool) → list_all entry_fits es ≡ true → IsAllAdjacentAnswer (λ a b x. x ≡ ltb a.card b.card) es r → r ≡ rising 0 es
  climb-answers true f c = sym (climb-rises 0 es (λ d h. omega arith) f c)
  climb-answers false f c = go (rising 0 es) refl
    where
      go : (b : Bool) → rising 0 es ≡ b → false ≡ b
      go false p = refl
      go true p =
          let (k, h, n) = c in
          let d : CardEntry = record { card = 0; count = 0; cents = 0 } in
          n d ∙ lt-ltb (get_or es k d).card (get_or es (k + 1) d).card (climbs 0 es k d p h)
