-- Where a card's entry stands among entries that rise, or where it would go: what a binary search answers.
use mathlib.Core.Path.{◌≡◌, refl, sym, ap, ◌∙◌}
use mathlib.Core.List.{List, [], ◌∷◌}
use mathlib.Core.Bool.{Bool, true, false}
use Prim.Native.Nat.{ℕ, zero, suc, ◌+◌, ◌≤◌, ◌<◌}
use native.Mathlib.Omega.{arith}
use lib.Dec.{eqb}
use lib.ListN.{length, get_or, take, length-take}
use lib.Seq.{get_or-take}
use borrow.Author.Tests.{eq-eqb, ne_eqb}
use Rattle.std.specs.Prelude.{Result, Ok, Err}
use Rattle.std.specs.List.Sorted.{IsSearchInRange, IsBinarySearchResult, IsNonDecreasingBy}
use Rattle.std.specs.Ordering.{nat_cmp, ordering_index}
use Rattle.std.proofs.lemmas.Cmp.{ranked, nat_cmp_total}
use Rattle.std.proofs.lemmas.List.Sorted.{searchable_from_sorted}
use Rattle.std.proofs.lemmas.Bool.Decides.{nat_tests}
use Rattle.fields.specs.Tests.{pick}
use Rattle.summary.specs.declared.CardEntry.{CardEntry}
use Rattle.summary.specs.Entries.{entry_fits, rising, no_entry, entry_for}
use Rattle.summary.specs.Inside.{below, place_of}
use Rattle.summary.proofs.Ranges.{fits_in}
use Rattle.summary.proofs.Orders.{order}
use Rattle.summary.proofs.Sorted.{rises, entry_here, entry_past, absent, below-past, below_none, below-within}
use Rattle.summary.proofs.Climbing.{from-low, climbs}

fits-at : (low : ℕ) (es : List CardEntry) (k : ℕ) (d : CardEntry) → rising low es ≡ true → k < length es → entry_fits (get_or es k d) ≡ true
fits-at low [] k d p h = absurd (omega arith)
fits-at low (e ∷ es) zero d p h = (rises low e es p).fits
fits-at low (e ∷ es) (suc k) d p h = fits-at (e.card + 1) es k d (rises low e es p).rest (omega arith)

-- one of those held, in their table
pub held-fits : (t : List CardEntry) (held at : ℕ) → rising 0 (take held t) ≡ true → at < length (take held t) → entry_fits (get_or t at no_entry) ≡ true
held-fits t held at p h =
    let n = length-take held t in
    rw (get_or-take held t at no_entry (omega arith)) at (fits-at 0 (take held t) at no_entry p h)

-- at its entry
pub record Stands (card : ℕ) (es : List CardEntry) (i : ℕ) (d : CardEntry) : Type 0 where
  pub place : below card es ≡ i
  pub entry : entry_for card es ≡ get_or es i d

module _ (card : ℕ) (d : CardEntry) where
  pub stands-at : (low : ℕ) (es : List CardEntry) (i : ℕ) → rising low es ≡ true → i < length es → (get_or es i d).card ≡ card → Stands card es i d
  stands-at low [] i p h e = absurd (omega arith)
  stands-at low (x ∷ es) zero p h e = record { place = below_none card x es (omega arith); entry = entry_here card x es (sym e) }
  stands-at low (x ∷ es) (suc i) p h e =
      let r = rises low x es p in
      let n = from-low (x.card + 1) es i d r.rest (omega arith) in
      let s = stands-at (x.card + 1) es i r.rest (omega arith) e in
      record { place = below-past card x es (omega arith) ∙ ap suc s.place; entry = entry_past card x es (λ q. omega arith) ∙ s.entry }

  -- and where it would go
  gap-at : (es : List CardEntry) (i : ℕ) → i ≤ length es → ((k : ℕ) → k < i → (get_or es k d).card < card)
      → ((k : ℕ) → i ≤ k → k < length es → card < (get_or es k d).card) → (below card es ≡ i) × (entry_for card es ≡ no_entry)
  unfolding below entry_for
  gap-at [] i h lo hi = (omega arith, refl)
  gap-at (x ∷ es) zero h lo hi =
      let a = hi 0 (omega arith) (omega arith) in
      let n = gap-at es 0 (omega arith) (λ k q. absurd (omega arith)) (λ k q r. hi (suc k) (omega arith) (omega arith)) in
      (below_none card x es (omega arith), entry_past card x es (λ q. omega arith) ∙ n.1)
  gap-at (x ∷ es) (suc i) h lo hi =
      let a = lo 0 (omega arith) in
      let n = gap-at es i (omega arith) (λ k q. lo (suc k) (omega arith)) (λ k q r. hi (suc k) (omega arith) (omega arith)) in
      (below-past card x es a ∙ ap suc n.0, entry_past card x es (λ q. omega arith) ∙ n.1)

  -- an entry that there is
  pub entry-at : (low : ℕ) (es : List CardEntry) → rising low es ≡ true → ((entry_for card es).count ≡ 0 → ⊥)
      → (below card es < length es) × (entry_for card es ≡ get_or es (below card es) d)
  unfolding entry_for
  entry-at low [] p z = absurd (z refl)
  entry-at low (x ∷ es) p z =
      let r = rises low x es p in
      order x.card card
      (λ h.
      let q = entry_past card x es (λ w. omega arith) in
      let n = entry-at (x.card + 1) es r.rest (λ w. z (ap (λ (y : CardEntry). y.count) q ∙ w)) in
      let k = n.0 in
      rw (below-past card x es h, q) (omega arith, n.1))
      (λ h. rw (below_none card x es (omega arith), entry_here card x es (sym h)) (omega arith, refl))
      (λ h. absurd (z (ap (λ (y : CardEntry). y.count) (entry_past card x es (λ w. omega arith) ∙ absent card (x.card + 1) es (omega arith) r.rest))))

module _ (card : ℕ) (es : List CardEntry) (up : rising 0 es ≡ true) where
  place-at : (i : ℕ) → i < length es → (get_or es i no_entry).card ≡ card → Ok i ≡ place_of card es
  unfolding place_of
  place-at i h e =
      let s = stands-at card no_entry 0 es i up h e in
      let f = (fits_in (get_or es i no_entry) (fits-at 0 es i no_entry up h)).some in
      rw (s.entry, s.place, ne_eqb (get_or es i no_entry).count 0 (λ q. omega arith))

  gap-is : (i : ℕ) → (below card es ≡ i) × (entry_for card es ≡ no_entry) → Err i ≡ place_of card es
  unfolding place_of
  gap-is i n = rw (n.1, n.0)

  comparisons-rise : IsNonDecreasingBy (λ e. ordering_index (nat_cmp e.card card)) es
  comparisons-rise = searchable_from_sorted nat_cmp_total (λ (e : CardEntry). e.card) es card (λ k d l h. let n = climbs 0 es k d up h in grind (arith, nat_tests))

  -- A BINARY SEARCH BY CARD
  pub searched : (r : Result ℕ ℕ) → IsSearchInRange r (length es) → IsBinarySearchResult (λ e. nat_cmp e.card card) es r → r ≡ place_of card es
  searched (Ok i) h equal = place-at i h (ranked _ card _ (sym (equal no_entry)))
  searched (Err i) h parted =
      gap-is i
      (gap-at card no_entry es i h
      (λ k q. ranked _ card _ (sym ((parted comparisons-rise).0 k no_entry (omega arith) q)))
      (λ k q r. ranked _ card _ (sym ((parted comparisons-rise).1 k no_entry q r))))

  -- a place that is answered
  pub place-within : (i : ℕ) → Ok i ≡ place_of card es → (i < length es) × (entry_for card es ≡ get_or es i no_entry)
  unfolding place_of
  place-within i e = go (eqb (entry_for card es).count 0) refl e
    where
      go : (b : Bool) → eqb (entry_for card es).count 0 ≡ b → ◌≡◌ {A = Result ℕ ℕ} (Ok i) (pick b (Err (below card es)) (Ok (below card es))) → (i < length es) × (entry_for card es ≡ get_or es i no_entry)
      go true p q = absurd (cc)
      go false p q =
          let n : i ≡ below card es = cc in
          rw n (entry-at card no_entry 0 es up (λ z. let f = sym p ∙ eq-eqb (entry_for card es).count 0 z in absurd (cc)))

  pub gap-within : (i : ℕ) → Err i ≡ place_of card es → (i ≤ length es)
  unfolding place_of
  gap-within i e = go (eqb (entry_for card es).count 0) e
    where
      go : (b : Bool) → ◌≡◌ {A = Result ℕ ℕ} (Err i) (pick b (Err (below card es)) (Ok (below card es))) → i ≤ length es
      go true q = let n : i ≡ below card es = cc in let w = below-within card es in omega arith
      go false q = absurd (cc)
