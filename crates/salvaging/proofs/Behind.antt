-- Lines met are saved or listed behind one another, and there is room for them.
use mathlib.Core.Path.{◌≡◌, refl, sym, ap, ◌∙◌}
use mathlib.Core.List.{List, [], ◌∷◌, ◌++◌, append-nil}
use Prim.Native.Nat.{ℕ, ◌+◌, ◌*◌, ◌≤◌}
use native.Mathlib.Omega.{arith}
use lib.ListN.{length, take, length-append}
use Rattle.std.specs.Prelude.{Option, None, Some, fold}
use Rattle.ed25519.specs.Ed25519.{Scheme}
use Rattle.text.specs.Digits.{Puts}
use Rattle.text.proofs.Writing.{puts_none, puts_then}
use Rattle.lines.specs.Lines.{Line, bytes_in, ended_in}
use Rattle.records.specs.declared.FirstLine.{FirstLine}
use Rattle.ledger.specs.Meeting.{Met, begun, headless, numbered, head_of}
use Rattle.ledger.specs.Passing.{met_head, met_in_phase, met_on, on_line, met_along, met_after}
use Rattle.ledger.specs.Inside.{met_by}
use Rattle.ledger.specs.Reading.{CanMeet}
use Rattle.ledger.specs.declared.Event.{Event}
use Rattle.ledger.specs.declared.Event.TheVariants.{NoLine, Begun, Headless, Numbered}
use Rattle.ledger.specs.declared.Phase.{Phase}
use Rattle.ledger.specs.declared.Phase.TheVariants.{First, Body, Past, Closed}
use Rattle.ledger.specs.declared.Stream.{Stream}
use Rattle.ledger.proofs.Readers.{can-then}
use Rattle.verdicts.proofs.Texts.{line-length, ended-few}
use Rattle.verdicts.proofs.Behind.{length-kept}
use Rattle.saving.specs.Salvage.{saved_of, listed_of, saved_in, listed_in}
use Rattle.saving.proofs.Alone.{saved-both}
use Rattle.salvaging.specs.Behind.{salvaged, HasRoom}
use Rattle.salvaging.specs.declared.feeding.Salvaging.{Salvaging}
use Rattle.ledger.proofs.Parts.{few}
use Rattle.salvaging.proofs.Room.{saved-length, listed-fewer}

abbrev pub Can : Salvaging → List Met → Type 0
Can w ms = CanMeet HasRoom salvaged w ms

pub saves-met : (w : Salvaging) (ms : List Met) → Can w ms → Puts w.journal.now w.saved (saved_in ms) (fold salvaged w ms).saved (fold salvaged w ms).journal.now
unfolding saved_in
saves-met w [] c = puts_none w.journal.now w.saved
saves-met w (m ∷ ms) c =
    puts_then (saved_of m) (saved_in ms) (omega (arith, c.0.0)) (record { ends = refl; leaves = refl }) (saves-met (salvaged w m) ms c.1)

pub lists-met : (w : Salvaging) (ms : List Met) → Can w ms → Puts w.list.now w.listed (listed_in ms) (fold salvaged w ms).listed (fold salvaged w ms).list.now
unfolding listed_in
lists-met w [] c = puts_none w.list.now w.listed
lists-met w (m ∷ ms) c =
    puts_then (listed_of m) (listed_in ms) (omega (arith, c.0.1)) (record { ends = refl; leaves = refl }) (lists-met (salvaged w m) ms c.1)

pub names-kept : (w : Salvaging) (ms : List Met) → ((fold salvaged w ms).journal.ghost_name ≡ w.journal.ghost_name) × ((fold salvaged w ms).list.ghost_name ≡ w.list.ghost_name)
names-kept w [] = (refl, refl)
names-kept w (m ∷ ms) = names-kept (salvaged w m) ms

-- an event, as it is saved and listed
nothing-put : {d d₁ : List ℕ} {at r : ℕ} → Puts d at [] r d₁ → (r ≡ at) × (d₁ ≡ d)
nothing-put {d} {at = at} p = (p.ends ∙ (let z : at + 0 ≡ at = omega arith in z), p.leaves ∙ sym (puts_none d at).leaves)

pub salvaged-event : (w : Salvaging) (v : Event) (l : List ℕ) {r n : ℕ} {x y : List ℕ} → Puts w.journal.now w.saved (saved_in (met_by v l)) r x
    → Puts w.list.now w.listed (listed_in (met_by v l)) n y
    → record w { journal = record w.journal { now = x }; saved = r; list = record w.list { now = y }; listed = n } ≡ fold salvaged w (met_by v l)
unfolding saved_in listed_in
salvaged-event w NoLine l p q = let a = nothing-put p in let b = nothing-put q in rw (a.0, a.1, b.0, b.1)
salvaged-event w Begun l p q = rw (p.ends, p.leaves, q.ends, q.leaves, append-nil)
salvaged-event w Headless l p q = rw (p.ends, p.leaves, q.ends, q.leaves, append-nil)
salvaged-event w (Numbered n j) l p q = rw (p.ends, p.leaves, q.ends, q.leaves, append-nil, append-nil)

saved-one : (m : Met) → length (saved_in (m ∷ [])) ≡ length (saved_of m)
unfolding saved_in
saved-one m = ap length (append-nil (saved_of m))

pub can-save : (w : Salvaging) (v : Event) (l : List ℕ) → (v ≡ NoLine → ⊥) → Can w (met_by v l) → w.saved + length (saved_in (met_by v l)) ≤ length w.journal.now
can-save w NoLine l f c = absurd (f refl)
can-save w Begun l f c = omega (arith, c.0.0, saved-one (begun l))
can-save w Headless l f c = omega (arith, c.0.0, saved-one headless)
can-save w (Numbered n j) l f c = omega (arith, c.0.0, saved-one (numbered n l j))

pub can-list : (w : Salvaging) (v : Event) (l : List ℕ) → (v ≡ NoLine → ⊥) → Can w (met_by v l) → w.listed + 23 ≤ length w.list.now
can-list w NoLine l f c = absurd (f refl)
can-list w Begun l f c = c.0.1
can-list w Headless l f c = c.0.1
can-list w (Numbered n j) l f c = c.0.1

-- THERE IS ROOM
one-can : (w : Salvaging) (m : Met) → w.saved + length (saved_in (m ∷ [])) ≤ length w.journal.now → w.listed + 23 ≤ length w.list.now → Can w (m ∷ [])
one-can w m h k = ((omega (arith, saved-one m), k), tt)

head-can : (w : Salvaging) (x : Option FirstLine) (l : List ℕ) → w.saved + length (saved_in (met_head x l)) ≤ length w.journal.now → w.listed + 23 ≤ length w.list.now → Can w (met_head x l)
head-can w None l h k = one-can w headless h k
head-can w (Some f) l h k = one-can w (begun l) h k

module _ (E : Scheme) where
  line-can : (w : Salvaging) (s : Stream) (p : Phase) (l : Line) → w.saved + length (saved_in (met_in_phase E s p l)) ≤ length w.journal.now → w.listed + 23 ≤ length w.list.now
      → Can w (met_in_phase E s p l)
  line-can w s First l h k = head-can w (head_of l) (bytes_in l) h k
  line-can w s (Body f c b) l h k = one-can w _ h k
  line-can w s (Past b) l h k = tt
  line-can w s Closed l h k = tt

  along-can : (w : Salvaging) (s : Stream) (ls : List Line) → w.saved + length (saved_in (met_along E s ls)) ≤ length w.journal.now → w.listed + 24 * length ls ≤ length w.list.now
      → Can w (met_along E s ls)
  unfolding met_along met_on
  along-can w s [] h k = tt
  along-can w s (l ∷ ls) h k =
      let ms = met_on E s l in
      let rest = met_along E (on_line E s l) ls in
      let e : length (saved_in (ms ++ rest)) ≡ length (saved_in ms) + length (saved_in rest) = ap length (saved-both ms rest) ∙ length-append (saved_in ms) (saved_in rest) in
      let c = line-can w s s.phase l (omega (arith, e)) (omega arith) in
      let p = saves-met w ms c in
      let q = lists-met w ms c in
      let n = listed-fewer ms in
      let m = line-length E s l in
      can-then HasRoom salvaged w ms rest c
      (along-can (fold salvaged w ms) (on_line E s l) ls
      (omega (arith, p.ends, e, length-kept (omega (arith, e)) p))
      (omega (arith, q.ends, n, m, length-kept (omega (arith, n, m)) q)))

  pub piece-can : (w : Salvaging) (s : Stream) (line x : List ℕ) → length line ≡ 2048 → w.saved + (2048 + length x) ≤ length w.journal.now → w.listed + 24 * length x ≤ length w.list.now
      → Can w (met_after E s (take s.size line) x)
  unfolding met_after
  piece-can w s line x room h k =
      let come = take s.size line in
      along-can w s (ended_in come x) (omega (arith, saved-length E s come x, few s.size line room)) (omega (arith, ended-few come x))

-- what was lent ends as the salvaging leaves it
module _ (w v : Salvaging) (ms : List Met) {d : List ℕ} (c : Can w ms) (e : v ≡ fold salvaged w ms) where
  pub fed-saved : (w.journal.ghost_name ≡ v.journal.ghost_name → d ≡ v.journal.now) → Puts w.journal.now w.saved (saved_in ms) v.saved d
  fed-saved f = rw (f (sym (ap (λ (x : Salvaging). x.journal.ghost_name) e ∙ (names-kept w ms).0)), e) (saves-met w ms c)

  pub fed-listed : (w.list.ghost_name ≡ v.list.ghost_name → d ≡ v.list.now) → Puts w.list.now w.listed (listed_in ms) v.listed d
  fed-listed f = rw (f (sym (ap (λ (x : Salvaging). x.list.ghost_name) e ∙ (names-kept w ms).1)), e) (lists-met w ms c)
