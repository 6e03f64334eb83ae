-- Lines met are written behind one another, and there is room for them.
use mathlib.Core.Path.{◌≡◌, refl, sym, ap, ◌∙◌}
use mathlib.Core.List.{List, [], ◌∷◌, ◌++◌, append-nil}
use Prim.Native.Nat.{ℕ, ◌+◌, ◌-◌, ◌*◌, ◌≤◌}
use native.Mathlib.Omega.{arith}
use lib.ListN.{length, take, drop, length-append}
use Rattle.std.proofs.lemmas.List.{length-drop}
use lib.Seq.{length-take-le}
use Rattle.std.specs.Prelude.{Option, None, Some, fold}
use Rattle.fields.specs.Fields.{put}
use Rattle.ed25519.specs.Ed25519.{Scheme}
use Rattle.text.specs.Digits.{Puts}
use Rattle.text.proofs.Writing.{puts_none, puts_then}
use Rattle.lines.specs.Lines.{Line, bytes_in, ended_in}
use Rattle.records.specs.declared.FirstLine.{FirstLine}
use Rattle.ledger.specs.Meeting.{Met, head_of}
use Rattle.ledger.specs.Passing.{met_head, met_in_phase, met_on, on_line, met_along, met_after}
use Rattle.ledger.specs.Inside.{met_by}
use Rattle.ledger.specs.Reading.{CanMeet}
use Rattle.ledger.specs.declared.Event.{Event}
use Rattle.ledger.specs.declared.Event.TheVariants.{NoLine, Begun, Headless, Numbered}
use Rattle.ledger.specs.declared.Phase.{Phase}
use Rattle.ledger.specs.declared.Phase.TheVariants.{First, Body, Past, Closed}
use Rattle.ledger.specs.declared.Stream.{Stream}
use Rattle.ledger.proofs.Readers.{can-then}
use Rattle.verdicts.specs.Printing.{text_of, texts}
use Rattle.verdicts.specs.Behind.{written, HasRoom}
use Rattle.verdicts.specs.declared.feeding.Writing.{Writing}
use Rattle.verdicts.proofs.Texts.{line-length, ended-few}

abbrev pub Can : Writing → List Met → Type 0
Can w ms = CanMeet (λ v m. HasRoom v) written w ms

pub puts-met : (w : Writing) (ms : List Met) → Can w ms → Puts w.out.now w.end (texts ms) (fold written w ms).end (fold written w ms).out.now
unfolding texts
puts-met w [] c = puts_none w.out.now w.end
puts-met w (m ∷ ms) c =
    puts_then (text_of m) (texts ms) (omega (arith, c.0)) (record { ends = refl; leaves = refl }) (puts-met (written w m) ms c.1)

pub name-kept : (w : Writing) (ms : List Met) → (fold written w ms).out.ghost_name ≡ w.out.ghost_name
name-kept w [] = refl
name-kept w (m ∷ ms) = name-kept (written w m) ms

-- the event as it is written
put-none : (d : List ℕ) (at : ℕ) → d ≡ put d at 0 []
put-none d at = (puts_none d at).leaves

pub written-event : (w : Writing) (v : Event) (l : List ℕ) {r : ℕ} {out : List ℕ} → Puts w.out.now w.end (texts (met_by v l)) r out
    → record w { out = record w.out { now = out }; end = r } ≡ fold written w (met_by v l)
unfolding texts
written-event w NoLine l p = rw (p.ends, p.leaves, ← put-none w.out.now w.end) (ap (λ (n : ℕ). record w { end = n }) (let z : w.end + 0 ≡ w.end = omega arith in z))
written-event w Begun l p = rw (p.ends, p.leaves)
written-event w Headless l p = rw (p.ends, p.leaves, append-nil)
written-event w (Numbered n j) l p = rw (p.ends, p.leaves, append-nil)

pub can-room : (w : Writing) (v : Event) (l : List ℕ) → (v ≡ NoLine → ⊥) → Can w (met_by v l) → HasRoom w
can-room w NoLine l f c = absurd (f refl)
can-room w Begun l f c = c.0
can-room w Headless l f c = c.0
can-room w (Numbered n j) l f c = c.0

-- THERE IS ROOM
pub length-kept : {d d₁ v : List ℕ} {at r : ℕ} → at + length v ≤ length d → Puts d at v r d₁ → length d₁ ≡ length d
length-kept {d} {d₁} {v} {at} h p =
    let l : length d₁ ≡ length (take at d ++ (v ++ drop (at + length v) d)) = ap length p.leaves in
    let a : length (take at d) ≡ at = length-take-le at d (omega arith) in
    let b : length (drop (at + length v) d) ≡ length d - (at + length v) = length-drop (at + length v) d in
    omega (arith, l, a, b, length-append (take at d) (v ++ drop (at + length v) d), length-append v (drop (at + length v) d))

head-can : (w : Writing) (x : Option FirstLine) (l : List ℕ) → HasRoom w → Can w (met_head x l)
head-can w None l h = (h, tt)
head-can w (Some k) l h = (h, tt)

module _ (E : Scheme) where
  line-can : (w : Writing) (s : Stream) (p : Phase) (l : Line) → HasRoom w → Can w (met_in_phase E s p l)
  line-can w s First l h = head-can w (head_of l) (bytes_in l) h
  line-can w s (Body k c b) l h = (h, tt)
  line-can w s (Past b) l h = tt
  line-can w s Closed l h = tt

  along-can : (w : Writing) (s : Stream) (ls : List Line) → w.end + 24 * length ls ≤ length w.out.now → Can w (met_along E s ls)
  unfolding met_along met_on
  along-can w s [] h = tt
  along-can w s (l ∷ ls) h =
      let c = line-can w s s.phase l (omega arith) in
      let p = puts-met w (met_on E s l) c in
      let n = line-length E s l in
      can-then (λ v m. HasRoom v) written w (met_on E s l) (met_along E (on_line E s l) ls) c
      (along-can (fold written w (met_on E s l)) (on_line E s l) ls (omega (arith, p.ends, n, length-kept (omega (arith, n)) p)))

  pub piece-can : (w : Writing) (s : Stream) (come x : List ℕ) → w.end + 24 * length x ≤ length w.out.now → Can w (met_after E s come x)
  unfolding met_after
  piece-can w s come x h = along-can w s (ended_in come x) (omega (arith, ended-few come x))

-- what was lent ends as the writing leaves it
pub fed : (w v : Writing) (ms : List Met) {d : List ℕ} → Can w ms → v ≡ fold written w ms → (w.out.ghost_name ≡ v.out.ghost_name → d ≡ v.out.now) → Puts w.out.now w.end (texts ms) v.end d
fed w v ms c e f = rw (f (sym (ap (λ (x : Writing). x.out.ghost_name) e ∙ name-kept w ms)), e) (puts-met w ms c)
