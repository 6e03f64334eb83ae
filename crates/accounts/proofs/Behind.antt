-- Lines met are counted one after the other, and their sums fit.
use Rattle.std.proofs.Common.{◌≡◌, refl, sym, subst, ℕ, List, [], ◌∷◌, Option, None, Some, fold}
use Rattle.ed25519.specs.Ed25519.{Scheme}
use Rattle.lines.specs.Lines.{Line, bytes_in, ended_in}
use Rattle.records.specs.declared.FirstLine.{FirstLine}
use Rattle.ledger.specs.Meeting.{Met, head_of}
use Rattle.ledger.specs.Passing.{met_head, met_in_phase, on_line, met_on, met_along, met_after}
use Rattle.ledger.specs.Inside.{InOrder, met_by}
use Rattle.ledger.specs.Reading.{CanMeet}
use Rattle.ledger.specs.declared.Event.{Event}
use Rattle.ledger.specs.declared.Event.TheVariants.{NoLine, Begun, Headless, Numbered}
use Rattle.ledger.specs.declared.Phase.{Phase}
use Rattle.ledger.specs.declared.Phase.TheVariants.{First, Body, Past, Closed}
use Rattle.ledger.specs.declared.Stream.{Stream}
use Rattle.ledger.proofs.Phases.{keeps_line}
use Rattle.ledger.proofs.Readers.{can-then}
use Rattle.sums.specs.declared.Sums.{Sums}
use Rattle.accounts.specs.Inside.{account_after, on_event, AccountFits, Agrees}
use Rattle.accounts.specs.Behind.{counted, Fits}
use Rattle.accounts.specs.declared.counting.Counting.{Counting}
use Rattle.accounts.proofs.Bounds.{up_to_fits, number-most, line-agrees}

abbrev pub Can : Counting → List Met → Type 0
Can w ms = CanMeet Fits counted w ms

pub all-counted : (w : Counting) (ms : List Met) → fold counted w ms ≡ record { account = account_after w.account ms }
unfolding account_after
all-counted w [] = refl
all-counted w (m ∷ ms) = all-counted (counted w m) ms

pub counted-event : (w : Counting) (v : Event) (l : List ℕ) {a : Option Sums} → a ≡ on_event w.account v → record { account = a } ≡ fold counted w (met_by v l)
counted-event w NoLine l e = rw e
counted-event w Begun l e = rw e
counted-event w Headless l e = rw e
counted-event w (Numbered n j) l e = rw e

pub can-count : (w : Counting) (v : Event) (l : List ℕ) → (v ≡ NoLine → ⊥) → Can w (met_by v l) → AccountFits (on_event w.account v)
can-count w NoLine l f c = absurd (f refl)
can-count w Begun l f c = c.0
can-count w Headless l f c = c.0
can-count w (Numbered n j) l f c = c.0

head-can : (w : Counting) (x : Option FirstLine) (l : List ℕ) → AccountFits (account_after w.account (met_head x l)) → Can w (met_head x l)
unfolding account_after
head-can w None l h = (h, tt)
head-can w (Some k) l h = (h, tt)

module _ (E : Scheme) where
  line-can : (w : Counting) (s : Stream) (p : Phase) (l : Line) → AccountFits (account_after w.account (met_in_phase E s p l)) → Can w (met_in_phase E s p l)
  unfolding account_after
  line-can w s First l h = head-can w (head_of l) (bytes_in l) h
  line-can w s (Body k c b) l h = (h, tt)
  line-can w s (Past b) l h = tt
  line-can w s Closed l h = tt

  along-can : (w : Counting) (s : Stream) (ls : List Line) → InOrder s → Agrees s w.account → Can w (met_along E s ls)
  unfolding met_along met_on
  along-can w s [] k u = tt
  along-can w s (l ∷ ls) k u =
      let ms = met_on E s l in
      let next = on_line E s l in
      let keeps = keeps_line E s l k in
      let agrees = line-agrees E s w.account l k u in
      let e = all-counted w ms in
      can-then Fits counted w ms (met_along E next ls) (line-can w s s.phase l (up_to_fits (account_after w.account ms) (number-most E next keeps) agrees))
      (along-can (fold counted w ms) next ls keeps (subst (λ (x : Counting). Agrees next x.account) (sym e) agrees))

  pub piece-can : (w : Counting) (s : Stream) (come x : List ℕ) → InOrder s → Agrees s w.account → Can w (met_after E s come x)
  unfolding met_after
  piece-can w s come x k u = along-can w s (ended_in come x) k u
