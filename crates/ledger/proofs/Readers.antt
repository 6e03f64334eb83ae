-- A reader's loop: lines met one after the other, each of which it can take.
use mathlib.Core.Path.{◌≡◌, refl, sym, ap, ◌∙◌, subst}
use mathlib.Core.List.{List, [], ◌∷◌, ◌++◌}
use Prim.Native.Nat.{ℕ, ◌≤◌, ◌<◌}
use lib.ListN.{length, take, drop}
use lib.Seq.{take_all}
use Rattle.std.specs.Prelude.{fold}
use Rattle.std.proofs.lemmas.List.{take-append-drop}
use Rattle.ed25519.specs.Ed25519.{Scheme}
use Rattle.lines.specs.Lines.{ended_in, since_lf}
use Rattle.lines.specs.Inside.{in_piece}
use Rattle.lines.proofs.Buffer.{kept-length}
use Rattle.ledger.specs.Meeting.{Met}
use Rattle.ledger.specs.Passing.{met_along, met_after, stream_after}
use Rattle.ledger.specs.Inside.{met_by, Steps}
use Rattle.ledger.specs.Reading.{CanMeet}
use Rattle.ledger.specs.declared.Event.{Event}
use Rattle.ledger.specs.declared.Event.TheVariants.{NoLine}
use Rattle.ledger.specs.declared.Step.{Step}
use Rattle.ledger.specs.declared.Stream.{Stream}
use Rattle.ledger.proofs.Parts.{Along, met-then, met-step}

-- the bytes of the line are in the buffer
pub step-size : (E : Scheme) {s s' : Stream} {line line' piece : List ℕ} {from : ℕ} {r : Step} → Steps E s line piece from r s' line' → r.size ≤ 2048
step-size E {s} {line = line} {piece = piece} {from = from} t = rw t.size (kept-length (take s.size line ++ in_piece piece from))

module _ {R : Type 0} (can : R → Met → Type 0) (after : R → Met → R) where
  pub folded-both : (r : R) (ms ns : List Met) → fold after r (ms ++ ns) ≡ fold after (fold after r ms) ns
  folded-both r [] ns = refl
  folded-both r (m ∷ ms) ns = folded-both (after r m) ms ns

  pub can-front : (r : R) (ms ns : List Met) → CanMeet can after r (ms ++ ns) → CanMeet can after r ms
  can-front r [] ns c = tt
  can-front r (m ∷ ms) ns c = (c.0, can-front (after r m) ms ns c.1)

  pub can-rest : (r : R) (ms ns : List Met) → CanMeet can after r (ms ++ ns) → CanMeet can after (fold after r ms) ns
  can-rest r [] ns c = c
  can-rest r (m ∷ ms) ns c = can-rest (after r m) ms ns c.1

  pub can-then : (r : R) (ms ns : List Met) → CanMeet can after r ms → CanMeet can after (fold after r ms) ns → CanMeet can after r (ms ++ ns)
  can-then r [] ns c d = d
  can-then r (m ∷ ms) ns c d = (c.0, can-then (after r m) ms ns c.1 d)

  -- where no line was met, the reader stays as it was
  pub still-met : (v : Event) (l : List ℕ) (r : R) → v ≡ NoLine → r ≡ fold after r (met_by v l)
  still-met v l r e = rw e

module _ (E : Scheme) {R : Type 0} (can : R → Met → Type 0) (after : R → Met → R) where
  pub none-met : (s : Stream) (line piece : List ℕ) (r : R) → r ≡ fold after r (met_after E s (take s.size line) (take 0 piece))
  unfolding met_after ended_in met_along
  none-met s line piece r = refl

  module _ {s s' s'' : Stream} {line line' line'' piece : List ℕ} {i : ℕ} {q : Step} (r : R) {r' : R} (h : i < length piece) (a : Along E s line piece i s' line') (t : Steps E s' line' piece i q s'' line'')
      (e : r' ≡ fold after r (met_after E s (take s.size line) (take i piece))) where
    pub met-on : {r'' : R} → r'' ≡ fold after r' (met_by q.event (take q.size line'')) → r'' ≡ fold after r (met_after E s (take s.size line) (take q.next piece))
    met-on f =
        let come = take s.size line in
        let before = met_after E s come (take i piece) in
        let more = met_by q.event (take q.size line'') in
        f ∙ ap (λ (x : R). fold after x more) e ∙ sym (folded-both can after r before more) ∙ ap (fold after r) (sym (met-step E h a t))

    pub can-on : CanMeet can after r (met_after E s (take s.size line) piece) → CanMeet can after r' (met_by q.event (take q.size line''))
    can-on c =
        let come = take s.size line in
        let front = take q.next piece in
        let back = drop q.next piece in
        let before = met_after E s come (take i piece) in
        let more = met_by q.event (take q.size line'') in
        let rest = met_after E (stream_after E s come front) (since_lf come front) back in
        let all : met_after E s come piece ≡ (before ++ more) ++ rest =
        ap (met_after E s come) (sym (take-append-drop q.next piece)) ∙ met-then E s come front back ∙ ap (λ (ms : List Met). ms ++ rest) (met-step E h a t) in
        rw e (can-rest can after r before more (can-front can after r (before ++ more) rest (subst (CanMeet can after r) all c)))

  pub all-met : (s : Stream) (line piece : List ℕ) (r : R) {i : ℕ} {r' : R} → length piece ≤ i → r' ≡ fold after r (met_after E s (take s.size line) (take i piece))
      → r' ≡ fold after r (met_after E s (take s.size line) piece)
  all-met s line piece r {i = i} h e = e ∙ ap (λ (x : List ℕ). fold after r (met_after E s (take s.size line) x)) (take_all i piece h)
