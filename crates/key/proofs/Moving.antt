-- What `move_to` answers and leaves after its checks, under a tally: all of it, or the table as it was where a module call was not answered.
use mathlib.Core.Path.{◌≡◌, refl, ◌∙◌}
use mathlib.Core.List.{List, ◌++◌}
use Prim.Native.Nat.{ℕ, ◌-◌, ◌≤◌, ◌<◌}
use native.Mathlib.Omega.{arith}
use lib.ListN.{length, take-append-drop}
use borrow.Author.Tests.{lt-ltb, le-leb, lt-leb}
use Rattle.std.specs.Prelude.{Result, Ok, Err}
use Rattle.fields.specs.Fields.{part}
use Rattle.fields.proofs.Laws.{tail-whole, tail-back, drop-back}
use Rattle.fields.specs.Tests.{pick}
use Rattle.refusal.specs.declared.Refusal.{Refusal}
use Rattle.refusal.specs.declared.Refusal.TheVariants.{Unanswered}
use Rattle.ed25519.specs.Ed25519.{Scheme}
use Rattle.ed25519.specs.Tally.{asked}
use Rattle.ed25519.specs.declared.Unanswered.{Unanswered as Silence}
use Rattle.ed25519.proofs.Asks.{asks-given, asks-silent, asks-value}
use Rattle.rules.specs.Table.{header_size, steps, at_step, header_bytes, body_in, header_of}
use Rattle.rules.specs.Calls.{move_work, Moves, MoveOutcome, not_moved, moved, move_under, move_outcome, move_tallied}
use Rattle.rules.specs.declared.Header.{Header}
use Rattle.part.specs.Inside.{Commits}
use Rattle.key.proofs.Making.{relaid}

module _ (E : Scheme) (d : List ℕ) (b t : ℕ) where
  moves : (o : MoveOutcome) {a : Result ℕ Refusal} {d' : List ℕ} {t' : ℕ} → move_outcome E d b ≡ o → a ≡ (pick (asked E o.calls t).given o (not_moved Unanswered d)).answer
      → d' ≡ (pick (asked E o.calls t).given o (not_moved Unanswered d)).table → t' ≡ (asked E o.calls t).tally → Moves E d b t a d' t'
  unfolding move_tallied
  moves o e ea ed et = record { answers = ea ∙ rw e; leaves = ed ∙ rw e; tallies = et ∙ rw e }

  module _ {f : Result Header Refusal} {x : Header} (e : f ≡ header_of d) (g : f ≡ Ok x) (l : header_size ≤ length d) (u : b < steps x.heights) (p : x.step < b) (v : b ≤ x.first)
      (v' : b ≤ x.second) where
    moves-on : move_outcome E d b ≡ moved x b (move_work E x (body_in d) b)
    unfolding move_outcome move_under
    moves-on = rw (← e, g, lt-leb (steps x.heights) b u, lt-leb b x.step p, le-leb b x.first v, le-leb b x.second v')

    work : {t' : ℕ} {ys : List ℕ} {r : Result ℕ Silence} → (let xs = part d header_size (length d - header_size) in Commits E (move_work E x xs b) t r t' xs ys)
        → Commits E (move_work E x (body_in d) b) t r t' (body_in d) ys
    work w = rw (← tail-whole d header_size) w

    pub move-unanswered : {t' : ℕ} {ys : List ℕ} {u : Silence} {why : Refusal} {a : Result ℕ Refusal}
        → (let xs = part d header_size (length d - header_size) in Commits E (move_work E x xs b) t (Err u) t' xs ys) → a ≡ Err why → why ≡ Unanswered
        → Moves E d b t a (relaid d ys) t'
    move-unanswered {ys = ys} k ea ew =
        let w = work k in
        let y = asks-silent E w.asks refl in
        moves (moved x b (move_work E x (body_in d) b)) moves-on (ea ∙ rw (y, ew)) (tail-back d ys header_size ∙ rw (y, w.err) (take-append-drop header_size d)) w.asks.leaves

    pub move-done : {k t' : ℕ} {ys d' : List ℕ} → (let xs = part d header_size (length d - header_size) in Commits E (move_work E x xs b) t (Ok k) t' xs ys)
        → d' ≡ header_bytes (at_step x b) ++ body_in (relaid d ys) → Moves E d b t (Ok k) d' t'
    move-done {k} {ys = ys} w₀ ed =
        let w = work w₀ in
        let y = asks-given E w.asks refl in
        let n : k ≡ (move_work E x (body_in d) b).count = asks-value E w.asks refl in
        moves (moved x b (move_work E x (body_in d) b)) moves-on (rw (y, n)) (ed ∙ rw (y, drop-back d ys header_size l, w.ok)) w.asks.leaves
