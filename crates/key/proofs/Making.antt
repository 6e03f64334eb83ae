-- What `make` answers and leaves after its checks, under a tally: all of it, or nothing where a module call was not answered.
use mathlib.Core.Path.{◌≡◌, refl, ◌∙◌}
use mathlib.Core.List.{List, ◌++◌}
use mathlib.Core.Bool.{false}
use Prim.Native.Nat.{ℕ, ◌-◌}
use native.Mathlib.Omega.{arith}
use lib.ListN.{length, replicate, take, drop, take-append-drop}
use lib.Seq.{take_all}
use borrow.Author.Tests.{eq-eqb}
use Rattle.std.specs.Prelude.{Result, Ok, Err}
use Rattle.fields.specs.Fields.{part}
use Rattle.fields.proofs.Laws.{tail-whole, tail-back, drop-back}
use Rattle.fields.specs.Tests.{pick}
use Rattle.refusal.specs.declared.Refusal.{Refusal}
use Rattle.refusal.specs.declared.Refusal.TheVariants.{Unanswered}
use Rattle.ed25519.specs.Ed25519.{Scheme}
use Rattle.ed25519.specs.Tally.{asked}
use Rattle.ed25519.specs.declared.Unanswered.{Unanswered as Silence}
use Rattle.ed25519.proofs.Asks.{asks-given, asks-silent, asks-value}
use Rattle.tree.proofs.Growing.{zeros-are}
use Rattle.rules.specs.Table.{header_size, table_size, header, header_bytes, body_in}
use Rattle.rules.specs.Trees.{Heights, too_high}
use Rattle.rules.specs.Calls.{make_work, Makes, MakeOutcome, not_made, made, make_outcome, make_tallied}
use Rattle.part.specs.Inside.{Commits}

-- a table d whose tail behind the header was lent and came back as ys
abbrev pub relaid : List ℕ → List ℕ → List ℕ
relaid d ys = take header_size d ++ (ys ++ drop (length d - header_size) (drop header_size d))

module _ (E : Scheme) (ht : Heights) (s d : List ℕ) (t : ℕ) where
  makes : (o : MakeOutcome) {a : Result ℕ Refusal} {s' d' : List ℕ} {t' : ℕ} → make_outcome E ht s d ≡ o → a ≡ (pick (asked E o.calls t).given o (not_made Unanswered s d)).answer
      → s' ≡ (pick (asked E o.calls t).given o (not_made Unanswered s d)).seed → d' ≡ (pick (asked E o.calls t).given o (not_made Unanswered s d)).table
      → t' ≡ (asked E o.calls t).tally → Makes E ht s d t a s' d' t'
  unfolding make_tallied
  makes o e ea es ed et = record { answers = ea ∙ rw e; zeroes = es ∙ rw e; leaves = ed ∙ rw e; tallies = et ∙ rw e }

  module _ (low : too_high ht ≡ false) (ls : length s ≡ 32) {n : ℕ} (en : n ≡ table_size ht) (ld : length d ≡ n) {from : List ℕ} (ef : from ≡ part s 0 32) where
    makes-on : make_outcome E ht s d ≡ made ht (make_work E ht s)
    unfolding make_outcome
    makes-on = rw (low, eq-eqb (length s) 32 ls, eq-eqb (length d) (table_size ht) (ld ∙ en))

    made-work : {t' : ℕ} {ys : List ℕ} {r : Result ℕ Silence} → Commits E (make_work E ht from) t r t' (part d header_size (length d - header_size)) ys
        → Commits E (make_work E ht s) t r t' (body_in d) ys
    made-work w = rw (← take_all 32 s (omega arith), ← ef, ← tail-whole d header_size) w

    pub make-unanswered : {t' : ℕ} {ys : List ℕ} {u : Silence} {why : Refusal} {a : Result ℕ Refusal}
        → Commits E (make_work E ht from) t (Err u) t' (part d header_size (length d - header_size)) ys → a ≡ Err why → why ≡ Unanswered
        → Makes E ht s d t a s (relaid d ys) t'
    make-unanswered {ys = ys} k ea ew =
        let w = made-work k in
        let y = asks-silent E w.asks refl in
        makes (made ht (make_work E ht s)) makes-on (ea ∙ rw (y, ew)) (rw y) (tail-back d ys header_size ∙ rw (y, w.err) (take-append-drop header_size d)) w.asks.leaves

    pub make-done : {k t' : ℕ} {ys s' d' : List ℕ} → Commits E (make_work E ht from) t (Ok k) t' (part d header_size (length d - header_size)) ys
        → d' ≡ header_bytes (header ht 0 0 0) ++ body_in (relaid d ys) → s' ≡ replicate (length s) 0 → Makes E ht s d t (Ok k) s' d' t'
    make-done {k} {ys = ys} w₀ ed es =
        let w = made-work w₀ in
        let y = asks-given E w.asks refl in
        let c : k ≡ (make_work E ht s).count = asks-value E w.asks refl in
        makes (made ht (make_work E ht s)) makes-on (rw (y, c)) (rw y (es ∙ rw ls zeros-are)) (ed ∙ rw (y, drop-back d ys header_size (omega arith), w.ok)) w.asks.leaves
