-- A turn of the loop, for a run.
use Rattle.std.proofs.Common.{◌≡◌, sym, ◌∙◌, subst, ℕ, true, false, List, [], length, take, IfSome, Option}
use Rattle.std.specs.Io.KnownBytes.{Appends, Consumes, IsAtEnd}
use Rattle.judging.specs.declared.Order.TheVariants.{Strict}
use Rattle.ledger.specs.Passing.{fresh}
use Rattle.ledger.specs.declared.Stream.{Stream}
use Rattle.verdicts.specs.Output.{journal_output}
use Rattle.verdicts.specs.Turning.{turn_text, Turns, Runs, at_end, stops, goes_on}
use Rattle.verdicts.specs.declared.Turned.{Turned}
use Rattle.verdicts.proofs.Law.{run-law}
use Rattle.verdicts.proofs.Reading.{front-text}
use Rattle.verdicts.proofs.Along.{Along, along-on, along-last}
use Rattle.ed25519.specs.Ed25519.{Scheme}

module _ (E : Scheme) (had has has' held holds holds' : Option (List ℕ)) {line₀ : List ℕ} {s s' : Stream} {line piece out line' : List ℕ} {r : Turned} {out' : List ℕ}
    (a : Along (Runs E) (fresh Strict) line₀ had has held holds s line) (c : Consumes has has' piece) (w : Appends holds holds' (take r.at out')) (t : Turns E s line piece out s' line' r out') where
  writes : Appends holds holds' (turn_text E s (take s.size line) piece)
  writes = subst (Appends holds holds') (front-text t.puts) w

  empty : piece ≡ [] → Runs E s line [] (turn_text E s (take s.size line) piece)
  empty e = rw e (at_end (subst (λ (p : List ℕ). Turns E s line p out s' line' r out') e t))

  pub turn-on : r.over ≡ false → Along (Runs E) (fresh Strict) line₀ had has' held holds' s' line'
  turn-on o = along-on (Runs E) had has has' held holds holds' piece _ a c writes (λ ps ws q. goes_on t o q)

  pub turn-last : r.over ≡ true → (length piece ≡ 0 → IsAtEnd has') → IfSome had (λ xs. Appends held holds' (journal_output E xs))
  turn-last o h = along-last (Runs E) had has has' held holds holds' piece _ a c writes (journal_output E) (run-law E line₀) s'.phase (sym t.ends ∙ o) h empty (λ q ps. stops {pieces = ps} t q)
