-- A turn of the loop, for a run: of each output alone.
use Rattle.std.proofs.Common.{◌≡◌, sym, ◌∙◌, subst, ℕ, true, false, List, [], length, take, IfSome, Option}
use Rattle.std.specs.Io.KnownBytes.{Appends, Consumes, IsAtEnd}
use Rattle.judging.specs.declared.Order.TheVariants.{Free}
use Rattle.ledger.specs.Passing.{fresh}
use Rattle.ledger.specs.declared.Stream.{Stream}
use Rattle.verdicts.proofs.Reading.{front-text}
use Rattle.verdicts.proofs.Along.{Running, Along, along-on, along-last}
use Rattle.saving.specs.Salvage.{saved_journal, saved_list, saved_in, listed_in}
use Rattle.salvaging.specs.Turning.{met_in_turn, Turns, Runs, at_end, stops, goes_on}
use Rattle.salvaging.specs.declared.Turned.{Turned}
use Rattle.salvaging.proofs.Law.{run-law}
use Rattle.ed25519.specs.Ed25519.{Scheme}

module _ (E : Scheme) where
  -- a run, whatever the other output
  abbrev pub Saves : Running
  Saves s line ps vs = (ws : List ℕ) × Runs E s line ps vs ws

  abbrev pub Lists : Running
  Lists s line ps ws = (vs : List ℕ) × Runs E s line ps vs ws

module _ (E : Scheme) {s s' : Stream} {line piece journal list line' : List ℕ} {r : Turned} {journal' list' : List ℕ}
    (t : Turns E s line piece journal list s' line' r journal' list') where
  empty : piece ≡ [] → Runs E s line [] (saved_in (met_in_turn E s (take s.size line) piece)) (listed_in (met_in_turn E s (take s.size line) piece))
  empty e = rw e (at_end (subst (λ (p : List ℕ). Turns E s line p journal list s' line' r journal' list') e t))

  module _ (had has has' held holds holds' : Option (List ℕ)) {line₀ : List ℕ} (c : Consumes has has' piece) (a : Along (Saves E) (fresh Free) line₀ had has held holds s line) (w : Appends holds holds' (take r.saved journal')) where
    saves : Appends holds holds' (saved_in (met_in_turn E s (take s.size line) piece))
    saves = subst (Appends holds holds') (front-text t.saves) w

    pub save-on : r.over ≡ false → Along (Saves E) (fresh Free) line₀ had has' held holds' s' line'
    save-on o = along-on (Saves E) had has has' held holds holds' piece _ a c saves (λ ps ws q. (_, goes_on t o q.1))

    pub save-last : r.over ≡ true → (length piece ≡ 0 → IsAtEnd has') → IfSome had (λ xs. Appends held holds' (saved_journal E xs))
    save-last o h =
        along-last (Saves E) had has has' held holds holds' piece _ a c saves (saved_journal E) (λ ps vs q. (run-law E line₀ ps vs q.0 q.1).0) s'.phase (sym t.ends ∙ o) h (λ e. (_, empty e)) (λ p ps. (_, stops {pieces = ps} t p))

  module _ (had has has' held holds holds' : Option (List ℕ)) {line₀ : List ℕ} (c : Consumes has has' piece) (a : Along (Lists E) (fresh Free) line₀ had has held holds s line) (w : Appends holds holds' (take r.listed list')) where
    lists : Appends holds holds' (listed_in (met_in_turn E s (take s.size line) piece))
    lists = subst (Appends holds holds') (front-text t.lists) w

    pub list-on : r.over ≡ false → Along (Lists E) (fresh Free) line₀ had has' held holds' s' line'
    list-on o = along-on (Lists E) had has has' held holds holds' piece _ a c lists (λ ps ws q. (_, goes_on t o q.1))

    pub list-last : r.over ≡ true → (length piece ≡ 0 → IsAtEnd has') → IfSome had (λ xs. Appends held holds' (saved_list E xs))
    list-last o h =
        along-last (Lists E) had has has' held holds holds' piece _ a c lists (saved_list E) (λ ps ws q. (run-law E line₀ ps q.0 ws q.1).1) s'.phase (sym t.ends ∙ o) h (λ e. (_, empty e)) (λ p ps. (_, stops {pieces = ps} t p))
