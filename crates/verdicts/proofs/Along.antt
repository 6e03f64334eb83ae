-- What was read and what was written so far, and that a run from here on is a run from the start: for every program whose turns read pieces of a journal.
use Rattle.std.proofs.Common.{◌≡◌, sym, ap, ◌∙◌, subst, ℕ, true, List, [], ◌∷◌, ◌++◌, append_assoc, length, IfSome, eqb, eqb-true, inl, inr, Option}
use Rattle.std.proofs.lemmas.List.{nil_from_length}
use Rattle.std.specs.Io.KnownBytes.{Appends, Consumes, IsAtEnd}
use Rattle.std.proofs.KnownBytes.{Consumes-nil, Consumes-trans, Appends-nil, Appends-trans}
use Rattle.ledger.specs.Passing.{is_over}
use Rattle.ledger.specs.declared.Phase.{Phase}
use Rattle.ledger.specs.declared.Stream.{Stream}
use Rattle.verdicts.specs.Turning.{ends_at, all_of}
use Rattle.verdicts.proofs.Reading.{all-last, all-two, finished, all-read, or-either}

-- what a program's runs are: from a stream and the buffer of its line on, through these pieces, with this written
abbrev pub Running : Type 1
Running = Stream → List ℕ → List (List ℕ) → List ℕ → Type 0

-- `had` and `held` are what the reader and the writer had at first, `has` and `holds` what they have now
pub record Along (Run : Running) (start : Stream) (line₀ : List ℕ) (had has held holds : Option (List ℕ)) (s : Stream) (line : List ℕ) : Type 0 where
  pub pieces : List (List ℕ)
  pub written : List ℕ
  pub reads : Consumes had has (all_of pieces)
  pub writes : Appends held holds written
  pub goes : {ps : List (List ℕ)} {ws : List ℕ} → Run s line ps ws → Run start line₀ (pieces ++ ps) (written ++ ws)

pub along-none : (Run : Running) {start s : Stream} (line : List ℕ) (had held : Option (List ℕ)) → s ≡ start → Along Run start line had had held held s line
unfolding all_of
along-none Run {start} {s} line had held e = record {
  pieces = [];
  written = [];
  reads = Consumes-nil had;
  writes = Appends-nil held;
  goes = λ {ps} {ws} r. subst (λ (z : Stream). Run z line ps ws) e r;
}

module _ (Run : Running) (had has has' held holds holds' : Option (List ℕ)) (piece text : List ℕ) {start : Stream} {line₀ : List ℕ} {s : Stream} {line : List ℕ}
    (a : Along Run start line₀ had has held holds s line) (c : Consumes has has' piece) (w : Appends holds holds' text) where
  wrote : Appends held holds' (a.written ++ text)
  wrote = Appends-trans held holds holds' a.written text a.writes w

  read : Consumes had has' (all_of a.pieces ++ piece)
  read = Consumes-trans had has has' (all_of a.pieces) piece a.reads c

  -- one more turn
  pub along-on : {s' : Stream} {line' : List ℕ} → ((ps : List (List ℕ)) (ws : List ℕ) → Run s' line' ps ws → Run s line (piece ∷ ps) (text ++ ws))
      → Along Run start line₀ had has' held holds' s' line'
  along-on turn = record {
    pieces = a.pieces ++ (piece ∷ []);
    written = a.written ++ text;
    reads = subst (Consumes had has') (sym (all-last a.pieces piece)) read;
    writes = wrote;
    goes = λ {ps} {ws} rest.
        subst (λ (qs : List (List ℕ)). Run start line₀ qs ((a.written ++ text) ++ ws)) (sym (append_assoc a.pieces (piece ∷ []) ps))
        (subst (Run start line₀ (a.pieces ++ (piece ∷ ps))) (sym (append_assoc a.written text ws)) (a.goes (turn ps ws rest)));
  }

  module _ (output : List ℕ → List ℕ) (law : (ps : List (List ℕ)) (ws : List ℕ) → Run start line₀ ps ws → ws ≡ output (all_of ps)) where
    ends-over : ((ps : List (List ℕ)) → Run s line (piece ∷ ps) text) → IfSome had (λ xs. Appends held holds' (output xs))
    ends-over stop =
        finished output had has' held holds' (all_of a.pieces ++ piece) _ read wrote
        (λ rest e. law (a.pieces ++ (piece ∷ (rest ∷ []))) _ (a.goes (stop (rest ∷ []))) ∙ ap output (all-two a.pieces piece rest))

    ends-read : piece ≡ [] → IsAtEnd has' → Run s line [] text → IfSome had (λ xs. Appends held holds' (output xs))
    ends-read e h end =
        finished output had has' held holds' (all_of a.pieces ++ []) _ (subst (λ (p : List ℕ). Consumes had has' (all_of a.pieces ++ p)) e read) wrote
        (λ rest q. law (a.pieces ++ []) _ (a.goes end) ∙ ap output (all-read has' a.pieces rest q h))

    -- the last turn
    pub along-last : (p : Phase) → ends_at (length piece) p ≡ true → (length piece ≡ 0 → IsAtEnd has') → (piece ≡ [] → Run s line [] text)
        → (is_over p ≡ true → (ps : List (List ℕ)) → Run s line (piece ∷ ps) text) → IfSome had (λ xs. Appends held holds' (output xs))
    along-last p o h end stop =
        elim (or-either (eqb (length piece) 0) (is_over p) o) [
          | inl e ↦ let n = eqb-true (length piece) 0 e in let z = nil_from_length piece n in ends-read z (h n) (end z)
          | inr e ↦ ends-over (stop e)
        ]
