-- A line more in a table of entries held: how many are held then, and what the table is.
use mathlib.Core.Path.{◌≡◌, sym, ap, ◌∙◌}
use mathlib.Core.List.{List, ◌∷◌, ◌++◌, append_assoc}
use mathlib.Core.Bool.{true}
use Prim.Native.Nat.{ℕ, suc, ◌+◌, ◌-◌, ◌≤◌, ◌<◌}
use native.Mathlib.Omega.{arith}
use lib.ListN.{length, get_or, set, take, drop, length-append, length-drop, take-append-drop}
use lib.Seq.{length-take-le, take-take, take-add, drop_at, drop-append-le, set_at, get_or-take, drop-cons}
use Rattle.summary.specs.declared.CardEntry.{CardEntry}
use Rattle.summary.specs.Entries.{rising, no_entry, entry_for}
use Rattle.summary.specs.Summary.{TopUp, new_entry, added_to, noted}
use Rattle.summary.specs.Calls.{held_in}
use Rattle.summary.specs.Inside.{below, inserted}
use Rattle.summary.proofs.Orders.{order}
use Rattle.summary.proofs.Sorted.{below-within, noted-new, noted_more}
use Rattle.summary.proofs.Places.{entry-at}

pub alike : {X : Type 0} (a b : ℕ) → (a ≡ b → X) → ((a ≡ b → ⊥) → X) → X
alike a b f g = order a b (λ h. g (λ e. omega arith)) f (λ h. g (λ e. omega arith))

-- one entry of a table written
set-is : (t : List CardEntry) (k : ℕ) (e : CardEntry) → k < length t → set t k e ≡ take k t ++ (e ∷ drop (suc k) t)
set-is t k e h =
    ap (λ (x : List CardEntry). set x k e) (sym (take-append-drop k t) ∙ ap (λ (x : List CardEntry). take k t ++ x) (drop-cons t k e h))
    ∙ set_at (take k t) (get_or t k e) (drop (suc k) t) e k (length-take-le k t (omega arith))

-- a line more in a table of entries held
module _ (t : List CardEntry) (held : ℕ) (few : held ≤ length t) (l : TopUp) (up : rising 0 (held_in t held) ≡ true) where
  abbrev es : List CardEntry
  es = held_in t held

  abbrev k : ℕ
  k = below l.card es

  size : length es ≡ held
  size = length-take-le held t few

  within : k ≤ held
  within = let h = below-within l.card es in let s = size in omega arith

  behind : drop k es ≡ take (held - k) (drop k t)
  behind =
      let n : k + (held - k) ≡ held = let w = within in omega arith in
      ap (λ (x : ℕ). drop k (take x t)) (sym n) ∙ ap (λ (x : List CardEntry). drop k x) (take-add k (held - k) t)
      ∙ drop_at (take k t) (take (held - k) (drop k t)) k (length-take-le k t (let w = within in omega arith))

  -- of a new card
  module _ (z : (entry_for l.card es).count ≡ 0) where
    abbrev grown : noted l es ≡ take k es ++ (new_entry l ∷ drop k es)
    grown = noted-new l 0 es up z

    pub opened-size : length (noted l es) ≡ held + 1
    opened-size =
        let w = within in
        let s = size in
        let a = length-take-le k es (omega arith) in
        let b = length-drop k es in
        ap length grown ∙ length-append (take k es) (new_entry l ∷ drop k es) ∙ omega arith

    pub opened-table : noted l es ++ drop (held + 1) t ≡ inserted k held (new_entry l) t
    opened-table =
        ap (λ (x : List CardEntry). x ++ drop (held + 1) t) grown ∙ append_assoc (take k es) (new_entry l ∷ drop k es) (drop (held + 1) t)
        ∙ rw (take-take k held t within, behind)

  -- of a card that is held
  module _ (z : (entry_for l.card es).count ≡ 0 → ⊥) where
    pub added-size : length (noted l es) ≡ held
    added-size =
        let m = noted_more l 0 es up z in
        let s = size in
        let w = m.2 in
        let a = length-take-le k es (omega arith) in
        let b = length-drop (suc k) es in
        ap length m.0 ∙ length-append (take k es) (added_to l (entry_for l.card es) ∷ drop (suc k) es) ∙ omega arith

    pub added-table : noted l es ++ drop held t ≡ set t k (added_to l (entry_for l.card es))
    added-table =
        let m = noted_more l 0 es up z in
        let s = size in
        let w = m.2 in
        let d : drop (suc k) es ++ drop held t ≡ drop (suc k) t = sym (drop-append-le (suc k) es (drop held t) (omega arith)) ∙ ap (drop (suc k)) (take-append-drop held t) in
        ap (λ (x : List CardEntry). x ++ drop held t) m.0 ∙ append_assoc (take k es) (added_to l (entry_for l.card es) ∷ drop (suc k) es) (drop held t)
        ∙ rw (take-take k held t within, d) (sym (set-is t k (added_to l (entry_for l.card es)) (omega arith)))

    -- the entry stands in the table where it stands among those held
    pub found-entry : get_or t k no_entry ≡ entry_for l.card es
    found-entry =
        let m = entry-at l.card no_entry 0 es up z in
        let w = m.0 in
        let s = size in
        sym (get_or-take held t k no_entry (omega arith)) ∙ sym m.1
