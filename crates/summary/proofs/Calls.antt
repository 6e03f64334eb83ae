-- The contracts of the two calls, at each answer of theirs.
use mathlib.Core.Path.{◌≡◌, refl, sym, ap, ◌∙◌}
use mathlib.Core.List.{List}
use Prim.Native.Nat.{ℕ, ◌+◌}
use lib.ListN.{length, get_or, set}
use mathlib.Core.Bool.{Bool}
use Rattle.std.specs.Prelude.{Option, Result, Ok, Err}
use Rattle.refusal.specs.declared.Refusal.{Refusal}
use Rattle.refusal.specs.declared.Refusal.TheVariants.{Full, CountFull}
use Rattle.summary.specs.declared.CardEntry.{CardEntry}
use Rattle.summary.specs.Entries.{most_cards, most_lines, card_fits, line_fits, rising, no_entry}
use Rattle.summary.specs.Summary.{TopUp, new_entry, added_to}
use Rattle.summary.specs.Calls.{admitted, held_in, EnterOutcome, enter_under, enter_outcome, Enters, find_under, find_answer, Finds}
use Rattle.summary.specs.Inside.{place_of, inserted, entered_at, found_at}
use Rattle.summary.proofs.Admission.{admission}
use Rattle.summary.proofs.Outcomes.{at-full, at-held, gap-no-room, gap-new, enters-admitted, finds-admitted}

module _ (t : List CardEntry) (held card cents : ℕ) {fits : Bool} (f : fits ≡ line_fits card cents) where
  abbrev tells : Result (Unit {0}) Refusal
  tells = admitted (length t) held (rising 0 (held_in t held)) fits

  abbrev line : TopUp
  line = record { card = card; cents = cents }

  as-outcome : (o : EnterOutcome) → o ≡ enter_under tells t held line → Enters t held card cents o.answer o.table
  unfolding enter_outcome
  as-outcome o e =
      let q = e ∙ ap (λ (b : Bool). enter_under (admitted (length t) held (rising 0 (held_in t held)) b) t held line) f in
      record { answers = ap (λ (x : EnterOutcome). x.answer) q; leaves = ap (λ (x : EnterOutcome). x.table) q }

  pub enter-refused : {why : Refusal} → Err why ≡ tells → Enters t held card cents (Err why) t
  unfolding enter_under
  enter-refused {why = why} e = as-outcome (record { answer = Err why; table = t }) (ap (λ (a : Result (Unit {0}) Refusal). enter_under a t held line) e)

  module _ (a : Ok tt ≡ tells) where
    placed : (r : Result ℕ ℕ) → r ≡ place_of card (held_in t held) → entered_at t held line r ≡ enter_under tells t held line
    placed r p =
        ap (entered_at t held line) p ∙ enters-admitted t held line (admission (length t) held (rising 0 (held_in t held)) fits (sym a))
        ∙ ap (λ (x : Result (Unit {0}) Refusal). enter_under x t held line) a

    module _ {at : ℕ} (p : Ok at ≡ place_of card (held_in t held)) where
      pub enter-full-at : (get_or t at no_entry).count ≡ most_lines → Enters t held card cents (Err CountFull) t
      enter-full-at h = as-outcome (record { answer = Err CountFull; table = t }) (sym (at-full t held line at h) ∙ placed (Ok at) p)

      pub enter-held-at : ((get_or t at no_entry).count ≡ most_lines → ⊥) → Enters t held card cents (Ok held) (set t at (added_to line (get_or t at no_entry)))
      enter-held-at h = as-outcome (record { answer = Ok held; table = set t at (added_to line (get_or t at no_entry)) }) (sym (at-held t held line at h) ∙ placed (Ok at) p)

    module _ {at : ℕ} (p : Err at ≡ place_of card (held_in t held)) where
      pub enter-no-room-at : held ≡ most_cards → Enters t held card cents (Err Full) t
      enter-no-room-at h = as-outcome (record { answer = Err Full; table = t }) (sym (gap-no-room t held line at h) ∙ placed (Err at) p)

      pub enter-new-at : (held ≡ most_cards → ⊥) → Enters t held card cents (Ok (held + 1)) (inserted at held (new_entry line) t)
      enter-new-at h = as-outcome (record { answer = Ok (held + 1); table = inserted at held (new_entry line) t }) (sym (gap-new t held line at h) ∙ placed (Err at) p)

module _ (t : List CardEntry) (held card : ℕ) {fits : Bool} (f : fits ≡ card_fits card) where
  abbrev asked : Result (Unit {0}) Refusal
  asked = admitted (length t) held (rising 0 (held_in t held)) fits

  as-answer : (r : Result (Option ℕ) Refusal) → r ≡ find_under asked (held_in t held) card → Finds t held card r t
  unfolding find_answer
  as-answer r e = record {
    answers = e ∙ ap (λ (b : Bool). find_under (admitted (length t) held (rising 0 (held_in t held)) b) (held_in t held) card) f;
    keeps = refl;
  }

  pub find-refused : {why : Refusal} → Err why ≡ asked → Finds t held card (Err why) t
  unfolding find_under
  find-refused {why = why} e = as-answer (Err why) (ap (λ (a : Result (Unit {0}) Refusal). find_under a (held_in t held) card) e)

  pub find-at : Ok tt ≡ asked → (r : Result ℕ ℕ) → r ≡ place_of card (held_in t held) → Finds t held card (Ok (found_at r)) t
  find-at a r p =
      as-answer (Ok (found_at r))
      (ap (λ (x : Result ℕ ℕ). Ok (found_at x)) p
      ∙ finds-admitted t held (record { card = card; cents = 0 }) (admission (length t) held (rising 0 (held_in t held)) fits (sym a))
      ∙ ap (λ (x : Result (Unit {0}) Refusal). find_under x (held_in t held) card) a)
