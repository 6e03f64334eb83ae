use Rattle.std.proofs.Common.{refl, sym, ap, [], ◌∷◌, ℕ, ◌-◌, take, arith}
use native.Mathlib.Nat.{sub-zero}
use Rattle.lines.specs.Lines.{whole, long}
use Rattle.lines.specs.declared.Taken.TheVariants.{Whole, Long}
use Rattle.lines.proofs.Law.{bounds}
use Rattle.ledger.proofs.Steps.{taken_as, steps-line, steps-cut}
use Rattle.ledger.proofs.Stream.step.Goals as goal

pub slice_bounds-whole_line-end : goal.slice_bounds-whole_line-end
slice_bounds-whole_line-end g c =
    let E = g.E.Verifier.scheme in
    let t = c.take_line in
    omega (arith, (bounds (taken_as c.in-Whole.is t.ensures)).2, t.auto.line, c.requires.0.room)

pub returns-in-Whole : goal.returns-in-Whole
returns-in-Whole g c =
    let E = g.E.Verifier.scheme in
    let t = c.take_line in
    steps-line E c.requires.0 (omega (arith, c.requires.1)) (Whole c.in-Whole.size c.in-Whole.next) (taken_as c.in-Whole.is t.ensures) _ _ refl refl
    (whole (take (c.in-Whole.size - 0) t.new.line)) (ap (λ (n : ℕ). whole (take n t.new.line) ∷ []) (sym (sub-zero c.in-Whole.size))) refl
    (ap (λ (n : ℕ). take n t.new.line) (sym (sub-zero c.in-Whole.size))) c.whole_line-event.ensures

pub returns-in-Long : goal.returns-in-Long
returns-in-Long g c =
    let E = g.E.Verifier.scheme in
    let t = c.take_line in
    steps-line E c.requires.0 (omega (arith, c.requires.1)) (Long c.in-Long.next) (taken_as c.in-Long.is t.ensures) _ _ refl refl
    (long (take 2048 t.new.line)) refl refl refl (c.broken_line-event.ensures (take 2048 t.new.line)).0

pub returns-in-Cut : goal.returns-in-Cut
returns-in-Cut g c =
    let E = g.E.Verifier.scheme in
    let t = c.take_line in
    steps-cut E c.requires.0 (omega (arith, t.auto.line, c.requires.0.room)) (omega (arith, c.requires.1)) (taken_as c.in-Cut.is t.ensures)
