use Rattle.std.proofs.Common.{◌≡◌, ℕ, ◌+◌, ◌<◌, List, [], ◌∷◌, ◌++◌, suc, take, drop, get_or, length, sym, ap, ◌∙◌, append_assoc, add-one, arith}
use Rattle.std.proofs.Math.ListN.{set}
use Rattle.std.proofs.Math.Seq.{take-suc, drop-cons, take-length}
use Rattle.std.proofs.lemmas.List.{set_at, length-take-le}
use Rattle.part.proofs.signing.copy.Goals as goal

-- one byte more
more : (out bytes : List ℕ) (i : ℕ) → i < length bytes → i < length out
    → set (take i bytes ++ drop i out) i (get_or bytes i 0) ≡ take (i + 1) bytes ++ drop (i + 1) out
more out bytes i h k =
    ap (λ (r : List ℕ). set (take i bytes ++ r) i (get_or bytes i 0)) (drop-cons out i 0 k)
    ∙ set_at (take i bytes) (get_or out i 0) (drop (suc i) out) (get_or bytes i 0) i (length-take-le i bytes (omega arith))
    ∙ sym (append_assoc (take i bytes) (get_or bytes i 0 ∷ []) (drop (suc i) out))
    ∙ ap (λ (r : List ℕ). r ++ drop (suc i) out) (sym (take-suc bytes i 0 h))
    ∙ ap (λ (n : ℕ). take n bytes ++ drop n out) (sym (add-one i))

pub loop-i-preserved : goal.loop-i-preserved
loop-i-preserved c =
    let l = c.loop-i in
    ap (λ (d : List ℕ). set d l.i (get_or c.args.bytes.now l.i 0)) l.invariant ∙ more c.args.out.now c.args.bytes.now l.i (omega arith) (omega (arith, c.requires))

pub returns : goal.returns
returns c =
    let l = c.loop-i in
    let n : l.i ≡ length c.args.bytes.now = omega arith in
    let m : l.i ≡ 0 + length c.args.bytes.now = omega arith in
    l.invariant
    ∙ ap (λ (k : ℕ). take k c.args.bytes.now ++ drop l.i c.args.out.now) n
    ∙ ap (λ (r : List ℕ). r ++ drop l.i c.args.out.now) (take-length c.args.bytes.now)
    ∙ ap (λ (k : ℕ). c.args.bytes.now ++ drop k c.args.out.now) m
