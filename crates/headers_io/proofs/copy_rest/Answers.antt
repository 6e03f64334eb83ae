use Rattle.std.proofs.Common.{◌≡◌, refl, ℕ, List, [], ◌++◌, take, subst, arith}
use Rattle.std.specs.Io.KnownBytes.{Consumes}
use Rattle.std.proofs.KnownBytes.{Consumes-nil, Consumes-trans, Appends-nil, Appends-trans}
use Rattle.headers_io.proofs.Known.{reads-none, ends}
use Rattle.headers_io.proofs.copy_rest.Goals as goal

pub loop-init : goal.loop-init
loop-init g c = (([], Consumes-nil _, Appends-nil _), refl)

pub returns-then-got-eq0-clause-whole : goal.returns-then-got-eq0-clause-whole
returns-then-got-eq0-clause-whole g c = λ h.
    let i = c.loop.invariant in
    let n : take c.in_ok-got.got c.read.new.buf ≡ [] = rw c.if-got-eq0.true refl in
    ends (λ (l : List ℕ). l) _ _ _ _ i.0.0 (reads-none _ _ _ i.0.0 i.0.1 (subst (Consumes _ _) n c.in_ok-got.ensures.bytes.0))
    (c.in_ok-got.ensures.bytes.1 c.if-got-eq0.true (omega (arith, h, c.read.auto.buf, i.1))) i.0.2

pub returns-in_err-write_all-clause-left : goal.returns-in_err-write_all-clause-left
returns-in_err-write_all-clause-left g c = (_, Consumes-trans _ _ _ _ _ c.loop.invariant.0.1 c.in_ok-got.ensures.bytes.0)

pub loop-preserved : goal.loop-preserved
loop-preserved g c =
    let i = c.loop.invariant in (
      (i.0.0 ++ take c.in_ok-got.got c.read.new.buf, Consumes-trans _ _ _ _ _ i.0.1 c.in_ok-got.ensures.bytes.0, Appends-trans _ _ _ _ _ i.0.2 c.in_ok-write_all.ensures.bytes),
      omega (arith, c.read.auto.buf, i.1),
    )
