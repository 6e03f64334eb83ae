use Rattle.std.proofs.Common.{◌≡◌, subst, length, take, arith}
use lib.Seq.{length-take-le}
use Rattle.std.proofs.KnownBytes.{Consumes-trans}
use Rattle.std.specs.Io.KnownBytes.{Appends}
use Rattle.headers.specs.InFull.{in_full}
use Rattle.headers_io.proofs.Known.{front-text, on-ok, both, ends}
use Rattle.headers_io.proofs.run.Goals as goal

pub returns-then-n-ge-FRONT-clause-whole : goal.returns-then-n-ge-FRONT-clause-whole
returns-then-n-ge-FRONT-clause-whole g c =
    let f = c.read_front.new.front in
    let n : length (take c.in_ok-n.n f) ≡ c.in_ok-n.n = length-take-le c.in_ok-n.n f (omega (arith, c.in_ok-n.ensures.fits, c.in_ok-n.ensures.room)) in
    on-ok c.copy_rest.result
    (λ t h. both _ _ _ _ _ (take c.in_ok-n.n f) (omega (arith, n, c.if-n-ge-FRONT.true)) c.in_ok-n.ensures.reads
    (subst (Appends _ _) (front-text c.write_out-end.ensures) c.in_ok-write_all.ensures.bytes) (t (omega (arith, h, c.read_front.auto.piece))))
    c.copy_rest.ensures.whole

pub returns-then-n-ge-FRONT-clause-left : goal.returns-then-n-ge-FRONT-clause-left
returns-then-n-ge-FRONT-clause-left g c = (_, Consumes-trans _ _ _ _ _ c.in_ok-n.ensures.reads c.copy_rest.ensures.left.1)

pub returns-clause-whole : goal.returns-clause-whole
returns-clause-whole g c = λ h.
    ends in_full _ _ _ _ (take c.in_ok-n.n c.read_front.new.front) c.in_ok-n.ensures.reads (c.in_ok-n.ensures.ends (omega (arith, c.if-n-ge-FRONT.false)) h)
    (subst (Appends _ _) (front-text c.write_out-end.ensures) c.in_ok-write_all.ensures.bytes)
