use Rattle.std.proofs.lemmas.Result.{err_from_is_err_and}
use Rattle.key.specs.Asked.{heights_of}
use Rattle.key.proofs.Trees.{taken}
use Rattle.key.proofs.Making.{make-unanswered, make-done}
use Rattle.key.proofs.calls.make.Goals as goal

pub returns-in_err-count : goal.returns-in_err-count
returns-in_err-count g c =
    let a = c.args in
    let t = taken (heights_of a.asked) c.try_from.ensures c.in_ok-heights.was in
    let p = err_from_is_err_and c.from_residual-in_err-count.result c.from_residual-in_err-count.ensures.1 in
    rw t.1
    (make-unanswered g.E.Verifier.scheme c.in_ok-heights.heights a.seed.now a.table.now a.tally.now t.0 c.if-seed-ne32.false (rw (c.top-top.ensures.top, c.below-below.ensures.below) at c.table_size.ensures)
    c.if-table-table_size.false c.get-from.ensures (rw (c.top-top.ensures.top, c.below-below.ensures.below) at c.in_err-count.ensures) p.1 p.2)

pub returns : goal.returns
returns g c =
    let a = c.args in
    let t = taken (heights_of a.asked) c.try_from.ensures c.in_ok-heights.was in
    rw t.1
    (make-done g.E.Verifier.scheme c.in_ok-heights.heights a.seed.now a.table.now a.tally.now t.0 c.if-seed-ne32.false (rw (c.top-top.ensures.top, c.below-below.ensures.below) at c.table_size.ensures)
    c.if-table-table_size.false c.get-from.ensures (rw (c.top-top.ensures.top, c.below-below.ensures.below) at c.in_ok-count.ensures) c.put_header.ensures
    (c.fill.ensures.after (λ y p. p)))
