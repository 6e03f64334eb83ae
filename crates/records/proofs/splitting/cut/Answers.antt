use Rattle.std.proofs.Common.{◌≡◌, sym, refl, arith, length-take-le, take}
use Rattle.text.specs.Columns.{up_to}
use Rattle.text.proofs.Cuts.{up_to-le}
use Rattle.records.proofs.Fielded.{cut_is}
use Rattle.records.proofs.splitting.cut.Goals as goal

pub slice_bounds-result-end : goal.slice_bounds-result-end
slice_bounds-result-end c = let h = up_to-le 9 c.args.line.now in sym (length-take-le _ _ (omega (arith, h, c.find-end.ensures)))

pub overflow_add-end : goal.overflow_add-end
overflow_add-end c = let h = up_to-le 9 c.args.line.now in omega (arith, h, c.find-end.ensures)

pub returns : goal.returns
returns c =
    let n : c.find-end.result ≡ up_to 9 c.args.line.now = omega (arith, c.find-end.ensures) in
    cut_is c.args.line.now c.find-end.result (record { ref_ptr = c.args.line.ref_ptr; now = take c.find-end.result c.args.line.now }) c.get.result n refl c.get.ensures.lookup.0
