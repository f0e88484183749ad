-- `row_struct::unpack_process` meets its contract: its five parts are laid over the row. Assumes nothing.
use native.Mathlib.Omega.{arith}
use mathlib.Core.Path.{◌≡◌, refl}
use lib.ListN.{length}
use Rattle.base_numbers.specs.Process as Process
use Rattle.base_numbers.specs.Limit as Limit
use Rattle.row_struct.proofs.Laying.{written, ◌then◌}
use Rattle.row_struct.proofs.Packing.{process_unpacked}
use Rattle.row_struct.proofs.unpack_process.Goals as goal

pub returns : goal.returns
returns c = let q = c.args.q in
    let l : length q.locals ≡ 8 = omega (arith, c.lay-arg-3-1.given) in
    let h : length q.held ≡ Limit.THINGS = omega (arith, c.lay-arg-6-1.given) in
    let b : length q.blocks ≡ 8 = omega (arith, c.lay-arg-9-1.given) in
    let w : length q.owned ≡ Process.OWNED_MOST = omega (arith, c.lay-arg-12-1.given) in let the_rest = process_unpacked
    q
    _
    _
    c.requires
    (refl, (l, (h, (b, (w, tt)))))
    (c.lay.ensures
    then c.lay-2.ensures
    then c.lay-3.ensures
    then c.lay-4.ensures
    then c.lay-5.ensures
    then written) in record {
      w_after = the_rest.0;
      process_full = the_rest.1;
    }
