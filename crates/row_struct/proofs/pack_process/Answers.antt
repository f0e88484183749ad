-- `row_struct::pack_process` meets its contract: its five parts are cut out of the row. Assumes nothing.
use native.Mathlib.Omega.{arith}
use Rattle.row_struct.proofs.Laying.{cut, ◌next◌, firsts_cut}
use Rattle.row_struct.proofs.Packing.{process_packed}
use Rattle.row_struct.proofs.pack_process.Goals as goal

pub returns : goal.returns
returns c = let w = c.args.w.now in
    let l = c.requires in
    let h = firsts_cut 4 0 w (omega arith) in let the_rest = process_packed
    _
    w
    l
    (h
    next c.eight_at-locals.ensures
    next c.amounts_at-held.ensures
    next c.eight_at-blocks.ensures
    next c.slaves_at-owned.ensures
    next cut) in record {
      result_value = the_rest.0;
      process_full = the_rest.1;
    }
