-- `row_struct::pack` meets its contract: its eleven parts are cut out of the row. Assumes nothing.
use native.Mathlib.Omega.{arith}
use Rattle.row_struct.proofs.Laying.{cut, ◌next◌, firsts_cut}
use Rattle.row_struct.proofs.Packing.{state_packed}
use Rattle.row_struct.proofs.pack.Goals as goal

pub returns : goal.returns
returns c = let w = c.args.w.now in
    let l = c.requires in
    let h = firsts_cut 8 0 w (omega arith) in let the_rest = state_packed
    _
    w
    l
    (h
    next c.amounts_at-free.ensures
    next c.amounts_at-bins.ensures
    next c.amounts_at-globals.ensures
    next c.amounts_at-waits.ensures
    next c.places_at-queue.ensures
    next c.events_at-keys.ensures
    next c.events_at-words.ensures
    next c.waiting_at-waiting.ensures
    next c.pack_processes-processes.ensures.result_value
    next c.seeds_at-seeds.ensures
    next cut)
    c.pack_processes-processes.ensures.processes_full in record {
      result_value = the_rest.0;
      full = the_rest.1;
    }
