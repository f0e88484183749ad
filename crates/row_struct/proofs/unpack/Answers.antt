-- `row_struct::unpack` meets its contract: its eleven parts are laid over the row. Assumes nothing.
use mathlib.Core.Path.{◌≡◌, refl, ap, ◌∙◌}
use Prim.Native.Nat.{ℕ}
use mathlib.Core.List.{List, ◌++◌}
use lib.ListN.{length, take, drop}
use Rattle.semantics.specs.Words.{collect}
use Rattle.base_numbers.specs.Row as Row
use Rattle.base_numbers.specs.Limit as Limit
use Rattle.row_struct.specs.State.{over, process_row_of}
use Rattle.row_struct.specs.Same.{processes_long}
use Rattle.row_struct.proofs.Laying.{part_over, written, ◌then◌}
use Rattle.row_struct.proofs.Packing.{state_unpacked}
use native.Mathlib.Omega.{arith}
use Rattle.row_struct.proofs.unpack.Goals as goal

pub returns : goal.returns
returns c = let s = c.args.state in
    let l2 : length s.free ≡ Limit.THINGS = omega (arith, c.lay-arg-3-1.given) in
    let l3 : length s.bins ≡ Limit.THINGS = omega (arith, c.lay-arg-6-1.given) in
    let l4 : length s.globals ≡ Limit.THINGS = omega (arith, c.lay-arg-9-1.given) in
    let l5 : length s.waits ≡ Limit.THINGS = omega (arith, c.lay-arg-12-1.given) in
    let l6 : length s.queue ≡ Row.WAITERS_MOST = omega (arith, c.lay-arg-15-1.given) in
    let l7 : length s.keys ≡ Row.EVENTS_MOST = omega (arith, c.lay-arg-18-1.given) in
    let l8 : length s.words ≡ Row.EVENTS_MOST = omega (arith, c.lay-arg-21-1.given) in
    let l9 : length s.waiting ≡ Row.WAITERS_ALL = omega (arith, c.lay-arg-24-1.given) in
    let l11 : length s.seeds ≡ Limit.SAMPLERS = omega (arith, c.lay-arg-27-1.given) in
    let n = processes_long s.processes c.unpack_processes.ensures.processes_full in
    let v = c.lay-9.new.w in
    let y = c.unpack_processes.new.w in
    let e : take Row.PROCESSES v ++ (y ++ drop Row.PROCESSES_ALL (drop Row.PROCESSES v))
    ≡ over Row.PROCESSES (collect process_row_of s.processes) v =
    ap (λ y. take Row.PROCESSES v ++ (y ++ drop Row.PROCESSES_ALL (drop Row.PROCESSES v))) c.unpack_processes.ensures.w_after
    ∙ part_over Row.PROCESSES Row.SEEDS (collect process_row_of s.processes) v (omega arith) in let the_rest = state_unpacked
    s
    _
    _
    c.requires
    (record {
      parts_full = (refl, (l2, (l3, (l4, (l5, (l6, (l7, (l8, (l9, (n, (l11, tt)))))))))));
      processes_full = c.unpack_processes.ensures.processes_full;
    })
    (c.lay.ensures
    then c.lay-2.ensures
    then c.lay-3.ensures
    then c.lay-4.ensures
    then c.lay-5.ensures
    then c.lay-6.ensures
    then c.lay-7.ensures
    then c.lay-8.ensures
    then c.lay-9.ensures
    then e
    then c.lay-10.ensures
    then written) in record {
      w_after = the_rest.0;
      full = the_rest.1;
    }
