-- `row_struct::pack_processes` meets its contract. The loop's invariant: the first p have their rows. Assumes nothing.
use Prim.Native.Nat.{◌+◌, ◌*◌}
use lib.ListN.{replicate}
use mathlib.Core.Path.{refl, sym}
use native.Mathlib.Omega.{arith}
use Rattle.semantics.specs.Numbers as No
use Rattle.base_numbers.specs.Process as Process
use Rattle.row_struct.proofs.Places.{placed_none, placed_process, placed_all}
use Rattle.row_struct.proofs.pack_processes.Goals as goal

pub loop-p-init : goal.loop-p-init
loop-p-init c = let r = c.pack_process-first in
    placed_process
    (placed_none (replicate No.places r.result) c.args.w.now refl c.requires)
    (omega arith)
    r.result
    r.ensures.process_full
    Process.WORDS
    refl
    r.ensures.result_value

pub loop-p-preserved : goal.loop-p-preserved
loop-p-preserved c = let r = c.pack_process in
    let l = c.loop-p in
    placed_process l.invariant (omega arith) r.result r.ensures.process_full (Process.WORDS * l.p + Process.WORDS) refl r.ensures.result_value

pub returns : goal.returns
returns c = let h = placed_all c.loop-p.invariant (omega arith) in record {
  result_value = sym h.0;
  processes_full = h.1;
}
