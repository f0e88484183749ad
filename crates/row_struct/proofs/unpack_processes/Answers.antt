-- `row_struct::unpack_processes` meets its contract. The loop's invariant: the rows of the first p stand. Assumes nothing.
use Prim.Native.Nat.{◌+◌, ◌*◌}
use mathlib.Core.Path.{refl}
use mathlib.Core.List.{[]}
use lib.ListN.{get_or}
use Rattle.base_numbers.specs.Process as Process
use Rattle.row_struct.specs.declared.Process.{Process}
use native.Mathlib.Omega.{arith}
use borrow.Author.Rules.{rules}
use Rattle.row_struct.proofs.Places.{placed_none, placed_row, placed_all}
use Rattle.row_struct.proofs.unpack_processes.Goals as goal

-- What stands past the end of an array of processes.
abbrev nothing : Process
nothing =
    record { number = 0; priority = 0; depth = 0; slaves = 0; locals = []; held = []; blocks = []; owned = [] }

pub loop-p-init : goal.loop-p-init
loop-p-init c = placed_none _ _ (search rules) c.requires

pub loop-p-preserved : goal.loop-p-preserved
loop-p-preserved c = let r = c.unpack_process in
    let l = c.loop-p in
    let ps = c.args.ps in
    let q = get_or ps l.p nothing in
    placed_row l.invariant (omega arith) q r.ensures.process_full nothing refl (Process.WORDS * l.p + Process.WORDS) refl _ r.ensures.w_after

pub returns : goal.returns
returns c = let the_rest = placed_all c.loop-p.invariant (omega arith) in record {
  w_after = the_rest.0;
  processes_full = the_rest.1;
}
