-- `row_process::go_round` meets its contract: the innermost block's middle part is 0, its highest one less. Assumes nothing.
use Prim.Native.Nat.{◌-◌}
use mathlib.Core.Path.{◌∙◌}
use native.Mathlib.Omega.{arith}
use Rattle.row_process.proofs.Standing.{top_sized, by_blocks}
use Rattle.row_process.specs.Process.{at_first, restarted, again}
use Rattle.semantics.specs.State.{Frame}
use Rattle.row_process.proofs.go_round.Goals as goal

pub overflow_mul-one_less : goal.overflow_mul-one_less
overflow_mul-one_less c = let v = at_first c.requires in
    omega (arith, c.one_less.ensures, c.rounds_at-rounds.ensures v, top_sized v v.given)

pub overflow_add-block : goal.overflow_add-block
overflow_add-block c = let v = at_first c.requires in
    let r = c.rounds_at-rounds.ensures v in
    omega (arith, c.one_less.ensures, r, c.block_at-block.ensures v, top_sized v v.given)

pub returns : goal.returns
unfolding again restarted
returns c = λ d. let v = at_first d in
    let f : Frame = v.given.innermost in
    let g : Frame = record { block = f.block; at = 0; rounds = f.rounds - 1 } in
    let r = c.rounds_at-rounds.ensures v in
    let b = c.block_at-block.ensures v in
    c.set_top.ensures v g (omega (arith, c.one_less.ensures, r, b)) ∙ by_blocks v v.given restarted
