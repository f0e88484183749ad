-- `row_process::into` meets its contract: on the way the process is in a block of nothing. Assumes nothing.
use mathlib.Core.Path.{◌∙◌}
use native.Mathlib.Omega.{arith}
use Rattle.row_process.proofs.Blocks.{new_block, block_sized, on_the_way, gone_in}
use Rattle.row_process.proofs.Standing.{is_long}
use Rattle.row_process.specs.Process.{at_first, seen}
use Rattle.row_process.proofs.into.Goals as goal

pub depth_of-depth-requires : goal.depth_of-depth-requires
depth_of-depth-requires c = let v = at_first c.requires in seen v v.given.in_places

pub set_word-requires : goal.set_word-requires
set_word-requires c = let v = at_first c.requires in
    (is_long v, (v.given.in_places, omega arith))

pub overflow_mul-n : goal.overflow_mul-n
overflow_mul-n c = omega (arith, block_sized _ _ _ c.requires)

pub overflow_add-b : goal.overflow_add-b
overflow_add-b c = omega (arith, block_sized _ _ _ c.requires)

pub set_top-requires : goal.set_top-requires
set_top-requires c = let d = c.requires in
    let e = c.depth_of-depth.ensures.0 (seen (at_first d) d.given.in_places) in
    on_the_way _ _ _ d _ e c.set_word.ensures

pub returns : goal.returns
returns c = λ d. let e = c.depth_of-depth.ensures.0 (seen (at_first d) d.given.in_places) in
    c.set_top.ensures (on_the_way _ _ _ d _ e c.set_word.ensures) (new_block _ _ _ d) (omega arith)
    ∙ gone_in _ _ _ d
