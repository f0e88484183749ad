-- `row_process::drop_block` meets its contract: on the way the process is in a block of nothing. Assumes nothing.
use mathlib.Core.Path.{◌∙◌, refl}
use native.Mathlib.Omega.{arith}
use Rattle.row_process.proofs.Blocks.{emptied, one_less_block}
use Rattle.row_process.proofs.Standing.{is_long, top_place}
use Rattle.row_process.specs.Process.{seen}
use Rattle.row_process.specs.Rows.{blank}
use Rattle.row_process.proofs.drop_block.Goals as goal

pub depth_of-depth-requires : goal.depth_of-depth-requires
depth_of-depth-requires c = let v = c.requires in seen v v.given.lives.in_places

pub set_top-requires : goal.set_top-requires
set_top-requires c = let v = c.requires in seen v v.given.lives

pub overflow_sub-depth : goal.overflow_sub-depth
overflow_sub-depth c = let v = c.requires in
    let e = c.depth_of-depth.ensures.0 (seen v v.given.lives.in_places) in
    omega (arith, top_place v v.given.lives _ e)

pub set_word-requires : goal.set_word-requires
set_word-requires c = let v = c.requires in
    let l = v.given.lives in
    (is_long (emptied v l (c.set_top.ensures (seen v l) blank refl)), (l.in_places, omega arith))

pub returns : goal.returns
returns c = λ v. let l = v.given.lives in
    let e = c.depth_of-depth.ensures.0 (seen v l.in_places) in
    let t = c.set_top.ensures (seen v l) blank refl in
    c.set_word.ensures ∙ one_less_block v l t v.given.nested _ (omega (arith, e, top_place v l _ e))
