-- `row_process::top_word` meets its contract: the innermost block stands last of as many as there are. Assumes nothing.
use mathlib.Core.Path.{◌∙◌}
use native.Mathlib.Omega.{arith}
use Rattle.row_process.proofs.Standing.{is_long, top_is}
use Rattle.row_process.specs.Process.{seen}
use Rattle.row_process.proofs.top_word.Goals as goal

pub depth_of-depth-requires : goal.depth_of-depth-requires
depth_of-depth-requires c = let v = c.requires in seen v v.given.in_places

pub overflow_add-depth : goal.overflow_add-depth
overflow_add-depth c = omega (arith, c.depth_of-depth.ensures.1)

pub word-requires : goal.word-requires
word-requires c = let v = c.requires in
    (is_long v, (v.given.in_places, omega (arith, c.depth_of-depth.ensures.1)))

pub returns : goal.returns
returns c = λ v. let e = c.depth_of-depth.ensures.0 (seen v v.given.in_places) in
    c.word.ensures ∙ top_is v v.given _ e
