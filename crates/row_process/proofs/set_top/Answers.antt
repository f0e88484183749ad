-- `row_process::set_top` meets its contract: the innermost block stands last of as many as there are. Assumes nothing.
use mathlib.Core.Path.{◌∙◌}
use native.Mathlib.Omega.{arith}
use Rattle.row_process.proofs.Standing.{is_long, top_written}
use Rattle.row_process.specs.Process.{seen}
use Rattle.row_process.proofs.set_top.Goals as goal

pub set_word-requires : goal.set_word-requires
set_word-requires c = let v = c.requires in
    (is_long v, (v.given.in_places, omega (arith, c.depth_of-depth.ensures.1)))

pub returns : goal.returns
returns c = λ v g x. let e = c.depth_of-depth.ensures.0 (seen v v.given.in_places) in
    c.set_word.ensures ∙ top_written v v.given _ e _ g x
