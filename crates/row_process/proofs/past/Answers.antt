-- `row_process::past` meets its contract: the innermost block's middle part is one more. Assumes nothing.
use Prim.Native.Nat.{◌+◌}
use mathlib.Core.Path.{◌∙◌}
use native.Mathlib.Omega.{arith}
use Rattle.row_process.proofs.Standing.{top_sized, by_blocks}
use Rattle.row_process.specs.Process.{at_first}
use Rattle.semantics.specs.State.{Frame, past, onward}
use Rattle.row_process.proofs.past.Goals as goal

pub top_word-top-requires : goal.top_word-top-requires
top_word-top-requires c = at_first c.requires

pub overflow_add-top : goal.overflow_add-top
overflow_add-top c = let v = at_first c.requires in
    omega (arith, c.top_word-top.ensures v, top_sized v v.given)

pub set_top-requires : goal.set_top-requires
set_top-requires c = at_first c.requires

pub returns : goal.returns
unfolding past onward
returns c = λ d. let v = at_first d in
    let f : Frame = v.given.innermost in
    let g : Frame = record { block = f.block; at = f.at + 1; rounds = f.rounds } in
    c.set_top.ensures v g (omega (arith, c.top_word-top.ensures v))
    ∙ by_blocks v v.given onward
