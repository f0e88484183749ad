-- `row_struct::lift` meets its contract: the part is as long as it is asked for. Assumes nothing.
use Prim.Native.Nat.{◌+◌, ◌-◌}
use native.Mathlib.Omega.{arith}
use mathlib.Core.Path.{◌≡◌, ap, ◌∙◌}
use lib.ListN.{length, take, drop}
use Rattle.row_struct.proofs.lift.Goals as goal

pub returns : goal.returns
returns c = let at = c.args.at in
    let w = c.args.w.now in
    let n = length c.args.part.now in
    let e : at + n - at ≡ n = omega arith in
    c.copy_words.ensures ∙ ap (λ k. take k (drop at w)) e
