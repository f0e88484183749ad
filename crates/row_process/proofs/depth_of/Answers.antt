-- `row_process::depth_of` meets its contract: the third word of its row. Assumes nothing.
use mathlib.Core.Path.{◌∙◌}
use native.Mathlib.Omega.{arith}
use Rattle.row_process.proofs.Standing.{is_long, depth_is, depth_few}
use Rattle.row_process.proofs.depth_of.Goals as goal

pub word-requires : goal.word-requires
word-requires c = (is_long c.requires, (c.requires.given, omega arith))

pub returns : goal.returns
returns c = let e = c.word.ensures in
    let v = c.requires in
    (λ u. e ∙ depth_is u _ u.given, omega (arith, e, depth_few v c.args.p v.given))
