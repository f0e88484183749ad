-- `row_struct::lay` meets its contract: what was lent comes back with the part in it. Assumes nothing.
use Prim.Native.Nat.{◌+◌, ◌-◌}
use mathlib.Core.Path.{refl, ap, ◌∙◌}
use mathlib.Core.List.{◌++◌}
use lib.ListN.{length, take, drop}
use Rattle.row_struct.proofs.Laying.{part_over}
use Rattle.row_struct.proofs.lay.Goals as goal

pub returns : goal.returns
returns c = let at = c.args.at in
    let part = c.args.part.now in
    let w = c.args.w.now in
    ap (λ y. take at w ++ (y ++ drop (at + length part - at) (drop at w))) c.copy_words.ensures
    ∙ part_over at (at + length part) part w refl
