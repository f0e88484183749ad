-- `row_sound_lists::slaves_known` meets its contract: turn by turn. Assumes nothing.
use Prim.Native.Nat.{◌/◌}
use native.Mathlib.Omega.{arith}
use mathlib.Core.Path.{ap}
use lib.Dec.{ltb}
use Rattle.base_numbers.specs.Word as Word
use Rattle.row_sound_lists.proofs.Loops.{each_none, each_on, each_done}
use Rattle.row_sound_lists.proofs.slaves_known.Goals as goal

pub loop-k-init : goal.loop-k-init
loop-k-init c = (omega arith, each_none _)

pub overflow_add-k : goal.overflow_add-k
overflow_add-k c = omega (arith, c.word-n.ensures, c.requires.0.slaves_few c.args.p (omega arith))

pub word-requires : goal.word-requires
word-requires c = let few = c.requires.0.slaves_few c.args.p c.requires.1 in
    (c.requires.0.long, (c.requires.1, omega (arith, c.word-n.ensures, few)))

pub loop-k-preserved : goal.loop-k-preserved
loop-k-preserved c = let l = c.loop-k in
    (omega arith, each_on _ l.k _ _ (ap (λ x. ltb (x / Word.SYNC) c.args.syncs) c.word.ensures) l.invariant.1)

pub returns : goal.returns
returns c = let l = c.loop-k in
    let e = c.word-n.ensures in
    each_done _ l.k _ _ (omega (arith, e)) l.invariant.1
