-- `row_sound_lists::in_slaves` meets its contract: turn by turn. Assumes nothing.
use Prim.Native.Nat.{◌%◌}
use native.Mathlib.Omega.{arith}
use mathlib.Core.Path.{◌∙◌, ap}
use lib.Dec.{eqb}
use Rattle.base_numbers.specs.Word as Word
use Rattle.row_sound_lists.specs.Tests.{one_if}
use Rattle.row_sound_lists.proofs.Loops.{tally_none, tally_on, tally_done}
use Rattle.row_sound_lists.proofs.in_slaves.Goals as goal

pub loop-k-init : goal.loop-k-init
loop-k-init c = (omega arith, omega arith, tally_none _)

pub overflow_add-k : goal.overflow_add-k
overflow_add-k c = omega (arith, c.word-n.ensures, c.requires.0.slaves_few c.args.q (omega arith))

pub word-requires : goal.word-requires
word-requires c = let few = c.requires.0.slaves_few c.args.q c.requires.1 in
    (c.requires.0.long, (c.requires.1, omega (arith, c.word-n.ensures, few)))

pub loop-k-preserved : goal.loop-k-preserved
loop-k-preserved c = let l = c.loop-k in
    let e = c.one_if-found.ensures.0 ∙ ap (λ x. one_if (eqb c.args.p (x % Word.PLACES))) c.word.ensures in
    (omega arith, omega (arith, c.one_if-found.ensures.1), tally_on _ l.k _ _ e l.invariant.2)

pub returns : goal.returns
returns c = let l = c.loop-k in
    let e = c.word-n.ensures in
    (tally_done _ l.k _ _ (omega (arith, e)) l.invariant.2, omega (arith, e, c.requires.0.slaves_few c.args.q (omega arith)))
