-- `act_walk::walk` meets its contract. The loop's invariant: what is left to visit, behind the lines that are written, is the
-- walk. Assumes nothing.
use native.Mathlib.Omega.{arith}
use Rattle.act_walk.proofs.Going.{shown}
use Rattle.act_walk.proofs.Turns.{at_start, passed_few, same_journal, visiting, turned, walked}
use Rattle.act_walk.proofs.walk.Goals as goal

pub blocked_count-left-requires : goal.blocked_count-left-requires
blocked_count-left-requires c = shown c.requires.walking tt

pub loop-left-init : goal.loop-left-init
loop-left-init c = λ v. at_start v _ _ _ (c.blocked_count-left.ensures.0 (shown v tt)) c.blocked_count-left.ensures.1

pub overflow_add-at : goal.overflow_add-at
overflow_add-at c = let d = c.loop-left.invariant
    c.requires.walking in omega (
      arith,
      c.requires.at_in_bounds,
      d.few,
      c.loop-left-test.true,
    )

pub visit-went-requires : goal.visit-went-requires
visit-went-requires c = let d = c.loop-left.invariant
    c.requires.walking in record {
      visiting = visiting _ _ _ d c.loop-left-test.true;
      at_in_bounds = omega (
        arith,
        c.requires.at_in_bounds,
        d.few,
        c.loop-left-test.true,
        same_journal _ _ _ d,
      );
    }

pub overflow_add-wrote : goal.overflow_add-wrote
overflow_add-wrote c = let d = c.loop-left.invariant
    c.requires.walking in omega (arith, d.few, c.visit-went.ensures.1)

pub overflow_sub-k : goal.overflow_sub-k
overflow_sub-k c = omega (arith, c.visit-went.ensures.1)

pub overflow_add-k : goal.overflow_add-k
overflow_add-k c = let d = c.loop-left.invariant
    c.requires.walking in omega (arith, passed_few _ _ _ d)

pub overflow_sub-left : goal.overflow_sub-left
overflow_sub-left c = omega (arith, c.loop-left-test.true)

pub loop-left-smaller : goal.loop-left-smaller
loop-left-smaller c = omega (arith, c.loop-left-test.true)

pub loop-left-preserved : goal.loop-left-preserved
loop-left-preserved c = λ v. turned _ _ _ (c.loop-left.invariant v)
    c.loop-left-test.true _
    c.visit-went.ensures.0

pub returns : goal.returns
returns c = (
  (λ v. walked _ _ _ (c.loop-left.invariant v) c.loop-left-test.false),
  let d = c.loop-left.invariant
      c.requires.walking in omega (arith, d.few),
)
