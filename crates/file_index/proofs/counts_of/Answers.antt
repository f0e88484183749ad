-- `file_index::counts_of` meets its contract. The loop's invariant is `Counting`: what was counted and what the bytes from `at`
-- on declare is what the file declares. Assumes nothing.
use native.Mathlib.Omega.{arith}
use Rattle.file_index.proofs.Counting.{count_starts, count_turn, count_ends}
use Rattle.file_index.proofs.Records.{step_there}
use Rattle.file_index.proofs.counts_of.Goals as goal

pub loop-at-init : goal.loop-at-init
loop-at-init c = rw c.first-at.ensures (count_starts _ c.requires)

pub tally-resources-requires : goal.tally-resources-requires
tally-resources-requires c = omega (
  arith,
  c.loop-at.invariant.of_resources.few,
  c.loop-at-test.true,
  c.requires.short,
)

pub tally-bins-requires : goal.tally-bins-requires
tally-bins-requires c = omega (
  arith,
  c.loop-at.invariant.of_bins.few,
  c.loop-at-test.true,
  c.requires.short,
)

pub tally-syncs-requires : goal.tally-syncs-requires
tally-syncs-requires c = omega (
  arith,
  c.loop-at.invariant.of_syncs.few,
  c.loop-at-test.true,
  c.requires.short,
)

pub tally-variables-requires : goal.tally-variables-requires
tally-variables-requires c = omega (
  arith,
  c.loop-at.invariant.of_variables.few,
  c.loop-at-test.true,
  c.requires.short,
)

pub tally-samplers-requires : goal.tally-samplers-requires
tally-samplers-requires c = omega (
  arith,
  c.loop-at.invariant.of_samplers.few,
  c.loop-at-test.true,
  c.requires.short,
)

pub loop-at-smaller : goal.loop-at-smaller
loop-at-smaller c = let m = step_there _ _ c.loop-at-test.true c.loop-at.invariant.fine c.read-x.ensures c.next-at.ensures in
    omega arith

pub loop-at-preserved : goal.loop-at-preserved
loop-at-preserved c = count_turn c.loop-at.invariant c.loop-at-test.true c.read-x.ensures c.next-at.ensures
    c.tally-resources.ensures c.tally-bins.ensures
    c.tally-syncs.ensures c.tally-variables.ensures c.tally-samplers.ensures

pub returns : goal.returns
returns c = count_ends c.loop-at.invariant (omega (arith, c.loop-at-test.false))
