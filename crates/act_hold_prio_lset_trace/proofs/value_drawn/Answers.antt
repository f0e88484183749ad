-- `act_hold_prio_lset_trace::value_drawn` meets its contract. Assumes nothing.
use Rattle.act_floor.specs.Floor.{run_long}
use Rattle.act_hold_prio_lset_trace.proofs.Values.{work_kept, work_as_it_was}
use Rattle.act_hold_prio_lset_trace.proofs.value_drawn.Goals as goal

pub seeds_of-seeds-requires : goal.seeds_of-seeds-requires
seeds_of-seeds-requires c = run_long c.requires.running

pub keep_seeds-requires : goal.keep_seeds-requires
keep_seeds-requires c = run_long c.requires.running

pub returns-then-value-low : goal.returns-then-value-low
returns-then-value-low c = let r = c.evaluated-value in record {
  value = r.ensures.value;
  w_after = (λ v. work_kept v c.keep_seeds.ensures (r.ensures.seeds_after v) c.if-value-low.true);
}

pub returns-else-value-low : goal.returns-else-value-low
returns-else-value-low c = record {
  value = c.evaluated-value.ensures.value;
  w_after = (λ v. work_as_it_was v c.if-value-low.false);
}
