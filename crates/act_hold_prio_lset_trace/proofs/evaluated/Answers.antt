-- `act_hold_prio_lset_trace::evaluated` meets its contract: the parts lent show variables, locals and samplers. Assumes nothing.
use native.Mathlib.Omega.{arith}
use Rattle.act_floor.specs.Floor.{run_long, shown}
use Rattle.act_hold_prio_lset_trace.proofs.Values.{ready, valued, moved_on}
use Rattle.act_hold_prio_lset_trace.proofs.evaluated.Goals as goal

pub clock_of-clock-requires : goal.clock_of-clock-requires
clock_of-clock-requires c = shown c.requires.valued.running tt

pub slice_bounds-evaluate-end : goal.slice_bounds-evaluate-end
slice_bounds-evaluate-end c = omega (arith, run_long c.requires.valued.running)

pub slice_bounds-evaluate-end-2 : goal.slice_bounds-evaluate-end-2
slice_bounds-evaluate-end-2 c = omega (arith, run_long c.requires.valued.running, c.requires.valued.lives.in_places)

pub evaluate-requires : goal.evaluate-requires
evaluate-requires c = let v = c.requires.valued in
    ready v _ (c.clock_of-clock.ensures.0 (shown v.running tt)) c.requires.seeds_value

pub returns : goal.returns
returns c = let are = c.requires.seeds_value in record {
  value = (λ v. let e = c.clock_of-clock.ensures.0 (shown v.running tt) in
      valued v e (c.evaluate.ensures.value (ready v _ e are)));
  seeds_after = (λ v. let e = c.clock_of-clock.ensures.0 (shown v.running tt) in
      moved_on v (c.evaluate.ensures.seeds_after (ready v _ e are)));
}
