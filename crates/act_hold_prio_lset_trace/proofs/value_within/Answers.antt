-- `act_hold_prio_lset_trace::value_within` meets its contract: where the first seed is 0 there is none. Assumes nothing.
use native.Mathlib.Omega.{arith}
use Rattle.act_floor.specs.Floor.{run_long}
use Rattle.act_hold_prio_lset_trace.specs.Given.{is_within}
use Rattle.act_hold_prio_lset_trace.proofs.Values.{none_copied, none_kept}
use Rattle.act_hold_prio_lset_trace.proofs.value_within.Goals as goal

pub bounds-w-10696 : goal.bounds-w-10696
bounds-w-10696 c = omega (arith, run_long c.requires.running)

pub evaluated-requires : goal.evaluated-requires
evaluated-requires c = let v = c.requires in record {
  valued = v;
  seeds_value = none_copied v c.if-w-eq0.true;
}

pub returns-then-w-eq0 : goal.returns-then-w-eq0
returns-then-w-eq0 c = let a = c.args in
    let z = c.if-w-eq0.true in record {
      value = c.evaluated.ensures.value;
      w_after = (λ v. none_kept v z (is_within a.low a.high c.evaluated.result));
    }
