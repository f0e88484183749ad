-- `act_hold_prio_lset_trace::value_in` meets its contract: every value has a code up to the highest. Assumes nothing.
use mathlib.Core.Path.{◌∙◌, ap}
use Rattle.row_work.specs.Work.{work_of}
use Rattle.act_hold_prio_lset_trace.specs.Given.{left}
use Rattle.act_hold_prio_lset_trace.proofs.Values.{all_within}
use Rattle.act_hold_prio_lset_trace.proofs.value_in.Goals as goal

pub returns : goal.returns
returns c = let r = c.value_within in record {
  value = r.ensures.value;
  w_after = (λ v. r.ensures.w_after v ∙ ap (λ b. work_of (left v b)) (all_within v (r.ensures.value v)));
}
