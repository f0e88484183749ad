-- `plan_text::push_bound` meets its contract, bound by bound. Assumes nothing.
use Rattle.std.proofs.Common.{ap, arith}
use Rattle.file_bound.specs.Answer.{bound_as}
use Rattle.plan_text.specs.Text.{bound_text}
use Rattle.plan_text.proofs.Ends.{bound_none, number_put}
use Rattle.plan_text.proofs.push_bound.Goals as goal

pub returns-in-None : goal.returns-in-None
returns-in-None g c = bound_none _ (ap bound_as c.in-None.is) c.push_str.ensures.bytes

pub returns-in-Over : goal.returns-in-Over
unfolding bound_text
returns-in-Over g c = rw c.in-Over.is c.push_str-in-Over.ensures.bytes

pub returns-in-At : goal.returns-in-At
returns-in-At g c = rw c.in-At.is (number_put _ _ (omega arith) c.push_number.ensures.bytes)
