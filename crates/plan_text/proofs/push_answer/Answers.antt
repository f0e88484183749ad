-- `plan_text::push_answer` meets its contract, answer by answer. Assumes nothing.
use Rattle.std.proofs.Common.{arith}
use Rattle.plan_text.specs.Text.{answer_text}
use Rattle.plan_text.proofs.Ends.{fault_put}
use Rattle.plan_text.proofs.push_answer.Goals as goal

pub returns-in-Closed-clause-bytes : goal.returns-in-Closed-clause-bytes
unfolding answer_text
returns-in-Closed-clause-bytes g c = rw c.in-Closed.is c.push_str.ensures.bytes

pub returns-in-Idle-clause-bytes : goal.returns-in-Idle-clause-bytes
unfolding answer_text
returns-in-Idle-clause-bytes g c = rw c.in-Idle.is c.push_str-in-Idle.ensures.bytes

pub returns-in-Limit-clause-bytes : goal.returns-in-Limit-clause-bytes
unfolding answer_text
returns-in-Limit-clause-bytes g c = rw c.in-Limit.is c.push_str-in-Limit.ensures.bytes

pub returns-in-Fault-clause-bytes : goal.returns-in-Fault-clause-bytes
returns-in-Fault-clause-bytes g c =
    rw c.in-Fault.is (fault_put _ _ (omega arith) c.push_str-in-Fault.ensures.bytes c.push_number.ensures.bytes)
