-- `act_step::act` meets its contract: each kind has its function. Assumes nothing.
use Rattle.act_step.proofs.act.Goals as goal

pub returns-then-kind-lt-DO : goal.returns-then-kind-lt-DO
returns-then-kind-lt-DO c = λ v. c.act_on_value.ensures v.meets

pub returns-then-kind-lt-REQ : goal.returns-then-kind-lt-REQ
returns-then-kind-lt-REQ c = λ v. c.act_on_number.ensures v.meets
