-- `act_value::negated` meets its contract. Assumes nothing.
use Rattle.act_value.proofs.negated.Goals as goal

pub returns-then-has : goal.returns-then-has
returns-then-has c = rw c.if-has.true c.negate.ensures

pub returns-else-has : goal.returns-else-has
returns-else-has c = rw c.if-has.false
