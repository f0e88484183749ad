-- `base_i32::in_range` meets its contract: what stands too low or too high is out of the range. Assumes nothing.
use Rattle.base_i32.proofs.Sums.{too_low, too_high, between}
use Rattle.base_i32.proofs.in_range.Goals as goal

pub returns-then-s : goal.returns-then-s
returns-then-s c = λ v d. too_low v c.args.s c.if-s.true d

pub returns-then-s-2 : goal.returns-then-s-2
returns-then-s-2 c = λ v d. too_high v c.args.s c.if-s-2.true d

pub returns : goal.returns
returns c = λ v d. between v c.args.s c.if-s.false c.if-s-2.false d
