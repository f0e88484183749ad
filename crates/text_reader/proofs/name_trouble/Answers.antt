-- What is asked for or declared by the role. Assumes nothing.
use Rattle.text_reader.proofs.Troubles.{role_asks, role_embodies, role_declares}
use Rattle.text_reader.proofs.name_trouble.Goals as goal

pub returns-then-role-ge-ASK : goal.returns-then-role-ge-ASK
returns-then-role-ge-ASK c = λ ks x d e. role_asks ks x d c.args.role e c.if-role-ge-ASK.true c.asks_trouble.ensures

pub returns-then-role-eq-CLASS : goal.returns-then-role-eq-CLASS
returns-then-role-eq-CLASS c = λ ks x d e. role_embodies ks x d c.args.role e c.if-role-eq-CLASS.true c.embodies_trouble.ensures

pub returns : goal.returns
returns c = λ ks x d e. role_declares ks x d c.args.role e c.if-role-ge-ASK.false c.if-role-eq-CLASS.false c.declares_trouble.ensures
