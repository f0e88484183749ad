-- `row_grant::choice` meets its contract. Assumes nothing.
use mathlib.Core.Path.{sym, ◌∙◌}
use Rattle.row_grant.proofs.Facing.{asking, barred_taken, first_taken}
use Rattle.row_grant.proofs.choice.Goals as goal

pub returns-then-barred : goal.returns-then-barred
returns-then-barred c = λ v. barred_taken v (sym c.if-barred.true ∙ c.barred.ensures v)

pub first_met-requires : goal.first_met-requires
first_met-requires c = asking c.requires

pub returns : goal.returns
returns c = λ v.
    first_taken v c.first_met.ensures (sym c.if-barred.false ∙ c.barred.ensures v)
