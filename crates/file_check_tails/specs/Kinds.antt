-- What the tails of the code are. Assumes nothing.
use Rattle.file_check_tails.specs.declared.Tail.{Tail}
use Rattle.file_check_tails.specs.declared.Tail.TheVariants.{Nothing, Expression, Branches, Claim, Shares}
use Rattle.semantics.specs.Record.{nothing, expression, branches, claim, shares}
use Rattle.semantics.specs.Record as R

abbrev pub kind_of : Tail → R.Tail
kind_of Nothing = nothing
kind_of Expression = expression
kind_of Branches = branches
kind_of Claim = claim
kind_of Shares = shares
