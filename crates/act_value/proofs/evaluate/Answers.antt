-- `act_value::evaluate` meets its contract: the tree at the first node is the expression. Assumes nothing.
use Rattle.semantics.specs.Record.{expression_in}
use Rattle.act_value.proofs.Turns.{begins}
use Rattle.act_value.proofs.evaluate.Goals as goal

pub tree_at-whole-requires : goal.tree_at-whole-requires
tree_at-whole-requires c = let w = c.requires in (w, begins w.to_read)

pub returns : goal.returns
unfolding expression_in
returns c = let r = c.tree_at-whole.ensures in record {
  value = (λ w. (r w).has);
  seeds_after = (λ w. (r w).drew);
}
