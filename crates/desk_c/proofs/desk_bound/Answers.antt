-- `desk_c::desk_bound` meets its contract, answer by answer. Assumes nothing.
use Prim.Native.Nat.{◌+◌}
use mathlib.Core.Path.{◌∙◌, ap}
use Rattle.desk_c.specs.Word.{REFUSED, bound_word}
use Rattle.desk_c.proofs.Words.{bound_small}
use Rattle.desk_c.proofs.desk_bound.Goals as goal

pub refused-requires : goal.refused-requires
refused-requires c = let the_rest = bound_small c.args.file.now _ _ c.in-Err.ensures in record {
  number_bound = the_rest.0;
  place_bound = the_rest.1;
}

pub returns-in-Ok-At : goal.returns-in-Ok-At
returns-in-Ok-At c = ap bound_word (rw c.in-Ok-At.field-0-is at c.in-Ok-At.ensures)

pub returns-in-Ok-None : goal.returns-in-Ok-None
returns-in-Ok-None c = ap bound_word (rw c.in-Ok-None.field-0-is at c.in-Ok-None.ensures)

pub returns-in-Ok-Over : goal.returns-in-Ok-Over
returns-in-Ok-Over c = ap bound_word (rw c.in-Ok-Over.field-0-is at c.in-Ok-Over.ensures)

pub returns-in-Err : goal.returns-in-Err
returns-in-Err c = ap (λ x. REFUSED + x) c.refused.ensures ∙ ap bound_word c.in-Err.ensures
