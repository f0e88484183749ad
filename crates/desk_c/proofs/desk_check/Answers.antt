-- `desk_c::desk_check` meets its contract: the check's number and place in one number. Assumes nothing.
use mathlib.Core.Path.{◌∙◌, ap}
use Rattle.desk_c.specs.Word.{check_word}
use Rattle.desk_c.proofs.Words.{check_small}
use Rattle.desk_c.proofs.desk_check.Goals as goal

pub refused-requires : goal.refused-requires
refused-requires c = let the_rest = check_small c.args.file.now _ _ c.in-Err.ensures in record {
  number_bound = the_rest.0;
  place_bound = the_rest.1;
}

pub returns-in-Ok : goal.returns-in-Ok
returns-in-Ok c = ap check_word c.in-Ok.ensures

pub returns-in-Err : goal.returns-in-Err
returns-in-Err c = c.refused.ensures ∙ ap check_word c.in-Err.ensures
