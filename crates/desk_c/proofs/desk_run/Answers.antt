-- `desk_c::desk_run` meets its contract: the whole run's answer in one number. Assumes nothing.
use mathlib.Core.Path.{◌∙◌, ap}
use Prim.Native.Nat.{◌+◌}
use Rattle.desk_c.specs.Word.{REFUSED, run_word}
use Rattle.desk_c.proofs.Words.{run_small}
use Rattle.desk_c.proofs.desk_run.Goals as goal

pub refused-requires : goal.refused-requires
refused-requires c = let the_rest = run_small c.args.file.now _ _ _ _ c.in-Err.ensures.value in record {
  number_bound = the_rest.0;
  place_bound = the_rest.1;
}

pub returns-in-Ok : goal.returns-in-Ok
returns-in-Ok c = record {
  value = c.told.ensures ∙ ap run_word c.in-Ok.ensures.value;
  journal_after = c.in-Ok.ensures.journal_after;
}

pub returns-in-Err : goal.returns-in-Err
returns-in-Err c = record {
  value = ap (λ x. REFUSED + x) c.refused.ensures ∙ ap run_word c.in-Err.ensures.value;
  journal_after = c.in-Err.ensures.journal_after;
}
