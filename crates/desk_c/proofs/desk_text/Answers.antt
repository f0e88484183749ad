-- `desk_c::desk_text` meets its contract: what the reader answers, as a number and a place. Assumes nothing.
use mathlib.Core.Path.{ap, ◌∙◌}
use Rattle.desk_c.proofs.desk_text.Goals as goal

pub returns-in-Ok : goal.returns-in-Ok
returns-in-Ok c = let e = c.in-Ok.ensures in record {
  value = ap (λ a. a.number) e.value;
  place_after = ap (λ a. a.place) e.value;
  records_after = e.out_after;
}

pub returns-in-Err : goal.returns-in-Err
returns-in-Err c = let e = c.in-Err.ensures in record {
  value = c.number.ensures ∙ ap (λ a. a.number) e.value;
  place_after = ap (λ a. a.place) e.value;
  records_after = e.out_after;
}
