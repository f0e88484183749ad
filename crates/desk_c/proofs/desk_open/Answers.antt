-- `desk_c::desk_open` meets its contract: the file is refused, the row has another length, or the fresh run is unpacked into it.
-- In what follows o is what was opened, u the place after the unpacking, and n where the row has its length. Assumes nothing.
use mathlib.Core.Path.{◌∙◌}
use Rattle.desk_c.proofs.Words.{open_small, open_refused, open_no_room, open_fresh}
use Rattle.desk_c.proofs.desk_open.Goals as goal

pub refusal-requires : goal.refusal-requires
refusal-requires c = let o = c.open_run-opened in let the_rest = open_small _ o.result o.ensures in record {
  number_bound = the_rest.0;
  place_bound = the_rest.1;
}

pub returns-then-opened-ne0 : goal.returns-then-opened-ne0
returns-then-opened-ne0 c = let o = c.open_run-opened in
    let e = open_refused _ o.result o.ensures _ c.if-opened-ne0.true in record {
      value = c.refusal.ensures ∙ e.0;
      run_after = e.1;
    }

pub returns-then-run-ne-WORDS : goal.returns-then-run-ne-WORDS
returns-then-run-ne-WORDS c = let o = c.open_run-opened in
    let e = open_no_room _ o.result o.ensures _ c.if-opened-ne0.false c.if-run-ne-WORDS.true in record {
      value = c.refusal-then-run-ne-WORDS.ensures ∙ e.0;
      run_after = e.1;
    }

pub returns : goal.returns
returns c = let o = c.open_run-opened in let the_rest = open_fresh _ o.result o.ensures _ c.if-opened-ne0.false c.if-run-ne-WORDS.false _ c.unpack.ensures.w_after in record {
  value = the_rest.0;
  run_after = the_rest.1;
}
