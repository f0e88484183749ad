-- `desk_c::desk_move` meets its contract: a row of another length is turned away, and any other is packed, moved on and
-- unpacked. In what follows f is the place where the file is known, u after the unpacking, m after the call; p is what was
-- packed. Assumes nothing.
use mathlib.Core.Path.{◌∙◌}
use Rattle.run_file.proofs.Says.{all_bytes}
use Rattle.desk_c.proofs.Words.{move_away, move_moved}
use Rattle.desk_c.proofs.desk_move.Goals as goal

pub returns-then-run-ne-WORDS : goal.returns-then-run-ne-WORDS
returns-then-run-ne-WORDS c = let bs = c.args.file.now in
    let e = move_away bs _ _ _ (all_bytes bs c.shared_slice_known-1.given) c.if-run-ne-WORDS.true in record {
      value = c.told.ensures ∙ e.0;
      run_after = e.1.0;
      journal_after = e.1.1;
    }

pub returns : goal.returns
returns c = let p = c.pack-state in let the_rest = move_moved _ _ _ _ p.result p.ensures.result_value c.moved_on-moved.result _ _ _ c.moved_on-moved.ensures.0
    c.unpack.ensures.w_after c.told-2.ensures in record {
      value = the_rest.0;
      run_after = the_rest.1.0;
      journal_after = the_rest.1.1;
    }
