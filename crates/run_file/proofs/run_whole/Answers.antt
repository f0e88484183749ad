-- `run_file::run_whole` meets its contract: the check's refusal, or what the run says of the fresh work. Assumes nothing.
use Rattle.std.proofs.lemmas.Result.{err_from_is_err_and}
use Rattle.run_file.proofs.Says.{refused_says, reads, loaded, opened, ran_says}
use Rattle.run_file.proofs.run_whole.Goals as goal

pub returns-in_err-check : goal.returns-in_err-check
returns-in_err-check c = let p = err_from_is_err_and c.from_residual.result c.from_residual.ensures.1 in
    let the_rest = refused_says _ _ _ c.in_err-check.ensures _ _ in record {
      value = rw (p.1, p.2) the_rest.0;
      journal_after = the_rest.1;
    }

pub map_of-map-requires : goal.map_of-map-requires
map_of-map-requires c = reads _ c.in_ok-check.ensures

pub fresh-requires : goal.fresh-requires
fresh-requires c = loaded _ c.in_ok-check.ensures c.shared_slice_known-1.given _ c.map_of-map.ensures

pub run-ran-requires : goal.run-ran-requires
run-ran-requires c = opened _ c.in_ok-check.ensures c.shared_slice_known-1.given _ c.map_of-map.ensures _ c.fresh.ensures

pub returns : goal.returns
returns c = let the_rest = ran_says _ c.in_ok-check.ensures
    c.shared_slice_known-1.given _ c.map_of-map.ensures _ c.fresh.ensures
    _ _ _ _ _ c.run-ran.ensures in record {
      value = the_rest.0;
      journal_after = the_rest.1;
    }
