-- `file_index::branches_noted` meets its contract, by the kinds. Assumes nothing.
use native.Mathlib.Omega.{arith}
use Rattle.file_index.proofs.Bodies.{offered_req, offered_try_lem, offered_while, offered_other}
use Rattle.file_index.proofs.Bodies.{req_sized, while_sized, while_head, try_fits}
use Rattle.file_index.proofs.Claims.{claimed_by}
use Rattle.file_index.proofs.Rows.{rows_still}
use Rattle.file_check_parts.proofs.Laws.{rest_of}
use Rattle.file_index.proofs.branches_noted.Goals as goal

pub branch_noted-requires : goal.branch_noted-requires
branch_noted-requires c = let a = c.args in record {
  claimed = claimed_by a.bs.now (req_sized c.requires.judged c.in-25.is).0;
  roomy = rw (offered_req a.at a.kind a.bs.now c.in-25.is) at c.requires.roomy;
}

pub try_noted-requires : goal.try_noted-requires
try_noted-requires c = let a = c.args in
    let f = try_fits c.requires.judged c.in-26.is in
    record {
      short = c.requires.bs_bound;
      counted = f.0;
      fits = f.1.1;
      room = rw (offered_try_lem a.at a.kind a.bs.now c.in-26.is) at c.requires.roomy;
    }

pub overflow_cast-at-in-27 : goal.overflow_cast-at-in-27
overflow_cast-at-in-27 c = omega (arith, c.requires.bs_bound, while_head c.requires.judged c.in-27.is)

pub slice_bounds-branch_noted-count : goal.slice_bounds-branch_noted-count
slice_bounds-branch_noted-count c = while_head c.requires.judged c.in-27.is

pub slice_bounds-branch_noted-start : goal.slice_bounds-branch_noted-start
slice_bounds-branch_noted-start c = while_head c.requires.judged c.in-27.is

pub branch_noted-requires-in-27 : goal.branch_noted-requires-in-27
branch_noted-requires-in-27 c = let a = c.args in record {
  claimed = rw (rest_of 2 a.bs.now) (claimed_by _ (while_sized c.requires.judged c.in-27.is).0);
  roomy = rw (offered_while a.at a.kind a.bs.now c.in-27.is) at c.requires.roomy;
}

pub returns-in-25 : goal.returns-in-25
returns-in-25 c = let a = c.args in
    rw (offered_req a.at a.kind a.bs.now c.in-25.is) c.branch_noted.ensures

pub returns-in-26 : goal.returns-in-26
returns-in-26 c = let a = c.args in
    rw (offered_try_lem a.at a.kind a.bs.now c.in-26.is) c.try_noted.ensures

pub returns-in-27 : goal.returns-in-27
returns-in-27 c = let a = c.args in
    rw (offered_while a.at a.kind a.bs.now c.in-27.is, ← (rest_of 2 a.bs.now)) c.branch_noted-in-27.ensures

pub returns-in_default : goal.returns-in_default
returns-in_default c = let a = c.args in
    let r = c.in_default.in_default-own.rest in
    rw (offered_other a.at a.kind a.bs.now r.0.0.1 r.0.1 r.1) (rows_still a.n _)
