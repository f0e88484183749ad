-- `file_index::try_noted` meets its contract. The loop's invariant: the rest fits and ends where the file may end, and its
-- branches are still to be written. Assumes nothing.
use lib.ListN.{length-drop}
use mathlib.Core.List.{[], ◌∷◌}
use mathlib.Core.Path.{ap}
use native.Mathlib.Omega.{arith}
use Prim.Native.Nat.{ℕ, ◌+◌, ◌-◌, ◌*◌}
use Rattle.semantics.specs.Numbers as No
use Rattle.file_index.proofs.Rows.{rows_none, rows_room, rows_next, rows_end}
use Rattle.semantics.specs.Bytes.{u16}
use Rattle.file_index.proofs.Tries.{left_all, left_some, left_none, left_less, fit_four, fit_size, fit_turn, end_turn, claim_there, offered_turn, offered_none_left}
use Rattle.file_index.specs.Branches.{Rows, rows, offered, offered_try}
use Rattle.file_check_parts.proofs.Laws.{rest_of}
use Rattle.file_index.proofs.try_noted.Goals as goal

pub u16_at-end-requires : goal.u16_at-end-requires
u16_at-end-requires c = c.requires.counted

pub slice_bounds-rest-count : goal.slice_bounds-rest-count
slice_bounds-rest-count c = c.requires.counted

pub slice_bounds-rest-start : goal.slice_bounds-rest-start
slice_bounds-rest-start c = c.requires.counted

pub overflow_add-here : goal.overflow_add-here
overflow_add-here c = omega (arith, c.requires.short)

pub loop-init : goal.loop-init
unfolding offered_try
loop-init c = let a = c.args in
    let d = rest_of 2 a.bs.now in
    let x : Rows = rows a.claim.now a.resources.now a.bins.now a.syncs.now in (
      rw d (omega (arith, c.requires.short, c.requires.counted, length-drop 2 a.bs.now)),
      (rw (left_all (u16 a.bs.now 0), d) c.requires.fits, rows_none x a.n _ _ c.requires.room (rw (left_all (u16 a.bs.now 0), d))),
    )

pub u16_at-requires : goal.u16_at-requires
u16_at-requires c = let l = c.loop in fit_four (u16 c.args.bs.now 0 - l.counter) l.rest.now (left_some c.u16_at-end.ensures.0 c.loop-test.true) l.invariant.1.0

pub overflow_cast-size : goal.overflow_cast-size
overflow_cast-size c = omega (arith, c.u16_at.ensures.1)

pub overflow_mul-size : goal.overflow_mul-size
overflow_mul-size c = omega (arith, c.u16_at.ensures.1)

pub overflow_add-size : goal.overflow_add-size
overflow_add-size c = omega (arith, c.u16_at.ensures.1)

pub overflow_add-place : goal.overflow_add-place
overflow_add-place c = let l = c.loop in omega (arith, l.invariant.0)

pub overflow_cast-place : goal.overflow_cast-place
overflow_cast-place c = let l = c.loop in
    omega (arith, l.invariant.0, fit_four (u16 c.args.bs.now 0 - l.counter) l.rest.now (left_some c.u16_at-end.ensures.0 c.loop-test.true) l.invariant.1.0)

pub slice_bounds-branch_noted-end : goal.slice_bounds-branch_noted-end
slice_bounds-branch_noted-end c = let l = c.loop in
    let z = fit_size (u16 c.args.bs.now 0 - l.counter) l.rest.now (left_some c.u16_at-end.ensures.0 c.loop-test.true) l.invariant.1.0 in
    omega (arith, c.u16_at.ensures.0)

pub branch_noted-next-requires : goal.branch_noted-next-requires
branch_noted-next-requires c = let t = (left_some c.u16_at-end.ensures.0 c.loop-test.true) in
    let l = c.loop in
    let e = ap (λ (x : ℕ). 4 + 8 * x) c.u16_at.ensures.0 in
    let p = offered_turn (u16 c.args.bs.now 0 - l.counter) l.rest.now t l.invariant.1.0 e l.here in record {
      claimed = claim_there (u16 c.args.bs.now 0 - l.counter) l.rest.now t l.invariant.1.0 e;
      roomy = rows_room l.invariant.1.1 (offered _ _ ∷ []) _ p;
    }

pub overflow_add-here-in-loop : goal.overflow_add-here-in-loop
overflow_add-here-in-loop c = let l = c.loop in
    let z = fit_size (u16 c.args.bs.now 0 - l.counter) l.rest.now (left_some c.u16_at-end.ensures.0 c.loop-test.true) l.invariant.1.0 in
    omega (arith, l.invariant.0, c.u16_at.ensures.0)

pub slice_bounds-rest-count-in-loop : goal.slice_bounds-rest-count-in-loop
slice_bounds-rest-count-in-loop c = let l = c.loop in
    let z = fit_size (u16 c.args.bs.now 0 - l.counter) l.rest.now (left_some c.u16_at-end.ensures.0 c.loop-test.true) l.invariant.1.0 in
    omega (arith, c.u16_at.ensures.0)

pub slice_bounds-rest-start-in-loop : goal.slice_bounds-rest-start-in-loop
slice_bounds-rest-start-in-loop c = let l = c.loop in
    let z = fit_size (u16 c.args.bs.now 0 - l.counter) l.rest.now (left_some c.u16_at-end.ensures.0 c.loop-test.true) l.invariant.1.0 in
    omega (arith, c.u16_at.ensures.0)

pub loop-preserved : goal.loop-preserved
loop-preserved c = let t = (left_some c.u16_at-end.ensures.0 c.loop-test.true) in
    let l = c.loop in
    let e = ap (λ (x : ℕ). 4 + 8 * x) c.u16_at.ensures.0 in
    let p = offered_turn (u16 c.args.bs.now 0 - l.counter) l.rest.now t l.invariant.1.0 e l.here in
    let after : Rows = rows c.branch_noted-next.new.claim c.branch_noted-next.new.resources c.branch_noted-next.new.bins c.branch_noted-next.new.syncs in rw (← (left_less (u16 c.args.bs.now 0) l.counter)) (
      end_turn (u16 c.args.bs.now 0 - l.counter) l.rest.now t l.invariant.1.0 e l.here No.longest_file l.invariant.0,
      (
        fit_turn (u16 c.args.bs.now 0 - l.counter) l.rest.now t l.invariant.1.0 e,
        rows_next l.invariant.1.1 (offered _ _ ∷ []) _ p {after = after} c.branch_noted-next.ensures,
      ),
    )

pub returns : goal.returns
returns c = let l = c.loop in
    rows_end l.invariant.1.1 (offered_none_left l.here (u16 c.args.bs.now 0 - l.counter) l.rest.now (left_none c.u16_at-end.ensures.0 c.loop-test.false))
