-- `act_step::step` meets its contract: somebody has the floor, or nobody. Assumes nothing.
use Prim.Native.Nat.{ℕ, ◌-◌}
use lib.ListN.{get_or}
use native.Mathlib.Omega.{arith}
use Rattle.act_step.proofs.First.{work_long, floored, moved_as}
use Rattle.act_step.proofs.step.Goals as goal

pub bounds-w-3 : goal.bounds-w-3
bounds-w-3 c = omega (arith, work_long c.requires.going)

pub moves-requires : goal.moves-requires
moves-requires c = let h = c.if-floor-eq0.false in record {
  floored = floored c.requires.going _ h (omega (arith, h));
  roomy = c.requires.roomy;
}

pub returns : goal.returns
returns c = λ v.
    let h = c.if-floor-eq0.false in
    let p : ℕ = get_or c.args.w.now 3 0 - 1 in
    rw (moved_as v p h (omega (arith, h)))
    (c.moves.ensures (floored v p h (omega (arith, h))))
