-- `row_begin_end::fill` meets its contract. The loop's invariant: with what is left to write, the row is the whole one.
-- Assumes nothing.
use Prim.Native.Nat.{◌-◌, ◌<◌}
use native.Mathlib.Omega.{arith}
use mathlib.Core.Path.{◌≡◌, refl, sym, ◌∙◌}
use lib.ListN.{length, length-set}
use Rattle.row_begin_end.proofs.Filling.{fill_starts, fill_turn, fill_ends}
use Rattle.row_begin_end.proofs.fill.Goals as goal

pub loop-i-init : goal.loop-i-init
loop-i-init c = let a = c.args in (refl, (omega arith, fill_starts a.row.now a.v))

pub loop-i-smaller : goal.loop-i-smaller
loop-i-smaller c = simp length-set (omega arith)

pub loop-i-preserved : goal.loop-i-preserved
loop-i-preserved c = let l = c.loop-i in
    let a = c.args in
    let n = length a.row.now in
    let h : l.i < n = omega arith in (
      length-set l.row l.i a.v ∙ l.invariant.0,
      (simp length-set (omega arith), fill_turn l.row n l.i a.v h ∙ l.invariant.1.1),
    )

pub returns : goal.returns
returns c = let l = c.loop-i in
    let a = c.args in
    let n = length a.row.now in
    let h : n - l.i ≡ 0 = omega arith in
    sym (fill_ends l.row n l.i a.v h) ∙ l.invariant.1.1
