-- `row_sound::action_in` meets its contract: where the next block begins tells which actions there are. Assumes nothing.
use Prim.Native.Nat.{◌+◌}
use native.Mathlib.Omega.{arith}
use mathlib.Core.Path.{refl, ap}
use lib.ListN.{get_or}
use borrow.Author.Tests.{lt-ltb, le-ltb}
use Rattle.row_sound.proofs.action_in.Goals as goal

pub returns-then-a-number_at : goal.returns-then-a-number_at
returns-then-a-number_at c = let a = c.number_at.ensures.0 in
    let b = c.number_at-2.ensures.0 in
    let s = c.args in
    rw (lt-ltb (get_or s.map.now s.b 0 + s.at) (get_or s.map.now (s.b + 1) 0) (omega arith)) (ap (λ n. n + s.at) a)

pub returns-else-a-number_at : goal.returns-else-a-number_at
returns-else-a-number_at c = let a = c.number_at.ensures.0 in
    let b = c.number_at-2.ensures.0 in
    let s = c.args in
    rw (le-ltb (get_or s.map.now s.b 0 + s.at) (get_or s.map.now (s.b + 1) 0) (omega arith)) refl
