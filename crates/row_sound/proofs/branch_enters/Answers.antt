-- `row_sound::branch_enters` meets its contract: the block of a branch stands before its claim. Assumes nothing.
use Prim.Native.Nat.{◌+◌, ◌-◌}
use native.Mathlib.Omega.{arith}
use mathlib.Core.Path.{◌∙◌, ap}
use lib.Dec.{eqb}
use lib.ListN.{get_or}
use Rattle.file_map.specs.Map.{claim_at}
use Rattle.semantics.specs.Bytes.{u16}
use Rattle.base_numbers.specs.Map as Map
use Rattle.row_sound.specs.Chain.{among}
use Rattle.row_sound.proofs.Loops.{among_none, among_on, among_done, claim_inside}
use Rattle.row_sound.proofs.branch_enters.Goals as goal

pub overflow_sub-many : goal.overflow_sub-many
overflow_sub-many c = omega (arith, c.number_at-from.ensures.0, c.number_at.ensures.0, c.requires.to_high)

pub loop-k-init : goal.loop-k-init
loop-k-init c = (
  c.number_at-from.ensures.0,
  omega (arith, c.number_at-from.ensures.0, c.number_at.ensures.0, c.requires.to_high),
  omega arith,
  among_none _,
)

pub overflow_sub-at : goal.overflow_sub-at
overflow_sub-at c = let l = c.loop-k in
    let i = claim_inside c.requires _ l.k l.invariant.0 (omega arith) in
    omega (arith, c.number_at-at.ensures.0, i.0)

pub number_in-requires : goal.number_in-requires
number_in-requires c = let l = c.loop-k in
    let i = claim_inside c.requires _ l.k l.invariant.0 (omega arith) in
    omega (arith, c.number_at-at.ensures.0, i.0, i.1)

pub loop-k-preserved : goal.loop-k-preserved
loop-k-preserved c = let l = c.loop-k in
    let s = c.args in
    let e = c.number_in.ensures.0 ∙ ap (λ n. u16 s.bytes.now (n - 2)) c.number_at-at.ensures.0 in
    (l.invariant.0, l.invariant.1, omega arith, among_on _ l.k _ _ (ap (λ n. eqb n s.b) e) l.invariant.3)

pub returns : goal.returns
returns c = let l = c.loop-k in
    let s = c.args in
    among_done _ l.k _ _ (omega arith) l.invariant.3
    ∙ ap (λ n. among (get_or s.map.now (Map.FROM + (s.a + 1)) 0 - get_or s.map.now (Map.FROM + s.a) 0)
    (λ j. eqb (u16 s.bytes.now (claim_at s.map.now (n + j) - 2)) s.b)) l.invariant.0
