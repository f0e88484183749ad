-- `row_sound::asks_at` meets its contract: by the kind of the record. Assumes nothing.
use native.Mathlib.Omega.{arith}
use mathlib.Core.Path.{refl, sym, ap}
use Rattle.semantics.specs.Sound.{asks_at}
use Rattle.row_sound.proofs.Acts.{none_in, number_low, head_inside, by_asking}
use Rattle.row_sound.proofs.asks_at.Goals as goal

pub returns-then-a-eq-ACTIONS : goal.returns-then-a-eq-ACTIONS
returns-then-a-eq-ACTIONS c = λ v. sym (ap asks_at (none_in v c.if-a-eq-ACTIONS.true))

pub overflow_add-a : goal.overflow_add-a
overflow_add-a c = let g = c.if-a-eq-ACTIONS.false in omega (arith, number_low c.requires g _ refl)

pub number_at-at-requires : goal.number_at-at-requires
number_at-at-requires c = let v = c.requires in
    omega (arith, v.long, number_low v c.if-a-eq-ACTIONS.false _ refl)

pub number_in-kind-requires : goal.number_in-kind-requires
number_in-kind-requires c = omega (arith, head_inside c.requires c.if-a-eq-ACTIONS.false _ c.number_at-at.ensures.0)

pub returns : goal.returns
returns c = λ v. by_asking v c.if-a-eq-ACTIONS.false _ c.number_at-at.ensures.0 _ c.number_in-kind.ensures.0
