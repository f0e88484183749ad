-- `row_sound::enters_at` meets its contract: by the kind of the record. Assumes nothing.
use native.Mathlib.Omega.{arith}
use mathlib.Core.Path.{refl, sym, ap}
use Rattle.semantics.specs.Sound.{enters_at}
use Rattle.row_sound.proofs.Acts.{none_in, number_low, head_inside, its_branches, body_inside, by_do, by_branch, by_none}
use Rattle.row_sound.proofs.enters_at.Goals as goal

pub returns-then-a-eq-ACTIONS : goal.returns-then-a-eq-ACTIONS
returns-then-a-eq-ACTIONS c = λ v. sym (ap (λ o. enters_at o _ _) (none_in v c.if-a-eq-ACTIONS.true))

pub overflow_add-a : goal.overflow_add-a
overflow_add-a c = let g = c.if-a-eq-ACTIONS.false in omega (arith, number_low c.requires g _ refl)

pub number_at-at-requires : goal.number_at-at-requires
number_at-at-requires c = let v = c.requires in
    omega (arith, v.long, number_low v c.if-a-eq-ACTIONS.false _ refl)

pub number_in-kind-requires : goal.number_in-kind-requires
number_in-kind-requires c = omega (arith, head_inside c.requires c.if-a-eq-ACTIONS.false _ c.number_at-at.ensures.0)

pub number_in-requires : goal.number_in-requires
number_in-requires c = let i =
    body_inside c.requires c.if-a-eq-ACTIONS.false _ c.number_at-at.ensures.0 _ c.number_in-kind.ensures.0
    c.if-kind-eq-DO.true in
    omega (arith, i)

pub number_in-requires-then-kind-eq-DO : goal.number_in-requires-then-kind-eq-DO
number_in-requires-then-kind-eq-DO c = let i =
    body_inside c.requires c.if-a-eq-ACTIONS.false _ c.number_at-at.ensures.0 _ c.number_in-kind.ensures.0
    c.if-kind-eq-DO.true in
    omega (arith, i)

pub returns-then-kind-eq-DO : goal.returns-then-kind-eq-DO
returns-then-kind-eq-DO c = λ v.
    rw (c.number_in.ensures.0, c.number_in-then-kind-eq-DO.ensures.0)
    (by_do v c.if-a-eq-ACTIONS.false _ c.number_at-at.ensures.0 _ c.number_in-kind.ensures.0 c.if-kind-eq-DO.true _ _)

pub branch_enters-requires : goal.branch_enters-requires
branch_enters-requires c = its_branches c.requires c.if-a-eq-ACTIONS.false _ refl

pub returns-then-kind : goal.returns-then-kind
returns-then-kind c = λ v.
    rw c.branch_enters.ensures
    (by_branch v c.if-a-eq-ACTIONS.false _ c.number_at-at.ensures.0 _ c.number_in-kind.ensures.0
    c.if-kind.true _ _)

pub returns : goal.returns
returns c = λ v.
    by_none v c.if-a-eq-ACTIONS.false _ c.number_at-at.ensures.0 _ c.number_in-kind.ensures.0 c.if-kind-eq-DO.false
    c.if-kind.false _ _
