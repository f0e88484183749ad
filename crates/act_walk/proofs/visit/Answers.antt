-- `act_walk::visit` meets its contract. Assumes nothing.
use native.Mathlib.Omega.{arith}
use Rattle.act_walk.proofs.Going.{shown}
use Rattle.act_walk.proofs.Visiting.{listed, place_is, its_place, place_low, number_fits, action_low, facing, at_action}
use Rattle.act_walk.proofs.Visiting.{branch_few, stayed, going, gone}
use Rattle.act_walk.proofs.visit.Goals as goal

pub blocked_at-place-requires : goal.blocked_at-place-requires
blocked_at-place-requires c = listed c.requires.visiting

pub action_at-action-requires : goal.action_at-action-requires
action_at-action-requires c = let v = c.requires.visiting in
    (its_place v _ (place_is v _ c.blocked_at-place.ensures.0), v.walking.mapped.long)

pub branch-chosen-requires : goal.branch-chosen-requires
branch-chosen-requires c = let v = c.requires.visiting in
    facing v _ (place_is v _ c.blocked_at-place.ensures.0) _ c.action_at-action.ensures

pub returns-in_default-chosen : goal.returns-in_default-chosen
returns-in_default-chosen c = (
  λ v.
      stayed v _ (place_is v _ c.blocked_at-place.ensures.0) _ c.action_at-action.ensures
      c.branch-chosen.ensures _ _ c.in_default-chosen.is,
  omega arith,
)

pub number_of-number-requires : goal.number_of-number-requires
number_of-number-requires c = let v = c.requires.visiting in
    shown v.walking (place_low v _ (place_is v _ c.blocked_at-place.ensures.0))

pub note-requires : goal.note-requires
note-requires c = let v = c.requires.visiting in
    let e = place_is v _ c.blocked_at-place.ensures.0 in
    let f =
    branch_few v _ e _ c.action_at-action.ensures c.branch-chosen.ensures c.in_Goes-chosen.is in
    let fits = number_fits v _ e _ c.number_of-number.ensures in record {
      shown = (shown v.walking tt, (c.requires.at_in_bounds, omega arith));
      number_bound = (fits, omega (arith, f));
    }

pub branches_from-first-requires : goal.branches_from-first-requires
branches_from-first-requires c = let v = c.requires.visiting in
    let e = place_is v _ c.blocked_at-place.ensures.0 in
    (v.walking.mapped.long, omega (arith, action_low v _ e _ c.action_at-action.ensures))

pub enters_at-enters-requires : goal.enters_at-enters-requires
enters_at-enters-requires c = let v = c.requires.visiting in
    at_action v _ (place_is v _ c.blocked_at-place.ensures.0) _ c.action_at-action.ensures

pub overflow_add-first : goal.overflow_add-first
overflow_add-first c = let v = c.requires.visiting in
    let e = place_is v _ c.blocked_at-place.ensures.0 in
    let f =
    branch_few v _ e _ c.action_at-action.ensures c.branch-chosen.ensures c.in_Goes-chosen.is in
    omega (arith, f, c.branches_from-first.ensures)

pub release-requires : goal.release-requires
release-requires c = let v = c.requires.visiting in
    let e = place_is v _ c.blocked_at-place.ensures.0 in
    going v _ e _ c.action_at-action.ensures c.branch-chosen.ensures c.in_Goes-chosen.is
    c.branches_from-first.ensures _ c.enters_at-enters.ensures

pub returns : goal.returns
returns c = (
  λ v.
      gone v _ (place_is v _ c.blocked_at-place.ensures.0) _ c.action_at-action.ensures
      c.branch-chosen.ensures c.in_Goes-chosen.is
      c.branches_from-first.ensures _ c.enters_at-enters.ensures
      _ _ _ _ _ c.number_of-number.ensures c.note.ensures c.release.ensures,
  omega arith,
)
