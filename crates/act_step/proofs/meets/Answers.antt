-- `act_step::meets` meets its contract: the record of the action is read, and acted on. Assumes nothing.
use native.Mathlib.Omega.{arith}
use Rattle.act_step.proofs.Standing.{in_map, record_at, body_cut, meeting}
use Rattle.act_step.proofs.meets.Goals as goal

pub place_of-place-requires : goal.place_of-place-requires
place_of-place-requires c = in_map c.requires.stands

pub overflow_add-place : goal.overflow_add-place
overflow_add-place c = omega (arith, (record_at c.requires.stands c.place_of-place.ensures).there)

pub u16_at-kind-requires : goal.u16_at-kind-requires
u16_at-kind-requires c = omega (arith, (record_at c.requires.stands c.place_of-place.ensures).there)

pub overflow_add-from : goal.overflow_add-from
overflow_add-from c = omega (arith, (record_at c.requires.stands c.place_of-place.ensures).there)

pub overflow_add-to : goal.overflow_add-to
overflow_add-to c = omega (arith, (record_at c.requires.stands c.place_of-place.ensures).there)

pub u16_at-requires : goal.u16_at-requires
u16_at-requires c = omega (arith, (record_at c.requires.stands c.place_of-place.ensures).there)

pub overflow_add-to-2 : goal.overflow_add-to-2
overflow_add-to-2 c = let r = record_at c.requires.stands c.place_of-place.ensures in
    omega (arith, r.there, r.long, r.fits, c.u16_at.ensures.0)

pub slice_bounds-act-count : goal.slice_bounds-act-count
slice_bounds-act-count c = let r = record_at c.requires.stands c.place_of-place.ensures in
    omega (arith, r.there, r.long, r.fits, c.u16_at.ensures.0)

pub slice_bounds-act-start : goal.slice_bounds-act-start
slice_bounds-act-start c = let r = record_at c.requires.stands c.place_of-place.ensures in
    omega (arith, r.there, r.long, r.fits, c.u16_at.ensures.0)

pub slice_bounds-act-end : goal.slice_bounds-act-end
slice_bounds-act-end c = let r = record_at c.requires.stands c.place_of-place.ensures in
    omega (arith, r.there, r.long, r.fits, c.u16_at.ensures.0)

pub act-requires : goal.act-requires
act-requires c = let e = c.place_of-place.ensures in record {
  meets_at = meeting c.requires.stands e c.u16_at-kind.ensures.0 (body_cut c.requires.stands e c.u16_at.ensures.0);
  roomy = c.requires.roomy;
}

pub returns : goal.returns
returns c = λ v.
    let e = c.place_of-place.ensures in
    c.act.ensures (meeting v e c.u16_at-kind.ensures.0 (body_cut v e c.u16_at.ensures.0))
