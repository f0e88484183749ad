-- `file_index::named` meets its contract, by the kinds. Assumes nothing.
use lib.ListN.{length, get_or}
use mathlib.Core.Path.{refl, ◌∙◌, ap}
use native.Mathlib.Omega.{arith}
use Rattle.file_index.proofs.Bodies.{do_head, while_head, try_fits, start_head}
use Rattle.file_index.proofs.Bodies.{goes_do, goes_while, goes_try, goes_start, goes_other}
use Rattle.file_index.proofs.named.Goals as goal

pub pair_at-requires : goal.pair_at-requires
pair_at-requires c = do_head c.requires.judged c.in-20.is

pub noted-requires : goal.noted-requires
noted-requires c = let a = c.args in
    let e = ap length (goes_do a.start a.body a.kind a.bs.now c.in-20.is) in
    omega (arith, e, c.requires.bs_in_bounds)

pub pair_at-requires-in-27 : goal.pair_at-requires-in-27
pair_at-requires-in-27 c = while_head c.requires.judged c.in-27.is

pub noted-requires-in-27 : goal.noted-requires-in-27
noted-requires-in-27 c = let a = c.args in
    let e = ap length (goes_while a.start a.body a.kind a.bs.now c.in-27.is) in
    omega (arith, e, c.requires.bs_in_bounds)

pub branches_named-requires : goal.branches_named-requires
branches_named-requires c = let a = c.args in
    let k = c.in-26.is in
    let f = try_fits c.requires.judged k in
    let e = ap length (goes_try a.start a.body a.kind a.bs.now k) in
    record { counted = f.0; fits = f.1.1; room = omega (arith, e, c.requires.bs_in_bounds) }

pub pair_at-requires-in-28 : goal.pair_at-requires-in-28
pair_at-requires-in-28 c = omega (arith, start_head c.requires.judged c.in-28.is)

pub noted-requires-in-28 : goal.noted-requires-in-28
noted-requires-in-28 c = let a = c.args in
    let e = goes_start a.start a.body a.kind a.bs.now c.in-28.is in
    let b = c.body_of.ensures ∙ ap (λ x. get_or a.body x 0) c.pair_at-in-28.ensures in
    rw (b, ← e) c.requires.bs_in_bounds

pub returns-in-20 : goal.returns-in-20
returns-in-20 c = let a = c.args in
    let e = goes_do a.start a.body a.kind a.bs.now c.in-20.is in
    rw (e, ← c.pair_at.ensures) c.noted.ensures

pub returns-in-27 : goal.returns-in-27
returns-in-27 c = let a = c.args in
    let e = goes_while a.start a.body a.kind a.bs.now c.in-27.is in
    rw (e, ← c.pair_at-in-27.ensures) c.noted-in-27.ensures

pub returns-in-26 : goal.returns-in-26
returns-in-26 c = let a = c.args in
    let e = goes_try a.start a.body a.kind a.bs.now c.in-26.is in
    rw e c.branches_named.ensures

pub returns-in-28 : goal.returns-in-28
returns-in-28 c = let a = c.args in
    let e = goes_start a.start a.body a.kind a.bs.now c.in-28.is in
    let b = c.body_of.ensures ∙ ap (λ x. get_or a.body x 0) c.pair_at-in-28.ensures in
    rw (e, ← b) c.noted-in-28.ensures

pub returns-in_default : goal.returns-in_default
returns-in_default c = let a = c.args in
    let r = c.in_default.in_default-own.rest in
    let e = goes_other a.start a.body a.kind a.bs.now r.0.0.0.1 r.0.0.1 r.0.1 r.1 in
    rw e (record { next_is = omega arith; after_is = refl })
