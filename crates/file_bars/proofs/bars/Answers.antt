-- `file_bars::bars` meets its contract. The loop's invariant: what the branches of q that are left say is the whole answer,
-- which the map's law turns into the definitions' words. Assumes nothing.
use mathlib.Core.Path.{refl, ◌∙◌}
use native.Mathlib.Omega.{arith}
use Rattle.file_bars.proofs.Branches.{all_turn, none_left, barred, all_there}
use Rattle.file_bars.proofs.bars.Goals as goal

pub branches_from-from-requires : goal.branches_from-from-requires
branches_from-from-requires c = let p = c.requires in omega (arith, p.long, p.b_few)

pub overflow_add-b : goal.overflow_add-b
overflow_add-b c = omega (arith, c.requires.b_few)

pub branches_from-to-requires : goal.branches_from-to-requires
branches_from-to-requires c = let p = c.requires in omega (arith, p.long, p.b_few)

pub overflow_add-q : goal.overflow_add-q
overflow_add-q c = omega (arith, c.requires.q_few)

pub branches_from-end-requires : goal.branches_from-end-requires
branches_from-end-requires c = let p = c.requires in omega (arith, p.long, p.q_few)

pub branches_from-n-requires : goal.branches_from-n-requires
branches_from-n-requires c = let p = c.requires in omega (arith, p.long, p.q_few)

pub loop-n-init : goal.loop-n-init
loop-n-init c = let p = c.requires in
    let from = c.branches_from-from.ensures in
    let to = c.branches_from-to.ensures in
    let end = c.branches_from-end.ensures in
    let n = c.branches_from-n.ensures in
    rw (from, to, end, n) ((all_there _ _ _ _ p.by_at, all_there _ _ _ _ p.of_at), refl)

pub covered-requires : goal.covered-requires
covered-requires c = let p = c.requires in
    let l = c.loop-n in
    (p.long, (l.invariant.0.0, l.invariant.0.1 l.n (omega arith) c.loop-n-test.true))

pub returns-then-not-covered : goal.returns-then-not-covered
returns-then-not-covered c = λ v. let l = c.loop-n in
    let f = c.if-not-covered.true in
    all_turn l.n _ _ _ _ c.loop-n-test.true c.covered.ensures f l.invariant.1 ∙ barred _ _ v

pub loop-n-preserved : goal.loop-n-preserved
loop-n-preserved c = let l = c.loop-n in
    let t = c.loop-n-test.true in
    let f = c.if-not-covered.false in
    let i = all_turn l.n _ _ _ _ t c.covered.ensures f l.invariant.1 in
    ((l.invariant.0.0, λ k g h. l.invariant.0.1 k (omega arith) h), i)

pub returns : goal.returns
returns c = λ v. let l = c.loop-n in
    rw (none_left l.n _ c.loop-n-test.false) at l.invariant.1 ∙ barred _ _ v
