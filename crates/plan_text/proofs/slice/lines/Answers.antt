-- `plan_text::slice::lines` meets its contract: the text of the lines so far is at the front. Assumes nothing.
use Rattle.std.proofs.Common.{refl, ◌∙◌, rules, arith}
use Rattle.plan_text.proofs.Fronts.{none_front, line_on}
use Rattle.plan_text.proofs.slice.lines.Goals as goal

pub loop-k-init : goal.loop-k-init
loop-k-init c = (omega arith, omega arith, refl, none_front c.args.journal.now c.args.out.now)

pub slice_bounds-front-count : goal.slice_bounds-front-count
slice_bounds-front-count c = omega (arith, c.loop-k.invariant.1, c.loop-k.invariant.2, c.requires.n_in_bounds_2)

pub loop-k-preserved : goal.loop-k-preserved
loop-k-preserved c =
    let i = c.loop-k.invariant in (
      omega arith,
      omega arith,
      search rules,
      line_on c.args.journal.now c.loop-k.k _ i.3 (c.as_str.ensures.value ∙ c.lines.ensures) c.front-at.ensures refl,
    )
