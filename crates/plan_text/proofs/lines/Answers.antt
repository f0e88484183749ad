-- `plan_text::lines` meets its contract: the text is that of the lines so far. Assumes nothing.
use Rattle.std.proofs.Common.{ap, arith, length}
use Rattle.plan_text.specs.Text.{lines_text}
use Rattle.plan_text.specs.Tells.{tells_in}
use Rattle.plan_text.proofs.Fields.{one_more}
use Rattle.plan_text.proofs.lines.Goals as goal

pub loop-k-init : goal.loop-k-init
unfolding lines_text tells_in
loop-k-init g c = (omega arith, omega (arith, ap length c.clear.ensures), c.clear.ensures)

pub loop-k-preserved : goal.loop-k-preserved
loop-k-preserved g c =
    let i = c.loop-k.invariant in (
      omega arith,
      omega (arith, i.1, c.push_line.ensures.upper_bound),
      one_more c.args.journal.now c.loop-k.k i.2 c.push_line.ensures.bytes,
    )
