-- `plan_text::push_line` meets its contract: it puts the four numbers of the line. Assumes nothing.
use Rattle.std.proofs.Common.{arith}
use Rattle.plan_text.proofs.Fields.{line_put}
use Rattle.plan_text.proofs.push_line.Goals as goal

pub returns-clause-bytes : goal.returns-clause-bytes
returns-clause-bytes g c =
    line_put c.args.journal.now c.args.text.now.bytes c.u32_at-2.ensures c.u32_at-3.ensures c.u16_at-kind.ensures.0
    c.u32_at.ensures c.cast_signed-value.ensures (omega arith) (omega arith) (omega arith) (omega arith) c.push_number.ensures.bytes
    c.push_number-2.ensures.bytes c.push_number-3.ensures.bytes c.push_number-4.ensures.bytes
