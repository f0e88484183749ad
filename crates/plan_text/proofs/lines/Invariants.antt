-- `plan_text::lines` meets its contract: the text is that of the lines so far. Assumes nothing.
use Rattle.std.proofs.Common.{◌≡◌, ◌*◌, ◌≤◌, length}
use Rattle.base_numbers.specs.Line as Line
use Rattle.plan_text.specs.Text.{lines_text}
use Rattle.plan_text.specs.Tells.{tells_in}
use Rattle.plan_text.proofs.lines.Given as goal

abbrev pub invariant-loop-k : goal.invariant-loop-k
invariant-loop-k g l =
    (l.k ≤ l.n)
    × (length l.text.bytes ≤ Line.TEXT * l.k)
    × (l.text.bytes ≡ lines_text (tells_in l.journal l.k))
