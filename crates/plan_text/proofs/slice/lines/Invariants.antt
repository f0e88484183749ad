-- `plan_text::slice::lines` meets its contract: the text of the lines so far is at the front. Assumes nothing.
use Rattle.std.proofs.Common.{◌≡◌, ◌*◌, ◌≤◌, length}
use Rattle.base_numbers.specs.Line as Line
use Rattle.plan_text.specs.Text.{lines_text}
use Rattle.plan_text.specs.Tells.{tells_in}
use Rattle.plan_text.specs.Put.{Front}
use Rattle.plan_text.proofs.slice.lines.Given as goal

abbrev pub invariant-loop-k : goal.invariant-loop-k
invariant-loop-k l =
    (l.k ≤ l.n)
    × (l.at ≤ Line.TEXT * l.k)
    × (length l.out ≡ length l.fn.out)
    × Front (lines_text (tells_in l.journal l.k)) l.fn.out l.out l.at
