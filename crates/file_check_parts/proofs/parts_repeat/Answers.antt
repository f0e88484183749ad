-- `file_check_parts::parts_repeat` meets its contract. Assumes nothing.
use Rattle.std.proofs.Common.{sym, ◌∙◌}
use native.Mathlib.Omega.{arith}
use Rattle.semantics.specs.Record.{same_part}
use Rattle.file_check_parts.proofs.Laws.{fits_less}
use Rattle.file_check_parts.proofs.Chunks.{repeats_here, repeats_on, repeats_no_more}
use Rattle.file_check_parts.proofs.parts_repeat.Goals as goal

pub returns-then-named_again : goal.returns-then-named_again
returns-then-named_again g c =
    let s = c.split_at.ensures in
    sym (repeats_here (same_part g.P.Listed.kind) _ _ _ _ _ _ c.SIZE.ensures c.loop-left-test.true s.front s.back
    (sym c.if-named_again.ensures)) ∙ c.loop-left.invariant.1

pub loop-left-preserved : goal.loop-left-preserved
loop-left-preserved g c =
    let s = c.split_at.ensures in (
      omega (
        arith,
        c.SIZE.ensures,
        s.back_len,
        fits_less g.P.Part.SIZE c.loop-left.left _ c.loop-left-test.true
            c.loop-left.invariant.0,
      ),
      sym (repeats_on (same_part g.P.Listed.kind) _ _ _ _ _ _ c.SIZE.ensures c.loop-left-test.true s.front s.back
          (sym c.if-named_again.ensures)) ∙ c.loop-left.invariant.1,
    )

pub returns : goal.returns
returns g c = sym (repeats_no_more (same_part g.P.Listed.kind) _ _ _ c.loop-left-test.false) ∙ c.loop-left.invariant.1
