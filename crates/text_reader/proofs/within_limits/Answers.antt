-- The limits in turn. Assumes nothing.
use Rattle.std.proofs.Common.{ap, ◌∙◌, true, false}
use mathlib.Core.Option.{some}
use Rattle.text_reader.proofs.Cuts.{limit_total, limit_classes, limit_actions, limit_blocks, limit_depth, limit_full}
use Rattle.text_reader.proofs.within_limits.Goals as goal

pub returns-then-sheet-gt-FILE-clause-limits : goal.returns-then-sheet-gt-FILE-clause-limits
returns-then-sheet-gt-FILE-clause-limits c = λ d e.
    rw (← c.sheet.view_is) (limit_total _ c.args.line d e c.if-sheet-gt-FILE.true)

pub returns-then-classes-gt-CLASSES-clause-limits : goal.returns-then-classes-gt-CLASSES-clause-limits
returns-then-classes-gt-CLASSES-clause-limits c = λ d e.
    rw (← c.sheet.view_is) (limit_classes _ c.args.line d e c.if-sheet-gt-FILE.false c.if-classes-gt-CLASSES.true)

pub returns-then-actions-gt-ACTIONS-clause-limits : goal.returns-then-actions-gt-ACTIONS-clause-limits
returns-then-actions-gt-ACTIONS-clause-limits c = λ d e.
    rw (← c.sheet.view_is)
    (limit_actions _ c.args.line d e c.if-sheet-gt-FILE.false c.if-classes-gt-CLASSES.false c.if-actions-gt-ACTIONS.true)

pub returns-then-blocks-gt-BLOCKS-clause-limits : goal.returns-then-blocks-gt-BLOCKS-clause-limits
returns-then-blocks-gt-BLOCKS-clause-limits c = λ d e.
    rw (← c.sheet.view_is)
    (limit_blocks _ c.args.line d e c.if-sheet-gt-FILE.false c.if-classes-gt-CLASSES.false c.if-actions-gt-ACTIONS.false
    c.if-blocks-gt-BLOCKS.true)

pub returns-then-depth-gt-DEPTH-clause-limits : goal.returns-then-depth-gt-DEPTH-clause-limits
returns-then-depth-gt-DEPTH-clause-limits c = λ d e.
    ap some c.current_line.ensures
    ∙ limit_depth c.args.sheet.now c.args.line d e (rw (← c.sheet.view_is) c.if-sheet-gt-FILE.false) (rw (← c.sheet.view_is) c.if-classes-gt-CLASSES.false)
    (rw (← c.sheet.view_is) c.if-actions-gt-ACTIONS.false) (rw (← c.sheet.view_is) c.if-blocks-gt-BLOCKS.false) (rw c.depth-depth.ensures at c.if-depth-gt-DEPTH.true)

pub returns-then-sheet-clause-limits : goal.returns-then-sheet-clause-limits
returns-then-sheet-clause-limits c = λ d e.
    limit_full c.args.sheet.now c.args.line d e (rw (← c.sheet.view_is) c.if-sheet-gt-FILE.false) (rw (← c.sheet.view_is) c.if-classes-gt-CLASSES.false)
    (rw (← c.sheet.view_is) c.if-actions-gt-ACTIONS.false) (rw (← c.sheet.view_is) c.if-blocks-gt-BLOCKS.false) (rw c.depth-depth.ensures at c.if-depth-gt-DEPTH.false) true (rw (← c.sheet.view_is) c.if-sheet.true)

pub returns-clause-limits : goal.returns-clause-limits
returns-clause-limits c = λ d e.
    limit_full c.args.sheet.now c.args.line d e (rw (← c.sheet.view_is) c.if-sheet-gt-FILE.false) (rw (← c.sheet.view_is) c.if-classes-gt-CLASSES.false)
    (rw (← c.sheet.view_is) c.if-actions-gt-ACTIONS.false) (rw (← c.sheet.view_is) c.if-blocks-gt-BLOCKS.false) (rw c.depth-depth.ensures at c.if-depth-gt-DEPTH.false) false (rw (← c.sheet.view_is) c.if-sheet.false)
