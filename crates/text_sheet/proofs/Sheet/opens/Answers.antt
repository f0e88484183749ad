-- `text_sheet::Sheet::opens` meets its contract. Assumes nothing.
use Rattle.std.specs.Prelude.{length}
use Rattle.std.proofs.Common.{ap, ◌∙◌}
use Rattle.semantics.specs.Kinds as K
use Rattle.text_sheet.specs.Numbers.{entry}
use Rattle.text_sheet.proofs.Steps.{acts_blocks, tries_blocks, opens_fits}
use Rattle.text_sheet.proofs.Sheet.opens.Goals.{then-is_try, else-is_try}
use Rattle.text_sheet.proofs.Sheet.opens.Goals as goal

pub braces-requires : goal.braces-requires
braces-requires c = let a = c.args in
    let s = a.self.now in
    elim c.if-is_try.branch [
      | then-is_try w ↦
          opens_fits s (w.self-is ∙ w.tries.ensures) (tries_blocks (entry a.line K.TRY (length a.body.now) a.body.now) s)
          c.requires.open.1 c.requires.open.2
      | else-is_try w ↦
          let k = acts_blocks (entry a.line a.kind (length a.body.now) a.body.now) s in
          opens_fits s (w.self-is ∙ w.acts.ensures) (k.0, ap length k.1) c.requires.open.1 c.requires.open.2
    ]
