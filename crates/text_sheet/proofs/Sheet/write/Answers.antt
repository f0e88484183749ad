-- `text_sheet::Sheet::write` meets its contract. Assumes nothing.
use Rattle.std.specs.Prelude.{◌++◌, length, get_or, drop}
use Rattle.std.proofs.Common.{arith, ap, ◌∙◌}
use Rattle.semantics.specs.Kinds as K
use Rattle.text_machine.specs.Sheet as M
use Rattle.text_machine.specs.Sheet.{headed}
use Rattle.text_sheet.specs.Pieces.{pieces_from}
use Rattle.text_sheet.specs.Told.{put_on, put_front}
use Rattle.text_sheet.proofs.Sheet.write.Goals as goal

pub returns-clause-out_after : goal.returns-clause-out_after
unfolding M.file
returns-clause-out_after c = let i = c.self.inside in
    let n = get_or i.seen K.BLOCK 0 in
    let e =
    ap (λ xs. xs ++ M.blocks_from n 0 (pieces_from c.as_slice-3.result.now 0 c.as_slice-2.result.now)) c.as_slice.ensures.value
    ∙ ap (λ xs. i.declared.items ++ M.blocks_from n 0 (pieces_from xs 0 c.as_slice-2.result.now)) c.as_slice-3.ensures.value
    ∙ ap (λ ps. i.declared.items ++ M.blocks_from n 0 (pieces_from i.stage.items 0 ps)) c.as_slice-2.ensures.value
    ∙ ap M.file c.self.view_is in
    let w = put_front (put_on c.put-place.ensures c.write_blocks.ensures) (omega (arith, ap length e, c.requires)) in
    w.1 ∙ ap (λ t. t ++ drop c.write_blocks.result c.args.out.now) e
