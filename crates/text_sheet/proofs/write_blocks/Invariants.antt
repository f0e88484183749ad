-- `text_sheet::write_blocks`: what is written, and what is left to write. Assumes nothing.
use Rattle.std.specs.Prelude.{◌-◌}
use Rattle.text_machine.specs.Sheet.{blocks_from}
use Rattle.text_sheet.specs.Pieces.{pieces_from}
use Rattle.text_sheet.specs.Told.{Going}
use Rattle.text_sheet.proofs.write_blocks.Given as goal

abbrev pub invariant-loop-block : goal.invariant-loop-block
invariant-loop-block l =
    Going (blocks_from l.many 0 (pieces_from l.stage 0 l.pieces))
    (blocks_from (l.many - l.block) l.block (pieces_from l.stage 0 l.pieces)) l.fn.out l.at l.out l.place
