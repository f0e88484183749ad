-- `text_sheet::write_block`: what is written, and what is left to write. Assumes nothing.
use Rattle.std.specs.Prelude.{drop, length}
use Rattle.text_machine.specs.Sheet.{standing}
use Rattle.text_sheet.specs.Pieces.{pieces_from, Laid}
use Rattle.text_sheet.specs.Told.{Going}
use Rattle.text_sheet.proofs.write_block.Given as goal

abbrev pub invariant-loop-piece : goal.invariant-loop-piece
invariant-loop-piece l =
    Laid l.start (length l.stage) (drop l.piece-index l.pieces)
    × Going (standing l.block (pieces_from l.stage 0 l.pieces))
    (standing l.block (pieces_from l.stage l.start (drop l.piece-index l.pieces))) l.fn.out l.at l.out l.place
