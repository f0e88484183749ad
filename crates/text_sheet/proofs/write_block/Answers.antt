-- `text_sheet::write_block` meets its contract. Assumes nothing.
use Rattle.std.specs.Prelude.{◌-◌, length, get_or}
use Rattle.text_sheet.specs.declared.Piece.{Piece}
use Rattle.text_sheet.specs.Pieces.{laid_within}
use Rattle.text_sheet.specs.Told.{went, passed, room_left}
use Rattle.text_sheet.specs.Part.{part}
use Rattle.text_sheet.proofs.Files.{laid_next, rest, next_in, next_out}
use Rattle.text_sheet.proofs.write_block.Goals.{then-piece-block, else-piece-block}
use Rattle.text_sheet.proofs.write_block.Goals as goal

pub slice_bounds-put-count : goal.slice_bounds-put-count
slice_bounds-put-count c =
    let a = c.args in
    let l = c.loop-piece in
    let d : Piece = record { block = 0; end = 0 } in
    let lt = c.loop-piece-test.true in
    let p = get_or a.pieces.now l.piece-index d in
    let n = laid_next a.stage.now a.pieces.now l.piece-index d lt l.start (length a.stage.now) l.invariant.0 in
    n.0

pub slice_bounds-put-end : goal.slice_bounds-put-end
slice_bounds-put-end c =
    let a = c.args in
    let l = c.loop-piece in
    let d : Piece = record { block = 0; end = 0 } in
    let lt = c.loop-piece-test.true in
    let p = get_or a.pieces.now l.piece-index d in
    let n = laid_next a.stage.now a.pieces.now l.piece-index d lt l.start (length a.stage.now) l.invariant.0 in
    laid_within p.end (length a.stage.now) _ n.1

pub put-place-requires : goal.put-place-requires
put-place-requires c =
    let a = c.args in
    let l = c.loop-piece in
    let d : Piece = record { block = 0; end = 0 } in
    let lt = c.loop-piece-test.true in
    let p = get_or a.pieces.now l.piece-index d in
    let n = laid_next a.stage.now a.pieces.now l.piece-index d lt l.start (length a.stage.now) l.invariant.0 in
    room_left l.invariant.1 (part l.start (p.end - l.start) a.stage.now)
    (rest a.stage.now a.pieces.now l.piece-index d lt l.start a.block)
    (next_in a.stage.now a.pieces.now l.piece-index d lt l.start a.block c.if-piece-block.true) c.requires.room

pub loop-piece-preserved : goal.loop-piece-preserved
loop-piece-preserved c =
    let a = c.args in
    let l = c.loop-piece in
    let d : Piece = record { block = 0; end = 0 } in
    let lt = c.loop-piece-test.true in
    let p = get_or a.pieces.now l.piece-index d in
    let n = laid_next a.stage.now a.pieces.now l.piece-index d lt l.start (length a.stage.now) l.invariant.0 in
    let r = rest a.stage.now a.pieces.now l.piece-index d lt l.start a.block in (
      n.1,
      elim c.if-piece-block.branch [
        | then-piece-block w ↦
            rw (w.out-is, w.place-is) (went l.invariant.1 (part l.start (p.end - l.start) a.stage.now) r
            (next_in a.stage.now a.pieces.now l.piece-index d lt l.start a.block w.if-piece-block.true) w.put-place.ensures)
        | else-piece-block w ↦
            rw (w.out-is, w.place-is) (passed l.invariant.1 r
            (next_out a.stage.now a.pieces.now l.piece-index d lt l.start a.block w.if-piece-block.false))
      ],
    )
