-- `text_sheet::write_blocks` meets its contract. Assumes nothing.
use Rattle.std.specs.Prelude.{◌+◌, ◌-◌, [], ◌++◌, length}
use Rattle.std.proofs.Common.{arith, ap, length-append}
use Rattle.semantics.specs.Kinds as K
use Rattle.text_machine.specs.Sheet as M
use Rattle.text_machine.specs.Sheet.{headed}
use Rattle.text_sheet.specs.Pieces.{pieces_from}
use Rattle.text_sheet.specs.Told.{Put, put_on, went, room_left, gone}
use Rattle.text_sheet.specs.Told.{put_length}
use Rattle.std.proofs.Common.{subst}
use Rattle.text_sheet.proofs.Files.{next_block, no_block}
use Rattle.text_sheet.proofs.write_blocks.Goals as goal

pub put-place-requires : goal.put-place-requires
put-place-requires c =
    let a = c.args in
    let l = c.loop-block in
    let ps = pieces_from a.stage.now 0 a.pieces.now in
    let t = headed K.BLOCK [] ++ M.standing l.block ps in
    let more = M.blocks_from (a.many - (l.block + 1)) (l.block + 1) ps in
    let e = next_block ps a.many l.block c.loop-block-test.true in
    let room = room_left l.invariant t more e c.requires.room in
    let long = length-append (headed K.BLOCK []) (M.standing l.block ps) in
    omega (arith, room, long, ap length c.head.ensures)

pub write_block-place-requires-clause-room : goal.write_block-place-requires-clause-room
write_block-place-requires-clause-room c =
    let a = c.args in
    let l = c.loop-block in
    let ps = pieces_from a.stage.now 0 a.pieces.now in
    let t = headed K.BLOCK [] ++ M.standing l.block ps in
    let more = M.blocks_from (a.many - (l.block + 1)) (l.block + 1) ps in
    let e = next_block ps a.many l.block c.loop-block-test.true in
    let room = room_left l.invariant t more e c.requires.room in
    let long = length-append (headed K.BLOCK []) (M.standing l.block ps) in
    omega (arith, room, long, ap length c.head.ensures, c.put-place.ensures.behind, put_length c.put-place.ensures)

pub loop-block-preserved : goal.loop-block-preserved
loop-block-preserved c =
    let a = c.args in
    let l = c.loop-block in
    let ps = pieces_from a.stage.now 0 a.pieces.now in
    let t = headed K.BLOCK [] ++ M.standing l.block ps in
    let more = M.blocks_from (a.many - (l.block + 1)) (l.block + 1) ps in
    let e = next_block ps a.many l.block c.loop-block-test.true in
    let room = room_left l.invariant t more e c.requires.room in
    let long = length-append (headed K.BLOCK []) (M.standing l.block ps) in
    let h : Put (headed K.BLOCK []) l.out l.place c.put-place.new.out c.put-place.result =
    subst (λ bs. Put bs l.out l.place c.put-place.new.out c.put-place.result) c.head.ensures c.put-place.ensures in
    went l.invariant t more e (put_on h c.write_block-place.ensures)

pub returns : goal.returns
returns c = let a = c.args in
    let l = c.loop-block in
    gone l.invariant (no_block (pieces_from a.stage.now 0 a.pieces.now) a.many l.block (omega (arith, c.loop-block-test.false)))
