-- `text_sheet::Sheet::stands` meets its contract. Assumes nothing.
use Rattle.std.specs.Prelude.{◌+◌, ◌<◌, ◌≡◌, true, false, [], ◌∷◌, ◌++◌, length}
use Rattle.std.proofs.Common.{arith, sym, ap, ◌∙◌, length-append}
use Rattle.semantics.specs.Numbers as No
use Rattle.text_machine.specs.Sheet as M
use Rattle.text_machine.specs.Sheet.{headed}
use Rattle.text_sheet.specs.Numbers.{crowded}
use Rattle.text_sheet.specs.Pieces.{pieces_length, laid_pushed, pieces_pushed}
use Rattle.text_sheet.specs.Shown.{sheet_of}
use Rattle.text_sheet.proofs.Steps.{has_room, stands_full, stands_room}
use Rattle.text_sheet.proofs.Sheet.stands.Goals as goal

pub returns-then-crowded : goal.returns-then-crowded
returns-then-crowded c = let a = c.args in
    let s = a.self.now in
    let k = length (headed a.kind a.body.now) in
    let four : k ≡ 4 + length a.body.now = omega arith in
    let e : crowded k s ≡ true = ap (λ n. crowded n s) four ∙ sym c.crowded.ensures ∙ c.if-crowded.true in
    ap M.filled c.self.view_is ∙ stands_full a.kind a.body.now s e

pub push-requires : goal.push-requires
push-requires c = let a = c.args in
    let i = c.self.inside in
    let room = has_room (4 + length a.body.now) a.self.now (sym c.crowded.ensures ∙ c.if-crowded.false) in
    omega (arith, room, pieces_length i.stage.items 0 i.pieces.items, ap (λ x. length x.pieces) c.self.view_is)

pub invariant_of-self-2 : goal.invariant_of-self-2
invariant_of-self-2 c = let a = c.args in
    let i = c.self.inside in
    let h = c.self.invariant in
    let bs = headed a.kind a.body.now in
    let four : 4 + length a.body.now ≡ length bs = omega arith in
    record {
      laid = laid_pushed i.stage.items bs i.pieces.items c.innermost-block.result _ h.laid
          (ap (λ n. c.len.result + n) four ∙ ap (λ n. n + length bs) c.len.ensures.value) c.append.ensures c.push.ensures.items;
    }

pub returns : goal.returns
returns c = let a = c.args in
    let i = c.self.inside in
    let z = sheet_of i in
    let bs = headed a.kind a.body.now in
    let k = length bs in
    let four : k ≡ 4 + length a.body.now = omega arith in
    let e : crowded k z ≡ false =
    ap (crowded k) c.self.view_is ∙ ap (λ n. crowded n a.self.now) four ∙ sym c.crowded.ensures ∙ c.if-crowded.false in
    let b = c.innermost-block.ensures ∙ sym (ap (λ x. M.innermost x.levels) c.self.view_is) in
    let ps = pieces_pushed i.stage.items bs i.pieces.items c.innermost-block.result _ c.self.invariant.laid
    (ap (λ n. c.len.result + n) (sym four) ∙ ap (λ n. n + length bs) c.len.ensures.value) c.append.ensures c.push.ensures.items in
    let l = ap length c.append.ensures ∙ length-append i.stage.items bs in
    ap (λ qs. M.with_pieces z qs (length c.append.new.out.items)) ps
    ∙ ap (λ n. let q : M.Piece = record { block = n; bytes = bs } in
    M.with_pieces z (z.pieces ++ (q ∷ [])) (length c.append.new.out.items)) b
    ∙ ap (λ n. let q : M.Piece = record { block = M.innermost z.levels; bytes = bs } in M.with_pieces z (z.pieces ++ (q ∷ [])) n) l
    ∙ stands_room a.kind a.body.now z e
    ∙ ap (M.stands a.kind a.body.now) c.self.view_is
