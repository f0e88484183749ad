-- `text_sheet::Sheet::crowded` meets its contract. Assumes nothing.
use Rattle.std.specs.Prelude.{◌+◌, ◌||◌, length, leb, ltb}
use Rattle.std.proofs.Common.{sym, ap, ◌∙◌}
use Rattle.semantics.specs.Numbers as No
use Rattle.text_sheet.specs.Numbers.{crowded}
use Rattle.text_sheet.specs.Pieces.{pieces_length}
use Rattle.text_sheet.specs.Shown.{sheet_of}
use Rattle.text_sheet.proofs.Sheet.crowded.Goals as goal

pub returns : goal.returns
returns c = let n = c.args.n in
    let i = c.self.inside in
    let z = sheet_of i in
    ap (λ k. leb No.most_actions k || ltb No.longest_file (c.len-2.result + n))
    (c.len.ensures.value ∙ sym (pieces_length i.stage.items 0 i.pieces.items))
    ∙ ap (λ k. leb No.most_actions (length z.pieces) || ltb No.longest_file (k + n)) c.len-2.ensures.value
    ∙ ap (crowded n) c.self.view_is
