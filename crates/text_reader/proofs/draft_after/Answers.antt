-- The draft is handed on, or the try that is kept. Assumes nothing.
use Rattle.std.proofs.Common.{sym, ◌∙◌, ap, get_or}
use Rattle.semantics.specs.Kinds as K
use Rattle.text_machine.specs.Codes.{symbol_of, token_of}
use Rattle.text_machine.specs.Entry.{drafted}
use Rattle.text_machine.specs.Sheet.{resumed, kept_in, blocks_of}
use Rattle.text_reader.proofs.Drafts.{goes_etry, goes_plain}
use Rattle.text_reader.proofs.draft_after.Goals as goal
use Rattle.text_reader.proofs.draft_after.Goals.{then-token-s, else-token-s}

pub returns-clause-value : goal.returns-clause-value
returns-clause-value c = λ x.
    let a = c.args in
    let t = a.token in
    let n = a.named in
    let kept = resumed (kept_in a.sheet.now.levels) in
    let blocks = ap (λ z. drafted n.kind n.number (blocks_of z) t.place kept (symbol_of a.s) (token_of t.kind t.value x) a.draft.now)
    c.sheet.view_is in
    elim c.if-token-s.branch [
      | then-token-s w ↦ c.drafted.ensures x
          ∙ goes_etry a.s t.kind t.value n.kind n.number (get_or c.sheet.inside.seen K.BLOCK 0) t.place kept a.draft.now
          c.if-token-s.draft x w.if-token-s.true
          (w.draft-is ∙ w.resume.ensures ∙ sym w.resumed-kept.ensures.draft) ∙ blocks
      | else-token-s w ↦ c.drafted.ensures x
          ∙ goes_plain a.s t.kind t.value n.kind n.number (get_or c.sheet.inside.seen K.BLOCK 0) t.place kept a.draft.now
          c.if-token-s.draft x w.if-token-s.false c.requires.fits.etry w.draft-is ∙ blocks
    ]
