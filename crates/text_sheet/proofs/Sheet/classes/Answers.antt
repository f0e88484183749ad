-- `text_sheet::Sheet::classes` meets its contract. Assumes nothing.
use Rattle.std.specs.Prelude.{◌+◌, ◌/◌, ◌%◌, ◌≡◌, [], ◌∷◌, length}
use Rattle.std.proofs.Common.{arith, ap, ◌∙◌}
use Rattle.semantics.specs.Kinds as K
use Rattle.semantics.specs.Words.{more}
use Rattle.text_semantics.specs.Written.{two}
use Rattle.text_machine.specs.Sheet as M
use Rattle.text_machine.specs.Sheet.{headed}
use Rattle.text_sheet.specs.Numbers.{class_noted}
use Rattle.text_sheet.proofs.Steps.{classes_swap}
use Rattle.text_sheet.proofs.Sheet.classes.Goals as goal

pub returns : goal.returns
unfolding M.classes
returns c = let a = c.args in
    let s = a.self.now in
    let t = M.with_total s (more s.seen K.CLASS 1) 6 in
    let bs = headed K.CLASS (two a.block) in
    let q : a.block / 256 % 256 ≡ a.block / 256 = omega (arith, c.requires.1) in
    let w : c.to_le_bytes.result ≡ two a.block = c.to_le_bytes.ensures ∙ ap (λ b. a.block % 256 ∷ b ∷ []) q in
    let n = c.len-at.ensures.value ∙ ap (λ x. length x.declared) c.self.view_is in
    let d : c.declaring.new.self ≡ M.declaring bs t =
    c.declaring.ensures ∙ ap (λ xs. M.declaring (headed K.CLASS xs) c.counted.new.self) w
    ∙ ap (M.declaring bs) c.counted.ensures in
    c.noted.ensures ∙ ap (λ k. class_noted (k + 4) a.line c.declaring.new.self) n
    ∙ ap (class_noted (length s.declared + 4) a.line) d
    ∙ classes_swap bs a.line t
