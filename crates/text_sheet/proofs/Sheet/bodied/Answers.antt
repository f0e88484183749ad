-- `text_sheet::Sheet::bodied` meets its contract. Assumes nothing.
use Rattle.std.specs.Prelude.{◌+◌, ◌/◌, ◌%◌, ◌≤◌, ◌<◌, ◌≡◌, [], ◌∷◌, ◌++◌, length, get_or, map, take, drop}
use Rattle.std.proofs.Common.{arith, sym, ap, ◌∙◌}
use Rattle.std.proofs.lemmas.List.{get_or-map, length-map}
use Rattle.text_semantics.specs.Written.{two}
use Rattle.text_machine.specs.Sheet as M
use Rattle.text_machine.specs.Sheet.{headed}
use Rattle.text_sheet.specs.Classes.{at_of}
use Rattle.text_sheet.specs.Shown.{sheet_of}
use Rattle.text_sheet.specs.declared.Class.{Class}
use Rattle.text_sheet.proofs.Sheet.bodied.Goals as goal

pub set_all-requires : goal.set_all-requires
set_all-requires c =
    let a = c.args in
    let i = c.self.inside in
    let cs = i.classes.items in
    let d : Class = record { at = 0; line = 0 } in
    let v = c.self.view_is in
    let at = (get_or c.as_slice.result.now a.class d).at in
    let q : at ≡ (get_or cs a.class d).at = ap (λ xs. (get_or xs a.class d).at) c.as_slice.ensures.value in
    let low : a.class < length cs = omega (arith, length-map cs at_of, c.requires.class_bound.0, ap (λ x. length x.class_at) v) in
    let fits : get_or (map at_of cs) a.class 0 + 2 ≤ length i.declared.items = rw (← v) at c.requires.place in
    omega (arith, fits, q, get_or-map at_of cs a.class d 0 low, ap length c.to_le_bytes-bytes.ensures)

pub returns : goal.returns
unfolding M.bodied
returns c =
    let a = c.args in
    let i = c.self.inside in
    let cs = i.classes.items in
    let d : Class = record { at = 0; line = 0 } in
    let v = c.self.view_is in
    let at = (get_or c.as_slice.result.now a.class d).at in
    let q : at ≡ (get_or cs a.class d).at = ap (λ xs. (get_or xs a.class d).at) c.as_slice.ensures.value in
    let low : a.class < length cs = omega (arith, length-map cs at_of, c.requires.class_bound.0, ap (λ x. length x.class_at) v) in
    let xs = i.declared.items in
    let bs = c.to_le_bytes-bytes.result in
    let z = sheet_of i in
    let p : at ≡ get_or z.class_at a.class 0 = q ∙ sym (get_or-map at_of cs a.class d 0 low) in
    let r : a.block / 256 % 256 ≡ a.block / 256 = omega (arith, c.requires.class_bound.1) in
    let t : bs ≡ two a.block = c.to_le_bytes-bytes.ensures ∙ ap (λ b. a.block % 256 ∷ b ∷ []) r in
    ap (λ ds. M.with_class (M.with_declared z ds) z.class_at z.class_line a.class)
    (c.set_all.ensures.items ∙ ap (λ ys. take at xs ++ ys ++ drop (at + length ys) xs) t
    ∙ ap (λ n. take n xs ++ two a.block ++ drop (n + 2) xs) p)
    ∙ ap (M.bodied a.class a.block) v
