-- The class is announced, or its body is opened. Assumes nothing.
use Rattle.std.specs.Prelude.{◌≡◌, length, get_or, if◌then◌else◌}
use Rattle.std.proofs.Common.{arith, ◌∙◌, ap}
use Rattle.std.proofs.Math.Path.{refl}
use Rattle.semantics.specs.Kinds as K
use Rattle.text_semantics.specs.Token as T
use Rattle.text_machine.specs.Sheet as M
use Rattle.text_machine.specs.Sheet.{Sheet}
use Rattle.text_sheet.specs.Fit.{fit_classes, fit_braces}
use Rattle.text_reader.specs.Sheets.{is_class, class_of, few_seen}
use Rattle.text_reader.proofs.Troubles.{no_mark}
use Rattle.text_reader.proofs.Cuts.{classes_levels, classes_blocks, bodied_same, braces_short, short_class, fit_class, steps_by}
use Rattle.text_reader.proofs.body.Goals as goal
use Rattle.text_reader.proofs.body.Goals.{in-Some, in-None}

pub returns-then-kind-eq-SEMI : goal.returns-then-kind-eq-SEMI
returns-then-kind-eq-SEMI c = λ d v x e.
    let z = c.args.sheet.now in
    rw c.if-kind-eq-SEMI.true
    (steps_by d c.within_limits.result c.classes.ensures (c.within_limits.ensures.limits d e) refl
    c.within_limits.ensures.small (rw (classes_levels c.args.line _ z) c.requires.sound.short)
    (fit_classes c.args.line _ c.requires.sound.fit))

pub braces-requires : goal.braces-requires
braces-requires c =
    let z = c.args.sheet.now in
    let few = few_seen c.requires.sound K.BLOCK in
    let flat = c.requires.titled.flat in
    elim c.match-class.branch [
      | in-Some w ↦ let s = bodied_same w.in-Some.class (get_or c.sheet.inside.seen K.BLOCK 0) z in
          let e = w.sheet-is ∙ w.bodied.ensures in
          let b = ap M.blocks_of e ∙ s.1 in
          let l = ap (λ (y : Sheet). length y.levels) e ∙ ap length s.0 in
          (omega (arith, b, few), omega (arith, l, flat))
      | in-None w ↦ let e = w.sheet-is ∙ w.classes-in-None.ensures in
          let b = ap M.blocks_of e ∙ classes_blocks c.args.line (get_or c.sheet.inside.seen K.BLOCK 0) z in
          let l = ap (λ (y : Sheet). length y.levels) e
          ∙ ap length (classes_levels c.args.line (get_or c.sheet.inside.seen K.BLOCK 0) z) in
          (omega (arith, b, few), omega (arith, l, flat))
    ]

pub returns : goal.returns
returns c = λ d v x e.
    let z = c.args.sheet.now in
    let line = c.args.line in
    let k = c.args.class in
    let seen : get_or c.sheet.inside.seen K.BLOCK 0 ≡ M.blocks_of z = ap M.blocks_of c.sheet.view_is in
    let made : c.match-class.sheet ≡ (if is_class k then M.bodied (class_of k) (M.blocks_of z) z else M.classes line (M.blocks_of z) z) =
    elim c.match-class.branch [
      | in-Some w ↦ w.sheet-is ∙ w.bodied.ensures ∙ ap (λ b. M.bodied w.in-Some.class b z) seen ∙ rw w.in-Some.is refl
      | in-None w ↦ w.sheet-is ∙ w.classes-in-None.ensures ∙ ap (λ b. M.classes line b z) seen ∙ rw w.in-None.is refl
    ] in
    rw (no_mark c.args.kind v x T.SEMI c.if-kind-eq-SEMI.false (λ q. omega (arith, q)))
    (steps_by d c.within_limits-2.result (c.braces.ensures ∙ ap M.braces made) (c.within_limits-2.ensures.limits d e) refl
    c.within_limits-2.ensures.small
    (braces_short _ (short_class (is_class k) (class_of k) line (M.blocks_of z) z c.requires.sound.short))
    (fit_braces (fit_class (is_class k) (class_of k) line (M.blocks_of z) z c.requires.sound.fit)))
