-- `text_tokens::sign_token` meets its contract: two bytes, or one. Assumes nothing.
use mathlib.Core.Path.{refl, sym, ◌∙◌}
use native.Mathlib.Omega.{arith}
use Rattle.text_tokens.proofs.Answers.{double_next, single_next}
use Rattle.text_tokens.proofs.sign_token.Goals as goal

pub bounds-text-place : goal.bounds-text-place
bounds-text-place c = c.requires.within

pub overflow_add-place : goal.overflow_add-place
overflow_add-place c = omega (arith, c.requires.within)

pub overflow_add-end : goal.overflow_add-end
overflow_add-end c = omega (arith, c.requires.within)

pub returns-then-kind-ne-BAD : goal.returns-then-kind-ne-BAD
returns-then-kind-ne-BAD c = let s = c.requires in
    double_next s refl _ _ c.byte_at.ensures c.double-kind.ensures c.if-kind-ne-BAD.true

pub overflow_add-end-2 : goal.overflow_add-end-2
overflow_add-end-2 c = omega (arith, c.requires.within)

pub returns : goal.returns
returns c = let s = c.requires in
    let d = c.double-kind.ensures in
    single_next s refl _ _ c.byte_at.ensures (sym d ∙ c.if-kind-ne-BAD.false) c.single.ensures
