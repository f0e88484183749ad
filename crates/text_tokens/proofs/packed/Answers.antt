-- `text_tokens::packed` meets its contract: the key is that of the bytes from i on. Assumes nothing.
use mathlib.Core.Path.{◌≡◌, ◌∙◌, ap}
use Prim.Native.Nat.{◌-◌}
use native.Mathlib.Omega.{arith}
use Rattle.text_tokens.specs.Next.{part}
use Rattle.text_tokens.specs.Parts.{pack}
use Rattle.text_tokens.proofs.Turns.{pack_begins, pack_room, pack_on}
use Rattle.text_tokens.proofs.packed.Goals as goal

pub loop-i-init : goal.loop-i-init
loop-i-init c = pack_begins _ _ _ c.requires.0

pub overflow_mul-key : goal.overflow_mul-key
overflow_mul-key c = omega (arith, pack_room c.loop-i.invariant c.loop-i-test.true c.requires.2)

pub bounds-text-i : goal.bounds-text-i
bounds-text-i c = omega (arith, c.loop-i.invariant.upto, c.requires.1)

pub overflow_add-key : goal.overflow_add-key
overflow_add-key c = let o = c.requires in
    let l = c.loop-i in
    omega (arith, pack_room l.invariant c.loop-i-test.true o.2)

pub loop-i-preserved : goal.loop-i-preserved
loop-i-preserved c = let o = c.requires in
    let l = c.loop-i in
    pack_on l.invariant c.from.result c.loop-i-test.true o.1 c.from.ensures
    (omega (arith, c.from.ensures, c.type_inv.text (l.i - 1)))

pub returns : goal.returns
returns c = let l = c.loop-i in
    let a = c.args in
    let all : l.i ≡ a.at = omega (arith, l.invariant.from) in
    l.invariant.key_is ∙ ap (λ p. pack (part p a.end a.text.now)) all
