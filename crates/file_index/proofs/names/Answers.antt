-- `file_index::names` meets its contract. Assumes nothing.
use Rattle.std.proofs.Common.{◌∙◌}
use lib.ListN.{length-drop}
use native.Mathlib.Omega.{arith}
use Rattle.file_index.proofs.Claims.{bits_turn, bits_end}
use Rattle.file_index.specs.Branches.{named_in}
use Rattle.file_check_parts.proofs.Laws.{rest_of}
use Rattle.file_check_parts.proofs.Chunks.{room}
use Rattle.file_index.proofs.names.Goals as goal

pub loop-item-init : goal.loop-item-init
unfolding named_in
loop-item-init c =
    let x = c.into_iter-item-iterator.ensures.into_iter_gives in
    let t = c.take-item-items.ensures in
    let k = c.chunks_exact.ensures in
    let d = rest_of 2 c.args.s.now in
    let e = c.u16_at-items.ensures.0 in (
      rw (x, t.source) k.size,
      rw (x, t.count, t.source, k.rest, d, e) (omega (arith, c.requires.fits, length-drop 2 c.args.s.now)),
      rw (x, t.count, t.source, k.rest, d, e),
    )

pub loop-item-preserved : goal.loop-item-preserved
loop-item-preserved c =
    let i = c.loop-item.invariant in
    let s = c.in-Some.ensures.steps in
    let l = s.0.1.1 ∙ i.0 in (
      s.0.0 ∙ i.0,
      room _ _ _ _ _ _ s.0.1.0 l s.1 i.1,
      bits_turn c.args.j _ _ _ _ _ c.loop-item.found _ _ s.0.1.0 l s.1 c.bit-found.ensures i.2,
    )

pub returns : goal.returns
returns c =
    let i = c.loop-item.invariant in
    let e = c.in-None.ensures.steps in
    bits_end c.args.j _ _ c.loop-item.found _ (λ o. rw i.0 at (e o).1.0) i.1 i.2
