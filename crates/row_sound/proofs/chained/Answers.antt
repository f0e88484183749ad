-- `row_sound::chained` meets its contract: the outer blocks are chained as far as the loop has come. Assumes nothing.
use Prim.Native.Nat.{◌<◌}
use native.Mathlib.Omega.{arith}
use mathlib.Core.Path.{◌≡◌, sym, ◌∙◌, ap}
use lib.ListN.{length}
use Rattle.semantics.specs.State.{process}
use Rattle.semantics.specs.Sound.{chained}
use Rattle.row_sound.proofs.Frames.{outer_none, outer_all, depth_is, linking, holds_on, fails_at, is_bounded}
use Rattle.row_sound.proofs.chained.Goals as goal

pub word-depth-requires : goal.word-depth-requires
word-depth-requires c = ((is_bounded c.requires.0).long, (c.requires.1, omega arith))

pub loop-k-init : goal.loop-k-init
loop-k-init c = (omega arith, λ v. ap (chained v.model) (outer_none (process v.is c.args.p).frames))

pub overflow_add-k : goal.overflow_add-k
overflow_add-k c = omega (arith, c.word-depth.ensures, (is_bounded c.requires.0).depth_few c.args.p c.requires.1)

pub word-requires : goal.word-requires
word-requires c = let b = is_bounded c.requires.0 in
    (b.long, (c.requires.1, omega (arith, c.word-depth.ensures, b.depth_few c.args.p c.requires.1)))

pub overflow_add-k-in-loop-k : goal.overflow_add-k-in-loop-k
overflow_add-k-in-loop-k c = omega (arith, c.word-depth.ensures, (is_bounded c.requires.0).depth_few c.args.p c.requires.1)

pub word-requires-in-loop-k : goal.word-requires-in-loop-k
word-requires-in-loop-k c = let b = is_bounded c.requires.0 in
    (b.long, (c.requires.1, omega (arith, c.word-depth.ensures, b.depth_few c.args.p c.requires.1)))

pub link-requires : goal.link-requires
link-requires c = let l = c.loop-k in
    let v = c.requires.0 in
    linking v c.args.p c.requires.1 l.k (omega (arith, c.word-depth.ensures, depth_is v c.args.p c.requires.1))
    (l.invariant.1 v) _ _ c.word.ensures c.word-in-loop-k.ensures

pub returns-then-not-link : goal.returns-then-not-link
returns-then-not-link c = λ v.
    let l = c.loop-k in
    let i : l.k < length (process v.is c.args.p).frames =
    omega (arith, c.word-depth.ensures, depth_is v c.args.p c.requires.1) in
    fails_at v c.args.p c.requires.1 l.k i (l.invariant.1 v) c.word.ensures c.word-in-loop-k.ensures _
    c.link.ensures (c.if-not-link.true)

pub loop-k-preserved : goal.loop-k-preserved
loop-k-preserved c = (
  omega arith,
  λ v.
      let l = c.loop-k in
      let i : l.k < length (process v.is c.args.p).frames =
      omega (arith, c.word-depth.ensures, depth_is v c.args.p c.requires.1) in
      holds_on v c.args.p c.requires.1 l.k i (l.invariant.1 v) c.word.ensures c.word-in-loop-k.ensures _
      c.link.ensures (c.if-not-link.false),
)

pub returns : goal.returns
returns c = λ v.
    let l = c.loop-k in
    let e : l.k ≡ length (process v.is c.args.p).frames =
    omega (arith, c.word-depth.ensures, depth_is v c.args.p c.requires.1) in
    sym (l.invariant.1 v) ∙ ap (chained v.model) (outer_all (process v.is c.args.p).frames l.k e)
