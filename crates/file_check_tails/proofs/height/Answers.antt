-- `file_check_tails::height` meets its contract. The loop's invariant: h is the height, and one, of the pile of the nodes from
-- the k-th on. Assumes nothing.
use mathlib.Core.Path.{sym, ◌∙◌}
use native.Mathlib.Omega.{arith}
use Rattle.file_check_tails.proofs.Pile.{height_turn, height_none, height_all}
use Rattle.file_check_tails.proofs.height.Goals as goal

pub loop-k-init : goal.loop-k-init
loop-k-init c = (omega arith, (omega arith, sym (height_none c.args.n c.args.bs.now)))

pub grown-h-requires : goal.grown-h-requires
grown-h-requires c = (c.operands.ensures.1, omega arith)

pub loop-k-preserved : goal.loop-k-preserved
loop-k-preserved c = let l = c.loop-k in
    let t = c.loop-k-test.true in (
      omega arith,
      (
        omega (arith, c.grown-h.ensures.1),
        c.grown-h.ensures.0 ∙ rw (
          c.operands.ensures.0,
          c.u16_at-op.ensures.0,
          l.invariant.1.1,
        ) (sym (height_turn c.args.n l.k c.args.bs.now t
            l.invariant.0)),
      ),
    )

pub returns : goal.returns
returns c = let l = c.loop-k in
    l.invariant.1.1 ∙ height_all c.args.n l.k c.args.bs.now (omega (arith, c.loop-k-test.false))
