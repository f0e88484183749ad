-- `row_begin_end::begin` meets its contract: the three changes, one after the other, are the one that is asked for.
-- Assumes nothing.
use native.Mathlib.Omega.{arith}
use mathlib.Core.Path.{refl}
use Rattle.row_begin_end.proofs.Beginning.{is_long, last_is, coming, lowest_free, entering, begun}
use Rattle.row_begin_end.proofs.begin.Goals as goal

pub bounds-w-2 : goal.bounds-w-2
bounds-w-2 c = omega (arith, is_long c.args.b c.args.t c.requires)

pub overflow_add-n : goal.overflow_add-n
overflow_add-n c = omega (arith, last_is c.args.b c.args.t c.requires, c.requires.before.last_low)

pub bounds-w-2-2 : goal.bounds-w-2-2
bounds-w-2-2 c = omega (arith, is_long c.args.b c.args.t c.requires)

pub come-p-requires : goal.come-p-requires
come-p-requires c = coming c.args.b c.args.t c.requires refl

pub wake-requires : goal.wake-requires
wake-requires c = let k = c.come-p in
    entering c.args.b c.args.t c.requires refl k.ensures.done k.ensures.answers

pub returns : goal.returns
returns c = let k = c.come-p in record {
  done = (λ d. begun c.args.b c.args.t d refl k.ensures.done k.ensures.answers c.wake.ensures);
  answers = (λ d. lowest_free c.args.b c.args.t d refl k.ensures.done k.ensures.answers);
}
