-- `run_fresh::vacate_all` meets its contract. The loop's invariant: the places from p on are free. Assumes nothing.
use Prim.Native.Nat.{◌+◌, ◌-◌, ◌*◌, ◌<◌}
use native.Mathlib.Omega.{arith}
use mathlib.Core.Path.{◌≡◌, ◌∙◌, ap}
use lib.ListN.{length, set}
use Rattle.semantics.specs.Numbers as No
use Rattle.base_numbers.specs.Row as Row
use Rattle.base_numbers.specs.Process as Process
use Rattle.base_numbers.specs.Code as Code
use Rattle.run_fresh.proofs.Vacating.{free_from, none_free, free_long, one_more_free, all_free}
use Rattle.run_fresh.proofs.vacate_all.Goals as goal

pub loop-p-init : goal.loop-p-init
loop-p-init c = (omega arith, c.requires ∙ none_free)

pub set_word-requires : goal.set_word-requires
set_word-requires c = let l = c.loop-p in
    (ap length l.invariant.1 ∙ free_long l.p l.invariant.0, (omega arith, omega arith))

pub loop-p-preserved : goal.loop-p-preserved
loop-p-preserved c = let l = c.loop-p in
    let q = l.p - 1 in
    let e : l.p ≡ q + 1 = omega arith in
    let h : q < No.places = omega arith in (
      omega arith,
      c.set_word.ensures
          ∙ ap (λ x. set x (Row.PROCESSES + Process.WORDS * q + 1) Code.ZERO) (l.invariant.1 ∙ ap free_from e)
          ∙ one_more_free q h,
    )

pub returns : goal.returns
returns c = let l = c.loop-p in
    let e : l.p ≡ 0 = omega arith in
    l.invariant.1 ∙ all_free l.p e
