-- `row_lists::take_first` meets its contract: the first key has the time, the first word what is done. Assumes nothing.
use native.Mathlib.Omega.{arith}
use Rattle.row_process.specs.Process.{at_first}
use Rattle.row_lists.proofs.Events.{long}
use Rattle.row_lists.proofs.Leaving.{first_does, first_taken}
use Rattle.row_lists.proofs.take_first.Goals as goal

pub bounds-w-200 : goal.bounds-w-200
bounds-w-200 c = omega (arith, long (at_first c.requires))

pub bounds-w-328 : goal.bounds-w-328
bounds-w-328 c = omega (arith, long (at_first c.requires))

pub bounds-w-0 : goal.bounds-w-0
bounds-w-0 c = omega (arith, long (at_first c.requires))

pub returns : goal.returns
returns c = λ d.
    record { word_is = first_does (at_first d); done = first_taken d _ (c.drop_first.ensures (at_first d)) }
