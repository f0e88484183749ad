-- `file_bars::bars` meets its contract. The loop's invariant: what the branches of q that are left say is the whole answer,
-- which the map's law turns into the definitions' words. Assumes nothing.
use Prim.Native.Nat.{◌-◌}
use mathlib.Core.Path.{◌≡◌}
use Rattle.file_bars.specs.Barring.{AllThere}
use Rattle.file_bars.specs.Bits.{covers_at, numbers_to, branches_of}
use Rattle.semantics.specs.Words.{all, any}
use Rattle.file_bars.proofs.bars.Given as goal

abbrev pub invariant-loop-n : goal.invariant-loop-n
invariant-loop-n l = (AllThere l.s l.map l.from l.to × AllThere l.s l.map l.n l.end)
    × (all (λ j. any (λ k. covers_at l.s l.map k j) (numbers_to l.from l.to)) (numbers_to l.n l.end)
    ≡ all (λ j. any (λ k. covers_at l.s l.map k j) (branches_of l.map l.b)) (branches_of l.map l.q))

abbrev pub decreases-loop-n : goal.decreases-loop-n
decreases-loop-n l = l.end - l.n
