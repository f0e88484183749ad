-- What it is for the numbered actions to be those of a model.
-- Assumes nothing.
use Rattle.std.specs.Prelude.{ℕ, ◌+◌, ◌<◌, ◌≡◌, true, length}
use Rattle.std.proofs.Math.Option.{some}
use Rattle.std.proofs.Math.ListN.{get_elem?}
use Rattle.semantics.specs.Model.{Action, Model, block}
use Rattle.semantics.specs.Bound.{own_weight}
use Rattle.file_index.specs.Ties.{times_of, goes_of}
use Rattle.file_weight.specs.Weigh.{Acts}

-- The action numbered a is x.
pub record Alike (m : Model) (s : Acts) (a : ℕ) (x : Action) : Type 0 where
  pub owns : s.own a ≡ own_weight x
  pub rounds : s.times a ≡ times_of x
  pub ways : s.goes a ≡ goes_of true m x

-- The i-th action of block b is numbered as many as stand before the block, and i.
pub record Agrees (m : Model) (s : Acts) : Type 0 where
  pub counts : (b : ℕ) → b < length m.blocks → s.first b + length (block m b) ≡ s.first (b + 1)
  pub each : (b : ℕ) → b < length m.blocks → (i : ℕ) (x : Action) → get_elem? (block m b) i ≡ some x →
      Alike m s (s.first b + i) x
