-- The numbers of actions in the map are low. Assumes nothing.
use Rattle.std.specs.Prelude.{ℕ, zero, suc, ◌+◌, ◌<◌, ◌≡◌, List, [], ◌∷◌, length, get_or}
use Rattle.std.proofs.Common.{arith}
use Rattle.std.proofs.Math.Option.{some}
use Rattle.std.proofs.Math.ListN.{get_elem?}
use Rattle.semantics.specs.Model.{Action, Model, block}
use Rattle.promises.specs.Laws.{some_in}
use Rattle.promises.specs.Fit.{Fit}
use Rattle.base_numbers.specs.Limit as Limit
use Rattle.file_map.specs.Map.{Mapped}

-- A block that has an action is one of the model's.
block_in : (xs : List (List Action)) (b : ℕ) {j : ℕ} → j < length (get_or xs b []) → b < length xs
block_in [] b h = absurd (omega arith)
block_in (x ∷ xs) zero h = omega arith
block_in (x ∷ xs) (suc b) h = let i = block_in xs b h in omega arith

pub number_low : {bs row : List ℕ} {m : Model} → Mapped bs m row → Fit m → (b j : ℕ) (x : Action)
    → get_elem? (block m b) j ≡ some x → get_or row b 0 + j < Limit.ACTIONS
number_low {m = m} v f b j x e =
    let i = some_in (block m b) j x e in
    let k = block_in m.blocks b i in
    omega (arith, i, v.first_next b k, v.first_few (b + 1) (omega (arith, k, f.few_blocks)))
