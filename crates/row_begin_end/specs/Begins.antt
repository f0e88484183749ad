-- A process comes, a process ends: what is asked of the state, and what is made of it. Assumes nothing.
use Rattle.std.specs.Prelude.{ℕ, ◌+◌, ◌<◌, ◌≡◌, List, [], ◌∷◌, map, replicate, pos}
use Rattle.semantics.specs.Numbers as No
use Rattle.semantics.specs.State.{State, Process, Frame, nobody, process, put, free_place, with_last, wake}
use Rattle.promises.specs.Laws.{AllOf}
use Rattle.base_numbers.specs.Limit as Limit
use Rattle.row_work.specs.Work.{process_row, ProcessSized, Doing}

-- AN END. It is in its class body alone, holds nothing and has no slaves.
pub record Leaves (q : Process) : Type 0 where
  pub in_body : Frame
  pub frames_are : q.frames ≡ in_body ∷ []
  pub held_none : AllOf (λ n. n ≡ 0) q.held
  pub slaves_none : q.slaves ≡ []

pub record Ending (p : ℕ) (s : State) : Type 0 where
  pub in_places : p < No.places
  pub leaves : Leaves (process s p)

-- The row of one who leaves.
pub record Leaving (row : List ℕ) : Type 0 where
  pub who : Process
  pub sized : ProcessSized who
  pub leaves : Leaves who
  pub shows : row ≡ process_row who

-- A NEWCOMER numbered n stands at the first action of block b and holds h.
abbrev pub newcomer_in : ℕ → ℕ → List ℕ → Process
newcomer_in n b h =
    record {
      number = n;
      priority = pos 0;
      locals = replicate No.locals (pos 0);
      held = h;
      slaves = [];
      frames = record { block = b; at = 0; rounds = 1 } ∷ [];
    }

-- There is a free place, and it is empty.
pub record Roomy (s : State) : Type 0 where
  pub in_places : free_place s < No.places
  pub vacant : process s (free_place s) ≡ nobody

abbrev pub comes : ℕ → ℕ → State → State
comes n b s = put (free_place s) (newcomer_in n b (map (λ x. 0) s.free)) s

-- The row of a free place, for one who stands in block b.
pub record Vacant (row : List ℕ) (b : ℕ) : Type 0 where
  pub shows : row ≡ process_row nobody
  pub block_low : b < Limit.BLOCKS

-- ONE MORE is numbered one above the last given, comes, and enters at time t.
abbrev pub numbered : ℕ → State → State
numbered b s = comes (s.last + 1) b (with_last s (s.last + 1))

unfoldable pub begins : ℕ → ℕ → State → State
unfolding wake
begins b t s = wake t (free_place s) (numbered b s)

-- The answer is v of the state before the change.
abbrev pub Answers : (w : List ℕ) (P : State → Type 0) (f : State → State) (v : State → ℕ) → ℕ → Type 0
Answers w P f v r = (d : Doing w P f) → r ≡ v d.is
