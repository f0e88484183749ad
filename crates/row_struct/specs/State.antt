-- The row of an open run's state: the fields of the struct one behind the other, in the order of the work. Assumes nothing.
use Rattle.std.specs.Prelude.{ℕ, ◌+◌, ◌≡◌, List, [], ◌∷◌, ◌++◌, length, take, drop}
use Rattle.semantics.specs.Words.{collect}
use Rattle.semantics.specs.Numbers as No
use Rattle.promises.specs.Laws.{AllOf}
use Rattle.row_work.specs.Laid.{laid, Wide}
use Rattle.row_work.specs.Work.{process_widths, work_widths}
use Rattle.row_struct.specs.declared.Process.{Process}
use Rattle.row_struct.specs.declared.State.{State}

-- A PROCESS has a row of 128 numbers, laid as `process_row` lays it.
abbrev pub process_parts_of : Process → List (List ℕ)
process_parts_of q =
    (q.number ∷ q.priority ∷ q.depth ∷ q.slaves ∷ []) ∷ q.locals ∷ q.held ∷ q.blocks ∷ q.owned ∷ []

unfoldable pub process_row_of : Process → List ℕ
unfolding laid
process_row_of q = laid (process_parts_of q)

-- A STATE has a row of 10,712 numbers, laid as `work_of` lays it.
abbrev pub parts_of : State → List (List ℕ)
parts_of s =
    (s.clock ∷ s.closed ∷ s.last ∷ s.floor ∷ s.living ∷ s.events ∷ s.blocked ∷ s.spare ∷ [])
    ∷ s.free
    ∷ s.bins
    ∷ s.globals
    ∷ s.waits
    ∷ s.queue
    ∷ s.keys
    ∷ s.words
    ∷ s.waiting
    ∷ collect process_row_of s.processes
    ∷ s.seeds
    ∷ []

unfoldable pub row_of : State → List ℕ
unfolding laid process_row_of
row_of s = laid (parts_of s)

-- A FULL struct: each array is as long as its type says. So is every struct that a function takes or gives.
abbrev pub ProcessFull : Process → Type 0
ProcessFull q = Wide (process_parts_of q) process_widths

abbrev pub ProcessesFull : List Process → Type 0
ProcessesFull qs = (length qs ≡ No.places) × AllOf ProcessFull qs

pub record Full (s : State) : Type 0 where
  pub parts_full : Wide (parts_of s) work_widths
  pub processes_full : ProcessesFull s.processes

-- A part laid over what stands in w from a place on.
unfoldable pub over : ℕ → List ℕ → List ℕ → List ℕ
over at part w = take at w ++ (part ++ drop (at + length part) w)
