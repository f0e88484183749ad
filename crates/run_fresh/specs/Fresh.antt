-- A fresh run: what is read of each record, and what the work shows in between. Assumes nothing.
use Rattle.std.specs.Prelude.{ℕ, ◌+◌, ◌<◌, ◌≡◌, List, ◌++◌, ◌||◌, eqb, length, get_or, replicate, if◌then◌else◌}
use Rattle.semantics.specs.Words.{collect}
use Rattle.semantics.specs.Numbers as No
use Rattle.semantics.specs.Kinds as K
use Rattle.semantics.specs.Model.{Model}
use Rattle.semantics.specs.Bytes.{u16, u32, i32}
use Rattle.semantics.specs.Decode.{accepted, decode}
use Rattle.semantics.specs.State.{State, nobody, bare}
use Rattle.base_numbers.specs.Row as Row
use Rattle.base_numbers.specs.Map as Map
use Rattle.base_numbers.specs.Limit as Limit
use Rattle.base_i32.specs.Code.{code}
use Rattle.row_work.specs.Work.{process_row, work_of}
use Rattle.file_index.specs.Index.{Judged}
use Rattle.file_map.specs.Map.{Mapped}
use Rattle.row_begin_end.specs.Begins.{Roomy, begins}

-- The file bs and the map are those of a model, and the work is all zeros.
pub record Loaded (bs map w : List ℕ) : Type 0 where
  pub model : Model
  pub is_accepted : decode bs ≡ accepted model
  pub is_mapped : Mapped bs model map
  pub is_empty : w ≡ replicate Row.WORDS 0

-- FIRST all places are free.
unfoldable pub vacant_work : List ℕ
unfolding process_row
vacant_work = replicate Row.PROCESSES 0 ++ (collect process_row (replicate No.places nobody) ++ replicate Limit.SAMPLERS 0)

-- THEN what is declared is written: the amount of a RES or a BIN, the code of a VAR's value, the seed that a SAMPLER starts with.
abbrev pub amount_in : ℕ → List ℕ → ℕ
amount_in k bs =
    if eqb k K.VAR then code (i32 bs 0)
    else if eqb k K.RES || eqb k K.BIN then u32 bs 0
    else if eqb k K.SAMPLER then u32 bs 8
    else 0

pub record Declaring (bs w : List ℕ) : Type 0 where
  pub model : Model
  pub is_accepted : decode bs ≡ accepted model
  pub is_vacant : w ≡ vacant_work

-- THEN the ENTITY processes begin, each in the body block of its class.
pub record Beginning (bs map w : List ℕ) : Type 0 where
  pub model : Model
  pub is_accepted : decode bs ≡ accepted model
  pub is_mapped : Mapped bs model map
  pub shows : w ≡ work_of (bare model)

abbrev pub enters_by : List ℕ → ℕ → List ℕ → State → State
enters_by map k bs s = if eqb k K.ENTITY then begins (get_or map (Map.BODY + u16 bs 0) 0) (u32 bs 2) s else s

pub record Entering (map : List ℕ) (k : ℕ) (bs : List ℕ) (s : State) : Type 0 where
  pub long : length map ≡ Map.WORDS
  pub judged : Judged k bs
  pub class_low : k ≡ K.ENTITY → u16 bs 0 < Limit.CLASSES
  pub roomy : k ≡ K.ENTITY → Roomy s
