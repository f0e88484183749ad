-- Where a process stands, as the map and the bytes of a model tell, and whether its blocks are chained. Assumes nothing.
use Rattle.std.specs.Prelude.{ℕ, ◌+◌, ◌-◌, ◌/◌, ◌%◌, ◌≤◌, ◌<◌, ◌≡◌, List, ◌∷◌, Bool, true, ◌&&◌, eqb, leb, ltb, length, get_or, if◌then◌else◌}
use Rattle.std.proofs.Math.Option.{Option, none, some}
use Rattle.semantics.specs.Numbers as No
use Rattle.semantics.specs.Words.{any, up_to}
use Rattle.semantics.specs.Model.{Action, Model, block}
use Rattle.semantics.specs.Bytes.{u16}
use Rattle.semantics.specs.State.{State, Frame, process}
use Rattle.semantics.specs.Claim.{offers}
use Rattle.semantics.specs.Sound.{named_there, chained, all_chained}
use Rattle.promises.specs.Fit.{Fit, Nested}
use Rattle.base_numbers.specs.Word as Word
use Rattle.base_numbers.specs.Limit as Limit
use Rattle.base_numbers.specs.Map as Map
use Rattle.file_index.specs.Ties.{ActionAt}
use Rattle.file_map.specs.Map.{claim_at, OffersAt, Mapped}
use Rattle.row_work.specs.Work.{frame_word, FrameSized, work_of, Sized}

-- Of any index below n.
unfoldable pub among : ℕ → (ℕ → Bool) → Bool
among n f = any f (up_to n)

-- The parts of a block's word.
abbrev pub block_in : ℕ → ℕ
block_in word = word % Word.BLOCKS

abbrev pub at_in : ℕ → ℕ
at_in word = word / Word.ACTION % Word.ACTIONS

abbrev pub rounds_in : ℕ → ℕ
rounds_in word = word / Word.ROUND

module _ (map : List ℕ) where
  -- b is the body of a class.
  abbrev pub is_body : (classes b : ℕ) → Bool
  is_body classes b = among classes (λ c. eqb b (get_or map (Map.BODY + c) 0))

  -- The number of the action at index `at` of block b; 1,024 where that is past its last.
  abbrev pub action_in : (b at : ℕ) → ℕ
  action_in b at = if ltb (get_or map b 0 + at) (get_or map (b + 1) 0) then get_or map b 0 + at else Limit.ACTIONS

-- A branch of action a enters block b.
abbrev pub branch_enters : (bs map : List ℕ) (a b : ℕ) → Bool
branch_enters bs map a b =
    among (get_or map (Map.FROM + (a + 1)) 0 - get_or map (Map.FROM + a) 0)
    (λ k. eqb (u16 bs (claim_at map (get_or map (Map.FROM + a) 0 + k) - 2)) b)

-- Its branches can be read.
pub record Branching (bs map : List ℕ) (a : ℕ) : Type 0 where
  pub long : length map ≡ Map.WORDS
  pub low : a < Limit.ACTIONS
  pub to_few : get_or map (Map.FROM + (a + 1)) 0 ≤ Limit.BRANCHES
  pub to_high : get_or map (Map.FROM + a) 0 ≤ get_or map (Map.FROM + (a + 1)) 0
  pub each : (k : ℕ) → get_or map (Map.FROM + a) 0 + k < get_or map (Map.FROM + (a + 1)) 0
      → (2 ≤ claim_at map (get_or map (Map.FROM + a) 0 + k)) × (claim_at map (get_or map (Map.FROM + a) 0 + k) ≤ length bs)

-- Action a of the map is x; there is none of number 1,024.
pub record ActsAt (bs map : List ℕ) (a : ℕ) (x : Action) : Type 0 where
  pub low : a < Limit.ACTIONS
  pub acts_at : ActionAt bs (get_or map (Map.PLACE + a) 0) x
  pub offers_at : OffersAt bs map a (offers x)

abbrev pub At : (bs map : List ℕ) → ℕ → Option Action → Type 0
At bs map a none = a ≡ Limit.ACTIONS
At bs map a (some x) = ActsAt bs map a x

pub record Standing (bs map : List ℕ) (a : ℕ) : Type 0 where
  pub long : length map ≡ Map.WORDS
  pub action : Option Action
  pub there : At bs map a action

-- THE BLOCK of a word, within k blocks that are chained, of which `outer` is the innermost one's word.
pub record Linking (bs map : List ℕ) (classes k outer word : ℕ) : Type 0 where
  pub model : Model
  pub fits : Fit model
  pub nested : Nested model
  pub mapped : Mapped bs model map
  pub classes_are : classes ≡ length model.classes
  pub frame : Frame
  pub word_is : word ≡ frame_word frame
  pub frame_sized : FrameSized frame
  pub around : List Frame
  pub behind : k ≡ length around
  pub outer_is : (g : Frame) (gs : List Frame) → around ≡ g ∷ gs → (outer ≡ frame_word g) × FrameSized g
  pub so_far : chained model around ≡ true

abbrev pub linked : Model → Frame → List Frame → Bool
linked m f gs = leb f.at (length (block m f.block)) && named_there m f gs

-- A ROW that shows a sized state, with the bytes and the map of an accepted model; all its blocks are chained.
pub record Viewed (bs map w : List ℕ) (classes : ℕ) : Type 0 where
  pub model : Model
  pub fits : Fit model
  pub nested : Nested model
  pub mapped : Mapped bs model map
  pub classes_are : classes ≡ length model.classes
  pub is : State
  pub shows : w ≡ work_of is
  pub sized : Sized is

pub record Chained (bs map w : List ℕ) (classes : ℕ) : Type 0 where
  pub viewed : Viewed bs map w classes
  pub all_chained : all_chained viewed.model viewed.is ≡ true

-- The place p has somebody who stands at an action, or nobody.
pub record Asking (bs map w : List ℕ) (classes p : ℕ) : Type 0 where
  pub viewed : Viewed bs map w classes
  pub in_places : p < No.places
  pub is_chained : chained viewed.model (process viewed.is p).frames ≡ true
