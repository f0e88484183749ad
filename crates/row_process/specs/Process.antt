-- What is read and what is changed of one process in the work. Assumes nothing.
use Rattle.std.specs.Prelude.{ℕ, ◌-◌, ◌≤◌, ◌<◌, ◌≡◌, List, [], ◌∷◌, Bool, false, length, get_or, if◌then◌else◌}
use Rattle.semantics.specs.Numbers as No
use Rattle.semantics.specs.Words.{is_empty}
use Rattle.semantics.specs.State.{State, Process, Frame, process, put, with_frames, onward}
use Rattle.base_numbers.specs.Code as Code
use Rattle.row_work.specs.Work.{work_of, Sized, Doing}

-- A work that shows a state, of which P holds.
pub record Shown (w : List ℕ) (P : State → Type 0) : Type 0 where
  pub is : State
  pub shows : w ≡ work_of is
  pub sized : Sized is
  pub given : P is

-- The same work, where Q holds too; and the work before a change.
module _ {w : List ℕ} {P : State → Type 0} where
  abbrev pub seen : {Q : State → Type 0} (v : Shown w P) → Q v.is → Shown w Q
  seen v h = record { is = v.is; shows = v.shows; sized = v.sized; given = h }

  abbrev pub at_first : {f : State → State} → Doing w P f → Shown w P
  at_first d = record { is = d.is; shows = d.shows; sized = d.before; given = d.given }

-- WHAT A CHANGE NEEDS. Somebody lives in place p, whose innermost block is within the blocks around it;
pub record Lives (p : ℕ) (s : State) : Type 0 where
  pub in_places : p < No.places
  pub innermost : Frame
  pub around : List Frame
  pub frames_are : (process s p).frames ≡ innermost ∷ around

-- and there are such;
pub record Inner (p : ℕ) (s : State) : Type 0 where
  pub lives : Lives p s
  pub nested : is_empty lives.around ≡ false

-- or c is the code of a number; and it has a local i;
pub record Coded (p c : ℕ) (s : State) : Type 0 where
  pub lives : Lives p s
  pub low : c < Code.CODES

pub record HasLocal (p i c : ℕ) (s : State) : Type 0 where
  pub lives : Lives p s
  pub there : i < length (process s p).locals
  pub low : c < Code.CODES

-- or there is a resource i; and it holds n of it.
pub record Claims (p i : ℕ) (s : State) : Type 0 where
  pub lives : Lives p s
  pub there : i < length (process s p).held

pub record Holds (p i n : ℕ) (s : State) : Type 0 where
  pub claims : Claims p i s
  pub enough : n ≤ get_or (process s p).held i 0

-- WHAT IS CHANGED. The process in place p becomes what f makes of it.
abbrev pub changed : ℕ → (Process → Process) → State → State
changed p f s = put p (f (process s p)) s

-- The innermost block from its start, with one round less.
unfoldable pub restarted : List Frame → List Frame
restarted [] = []
restarted (f ∷ fs) = record { block = f.block; at = 0; rounds = f.rounds - 1 } ∷ fs

unfoldable pub again : Process → Process
unfolding restarted
again q = with_frames q (restarted q.frames)

-- The innermost block is left, back to the action that named it, or past that.
unfoldable pub outside : Bool → List Frame → List Frame
unfolding onward
outside back [] = []
outside back (f ∷ fs) = if back then fs else onward fs

unfoldable pub out : Bool → Process → Process
unfolding outside
out back q = with_frames q (outside back q.frames)
