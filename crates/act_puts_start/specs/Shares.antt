-- What a START hands over: its shares in the bytes of its record, given away by one process and taken up by another.
-- Assumes nothing.
use Rattle.std.specs.Prelude.{ℕ, ◌+◌, ◌-◌, ◌*◌, ◌≤◌, ◌<◌, ◌≡◌, List, [], ◌∷◌, map, Bool, true, false, leb, length, get_or, set, drop}
use Rattle.semantics.specs.Numbers as No
use Rattle.semantics.specs.Model.{Share}
use Rattle.semantics.specs.Bytes.{u16, parts}
use Rattle.semantics.specs.Record.{share_of}
use Rattle.semantics.specs.State.{State, Process, process, with_held}
use Rattle.promises.specs.Parts.{Known}
use Rattle.row_work.specs.Work.{work_of, Sized}
use Rattle.row_process.specs.Process.{Shown, Lives, changed}

-- IN THE BYTES. The n shares that bs begins with; the shares of the body bs of a START.
abbrev pub shares_from : ℕ → List ℕ → List Share
shares_from n bs = map share_of (parts 6 n bs)

pub record SharesAt (bs : List ℕ) (h : List Share) : Type 0 where
  pub inside : 8 + 6 * u16 bs 6 ≤ length bs
  pub shares_are : shares_from (u16 bs 6) (drop 8 bs) ≡ h

-- WHETHER THE PROCESS q has a share.
abbrev pub has : Process → Share → Bool
has q x = leb x.amount (get_or q.held x.of 0)

-- The shares of `body` are held against the process in place p.
pub record Offering (body w : List ℕ) (p : ℕ) : Type 0 where
  pub shares : List Share
  pub told : SharesAt body shares
  pub shown : Shown w (λ s. (p < No.places) × Known (process s p).held shares)

-- ONE SHARE is given away, or taken up: what there is then of an amount, and what is held; and what there must be.
abbrev pub moved : Bool → ℕ → ℕ → ℕ
moved true n v = v - n
moved false n v = v + n

abbrev pub without : Bool → Share → List ℕ → List ℕ
without away x l = set l x.of (moved away x.amount (get_or l x.of 0))

abbrev pub Room : Bool → Share → ℕ → Type 0
Room true x v = x.amount ≤ v
Room false x v = v + x.amount ≤ No.top_amount

pub record Moves (p : ℕ) (away : Bool) (x : Share) (s : State) : Type 0 where
  pub lives : Lives p s
  pub there : x.of < length (process s p).held
  pub room : Room away x (get_or (process s p).held x.of 0)

abbrev pub moves : ℕ → Bool → Share → State → State
moves p away x s = changed p (λ q. with_held q (without away x q.held)) s

-- ALL OF THEM, one after the other.
unfoldable pub without_all : Bool → List Share → List ℕ → List ℕ
without_all away [] l = l
without_all away (x ∷ xs) l = without_all away xs (without away x l)

abbrev pub MovesAll : Bool → List Share → List ℕ → Type 0
MovesAll away [] l = Unit {0}
MovesAll away (x ∷ xs) l =
    (x.of < length l) × (Room away x (get_or l x.of 0) × MovesAll away xs (without away x l))

-- The shares h are left to be moved, and that leads from the state that w shows to `goal`.
pub record Left (w : List ℕ) (p : ℕ) (away : Bool) (h : List Share) (goal : State) : Type 0 where
  pub is : State
  pub shows : w ≡ work_of is
  pub sized : Sized is
  pub lives : Lives p is
  pub moves_all : MovesAll away h (process is p).held
  pub leads : changed p (λ q. with_held q (without_all away h q.held)) is ≡ goal

-- They are those of `body`.
pub record Moving (body w : List ℕ) (p : ℕ) (away : Bool) : Type 0 where
  pub shares : List Share
  pub told : SharesAt body shares
  pub goal : State
  pub left : Left w p away shares goal
