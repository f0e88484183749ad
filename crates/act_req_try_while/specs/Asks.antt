-- A process on the floor that asks: where it stands, by the map, and what comes of its branches. Assumes nothing.
use Rattle.std.specs.Prelude.{ℕ, ◌+◌, ◌≤◌, ◌≡◌, List, [], ◌∷◌, Bool, true, false, get_or, pos}
use Rattle.std.proofs.Math.Option.{some}
use Rattle.std.proofs.Math.ListN.{get_elem?}
use Rattle.semantics.specs.Words.{Outcome}
use Rattle.semantics.specs.Numbers as No
use Rattle.semantics.specs.Model.{Claim, Branch, Action, REQ, TRY, WHILE, Model, block}
use Rattle.semantics.specs.State.{State, Process, process}
use Rattle.semantics.specs.Claim.{offers, Choice, waits, goes, choice, grant}
use Rattle.semantics.specs.Walk.{Next, line}
use Rattle.semantics.specs.Step.{in_front}
use Rattle.promises.specs.Laws.{AllOf}
use Rattle.base_numbers.specs.Code as Code
use Rattle.base_journal.specs.Wrote.{wrote_at}
use Rattle.row_work.specs.Work.{work_of}
use Rattle.row_claim.specs.Choices.{choice_in}
use Rattle.row_claim.specs.declared.Reason.{Reason}
use Rattle.row_claim.specs.declared.Reason.TheVariants.{Barred, Lacks}
use Rattle.row_claim.specs.declared.Choice.{Choice as Answer}
use Rattle.row_grant.specs.Grant.{into_block}
use Rattle.act_floor.specs.Acting.{Acting}

-- The process in place p has the floor and stands at the action x, which has number a in the map.
pub record Asked (bs map w : List ℕ) (p a : ℕ) (x : Action) : Type 0 where
  pub acting : Acting bs map w p x
  pub inside : ℕ  -- which block
  pub index : ℕ
  pub there : get_elem? (block acting.running.run.model inside) index ≡ some x
  pub number_is : a ≡ get_or map inside 0 + index

module _ {bs map w : List ℕ} {p a : ℕ} {x : Action} (v : Asked bs map w p a x) where
  abbrev pub model : Model
  model = v.acting.running.run.model

  abbrev pub state : State
  state = v.acting.running.run.is

  abbrev pub who : Process
  who = process state p

  -- What the definitions make of them, and which branch they take.
  abbrev pub made : (Model → State → Outcome Next) → Outcome Next
  made f = f model state

  abbrev pub taken : Choice
  taken = choice model state (in_front model state p) (offers x)

-- It is a REQ, which is passed, or a TRY, of which a block is entered;
pub data Requests : Bool → Action → Type 0 where
  passes : {c : Claim} → Requests false (REQ c)
  enters : {bs : List Branch} → Requests true (TRY bs)

pub record Requesting (bs map w : List ℕ) (p a : ℕ) (enters : Bool) : Type 0 where
  pub action : Action
  pub requests : Requests enters action
  pub asked : Asked bs map w p a action

-- or a WHILE;
pub record Looping (bs map w : List ℕ) (p a : ℕ) : Type 0 where
  pub looped : ℕ  -- the block
  pub claim : Claim
  pub asked : Asked bs map w p a (WHILE looped claim)

-- or any, each branch of which has a block, or none.
pub record Branching (bs map w : List ℕ) (p a : ℕ) (enters : Bool) : Type 0 where
  pub action : Action
  pub asked : Asked bs map w p a action
  pub enters_all : AllOf (λ o. enters ≡ into_block o.and_then) (offers action)

-- The process in place p of s took the branch that was chosen, with a line at `at`; or it waits and all is as it was. r tells
-- which.
abbrev pub Comes : Choice → (p : ℕ) (s : State) (w w' : List ℕ) (at : ℕ) (out out' : List ℕ) → Type 0
Comes (waits y) p s w w' at out out' = (w' ≡ w) × (out' ≡ out)
Comes (goes n o) p s w w' at out out' =
    (w' ≡ work_of (grant p o s)) × (out' ≡ wrote_at at (line s (process s p).number No.granted (pos n) ∷ []) out)

pub record Branched (c : Choice) (r : Answer) (p : ℕ) (s : State) (w w' : List ℕ) (at : ℕ) (out out' : List ℕ) : Type 0 where
  pub answers : r ≡ choice_in c
  pub comes : Comes c p s w w' at out out'

-- WHY IT WAITS, as the code of what a line says; the number of an item is small.
abbrev pub Few : Reason → Type 0
Few Barred = Unit {0}
Few (Lacks n) = n ≤ No.most_items

abbrev pub code_said : Reason → ℕ
code_said Barred = Code.MINUS_ONE
code_said (Lacks n) = Code.ZERO + n
