-- Where a step stands: the process that has the floor, the record that it meets, and what was first in the event list.
-- Assumes nothing.
use Rattle.std.specs.Prelude.{ℕ, ◌+◌, ◌≡◌, List, false, get_or, ℤ}
use Rattle.std.proofs.Math.Option.{some}
use Rattle.std.proofs.Math.ListN.{get_elem?}
use Rattle.semantics.specs.Words.{Outcome}
use Rattle.semantics.specs.Model.{Action, block}
use Rattle.semantics.specs.State.{Notice, empty, held_by, with_floor}
use Rattle.semantics.specs.Walk.{Next}
use Rattle.semantics.specs.Step.{act}
use Rattle.promises.specs.Sound.{noticed, gives, NoticeOk, Held, Sound}
use Rattle.file_index.specs.Ties.{kind_at, body_at, ActionAt}
use Rattle.base_ordered.specs.Lines.{data_of}
use Rattle.row_work.specs.Work.{NoticeSized}
use Rattle.row_work.specs.Underway.{Underway}
use Rattle.file_map.specs.Map.{Mapped}
use Rattle.act_floor.specs.Acting.{Open, Acting}
use Rattle.act_req_try_while.specs.Asks.{Asked}

-- The process in place p has the floor.
pub record Floored (bs map w : List ℕ) (p : ℕ) : Type 0 where
  pub running : Open bs map w
  pub on_floor : running.run.is.floor ≡ held_by p

-- It stands at an action, whose number in the map is a;
pub record Stands (bs map w : List ℕ) (p a : ℕ) : Type 0 where
  pub action : Action
  pub asked : Asked bs map w p a action

-- or whose record is of kind k and has this body;
pub record Meets (body bs map w : List ℕ) (p k : ℕ) : Type 0 where
  pub action : Action
  pub acting : Acting bs map w p action
  pub inside : ℕ  -- which block
  pub index : ℕ
  pub there : get_elem? (block acting.running.run.model inside) index ≡ some action
  pub place : ℕ
  pub here : ActionAt bs place action
  pub kind_is : k ≡ kind_at bs place
  pub body_is : body ≡ body_at bs place

-- or both.
pub record MeetsAt (body bs map w : List ℕ) (p k a : ℕ) : Type 0 where
  pub meets : Meets body bs map w p k
  pub number_is : a ≡ get_or map meets.inside 0 + meets.index

-- What the definitions make of it.
abbrev pub acted : {bs map w : List ℕ} {p : ℕ} {x : Action} → Acting bs map w p x → Outcome Next
acted {p = p} {x} v = act v.running.run.model v.running.run.is p x

abbrev pub doing : {body bs map w : List ℕ} {p k : ℕ} → Meets body bs map w p k → Outcome Next
doing v = acted v.acting

-- Nobody has the floor, and the process in place p is in no list: it may take it.
pub record Waking (bs map w : List ℕ) (p : ℕ) : Type 0 where
  pub run : Underway w
  pub mapped : Mapped bs run.model map
  pub not_closed : run.is.closed ≡ false
  pub nobody_has : run.is.floor ≡ empty
  pub sound : Sound run.model (with_floor run.is (held_by p))

-- A notice, by its word, was first in the event list and is out of it: what it tells is in hand, and nobody has the floor.
pub record Occurring (bs map w : List ℕ) (word : ℕ) : Type 0 where
  pub run : Underway w
  pub mapped : Mapped bs run.model map
  pub notice : Notice
  pub word_is : word ≡ data_of notice
  pub notice_small : NoticeSized notice
  pub not_closed : run.is.closed ≡ false
  pub nobody_has : run.is.floor ≡ empty
  pub holds : Held run.model run.is run.is.blocked (λ k. noticed k notice) (λ j. gives j notice)
  pub priority : ℤ
  pub tells : NoticeOk run.model run.is.last run.is.processes priority notice
