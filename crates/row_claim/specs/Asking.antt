-- A claim in the bytes of a model, what a process asks by it, and the state that it is held against. Assumes nothing.
use Rattle.std.specs.Prelude.{ℕ, ◌+◌, ◌*◌, ◌≤◌, ◌<◌, ◌≡◌, List, true, length, drop}
use Rattle.semantics.specs.Words.{all}
use Rattle.semantics.specs.Model.{Claim, Model}
use Rattle.semantics.specs.Bytes.{u16}
use Rattle.semantics.specs.Record.{item, part_valid, parts_of, claim_in}
use Rattle.semantics.specs.State.{State}
use Rattle.semantics.specs.Claim.{Offer}
use Rattle.promises.specs.Laws.{AllOf}
use Rattle.promises.specs.Fit.{ItemFit}
use Rattle.base_numbers.specs.Map as Map
use Rattle.base_numbers.specs.Limit as Limit
use Rattle.row_work.specs.Work.{work_of, Sized}
use Rattle.file_map.specs.Map.{OffersAt}

-- The claim c stands at byte `at`.
pub record ClaimAt (bs : List ℕ) (at : ℕ) (c : Claim) : Type 0 where
  pub inside : at + (2 + 8 * u16 bs at) ≤ length bs
  pub items_few : u16 bs at ≤ 4
  pub items_valid : all (part_valid item) (parts_of item (drop at bs)) ≡ true
  pub claim_is : claim_in (drop at bs) ≡ c

-- A state has what the model declares.
pub record Declares (m : Model) (s : State) : Type 0 where
  pub frees_many : length s.free ≡ length m.totals
  pub bins_many : length s.bins ≡ length m.amounts
  pub vars_many : length s.globals ≡ length m.vars
  pub syncs_many : length s.waiting ≡ m.syncs

-- The claim at byte `at` is held against the state that w shows.
pub record Meeting (bs : List ℕ) (at : ℕ) (w : List ℕ) : Type 0 where
  pub model : Model
  pub is : State
  pub shows : w ≡ work_of is
  pub sized : Sized is
  pub declares : Declares model is
  pub claim : Claim
  pub claim_at : ClaimAt bs at claim
  pub items_fit : AllOf (ItemFit model) claim

-- The branches of action a are held against it.
pub record Asking (bs map w : List ℕ) (a : ℕ) : Type 0 where
  pub model : Model
  pub is : State
  pub shows : w ≡ work_of is
  pub sized : Sized is
  pub declares : Declares model is
  pub long : length map ≡ Map.WORDS
  pub few : a < Limit.ACTIONS
  pub asks : List Offer
  pub asks_at : OffersAt bs map a asks
  pub asks_fit : AllOf (λ o. AllOf (ItemFit model) o.claim) asks
