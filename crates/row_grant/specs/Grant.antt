-- What it takes to take a claim, to grant an offer, and to ask who is barred and which branch is taken. Assumes nothing.
use Rattle.std.specs.Prelude.{ℕ, ◌≤◌, ◌<◌, ◌≡◌, List, Bool, true, false, length, get_or}
use Rattle.std.proofs.Math.Option.{some}
use Rattle.std.proofs.Math.ListN.{get_elem?}
use Rattle.semantics.specs.Model.{resource, bin, sync, Item, get, condition, Claim, Action}
use Rattle.semantics.specs.State.{State, process}
use Rattle.semantics.specs.Claim.{item_met, met, test, Then, pass, enter_block, Offer, offers, stands_in}
use Rattle.promises.specs.Fit.{ClaimFit, ActFit}
use Rattle.promises.specs.Sound.{Held}
use Rattle.base_numbers.specs.Limit as Limit
use Rattle.row_work.specs.Work.{FloorSized}
use Rattle.row_work.specs.Underway.{Underway}
use Rattle.file_map.specs.Map.{OfferAt, OffersAt, Mapped}
use Rattle.row_process.specs.Process.{Lives}
use Rattle.row_claim.specs.Asking.{ClaimAt}

-- ONE ITEM x is taken by the process in place p: it lives, and there is what x names, and enough of it.
abbrev pub Known : ℕ → Item → State → Type 0
Known p (get resource i n) s = (i < length s.free) × (i < length (process s p).held)
Known p (get bin i n) s = i < length s.bins
Known p (get sync i n) s = i < length s.waiting
Known p (condition i r v) s = Unit {0}

pub record Takes (p : ℕ) (x : Item) (s : State) : Type 0 where
  pub lives : Lives p s
  pub known : Known p x s
  pub enough : item_met s x ≡ true

-- n of bin i.
pub record InBin (i n : ℕ) (s : State) : Type 0 where
  pub there : i < length s.bins
  pub enough : n ≤ get_or s.bins i 0

-- THE CLAIM at byte `at`, which is met, is taken by the process in place p, which is in hand in the middle of a step.
pub record Taking (bs : List ℕ) (at : ℕ) (w : List ℕ) (p : ℕ) : Type 0 where
  pub run : Underway w
  pub in_hand : ℕ → ℕ
  pub holds : Held run.model run.is run.is.blocked in_hand (λ j. 0)
  pub one : 1 ≤ in_hand p
  pub floor_ok : FloorSized run.is.floor
  pub claim : Claim
  pub claim_at : ClaimAt bs at claim
  pub claim_fit : ClaimFit run.model claim
  pub is_met : test run.is claim ≡ met

-- THE OFFER, which is the n-th branch of the map, is granted to it: it stands at the action that makes the offer.
abbrev pub into_block : Then → Bool
into_block pass = false
into_block (enter_block b) = true

pub record Granting (bs map w : List ℕ) (p n : ℕ) (enters : Bool) : Type 0 where
  pub run : Underway w
  pub in_hand : ℕ → ℕ
  pub holds : Held run.model run.is run.is.blocked in_hand (λ j. 0)
  pub one : 1 ≤ in_hand p
  pub floor_ok : FloorSized run.is.floor
  pub stands_at : Action
  pub stands : stands_in run.model (process run.is p).frames ≡ some stands_at
  pub offer : Offer
  pub which : ℕ  -- of the action's offers
  pub offered : get_elem? (offers stands_at) which ≡ some offer
  pub offer_at : OfferAt bs map n offer
  pub is_met : test run.is offer.claim ≡ met
  pub enters_is : enters ≡ into_block offer.and_then

-- THE ACTION of number a is held against the first k of the blocked.
pub record Facing (bs map w : List ℕ) (a k : ℕ) : Type 0 where
  pub run : Underway w
  pub mapped : Mapped bs run.model map
  pub in_hand : ℕ → ℕ
  pub amounts : ℕ → ℕ  -- of the resources, in hand
  pub holds : Held run.model run.is run.is.blocked in_hand amounts
  pub floor_ok : FloorSized run.is.floor
  pub ahead : k ≤ length run.is.blocked
  pub asked : Action
  pub asked_at : OffersAt bs map a (offers asked)
  pub asked_low : a < Limit.ACTIONS
  pub asked_fit : ActFit run.model asked
