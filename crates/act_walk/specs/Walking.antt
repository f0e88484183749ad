-- A walk in the work: the blocked one at k is visited, and how visits make up the walk. Assumes nothing.
use Rattle.std.specs.Prelude.{ℕ, zero, suc, ◌+◌, ◌<◌, ◌≡◌, List, [], ◌∷◌, Bool, not, eqb, length, get_or, take, pos}
use Rattle.std.proofs.Math.Option.{some}
use Rattle.std.proofs.Math.ListN.{get_elem?}
use Rattle.semantics.specs.Kinds as K
use Rattle.semantics.specs.Numbers as No
use Rattle.semantics.specs.Model.{Action, kind_of, Model}
use Rattle.semantics.specs.State.{State, process, wake}
use Rattle.semantics.specs.Claim.{Offer, asks, Choice, waits, goes, choice, grant}
use Rattle.semantics.specs.Walk.{Next, Line, line, quiet, after}
use Rattle.promises.specs.Sound.{Held}
use Rattle.base_numbers.specs.Map as Map
use Rattle.base_numbers.specs.Limit as Limit
use Rattle.base_journal.specs.Wrote.{wrote_at}
use Rattle.file_index.specs.Ties.{ActionAt}
use Rattle.row_work.specs.Work.{work_of, FloorSized}
use Rattle.row_work.specs.Underway.{Underway}
use Rattle.file_map.specs.Map.{OfferAt, Mapped}
use Rattle.row_lists.specs.Lists.{unblocked}
use Rattle.row_grant.specs.Grant.{into_block}
use Rattle.row_grant.specs.Standing.{place_at}

-- A run in the middle of a step that walks: w shows its state, and map and bs are its model's.
pub record Walking (bs map w : List ℕ) : Type 0 where
  pub run : Underway w
  pub mapped : Mapped bs run.model map
  pub in_hand : ℕ → ℕ
  pub holds : Held run.model run.is run.is.blocked in_hand (λ j. 0)
  pub floor_ok : FloorSized run.is.floor

-- What a walk comes to: the work shows its state, and its lines, r of them, are written from line `at` on.
abbrev pub Walked : Next → (r : ℕ) (w' : List ℕ) (at : ℕ) (out out' : List ℕ) → Type 0
Walked n r w' at out out' = (r ≡ length n.lines) × ((w' ≡ work_of n.state) × (out' ≡ wrote_at at n.lines out))

-- The blocked one at k is looked at, where those ahead of it are still blocked.
pub record Visiting (bs map w : List ℕ) (k : ℕ) : Type 0 where
  pub walking : Walking bs map w
  pub there : k < length walking.run.is.blocked

-- What it chooses; and the state where it has gone.
abbrev pub chooses : Model → State → ℕ → Choice
chooses m s k = choice m s (take k s.blocked) (asks m s (place_at s.blocked k))

abbrev pub went : ℕ → Offer → State → State
went k o s = let p : ℕ = place_at s.blocked k in wake s.clock p (grant p o (unblocked k s))

abbrev pub granted_line : State → ℕ → ℕ → Line
granted_line s k i = line s (process s (place_at s.blocked k)).number No.granted (pos i)

-- It was visited: it went and wrote its line at `at`, or all is as it was. r is how many lines were written.
abbrev pub Visited : State → ℕ → Choice → ℕ → (w w' : List ℕ) (at : ℕ) (out out' : List ℕ) → Type 0
Visited s k (waits y) r w w' at out out' = (r ≡ 0) × ((w' ≡ w) × (out' ≡ out))
Visited s k (goes i o) r w w' at out out' =
    (r ≡ 1) × ((w' ≡ work_of (went k o s)) × (out' ≡ wrote_at at (granted_line s k i ∷ []) out))

-- It goes: it is in place p, and what it takes is the n-th branch of the map, which enters a block or doesn't.
pub record Going (bs map w : List ℕ) (k p n : ℕ) (enters : Bool) : Type 0 where
  pub visiting : Visiting bs map w k
  pub place_is : p ≡ place_at visiting.walking.run.is.blocked k
  pub which : ℕ
  pub offer : Offer
  pub chosen : chooses visiting.walking.run.model visiting.walking.run.is k ≡ goes which offer
  pub offered : get_elem? (asks visiting.walking.run.model visiting.walking.run.is p) which ≡ some offer
  pub offer_at : OfferAt bs map n offer
  pub enters_is : enters ≡ into_block offer.and_then

-- Action a of the map, and whether its branches enter a block: all but a REQ's do.
pub record AtAction (bs map : List ℕ) (a : ℕ) : Type 0 where
  pub action : Action
  pub long : length map ≡ Map.WORDS
  pub low : a < Limit.ACTIONS
  pub there : ActionAt bs (get_or map (Map.PLACE + a) 0) action

abbrev pub entered_by : Action → Bool
entered_by x = not (eqb (kind_of x) K.REQ)

-- THE WALK by visits: n are still to be visited, from k on.
unfoldable pub visits : Model → ℕ → ℕ → State → Next
visits m zero k s = quiet s
visits m (suc n) k s =
    elim (chooses m s k) [
      | waits r ↦ visits m n (suc k) s
      | goes i o ↦ after (granted_line s k i) (visits m n k (went k o s))
    ]
