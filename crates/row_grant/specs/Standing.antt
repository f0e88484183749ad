-- The action where a blocked one stands, as the map has it. Assumes nothing.
use Rattle.std.specs.Prelude.{ℕ, zero, suc, ◌+◌, ◌<◌, ◌≡◌, refl, List, [], ◌∷◌, map, true, length, get_or}
use Rattle.std.proofs.Common.{arith, ◌∙◌, ap}
use Rattle.std.proofs.Math.Option.{Option, none, some}
use Rattle.std.proofs.Math.ListN.{get_elem?}
use Rattle.semantics.specs.Model.{Action, Model, block}
use Rattle.semantics.specs.State.{State, Process, Frame, Waiter, nobody, process}
use Rattle.semantics.specs.Claim.{offers, stands_in, offers_at, asks}
use Rattle.semantics.specs.Sound.{asks_at}
use Rattle.promises.specs.Laws.{no_way, AllOf}
use Rattle.promises.specs.Fit.{Fit}
use Rattle.promises.specs.Sound.{Stands, Held}
use Rattle.base_numbers.specs.Limit as Limit
use Rattle.file_map.specs.Map.{OffersAt, Mapped}
use Rattle.file_map.specs.Low as Low
use Rattle.row_process.specs.Process.{Lives}
use Rattle.row_process.specs.Alive.{lives_in}

-- AT AN ACTION of its innermost block.
pub record Standing (m : Model) (p : ℕ) (s : State) : Type 0 where
  pub lives : Lives p s
  pub action : Action
  pub acts : get_elem? (block m lives.innermost.block) lives.innermost.at ≡ some action

module _ {m : Model} {p : ℕ} {s : State} (t : Standing m p s) where
  pub asks_are : asks m s p ≡ offers t.action
  asks_are = ap (λ fs. offers_at (stands_in m fs)) t.lives.frames_are ∙ ap offers_at t.acts

  -- Its number in the map.
  abbrev pub number_in : List ℕ → ℕ
  number_in row = get_or row t.lives.innermost.block 0 + t.lives.innermost.at

  module _ {bs row : List ℕ} (v : Mapped bs m row) where
    pub offers_there : OffersAt bs row (number_in row) (offers t.action)
    offers_there = v.offers_at t.lives.innermost.block t.lives.innermost.at t.action t.acts

    pub number_low : Fit m → number_in row < Limit.ACTIONS
    number_low f = Low.number_low v f t.lives.innermost.block t.lives.innermost.at t.action t.acts

-- THE BLOCKED ask at an action.
abbrev pub place_at : List Waiter → ℕ → ℕ
place_at ws k = get_or (map (λ w. w.place) ws) k 0

asks_in : (m : Model) (ps : List Process) (ws : List Waiter) (k : ℕ) → k < length ws → AllOf (Stands m ps) ws
    → asks_at (stands_in m (get_or ps (place_at ws k) nobody).frames) ≡ true
asks_in m ps [] k i a = absurd (omega arith)
asks_in m ps (w ∷ ws) zero i a = a.0
asks_in m ps (w ∷ ws) (suc k) i a = asks_in m ps ws k (omega arith) a.1

pub blocked_standing : (m : Model) (s : State) {l : List Waiter} {z y : ℕ → ℕ} → Held m s l z y → (k : ℕ) → k < length l
    → Standing m (place_at l k) s
unfolding lives_in
blocked_standing m s {l} h k i = by (process s p).frames refl (asks_in m s.processes l k i h.blocked_stand)
  where
    p : ℕ
    p = place_at l k

    at : (f : Frame) (fs : List Frame) → (process s p).frames ≡ f ∷ fs → (o : Option Action)
        → get_elem? (block m f.block) f.at ≡ o → asks_at o ≡ true → Standing m p s
    at f fs d none g a = no_way a
    at f fs d (some x) g a = record { lives = lives_in h p f fs d; action = x; acts = g }

    by : (fs : List Frame) → (process s p).frames ≡ fs → asks_at (stands_in m fs) ≡ true → Standing m p s
    by [] d a = no_way a
    by (f ∷ fs) d a = at f fs d (get_elem? (block m f.block) f.at) refl a
