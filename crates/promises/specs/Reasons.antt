-- Why a job waits (document 02, Two): the value of each line of kind 3 is -1 or 1 to 4, and is what it says.
-- Assumes nothing.
use Prim.Native.Nat.{ℕ, zero, suc, ◌+◌, ◌≤◌, ◌<◌}
use Rattle.std.proofs.Common.{arith, ap}
use Rattle.std.proofs.Math.Path.{◌≡◌, refl}
use mathlib.Core.List.{List, [], ◌∷◌}
use Rattle.std.specs.Prelude.{Bool, length, take, ℤ, pos}
use Rattle.std.proofs.Math.Bool.{true, false}
use Rattle.std.proofs.Math.Option.{some}
use Rattle.std.proofs.Math.ListN.{get_elem?}
use Rattle.semantics.specs.Numbers as No
use Rattle.semantics.specs.Model.{Item, Claim, Model, Action}
use Rattle.semantics.specs.State.{State, Waiter, Event, wakes, returns_r, returns_b, empty, held_by, process}
use Rattle.semantics.specs.State.{at_clock, with_floor, with_events}
use Rattle.semantics.specs.Claim.{item_met, Test, lacks, test_from, Offer, offers, stands_in, barred}
use Rattle.semantics.specs.Walk.{Line}
use Rattle.semantics.specs.Step.{in_front}
use Rattle.promises.specs.Laws.{AllOf}
use Rattle.promises.specs.Answers.{Made}

-- THE FIRST LACKING ITEM of a claim, counted from k, is its n-th: it is lacking, and those before it aren't.
pub record FirstLacking (s : State) (k : ℕ) (c : Claim) (n : ℕ) : Type 0 where
  pub index : ℕ
  pub counted : n ≡ index + k
  pub item : Item
  pub is_there : get_elem? c index ≡ some item
  pub is_lacking : item_met s item ≡ false
  pub met_before : AllOf (λ i. item_met s i ≡ true) (take index c)

module _ (s : State) where
  -- The test says so exactly then.
  pub test_lacks : (k : ℕ) (c : Claim) (n : ℕ) → test_from k s c ≡ lacks n → FirstLacking s k c n
  unfolding test_from
  test_lacks k [] n e = let z : ◌≡◌ {A = ℕ} 0 1 = cc in absurd (omega arith)
  test_lacks k (i ∷ is) n e = go (item_met s i) refl (test_lacks (suc k) is n) e
    where
      go : (b : Bool) → item_met s i ≡ b → (test_from (suc k) s is ≡ lacks n → FirstLacking s (suc k) is n)
          → ◌≡◌ {A = Test} (elim b [ true ↦ test_from (suc k) s is | false ↦ lacks k ]) (lacks n) → FirstLacking s k (i ∷ is) n
      go true d f g =
          let r = f g in
          let c = r.counted in
          record {
            index = suc r.index;
            counted = omega arith;
            item = r.item;
            is_there = r.is_there;
            is_lacking = r.is_lacking;
            met_before = (d, r.met_before);
          }
      go false d f g =
          let z : k ≡ n = cc in
          record { index = 0; counted = omega arith; item = i; is_there = refl; is_lacking = d; met_before = tt }

  pub lacks_test : (k : ℕ) (c : Claim) (n : ℕ) → FirstLacking s k c n → test_from k s c ≡ lacks n
  unfolding test_from
  lacks_test k c n r = go c r.index k r.counted r.is_there r.met_before
    where
      go : (c : Claim) (j k : ℕ) → n ≡ j + k → get_elem? c j ≡ some r.item → AllOf (λ i. item_met s i ≡ true) (take j c)
          → test_from k s c ≡ lacks n
      go [] j k e t h = let z : ◌≡◌ {A = ℕ} 0 1 = cc in absurd (omega arith)
      go (i ∷ is) zero k e t h =
          let z : i ≡ r.item = cc in
          rw (test_from, z, r.is_lacking) (ap lacks (omega arith))
      go (i ∷ is) (suc j) k e t h = rw (test_from, h.0) (go is j (suc k) (omega arith) t h.1)

  pub lacks_within : (k : ℕ) (c : Claim) (n : ℕ) → FirstLacking s k c n → (k ≤ n) × (n < k + length c)
  lacks_within k c n r =
      let e = r.counted in let l = within c r.index r.is_there in (omega arith, omega arith)
    where
      within : (c : Claim) (j : ℕ) → get_elem? c j ≡ some r.item → j < length c
      within [] j t = let z : ◌≡◌ {A = ℕ} 0 1 = cc in absurd (omega arith)
      within (i ∷ is) zero t = omega arith
      within (i ∷ is) (suc j) t = let h = within is j t in omega arith

-- WHY A PROCESS WAITS that offers os, and is held against those in ws: v is -1 exactly if it is barred; else v is n exactly if
-- item n of the first branch is lacking and those before it aren't; and then n is 1 to 4.
abbrev pub FirstLacks : State → List Offer → ℕ → Type 0
FirstLacks s [] n = ⊥
FirstLacks s (o ∷ os) n = FirstLacking s 1 o.claim n

pub data WaitValue : ℤ → Type 0 where
  barred_value : WaitValue No.barred
  is_item : {n : ℕ} → 1 ≤ n → n ≤ No.most_items → WaitValue (pos n)

pub item_few : (n : ℕ) → WaitValue (pos n) → n ≤ No.most_items
item_few n (is_item a b) = b

pub record Explains (m : Model) (s : State) (ws : List Waiter) (os : List Offer) (v : ℤ) : Type 0 where
  pub in_range : WaitValue v
  pub only_if_barred : v ≡ No.barred → barred m s ws os ≡ true
  pub if_barred : barred m s ws os ≡ true → v ≡ No.barred
  pub only_if_lacking : (n : ℕ) → v ≡ pos n → (barred m s ws os ≡ false) × FirstLacks s os n
  pub if_lacking : (n : ℕ) → barred m s ws os ≡ false → FirstLacks s os n → v ≡ pos n

-- A LINE OF KIND 3 is of the process in place p, which has the floor of s and stands at an action, and says why it waits.
pub record WaitLineOf (m : Model) (s : State) (p : ℕ) (l : Line) : Type 0 where
  pub asked : Action
  pub stands : stands_in m (process s p).frames ≡ some asked
  pub of_it : l.process ≡ (process s p).number
  pub explained : Explains m s (in_front m s p) (offers asked) l.value

-- ONE STEP out of s: whoever acts in it has the floor of `floored s`, either since before or by its notice, which is the first.
abbrev first_takes : State → List Event → State
first_takes s [] = s
first_takes s (e ∷ es) =
    elim e.notice [
      | wakes p ↦ with_floor (with_events (at_clock s e.time) es) (held_by p)
      | returns_r i n g ↦ s
      | returns_b i n g ↦ s
    ]

abbrev pub floored : State → State
floored s = elim s.floor [ held_by p ↦ s | empty ↦ first_takes s s.events ]

pub record WaitLineIn (m : Model) (s : State) (l : Line) : Type 0 where
  pub place : ℕ
  pub has_floor : (floored s).floor ≡ held_by place
  pub asking : WaitLineOf m (floored s) place l

-- A RUN: each line of kind 3 is that of a step out of a state to which the run comes.
pub record WaitLineFrom (m : Model) (s : State) (l : Line) : Type 0 where
  pub steps : ℕ
  pub lines : List Line
  pub there : State
  pub comes_there : Made m s steps lines there
  pub waiting : WaitLineIn m there l

abbrev pub SaysWhyItWaits : Model → State → Line → Type 0
SaysWhyItWaits m s l = l.kind ≡ No.blocked → WaitLineFrom m s l
