-- The blocked one at k goes: it leaves the list, is granted what it chose and enters the event list. Assumes nothing.
use Prim.Native.Nat.{ℕ, ◌+◌, ◌≤◌}
use native.Mathlib.Numerals.{add-one}
use native.Mathlib.Omega.{arith}
use mathlib.Core.Path.{◌≡◌, refl, sym, subst, ◌∙◌, ap}
use mathlib.Core.List.{List, ◌∷◌, ◌++◌}
use mathlib.Core.Bool.{Bool}
use mathlib.Core.Option.{some}
use lib.ListN.{get_or, get_elem?, take, drop, take-append-drop}
use lib.Seq.{drop-cons}
use Rattle.semantics.specs.Model.{Model}
use Rattle.semantics.specs.State.{State, Waiter, process, wake}
use Rattle.semantics.specs.Claim.{met, test, Offer, offers, stands_in, asks, goes, choice, grant}
use Rattle.promises.specs.Laws.{once, once_self}
use Rattle.promises.specs.Sound.{Held}
use Rattle.promises.specs.Parts.{fit_at}
use Rattle.promises.specs.Moves.{unblocks}
use Rattle.promises.specs.Takes.{OfferOk, still_grant, chosen, offers_ok, goes_held, wakes_up}
use Rattle.base_ordered.specs.Lines.{removed}
use Rattle.row_work.specs.Work.{work_of, FloorSized, Sized, Doing, Done}
use Rattle.row_work.specs.Underway.{in_state, still_sized}
use Rattle.row_process.specs.Process.{Shown, Lives}
use Rattle.row_process.specs.Alive.{hand_lives}
use Rattle.row_lists.specs.Lists.{IsBlocked, unblocked}
use Rattle.row_grant.specs.Grant.{Granting}
use Rattle.row_grant.specs.Standing.{Standing, asks_are, place_at, blocked_standing}
use Rattle.act_walk.specs.Walking.{Walking, Visiting, chooses, went, Going}
use Rattle.act_walk.specs.Visits.{nowhere, place_at_lem, choice_same}

module _ {bs row w : List ℕ} (v : Walking bs row w) where
  pub is_sized : Sized v.run.is
  is_sized = still_sized v.run v.run.is v.holds v.floor_ok

  abbrev pub shown : {P : State → Type 0} → P v.run.is → Shown w P
  shown g = record { is = v.run.is; shows = v.run.shows; sized = is_sized; given = g }

module _ {bs row w : List ℕ} {k : ℕ} (v : Visiting bs row w k) where
  abbrev m : Model
  m = v.walking.run.model

  abbrev s : State
  s = v.walking.run.is

  module _ (p : ℕ) (e : p ≡ place_at s.blocked k) where
    pub stands : Standing m p s
    stands =
        subst (λ q. Standing m q s) (sym e) (blocked_standing m s v.walking.holds k v.there)

    pub stands_at : stands_in m (process s p).frames ≡ some stands.action
    stands_at = ap (stands_in m) stands.lives.frames_are ∙ stands.acts

    -- IT LEAVES the list, and is in hand.
    abbrev left : State
    left = unblocked k s

    abbrev hand : ℕ → ℕ
    hand j = once j p + v.walking.in_hand j

    one : 1 ≤ hand p
    one = let a = once_self p in omega arith

    split : s.blocked ≡ take k s.blocked ++ get_or s.blocked k nowhere ∷ drop (k + 1) s.blocked
    split =
        let b : List Waiter = s.blocked in
        sym (take-append-drop k b)
        ∙ ap (λ l. take k b ++ l)
        (drop-cons b k nowhere v.there ∙ ap (λ j. get_or b k nowhere ∷ drop j b) (sym (add-one k)))

    left_held : Held m left left.blocked hand (λ j. 0)
    left_held =
        let b : List Waiter = s.blocked in
        unblocks (take k b) (get_or b k nowhere) (drop (k + 1) b)
        (subst (λ l. Held m s l v.walking.in_hand (λ j. 0)) split v.walking.holds)
        (λ j. ap (λ q. once j q + v.walking.in_hand j) (e ∙ place_at_lem b k))

    pub leaves : Doing w (IsBlocked k) (unblocked k)
    leaves =
        record {
          is = s;
          shows = v.walking.run.shows;
          before = is_sized v.walking;
          after = still_sized v.walking.run left left_held v.walking.floor_ok;
          given = v.there;
        }

    -- IT IS GRANTED what it chose, and enters the event list.
    module _ (i : ℕ) (o : Offer) (c : chooses m s k ≡ goes i o) where
      chosen_left : choice m left (take k s.blocked) (offers stands.action) ≡ goes i o
      chosen_left =
          choice_same s (removed k s.blocked) m (take k s.blocked) (offers stands.action)
          ∙ ap (choice m s (take k s.blocked)) (sym (asks_are stands) ∙ ap (asks m s) e)
          ∙ c

      met-left : test left o.claim ≡ met
      met-left =
          (chosen (OfferOk m stands.action) left i o m (take k s.blocked) (offers stands.action)
          (offers_ok m stands.action
          (fit_at m v.walking.run.fits (process s p).frames stands.action stands_at))
          chosen_left).1

      abbrev granted : State
      granted = grant p o left

      granted_held : Held m granted granted.blocked hand (λ j. 0)
      granted_held =
          subst (λ b. Held m granted b hand (λ j. 0)) (sym (still_grant p o left).same_blocked)
          (goes_held m v.walking.run.fits left (take k s.blocked) left.blocked hand p one left_held i o
          stands.action stands_at chosen_left)

      granted_floor : FloorSized granted.floor
      granted_floor = subst FloorSized (sym (still_grant p o left).same_floor) v.walking.floor_ok

      abbrev woken : State
      woken = wake s.clock p granted

      pub woken_held : Held m woken woken.blocked v.walking.in_hand (λ j. 0)
      unfolding wake
      woken_held =
          let a = (still_grant p o left).same_clock in
          let b = v.walking.holds.clock_ok in
          wakes_up m granted granted_held s.clock p (omega arith) (omega arith) (λ j. refl)

      pub woken_floor : FloorSized woken.floor
      unfolding wake
      woken_floor = granted_floor

-- IN THE WORK.
module _ {bs row w : List ℕ} {k p n : ℕ} {enters : Bool} (g : Going bs row w k p n enters) where
  abbrev v : Visiting bs row w k
  v = g.visiting

  abbrev s₁ : State
  s₁ = unblocked k v.walking.run.is

  abbrev s₂ : State
  s₂ = grant p g.offer s₁

  module _ (x : List ℕ) (told : Done w (IsBlocked k) (unblocked k) x) where
    left_shown : x ≡ work_of s₁
    unfolding leaves
    left_shown = told (leaves v p g.place_is)

    pub is_granted : Granting bs row x p n enters
    is_granted =
        let e = g.place_is in
        record {
          run = in_state v.walking.run s₁ left_shown;
          in_hand = hand v p e;
          holds = left_held v p e;
          one = one v p e;
          floor_ok = v.walking.floor_ok;
          stands_at = (stands v p e).action;
          stands = stands_at v p e;
          offer = g.offer;
          which = g.which;
          offered = ap (λ os. get_elem? os g.which) (sym (asks_are (stands v p e))) ∙ g.offered;
          offer_at = g.offer_at;
          is_met = met-left v p e g.which g.offer g.chosen;
          enters_is = g.enters_is;
        }

    module _ (y : List ℕ) (told₂ : (d : Granting bs row x p n enters) → y ≡ work_of (grant p d.offer d.run.is))
        (t : ℕ) (now_is : t ≡ v.walking.run.is.clock) where
      granted_shown : y ≡ work_of s₂
      unfolding is_granted
      granted_shown = told₂ is_granted

      pub is_woken : Doing y (Lives p) (λ s. wake t p s)
      is_woken =
          let e = g.place_is in
          let h = granted_held v p e g.which g.offer g.chosen in
          record {
            is = s₂;
            shows = granted_shown;
            before = still_sized v.walking.run s₂ h (granted_floor v p e g.which g.offer g.chosen);
            after =
                subst (λ u. Sized (wake u p s₂)) (sym now_is)
                (still_sized v.walking.run (wake v.walking.run.is.clock p s₂)
                (woken_held v p e g.which g.offer g.chosen) (woken_floor v p e g.which g.offer g.chosen));
            given = hand_lives h p (one v p e);
          }

      pub released : (u : List ℕ) → Done y (Lives p) (λ s. wake t p s) u → u ≡ work_of (went k g.offer v.walking.run.is)
      unfolding is_woken
      released u d =
          d is_woken
          ∙ ap (λ r. work_of (wake r p s₂)) now_is
          ∙ ap (λ q. work_of (wake v.walking.run.is.clock q (grant q g.offer s₁))) g.place_is
