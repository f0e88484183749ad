-- An offer granted in the work: its claim is taken, and the process goes on as the offer says. Assumes nothing.
use Prim.Native.Nat.{ℕ, ◌+◌, ◌-◌, ◌≤◌, ◌<◌}
use native.Mathlib.Omega.{arith}
use mathlib.Core.Path.{◌≡◌, refl, sym, subst, ◌∙◌, ap}
use mathlib.Core.List.{List}
use mathlib.Core.Bool.{Bool, true, false}
use lib.Dec.{ltb}
use borrow.Author.Tests.{ltb-true, ltb-false}
use lib.ListN.{length, get_or, get_or-eq_default}
use Rattle.semantics.specs.Model.{Model}
use Rattle.semantics.specs.Bytes.{u16}
use Rattle.semantics.specs.State.{State, Process, process, past, into}
use Rattle.semantics.specs.Claim.{Then, pass, enter_block, offers, take_all, follow, grant}
use Rattle.promises.specs.Laws.{no_way, all_at}
use Rattle.promises.specs.Sound.{Held}
use Rattle.promises.specs.Parts.{fit_at}
use Rattle.promises.specs.Takes.{OfferOk, still_all, still_grant, all_met, take_all_lem, grant_held, offers_ok}
use Rattle.row_work.specs.Work.{work_of, FloorSized, Sized, Doing, Done}
use Rattle.row_work.specs.Underway.{still_sized}
use Rattle.row_process.specs.Process.{Lives, changed}
use Rattle.row_grant.specs.Grant.{Taking, Granting, into_block}
use Rattle.row_process.specs.Alive.{hand_lives}

-- What follows: a block is entered, or the action is passed.
record Enters (t : Then) : Type 0 where
  block : ℕ
  is : t ≡ enter_block block

enters_some : (t : Then) → true ≡ into_block t → Enters t
enters_some pass e = no_way (sym e)
enters_some (enter_block b) e = record { block = b; is = refl }

passes_on : (t : Then) → false ≡ into_block t → t ≡ pass
passes_on pass e = refl
passes_on (enter_block b) e = no_way e

-- A number of a list that is not 0 is in it.
in_list : (xs : List ℕ) (k : ℕ) → 1 ≤ get_or xs k 0 → k < length xs
in_list xs k h = by (ltb k (length xs)) refl
  where
    by : (t : Bool) → ltb k (length xs) ≡ t → k < length xs
    by true e = ltb-true k (length xs) e
    by false e = absurd (omega (arith, get_or-eq_default xs 0 {n = k} (ltb-false k (length xs) e)))

module _ {bs row w : List ℕ} {p n : ℕ} {enters : Bool} (v : Granting bs row w p n enters) where
  abbrev m : Model
  m = v.run.model

  abbrev s : State
  s = v.run.is

  pub in_map : 2_370 + n < length row
  in_map = in_list row (2_370 + n) (omega (arith, v.offer_at.behind))

  is_ok : OfferOk m v.stands_at v.offer
  is_ok =
      all_at (OfferOk m v.stands_at) (offers v.stands_at) v.which v.offer
      (offers_ok m v.stands_at (fit_at m v.run.fits (process s p).frames v.stands_at v.stands))
      v.offered

  -- The claim is taken,
  module _ {at : ℕ} (e : at ≡ get_or row (2_370 + n) 0) where
    pub its_claim : Taking bs at w p
    its_claim =
        record {
          run = v.run;
          in_hand = v.in_hand;
          holds = v.holds;
          one = v.one;
          floor_ok = v.floor_ok;
          claim = v.offer.claim;
          claim_at =
              rw e
              (record {
                inside = v.offer_at.inside;
                items_few = v.offer_at.items_few;
                items_valid = v.offer_at.items_valid;
                claim_is = v.offer_at.claim_is;
              });
          claim_fit = is_ok.0;
          is_met = v.is_met;
        }

    -- and then the process goes on.
    abbrev t : State
    t = take_all p v.offer.claim s

    taken_held : Held m t t.blocked v.in_hand (λ j. 0)
    taken_held =
        subst (λ b. Held m t b v.in_hand (λ j. 0)) (sym (still_all p v.offer.claim s).same_blocked)
        (take_all_lem m p s.blocked v.in_hand v.one v.offer.claim s v.holds is_ok.0.1
        is_ok.0.2 (all_met s 1 v.offer.claim v.is_met))

    taken_sized : Sized t
    taken_sized =
        still_sized v.run t taken_held
        (subst FloorSized (sym (still_all p v.offer.claim s).same_floor) v.floor_ok)

    abbrev g : State
    g = grant p v.offer s

    granted_sized : Sized g
    granted_sized =
        still_sized v.run g
        (subst (λ b. Held m g b v.in_hand (λ j. 0)) (sym (still_grant p v.offer s).same_blocked)
        (grant_held m p s.blocked v.in_hand v.one v.stands_at v.offer s v.holds v.stands
        is_ok.0 is_ok.1 v.is_met))
        (subst FloorSized (sym (still_grant p v.offer s).same_floor) v.floor_ok)

    module _ {x : List ℕ} (told : (d : Taking bs at w p) → x ≡ work_of (take_all p d.claim d.run.is)) where
      shown : x ≡ work_of t
      unfolding its_claim
      shown = told its_claim

      module _ (f : Process → Process) (same : follow v.offer.and_then ≡ f) where
        goes_on : Doing x (Lives p) (changed p f)
        unfolding grant
        goes_on =
            record {
              is = t;
              shows = shown;
              before = taken_sized;
              after = subst (λ h. Sized (changed p h t)) same granted_sized;
              given = hand_lives taken_held p v.one;
            }

        gone_on : {y : List ℕ} → Done x (Lives p) (changed p f) y → y ≡ work_of g
        unfolding grant goes_on
        gone_on d = d goes_on ∙ ap (λ h. work_of (changed p h t)) (sym same)

      -- Into the block,
      module _ {b : ℕ} (d : b ≡ u16 bs (at - 2)) (into_one : enters ≡ true) where
        follow-into : follow v.offer.and_then ≡ into 1 b
        follow-into =
            let k = enters_some v.offer.and_then (sym into_one ∙ v.enters_is) in
            ap follow k.is
            ∙ ap (into 1) (sym (d ∙ ap (λ j. u16 bs (j - 2)) e ∙ v.offer_at.enters k.block k.is))

        pub goes_in : Doing x (Lives p) (changed p (into 1 b))
        goes_in = goes_on (into 1 b) follow-into

        pub gone_in : {y : List ℕ} → Done x (Lives p) (changed p (into 1 b)) y → y ≡ work_of g
        gone_in = gone_on (into 1 b) follow-into

      -- or past the action.
      module _ (past_it : enters ≡ false) where
        follow-past : follow v.offer.and_then ≡ past
        follow-past = ap follow (passes_on v.offer.and_then (sym past_it ∙ v.enters_is))

        pub goes_past : Doing x (Lives p) (changed p past)
        goes_past = goes_on past follow-past

        pub gone_past : {y : List ℕ} → Done x (Lives p) (changed p past) y → y ≡ work_of g
        gone_past = gone_on past follow-past
