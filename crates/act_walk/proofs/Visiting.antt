-- The blocked one at k is visited: the action where it stands, in the map, and what comes of its choice. Assumes nothing.
use Prim.Native.Nat.{ℕ, ◌+◌, ◌<◌}
use native.Mathlib.Omega.{arith}
use mathlib.Core.Path.{◌≡◌, refl, sym, subst, ◌∙◌, ap}
use mathlib.Core.List.{List, [], ◌∷◌}
use mathlib.Core.Bool.{Bool}
use lib.ListN.{get_or, get_elem?, take}
use lib.IntN.{pos}
use Rattle.semantics.specs.Numbers as No
use Rattle.semantics.specs.Model.{Model}
use Rattle.semantics.specs.State.{State, process}
use Rattle.semantics.specs.Claim.{Offer, offers, asks, goes, choice}
use Rattle.semantics.specs.Walk.{line}
use Rattle.promises.specs.Laws.{some_in}
use Rattle.promises.specs.Parts.{fit_at}
use Rattle.base_journal.specs.Wrote.{wrote_at}
use Rattle.row_work.specs.Work.{work_of}
use Rattle.file_map.specs.Map.{OfferAt, OffersAt}
use Rattle.row_process.specs.Process.{Shown, Lives}
use Rattle.row_process.specs.Put.{process_sized}
use Rattle.row_lists.specs.Lists.{Any, IsBlocked}
use Rattle.row_claim.specs.Choices.{branch_in, says_stays, Takes, branch_takes}
use Rattle.row_claim.specs.declared.Branch.{Branch as Answer}
use Rattle.row_claim.specs.declared.Branch.TheVariants.{Stays, Goes}
use Rattle.row_grant.specs.Grant.{Facing}
use Rattle.row_grant.specs.Standing.{number_in, asks_are, offers_there, number_low, place_at}
use Rattle.act_walk.specs.Walking.{Visiting, chooses, went, Visited, Going, AtAction, entered_by}
use Rattle.act_walk.proofs.Reading.{offer_enters}
use Rattle.act_walk.proofs.Going.{is_sized, shown, stands, stands_at}

module _ {bs row w : List ℕ} {k : ℕ} (v : Visiting bs row w k) where
  abbrev m : Model
  m = v.walking.run.model

  abbrev s : State
  s = v.walking.run.is

  pub listed : Shown w (IsBlocked k)
  listed = record { is = s; shows = v.walking.run.shows; sized = is_sized v.walking; given = v.there }

  pub place_is : (p : ℕ) → ((d : Shown w (IsBlocked k)) → p ≡ place_at d.is.blocked k) → p ≡ place_at s.blocked k
  unfolding listed
  place_is p told = told listed

  -- IN PLACE p it lives,
  module _ (p : ℕ) (e : p ≡ place_at s.blocked k) where
    pub its_place : Shown w (Lives p)
    its_place = shown v.walking (stands v p e).lives

    pub place_low : p < 64
    place_low = (stands v p e).lives.in_places

    pub number_fits : (n : ℕ) → ((d : Shown w (λ _. p < 64)) → n ≡ (process d.is p).number) → n < 4_294_967_296
    number_fits n told =
        omega (arith, told (shown v.walking place_low), (process_sized s p (is_sized v.walking)).number_low)

    -- and stands at action a of the map.
    module _ (a : ℕ)
        (told : (d : Shown w (Lives p)) → a ≡ get_or row d.given.innermost.block 0 + d.given.innermost.at) where
      number_is : a ≡ number_in (stands v p e) row
      unfolding its_place
      number_is = told its_place

      pub action_low : a < 1_024
      action_low = rw number_is (number_low (stands v p e) v.walking.mapped v.walking.run.fits)

      offers_at : OffersAt bs row a (offers (stands v p e).action)
      offers_at = rw number_is (offers_there (stands v p e) v.walking.mapped)

      pub facing : Facing bs row w a k
      facing =
          record {
            run = v.walking.run;
            mapped = v.walking.mapped;
            in_hand = v.walking.in_hand;
            amounts = λ j. 0;
            holds = v.walking.holds;
            floor_ok = v.walking.floor_ok;
            ahead = omega (arith, v.there);
            asked = (stands v p e).action;
            asked_at = offers_at;
            asked_low = action_low;
            asked_fit = fit_at m v.walking.run.fits (process s p).frames (stands v p e).action (stands_at v p e);
          }

      pub at_action : AtAction bs row a
      at_action =
          let t = stands v p e in
          record {
            action = t.action;
            long = v.walking.mapped.long;
            low = action_low;
            there =
                rw number_is
                (v.walking.mapped.acts_at t.lives.innermost.block t.lives.innermost.at t.action t.acts);
          }

      -- THE ANSWER says what it chooses: to wait,
      module _ {r : Answer}
          (told₂ : (d : Facing bs row w a k)
          → r ≡ branch_in (choice d.run.model d.run.is (take k d.run.is.blocked) (offers d.asked))) where
        abbrev os : List Offer
        os = offers (stands v p e).action

        chooses_is : chooses m s k ≡ choice m s (take k s.blocked) os
        chooses_is = ap (choice m s (take k s.blocked)) (ap (asks m s) (sym e) ∙ asks_are (stands v p e))

        pub stayed : (at : ℕ) (out : List ℕ) → r ≡ Stays → Visited s k (chooses m s k) 0 w w at out out
        unfolding facing
        stayed at out h =
            subst (λ c. Visited s k c 0 w w at out out) (sym (chooses_is ∙ (says_stays _ (sym h ∙ told₂ facing)).1))
            (refl, (refl, refl))

        -- or to go.
        module _ {which : ℕ} (h : r ≡ Goes which) where
          taken : Takes m s (take k s.blocked) os which
          unfolding facing
          taken = branch_takes m s (take k s.blocked) os (sym h ∙ told₂ facing)

          pub branch_few : get_or row (1_345 + a) 0 + which < 4_096
          branch_few = omega (arith, offers_at.from_few, some_in os which taken.offer taken.there)

          goes_there : chooses m s k ≡ goes which taken.offer
          goes_there = chooses_is ∙ taken.chosen

          module _ {first : ℕ} (f : first ≡ get_or row (1_345 + a) 0) (enters : Bool)
              (told₃ : (d : AtAction bs row a) → enters ≡ entered_by d.action) where
            pub going : Going bs row w k p (first + which) enters
            unfolding at_action
            going =
                record {
                  visiting = v;
                  place_is = e;
                  which = which;
                  offer = taken.offer;
                  chosen = goes_there;
                  offered = ap (λ l. get_elem? l which) (asks_are (stands v p e)) ∙ taken.there;
                  offer_at =
                      subst (λ j. OfferAt bs row (j + which) taken.offer) (sym f)
                      (offers_at.each which taken.offer taken.there);
                  enters_is = told₃ at_action ∙ offer_enters (stands v p e).action which taken.offer taken.there;
                }

            pub gone : (at : ℕ) (out out' w' : List ℕ) (n : ℕ) → ((d : Shown w (λ _. p < 64)) → n ≡ (process d.is p).number)
                → ((d : Shown w Any) → out' ≡ wrote_at at (line d.is n No.granted (pos which) ∷ []) out)
                → ((g : Going bs row w k p (first + which) enters)
                → w' ≡ work_of (went k g.offer g.visiting.walking.run.is))
                → Visited s k (chooses m s k) 1 w w' at out out'
            unfolding going
            gone at out out' w' n numbered wrote done =
                let number : n ≡ (process s (place_at s.blocked k)).number =
                numbered (shown v.walking place_low) ∙ ap (λ q. (process s q).number) e in
                subst (λ c. Visited s k c 1 w w' at out out') (sym goes_there) (
                  refl,
                  (
                    done going,
                    wrote (shown v.walking tt) ∙ ap (λ j. wrote_at at (line s j No.granted (pos which) ∷ []) out) number,
                  ),
                )
