-- Which branch is taken, by its number in the action and in the map. Assumes nothing.
use Prim.Native.Nat.{ℕ, ◌+◌, ◌≤◌, ◌<◌}
use native.Mathlib.Omega.{arith}
use mathlib.Core.Path.{◌≡◌, refl, sym, subst, ◌∙◌, ap}
use mathlib.Core.List.{List, [], ◌∷◌, map}
use mathlib.Core.Bool.{Bool, true}
use lib.ListN.{length, get_or, take}
use lib.IntN.{pos}
use Rattle.semantics.specs.Model.{Branch, Action}
use Rattle.semantics.specs.State.{State}
use Rattle.semantics.specs.Claim.{met, test, Offer, enter_block, offers, choice, grant}
use Rattle.semantics.specs.Walk.{line}
use Rattle.semantics.specs.Step.{in_front}
use Rattle.promises.specs.Laws.{AllOf, some_in}
use Rattle.promises.specs.Takes.{chosen}
use Rattle.base_numbers.specs.Map as Map
use Rattle.base_i32.specs.Code.{code, value_of}
use Rattle.base_i32.specs.Laws.{value_of-code}
use Rattle.base_journal.specs.Wrote.{wrote_at}
use Rattle.row_work.specs.Work.{work_of}
use Rattle.file_map.specs.Map.{OffersAt}
use Rattle.file_map.specs.Low.{number_low}
use Rattle.row_process.specs.Process.{Shown}
use Rattle.row_lists.specs.Lists.{waiter_of}
use Rattle.row_lists.specs.Queues.{before}
use Rattle.row_lists.specs.Front.{in_front_taken}
use Rattle.row_claim.specs.Choices.{choice_in, says_waits, Takes, takes}
use Rattle.row_claim.specs.declared.Reason.{Reason}
use Rattle.row_claim.specs.declared.Choice.{Choice as Answer}
use Rattle.row_claim.specs.declared.Choice.TheVariants.{Waits, Goes}
use Rattle.row_grant.specs.Grant.{into_block, Granting, Facing}
use Rattle.act_floor.specs.Onward.{hand, is_sized, in_hand, action_fits}
use Rattle.act_req_try_while.specs.Asks.{Asked, model, state, who, taken, Requests, passes, enters, Requesting}
use Rattle.act_req_try_while.specs.Asks.{Looping, Branching, Comes, Branched}
use Rattle.act_req_try_while.proofs.Floor.{here, shown}

-- Each branch of a TRY has a block, and so has that of a WHILE, but not that of a REQ.
try_enters : (bs : List Branch)
    → AllOf (λ o. true ≡ into_block o.and_then)
    (map {B = Offer} (λ b. record { claim = b.claim; and_then = enter_block b.block }) bs)
try_enters [] = tt
try_enters (b ∷ bs) = (refl, try_enters bs)

pub enters_so : {b : Bool} {x : Action} → Requests b x → AllOf (λ o. b ≡ into_block o.and_then) (offers x)
enters_so passes = (refl, tt)
enters_so (enters {bs}) = try_enters bs

module _ {bs row w : List ℕ} {p a : ℕ} where
  abbrev pub by_request : {b : Bool} → Requesting bs row w p a b → Branching bs row w p a b
  by_request v = record { action = v.action; asked = v.asked; enters_all = enters_so v.requests }

  abbrev pub by_loop : Looping bs row w p a → Branching bs row w p a true
  by_loop v = record { action = _; asked = v.asked; enters_all = (refl, tt) }

-- THE ACTION in the map.
module _ {bs row w : List ℕ} {p a : ℕ} {x : Action} (v : Asked bs row w p a x) where
  abbrev s : State
  s = state v

  abbrev os : List Offer
  os = offers x

  pub offers_there : OffersAt bs row a os
  offers_there =
      subst (λ k. OffersAt bs row k os) (sym v.number_is)
      (v.acting.running.mapped.offers_at v.inside v.index x v.there)

  pub few : a < 1_024
  few =
      let o = v.acting.running in
      let a = number_low o.mapped o.run.fits v.inside v.index x v.there in
      omega (arith, v.number_is)

  pub map_long : length row ≡ Map.WORDS
  map_long = v.acting.running.mapped.long

  -- k of the blocked are in front, and r is the branch that none of these keeps it from.
  module _ (k : ℕ)
      (front : (d : Shown w (λ t. p < 64))
      → (k ≡ before (waiter_of d.is p) d.is.blocked) × (k ≤ length d.is.blocked)) where
    pub in_front_of_it : (k ≡ before (waiter_of s p) s.blocked) × (k ≤ length s.blocked)
    in_front_of_it = front (shown v v.acting.running.run.shows)

    abbrev pub facing : Facing bs row w a k
    facing =
        record {
          run = v.acting.running.run;
          mapped = v.acting.running.mapped;
          in_hand = hand (here v);
          amounts = λ j. 0;
          holds = v.acting.running.sound;
          floor_ok = (is_sized (here v)).floor_ok;
          ahead = in_front_of_it.1;
          asked = x;
          asked_at = offers_there;
          asked_low = few;
          asked_fit = action_fits (here v);
        }

    module _ {r : Answer}
        (told : (d : Facing bs row w a k)
        → r ≡ choice_in (choice d.run.model d.run.is (take k d.run.is.blocked) (offers d.asked))) where
      taken_is : r ≡ choice_in (taken v)
      taken_is =
          let o = v.acting.running.sound.blocked_ordered in
          let e = ap (λ j. take j s.blocked) in_front_of_it.0 ∙ in_front_taken s p (is_sized (here v)) o in
          told facing ∙ ap (λ ws. choice_in (choice (model v) s ws os)) e

      pub none_taken : {y : Reason} → r ≡ Waits y → (at : ℕ) (out : List ℕ) → Branched (taken v) r p s w w at out out
      none_taken h at out =
          let e = (says_waits (taken v) (sym h ∙ taken_is)).1.0 in
          record { answers = taken_is; comes = subst (λ c. Comes c p s w w at out out) (sym e) (refl, refl) }

      module _ {n : ℕ} (h : r ≡ Goes n) where
        pub found : Takes (model v) s (in_front (model v) s p) os n
        found = takes (model v) s (in_front (model v) s p) os (sym h ∙ taken_is)

        abbrev pub offer : Offer
        offer = found.offer

        pub few_branches : get_or row (1_345 + a) 0 + n ≤ 4_096
        few_branches = omega (arith, offers_there.from_few, some_in os n offer found.there)

        value_is : value_of (2_147_483_648 + n) ≡ pos n
        unfolding code
        value_is = let t = few_branches in value_of-code (pos n) (omega arith)

        pub one_taken : {w₁ : List ℕ} → w₁ ≡ work_of (grant p offer s) → (at : ℕ) (out : List ℕ) {out₁ : List ℕ}
            → out₁ ≡ wrote_at at (line s (who v).number 4 (value_of (2_147_483_648 + n)) ∷ []) out
            → Branched (taken v) (Goes n) p s w w₁ at out out₁
        one_taken {w₁} e at out {out₁} t =
            let u = t ∙ ap (λ z. wrote_at at (line s (who v).number 4 z ∷ []) out) value_is in
            record {
              answers = sym h ∙ taken_is;
              comes = subst (λ c. Comes c p s w w₁ at out out₁) (sym found.chosen) (e, u);
            }

        -- It is granted.
        module _ {first : ℕ} (f : first ≡ get_or row (1_345 + a) 0) (b : Bool)
            (all : AllOf (λ o. b ≡ into_block o.and_then) os) where
          pub met_and : (b ≡ into_block offer.and_then) × (test s offer.claim ≡ met)
          met_and = chosen (λ o. b ≡ into_block o.and_then) s n offer (model v) _ os all found.chosen

          abbrev pub granting : Granting bs row w p (first + n) b
          granting =
              record {
                run = v.acting.running.run;
                in_hand = hand (here v);
                holds = v.acting.running.sound;
                one = in_hand (here v);
                floor_ok = (is_sized (here v)).floor_ok;
                stands_at = x;
                stands = v.acting.stands;
                offer = offer;
                which = n;
                offered = found.there;
                offer_at = rw f (offers_there.each n offer found.there);
                is_met = met_and.1;
                enters_is = met_and.0;
              }
