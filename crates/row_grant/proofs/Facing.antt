-- An action held against the blocked: whether one of them bars it, and which branch is taken. Assumes nothing.
use Prim.Native.Nat.{ℕ, zero, suc, ◌+◌, ◌≤◌, ◌<◌}
use native.Mathlib.Numerals.{add-one}
use native.Mathlib.Omega.{arith}
use mathlib.Core.Path.{◌≡◌, refl, sym, subst, ◌∙◌, ap}
use mathlib.Core.List.{List, [], ◌∷◌}
use mathlib.Core.Bool.{Bool, true, false, ◌||◌}
use lib.ListN.{length, get_or, take, drop}
use Rattle.semantics.specs.Words.{any}
use Rattle.semantics.specs.Model.{Model}
use Rattle.semantics.specs.State.{State, Waiter}
use Rattle.semantics.specs.Claim.{offers, bars, asks, barred, is_barred, Choice, waits, first_met, choice}
use Rattle.promises.specs.Laws.{AllOf, all_map}
use Rattle.promises.specs.Fit.{ItemFit}
use Rattle.promises.specs.Takes.{OfferOk, offers_ok}
use Rattle.row_work.specs.Work.{Sized}
use Rattle.row_work.specs.Underway.{still_sized}
use Rattle.row_process.specs.Process.{Shown, Lives}
use Rattle.row_lists.specs.Lists.{IsBlocked}
use Rattle.file_bars.specs.Barring.{Barring}
use Rattle.row_claim.specs.Asking.{Asking}
use Rattle.row_claim.specs.Choices.{choice_in, branch_in, as_branch, says_waits}
use Rattle.row_claim.specs.declared.Reason.{Reason as ReasonAnswer}
use Rattle.row_claim.specs.declared.Reason.TheVariants.{Barred}
use Rattle.row_claim.specs.declared.Choice.{Choice as Answer}
use Rattle.row_claim.specs.declared.Choice.TheVariants.{Waits, Goes}
use Rattle.row_claim.specs.declared.Branch.TheVariants.{Stays, Goes as TakesBranch}
use Rattle.row_grant.specs.Grant.{Facing}
use Rattle.row_grant.specs.Standing.{Standing, number_in, asks_are, offers_there, number_low, place_at, blocked_standing}

-- THE FIRST k of a list of places, from the i-th on: whether one of them passes the test g.
module _ (g : ℕ → Bool) where
  abbrev pub any_from : ℕ → ℕ → List Waiter → Bool
  any_from i k ws = any (λ w. g w.place) (drop i (take k ws))

  next : (i k : ℕ) (ws : List Waiter) → i < k → k ≤ length ws → any_from i k ws ≡ g (place_at ws i) || any_from (suc i) k ws
  next i zero ws h l = absurd (omega arith)
  next i (suc k) [] h l = absurd (omega arith)
  next zero (suc k) (w ∷ ws) h l = refl
  next (suc i) (suc k) (w ∷ ws) h l = next i k ws (omega arith) (omega arith)

  pub none_behind : (k : ℕ) (ws : List Waiter) → any_from k k ws ≡ false
  none_behind zero ws = refl
  none_behind (suc k) [] = refl
  none_behind (suc k) (w ∷ ws) = none_behind k ws

module _ {bs row w : List ℕ} {a k : ℕ} (v : Facing bs row w a k) where
  abbrev m : Model
  m = v.run.model

  abbrev s : State
  s = v.run.is

  pub is_sized : Sized s
  is_sized = still_sized v.run s v.holds v.floor_ok

  -- The same, held against fewer.
  pub nearer : (i : ℕ) → i ≤ k → Facing bs row w a i
  nearer i h =
      record {
        run = v.run;
        mapped = v.mapped;
        in_hand = v.in_hand;
        amounts = v.amounts;
        holds = v.holds;
        floor_ok = v.floor_ok;
        ahead = omega (arith, v.ahead);
        asked = v.asked;
        asked_at = v.asked_at;
        asked_low = v.asked_low;
        asked_fit = v.asked_fit;
      }

  -- THE i-th of the blocked, in place r,
  module _ (i : ℕ) (h : i < k) where
    pub there_is : Shown w (IsBlocked i)
    there_is = record { is = s; shows = v.run.shows; sized = is_sized; given = omega (arith, v.ahead) }

    pub place_is : (r : ℕ) → ((d : Shown w (IsBlocked i)) → r ≡ place_at d.is.blocked i) → r ≡ place_at s.blocked i
    unfolding there_is
    place_is r told = told there_is

    module _ (r : ℕ) (e : r ≡ place_at s.blocked i) where
      stands : Standing m r s
      stands =
          subst (λ p. Standing m p s) (sym e)
          (blocked_standing m s v.holds i (omega (arith, v.ahead)))

      pub its_place : Shown w (Lives r)
      its_place = record { is = s; shows = v.run.shows; sized = is_sized; given = stands.lives }

      -- stands at action b, which bars or not.
      module _ (b : ℕ)
          (told : (d : Shown w (Lives r)) → b ≡ get_or row d.given.innermost.block 0 + d.given.innermost.at) where
        number_is : b ≡ number_in stands row
        unfolding its_place
        number_is = told its_place

        pub its_barring : Barring bs row b a
        its_barring =
            record {
              by = offers stands.action;
              of = offers v.asked;
              long = v.mapped.long;
              b_few = rw number_is (number_low stands v.mapped v.run.fits);
              q_few = v.asked_low;
              by_at = rw number_is (offers_there stands v.mapped);
              of_at = v.asked_at;
            }

        pub bars_is : (x : Bool) → ((d : Barring bs row b a) → x ≡ bars d.by d.of)
            → x ≡ bars (asks m s (place_at s.blocked i)) (offers v.asked)
        unfolding its_barring
        bars_is x f =
            f its_barring
            ∙ ap (λ q. bars q (offers v.asked)) (sym (asks_are stands) ∙ ap (asks m s) e)

  -- ONE AFTER THE OTHER: whether one bars is whether one from the i-th on does.
  abbrev barred_by_one : Bool
  barred_by_one = barred m s (take k s.blocked) (offers v.asked)

  abbrev barring : ℕ → Bool
  barring p = bars (asks m s p) (offers v.asked)

  abbrev pub BarredFrom : ℕ → Type 0
  BarredFrom i = barred_by_one ≡ any_from barring i k s.blocked

  module _ (i : ℕ) (h : i < k) (r : Bool)
      (told : (d : Facing bs row w a (i + 1))
      → r ≡ bars (asks d.run.model d.run.is (place_at d.run.is.blocked i)) (offers d.asked))
      (f : BarredFrom i) where
    turn : barred_by_one ≡ r || any_from barring (i + 1) k s.blocked
    unfolding nearer
    turn =
        let e : r ≡ barring (place_at s.blocked i) = told (nearer (i + 1) (omega arith)) in
        f ∙ next barring i k s.blocked h v.ahead ∙ rw (e, add-one i)

    pub one_bars : r ≡ true → true ≡ barred_by_one
    one_bars e = sym (rw e at turn)

    pub one_not : r ≡ false → BarredFrom (i + 1)
    one_not e = rw e at turn

  pub none_bars : (i : ℕ) → i ≤ k → k ≤ i → BarredFrom i → false ≡ barred_by_one
  none_bars i l g f =
      let e : i ≡ k = omega arith in
      sym (f ∙ ap (λ j. any_from barring j k s.blocked) e ∙ none_behind barring k s.blocked)

  -- WHICH BRANCH.
  pub asking : Asking bs row w a
  asking =
      record {
        model = m;
        is = s;
        shows = v.run.shows;
        sized = is_sized;
        declares =
            record {
              frees_many = v.holds.frees_many;
              bins_many = v.holds.bins_many;
              vars_many = v.holds.vars_many;
              syncs_many = v.holds.syncs_many;
            };
        long = v.mapped.long;
        few = v.asked_low;
        asks = offers v.asked;
        asks_at = v.asked_at;
        asks_fit =
            all_map (OfferOk m v.asked) (λ o. AllOf (ItemFit m) o.claim) (λ o b. b.0.1)
            (offers v.asked) (offers_ok m v.asked v.asked_fit);
      }

  abbrev chosen : Choice
  chosen = choice m s (take k s.blocked) (offers v.asked)

  abbrev first : Choice
  first = first_met s 0 (offers v.asked)

  free_chooses : barred_by_one ≡ false → chosen ≡ first
  unfolding choice
  free_chooses e = rw (e, choice)

  barred_waits : barred_by_one ≡ true → chosen ≡ waits is_barred
  unfolding choice
  barred_waits e = rw (e, choice)

  -- One is barred,
  pub barred_taken : true ≡ barred_by_one → Waits Barred ≡ choice_in chosen
  barred_taken e = ap choice_in (sym (barred_waits (sym e)))

  pub barred_stays : true ≡ barred_by_one → Stays ≡ branch_in chosen
  barred_stays e = ap branch_in (sym (barred_waits (sym e)))

  -- or takes the first that is met;
  module _ {r : Answer} (told : (d : Asking bs row w a) → r ≡ choice_in (first_met d.is 0 d.asks)) where
    first_is : r ≡ choice_in first
    unfolding asking
    first_is = told asking

    pub first_taken : false ≡ barred_by_one → r ≡ choice_in chosen
    first_taken e = first_is ∙ ap choice_in (sym (free_chooses (sym e)))

    pub first_goes : {n : ℕ} → r ≡ Goes n → false ≡ barred_by_one → TakesBranch n ≡ branch_in chosen
    first_goes h e = as_branch chosen (sym h ∙ first_taken e)

    -- where none is, it waits, barred or not.
    pub none_taken : {x : ReasonAnswer} → r ≡ Waits x → Stays ≡ branch_in chosen
    none_taken h = by barred_by_one refl
      where
        by : (t : Bool) → barred_by_one ≡ t → Stays ≡ branch_in chosen
        by true e = barred_stays (sym e)
        by false e = ap branch_in (sym (free_chooses e ∙ (says_waits first (sym h ∙ first_is)).1.0))
