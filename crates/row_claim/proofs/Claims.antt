-- The items of a claim one after the other: what is left of it, and one item further. Assumes nothing.
use Prim.Native.Nat.{ℕ, suc, ◌+◌, ◌-◌, ◌<◌}
use mathlib.Core.Path.{◌≡◌, sym, subst, ◌∙◌, ap}
use mathlib.Core.List.{List, ◌∷◌, map}
use mathlib.Core.Bool.{Bool, true, false}
use lib.ListN.{length, take, drop}
use Rattle.semantics.specs.Model.{Model, Claim}
use Rattle.semantics.specs.Bytes.{u16}
use Rattle.semantics.specs.Record.{item_of}
use Rattle.semantics.specs.State.{State}
use Rattle.semantics.specs.Claim.{item_met, test_from, test}
use Rattle.promises.specs.Laws.{AllOf}
use Rattle.promises.specs.Fit.{ItemFit}
use Rattle.file_check_parts.proofs.Laws.{rest_of, parts-cons, parts_none}
use Rattle.file_claim.specs.Laid.{items_in, claim_items}
use Rattle.row_claim.specs.Asking.{Meeting}
use Rattle.row_claim.specs.Items.{MeetingItem}
use Rattle.row_claim.specs.Choices.{test_in}
use Rattle.row_claim.specs.declared.Test.TheVariants.{Met, Lacks}

-- The n items that bs begins with, counted from k, are what is left to be tested of the claim c.
pub record Left (m : Model) (s : State) (c : Claim) (k n : ℕ) (bs : List ℕ) : Type 0 where
  pub same : test_from k s (items_in n bs) ≡ test s c
  pub fit : AllOf (ItemFit m) (items_in n bs)

-- All are, before the first.
module _ (bs : List ℕ) (at : ℕ) (w : List ℕ) (v : Meeting bs at w) where
  pub all_left : (k n : ℕ) → k ≡ 1 → n ≡ u16 bs at
      → Left v.model v.is v.claim k n (take (length bs - (at + 2)) (drop (at + 2) bs))
  all_left k n d e =
      let c : items_in n (drop (at + 2) bs) ≡ v.claim =
      ap (λ k. items_in k (drop (at + 2) bs)) e ∙ claim_items bs at ∙ v.claim_at.claim_is in
      rw (rest_of (at + 2) bs, d)
      (record { same = ap (test v.is) c; fit = subst (AllOf (ItemFit v.model)) (sym c) v.items_fit })

  -- One item further.
  module _ (k n : ℕ) (rest : List ℕ) (h : 0 < n) (l : Left v.model v.is v.claim k n rest) where
    next : items_in n rest ≡ item_of (take 8 rest) ∷ items_in (n - 1) (drop 8 rest)
    next = ap (map item_of) (parts-cons 8 n rest h)

    next_fit : AllOf (ItemFit v.model) (item_of (take 8 rest) ∷ items_in (n - 1) (drop 8 rest))
    next_fit = subst (AllOf (ItemFit v.model)) next l.fit

    next_test : test_from k v.is (item_of (take 8 rest) ∷ items_in (n - 1) (drop 8 rest)) ≡ test v.is v.claim
    next_test = sym (ap (test_from k v.is) next) ∙ l.same

    pub next_item : MeetingItem (take 8 rest) w
    next_item =
        record {
          model = v.model;
          is = v.is;
          shows = v.shows;
          sized = v.sized;
          declares = v.declares;
          fits = next_fit.0;
        }

    -- The answer r for it: it is the first that is lacking, or less of the claim is left.
    module _ (r : Bool) (told : (d : MeetingItem (take 8 rest) w) → r ≡ item_met d.is (item_of (take 8 rest))) where
      answered : r ≡ item_met v.is (item_of (take 8 rest))
      unfolding next_item
      answered = told next_item

      pub is_lacking : r ≡ false → Lacks k ≡ test_in (test v.is v.claim)
      unfolding test_from
      is_lacking e = ap test_in (rw (test_from, sym answered ∙ e) at next_test)

      pub less_left : (j : ℕ) → j ≡ suc k → r ≡ true
          → Left v.model v.is v.claim j (n - 1) (take (length rest - 8) (drop 8 rest))
      unfolding test_from
      less_left j d e =
          rw (rest_of 8 rest, d) (record { same = rw (test_from, sym answered ∙ e) at next_test; fit = next_fit.1 })

  pub none_left : (k n : ℕ) (rest : List ℕ) → n ≡ 0 → Left v.model v.is v.claim k n rest
      → Met ≡ test_in (test v.is v.claim)
  unfolding test_from
  none_left k n rest e l =
      ap test_in (sym (ap (λ p. test_from k v.is (map item_of p)) (parts_none 8 n rest e)) ∙ l.same)
