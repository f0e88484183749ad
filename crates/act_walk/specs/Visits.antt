-- Visits, one after the other, are the walk: in it who is still blocked is not looked up in the state. Assumes nothing.
use Prim.Native.Nat.{ℕ, zero, suc, ◌+◌, ◌<◌}
use Rattle.std.proofs.Common.{add-one, ◌∙◌, drop_of_length-le, take_all as take_whole, take-suc, drop-cons, take_at, drop_at, length-take-le}
use native.Mathlib.Omega.{arith}
use Rattle.std.specs.Prelude.{◌≡◌, take, pos}
use Rattle.std.proofs.Math.Path.{refl, sym, ap}
use mathlib.Core.List.{List, [], ◌∷◌, ◌++◌}
use Rattle.std.proofs.Math.Bool.{true, false}
use Rattle.std.proofs.Math.ListN.{length, get_or, drop}
use Rattle.semantics.specs.Numbers as No
use Rattle.semantics.specs.Model.{Model, Item, get, condition, resource, bin, sync, Claim}
use Rattle.semantics.specs.State.{State, Waiter, process, put, with_blocked, wake}
use Rattle.semantics.specs.Claim.{item_met, met, lacks, test_from, test, take_item, take_all, Offer, asks, barred, Reason}
use Rattle.semantics.specs.Claim.{is_barred, Choice, waits, goes, or_lacks, first_met, choice, follow, grant}
use Rattle.semantics.specs.Walk.{Next, line, after, walk_on, walk}
use Rattle.promises.specs.Takes.{still_grant}
use Rattle.base_ordered.specs.Lines.{removed}
use Rattle.base_ordered.specs.Order.{removed-length}
use Rattle.row_lists.specs.Lists.{unblocked}
use Rattle.row_grant.specs.Standing.{place_at}
use Rattle.act_walk.specs.Walking.{chooses, went, granted_line, visits}

-- A PLACE of a list of waiters is that of the one who stands there.
abbrev pub nowhere : Waiter
nowhere = record { priority = pos 0; place = 0 }

pub place_at_lem : (ws : List Waiter) (j : ℕ) → place_at ws j ≡ (get_or ws j nowhere).place
place_at_lem [] j = refl
place_at_lem (w ∷ ws) zero = refl
place_at_lem (w ∷ ws) (suc j) = place_at_lem ws j

-- WHO IS BLOCKED is looked at by no claim, and kept by whoever takes one.
module _ (s : State) (x : List Waiter) where
  item_same : (i : Item) → item_met (with_blocked s x) i ≡ item_met s i
  item_same (get resource i n) = refl
  item_same (get bin i n) = refl
  item_same (get sync i n) = refl
  item_same (condition i r v) = refl

  test_same : (n : ℕ) (c : Claim) → test_from n (with_blocked s x) c ≡ test_from n s c
  unfolding test_from
  test_same n [] = refl
  test_same n (i ∷ is) =
      ap (λ b. elim b [ true ↦ test_from (suc n) (with_blocked s x) is | false ↦ lacks n ]) (item_same i)
      ∙ ap (λ t. elim (item_met s i) [ true ↦ t | false ↦ lacks n ]) (test_same (suc n) is)

  first_same : (i : ℕ) (os : List Offer) → first_met (with_blocked s x) i os ≡ first_met s i os
  unfolding first_met
  first_same i [] = refl
  first_same i (o ∷ os) =
      ap (λ t. elim t [ met ↦ goes i o | lacks n ↦ or_lacks n (first_met (with_blocked s x) (suc i) os) ]) (test_same 1 o.claim)
      ∙ ap (λ c. elim (test s o.claim) [ met ↦ goes i o | lacks n ↦ or_lacks n c ]) (first_same (suc i) os)

  pub choice_same : (m : Model) (ws : List Waiter) (q : List Offer) → choice m (with_blocked s x) ws q ≡ choice m s ws q
  unfolding choice
  choice_same m ws q = ap (λ c. elim (barred m s ws q) [ true ↦ waits is_barred | false ↦ c ]) (first_same 0 q)

module _ (p : ℕ) (x : List Waiter) where
  item_keeps : (i : Item) (s : State) → take_item p i (with_blocked s x) ≡ with_blocked (take_item p i s) x
  unfolding take_item
  item_keeps (get resource i n) s = refl
  item_keeps (get bin i n) s = refl
  item_keeps (get sync i n) s = refl
  item_keeps (condition i r v) s = refl

  all_keep : (c : Claim) (s : State) → take_all p c (with_blocked s x) ≡ with_blocked (take_all p c s) x
  unfolding take_all
  all_keep [] s = refl
  all_keep (i ∷ is) s = ap (take_all p is) (item_keeps i s) ∙ all_keep is (take_item p i s)

  grant_keeps : (o : Offer) (s : State) → grant p o (with_blocked s x) ≡ with_blocked (grant p o s) x
  unfolding grant
  grant_keeps o s = ap (λ t. put p (follow o.and_then (process t p)) t) (all_keep o.claim s)

  went_keeps : (o : Offer) (s : State)
      → wake s.clock p (grant p o (with_blocked s x)) ≡ with_blocked (wake s.clock p (grant p o s)) x
  unfolding wake
  went_keeps o s = ap (wake s.clock p) (grant_keeps o s)

-- THE SAME CHOICE leads to the same where each of its cases does.
either_same : {c d : Choice} {x y : Next} {f g : ℕ → Offer → Next} → c ≡ d → x ≡ y → ((i : ℕ) (o : Offer) → f i o ≡ g i o)
    → ◌≡◌ {A = Next} (elim c [ waits r ↦ x | goes i o ↦ f i o ]) (elim d [ waits r ↦ y | goes i o ↦ g i o ])
either_same {d = d} {x} {y} {f} {g} e a b = ap (λ k. elim k [ waits r ↦ x | goes i o ↦ f i o ]) e ∙ by d
  where
    by : (k : Choice) → ◌≡◌ {A = Next} (elim k [ waits r ↦ x | goes i o ↦ f i o ]) (elim k [ waits r ↦ y | goes i o ↦ g i o ])
    by (waits r) = a
    by (goes i o) = b i o

module _ (m : Model) where
  walk_same : (ws : List Waiter) (s : State) (x ahead : List Waiter)
      → walk_on m (with_blocked s x) ahead ws ≡ walk_on m s ahead ws
  unfolding walk_on
  walk_same [] s x ahead = refl
  walk_same (w ∷ ws) s x ahead =
      let p : ℕ = w.place in
      either_same (choice_same s x m ahead (asks m s p)) (walk_same ws s x (ahead ++ w ∷ []))
      (λ i o.
      ap (after (line s (process s p).number No.granted (pos i)))
      (ap (λ t. walk_on m t ahead ws) (went_keeps p x o s) ∙ walk_same ws (wake s.clock p (grant p o s)) x ahead))

  -- THE ONE AT k has gone: the rest is walked.
  module _ (k : ℕ) (o : Offer) (s : State) where
    abbrev p : ℕ
    p = place_at s.blocked k

    pub went_blocked : (went k o s).blocked ≡ removed k s.blocked
    unfolding wake
    went_blocked = (still_grant p o (unblocked k s)).same_blocked

    went_walks : k < length s.blocked
        → walk_on m (went k o s) (take k (went k o s).blocked) (drop k (went k o s).blocked)
        ≡ walk_on m (wake s.clock p (grant p o s)) (take k s.blocked) (drop (suc k) s.blocked)
    went_walks l =
        let b : List Waiter = s.blocked in
        let e = length-take-le k b (omega arith) in
        ap (λ c. walk_on m (went k o s) (take k c) (drop k c)) went_blocked
        ∙ ap (λ a. walk_on m (went k o s) a (drop k (removed k b))) (take_at (take k b) (drop (k + 1) b) k e)
        ∙ ap (walk_on m (went k o s) (take k b)) (drop_at (take k b) (drop (k + 1) b) k e ∙ ap (λ j. drop j b) (add-one k))
        ∙ ap (λ t. walk_on m t (take k b) (drop (suc k) b)) (went_keeps p (removed k b) o s)
        ∙ walk_same (drop (suc k) b) (wake s.clock p (grant p o s)) (removed k b) (take k b)

  visits_walk : (n k : ℕ) (s : State) → k + n ≡ length s.blocked
      → visits m n k s ≡ walk_on m s (take k s.blocked) (drop k s.blocked)
  unfolding visits walk_on
  visits_walk zero k s e =
      let b : List Waiter = s.blocked in
      sym (ap (λ a. walk_on m s a (drop k b)) (take_whole k b (omega arith))
      ∙ ap (walk_on m s b) (drop_of_length-le b {i = k} (omega arith)))
  visits_walk (suc n) k s e =
      let b : List Waiter = s.blocked in
      let l : k < length b = omega arith in
      let w : Waiter = get_or b k nowhere in
      let rest : List Waiter = drop (suc k) b in
      either_same (ap (λ p. choice m s (take k b) (asks m s p)) (place_at_lem b k))
      (visits_walk n (suc k) s (omega arith) ∙ ap (λ a. walk_on m s a rest) (take-suc b k nowhere l))
      (λ i o.
      ap (after (granted_line s k i))
      (visits_walk n k (went k o s) (omega (arith, ap length (went_blocked k o s), removed-length k b l)) ∙ went_walks k o s l)
      ∙ ap
      (λ p. after (line s (process s p).number No.granted (pos i))
      (walk_on m (wake s.clock p (grant p o s)) (take k b) rest))
      (place_at_lem b k))
      ∙ ap (walk_on m s (take k b)) (sym (drop-cons b k nowhere l))

  -- ONE VISIT of those that are left.
  module _ (n k : ℕ) (s : State) where
    pub visit_waits : (r : Reason) → chooses m s k ≡ waits r → visits m (suc n) k s ≡ visits m n (suc k) s
    unfolding visits
    visit_waits r e =
        ap
        (λ c.
        elim c
        [ waits x ↦ visits m n (suc k) s | goes i o ↦ after (granted_line s k i) (visits m n k (went k o s)) ])
        e

    pub visit_goes : (i : ℕ) (o : Offer) → chooses m s k ≡ goes i o
        → visits m (suc n) k s ≡ after (granted_line s k i) (visits m n k (went k o s))
    unfolding visits
    visit_goes i o e =
        ap
        (λ c.
        elim c
        [ waits r ↦ visits m n (suc k) s | goes j x ↦ after (granted_line s k j) (visits m n k (went k x s)) ])
        e

  pub walk-visits : (s : State) → visits m (length s.blocked) 0 s ≡ walk m s
  unfolding walk
  walk-visits s = visits_walk (length s.blocked) 0 s (omega arith)
