-- The branches of an action one after the other: what the map has of them, and one branch further. Assumes nothing.
use Prim.Native.Nat.{ℕ, zero, suc, ◌+◌, ◌-◌, ◌≤◌, ◌<◌}
use native.Mathlib.Numerals.{add-one}
use native.Mathlib.Omega.{arith}
use mathlib.Core.Path.{◌≡◌, refl, sym, ◌∙◌, ap}
use mathlib.Core.Logic.{◌⊎◌, inl, inr}
use mathlib.Core.List.{List, [], ◌∷◌}
use mathlib.Core.Option.{none, some}
use lib.ListN.{length, get_or, drop, get_elem?}
use Rattle.semantics.specs.State.{State}
use Rattle.semantics.specs.Claim.{met, lacks, test, Offer, first_lacks, Choice, waits, goes, or_lacks, first_met}
use Rattle.promises.specs.Laws.{all_at, drop-some, drop-none}
use Rattle.base_numbers.specs.Map as Map
use Rattle.base_numbers.specs.Limit as Limit
use Rattle.row_claim.specs.Asking.{ClaimAt, Meeting, Asking}
use Rattle.row_claim.specs.Choices.{test_in, choice_in, says_met, says_lacks}
use Rattle.row_claim.specs.declared.Test.{Test as TestAnswer}
use Rattle.row_claim.specs.declared.Test.TheVariants.{Met, Lacks as LacksItem}
use Rattle.row_claim.specs.declared.Reason.TheVariants.{Lacks}
use Rattle.row_claim.specs.declared.Choice.TheVariants.{Waits, Goes}

-- What stands at index k of a list; behind its end nothing does.
record There {A : Type 0} (xs : List A) (k : ℕ) : Type 0 where
  one : A
  there_is : get_elem? xs k ≡ some one

there : {A : Type 0} (xs : List A) (k : ℕ) → k < length xs → There xs k
there [] k h = absurd (omega arith)
there (x ∷ xs) zero h = record { one = x; there_is = refl }
there (x ∷ xs) (suc k) h = let t = there xs k (omega arith) in record { one = t.one; there_is = t.there_is }

nothing_there : {A : Type 0} (xs : List A) (k : ℕ) → length xs ≤ k → get_elem? xs k ≡ none
nothing_there [] k h = refl
nothing_there (x ∷ xs) zero h = absurd (omega arith)
nothing_there (x ∷ xs) (suc k) h = nothing_there xs k (omega arith)

-- The first of the offers is met, or not.
module _ (s : State) (k : ℕ) (o : Offer) (os : List Offer) where
  first_goes : test s o.claim ≡ met → first_met s k (o ∷ os) ≡ goes k o
  unfolding first_met
  first_goes e = rw (e, first_met)

  first_met-lacks : (j : ℕ) → test s o.claim ≡ lacks j → first_met s k (o ∷ os) ≡ or_lacks j (first_met s (k + 1) os)
  unfolding first_met
  first_met-lacks j e = rw (add-one k, e, first_met)

-- What is chosen where k branches weren't met, of which the first lacks its item n, and the others come to c.
abbrev pub else_lacks : ℕ → ℕ → Choice → Choice
else_lacks zero n c = c
else_lacks (suc k) n c = or_lacks n c

else_goes : (k n i : ℕ) (o : Offer) → else_lacks k n (goes i o) ≡ goes i o
else_goes zero n i o = refl
else_goes (suc k) n i o = refl

-- One more isn't met: it is the first of all, or a later one.
else_first : (k n j : ℕ) (c : Choice) → k ≡ 0 → else_lacks k n (or_lacks j c) ≡ else_lacks (k + 1) j c
else_first zero n j c e = refl
else_first (suc k) n j c e = absurd (omega arith)

else_later : (k n j : ℕ) (c : Choice) → (k ≡ 0 → ⊥) → else_lacks k n (or_lacks j c) ≡ else_lacks (k + 1) n c
else_later zero n j c e = absurd (e refl)
else_later (suc k) n j (waits r) e = rw (add-one (suc k)) refl
else_later (suc k) n j (goes i o) e = rw (add-one (suc k)) refl

none_lacks : (k n : ℕ) → (k ≡ 0 → n ≡ 0) → else_lacks k n (waits (first_lacks 0)) ≡ waits (first_lacks n)
none_lacks zero n h = ap (λ j. waits (first_lacks j)) (sym (h refl))
none_lacks (suc k) n h = refl

module _ (bs map w : List ℕ) (a : ℕ) (v : Asking bs map w a) where
  -- The first that is met is the first from branch k on, and of those before it the first lacks its item n.
  pub record FirstFrom (k n : ℕ) : Type 0 where
    pub same : first_met v.is 0 v.asks ≡ else_lacks k n (first_met v.is k (drop k v.asks))
    pub none_yet : k ≡ 0 → n ≡ 0

  pub at_first : FirstFrom 0 0
  at_first = record { same = refl; none_yet = λ e. refl }

  -- Where the map has its branches.
  module _ (from to : ℕ) (p : from ≡ get_or map (Map.FROM + a) 0) (q : to ≡ get_or map (Map.FROM + (a + 1)) 0) where
    pub many_are : to ≡ from + length v.asks
    many_are =
        let t = v.asks_at.to_is in
        omega (arith, t)

    pub few_are : to ≤ Limit.BRANCHES
    few_are = let m = many_are in let f = v.asks_at.from_few in omega (arith, f)

    pub none_met : (k n : ℕ) → to - from ≤ k → FirstFrom k n
        → Waits (Lacks n) ≡ choice_in (first_met v.is 0 v.asks)
    unfolding first_met
    none_met k n g f =
        let m = many_are in
        let e : get_elem? v.asks k ≡ none = nothing_there v.asks k (omega arith) in
        ap choice_in
        (sym (f.same
        ∙ ap (λ os. else_lacks k n (first_met v.is k os)) (drop-none v.asks k e)
        ∙ none_lacks k n f.none_yet))

    -- Branch k.
    module _ (k : ℕ) (h : k < to - from) where
      in_asks : k < length v.asks
      in_asks = let m = many_are in omega arith

      offer : Offer
      offer = (there v.asks k in_asks).one

      offer_is : get_elem? v.asks k ≡ some offer
      unfolding offer
      offer_is = (there v.asks k in_asks).there_is

      onward : drop k v.asks ≡ offer ∷ drop (k + 1) v.asks
      onward = drop-some v.asks k offer offer_is

      module _ (at : ℕ) (s : at ≡ get_or map (Map.CLAIM + (from + k)) 0) where
        claim_there : ClaimAt bs at offer.claim
        claim_there =
            let o = v.asks_at.each k offer offer_is in
            rw (s ∙ ap (λ j. get_or map (Map.CLAIM + (j + k)) 0) p)
            (record { inside = o.inside; items_few = o.items_few; items_valid = o.items_valid; claim_is = o.claim_is })

        pub its_claim : Meeting bs at w
        its_claim =
            record {
              model = v.model;
              is = v.is;
              shows = v.shows;
              sized = v.sized;
              declares = v.declares;
              claim = offer.claim;
              claim_at = claim_there;
              items_fit = all_at _ v.asks k offer v.asks_fit offer_is;
            }

        -- The answer r for its claim: it is the first, or the first is behind it.
        module _ (r : TestAnswer) (told : (d : Meeting bs at w) → r ≡ test_in (test d.is d.claim)) (n : ℕ)
            (f : FirstFrom k n) where
          answered : r ≡ test_in (test v.is offer.claim)
          unfolding its_claim
          answered = told its_claim

          abbrev later : Choice
          later = first_met v.is (k + 1) (drop (k + 1) v.asks)

          from_here : first_met v.is 0 v.asks ≡ else_lacks k n (first_met v.is k (offer ∷ drop (k + 1) v.asks))
          from_here = f.same ∙ ap (λ os. else_lacks k n (first_met v.is k os)) onward

          pub is_first : r ≡ Met → Goes k ≡ choice_in (first_met v.is 0 v.asks)
          is_first e =
              let t = says_met (test v.is offer.claim) (sym e ∙ answered) in
              ap choice_in
              (sym (from_here
              ∙ ap (else_lacks k n) (first_goes v.is k offer (drop (k + 1) v.asks) t)
              ∙ else_goes k n k offer))

          -- It lacks its item j.
          module _ (j : ℕ) (e : r ≡ LacksItem j) where
            behind : first_met v.is 0 v.asks ≡ else_lacks k n (or_lacks j later)
            behind =
                let t = says_lacks (test v.is offer.claim) (sym e ∙ answered) in
                from_here ∙ ap (else_lacks k n) (first_met-lacks v.is k offer (drop (k + 1) v.asks) j t)

            pub further : {i : ℕ} → ((k ≡ 0) × (i ≡ j)) ⊎ ((k ≡ 0 → ⊥) × (i ≡ n)) → FirstFrom (k + 1) i
            further (inl x) =
                rw x.1
                (record { same = behind ∙ else_first k n j later x.0; none_yet = λ y. absurd (omega arith) })
            further (inr x) =
                rw x.1
                (record { same = behind ∙ else_later k n j later x.0; none_yet = λ y. absurd (omega arith) })
