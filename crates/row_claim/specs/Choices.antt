-- The test of a claim and which branch is taken, as the code answers them. Assumes nothing.
use Rattle.std.specs.Prelude.{ℕ, suc, ◌+◌, refl, List, [], ◌∷◌, Bool}
use Rattle.std.proofs.Common.{arith, ap}
use Rattle.std.proofs.Math.Path.{◌≡◌, subst}
use Rattle.std.proofs.Math.Bool.{true, false}
use Rattle.std.proofs.Math.Option.{some}
use Rattle.std.proofs.Math.ListN.{get_elem?}
use Rattle.semantics.specs.Model.{Model}
use Rattle.semantics.specs.State.{State, Waiter}
use Rattle.semantics.specs.Claim.{Test, met, lacks, test, Offer, Reason, is_barred, first_lacks, Choice, waits, goes, barred}
use Rattle.semantics.specs.Claim.{or_lacks, first_met, choice}
use Rattle.promises.specs.Takes.{not_goes, or_goes}
use Rattle.row_claim.specs.declared.Test.{Test as TestAnswer}
use Rattle.row_claim.specs.declared.Test.TheVariants.{Met, Lacks}
use Rattle.row_claim.specs.declared.Reason.{Reason as ReasonAnswer}
use Rattle.row_claim.specs.declared.Reason.TheVariants as Why
use Rattle.row_claim.specs.declared.Choice.{Choice as Answer}
use Rattle.row_claim.specs.declared.Choice.TheVariants.{Waits, Goes}
use Rattle.row_claim.specs.declared.Branch.{Branch}
use Rattle.row_claim.specs.declared.Branch.TheVariants as Taken

-- The code's answers: of an offer they have only its number.
abbrev pub test_in : Test → TestAnswer
test_in met = Met
test_in (lacks n) = Lacks n

abbrev pub reason_in : Reason → ReasonAnswer
reason_in is_barred = Why.Barred
reason_in (first_lacks n) = Why.Lacks n

abbrev pub choice_in : Choice → Answer
choice_in (waits r) = Waits (reason_in r)
choice_in (goes i o) = Goes i

-- The same without the reason.
abbrev pub branch_in : Choice → Branch
branch_in (waits r) = Taken.Stays
branch_in (goes i o) = Taken.Goes i

-- WHAT AN ANSWER SAYS: the claim is met, or lacks its n-th item;
pub says_met : (t : Test) → Met ≡ test_in t → t ≡ met
says_met met e = refl
says_met (lacks n) e = let z : ◌≡◌ {A = ℕ} 0 1 = cc in absurd (omega arith)

pub says_lacks : (t : Test) {n : ℕ} → Lacks n ≡ test_in t → t ≡ lacks n
says_lacks met e = let z : ◌≡◌ {A = ℕ} 0 1 = cc in absurd (omega arith)
says_lacks (lacks k) e = cc

-- the choice is to wait,
pub says_waits : (c : Choice) {w : ReasonAnswer} → Waits w ≡ choice_in c → (r : Reason) × ((c ≡ waits r) × (w ≡ reason_in r))
says_waits (waits r) e = (r, (refl, cc))
says_waits (goes i o) e = let z : ◌≡◌ {A = ℕ} 0 1 = cc in absurd (omega arith)

pub says_stays : (c : Choice) → Taken.Stays ≡ branch_in c → (r : Reason) × (c ≡ waits r)
says_stays (waits r) e = (r, refl)
says_stays (goes i o) e = let z : ◌≡◌ {A = ℕ} 0 1 = cc in absurd (omega arith)

-- or to go with an offer,
says_goes : (c : Choice) {n : ℕ} → Goes n ≡ choice_in c → (o : Offer) × (c ≡ goes n o)
says_goes (waits r) e = let z : ◌≡◌ {A = ℕ} 0 1 = cc in absurd (omega arith)
says_goes (goes i o) {n} e = let z : i ≡ n = cc in (o, ap (λ j. goes j o) z)

says_taken : (c : Choice) {n : ℕ} → Taken.Goes n ≡ branch_in c → Goes n ≡ choice_in c
says_taken (waits r) e = let z : ◌≡◌ {A = ℕ} 0 1 = cc in absurd (omega arith)
says_taken (goes i o) {n} e = let z : n ≡ i = cc in ap Goes z

pub as_branch : (c : Choice) {n : ℕ} → Goes n ≡ choice_in c → Taken.Goes n ≡ branch_in c
as_branch (waits r) e = let z : ◌≡◌ {A = ℕ} 0 1 = cc in absurd (omega arith)
as_branch (goes i o) {n} e = let z : n ≡ i = cc in ap Taken.Goes z

-- which is that of its number.
first_there : (s : State) (i : ℕ) (os : List Offer) {j : ℕ} {o : Offer} → first_met s i os ≡ goes j o
    → (k : ℕ) × ((j ≡ k + i) × (get_elem? os k ≡ some o))
unfolding first_met
first_there s i [] e = not_goes e
first_there s i (x ∷ xs) {j} {o} e = go (test s x.claim) (first_there s (suc i) xs) e
  where
    go : (t : Test) → (first_met s (suc i) xs ≡ goes j o → (k : ℕ) × ((j ≡ k + suc i) × (get_elem? xs k ≡ some o)))
        → ◌≡◌ {A = Choice} (elim t [ met ↦ goes i x | lacks n ↦ or_lacks n (first_met s (suc i) xs) ]) (goes j o)
        → (k : ℕ) × ((j ≡ k + i) × (get_elem? (x ∷ xs) k ≡ some o))
    go met f g = let z : x ≡ o = cc in let y : i ≡ j = cc in (0, (omega arith, ap some z))
    go (lacks n) f g =
        let h = f (or_goes n (first_met s (suc i) xs) g) in
        (suc h.0, (omega (arith, h.1.0), h.1.1))

module _ (m : Model) (s : State) (ws : List Waiter) (os : List Offer) where
  choice_there : {j : ℕ} {o : Offer} → choice m s ws os ≡ goes j o → get_elem? os j ≡ some o
  unfolding choice
  choice_there {j} {o} e = go (barred m s ws os) e
    where
      go : (b : Bool) → ◌≡◌ {A = Choice} (elim b [ true ↦ waits is_barred | false ↦ first_met s 0 os ]) (goes j o)
          → get_elem? os j ≡ some o
      go true g = not_goes g
      go false g =
          let h = first_there s 0 os g in
          let z : h.0 ≡ j = omega (arith, h.1.0) in
          subst (λ k. get_elem? os k ≡ some o) z h.1.1

  -- The n-th offer is taken.
  pub record Takes (n : ℕ) : Type 0 where
    pub offer : Offer
    pub chosen : choice m s ws os ≡ goes n offer
    pub there : get_elem? os n ≡ some offer

  pub takes : {n : ℕ} → Goes n ≡ choice_in (choice m s ws os) → Takes n
  takes e = let h = says_goes _ e in record { offer = h.0; chosen = h.1; there = choice_there h.1 }

  pub branch_takes : {n : ℕ} → Taken.Goes n ≡ branch_in (choice m s ws os) → Takes n
  branch_takes e = takes (says_taken (choice m s ws os) e)
