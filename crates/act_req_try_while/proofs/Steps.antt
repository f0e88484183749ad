-- What the definitions make of a REQ, a TRY and a WHILE, where a branch was taken and where none was. Assumes nothing.
use Prim.Native.Nat.{ℕ}
use native.Mathlib.Omega.{arith}
use mathlib.Core.Path.{◌≡◌, refl, sym, subst, ◌∙◌, ap}
use mathlib.Core.List.{List, [], ◌∷◌}
use mathlib.Core.Bool.{Bool}
use lib.IntN.{pos}
use Rattle.semantics.specs.Words.{Outcome, ok}
use Rattle.semantics.specs.Numbers as No
use Rattle.semantics.specs.Model.{Action}
use Rattle.semantics.specs.State.{empty, put, past, join, with_floor, with_blocked}
use Rattle.semantics.specs.Claim.{Reason, is_barred, first_lacks, Choice, waits, goes, reason_said, grant}
use Rattle.semantics.specs.Walk.{Next, line, quiet, after}
use Rattle.semantics.specs.Step.{in_front, request, while}
use Rattle.promises.specs.Fit.{ActFit}
use Rattle.promises.specs.Takes.{choice_has}
use Rattle.promises.specs.Reasons.{WaitValue, item_few}
use Rattle.promises.proofs.Reasons.{WhyWaits, req_why, try_why}
use Rattle.base_i32.specs.Code.{code, value_of}
use Rattle.base_i32.specs.Laws.{value_of-code}
use Rattle.base_journal.specs.Wrote.{wrote_at}
use Rattle.row_work.specs.Work.{work_of}
use Rattle.row_claim.specs.Choices.{reason_in, choice_in, says_waits}
use Rattle.row_claim.specs.declared.Reason.{Reason as ReasonAnswer}
use Rattle.row_claim.specs.declared.Choice.{Choice as Answer}
use Rattle.row_claim.specs.declared.Choice.TheVariants.{Waits, Goes}
use Rattle.act_floor.specs.Acting.{Stepped}
use Rattle.act_floor.specs.Onward.{action_fits}
use Rattle.act_req_try_while.specs.Asks.{Asked, model, state, who, taken, Requests, passes, enters, Comes, Branched}
use Rattle.act_req_try_while.specs.Asks.{Few, code_said}
use Rattle.act_req_try_while.proofs.Floor.{here}

module _ {bs map w : List ℕ} {p a : ℕ} {x : Action} (v : Asked bs map w p a x) {r : Answer} {w₁ : List ℕ} {at : ℕ}
    {out out₁ : List ℕ} (b : Branched (taken v) r p (state v) w w₁ at out out₁) where
  abbrev As : Choice → Type 0
  As c = Comes c p (state v) w w₁ at out out₁

  -- A BRANCH was taken.
  module _ {n : ℕ} (e : r ≡ Goes n) where
    abbrev One : Outcome Next → Type 0
    One o = Stepped o 0 1 w w₁ at out out₁

    taken_one : (z : Reason → Outcome Next)
        → One (elim (taken v) [
          | waits y ↦ z y
          | goes i o ↦ ok (after (line (state v) (who v).number No.granted (pos i)) (quiet (grant p o (state v))))
        ])
    taken_one z =
        choice_has One (taken v) (λ y g. not_both y (sym e ∙ b.answers ∙ ap choice_in g))
        (λ i o g. (refl, (refl, subst As g b.comes)))
      where
        not_both : {A : Type 0} (y : Reason) → Goes n ≡ Waits (reason_in y) → A
        not_both y d = let u : ◌≡◌ {A = ℕ} 0 1 = cc in absurd (omega arith)

    pub request_taken : One (request (model v) (state v) p x)
    unfolding request
    request_taken = taken_one _

    pub while_taken : One (while (model v) (state v) p x)
    unfolding while
    while_taken = taken_one _

  -- IT WAITS, and all is as it was: it is blocked, or passes on.
  module _ {y : ReasonAnswer} (e : r ≡ Waits y) where
    why : (z : Reason) × ((taken v ≡ waits z) × (y ≡ reason_in z))
    why = says_waits (taken v) (sym e ∙ b.answers)

    kept : (w₁ ≡ w) × (out₁ ≡ out)
    kept = subst As why.1.0 b.comes

    pub still_shows : w₁ ≡ work_of (state v)
    still_shows = kept.0 ∙ v.acting.running.run.shows

    pub same_out : out₁ ≡ out
    same_out = kept.1

    -- The number of an item is one of four, and what is said of it fits.
    module _ {into : Bool} (k : Requests into x) where
      pub few_items : Few y
      few_items =
          subst Few (sym why.1.1) (small why.0 (explained k (action_fits (here v)) why.0 why.1.0).in_range)
        where
          explained : {b : Bool} {x : Action} → Requests b x → ActFit (model v) x
              → WhyWaits (model v) (state v) (in_front (model v) (state v) p) x
          explained (passes {c}) = req_why (model v) (state v) (in_front (model v) (state v) p) c
          explained (enters {bs}) = try_why (model v) (state v) (in_front (model v) (state v) p) bs

          small : (z : Reason) → WaitValue (reason_said z) → Few (reason_in z)
          small is_barred h = tt
          small (first_lacks n) h = item_few n h

      said_is : (z : Reason) → Few (reason_in z) → value_of (code_said (reason_in z)) ≡ reason_said z
      unfolding code
      said_is is_barred h = value_of-code No.barred (omega arith)
      said_is (first_lacks n) h = value_of-code (pos n) (omega arith)

      pub request-blocked : {w₂ : List ℕ}
          → w₂ ≡ work_of (with_blocked (with_floor (state v) empty) (join (state v) p (state v).blocked)) → {c : ℕ}
          → c ≡ code_said y → {out₂ : List ℕ}
          → out₂ ≡ wrote_at at (line (state v) (who v).number No.blocked (value_of c) ∷ []) out₁
          → Stepped (request (model v) (state v) p x) 0 1 w w₂ at out out₂
      unfolding request
      request-blocked f {c} h g =
          let z : Reason = why.0 in
          let d : value_of c ≡ reason_said z =
          ap value_of (h ∙ ap code_said why.1.1) ∙ said_is z (subst Few why.1.1 few_items) in
          let u =
          g
          ∙ ap (wrote_at at (line (state v) (who v).number No.blocked (value_of c) ∷ [])) same_out
          ∙ ap (λ i. wrote_at at (line (state v) (who v).number No.blocked i ∷ []) out) d in
          rw (Stepped, why.1.0) (refl, (refl, (f, u)))

    pub while_passed : {w₂ : List ℕ} → w₂ ≡ work_of (put p (past (who v)) (state v))
        → Stepped (while (model v) (state v) p x) 0 0 w w₂ at out out₁
    unfolding while wrote_at
    while_passed f = rw (Stepped, why.1.0) (refl, (refl, (f, same_out)))
