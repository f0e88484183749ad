-- One record of the first pass and of the second, where a reader stands in the file. Assumes nothing.
use mathlib.Core.Path.{◌≡◌, refl, sym, ◌∙◌, ap}
use mathlib.Core.List.{List, []}
use mathlib.Core.Bool.{Bool, true, false}
use Prim.Native.Nat.{ℕ, ◌≤◌, ◌<◌}
use native.Mathlib.Omega.{arith}
use lib.ListN.{length, get_or}
use Rattle.semantics.specs.Words.{Outcome, ok, fails, Passed, passed, need, ◌>>◌}
use Rattle.semantics.specs.Numbers as No
use Rattle.semantics.specs.Record.{row_of, body_judged}
use Rattle.semantics.specs.Decode.{refused, accepted, judged, saw, first_pass, named, opened, second_pass}
use Rattle.file_reader.specs.Reads.{record_at}
use Rattle.file_reader.specs.Records.{body_at}
use Rattle.file_reader.specs.Walk.{onward, onward_ends, Step, reads_torn}
use Rattle.file_reader.specs.declared.Record.{Record}
use Rattle.file_check_record.specs.Rows.{Judged}
use Rattle.file_check_record.specs.Refused.{number_of, outcome_of}
use Rattle.file_check_record.specs.declared.Refusal.{Refusal}
use Rattle.file_check.specs.declared.Refused.{Refused}
use Rattle.std.specs.Prelude.{Result, Ok, Err, is_ok, MatchResult}
use Rattle.file_index.specs.Index as I
use Rattle.file_index.proofs.Records.{sized_by, passed_on}

-- THE NUMBER of an outcome tells whether it is one.
abbrev pub Number : ℕ → Type 0
Number n = (0 < n) × (n ≤ No.DEEP)

pub data Proper : Outcome Passed → Type 0 where
  fine : Proper (ok passed)
  bad : {n : ℕ} → Number n → Proper (fails n)

need_proper : (n : ℕ) (b : Bool) → Number n → Proper (need n b)
unfolding need
need_proper n true h = fine
need_proper n false h = bad h

then_proper : {a b : Outcome Passed} → Proper a → Proper b → Proper (a >> b)
unfolding ◌>>◌
then_proper fine q = q
then_proper (bad h) q = bad h

pub judged_proper : (seen : List ℕ) (k : ℕ) (bs : List ℕ) → Proper (judged seen k bs)
unfolding judged body_judged
judged_proper seen k bs =
    then_proper (need_proper 2 _ (omega arith, omega arith)) (then_proper (need_proper 3 _ (omega arith, omega arith))
    (then_proper (need_proper 4 _ (omega arith, omega arith)) (then_proper (need_proper 5 _ (omega arith, omega arith))
    (then_proper (need_proper 6 _ (omega arith, omega arith)) (need_proper 7 _ (omega arith, omega arith))))))

pub named_proper : (n : List ℕ) (own k : ℕ) (bs : List ℕ) → Proper (named n own k bs)
unfolding named
named_proper n own k bs =
    then_proper (need_proper 8 _ (omega arith, omega arith)) (need_proper 9 _ (omega arith, omega arith))

-- THE FIRST PASS from byte place `at` of the file s on.
pub first_torn : (s : List ℕ) (at : ℕ) (seen : List ℕ) → at < length s → {x : Record} → x ≡ record_at s at → x.whole ≡ false
    → first_pass seen (onward s at) ≡ refused No.SHORT at
unfolding first_pass
first_torn s at seen h e w = rw (reads_torn s at h e w)

pub first_ends : (s : List ℕ) (at : ℕ) (seen : List ℕ) → length s ≤ at → first_pass seen (onward s at) ≡ accepted seen
unfolding first_pass
first_ends s at seen h = rw (onward_ends s at h)

-- A record that passes is not one too many.
pub passes_few : (seen : List ℕ) (k : ℕ) (bs : List ℕ) → ok passed ≡ judged seen k bs → get_or seen (row_of k).group 0
    < (row_of k).most
unfolding first_pass
passes_few seen k bs e = (passed_on 0 k bs [] seen (saw seen k) (rw (first_pass, ← e) refl)).0.roomy

pub second_ends : (s : List ℕ) (at : ℕ) (n : List ℕ) (own : ℕ) → length s ≤ at → second_pass n own (onward s at) ≡ accepted passed
unfolding second_pass
second_ends s at n own h = rw (onward_ends s at h)

-- What the second pass asks of a record that the first has accepted.
pub sized_on : {k : ℕ} {bs : List ℕ} → I.Judged k bs → Judged (row_of k) bs
sized_on {k} {bs} j = let y = sized_by (row_of k) bs j.body_judged in
    record { head_in = y.head_there; tail_sized = y.tail_sized }

-- A RECORD IS JUDGED, with the answer r; a refusal y is told with the place where the record stands.
abbrev refused_at : Refusal → ℕ → Refused
refused_at r p = record { refusal = r; place = p }

module _ {o : Outcome Passed} (r : Result (Unit {0}) Refusal) (e : outcome_of r ≡ o) where
  pub passes : true ≡ is_ok r → ok passed ≡ o
  passes h = go r e h
    where
      go : (r : Result (Unit {0}) Refusal) → outcome_of r ≡ o → true ≡ is_ok r → ok passed ≡ o
      go (Ok a) e h = e
      go (Err x) e h = let z : ◌≡◌ {A = ℕ} 0 1 = cc in absurd (omega arith)

  pub fails_at : {P : Refusal → Type 0} (at : ℕ) (y : Refused) → ((x : Refusal) → P x → y ≡ refused_at x at)
      → MatchResult r (λ x. ◌≡◌ {A = Result (Unit {0}) Refused} (Err y) (Ok x)) P
      → (fails (number_of y.refusal) ≡ o) × (y.place ≡ at)
  fails_at {P} at y k h = go r e h
    where
      go : (r : Result (Unit {0}) Refusal) → outcome_of r ≡ o
          → MatchResult r (λ x. ◌≡◌ {A = Result (Unit {0}) Refused} (Err y) (Ok x)) P
          → (fails (number_of y.refusal) ≡ o) × (y.place ≡ at)
      go (Ok a) e h = let z : ◌≡◌ {A = ℕ} 0 1 = cc in absurd (omega arith)
      go (Err x) e h = (ap (λ z. fails (number_of z.refusal)) (k x h) ∙ e, ap (λ z. z.place) (k x h))

-- A RECORD of kind k stands at byte place `at`, and the next one at n: what the first pass says of it, and the second, behind
-- `own` BLOCKs.
module _ {s : List ℕ} {at k n : ℕ} (p : Step s at k n) where
  module _ (seen : List ℕ) where
    pub first_refused : (x : ℕ) → fails x ≡ judged seen k (body_at s at n) → first_pass seen (onward s at) ≡ refused x at
    unfolding first_pass
    first_refused x e = rw (p.here, first_pass, ← e) refl

    pub first_goes : ok passed ≡ judged seen k (body_at s at n) → first_pass seen (onward s at)
        ≡ first_pass (saw seen k) (onward s n)
    unfolding first_pass
    first_goes e = rw (p.here, first_pass, ← e) refl

  module _ (m : List ℕ) (own : ℕ) where
    pub second_refused : (x : ℕ) → fails x ≡ named m own k (body_at s at n) → second_pass m own (onward s at) ≡ refused x at
    unfolding second_pass
    second_refused x e = rw (p.here, second_pass, ← e) refl

    pub second_goes : ok passed ≡ named m own k (body_at s at n) → second_pass m own (onward s at)
        ≡ second_pass m (opened own k) (onward s n)
    unfolding second_pass
    second_goes e = rw (p.here, second_pass, ← e) refl
