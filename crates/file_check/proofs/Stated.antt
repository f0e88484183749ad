-- A refusal's number is one of 1 to 10, and its place is not behind the file's bytes. Assumes nothing.
use Rattle.std.specs.Prelude.{if◌then◌else◌}
use mathlib.Core.Path.{◌≡◌, refl}
use mathlib.Core.List.{List, [], ◌∷◌}
use mathlib.Core.Bool.{Bool, true, false, ◌&&◌}
use Prim.Native.Nat.{ℕ, zero, suc, ◌+◌, ◌-◌, ◌≤◌}
use native.Mathlib.Omega.{arith}
use borrow.Author.Tests.{leb-true}
use lib.Dec.{eqb, leb, ltb}
use lib.ListN.{length, take, drop, length-drop}
use Rattle.semantics.specs.Words.{Outcome, ok, fails, Passed, passed}
use Rattle.semantics.specs.Numbers as No
use Rattle.semantics.specs.Bytes.{Raw, raw, torn, whole, spans, u16, cut, records_from}
use Rattle.semantics.specs.Model.{Model}
use Rattle.semantics.specs.Decode.{Checked, refused, accepted, judged, saw, first_pass, none_seen, named, opened, second_pass}
use Rattle.semantics.specs.Decode.{gather, depth, third_pass, if_accepted, decode}
use Rattle.promises.specs.Laws.{and-true}
use Rattle.file_check.proofs.Pass.{Number, Proper, fine, bad, judged_proper, named_proper}

-- RECORDS stand at places up to k.
abbrev pub Within : ℕ → List Raw → Type 0
Within k [] = Unit {0}
Within k (torn at ∷ rs) = (at ≤ k) × Within k rs
Within k (raw at kind bs ∷ rs) = (at ≤ k) × Within k rs

cut_within : (k n at : ℕ) (bs : List ℕ) → at + length bs ≤ k → Within k (cut n at bs)
unfolding cut
cut_within k zero at bs h = tt
cut_within k (suc n) at bs h =
    go (eqb (length bs) 0) (whole bs) refl (λ f. cut_within k n (at + spans bs) (drop (spans bs) bs)
    (omega (arith, f, length-drop (spans bs) bs)))
  where
    go : (e w : Bool) → whole bs ≡ w → (spans bs ≤ length bs → Within k (cut n (at + spans bs) (drop (spans bs) bs)))
        → Within k (if e then [] else if w
        then raw at (u16 bs 2) (take (spans bs - 4) (drop 4 bs)) ∷ cut n (at + spans bs) (drop (spans bs) bs) else torn at ∷ [])
    go true w q i = tt
    go false true q i =
        (omega arith, i (leb-true (spans bs) (length bs) (and-true (leb 2 (u16 bs 0)) _ q).1))
    go false false q i = (omega arith, tt)

pub records_within : (bs : List ℕ) → Within (length bs) (records_from 0 bs)
unfolding records_from
records_within bs = cut_within (length bs) (length bs) 0 bs (omega arith)

-- A REFUSAL so stated.
abbrev pub Stated : ℕ → {A : Type 0} → Checked A → Type 0
Stated k (refused n p) = Number n × (p ≤ k)
Stated k (accepted a) = Unit {0}

module _ (k : ℕ) where
  pub first_stated : (seen : List ℕ) (rs : List Raw) → Within k rs → Stated k (first_pass seen rs)
  unfolding first_pass
  first_stated seen [] w = tt
  first_stated seen (torn at ∷ rs) w = ((omega arith, omega arith), w.0)
  first_stated seen (raw at kind bs ∷ rs) w =
      go (judged seen kind bs) (judged_proper seen kind bs) (first_stated (saw seen kind) rs w.1)
    where
      go : (o : Outcome Passed) → Proper o → Stated k (first_pass (saw seen kind) rs)
          → Stated k {A = List ℕ} (elim o [ fails x ↦ refused x at | ok y ↦ first_pass (saw seen kind) rs ])
      go (ok passed) fine i = i
      go (fails n) (bad h) i = (h, w.0)

  pub second_stated : (n : List ℕ) (own : ℕ) (rs : List Raw) → Within k rs → Stated k (second_pass n own rs)
  unfolding second_pass
  second_stated n own [] w = tt
  second_stated n own (torn at ∷ rs) w = ((omega arith, omega arith), w.0)
  second_stated n own (raw at kind bs ∷ rs) w =
      go (named n own kind bs) (named_proper n own kind bs) (second_stated n (opened own kind) rs w.1)
    where
      go : (o : Outcome Passed) → Proper o → Stated k (second_pass n (opened own kind) rs)
          → Stated k {A = Passed} (elim o [ fails x ↦ refused x at | ok y ↦ second_pass n (opened own kind) rs ])
      go (ok passed) fine i = i
      go (fails x) (bad h) i = (h, w.0)

  third_stated : (m : Model) (rs : List Raw) → Within k rs → Stated k (third_pass m rs)
  unfolding third_pass
  third_stated m [] w = tt
  third_stated m (torn at ∷ rs) w = ((omega arith, omega arith), w.0)
  third_stated m (raw at kind bs ∷ rs) w =
      go (eqb kind 5 && ltb 8 (depth m (u16 bs 0))) (third_stated m rs w.1)
    where
      go : (b : Bool) → Stated k (third_pass m rs) → Stated k {A = Passed} (if b then refused No.DEEP at else third_pass m rs)
      go true i = ((omega arith, omega arith), w.0)
      go false i = i

  then_stated : {A B : Type 0} (p : Checked A) (f : A → Checked B) → Stated k p → ((a : A) → Stated k (f a))
      → Stated k (if_accepted p f)
  then_stated (refused n p) f h i = h
  then_stated (accepted a) f h i = i a

-- The places are below 65,536, for a file that is too long is refused at 0.
wider : {A : Type 0} (j k : ℕ) → j ≤ k → (p : Checked A) → Stated j p → Stated k p
wider j k h (refused n p) i = (i.0, omega (arith, i.1))
wider j k h (accepted a) i = tt

either_stated : {A : Type 0} (n : ℕ) (b : Bool) → leb n No.longest_file ≡ b → (p : Checked A) → Stated n p
    → Stated No.longest_file {A = A} (elim b [ false ↦ refused No.MANY 0 | true ↦ p ])
either_stated n false e p h = ((omega arith, omega arith), omega arith)
either_stated n true e p h = wider n No.longest_file (leb-true n No.longest_file e) p h

pub decode_stated : (bs : List ℕ) → Stated No.longest_file (decode bs)
unfolding decode
decode_stated bs =
    let rs : List Raw = records_from 0 bs in
    let w = records_within bs in
    either_stated (length bs) (leb (length bs) No.longest_file) refl _
    (then_stated (length bs) (first_pass none_seen rs) _ (first_stated (length bs) none_seen rs w) λ n.
    then_stated (length bs) (second_pass n 0 rs) _ (second_stated (length bs) n 0 rs w) λ x.
    then_stated (length bs) (third_pass (gather rs).model rs) _ (third_stated (length bs) (gather rs).model rs w) λ y. tt)
