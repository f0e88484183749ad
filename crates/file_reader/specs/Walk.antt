-- A reader walks over the records of a file: what stands where it reads, and what is left where it moves on to. Assumes nothing.
use Prim.Native.Nat.{ℕ, zero, suc, ◌+◌, ◌-◌, ◌≤◌, ◌<◌}
use Rattle.std.proofs.Common.{arith, leb-true, eqb-true, ne_eqb, ◌∙◌, ap, drop-drop}
use Rattle.std.proofs.lemmas.Bool.{eqb-false}
use Rattle.std.proofs.Math.Path.{◌≡◌, refl, sym}
use mathlib.Core.List.{List, [], ◌∷◌}
use Rattle.std.specs.Prelude.{Bool, ◌&&◌, eqb, leb, take, drop, if◌then◌else◌}
use Rattle.std.proofs.Math.Bool.{true, false}
use Rattle.std.proofs.Math.ListN.{length, length-drop}
use Rattle.semantics.specs.Bytes.{Raw, raw, torn, cut, records_from, whole, spans, u16}
use Rattle.file_reader.specs.Reads.{stands, none, record_at}
use Rattle.file_reader.specs.Records.{body_at}
use Rattle.file_reader.specs.declared.Record.{Record}

-- CUTTING. Any number of steps from the number of bytes on cuts the same records.
cut_none : (n at : ℕ) (bs : List ℕ) → length bs ≡ 0 → cut n at bs ≡ []
unfolding cut
cut_none zero at bs h = refl
cut_none (suc n) at bs h = rw h

module _ (at : ℕ) (bs : List ℕ) (h : 0 < length bs) where
  cut-torn : (n : ℕ) → length bs ≤ n → whole bs ≡ false → cut n at bs ≡ torn at ∷ []
  unfolding cut
  cut-torn zero l w = absurd (omega arith)
  cut-torn (suc n) l w = rw (ne_eqb (length bs) 0 (λ (q : length bs ≡ 0). omega arith), w)

  cut-whole : (n : ℕ) → whole bs ≡ true →
      cut (suc n) at bs ≡ raw at (u16 bs 2) (take (spans bs - 4) (drop 4 bs)) ∷ cut n (at + spans bs) (drop (spans bs) bs)
  unfolding cut
  cut-whole n w = rw (ne_eqb (length bs) 0 (λ (q : length bs ≡ 0). omega arith), w)

enough : (n m at : ℕ) (bs : List ℕ) → length bs ≤ n → length bs ≤ m → cut n at bs ≡ cut m at bs
enough zero m at bs h k = cut_none zero at bs (omega arith) ∙ sym (cut_none m at bs (omega arith))
enough (suc n) zero at bs h k = cut_none (suc n) at bs (omega arith) ∙ sym (cut_none zero at bs (omega arith))
enough (suc n) (suc m) at bs h k =
    let z : ℕ = spans bs in
    go (eqb (length bs) 0) refl (whole bs) refl
    (λ l. enough n m (at + z) (drop z bs) (omega (arith, length-drop z bs)) (omega (arith, length-drop z bs)))
  where
    go : (t : Bool) → eqb (length bs) 0 ≡ t → (u : Bool) → whole bs ≡ u →
        (0 < length bs → cut n (at + spans bs) (drop (spans bs) bs) ≡ cut m (at + spans bs) (drop (spans bs) bs)) →
        cut (suc n) at bs ≡ cut (suc m) at bs
    go true e u w i =
        let l = eqb-true (length bs) 0 e in cut_none (suc n) at bs l ∙ sym (cut_none (suc m) at bs l)
    go false e true w i =
        let f = eqb-false (length bs) 0 e in
        let l : 0 < length bs = omega arith in
        cut-whole at bs l n w ∙ ap (λ rs. raw at (u16 bs 2) (take (spans bs - 4) (drop 4 bs)) ∷ rs) (i l)
        ∙ sym (cut-whole at bs l m w)
    go false e false w i =
        let f = eqb-false (length bs) 0 e in
        let l : 0 < length bs = omega arith in
        cut-torn at bs l (suc n) h w ∙ sym (cut-torn at bs l (suc m) k w)

pub records_none : (at : ℕ) (bs : List ℕ) → length bs ≡ 0 → records_from at bs ≡ []
unfolding records_from
records_none at bs h = cut_none (length bs) at bs h

pub records_torn : (at : ℕ) (bs : List ℕ) → 0 < length bs → whole bs ≡ false → records_from at bs ≡ torn at ∷ []
unfolding records_from
records_torn at bs h w = cut-torn at bs h (length bs) (omega arith) w

pub records_whole : (at : ℕ) (bs : List ℕ) → 0 < length bs → whole bs ≡ true →
    records_from at bs
    ≡ raw at (u16 bs 2) (take (spans bs - 4) (drop 4 bs)) ∷ records_from (at + spans bs) (drop (spans bs) bs)
unfolding records_from
records_whole at bs h w =
    enough (length bs) (suc (length bs)) at bs (omega arith) (omega arith)
    ∙ cut-whole at bs h (length bs) w
    ∙ ap (λ rs. raw at (u16 bs 2) (take (spans bs - 4) (drop 4 bs)) ∷ rs)
    (enough (length bs) (length (drop (spans bs) bs)) (at + spans bs) (drop (spans bs) bs)
    (omega (arith, length-drop (spans bs) bs)) (omega arith))

-- THE RECORDS from byte place `at` on. From the first byte on they are all of the file's, and behind the last there are none.
abbrev pub onward : List ℕ → ℕ → List Raw
onward bs at = records_from at (drop at bs)

pub onward_first : (bs : List ℕ) → onward bs 0 ≡ records_from 0 bs
onward_first bs = refl

pub onward_ends : (bs : List ℕ) (at : ℕ) → length bs ≤ at → onward bs at ≡ []
onward_ends bs at h = records_none at (drop at bs) (omega (arith, length-drop at bs))

-- A record of kind k stands at byte place `at`, and the next one at n.
pub record Step (bs : List ℕ) (at k n : ℕ) : Type 0 where
  pub far : at + 4 ≤ n
  pub within : n ≤ length bs
  pub here : onward bs at ≡ raw at k (body_at bs at n) ∷ onward bs n

both : (t u : Bool) → (t && u) ≡ true → (t ≡ true) × (u ≡ true)
both true u e = (refl, e)
both false true e = (e, refl)
both false false e = (e, e)

step_by : (bs : List ℕ) (at : ℕ) → at < length bs → whole (drop at bs) ≡ true
    → Step bs at (u16 (drop at bs) 2) (at + spans (drop at bs))
step_by bs at h w =
    let z : ℕ = spans (drop at bs) in
    let a = both (leb 2 (u16 (drop at bs) 0)) _ w in
    let l = leb-true 2 (u16 (drop at bs) 0) a.0 in
    let m = leb-true (spans (drop at bs)) (length (drop at bs)) a.1 in
    let j : at + z - (at + 4) ≡ z - 4 = omega arith in
    record {
      far = omega arith;
      within = omega (arith, length-drop at bs);
      here = rw (j, ← drop-drop 4 at bs, ← drop-drop z at bs)
          (records_whole at (drop at bs) (omega (arith, length-drop at bs)) w);
    }

-- WHAT THE READER READS where a byte is left: a record, behind which it moves on; or the bytes end inside one.
module _ (bs : List ℕ) (at : ℕ) (h : at < length bs) {x : Record} (e : x ≡ record_at bs at) where
  pub reads_torn : x.whole ≡ false → onward bs at ≡ torn at ∷ []
  unfolding record_at
  reads_torn f = go (whole (drop at bs)) refl e
    where
      go : (t : Bool) → whole (drop at bs) ≡ t
          → x ≡ (if t then stands (u16 (drop at bs) 2) at (spans (drop at bs)) else none at)
          → onward bs at ≡ torn at ∷ []
      go true w i = let z : true ≡ false = sym (ap (λ (y : Record). y.whole) i) ∙ f in
          let y : ◌≡◌ {A = ℕ} 0 1 = cc in absurd (omega arith)
      go false w i = records_torn at (drop at bs) (omega (arith, length-drop at bs)) w

  pub reads_step : x.whole ≡ true → {n : ℕ} → n ≡ (record_at bs at).next → Step bs at x.kind n
  unfolding record_at
  reads_step f {n} j = go (whole (drop at bs)) refl e j
    where
      go : (t : Bool) → whole (drop at bs) ≡ t
          → x ≡ (if t then stands (u16 (drop at bs) 2) at (spans (drop at bs)) else none at)
          → n ≡ (if t then stands (u16 (drop at bs) 2) at (spans (drop at bs)) else none at).next
          → Step bs at x.kind n
      go true w i m = rw (m, i) (step_by bs at h w)
      go false w i m = let z : false ≡ true = sym (ap (λ (y : Record). y.whole) i) ∙ f in
          let y : ◌≡◌ {A = ℕ} 0 1 = cc in absurd (omega arith)
