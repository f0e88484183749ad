-- A reader that moves on from the first byte reads the records of the file, and no others. Assumes nothing.
use Rattle.std.specs.Prelude.{ℕ, zero, suc, ◌+◌, ◌-◌, ◌≡◌, refl, List, [], ◌∷◌, Bool, true, false, leb, eqb, length, take, drop, if◌then◌else◌}
use Rattle.std.proofs.Common.{arith, leb-true, leb-false, ne_eqb, length-drop, drop-drop}
use Rattle.semantics.specs.Bytes.{spans, whole, Raw, raw, torn, cut, records_from}
use Rattle.file_reader.specs.Reads.{record_at}
use Rattle.file_reader.specs.declared.Record.{Record}

-- The bytes of the record that stands at byte place `at`, behind its length and its kind, where the next one begins at n.
abbrev pub body_at : List ℕ → ℕ → ℕ → List ℕ
body_at bs at n = take (n - (at + 4)) (drop (at + 4) bs)

-- What is read from byte place `at` on, in n moves at most: up to the end, or to where no whole record stands.
unfoldable pub read_from : ℕ → List ℕ → ℕ → List Raw
read_from zero bs at = []
read_from (suc n) bs at =
    let x : Record = record_at bs at in
    if leb (length bs) at
    then []
    else if x.whole
    then raw at x.kind (body_at bs at x.next) ∷ read_from n bs x.next
    else torn at ∷ []

-- The end is where no byte is left.
at_end : (bs : List ℕ) (at : ℕ) → eqb (length (drop at bs)) 0 ≡ leb (length bs) at
at_end bs at = go (leb (length bs) at) refl
  where
    go : (t : Bool) → leb (length bs) at ≡ t → eqb (length (drop at bs)) 0 ≡ t
    go true e =
        let l = leb-true (length bs) at e in
        let z : length (drop at bs) ≡ 0 = omega (arith, length-drop at bs) in rw z
    go false e =
        let l = leb-false (length bs) at e in
        ne_eqb (length (drop at bs)) 0 (λ (z : length (drop at bs) ≡ 0). omega (arith, length-drop at bs))

read_cut : (n : ℕ) (bs : List ℕ) (at : ℕ) → read_from n bs at ≡ cut n at (drop at bs)
unfolding read_from cut record_at
read_cut zero bs at = refl
read_cut (suc n) bs at =
    go (leb (length bs) at) refl (whole (drop at bs)) refl (read_cut n bs (at + spans (drop at bs)))
  where
    go : (t : Bool) → leb (length bs) at ≡ t → (u : Bool) → whole (drop at bs) ≡ u
        → read_from n bs (at + spans (drop at bs)) ≡ cut n (at + spans (drop at bs)) (drop (at + spans (drop at bs)) bs)
        → read_from (suc n) bs at ≡ cut (suc n) at (drop at bs)
    go true e u w i = rw (at_end bs at, e)
    go false e false w i = rw (at_end bs at, e, w)
    go false e true w i =
        let z : ℕ = spans (drop at bs) in
        let j : at + z - (at + 4) ≡ z - 4 = omega arith in
        rw (at_end bs at, e, w, i, j, drop-drop 4 at bs, drop-drop z at bs)

-- For every file.
pub reads_records : (bs : List ℕ) → read_from (length bs) bs 0 ≡ records_from 0 bs
unfolding records_from
reads_records bs = read_cut (length bs) bs 0
