-- When a whole record stands at a place, and what the bytes there say. Assumes nothing.
use Rattle.std.specs.Prelude.{if◌then◌else◌}
use Prim.Native.Nat.{ℕ, ◌+◌, ◌≤◌, ◌<◌}
use native.Mathlib.Omega.{arith}
use borrow.Author.Tests.{leb-true, le-leb}
use mathlib.Core.Path.{◌≡◌, refl, ◌∙◌, ap}
use mathlib.Core.List.{List}
use mathlib.Core.Bool.{Bool, true, false, ◌&&◌}
use lib.Dec.{leb}
use lib.ListN.{length, drop, length-drop}
use lib.Seq.{get_or-drop}
use Rattle.semantics.specs.Bytes.{u16, spans, whole}
use Rattle.file_reader.specs.declared.Record.{Record}
use Rattle.file_reader.specs.Reads.{span_at, stands, none, record_at}

and_both : (t u : Bool) → (t && u) ≡ true → (t ≡ true) × (u ≡ true)
and_both true u e = (refl, e)
and_both false true e = (e, refl)
and_both false false e = (e, e)

torn_by : (bs : List ℕ) → (2 ≤ u16 bs 0 → spans bs ≤ length bs → ⊥) → whole bs ≡ false
torn_by bs h = go (leb 2 (u16 bs 0)) refl (leb (spans bs) (length bs)) refl
  where
    go : (t : Bool) → leb 2 (u16 bs 0) ≡ t → (u : Bool) → leb (spans bs) (length bs) ≡ u → (t && u) ≡ false
    go false e u f = refl
    go true e false f = refl
    go true e true f = absurd (h (leb-true 2 (u16 bs 0) e) (leb-true (spans bs) (length bs) f))

module _ (s : List ℕ) (at : ℕ) where
  -- The number k bytes behind the place.
  u16_behind : (k : ℕ) → u16 (drop at s) k ≡ u16 s (at + k)
  u16_behind k =
      let e : at + (k + 1) ≡ at + k + 1 = omega arith in rw (get_or-drop at s k 0, get_or-drop at s (k + 1) 0, e)

  u16_there : u16 (drop at s) 0 ≡ u16 s at
  u16_there = let e : at + 0 ≡ at = omega arith in u16_behind 0 ∙ ap (u16 s) e

  -- NO WHOLE RECORD stands there: too few bytes, its length is under 2, or it goes on beyond the end.
  pub none_short : length s < 4 + at → 0 ≡ span_at s at
  none_short h = rw (torn_by (drop at s) (λ l m. omega (arith, length-drop at s)))

  module _ {z : ℕ} (e : z ≡ 2 + u16 s at) where
    pub none_small : z < 4 → 0 ≡ span_at s at
    none_small h = rw (torn_by (drop at s) (λ l m. omega (arith, u16_there)))

    pub none_beyond : length s < at + z → 0 ≡ span_at s at
    none_beyond h = rw (torn_by (drop at s) (λ l m. omega (arith, u16_there, length-drop at s)))

    -- A WHOLE RECORD of z bytes.
    pub spanned : 4 ≤ z → at + z ≤ length s → z ≡ span_at s at
    spanned h l =
        let i : 2 ≤ u16 (drop at s) 0 = omega (arith, u16_there) in
        let j : spans (drop at s) ≤ length (drop at s) = omega (arith, u16_there, length-drop at s) in
        rw (le-leb _ _ i, le-leb _ _ j) (omega (arith, u16_there))

  -- WHAT THE SPAN SAYS.
  module _ {z : ℕ} (e : z ≡ span_at s at) where
    pub record_none : z ≡ 0 → none at ≡ record_at s at
    unfolding record_at
    record_none h = go (whole (drop at s)) e
      where
        go : (t : Bool) → z ≡ (if t then spans (drop at s) else 0) → none at ≡ (if t
            then stands (u16 (drop at s) 2) at (spans (drop at s)) else none at)
        go false f = refl
        go true f = absurd (omega arith)

    module _ (h : z ≡ 0 → ⊥) where
      is_whole : (whole (drop at s) ≡ true) × (z ≡ spans (drop at s))
      is_whole = go (whole (drop at s)) refl e
        where
          go : (t : Bool) → whole (drop at s) ≡ t → z ≡ (if t then spans (drop at s) else 0)
              → (whole (drop at s) ≡ true) × (z ≡ spans (drop at s))
          go true w f = (w, f)
          go false w f = absurd (h f)

      pub there : (4 ≤ z) × (at + z ≤ length s)
      there =
          let a = and_both (leb 2 (u16 (drop at s) 0)) _ is_whole.0 in
          let l = leb-true 2 (u16 (drop at s) 0) a.0 in
          let m = leb-true (spans (drop at s)) (length (drop at s)) a.1 in
          (omega (arith, is_whole.1), omega (arith, is_whole.1, length-drop at s))

      pub record_stands : (k : ℕ) → k ≡ u16 s (at + 2) → stands k at z ≡ record_at s at
      unfolding record_at
      record_stands k i = rw (is_whole.0, is_whole.1, i, u16_behind 2)

  -- FOR CALLERS that know that a whole record stands there.
  pub reads_whole : whole (drop at s) ≡ true → {x : Record} → x ≡ record_at s at
      → (x.kind ≡ u16 (drop at s) 2) × (x.next ≡ at + spans (drop at s))
  unfolding record_at
  reads_whole w e = let i : record_at s at ≡ stands (u16 (drop at s) 2) at (spans (drop at s)) = rw w in
      (ap (λ (y : Record). y.kind) (e ∙ i), ap (λ (y : Record). y.next) (e ∙ i))
