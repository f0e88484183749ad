-- What a record of a kind declares, and that it has the bytes for it. Assumes nothing.
use Rattle.std.specs.Prelude.{if◌then◌else◌}
use Prim.Native.Nat.{ℕ, ◌≤◌, ◌<◌}
use native.Mathlib.Omega.{arith}
use mathlib.Core.Path.{◌≡◌, refl}
use mathlib.Core.List.{List}
use mathlib.Core.Bool.{Bool, true, false, ◌||◌}
use lib.Dec.{eqb}
use borrow.Author.Tests.{eqb-true, eqb-false, eq-eqb, ne_eqb}
use lib.ListN.{length}
use Rattle.semantics.specs.Kinds as K
use Rattle.semantics.specs.Bytes.{u32, i32}
use Rattle.semantics.specs.Record.{row_of}
use Rattle.base_i32.specs.Code.{code}
use Rattle.file_index.specs.Index.{Judged}
use Rattle.file_index.proofs.Bodies.{head_at}
use Rattle.run_fresh.specs.Fresh.{amount_in}

head_1 : (row_of 1).head ≡ 4
unfolding row_of
head_1 = refl

head_2 : (row_of 2).head ≡ 4
unfolding row_of
head_2 = refl

head_4 : (row_of 4).head ≡ 4
unfolding row_of
head_4 = refl

head_7 : (row_of 7).head ≡ 6
unfolding row_of
head_7 = refl

head_8 : (row_of 8).head ≡ 12
unfolding row_of
head_8 = refl

module _ (k : ℕ) (bs : List ℕ) where
  pub var_there : Judged k bs → k ≡ K.VAR → 4 ≤ length bs
  var_there j = head_at j head_4

  pub entity_there : Judged k bs → k ≡ K.ENTITY → 6 ≤ length bs
  entity_there j = head_at j head_7

  pub sampler_there : Judged k bs → k ≡ K.SAMPLER → 12 ≤ length bs
  sampler_there j = head_at j head_8

  pub var_is : k ≡ K.VAR → amount_in k bs ≡ code (i32 bs 0)
  var_is e = rw (eq-eqb k K.VAR e)

  pub sampler_is : k ≡ K.SAMPLER → amount_in k bs ≡ u32 bs 8
  sampler_is e =
      rw (
        ne_eqb k K.VAR (λ x. omega arith),
        ne_eqb k K.RES (λ x. omega arith),
        ne_eqb k K.BIN (λ x. omega arith),
        eq-eqb k K.SAMPLER e,
      )

  -- A RES or a BIN.
  module _ (low : 1 ≤ k) (high : k < 3) where
    pub amount_there : Judged k bs → 4 ≤ length bs
    amount_there j = by (eqb k K.RES) refl
      where
        by : (t : Bool) → eqb k K.RES ≡ t → 4 ≤ length bs
        by true e = head_at j head_1 (eqb-true k K.RES e)
        by false e = let n = eqb-false k K.RES e in head_at j head_2 (omega arith)

    pub amount_is : amount_in k bs ≡ u32 bs 0
    amount_is = rw (ne_eqb k K.VAR (λ e. omega arith)) (by (eqb k K.RES) refl)
      where
        by : (t : Bool) → eqb k K.RES ≡ t
            → (if t || eqb k K.BIN then u32 bs 0 else if eqb k K.SAMPLER then u32 bs 8 else 0) ≡ u32 bs 0
        by true e = refl
        by false e = let n = eqb-false k K.RES e in rw (eq-eqb k K.BIN (omega arith))

  pub none_is : (k ≡ K.RES → ⊥) → (k ≡ K.BIN → ⊥) → (k ≡ K.VAR → ⊥) → (k ≡ K.SAMPLER → ⊥) → amount_in k bs ≡ 0
  none_is a b c d = rw (ne_eqb k K.RES a, ne_eqb k K.BIN b, ne_eqb k K.VAR c, ne_eqb k K.SAMPLER d)
