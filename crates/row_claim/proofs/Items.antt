-- One item held against the work: where what it asks for is looked up, and that the answer is the definition's. Assumes nothing.
use Prim.Native.Nat.{ℕ, zero, suc, ◌+◌, ◌≤◌, ◌<◌}
use native.Mathlib.Omega.{arith}
use mathlib.Core.Path.{◌≡◌, refl, ◌∙◌, ap}
use mathlib.Core.List.{List, [], ◌∷◌}
use mathlib.Core.Bool.{Bool}
use lib.Dec.{leb}
use lib.IntN.{ℤ, pos}
use lib.ListN.{length, get_or}
use Rattle.semantics.specs.Model.{Item, get, condition, resource, bin, sync}
use Rattle.semantics.specs.Bytes.{u8, u16, u32, i32}
use Rattle.semantics.specs.Record.{relation_of, item_of}
use Rattle.semantics.specs.Claim.{holds, item_met}
use Rattle.promises.specs.Laws.{all_get}
use Rattle.promises.specs.Fit.{ItemFit, I32}
use Rattle.base_numbers.specs.Row as Row
use Rattle.base_numbers.specs.Limit as Limit
use Rattle.base_i32.specs.Code.{code, value_of}
use Rattle.base_i32.specs.Laws.{value_of-code}
use Rattle.row_work.specs.Work.{work_of}
use Rattle.row_work.specs.Shown.{work_long, free_at, bins_at, globals_at, counts_at}
use Rattle.row_claim.specs.Items.{row_of, MeetingItem}

-- What is none of the first three kinds is a condition.
pub else_variables : (k : ℕ) → 2 < k → row_of k ≡ Row.GLOBALS
else_variables zero h = absurd (omega arith)
else_variables (suc zero) h = absurd (omega arith)
else_variables (suc (suc zero)) h = absurd (omega arith)
else_variables (suc (suc (suc k))) h = refl

module _ (i w : List ℕ) (d : MeetingItem i w) where
  pub is_long : length w ≡ Row.WORDS
  is_long = ap length d.shows ∙ work_long d.is d.sized

  -- The item, were k its kind: the item that it is has kind u8 i 0.
  abbrev of_kind : ℕ → Item
  of_kind k =
      get_or (get resource (u16 i 2) (u32 i 4) ∷ get bin (u16 i 2) (u32 i 4) ∷ get sync (u16 i 2) (u32 i 4) ∷ [])
      k
      (condition (u16 i 2) (relation_of (u8 i 1)) (i32 i 4))

  low : (k : ℕ) → ItemFit d.model (of_kind k) → u16 i 2 < Limit.THINGS
  low zero h = omega (arith, h.0, d.sized.free_few, d.declares.frees_many)
  low (suc zero) h = omega (arith, h.0, d.sized.bins_few, d.declares.bins_many)
  low (suc (suc zero)) h = omega (arith, h.0, d.sized.syncs_few, d.declares.syncs_many)
  low (suc (suc (suc k))) h = omega (arith, h.0, d.sized.globals_few, d.declares.vars_many)

  pub number_low : u16 i 2 < Limit.THINGS
  number_low = low (u8 i 0) d.fits

  -- What stands at its number in the row of its kind, as the work shows it.
  abbrev shown : ℕ → ℕ
  shown k = get_or (work_of d.is) (row_of k + u16 i 2) 0

  got : (k : ℕ) → k ≤ 2 → ItemFit d.model (of_kind k) → leb (u32 i 4) (shown k) ≡ item_met d.is (of_kind k)
  got zero l h = ap (leb (u32 i 4)) (free_at d.is d.sized (u16 i 2) (omega (arith, h.0, d.declares.frees_many)))
  got (suc zero) l h = ap (leb (u32 i 4)) (bins_at d.is d.sized (u16 i 2) (omega (arith, h.0, d.declares.bins_many)))
  got (suc (suc zero)) l h =
      ap (leb (u32 i 4)) (counts_at d.is d.sized (u16 i 2) (omega (arith, h.0, d.declares.syncs_many)))
  got (suc (suc (suc k))) l h = absurd (omega arith)

  pub is_got : u8 i 0 ≤ 2 → leb (u32 i 4) (get_or w (row_of (u8 i 0) + u16 i 2) 0) ≡ item_met d.is (item_of i)
  is_got l =
      ap (λ x. leb (u32 i 4) (get_or x (row_of (u8 i 0) + u16 i 2) 0)) d.shows ∙ got (u8 i 0) l d.fits

  -- Whether its relation holds between the numbers of two codes.
  abbrev compared : ℕ → ℕ → Bool
  compared x y = holds (relation_of (u8 i 1)) (value_of x) (value_of y)

  held : (k : ℕ) → 2 < k → ItemFit d.model (of_kind k) → compared (shown k) (code (i32 i 4)) ≡ item_met d.is (of_kind k)
  held zero l h = absurd (omega arith)
  held (suc zero) l h = absurd (omega arith)
  held (suc (suc zero)) l h = absurd (omega arith)
  held (suc (suc (suc k))) l h =
      let x : ℤ = get_or d.is.globals (u16 i 2) (pos 0) in
      let f : I32 x = all_get I32 d.is.globals (u16 i 2) (pos 0) d.sized.globals_ok (omega arith) in
      let g : shown (suc (suc (suc k))) ≡ code x =
      globals_at d.is d.sized (u16 i 2) (omega (arith, h.0, d.declares.vars_many)) in
      ap (λ y. compared y (code (i32 i 4))) g ∙ rw (value_of-code x f, value_of-code (i32 i 4) h.1)

  pub is_held : 2 < u8 i 0
      → compared (get_or w (row_of (u8 i 0) + u16 i 2) 0) (code (i32 i 4)) ≡ item_met d.is (item_of i)
  is_held l =
      ap (λ x. compared (get_or x (row_of (u8 i 0) + u16 i 2) 0) (code (i32 i 4))) d.shows ∙ held (u8 i 0) l d.fits
