-- The seeds of the samplers in the work: they end it. Assumes nothing.
use Rattle.std.specs.Prelude.{ℕ, ◌≡◌, List, ◌++◌, length, take, drop}
use Rattle.std.proofs.Common.{arith, sym, ◌∙◌, ap, append-nil, length-drop, take_all}
use Rattle.std.proofs.Math.Seq.{drop-length}
use Rattle.semantics.specs.State.{State, with_seeds}
use Rattle.base_numbers.specs.Row as Row
use Rattle.base_numbers.specs.Limit as Limit
use Rattle.base_ordered.specs.Lines.{pad}
use Rattle.row_work.specs.Laid.{laid_part, laid_replaced}
use Rattle.row_work.specs.Work.{work_parts, work_widths, seeds_part, work_of, Sized}
use Rattle.row_work.specs.Shown.{work_wide, work_long}

-- Of any row that is as long as the work: nothing stands behind them.
module _ (w : List ℕ) (long : length w ≡ Row.WORDS) where
  so_many : length (drop Row.SEEDS w) ≡ Limit.SAMPLERS
  so_many = let b = length-drop Row.SEEDS w in omega arith

  pub seeds_end : take Limit.SAMPLERS (drop Row.SEEDS w) ≡ drop Row.SEEDS w
  seeds_end = take_all Limit.SAMPLERS (drop Row.SEEDS w) (omega (arith, so_many))

  pub seeds_instead : (d : List ℕ) → take Row.SEEDS w ++ (d ++ drop Limit.SAMPLERS (drop Row.SEEDS w)) ≡ take Row.SEEDS w ++ d
  seeds_instead d =
      ap (λ n. take Row.SEEDS w ++ (d ++ drop n (drop Row.SEEDS w))) (sym so_many)
      ∙ ap (λ l. take Row.SEEDS w ++ (d ++ l)) (drop-length (drop Row.SEEDS w))
      ∙ ap (λ l. take Row.SEEDS w ++ l) (append-nil d)

module _ (s : State) (h : Sized s) where
  replaced : (d : List ℕ)
      → take Row.SEEDS (work_of s) ++ (pad Limit.SAMPLERS d ++ drop Limit.SAMPLERS (drop Row.SEEDS (work_of s)))
      ≡ work_of (with_seeds s d)
  unfolding work_of
  replaced d = laid_replaced (work_parts s) work_widths (work_wide s h) seeds_part (pad Limit.SAMPLERS d) (omega arith)

  part : take Limit.SAMPLERS (drop Row.SEEDS (work_of s)) ≡ pad Limit.SAMPLERS s.seeds
  unfolding work_of
  part = laid_part (work_parts s) work_widths (work_wide s h) seeds_part (omega arith)

  -- They stand there; and others written make the state with those.
  pub seeds_part_lem : drop Row.SEEDS (work_of s) ≡ pad Limit.SAMPLERS s.seeds
  seeds_part_lem = sym (seeds_end (work_of s) (work_long s h)) ∙ part

  pub seeds_changed : (d : List ℕ) → take Row.SEEDS (work_of s) ++ pad Limit.SAMPLERS d ≡ work_of (with_seeds s d)
  seeds_changed d = sym (seeds_instead (work_of s) (work_long s h) (pad Limit.SAMPLERS d)) ∙ replaced d
