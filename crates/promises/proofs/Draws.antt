-- The generator, once for every seed and every sampler: a seed stays in its range, and a draw within lowest..highest.
-- Assumes nothing.
use Rattle.std.specs.Prelude.{ℕ, ◌≡◌, true, ℤ, pos, negsuc}
use native.Mathlib.Omega.{arith}
use Rattle.std.proofs.Common.{leb-true}
use Rattle.std.specs.Int.Signed.{le_z}
use Rattle.semantics.specs.Generator.{drawn}
use Rattle.promises.specs.Laws.{no_way}
use Rattle.promises.specs.Fit.{I32}
use Rattle.promises.specs.Draws.{Inside, draw_within}

between : (lo v hi : ℤ) → I32 lo → I32 hi → Inside lo hi v → I32 v
between lo (pos n) (pos h) a b i = let l = leb-true n h i.to_highest in omega arith
between lo (pos n) (negsuc h) a b i = no_way i.to_highest
between (pos l) (negsuc n) hi a b i = no_way i.from_lowest
between (negsuc l) (negsuc n) hi a b i = let m = leb-true n l i.from_lowest in omega arith

pub draw_ranged : (lo hi : ℤ) (n : ℕ) → I32 lo → I32 hi → le_z lo hi ≡ true → I32 (drawn lo hi n)
draw_ranged lo hi n a b e = between lo (drawn lo hi n) hi a b (draw_within lo hi n e)
