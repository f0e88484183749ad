-- `file_reader::span_at` meets its contract. Assumes nothing.
use Prim.Native.Nat.{◌+◌}
use native.Mathlib.Omega.{arith}
use mathlib.Core.Path.{ap}
use Rattle.file_reader.proofs.Places.{none_short, none_small, none_beyond, spanned}
use Rattle.file_reader.proofs.span_at.Goals as goal

pub returns-then-s-lt4 : goal.returns-then-s-lt4
returns-then-s-lt4 c = let a = c.args in none_short a.s.now a.at (omega arith)

pub returns-then-s-at : goal.returns-then-s-at
returns-then-s-at c = let a = c.args in none_short a.s.now a.at (omega arith)

pub returns-then-size-lt4 : goal.returns-then-size-lt4
returns-then-size-lt4 c = let a = c.args in
    none_small a.s.now a.at (ap (λ n. 2 + n) c.u16_at.ensures.0) (omega arith)

pub returns-then-s-at-2 : goal.returns-then-s-at-2
returns-then-s-at-2 c = let a = c.args in
    none_beyond a.s.now a.at (ap (λ n. 2 + n) c.u16_at.ensures.0) (omega arith)

pub returns : goal.returns
returns c = let a = c.args in
    spanned a.s.now a.at (ap (λ n. 2 + n) c.u16_at.ensures.0) (omega arith) (omega arith)
