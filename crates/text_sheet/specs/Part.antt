-- A part of a row of bytes: so many from a place on.
-- Assumes nothing.
use Rattle.std.specs.Prelude.{ℕ, List, take, drop}

abbrev pub part : ℕ → ℕ → List ℕ → List ℕ
part start size xs = take size (drop start xs)
