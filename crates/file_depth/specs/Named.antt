-- What the blocks of the code name, and how deep they nest. Assumes nothing.
use Rattle.std.specs.Prelude.{ℕ, List}
use Rattle.file_depth.specs.Deep.{depth_of, names_in, measured}
use Rattle.file_depth.specs.declared.Blocks.{Blocks}

abbrev pub names : Blocks → ℕ → List ℕ
names s = names_in s.first.now s.from.now s.goes.now

abbrev pub depths : Blocks → ℕ → ℕ
depths s = depth_of (names s) s.count

-- What a memo becomes when block b is measured.
abbrev pub depth_measured : Blocks → ℕ → List ℕ → List ℕ
depth_measured s = measured (names s) (depths s) s.count
