-- Lines written into lent bytes one after the other. Assumes nothing.
use Rattle.std.specs.Prelude.{List, [], ◌∷◌, ℕ, ◌+◌, ◌*◌}
use Rattle.std.proofs.lemmas.List.Edits.{sets}
use Rattle.semantics.specs.Walk.{Line}
use Rattle.semantics.specs.Journal.{line_bytes}
use Rattle.base_numbers.specs.Line as Line

-- From line n on.
unfoldable pub wrote_at : ℕ → List Line → List ℕ → List ℕ
wrote_at n [] bs = bs
wrote_at n (l ∷ ls) bs = wrote_at (n + 1) ls (sets bs (Line.BYTES * n) (line_bytes l))
