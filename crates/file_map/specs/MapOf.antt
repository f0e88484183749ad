-- The map that the records of a file make.
-- Assumes nothing.
use Rattle.std.specs.Prelude.{List, [], ◌∷◌, ℕ}
use Rattle.semantics.specs.Words.{collect}
use Rattle.semantics.specs.Bytes.{Raw}
use Rattle.file_index.specs.Index.{index_of, samplers_of}
use Rattle.file_index.specs.Branches.{branches_of}
use Rattle.file_index.specs.declared.Index.{Index}
use Rattle.file_index.specs.declared.Branches.{Branches}
use Rattle.file_index.specs.declared.Samplers.{Samplers}

-- The arrays of the index, of the branches and of the samplers: what is not used of them is 0, so that each begins at a place of
-- its own.
abbrev pub rows_of : Index → Branches → Samplers → List (List ℕ)
rows_of i r d =
    i.first ∷ i.place ∷ i.body ∷ r.from ∷ r.claim ∷ r.resources ∷ r.bins ∷ r.syncs ∷ d.lowest ∷ d.values ∷ []

-- They stand one behind the other.
unfoldable pub map_of : List Raw → List ℕ
map_of rs = collect (λ row. row) (rows_of (index_of rs) (branches_of rs) (samplers_of rs))
