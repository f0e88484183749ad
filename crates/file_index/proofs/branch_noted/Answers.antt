-- `file_index::branch_noted` meets its contract: one number is written in each row. Assumes nothing.
use mathlib.Core.Path.{refl}
use Rattle.file_index.proofs.branch_noted.Goals as goal

pub returns : goal.returns
returns c = rw (c.names.ensures, c.names-2.ensures, c.names-3.ensures)
    (record {
      claim = record { next_is = refl; after_is = refl };
      resources = record { next_is = refl; after_is = refl };
      bins = record { next_is = refl; after_is = refl };
      syncs = record { next_is = refl; after_is = refl };
    })
