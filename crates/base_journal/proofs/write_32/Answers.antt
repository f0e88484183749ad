-- `base_journal::write_32` meets its contract. Assumes nothing.
use mathlib.Core.Path.{◌∙◌, ap}
use Prim.Native.Nat.{◌/◌}
use lib.Seq.{sets}
use Rattle.semantics.specs.Journal.{le16}
use Rattle.base_numbers.specs.Byte as Byte
use Rattle.base_journal.proofs.Stores.{stored_on, halves}
use Rattle.base_journal.proofs.write_32.Goals as goal

pub returns : goal.returns
returns c = let a = c.args in
    stored_on a.out.now a.at (le16 a.n) (le16 (a.n / Byte.TWO)) c.write_16.ensures c.write_16-2.ensures
    ∙ ap (λ vs. sets a.out.now a.at vs) (halves a.n)
