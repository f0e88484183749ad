-- `file_claim::names` meets its contract: the tests are the definition's. Assumes nothing.
use Rattle.file_claim.proofs.names.Goals as goal

pub returns : goal.returns
returns c = rw (c.u8_at.ensures.0, c.u16_at.ensures.0)
