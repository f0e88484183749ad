-- `row_grant::read_item` meets its contract. Assumes nothing.
use Rattle.row_grant.proofs.read_item.Goals as goal

pub returns : goal.returns
returns c = rw (
  c.u8_at.ensures.0,
  c.index.ensures.0,
  c.u16_at.ensures.0,
  c.wide.ensures.0,
  c.u32_at.ensures,
)
