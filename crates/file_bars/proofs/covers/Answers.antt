-- `file_bars::covers` meets its contract: by amounts where all bits are the same, else by the bits. Assumes nothing.
use Rattle.file_bars.proofs.Branches.{by_amounts, by_bits}
use Rattle.file_bars.proofs.covers.Goals as goal

pub smaller_amounts-requires : goal.smaller_amounts-requires
smaller_amounts-requires c = let p = c.requires.1 in
    rw (c.claim_at-of.ensures, c.claim_at-by.ensures) (p.1.1, p.0.1)

pub returns-then-part-whole : goal.returns-then-part-whole
returns-then-part-whole c = let a = c.args in
    by_amounts a.s.now a.map.now a.m a.n _ _ _ _ c.named_at-x.ensures
    c.named_at-y.ensures c.within-part.ensures c.within-whole.ensures
    c.if-part-whole.true _ _ c.claim_at-of.ensures c.claim_at-by.ensures
    _ c.smaller_amounts.ensures

pub returns : goal.returns
returns c = let a = c.args in
    by_bits a.s.now a.map.now a.m a.n _ _ _ _ c.named_at-x.ensures
    c.named_at-y.ensures c.within-part.ensures c.within-whole.ensures
    c.if-part-whole.false _ c.names_nothing.ensures
