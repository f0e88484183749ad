-- `try_shifts::one_shift` meets its contract: its lines fit into the journal and the text. Assumes nothing.
use Rattle.std.proofs.Common.{◌≡◌, length, rules, arith}
use Rattle.run_lent.specs.Moves.{few_steps, few_lines}
use Rattle.try_shifts.proofs.one_shift.Goals as goal

pub lines-requires : goal.lines-requires
lines-requires g c = let few = few_lines _ _ _ _ c.moved_on-moved.ensures.0.tells in
    let same : length c.moved_on-moved.new.journal ≡ length c.args.journal.now = search rules in (
      search rules,
      (omega (arith, few, same), omega (arith, few, c.requires)),
    )

pub returns : goal.returns
returns g c = few_steps _ _ _ _ c.moved_on-moved.ensures.0.tells
