-- The numbered actions that the code's actions are. Assumes nothing.
use Rattle.file_weight.specs.Weigh.{Acts, acts_in}
use Rattle.file_weight.specs.declared.Actions.{Actions}

abbrev pub acts : Actions → Acts
acts s = acts_in s.blocks.first.now s.blocks.from.now s.blocks.goes.now s.own.now s.times.now
