-- How many there may be in a model, and how large, in the words of the code (module limit): the numbers of document 01.
-- Assumes nothing.
use Rattle.std.specs.Prelude.{ℕ, ◌+◌, ◌*◌}
use Rattle.semantics.specs.Numbers as No

-- RES, BIN, SYNC and VAR each; samplers; CLASS, BLOCK, actions, and branches of actions.
abbrev pub THINGS : ℕ
THINGS = No.most_things

abbrev pub SAMPLERS : ℕ
SAMPLERS = No.most_samplers

abbrev pub CLASSES : ℕ
CLASSES = No.most_classes

abbrev pub BLOCKS : ℕ
BLOCKS = No.most_blocks

abbrev pub ACTIONS : ℕ
ACTIONS = No.most_actions

abbrev pub BRANCHES : ℕ
BRANCHES = ACTIONS * No.most_branches

-- The amount of an item, a share, a total or an offset; the blocks that nest.
abbrev pub AMOUNT : ℕ
AMOUNT = No.top_amount

abbrev pub DEPTH : ℕ
DEPTH = No.deepest

-- A seed.
abbrev pub SEED : ℕ
SEED = No.last_seed

-- The lines that a step asks room for: it writes at most 65 (promises' `step_lines`). And the least bound that is OVER.
abbrev pub STEP_LINES : ℕ
STEP_LINES = 66

abbrev pub OVER : ℕ
OVER = No.largest_bound + 1
