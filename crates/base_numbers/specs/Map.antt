-- The map of a model: where each part begins, in the words of the code (module map).
-- Assumes nothing.
use Rattle.std.specs.Prelude.{ℕ, ◌+◌}
use Rattle.base_numbers.specs.Limit as Limit

-- Actions before each block, the place of each action, the body of each class, branches before each action.
abbrev pub FIRST : ℕ
FIRST = 0

abbrev pub PLACE : ℕ
PLACE = FIRST + Limit.BLOCKS + 1

abbrev pub BODY : ℕ
BODY = PLACE + Limit.ACTIONS

abbrev pub FROM : ℕ
FROM = BODY + Limit.CLASSES

-- Of each branch: the place of its claim, and the resources, bins and syncs that it names, as bits.
abbrev pub CLAIM : ℕ
CLAIM = FROM + Limit.ACTIONS + 1

abbrev pub RESOURCES : ℕ
RESOURCES = CLAIM + Limit.BRANCHES

abbrev pub BINS : ℕ
BINS = RESOURCES + Limit.BRANCHES

abbrev pub SYNCS : ℕ
SYNCS = BINS + Limit.BRANCHES

-- Of each sampler: the code of its lowest value, and how many values it has; and the end.
abbrev pub LOWEST : ℕ
LOWEST = SYNCS + Limit.BRANCHES

abbrev pub VALUES : ℕ
VALUES = LOWEST + Limit.SAMPLERS

abbrev pub WORDS : ℕ
WORDS = VALUES + Limit.SAMPLERS
