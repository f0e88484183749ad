-- How numbers are packed into one word, in the words of the code (module word): a name in the plural is how many a part can tell
-- apart, one in the singular what one more of a part adds to the word.
-- Assumes nothing.
use Rattle.std.specs.Prelude.{ℕ, ◌*◌}

-- A block that a process is in: the block, the index of the action where it stands in it, the rounds left.
abbrev pub BLOCKS : ℕ
BLOCKS = 65_536

abbrev pub ACTIONS : ℕ
ACTIONS = 65_536

abbrev pub ACTION : ℕ
ACTION = BLOCKS

abbrev pub ROUND : ℕ
ROUND = BLOCKS * ACTIONS

abbrev pub ROUNDS : ℕ
ROUNDS = 65_536

-- One that waits and a slave: the place, and then the key by which it waits, or its sync.
abbrev pub PLACES : ℕ
PLACES = 64

abbrev pub KEY : ℕ
KEY = PLACES

abbrev pub SYNC : ℕ
SYNC = PLACES

-- What an event does: the kind of the notice, its number, an amount, a giver.
abbrev pub KINDS : ℕ
KINDS = 4

abbrev pub NUMBERS : ℕ
NUMBERS = 64

abbrev pub AMOUNTS : ℕ
AMOUNTS = 1_048_576

abbrev pub GIVERS : ℕ
GIVERS = 2_147_483_648

abbrev pub AMOUNT : ℕ
AMOUNT = KINDS * NUMBERS

abbrev pub GIVER : ℕ
GIVER = AMOUNT * AMOUNTS

-- The key of an event: how far its rank, the code of a priority, is below the highest, and its time.
abbrev pub RANKS : ℕ
RANKS = 4_294_967_296

abbrev pub TIME : ℕ
TIME = RANKS
