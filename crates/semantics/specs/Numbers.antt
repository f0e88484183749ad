-- The numbers that document 01 gives, and document 02 as far as its requests have landed, by their names; the kinds of a record
-- are in Kinds.
-- Assumes nothing.
use Rattle.std.specs.Prelude.{ℕ, ℤ, negsuc}

-- 1 to 10 refuse a model.
abbrev pub SHORT : ℕ
SHORT = 1

abbrev pub KIND : ℕ
KIND = 2

abbrev pub PLACE : ℕ
PLACE = 3

abbrev pub MANY : ℕ
MANY = 4

abbrev pub SIZE : ℕ
SIZE = 5

abbrev pub VALUE : ℕ
VALUE = 6

abbrev pub TWICE : ℕ
TWICE = 7

abbrev pub NAME : ℕ
NAME = 8

abbrev pub ORDER : ℕ
ORDER = 9

abbrev pub DEEP : ℕ
DEEP = 10

-- 20 to 30 are faults.
abbrev pub STATE : ℕ
STATE = 20

abbrev pub SUM : ℕ
SUM = 21

abbrev pub BACK : ℕ
BACK = 22

abbrev pub LATE : ℕ
LATE = 23

abbrev pub HELD : ℕ
HELD = 24

abbrev pub OWNED : ℕ
OWNED = 25

abbrev pub OWING : ℕ
OWING = 26

abbrev pub FULL : ℕ
FULL = 27

abbrev pub BIN : ℕ
BIN = 28

abbrev pub NOTICES : ℕ
NOTICES = 29

abbrev pub JOURNAL : ℕ
JOURNAL = 30

-- The kinds of a journal line.
abbrev pub started : ℕ
started = 1

abbrev pub ended : ℕ
ended = 2

abbrev pub blocked : ℕ
blocked = 3

abbrev pub granted : ℕ
granted = 4

abbrev pub resource_returned : ℕ
resource_returned = 5

abbrev pub bin_returned : ℕ
bin_returned = 6

abbrev pub waiting_as_slave : ℕ
waiting_as_slave = 7

abbrev pub slave_freed : ℕ
slave_freed = 8

abbrev pub traced : ℕ
traced = 9

abbrev pub closed : ℕ
closed = 10

-- The value of a line of kind 3 whose process is barred; else it is the number of an item.
abbrev pub barred : ℤ
barred = negsuc 0

-- At most, of a model file: its bytes; each of RES, BIN, SYNC and VAR; samplers; CLASS, BLOCK, ENTITY; actions.
abbrev pub longest_file : ℕ
longest_file = 65_535

abbrev pub most_things : ℕ
most_things = 32

abbrev pub most_samplers : ℕ
most_samplers = 16

abbrev pub most_classes : ℕ
most_classes = 64

abbrev pub most_blocks : ℕ
most_blocks = 256

abbrev pub most_entities : ℕ
most_entities = 64

abbrev pub most_actions : ℕ
most_actions = 1_024

-- .. a total, an offset or an amount; the nodes of an expression; the items of a claim or of a START's list; the branches of a
-- TRY; the slaves that a PUTS frees; the blocks that nest.
abbrev pub top_amount : ℕ
top_amount = 1_000_000

abbrev pub most_nodes : ℕ
most_nodes = 16

abbrev pub most_items : ℕ
most_items = 4

abbrev pub most_branches : ℕ
most_branches = 4

abbrev pub most_slaves : ℕ
most_slaves = 64

abbrev pub deepest : ℕ
deepest = 8

-- .. the difference of a sampler's highest and lowest value, and a seed, which is at least 1 (document 02, One).
abbrev pub top_spread : ℕ
top_spread = 1_000_000

abbrev pub last_seed : ℕ
last_seed = 2_147_483_646

-- The lowest priority of a process, and that of a return notice.
abbrev pub lowest : ℤ
lowest = negsuc 9_999  -- -10,000

abbrev pub of_returns : ℤ
of_returns = negsuc 14_999  -- -15,000

-- Times go to 2,000,000,000, process numbers to 2,147,483,647, a bin to 1,000,000,000; there are 64 places, 64 returns may
-- wait, and a process has 8 locals. The bound is answered up to 4,294,967,295, and `plan` runs 1,000,000 steps.
abbrev pub latest : ℕ
latest = 2_000_000_000

abbrev pub last_number : ℕ
last_number = 2_147_483_647

abbrev pub full_bin : ℕ
full_bin = 1_000_000_000

abbrev pub places : ℕ
places = 64

abbrev pub returns : ℕ
returns = 64

abbrev pub locals : ℕ
locals = 8

abbrev pub largest_bound : ℕ
largest_bound = 4_294_967_295

abbrev pub plan_steps : ℕ
plan_steps = 1_000_000
