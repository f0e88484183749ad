-- The work, a row of numbers that shows the state of a run: where each part begins, in the words of the code (module row).
-- Assumes nothing.
use Rattle.std.specs.Prelude.{ℕ, ◌+◌, ◌*◌}
use Rattle.semantics.specs.Numbers as No
use Rattle.base_numbers.specs.Limit as Limit
use Rattle.base_numbers.specs.Process as Process

-- Single numbers.
abbrev pub CLOCK : ℕ
CLOCK = 0

abbrev pub CLOSED : ℕ
CLOSED = 1

abbrev pub LAST : ℕ
LAST = 2

abbrev pub FLOOR : ℕ
FLOOR = 3

abbrev pub LIVING : ℕ
LIVING = 4

abbrev pub EVENTS : ℕ
EVENTS = 5

abbrev pub BLOCKED : ℕ
BLOCKED = 6

abbrev pub SPARE : ℕ
SPARE = 7

-- How many numbers the event list has room for, and a list of those that wait.
abbrev pub EVENTS_MOST : ℕ
EVENTS_MOST = No.places + No.returns

abbrev pub WAITERS_MOST : ℕ
WAITERS_MOST = No.places

-- How many numbers all waiting lists have, and all processes.
abbrev pub WAITERS_ALL : ℕ
WAITERS_ALL = WAITERS_MOST * Limit.THINGS

abbrev pub PROCESSES_ALL : ℕ
PROCESSES_ALL = Process.WORDS * No.places

-- By number: what is free, the bins, the codes of the variables, how many wait for each sync.
abbrev pub FREE : ℕ
FREE = SPARE + 1

abbrev pub BINS : ℕ
BINS = FREE + Limit.THINGS

abbrev pub GLOBALS : ℕ
GLOBALS = BINS + Limit.THINGS

abbrev pub WAITS : ℕ
WAITS = GLOBALS + Limit.THINGS

-- The blocked list; the keys of the events and what they do; the waiting lists; the processes; the seeds; and the end.
abbrev pub QUEUE : ℕ
QUEUE = WAITS + Limit.THINGS

abbrev pub KEYS : ℕ
KEYS = QUEUE + WAITERS_MOST

abbrev pub NOTICES : ℕ
NOTICES = KEYS + EVENTS_MOST

abbrev pub WAITING : ℕ
WAITING = NOTICES + EVENTS_MOST

abbrev pub PROCESSES : ℕ
PROCESSES = WAITING + WAITERS_ALL

abbrev pub SEEDS : ℕ
SEEDS = (PROCESSES) + PROCESSES_ALL

abbrev pub WORDS : ℕ
WORDS = (SEEDS) + Limit.SAMPLERS

-- Where the locals of the process in place 0 begin, what it holds, and its slaves.
abbrev pub FIRST_LOCALS : ℕ
FIRST_LOCALS = (PROCESSES) + Process.LOCALS

abbrev pub FIRST_HELD : ℕ
FIRST_HELD = (PROCESSES) + Process.HELD

abbrev pub FIRST_OWNED : ℕ
FIRST_OWNED = (PROCESSES) + Process.OWNED
