-- The kinds of a record by their names, and their groups (document 01, "The model file"; SAMPLER: document 02, One).
-- Assumes nothing.
use Rattle.std.specs.Prelude.{ℕ}

abbrev pub RES : ℕ
RES = 1

abbrev pub BIN : ℕ
BIN = 2

abbrev pub SYNC : ℕ
SYNC = 3

abbrev pub VAR : ℕ
VAR = 4

abbrev pub CLASS : ℕ
CLASS = 5

abbrev pub BLOCK : ℕ
BLOCK = 6

abbrev pub ENTITY : ℕ
ENTITY = 7

abbrev pub SAMPLER : ℕ
SAMPLER = 8

abbrev pub HOLD : ℕ
HOLD = 16

abbrev pub PRIO : ℕ
PRIO = 17

abbrev pub SET : ℕ
SET = 18

abbrev pub LSET : ℕ
LSET = 19

abbrev pub DO : ℕ
DO = 20

abbrev pub PUTR : ℕ
PUTR = 21

abbrev pub PUTB : ℕ
PUTB = 22

abbrev pub PUTS : ℕ
PUTS = 23

abbrev pub BECOME : ℕ
BECOME = 24

abbrev pub REQ : ℕ
REQ = 25

abbrev pub TRY : ℕ
TRY = 26

abbrev pub WHILE : ℕ
WHILE = 27

abbrev pub START : ℕ
START = 28

abbrev pub TRACE : ℕ
TRACE = 29

abbrev pub CLOSE : ℕ
CLOSE = 30

-- How many records there may be is counted by groups: a declaration and BLOCK are their own group, all actions are one.
abbrev pub ACTION : ℕ
ACTION = 16

abbrev pub groups : ℕ
groups = 17
