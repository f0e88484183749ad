-- The tokens of a text (docs/TEXT.md, section 2). Keywords, signs and the end are marks, each with a number.
-- Assumes nothing.
use Rattle.std.specs.Prelude.{ℕ, List}

pub data Token : Type 0 where
  name : List ℕ → Token  -- its bytes
  number : ℕ → Token
  mark : ℕ → Token  -- a keyword, a sign or the end
  bad : Token  -- what is no token

-- The keywords, in the order of the list in Lexing.
abbrev pub RES : ℕ
RES = 0

abbrev pub BIN : ℕ
BIN = 1

abbrev pub SYNC : ℕ
SYNC = 2

abbrev pub VAR : ℕ
VAR = 3

abbrev pub SAMPLER : ℕ
SAMPLER = 4

abbrev pub CLASS : ℕ
CLASS = 5

abbrev pub ENTITY : ℕ
ENTITY = 6

abbrev pub LOCAL : ℕ
LOCAL = 7

abbrev pub HOLD : ℕ
HOLD = 8

abbrev pub PRIORITY : ℕ
PRIORITY = 9

abbrev pub DO : ℕ
DO = 10

abbrev pub PUTR : ℕ
PUTR = 11

abbrev pub PUTB : ℕ
PUTB = 12

abbrev pub PUTS : ℕ
PUTS = 13

abbrev pub BECOME : ℕ
BECOME = 14

abbrev pub REQ : ℕ
REQ = 15

abbrev pub TRY : ℕ
TRY = 16

abbrev pub THEN : ℕ
THEN = 17

abbrev pub ETRY : ℕ
ETRY = 18

abbrev pub WHILE : ℕ
WHILE = 19

abbrev pub START : ℕ
START = 20

abbrev pub TRACE : ℕ
TRACE = 21

abbrev pub CLOSE : ℕ
CLOSE = 22

abbrev pub GETR : ℕ
GETR = 23

abbrev pub GETB : ℕ
GETB = 24

abbrev pub GETS : ℕ
GETS = 25

abbrev pub CLOCK : ℕ
CLOCK = 26

abbrev pub LESSER : ℕ
LESSER = 27

abbrev pub GREATER : ℕ
GREATER = 28

-- The signs: first those of one byte that begin no longer one, in the order of the list in Lexing.
abbrev pub LP : ℕ
LP = 29  -- (

abbrev pub RP : ℕ
RP = 30  -- )

abbrev pub LS : ℕ
LS = 31  -- [

abbrev pub RS : ℕ
RS = 32  -- ]

abbrev pub LB : ℕ
LB = 33  -- {

abbrev pub RB : ℕ
RB = 34  -- }

abbrev pub COMMA : ℕ
COMMA = 35  -- ,

abbrev pub SEMI : ℕ
SEMI = 36  -- ;

abbrev pub PLUS : ℕ
PLUS = 37  -- +

abbrev pub MINUS : ℕ
MINUS = 38  -- -

abbrev pub STAR : ℕ
STAR = 39  -- *

abbrev pub EQ : ℕ
EQ = 40  -- =

abbrev pub BECOMES : ℕ
BECOMES = 41  -- :=

abbrev pub LT : ℕ
LT = 42  -- <

abbrev pub LE : ℕ
LE = 43  -- <=

abbrev pub NE : ℕ
NE = 44  -- <>

abbrev pub GE : ℕ
GE = 45  -- >=

abbrev pub GT : ℕ
GT = 46  -- >

-- The end of the text.
abbrev pub END : ℕ
END = 47
