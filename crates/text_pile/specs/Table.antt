-- The grammar as the code has it: symbols as classes, tokens as columns, and for both the place of what comes then.
-- Assumes nothing.
use Rattle.std.specs.Prelude.{ℕ, zero, suc, ◌+◌, ◌*◌, ◌-◌, ◌%◌, List, [], ◌∷◌, eqb, leb, ltb, get_or, if◌then◌else◌, Option, Some, None}
use Rattle.text_semantics.specs.Numbers as No
use Rattle.text_machine.specs.Codes.{NUMBER, BAD, EXPRESSION, PARTS}

-- COLUMNS: the kinds of tokens, where a number is a small one; two more are for larger ones, and what is larger still is bad.
abbrev pub LARGER : ℕ
LARGER = 51

abbrev pub LARGEST : ℕ
LARGEST = 52

abbrev pub COLUMNS : ℕ
COLUMNS = 53

abbrev pub number_column : ℕ → ℕ
number_column v =
    if leb v No.top_count then NUMBER else if leb v No.top_number then LARGER else if leb v No.top_magnitude then LARGEST else BAD

unfoldable pub column_of : ℕ → ℕ → ℕ
column_of kind v = if eqb kind NUMBER then number_column v else kind

-- CLASSES: the parts of expressions in which brackets may be opened are alike.
abbrev pub DEEP : ℕ
DEEP = 77

abbrev pub CLASSES : ℕ
CLASSES = 82

unfoldable pub class_of : ℕ → ℕ
class_of s = if ltb s DEEP then s else DEEP + (s - DEEP) % PARTS

-- The first symbol that has a class in the table: a mark comes as itself, and nothing then.
abbrev pub MARKS : ℕ
MARKS = 48

-- THE TABLE has, for each class and column, a place in the row of what comes; 0 where the token doesn't fit.
unfoldable pub place_of : List ℕ → ℕ → ℕ → ℕ
place_of table k j =
    if ltb k MARKS then (if eqb k j then 1 else 0) else get_or table ((k - MARKS) * COLUMNS + j) 0

-- .. as it is told: a place, unless the token doesn't fit.
abbrev pub entry_of : List ℕ → ℕ → ℕ → Option ℕ
entry_of table k j = if eqb (place_of table k j) 0 then None else Some (place_of table k j)

-- WHAT COMES: at a place stands how many symbols, then those, the first to come last. Parts of expressions are as much deeper as
-- the symbol is than its class.
abbrev pub NEXTS : ℕ
NEXTS = 203

abbrev pub SHIFTS : ℕ
SHIFTS = 80

abbrev pub deeper_by : ℕ → ℕ → ℕ
deeper_by by n = if ltb n EXPRESSION then n else n + by

-- So many symbols from a place on.
unfoldable pub run_of : List ℕ → ℕ → ℕ → ℕ → List ℕ
run_of next p zero by = []
run_of next p (suc m) by = deeper_by by (get_or next p 0) ∷ run_of next (suc p) m by
