-- The symbols of the grammar and the tokens as numbers, as the code has them.
-- Assumes nothing.
use Rattle.std.specs.Prelude.{ℕ, ◌-◌, ◌/◌, ◌%◌, List, [], ◌∷◌, eqb, leb, ltb, get_or, if◌then◌else◌}
use Rattle.text_semantics.specs.Numbers as No
use Rattle.text_semantics.specs.Token as T
use Rattle.text_semantics.specs.Token.{Token, name, number, mark, bad}
use Rattle.text_semantics.specs.Reading.{Symbol, one, the, a_name, a_number, factor_s, minus_s, more, signed_s, relation_s, item_s}
use Rattle.text_semantics.specs.Reading.{claim_s, items_s, gives_s, given_s, actions_s, try_s, few_s, lines_s, body_s, text_s}
use Rattle.text_semantics.specs.Reading.{round, comma, semi}

-- TOKENS: a mark is its number, 0 to 47; then a number, a name, and what is no token. The bytes of a name are told apart.
abbrev pub NUMBER : ℕ
NUMBER = 48

abbrev pub NAME : ℕ
NAME = 49

abbrev pub BAD : ℕ
BAD = 50

abbrev pub token_of : ℕ → ℕ → List ℕ → Token
token_of kind v x =
    if leb kind T.END then mark kind else if eqb kind NUMBER then number v else if eqb kind NAME then name x else bad

-- SYMBOLS: a mark that has to come is its number, too, and so are a number and a name; then what has parts, the names that a
-- local line may still have, and the parts of expressions by how many brackets may be opened in them.
abbrev pub COUNT : ℕ
COUNT = 50

abbrev pub MAGNITUDE : ℕ
MAGNITUDE = 51

abbrev pub SIGNED : ℕ
SIGNED = 52

abbrev pub RELATION : ℕ
RELATION = 53

abbrev pub ITEM : ℕ
ITEM = 54

abbrev pub CLAIM : ℕ
CLAIM = 55

abbrev pub ITEMS : ℕ
ITEMS = 56

abbrev pub GIVES : ℕ
GIVES = 57

abbrev pub GIVEN : ℕ
GIVEN = 58

abbrev pub ACTIONS : ℕ
ACTIONS = 59

abbrev pub TRY : ℕ
TRY = 60

abbrev pub LINES : ℕ
LINES = 61

abbrev pub BODY : ℕ
BODY = 62

abbrev pub TEXT : ℕ
TEXT = 63

abbrev pub FEW : ℕ
FEW = 64

abbrev pub EXPRESSION : ℕ
EXPRESSION = 72

-- The parts of an expression: a factor, one behind a minus, and what follows a factor, by what closes it.
abbrev pub PARTS : ℕ
PARTS = 5

abbrev pub part_of : ℕ → ℕ → Symbol
part_of d c =
    get_or (factor_s d ∷ minus_s d ∷ more d round ∷ more d comma ∷ []) c (more d semi)

abbrev pub symbol_of : ℕ → Symbol
symbol_of c =
    if leb c T.END
    then one (the c)
    else if ltb c FEW
    then get_or
    (one (a_number No.top_number) ∷ one a_name ∷ one (a_number No.top_count) ∷ one
    (a_number No.top_magnitude) ∷ signed_s ∷ relation_s ∷ item_s
    ∷ claim_s ∷ items_s ∷ gives_s ∷ given_s ∷ actions_s ∷ try_s ∷ lines_s ∷ body_s ∷ text_s ∷ [])
    (c - NUMBER)
    text_s
    else if ltb c EXPRESSION
    then few_s (c - FEW)
    else part_of ((c - EXPRESSION) / PARTS) ((c - EXPRESSION) % PARTS)
