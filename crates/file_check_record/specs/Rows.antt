-- A row of the table of kinds as numbers, and the number of an outcome. Assumes nothing.
use Rattle.std.specs.Prelude.{ℕ, ◌≤◌, ◌≡◌, List, [], ◌∷◌, true, eqb, length, get_or, drop, if◌then◌else◌}
use Rattle.semantics.specs.Words.{Outcome, ok, fails, Passed}
use Rattle.semantics.specs.Bytes.{u16, u32}
use Rattle.semantics.specs.Record.{Row, Tail, nothing, expression, branches, list_of, item, share, sized}
use Rattle.semantics.specs.Record.{Field, any_value, u16_in, u32_in, of_sampler, Naming, nameless, names, names_local}
use Rattle.base_numbers.specs.Group as Group
use Rattle.base_numbers.specs.Tail as Tail

-- Document 01's number of an outcome, 0 where all is well.
abbrev pub number_of : Outcome Passed → ℕ
number_of (ok p) = 0
number_of (fails n) = n

-- The field with a stated set: its size, its place, the set's ends; a free one is the number 0 of no bytes. Those of a sampler,
-- which are judged together, are told by their size.
abbrev pub SAMPLER_BYTES : ℕ
SAMPLER_BYTES = 12

abbrev pub field_size : Field → ℕ
field_size any_value = 0
field_size (u16_in at lo hi) = 2
field_size (u32_in at lo hi) = 4
field_size of_sampler = SAMPLER_BYTES

abbrev pub field_at : Field → ℕ
field_at any_value = 0
field_at (u16_in at lo hi) = at
field_at (u32_in at lo hi) = at
field_at of_sampler = 0

abbrev pub field_low : Field → ℕ
field_low any_value = 0
field_low (u16_in at lo hi) = lo
field_low (u32_in at lo hi) = lo
field_low of_sampler = 0

abbrev pub field_high : Field → ℕ
field_high any_value = 0
field_high (u16_in at lo hi) = hi
field_high (u32_in at lo hi) = hi
field_high of_sampler = 0

abbrev pub number_at : ℕ → List ℕ → ℕ → ℕ
number_at size bs at = if eqb size 4 then u32 bs at else if eqb size 2 then u16 bs at else 0

-- The field that names: the group of what it names, 0 where there is none, 17 for a local; and its place.
abbrev pub naming_of : Naming → ℕ
naming_of nameless = 0
naming_of (names group at) = group
naming_of (names_local at) = Group.LOCAL

abbrev pub naming_at : Naming → ℕ
naming_at nameless = 0
naming_at (names group at) = at
naming_at (names_local at) = at

abbrev pub tail_number : Tail → ℕ
tail_number nothing = Tail.NOTHING
tail_number expression = Tail.EXPRESSION
tail_number branches = Tail.BRANCHES
tail_number (list_of item) = Tail.CLAIM
tail_number (list_of share) = Tail.SHARES

unfoldable pub column_of : ℕ → Row → ℕ
column_of c r =
    get_or
    (r.group ∷ r.most ∷ r.head ∷ field_size r.field ∷ field_at r.field ∷ field_low r.field ∷ field_high r.field
    ∷ tail_number r.tail ∷ naming_of r.naming ∷ naming_at r.naming ∷ [])
    c
    0

-- What a body that has passed 5 has.
pub record Judged (r : Row) (bs : List ℕ) : Type 0 where
  pub head_in : r.head ≤ length bs
  pub tail_sized : sized r.tail (drop r.head bs) ≡ true
