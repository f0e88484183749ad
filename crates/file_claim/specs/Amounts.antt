-- What one item says of the amounts of two claims. Assumes nothing.
use Rattle.std.specs.Prelude.{ℕ, List, [], ◌∷◌, Bool, false, ◌&&◌, eqb, ltb, get_or}
use Rattle.semantics.specs.Bytes.{u8, u16}
use Rattle.semantics.specs.Model.{resource, bin, sync, Item, get, condition, Claim}
use Rattle.semantics.specs.Claim.{Name, amount_of}
use Rattle.file_claim.specs.declared.Compared.{Compared}

-- The thing of this number whose kind an item has under its number 0, 1 or 2.
abbrev pub thing : ℕ → ℕ → Name
thing kind number = record { kind = get_or (resource ∷ bin ∷ sync ∷ []) kind sync; number = number }

-- Whether the item whose bytes are i names it.
abbrev pub names_thing : List ℕ → ℕ → ℕ → Bool
names_thing i kind number = eqb kind (u8 i 0) && eqb number (u16 i 2)

-- c beside d, by the thing that the item names; a condition names none.
abbrev pub compared_by : Claim → Claim → Item → Compared
compared_by c d (get k i n) =
    let x : Name = record { kind = k; number = i } in
    record { larger = ltb (amount_of d x) (amount_of c x); smaller = ltb (amount_of c x) (amount_of d x) }
compared_by c d (condition i r v) = record { larger = false; smaller = false }
