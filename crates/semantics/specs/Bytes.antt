-- Numbers as bytes, little-endian, and a file cut into records (document 01, "The model file").
-- Assumes nothing.
use Rattle.std.specs.Prelude.{ℕ, zero, suc, ◌+◌, ◌*◌, ◌-◌, List, [], ◌∷◌, Bool, ◌&&◌, eqb, leb, ltb, length, get_or, take, drop, ℤ, pos, negsuc, if◌then◌else◌}

-- The number that begins k bytes into bs.
abbrev pub u8 : List ℕ → ℕ → ℕ
u8 bs k = get_or bs k 0

abbrev pub u16 : List ℕ → ℕ → ℕ
u16 bs k = u8 bs k + 256 * u8 bs (k + 1)

abbrev pub u32 : List ℕ → ℕ → ℕ
u32 bs k = u16 bs k + 65_536 * u16 bs (k + 2)

abbrev pub signed : ℕ → ℤ
signed n = if ltb n 2_147_483_648 then pos n else negsuc (4_294_967_295 - n)

abbrev pub i32 : List ℕ → ℕ → ℤ
i32 bs k = signed (u32 bs k)

-- A record of the file: its place, its kind and its body. At `torn` the bytes end inside a record, or its length is under 2.
pub data Raw : Type 0 where
  raw : ℕ → ℕ → List ℕ → Raw
  torn : ℕ → Raw

-- The bytes that the record has with which bs begins: its length counts all that follows the length. And whether it is whole.
abbrev pub spans : List ℕ → ℕ
spans bs = 2 + u16 bs 0

abbrev pub whole : List ℕ → Bool
whole bs = leb 2 (u16 bs 0) && leb (spans bs) (length bs)

-- The records of bs, which begins at byte place `at`; n is at least the number of bytes.
unfoldable pub cut : ℕ → ℕ → List ℕ → List Raw
cut zero at bs = []
cut (suc n) at bs =
    if eqb (length bs) 0
    then []
    else if whole bs
    then raw at (u16 bs 2) (take (spans bs - 4) (drop 4 bs)) ∷ cut n (at + spans bs) (drop (spans bs) bs)
    else torn at ∷ []

unfoldable pub records_from : ℕ → List ℕ → List Raw
unfolding cut
records_from at bs = cut (length bs) at bs

-- The n parts of size k that bs begins with.
unfoldable pub parts : ℕ → ℕ → List ℕ → List (List ℕ)
parts k zero bs = []
parts k (suc n) bs = take k bs ∷ parts k n (drop k bs)
