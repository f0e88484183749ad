-- What branches name, as bits, and the tests of them that the code makes. Assumes nothing.
use Rattle.std.specs.Prelude.{ℕ, zero, suc, ◌+◌, ◌-◌, List, [], ◌∷◌, Bool, not, ◌&&◌, ◌||◌, eqb, get_or, drop}
use Rattle.std.specs.Int.Bits.{bit_and}
use Rattle.semantics.specs.Model.{resource, bin, sync, Claim}
use Rattle.semantics.specs.Record.{claim_in}
use Rattle.semantics.specs.Claim.{smaller_amounts}
use Rattle.base_numbers.specs.Map as Map
use Rattle.file_map.specs.Map.{mask_of, claim_at}
use Rattle.file_bars.specs.declared.Named.{Named}

-- Each bit of x is one of y.
unfoldable pub bits_in : ℕ → ℕ → Bool
bits_in x y = eqb (bit_and x y) x

abbrev pub names_nothing : Named → Bool
names_nothing x = eqb x.resources 0 && (eqb x.bins 0 && eqb x.syncs 0)

abbrev pub within : Named → Named → Bool
within x y = bits_in x.resources y.resources && (bits_in x.bins y.bins && bits_in x.syncs y.syncs)

-- A non-empty, strict part.
abbrev pub strictly_within : Named → Named → Bool
strictly_within x y = not (names_nothing x) && (within x y && not (within y x))

abbrev pub named_by : Claim → Named
named_by c = record { resources = mask_of resource c; bins = mask_of bin c; syncs = mask_of sync c }

-- What the map has of the n-th branch, and its claim in the file's bytes.
abbrev pub named_at : List ℕ → ℕ → Named
named_at map n =
    record {
      resources = get_or map (Map.RESOURCES + n) 0;
      bins = get_or map (Map.BINS + n) 0;
      syncs = get_or map (Map.SYNCS + n) 0;
    }

abbrev pub claim_of : List ℕ → List ℕ → ℕ → Claim
claim_of bs map n = claim_in (drop (claim_at map n) bs)

-- Branch m covers branch n.
abbrev pub covers_at : List ℕ → List ℕ → ℕ → ℕ → Bool
covers_at bs map m n =
    let x : Named = named_at map n in
    let y : Named = named_at map m in
    strictly_within x y || ((within x y && within y x) && smaller_amounts (claim_of bs map n) (claim_of bs map m))

-- The k numbers from n on, those from n to before e, and those of the branches of action a.
unfoldable pub numbers : ℕ → ℕ → List ℕ
numbers n zero = []
numbers n (suc k) = n ∷ numbers (n + 1) k

abbrev pub numbers_to : ℕ → ℕ → List ℕ
numbers_to n e = numbers n (e - n)

abbrev pub branches_of : List ℕ → ℕ → List ℕ
branches_of map a = numbers_to (get_or map (Map.FROM + a) 0) (get_or map (Map.FROM + (a + 1)) 0)
