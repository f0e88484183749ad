-- What each REQ, TRY and WHILE of an accepted model file offers: where the claims stand, and which things they name.
-- Assumes nothing.
use Rattle.std.specs.Prelude.{ℕ, ◌+◌, ◌*◌, ◌^◌, ◌≤◌, ◌≡◌, List, [], ◌∷◌, map, true, ◌&&◌, eqb, ltb, length, drop, if◌then◌else◌}
use Rattle.std.specs.Int.Bits.{bit_or}
use Rattle.semantics.specs.Words.{collect}
use Rattle.semantics.specs.Numbers as No
use Rattle.semantics.specs.Kinds as K
use Rattle.semantics.specs.Bytes.{u8, u16, Raw, parts}
use Rattle.semantics.specs.Record.{item, parts_of, branches_from, branches_fit}
use Rattle.base_numbers.specs.Limit as Limit
use Rattle.base_numbers.specs.Item as Item
use Rattle.file_index.specs.Index.{pad, Wrote, Act, acts_of, runs}
use Rattle.file_index.specs.declared.Branches.{Branches}

-- WHAT A CLAIM NAMES of one kind, as bits. j is the kind of its items. An item that names a number of 32 or more has no bit:
-- check 8 refuses it.
abbrev pub bit_of : ℕ → List ℕ → ℕ
bit_of j i = if eqb (u8 i 0) j && ltb (u16 i 2) Limit.THINGS then 2 ^ u16 i 2 else 0

unfoldable pub bits_of : ℕ → List (List ℕ) → ℕ
bits_of j [] = 0
bits_of j (i ∷ is) = bit_or (bit_of j i) (bits_of j is)

unfoldable pub named_in : ℕ → List ℕ → ℕ
unfolding bits_of parts
named_in j bs = bits_of j (parts_of item bs)

-- The bytes bs begin with a claim.
pub record Claimed (bs : List ℕ) : Type 0 where
  pub counted : 2 ≤ length bs
  pub fits : 2 + 8 * u16 bs 0 ≤ length bs

-- A BRANCH as the file has it: the byte place of its claim, and the claim's bytes.
pub record Offered : Type 0 where
  pub place : ℕ
  pub bytes : List ℕ

abbrev pub offered : ℕ → List ℕ → Offered
offered at bs = record { place = at; bytes = bs }

-- Branches one behind the other from byte place `at` on, each a u16 block and a claim.
unfoldable pub offered_at : ℕ → List (List ℕ) → List Offered
offered_at at [] = []
offered_at at (b ∷ bs) = offered (at + 2) (drop 2 b) ∷ offered_at (at + length b) bs

unfoldable pub offered_try : ℕ → List ℕ → List Offered
unfolding offered_at branches_from
offered_try at bs = offered_at (at + 2) (branches_from (u16 bs 0) (drop 2 bs))

-- By a record's kind and its body, which begins at byte place `at`. The body of a WHILE is one branch.
unfoldable pub offered_in : ℕ → ℕ → List ℕ → List Offered
unfolding offered_try offered_at
offered_in at k bs =
    if eqb k K.REQ then offered at bs ∷ []
    else if eqb k K.TRY then offered_try at bs
    else if eqb k K.WHILE then offered_at at (bs ∷ [])
    else []

abbrev pub offered_by : Act → List Offered
offered_by a = offered_in (a.place + 4) a.kind a.body

-- THE FOUR ROWS of the branches, and what is written in each of them of a branch.
pub record Rows : Type 0 where
  pub claim : List ℕ
  pub resources : List ℕ
  pub bins : List ℕ
  pub syncs : List ℕ

abbrev pub rows : List ℕ → List ℕ → List ℕ → List ℕ → Rows
rows c r b s = record { claim = c; resources = r; bins = b; syncs = s }

abbrev pub places_of : List Offered → List ℕ
places_of xs = map (λ o. o.place) xs

abbrev pub names_of : ℕ → List Offered → List ℕ
names_of j xs = map (λ o. named_in j o.bytes) xs

-- Each has room for n numbers.
pub record Roomy (n : ℕ) (x : Rows) : Type 0 where
  pub claim : n ≤ length x.claim
  pub resources : n ≤ length x.resources
  pub bins : n ≤ length x.bins
  pub syncs : n ≤ length x.syncs

-- After xs were written at n of the rows `before`: where the next is written, and what stands there.
pub record Noted (n : ℕ) (xs : List Offered) (before : Rows) (next : ℕ) (after : Rows) : Type 0 where
  pub claim : Wrote n (places_of xs) before.claim next after.claim
  pub resources : Wrote n (names_of Item.GET_R xs) before.resources next after.resources
  pub bins : Wrote n (names_of Item.GET_B xs) before.bins next after.bins
  pub syncs : Wrote n (names_of Item.GET_S xs) before.syncs next after.syncs

-- The body of a TRY, which begins at byte place `at`: its branches end with it, and the rows have room for them from n on.
pub record Tried (at : ℕ) (bs : List ℕ) (n : ℕ) (x : Rows) : Type 0 where
  pub short : at + length bs ≤ No.longest_file
  pub counted : 2 ≤ length bs
  pub fits : branches_fit (u16 bs 0) (drop 2 bs) ≡ true
  pub room : Roomy (n + length (offered_try at bs)) x

-- THE BRANCHES of all actions.
unfoldable pub branches_of : List Raw → Branches
unfolding acts_of runs offered_in named_in
branches_of rs =
    record {
      from = pad (Limit.ACTIONS + 1) (runs (λ a. length (offered_by a)) 0 (acts_of rs));
      claim = pad Limit.BRANCHES (places_of (collect offered_by (acts_of rs)));
      resources = pad Limit.BRANCHES (names_of Item.GET_R (collect offered_by (acts_of rs)));
      bins = pad Limit.BRANCHES (names_of Item.GET_B (collect offered_by (acts_of rs)));
      syncs = pad Limit.BRANCHES (names_of Item.GET_S (collect offered_by (acts_of rs)));
    }
