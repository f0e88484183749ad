-- What the engine reads an accepted model by, as one row of numbers, the map: where blocks and actions begin, class bodies, and
-- of each branch where its claim stands and what it names; of each sampler what it draws from. Assumes nothing.
use Rattle.std.specs.Prelude.{ℕ, ◌+◌, ◌-◌, ◌*◌, ◌^◌, ◌≤◌, ◌<◌, ◌≡◌, List, [], ◌∷◌, true, length, get_or, drop, if◌then◌else◌}
use Rattle.std.proofs.Math.Option.{some}
use Rattle.std.specs.Int.Bits.{bit_or}
use Rattle.std.proofs.Math.ListN.{get_elem?}
use Rattle.semantics.specs.Words.{all}
use Rattle.semantics.specs.Model.{Kind, resource, bin, sync, get, condition, Claim, Action, Model, block, body, sampler}
use Rattle.semantics.specs.Bytes.{u16}
use Rattle.semantics.specs.Record.{item, part_valid, parts_of, claim_in}
use Rattle.semantics.specs.Claim.{Offer, enter_block, offers, same_kind}
use Rattle.semantics.specs.Generator.{values_in}
use Rattle.base_numbers.specs.Limit as Limit
use Rattle.base_numbers.specs.Map as Map
use Rattle.base_i32.specs.Code.{code}
use Rattle.file_index.specs.Ties.{ActionAt}

-- THE MAP has Map.WORDS numbers: base_numbers (specs, Map) says where each part begins.

-- The things of one kind that a claim names, as bits.
unfoldable pub mask_of : Kind → Claim → ℕ
mask_of k [] = 0
mask_of k (get l i n ∷ is) = bit_or (if same_kind k l then 2 ^ i else 0) (mask_of k is)
mask_of k (condition i r v ∷ is) = mask_of k is

-- Where the claim of the n-th branch stands.
abbrev pub claim_at : List ℕ → ℕ → ℕ
claim_at map n = get_or map (Map.CLAIM + n) 0

-- The n-th branch of the map is the offer o: its claim stands there whole, with the block that it enters, if it enters one,
-- right before it.
pub record OfferAt (bs map : List ℕ) (n : ℕ) (o : Offer) : Type 0 where
  pub few : n < Limit.BRANCHES
  pub behind : 2 ≤ claim_at map n
  pub inside : claim_at map n + (2 + 8 * u16 bs (claim_at map n)) ≤ length bs
  pub items_few : u16 bs (claim_at map n) ≤ 4
  pub items_valid : all (part_valid item) (parts_of item (drop (claim_at map n) bs)) ≡ true
  pub claim_is : claim_in (drop (claim_at map n) bs) ≡ o.claim
  pub enters : (b : ℕ) → o.and_then ≡ enter_block b → u16 bs (claim_at map n - 2) ≡ b
  pub resources_are : get_or map (Map.RESOURCES + n) 0 ≡ mask_of resource o.claim
  pub bins_are : get_or map (Map.BINS + n) 0 ≡ mask_of bin o.claim
  pub syncs_are : get_or map (Map.SYNCS + n) 0 ≡ mask_of sync o.claim

-- The branches of action a are the offers os.
pub record OffersAt (bs map : List ℕ) (a : ℕ) (os : List Offer) : Type 0 where
  pub from_few : get_or map (Map.FROM + a) 0 + length os ≤ Limit.BRANCHES
  pub to_is : get_or map (Map.FROM + (a + 1)) 0 ≡ get_or map (Map.FROM + a) 0 + length os
  pub each : (k : ℕ) (o : Offer) → get_elem? os k ≡ some o → OfferAt bs map (get_or map (Map.FROM + a) 0 + k) o

-- What the samplers of the model draw from, in the map.
pub record Drawn (m : Model) (map : List ℕ) : Type 0 where
  pub long : length map ≡ Map.WORDS
  pub lowest_are : (i : ℕ) → i < length m.samplers → get_or map (Map.LOWEST + i) 0 ≡ code (sampler m i).lowest
  pub values_are : (i : ℕ) → i < length m.samplers →
      get_or map (Map.VALUES + i) 0 ≡ values_in (sampler m i).lowest (sampler m i).highest

-- The map of the file bs is that of the model m.
pub record Mapped (bs : List ℕ) (m : Model) (map : List ℕ) : Type 0 where
  pub long : length map ≡ Map.WORDS
  pub first_few : (b : ℕ) → b ≤ Limit.BLOCKS → get_or map b 0 ≤ Limit.ACTIONS
  pub first_next : (b : ℕ) → b < length m.blocks → get_or map (b + 1) 0 ≡ get_or map b 0 + length (block m b)
  pub acts_at : (b j : ℕ) (x : Action) → get_elem? (block m b) j ≡ some x →
      ActionAt bs (get_or map (Map.PLACE + (get_or map b 0 + j)) 0) x
  pub offers_at : (b j : ℕ) (x : Action) → get_elem? (block m b) j ≡ some x →
      OffersAt bs map (get_or map b 0 + j) (offers x)
  pub body_is : (c : ℕ) → c < Limit.CLASSES → get_or map (Map.BODY + c) 0 ≡ body m c
  pub draws : Drawn m map
