-- What ties the index, the graph, the loops, the branches and the samplers of an accepted file to its model.
-- Assumes nothing.
use Rattle.std.specs.Prelude.{ℕ, ◌+◌, ◌-◌, ◌*◌, ◌≤◌, ◌<◌, ◌≡◌, List, [], ◌∷◌, map, Bool, true, length, get_or, take, drop}
use Rattle.std.proofs.Math.Option.{some}
use Rattle.std.proofs.Math.ListN.{get_elem?}
use Rattle.std.proofs.Math.Seq.{slice}
use Rattle.semantics.specs.Words.{collect, all}
use Rattle.semantics.specs.Model.{Action, HOLD, PRIO, TRACE, SET, LSET, DO, PUTR, PUTB, PUTS, BECOME, REQ, TRY, WHILE, START}
use Rattle.semantics.specs.Model.{CLOSE, Model, block, body, sampler}
use Rattle.semantics.specs.Bytes.{u16}
use Rattle.semantics.specs.Record.{item, part_valid, parts_of, claim_in, ACTION, row_of}
use Rattle.semantics.specs.Claim.{enter_block, Offer}
use Rattle.semantics.specs.Bound.{own_weight}
use Rattle.semantics.specs.Generator.{values_in}
use Rattle.promises.specs.Laws.{over}
use Rattle.base_numbers.specs.Limit as Limit
use Rattle.base_numbers.specs.Item as Item
use Rattle.base_i32.specs.Code.{code}
use Rattle.file_index.specs.Index.{Judged, given}
use Rattle.file_index.specs.Branches.{named_in}
use Rattle.file_index.specs.declared.Index.{Index}
use Rattle.file_index.specs.declared.Graph.{Graph}
use Rattle.file_index.specs.declared.Branches.{Branches}
use Rattle.file_index.specs.declared.Samplers.{Samplers}

-- How many times an action weighs what it names, and the blocks that it names: of a START the body of its class, if `start`.
abbrev pub times_of : Action → ℕ
times_of (HOLD e) = 0
times_of (PRIO e) = 0
times_of (TRACE e) = 0
times_of (SET i e) = 0
times_of (LSET i e) = 0
times_of (DO n b) = n
times_of (PUTR i n) = 0
times_of (PUTB i n) = 0
times_of (PUTS i n) = 0
times_of (BECOME i) = 0
times_of (REQ c) = 0
times_of (TRY bs) = 1
times_of (WHILE b c) = 0
times_of (START c t h) = 1
times_of CLOSE = 0

abbrev pub goes_of : Bool → Model → Action → List ℕ
goes_of start m (HOLD e) = []
goes_of start m (PRIO e) = []
goes_of start m (TRACE e) = []
goes_of start m (SET i e) = []
goes_of start m (LSET i e) = []
goes_of start m (DO n b) = b ∷ []
goes_of start m (PUTR i n) = []
goes_of start m (PUTB i n) = []
goes_of start m (PUTS i n) = []
goes_of start m (BECOME i) = []
goes_of start m (REQ c) = []
goes_of start m (TRY bs) = map (λ x. x.block) bs
goes_of start m (WHILE b c) = b ∷ []
goes_of start m (START c t h) = given start (body m c)
goes_of start m CLOSE = []

-- The kind and the body of the record that stands at byte p.
abbrev pub kind_at : List ℕ → ℕ → ℕ
kind_at bs p = u16 bs (p + 2)

abbrev pub body_at : List ℕ → ℕ → List ℕ
body_at bs p = take (u16 (drop p bs) 0 - 2) (drop 4 (drop p bs))

-- At byte p stands the record of the action x.
pub record ActionAt (bs : List ℕ) (p : ℕ) (x : Action) : Type 0 where
  pub there : p + 4 ≤ length bs
  pub long : 2 ≤ u16 bs p
  pub fits : 2 + u16 bs p ≤ length bs - p
  pub size_is : u16 bs p ≡ u16 (drop p bs) 0
  pub kind_is : kind_at bs p ≡ u16 (drop p bs) 2
  pub judged : Judged (u16 (drop p bs) 2) (body_at bs p)
  pub says : (row_of (u16 (drop p bs) 2)).says (body_at bs p) ≡ ACTION x

-- The index i of the file bs is that of the model m.
pub record Ties (bs : List ℕ) (m : Model) (i : Index) : Type 0 where
  pub blocks_are : i.blocks ≡ length m.blocks
  pub actions_are : i.actions ≡ over length m.blocks
  pub classes_are : i.classes ≡ length m.classes
  pub body_is : (c : ℕ) → get_or i.body c 0 ≡ body m c
  pub first_none : get_or i.first 0 0 ≡ 0
  pub first_next : (b : ℕ) → b < length m.blocks → get_or i.first (b + 1) 0 ≡ get_or i.first b 0 + length (block m b)
  pub first_last : get_or i.first (length m.blocks) 0 ≡ over length m.blocks
  pub first_few : (b : ℕ) → get_or i.first b 0 ≤ Limit.ACTIONS
  pub acts_at : (b j : ℕ) (x : Action) → get_elem? (block m b) j ≡ some x →
      ActionAt bs (get_or i.place (get_or i.first b 0 + j) 0) x

-- The graph g is that of the model m, where `first` of the index says where each block begins.
pub record GraphTies (m : Model) (start : Bool) (first : List ℕ) (g : Graph) : Type 0 where
  pub own_at : (b j : ℕ) (x : Action) → get_elem? (block m b) j ≡ some x → get_or g.own (get_or first b 0 + j) 0 ≡ own_weight x
  pub times_at : (b j : ℕ) (x : Action) → get_elem? (block m b) j ≡ some x → get_or g.times (get_or first b 0 + j) 0 ≡ times_of x
  pub goes_at : (b j : ℕ) (x : Action) → get_elem? (block m b) j ≡ some x →
      slice (get_or g.from (get_or first b 0 + j) 0) (get_or g.from (get_or first b 0 + j + 1) 0) g.goes ≡ goes_of start m x
  pub block_goes : (b : ℕ) → b < length m.blocks →
      slice (get_or g.from (get_or first b 0) 0) (get_or g.from (get_or first (b + 1) 0) 0) g.goes
      ≡ collect (goes_of start m) (block m b)
  pub rising : (a : ℕ) → a < over length m.blocks → get_or g.from a 0 ≤ get_or g.from (a + 1) 0
  pub from_few : (a : ℕ) → get_or g.from a 0 ≤ Limit.BRANCHES

-- At byte p stands the claim of the offer o, whole and valid, with the block that it enters, if it enters one, right before it.
pub record ClaimAt (bs : List ℕ) (p : ℕ) (o : Offer) : Type 0 where
  pub behind : 2 ≤ p
  pub inside : p + (2 + 8 * u16 bs p) ≤ length bs
  pub items_few : u16 bs p ≤ 4
  pub items_valid : all (part_valid item) (parts_of item (drop p bs)) ≡ true
  pub claim_is : claim_in (drop p bs) ≡ o.claim
  pub enters : (b : ℕ) → o.and_then ≡ enter_block b → u16 bs (p - 2) ≡ b

-- The n-th of the branches r is the offer o.
pub record BranchAt (bs : List ℕ) (r : Branches) (n : ℕ) (o : Offer) : Type 0 where
  pub claim_at : ClaimAt bs (get_or r.claim n 0) o
  pub resources_are : get_or r.resources n 0 ≡ named_in Item.GET_R (drop (get_or r.claim n 0) bs)
  pub bins_are : get_or r.bins n 0 ≡ named_in Item.GET_B (drop (get_or r.claim n 0) bs)
  pub syncs_are : get_or r.syncs n 0 ≡ named_in Item.GET_S (drop (get_or r.claim n 0) bs)

-- The branches of action a are the offers os.
pub record BranchesAt (bs : List ℕ) (r : Branches) (a : ℕ) (os : List Offer) : Type 0 where
  pub from_few : get_or r.from a 0 + length os ≤ Limit.BRANCHES
  pub to_is : get_or r.from (a + 1) 0 ≡ get_or r.from a 0 + length os
  pub each : (k : ℕ) (o : Offer) → get_elem? os k ≡ some o → BranchAt bs r (get_or r.from a 0 + k) o

-- What the samplers x draw from is what those of the model m do.
pub record SamplerTies (m : Model) (x : Samplers) : Type 0 where
  pub lowest_are : (i : ℕ) → i < length m.samplers → get_or x.lowest i 0 ≡ code (sampler m i).lowest
  pub values_are : (i : ℕ) → i < length m.samplers →
      get_or x.values i 0 ≡ values_in (sampler m i).lowest (sampler m i).highest
