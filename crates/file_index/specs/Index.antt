-- What the rest of the engine reads an accepted model file by: where its blocks, classes and actions stand, which blocks each
-- action names, whether it may loop, how many things it declares, and what its samplers draw from.
-- Assumes nothing.
use Rattle.std.specs.Prelude.{ℕ, ◌+◌, ◌-◌, ◌≤◌, ◌<◌, ◌≡◌, List, [], ◌∷◌, ◌++◌, map, Bool, true, false, ◌&&◌, ◌||◌, eqb, leb, ltb, length, get_or, drop, replicate, if◌then◌else◌}
use Rattle.std.proofs.lemmas.List.Edits.{sets}
use Rattle.semantics.specs.Words.{ok, passed, collect}
use Rattle.semantics.specs.Numbers as No
use Rattle.semantics.specs.Kinds as K
use Rattle.semantics.specs.Model.{Sampler, Model}
use Rattle.semantics.specs.Bytes.{u16, Raw, raw, torn, records_from}
use Rattle.semantics.specs.Record.{branches_from, branches_fit, sampler_of, row_of, body_judged}
use Rattle.semantics.specs.Decode.{accepted, first_pass, none_seen, opened}
use Rattle.semantics.specs.Bound.{own_weights}
use Rattle.semantics.specs.Generator.{values_in}
use Rattle.base_numbers.specs.Limit as Limit
use Rattle.base_i32.specs.Code.{code}
use Rattle.file_index.specs.declared.Index.{Index}
use Rattle.file_index.specs.declared.Graph.{Graph}
use Rattle.file_index.specs.declared.Counts.{Counts}
use Rattle.file_index.specs.declared.Samplers.{Samplers}

-- The bytes of a file that the first pass accepts.
pub record Readable (bs : List ℕ) : Type 0 where
  pub short : length bs ≤ No.longest_file
  pub accepts : (n : List ℕ) × (first_pass none_seen (records_from 0 bs) ≡ accepted n)

-- A record's body that checks 2, 5, 6 and 7 have passed.
pub record Judged (k : ℕ) (bs : List ℕ) : Type 0 where
  pub grouped : 0 < (row_of k).group
  pub body_judged : body_judged (row_of k) bs ≡ ok passed

-- xs in an array of n; what is not used is 0.
abbrev pub pad : ℕ → List ℕ → List ℕ
pad n xs = xs ++ replicate (n - length xs) 0

-- One value, or none.
abbrev pub given : {A : Type 0} → Bool → A → List A
given true v = v ∷ []
given false v = []

-- After xs was written at n of `before`: where the next is written, and what stands there.
pub record Wrote {A : Type 0} (n : ℕ) (xs before : List A) (next : ℕ) (after : List A) : Type 0 where
  pub next_is : next ≡ n + length xs
  pub after_is : after ≡ sets before n xs

-- THE INDEX. An action's record: its byte place, its kind and its body.
pub record Act : Type 0 where
  pub place : ℕ
  pub kind : ℕ
  pub body : List ℕ

-- Whether a record of kind k is an action's.
abbrev pub acts : ℕ → Bool
acts k = leb K.HOLD k

unfoldable pub acts_of : List Raw → List Act
acts_of [] = []
acts_of (torn at ∷ rs) = []
acts_of (raw at k bs ∷ rs) = if acts k then record { place = at; kind = k; body = bs } ∷ acts_of rs else acts_of rs

-- How many actions stand before each BLOCK, and at last how many there are; n stand before rs.
unfoldable pub firsts_of : ℕ → List Raw → List ℕ
firsts_of n [] = n ∷ []
firsts_of n (torn at ∷ rs) = n ∷ []
firsts_of n (raw at k bs ∷ rs) = given (eqb k K.BLOCK) n ++ firsts_of (if acts k then n + 1 else n) rs

-- The body blocks of the CLASSes.
unfoldable pub bodies_of : List Raw → List ℕ
bodies_of [] = []
bodies_of (torn at ∷ rs) = []
bodies_of (raw at k bs ∷ rs) = given (eqb k K.CLASS) (u16 bs 0) ++ bodies_of rs

unfoldable pub index_of : List Raw → Index
unfolding acts_of firsts_of bodies_of
index_of rs =
    record {
      blocks = length (firsts_of 0 rs) - 1;
      actions = length (acts_of rs);
      classes = length (bodies_of rs);
      first = pad (Limit.BLOCKS + 1) (firsts_of 0 rs);
      place = pad Limit.ACTIONS (map (λ a. a.place) (acts_of rs));
      body = pad Limit.CLASSES (bodies_of rs);
    }

-- THE GRAPH. By an action's kind and body: its own weight; how many times it weighs what it names; the blocks that it names.
-- The block of a START's class, by the classes' bodies, counts only if `start`.
abbrev pub own_in : ℕ → ℕ
own_in k = get_or own_weights (k - K.HOLD) 0

abbrev pub times_in : ℕ → List ℕ → ℕ
times_in k bs = if eqb k K.DO then u16 bs 0 else if eqb k K.TRY || eqb k K.START then 1 else 0

unfoldable pub branch_blocks : List ℕ → List ℕ
unfolding branches_from
branch_blocks bs = map (λ b. u16 b 0) (branches_from (u16 bs 0) (drop 2 bs))

-- The branches end with bs, and their blocks can be written at n of `out`.
pub record Branched (bs : List ℕ) (n : ℕ) (out : List ℕ) : Type 0 where
  pub counted : 2 ≤ length bs
  pub fits : branches_fit (u16 bs 0) (drop 2 bs) ≡ true
  pub room : n + length (branch_blocks bs) ≤ length out

unfoldable pub goes_in : Bool → List ℕ → ℕ → List ℕ → List ℕ
unfolding branch_blocks
goes_in start bodies k bs =
    if eqb k K.DO then u16 bs 2 ∷ []
    else if eqb k K.WHILE then u16 bs 0 ∷ []
    else if eqb k K.TRY then branch_blocks bs
    else if eqb k K.START then given start (get_or bodies (u16 bs 0) 0)
    else []

abbrev pub goes_by : Bool → List ℕ → Act → List ℕ
goes_by start bodies a = goes_in start bodies a.kind a.body

-- n, and n with f of one more of xs added each time.
unfoldable pub runs : {A : Type 0} → (A → ℕ) → ℕ → List A → List ℕ
runs f n [] = n ∷ []
runs f n (x ∷ xs) = n ∷ runs f (n + f x) xs

unfoldable pub graph_of : Bool → List ℕ → List Raw → Graph
unfolding acts_of runs goes_in
graph_of start bodies rs =
    record {
      own = pad Limit.ACTIONS (map (λ a. own_in a.kind) (acts_of rs));
      times = pad Limit.ACTIONS (map (λ a. times_in a.kind a.body) (acts_of rs));
      from = pad (Limit.ACTIONS + 1) (runs (λ a. length (goes_by start bodies a)) 0 (acts_of rs));
      goes = pad Limit.BRANCHES (collect (goes_by start bodies) (acts_of rs));
    }

-- LOOPS: a WHILE, or a START whose class's body block isn't greater than the START's own block. `own` BLOCKs stand before, so
-- an action's own block is own - 1.
abbrev pub loops_at : List ℕ → ℕ → ℕ → List ℕ → Bool
loops_at bodies own k bs = eqb k K.WHILE || (eqb k K.START && ltb (get_or bodies (u16 bs 0) 0) own)

unfoldable pub loops_from : List ℕ → ℕ → List Raw → Bool
loops_from bodies own [] = false
loops_from bodies own (torn at ∷ rs) = false
loops_from bodies own (raw at k bs ∷ rs) = loops_at bodies own k bs || loops_from bodies (opened own k) rs

unfoldable pub loops_in : List ℕ → List Raw → Bool
unfolding loops_from
loops_in bodies rs = loops_from bodies 0 rs

-- HOW MANY resources, bins, syncs, variables and samplers a model has.
abbrev pub counts_in : Model → Counts
counts_in m =
    record {
      resources = length m.totals;
      bins = length m.amounts;
      syncs = m.syncs;
      variables = length m.vars;
      samplers = length m.samplers;
    }

-- THE SAMPLERS of the records. Of one record: the sampler that it is, if it is one; the code of its lowest value; how many values
-- it has.
abbrev pub sampler_in : ℕ → List ℕ → List Sampler
sampler_in k bs = if eqb k K.SAMPLER then sampler_of bs ∷ [] else []

abbrev pub lowest_in : ℕ → List ℕ → ℕ
lowest_in k bs = if eqb k K.SAMPLER then code (sampler_of bs).lowest else 0

abbrev pub values_for : ℕ → List ℕ → ℕ
values_for k bs = if eqb k K.SAMPLER then values_in (sampler_of bs).lowest (sampler_of bs).highest else 0

unfoldable pub samplers_in : List Raw → List Sampler
samplers_in [] = []
samplers_in (torn at ∷ rs) = []
samplers_in (raw at k bs ∷ rs) = sampler_in k bs ++ samplers_in rs

unfoldable pub samplers_of : List Raw → Samplers
unfolding samplers_in
samplers_of rs =
    record {
      lowest = pad Limit.SAMPLERS (map (λ x. code x.lowest) (samplers_in rs));
      values = pad Limit.SAMPLERS (map (λ x. values_in x.lowest x.highest) (samplers_in rs));
    }
