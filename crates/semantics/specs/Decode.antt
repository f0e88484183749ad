-- From the bytes of a model file to the model, or the number and the place of its refusal: checks 1 to 10 in their order
-- (document 01, "Numbers the desk sees").
-- Assumes nothing.
use Rattle.std.specs.Prelude.{ℕ, zero, suc, ◌+◌, ◌-◌, Bool, true, false, not, ◌&&◌, ◌||◌, leb, length, get_or, drop, replicate, ℤ, if◌then◌else◌}
use mathlib.Core.List.{List, [], ◌∷◌, ◌++◌, map}
use Rattle.std.proofs.Math.Dec.{eqb, ltb}
use Rattle.semantics.specs.Words.{Outcome, ok, fails, Passed, passed, ◌>>=◌, ◌>>◌, need, all, collect}
use Rattle.semantics.specs.Words.{largest, more}
use Rattle.semantics.specs.Numbers as No
use Rattle.semantics.specs.Kinds as K
use Rattle.semantics.specs.Model.{Entity, Sampler, Model, block, Action, HOLD, PRIO, TRACE, SET, LSET, DO, PUTR, PUTB}
use Rattle.semantics.specs.Model.{PUTS, BECOME, REQ, TRY, WHILE, START, CLOSE}
use Rattle.semantics.specs.Bytes.{u8, u16, u32, Raw, raw, torn, records_from, parts}
use Rattle.semantics.specs.Record.{nodes, Part, item, share, parts_of, branches_from, Tail, nothing, expression, branches}
use Rattle.semantics.specs.Record.{list_of, Naming, nameless, names, names_local, Entry, RES, BIN, SYNC, VAR, CLASS, BLOCK}
use Rattle.semantics.specs.Record.{ENTITY, SAMPLER, ACTION, row_of, body_judged}

pub data Checked (A : Type 0) : Type 0 where
  refused : ℕ → ℕ → Checked A  -- number, place
  accepted : A → Checked A

-- FIRST, RECORD BY RECORD: 1 to 7. `seen` has, at each group, how many records of it stand before.
-- 3: a declaration stands before the first BLOCK, an action behind one.
abbrev pub placed : ℕ → ℕ → Bool
placed group blocks = eqb group K.BLOCK || (if eqb group K.ACTION then ltb 0 blocks else eqb blocks 0)

unfoldable pub judged : List ℕ → ℕ → List ℕ → Outcome Passed
unfolding row_of body_judged
judged seen k bs = do
  need No.KIND (ltb 0 (row_of k).group)
  need No.PLACE (placed (row_of k).group (get_or seen K.BLOCK 0))
  need No.MANY (ltb (get_or seen (row_of k).group 0) (row_of k).most)
  body_judged (row_of k) bs

abbrev pub saw : List ℕ → ℕ → List ℕ
saw seen k = more seen (row_of k).group 1

unfoldable pub first_pass : List ℕ → List Raw → Checked (List ℕ)
unfolding judged
first_pass seen [] = accepted seen
first_pass seen (torn at ∷ rs) = refused No.SHORT at
first_pass seen (raw at k bs ∷ rs) =
    elim (judged seen k bs) [ fails n ↦ refused n at | ok x ↦ first_pass (saw seen k) rs ]

abbrev pub none_seen : List ℕ
none_seen = replicate K.groups 0

-- THEN, RECORD BY RECORD: 8 and 9. `n` has, at each group, how many records of it the file has.
-- In an expression, op 1 names a global, op 2 a local and op 10 a sampler.
abbrev pub node_known : ℕ → ℕ → List ℕ → Bool
node_known vars samplers d =
    (not (eqb (u16 d 0) 1) || ltb (u32 d 2) vars)
    && ((not (eqb (u16 d 0) 2) || ltb (u32 d 2) No.locals) && (not (eqb (u16 d 0) 10) || ltb (u32 d 2) samplers))

-- The item kinds 0 to 3 name a RES, BIN, SYNC, VAR, which are the groups 1 to 4; a share names a RES.
abbrev pub part_known : Part → List ℕ → List ℕ → Bool
part_known item n i = ltb (u16 i 2) (get_or n (u8 i 0 + K.RES) 0)
part_known share n h = ltb (u16 h 0) (get_or n K.RES 0)

unfoldable pub tail_known : List ℕ → Tail → List ℕ → Bool
unfolding branches_from parts
tail_known n nothing bs = true
tail_known n expression bs = all (node_known (get_or n K.VAR 0) (get_or n K.SAMPLER 0)) (nodes bs)
tail_known n (list_of p) bs = all (part_known p n) (parts_of p bs)
tail_known n branches bs =
    all (λ b. ltb (u16 b 0) (get_or n K.BLOCK 0) && all (part_known item n) (parts_of item (drop 2 b)))
    (branches_from (u16 bs 0) (drop 2 bs))

abbrev pub field_known : List ℕ → Naming → List ℕ → Bool
field_known n nameless bs = true
field_known n (names group at) bs = ltb (u16 bs at) (get_or n group 0)
field_known n (names_local at) bs = ltb (u16 bs at) No.locals

-- The blocks that a DO, TRY or WHILE names.
abbrev pub inner : Action → List ℕ
inner (HOLD e) = []
inner (PRIO e) = []
inner (TRACE e) = []
inner (SET i e) = []
inner (LSET i e) = []
inner (DO n b) = b ∷ []
inner (PUTR i n) = []
inner (PUTB i n) = []
inner (PUTS i n) = []
inner (BECOME i) = []
inner (REQ c) = []
inner (TRY bs) = map (λ x. x.block) bs
inner (WHILE b c) = b ∷ []
inner (START c t h) = []
inner CLOSE = []

abbrev pub inner_of : Entry → List ℕ
inner_of (RES n) = []
inner_of (BIN n) = []
inner_of SYNC = []
inner_of (VAR v) = []
inner_of (CLASS b) = []
inner_of BLOCK = []
inner_of (ENTITY e) = []
inner_of (SAMPLER x) = []
inner_of (ACTION a) = inner a

-- `own` is how many BLOCKs stand before, so an action's own block is own - 1.
unfoldable pub named : List ℕ → ℕ → ℕ → List ℕ → Outcome Passed
unfolding tail_known row_of
named n own k bs = do
  need No.NAME (field_known n (row_of k).naming bs && tail_known n (row_of k).tail (drop (row_of k).head bs))
  need No.ORDER (all (leb own) (inner_of ((row_of k).says bs)))

abbrev pub opened : ℕ → ℕ → ℕ
opened own k = if eqb k K.BLOCK then suc own else own

-- The first pass has refused what is torn: its clause isn't reached here, in `gather` or in `third_pass`.
unfoldable pub second_pass : List ℕ → ℕ → List Raw → Checked Passed
unfolding named
second_pass n own [] = accepted passed
second_pass n own (torn at ∷ rs) = refused No.SHORT at
second_pass n own (raw at k bs ∷ rs) =
    elim (named n own k bs) [ fails x ↦ refused x at | ok y ↦ second_pass n (opened own k) rs ]

-- THE MODEL that the records make: each adds to what those behind it make. So a list is in file order by putting in front, and
-- `loose` are actions whose BLOCK is still to come. Read forwards, each action would go to the end of the last block, and the
-- laws would have to open lists at their end instead of their front.
pub record Gathered : Type 0 where
  pub model : Model
  pub loose : List Action

module _ (g : Gathered) where
  abbrev declaring : List ℕ → List ℕ → ℕ → List ℤ → List ℕ → List Entity → List Sampler → Gathered
  declaring t n k v c e x =
      record {
        model = record {
          totals = t ++ g.model.totals;
          amounts = n ++ g.model.amounts;
          syncs = k + g.model.syncs;
          vars = v ++ g.model.vars;
          classes = c ++ g.model.classes;
          entities = e ++ g.model.entities;
          samplers = x ++ g.model.samplers;
          blocks = g.model.blocks;
        };
        loose = g.loose;
      }

  abbrev opening : Gathered
  opening =
      record {
        model = record {
          totals = g.model.totals;
          amounts = g.model.amounts;
          syncs = g.model.syncs;
          vars = g.model.vars;
          classes = g.model.classes;
          entities = g.model.entities;
          samplers = g.model.samplers;
          blocks = g.loose ∷ g.model.blocks;
        };
        loose = [];
      }

  abbrev pub adds : Entry → Gathered
  adds (RES n) = declaring (n ∷ []) [] 0 [] [] [] []
  adds (BIN n) = declaring [] (n ∷ []) 0 [] [] [] []
  adds SYNC = declaring [] [] 1 [] [] [] []
  adds (VAR v) = declaring [] [] 0 (v ∷ []) [] [] []
  adds (CLASS b) = declaring [] [] 0 [] (b ∷ []) [] []
  adds (ENTITY x) = declaring [] [] 0 [] [] (x ∷ []) []
  adds (SAMPLER x) = declaring [] [] 0 [] [] [] (x ∷ [])
  adds BLOCK = opening
  adds (ACTION x) = record { model = g.model; loose = x ∷ g.loose }

abbrev pub no_model : Model
no_model = record { totals = []; amounts = []; syncs = 0; vars = []; classes = []; entities = []; samplers = []; blocks = [] }

unfoldable pub gather : List Raw → Gathered
unfolding row_of
gather [] = record { model = no_model; loose = [] }
gather (torn at ∷ rs) = gather rs
gather (raw at k bs ∷ rs) = adds (gather rs) ((row_of k).says bs)

-- THEN CLASS BY CLASS: 10. How many blocks nest at b, itself included, where the distance from b to the last block is at most d.
-- 0 isn't reached: 8 and 9 have passed, so each block that is named is there, and later.
module _ (m : Model) where
  unfoldable pub depth_in : ℕ → ℕ → ℕ
  depth_in zero b = 0
  depth_in (suc d) b = suc (largest (map (λ k. depth_in d k) (collect inner (block m b))))

  unfoldable pub depth : ℕ → ℕ
  unfolding depth_in
  depth b = depth_in (length m.blocks - b) b

  unfoldable pub third_pass : List Raw → Checked Passed
  unfolding depth
  third_pass [] = accepted passed
  third_pass (torn at ∷ rs) = refused No.SHORT at
  third_pass (raw at k bs ∷ rs) =
      if eqb k K.CLASS && ltb No.deepest (depth (u16 bs 0)) then refused No.DEEP at else third_pass rs

abbrev pub if_accepted : {A B : Type 0} → Checked A → (A → Checked B) → Checked B
if_accepted (refused n p) f = refused n p
if_accepted (accepted a) f = f a

-- Over 65,535 bytes: 4 at place 0, first of all.
unfoldable pub decode : List ℕ → Checked Model
unfolding records_from first_pass gather second_pass third_pass ◌>>=◌ ◌>>◌ need
decode bs =
    elim (leb (length bs) No.longest_file) [
      | false ↦ refused No.MANY 0
      | true ↦
          let rs : List Raw = records_from 0 bs in
          let m : Model = (gather rs).model in
          if_accepted (first_pass none_seen rs) λ n.
          if_accepted (second_pass n 0 rs) λ x. if_accepted (third_pass m rs) λ y. accepted m
    ]
