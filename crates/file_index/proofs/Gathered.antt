-- The tables of fine records, and what the records make: the model. Assumes nothing.
use Rattle.std.specs.Prelude.{if◌then◌else◌}
use mathlib.Core.Path.{◌≡◌, refl, sym, ◌∙◌, ap, subst}
use mathlib.Core.List.{List, [], ◌∷◌, ◌++◌, map}
use mathlib.Core.Bool.{Bool, true, false, ◌||◌}
use Prim.Native.Nat.{ℕ, suc, ◌+◌}
use native.Mathlib.Omega.{arith}
use lib.Dec.{eqb, leb, ltb, leb-suc-suc}
use borrow.Author.Tests.{leb-false, ne_eqb}
use lib.ListN.{length, get_or, drop}
use Rattle.semantics.specs.Words.{more, collect, any}
use Rattle.semantics.specs.Kinds as K
use Rattle.semantics.specs.Model.{Action, Model, body}
use Rattle.semantics.specs.Bytes.{Raw, raw, torn, u16}
use Rattle.semantics.specs.Record.{branches_from, branch_of, branches_in, Entry, RES, BIN, SYNC, VAR, CLASS, BLOCK, ENTITY, SAMPLER}
use Rattle.semantics.specs.Record.{ACTION, Row, table, row_of}
use Rattle.semantics.specs.Decode.{accepted, placed, saw, first_pass, Gathered, adds, no_model, gather}
use Rattle.semantics.specs.Bound as Bound
use Rattle.promises.specs.Laws.{no_way, ◌&◌, AllOf, once, set_away}
use Rattle.promises.specs.Passes.{not_accepted, its_row}
use Rattle.promises.specs.Counted.{group_of}
use Rattle.file_index.specs.Index.{Judged, given, Act, acts, acts_of, firsts_of, bodies_of, own_in, times_in, branch_blocks}
use Rattle.file_index.specs.Index.{goes_in, runs, loops_at, loops_from, sampler_in, samplers_in}
use Rattle.file_index.specs.Ties.{times_of, goes_of}
use Rattle.file_index.proofs.Records.{Fine, passed_on}

-- BY ENTRIES. What a kind tells of the entry that its record is.
abbrev is_act : Entry → Bool
is_act (RES n) = false
is_act (BIN n) = false
is_act SYNC = false
is_act (VAR v) = false
is_act (CLASS b) = false
is_act BLOCK = false
is_act (ENTITY x) = false
is_act (SAMPLER x) = false
is_act (ACTION a) = true

abbrev is_block : Entry → Bool
is_block (RES n) = false
is_block (BIN n) = false
is_block SYNC = false
is_block (VAR v) = false
is_block (CLASS b) = false
is_block BLOCK = true
is_block (ENTITY x) = false
is_block (SAMPLER x) = false
is_block (ACTION a) = false

abbrev class_in : Entry → List ℕ
class_in (RES n) = []
class_in (BIN n) = []
class_in SYNC = []
class_in (VAR v) = []
class_in (CLASS b) = b ∷ []
class_in BLOCK = []
class_in (ENTITY x) = []
class_in (SAMPLER x) = []
class_in (ACTION a) = []

abbrev Shows : ℕ → List ℕ → Entry → Type 0
Shows k bs e = (acts k ≡ is_act e) × ((eqb k K.BLOCK ≡ is_block e) × (given (eqb k K.CLASS) (u16 bs 0) ≡ class_in e))

abbrev RowShows : List ℕ → Row → Type 0
RowShows bs r = Shows r.kind bs (r.says bs)

rows_show : (bs : List ℕ) → AllOf (RowShows bs) table
rows_show bs =
    told & told & told & told & told & told & told & told & told & told & told & told & told & told & told & told & told & told
    & told & told & told & told & told & tt
  where
    told : {x y : Bool} {z : List ℕ} → (x ≡ x) × ((y ≡ y) × (z ≡ z))
    told = (refl, (refl, refl))

shows : (k : ℕ) (bs : List ℕ) → Judged k bs → Shows k bs ((row_of k).says bs)
shows k bs j =
    let r = its_row (RowShows bs) (rows_show bs) k j.grouped in (
      ap acts r.1 ∙ r.0.0,
      (ap (λ x. eqb x 6) r.1 ∙ r.0.1.0, ap (λ x. given (eqb x 5) (u16 bs 0)) r.1 ∙ r.0.1.1),
    )

-- What the records make, one by one: opened by these two alone, since `gather` opens the whole table.
pub gather_none : gather [] ≡ record { model = no_model; loose = [] }
unfolding gather
gather_none = refl

pub gather_more : (at k : ℕ) (bs : List ℕ) (rs : List Raw) → gather (raw at k bs ∷ rs) ≡ adds (gather rs) ((row_of k).says bs)
unfolding gather
gather_more at k bs rs = refl

-- CLASSES.
pub bodies_are : (rs : List Raw) → Fine rs → bodies_of rs ≡ (gather rs).model.classes
unfolding bodies_of
bodies_are [] f = rw gather_none
bodies_are (torn at ∷ rs) f = absurd f
bodies_are (raw at k bs ∷ rs) f =
    rw (gather_more at k bs rs, (shows k bs f.0).1.1, bodies_are rs f.1) (go (gather rs) ((row_of k).says bs))
  where
    go : (g : Gathered) (e : Entry) → class_in e ++ g.model.classes ≡ (adds g e).model.classes
    go g (RES n) = refl
    go g (BIN n) = refl
    go g SYNC = refl
    go g (VAR v) = refl
    go g (CLASS b) = refl
    go g BLOCK = refl
    go g (ENTITY x) = refl
    go g (SAMPLER x) = refl
    go g (ACTION a) = refl

-- SAMPLERS.
abbrev RowSamples : List ℕ → Row → Type 0
RowSamples bs r = (g : Gathered) → sampler_in r.kind bs ++ g.model.samplers ≡ (adds g (r.says bs)).model.samplers

rows_sample : (bs : List ℕ) → AllOf (RowSamples bs) table
rows_sample bs =
    (λ g. refl) & (λ g. refl) & (λ g. refl) & (λ g. refl) & (λ g. refl) & (λ g. refl) & (λ g. refl) & (λ g. refl)
    & (λ g. refl) & (λ g. refl) & (λ g. refl) & (λ g. refl) & (λ g. refl) & (λ g. refl) & (λ g. refl) & (λ g. refl)
    & (λ g. refl) & (λ g. refl) & (λ g. refl) & (λ g. refl) & (λ g. refl) & (λ g. refl) & (λ g. refl) & tt

pub samplers_are : (rs : List Raw) → Fine rs → samplers_in rs ≡ (gather rs).model.samplers
unfolding samplers_in
samplers_are [] f = rw gather_none
samplers_are (torn at ∷ rs) f = absurd f
samplers_are (raw at k bs ∷ rs) f =
    let r = its_row (RowSamples bs) (rows_sample bs) k f.0.grouped in
    rw (gather_more at k bs rs, samplers_are rs f.1)
    (ap (λ x. sampler_in x bs ++ (gather rs).model.samplers) r.1 ∙ r.0 (gather rs))

-- BLOCKS begin where the actions before them end.
pub firsts_are : (n : ℕ) (rs : List Raw) → Fine rs →
    firsts_of n rs ≡ runs length (n + length (gather rs).loose) (gather rs).model.blocks
unfolding firsts_of runs
firsts_are n [] f = let e : n + 0 ≡ n = omega arith in rw (gather_none, e)
firsts_are n (torn at ∷ rs) f = absurd f
firsts_are n (raw at k bs ∷ rs) f =
    let s = shows k bs f.0 in
    rw (gather_more at k bs rs, s.0, s.1.0)
    (go (gather rs) ((row_of k).says bs) (λ n. firsts_of n rs) (λ n. firsts_are n rs f.1))
  where
    go : (g : Gathered) (e : Entry) (h : ℕ → List ℕ) →
        ((n : ℕ) → h n ≡ runs length (n + length g.loose) g.model.blocks) →
        given (is_block e) n ++ h (if is_act e then n + 1 else n)
        ≡ runs length (n + length (adds g e).loose) (adds g e).model.blocks
    go g (RES x) h i = i n
    go g (BIN x) h i = i n
    go g SYNC h i = i n
    go g (VAR v) h i = i n
    go g (CLASS b) h i = i n
    go g BLOCK h i = let e : n + 0 ≡ n = omega arith in rw e (ap (λ l. n ∷ l) (i n))
    go g (ENTITY x) h i = i n
    go g (SAMPLER x) h i = i n
    go g (ACTION a) h i =
        let e : n + 1 + length g.loose ≡ n + suc (length g.loose) = omega arith in
        i (n + 1) ∙ ap (λ z. runs length z g.model.blocks) e

-- ACTIONS: the records say those of the blocks, one after the other.
abbrev pub entry_of : Act → Entry
entry_of a = (row_of a.kind).says a.body

abbrev pub flat : List (List Action) → List Action
flat = collect (λ b. b)

pub acts_are : (rs : List Raw) → Fine rs →
    map entry_of (acts_of rs) ≡ map ACTION ((gather rs).loose ++ flat (gather rs).model.blocks)
unfolding acts_of
acts_are [] f = rw gather_none
acts_are (torn at ∷ rs) f = absurd f
acts_are (raw at k bs ∷ rs) f =
    rw (gather_more at k bs rs, (shows k bs f.0).0) (go (gather rs) ((row_of k).says bs) refl (acts_are rs f.1))
  where
    go : (g : Gathered) (e : Entry) → (row_of k).says bs ≡ e →
        map entry_of (acts_of rs) ≡ map ACTION (g.loose ++ flat g.model.blocks) →
        map entry_of (if is_act e then record { place = at; kind = k; body = bs } ∷ acts_of rs else acts_of rs)
        ≡ map ACTION ((adds g e).loose ++ flat (adds g e).model.blocks)
    go g (RES n) q i = i
    go g (BIN n) q i = i
    go g SYNC q i = i
    go g (VAR v) q i = i
    go g (CLASS b) q i = i
    go g BLOCK q i = i
    go g (ENTITY x) q i = i
    go g (SAMPLER x) q i = i
    go g (ACTION a) q i = rw (q, i)

-- No action stands before the first BLOCK.
abbrev Says : List ℕ → Row → Type 0
Says bs r = group_of (r.says bs) ≡ r.group

rows_say : (bs : List ℕ) → AllOf (Says bs) table
rows_say = omega arith

pub none_loose : (seen : List ℕ) (rs : List Raw) (n : List ℕ) → get_or seen 6 0 ≡ 0 → first_pass seen rs ≡ accepted n →
    (gather rs).loose ≡ []
unfolding first_pass
none_loose seen [] n l e = rw gather_none
none_loose seen (torn at ∷ rs) n l e = not_accepted e
none_loose seen (raw at k bs ∷ rs) n l e =
    let a = passed_on at k bs rs seen n e in
    let g = (its_row (Says bs) (rows_say bs) k a.0.fine.grouped).0 in
    rw (gather_more at k bs rs)
    (go (gather rs) ((row_of k).says bs) (rw (← g, l) at a.0.placed_is)
    (λ h. none_loose (saw seen k) rs n (ap (λ j. get_or (more seen j 1) 6 0) (sym g) ∙ h) a.1))
  where
    away : (j : ℕ) → once j 6 ≡ 0 → get_or (more seen j 1) 6 0 ≡ 0
    away j h = set_away seen j 6 _ 0 h ∙ l

    go : (g : Gathered) (e : Entry) → placed (group_of e) 0 ≡ true →
        (get_or (more seen (group_of e) 1) 6 0 ≡ 0 → g.loose ≡ []) → (adds g e).loose ≡ []
    go g (RES n) p i = i (away 1 refl)
    go g (BIN n) p i = i (away 2 refl)
    go g SYNC p i = i (away 3 refl)
    go g (VAR v) p i = i (away 4 refl)
    go g (CLASS b) p i = i (away 5 refl)
    go g BLOCK p i = refl
    go g (ENTITY x) p i = i (away 7 refl)
    go g (SAMPLER x) p i = i (away 8 refl)
    go g (ACTION a) p i = no_way p

-- EACH ACTION by its record. `bodies` are those of the classes of m.
module _ (start : Bool) (m : Model) (bodies : List ℕ) (same : (c : ℕ) → get_or bodies c 0 ≡ body m c) where
  abbrev ActShows : ℕ → List ℕ → Entry → Type 0
  ActShows k bs (RES n) = Unit {0}
  ActShows k bs (BIN n) = Unit {0}
  ActShows k bs SYNC = Unit {0}
  ActShows k bs (VAR v) = Unit {0}
  ActShows k bs (CLASS b) = Unit {0}
  ActShows k bs BLOCK = Unit {0}
  ActShows k bs (ENTITY x) = Unit {0}
  ActShows k bs (SAMPLER x) = Unit {0}
  ActShows k bs (ACTION x) =
      (own_in k ≡ Bound.own_weight x) × ((times_in k bs ≡ times_of x) × ((goes_in start bodies k bs ≡ goes_of start m x)
      × ((b : ℕ) → loops_at bodies (suc b) k bs ≡ Bound.may_loop m b x)))

  branch_blocks_lem : (bs : List ℕ) → branch_blocks bs ≡ map (λ x. x.block) (branches_in bs)
  unfolding branch_blocks branches_in
  branch_blocks_lem bs = go (branches_from (u16 bs 0) (drop 2 bs))
    where
      go : (xs : List (List ℕ)) → map (λ b. u16 b 0) xs ≡ map (λ x. x.block) (map branch_of xs)
      go [] = refl
      go (x ∷ xs) = ap (λ l. u16 x 0 ∷ l) (go xs)

  abbrev RowActs : List ℕ → Row → Type 0
  RowActs bs r = ActShows r.kind bs (r.says bs)

  starts : (c b : ℕ) → ltb (get_or bodies c 0) (suc b) ≡ leb (body m c) b
  starts c b = rw (same c) (leb-suc-suc (body m c) b)

  rows_act : (bs : List ℕ) → AllOf (RowActs bs) table
  unfolding goes_in
  rows_act bs =
      tt & tt & tt & tt & tt & tt & tt & tt
      & (refl & refl & refl & λ b. refl)
      & (refl & refl & refl & λ b. refl)
      & (refl & refl & refl & λ b. refl)
      & (refl & refl & refl & λ b. refl)
      & (refl & refl & refl & λ b. refl)
      & (refl & refl & refl & λ b. refl)
      & (refl & refl & refl & λ b. refl)
      & (refl & refl & refl & λ b. refl)
      & (refl & refl & refl & λ b. refl)
      & (refl & refl & refl & λ b. refl)
      & (refl & refl & branch_blocks_lem bs & λ b. refl)
      & (refl & refl & refl & λ b. refl)
      & (refl & refl & ap (given start) (same (u16 bs 0)) & λ b. starts (u16 bs 0) b)
      & (refl & refl & refl & λ b. refl)
      & (refl & refl & refl & λ b. refl)
      & tt

  pub act_shows : (k : ℕ) (bs : List ℕ) → Judged k bs → (x : Action) → (row_of k).says bs ≡ ACTION x → ActShows k bs (ACTION x)
  act_shows k bs j x e =
      let r = its_row (RowActs bs) (rows_act bs) k j.grouped in
      subst (ActShows k bs) e (subst (λ y. ActShows y bs ((row_of k).says bs)) (sym r.1) r.0)

  -- LOOPS, behind the first BLOCK and before it.
  abbrev loops_e : ℕ → Entry → Bool
  loops_e b (RES n) = false
  loops_e b (BIN n) = false
  loops_e b SYNC = false
  loops_e b (VAR v) = false
  loops_e b (CLASS x) = false
  loops_e b BLOCK = false
  loops_e b (ENTITY x) = false
  loops_e b (SAMPLER x) = false
  loops_e b (ACTION x) = Bound.may_loop m b x

  loops_none : (own k : ℕ) (bs : List ℕ) → acts k ≡ false → loops_at bodies own k bs ≡ false
  loops_none own k bs e =
      let h = leb-false K.HOLD k e in rw (ne_eqb k K.WHILE (λ f. omega arith), ne_eqb k K.START (λ f. omega arith))

  loops_show : (b k : ℕ) (bs : List ℕ) → Judged k bs → loops_at bodies (suc b) k bs ≡ loops_e b ((row_of k).says bs)
  loops_show b k bs j = go ((row_of k).says bs) refl (shows k bs j).0
    where
      go : (e : Entry) → (row_of k).says bs ≡ e → acts k ≡ is_act e → loops_at bodies (suc b) k bs ≡ loops_e b e
      go (RES n) q a = loops_none (suc b) k bs a
      go (BIN n) q a = loops_none (suc b) k bs a
      go SYNC q a = loops_none (suc b) k bs a
      go (VAR v) q a = loops_none (suc b) k bs a
      go (CLASS x) q a = loops_none (suc b) k bs a
      go BLOCK q a = loops_none (suc b) k bs a
      go (ENTITY x) q a = loops_none (suc b) k bs a
      go (SAMPLER x) q a = loops_none (suc b) k bs a
      go (ACTION x) q a = (act_shows k bs j x q).1.1.1 b

  loops_behind : (b : ℕ) (rs : List Raw) → Fine rs → loops_from bodies (suc b) rs
      ≡ (any (Bound.may_loop m b) (gather rs).loose || Bound.loops_from m (suc b) (gather rs).model.blocks)
  unfolding loops_from
  loops_behind b [] f = rw gather_none
  loops_behind b (torn at ∷ rs) f = absurd f
  loops_behind b (raw at k bs ∷ rs) f =
      rw (gather_more at k bs rs, loops_show b k bs f.0, (shows k bs f.0).1.0)
      (go (gather rs) ((row_of k).says bs) (λ own. loops_from bodies own rs) (λ c. loops_behind c rs f.1))
    where
      join : (x y z : Bool) → (x || (y || z)) ≡ ((x || y) || z)
      join true y z = refl
      join false y z = refl

      go : (g : Gathered) (e : Entry) (h : ℕ → Bool) →
          ((c : ℕ) → h (suc c) ≡ (any (Bound.may_loop m c) g.loose || Bound.loops_from m (suc c) g.model.blocks)) →
          (loops_e b e || h (if is_block e then suc (suc b) else suc b))
          ≡ (any (Bound.may_loop m b) (adds g e).loose || Bound.loops_from m (suc b) (adds g e).model.blocks)
      go g (RES n) h i = i b
      go g (BIN n) h i = i b
      go g SYNC h i = i b
      go g (VAR v) h i = i b
      go g (CLASS x) h i = i b
      go g BLOCK h i = i (suc b)
      go g (ENTITY x) h i = i b
      go g (SAMPLER x) h i = i b
      go g (ACTION x) h i = rw (i b) (join (Bound.may_loop m b x) _ _)

  pub loops_are : (rs : List Raw) → Fine rs → (gather rs).loose ≡ [] →
      loops_from bodies 0 rs ≡ Bound.loops_from m 0 (gather rs).model.blocks
  unfolding loops_from
  loops_are [] f l = rw gather_none
  loops_are (torn at ∷ rs) f l = absurd f
  loops_are (raw at k bs ∷ rs) f l =
      rw (gather_more at k bs rs, (shows k bs f.0).1.0)
      (go (gather rs) ((row_of k).says bs) (shows k bs f.0).0 (rw (gather_more at k bs rs) at l)
      (λ q. loops_are rs f.1 q) (loops_behind 0 rs f.1))
    where
      go : (g : Gathered) (e : Entry) → acts k ≡ is_act e → (adds g e).loose ≡ [] →
          (g.loose ≡ [] → loops_from bodies 0 rs ≡ Bound.loops_from m 0 g.model.blocks) →
          loops_from bodies 1 rs ≡ (any (Bound.may_loop m 0) g.loose || Bound.loops_from m 1 g.model.blocks) →
          (loops_at bodies 0 k bs || loops_from bodies (if is_block e then 1 else 0) rs)
          ≡ Bound.loops_from m 0 (adds g e).model.blocks
      go g (RES n) a q i j = rw (loops_none 0 k bs a) (i q)
      go g (BIN n) a q i j = rw (loops_none 0 k bs a) (i q)
      go g SYNC a q i j = rw (loops_none 0 k bs a) (i q)
      go g (VAR v) a q i j = rw (loops_none 0 k bs a) (i q)
      go g (CLASS x) a q i j = rw (loops_none 0 k bs a) (i q)
      go g BLOCK a q i j = rw (loops_none 0 k bs a) j
      go g (ENTITY x) a q i j = rw (loops_none 0 k bs a) (i q)
      go g (SAMPLER x) a q i j = rw (loops_none 0 k bs a) (i q)
      go g (ACTION x) a q i j = absurd (let z : ◌≡◌ {A = ℕ} 0 1 = cc in omega arith)
