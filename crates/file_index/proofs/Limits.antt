-- How many records of each kind a file has that the first pass accepts: no more than the arrays have room for. Assumes nothing.
use Rattle.std.specs.Prelude.{if◌then◌else◌}
use mathlib.Core.Path.{◌≡◌, refl, ◌∙◌, ap}
use mathlib.Core.List.{List, [], ◌∷◌}
use mathlib.Core.Bool.{Bool, true, false}
use Prim.Native.Nat.{ℕ, zero, suc, ◌+◌, ◌*◌, ◌≤◌, ◌<◌}
use native.Mathlib.Omega.{arith}
use lib.Dec.{eqb}
use lib.ListN.{length, get_or, length-set, length-append}
use Rattle.semantics.specs.Words.{more, collect}
use Rattle.semantics.specs.Kinds as K
use Rattle.semantics.specs.Bytes.{Raw, raw, torn, records_from, u16}
use Rattle.semantics.specs.Record.{sampler_of, Row, table, row_of}
use Rattle.semantics.specs.Decode.{accepted, saw, first_pass, none_seen}
use Rattle.promises.specs.Laws.{if_has, AllOf, once, once_self, once_same}
use Rattle.promises.specs.Passes.{not_accepted, its_row}
use Rattle.promises.specs.Counted.{limits}
use Rattle.base_numbers.specs.Limit as Limit
use Rattle.file_index.specs.Index.{Act, Readable, Judged, given, acts, acts_of, firsts_of, bodies_of, goes_by, runs}
use Rattle.file_index.specs.Index.{sampler_in, samplers_in}
use Rattle.file_index.specs.Branches.{offered_by}
use Rattle.file_index.proofs.Records.{Fine, fine_all, passed_on}
use Rattle.file_index.proofs.Bodies.{goes_few, offered_few}

-- How many records of a group there are, and how many there may be.
count_in : ℕ → List Raw → ℕ
count_in g [] = 0
count_in g (torn at ∷ rs) = 0
count_in g (raw at k bs ∷ rs) = once g (row_of k).group + count_in g rs

abbrev Limited : Row → Type 0
Limited r = r.most ≡ get_or limits r.group 0

rows_limited : AllOf Limited table
rows_limited = omega arith

abbrev Countable : Row → Type 0
Countable r = r.group < K.groups

rows_countable : AllOf Countable table
rows_countable = omega arith

more_at : (xs : List ℕ) (i k : ℕ) → i < length xs → get_or (more xs i 1) k 0 ≡ get_or xs k 0 + once k i
more_at [] i k h = absurd (omega arith)
more_at (x ∷ xs) zero zero h = refl
more_at (x ∷ xs) zero (suc k) h = omega arith
more_at (x ∷ xs) (suc i) zero h = omega arith
more_at (x ∷ xs) (suc i) (suc k) h = more_at xs i k (omega arith)

-- one more, where there is room for it
still : (seen : List ℕ) (g j o : ℕ) → once g j ≡ o → get_or seen g 0 ≤ get_or limits g 0 → get_or seen j 0 < get_or limits j 0 →
    get_or seen g 0 + once g j ≤ get_or limits g 0
still seen g j zero e l r = omega arith
still seen g j (suc o) e l r =
    let d = once_same g j (omega arith) in
    let o = ap (λ x. once x j) d in
    let a = ap (λ x. get_or seen x 0) d in
    let b = ap (λ x. get_or limits x 0) d in
    omega (arith, once_self j)

limited : (g : ℕ) (seen : List ℕ) (rs : List Raw) (n : List ℕ) → length seen ≡ K.groups → get_or seen g 0 ≤ get_or limits g 0 →
    first_pass seen rs ≡ accepted n → get_or seen g 0 + count_in g rs ≤ get_or limits g 0
unfolding first_pass count_in
limited g seen [] n h l e = omega arith
limited g seen (torn at ∷ rs) n h l e = not_accepted e
limited g seen (raw at k bs ∷ rs) n h l e =
    let a = passed_on at k bs rs seen n e in
    let j : ℕ = (row_of k).group in
    let t = (its_row Limited rows_limited k a.0.fine.grouped).0 in
    let i = (its_row Countable rows_countable k a.0.fine.grouped).0 in
    let m = more_at seen j g (omega arith) in
    let s = still seen g j (once g j) refl l (omega (arith, a.0.roomy)) in
    let ih = limited g (saw seen k) rs n (length-set seen j _ ∙ h) (omega arith) a.1 in
    omega arith

-- The kinds of a group, as the tables tell them: CLASS is 5, BLOCK 6, SAMPLER 8, actions 16.
abbrev Tells : ℕ → (ℕ → Bool) → Row → Type 0
Tells g f r = length {A = ℕ} (given (f r.kind) 0) ≡ once g r.group

rows_class : AllOf (Tells K.CLASS (λ k. eqb k K.CLASS)) table
rows_class = omega arith

rows_block : AllOf (Tells K.BLOCK (λ k. eqb k K.BLOCK)) table
rows_block = omega arith

rows_sampler : AllOf (Tells K.SAMPLER (λ k. eqb k K.SAMPLER)) table
rows_sampler = omega arith

rows_act : AllOf (Tells K.ACTION acts) table
rows_act = omega arith

tells : (g : ℕ) (f : ℕ → Bool) → AllOf (Tells g f) table → (k : ℕ) → 0 < (row_of k).group → (v : ℕ) →
    length {A = ℕ} (given (f k) v) ≡ once g (row_of k).group
tells g f h k l v =
    let r = its_row (Tells g f) h k l in
    go (f k) ∙ ap (λ x. length {A = ℕ} (given (f x) 0)) r.1 ∙ r.0
  where
    go : (b : Bool) → length {A = ℕ} (given b v) ≡ length {A = ℕ} (given b 0)
    go true = refl
    go false = refl

bodies_count : (rs : List Raw) → Fine rs → length (bodies_of rs) ≡ count_in K.CLASS rs
unfolding bodies_of count_in
bodies_count [] f = refl
bodies_count (torn at ∷ rs) f = absurd f
bodies_count (raw at k bs ∷ rs) f =
    let v : ℕ = u16 bs 0 in
    let t = tells K.CLASS (λ k. eqb k K.CLASS) rows_class k f.0.grouped v in
    omega (arith, length-append (given (eqb k K.CLASS) v) (bodies_of rs), bodies_count rs f.1)

firsts_count : (n : ℕ) (rs : List Raw) → Fine rs → length (firsts_of n rs) ≡ count_in K.BLOCK rs + 1
unfolding firsts_of count_in
firsts_count n [] f = refl
firsts_count n (torn at ∷ rs) f = absurd f
firsts_count n (raw at k bs ∷ rs) f =
    let m : ℕ = if acts k then n + 1 else n in
    let t = tells K.BLOCK (λ k. eqb k K.BLOCK) rows_block k f.0.grouped n in
    omega (arith, length-append (given (eqb k K.BLOCK) n) (firsts_of m rs), firsts_count m rs f.1)

if_more : {A : Type 0} (b : Bool) (x : A) (xs : List A) → length (if b then x ∷ xs else xs) ≡ length {A = ℕ} (given b 0) + length xs
if_more true x xs = omega arith
if_more false x xs = omega arith

acts_count : (rs : List Raw) → Fine rs → length (acts_of rs) ≡ count_in K.ACTION rs
unfolding acts_of count_in
acts_count [] f = refl
acts_count (torn at ∷ rs) f = absurd f
acts_count (raw at k bs ∷ rs) f =
    let t = tells K.ACTION acts rows_act k f.0.grouped 0 in
    omega (arith, if_more (acts k) (record { place = at; kind = k; body = bs }) (acts_of rs), acts_count rs f.1)

samplers_count : (rs : List Raw) → Fine rs → length (samplers_in rs) ≡ count_in K.SAMPLER rs
unfolding samplers_in count_in
samplers_count [] f = refl
samplers_count (torn at ∷ rs) f = absurd f
samplers_count (raw at k bs ∷ rs) f =
    let t = tells K.SAMPLER (λ k. eqb k K.SAMPLER) rows_sampler k f.0.grouped 0 in
    omega (arith, length-append (sampler_in k bs) (samplers_in rs), one (eqb k K.SAMPLER), samplers_count rs f.1)
  where
    one : (b : Bool) → length (if b then sampler_of bs ∷ [] else []) ≡ length {A = ℕ} (given b 0)
    one true = refl
    one false = refl

-- the lists that f gives of the actions, if none is longer than 4
lists_count : {B : Type 0} (f : Act → List B) →
    ((at k : ℕ) (bs : List ℕ) → Judged k bs → length (f (record { place = at; kind = k; body = bs })) ≤ 4) →
    (rs : List Raw) → Fine rs → length (collect f (acts_of rs)) ≤ 4 * length (acts_of rs)
unfolding acts_of
lists_count f h [] g = omega arith
lists_count f h (torn at ∷ rs) g = absurd g
lists_count f h (raw at k bs ∷ rs) g =
    let a : Act = record { place = at; kind = k; body = bs } in
    if_has (λ (l : List Act). length (collect f l) ≤ 4 * length l) (acts k)
    (λ e. omega (arith, h at k bs g.0, length-append (f a) (collect f (acts_of rs)), lists_count f h rs g.1))
    (λ e. lists_count f h rs g.1)

pub runs_count : {A : Type 0} (f : A → ℕ) (n : ℕ) (xs : List A) → length (runs f n xs) ≡ length xs + 1
unfolding runs
runs_count f n [] = refl
runs_count f n (x ∷ xs) = omega (arith, runs_count f (n + f x) xs)

-- ROOM in the arrays.
module _ (s : List ℕ) (r : Readable s) where
  fine : Fine (records_from 0 s)
  fine = fine_all none_seen (records_from 0 s) r.accepts.0 r.accepts.1

  few : (g : ℕ) → get_or none_seen g 0 ≡ 0 → count_in g (records_from 0 s) ≤ get_or limits g 0
  few g e = let h = limited g none_seen (records_from 0 s) r.accepts.0 refl (omega arith) r.accepts.1 in omega arith

  pub few_bodies : length (bodies_of (records_from 0 s)) ≤ Limit.CLASSES
  few_bodies = omega (arith, few K.CLASS refl, bodies_count (records_from 0 s) fine)

  pub few_firsts : length (firsts_of 0 (records_from 0 s)) ≤ Limit.BLOCKS + 1
  few_firsts = omega (arith, few K.BLOCK refl, firsts_count 0 (records_from 0 s) fine)

  pub few_acts : length (acts_of (records_from 0 s)) ≤ Limit.ACTIONS
  few_acts = omega (arith, few K.ACTION refl, acts_count (records_from 0 s) fine)

  pub few_samplers : length (samplers_in (records_from 0 s)) ≤ Limit.SAMPLERS
  few_samplers = omega (arith, few K.SAMPLER refl, samplers_count (records_from 0 s) fine)

  few_lists : {B : Type 0} (f : Act → List B) →
      ((at k : ℕ) (bs : List ℕ) → Judged k bs → length (f (record { place = at; kind = k; body = bs })) ≤ 4) →
      length (collect f (acts_of (records_from 0 s))) ≤ Limit.BRANCHES
  few_lists f h = omega (arith, lists_count f h (records_from 0 s) fine, few_acts)

  pub few_goes : (start : Bool) (bodies : List ℕ) →
      length (collect (goes_by start bodies) (acts_of (records_from 0 s))) ≤ Limit.BRANCHES
  few_goes start bodies = few_lists (goes_by start bodies) (λ at k bs j. goes_few start bodies k bs j)

  pub few_offered : length (collect offered_by (acts_of (records_from 0 s))) ≤ Limit.BRANCHES
  few_offered = few_lists offered_by (λ at k bs j. offered_few (at + 4) k bs j)
