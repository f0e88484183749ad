-- The rows of the map: how long each is, where it begins, and that they are laid one behind the other. Assumes nothing.
use mathlib.Core.Path.{◌≡◌, refl, ◌∙◌, ap}
use mathlib.Core.List.{List, [], ◌∷◌, ◌++◌, map, append-nil}
use Prim.Native.Nat.{ℕ, zero, suc, ◌+◌, ◌-◌, ◌≤◌, ◌<◌}
use native.Mathlib.Omega.{arith}
use lib.ListN.{length, get_or, take, replicate, length-append, length-replicate, length-map, get_or-append}
use lib.Seq.{get_or-append-add, sets}
use Rattle.semantics.specs.Words.{collect}
use Rattle.semantics.specs.Model.{Sampler}
use Rattle.semantics.specs.Bytes.{Raw, records_from}
use Rattle.semantics.specs.Generator.{values_in}
use Rattle.promises.specs.Laws.{over}
use Rattle.base_numbers.specs.Map as Map
use Rattle.base_numbers.specs.Limit as Limit
use Rattle.base_i32.specs.Code.{code}
use Rattle.file_index.specs.Index.{Readable, pad, Act, acts_of, firsts_of, bodies_of, index_of, runs, samplers_in, samplers_of}
use Rattle.file_index.specs.Branches.{Offered, named_in, offered_by, branches_of}
use Rattle.file_index.specs.declared.Index.{Index}
use Rattle.file_index.specs.declared.Branches.{Branches}
use Rattle.file_index.specs.declared.Samplers.{Samplers}
use Rattle.file_index.proofs.Filled.{Fills, Next, zeros, zeros_none, zeros_filled, next_filled}
use Rattle.file_index.proofs.Limits.{few_firsts, few_acts, few_bodies, few_offered, few_samplers, runs_count}
use Rattle.file_index.proofs.Runs.{collect-length}
use Rattle.file_map.specs.MapOf.{rows_of, map_of}

-- HOW LONG each row is.
pub record Sized (i : Index) (r : Branches) (d : Samplers) : Type 0 where
  pub first : length i.first ≡ Limit.BLOCKS + 1
  pub place : length i.place ≡ Limit.ACTIONS
  pub body : length i.body ≡ Limit.CLASSES
  pub from : length r.from ≡ Limit.ACTIONS + 1
  pub claim : length r.claim ≡ Limit.BRANCHES
  pub resources : length r.resources ≡ Limit.BRANCHES
  pub bins : length r.bins ≡ Limit.BRANCHES
  pub syncs : length r.syncs ≡ Limit.BRANCHES
  pub lowest : length d.lowest ≡ Limit.SAMPLERS
  pub values : length d.values ≡ Limit.SAMPLERS

pad_long : (n : ℕ) (xs : List ℕ) → length xs ≤ n → length (pad n xs) ≡ n
pad_long n xs h =
    omega (arith, length-append xs (replicate (n - length xs) 0), length-replicate {A = ℕ} (n - length xs) 0)

pub rows_sized : (bs : List ℕ) → Readable bs →
    Sized (index_of (records_from 0 bs)) (branches_of (records_from 0 bs)) (samplers_of (records_from 0 bs))
unfolding index_of branches_of samplers_of
rows_sized bs e =
    let xs : List Act = acts_of (records_from 0 bs) in
    let few = few_acts bs e in
    record {
      first = pad_long (Limit.BLOCKS + 1) (firsts_of 0 (records_from 0 bs)) (few_firsts bs e);
      place = pad_long Limit.ACTIONS (map (λ a. a.place) xs) (omega (arith, length-map xs (λ a. a.place)));
      body = pad_long Limit.CLASSES (bodies_of (records_from 0 bs)) (few_bodies bs e);
      from =
          pad_long (Limit.ACTIONS + 1) (runs (λ a. length (offered_by a)) 0 xs)
          (omega (arith, runs_count (λ a. length (offered_by a)) 0 xs));
      claim = row (λ o. o.place);
      resources = row (λ o. named_in 0 o.bytes);
      bins = row (λ o. named_in 1 o.bytes);
      syncs = row (λ o. named_in 2 o.bytes);
      lowest = sampled (λ x. code x.lowest);
      values = sampled (λ x. values_in x.lowest x.highest);
    }
  where
    row : (f : Offered → ℕ) → length (pad Limit.BRANCHES (map f (collect offered_by (acts_of (records_from 0 bs))))) ≡ Limit.BRANCHES
    row f =
        let xs : List Offered = collect offered_by (acts_of (records_from 0 bs)) in
        pad_long Limit.BRANCHES (map f xs) (omega (arith, length-map xs f, few_offered bs e))

    sampled : (f : Sampler → ℕ) → length (pad Limit.SAMPLERS (map f (samplers_in (records_from 0 bs)))) ≡ Limit.SAMPLERS
    sampled f =
        let xs : List Sampler = samplers_in (records_from 0 bs) in
        pad_long Limit.SAMPLERS (map f xs) (omega (arith, length-map xs f, few_samplers bs e))

-- WHERE EACH BEGINS: behind all before it.
row_at : (rows : List (List ℕ)) (k i : ℕ) → i < length (get_or rows k []) →
    get_or (collect (λ row. row) rows) (over length (take k rows) + i) 0 ≡ get_or (get_or rows k []) i 0
row_at [] k i h = absurd (omega arith)
row_at (r ∷ rows) zero i h =
    let z : 0 + i ≡ i = omega arith in rw z (get_or-append r (collect (λ row. row) rows) 0 i h)
row_at (r ∷ rows) (suc k) i h =
    let j : ℕ = over length (take k rows) + i in
    let z : length r + over length (take k rows) + i ≡ length r + j = omega arith in
    rw z (get_or-append-add r (collect (λ row. row) rows) j 0 ∙ row_at rows k i h)

-- The k-th of the rows of a file, which begins at n.
abbrev rows_in : List Raw → List (List ℕ)
rows_in rs = rows_of (index_of rs) (branches_of rs) (samplers_of rs)

pub map_at : (bs : List ℕ) → (k n i : ℕ) → over length (take k (rows_in (records_from 0 bs))) ≡ n →
    i < length (get_or (rows_in (records_from 0 bs)) k []) →
    get_or (map_of (records_from 0 bs)) (n + i) 0 ≡ get_or (get_or (rows_in (records_from 0 bs)) k []) i 0
unfolding map_of
map_at bs k n i e h = rw (← e) (row_at (rows_in (records_from 0 bs)) k i h)

-- LAID one behind the other.
lay_next : {base all out : List ℕ} {n : ℕ} (xs left : List ℕ) → Fills base 0 all out n (xs ++ left) →
    {after : List ℕ} → after ≡ sets out n xs → (k : ℕ) → n + length xs ≡ k → Fills base 0 all after k left
lay_next {base} {all} {out} {n} xs left f e k j =
    let x : Next base 0 all out n xs left = record { fills = f } in rw (e, ← j) (next_filled x)

pub rows_laid : {i : Index} {r : Branches} {x : Samplers} → Sized i r x → {a b c d e f g h j k : List ℕ} →
    a ≡ sets (zeros Map.WORDS) 0 i.first → b ≡ sets a Map.PLACE i.place → c ≡ sets b Map.BODY i.body →
    d ≡ sets c Map.FROM r.from → e ≡ sets d Map.CLAIM r.claim → f ≡ sets e Map.RESOURCES r.resources →
    g ≡ sets f Map.BINS r.bins → h ≡ sets g Map.SYNCS r.syncs → j ≡ sets h Map.LOWEST x.lowest →
    k ≡ sets j Map.VALUES x.values →
    k ≡ collect (λ row. row) (rows_of i r x)
rows_laid {i} {r} {x} s p₁ p₂ p₃ p₄ p₅ p₆ p₇ p₈ p₉ p₁₀ =
    let all : List ℕ = collect (λ row. row) (rows_of i r x) in
    let l : length all ≡ Map.WORDS = omega (arith, collect-length (λ row. row) (rows_of i r x)) in
    let f₀ = zeros_none Map.WORDS all all (omega arith) refl in
    let f₁ = lay_next i.first _ f₀ p₁ Map.PLACE (omega (arith, s.first)) in
    let f₂ = lay_next i.place _ f₁ p₂ Map.BODY (omega (arith, s.place)) in
    let f₃ = lay_next i.body _ f₂ p₃ Map.FROM (omega (arith, s.body)) in
    let f₄ = lay_next r.from _ f₃ p₄ Map.CLAIM (omega (arith, s.from)) in
    let f₅ = lay_next r.claim _ f₄ p₅ Map.RESOURCES (omega (arith, s.claim)) in
    let f₆ = lay_next r.resources _ f₅ p₆ Map.BINS (omega (arith, s.resources)) in
    let f₇ = lay_next r.bins _ f₆ p₇ Map.SYNCS (omega (arith, s.bins)) in
    let f₈ = lay_next r.syncs _ f₇ p₈ Map.LOWEST (omega (arith, s.syncs)) in
    let f₉ = lay_next x.lowest _ f₈ p₉ Map.VALUES (omega (arith, s.lowest)) in
    let f₁₀ = lay_next x.values [] f₉ p₁₀ Map.WORDS (omega (arith, s.values)) in
    let z : Map.WORDS - length all ≡ 0 = omega arith in
    (zeros_filled Map.WORDS refl f₁₀).1 ∙ ap (λ n. all ++ zeros n) z ∙ append-nil all
