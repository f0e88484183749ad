-- The work while a model's resources, bins, variables and samplers are declared one by one. Assumes nothing.
use Prim.Native.Nat.{ℕ, zero, suc, ◌+◌, ◌-◌, ◌*◌, ◌≤◌}
use native.Mathlib.Omega.{arith}
use mathlib.Core.Path.{◌≡◌, refl, sym, subst, ◌∙◌, ap}
use mathlib.Core.List.{List, [], ◌∷◌, ◌++◌, map, append_assoc}
use mathlib.Core.Bool.{Bool, true, false}
use lib.ListN.{length, get_or, set, take, drop, replicate, length-append, length-take, length-drop, length-replicate}
use lib.ListN.{length-map, replicate-append-replicate}
use lib.Seq.{sets, take_all, drop-length, drop-drop, drop-append_seam}
use Rattle.semantics.specs.Words.{collect, sum}
use Rattle.semantics.specs.Numbers as No
use Rattle.semantics.specs.Model.{Model}
use Rattle.semantics.specs.State.{State, Waiter, nobody, with_globals, with_free, with_bins, with_seeds, bare}
use Rattle.promises.specs.Laws.{AllOf, all_map, all_mapped, all_append, all_replicate}
use Rattle.promises.specs.Fit.{I32, SamplerFit, Fit}
use Rattle.promises.specs.Sound.{Seed}
use Rattle.base_numbers.specs.Row as Row
use Rattle.base_numbers.specs.Limit as Limit
use Rattle.base_i32.specs.Code.{code}
use Rattle.base_ordered.specs.Lines.{pad}
use Rattle.base_places.specs.Places.{living_of}
use Rattle.row_work.specs.Laid.{laid, laid-set, even_length}
use Rattle.row_work.specs.Work.{process_row, work_parts, work_widths, work_of, waiters_row, ProcessSized, WaitersSized, Sized}
use Rattle.row_work.specs.Shown.{work_wide}
use Rattle.file_index.specs.Index.{given}
use Rattle.run_fresh.specs.Fresh.{vacant_work}
use Rattle.row_begin_end.proofs.Rows.{zeros_padded}

-- The seeds that the samplers of m start with.
abbrev pub seeds_in : Model → List ℕ
seeds_in m = map (λ x. x.seed) m.samplers

-- The first resources, bins, variables and samplers of m.
abbrev pub partly : Model → ℕ → ℕ → ℕ → ℕ → State
partly m i j k l =
    with_free
    (with_bins (with_globals (with_seeds (bare m) (take l (seeds_in m))) (take k m.vars)) (take j m.amounts))
    (take i m.totals)

-- i of xs are through, and `left` are still to come.
pub record Left (xs : List ℕ) (i : ℕ) (left : List ℕ) : Type 0 where
  pub few : i ≤ length xs
  pub left_is : drop i xs ≡ left

module _ (xs : List ℕ) (i : ℕ) (zs r : List ℕ) (l : Left xs i (zs ++ r)) where
  pub left_room : i + length zs ≤ length xs
  left_room = omega (arith, l.few, ap length l.left_is, length-drop i xs, length-append zs r)

  pub left_next : Left xs (i + length zs) r
  left_next =
      record {
        few = left_room;
        left_is = sym (drop-drop (length zs) i xs) ∙ ap (drop (length zs)) l.left_is ∙ drop-append_seam zs r;
      }

-- A ROW that is filled from the front: one more of xs.
pad_more : (n : ℕ) (xs : List ℕ) (i v : ℕ) (r : List ℕ) → length xs ≤ n → drop i xs ≡ v ∷ r
    → set (pad n (take i xs)) i v ≡ pad n (take (i + 1) xs)
pad_more n [] zero v r l e = let z : ◌≡◌ {A = ℕ} 0 1 = cc in absurd (omega arith)
pad_more n [] (suc i) v r l e = let z : ◌≡◌ {A = ℕ} 0 1 = cc in absurd (omega arith)
pad_more zero (x ∷ xs) i v r l e = absurd (omega arith)
pad_more (suc n) (x ∷ xs) zero v r l e =
    let a : suc n - 1 ≡ n = omega arith in
    let b : x ≡ v = cc in
    let c : suc n - 0 ≡ suc n = omega arith in
    rw (c, a, b)
pad_more (suc n) (x ∷ xs) (suc i) v r l e =
    let ih = pad_more n xs i v r (omega arith) e in
    let a : suc n - suc (length (take i xs)) ≡ n - length (take i xs) = omega arith in
    let b : suc n - suc (length (take (i + 1) xs)) ≡ n - length (take (i + 1) xs) = omega arith in
    let c : suc i + 1 ≡ suc (i + 1) = omega arith in
    rw (c, a, b) (ap (λ l. x ∷ l) ih)

-- THE NUMBERS of a part of a list are a part of its numbers.
take-map : {A : Type 0} (f : A → ℕ) (i : ℕ) (xs : List A) → map f (take i xs) ≡ take i (map f xs)
take-map f zero xs = refl
take-map f (suc i) [] = refl
take-map f (suc i) (x ∷ xs) = ap (λ l. f x ∷ l) (take-map f i xs)

all_take : {A : Type 0} (P : A → Type 0) (i : ℕ) (xs : List A) → AllOf P xs → AllOf P (take i xs)
all_take P zero xs h = tt
all_take P (suc i) [] h = tt
all_take P (suc i) (x ∷ xs) h = (h.0, all_take P i xs h.1)

take_few : {A : Type 0} (n i : ℕ) (xs : List A) → length xs ≤ n → length (take i xs) ≤ n
take_few n i xs h = simp length-take (omega arith)

-- NOBODY WAITS, as many syncs as there are.
abbrev empties : ℕ → List (List Waiter)
empties n = replicate n []

module _ (n : ℕ) (few : n ≤ Limit.THINGS) where
  no_counts : (k : ℕ) → AllOf (λ x. x ≡ 0) (map length (empties k))
  no_counts zero = tt
  no_counts (suc k) = (refl, no_counts k)

  counts_none : pad Limit.THINGS (map length (empties n)) ≡ replicate Limit.THINGS 0
  counts_none =
      let a : length (map length (empties n)) ≡ length (empties n) = length-map (empties n) length in
      let b : length (empties n) ≡ n = length-replicate n [] in
      zeros_padded Limit.THINGS (map length (empties n)) (no_counts n) (omega arith)

  no_waiters : (k : ℕ) → AllOf (λ x. x ≡ 0) (collect waiters_row (empties k))
  no_waiters zero = tt
  no_waiters (suc k) =
      all_append (λ x. x ≡ 0) (replicate Row.WAITERS_MOST 0) (collect waiters_row (empties k))
      (all_replicate (λ x. x ≡ 0) Row.WAITERS_MOST 0 refl) (no_waiters k)

  waiting_none : pad Row.WAITERS_ALL (collect waiters_row (empties n)) ≡ replicate Row.WAITERS_ALL 0
  waiting_none =
      let a : length (collect waiters_row (empties n)) ≡ Row.WAITERS_MOST * length (empties n) =
      even_length waiters_row Row.WAITERS_MOST (empties n)
      (all_replicate (λ ws. length (waiters_row ws) ≡ Row.WAITERS_MOST) n [] refl) in
      let b : length (empties n) ≡ n = length-replicate n [] in
      zeros_padded Row.WAITERS_ALL (collect waiters_row (empties n)) (no_waiters n) (omega arith)

-- ROWS OF ZEROS, and others behind them.
abbrev zero_rows : List ℕ → List (List ℕ)
zero_rows ns = map (λ n. replicate n 0) ns

zeros_laid : (ns : List ℕ) (rs : List (List ℕ)) → laid (zero_rows ns ++ rs) ≡ replicate (sum ns) 0 ++ laid rs
unfolding laid
zeros_laid [] rs = refl
zeros_laid (n ∷ ns) rs =
    ap (λ l. replicate n 0 ++ l) (zeros_laid ns rs)
    ∙ sym (append_assoc (replicate n 0) (replicate (sum ns) 0) (laid rs))
    ∙ ap (λ l. l ++ laid rs) (replicate-append-replicate n (sum ns) 0)

-- WHAT IS DECLARED of a model that fits, can be shown.
module _ (m : Model) (f : Fit m) where
  pub few_seeds : length (seeds_in m) ≤ Limit.SAMPLERS
  few_seeds = let a : length (seeds_in m) ≡ length m.samplers = length-map m.samplers (λ x. x.seed) in
      omega (arith, f.few_samplers)

  pub partly_sized : (i j k l : ℕ) → Sized (partly m i j k l)
  partly_sized i j k l =
      record {
        clock_low = omega arith;
        last_low = omega arith;
        floor_ok = tt;
        free_few = take_few Limit.THINGS i m.totals f.few_totals;
        free_low = all_take _ i m.totals f.totals_fit;
        bins_few = take_few Limit.THINGS j m.amounts f.few_amounts;
        bins_low =
            all_take (λ n. n ≤ No.full_bin) j m.amounts
            (all_map (λ n. n ≤ Limit.AMOUNT) (λ n. n ≤ No.full_bin) (λ n h. omega arith) m.amounts f.amounts_fit);
        globals_few = take_few Limit.THINGS k m.vars f.few_vars;
        globals_ok = all_take I32 k m.vars f.vars_fit;
        syncs_few = let a = f.few_syncs in omega (arith, length-replicate {A = List Waiter} m.syncs []);
        waiting_ok = all_replicate WaitersSized m.syncs [] (record { few = omega arith; each = tt });
        blocked_ok = record { few = omega arith; each = tt };
        events_few = omega arith;
        events_ok = tt;
        places_64 = length-replicate No.places nobody;
        processes_ok = all_replicate ProcessSized No.places nobody (omega arith);
        seeds_few = take_few Limit.SAMPLERS l (seeds_in m) few_seeds;
        seeds_ok =
            all_take Seed l (seeds_in m)
            (all_mapped SamplerFit Seed (λ x. x.seed) (λ x h. h.seed_fits) m.samplers f.samplers_fit);
      }

  pub nothing_yet : vacant_work ≡ work_of (partly m 0 0 0 0)
  unfolding vacant_work work_of living_of laid
  nothing_yet =
      let rows : List (List ℕ) = work_parts (partly m 0 0 0 0) in
      let places : List ℕ = collect process_row (replicate No.places nobody) in
      sym
      (ap (λ l. laid (set rows 4 l)) (counts_none m.syncs f.few_syncs)
      ∙ ap (λ l. laid (set (set rows 4 (replicate Limit.THINGS 0)) 8 l)) (waiting_none m.syncs f.few_syncs)
      ∙ zeros_laid (Row.FREE ∷ Limit.THINGS ∷ Limit.THINGS ∷ Limit.THINGS ∷ Limit.THINGS ∷ Row.WAITERS_MOST
      ∷ Row.EVENTS_MOST ∷ Row.EVENTS_MOST ∷ Row.WAITERS_ALL ∷ []) (places ∷ replicate Limit.SAMPLERS 0 ∷ []))

  -- All of them: those that are still to come are none.
  pub all_declared : (i j k l : ℕ) → Left m.totals i [] → Left m.amounts j [] → Left (map code m.vars) k []
      → Left (seeds_in m) l []
      → partly m i j k l ≡ bare m
  all_declared i j k l a b c d =
      let n : length (map code m.vars) ≡ length m.vars = length-map m.vars code in
      let x = take_all i m.totals (none_left m.totals i a) in
      let y = take_all j m.amounts (none_left m.amounts j b) in
      let z = take_all k m.vars (omega (arith, none_left (map code m.vars) k c)) in
      let u = take_all l (seeds_in m) (none_left (seeds_in m) l d) in
      rw (x, y, z, u)
    where
      none_left : (xs : List ℕ) (n : ℕ) → Left xs n [] → length xs ≤ n
      none_left xs n l = omega (arith, ap length l.left_is, length-drop n xs)

  pub bare_sized : Sized (bare m)
  bare_sized =
      subst Sized
      (all_declared (length m.totals) (length m.amounts) (length (map code m.vars)) (length (seeds_in m))
      (through m.totals) (through m.amounts) (through (map code m.vars)) (through (seeds_in m)))
      (partly_sized (length m.totals) (length m.amounts) (length (map code m.vars)) (length (seeds_in m)))
    where
      through : (xs : List ℕ) → Left xs (length xs) []
      through xs = record { few = omega arith; left_is = drop-length xs }

-- ONE MORE is noted in row n of the work, which has a width and shows the first i of xs: the state is t i.
module _ (n width : ℕ) (xs : List ℕ) (t : ℕ → State) (few : length xs ≤ width) (wide : get_or work_widths n 0 ≡ width)
    (shown : (i : ℕ) → Sized (t i)) (row : (i : ℕ) → get_or (work_parts (t i)) n [] ≡ pad width (take i xs))
    (next : (i k : ℕ) → laid (set (work_parts (t i)) n (pad width (take k xs))) ≡ work_of (t k)) where
  row_noted : (i : ℕ) (b : Bool) (v : ℕ) (r : List ℕ) → Left xs i (given b v ++ r)
      → sets (work_of (t i)) (sum (take n work_widths) + i) (given b v) ≡ work_of (t (i + length (given b v)))
  unfolding work_of
  row_noted i false v r l = let z : i + 0 ≡ i = omega arith in ap (λ x. work_of (t x)) (sym z)
  row_noted i true v r l =
      let a = left_room xs i (v ∷ []) r l in
      laid-set (work_parts (t i)) work_widths (work_wide (t i) (shown i)) n i v (omega arith)
      ∙ ap (λ x. laid (set (work_parts (t i)) n (set x i v))) (row i)
      ∙ ap (λ x. laid (set (work_parts (t i)) n x)) (pad_more width xs i v r few l.left_is)
      ∙ next i (i + 1)

module _ (m : Model) (f : Fit m) (i j k l : ℕ) (b : Bool) (v : ℕ) (r : List ℕ) where
  pub free_noted : Left m.totals i (given b v ++ r)
      → sets (work_of (partly m i j k l)) (Row.FREE + i) (given b v) ≡ work_of (partly m (i + length (given b v)) j k l)
  unfolding work_of
  free_noted =
      row_noted 1 Limit.THINGS m.totals (λ x. partly m x j k l) f.few_totals refl (λ x. partly_sized m f x j k l)
      (λ x. refl) (λ x y. refl) i b v r

  pub bins_noted : Left m.amounts j (given b v ++ r)
      → sets (work_of (partly m i j k l)) (Row.BINS + j) (given b v) ≡ work_of (partly m i (j + length (given b v)) k l)
  unfolding work_of
  bins_noted =
      row_noted 2 Limit.THINGS m.amounts (λ x. partly m i x k l) f.few_amounts refl (λ x. partly_sized m f i x k l)
      (λ x. refl) (λ x y. refl) j b v r

  pub vars_noted : Left (map code m.vars) k (given b v ++ r)
      → sets (work_of (partly m i j k l)) (Row.GLOBALS + k) (given b v) ≡ work_of (partly m i j (k + length (given b v)) l)
  unfolding work_of
  vars_noted =
      let a : length (map code m.vars) ≡ length m.vars = length-map m.vars code in
      let c = f.few_vars in
      row_noted 3 Limit.THINGS (map code m.vars) (λ x. partly m i j x l) (omega arith) refl
      (λ x. partly_sized m f i j x l) (λ x. ap (pad Limit.THINGS) (take-map code x m.vars))
      (λ x y. ap (λ z. laid (set (work_parts (partly m i j x l)) 3 (pad Limit.THINGS z))) (sym (take-map code y m.vars)))
      k b v r

  pub seeds_noted : Left (seeds_in m) l (given b v ++ r)
      → sets (work_of (partly m i j k l)) (Row.SEEDS + l) (given b v) ≡ work_of (partly m i j k (l + length (given b v)))
  unfolding work_of
  seeds_noted =
      row_noted 10 Limit.SAMPLERS (seeds_in m) (λ x. partly m i j k x) (few_seeds m f) refl (λ x. partly_sized m f i j k x)
      (λ x. refl) (λ x y. refl) l b v r
