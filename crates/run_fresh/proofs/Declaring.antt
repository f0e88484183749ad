-- Round the loop that writes what is declared. Assumes nothing.
use Prim.Native.Nat.{ℕ, ◌+◌, ◌≤◌, ◌<◌}
use native.Mathlib.Omega.{arith}
use mathlib.Core.Path.{◌≡◌, refl, sym, subst, ◌∙◌, ap}
use mathlib.Core.List.{List, [], ◌++◌, map}
use mathlib.Core.Bool.{Bool}
use lib.Dec.{eqb}
use lib.ListN.{length, length-map}
use lib.Seq.{sets, length-sets}
use Rattle.semantics.specs.Kinds as K
use Rattle.semantics.specs.Model.{Model}
use Rattle.semantics.specs.Decode.{gather}
use Rattle.semantics.specs.State.{bare}
use Rattle.promises.specs.Fit.{Fit}
use Rattle.promises.specs.Accepted.{accepted_fit}
use Rattle.base_numbers.specs.Row as Row
use Rattle.base_numbers.specs.Limit as Limit
use Rattle.base_i32.specs.Code.{code}
use Rattle.file_reader.specs.Reads.{record_at}
use Rattle.file_reader.specs.Records.{body_at}
use Rattle.file_reader.specs.Walk.{onward, onward_ends}
use Rattle.file_reader.specs.declared.Record.{Record}
use Rattle.row_work.specs.Work.{work_of}
use Rattle.row_work.specs.Shown.{work_long}
use Rattle.file_index.specs.Index.{given, Wrote}
use Rattle.file_index.proofs.Filled.{given_few}
use Rattle.file_index.proofs.Gathered.{gather_none}
use Rattle.file_index.proofs.Records.{Fine, fine_first, fine_there}
use Rattle.file_index.proofs.Standing.{accepted_by}
use Rattle.run_fresh.specs.Fresh.{amount_in, Declaring}
use Rattle.run_fresh.proofs.Declared.{Adds, front_adds}
use Rattle.run_fresh.proofs.Partly.{seeds_in, partly, Left, left_room, left_next, few_seeds, partly_sized, nothing_yet}
use Rattle.run_fresh.proofs.Partly.{all_declared, free_noted, bins_noted, vars_noted, seeds_noted}

-- The first i resources, j bins, k variables and l samplers are written, and the records of the rest declare the others.
pub record Declared (m : Model) (bs w : List ℕ) (free bins vars seeds at : ℕ) : Type 0 where
  pub fine : Fine (onward bs at)
  pub i : ℕ
  pub j : ℕ
  pub k : ℕ
  pub l : ℕ
  pub free_is : free ≡ Row.FREE + i
  pub bins_is : bins ≡ Row.BINS + j
  pub vars_is : vars ≡ Row.GLOBALS + k
  pub seeds_is : seeds ≡ Row.SEEDS + l
  pub shows : w ≡ work_of (partly m i j k l)
  pub totals_left : Left m.totals i (gather (onward bs at)).model.totals
  pub amounts_left : Left m.amounts j (gather (onward bs at)).model.amounts
  pub vars_left : Left (map code m.vars) k (map code (gather (onward bs at)).model.vars)
  pub seeds_left : Left (seeds_in m) l (seeds_in (gather (onward bs at)).model)

module _ {bs w : List ℕ} (d : Declaring bs w) where
  fits : Fit d.model
  fits = accepted_fit bs d.model d.is_accepted

  pub declare_starts : Declared d.model bs w Row.FREE Row.BINS Row.GLOBALS Row.SEEDS 0
  declare_starts =
      let a = accepted_by bs d.model d.is_accepted in
      let m = d.model in
      let g : (gather (onward bs 0)).model ≡ m = a.is in
      record {
        fine = fine_first bs a.readable;
        i = 0;
        j = 0;
        k = 0;
        l = 0;
        free_is = refl;
        bins_is = refl;
        vars_is = refl;
        seeds_is = refl;
        shows = d.is_vacant ∙ nothing_yet m fits;
        totals_left = record { few = omega arith; left_is = ap (λ x. x.totals) (sym g) };
        amounts_left = record { few = omega arith; left_is = ap (λ x. x.amounts) (sym g) };
        vars_left = record { few = omega arith; left_is = ap (λ x. map code x.vars) (sym g) };
        seeds_left = record { few = omega arith; left_is = ap seeds_in (sym g) };
      }

as_long : {n k : ℕ} {xs w x : List ℕ} → Wrote n xs w k x → length x ≡ length w
as_long {n = n} {xs = xs} {w = w} r = ap length r.after_is ∙ length-sets w n xs

-- ROUND THE LOOP.
module _ {bs w₀ : List ℕ} (d : Declaring bs w₀) {w : List ℕ} {free bins vars seeds at : ℕ}
    (v : Declared d.model bs w free bins vars seeds at) where
  abbrev m : Model
  m = d.model

  abbrev f : Fit m
  f = fits d

  pub declared_long : length w ≡ Row.WORDS
  declared_long =
      ap length v.shows
      ∙ work_long (partly m v.i v.j v.k v.l) (partly_sized m f v.i v.j v.k v.l)

  few_vars : length (map code m.vars) ≤ Limit.THINGS
  few_vars = let a : length (map code m.vars) ≡ length m.vars = length-map m.vars code in omega (arith, f.few_vars)

  -- There is room for one more of each.
  pub free_room : (b : Bool) (a : ℕ) → free + length (given b a) ≤ length w
  free_room b a = omega (arith, given_few b a, v.totals_left.few, f.few_totals, v.free_is, declared_long)

  module _ {xs x : List ℕ} {n : ℕ} (r : Wrote free xs w n x) where
    pub bins_room : (b : Bool) (a : ℕ) → bins + length (given b a) ≤ length x
    bins_room b a =
        omega (arith, given_few b a, v.amounts_left.few, f.few_amounts, v.bins_is, declared_long, as_long r)

    pub vars_room : {ys y : List ℕ} {k : ℕ} → Wrote bins ys x k y → (b : Bool) (a : ℕ) → vars + length (given b a) ≤ length y
    vars_room s b a =
        omega (arith, given_few b a, v.vars_left.few, few_vars, v.vars_is, declared_long, as_long r, as_long s)

  -- The record q stands here, and the next one at z; a is what it declares.
  module _ (h : at < length bs) {q : Record} (e : q ≡ record_at bs at) {z : ℕ} (o : z ≡ (record_at bs at).next) {a : ℕ}
      (g : a ≡ amount_in q.kind (body_at bs at z)) where
    abbrev k : ℕ
    k = q.kind

    abbrev body : List ℕ
    body = body_at bs at z

    adding : Adds k body (gather (onward bs z)) (gather (onward bs at))
    adding = front_adds bs at h v.fine e o

    totals : Left m.totals v.i (given (eqb k K.RES) a ++ (gather (onward bs z)).model.totals)
    totals = rw g (subst (Left m.totals v.i) adding.totals_are v.totals_left)

    amounts : Left m.amounts v.j (given (eqb k K.BIN) a ++ (gather (onward bs z)).model.amounts)
    amounts = rw g (subst (Left m.amounts v.j) adding.amounts_are v.amounts_left)

    values : Left (map code m.vars) v.k (given (eqb k K.VAR) a ++ map code (gather (onward bs z)).model.vars)
    values = rw g (subst (Left (map code m.vars) v.k) adding.vars_are v.vars_left)

    seeded : Left (seeds_in m) v.l (given (eqb k K.SAMPLER) a ++ seeds_in (gather (onward bs z)).model)
    seeded = rw g (subst (Left (seeds_in m) v.l) adding.seeds_are v.seeds_left)

    module _ {free' bins' vars' : ℕ} {x y u : List ℕ} (r : Wrote free (given (eqb k K.RES) a) w free' x)
        (s : Wrote bins (given (eqb k K.BIN) a) x bins' y) (t : Wrote vars (given (eqb k K.VAR) a) y vars' u) where
      -- Nothing stands behind the seeds: there is room for those that are declared.
      pub seeds_room : seeds + length (given (eqb k K.SAMPLER) a) ≤ length u
      seeds_room =
          omega (
            arith,
            left_room (seeds_in m) v.l (given (eqb k K.SAMPLER) a) _ seeded,
            few_seeds m f,
            v.seeds_is,
            declared_long,
            as_long r,
            as_long s,
            as_long t,
          )

      pub declare_turn : {seeds' : ℕ} {after : List ℕ} → Wrote seeds (given (eqb k K.SAMPLER) a) u seeds' after
          → Declared m bs after free' bins' vars' seeds' z
      declare_turn {after = after} p =
          let i' : ℕ = v.i + length (given (eqb k K.RES) a) in
          let j' : ℕ = v.j + length (given (eqb k K.BIN) a) in
          let k' : ℕ = v.k + length (given (eqb k K.VAR) a) in
          let l' : ℕ = v.l + length (given (eqb k K.SAMPLER) a) in
          let x_is : x ≡ work_of (partly m i' v.j v.k v.l) =
          r.after_is ∙ ap (λ n. sets w n (given (eqb k K.RES) a)) v.free_is
          ∙ ap (λ l. sets l (Row.FREE + v.i) (given (eqb k K.RES) a)) v.shows
          ∙ free_noted m f v.i v.j v.k v.l (eqb k K.RES) a _ totals in
          let y_is : y ≡ work_of (partly m i' j' v.k v.l) =
          s.after_is ∙ ap (λ n. sets x n (given (eqb k K.BIN) a)) v.bins_is
          ∙ ap (λ l. sets l (Row.BINS + v.j) (given (eqb k K.BIN) a)) x_is
          ∙ bins_noted m f i' v.j v.k v.l (eqb k K.BIN) a _ amounts in
          let u_is : u ≡ work_of (partly m i' j' k' v.l) =
          t.after_is ∙ ap (λ n. sets y n (given (eqb k K.VAR) a)) v.vars_is
          ∙ ap (λ l. sets l (Row.GLOBALS + v.k) (given (eqb k K.VAR) a)) y_is
          ∙ vars_noted m f i' j' v.k v.l (eqb k K.VAR) a _ values in
          let after_is : after ≡ work_of (partly m i' j' k' l') =
          p.after_is ∙ ap (λ n. sets u n (given (eqb k K.SAMPLER) a)) v.seeds_is
          ∙ ap (λ l. sets l (Row.SEEDS + v.l) (given (eqb k K.SAMPLER) a)) u_is
          ∙ seeds_noted m f i' j' k' v.l (eqb k K.SAMPLER) a _ seeded in
          record {
            fine = fine_there bs at h v.fine e o;
            i = i';
            j = j';
            k = k';
            l = l';
            free_is = omega (arith, r.next_is, v.free_is);
            bins_is = omega (arith, s.next_is, v.bins_is);
            vars_is = omega (arith, t.next_is, v.vars_is);
            seeds_is = omega (arith, p.next_is, v.seeds_is);
            shows = after_is;
            totals_left = left_next m.totals v.i (given (eqb k K.RES) a) _ totals;
            amounts_left = left_next m.amounts v.j (given (eqb k K.BIN) a) _ amounts;
            vars_left = left_next (map code m.vars) v.k (given (eqb k K.VAR) a) _ values;
            seeds_left = left_next (seeds_in m) v.l (given (eqb k K.SAMPLER) a) _ seeded;
          }

  pub declare_ends : length bs ≤ at → w ≡ work_of (bare m)
  declare_ends h =
      let g : (gather (onward bs at)).model.totals ≡ [] = rw (onward_ends bs at h, gather_none) in
      let n : (gather (onward bs at)).model.amounts ≡ [] = rw (onward_ends bs at h, gather_none) in
      let c : map code (gather (onward bs at)).model.vars ≡ [] = rw (onward_ends bs at h, gather_none) in
      let s : seeds_in (gather (onward bs at)).model ≡ [] = rw (onward_ends bs at h, gather_none) in
      v.shows
      ∙ ap work_of
      (all_declared m f v.i v.j v.k v.l (subst (Left m.totals v.i) g v.totals_left)
      (subst (Left m.amounts v.j) n v.amounts_left)
      (subst (Left (map code m.vars) v.k) c v.vars_left)
      (subst (Left (seeds_in m) v.l) s v.seeds_left))
