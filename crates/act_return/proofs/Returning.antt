-- A return: what comes back is added, and then it is walked. Assumes nothing.
use Prim.Native.Nat.{ℕ, ◌+◌, ◌≤◌, ◌<◌}
use native.Mathlib.Omega.{arith}
use mathlib.Core.Path.{◌≡◌, refl, ◌∙◌, ap}
use mathlib.Core.List.{List, [], ◌∷◌}
use mathlib.Core.Bool.{true, false}
use lib.Dec.{leb}
use borrow.Author.Tests.{le-leb, lt-leb}
use lib.ListN.{length, get_or, set, length-set}
use lib.IntN.{pos}
use Rattle.semantics.specs.Words.{ok, ◌>>◌, need, more}
use Rattle.semantics.specs.Numbers as No
use Rattle.semantics.specs.State.{State, Notice, returns_r, returns_b, with_free, with_bins}
use Rattle.semantics.specs.Walk.{Line, line, after, walk}
use Rattle.semantics.specs.Step.{occurs}
use Rattle.promises.specs.Laws.{all_get, more_at}
use Rattle.promises.specs.Sound.{Held}
use Rattle.promises.specs.Moves.{frees, bin_is}
use Rattle.base_numbers.specs.Row as Row
use Rattle.base_journal.specs.Wrote.{wrote_at}
use Rattle.row_work.specs.Work.{work_of, FloorSized, Sized}
use Rattle.row_work.specs.Underway.{in_state, still_sized}
use Rattle.row_work.specs.Shown.{work_long, free_at, free_set, bins_set}
use Rattle.row_process.specs.Process.{Shown}
use Rattle.row_lists.specs.Lists.{Any}
use Rattle.act_floor.specs.Acting.{Stepped}
use Rattle.act_walk.specs.Walking.{Walking, Walked}
use Rattle.act_walk.proofs.Lines.{stepped}
use Rattle.act_return.specs.Returning.{Returning}
use Rattle.act_return.proofs.Bins.{bin_is as bin_at}

module _ {bs row w : List ℕ} {e : Notice} (v : Returning bs row w e) where
  pub is_sized : Sized v.run.is
  is_sized = still_sized v.run v.run.is v.holds v.floor_ok

  abbrev pub shown : {P : State → Type 0} → P v.run.is → Shown w P
  shown g = record { is = v.run.is; shows = v.run.shows; sized = is_sized; given = g }

  pub is_long : length w ≡ Row.WORDS
  is_long = ap length v.run.shows ∙ work_long v.run.is is_sized

  -- What was in hand is in hand no more.
  walking_in : (t : State) {x : List ℕ} → x ≡ work_of t → Held v.run.model t t.blocked v.in_hand (λ j. 0)
      → FloorSized t.floor → Walking bs row x
  walking_in t s h o =
      record {
        run = in_state v.run t s;
        mapped = v.mapped;
        in_hand = v.in_hand;
        holds = h;
        floor_ok = o;
      }

-- OF A RESOURCE.
module _ {bs row w : List ℕ} {i n g : ℕ} (v : Returning bs row w (returns_r i n g)) where
  pub known : i < length v.run.is.free
  known = omega (arith, v.tells.is_known, v.holds.frees_many)

  pub few : (i < 32) × ((n ≤ 1_000_000) × (g ≤ No.last_number))
  few =
      let a = v.tells.is_known in (
        omega (arith, a, v.run.fits.few_totals),
        (v.tells.amount_ok.high, omega (arith, v.tells.giver_ok.high, v.holds.last_ok)),
      )

  free_is : get_or w (8 + i) 0 ≡ get_or v.run.is.free i 0
  free_is = ap (λ l. get_or l (8 + i) 0) v.run.shows ∙ free_at v.run.is (is_sized v) i known

  pub free_low : get_or w (8 + i) 0 ≤ 1_000_000
  free_low = rw free_is (all_get (λ x. x ≤ 1_000_000) v.run.is.free i 0 (is_sized v).free_low (omega arith))

  abbrev freed : State
  freed = with_free v.run.is (more v.run.is.free i n)

  module _ {x : List ℕ} (added : x ≡ set w (8 + i) (get_or w (8 + i) 0 + n)) where
    pub frees_walking : Walking bs row x
    frees_walking =
        walking_in v freed
        (added
        ∙ ap (λ k. set w (8 + i) (k + n)) free_is
        ∙ ap (λ l. set l (8 + i) (get_or v.run.is.free i 0 + n)) v.run.shows
        ∙ free_set v.run.is (is_sized v) i (get_or v.run.is.free i 0 + n) known)
        (frees v.holds (more v.run.is.free i n) (length-set v.run.is.free i _)
        (λ j. let b = more_at v.run.is.free i n j known in omega arith))
        v.floor_ok

    pub resource_stepped : (at : ℕ) (out : List ℕ) {r : ℕ} {w' out' out'' : List ℕ}
        → ((d : Shown w Any) → out' ≡ wrote_at at (line d.is g No.resource_returned (pos i) ∷ []) out)
        → ((d : Walking bs row x) → Walked (walk d.run.model d.run.is) r w' (at + 1) out' out'')
        → Stepped (occurs v.run.model v.run.is (returns_r i n g)) 0 (r + 1) w w' at out out''
    unfolding occurs frees_walking walking_in
    resource_stepped at out wrote walked =
        stepped (line v.run.is g No.resource_returned (pos i)) (walk v.run.model freed) at w out
        (wrote (shown v tt)) (walked frees_walking)

-- OF A BIN.
module _ {bs row w : List ℕ} {i n g : ℕ} (v : Returning bs row w (returns_b i n g)) where
  pub bin_known : i < length v.run.is.bins
  bin_known = omega (arith, v.tells.is_known, v.holds.bins_many)

  pub bin_few : (i < 32) × ((n ≤ 1_000_000) × (g ≤ No.last_number))
  bin_few =
      let a = v.tells.is_known in (
        omega (arith, a, v.run.fits.few_amounts),
        (v.tells.amount_ok.high, omega (arith, v.tells.giver_ok.high, v.holds.last_ok)),
      )

  abbrev filled : State
  filled = with_bins v.run.is (more v.run.is.bins i n)

  module _ (there : ℕ) (told : (d : Shown w (λ s. i < length s.bins)) → there ≡ get_or d.is.bins i 0) where
    there_is : there ≡ get_or v.run.is.bins i 0
    there_is = told (shown v bin_known)

    pub too_full : (at : ℕ) (out : List ℕ) → No.full_bin < there + n
        → Stepped (occurs v.run.model v.run.is (returns_b i n g)) 28 0 w w at out out
    unfolding occurs ◌>>◌ need
    too_full at out l =
        let e : leb (get_or v.run.is.bins i 0 + n) No.full_bin ≡ false =
        lt-leb (get_or v.run.is.bins i 0 + n) No.full_bin (omega (arith, there_is)) in
        rw e (refl, (refl, (refl, refl)))

    module _ (fits : there + n ≤ No.full_bin) where
      is_there : get_or w (40 + i) 0 ≡ get_or v.run.is.bins i 0
      is_there = bin_at (shown v bin_known)

      pub bin_fits : get_or w (40 + i) 0 + n ≤ No.full_bin
      bin_fits = omega (arith, is_there, there_is)

      module _ {x : List ℕ} (added : x ≡ set w (40 + i) (get_or w (40 + i) 0 + n)) where
        pub fills_walking : Walking bs row x
        fills_walking =
            walking_in v filled
            (added
            ∙ ap (λ k. set w (40 + i) (k + n)) is_there
            ∙ ap (λ l. set l (40 + i) (get_or v.run.is.bins i 0 + n)) v.run.shows
            ∙ bins_set v.run.is (is_sized v) i (get_or v.run.is.bins i 0 + n) bin_known)
            (bin_is v.holds i (get_or v.run.is.bins i 0 + n) (omega (arith, there_is)))
            v.floor_ok

        pub bin_stepped : (at : ℕ) (out : List ℕ) {r : ℕ} {w' out' out'' : List ℕ}
            → ((d : Shown w Any) → out' ≡ wrote_at at (line d.is g No.bin_returned (pos i) ∷ []) out)
            → ((d : Walking bs row x) → Walked (walk d.run.model d.run.is) r w' (at + 1) out' out'')
            → Stepped (occurs v.run.model v.run.is (returns_b i n g)) 0 (r + 1) w w' at out out''
        unfolding occurs ◌>>◌ need fills_walking walking_in
        bin_stepped at out {r} {w'} {out'} {out''} wrote walked =
            let e : leb (get_or v.run.is.bins i 0 + n) No.full_bin ≡ true =
            le-leb (get_or v.run.is.bins i 0 + n) No.full_bin (omega (arith, there_is)) in
            let l : Line = line v.run.is g No.bin_returned (pos i) in
            let s : Stepped (ok (after l (walk v.run.model filled))) 0 (r + 1) w w' at out out'' =
            stepped l (walk v.run.model filled) at w out (wrote (shown v tt)) (walked fills_walking) in
            rw e s
