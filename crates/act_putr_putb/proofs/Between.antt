-- The states between the changes of a PUTR or a PUTB: each can be shown, and is what the next change asks for. Assumes nothing.
use Prim.Native.Nat.{ℕ, ◌≤◌, ◌<◌}
use native.Mathlib.Omega.{arith}
use mathlib.Core.Path.{◌≡◌, refl, ap}
use mathlib.Core.List.{List}
use lib.ListN.{length, get_or, set, length-set}
use Rattle.semantics.specs.Words.{keep, fewer}
use Rattle.semantics.specs.Numbers.{of_returns}
use Rattle.semantics.specs.Numbers as No
use Rattle.semantics.specs.Model.{Action, PUTR, PUTB}
use Rattle.semantics.specs.State.{Process, Notice, returns_r, returns_b, put, past, with_held}
use Rattle.semantics.specs.Step.{is_return}
use Rattle.promises.specs.Laws.{less_at}
use Rattle.promises.specs.Sound.{noticed, gives, owes, NoticeOk, Held}
use Rattle.promises.specs.Moves.{is_entered}
use Rattle.promises.specs.Parts.{fine_held, returning_are}
use Rattle.row_work.specs.Work.{work_of, Sized, Doing}
use Rattle.row_process.specs.Process.{Holds, changed}
use Rattle.act_floor.specs.Running.{On}
use Rattle.act_floor.specs.Onward.{m, s, q, hand, is_sized, still_sized, fine, action_fits}
use Rattle.act_floor.specs.Onward.{after_it, passes, passes_so, alive_after, there_after, then_is, then_doing}
use Rattle.row_lists.specs.Lists.{Any, returned}

module _ {w : List ℕ} {p : ℕ} {x : Action} (v : On w p x) where
  -- A RETURN enters, of what the process r, past its action, gave.
  module _ (r : Process) (n : Notice) (h : Held (m v) (put p (past r) (s v)) (s v).blocked (hand v) (λ j. gives j n))
      (owed : owes n ≡ 1)
      (nobody_noticed : (k : ℕ) → noticed k n ≡ 0)
      (told : NoticeOk (m v) (s v).last (set (s v).processes p (past r)) of_returns n)
      (few : length (keep is_return (s v).events) < No.returns) where
    pub returned_sized : Sized (returned n (put p (past r) (s v)))
    returned_sized =
        let c = returning_are (s v).events in
        still_sized v (returned n (put p (past r) (s v)))
        (is_entered h {z' = hand v} {y' = λ j. 0} (record { time = (s v).clock; priority = of_returns; notice = n })
        (record { not_before = omega arith; not_late = v.running.sound.clock_ok; tells = told }) (omega arith)
        (λ k. let d = nobody_noticed k in omega arith) (λ j. omega arith))
        (is_sized v).floor_ok

    abbrev pub returning : {w₁ : List ℕ} → w₁ ≡ work_of (put p (past r) (s v)) → Doing w₁ Any (returned n)
    returning e =
        record {
          is = put p (past r) (s v);
          shows = e;
          before = still_sized v (put p (past r) (s v)) h (is_sized v).floor_ok;
          after = returned_sized;
          given = tt;
        }

-- AMOUNTS RETURNED to a bin, given by the process of number g, while k returns wait;
module _ {w : List ℕ} {p i n : ℕ} (v : On w p (PUTB i n)) {k g : ℕ} (many : k ≡ length (keep is_return (s v).events))
    (few : k < No.returns) (giver : g ≡ (q v).number) where
  pub bin_told : NoticeOk (m v) (s v).last (set (s v).processes p (past (q v))) of_returns (returns_b i n g)
  bin_told =
      let k = action_fits v in
      let f = fine v in
      record { is_low = refl; is_known = k.0; amount_ok = k.1; giver_ok = omega arith }

  pub bin_room : length (keep is_return (s v).events) < No.returns
  bin_room = omega (arith, many)

  abbrev pub binning : {w₁ : List ℕ} → w₁ ≡ work_of (after_it v) → Doing w₁ Any (returned (returns_b i n g))
  binning e = returning v (q v) (returns_b i n g) (passes v) refl (λ k. refl) bin_told bin_room e

-- and of a resource, of which the process holds enough.
module _ {w : List ℕ} {p i n : ℕ} (v : On w p (PUTR i n)) where
  pub known : i < length (q v).held
  known =
      let k = (action_fits v).0 in
      let f = (fine v).held_many in
      omega arith

  pub enough_held : {h : ℕ} → h ≡ get_or (q v).held i 0 → n ≤ h → n ≤ get_or (q v).held i 0
  enough_held e l = rw e at l

  module _ (enough : n ≤ get_or (q v).held i 0) where
    abbrev pub given_up : Process → Process
    given_up r = with_held r (fewer r.held i n)

    pub given_first : past (given_up (q v)) ≡ given_up (past (q v))
    unfolding past
    given_first = refl

    pub gives_up : (g : ℕ) → Held (m v) (put p (past (given_up (q v))) (s v)) (s v).blocked (hand v)
        (λ j. gives j (returns_r i n g))
    gives_up g =
        passes_so v (given_up (q v)) (fine_held (fine v) _ (length-set (q v).held i _))
        refl refl refl (λ j. less_at (q v).held i n j known enough)

    pub holds : Holds p i n (after_it v)
    unfolding past
    holds =
        record {
          claims = record { lives = alive_after v; there = let k = known in rw (there_after v) k };
          enough = rw (there_after v) enough;
        }

    abbrev pub giving : {w₁ : List ℕ} → w₁ ≡ work_of (after_it v) → Doing w₁ (Holds p i n) (changed p given_up)
    giving k = then_doing v given_up given_first (gives_up 0) k holds

    pub given_is : work_of (changed p given_up (after_it v)) ≡ work_of (put p (past (given_up (q v))) (s v))
    given_is = ap work_of (then_is v given_up given_first)

    module _ {k g : ℕ} (many : k ≡ length (keep is_return (s v).events)) (few : k < No.returns) (giver : g ≡ (q v).number) where
      pub told_back : NoticeOk (m v) (s v).last (set (s v).processes p (past (given_up (q v)))) of_returns (returns_r i n g)
      told_back =
          let k = action_fits v in
          let f = fine v in
          record { is_low = refl; is_known = k.0; amount_ok = k.1; giver_ok = omega arith }

      pub room_back : length (keep is_return (s v).events) < No.returns
      room_back = omega (arith, many)

      abbrev pub giving_back : {w₁ : List ℕ} → w₁ ≡ work_of (put p (past (given_up (q v))) (s v))
          → Doing w₁ Any (returned (returns_r i n g))
      giving_back e =
          returning v (given_up (q v)) (returns_r i n g) (gives_up g) refl (λ k. refl) told_back room_back e
