-- PUTS: the states between its changes, each as the next change asks for it, and what the definition makes of it.
-- Assumes nothing.
use Rattle.std.specs.Prelude.{if◌then◌else◌}
use Prim.Native.Nat.{ℕ, zero, suc, ◌+◌, ◌≤◌, ◌<◌}
use native.Mathlib.Omega.{arith}
use mathlib.Core.Path.{◌≡◌, refl, sym, subst, ◌∙◌, ap}
use mathlib.Core.List.{List, [], ◌∷◌}
use mathlib.Core.Bool.{Bool, true, false}
use lib.Dec.{eqb}
use borrow.Author.Tests.{le-leb, lt-leb}
use lib.ListN.{length, take}
use lib.Seq.{sets, sets-eq, take_at, length-sets}
use Rattle.semantics.specs.Words.{◌>>◌, need, keep}
use Rattle.semantics.specs.Model.{PUTS}
use Rattle.semantics.specs.State.{State, Process, Slave, process, put, past, wake}
use Rattle.semantics.specs.Step.{freed, free_all, puts}
use Rattle.promises.specs.Laws.{over, once}
use Rattle.promises.specs.Sound.{Fine, Held}
use Rattle.promises.specs.Moves.{alter}
use Rattle.promises.specs.Parts.{fine_slaves, freed-stay, stay_all}
use Rattle.base_journal.specs.Wrote.{wrote_at}
use Rattle.row_work.specs.Work.{work_of, Sized, Doing, Done}
use Rattle.row_work.specs.Underway.{in_state}
use Rattle.row_process.specs.Process.{Lives, changed}
use Rattle.row_process.specs.Put.{changed_twice}
use Rattle.row_process.specs.Alive.{hand_lives}
use Rattle.row_slaves.specs.Slaves.{owned_of, Owns, let_go}
use Rattle.act_floor.specs.Acting.{Stepped}
use Rattle.act_floor.specs.Running.{On}
use Rattle.act_floor.specs.Onward.{m, s, q, hand, is_sized, still_sized, in_hand, alive, lives, low, fine, action_fits, passes_as}
use Rattle.act_puts_start.specs.Freeing.{Freeing}

-- As many are freed as is said, where there are as many; and each has a line.
freed_many : (i n : ℕ) (xs : List Slave) → n ≤ owned_of i xs → length (freed i n xs) ≡ n
unfolding freed
freed_many i zero xs h = refl
freed_many i (suc n) [] h = absurd (omega arith)
freed_many i (suc n) (x ∷ xs) h = go (eqb x.of i) (freed_many i n xs) (freed_many i (suc n) xs) h
  where
    go : (b : Bool) → (n ≤ owned_of i xs → length (freed i n xs) ≡ n)
        → (suc n ≤ owned_of i xs → length (freed i (suc n) xs) ≡ suc n)
        → suc n ≤ length {A = Slave} (if b then x ∷ keep (λ y. eqb y.of i) xs else keep (λ y. eqb y.of i) xs)
        → length {A = ℕ} (elim b [ true ↦ x.place ∷ freed i n xs | false ↦ freed i (suc n) xs ]) ≡ suc n
    go true f g l = ap suc (f (omega arith))
    go false f g l = g l

a_line_each : (i : ℕ) (rs : List ℕ) (u : State) → length (free_all i rs u).lines ≡ length rs
unfolding free_all
a_line_each i [] u = refl
a_line_each i (r ∷ rs) u = ap suc (a_line_each i rs (wake u.clock r u))

module _ {w : List ℕ} {p i n : ℕ} (v : On w p (PUTS i n)) where
  abbrev slaves : List Slave
  slaves = (q v).slaves

  -- There are k of them.
  module _ {k : ℕ} (count : k ≡ owned_of i slaves) where
    pub are_missing : k < n → (at : ℕ) (out : List ℕ) → Stepped (puts (m v) (s v) p i n) 25 0 w w at out out
    unfolding puts ◌>>◌ need
    are_missing h at out = rw (lt-leb n (owned_of i slaves) (omega (arith, count))) (refl, (refl, (refl, refl)))

    module _ (enough : n ≤ k) where
      are_there : n ≤ owned_of i slaves
      are_there = omega (arith, count)

      abbrev gone : List ℕ
      gone = freed i n slaves

      gone_many : length gone ≡ n
      gone_many = freed_many i n slaves are_there

      -- LET GO: they are in hand; then past the action.
      abbrev fewer : Process
      fewer = let_go i n (q v)

      abbrev hand_with_gone : ℕ → ℕ
      hand_with_gone j = over (once j) gone + hand v j

      fewer_fine : Fine (m v) (s v).last fewer
      fewer_fine = fine_slaves (fine v) _ (stay_all i (λ x. x.of < (m v).syncs) n slaves (fine v).slaves_ok)

      released_held : Held (m v) (put p fewer (s v)) (s v).blocked hand_with_gone (λ j. 0)
      released_held =
          alter v.running.sound p fewer (in_hand v) fewer_fine (alive v) refl
          (λ j. let a = freed-stay i j n slaves in omega arith) (λ j. refl)

      one : 1 ≤ hand_with_gone p
      one = let a = in_hand v in omega arith

      released_sized : Sized (put p fewer (s v))
      released_sized = still_sized v (put p fewer (s v)) released_held (is_sized v).floor_ok

      pub releasing : Doing w (Owns p i n) (changed p (let_go i n))
      releasing =
          record {
            is = s v;
            shows = v.running.run.shows;
            before = is_sized v;
            after = released_sized;
            given = record { lives = lives v; enough = are_there };
          }

      abbrev onward : State
      onward = put p (past fewer) (s v)

      onward_is : changed p past (put p fewer (s v)) ≡ onward
      onward_is = changed_twice (s v) p (let_go i n) past (is_sized v).places_64 (low v)

      onward_held : Held (m v) onward (s v).blocked hand_with_gone (λ j. 0)
      onward_held =
          passes_as v fewer fewer_fine refl refl (λ j. let a = freed-stay i j n slaves in omega arith) (λ j. omega arith)

      pub passing : {w₁ : List ℕ} → Done w (Owns p i n) (changed p (let_go i n)) w₁ → Doing w₁ (Lives p) (changed p past)
      unfolding releasing
      passing f =
          record {
            is = put p fewer (s v);
            shows = f releasing;
            before = released_sized;
            after = subst Sized (sym onward_is) (still_sized v onward onward_held (is_sized v).floor_ok);
            given = hand_lives released_held p one;
          }

      -- FREED, from where their places were noted.
      module _ (zeros : List ℕ) {w₁ w₂ places : List ℕ} (f : Done w (Owns p i n) (changed p (let_go i n)) w₁)
          (g : Done w₁ (Lives p) (changed p past) w₂) (long : length zeros ≡ 64)
          (noted : (d : Doing w (Owns p i n) (changed p (let_go i n)))
          → places ≡ sets zeros 0 (freed i n (process d.is p).slaves))
        where
          places_are : places ≡ sets zeros 0 gone
          unfolding releasing
          places_are = noted releasing

          shows_onward : w₂ ≡ work_of onward
          unfolding passing
          shows_onward = g (passing f) ∙ ap work_of onward_is

          pub freeing : Freeing w₂ i places n
          freeing =
              record {
                run = in_state v.running.run onward shows_onward;
                gone = gone;
                holds = onward_held;
                floor_ok = (is_sized v).floor_ok;
                many = gone_many;
                inside = omega (arith, (action_fits v).1.high, ap length places_are, length-sets zeros 0 gone);
                places_are =
                    ap (take n) (places_are ∙ sets-eq gone zeros 0 (omega (arith, gone_many, (action_fits v).1.high)))
                    ∙ take_at gone _ n gone_many;
                sync_low = omega (arith, (action_fits v).0, v.running.run.fits.few_syncs);
              }

          pub are_freed : {w₃ : List ℕ} (at : ℕ) (out : List ℕ) {out' : List ℕ}
              → ((d : Freeing w₂ i places n) → (w₃ ≡ work_of (free_all i d.gone d.run.is).state)
              × (out' ≡ wrote_at at (free_all i d.gone d.run.is).lines out))
              → Stepped (puts (m v) (s v) p i n) 0 n w w₃ at out out'
          unfolding puts ◌>>◌ need freeing
          are_freed at out h =
              rw (le-leb n (owned_of i slaves) are_there)
              (refl, (sym (a_line_each i gone onward ∙ gone_many), ((h freeing).0, (h freeing).1)))

      pub few : n ≤ 64
      few = (action_fits v).1.high
