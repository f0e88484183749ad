-- The process on the floor becomes a slave: it goes past the action, loses the floor and joins the waiting list; then it is
-- walked. Assumes nothing.
use Prim.Native.Nat.{ℕ, ◌+◌, ◌<◌}
use native.Mathlib.Omega.{arith}
use mathlib.Core.Path.{◌≡◌, ◌∙◌, ap}
use mathlib.Core.List.{List, [], ◌∷◌}
use lib.ListN.{length}
use lib.IntN.{pos}
use Rattle.semantics.specs.Numbers as No
use Rattle.semantics.specs.Model.{BECOME}
use Rattle.semantics.specs.State.{State, empty, process, with_floor, past}
use Rattle.semantics.specs.Walk.{line, walk}
use Rattle.semantics.specs.Step.{become}
use Rattle.promises.specs.Sound.{Held}
use Rattle.promises.specs.Moves.{joins}
use Rattle.base_journal.specs.Wrote.{wrote_at}
use Rattle.row_work.specs.Work.{Doing, Done}
use Rattle.row_work.specs.Underway.{in_state}
use Rattle.row_process.specs.Process.{Shown, Lives, changed}
use Rattle.row_process.specs.Put.{process_sized}
use Rattle.row_lists.specs.Lists.{Any, Becomes, join_waiting}
use Rattle.row_process.specs.Alive.{hand_lives}
use Rattle.act_floor.specs.Acting.{Acting, Stepped}
use Rattle.act_floor.specs.Running.{On, on}
use Rattle.act_floor.specs.Onward.{m, s, q, is_sized, shown, still_sized, hand_is, in_hand, low, action_fits, after_it, passes}
use Rattle.act_floor.specs.Onward.{after_sized, passing}
use Rattle.act_walk.specs.Walking.{Walking, Walked}
use Rattle.act_walk.proofs.Lines.{stepped}

module _ {bs row w : List ℕ} {i p : ℕ} (v : Acting bs row w p (BECOME i)) where
  abbrev pub here : On w p (BECOME i)
  here = on v

  pub number_fits : (n : ℕ) → ((d : Shown w (λ _. p < 64)) → n ≡ (process d.is p).number) → n < 4_294_967_296
  number_fits n told = omega (arith, told (shown here (low here)), (process_sized (s here) p (is_sized here)).number_low)

  pub sync_low : i < 32
  sync_low = omega (arith, action_fits here, v.running.run.fits.few_syncs)

  -- Off the floor,
  abbrev s₂ : State
  s₂ = with_floor (after_it here) empty

  module _ {x : List ℕ} (told₁ : Done w (Lives p) (changed p past) x) where
    pub leaving : Doing x Any (λ s. with_floor s empty)
    leaving =
        record {
          is = after_it here;
          shows = told₁ (passing here);
          before = after_sized here;
          after = still_sized here s₂ (passes here) tt;
          given = tt;
        }

    -- and into the waiting list.
    abbrev s₃ : State
    s₃ = join_waiting i p s₂

    waiting_there : i < length s₂.waiting
    waiting_there = omega (arith, action_fits here, v.running.sound.syncs_many)

    joined_held : Held (m here) s₃ s₃.blocked (λ k. 0) (λ j. 0)
    joined_held = joins s₂ (passes here) p (λ k. let a = hand_is here k in omega arith) i waiting_there

    module _ {y : List ℕ} (told₂ : Done x Any (λ s. with_floor s empty) y) where
      pub joining : Doing y (Becomes i p) (join_waiting i p)
      unfolding leaving
      joining =
          record {
            is = s₂;
            shows = told₂ leaving;
            before = still_sized here s₂ (passes here) tt;
            after = still_sized here s₃ joined_held tt;
            given = record { lives = hand_lives {s = s₂} (passes here) p (in_hand here); there = waiting_there };
          }

      module _ {u : List ℕ} (told₃ : Done y (Becomes i p) (join_waiting i p) u) where
        pub joined_walking : Walking bs row u
        unfolding joining
        joined_walking =
            record {
              run = in_state v.running.run s₃ (told₃ joining);
              mapped = v.running.mapped;
              in_hand = λ k. 0;
              holds = joined_held;
              floor_ok = tt;
            }

        pub became : (at : ℕ) (out : List ℕ) {n r : ℕ} {w' out' out'' : List ℕ}
            → ((d : Shown w (λ _. p < 64)) → n ≡ (process d.is p).number)
            → ((d : Shown w Any) → out' ≡ wrote_at at (line d.is n No.waiting_as_slave (pos i) ∷ []) out)
            → ((d : Walking bs row u) → Walked (walk d.run.model d.run.is) r w' (at + 1) out' out'')
            → Stepped (become (m here) (s here) p i) 0 (r + 1) w w' at out out''
        unfolding become joined_walking
        became at out numbered wrote walked =
            stepped (line (s here) (q here).number No.waiting_as_slave (pos i)) (walk (m here) s₃) at w out
            (wrote (shown here tt)
            ∙ ap (λ j. wrote_at at (line (s here) j No.waiting_as_slave (pos i) ∷ []) out) (numbered (shown here (low here))))
            (walked joined_walking)
