-- The process on the floor sets a variable: it goes past the action; then it is walked. Assumes nothing.
use Prim.Native.Nat.{ℕ, ◌+◌, ◌<◌}
use native.Mathlib.Omega.{arith}
use mathlib.Core.Path.{◌≡◌, refl, sym, ◌∙◌, ap}
use mathlib.Core.List.{List}
use mathlib.Core.Bool.{Bool, true, false}
use lib.ListN.{length, set}
use Rattle.semantics.specs.Words.{ok, ◌>>=◌}
use Rattle.semantics.specs.Numbers as No
use Rattle.semantics.specs.Model.{SET}
use Rattle.semantics.specs.State.{State, with_globals, past}
use Rattle.semantics.specs.Walk.{walk}
use Rattle.semantics.specs.Step.{set_global}
use Rattle.promises.specs.Moves.{global_is}
use Rattle.base_numbers.specs.Row as Row
use Rattle.base_numbers.specs.Limit as Limit
use Rattle.base_numbers.specs.Code as Code
use Rattle.base_i32.specs.Code.{value_of, value_in}
use Rattle.base_i32.specs.Laws.{code-value_of, value_fits}
use Rattle.base_i32.specs.declared.Value.{Value}
use Rattle.row_work.specs.Work.{work_of, Done}
use Rattle.row_work.specs.Underway.{in_state}
use Rattle.row_work.specs.Shown.{work_long, globals_set}
use Rattle.row_process.specs.Process.{Lives, changed}
use Rattle.act_floor.specs.Acting.{Stepped}
use Rattle.act_floor.specs.Running.{On, on}
use Rattle.act_floor.specs.Onward.{m, s, hand, is_sized, action_fits, after_it, passes, after_sized, passing}
use Rattle.act_value.specs.Parts.{the_value}
use Rattle.act_hold_prio_lset_trace.specs.Given.{Valued, worth, seeds_left, left, Given}
use Rattle.act_hold_prio_lset_trace.proofs.Values.{to_value, answers, still_on, unchanged, no_value, a_value}
use Rattle.act_walk.specs.Walking.{Walking, Walked}
use Rattle.act_set_become.specs.Setting.{Setting}

module _ {body bs row w : List ℕ} {p i : ℕ} (v : Setting body bs row w p i) where
  abbrev pub here : On w p (SET i v.expression)
  here = on v.acting

  abbrev given : Given body row w p (SET i)
  given = record { expression = v.expression; reads = v.reads; on = here; drawn = v.acting.running.mapped.draws }

  abbrev pub valued : Valued body row w p
  valued = to_value given (λ f. f.1)

  abbrev pub Answered : Value → Type 0
  Answered r = (z : Valued body row w p) → r ≡ value_in (the_value (worth z))

  pub global_low : i < Limit.THINGS
  global_low = omega (arith, (action_fits here).0, v.acting.running.run.fits.few_vars)

  -- IT HAS A VALUE. With the seeds after its draws it stands there still, and goes past.
  module _ {w₁ : List ℕ} {t : Bool} (drew : (z : Valued body row w p) → w₁ ≡ work_of (left z t)) (has : t ≡ true) where
    abbrev pub still : On w₁ p (SET i v.expression)
    still = still_on given (λ f. f.1) drew has

    there : i < length (after_it still).globals
    there = omega (arith, (action_fits here).0, v.acting.running.sound.vars_many)

    pub passed_long : {x : List ℕ} → Done w₁ (Lives p) (changed p past) x → length x ≡ Row.WORDS
    passed_long told = ap length (told (passing still)) ∙ work_long (after_it still) (after_sized still)

    -- The value is set.
    module _ (r : Value) (low : r.code < Code.CODES) {x : List ℕ} (told₁ : Done w₁ (Lives p) (changed p past) x) {y : List ℕ}
        (wrote : y ≡ set x (Row.GLOBALS + i) r.code) where
      abbrev placed : State
      placed = with_globals (after_it still) (set (after_it still).globals i (value_of r.code))

      pub placed_walking : Walking bs row y
      placed_walking =
          record {
            run =
                in_state v.acting.running.run placed
                (wrote
                ∙ ap (λ l. set l (Row.GLOBALS + i) r.code) (told₁ (passing still))
                ∙ ap (set (work_of (after_it still)) (Row.GLOBALS + i)) (sym (code-value_of r.code))
                ∙ globals_set (after_it still) (after_sized still) i (value_of r.code) there);
            mapped = v.acting.running.mapped;
            in_hand = hand still;
            holds = global_is (passes still) i (value_of r.code) (value_fits r.code low);
            floor_ok = (is_sized still).floor_ok;
          }

      pub value_set : Answered r → (at : ℕ) (out : List ℕ) {n : ℕ} {w' out' : List ℕ} → r.ok ≡ true
          → ((z : Walking bs row y) → Walked (walk z.run.model z.run.is) n w' at out out')
          → Stepped (set_global (m here) (s here) p i v.expression) 0 n w w' at out out'
      unfolding set_global ◌>>=◌ placed_walking
      value_set told at out {n} {w'} {out'} e walked =
          let g : Stepped (ok (walk (m here) placed)) 0 n w w' at out out' = (refl, walked placed_walking) in
          rw (a_value r (seeds_left valued) (answers given (λ f. f.1) told) e) g

  -- IT HAS NONE.
  pub valueless : (r : Value) → Answered r → {w₁ : List ℕ} → ((z : Valued body row w p) → w₁ ≡ work_of (left z r.ok))
      → (at : ℕ) (out : List ℕ) → r.ok ≡ false
      → Stepped (set_global (m here) (s here) p i v.expression) No.SUM 0 w w₁ at out out
  unfolding set_global ◌>>=◌
  valueless r told drew at out e =
      rw (no_value r (seeds_left valued) (answers given (λ f. f.1) told) e)
      (refl, (refl, (unchanged given (λ f. f.1) drew e, refl)))
