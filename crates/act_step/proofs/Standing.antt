-- Where the process on the floor stands, by the map: past the last action of its block, or at a record. Assumes nothing.
use Prim.Native.Nat.{ℕ, zero, suc, ◌+◌, ◌-◌, ◌≤◌, ◌<◌}
use native.Mathlib.Omega.{arith}
use mathlib.Core.Path.{◌≡◌, refl, sym, ◌∙◌, ap}
use mathlib.Core.List.{List, [], ◌∷◌}
use mathlib.Core.Bool.{true}
use mathlib.Core.Option.{none, some}
use lib.ListN.{length, get_or, get_elem?, take, drop}
use lib.Seq.{drop-drop}
use Rattle.semantics.specs.Model.{Action, Model, block}
use Rattle.semantics.specs.Bytes.{u16}
use Rattle.semantics.specs.State.{State, process}
use Rattle.semantics.specs.Claim.{stands_in}
use Rattle.semantics.specs.Sound.{chained}
use Rattle.semantics.specs.Step.{act, exhausted, moves}
use Rattle.promises.specs.Nests.{chain_depth}
use Rattle.base_numbers.specs.Map as Map
use Rattle.file_index.specs.Ties.{kind_at, body_at, ActionAt}
use Rattle.row_process.specs.Process.{Shown, Lives}
use Rattle.row_process.proofs.Standing.{top_sized}
use Rattle.act_floor.specs.Running.{runs}
use Rattle.act_block_end.specs.Leaving.{Exhausted}
use Rattle.act_floor.specs.Floor.{shown, fine, lives}
use Rattle.act_req_try_while.proofs.Branches.{few}
use Rattle.act_step.specs.Steps.{Floored, Stands, MeetsAt, acted}

-- At a place of a list there is something, or it is past its end.
none_past : {A : Type 0} (xs : List A) (i : ℕ) → length xs ≤ i → get_elem? xs i ≡ none
none_past [] i l = refl
none_past (x ∷ xs) zero l = absurd (omega arith)
none_past (x ∷ xs) (suc i) l = none_past xs i (omega arith)

some_there : {A : Type 0} (xs : List A) (i : ℕ) → i < length xs → (x : A) × (get_elem? xs i ≡ some x)
some_there [] i l = absurd (omega arith)
some_there (x ∷ xs) zero l = (x, refl)
some_there (x ∷ xs) (suc i) l = some_there xs i (omega arith)

module _ {bs map w : List ℕ} {p : ℕ} (v : Floored bs map w p) where
  abbrev m : Model
  m = v.running.run.model

  abbrev s : State
  s = v.running.run.is

  abbrev pub its_life : Lives p s
  its_life = lives (runs v.running) p v.on_floor

  abbrev pub its_work : Shown w (Lives p)
  its_work = shown (runs v.running) its_life

  abbrev b : ℕ
  b = its_life.innermost.block

  abbrev i : ℕ
  i = its_life.innermost.at

  pub block_in : b < length m.blocks
  block_in =
      let c : chained m (its_life.innermost ∷ its_life.around) ≡ true =
      ap (chained m) (sym its_life.frames_are) ∙ (fine (runs v.running) p v.on_floor).frames_ok in
      (chain_depth m v.running.run.nested its_life.innermost its_life.around c).1

  pub stood : stands_in m (process s p).frames ≡ get_elem? (block m b) i
  stood = ap (stands_in m) its_life.frames_are

  -- k, f, j and n are what the code reads: the block, its first action, which action of it, and the next block's first.
  module _ {k : ℕ} (block_is : k ≡ b) where
    pub block_few : k + 1 < length map
    block_few = omega (arith, block_is, block_in, v.running.run.fits.few_blocks, v.running.mapped.long)

    module _ {f j : ℕ} (first_is : f ≡ get_or map k 0) (index_is : j ≡ i) where
      pub first_at : f ≡ get_or map b 0
      first_at = first_is ∙ ap (λ x. get_or map x 0) block_is

      pub sum_low : f + j ≤ 2_048
      sum_low =
          let a = v.running.mapped.first_few b (omega (arith, block_in, v.running.run.fits.few_blocks)) in
          omega (arith, first_at, index_is, (top_sized its_work its_life).at_low)

      module _ {n : ℕ} (next_is : n ≡ get_or map (k + 1) 0) where
        next_at : n ≡ f + length (block m b)
        next_at =
            next_is ∙ ap (λ x. get_or map (x + 1) 0) block_is ∙ v.running.mapped.first_next b block_in
            ∙ ap (λ x. x + length (block m b)) (sym first_at)

        -- PAST THE LAST action.
        module _ (l : n ≤ f + j) where
          pub stands_nowhere : stands_in m (process s p).frames ≡ none
          stands_nowhere = stood ∙ none_past (block m b) i (omega (arith, next_at, index_is))

          abbrev pub gone : Exhausted bs map w p
          gone = record { running = v.running; on_floor = v.on_floor; stands = stands_nowhere }

          pub gone_as : moves m s p ≡ exhausted m s p (process s p).frames
          unfolding moves
          gone_as =
              ap
              (λ o. elim o
              [ none ↦ exhausted m s p (process s p).frames | some a ↦ act m s p a ])
              stands_nowhere

        -- AT AN ACTION.
        module _ (l : f + j < n) where
          pub its_act : (x : Action) × (get_elem? (block m b) i ≡ some x)
          its_act = some_there (block m b) i (omega (arith, next_at, index_is))

          abbrev pub standing : Stands bs map w p (f + j)
          standing =
              record {
                action = its_act.0;
                asked =
                    record {
                      acting = record { running = v.running; on_floor = v.on_floor; stands = stood ∙ its_act.1 };
                      inside = b;
                      index = i;
                      there = its_act.1;
                      number_is = ap (λ x. x + j) first_at ∙ ap (λ x. get_or map b 0 + x) index_is;
                    };
              }

          pub standing_as : moves m s p ≡ acted standing.asked.acting
          unfolding moves
          standing_as =
              ap
              (λ o. elim o
              [ none ↦ exhausted m s p (process s p).frames | some a ↦ act m s p a ])
              (stood ∙ its_act.1)

-- THE RECORD of the action where it stands, at `place`.
module _ {bs map w : List ℕ} {p a : ℕ} (v : Stands bs map w p a) where
  pub in_map : (length map ≡ Map.WORDS) × (a < 1_024)
  in_map = (v.asked.acting.running.mapped.long, omega (arith, few v.asked))

  module _ {place : ℕ} (place_is : place ≡ get_or map (257 + a) 0) where
    pub record_at : ActionAt bs place v.action
    record_at =
        rw (place_is ∙ ap (λ x. get_or map (257 + x) 0) v.asked.number_is)
        (v.asked.acting.running.mapped.acts_at v.asked.inside v.asked.index v.action v.asked.there)

    pub body_cut : {size : ℕ} → size ≡ u16 bs place
        → take (place + 2 + size - (place + 4)) (drop (place + 4) bs) ≡ body_at bs place
    body_cut {size} e =
        let d : place + 2 + size - (place + 4) ≡ u16 (drop place bs) 0 - 2 =
        omega (arith, e, record_at.size_is, record_at.long) in
        ap (λ x. take x (drop (place + 4) bs)) d ∙ ap (take (u16 (drop place bs) 0 - 2)) (sym (drop-drop 4 place bs))

    module _ {kind : ℕ} (kind_is : kind ≡ kind_at bs place) {body : List ℕ} (body_is : body ≡ body_at bs place) where
      abbrev pub meeting : MeetsAt body bs map w p kind a
      meeting =
          record {
            meets =
                record {
                  action = v.action;
                  acting = v.asked.acting;
                  inside = v.asked.inside;
                  index = v.asked.index;
                  there = v.asked.there;
                  place = place;
                  here = record_at;
                  kind_is = kind_is;
                  body_is = body_is;
                };
            number_is = v.asked.number_is;
          }
