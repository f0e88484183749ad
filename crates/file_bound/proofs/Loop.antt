-- The loop of `total` over the records of a file. Assumes nothing.
use Rattle.std.specs.Prelude.{if◌then◌else◌}
use Prim.Native.Nat.{ℕ, ◌+◌, ◌≤◌, ◌<◌}
use mathlib.Core.Path.{◌≡◌, refl}
use mathlib.Core.List.{List, [], ◌∷◌, ◌++◌}
use mathlib.Core.Bool.{Bool, true, false}
use native.Mathlib.Omega.{arith}
use borrow.Author.Tests.{eq-eqb, eqb-true}
use lib.Dec.{eqb}
use lib.ListN.{length, get_or}
use Rattle.semantics.specs.Model.{body}
use Rattle.semantics.specs.Bytes.{Raw, u16, records_from}
use Rattle.semantics.specs.Decode.{gather}
use Rattle.semantics.specs.Bound.{weight, class_weight, bound}
use Rattle.promises.specs.Laws.{AllOf, no_way}
use Rattle.promises.specs.Fit.{EntityFit}
use Rattle.base_numbers.specs.Limit as Limit
use Rattle.file_reader.specs.Reads.{record_at}
use Rattle.file_reader.specs.Records.{body_at}
use Rattle.file_reader.specs.Walk.{onward, onward_ends, Step}
use Rattle.file_reader.specs.declared.Record.{Record}
use Rattle.file_index.specs.Index.{Judged}
use Rattle.file_index.proofs.Records.{Fine, fine_first, step_there, judged_there, fine_there}
use Rattle.file_weight.specs.Weigh.{Acts, acts_in, cap, told}
use Rattle.file_bound.specs.Endable.{Endable, Bodied}
use Rattle.file_bound.proofs.Arrays.{Arrays, model_of, readable, fit}
use Rattle.file_bound.proofs.Entities.{entity_if, entity_in, entities_of, entity_head, due, due_all, due_none, due_more}

-- An empty file weighs nothing.
pub nothing_weighs : (s : List ℕ) → eqb (length s) 0 ≡ true → 0 ≡ cap (bound (model_of s))
unfolding records_from gather bound
nothing_weighs [] h = refl
nothing_weighs (x ∷ s) h = absurd (omega (arith, eqb-true (length (x ∷ s)) 0 h))

-- At byte place `at` of the file s, w and what the ENTITY records to come weigh are the bound, under the cap; these name classes
-- that there are.
pub record Going (s bodies first from goes own times : List ℕ) (n w at : ℕ) : Type 0 where
  pub on : Fine (onward s at)
  pub made_for : Arrays (model_of s) bodies first from goes own times n
  pub named : AllOf (EntityFit (model_of s)) (gather (onward s at)).model.entities
  pub small : w ≤ Limit.OVER
  pub found : cap (w + due (model_of s) (onward s at)) ≡ cap (bound (model_of s))

pub going_begun : (s : List ℕ) → Endable s → {bodies first from goes own times : List ℕ} {n : ℕ} →
    Arrays (model_of s) bodies first from goes own times n →
    Going s bodies first from goes own times n 0 0
going_begun s e {bodies} {first} {from} {goes} {own} {times} {n} a =
    record {
      on = fine_first s (readable s e);
      made_for = a;
      named = (fit s e).entities_fit;
      small = omega arith;
      found = rw (due_all (records_from 0 s)) (omega arith);
    }

module _ {s bodies first from goes own times : List ℕ} {n : ℕ} {w at : ℕ}
    (t : Going s bodies first from goes own times n w at) where
  abbrev acting : Acts
  acting = acts_in first from goes own times

  pub going_ended : length s ≤ at → w ≡ cap (bound (model_of s))
  going_ended h =
      let f : cap (w + 0) ≡ cap (bound (model_of s)) = rw (onward_ends s at h, due_none (model_of s)) at t.found in
      omega (arith, f, t.small)

  -- A reader that stands there reads x, and the next place is e.
  module _ (h : at < length s) {x : Record} (r : x ≡ record_at s at) {e : ℕ} (i : e ≡ (record_at s at).next) where
    abbrev k : ℕ
    k = x.kind

    abbrev front : List ℕ
    front = body_at s at e

    abbrev behind : List Raw
    behind = onward s e

    pub step : Step s at k e
    step = step_there s at h t.on r i

    judged : Judged k front
    judged = judged_there s at h t.on r i

    made_here : (gather (onward s at)).model.entities ≡ entity_in k front ++ (gather behind).model.entities
    made_here = rw step.here (entities_of at k front behind judged)

    parted : (b : Bool) → AllOf (EntityFit (model_of s)) (entity_if b front ++ (gather behind).model.entities) →
        (b ≡ true → u16 front 0 < length (model_of s).classes) × AllOf (EntityFit (model_of s)) (gather behind).model.entities
    parted true f = ((λ q. f.0.0), f.1)
    parted false f = ((λ q. no_way q), f)

    named_here : (eqb k 7 ≡ true → u16 front 0 < length (model_of s).classes)
        × AllOf (EntityFit (model_of s)) (gather behind).model.entities
    named_here = parted (eqb k 7) (rw made_here at t.named)

    pub going_bodied : k ≡ 7 → Bodied front bodies n
    going_bodied q =
        let c = named_here.0 (eq-eqb k 7 q) in
        let a = t.made_for in
        record {
          there = omega (arith, entity_head k front judged q);
          class_in = omega (arith, c, a.few_classes);
          block_in = rw (a.body_is (u16 front 0)) (a.body_in (u16 front 0) c);
        }

    -- What the code finds of the record that stands here, and the record's part of the bound.
    module _ {v : ℕ} (f : v ≡ (if eqb k 7 then told acting n (get_or bodies (u16 front 0) 0) else 0)) where
      pub going_small : v ≤ Limit.OVER + 1
      going_small = go (eqb k 7) f
        where
          go : (b : Bool) → v ≡ (if b then told acting n (get_or bodies (u16 front 0) 0) else 0) → v ≤ Limit.OVER + 1
          go true g = omega arith
          go false g = omega arith

      due_here : due (model_of s) (onward s at)
          ≡ (if eqb k 7 then class_weight (model_of s) (u16 front 0) else 0) + due (model_of s) behind
      due_here = rw step.here (due_more (model_of s) at k front behind judged)

      told_here : k ≡ 7 →
          told acting n (get_or bodies (u16 front 0) 0) ≡ cap (weight (model_of s) (body (model_of s) (u16 front 0))) + 1
      told_here q =
          let a = t.made_for in
          let b = a.body_is (u16 front 0) in
          let l : body (model_of s) (u16 front 0) < n = rw b at (going_bodied q).block_in in
          rw (b, a.weighs (body (model_of s) (u16 front 0)) l)

      class_is : class_weight (model_of s) (u16 front 0) ≡ weight (model_of s) (body (model_of s) (u16 front 0)) + 1
      unfolding class_weight
      class_is = refl

      turned : (b : Bool) → eqb k 7 ≡ b → v ≡ (if b then told acting n (get_or bodies (u16 front 0) 0) else 0) →
          due (model_of s) (onward s at) ≡ (if b then class_weight (model_of s) (u16 front 0) else 0) + due (model_of s) behind →
          cap (cap (w + v) + due (model_of s) behind) ≡ cap (bound (model_of s))
      turned true q g d = omega (arith, told_here (eqb-true k 7 q), class_is, t.found)
      turned false q g d = omega (arith, t.found)

      pub going_on : Going s bodies first from goes own times n (cap (w + v)) e
      going_on =
          record {
            on = fine_there s at h t.on r i;
            made_for = t.made_for;
            named = named_here.1;
            small = omega arith;
            found = turned (eqb k 7) refl f due_here;
          }
