-- Round the loop that begins the entities. Assumes nothing.
use Rattle.std.specs.Prelude.{if◌then◌else◌}
use Prim.Native.Nat.{ℕ, ◌+◌, ◌≤◌, ◌<◌}
use native.Mathlib.Omega.{arith}
use mathlib.Core.Path.{◌≡◌, refl, sym, subst, ◌∙◌, ap}
use mathlib.Core.List.{List, [], ◌∷◌}
use mathlib.Core.Bool.{Bool, true, false}
use lib.Dec.{eqb}
use borrow.Author.Tests.{eq-eqb}
use lib.ListN.{length, get_or}
use Rattle.semantics.specs.Kinds as K
use Rattle.semantics.specs.Model.{Model, Entity, body}
use Rattle.semantics.specs.Bytes.{u16, u32}
use Rattle.semantics.specs.Decode.{gather}
use Rattle.semantics.specs.State.{State, bare, begin_all, fresh}
use Rattle.promises.specs.Fit.{Fit, Nested}
use Rattle.promises.specs.Accepted.{accepted_fit, accepted_nested}
use Rattle.base_numbers.specs.Row as Row
use Rattle.base_numbers.specs.Map as Map
use Rattle.base_numbers.specs.Limit as Limit
use Rattle.file_reader.specs.Reads.{record_at}
use Rattle.file_reader.specs.Records.{body_at}
use Rattle.file_reader.specs.Walk.{onward, onward_ends}
use Rattle.file_reader.specs.declared.Record.{Record}
use Rattle.row_work.specs.Work.{work_of, Doing, Done}
use Rattle.row_work.specs.Shown.{work_long}
use Rattle.file_index.proofs.Gathered.{gather_none}
use Rattle.file_index.proofs.Records.{Fine, fine_first, judged_there, fine_there}
use Rattle.file_index.proofs.Standing.{accepted_by}
use Rattle.row_begin_end.specs.Begins.{begins}
use Rattle.run_fresh.specs.Fresh.{Beginning, enters_by, Entering}
use Rattle.run_fresh.proofs.Declared.{entity_in, entities, front_adds}
use Rattle.run_fresh.proofs.Ready.{Ready, ready_starts, is_roomy, is_begun, ready_next}

-- The entities of the records that are left are still to begin, and then the run is fresh.
pub record Running (m : Model) (bs w : List ℕ) (at : ℕ) : Type 0 where
  pub fine : Fine (onward bs at)
  pub is : State
  pub shows : w ≡ work_of is
  pub ready : Ready m (gather (onward bs at)).model.entities is
  pub leads : begin_all m (gather (onward bs at)).model.entities is ≡ fresh m

module _ {bs map w : List ℕ} (d : Beginning bs map w) where
  fits : Fit d.model
  fits = accepted_fit bs d.model d.is_accepted

  nests : Nested d.model
  nests = accepted_nested bs d.model d.is_accepted

  pub run_starts : Running d.model bs w 0
  unfolding fresh
  run_starts =
      let a = accepted_by bs d.model d.is_accepted in
      let m = d.model in
      let g : m.entities ≡ (gather (onward bs 0)).model.entities = ap (λ x. x.entities) (sym a.is) in
      record {
        fine = fine_first bs a.readable;
        is = bare m;
        shows = d.shows;
        ready = subst (λ es. Ready m es (bare m)) g (ready_starts m fits);
        leads = ap (λ es. begin_all m es (bare m)) (sym g);
      }

-- ROUND THE LOOP.
module _ {bs map w₀ : List ℕ} (d : Beginning bs map w₀) {w : List ℕ} {at : ℕ} (v : Running d.model bs w at) where
  abbrev m : Model
  m = d.model

  pub run_long : length w ≡ Row.WORDS
  run_long = ap length v.shows ∙ work_long v.is v.ready.is_sized

  pub run_ends : length bs ≤ at → w ≡ work_of (fresh m)
  unfolding begin_all
  run_ends h =
      let g : (gather (onward bs at)).model.entities ≡ [] = rw (onward_ends bs at h, gather_none) in
      v.shows ∙ ap work_of (ap (λ es. begin_all m es v.is) (sym g) ∙ v.leads)

  -- The record q stands here, and the next one at z.
  module _ (h : at < length bs) {q : Record} (e : q ≡ record_at bs at) {z : ℕ} (o : z ≡ (record_at bs at).next) where
    abbrev k : ℕ
    k = q.kind

    abbrev bytes : List ℕ
    bytes = body_at bs at z

    abbrev es : List Entity
    es = (gather (onward bs z)).model.entities

    same : (gather (onward bs at)).model.entities ≡ entities (eqb k K.ENTITY) (entity_in bytes) es
    same = (front_adds bs at h v.fine e o).entities_are

    readied : Ready m (entities (eqb k K.ENTITY) (entity_in bytes) es) v.is
    readied = subst (λ l. Ready m l v.is) same v.ready

    -- Where it is an ENTITY.
    module _ (r : Ready m (entity_in bytes ∷ es) v.is) where
      class_low : u16 bytes 0 < Limit.CLASSES
      class_low = let a = r.each_fits.0.0 in omega (arith, (fits d).few_classes)

      block_is : get_or map (Map.BODY + u16 bytes 0) 0 ≡ body m (u16 bytes 0)
      block_is = d.is_mapped.body_is (u16 bytes 0) class_low

    after : Bool → State
    after t = if t then begins (get_or map (Map.BODY + u16 bytes 0) 0) (u32 bytes 2) v.is else v.is

    stepped : (t : Bool) → Ready m (entities t (entity_in bytes) es) v.is
        → Ready m es (after t) × (begin_all m (entities t (entity_in bytes) es) v.is ≡ begin_all m es (after t))
    unfolding after
    stepped false r = (r, refl)
    stepped true r =
        let a = ready_next m (fits d) (nests d) (entity_in bytes) es v.is r in
        let b = is_begun m (fits d) (nests d) (entity_in bytes) es v.is r in
        rw (block_is r) (a, b)

    of_entity : k ≡ K.ENTITY → Ready m (entity_in bytes ∷ es) v.is
    of_entity i = subst (λ t. Ready m (entities t (entity_in bytes) es) v.is) (eq-eqb k K.ENTITY i) readied

    pub entering : Doing w (Entering map k bytes) (λ s. enters_by map k bytes s)
    unfolding after
    entering =
        record {
          is = v.is;
          shows = v.shows;
          before = v.ready.is_sized;
          after = (stepped (eqb k K.ENTITY) readied).0.is_sized;
          given =
              record {
                long = d.is_mapped.long;
                judged = judged_there bs at h v.fine e o;
                class_low = λ i. class_low (of_entity i);
                roomy = λ i. is_roomy m (fits d) (nests d) (entity_in bytes) es v.is (of_entity i);
              };
        }

    pub run_turn : {x : List ℕ} → Done w (Entering map k bytes) (λ s. enters_by map k bytes s) x → Running m bs x z
    unfolding entering after
    run_turn done =
        let a = stepped (eqb k K.ENTITY) readied in
        record {
          fine = fine_there bs at h v.fine e o;
          is = enters_by map k bytes v.is;
          shows = done entering;
          ready = a.0;
          leads = sym a.1 ∙ ap (λ l. begin_all m l v.is) (sym same) ∙ v.leads;
        }
