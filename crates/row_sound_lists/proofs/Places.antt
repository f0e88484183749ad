-- The test of a place: nobody is there and it is vacant, or somebody whose numbers are in range and whose number is its own.
-- Assumes nothing.
use Rattle.std.specs.Prelude.{if◌then◌else◌}
use Prim.Native.Nat.{ℕ, suc, ◌+◌, ◌/◌, ◌<◌}
use native.Mathlib.Omega.{arith}
use mathlib.Core.Path.{◌≡◌, refl, sym, ◌∙◌, ap}
use mathlib.Core.List.{List, [], ◌∷◌}
use mathlib.Core.Bool.{Bool, ◌&&◌, ◌||◌}
use lib.Dec.{eqb, leb, ltb}
use borrow.Author.Tests.{lt-ltb, eq-eqb, ne_eqb}
use lib.ListN.{length, get_or}
use lib.IntN.{pos}
use lib.Signed.{mag, le_z}
use Rattle.semantics.specs.Words.{all, keep, is_empty, within}
use Rattle.semantics.specs.Model.{Model}
use Rattle.semantics.specs.State.{State, Process, Frame, Slave, nobody, process, is_free}
use Rattle.semantics.specs.Value.{is_i32}
use Rattle.semantics.specs.Sound.{same, vacant, furnished, process_in_range, own_number}
use Rattle.promises.specs.Fit.{I32}
use Rattle.promises.specs.Laws.{AllOf, all_map, all_get, over-keep}
use Rattle.base_i32.specs.Code.{code}
use Rattle.base_i32.specs.Laws.{code_order}
use Rattle.row_work.specs.Work.{ProcessSized, SlaveSized}
use Rattle.row_process.specs.Process.{Shown}
use Rattle.semantics.specs.Numbers as No
use Rattle.semantics.specs.Numbers.{lowest}
use Rattle.base_numbers.specs.Row as Row
use Rattle.base_numbers.specs.Process as Process
use Rattle.base_numbers.specs.Word as Word
use Rattle.base_numbers.specs.Code as Code
use Rattle.row_process.proofs.Standing as Stand
use Rattle.row_sound_lists.specs.Tests.{each, one_if, word_of, slaves_known, alike, vacant_row, living_row, place_fits}
use Rattle.row_sound_lists.specs.Counted.{Furnished}
use Rattle.row_sound_lists.proofs.Indices.{each_all, tally-over, all_true, all_index}
use Rattle.row_sound_lists.proofs.Tests.{same_code, empty_length, and_unit, and_assoc}
use Rattle.row_sound_lists.proofs.Reading.{no_slave, last_is, slave_at, sized_there}

-- What the clauses say of one place, its blocks apart.
abbrev pub place_ok : Model → State → Process → Bool
place_ok m s q =
    (if is_free q then vacant q else furnished m q) && ((is_free q || process_in_range m q) && (is_free q || own_number s q))

module _ {w : List ℕ} {P : State → Type 0} (v : Shown w P) (m : Model) (p : ℕ) (l : p < No.places) where
  abbrev s : State
  s = v.is

  abbrev q : Process
  q = process s p

  h : ProcessSized q
  h = sized_there v p l

  -- NOBODY.
  vacant_is : (q.locals ≡ []) → (q.held ≡ []) → vacant_row w p ≡ vacant q
  unfolding code
  vacant_is a b =
      ap (λ n. eqb n 0 && (eqb (word_of w p Process.PRIORITY) Code.ZERO && eqb (word_of w p Process.SLAVES) 0))
      (Stand.number_is v p l)
      ∙ ap (λ n. eqb q.number 0 && (eqb n Code.ZERO && eqb (word_of w p Process.SLAVES) 0)) (Stand.priority_is v p l)
      ∙ ap (λ n. eqb q.number 0 && (eqb (code q.priority) Code.ZERO && eqb n 0)) (Stand.slaves_are v p l)
      ∙ ap (λ t. eqb q.number 0 && (t && eqb (length q.slaves) 0))
      (same_code q.priority (pos 0) h.priority_ok (omega arith))
      ∙ ap (λ t. eqb q.number 0 && (same q.priority (pos 0) && t)) (empty_length q.slaves)
      ∙ ap (λ (t : Bool). eqb q.number 0 && (same q.priority (pos 0) && (t && is_empty q.slaves))) (sym (ap is_empty b))
      ∙ ap (λ (t : Bool). eqb q.number 0 && (same q.priority (pos 0) && (t && (is_empty q.held && is_empty q.slaves))))
      (sym (ap is_empty a))

  -- SOMEBODY.
  slaves_known_lem : slaves_known w m.syncs p ≡ all (λ x. ltb x.of m.syncs) q.slaves
  slaves_known_lem =
      each_all no_slave (λ x. ltb x.of m.syncs) _ q.slaves _ (Stand.slaves_are v p l)
      (λ k i. ap (λ n. ltb n m.syncs) (sync_in k i))
    where
      sync_in : (k : ℕ) → k < length q.slaves → word_of w p (Process.OWNED + k) / Word.SYNC ≡ (get_or q.slaves k no_slave).of
      sync_in k i =
          let x : Slave = get_or q.slaves k no_slave in
          let z : SlaveSized x = all_get SlaveSized q.slaves k no_slave h.slaves_ok (omega arith) in
          ap (λ n. n / Word.SYNC) (slave_at v p l k i) ∙ omega (arith, z.place_low)

  alike_is : (n : ℕ) → alike w n ≡ length (keep (λ r. eqb n r.number) s.processes)
  alike_is n =
      tally-over nobody (λ r. one_if (eqb n r.number)) _ s.processes No.places (sym v.sized.places_64)
      (λ k i. ap (λ x. one_if (eqb n x)) (Stand.number_is v k (omega (arith, v.sized.places_64))))
      ∙ sym (over-keep (λ r. eqb n r.number) s.processes)

  own_is : (within 1 (get_or w Row.LAST 0) (word_of w p Process.NUMBER) && eqb (alike w (word_of w p Process.NUMBER)) 1)
      ≡ own_number s q
  own_is =
      ap (λ n. within 1 n (word_of w p Process.NUMBER) && eqb (alike w (word_of w p Process.NUMBER)) 1) (last_is v)
      ∙ ap (λ n. within 1 s.last n && eqb (alike w n) 1) (Stand.number_is v p l)
      ∙ ap (λ n. within 1 s.last q.number && eqb n 1) (alike_is q.number)

  range_is : (leb Code.LOWEST (word_of w p Process.PRIORITY) && slaves_known w m.syncs p) ≡ process_in_range m q
  unfolding code
  range_is =
      ap (λ n. leb Code.LOWEST n && slaves_known w m.syncs p) (Stand.priority_is v p l)
      ∙ ap (λ t. t && slaves_known w m.syncs p) (code_order lowest q.priority (omega arith) h.priority_ok)
      ∙ ap (λ t. le_z lowest q.priority && t) slaves_known_lem
      ∙ ap (λ (t : Bool). le_z lowest q.priority && (t && all (λ x. ltb x.of m.syncs) q.slaves))
      (sym (all_true is_i32 q.locals (all_map I32 _ (λ x i. lt-ltb (mag x) Code.ZERO i) q.locals h.locals_ok)))
      ∙ ap (λ (t : Bool). le_z lowest q.priority
      && (t && (all is_i32 q.locals && all (λ x. ltb x.of m.syncs) q.slaves)))
      (sym (lt-ltb (mag q.priority) Code.ZERO h.priority_ok))

  living_is : length q.locals ≡ No.locals → length q.held ≡ length m.totals
      → living_row w m.syncs p ≡ (furnished m q && (process_in_range m q && own_number s q))
  living_is a b =
      sym (and_assoc (leb Code.LOWEST (word_of w p Process.PRIORITY)) (slaves_known w m.syncs p) _)
      ∙ ap (λ t. t && (within 1 (get_or w Row.LAST 0) (word_of w p Process.NUMBER) && eqb (alike w (word_of w p Process.NUMBER)) 1))
      range_is
      ∙ ap (λ t. process_in_range m q && t) own_is
      ∙ ap (λ (t : Bool). t && (process_in_range m q && own_number s q))
      (sym (eq-eqb (length q.held) (length m.totals) b))
      ∙ ap (λ (t : Bool). (t && eqb (length q.held) (length m.totals)) && (process_in_range m q && own_number s q))
      (sym (eq-eqb (length q.locals) No.locals a))

  pub place_is : Furnished m q → place_fits w m.syncs p ≡ place_ok m s q
  place_is f = by q.frames refl
    where
      by : (fs : List Frame) → q.frames ≡ fs → place_fits w m.syncs p ≡ place_ok m s q
      by [] e =
          let a = f.empty (ap is_empty e) in
          ap (λ n. if eqb n 0 then vacant_row w p else living_row w m.syncs p) (Stand.depth_is v p l ∙ ap length e)
          ∙ vacant_is a.0 a.1
          ∙ sym (and_unit (vacant q))
          ∙ ap (λ (b : Bool). (if b then vacant q else furnished m q) && ((b || process_in_range m q) && (b || own_number s q)))
          (sym (ap is_empty e))
      by (g ∷ fs) e =
          let a = f.full (ap is_empty e) in
          ap (λ t. if t then vacant_row w p else living_row w m.syncs p)
          (ap (λ n. eqb n 0) (Stand.depth_is v p l ∙ ap length e) ∙ ne_eqb (suc (length fs)) 0 (λ z. omega arith))
          ∙ living_is a.0 a.1
          ∙ ap (λ (b : Bool). (if b then vacant q else furnished m q) && ((b || process_in_range m q) && (b || own_number s q)))
          (sym (ap is_empty e))

module _ {w : List ℕ} {P : State → Type 0} (v : Shown w P) (m : Model) where
  pub places_are : AllOf (Furnished m) v.is.processes
      → each No.places (place_fits w m.syncs) ≡ all (place_ok m v.is) v.is.processes
  places_are f =
      each_all nobody (place_ok m v.is) _ v.is.processes No.places (sym v.sized.places_64)
      (λ p i. place_is v m p (omega (arith, v.sized.places_64)) (all_index nobody (Furnished m) v.is.processes f p i))
