-- The loop that makes the index: how far it has come, and one turn of it. Assumes nothing.
use Rattle.std.specs.Prelude.{if◌then◌else◌}
use mathlib.Core.Path.{◌≡◌, refl, sym, ◌∙◌, ap}
use mathlib.Core.List.{List, [], ◌∷◌, map}
use Prim.Native.Nat.{ℕ, ◌+◌, ◌-◌, ◌≤◌, ◌<◌}
use native.Mathlib.Omega.{arith}
use lib.Dec.{eqb}
use lib.ListN.{length, set, length-map}
use lib.Seq.{sets}
use Rattle.semantics.specs.Kinds as K
use Rattle.semantics.specs.Bytes.{Raw, records_from, u16}
use Rattle.base_numbers.specs.Limit as Limit
use Rattle.file_index.specs.Index.{Readable, given, acts, acts_of, firsts_of, bodies_of, index_of}
use Rattle.file_reader.specs.Reads.{record_at}
use Rattle.file_reader.specs.Records.{body_at}
use Rattle.file_reader.specs.Walk.{onward, onward_ends, Step}
use Rattle.file_reader.specs.declared.Record.{Record}
use Rattle.file_index.proofs.Records.{Fine, fine_first, step_there, fine_there}
use Rattle.file_index.proofs.Filled.{Fills, Next, fills_length, next_room, next_filled, zeros, zeros-length, zeros_none}
use Rattle.file_index.proofs.Filled.{zeros_filled, given_count, given_if}
use Rattle.file_index.proofs.Limits.{few_bodies, few_firsts, few_acts}
use Rattle.file_index.proofs.Turns.{acts_turn}

abbrev places_of : List Raw → List ℕ
places_of rs = map (λ a. a.place) (acts_of rs)

few_places : (s : List ℕ) → Readable s → length (places_of (records_from 0 s)) ≤ Limit.ACTIONS
few_places s r = omega (arith, length-map (acts_of (records_from 0 s)) (λ a. a.place), few_acts s r)

-- Each array has the front of its table; the tables of the rest are still to come.
pub record Indexing (s first place body : List ℕ) (blocks actions classes at : ℕ) : Type 0 where
  pub fine : Fine (onward s at)
  pub firsts : Fills (zeros (Limit.BLOCKS + 1)) 0 (firsts_of 0 (records_from 0 s)) first blocks (firsts_of actions (onward s at))
  pub places : Fills (zeros Limit.ACTIONS) 0 (places_of (records_from 0 s)) place actions (places_of (onward s at))
  pub bodies : Fills (zeros Limit.CLASSES) 0 (bodies_of (records_from 0 s)) body classes (bodies_of (onward s at))

pub index_starts : (s : List ℕ) → Readable s
    → Indexing s (zeros (Limit.BLOCKS + 1)) (zeros Limit.ACTIONS) (zeros Limit.CLASSES) 0 0 0 0
index_starts s r =
    record {
      fine = fine_first s r;
      firsts = zeros_none (Limit.BLOCKS + 1) _ _ (few_firsts s r) refl;
      places = zeros_none Limit.ACTIONS _ _ (few_places s r) refl;
      bodies = zeros_none Limit.CLASSES _ _ (few_bodies s r) refl;
    }

module _ {s first place body : List ℕ} {blocks actions classes at : ℕ}
    (x : Indexing s first place body blocks actions classes at) where
  pub first_long : Limit.BLOCKS + 1 ≡ length first
  first_long = sym (fills_length x.firsts ∙ zeros-length (Limit.BLOCKS + 1))

  pub place_long : Limit.ACTIONS ≡ length place
  place_long = sym (fills_length x.places ∙ zeros-length Limit.ACTIONS)

  pub body_long : Limit.CLASSES ≡ length body
  body_long = sym (fills_length x.bodies ∙ zeros-length Limit.CLASSES)

  pub actions_few : actions ≤ Limit.ACTIONS
  actions_few = omega (arith, x.places.count, x.places.fits, zeros-length Limit.ACTIONS)

  -- The record y stands here, and the next one at n.
  module _ (h : at < length s) {y : Record} (e : y ≡ record_at s at) {n : ℕ} (i : n ≡ (record_at s at).next) where
    abbrev k : ℕ
    k = y.kind

    abbrev bs : List ℕ
    bs = body_at s at n

    abbrev next : List Raw
    next = onward s n

    there : Step s at k n
    there = step_there s at h x.fine e i

    firsts_on : Next (zeros (Limit.BLOCKS + 1)) 0 (firsts_of 0 (records_from 0 s)) first blocks (given (eqb k K.BLOCK) actions)
        (firsts_of (if acts k then actions + 1 else actions) next)
    unfolding firsts_of
    firsts_on = record { fills = rw there.here at x.firsts }

    places_on : Next (zeros Limit.ACTIONS) 0 (places_of (records_from 0 s)) place actions (given (acts k) at) (places_of next)
    places_on =
        record { fills = rw (there.here, acts_turn at k bs next (λ a. a.place)) at x.places }

    bodies_on : Next (zeros Limit.CLASSES) 0 (bodies_of (records_from 0 s)) body classes (given (eqb k K.CLASS) (u16 bs 0))
        (bodies_of next)
    unfolding bodies_of
    bodies_on = record { fills = rw there.here at x.bodies }

    pub first_room : blocks + length (given (eqb k K.BLOCK) actions) ≤ length first
    first_room = next_room firsts_on

    pub place_room : actions + length (given (acts k) at) ≤ length place
    place_room = next_room places_on

    module _ {v : ℕ} (j : v ≡ (if eqb k K.CLASS then u16 bs 0 else 0)) where
      same_body : given (eqb k K.CLASS) v ≡ given (eqb k K.CLASS) (u16 bs 0)
      same_body = ap (given (eqb k K.CLASS)) j ∙ given_if (eqb k K.CLASS) (u16 bs 0) 0

      pub body_room : classes + length (given (eqb k K.CLASS) v) ≤ length body
      body_room = rw same_body (next_room bodies_on)

      pub index_turn : Indexing s (sets first blocks (given (eqb k K.BLOCK) actions)) (sets place actions (given (acts k) at))
          (sets body classes (given (eqb k K.CLASS) v)) (blocks + length (given (eqb k K.BLOCK) actions))
          (actions + length (given (acts k) at)) (classes + length (given (eqb k K.CLASS) v))
          n
      index_turn =
          record {
            fine = fine_there s at h x.fine e i;
            firsts = rw (given_count (acts k) at actions) (next_filled firsts_on);
            places = next_filled places_on;
            bodies = rw same_body (next_filled bodies_on);
          }

  -- Nothing is left.
  module _ (h : length s ≤ at) where
    firsts_last : Next (zeros (Limit.BLOCKS + 1)) 0 (firsts_of 0 (records_from 0 s)) first blocks (actions ∷ []) []
    unfolding firsts_of
    firsts_last = record { fills = rw (onward_ends s at h) at x.firsts }

    pub last_room : blocks < Limit.BLOCKS + 1
    last_room = omega (arith, next_room firsts_last, first_long)

    pub index_ends : record {
      blocks = blocks;
      actions = actions;
      classes = classes;
      first = set first blocks actions;
      place = place;
      body = body;
    }
        ≡ index_of (records_from 0 s)
    unfolding index_of acts_of bodies_of
    index_ends =
        let f = zeros_filled (Limit.BLOCKS + 1) refl (next_filled firsts_last) in
        let p = zeros_filled Limit.ACTIONS (ap places_of (onward_ends s at h)) x.places in
        let b = zeros_filled Limit.CLASSES (ap bodies_of (onward_ends s at h)) x.bodies in
        let n : blocks ≡ length (firsts_of 0 (records_from 0 s)) - 1 = omega (arith, f.0) in
        let a : actions ≡ length (acts_of (records_from 0 s)) = p.0 ∙ length-map (acts_of (records_from 0 s)) (λ a. a.place) in
        rw (f.1, p.1, b.1, n, a, b.0)
