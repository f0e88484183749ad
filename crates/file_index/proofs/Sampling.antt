-- The loop that notes what the samplers draw from: how far it has come, and one turn of it. Assumes nothing.
use Rattle.std.specs.Prelude.{if◌then◌else◌}
use mathlib.Core.Path.{◌≡◌, refl, sym, ◌∙◌, ap}
use mathlib.Core.List.{List, map}
use Prim.Native.Nat.{ℕ, ◌+◌, ◌≤◌, ◌<◌}
use native.Mathlib.Omega.{arith}
use lib.Dec.{eqb}
use lib.ListN.{length, length-map}
use lib.Seq.{sets}
use Rattle.semantics.specs.Kinds as K
use Rattle.semantics.specs.Model.{Sampler}
use Rattle.semantics.specs.Bytes.{records_from}
use Rattle.semantics.specs.Record.{sampler_of}
use Rattle.semantics.specs.Generator.{values_in}
use Rattle.base_numbers.specs.Limit as Limit
use Rattle.base_i32.specs.Code.{code}
use Rattle.file_index.specs.Index.{Readable, given, lowest_in, values_for, samplers_in, samplers_of}
use Rattle.file_reader.specs.Reads.{record_at}
use Rattle.file_reader.specs.Records.{body_at}
use Rattle.file_reader.specs.Walk.{onward, onward_ends}
use Rattle.file_reader.specs.declared.Record.{Record}
use Rattle.file_index.proofs.Records.{Fine, fine_first, step_there, fine_there}
use Rattle.file_index.proofs.Filled.{Fills, Next, fills_length, next_room, next_filled, zeros, zeros-length, zeros_none}
use Rattle.file_index.proofs.Filled.{zeros_filled, given_count, given_if}
use Rattle.file_index.proofs.Limits.{few_samplers}
use Rattle.file_index.proofs.Turns.{samplers_turn}

-- The code of a sampler's lowest value, and how many values it has.
abbrev low : Sampler → ℕ
low x = code x.lowest

abbrev many : Sampler → ℕ
many x = values_in x.lowest x.highest

-- One array, which has of each sampler what f says: the front of its table; that of the rest is still to come.
abbrev Front : (Sampler → ℕ) → List ℕ → List ℕ → ℕ → ℕ → Type 0
Front f s out n at =
    Fills (zeros Limit.SAMPLERS) 0 (map f (samplers_in (records_from 0 s))) out n (map f (samplers_in (onward s at)))

front_starts : (f : Sampler → ℕ) (s : List ℕ) → Readable s → Front f s (zeros Limit.SAMPLERS) 0 0
front_starts f s r =
    zeros_none Limit.SAMPLERS _ _ (omega (arith, few_samplers s r, length-map (samplers_in (records_from 0 s)) f)) refl

pub record Sampling (s lowest values : List ℕ) (samplers at : ℕ) : Type 0 where
  pub fine : Fine (onward s at)
  pub lows : Front low s lowest samplers at
  pub counts : Front many s values samplers at

pub sampling_starts : (s : List ℕ) → Readable s → Sampling s (zeros Limit.SAMPLERS) (zeros Limit.SAMPLERS) 0 0
sampling_starts s r =
    record { fine = fine_first s r; lows = front_starts low s r; counts = front_starts many s r }

module _ {s lowest values : List ℕ} {samplers at : ℕ} (x : Sampling s lowest values samplers at) where
  pub lowest_long : Limit.SAMPLERS ≡ length lowest
  lowest_long = sym (fills_length x.lows ∙ zeros-length Limit.SAMPLERS)

  pub values_long : Limit.SAMPLERS ≡ length values
  values_long = sym (fills_length x.counts ∙ zeros-length Limit.SAMPLERS)

  -- The record y stands here, and the next one at n.
  module _ (h : at < length s) {y : Record} (e : y ≡ record_at s at) {n : ℕ} (i : n ≡ (record_at s at).next) where
    abbrev k : ℕ
    k = y.kind

    abbrev bs : List ℕ
    bs = body_at s at n

    -- What is written in one array.
    module _ (f : Sampler → ℕ) {out : List ℕ} (w : Front f s out samplers at) where
      on : Next (zeros Limit.SAMPLERS) 0 (map f (samplers_in (records_from 0 s))) out samplers
          (given (eqb k K.SAMPLER) (f (sampler_of bs))) (map f (samplers_in (onward s n)))
      on = record { fills = rw ((step_there s at h x.fine e i).here, samplers_turn at k bs (onward s n) f) at w }

      module _ {v : ℕ} (j : v ≡ (if eqb k K.SAMPLER then f (sampler_of bs) else 0)) where
        same : given (eqb k K.SAMPLER) v ≡ given (eqb k K.SAMPLER) (f (sampler_of bs))
        same = ap (given (eqb k K.SAMPLER)) j ∙ given_if (eqb k K.SAMPLER) (f (sampler_of bs)) 0

        room : samplers + length (given (eqb k K.SAMPLER) v) ≤ length out
        room = rw same (next_room on)

        turn : (u : ℕ) →
            Front f s (sets out samplers (given (eqb k K.SAMPLER) v)) (samplers + length (given (eqb k K.SAMPLER) u)) n
        turn u =
            rw (given_count (eqb k K.SAMPLER) u samplers, ← (given_count (eqb k K.SAMPLER) (f (sampler_of bs)) samplers), same)
            (next_filled on)

    pub lowest_room : {v : ℕ} → v ≡ lowest_in k bs → samplers + length (given (eqb k K.SAMPLER) v) ≤ length lowest
    lowest_room j = room low x.lows j

    pub values_room : {v : ℕ} → v ≡ values_for k bs → samplers + length (given (eqb k K.SAMPLER) v) ≤ length values
    values_room j = room many x.counts j

    pub sampling_turn : {v u : ℕ} → v ≡ lowest_in k bs → u ≡ values_for k bs →
        Sampling s (sets lowest samplers (given (eqb k K.SAMPLER) v)) (sets values samplers (given (eqb k K.SAMPLER) u))
        (samplers + length (given (eqb k K.SAMPLER) u)) n
    sampling_turn {u = u} p q =
        record {
          fine = fine_there s at h x.fine e i;
          lows = turn low x.lows p u;
          counts = turn many x.counts q u;
        }

  -- Nothing is left.
  pub sampling_ends : length s ≤ at → record { lowest = lowest; values = values } ≡ samplers_of (records_from 0 s)
  unfolding samplers_of
  sampling_ends h =
      let a = zeros_filled Limit.SAMPLERS (ap (λ rs. map low (samplers_in rs)) (onward_ends s at h)) x.lows in
      let b = zeros_filled Limit.SAMPLERS (ap (λ rs. map many (samplers_in rs)) (onward_ends s at h)) x.counts in
      rw (a.1, b.1)
