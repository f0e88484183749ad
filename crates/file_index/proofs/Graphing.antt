-- The loop that makes the graph: how far it has come, and one turn of it. Assumes nothing.
use Rattle.std.specs.Prelude.{if◌then◌else◌}
use mathlib.Core.Path.{◌≡◌, refl, sym, ◌∙◌, ap}
use mathlib.Core.List.{List, [], ◌∷◌, map}
use mathlib.Core.Bool.{Bool}
use Prim.Native.Nat.{ℕ, ◌+◌, ◌≤◌, ◌<◌}
use native.Mathlib.Omega.{arith}
use lib.ListN.{length, set, length-map}
use lib.Seq.{sets}
use Rattle.semantics.specs.Words.{collect}
use Rattle.semantics.specs.Bytes.{Raw, records_from}
use Rattle.base_numbers.specs.Limit as Limit
use Rattle.file_index.specs.Index.{Act, Readable, given, acts, acts_of, own_in, times_in, goes_in, goes_by, runs, graph_of}
use Rattle.file_reader.specs.Reads.{record_at}
use Rattle.file_reader.specs.Records.{body_at}
use Rattle.file_reader.specs.Walk.{onward, onward_ends, Step}
use Rattle.file_reader.specs.declared.Record.{Record}
use Rattle.file_index.proofs.Records.{Fine, fine_first, step_there, fine_there}
use Rattle.file_index.proofs.Filled.{Fills, Next, fills_length, next_room, next_filled, zeros, zeros-length, zeros_none}
use Rattle.file_index.proofs.Filled.{zeros_filled, given_count, given_if}
use Rattle.file_index.proofs.Limits.{few_acts, few_goes, runs_count}
use Rattle.file_index.proofs.Bodies.{goes_none}
use Rattle.file_index.proofs.Turns.{acts_turn, lists_turn, from_turn}

-- The tables of the records rs.
abbrev owns_of : List Raw → List ℕ
owns_of rs = map (λ a. own_in a.kind) (acts_of rs)

abbrev times_of : List Raw → List ℕ
times_of rs = map (λ a. times_in a.kind a.body) (acts_of rs)

abbrev froms_of : Bool → List ℕ → ℕ → List Raw → List ℕ
froms_of start bodies n rs = runs (λ a. length (goes_by start bodies a)) n (acts_of rs)

abbrev names_of : Bool → List ℕ → List Raw → List ℕ
names_of start bodies rs = collect (goes_by start bodies) (acts_of rs)

-- Each array has the front of its table; the tables of the rest are still to come.
pub record Graphing (s : List ℕ) (start : Bool) (bodies own times from goes : List ℕ) (actions ends at : ℕ)
    : Type 0 where
  pub fine : Fine (onward s at)
  pub owns : Fills (zeros Limit.ACTIONS) 0 (owns_of (records_from 0 s)) own actions (owns_of (onward s at))
  pub timed : Fills (zeros Limit.ACTIONS) 0 (times_of (records_from 0 s)) times actions (times_of (onward s at))
  pub froms : Fills (zeros (Limit.ACTIONS + 1)) 0 (froms_of start bodies 0 (records_from 0 s)) from actions
      (froms_of start bodies ends (onward s at))
  pub names : Fills (zeros Limit.BRANCHES) 0 (names_of start bodies (records_from 0 s)) goes ends
      (names_of start bodies (onward s at))

pub graph_starts : (s : List ℕ) (start : Bool) (bodies : List ℕ) → Readable s →
    Graphing s start bodies (zeros Limit.ACTIONS) (zeros Limit.ACTIONS) (zeros (Limit.ACTIONS + 1)) (zeros Limit.BRANCHES) 0 0 0
graph_starts s start bodies r =
    let xs : List Act = acts_of (records_from 0 s) in
    let few = few_acts s r in
    record {
      fine = fine_first s r;
      owns = zeros_none Limit.ACTIONS _ _ (omega (arith, length-map xs (λ a. own_in a.kind))) refl;
      timed = zeros_none Limit.ACTIONS _ _ (omega (arith, length-map xs (λ a. times_in a.kind a.body))) refl;
      froms =
          zeros_none (Limit.ACTIONS + 1) _ _ (omega (arith, runs_count (λ a. length (goes_by start bodies a)) 0 xs))
          refl;
      names = zeros_none Limit.BRANCHES _ _ (few_goes s r start bodies) refl;
    }

module _ {s : List ℕ} {start : Bool} {bodies own times from goes : List ℕ} {actions ends at : ℕ}
    (x : Graphing s start bodies own times from goes actions ends at) where
  pub own_long : Limit.ACTIONS ≡ length own
  own_long = sym (fills_length x.owns ∙ zeros-length Limit.ACTIONS)

  pub times_long : Limit.ACTIONS ≡ length times
  times_long = sym (fills_length x.timed ∙ zeros-length Limit.ACTIONS)

  pub from_long : Limit.ACTIONS + 1 ≡ length from
  from_long = sym (fills_length x.froms ∙ zeros-length (Limit.ACTIONS + 1))

  pub goes_long : Limit.BRANCHES ≡ length goes
  goes_long = sym (fills_length x.names ∙ zeros-length Limit.BRANCHES)

  pub ends_few : ends ≤ Limit.BRANCHES
  ends_few = omega (arith, x.names.count, x.names.fits, zeros-length Limit.BRANCHES)

  -- The record y stands here, and the next one at n.
  module _ (h : at < length s) {y : Record} (e : y ≡ record_at s at) {n : ℕ} (i : n ≡ (record_at s at).next) where
    abbrev k : ℕ
    k = y.kind

    abbrev bs : List ℕ
    bs = body_at s at n

    abbrev next : List Raw
    next = onward s n

    there : Step s at k n
    there = step_there s at h x.fine e i

    owns_on : Next (zeros Limit.ACTIONS) 0 (owns_of (records_from 0 s)) own actions (given (acts k) (own_in k)) (owns_of next)
    owns_on =
        record { fills = rw (there.here, acts_turn at k bs next (λ a. own_in a.kind)) at x.owns }

    timed_on : Next (zeros Limit.ACTIONS) 0 (times_of (records_from 0 s)) times actions (given (acts k) (times_in k bs))
        (times_of next)
    timed_on =
        record {
          fills = rw (there.here, acts_turn at k bs next (λ a. times_in a.kind a.body)) at x.timed;
        }

    froms_on : Next (zeros (Limit.ACTIONS + 1)) 0 (froms_of start bodies 0 (records_from 0 s)) from actions (given (acts k) ends)
        (froms_of start bodies (ends + length (goes_in start bodies k bs)) next)
    froms_on =
        record {
          fills = rw (
            there.here,
            from_turn at k bs next (goes_by start bodies) (goes_none start bodies k bs) ends,
          ) at x.froms;
        }

    names_on : Next (zeros Limit.BRANCHES) 0 (names_of start bodies (records_from 0 s)) goes ends (goes_in start bodies k bs)
        (names_of start bodies next)
    names_on =
        record {
          fills = rw (
            there.here,
            lists_turn at k bs next (goes_by start bodies) (goes_none start bodies k bs),
          ) at x.names;
        }

    pub from_room : actions + length (given (acts k) ends) ≤ length from
    from_room = next_room froms_on

    pub goes_room : ends + length (goes_in start bodies k bs) ≤ length goes
    goes_room = next_room names_on

    pub times_room : {w : ℕ} → w ≡ times_in k bs → actions + length (given (acts k) w) ≤ length times
    times_room l = rw l (next_room timed_on)

    -- as many are written in each
    same_count : (v w : ℕ) → actions + length (given (acts k) v) ≡ actions + length (given (acts k) w)
    same_count v w = given_count (acts k) v actions ∙ sym (given_count (acts k) w actions)

    module _ {v : ℕ} (j : v ≡ (if acts k then own_in k else 0)) where
      same_own : given (acts k) v ≡ given (acts k) (own_in k)
      same_own = ap (given (acts k)) j ∙ given_if (acts k) (own_in k) 0

      pub own_room : actions + length (given (acts k) v) ≤ length own
      own_room = rw same_own (next_room owns_on)

      pub graph_turn : {w : ℕ} → w ≡ times_in k bs →
          Graphing s start bodies (sets own actions (given (acts k) v)) (sets times actions (given (acts k) w))
          (sets from actions (given (acts k) ends)) (sets goes ends (goes_in start bodies k bs))
          (actions + length (given (acts k) ends)) (ends + length (goes_in start bodies k bs))
          n
      graph_turn l =
          record {
            fine = fine_there s at h x.fine e i;
            owns = rw (same_own, same_count ends (own_in k)) (next_filled owns_on);
            timed = rw (l, same_count ends (times_in k bs)) (next_filled timed_on);
            froms = next_filled froms_on;
            names = next_filled names_on;
          }

  -- Nothing is left.
  module _ (h : length s ≤ at) where
    froms_last : Next (zeros (Limit.ACTIONS + 1)) 0 (froms_of start bodies 0 (records_from 0 s)) from actions (ends ∷ []) []
    unfolding runs acts_of
    froms_last = record { fills = rw (onward_ends s at h) at x.froms }

    pub last_room : actions < Limit.ACTIONS + 1
    last_room = omega (arith, next_room froms_last, from_long)

    pub graph_ends : record { own = own; times = times; from = set from actions ends; goes = goes }
        ≡ graph_of start bodies (records_from 0 s)
    unfolding graph_of acts_of
    graph_ends =
        let o = zeros_filled Limit.ACTIONS (ap owns_of (onward_ends s at h)) x.owns in
        let t = zeros_filled Limit.ACTIONS (ap times_of (onward_ends s at h)) x.timed in
        let f = zeros_filled (Limit.ACTIONS + 1) refl (next_filled froms_last) in
        let n = zeros_filled Limit.BRANCHES (ap (names_of start bodies) (onward_ends s at h)) x.names in
        rw (o.1, t.1, f.1, n.1)
