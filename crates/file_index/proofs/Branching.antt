-- The loop that makes the branches: how far it has come, and one turn of it. Assumes nothing.
use mathlib.Core.Path.{◌≡◌, refl, sym, ◌∙◌, ap}
use mathlib.Core.List.{List, [], ◌∷◌, ◌++◌, map}
use Prim.Native.Nat.{ℕ, ◌+◌, ◌-◌, ◌≤◌, ◌<◌}
use native.Mathlib.Omega.{arith}
use lib.ListN.{length, drop, set, length-drop}
use lib.Seq.{length-take-le, sets}
use Rattle.semantics.specs.Words.{collect}
use Rattle.semantics.specs.Numbers as No
use Rattle.semantics.specs.Bytes.{Raw, records_from}
use Rattle.base_numbers.specs.Limit as Limit
use Rattle.file_index.specs.Index.{Act, Readable, pad, given, acts, acts_of, runs}
use Rattle.file_index.specs.Branches.{named_in, Offered, offered_in, offered_by, Rows, rows, Roomy, Noted, branches_of}
use Rattle.file_reader.specs.Reads.{record_at}
use Rattle.file_reader.specs.Records.{body_at}
use Rattle.file_reader.specs.Walk.{onward, onward_ends, Step}
use Rattle.file_reader.specs.declared.Record.{Record}
use Rattle.file_index.proofs.Records.{Fine, fine_first, step_there, fine_there}
use Rattle.file_index.proofs.Filled.{Fills, Next, fills_length, next_room, next_filled, zeros, zeros-length, zeros_none}
use Rattle.file_index.proofs.Filled.{zeros_filled}
use Rattle.file_index.proofs.Bodies.{offered_none}
use Rattle.file_index.proofs.Limits.{few_acts, few_offered, runs_count}
use Rattle.file_index.proofs.Turns.{lists_turn, from_turn}
use Rattle.file_index.proofs.Rows.{RowsFill, rows_none, rows_room, rows_next, noted_next}

-- The tables of the records rs.
abbrev froms_of : ℕ → List Raw → List ℕ
froms_of n rs = runs (λ a. length (offered_by a)) n (acts_of rs)

abbrev all_offered : List Raw → List Offered
all_offered rs = collect offered_by (acts_of rs)

abbrev empty_rows : Rows
empty_rows = rows (zeros Limit.BRANCHES) (zeros Limit.BRANCHES) (zeros Limit.BRANCHES) (zeros Limit.BRANCHES)

-- Each array has the front of its table; the tables of the rest are still to come.
pub record Branching (s from : List ℕ) (out : Rows) (actions ends at : ℕ) : Type 0 where
  pub short : length s ≤ No.longest_file
  pub fine : Fine (onward s at)
  pub froms : Fills (zeros (Limit.ACTIONS + 1)) 0 (froms_of 0 (records_from 0 s)) from actions (froms_of ends (onward s at))
  pub branches : RowsFill empty_rows 0 (all_offered (records_from 0 s)) out ends (all_offered (onward s at))

pub branches_start : (s : List ℕ) → Readable s → Branching s (zeros (Limit.ACTIONS + 1)) empty_rows 0 0 0
branches_start s r =
    let xs : List Act = acts_of (records_from 0 s) in
    let few = few_acts s r in
    let room : 0 + length (all_offered (records_from 0 s)) ≤ length (zeros Limit.BRANCHES) =
    omega (arith, few_offered s r, zeros-length Limit.BRANCHES) in
    record {
      short = r.short;
      fine = fine_first s r;
      froms =
          zeros_none (Limit.ACTIONS + 1) _ _ (omega (arith, runs_count (λ a. length (offered_by a)) 0 xs)) refl;
      branches =
          rows_none empty_rows 0 _ _ (record { claim = room; resources = room; bins = room; syncs = room })
          refl;
    }

module _ {s from : List ℕ} {out : Rows} {actions ends at : ℕ} (x : Branching s from out actions ends at) where
  pub from_long : Limit.ACTIONS + 1 ≡ length from
  from_long = sym (fills_length x.froms ∙ zeros-length (Limit.ACTIONS + 1))

  pub claim_long : Limit.BRANCHES ≡ length out.claim
  claim_long = sym (fills_length x.branches.claim ∙ zeros-length Limit.BRANCHES)

  pub resources_long : Limit.BRANCHES ≡ length out.resources
  resources_long = sym (fills_length x.branches.resources ∙ zeros-length Limit.BRANCHES)

  pub bins_long : Limit.BRANCHES ≡ length out.bins
  bins_long = sym (fills_length x.branches.bins ∙ zeros-length Limit.BRANCHES)

  pub syncs_long : Limit.BRANCHES ≡ length out.syncs
  syncs_long = sym (fills_length x.branches.syncs ∙ zeros-length Limit.BRANCHES)

  pub ends_few : ends ≤ Limit.BRANCHES
  ends_few = omega (arith, x.branches.claim.count, x.branches.claim.fits, zeros-length Limit.BRANCHES)

  -- The record y stands here, and the next one at n.
  module _ (h : at < length s) {y : Record} (e : y ≡ record_at s at) {n : ℕ} (i : n ≡ (record_at s at).next) where
    abbrev k : ℕ
    k = y.kind

    abbrev bs : List ℕ
    bs = body_at s at n

    abbrev next : List Raw
    next = onward s n

    there : Step s at k n
    there = step_there s at h x.fine e i

    pub body_in : at + 4 + length bs ≤ No.longest_file
    body_in =
        let w = there in
        let l = length-take-le (n - (at + 4)) (drop (at + 4) s) (omega (arith, length-drop (at + 4) s)) in
        omega (arith, x.short)

    froms_on : Next (zeros (Limit.ACTIONS + 1)) 0 (froms_of 0 (records_from 0 s)) from actions (given (acts k) ends)
        (froms_of (ends + length (offered_in (at + 4) k bs)) next)
    froms_on =
        record {
          fills = rw (there.here, from_turn at k bs next offered_by (offered_none (at + 4) k bs) ends) at x.froms;
        }

    pub from_room : actions + length (given (acts k) ends) ≤ length from
    from_room = next_room froms_on

    branches_here : all_offered (onward s at) ≡ offered_in (at + 4) k bs ++ all_offered next
    branches_here = ap all_offered there.here ∙ lists_turn at k bs next offered_by (offered_none (at + 4) k bs)

    pub rows_roomy : Roomy (ends + length (offered_in (at + 4) k bs)) out
    rows_roomy = rows_room x.branches (offered_in (at + 4) k bs) (all_offered next) branches_here

    pub branches_turn : {j : ℕ} {after : Rows} → Noted ends (offered_in (at + 4) k bs) out j after →
        Branching s (sets from actions (given (acts k) ends)) after (actions + length (given (acts k) ends)) j
        n
    branches_turn w =
        record {
          short = x.short;
          fine = fine_there s at h x.fine e i;
          froms = rw (noted_next w) (next_filled froms_on);
          branches = rows_next x.branches (offered_in (at + 4) k bs) (all_offered next) branches_here w;
        }

  -- Nothing is left.
  module _ (h : length s ≤ at) where
    froms_last : Next (zeros (Limit.ACTIONS + 1)) 0 (froms_of 0 (records_from 0 s)) from actions (ends ∷ []) []
    unfolding runs acts_of
    froms_last = record { fills = rw (onward_ends s at h) at x.froms }

    pub last_room : actions < Limit.ACTIONS + 1
    last_room = omega (arith, next_room froms_last, from_long)

    -- one of the rows
    row_filled : (f : Offered → ℕ) {row : List ℕ} →
        Fills (zeros Limit.BRANCHES) 0 (map f (all_offered (records_from 0 s))) row ends (map f (all_offered (onward s at))) →
        row ≡ pad Limit.BRANCHES (map f (all_offered (records_from 0 s)))
    unfolding acts_of
    row_filled f y = (zeros_filled Limit.BRANCHES (ap (λ l. map f (all_offered l)) (onward_ends s at h)) y).1

    pub branches_end : record {
      from = set from actions ends;
      claim = out.claim;
      resources = out.resources;
      bins = out.bins;
      syncs = out.syncs;
    }
        ≡ branches_of (records_from 0 s)
    unfolding branches_of
    branches_end =
        let b = x.branches in
        let f = (zeros_filled (Limit.ACTIONS + 1) refl (next_filled froms_last)).1 in
        let c = row_filled (λ o. o.place) b.claim in
        let r = row_filled (λ o. named_in 0 o.bytes) b.resources in
        let n = row_filled (λ o. named_in 1 o.bytes) b.bins in
        let y = row_filled (λ o. named_in 2 o.bytes) b.syncs in
        rw (f, c, r, n, y)
