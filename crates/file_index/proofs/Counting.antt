-- Round the loop that counts what a file declares. Assumes nothing.
use Rattle.std.specs.Prelude.{if◌then◌else◌}
use Prim.Native.Nat.{ℕ, ◌+◌, ◌≤◌, ◌<◌}
use native.Mathlib.Omega.{arith}
use borrow.Author.Rules.{rules}
use mathlib.Core.Path.{◌≡◌, sym, subst, ◌∙◌, ap}
use mathlib.Core.List.{List, []}
use mathlib.Core.Bool.{Bool, true, false}
use lib.Dec.{eqb}
use lib.ListN.{length}
use Rattle.semantics.specs.Kinds as K
use Rattle.semantics.specs.Model.{Model}
use Rattle.semantics.specs.Bytes.{records_from}
use Rattle.semantics.specs.Record.{Row, table, row_of}
use Rattle.semantics.specs.Decode.{accepted, decode, Gathered, adds, gather}
use Rattle.promises.specs.Laws.{AllOf, ◌&◌}
use Rattle.promises.specs.Passes.{its_row}
use Rattle.file_reader.specs.Reads.{record_at}
use Rattle.file_reader.specs.Records.{body_at}
use Rattle.file_reader.specs.Walk.{onward, onward_ends}
use Rattle.file_reader.specs.declared.Record.{Record}
use Rattle.file_index.specs.Index.{Readable, counts_in}
use Rattle.file_index.specs.declared.Counts.{Counts}
use Rattle.file_index.proofs.Gathered.{gather_none, gather_more}
use Rattle.file_index.proofs.Standing.{accepted_by}
use Rattle.file_index.proofs.Records.{Fine, fine_first, step_there, judged_there, fine_there}

abbrev pub one : Bool → ℕ
one b = if b then 1 else 0

abbrev pub resources : Gathered → ℕ
resources g = length g.model.totals

abbrev pub bins : Gathered → ℕ
bins g = length g.model.amounts

abbrev pub syncs : Gathered → ℕ
syncs g = g.model.syncs

abbrev pub variables : Gathered → ℕ
variables g = length g.model.vars

abbrev pub samplers : Gathered → ℕ
samplers g = length g.model.samplers

-- A record of kind k makes h of g.
record Tallies (k : ℕ) (g h : Gathered) : Type 0 where
  pub resources_are : resources h ≡ resources g + one (eqb k K.RES)
  pub bins_are : bins h ≡ bins g + one (eqb k K.BIN)
  pub syncs_are : syncs h ≡ syncs g + one (eqb k K.SYNC)
  pub variables_are : variables h ≡ variables g + one (eqb k K.VAR)
  pub samplers_are : samplers h ≡ samplers g + one (eqb k K.SAMPLER)

abbrev RowTallies : List ℕ → Gathered → Row → Type 0
RowTallies bs g r = Tallies r.kind g (adds g (r.says bs))

rows_tally : (bs : List ℕ) (g : Gathered) → AllOf (RowTallies bs g) table
rows_tally bs g =
    (search rules) & (search rules) & (search rules) & (search rules) & (search rules) & (search rules) & (search rules)
    & (search rules) & (search rules) & (search rules) & (search rules) & (search rules) & (search rules) & (search rules)
    & (search rules) & (search rules) & (search rules) & (search rules) & (search rules) & (search rules) & (search rules)
    & (search rules) & (search rules) & tt

-- Of the things that f counts n stand before byte place `at`.
pub record Tally (f : Gathered → ℕ) (bs : List ℕ) (at n : ℕ) : Type 0 where
  pub all_are : n + f (gather (onward bs at)) ≡ f (gather (records_from 0 bs))
  pub few : n ≤ at

pub record Counting (bs : List ℕ) (a b y v z at : ℕ) : Type 0 where
  pub fine : Fine (onward bs at)
  pub of_resources : Tally resources bs at a
  pub of_bins : Tally bins bs at b
  pub of_syncs : Tally syncs bs at y
  pub of_variables : Tally variables bs at v
  pub of_samplers : Tally samplers bs at z

tally_starts : (f : Gathered → ℕ) (bs : List ℕ) → Tally f bs 0 0
tally_starts f bs = record { all_are = omega arith; few = omega arith }

pub count_starts : (bs : List ℕ) → Readable bs → Counting bs 0 0 0 0 0 0
count_starts bs r =
    record {
      fine = fine_first bs r;
      of_resources = tally_starts resources bs;
      of_bins = tally_starts bins bs;
      of_syncs = tally_starts syncs bs;
      of_variables = tally_starts variables bs;
      of_samplers = tally_starts samplers bs;
    }

module _ {bs : List ℕ} {a b y v z at : ℕ} (t : Counting bs a b y v z at) where
  -- The record x stands here, and the next one at n.
  module _ (h : at < length bs) {x : Record} (e : x ≡ record_at bs at) {n : ℕ} (i : n ≡ (record_at bs at).next) where
    abbrev k : ℕ
    k = x.kind

    abbrev body : List ℕ
    body = body_at bs at n

    added : Tallies k (gather (onward bs n)) (gather (onward bs at))
    added =
        let g : Gathered = gather (onward bs n) in
        let r = its_row (RowTallies body g) (rows_tally body g) k (judged_there bs at h t.fine e i).grouped in
        rw ((step_there bs at h t.fine e i).here, gather_more at k body (onward bs n))
        (subst (λ i. Tallies i g (adds g ((row_of k).says body))) (sym r.1) r.0)

    tally_turn : (f : Gathered → ℕ) (c : Bool) {j j' : ℕ}
        → f (gather (onward bs at)) ≡ f (gather (onward bs n)) + one c → j' ≡ j + one c → Tally f bs at j → Tally f bs n j'
    tally_turn f c {j} {j'} o p u =
        record { all_are = omega (arith, u.all_are); few = by c p }
      where
        by : (c : Bool) → j' ≡ j + one c → j' ≤ n
        by true l = omega (arith, u.few, step_there bs at h t.fine e i)
        by false l = omega (arith, u.few, step_there bs at h t.fine e i)

    pub count_turn : {a' b' y' v' z' : ℕ} → a' ≡ a + one (eqb k K.RES) → b' ≡ b + one (eqb k K.BIN)
        → y' ≡ y + one (eqb k K.SYNC) → v' ≡ v + one (eqb k K.VAR) → z' ≡ z + one (eqb k K.SAMPLER)
        → Counting bs a' b' y' v' z' n
    count_turn o p q r s =
        record {
          fine = fine_there bs at h t.fine e i;
          of_resources = tally_turn resources (eqb k K.RES) added.resources_are o t.of_resources;
          of_bins = tally_turn bins (eqb k K.BIN) added.bins_are p t.of_bins;
          of_syncs = tally_turn syncs (eqb k K.SYNC) added.syncs_are q t.of_syncs;
          of_variables = tally_turn variables (eqb k K.VAR) added.variables_are r t.of_variables;
          of_samplers = tally_turn samplers (eqb k K.SAMPLER) added.samplers_are s t.of_samplers;
        }

  -- Nothing is left.
  module _ (h : length bs ≤ at) where
    tally_ends : (f : Gathered → ℕ) {n : ℕ} → f (gather []) ≡ 0 → Tally f bs at n → n ≡ f (gather (records_from 0 bs))
    tally_ends f e u = let o = ap (λ rs. f (gather rs)) (onward_ends bs at h) in omega (arith, u.all_are)

    pub count_ends : record { resources = a; bins = b; syncs = y; variables = v; samplers = z }
        ≡ counts_in (gather (records_from 0 bs)).model
    count_ends =
        let i = tally_ends resources (ap resources gather_none) t.of_resources in
        let j = tally_ends bins (ap bins gather_none) t.of_bins in
        let k = tally_ends syncs (ap syncs gather_none) t.of_syncs in
        let l = tally_ends variables (ap variables gather_none) t.of_variables in
        let m = tally_ends samplers (ap samplers gather_none) t.of_samplers in
        λ p. record { resources = i p; bins = j p; syncs = k p; variables = l p; samplers = m p }

-- For callers: the counts of an accepted file are those of its model.
pub counts_accepted : (bs : List ℕ) (m : Model) → decode bs ≡ accepted m →
    {k : Counts} → k ≡ counts_in (gather (records_from 0 bs)).model → k ≡ counts_in m
counts_accepted bs m e i = i ∙ ap counts_in (accepted_by bs m e).is
