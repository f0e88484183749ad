-- What one more record adds to the model, by its kind and its bytes. Assumes nothing.
use Rattle.std.specs.Prelude.{if◌then◌else◌}
use Prim.Native.Nat.{ℕ, ◌<◌}
use mathlib.Core.Path.{◌≡◌, sym, subst}
use mathlib.Core.List.{List, ◌∷◌, ◌++◌, map}
use mathlib.Core.Bool.{Bool}
use lib.Dec.{eqb}
use lib.ListN.{length}
use Rattle.semantics.specs.Kinds as K
use Rattle.semantics.specs.Model.{Entity}
use Rattle.semantics.specs.Bytes.{Raw, raw, u16, u32}
use Rattle.semantics.specs.Record.{Row, table, row_of}
use Rattle.semantics.specs.Decode.{Gathered, adds, gather}
use Rattle.promises.specs.Laws.{AllOf, ◌&◌}
use Rattle.promises.specs.Passes.{its_row}
use Rattle.base_i32.specs.Code.{code}
use Rattle.file_reader.specs.Reads.{record_at}
use Rattle.file_reader.specs.Records.{body_at}
use Rattle.file_reader.specs.Walk.{onward}
use Rattle.file_reader.specs.declared.Record.{Record}
use Rattle.file_index.specs.Index.{Judged, given}
use Rattle.file_index.proofs.Gathered.{gather_more}
use Rattle.file_index.proofs.Records.{Fine, step_there, judged_there}
use Rattle.run_fresh.specs.Fresh.{amount_in}
use Rattle.run_fresh.proofs.Partly.{seeds_in}

abbrev pub entity_in : List ℕ → Entity
entity_in bs = record { class = u16 bs 0; offset = u32 bs 2 }

abbrev pub entities : Bool → Entity → List Entity → List Entity
entities b e es = if b then e ∷ es else es

-- What g has after the entry e was added before it.
pub record Adds (k : ℕ) (bs : List ℕ) (g h : Gathered) : Type 0 where
  pub totals_are : h.model.totals ≡ given (eqb k K.RES) (amount_in k bs) ++ g.model.totals
  pub amounts_are : h.model.amounts ≡ given (eqb k K.BIN) (amount_in k bs) ++ g.model.amounts
  pub vars_are : map code h.model.vars ≡ given (eqb k K.VAR) (amount_in k bs) ++ map code g.model.vars
  pub seeds_are : seeds_in h.model ≡ given (eqb k K.SAMPLER) (amount_in k bs) ++ seeds_in g.model
  pub entities_are : h.model.entities ≡ entities (eqb k K.ENTITY) (entity_in bs) g.model.entities

abbrev RowAdds : List ℕ → Gathered → Row → Type 0
RowAdds bs g r = Adds r.kind bs g (adds g (r.says bs))

rows_add : (bs : List ℕ) (g : Gathered) → AllOf (RowAdds bs g) table
rows_add bs g =
    (search) & (search) & (search) & (search) & (search) & (search) & (search) & (search) & (search) & (search) & (search)
    & (search) & (search) & (search) & (search) & (search) & (search) & (search) & (search) & (search) & (search) & (search)
    & (search) & tt

record_adds : (at k : ℕ) (bs : List ℕ) (rs : List Raw) → Judged k bs
    → Adds k bs (gather rs) (gather (raw at k bs ∷ rs))
record_adds at k bs rs j =
    let r = its_row (RowAdds bs (gather rs)) (rows_add bs (gather rs)) k j.grouped in
    rw (gather_more at k bs rs) (subst (λ i. Adds i bs (gather rs) (adds (gather rs) ((row_of k).says bs))) (sym r.1) r.0)

-- The record x stands at byte place `at`, and the next one at n.
pub front_adds : (bs : List ℕ) (at : ℕ) → at < length bs → Fine (onward bs at) → {x : Record} → x ≡ record_at bs at
    → {n : ℕ} → n ≡ (record_at bs at).next → Adds x.kind (body_at bs at n) (gather (onward bs n)) (gather (onward bs at))
front_adds bs at h f {x} e {n} i =
    rw (step_there bs at h f e i).here
    (record_adds at x.kind (body_at bs at n) (onward bs n) (judged_there bs at h f e i))
