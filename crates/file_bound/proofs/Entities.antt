-- The ENTITY records among the records of a file: the entities that they make, and what they weigh. Assumes nothing.
use Rattle.std.specs.Prelude.{if◌then◌else◌}
use Prim.Native.Nat.{ℕ, ◌+◌, ◌≤◌}
use mathlib.Core.Path.{◌≡◌, refl, sym, ◌∙◌, ap}
use mathlib.Core.List.{List, [], ◌∷◌, ◌++◌, map}
use mathlib.Core.Bool.{Bool, true, false}
use native.Mathlib.Omega.{arith}
use lib.Dec.{eqb}
use lib.ListN.{length}
use Rattle.semantics.specs.Words.{sum}
use Rattle.semantics.specs.Model.{Entity, Model}
use Rattle.semantics.specs.Bytes.{Raw, raw, u16, u32}
use Rattle.semantics.specs.Record.{Row, table, row_of}
use Rattle.semantics.specs.Decode.{Gathered, adds, gather}
use Rattle.semantics.specs.Bound.{class_weight, bound}
use Rattle.promises.specs.Laws.{AllOf, ◌&◌}
use Rattle.promises.specs.Passes.{its_row}
use Rattle.file_index.specs.Index.{Judged}
use Rattle.file_index.proofs.Records.{sized_by}

-- THE ENTITIES that the records make.
abbrev pub entity_if : Bool → List ℕ → List Entity
entity_if b bs = if b then record { class = u16 bs 0; offset = u32 bs 2 } ∷ [] else []

abbrev pub entity_in : ℕ → List ℕ → List Entity
entity_in k = entity_if (eqb k 7)

abbrev RowMakes : List ℕ → Row → Type 0
RowMakes bs r = (g : Gathered) → (adds g (r.says bs)).model.entities ≡ entity_in r.kind bs ++ g.model.entities

rows_make : (bs : List ℕ) → AllOf (RowMakes bs) table
rows_make bs =
    (λ g. refl) & (λ g. refl) & (λ g. refl) & (λ g. refl) & (λ g. refl) & (λ g. refl) & (λ g. refl) & (λ g. refl)
    & (λ g. refl) & (λ g. refl) & (λ g. refl) & (λ g. refl) & (λ g. refl) & (λ g. refl) & (λ g. refl) & (λ g. refl)
    & (λ g. refl) & (λ g. refl) & (λ g. refl) & (λ g. refl) & (λ g. refl) & (λ g. refl) & (λ g. refl) & tt

pub entities_of : (at k : ℕ) (bs : List ℕ) (rs : List Raw) → Judged k bs →
    (gather (raw at k bs ∷ rs)).model.entities ≡ entity_in k bs ++ (gather rs).model.entities
unfolding gather
entities_of at k bs rs j =
    let r = its_row (RowMakes bs) (rows_make bs) k j.grouped in
    r.0 (gather rs) ∙ ap (λ x. entity_in x bs ++ (gather rs).model.entities) (sym r.1)

head_7 : (row_of 7).head ≡ 6
unfolding row_of
head_7 = refl

pub entity_head : (k : ℕ) (bs : List ℕ) → Judged k bs → k ≡ 7 → 6 ≤ length bs
entity_head k bs j e =
    omega (arith, (sized_by (row_of k) bs j.body_judged).head_there, head_7, ap (λ x. (row_of x).head) e)

-- What the ENTITY records of rs weigh in the model m.
abbrev pub due : Model → List Raw → ℕ
due m rs = sum (map (λ e. class_weight m e.class) (gather rs).model.entities)

pub due_all : (rs : List Raw) → due (gather rs).model rs ≡ bound (gather rs).model
unfolding bound
due_all rs = refl

pub due_none : (m : Model) → due m [] ≡ 0
unfolding gather
due_none m = refl

pub due_more : (m : Model) (at k : ℕ) (bs : List ℕ) (rs : List Raw) → Judged k bs →
    due m (raw at k bs ∷ rs) ≡ (if eqb k 7 then class_weight m (u16 bs 0) else 0) + due m rs
due_more m at k bs rs j = rw (entities_of at k bs rs j) (go (eqb k 7))
  where
    go : (t : Bool) →
        sum (map (λ e. class_weight m e.class) (entity_if t bs ++ (gather rs).model.entities))
        ≡ (if t then class_weight m (u16 bs 0) else 0) + due m rs
    go true = refl
    go false = omega arith
