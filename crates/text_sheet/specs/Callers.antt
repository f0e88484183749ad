-- What callers need of these: which parts of a draft are looked at.
-- Assumes nothing.
use Rattle.std.specs.Prelude.{◌≡◌, if◌then◌else◌}
use Rattle.std.proofs.Math.Path.{refl, ap}
use Rattle.std.proofs.Common.{◌∙◌}
use Rattle.std.proofs.Math.Option.{Option, none, some}
use Rattle.std.proofs.Math.Dec.{eqb}
use Rattle.semantics.specs.Kinds as K
use Rattle.text_machine.specs.Entry.{Draft}
use Rattle.text_machine.specs.Sheet as M
use Rattle.text_sheet.specs.Numbers.{entry}

-- A draft's line, kind, size and body are looked at, and no more.
module _ (d : Draft) (z : M.Sheet) where
  pub declares-entry : M.declares d z ≡ M.declares (entry 0 d.kind d.size d.body) z
  unfolding M.declares
  declares-entry = refl

  pub acts-entry : M.acts d z ≡ M.acts (entry d.line d.kind d.size d.body) z
  unfolding M.acts M.counts
  acts-entry = refl

  branches-entry : (o : Option M.Kept) → M.branches d o z ≡ M.branches (entry d.line d.kind d.size d.body) o z
  unfolding M.counts
  branches-entry none = refl
  branches-entry (some x) = refl

  tries-entry : M.tries d z ≡ M.tries (entry d.line d.kind d.size d.body) z
  unfolding M.tries
  tries-entry =
      ap (λ t. M.with_levels t (M.keeping (some (record { line = d.line; body = d.body })) t.levels))
      (branches-entry (M.kept_in z.levels))

  pub opens-entry : M.opens d z ≡ M.opens (entry d.line d.kind d.size d.body) z
  unfolding M.opens
  opens-entry =
      ap (λ t. M.braces (if eqb d.kind K.TRY then t else M.acts d z)) tries-entry
      ∙ ap (λ t. M.braces (if eqb d.kind K.TRY then M.tries (entry d.line d.kind d.size d.body) z else t))
      acts-entry
