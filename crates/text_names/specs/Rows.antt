-- What becomes of the rows of the table.
-- Assumes nothing.
use Rattle.std.specs.Prelude.{ℕ, zero, suc, ◌-◌, ◌≡◌, List, [], ◌∷◌, ◌++◌, Bool, false, not, eqb, leb, ltb, length, if◌then◌else◌}
use Rattle.std.proofs.Common.{sym}
use Rattle.semantics.specs.Words.{keep, first_at}
use Rattle.semantics.specs.Kinds as K
use Rattle.text_semantics.specs.Lexing.{same_bytes}
use Rattle.text_semantics.specs.Grammar.{Name}
use Rattle.text_semantics.specs.Names.{named, LOCAL}
use Rattle.text_machine.specs.Machine.{most_names}
use Rattle.text_names.specs.declared.Row.{Row}
use Rattle.text_names.specs.Table.{Table, name_of, known_by, known_of, part_of, key_of}
use Rattle.text_names.specs.Span.{keep_by, first_by}

abbrev pub with_rows : Table → List Row → Table
with_rows t rows = record { text = t.text; rows = rows }

-- Its number: how many of those before it are w.
abbrev pub how_many : ℕ → List Row → ℕ
how_many w rows = length (keep (λ r. eqb w r.kind) rows)

-- ONE MORE, while there is room for it: what stands from byte p up to byte e is declared as w.
abbrev pub row_of : Table → ℕ → ℕ → ℕ → Bool → Row
row_of t w p e lacks =
    record {
      at = p;
      len = e - p;
      key = key_of 0 (part_of t.text p e);
      kind = w;
      number = how_many w t.rows;
      lacks = lacks;
    }

abbrev pub with_row : Table → ℕ → ℕ → ℕ → Bool → Table
with_row t w p e lacks =
    if leb most_names (length t.rows) then t else with_rows t (t.rows ++ row_of t w p e lacks ∷ [])

-- A BODY for the name that stands there: for the first that has it, or for a new one.
abbrev pub place_of : List ℕ → List Row → Name → ℕ
place_of bs rows x = first_at (λ r. same_bytes x (name_of bs r)) rows

abbrev pub with_body : Row → Row
with_body r = record { at = r.at; len = r.len; key = r.key; kind = r.kind; number = r.number; lacks = false }

abbrev pub bodied_at : ℕ → List Row → List Row
bodied_at i [] = []
bodied_at zero (r ∷ rows) = with_body r ∷ rows
bodied_at (suc i) (r ∷ rows) = r ∷ bodied_at i rows

abbrev pub embodied : Table → ℕ → ℕ → Table
embodied t p e =
    if leb most_names (length t.rows)
    then t
    else if ltb (place_of t.text t.rows (part_of t.text p e)) (length t.rows)
    then with_rows t (bodied_at (place_of t.text t.rows (part_of t.text p e)) t.rows)
    else with_row t K.CLASS p e false

-- THE LOCALS GO.
abbrev pub row_stays : Row → Bool
row_stays r = not (eqb r.kind LOCAL)

abbrev pub left : Table → Table
left t = with_rows t (keep row_stays t.rows)

-- What is said of rows is said of what is known by them.
module _ (bs : List ℕ) (rows : List Row) where
  pub how_many_known : (w : ℕ) → how_many w rows ≡ length (keep (λ k. eqb w k.what) (known_of bs rows))
  how_many_known w = sym (keep_by (known_by bs) (λ k. eqb w k.what) rows)

  pub place_known : (x : Name) → place_of bs rows x ≡ first_at (named x) (known_of bs rows)
  place_known x = sym (first_by (known_by bs) (named x) rows)
