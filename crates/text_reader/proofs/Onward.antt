-- What the memory shows after a token, part by part. Assumes nothing.
use Rattle.std.specs.Prelude.{if◌then◌else◌}
use Prim.Native.Nat.{ℕ, ◌≤◌}
use mathlib.Core.Path.{◌≡◌, refl, sym, ◌∙◌, ap}
use mathlib.Core.List.{List}
use mathlib.Core.Bool.{Bool, true, false}
use lib.Dec.{eqb}
use borrow.Author.Tests.{eqb-true}
use Rattle.semantics.specs.Kinds as K
use Rattle.promises.specs.Laws.{and-true}
use Rattle.text_semantics.specs.Token.{Token}
use Rattle.text_semantics.specs.Meaning.{kind_of, number_of}
use Rattle.text_semantics.specs.Reading.{Symbol, body_s}
use Rattle.text_machine.specs.Entry as M
use Rattle.text_machine.specs.Entry.{drafted, name_in}
use Rattle.text_machine.specs.Sheet.{resumed, kept_in, blocks_of}
use Rattle.text_machine.specs.Codes as C
use Rattle.text_machine.specs.Codes.{token_of}
use Rattle.text_machine.specs.Machine.{Reader, draft_after, is_known}
use Rattle.text_names.specs.Table.{part_of}
use Rattle.text_reader.specs.Sorts as Sort
use Rattle.text_reader.specs.Sorts.{sort_of, calls_by, sheet_by}
use Rattle.text_reader.specs.Named.{number_if}
use Rattle.text_reader.specs.Sheets.{is_class, class_of}
use Rattle.std.specs.Prelude as Code
use Rattle.std.specs.Prelude.{Some, None}
use Rattle.text_reader.proofs.Troubles.{name_is}
use Rattle.text_reader.proofs.Before.{is_body}

body_draft : (r : Reader) (t : Token) (p : ℕ) → draft_after r body_s t p ≡ r.draft
unfolding draft_after drafted
body_draft r t p = refl

-- At the body of a class it stays.
pub body_line : (r : Reader) (s : Symbol) (t : Token) (p : ℕ) (d : M.Draft) → d ≡ draft_after r s t p → sort_of s ≡ Sort.BODY
    → r.draft.line ≡ d.line
body_line r s t p d e b =
    sym (ap (λ x. x.line) (e ∙ ap (λ x. draft_after r x t p) (is_body s b) ∙ body_draft r t p))

-- THE NAME of a class line, and where it stands.
module _ (bs : List ℕ) (kind v p e q f sort role : ℕ) where
  pub called_name : (sort ≡ Sort.NAMED → kind ≡ C.NAME) → {a b : ℕ} → a ≡ (if calls_by sort role then p else q)
      → b ≡ (if calls_by sort role then e else f)
      → part_of bs a b ≡ (if calls_by sort role then name_in (token_of kind v (part_of bs p e)) else part_of bs q f)
  called_name n {a} {b} g h =
      ap (λ x. part_of bs x b) g ∙ ap (part_of bs (if calls_by sort role then p else q)) h ∙ go (calls_by sort role) refl
    where
      go : (t : Bool) → calls_by sort role ≡ t → part_of bs (if t then p else q) (if t then e else f)
          ≡ (if t then name_in (token_of kind v (part_of bs p e)) else part_of bs q f)
      go true i =
          sym (name_is kind v (part_of bs p e) (n (eqb-true sort Sort.NAMED (and-true (eqb sort Sort.NAMED) (eqb role K.CLASS) i
          ).0)))
      go false i = refl

pub either_fits : (t : Bool) (p e q f n : ℕ) → p ≤ e → e ≤ n → q ≤ f → f ≤ n
    → ((if t then p else q) ≤ (if t then e else f)) × ((if t then e else f) ≤ n)
either_fits true p e q f n a b c d = (a, b)
either_fits false p e q f n a b c d = (c, d)

-- THE DRAFT, and the sheet, by what was found of the names.
pub drafts_by : (r : Reader) (s : Symbol) (t : Token) (p w i : ℕ) {d : M.Draft} → w ≡ kind_of r.known (name_in t)
    → i ≡ number_of r.known (name_in t)
    → d ≡ drafted w i (blocks_of r.sheet) p (resumed (kept_in r.sheet.levels)) s t r.draft → d ≡ draft_after r s t p
unfolding draft_after
drafts_by r s t p w i e f g =
    g ∙ ap (λ y. drafted y i (blocks_of r.sheet) p (resumed (kept_in r.sheet.levels)) s t r.draft) e
    ∙ ap (λ y. drafted (kind_of r.known (name_in t)) y (blocks_of r.sheet) p (resumed (kept_in r.sheet.levels)) s t r.draft) f

pub class_sheet : (n : ℕ) (r : Reader) (d : M.Draft) (t : Token) (p : ℕ) (o : Code.Option ℕ) → o ≡ number_if r.known r.called
    → sheet_by n r.sheet (is_class o) (class_of o) r.draft.line d t p
    ≡ sheet_by n r.sheet (is_known r) (number_of r.known r.called) r.draft.line d t p
class_sheet n r d t p o e = rw e (go (is_known r))
  where
    go : (b : Bool)
        → sheet_by n r.sheet (is_class (if b then Some (number_of r.known r.called) else None))
        (class_of (if b then Some (number_of r.known r.called) else None)) r.draft.line d t p
        ≡ sheet_by n r.sheet b (number_of r.known r.called) r.draft.line d t p
    go true = refl
    go false = refl
