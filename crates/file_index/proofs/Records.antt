-- The records of a file that the first pass accepts, one after the other: each is whole, of a kind, and judged.
-- Assumes nothing.
use mathlib.Core.Path.{◌≡◌, refl}
use mathlib.Core.List.{List, [], ◌∷◌}
use mathlib.Core.Bool.{Bool, true, false, ◌&&◌}
use Prim.Native.Nat.{ℕ, ◌≤◌, ◌<◌}
use borrow.Author.Tests.{leb-true, ltb-true}
use lib.Dec.{leb, ltb}
use lib.ListN.{length, get_or, drop}
use Rattle.semantics.specs.Words.{Outcome, ok, fails, Passed, passed, need, ◌>>◌}
use Rattle.semantics.specs.Numbers as No
use Rattle.semantics.specs.Bytes.{Raw, raw, torn, records_from}
use Rattle.semantics.specs.Record.{Row, sized, valid, in_set, row_of, body_judged}
use Rattle.semantics.specs.Decode.{refused, accepted, placed, judged, saw, first_pass, none_seen}
use Rattle.promises.specs.Laws.{and-true, not_ok, needed_two}
use Rattle.promises.specs.Passes.{not_accepted}
use Rattle.file_reader.specs.Reads.{record_at}
use Rattle.file_reader.specs.Records.{body_at}
use Rattle.file_reader.specs.Walk.{onward, Step, reads_torn, reads_step}
use Rattle.file_reader.specs.declared.Record.{Record}
use Rattle.file_index.specs.Index.{Judged, Readable}

-- FINE RECORDS.
abbrev pub Fine : List Raw → Type 0
Fine [] = Unit {0}
Fine (torn at ∷ rs) = ⊥
Fine (raw at k bs ∷ rs) = Judged k bs × Fine rs

needed_then : (j : ℕ) (b : Bool) (o : Outcome Passed) → ◌>>◌ (need j b) o ≡ ok passed → (b ≡ true) × (o ≡ ok passed)
unfolding ◌>>◌ need
needed_then j true o e = (refl, e)
needed_then j false o e = not_ok e

-- What checks 2 to 4 say of a record, and that 5 to 7 pass.
pub record Counted (seen : List ℕ) (k : ℕ) (bs : List ℕ) : Type 0 where
  pub fine : Judged k bs
  pub placed_is : placed (row_of k).group (get_or seen 6 0) ≡ true
  pub roomy : get_or seen (row_of k).group 0 < (row_of k).most

counted_by : (seen : List ℕ) (k : ℕ) (bs : List ℕ) → judged seen k bs ≡ ok passed → Counted seen k bs
unfolding judged
counted_by seen k bs e =
    let a = needed_then No.KIND (ltb 0 (row_of k).group) _ e in
    let b = needed_then No.PLACE (placed (row_of k).group (get_or seen 6 0)) _ a.1 in
    let c = needed_then No.MANY (ltb (get_or seen (row_of k).group 0) (row_of k).most) _ b.1 in
    record {
      fine = record { grouped = ltb-true 0 (row_of k).group a.0; body_judged = c.1 };
      placed_is = b.0;
      roomy = ltb-true (get_or seen (row_of k).group 0) (row_of k).most c.0;
    }

pub passed_on : (at k : ℕ) (bs : List ℕ) (rs : List Raw) (seen n : List ℕ) → first_pass seen (raw at k bs ∷ rs) ≡ accepted n →
    Counted seen k bs × (first_pass (saw seen k) rs ≡ accepted n)
unfolding first_pass
passed_on at k bs rs seen n e = go (judged seen k bs) refl e
  where
    go : (o : Outcome Passed) → judged seen k bs ≡ o →
        (elim o [ fails x ↦ refused x at | ok y ↦ first_pass (saw seen k) rs ]) ≡ accepted n →
        Counted seen k bs × (first_pass (saw seen k) rs ≡ accepted n)
    go (ok passed) q i = (counted_by seen k bs q, i)
    go (fails x) q i = not_accepted i

pub fine_all : (seen : List ℕ) (rs : List Raw) (n : List ℕ) → first_pass seen rs ≡ accepted n → Fine rs
unfolding first_pass
fine_all seen [] n e = tt
fine_all seen (torn at ∷ rs) n e = not_accepted e
fine_all seen (raw at k bs ∷ rs) n e =
    let a = passed_on at k bs rs seen n e in (a.0.fine, fine_all (saw seen k) rs n a.1)

-- What checks 5 and 6 say of a body.
pub record Sized (r : Row) (bs : List ℕ) : Type 0 where
  pub head_there : r.head ≤ length bs
  pub tail_sized : sized r.tail (drop r.head bs) ≡ true
  pub field_valid : in_set r.field bs ≡ true
  pub tail_valid : valid r.tail (drop r.head bs) ≡ true

pub sized_by : (r : Row) (bs : List ℕ) → body_judged r bs ≡ ok passed → Sized r bs
unfolding body_judged
sized_by r bs e =
    let a = needed_then No.SIZE (leb r.head (length bs) && sized r.tail (drop r.head bs)) _ e in
    let t = needed_two No.VALUE No.TWICE _ _ a.1 in
    let s = and-true (leb r.head (length bs)) _ a.0 in
    let v = and-true (in_set r.field bs) _ t.0 in
    record {
      head_there = leb-true r.head (length bs) s.0;
      tail_sized = s.1;
      field_valid = v.0;
      tail_valid = v.1;
    }

-- BY A READER, from the first byte of the file on.
pub fine_first : (s : List ℕ) → Readable s → Fine (onward s 0)
fine_first s r = fine_all none_seen (records_from 0 s) r.accepts.0 r.accepts.1

-- It stands at byte place `at`, from which on the records are fine, and reads x; the next place is n.
module _ (s : List ℕ) (at : ℕ) (h : at < length s) (f : Fine (onward s at)) {x : Record} (e : x ≡ record_at s at)
    {n : ℕ} (i : n ≡ (record_at s at).next) where
  pub step_there : Step s at x.kind n
  step_there = go x.whole refl
    where
      go : (t : Bool) → x.whole ≡ t → Step s at x.kind n
      go true w = reads_step s at h e w i
      go false w = absurd (rw (reads_torn s at h e w) at f)

  pub judged_there : Judged x.kind (body_at s at n)
  judged_there = (rw step_there.here at f).0

  pub fine_there : Fine (onward s n)
  fine_there = (rw step_there.here at f).1
