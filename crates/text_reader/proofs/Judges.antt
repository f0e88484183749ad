-- A record that is judged, and what one that passes has. Assumes nothing.
use Prim.Native.Nat.{ℕ, ◌≤◌, ◌<◌}
use native.Mathlib.Omega.{arith}
use mathlib.Core.Path.{◌≡◌, refl, sym, ◌∙◌, ap}
use mathlib.Core.List.{List}
use mathlib.Core.Bool.{Bool, true, false, not, ◌&&◌, ◌||◌}
use lib.Dec.{leb}
use lib.ListN.{length, get_or}
use borrow.Author.Tests.{leb-true, leb-false, ltb-true}
use Rattle.semantics.specs.Words.{Outcome, ok, Passed, passed, ◌>>◌, need}
use Rattle.semantics.specs.Numbers as F
use Rattle.semantics.specs.Kinds as K
use Rattle.semantics.specs.Bytes.{u16}
use Rattle.semantics.specs.Record.{row_of, body_judged, sized, branches}
use Rattle.semantics.specs.Decode.{judged}
use Rattle.base_numbers.specs.Byte as Byte
use Rattle.std.specs.Prelude.{Result, Ok, Err, is_err}
use Rattle.file_check_record.specs.declared.Refusal.{Refusal}
use Rattle.file_check_record.specs.Refused.{outcome_of}
use Rattle.file_check_record.proofs.Table.{row_past}
use Rattle.text_machine.specs.Sheet as M
use Rattle.text_machine.specs.Entry.{Draft}
use Rattle.text_machine.specs.Machine.{passes, faulty, counts_for}
use Rattle.text_entry.specs.Draft.{MOST}
use Rattle.text_reader.specs.Cut.{counts_of}

never : {A : Type 0} → ◌≡◌ {A = Bool} true false → A
never e = let z : ◌≡◌ {A = ℕ} 0 1 = cc in absurd (omega arith)

and_both : (a b : Bool) → (a && b) ≡ true → (a ≡ true) × (b ≡ true)
and_both true b e = (refl, e)
and_both false b e = never (sym e)

-- The answer tells whether a record passes.
fails_by : (r : Result (Unit {0}) Refusal) → is_err r ≡ not (passes (outcome_of r))
fails_by (Ok x) = refl
fails_by (Err e) = refl

passes_by : (r : Result (Unit {0}) Refusal) → is_err r ≡ false → passes (outcome_of r) ≡ true
passes_by (Ok x) e = refl
passes_by (Err r) e = never e

-- One that passes is of a kind; a try has bytes, and few branches.
need-passes : (n : ℕ) (b : Bool) (o : Outcome Passed) → passes (need n b >> o) ≡ true → b ≡ true
unfolding need ◌>>◌
need-passes n true o e = refl
need-passes n false o e = never (sym e)

pub kind_small : (seen : List ℕ) (k : ℕ) (bs : List ℕ) → passes (judged seen k bs) ≡ true → k < Byte.TWO
unfolding judged
kind_small seen k bs e = go (leb Byte.TWO k) refl
  where
    h : 0 < (row_of k).group
    h = ltb-true 0 (row_of k).group (need-passes F.KIND _ _ e)

    go : (t : Bool) → leb Byte.TWO k ≡ t → k < Byte.TWO
    go true f =
        let l = leb-true Byte.TWO k f in
        let z : (row_of k).group ≡ 0 = ap (λ r. r.group) (row_past k (omega (arith, l))) in
        absurd (omega (arith, h, z))
    go false f = omega (arith, leb-false Byte.TWO k f)

need-ok : (n : ℕ) (b : Bool) (o : Outcome Passed) → (need n b >> o) ≡ ok passed → (b ≡ true) × (o ≡ ok passed)
unfolding need ◌>>◌
need-ok n true o e = (refl, e)
need-ok n false o e = let z : ◌≡◌ {A = ℕ} 0 1 = cc in absurd (omega arith)

pub try_bytes : (bs : List ℕ) → body_judged (row_of K.TRY) bs ≡ ok passed → 2 ≤ length bs
unfolding body_judged row_of
try_bytes bs e =
    let a = need-ok F.SIZE _ _ e in
    let b = and_both (leb (row_of K.TRY).head (length bs)) (sized branches bs) a.0 in
    leb-true 2 (length bs) (and_both (leb 2 (length bs)) _ b.1).0

pub try_branches : (bs : List ℕ) → body_judged (row_of K.TRY) bs ≡ ok passed → get_or bs 0 0 < MOST
unfolding body_judged row_of
try_branches bs e =
    let a = need-ok F.SIZE _ _ e in
    let b = need-ok F.VALUE _ _ a.1 in
    let c = and_both (leb 1 (u16 bs 0) && leb (u16 bs 0) F.most_branches) _ b.0 in
    let d = and_both (leb 1 (u16 bs 0)) (leb (u16 bs 0) F.most_branches) c.0 in
    omega (arith, leb-true (u16 bs 0) F.most_branches d.1)

-- THE DRAFT'S RECORD.
pub faulty_full : (z : M.Sheet) (d : Draft) → d.over ≡ true → true ≡ faulty z d
unfolding faulty
faulty_full z d o = ap (λ b. b || not (passes (judged (counts_for z d) d.kind d.body))) (sym o)

pub faulty_judged : (z : M.Sheet) (d : Draft) (r : Result (Unit {0}) Refusal) → d.over ≡ false
    → outcome_of r ≡ judged (counts_of z.seen d.kind) d.kind d.body → is_err r ≡ faulty z d
unfolding faulty
faulty_judged z d r o e =
    fails_by r
    ∙ ap (λ p. not (passes p)) e
    ∙ ap (λ b. b || not (passes (judged (counts_of z.seen d.kind) d.kind d.body))) (sym o)

pub right_kind : (seen : List ℕ) (k : ℕ) (bs : List ℕ) (r : Result (Unit {0}) Refusal) → outcome_of r ≡ judged seen k bs
    → is_err r ≡ false → k < Byte.TWO
right_kind seen k bs r e f = kind_small seen k bs (ap passes (sym e) ∙ passes_by r f)
