-- The bytes of the journal: how many they are, and that lines written one after the other are what `written` says.
-- Assumes nothing.
use Rattle.std.specs.Prelude.{◌≡◌, refl, List, [], ◌∷◌, ◌++◌, ℕ, suc, ◌+◌, ◌*◌, ◌≤◌, length, drop}
use Rattle.std.proofs.Common.{sym, ◌∙◌, ap, append_assoc, arith, length-append, length-drop, take_at, drop-drop}
use Rattle.std.proofs.lemmas.List.Edits.{sets, sets-eq}
use Rattle.std.proofs.Math.Seq.{length-sets, drop-append-add}
use Rattle.semantics.specs.Walk.{Line}
use Rattle.semantics.specs.Journal.{line_bytes, journal, written}
use Rattle.base_numbers.specs.Line as Line
use Rattle.base_journal.specs.Wrote.{wrote_at}

-- STORES. Two runs of them, the second from where the first ends, are one.
pub sets-append : (us vs xs : List ℕ) (i : ℕ) → sets xs i (us ++ vs) ≡ sets (sets xs i us) (i + length us) vs
sets-append [] vs xs i = ap (λ k. sets xs k vs) (omega arith)
sets-append (u ∷ us) vs xs i = sets-append us vs _ (suc i) ∙ ap (λ k. sets (sets xs i (u ∷ us)) k vs) (omega arith)

-- LENGTHS
pub length_line : (l : Line) → length (line_bytes l) ≡ Line.BYTES
unfolding line_bytes
length_line l = refl

pub journal-length : (ls : List Line) → length (journal ls) ≡ Line.BYTES * length ls
unfolding journal
journal-length [] = refl
journal-length (l ∷ ls) = length-append (line_bytes l) (journal ls) ∙ omega (arith, length_line l, journal-length ls)

pub written-length : (ls : List Line) (bs : List ℕ) → Line.BYTES * length ls ≤ length bs → length (written ls bs) ≡ length bs
unfolding written
written-length ls bs h = simp (length-append, length-drop, journal-length) (omega arith)

-- WRITTEN. More lines behind those written are stored behind their bytes.
pub journal-append : (ls ks : List Line) → journal (ls ++ ks) ≡ journal ls ++ journal ks
unfolding journal
journal-append [] ks = refl
journal-append (l ∷ ls) ks =
    ap (λ bs. line_bytes l ++ bs) (journal-append ls ks) ∙ sym (append_assoc (line_bytes l) (journal ls) (journal ks))

stored_behind : (us vs bs : List ℕ) (n m : ℕ) → length us ≡ n → length vs ≡ m → n + m ≤ length bs
    → sets (us ++ drop n bs) n vs ≡ us ++ vs ++ drop (n + m) bs
stored_behind us vs bs n m e f h =
    sets-eq vs (us ++ drop n bs) n (simp (length-append, length-drop) (omega arith))
    ∙ rw (take_at us _ n e, f, ← e, drop-append-add, drop-drop)

pub written_none : (bs : List ℕ) → written [] bs ≡ bs
unfolding written
written_none bs = refl

pub written_on : (ls ks : List Line) (bs : List ℕ) → Line.BYTES * (length ls + length ks) ≤ length bs
    → sets (written ls bs) (Line.BYTES * length ls) (journal ks) ≡ written (ls ++ ks) bs
unfolding written
written_on ls ks bs h =
    let e : Line.BYTES * length ls + Line.BYTES * length ks ≡ Line.BYTES * length (ls ++ ks) =
    omega (arith, length-append ls ks) in
    stored_behind (journal ls) (journal ks) bs _ _ (journal-length ls) (journal-length ks) (omega arith)
    ∙ ap (λ us. us ++ drop (Line.BYTES * length ls + Line.BYTES * length ks) bs) (sym (journal-append ls ks))
    ∙ ap (λ n. journal (ls ++ ks) ++ drop n bs) e

pub written_more : (ls : List Line) (l : Line) (bs : List ℕ) → Line.BYTES * (length ls + 1) ≤ length bs
    → sets (written ls bs) (Line.BYTES * length ls) (line_bytes l) ≡ written (ls ++ l ∷ []) bs
unfolding journal
written_more ls l bs h = written_on ls (l ∷ []) bs h

-- WROTE. Lines written one after the other are their journal stored at once.
pub wrote_sets : (ls : List Line) (n : ℕ) (bs : List ℕ) → wrote_at n ls bs ≡ sets bs (Line.BYTES * n) (journal ls)
unfolding wrote_at journal
wrote_sets [] n bs = refl
wrote_sets (l ∷ ls) n bs =
    wrote_sets ls (n + 1) (sets bs (Line.BYTES * n) (line_bytes l))
    ∙ ap (λ k. sets (sets bs (Line.BYTES * n) (line_bytes l)) k (journal ls)) (omega (arith, length_line l))
    ∙ sym (sets-append (line_bytes l) (journal ls) bs (Line.BYTES * n))

pub wrote_append : (ls ks : List Line) (n : ℕ) (bs : List ℕ)
    → wrote_at n (ls ++ ks) bs ≡ wrote_at (n + length ls) ks (wrote_at n ls bs)
unfolding wrote_at
wrote_append [] ks n bs = ap (λ k. wrote_at k ks bs) (omega arith)
wrote_append (l ∷ ls) ks n bs =
    wrote_append ls ks (n + 1) _ ∙ ap (λ k. wrote_at k ks (wrote_at n (l ∷ ls) bs)) (omega arith)

pub wrote_written : (ls ks : List Line) (bs : List ℕ) → Line.BYTES * (length ls + length ks) ≤ length bs
    → wrote_at (length ls) ks (written ls bs) ≡ written (ls ++ ks) bs
wrote_written ls ks bs h = wrote_sets ks (length ls) (written ls bs) ∙ written_on ls ks bs h

pub wrote_length : (ls : List Line) (n : ℕ) (bs : List ℕ) → length (wrote_at n ls bs) ≡ length bs
wrote_length ls n bs = ap length (wrote_sets ls n bs) ∙ length-sets bs (Line.BYTES * n) (journal ls)
