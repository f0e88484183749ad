-- A step made aside, and then undone or taken over; and a step that fits in any case. Assumes nothing.
use Rattle.std.specs.Prelude.{if◌then◌else◌}
use Prim.Native.Nat.{ℕ, ◌+◌, ◌-◌, ◌*◌, ◌≤◌, ◌<◌}
use native.Mathlib.Omega.{arith}
use mathlib.Core.Path.{◌≡◌, refl, sym, ◌∙◌, ap, subst}
use mathlib.Core.List.{List, [], ◌++◌, append_assoc, append-nil}
use borrow.Author.Tests.{le-leb, lt-leb}
use borrow.Rule.Slice.PartMut.{put_mid}
use lib.ListN.{length, take, drop, length-take, length-drop}
use lib.Seq.{sets, sets-eq, length-take-le, take-length, take_at, drop-drop, drop-length}
use Rattle.semantics.specs.Words.{Outcome, ok, fails}
use Rattle.semantics.specs.Numbers as No
use Rattle.semantics.specs.Walk.{Line, Next}
use Rattle.semantics.specs.Journal.{journal, written}
use Rattle.base_numbers.specs.Row as Row
use Rattle.base_numbers.specs.Limit as Limit
use Rattle.base_numbers.specs.Line as Line
use Rattle.base_journal.specs.Wrote.{wrote_at}
use Rattle.base_journal.specs.Laws.{journal-length, written_none, wrote_sets, wrote_written}
use Rattle.act_floor.specs.Acting.{Going, Stepped}
use Rattle.act_floor.specs.Running.{runs}
use Rattle.act_floor.specs.Floor.{run_long}
use Rattle.run_limit.specs.Fitted.{fitted}

pub going_long : (bs map w : List ℕ) → Going bs map w → length w ≡ Row.WORDS
going_long bs map w g = run_long (runs g.running)

-- WHETHER ITS LINES FIT.
does_fit : (x : Next) (n : ℕ) → length x.lines ≤ n → fitted n (ok x) ≡ ok x
does_fit x n h = ap (λ b. if b then ok x else fails No.JOURNAL) (le-leb (length x.lines) n h)

no_room : (x : Next) (n : ℕ) → n < length x.lines → fitted n (ok x) ≡ fails No.JOURNAL
no_room x n h = ap (λ b. if b then ok x else fails No.JOURNAL) (lt-leb (length x.lines) n h)

-- THE BYTES of lines written aside, and bytes laid over a part of the journal.
bytes_aside : (ls : List Line) (out : List ℕ) → Line.BYTES * length ls ≤ length out
    → take (Line.BYTES * length ls) (wrote_at 0 ls out) ≡ journal ls
unfolding written
bytes_aside ls out h =
    ap (take (Line.BYTES * length ls)) (ap (wrote_at 0 ls) (sym (written_none out)) ∙ wrote_written [] ls out (omega arith))
    ∙ take_at (journal ls) (drop (Line.BYTES * length ls) out) (Line.BYTES * length ls) (journal-length ls)

laid_over : (j bs : List ℕ) (a m : ℕ) → a + length bs ≤ length j → m ≡ length bs → put_mid a m j bs ≡ sets j a bs
laid_over j bs a m h e =
    ap (λ k. take a j ++ (bs ++ drop k (drop a j))) e
    ∙ ap (λ l. take a j ++ (bs ++ l)) (drop-drop (length bs) a j)
    ∙ sym (append_assoc (take a j) bs (drop (a + length bs) j))
    ∙ sym (sets-eq bs j a h)

-- THE STEP o, of which `lines` lines were written: too many for the room, and so undone,
module _ (o : Outcome Next) (n fault lines : ℕ) (w w' : List ℕ) where
  pub undone : (at : ℕ) (kept out out' j : List ℕ) → Stepped o fault lines w w' 0 out out' → n < lines → kept ≡ w
      → Stepped (fitted n o) No.JOURNAL 0 w kept at j j
  undone at kept out out' j = by o
    where
      by : (o : Outcome Next) → Stepped o fault lines w w' 0 out out' → n < lines → kept ≡ w
          → Stepped (fitted n o) No.JOURNAL 0 w kept at j j
      by (ok x) s h e =
          let l = s.1.0 in
          subst (λ o. Stepped o No.JOURNAL 0 w kept at j j) (sym (no_room x n (omega arith))) (refl, (refl, (e, refl)))
      by (fails k) s h e = let l = s.1.0 in absurd (omega arith)

  -- or not, and so the bytes that stand aside were laid over the journal.
  pub taken_over : (at : ℕ) (out out' j part : List ℕ) (m : ℕ) → Stepped o fault lines w w' 0 out out' → lines ≤ n → n ≤ Limit.STEP_LINES
      → length out ≡ Limit.STEP_LINES * Line.BYTES → Line.BYTES * (at + n) ≤ length j → Line.BYTES * lines ≤ length out'
      → part ≡ take (Line.BYTES * lines) out' → m ≡ Line.BYTES * lines
      → Stepped (fitted n o) fault lines w w' at j (put_mid (Line.BYTES * at) m j part)
  taken_over at out out' j part m s h few long room there e k =
      by o s (ap (put_mid (Line.BYTES * at) m j) e
      ∙ laid_over j (take (Line.BYTES * lines) out') (Line.BYTES * at) m within (k ∙ sym (length-take-le (Line.BYTES * lines) out' there)))
    where
      within : Line.BYTES * at + length (take (Line.BYTES * lines) out') ≤ length j
      within = omega (arith, length-take (Line.BYTES * lines) out')

      by : (o : Outcome Next) → Stepped o fault lines w w' 0 out out'
          → {j' : List ℕ} → j' ≡ sets j (Line.BYTES * at) (take (Line.BYTES * lines) out')
          → Stepped (fitted n o) fault lines w w' at j j'
      by (ok x) s {j'} e =
          let l = s.1.0 in
          let front : take (Line.BYTES * lines) out' ≡ journal x.lines =
          ap (λ k. take (Line.BYTES * k) out') l
          ∙ ap (take (Line.BYTES * length x.lines)) s.1.1.1
          ∙ bytes_aside x.lines out (omega arith) in
          subst (λ o. Stepped o fault lines w w' at j j') (sym (does_fit x n (omega arith)))
          (s.0, (l, (s.1.1.0, e ∙ ap (sets j (Line.BYTES * at)) front ∙ sym (wrote_sets x.lines at j))))
      by (fails k) s e =
          let l = s.1.0 in (s.0, (l, (s.1.1.0, e ∙ ap (λ i. sets j (Line.BYTES * at) (take (Line.BYTES * i) out')) l)))

  -- One whose lines fit in any case.
  pub fits_anyway : (at : ℕ) (out out' : List ℕ) → Stepped o fault lines w w' at out out'
      → ((x : Next) → o ≡ ok x → length x.lines ≤ n) → Stepped (fitted n o) fault lines w w' at out out'
  fits_anyway at out out' = by o
    where
      by : (o : Outcome Next) → Stepped o fault lines w w' at out out' → ((x : Next) → o ≡ ok x → length x.lines ≤ n)
          → Stepped (fitted n o) fault lines w w' at out out'
      by (ok x) s h = subst (λ o. Stepped o fault lines w w' at out out') (sym (does_fit x n (h x refl))) s
      by (fails k) s h = s
