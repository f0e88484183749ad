-- The second pass over what is written: it goes on over records whose names are known, and stops at a class without a body.
-- Assumes nothing.
use Prim.Native.Nat.{ℕ, ◌+◌, ◌≤◌}
use Rattle.std.proofs.Common.{arith, sym, ap, ◌∙◌, subst, append-nil, ne_eqb, length-append}
use Rattle.std.specs.Prelude.{◌≡◌, List, [], ◌∷◌, ◌++◌, false, eqb, get_or}
use Rattle.std.proofs.Math.Path.{refl}
use Rattle.std.proofs.Math.ListN.{length}
use Rattle.semantics.specs.Words.{ok, fails, passed}
use Rattle.semantics.specs.Numbers as No
use Rattle.semantics.specs.Kinds as K
use Rattle.semantics.specs.Model as M
use Rattle.semantics.specs.Bytes.{Raw, raw}
use Rattle.semantics.specs.Record as R
use Rattle.semantics.specs.Record.{Entry, row_of}
use Rattle.semantics.specs.Decode.{refused, accepted, named, opened, second_pass}
use Rattle.promises.specs.Laws.{AllOf, over-append, once}
use Rattle.promises.specs.Counted.{group_of}
use Rattle.text_semantics.specs.Meaning.{Owned, owned}
use Rattle.text_semantics.specs.Written.{two, kind_of, body_of, bytes_of, file_of}
use Rattle.text_promises.specs.Judged.{of_group, its_group}
use Rattle.text_promises.specs.Cuts.{raws_from}
use Rattle.text_promises.specs.Says.{Fits}
use Rattle.text_answers.specs.Naming.{EntryKnown, entry_passes, class_fails}

-- HOW MANY BLOCKS stand before.
acts_no_block : (a : M.Action) → eqb (M.kind_of a) K.BLOCK ≡ false
unfolding row_of
acts_no_block a =
    ne_eqb (M.kind_of a) K.BLOCK λ e.
    let g : (row_of K.BLOCK).group ≡ K.ACTION = ap (λ k. (row_of k).group) (sym e) ∙ (its_group (R.ACTION a)).0 in omega arith

opened_is : (own : ℕ) (e : Entry) → opened own (kind_of e) ≡ own + once K.BLOCK (group_of e)
opened_is own (R.RES v) = omega arith
opened_is own (R.BIN v) = omega arith
opened_is own R.SYNC = omega arith
opened_is own (R.VAR v) = omega arith
opened_is own (R.CLASS b) = omega arith
opened_is own R.BLOCK = omega arith
opened_is own (R.ENTITY e) = omega arith
opened_is own (R.SAMPLER x) = omega arith
opened_is own (R.ACTION a) = rw (acts_no_block a) (omega arith)

module _ (n : List ℕ) where
  -- RECORDS whose names are known, where own BLOCKs stand before them.
  abbrev pub Runs : ℕ → List Owned → Type 0
  Runs own [] = Unit {0}
  Runs own (o ∷ os) = EntryKnown n own o.entry × Runs (own + once K.BLOCK (group_of o.entry)) os

  pub runs_append : (own : ℕ) (ps qs : List Owned) → Runs own ps → Runs (own + of_group K.BLOCK ps) qs → Runs own (ps ++ qs)
  runs_append own [] qs h k = let e : own + 0 ≡ own = omega arith in subst (λ m. Runs m qs) e k
  runs_append own (p ∷ ps) qs h k =
      let m : ℕ = own + once K.BLOCK (group_of p.entry) in
      let e : own + of_group K.BLOCK (p ∷ ps) ≡ m + of_group K.BLOCK ps = omega arith in
      (h.0, runs_append m ps qs h.1 (subst (λ i. Runs i qs) e k))

  -- .. if the m blocks that they open, from block k on, are there.
  abbrev pub InOrder : ℕ → ℕ → List Owned → Type 0
  InOrder k m os = (k + m ≤ get_or n K.BLOCK 0 → Runs k os) × (of_group K.BLOCK os ≡ m)

  pub then_runs : (k m j : ℕ) (ps qs : List Owned) → InOrder k m ps → InOrder (k + m) j qs → InOrder k (m + j) (ps ++ qs)
  then_runs k m j ps qs p q =
      let e : k + m ≡ k + of_group K.BLOCK ps = omega (arith, p.1) in (
        λ l. runs_append k ps qs (p.0 (omega arith)) (subst (λ i. Runs i qs) e (q.0 (omega arith))),
        omega (arith, p.1, q.1, over-append (λ o. once K.BLOCK (group_of o.entry)) ps qs),
      )

  -- THE PASS goes on over them,
  goes_on : (own at k : ℕ) (bs : List ℕ) (rs : List Raw) → named n own k bs ≡ ok passed
      → second_pass n own (raw at k bs ∷ rs) ≡ second_pass n (opened own k) rs
  unfolding second_pass
  goes_on own at k bs rs e = rw (e, second_pass)

  stops_at : (own at k : ℕ) (bs : List ℕ) (rs : List Raw) (x : ℕ) → named n own k bs ≡ fails x
      → second_pass n own (raw at k bs ∷ rs) ≡ refused x at
  unfolding second_pass
  stops_at own at k bs rs x e = rw (e, second_pass)

  pub second_on : (own at : ℕ) (ps qs : List Owned) → AllOf (λ o. Fits o.entry) ps → Runs own ps
      → second_pass n own (raws_from at (ps ++ qs))
      ≡ second_pass n (own + of_group K.BLOCK ps) (raws_from (at + length (file_of ps)) qs)
  second_on own at [] qs f h =
      let e : own + 0 ≡ own = omega arith in
      let d : at + 0 ≡ at = omega arith in rw (e, d)
  second_on own at (p ∷ ps) qs f h =
      let w : ℕ = at + length (bytes_of p.entry) in
      let m : ℕ = own + once K.BLOCK (group_of p.entry) in
      let l = length-append (bytes_of p.entry) (file_of ps) in
      let d : w + length (file_of ps) ≡ at + length (file_of (p ∷ ps)) = omega arith in
      let e : m + of_group K.BLOCK ps ≡ own + of_group K.BLOCK (p ∷ ps) = omega arith in
      goes_on own at (kind_of p.entry) (body_of p.entry) (raws_from w (ps ++ qs))
      (entry_passes n own p.entry f.0 h.0)
      ∙ ap (λ i. second_pass n i (raws_from w (ps ++ qs))) (opened_is own p.entry)
      ∙ second_on m w ps qs f.1 h.1
      ∙ ap (λ i. second_pass n (m + of_group K.BLOCK ps) (raws_from i qs)) d
      ∙ ap (λ i. second_pass n i (raws_from (at + length (file_of (p ∷ ps))) qs)) e

  second_end : (own : ℕ) → second_pass n own [] ≡ accepted passed
  unfolding second_pass
  second_end own = refl

  pub second_passes : (own at : ℕ) (os : List Owned) → AllOf (λ o. Fits o.entry) os → Runs own os
      → second_pass n own (raws_from at os) ≡ accepted passed
  second_passes own at os f h =
      ap (λ ps. second_pass n own (raws_from at ps)) (sym (append-nil os)) ∙ second_on own at os [] f h
      ∙ second_end (own + of_group K.BLOCK os)

  -- and stops at a class without a body.
  pub second_stops : (own at : ℕ) (ps : List Owned) (b owner : ℕ) (qs : List Owned) → AllOf (λ o. Fits o.entry) ps
      → Runs own ps → get_or n K.BLOCK 0 ≤ b
      → second_pass n own (raws_from at (ps ++ owned (R.CLASS b) owner ∷ qs)) ≡ refused No.NAME (at + length (file_of ps))
  unfolding body_of
  second_stops own at ps b owner qs f h l =
      let m : ℕ = own + of_group K.BLOCK ps in
      let o : Owned = owned (R.CLASS b) owner in
      let w : ℕ = at + length (file_of ps) in
      second_on own at ps (o ∷ qs) f h
      ∙ stops_at m w K.CLASS (two b) (raws_from (w + length (bytes_of o.entry)) qs) No.NAME (class_fails n m b l)
