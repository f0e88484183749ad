-- What steps of the machine leave as it is, and steps in the other order. Assumes nothing.
use Rattle.std.specs.Prelude.{ℕ, ◌+◌, ◌≤◌, ◌<◌, ◌≡◌, refl, Bool, true, false, List, [], ◌∷◌, ◌++◌, ◌||◌, length, get_or, leb, ltb, if◌then◌else◌}
use Rattle.std.proofs.Common.{arith, sym, ap, ◌∙◌, get_or-set_other, leb-false}
use Rattle.std.proofs.Math.Option.{Option, none, some}
use Rattle.semantics.specs.Kinds as K
use Rattle.semantics.specs.Numbers as No
use Rattle.semantics.specs.Words.{more}
use Rattle.text_machine.specs.Entry.{Draft, FULL}
use Rattle.text_machine.specs.Sheet as M
use Rattle.text_machine.specs.Sheet.{headed}
use Rattle.text_sheet.specs.Numbers.{class_noted, crowded}

-- A class is noted before its record is written, or after it.
module _ (bs : List ℕ) (p : ℕ) (s : M.Sheet) where
  abbrev with_record : M.Sheet → M.Sheet
  with_record u = M.with_declared u (s.declared ++ bs)

  abbrev with_class : M.Sheet → M.Sheet
  with_class u = M.with_class u (s.class_at ++ ((length s.declared + 4) ∷ [])) (s.class_line ++ (p ∷ [])) (length s.class_at)

  abbrev written : Bool → M.Sheet
  written a = if a then M.filled s else with_record s

  abbrev told : Bool → M.Sheet
  told b = if b then M.filled s else with_class s

  abbrev full : Bool
  full = ltb M.DECLARED (length s.declared + length bs)

  abbrev many : Bool
  many = leb No.most_classes (length s.class_at)

  noted_then : (a : Bool) → class_noted (length s.declared + 4) p (written a)
      ≡ (if many then M.filled (written a) else with_class (written a))
  unfolding class_noted
  noted_then true = refl
  noted_then false = refl

  swapped : (a b : Bool) → (if b then M.filled (written a) else with_class (written a))
      ≡ (if a then M.filled (told b) else with_record (told b))
  swapped true true = refl
  swapped true false = refl
  swapped false true = refl
  swapped false false = refl

  written_then : (b : Bool) → (if full then M.filled (told b) else with_record (told b)) ≡ M.declaring bs (told b)
  unfolding M.declaring
  written_then true = refl
  written_then false = refl

  pub classes_swap : class_noted (length s.declared + 4) p (M.declaring bs s) ≡ M.declaring bs (M.classed p s)
  unfolding M.declaring M.classed
  classes_swap = noted_then full ∙ swapped full many ∙ written_then many

-- Where there is room for one record more; and what stands where there is none, and where there is.
pub has_room : (n : ℕ) (s : M.Sheet) → crowded n s ≡ false → length s.pieces < No.most_actions
has_room n s h = go (leb No.most_actions (length s.pieces)) refl h
  where
    go : (b : Bool) → leb No.most_actions (length s.pieces) ≡ b → b || ltb No.longest_file (s.staged + n) ≡ false
        → length s.pieces < No.most_actions
    go true e f = let z : ◌≡◌ {A = Bool} true false = f in cc
    go false e f = leb-false No.most_actions (length s.pieces) e

module _ (kind : ℕ) (body : List ℕ) (s : M.Sheet) where
  abbrev pub one_piece : M.Sheet
  one_piece =
      M.with_pieces s (s.pieces ++ (record { block = M.innermost s.levels; bytes = headed kind body } ∷ []))
      (s.staged + length (headed kind body))

  pub stands_full : crowded (length (headed kind body)) s ≡ true → M.filled s ≡ M.stands kind body s
  unfolding M.stands
  stands_full e = ap (λ t. if t then M.filled s else one_piece) (sym e)

  pub stands_room : crowded (length (headed kind body)) s ≡ false → one_piece ≡ M.stands kind body s
  unfolding M.stands
  stands_room e = ap (λ t. if t then M.filled s else one_piece) (sym e)

-- The blocks stay as many.
stands_seen : (kind : ℕ) (body : List ℕ) (s : M.Sheet) → (M.stands kind body s).seen ≡ s.seen
unfolding M.stands
stands_seen kind body s = go (leb No.most_actions (length s.pieces) || ltb No.longest_file (s.staged + length (headed kind body)))
  where
    go : (t : Bool) → (if t then M.filled s else M.with_pieces s
        (s.pieces ++ (record { block = M.innermost s.levels; bytes = headed kind body } ∷ []))
        (s.staged + length (headed kind body))).seen ≡ s.seen
    go true = refl
    go false = refl

stands_levels : (kind : ℕ) (body : List ℕ) (s : M.Sheet) → (M.stands kind body s).levels ≡ s.levels
unfolding M.stands
stands_levels kind body s = go (leb No.most_actions (length s.pieces) || ltb No.longest_file (s.staged + length (headed kind body)))
  where
    go : (t : Bool) → (if t then M.filled s else M.with_pieces s
        (s.pieces ++ (record { block = M.innermost s.levels; bytes = headed kind body } ∷ []))
        (s.staged + length (headed kind body))).levels ≡ s.levels
    go true = refl
    go false = refl

counts_seen : (d : Draft) (s : M.Sheet) → (M.counts d s).seen ≡ more s.seen K.ACTION 1
unfolding M.counts
counts_seen d s = go (leb s.last_block (M.innermost s.levels))
  where
    go : (t : Bool) → (if t then M.with_last (M.with_total s (more s.seen K.ACTION 1) (M.long d)) (M.innermost s.levels) d.line
        else M.with_total s (more s.seen K.ACTION 1) (M.long d)).seen ≡ more s.seen K.ACTION 1
    go true = refl
    go false = refl

counts_levels : (d : Draft) (s : M.Sheet) → (M.counts d s).levels ≡ s.levels
unfolding M.counts
counts_levels d s = go (leb s.last_block (M.innermost s.levels))
  where
    go : (t : Bool) → (if t then M.with_last (M.with_total s (more s.seen K.ACTION 1) (M.long d)) (M.innermost s.levels) d.line
        else M.with_total s (more s.seen K.ACTION 1) (M.long d)).levels ≡ s.levels
    go true = refl
    go false = refl

more_other : (xs : List ℕ) → get_or (more xs K.ACTION 1) K.BLOCK 0 ≡ get_or xs K.BLOCK 0
more_other xs = get_or-set_other xs K.ACTION K.BLOCK (get_or xs K.ACTION 0 + 1) 0 (λ e. omega (arith, e))

pub acts_blocks : (d : Draft) (s : M.Sheet) → (get_or (M.acts d s).seen K.BLOCK 0 ≡ get_or s.seen K.BLOCK 0) × ((M.acts d s).levels ≡ s.levels)
unfolding M.acts
acts_blocks d s = (
  ap (λ xs. get_or xs K.BLOCK 0) (stands_seen d.kind d.body (M.counts d s) ∙ counts_seen d s) ∙ more_other s.seen,
  stands_levels d.kind d.body (M.counts d s) ∙ counts_levels d s,
)

pub tries_blocks : (d : Draft) (s : M.Sheet) → (get_or (M.tries d s).seen K.BLOCK 0 ≡ get_or s.seen K.BLOCK 0)
    × (length (M.tries d s).levels ≡ length s.levels)
unfolding M.tries
tries_blocks d s = (go (M.kept_in s.levels), deep (M.kept_in s.levels))
  where
    go : (o : Option M.Kept) → get_or (M.branches d o s).seen K.BLOCK 0 ≡ get_or s.seen K.BLOCK 0
    go none = ap (λ xs. get_or xs K.BLOCK 0) (counts_seen d s) ∙ more_other s.seen
    go (some x) = refl

    keeps : (o : Option M.Kept) (ls : List M.Level) → length (M.keeping o ls) ≡ length ls
    keeps o [] = refl
    keeps o (l ∷ ls) = refl

    deep : (o : Option M.Kept) → length (M.keeping (some (record { line = d.line; body = d.body })) (M.branches d o s).levels) ≡ length s.levels
    deep none = keeps _ (M.counts d s).levels ∙ ap length (counts_levels d s)
    deep (some x) = keeps _ s.levels

-- So a brace may be opened behind it.
pub opens_fits : (s : M.Sheet) {r u : M.Sheet} → r ≡ u → (get_or u.seen K.BLOCK 0 ≡ get_or s.seen K.BLOCK 0) × (length u.levels ≡ length s.levels)
    → get_or s.seen K.BLOCK 0 ≤ FULL → length s.levels ≤ No.deepest
    → (get_or r.seen K.BLOCK 0 ≤ FULL) × (length r.levels ≤ No.deepest)
opens_fits s {r} {u} e k h d =
    (omega (arith, ap (λ x. get_or x.seen K.BLOCK 0) e, k.0, h), omega (arith, ap (λ x. length x.levels) e, k.1, d))
