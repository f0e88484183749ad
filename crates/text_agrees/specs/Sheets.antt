-- How many blocks are open after each change of a sheet.
-- Assumes nothing.
use Rattle.std.specs.Prelude.{ℕ, suc, ◌+◌, ◌≡◌, refl, List, [], ◌∷◌, Bool, true, false, ◌||◌, leb, ltb, length, if◌then◌else◌}
use Rattle.std.proofs.Common.{arith, ◌∙◌}
use Rattle.std.proofs.Math.Option.{Option, none, some}
use Rattle.semantics.specs.Words.{more}
use Rattle.semantics.specs.Numbers as F
use Rattle.semantics.specs.Kinds as K
use Rattle.text_semantics.specs.Written.{two}
use Rattle.text_machine.specs.Entry.{Draft}
use Rattle.text_machine.specs.Sheet.{Sheet, Level, Kept, keeping, outer, headed, kept_in, let_go, branches, stands, settled}
use Rattle.text_machine.specs.Sheet.{closed, counts, acts}
use Rattle.text_machine.specs.Sheet.{tries, braces, filled, with_total, DECLARED, class_bytes, long}
use Rattle.text_machine.specs.Sheet.{declaring, declares}
use Rattle.text_machine.specs.Sheet.{classed, classes, bodied}

abbrev pub deepness : Sheet → ℕ
deepness s = length s.levels

-- A choice between two sheets with the same blocks.
pub either : (b : Bool) (x y : Sheet) (n : ℕ) → deepness x ≡ n → deepness y ≡ n → deepness (if b then x else y) ≡ n
either true x y n e f = e
either false x y n e f = f

keeping_deep : (o : Option Kept) (ls : List Level) → length (keeping o ls) ≡ length ls
keeping_deep o [] = refl
keeping_deep o (l ∷ ls) = refl

pub stands_deep : (k : ℕ) (bs : List ℕ) (s : Sheet) → deepness (stands k bs s) ≡ deepness s
unfolding stands
stands_deep k bs s =
    either (leb F.most_actions (length s.pieces) || ltb F.longest_file (s.staged + length (headed k bs))) (filled s) _
    (deepness s) refl refl

pub counts_deep : (d : Draft) (s : Sheet) → deepness (counts d s) ≡ deepness s
unfolding counts
counts_deep d s = either (leb s.last_block _) _ _ (deepness s) refl refl

pub acts_deep : (d : Draft) (s : Sheet) → deepness (acts d s) ≡ deepness s
unfolding acts
acts_deep d s = stands_deep d.kind d.body (counts d s) ∙ counts_deep d s

pub settled_deep : (s : Sheet) → deepness (settled s) ≡ deepness s
unfolding settled
settled_deep s = go (kept_in s.levels)
  where
    go : (o : Option Kept) → deepness (let_go o s) ≡ deepness s
    go none = refl
    go (some x) = keeping_deep none (stands K.TRY x.body s).levels ∙ stands_deep K.TRY x.body s

pub tries_deep : (d : Draft) (s : Sheet) → deepness (tries d s) ≡ deepness s
unfolding tries
tries_deep d s =
    keeping_deep (some (record { line = d.line; body = d.body })) (branches d (kept_in s.levels) s).levels
    ∙ go (kept_in s.levels)
  where
    go : (o : Option Kept) → deepness (branches d o s) ≡ deepness s
    go none = counts_deep d s
    go (some x) = refl

pub braces_deep : (s : Sheet) → deepness (braces s) ≡ suc (deepness s)
unfolding braces
braces_deep s = refl

outer_deep : (ls : List Level) (n : ℕ) → length ls ≡ suc n → length (outer ls) ≡ n
outer_deep [] n e = absurd (omega arith)
outer_deep (l ∷ ls) n e = omega arith

pub closed_deep : (s : Sheet) (n : ℕ) → deepness s ≡ suc n → deepness (closed s) ≡ n
unfolding closed
closed_deep s n e = outer_deep (settled s).levels n (settled_deep s ∙ e)

-- Declarations open no block.
declaring_deep : (bs : List ℕ) (s : Sheet) → deepness (declaring bs s) ≡ deepness s
unfolding declaring
declaring_deep bs s = either (ltb DECLARED (length s.declared + length bs)) (filled s) _ (deepness s) refl refl

classed_deep : (p : ℕ) (s : Sheet) → deepness (classed p s) ≡ deepness s
unfolding classed
classed_deep p s = either (leb F.most_classes (length s.class_at)) (filled s) _ (deepness s) refl refl

pub classes_deep : (p b : ℕ) (s : Sheet) → deepness (classes p b s) ≡ deepness s
unfolding classes
classes_deep p b s =
    let t : Sheet = with_total s (more s.seen K.CLASS 1) class_bytes in
    declaring_deep (headed K.CLASS (two b)) (classed p t) ∙ classed_deep p t

pub bodied_deep : (c b : ℕ) (s : Sheet) → deepness (bodied c b s) ≡ deepness s
unfolding bodied
bodied_deep c b s = refl

pub declares_deep : (d : Draft) (s : Sheet) → deepness (declares d s) ≡ deepness s
unfolding declares
declares_deep d s = declaring_deep (headed d.kind d.body) (with_total s (more s.seen d.kind 1) (long d))
