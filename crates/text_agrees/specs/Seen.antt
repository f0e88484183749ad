-- What a token makes of a draft's kind, and what each change of a sheet makes of the records that it has counted.
-- Assumes nothing.
use Rattle.std.specs.Prelude.{ℕ, ◌+◌, ◌≡◌, List, Bool, true, false, ◌&&◌, ◌||◌, leb, ltb, length, get_or, if◌then◌else◌}
use Rattle.std.proofs.Common.{arith, ◌∙◌, length-set, get_or-set_other}
use Rattle.std.proofs.Math.Path.{refl}
use Rattle.std.proofs.Math.Option.{Option, none, some}
use Rattle.std.proofs.Math.Dec.{eqb}
use Rattle.text_semantics.specs.Meaning.{kind_of, number_of}
use Rattle.semantics.specs.Words as W
use Rattle.semantics.specs.Kinds as K
use Rattle.semantics.specs.Numbers as F
use Rattle.text_semantics.specs.Numbers as No
use Rattle.text_semantics.specs.Token as T
use Rattle.text_semantics.specs.Token.{Token, name, number, mark, bad}
use Rattle.text_semantics.specs.Written.{two}
use Rattle.text_semantics.specs.Reading.{Symbol, one, the, a_name, a_number, factor_s, minus_s, more, signed_s, relation_s, item_s}
use Rattle.text_semantics.specs.Reading.{claim_s, items_s, gives_s, given_s, actions_s, try_s, few_s, lines_s, body_s, text_s}
use Rattle.text_machine.specs.Entry as E
use Rattle.text_machine.specs.Entry.{Draft, asking, drafted, mark_in, put, at_number, name_in}
use Rattle.text_machine.specs.Entry.{at_item}
use Rattle.text_machine.specs.Sheet as S
use Rattle.text_machine.specs.Sheet.{Sheet, Kept, kept_in, declaring, declares, classed, classes, bodied, counts, stands, acts}
use Rattle.text_machine.specs.Sheet.{settled, let_go, braces, tries, branches, closed, DECLARED}
use Rattle.text_machine.specs.Machine.{Reader, draft_after, done, is_declaration, behind}
use Rattle.text_agrees.specs.Steady.{Steady, still, steady_one_more, steady_sign, steady_name, steady_factor, steady_minus}
use Rattle.text_agrees.specs.Steady.{steady_more}

-- KINDS. Only the first token of a declaration or action gives the draft a kind.
abbrev pub begins : Symbol → Bool
begins (one x) = false
begins (factor_s n) = false
begins (minus_s n) = false
begins (more n c) = false
begins signed_s = false
begins relation_s = false
begins item_s = false
begins claim_s = false
begins items_s = false
begins gives_s = false
begins given_s = false
begins actions_s = true
begins try_s = true
begins (few_s n) = false
begins lines_s = true
begins body_s = false
begins text_s = true

record Kind (d : Draft) (n : ℕ) : Type 0 where
  is : d.kind ≡ n

kind_if : (b : Bool) (x y : Draft) {n : ℕ} → Kind x n → Kind y n → Kind (if b then x else y) n
kind_if true x y e f = e
kind_if false x y e f = f

kind_steady : {a d : Draft} → Steady a d → Kind d a.kind
kind_steady h = record { is = h.kind }

module _ (d : Draft) where
  kind_number : (b m : ℕ) → Kind (at_number b m d) d.kind
  unfolding at_number
  kind_number b m =
      kind_if (eqb b No.top_count) _ _ (record { is = refl })
      (kind_if (eqb b No.top_magnitude) _ _ (record { is = refl })
      (kind_if (eqb d.kind K.START && eqb d.role (asking K.CLASS)) _ _
      (record { is = refl }) (record { is = refl })))

  kind_getting : (k w : ℕ) → Kind (E.getting k w d) d.kind
  unfolding put
  kind_getting k w = record { is = (steady_one_more (still {d = d})).kind }

  kind_item : (i : ℕ) (t : Token) → Kind (at_item i t d) d.kind
  unfolding at_item
  kind_item i (name x) = record { is = (steady_one_more (still {d = d})).kind }
  kind_item i (number m) = record { is = refl }
  kind_item i (mark s) =
      kind_if (eqb s T.GETR) _ _ (kind_getting 0 K.RES)
      (kind_if (eqb s T.GETB) _ _ (kind_getting 1 K.BIN)
      (kind_if (eqb s T.GETS) _ _ (kind_getting 2 K.SYNC) (record { is = refl })))
  kind_item i bad = record { is = refl }

pub kind_kept : (r : Reader) (s : Symbol) (t : Token) (p : ℕ) → begins s ≡ false → (draft_after r s t p).kind ≡ r.draft.kind
unfolding draft_after drafted
kind_kept r s t p h = (go s h).is
  where
    same : Kind r.draft r.draft.kind
    same = record { is = refl }

    untouched : Steady r.draft r.draft
    untouched = still

    go : (s : Symbol) → begins s ≡ false → Kind (draft_after r s t p) r.draft.kind
    go (one (the k)) h = kind_steady (steady_sign untouched _ k)
    go (one a_name) h = kind_steady (steady_name untouched _)
    go (one (a_number b)) h = kind_number r.draft b _
    go (factor_s n) h = kind_steady (steady_factor untouched (kind_of r.known (name_in t)) (number_of r.known (name_in t)) t)
    go (minus_s n) h = kind_steady (steady_minus untouched (kind_of r.known (name_in t)) (number_of r.known (name_in t)) t)
    go (more n c) h = kind_steady (steady_more untouched c (mark_in t))
    go signed_s h = kind_if (eqb (mark_in t) T.MINUS) _ _ same (record { is = refl })
    go relation_s h = record { is = refl }
    go item_s h = kind_item r.draft _ t
    go claim_s h = kind_item r.draft _ t
    go items_s h = same
    go gives_s h = same
    go given_s h = same
    go actions_s h = let z : ◌≡◌ {A = ℕ} 0 1 = cc in absurd (omega arith)
    go try_s h = let z : ◌≡◌ {A = ℕ} 0 1 = cc in absurd (omega arith)
    go (few_s n) h = same
    go lines_s h = let z : ◌≡◌ {A = ℕ} 0 1 = cc in absurd (omega arith)
    go body_s h = same
    go text_s h = let z : ◌≡◌ {A = ℕ} 0 1 = cc in absurd (omega arith)

-- COUNTS. The kinds that names have, but for locals; two lists of counts that are the same at those.
abbrev pub naming : ℕ → Bool
naming w = eqb w K.RES || (eqb w K.BIN || (eqb w K.SYNC || (eqb w K.VAR || (eqb w K.CLASS || eqb w K.SAMPLER))))

pub record Same (xs ys : List ℕ) : Type 0 where
  pub sized : length ys ≡ length xs
  pub kept : (w : ℕ) → naming w ≡ true → get_or ys w 0 ≡ get_or xs w 0

pub same_refl : (xs : List ℕ) → Same xs xs
same_refl xs = record { sized = refl; kept = λ w h. refl }

same_trans : {xs ys zs : List ℕ} → Same xs ys → Same ys zs → Same xs zs
same_trans a b = record { sized = b.sized ∙ a.sized; kept = λ w h. b.kept w h ∙ a.kept w h }

apart : (v w : ℕ) → naming v ≡ false → naming w ≡ true → w ≡ v → ⊥
apart v w g h e = let z : ◌≡◌ {A = ℕ} 0 1 = cc in omega arith

pub same_more : (xs : List ℕ) (v n : ℕ) → naming v ≡ false → Same xs (W.more xs v n)
same_more xs v n g =
    record {
      sized = length-set xs v (get_or xs v 0 + n);
      kept = λ w h. get_or-set_other xs v w (get_or xs v 0 + n) 0 (apart v w g h);
    }

-- What a sheet's counts are after a change.
pub record Saw (z : Sheet) (xs : List ℕ) : Type 0 where
  pub is : z.seen ≡ xs

saw_if : (b : Bool) (x y : Sheet) {ns : List ℕ} → Saw x ns → Saw y ns → Saw (if b then x else y) ns
saw_if true x y e f = e
saw_if false x y e f = f

saw_declaring : (bs : List ℕ) (z : Sheet) → Saw (declaring bs z) z.seen
unfolding declaring
saw_declaring bs z =
    saw_if (ltb DECLARED (length z.declared + length bs)) _ _ (record { is = refl }) (record { is = refl })

pub saw_declares : (d : Draft) (z : Sheet) → Saw (declares d z) (W.more z.seen d.kind 1)
unfolding declares
saw_declares d z =
    saw_declaring (S.headed d.kind d.body) (S.with_total z (W.more z.seen d.kind 1) (S.long d))

saw_classed : (p : ℕ) (z : Sheet) → Saw (classed p z) z.seen
unfolding classed
saw_classed p z = saw_if (leb F.most_classes (length z.class_at)) _ _ (record { is = refl }) (record { is = refl })

pub saw_classes : (p b : ℕ) (z : Sheet) → Saw (classes p b z) (W.more z.seen K.CLASS 1)
unfolding classes
saw_classes p b z =
    let y : Sheet = S.with_total z (W.more z.seen K.CLASS 1) S.class_bytes in
    record { is = (saw_declaring (S.headed K.CLASS (two b)) (classed p y)).is ∙ (saw_classed p y).is }

pub saw_bodied : (c b : ℕ) (z : Sheet) → Saw (bodied c b z) z.seen
unfolding bodied
saw_bodied c b z = record { is = refl }

pub saw_braces : (z : Sheet) → Saw (braces z) (W.more z.seen K.BLOCK 1)
unfolding braces
saw_braces z = record { is = refl }

saw_counts : (d : Draft) (z : Sheet) → Saw (counts d z) (W.more z.seen K.ACTION 1)
unfolding counts
saw_counts d z = saw_if (leb z.last_block (S.innermost z.levels)) _ _ (record { is = refl }) (record { is = refl })

saw_stands : (k : ℕ) (bs : List ℕ) (z : Sheet) → Saw (stands k bs z) z.seen
unfolding stands
saw_stands k bs z =
    saw_if (leb F.most_actions (length z.pieces) || ltb F.longest_file (z.staged + length (S.headed k bs))) _ _
    (record { is = refl }) (record { is = refl })

pub saw_acts : (d : Draft) (z : Sheet) → Saw (acts d z) (W.more z.seen K.ACTION 1)
unfolding acts
saw_acts d z = record { is = (saw_stands d.kind d.body (counts d z)).is ∙ (saw_counts d z).is }

saw_settled : (z : Sheet) → Saw (settled z) z.seen
unfolding settled
saw_settled z = go (kept_in z.levels)
  where
    go : (o : Option Kept) → Saw (let_go o z) z.seen
    go none = record { is = refl }
    go (some x) = record { is = (saw_stands K.TRY x.body z).is }

saw_closed : (z : Sheet) → Saw (closed z) z.seen
unfolding closed
saw_closed z = record { is = (saw_settled z).is }

pub saw_behind : (z : Sheet) (t : Token) → Saw (behind z t) z.seen
saw_behind z t =
    saw_if (eqb (mark_in t) T.RB) _ _ (saw_closed z)
    (saw_if (eqb (mark_in t) T.ETRY) _ _ (record { is = refl }) (saw_settled z))

-- An action counts no name.
same_saw : {xs ys : List ℕ} (z : Sheet) → Same xs ys → Saw z ys → Same xs z.seen
same_saw z a b = rw b.is a

pub same_done : (d : Draft) (z : Sheet) → is_declaration d ≡ false → Same z.seen (done d z).seen
same_done d z h = rw h (same_saw (acts d z) (same_more z.seen K.ACTION 1 refl) (saw_acts d z))

same_tries : (d : Draft) (z : Sheet) → Same z.seen (tries d z).seen
unfolding tries
same_tries d z = go (kept_in z.levels)
  where
    go : (o : Option Kept) → Same z.seen (branches d o z).seen
    go none = same_saw (counts d z) (same_more z.seen K.ACTION 1 refl) (saw_counts d z)
    go (some x) = same_refl z.seen

pub same_opens : (d : Draft) (z : Sheet) → Same z.seen (S.opens d z).seen
unfolding S.opens
same_opens d z =
    let y : Sheet = if eqb d.kind K.TRY then tries d z else acts d z in
    same_trans (go (eqb d.kind K.TRY)) (same_saw (braces y) (same_more y.seen K.BLOCK 1 refl) (saw_braces y))
  where
    go : (b : Bool) → Same z.seen (if b then tries d z else acts d z).seen
    go true = same_tries d z
    go false = same_saw (acts d z) (same_more z.seen K.ACTION 1 refl) (saw_acts d z)
