-- The machine's sheet never lacks room: what it has written down is within what it has counted, and that is within its limits.
-- Assumes nothing.
use Rattle.std.specs.Prelude.{ℕ, zero, suc, ◌+◌, ◌*◌, ◌-◌, ◌≤◌, ◌<◌, refl, Bool, true, false, ◌&&◌, ◌||◌, ◌⊎◌, eqb, leb, ltb, take, drop, if◌then◌else◌}
use Rattle.std.proofs.Common.{arith, ◌∙◌, subst, inl, inr, length-set, length-take, length-drop}
use Rattle.std.proofs.Math.Path.{◌≡◌, sym, ap}
use mathlib.Core.List.{List, [], ◌∷◌, ◌++◌}
use Rattle.std.proofs.Math.Option.{Option, none, some}
use Rattle.std.proofs.Math.ListN.{length, get_or, length-append}
use borrow.Author.Tests.{eqb-true, eqb-false, leb-true, ltb-true, ltb-false, le-ltb, lt-leb, not-false}
use Rattle.semantics.specs.Words.{Outcome, ok, Passed, passed, ◌>>◌, need}
use Rattle.semantics.specs.Words as W
use Rattle.semantics.specs.Numbers as F
use Rattle.semantics.specs.Kinds as K
use Rattle.semantics.specs.Record.{Row, Tail, nothing, expression, branches, list_of, table, row_of, body_judged, sized}
use Rattle.semantics.specs.Decode.{judged}
use Rattle.promises.specs.Laws.{no_way, not_some, and-true, or-false, if_has, needed_then, AllOf, all_hold, once, more_at}
use Rattle.promises.specs.Passes.{its_row}
use Rattle.promises.specs.Counted.{limits}
use Rattle.text_semantics.specs.Numbers as No
use Rattle.text_semantics.specs.Token as T
use Rattle.text_semantics.specs.Token.{Token}
use Rattle.text_semantics.specs.Meaning.{number_of}
use Rattle.text_semantics.specs.Written.{two}
use Rattle.text_semantics.specs.Reading.{Symbol, one, the, a_name, a_number, factor_s, minus_s, more, signed_s, relation_s, item_s}
use Rattle.text_semantics.specs.Reading.{claim_s, items_s, gives_s, given_s, actions_s, try_s, few_s, lines_s, body_s, text_s}
use Rattle.text_machine.specs.Entry.{Draft, mark_in}
use Rattle.text_machine.specs.Sheet as S
use Rattle.text_machine.specs.Sheet.{Sheet, Piece, Level, Kept, headed, long, DECLARED}
use Rattle.text_machine.specs.Machine.{Reader, faulty, passes, counts_for, over_limit, cut_at, draft_after, sheet_after}
use Rattle.text_machine.specs.Machine.{after}
use Rattle.text_machine.specs.Machine as M
use Rattle.text_agrees.specs.Drafts.{Whole}
use Rattle.text_agrees.specs.Accounts.{stands-account}
use Rattle.text_agrees.specs.Seen.{same_opens, saw_classes}
use Rattle.text_agrees.specs.Goodness.{Written, Item, a_class, another, joined, places_from, not_faulty, within_limits}
use Rattle.text_agrees.specs.Goodness.{turns, all_written}
use Rattle.text_agrees.specs.Stages.{Comes, starts, moves}
use Rattle.text_answers.specs.Sized.{whole_after, whole_draft}

-- WHAT WAITS in the open blocks: the tries that may go on, and their bytes.
abbrev waiting : Option Kept → ℕ
waiting none = 0
waiting (some x) = 1

abbrev waiting_bytes : Option Kept → ℕ
waiting_bytes none = 0
waiting_bytes (some x) = 4 + length x.body

abbrev waits : List Level → ℕ
waits [] = 0
waits (l ∷ ls) = waiting l.kept + waits ls

abbrev waits_bytes : List Level → ℕ
waits_bytes [] = 0
waits_bytes (l ∷ ls) = waiting_bytes l.kept + waits_bytes ls

keeping-waits : (o : Option Kept) (ls : List Level) → waits (S.keeping o ls) + waiting (S.kept_in ls) ≤ waits ls + waiting o
keeping-waits o [] = omega arith
keeping-waits o (l ∷ ls) = omega arith

keeping_bytes : (o : Option Kept) (ls : List Level) →
    waits_bytes (S.keeping o ls) + waiting_bytes (S.kept_in ls) ≤ waits_bytes ls + waiting_bytes o
keeping_bytes o [] = omega arith
keeping_bytes o (l ∷ ls) = omega arith

outer-waits : (ls : List Level) → (waits (S.outer ls) ≤ waits ls) × (waits_bytes (S.outer ls) ≤ waits_bytes ls)
outer-waits [] = (omega arith, omega arith)
outer-waits (l ∷ ls) = (omega arith, omega arith)

-- WHAT DECLARATIONS WEIGH: a record of each group has so many bytes. Blocks weigh, too, though they aren't declared: there is
-- room enough, and so nothing has to be said of a declaration's kind but that it has a row.
abbrev weigh : (ℕ → ℕ) → ℕ
weigh f =
    8 * f K.RES + 8 * f K.BIN + 4 * f K.SYNC + 8 * f K.VAR + 6 * f K.CLASS + 4 * f K.BLOCK + 10 * f K.ENTITY + 16 * f K.SAMPLER

abbrev weight : List ℕ → ℕ
weight xs = weigh (λ g. get_or xs g 0)

abbrev weight_of : ℕ → ℕ
weight_of k = weigh (λ g. once g k)

weigh_sum : (f g h : ℕ → ℕ) → ((w : ℕ) → f w ≡ g w + h w) → weigh f ≡ weigh g + weigh h
weigh_sum f g h e =
    omega (arith, e K.RES, e K.BIN, e K.SYNC, e K.VAR, e K.CLASS, e K.BLOCK, e K.ENTITY, e K.SAMPLER)

weight-more : (xs : List ℕ) (k : ℕ) → k < length xs → weight (W.more xs k 1) ≡ weight xs + weight_of k
weight-more xs k h =
    weigh_sum (λ g. get_or (W.more xs k 1) g 0) (λ g. get_or xs g 0) (λ g. once g k) (λ g. more_at xs k 1 g h)

-- Within the limits, the declarations have room.
abbrev pub Limited : List ℕ → Type 0
Limited xs =
    (g : ℕ) → (g ≡ K.CLASS → ⊥) → (g ≡ K.ACTION → ⊥) → (g ≡ K.BLOCK → ⊥) → get_or xs g 0 ≤ get_or limits g 0

weight_limited : (xs : List ℕ) → get_or xs K.CLASS 0 ≤ F.most_classes → get_or xs K.BLOCK 0 ≤ F.most_blocks → Limited xs →
    weight xs + 2 ≤ DECLARED
weight_limited xs c b h =
    omega (arith, at K.RES refl, at K.BIN refl, at K.SYNC refl, at K.VAR refl, at K.ENTITY refl, at K.SAMPLER refl)
  where
    at : (g : ℕ) → (eqb g K.CLASS || (eqb g K.ACTION || eqb g K.BLOCK)) ≡ false → get_or xs g 0 ≤ get_or limits g 0
    at g e =
        let a = or-false (eqb g K.CLASS) _ e in
        let i = or-false (eqb g K.ACTION) _ a.1 in
        h g (eqb-false g K.CLASS a.0) (eqb-false g K.ACTION i.0) (eqb-false g K.BLOCK i.1)

-- A declaration that is sound has the bytes of its kind.
abbrev is_nothing : Tail → Bool
is_nothing nothing = true
is_nothing expression = false
is_nothing branches = false
is_nothing (list_of p) = false

abbrev weighs : Row → Bool
weighs r = if ltb r.kind K.ACTION then is_nothing r.tail && eqb (4 + r.head) (weight_of r.kind) else true

rows_weigh : AllOf (λ r. weighs r ≡ true) table
rows_weigh = all_hold weighs table refl

plain_size : (t : Tail) (h : ℕ) (bs : List ℕ) → is_nothing t ≡ true → leb h (length bs) && sized t (drop h bs) ≡ true →
    length bs ≡ h
plain_size nothing h bs n e =
    let a = and-true (leb h (length bs)) _ e in
    omega (arith, leb-true h (length bs) a.0, eqb-true (length (drop h bs)) 0 a.1, length-drop h bs)
plain_size expression h bs n e = no_way n
plain_size branches h bs n e = no_way n
plain_size (list_of p) h bs n e = no_way n

row_size : (r : Row) (bs : List ℕ) → weighs r ≡ true → ltb r.kind K.ACTION ≡ true → body_judged r bs ≡ ok passed →
    4 + length bs ≡ weight_of r.kind
unfolding body_judged
row_size r bs w a e = go (ltb r.kind K.ACTION) a w
  where
    go : (b : Bool) → b ≡ true → (if b then is_nothing r.tail && eqb (4 + r.head) (weight_of r.kind) else true) ≡ true →
        4 + length bs ≡ weight_of r.kind
    go true f g =
        let x = and-true (is_nothing r.tail) _ g in
        omega (
          arith,
          eqb-true (4 + r.head) (weight_of r.kind) x.1,
          plain_size r.tail r.head bs x.0 (needed_then _ _ _ e).0,
        )
    go false f g = no_way f

passed_first : (n : ℕ) (b : Bool) (o : Outcome Passed) → passes (need n b >> o) ≡ true → b ≡ true
unfolding need ◌>>◌
passed_first n true o e = refl
passed_first n false o e = no_way e

sound_group : (s : Sheet) (d : Draft) → faulty s d ≡ false → 0 < (row_of d.kind).group
unfolding faulty judged
sound_group s d e =
    ltb-true 0 (row_of d.kind).group
    (passed_first _ _ _ (not-false (passes (judged (counts_for s d) d.kind d.body)) (or-false d.over _ e).1))

sound_weight : (s : Sheet) (d : Draft) → faulty s d ≡ false → ltb d.kind K.ACTION ≡ true →
    4 + length d.body ≡ weight_of d.kind
sound_weight s d f a =
    let r = its_row (λ r. weighs r ≡ true) rows_weigh d.kind (sound_group s d f) in
    row_size (row_of d.kind) d.body r.0 (ap (λ (k : ℕ). ltb k K.ACTION) (sym r.1) ∙ a) (not_faulty s d f).1
    ∙ ap weight_of (sym r.1)

-- THE SHEET. What it has counted is within the limits,
record Counts (full : Bool) (seen : List ℕ) (total : ℕ) : Type 0 where
  free : full ≡ false
  wide : length seen ≡ K.groups
  short : total ≤ F.longest_file
  few : get_or seen K.ACTION 0 ≤ F.most_actions

-- .. and what is written down has been counted: the classes, the bytes of the declarations, and what stands in blocks or waits
-- there. So have m actions more been, with n bytes. Two bytes more may be declared: so nothing has to be said of the number of
-- a class that gets its body (`bodied`).
record Holds (m n : ℕ) (s : Sheet) : Type 0 where
  counted : Counts s.full s.seen s.total
  classes : length s.class_at ≤ get_or s.seen K.CLASS 0
  declared : length s.declared ≤ weight s.seen + 2
  pieces : length s.pieces + waits s.levels + m ≤ get_or s.seen K.ACTION 0
  staged : s.staged + waits_bytes s.levels + n ≤ s.total

abbrev Spare : Sheet → Type 0
Spare s = Holds 0 0 s

-- What the tests at a cut leave, and room for the declarations.
record Within (z : Sheet) : Type 0 where
  short : z.total ≤ F.longest_file
  few : get_or z.seen K.ACTION 0 ≤ F.most_actions
  classes : get_or z.seen K.CLASS 0 ≤ F.most_classes
  room : (z.full ≡ false) ⊎ (weight z.seen + 2 ≤ DECLARED)

-- BLOCKS with other tries that wait.
holds_levels : {m n : ℕ} {s : Sheet} (j k : ℕ) (ls : List Level) → waits ls + j ≤ waits s.levels + m →
    waits_bytes ls + k ≤ waits_bytes s.levels + n → Holds m n s → Holds j k (S.with_levels s ls)
holds_levels j k ls a b h =
    record {
      counted = h.counted;
      classes = h.classes;
      declared = h.declared;
      pieces = omega (arith, h.pieces);
      staged = omega (arith, h.staged);
    }

holds_keeping : {m n : ℕ} {s : Sheet} (j k : ℕ) (o : Option Kept) → waiting o + j ≤ m + waiting (S.kept_in s.levels) →
    waiting_bytes o + k ≤ n + waiting_bytes (S.kept_in s.levels) → Holds m n s →
    Holds j k (S.with_levels s (S.keeping o s.levels))
holds_keeping {s = s} j k o a b h =
    holds_levels j k (S.keeping o s.levels) (omega (arith, keeping-waits o s.levels))
    (omega (arith, keeping_bytes o s.levels)) h

-- COUNTS. A record of the group k, which has n bytes, is counted.
holds_more : {s : Sheet} → Spare s → (k n : ℕ) → k < K.groups → S.added s.total n ≤ F.longest_file →
    get_or (W.more s.seen k 1) K.ACTION 0 ≤ F.most_actions → Holds (once K.ACTION k) n (S.with_total s (W.more s.seen k 1) n)
holds_more {s} h k n g a b =
    let i : k < length s.seen = omega (arith, h.counted.wide) in
    record {
      counted = record {
        free = h.counted.free;
        wide = length-set s.seen _ _ ∙ h.counted.wide;
        short = a;
        few = b;
      };
      classes = omega (arith, more_at s.seen k 1 K.CLASS i, h.classes);
      declared = omega (arith, weight-more s.seen k i, h.declared);
      pieces = omega (arith, more_at s.seen k 1 K.ACTION i, h.pieces);
      staged = omega (arith, h.staged);
    }

-- ACTIONS. One is counted, and may be the last one,
holds_last : {m n : ℕ} {s : Sheet} (b p : ℕ) → Holds m n s → Holds m n (S.with_last s b p)
holds_last b p h =
    record {
      counted = h.counted;
      classes = h.classes;
      declared = h.declared;
      pieces = h.pieces;
      staged = h.staged;
    }

holds_counts : {s : Sheet} → Spare s → (d : Draft) → (S.counts d s).total ≤ F.longest_file →
    get_or (S.counts d s).seen K.ACTION 0 ≤ F.most_actions → Holds 1 (long d) (S.counts d s)
unfolding S.counts
holds_counts {s} h d =
    if_has (λ (z : Sheet). z.total ≤ F.longest_file → get_or z.seen K.ACTION 0 ≤ F.most_actions → Holds 1 (long d) z)
    (leb s.last_block (S.innermost s.levels))
    (λ e a b. holds_last _ _ (holds_more h K.ACTION (long d) (omega arith) a b))
    (λ e a b. holds_more h K.ACTION (long d) (omega arith) a b)

-- .. and stands in its block.
both_false : (x y : Bool) → x ≡ false → y ≡ false → x || y ≡ false
both_false true y e f = e
both_false false y e f = f

stands_has : (P : Sheet → Type 0) (k : ℕ) (bs : List ℕ) (s : Sheet) → length s.pieces < F.most_actions →
    s.staged + length (headed k bs) ≤ F.longest_file →
    P (S.with_pieces s (s.pieces ++ (record { block = S.innermost s.levels; bytes = headed k bs } ∷ []))
    (s.staged + length (headed k bs))) → P (S.stands k bs s)
unfolding S.stands
stands_has P k bs s a b h =
    if_has P (leb F.most_actions (length s.pieces) || ltb F.longest_file (s.staged + length (headed k bs)))
    (λ e. no_way (sym (both_false _ _ (lt-leb F.most_actions (length s.pieces) a)
    (le-ltb F.longest_file (s.staged + length (headed k bs)) b)) ∙ e))
    (λ e. h)

holds_piece : (p : Piece) (k : ℕ) {s : Sheet} → Holds 1 k s → Spare (S.with_pieces s (s.pieces ++ (p ∷ [])) (s.staged + k))
holds_piece p k {s} h =
    record {
      counted = h.counted;
      classes = h.classes;
      declared = h.declared;
      pieces = omega (arith, h.pieces, length-append s.pieces (p ∷ []));
      staged = omega (arith, h.staged);
    }

spare_stands : (k : ℕ) (bs : List ℕ) {s : Sheet} → Holds 1 (length (headed k bs)) s → Spare (S.stands k bs s)
spare_stands k bs {s} h =
    stands_has Spare k bs s (omega (arith, h.pieces, h.counted.few)) (omega (arith, h.staged, h.counted.short))
    (holds_piece _ _ h)

-- The draft's body is as long as it is counted.
spare_acts : (d : Draft) {s : Sheet} → length d.body ≡ d.size → Spare s → Within (S.acts d s) → Spare (S.acts d s)
unfolding S.acts
spare_acts d {s} l h w =
    let a = stands-account d.kind d.body (S.counts d s) in
    let e : long d ≡ length (headed d.kind d.body) = omega arith in
    spare_stands d.kind d.body (subst (λ (n : ℕ). Holds 1 n (S.counts d s)) e
    (holds_counts h d (omega (arith, w.short, ap (λ (x : Sheet). x.total) a))
    (omega (arith, w.few, ap (λ (x : Sheet). get_or x.seen K.ACTION 0) a))))

-- A branch of a try: the first one, or one more of the one that waits.
holds_longer : (n : ℕ) {s : Sheet} → Spare s → S.added s.total n ≤ F.longest_file → Holds 0 n (S.with_total s s.seen n)
holds_longer n h a =
    record {
      counted = record {
        free = h.counted.free;
        wide = h.counted.wide;
        short = a;
        few = h.counted.few;
      };
      classes = h.classes;
      declared = h.declared;
      pieces = h.pieces;
      staged = omega (arith, h.staged);
    }

spare_tries : (d : Draft) {s : Sheet} → length d.body ≡ d.size → Spare s → Within (S.tries d s) → Spare (S.tries d s)
unfolding S.tries
spare_tries d {s} l h w = go (S.kept_in s.levels) refl w.short w.few
  where
    new : Option Kept
    new = some (record { line = d.line; body = d.body })

    go : (o : Option Kept) → S.kept_in s.levels ≡ o → (S.branches d o s).total ≤ F.longest_file →
        get_or (S.branches d o s).seen K.ACTION 0 ≤ F.most_actions →
        Spare (S.with_levels (S.branches d o s) (S.keeping new (S.branches d o s).levels))
    go none e a b = holds_keeping 0 0 new (omega arith) (omega arith) (holds_counts h d a b)
    go (some x) e a b =
        holds_keeping 0 0 new (omega (arith, ap waiting e)) (omega (arith, ap waiting_bytes e))
        (holds_longer (d.size - length x.body) h a)

-- A brace is opened.
within_braces : {s : Sheet} → length s.seen ≡ K.groups → Within (S.braces s) → Within s
unfolding S.braces
within_braces {s} e w =
    let i : K.BLOCK < length s.seen = omega (arith, e) in
    record {
      short = omega (arith, w.short);
      few = omega (arith, w.few, more_at s.seen K.BLOCK 1 K.ACTION i);
      classes = omega (arith, w.classes, more_at s.seen K.BLOCK 1 K.CLASS i);
      room = go w.room (weight-more s.seen K.BLOCK i);
    }
  where
    go : {n : ℕ} → (s.full ≡ false) ⊎ (n + 2 ≤ DECLARED) → n ≡ weight s.seen + 4 →
        (s.full ≡ false) ⊎ (weight s.seen + 2 ≤ DECLARED)
    go (inl f) g = inl f
    go (inr l) g = inr (omega arith)

spare_braces : {s : Sheet} → Spare s → Within (S.braces s) → Spare (S.braces s)
unfolding S.braces
spare_braces {s} h w =
    holds_levels 0 0 (record { block = S.blocks_of s; kept = none } ∷ s.levels) (omega arith) (omega arith)
    (holds_more h K.BLOCK 4 (omega arith) w.short w.few)

-- .. by a do, a while or a try.
spare_opens : (d : Draft) {s : Sheet} → length d.body ≡ d.size → Spare s → Within (S.opens d s) → Spare (S.opens d s)
unfolding S.opens S.braces
spare_opens d {s} l h w =
    let b = within_braces (sym (length-set opened.seen _ _) ∙ (same_opens d s).sized ∙ h.counted.wide) w in
    spare_braces (if_has (λ (z : Sheet). Within z → Spare z) (eqb d.kind K.TRY)
    (λ e v. spare_tries d l h v) (λ e v. spare_acts d l h v) b) w
  where
    opened : Sheet
    opened = if eqb d.kind K.TRY then S.tries d s else S.acts d s

-- Behind a block: the try that waits doesn't go on any more, and a brace may be closed.
spare_settled : {s : Sheet} → Spare s → Spare (S.settled s)
unfolding S.settled
spare_settled {s} h = go (S.kept_in s.levels) refl
  where
    go : (o : Option Kept) → S.kept_in s.levels ≡ o → Spare (S.let_go o s)
    go none e = h
    go (some x) e =
        let n : ℕ = length (headed K.TRY x.body) in
        let g : Holds 1 n (S.with_levels s (S.keeping none s.levels)) =
        holds_keeping 1 n none (omega (arith, ap waiting e)) (omega (arith, ap waiting_bytes e)) h in
        stands_has (λ (z : Sheet). Spare (S.with_levels z (S.keeping none z.levels))) K.TRY x.body s
        (omega (arith, g.pieces, g.counted.few)) (omega (arith, g.staged, g.counted.short)) (holds_piece _ _ g)

spare_closed : {s : Sheet} → Spare s → Spare (S.closed s)
unfolding S.closed
spare_closed {s} h =
    let o = outer-waits (S.settled s).levels in
    holds_levels 0 0 (S.outer (S.settled s).levels) (omega (arith, o.0)) (omega (arith, o.1)) (spare_settled h)

-- DECLARATIONS. Bytes that have been counted are put behind those that are there.
spare_declaring : (bs : List ℕ) {s : Sheet} → Spare s → length s.declared + length bs ≤ weight s.seen + 2 →
    Within (S.declaring bs s) → Spare (S.declaring bs s)
unfolding S.declaring
spare_declaring bs {s} h l w = go (ltb DECLARED (length s.declared + length bs)) refl w.room
  where
    new : Sheet
    new = S.with_declared s (s.declared ++ bs)

    go : (b : Bool) → ltb DECLARED (length s.declared + length bs) ≡ b →
        ((if b then S.filled s else new).full ≡ false) ⊎ (weight (if b then S.filled s else new).seen + 2 ≤ DECLARED) →
        Spare (if b then S.filled s else new)
    go true e (inl f) = no_way (sym f)
    go true e (inr f) = absurd (omega (arith, ltb-true DECLARED (length s.declared + length bs) e))
    go false e f =
        record {
          counted = h.counted;
          classes = h.classes;
          declared = omega (arith, length-append s.declared bs);
          pieces = h.pieces;
          staged = h.staged;
        }

declaring_counts : (bs : List ℕ) (s : Sheet) → ((S.declaring bs s).total ≡ s.total) × ((S.declaring bs s).seen ≡ s.seen)
unfolding S.declaring
declaring_counts bs s =
    if_has (λ (z : Sheet). (z.total ≡ s.total) × (z.seen ≡ s.seen)) (ltb DECLARED (length s.declared + length bs))
    (λ e. (refl, refl)) (λ e. (refl, refl))

-- .. which is one record of its group.
module _ {s : Sheet} (h : Spare s) where
  spare_declares : (d : Draft) → ltb d.kind K.ACTION ≡ true → 4 + length d.body ≡ weight_of d.kind →
      Within (S.declares d s) → Spare (S.declares d s)
  unfolding S.declares
  spare_declares d a e w =
      let k : d.kind < K.groups = omega (arith, ltb-true d.kind K.ACTION a) in
      let c = declaring_counts (headed d.kind d.body) (S.with_total s (W.more s.seen d.kind 1) (long d)) in
      let g = holds_more h d.kind (long d) k (omega (arith, w.short, c.0))
      (omega (arith, w.few, ap (λ (xs : List ℕ). get_or xs K.ACTION 0) c.1)) in
      spare_declaring (headed d.kind d.body) (holds_levels 0 0 s.levels (omega arith) (omega arith) g)
      (omega (arith, h.declared, weight-more s.seen d.kind (omega (arith, h.counted.wide)))) w

  -- A class: it has its place among the classes.
  spare_classed : (p n : ℕ) → S.added s.total n ≤ F.longest_file →
      get_or (W.more s.seen K.CLASS 1) K.ACTION 0 ≤ F.most_actions →
      get_or (W.more s.seen K.CLASS 1) K.CLASS 0 ≤ F.most_classes →
      Spare (S.classed p (S.with_total s (W.more s.seen K.CLASS 1) n))
  unfolding S.classed
  spare_classed p n a b c =
      let g = holds_more h K.CLASS n (omega arith) a b in
      let m = more_at s.seen K.CLASS 1 K.CLASS (omega (arith, h.counted.wide)) in
      if_has Spare (leb F.most_classes (length s.class_at))
      (λ e. absurd (omega (arith, leb-true F.most_classes (length s.class_at) e, h.classes)))
      (λ e. record {
        counted = g.counted;
        classes = omega (arith, h.classes, length-append s.class_at ((length s.declared + 4) ∷ []));
        declared = g.declared;
        pieces = g.pieces;
        staged = omega (arith, g.staged);
      })

  classed_counts : (p n : ℕ) →
      ((S.classed p (S.with_total s (W.more s.seen K.CLASS 1) n)).total ≡ S.added s.total n)
      × ((S.classed p (S.with_total s (W.more s.seen K.CLASS 1) n)).declared ≡ s.declared)
  unfolding S.classed
  classed_counts p n =
      if_has (λ (z : Sheet). (z.total ≡ S.added s.total n) × (z.declared ≡ s.declared))
      (leb F.most_classes (length s.class_at)) (λ e. (refl, refl)) (λ e. (refl, refl))

  spare_classes : (p b : ℕ) → Within (S.classes p b s) → Spare (S.classes p b s)
  unfolding S.classes
  spare_classes p b w =
      let i : K.CLASS < length s.seen = omega (arith, h.counted.wide) in
      let t : Sheet = S.classed p (S.with_total s (W.more s.seen K.CLASS 1) S.class_bytes) in
      let c = declaring_counts (headed K.CLASS (two b)) t in
      let d = classed_counts p S.class_bytes in
      let e = (saw_classes p b s).is in
      let f : t.seen ≡ W.more s.seen K.CLASS 1 = sym c.1 ∙ e in
      spare_declaring (headed K.CLASS (two b))
      (spare_classed p S.class_bytes (omega (arith, w.short, c.0, d.0))
      (omega (arith, w.few, ap (λ (xs : List ℕ). get_or xs K.ACTION 0) e))
      (omega (arith, w.classes, ap (λ (xs : List ℕ). get_or xs K.CLASS 0) e)))
      (omega (arith, h.declared, ap length d.1, ap weight f, weight-more s.seen K.CLASS i)) w

-- A class gets its body: its two bytes are there.
place_before : (c n : ℕ) (xs : List Item) → get_or (places_from n xs) c 0 ≤ n + length (joined xs) - 2
place_before c n [] = omega arith
place_before zero n (a_class a b ∷ xs) = omega arith
place_before (suc c) n (a_class a b ∷ xs) = omega (arith, place_before c (n + 6) xs)
place_before c n (another k bs ∷ xs) =
    omega (arith, place_before c (n + length (headed k bs)) xs, length-append (headed k bs) (joined xs))

spare_bodied : (c b : ℕ) {s : Sheet} → Written s → Spare s → Spare (S.bodied c b s)
unfolding S.bodied
spare_bodied c b {s} w h =
    let p : ℕ = get_or s.class_at c 0 in
    record {
      counted = h.counted;
      classes = h.classes;
      declared = omega (
        arith,
        h.declared,
        ap (λ (ps : List ℕ). get_or ps c 0) w.places,
        ap length w.declared,
        place_before c 0 w.items,
        length-append (take p s.declared ++ two b) (drop (p + 2) s.declared),
        length-append (take p s.declared) (two b),
        length-take p s.declared,
        length-drop (p + 2) s.declared,
      );
      pieces = h.pieces;
      staged = h.staged;
    }

spare_embodied : (r : Reader) → Written r.sheet → Spare r.sheet → Within (M.embodied r) → Spare (M.embodied r)
spare_embodied r w h = go (M.is_known r)
  where
    k : ℕ
    k = S.blocks_of r.sheet

    body : Bool → Sheet
    body b = if b then S.bodied (number_of r.known r.called) k r.sheet else S.classes r.draft.line k r.sheet

    go : (b : Bool) → Within (S.braces (body b)) → Spare (S.braces (body b))
    go true v = spare_braces (spare_bodied (number_of r.known r.called) k w h) v
    go false v =
        let e = ap length (saw_classes r.draft.line k r.sheet).is ∙ length-set r.sheet.seen _ _ in
        spare_braces (spare_classes h r.draft.line k (within_braces (e ∙ h.counted.wide) v)) v

-- A CUT that passes.
none_if : {A : Type 0} (b : Bool) (a : A) (o : Option A) → (if b then some a else o) ≡ none → (b ≡ false) × (o ≡ none)
none_if true a o e = not_some (sym e)
none_if false a o e = (refl, e)

passing : (z : Sheet) (d : Draft) (f : Bool) → over_limit z d f ≡ none → Within z × (f ≡ false)
unfolding over_limit
passing z d f e =
    let a = none_if (ltb F.longest_file z.total) _ _ e in
    let b = none_if (f || ltb F.most_classes (get_or z.seen K.CLASS 0)) _ _ a.1 in
    let c = none_if (ltb F.most_actions (get_or z.seen K.ACTION 0)) _ _ b.1 in
    let g = or-false f _ b.0 in (
      record {
        short = ltb-false F.longest_file z.total a.0;
        few = ltb-false F.most_actions (get_or z.seen K.ACTION 0) c.0;
        classes = ltb-false F.most_classes (get_or z.seen K.CLASS 0) g.1;
        room = inl (within_limits z d f e).1;
      },
      g.0,
    )

-- ONE TOKEN. A cut passes, or the record is sound and within its limits.
abbrev Passing : Sheet → Bool → Option ℕ → Type 0
Passing z f o = (o ≡ none) ⊎ (Within z × (f ≡ false))

passed_cut : (z : Sheet) (d : Draft) (f : Bool) → Passing z f (over_limit z d f) → Within z × (f ≡ false)
passed_cut z d f (inl e) = passing z d f e
passed_cut z d f (inr a) = a

module _ {s : Sheet} (d : Draft) (l : Whole d) (h : Spare s) where
  spare_done : faulty s d ≡ false → Within (M.done d s) → Spare (M.done d s)
  spare_done f =
      if_has (λ (z : Sheet). Within z → Spare z) (M.is_declaration d)
      (λ e w. spare_declares h d e (sound_weight s d f e) w)
      (λ e w. spare_acts d (l.sized (not_faulty s d f).0) h w)

  at_done : (b : Bool) → let z : Sheet = if b then M.done d s else s in
      Passing z (faulty s d) (if b then over_limit z d (faulty s d) else none) → Spare z
  at_done true a = let p = passed_cut (M.done d s) d (faulty s d) a in spare_done p.1 p.0
  at_done false a = h

  at_sign : (b c : Bool) → let z : Sheet = if b then M.done d s else if c then S.opens d s else s in
      Passing z (faulty s d) (if b || c then over_limit z d (faulty s d) else none) → Spare z
  at_sign true c a = let p = passed_cut (M.done d s) d (faulty s d) a in spare_done p.1 p.0
  at_sign false true a =
      let p = passed_cut (S.opens d s) d (faulty s d) a in spare_opens d (l.sized (not_faulty s d p.1).0) h p.0
  at_sign false false a = h

spare_behind : {s : Sheet} (t : Token) → Spare s → Spare (M.behind s t)
spare_behind t h =
    if_has Spare (eqb (mark_in t) T.RB) (λ e. spare_closed h)
    (λ e. if_has Spare (eqb (mark_in t) T.ETRY) (λ f. h) (λ f. spare_settled h))

spare_first : {s : Sheet} (p : ℕ) → Spare s → Spare (S.with_first s p)
spare_first p h =
    record {
      counted = h.counted;
      classes = h.classes;
      declared = h.declared;
      pieces = h.pieces;
      staged = h.staged;
    }

at_body : (r : Reader) (d : Draft) → Written r.sheet → Spare r.sheet → (b : Bool) →
    let z : Sheet = if b then S.classes d.line No.no_body r.sheet else M.embodied r in
    Passing z false (over_limit z d false) → Spare z
at_body r d w h true a = spare_classes h d.line No.no_body (passed_cut _ d false a).0
at_body r d w h false a = spare_embodied r w h (passed_cut _ d false a).0

-- What comes of a token that is no cut, or whose cut passes, or whose record is sound and within its limits.
module _ (r : Reader) (d : Draft) (w : Written r.sheet) (l : Whole d) (h : Spare r.sheet) where
  abbrev Sound : Symbol → Type 0
  Sound s = (s ≡ body_s) ⊎ (faulty r.sheet d ≡ false)

  passes_on : {z : Sheet} {o : Option ℕ} {s : Symbol} → (s ≡ body_s → ⊥) → (o ≡ none) ⊎ (Within z × Sound s) →
      Passing z (faulty r.sheet d) o
  passes_on n (inl c) = inl c
  passes_on n (inr (v, inl e)) = absurd (n e)
  passes_on n (inr (v, inr f)) = inr (v, f)

  class_on : {z : Sheet} {o : Option ℕ} → (o ≡ none) ⊎ (Within z × Sound body_s) → Passing z false o
  class_on (inl c) = inl c
  class_on (inr (v, f)) = inr (v, refl)

  spare_step : (s : Symbol) (t : Token) (p : ℕ) →
      (cut_at r d s t (sheet_after r d s t p) ≡ none) ⊎ (Within (sheet_after r d s t p) × Sound s) →
      Spare (sheet_after r d s t p)
  unfolding sheet_after cut_at
  spare_step (one (the k)) t p a =
      at_sign d l h (eqb k T.SEMI) (eqb k T.LB) (passes_on (λ e. let z : ◌≡◌ {A = ℕ} 0 1 = cc in omega arith) a)
  spare_step (one a_name) t p a = h
  spare_step (one (a_number b)) t p a = h
  spare_step (factor_s n) t p a = h
  spare_step (minus_s n) t p a = h
  spare_step (more n c) t p a =
      at_done d l h (eqb (mark_in t) T.SEMI) (passes_on (λ e. let z : ◌≡◌ {A = ℕ} 0 1 = cc in omega arith) a)
  spare_step signed_s t p a = h
  spare_step relation_s t p a = h
  spare_step item_s t p a = h
  spare_step claim_s t p a = h
  spare_step items_s t p a = h
  spare_step gives_s t p a = h
  spare_step given_s t p a = h
  spare_step actions_s t p a = spare_behind t h
  spare_step try_s t p a = spare_behind t h
  spare_step (few_s n) t p a = h
  spare_step lines_s t p a = spare_behind t h
  spare_step body_s t p a = at_body r d w h (eqb (mark_in t) T.SEMI) (class_on a)
  spare_step text_s t p a = if_has Spare (eqb r.sheet.total 0) (λ e. spare_first p h) (λ e. h)

-- EVERY READER that the machine comes to.
spare_blank : Spare S.blank
spare_blank =
    record {
      counted = record { free = refl; wide = refl; short = omega arith; few = omega arith };
      classes = omega arith;
      declared = omega arith;
      pieces = omega arith;
      staged = omega arith;
    }

spare : {r : Reader} → Comes r → Spare r.sheet
unfolding after
spare starts = spare_blank
spare (moves {r = r} {s = q} k c e) =
    let a = turns r k q e in
    subst (λ (z : Reader). Spare z.sheet) (sym a.now)
    (spare_step r (draft_after r a.top k.token k.place) (all_written c)
    (whole_after r a.top k.token k.place (whole_draft c)) (spare c) a.top k.token k.place (inl a.cut))

pub never_full : {r : Reader} → Comes r → r.sheet.full ≡ false
never_full c = (spare c).counted.free

-- .. and the token that comes next finds room, too, where it passes every other test.
pub cut_free : {r : Reader} → Comes r → (s : Symbol) (t : Token) (p : ℕ) →
    let d : Draft = draft_after r s t p in
    let z : Sheet = sheet_after r d s t p in
    (s ≡ body_s) ⊎ (faulty r.sheet d ≡ false) → z.total ≤ F.longest_file → get_or z.seen K.ACTION 0 ≤ F.most_actions →
    get_or z.seen K.CLASS 0 ≤ F.most_classes → get_or z.seen K.BLOCK 0 ≤ F.most_blocks → Limited z.seen → z.full ≡ false
cut_free {r} c s t p f a n k b g =
    let d : Draft = draft_after r s t p in
    let z : Sheet = sheet_after r d s t p in
    let w : Within z = record { short = a; few = n; classes = k; room = inr (weight_limited z.seen k b g) } in
    (spare_step r d (all_written c) (whole_after r s t p (whole_draft c)) (spare c) s t p (inr (w, f))).counted.free
