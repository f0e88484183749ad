-- Every record that the machine has written down passed checks 5 to 7 when it was: what is so of every reader that it comes to.
-- Assumes nothing.
use Rattle.std.specs.Prelude.{ℕ, zero, suc, ◌+◌, ◌-◌, ◌/◌, ◌%◌, ◌≤◌, ◌<◌, ◌≡◌, refl, List, [], ◌∷◌, ◌++◌, map, Bool, true, false, not, ◌&&◌, ◌||◌, ◌⊎◌, eqb, leb, ltb, length, get_or, take, drop, if◌then◌else◌}
use Rattle.std.proofs.Common.{arith, sym, ◌∙◌, ap, subst, append-nil, append_assoc, inl, inr, length-append, take_at, drop_at, eqb-true, eq-eqb, ne_eqb}
use Rattle.std.proofs.Math.Option.{Option, none, some}
use Rattle.std.proofs.lemmas.Bool.{eqb-false}
use Rattle.semantics.specs.Words.{Outcome, ok, fails, Passed, passed, ◌>>◌, need, any, keep, collect}
use Rattle.semantics.specs.Words as W
use Rattle.semantics.specs.Numbers as F
use Rattle.semantics.specs.Kinds as K
use Rattle.semantics.specs.Record.{row_of, body_judged}
use Rattle.semantics.specs.Decode.{judged}
use Rattle.promises.specs.Laws.{no_way, not_some, and-true, or-false, not-true, if_has, if_two, needed_then, AllOf}
use Rattle.promises.specs.Laws.{true-and, all_append, all_map, all_mapped, none_hold, Ordered}
use Rattle.text_semantics.specs.Numbers as No
use Rattle.text_semantics.specs.Token as T
use Rattle.text_semantics.specs.Token.{Token, name, number, mark, bad}
use Rattle.text_semantics.specs.Lexing.{Placed, same_bytes}
use Rattle.text_semantics.specs.Grammar.{Name}
use Rattle.text_semantics.specs.Names as N
use Rattle.text_semantics.specs.Names.{Known, embodies, leaves, knows, trouble, named, awaited, wanting}
use Rattle.text_semantics.specs.Meaning.{number_of}
use Rattle.text_semantics.specs.Written.{two, BYTE}
use Rattle.text_semantics.specs.Table.{Rule}
use Rattle.text_semantics.specs.Reading.{Symbol, Of, say, step, Row, rows, one, the, a_name, a_number, factor_s, minus_s, more}
use Rattle.text_semantics.specs.Reading.{signed_s, relation_s, item_s, claim_s, items_s, gives_s, given_s, actions_s, try_s, few_s, lines_s}
use Rattle.text_semantics.specs.Reading.{body_s, text_s, name_s}
use Rattle.text_machine.specs.Entry.{Draft, ASK, mark_in, name_in}
use Rattle.text_machine.specs.Sheet as S
use Rattle.text_machine.specs.Sheet.{Sheet, Piece, Kept, Level, blank, headed, kept_in, keeping, outer, let_go, branches, filled}
use Rattle.text_machine.specs.Sheet.{with_total, with_levels, blocks_of, innermost, class_bytes, DECLARED}
use Rattle.text_machine.specs.Sheet.{declaring, classed, classes, bodied, counts, stands, acts, settled, braces, tries, opens}
use Rattle.text_machine.specs.Sheet.{closed}
use Rattle.text_machine.specs.Machine.{Reader, passes, counts_for, faulty, over_limit, cut_at, draft_after, sheet_after}
use Rattle.text_machine.specs.Machine.{after, stops, goes, gone_on, ruled, on_pile, turned, event_at, known_after, highest_pile}
use Rattle.text_machine.specs.Machine as M
use Rattle.text_agrees.specs.Flow.{next_in}
use Rattle.text_agrees.specs.Height.{Each, found_rule}
use Rattle.text_agrees.specs.Accounts.{stands-account, settled-account, closed-account, counts_stays}
use Rattle.text_agrees.specs.Laying.{collect-append}
use Rattle.text_agrees.specs.Stages.{Comes, starts, moves}

-- A RECORD that passed checks 5 to 7.
abbrev pub Judged : ℕ → List ℕ → Type 0
Judged k bs = body_judged (row_of k) bs ≡ ok passed

-- .. among the declarations: a class, whose body block may still be filled in, or another.
pub data Item : Type 0 where
  a_class : ℕ → ℕ → Item
  another : ℕ → List ℕ → Item

abbrev pub kind_in : Item → ℕ
kind_in (a_class a b) = K.CLASS
kind_in (another k bs) = k

abbrev pub body_in : Item → List ℕ
body_in (a_class a b) = a ∷ b ∷ []
body_in (another k bs) = bs

abbrev pub item_bytes : Item → List ℕ
item_bytes x = headed (kind_in x) (body_in x)

abbrev pub joined : List Item → List ℕ
joined xs = collect item_bytes xs

-- Where the body blocks of the classes stand, with n bytes before.
abbrev pub places_from : ℕ → List Item → List ℕ
places_from n [] = []
places_from n (a_class a b ∷ xs) = (n + 4) ∷ places_from (n + 6) xs
places_from n (another k bs ∷ xs) = places_from (n + length (headed k bs)) xs

abbrev pub PieceJudged : Piece → Type 0
PieceJudged p = (k : ℕ) × (bs : List ℕ) × (p.bytes ≡ headed k bs) × Judged k bs

abbrev pub KeptJudged : Option Kept → Type 0
KeptJudged none = Unit
KeptJudged (some x) = Judged K.TRY x.body

abbrev pub LevelJudged : Level → Type 0
LevelJudged l = KeptJudged l.kept

abbrev pub ItemJudged : Item → Type 0
ItemJudged x = Judged (kind_in x) (body_in x)

-- WHAT IS WRITTEN DOWN.
pub record Written (s : Sheet) : Type 0 where
  pub pieces : AllOf PieceJudged s.pieces
  pub levels : AllOf LevelJudged s.levels
  pub items : List Item
  pub declared : s.declared ≡ joined items
  pub places : s.class_at ≡ places_from 0 items
  pub judged : AllOf ItemJudged items

pub written_blank : Written blank
written_blank = record { pieces = tt; levels = tt; items = []; declared = refl; places = refl; judged = tt }

-- A sheet with the same declarations, and with these pieces and levels.
again : {s : Sheet} (t : Sheet) → Written s → t.declared ≡ s.declared → t.class_at ≡ s.class_at →
    AllOf PieceJudged t.pieces → AllOf LevelJudged t.levels → Written t
again t w e f ps ls =
    record {
      pieces = ps;
      levels = ls;
      items = w.items;
      declared = e ∙ w.declared;
      places = f ∙ w.places;
      judged = w.judged;
    }

written_filled : {s : Sheet} → Written s → Written (filled s)
written_filled {s} w = again (filled s) w refl refl w.pieces w.levels

pub written_first : {s : Sheet} (p : ℕ) → Written s → Written (S.with_first s p)
written_first {s} p w = again (S.with_first s p) w refl refl w.pieces w.levels

-- ACTIONS.
pub written_counts : {s : Sheet} (d : Draft) → Written s → Written (counts d s)
unfolding counts
written_counts {s} d w =
    if_has Written (leb s.last_block (innermost s.levels))
    (λ e. again _ w refl refl w.pieces w.levels)
    (λ e. again _ w refl refl w.pieces w.levels)

pub written_stands : {s : Sheet} (k : ℕ) (bs : List ℕ) → Judged k bs → Written s → Written (stands k bs s)
unfolding stands
written_stands {s} k bs j w =
    if_has Written (leb F.most_actions (length s.pieces) || ltb F.longest_file (s.staged + length (headed k bs)))
    (λ e. written_filled w)
    (λ e. again _ w refl refl
    (all_append PieceJudged s.pieces (record { block = innermost s.levels; bytes = headed k bs } ∷ []) w.pieces
    ((k, bs, refl, j), tt))
    w.levels)

pub written_acts : {s : Sheet} (d : Draft) → Judged d.kind d.body → Written s → Written (acts d s)
unfolding acts
written_acts d j w = written_stands d.kind d.body j (written_counts d w)

kept_judged : (ls : List Level) → AllOf LevelJudged ls → KeptJudged (kept_in ls)
kept_judged [] h = tt
kept_judged (l ∷ ls) h = h.0

keeping_judged : (o : Option Kept) (ls : List Level) → KeptJudged o → AllOf LevelJudged ls → AllOf LevelJudged (keeping o ls)
keeping_judged o [] j h = tt
keeping_judged o (l ∷ ls) j h = (j, h.1)

outer_judged : (ls : List Level) → AllOf LevelJudged ls → AllOf LevelJudged (outer ls)
outer_judged [] h = tt
outer_judged (l ∷ ls) h = h.1

with_levels_lem : {s : Sheet} (ls : List Level) → Written s → AllOf LevelJudged ls → Written (with_levels s ls)
with_levels_lem {s} ls w h = again (with_levels s ls) w refl refl w.pieces h

pub written_settled : {s : Sheet} → Written s → Written (settled s)
unfolding settled
written_settled {s} w = go (kept_in s.levels) (kept_judged s.levels w.levels)
  where
    go : (o : Option Kept) → KeptJudged o → Written (let_go o s)
    go none j = w
    go (some x) j =
        let u = written_stands K.TRY x.body j w in
        with_levels_lem _ u (keeping_judged none (stands K.TRY x.body s).levels tt u.levels)

pub written_closed : {s : Sheet} → Written s → Written (closed s)
unfolding closed
written_closed {s} w = let u = written_settled w in with_levels_lem _ u (outer_judged (settled s).levels u.levels)

pub written_braces : {s : Sheet} → Written s → Written (braces s)
unfolding braces
written_braces w = again _ w refl refl w.pieces (tt, w.levels)

pub written_tries : {s : Sheet} (d : Draft) → Judged K.TRY d.body → Written s → Written (tries d s)
unfolding tries
written_tries {s} d j w =
    let u = go (kept_in s.levels) in
    with_levels_lem _ u
    (keeping_judged (some (record { line = d.line; body = d.body })) (branches d (kept_in s.levels) s).levels j u.levels)
  where
    go : (o : Option Kept) → Written (branches d o s)
    go none = written_counts d w
    go (some x) = again _ w refl refl w.pieces w.levels

pub written_opens : {s : Sheet} (d : Draft) → Judged d.kind d.body → Written s → Written (opens d s)
unfolding opens
written_opens d j w =
    written_braces (if_has Written (eqb d.kind K.TRY)
    (λ e. written_tries d (subst (λ (k : ℕ). Judged k d.body) (eqb-true d.kind K.TRY e) j) w)
    (λ e. written_acts d j w))

-- DECLARATIONS. One more item.
joined_more : (xs : List Item) (x : Item) → joined xs ++ item_bytes x ≡ joined (xs ++ (x ∷ []))
joined_more xs x =
    ap (λ (bs : List ℕ). joined xs ++ bs) (sym (append-nil (item_bytes x))) ∙ sym (collect-append item_bytes xs (x ∷ []))

places_append : (n : ℕ) (xs ys : List Item) → places_from n (xs ++ ys) ≡ places_from n xs ++ places_from (n + length (joined xs)) ys
places_append n [] ys = ap (λ (m : ℕ). places_from m ys) (omega arith)
places_append n (a_class a b ∷ xs) ys =
    ap (λ (ps : List ℕ). (n + 4) ∷ ps)
    (places_append (n + 6) xs ys ∙ ap (λ (m : ℕ). places_from (n + 6) xs ++ places_from m ys) (omega arith))
places_append n (another k bs ∷ xs) ys =
    places_append (n + length (headed k bs)) xs ys
    ∙ ap (λ (m : ℕ). places_from (n + length (headed k bs)) xs ++ places_from m ys)
    (let l = length-append (headed k bs) (joined xs) in omega arith)

declared_more : (x : Item) {s : Sheet} (w : Written s) → ltb DECLARED (length s.declared + length (item_bytes x)) ≡ false →
    s.declared ++ item_bytes x ≡ joined (w.items ++ (x ∷ []))
declared_more x w e = ap (λ (bs : List ℕ). bs ++ item_bytes x) w.declared ∙ joined_more w.items x

pub written_declares : {s : Sheet} (d : Draft) → Judged d.kind d.body → (S.declares d s).full ≡ false → Written s →
    Written (S.declares d s)
unfolding S.declares declaring
written_declares {s} d j =
    if_has (λ (z : Sheet). z.full ≡ false → Written s → Written z) (ltb DECLARED (length s.declared + length bytes))
    (λ e f w. no_way (sym f))
    (λ e f w. record {
      pieces = w.pieces;
      levels = w.levels;
      items = w.items ++ (x ∷ []);
      declared = declared_more x w e;
      places = w.places ∙ sym (places_append 0 w.items (x ∷ []) ∙ append-nil (places_from 0 w.items));
      judged = all_append ItemJudged w.items (x ∷ []) w.judged (j, tt);
    })
  where
    bytes : List ℕ
    bytes = headed d.kind d.body

    x : Item
    x = another d.kind d.body

pub class_judged : (a b : ℕ) → Judged K.CLASS (a ∷ b ∷ [])
unfolding body_judged row_of ◌>>◌ need
class_judged a b = refl

abbrev class_item : ℕ → Item
class_item b = a_class (b % BYTE) (b / BYTE)

class_places : {s : Sheet} (b : ℕ) (w : Written s) →
    s.class_at ++ ((length s.declared + 4) ∷ []) ≡ places_from 0 (w.items ++ (class_item b ∷ []))
class_places {s} b w =
    ap (λ (ps : List ℕ). ps ++ ((length s.declared + 4) ∷ [])) w.places
    ∙ ap (λ (m : ℕ). places_from 0 w.items ++ (m ∷ [])) (let l = ap length w.declared in omega arith)
    ∙ sym (places_append 0 w.items (class_item b ∷ []))

pub written_classes : {s : Sheet} (p b : ℕ) → (classes p b s).full ≡ false → Written s → Written (classes p b s)
unfolding classes declaring classed
written_classes {s} p b = go (leb F.most_classes (length s.class_at))
  where
    t : Sheet
    t = with_total s (W.more s.seen K.CLASS 1) class_bytes

    new : Sheet
    new = S.with_class t (s.class_at ++ ((length s.declared + 4) ∷ [])) (s.class_line ++ (p ∷ [])) (length s.class_at)

    bytes : List ℕ
    bytes = headed K.CLASS (two b)

    go : (f : Bool) → (declaring bytes (if f then filled t else new)).full ≡ false → Written s →
        Written (declaring bytes (if f then filled t else new))
    go true =
        if_has (λ (z : Sheet). z.full ≡ false → Written s → Written z) (ltb DECLARED (length s.declared + length bytes))
        (λ e f w. no_way (sym f)) (λ e f w. no_way (sym f))
    go false =
        if_has (λ (z : Sheet). z.full ≡ false → Written s → Written z) (ltb DECLARED (length s.declared + length bytes))
        (λ e f w. no_way (sym f))
        (λ e f w. record {
          pieces = w.pieces;
          levels = w.levels;
          items = w.items ++ (class_item b ∷ []);
          declared = declared_more (class_item b) w e;
          places = class_places b w;
          judged = all_append ItemJudged w.items (class_item b ∷ []) w.judged (class_judged (b % BYTE) (b / BYTE), tt);
        })

-- A class gets its body: of the item that is the c-th class the two bytes change, and nothing else.
abbrev patched : ℕ → ℕ → List Item → List Item
patched c m [] = []
patched zero m (a_class a b ∷ xs) = class_item m ∷ xs
patched (suc c) m (a_class a b ∷ xs) = a_class a b ∷ patched c m xs
patched zero m (another k bs ∷ xs) = another k bs ∷ patched zero m xs
patched (suc c) m (another k bs ∷ xs) = another k bs ∷ patched (suc c) m xs

patched_places : (c m n : ℕ) (xs : List Item) → places_from n (patched c m xs) ≡ places_from n xs
patched_places c m n [] = refl
patched_places zero m n (a_class a b ∷ xs) = refl
patched_places (suc c) m n (a_class a b ∷ xs) = ap (λ (ps : List ℕ). (n + 4) ∷ ps) (patched_places c m (n + 6) xs)
patched_places zero m n (another k bs ∷ xs) = patched_places zero m (n + length (headed k bs)) xs
patched_places (suc c) m n (another k bs ∷ xs) = patched_places (suc c) m (n + length (headed k bs)) xs

patched_judged : (c m : ℕ) (xs : List Item) → AllOf ItemJudged xs → AllOf ItemJudged (patched c m xs)
patched_judged c m [] h = tt
patched_judged zero m (a_class a b ∷ xs) h = (class_judged (m % BYTE) (m / BYTE), h.1)
patched_judged (suc c) m (a_class a b ∷ xs) h = (h.0, patched_judged c m xs h.1)
patched_judged zero m (another k bs ∷ xs) h = (h.0, patched_judged zero m xs h.1)
patched_judged (suc c) m (another k bs ∷ xs) h = (h.0, patched_judged (suc c) m xs h.1)

-- The bytes before its two and behind them.
record Around (m n at : ℕ) (xs ys : List Item) : Type 0 where
  before : List ℕ
  behind : List ℕ
  old : ℕ
  older : ℕ
  were : joined xs ≡ before ++ (old ∷ older ∷ behind)
  are : joined ys ≡ before ++ (two m ++ behind)
  place : at ≡ n + length before

further : (x : Item) {m n at : ℕ} {xs ys : List Item} → Around m (n + length (item_bytes x)) at xs ys →
    Around m n at (x ∷ xs) (x ∷ ys)
further x {m} a =
    record {
      before = item_bytes x ++ a.before;
      behind = a.behind;
      old = a.old;
      older = a.older;
      were = ap (λ (bs : List ℕ). item_bytes x ++ bs) a.were
          ∙ sym (append_assoc (item_bytes x) a.before (a.old ∷ a.older ∷ a.behind));
      are = ap (λ (bs : List ℕ). item_bytes x ++ bs) a.are ∙ sym (append_assoc (item_bytes x) a.before (two m ++ a.behind));
      place = let l = length-append (item_bytes x) a.before in let p = a.place in omega arith;
    }

around : (c m n : ℕ) (xs : List Item) → c < length (places_from n xs) →
    Around m n (get_or (places_from n xs) c 0) xs (patched c m xs)
around c m n [] h = absurd (omega arith)
around zero m n (a_class a b ∷ xs) h =
    record {
      before = two 4 ++ two K.CLASS;
      behind = joined xs;
      old = a;
      older = b;
      were = refl;
      are = refl;
      place = refl;
    }
around (suc c) m n (a_class a b ∷ xs) h = further (a_class a b) (around c m (n + 6) xs (omega arith))
around zero m n (another k bs ∷ xs) h = further (another k bs) (around zero m (n + length (headed k bs)) xs h)
around (suc c) m n (another k bs ∷ xs) h = further (another k bs) (around (suc c) m (n + length (headed k bs)) xs h)

pub written_bodied : {s : Sheet} (c m : ℕ) → c < length s.class_at → Written s → Written (bodied c m s)
unfolding bodied
written_bodied {s} c m h w =
    let a = around c m 0 w.items (let l = ap length w.places in omega arith) in
    let p : ℕ = get_or s.class_at c 0 in
    let at : length a.before ≡ p =
    (let x = a.place in let y = ap (λ (ps : List ℕ). get_or ps c 0) w.places in omega arith) in
    let is : s.declared ≡ a.before ++ (a.old ∷ a.older ∷ a.behind) = w.declared ∙ a.were in
    let two_more : length (a.before ++ (a.old ∷ a.older ∷ [])) ≡ p + 2 =
    (let l = length-append a.before (a.old ∷ a.older ∷ []) in omega arith) in
    record {
      pieces = w.pieces;
      levels = w.levels;
      items = patched c m w.items;
      declared =
          ap (λ (bs : List ℕ). take p bs ++ two m ++ drop (p + 2) bs) is
          ∙ ap (λ (bs : List ℕ). bs ++ two m ++ drop (p + 2) (a.before ++ (a.old ∷ a.older ∷ a.behind)))
          (take_at a.before (a.old ∷ a.older ∷ a.behind) p at)
          ∙ ap (λ (bs : List ℕ). a.before ++ two m ++ bs)
          (ap (drop (p + 2)) (sym (append_assoc a.before (a.old ∷ a.older ∷ []) a.behind))
          ∙ drop_at (a.before ++ (a.old ∷ a.older ∷ [])) a.behind (p + 2) two_more)
          ∙ append_assoc a.before (two m) a.behind
          ∙ sym a.are;
      places = w.places ∙ sym (patched_places c m 0 w.items);
      judged = patched_judged c m w.items w.judged;
    }

-- THE CHECKS at a cut.
passes-ok : (o : Outcome Passed) → passes o ≡ true → o ≡ ok passed
passes-ok (ok passed) e = refl
passes-ok (fails n) e = no_way e

not-not : (x : Bool) → not x ≡ false → x ≡ true
not-not true e = refl
not-not false e = sym e

judged_body : (seen : List ℕ) (k : ℕ) (bs : List ℕ) → judged seen k bs ≡ ok passed → Judged k bs
unfolding judged
judged_body seen k bs e =
    let x = needed_then _ _ _ e in let y = needed_then _ _ _ x.1 in (needed_then _ _ _ y.1).1

pub not_faulty : (s : Sheet) (d : Draft) → faulty s d ≡ false → (d.over ≡ false) × Judged d.kind d.body
unfolding faulty
not_faulty s d e =
    let o : Outcome Passed = judged (counts_for s d) d.kind d.body in
    let a = or-false d.over (not (passes o)) e in
    (a.0, judged_body (counts_for s d) d.kind d.body (passes-ok o (not-not (passes o) a.1)))

none_if : {A : Type 0} (b : Bool) (a : A) (o : Option A) → (if b then some a else o) ≡ none → (b ≡ false) × (o ≡ none)
none_if true a o e = not_some (sym e)
none_if false a o e = (refl, e)

pub within_limits : (z : Sheet) (d : Draft) (f : Bool) → over_limit z d f ≡ none → (f ≡ false) × (z.full ≡ false)
unfolding over_limit
within_limits z d f e =
    let a = none_if (ltb F.longest_file z.total) z.first _ e in
    let b = none_if (f || ltb F.most_classes (get_or z.seen K.CLASS 0)) d.line _ a.1 in
    let c = none_if (ltb F.most_actions (get_or z.seen K.ACTION 0)) z.last_line _ b.1 in
    let g = none_if (ltb F.most_blocks (get_or z.seen K.BLOCK 0)) d.line _ c.1 in
    let h = none_if (ltb F.deepest (length z.levels)) (get_or z.class_line z.current 0) _ g.1 in
    ((or-false f _ b.0).0, (none_if z.full 0 none h.1).0)

-- ONE TOKEN. Where the machine goes on, what it went by.
pub record Turns (r : Reader) (k : Placed) (q : Reader) : Type 0 where
  pub top : Symbol
  pub rest : List Symbol
  pub pile : r.pile ≡ top ∷ rest
  pub rule : Rule Of say top k.token
  pub fits : step top k.token ≡ some rule
  pub told : trouble r.known (event_at r top k.token) ≡ none
  pub cut : cut_at r (draft_after r top k.token k.place) top k.token
      (sheet_after r (draft_after r top k.token k.place) top k.token k.place)
      ≡ none
  pub now : q ≡ after r (draft_after r top k.token k.place)
      (sheet_after r (draft_after r top k.token k.place) top k.token k.place) (rule.next ++ rest) top k.token
      k.place

not_goes : {A : Type 0} {n p : ℕ} {q : Reader} → stops n p ≡ goes q → A
not_goes {n = n} {p = p} {q = q} e = let z : ◌≡◌ {A = ℕ} 0 1 = cc in absurd (omega arith)

pub turns : (r : Reader) (k : Placed) (q : Reader) → turned r k ≡ goes q → Turns r k q
unfolding turned
turns r k q = on_piled r.pile refl
  where
    t : Token
    t = k.token

    p : ℕ
    p = k.place

    checked : (s : Symbol) (ss : List Symbol) (o : Option ℕ)
        → gone_on r (draft_after r s t p) (sheet_after r (draft_after r s t p) s t p) ss s t p o ≡ goes q
        → (o ≡ none) × (q ≡ after r (draft_after r s t p) (sheet_after r (draft_after r s t p) s t p) ss s t p)
    checked s ss none e = (refl, cc)
    checked s ss (some n) e = not_goes e

    on_told : (s : Symbol) (ss : List Symbol) (o : Option ℕ) → M.named r ss s t p o ≡ goes q
        → (o ≡ none) × (cut_at r (draft_after r s t p) s t (sheet_after r (draft_after r s t p) s t p) ≡ none)
        × (q ≡ after r (draft_after r s t p) (sheet_after r (draft_after r s t p) s t p) ss s t p)
    on_told s ss none e =
        let c = checked s ss (cut_at r (draft_after r s t p) s t (sheet_after r (draft_after r s t p) s t p)) e in
        (refl, c.0, c.1)
    on_told s ss (some n) e = not_goes e

    on_room : (s : Symbol) (ss : List Symbol) (b : Bool)
        → (if b then stops No.GRAMMAR p else M.named r ss s t p (trouble r.known (event_at r s t))) ≡ goes q
        → M.named r ss s t p (trouble r.known (event_at r s t)) ≡ goes q
    on_room s ss true e = not_goes e
    on_room s ss false e = e

    on_rule : (s : Symbol) (ss : List Symbol) → r.pile ≡ s ∷ ss → (o : Option (Rule Of say s t)) → step s t ≡ o
        → ruled r ss s t p o ≡ goes q → Turns r k q
    on_rule s ss f none g e = not_goes e
    on_rule s ss f (some x) g e =
        let a = on_told s (x.next ++ ss) (trouble r.known (event_at r s t))
        (on_room s (x.next ++ ss) (ltb highest_pile (length (x.next ++ ss))) e) in
        record { top = s; rest = ss; pile = f; rule = x; fits = g; told = a.0; cut = a.1; now = a.2 }

    on_piled : (ss : List Symbol) → r.pile ≡ ss → on_pile r ss t p ≡ goes q → Turns r k q
    on_piled [] f e = not_goes e
    on_piled (s ∷ ss) f e = on_rule s ss f (step s t) refl e

-- HOW MANY CLASSES there are: only `classes` makes them more.
acts_classes : (d : Draft) (s : Sheet) → (acts d s).class_at ≡ s.class_at
unfolding acts
acts_classes d s =
    ap (λ (x : Sheet). x.class_at) (stands-account d.kind d.body (counts d s))
    ∙ counts_stays (λ x. x.class_at) d s refl refl

tries_classes : (d : Draft) (s : Sheet) → (tries d s).class_at ≡ s.class_at
unfolding tries
tries_classes d s = go (kept_in s.levels)
  where
    go : (o : Option Kept) → (branches d o s).class_at ≡ s.class_at
    go none = counts_stays (λ x. x.class_at) d s refl refl
    go (some x) = refl

opens_classes : (d : Draft) (s : Sheet) → (opens d s).class_at ≡ s.class_at
unfolding opens braces
opens_classes d s =
    if_has (λ (x : Sheet). x.class_at ≡ s.class_at) (eqb d.kind K.TRY) (λ e. tries_classes d s) (λ e. acts_classes d s)

declares_classes : (d : Draft) (s : Sheet) → (S.declares d s).class_at ≡ s.class_at
unfolding S.declares declaring
declares_classes d s =
    if_has (λ (x : Sheet). x.class_at ≡ s.class_at) (ltb DECLARED (length s.declared + length (headed d.kind d.body)))
    (λ e. refl) (λ e. refl)

done_classes : (d : Draft) (s : Sheet) → (M.done d s).class_at ≡ s.class_at
done_classes d s =
    if_has (λ (x : Sheet). x.class_at ≡ s.class_at) (M.is_declaration d) (λ e. declares_classes d s) (λ e. acts_classes d s)

behind_classes : (s : Sheet) (t : Token) → (M.behind s t).class_at ≡ s.class_at
behind_classes s t =
    if_has (λ (x : Sheet). x.class_at ≡ s.class_at) (eqb (mark_in t) T.RB)
    (λ e. ap (λ (x : Sheet). x.class_at) (closed-account s))
    (λ e. if_has (λ (x : Sheet). x.class_at ≡ s.class_at) (eqb (mark_in t) T.ETRY)
    (λ f. refl) (λ f. ap (λ (x : Sheet). x.class_at) (settled-account s)))

classes_one : (p b : ℕ) (s : Sheet) → (classes p b s).full ≡ false → length (classes p b s).class_at ≡ suc (length s.class_at)
unfolding classes declaring classed
classes_one p b s = go (leb F.most_classes (length s.class_at))
  where
    t : Sheet
    t = with_total s (W.more s.seen K.CLASS 1) class_bytes

    new : Sheet
    new = S.with_class t (s.class_at ++ ((length s.declared + 4) ∷ [])) (s.class_line ++ (p ∷ [])) (length s.class_at)

    bytes : List ℕ
    bytes = headed K.CLASS (two b)

    go : (f : Bool) → (declaring bytes (if f then filled t else new)).full ≡ false →
        length (declaring bytes (if f then filled t else new)).class_at ≡ suc (length s.class_at)
    go true =
        if_has (λ (z : Sheet). z.full ≡ false → length z.class_at ≡ suc (length s.class_at))
        (ltb DECLARED (length s.declared + length bytes)) (λ e f. no_way (sym f)) (λ e f. no_way (sym f))
    go false =
        if_has (λ (z : Sheet). z.full ≡ false → length z.class_at ≡ suc (length s.class_at))
        (ltb DECLARED (length s.declared + length bytes)) (λ e f. no_way (sym f))
        (λ e f. let l = length-append s.class_at ((length s.declared + 4) ∷ []) in omega arith)

-- NAMES. What is known, where there are n classes: no name twice, only a class lacks its body, and each has its number.
abbrev is_class : Known → Bool
is_class k = eqb K.CLASS k.what

abbrev Numbered : ℕ → Known → Type 0
Numbered n k = (k.lacks ≡ true → is_class k ≡ true) × (is_class k ≡ true → k.number < n)

abbrev Apart : Known → Known → Type 0
Apart j k = j.name ≡ k.name → ⊥

pub record Sorted (ks : List Known) (n : ℕ) : Type 0 where
  pub apart : Ordered Apart ks
  pub each : AllOf (Numbered n) ks
  pub count : length (keep is_class ks) ≤ n

same_bytes_lem : (x y : List ℕ) → same_bytes x y ≡ true → x ≡ y
same_bytes_lem [] [] e = refl
same_bytes_lem [] (y ∷ ys) e = no_way e
same_bytes_lem (x ∷ xs) [] e = no_way e
same_bytes_lem (x ∷ xs) (y ∷ ys) e =
    let a = and-true (eqb x y) (same_bytes xs ys) e in
    let b = eqb-true x y a.0 in let c = same_bytes_lem xs ys a.1 in cc

bytes_same : (x : List ℕ) → same_bytes x x ≡ true
bytes_same [] = refl
bytes_same (x ∷ xs) = true-and (eqb x x) (same_bytes xs xs) (eq-eqb x x refl) (bytes_same xs)

-- A class that is to get its body has a number of a class.
other_name : (x : Name) (k : Known) (ks : List Known) → x ≡ k.name → AllOf (Apart k) ks → any (awaited x) ks ≡ false
other_name x k [] e h = refl
other_name x k (j ∷ ks) e h = go (named x j) refl (other_name x k ks e h.1)
  where
    go : (b : Bool) → named x j ≡ b → any (awaited x) ks ≡ false → ((b && j.lacks) || any (awaited x) ks) ≡ false
    go true f i = absurd (h.0 (sym e ∙ same_bytes_lem x j.name f))
    go false f i = i

number_in : (x : Name) (n : ℕ) (ks : List Known) → Ordered Apart ks → AllOf (Numbered n) ks → any (awaited x) ks ≡ true →
    number_of ks x < n
number_in x n [] a h e = no_way e
number_in x n (k ∷ ks) a h e = go (named x k) refl k.lacks refl e (λ f. number_in x n ks a.1 h.1 f)
  where
    go : (b : Bool) → named x k ≡ b → (c : Bool) → k.lacks ≡ c → ((b && c) || any (awaited x) ks) ≡ true →
        (any (awaited x) ks ≡ true → number_of ks x < n) → (if b then k.number else number_of ks x) < n
    go true f true g i r = h.0.1 (h.0.0 g)
    go true f false g i r = no_way (sym (other_name x k ks (same_bytes_lem x k.name f) a.0) ∙ i)
    go false f c g i r = r i

-- One name more.
sorted_wider : {ks : List Known} {n m : ℕ} → n ≤ m → Sorted ks n → Sorted ks m
sorted_wider {ks} {n} {m} l h =
    record {
      apart = h.apart;
      each = all_map (Numbered n) (Numbered m) (λ k j. (j.0, λ e. (let i = j.1 e in omega arith))) ks h.each;
      count = let c = h.count in omega arith;
    }

ordered_add : {A : Type 0} (R : A → A → Type 0) (xs : List A) (a : A) → Ordered R xs → AllOf (λ x. R x a) xs →
    Ordered R (xs ++ (a ∷ []))
ordered_add R [] a o h = (tt, tt)
ordered_add R (x ∷ xs) a o h = (all_append (R x) xs (a ∷ []) o.0 (h.0, tt), ordered_add R xs a o.1 h.1)

abbrev once : Bool → ℕ
once b = if b then 1 else 0

keep-add : {A : Type 0} (f : A → Bool) (xs : List A) (a : A) → length (keep f (xs ++ (a ∷ []))) ≡ length (keep f xs) + once (f a)
keep-add f [] a = go (f a)
  where
    go : (b : Bool) → length (if b then a ∷ [] else []) ≡ 0 + once b
    go true = refl
    go false = refl
keep-add f (x ∷ xs) a = go (f x) (keep-add f xs a)
  where
    go : (b : Bool) → length (keep f (xs ++ (a ∷ []))) ≡ length (keep f xs) + once (f a) →
        length (if b then x ∷ keep f (xs ++ (a ∷ [])) else keep f (xs ++ (a ∷ [])))
        ≡ length (if b then x ∷ keep f xs else keep f xs) + once (f a)
    go true e = omega arith
    go false e = e

sorted_add : {ks : List Known} {n : ℕ} (m : ℕ) (k : Known) → any (named k.name) ks ≡ false → Numbered m k → n ≤ m →
    n + once (is_class k) ≤ m → Sorted ks n → Sorted (ks ++ (k ∷ [])) m
sorted_add {ks} {n} m k e j l c h =
    let w = sorted_wider l h in
    record {
      apart = ordered_add Apart ks k h.apart
          (all_map (λ i. named k.name i ≡ false) (λ i. Apart i k)
          (λ i f g. no_way (sym f ∙ ap (same_bytes k.name) g ∙ bytes_same k.name)) ks (none_hold (named k.name) ks e));
      each = all_append (Numbered m) ks (k ∷ []) w.each (j, tt);
      count = let a = keep-add is_class ks k in let b = h.count in omega arith;
    }

sorted_other : {ks : List Known} {n : ℕ} (w : ℕ) (x : Name) → eqb w K.CLASS ≡ false → any (named x) ks ≡ false → Sorted ks n →
    Sorted (N.one_more ks w x false) n
sorted_other {ks} {n} w x f e h =
    let g : eqb K.CLASS w ≡ false = ne_eqb K.CLASS w (λ q. eqb-false w K.CLASS f (sym q)) in
    sorted_add n _ e (λ z. no_way z, λ z. no_way (sym g ∙ z)) (omega arith)
    (subst (λ (b : Bool). n + once b ≤ n) (sym g) (omega arith)) h

sorted_class : {ks : List Known} {n : ℕ} (x : Name) (l : Bool) → any (named x) ks ≡ false → Sorted ks n →
    Sorted (N.one_more ks K.CLASS x l) (suc n)
sorted_class {ks} {n} x l e h =
    sorted_add (suc n) _ e (λ z. refl, λ z. (let c = h.count in omega arith)) (omega arith) (omega arith) h

-- A name that gets its body, and names that go.
map_apart : (x : Name) (ks : List Known) → Ordered Apart ks → Ordered Apart (map (N.bodied x) ks)
map_apart x [] o = tt
map_apart x (k ∷ ks) o = (all_mapped (Apart k) (Apart (N.bodied x k)) (N.bodied x) (λ j h. h) ks o.0, map_apart x ks o.1)

map_count : (x : Name) (ks : List Known) → length (keep is_class (map (N.bodied x) ks)) ≡ length (keep is_class ks)
map_count x [] = refl
map_count x (k ∷ ks) = go (is_class k) (map_count x ks)
  where
    go : (b : Bool) → length (keep is_class (map (N.bodied x) ks)) ≡ length (keep is_class ks) →
        length (if b then N.bodied x k ∷ keep is_class (map (N.bodied x) ks) else keep is_class (map (N.bodied x) ks))
        ≡ length (if b then k ∷ keep is_class ks else keep is_class ks)
    go true e = ap suc e
    go false e = e

sorted_map : {ks : List Known} {n : ℕ} (x : Name) → Sorted ks n → Sorted (map (N.bodied x) ks) n
sorted_map {ks} {n} x h =
    record {
      apart = map_apart x ks h.apart;
      each = all_mapped (Numbered n) (Numbered n) (N.bodied x)
          (λ k j. (λ e. j.0 (and-true k.lacks _ e).0, j.1)) ks h.each;
      count = let c = map_count x ks in let d = h.count in omega arith;
    }

all_keep : {A : Type 0} (P : A → Type 0) (f : A → Bool) (xs : List A) → AllOf P xs → AllOf P (keep f xs)
all_keep P f [] h = tt
all_keep P f (x ∷ xs) h = if_has (AllOf P) (f x) (λ e. (h.0, all_keep P f xs h.1)) (λ e. all_keep P f xs h.1)

keep_apart : (f : Known → Bool) (ks : List Known) → Ordered Apart ks → Ordered Apart (keep f ks)
keep_apart f [] o = tt
keep_apart f (k ∷ ks) o =
    if_has (Ordered Apart) (f k) (λ e. (all_keep (Apart k) f ks o.0, keep_apart f ks o.1)) (λ e. keep_apart f ks o.1)

keep_count : (f g : Known → Bool) (ks : List Known) → length (keep f (keep g ks)) ≤ length (keep f ks)
keep_count f g [] = omega arith
keep_count f g (k ∷ ks) = go (g k) (keep_count f g ks)
  where
    go : (a : Bool) → length (keep f (keep g ks)) ≤ length (keep f ks) →
        length (keep f (if a then k ∷ keep g ks else keep g ks)) ≤ length (keep f (k ∷ ks))
    go true e = if_two (λ (x y : List Known). length x ≤ length y) (f k) (omega arith) e
    go false e =
        if_has (λ (y : List Known). length (keep f (keep g ks)) ≤ length y) (f k) (λ z. omega arith) (λ z. e)

sorted_keep : {ks : List Known} {n : ℕ} (f : Known → Bool) → Sorted ks n → Sorted (keep f ks) n
sorted_keep {ks} {n} f h =
    record {
      apart = keep_apart f ks h.apart;
      each = all_keep (Numbered n) f ks h.each;
      count = let a = keep_count is_class f ks in let b = h.count in omega arith;
    }

-- WHERE A CLASS LINE'S NAME IS: no body of a class is to come, or its name is, or its body, and the name is in no trouble.
abbrev is_body : Symbol → Bool
is_body (one x) = false
is_body (factor_s d) = false
is_body (minus_s d) = false
is_body (more d c) = false
is_body signed_s = false
is_body relation_s = false
is_body item_s = false
is_body claim_s = false
is_body items_s = false
is_body gives_s = false
is_body given_s = false
is_body actions_s = false
is_body try_s = false
is_body (few_s k) = false
is_body lines_s = false
is_body body_s = true
is_body text_s = false

abbrev no_body : List Symbol → Bool
no_body [] = true
no_body (s ∷ ss) = not (is_body s) && no_body ss

pub data Calling (role : ℕ) (ks : List Known) (x : Name) : List Symbol → Type 0 where
  silent : {ss : List Symbol} → no_body ss ≡ true → Calling role ks x ss
  to_call : {ss : List Symbol} → role ≡ K.CLASS → no_body ss ≡ true → Calling role ks x (name_s ∷ body_s ∷ ss)
  called : {ss : List Symbol} → trouble ks (embodies x) ≡ none → no_body ss ≡ true → Calling role ks x (body_s ∷ ss)

body_append : (ns ss : List Symbol) → no_body ns ≡ true → no_body ss ≡ true → no_body (ns ++ ss) ≡ true
body_append [] ss h k = k
body_append (n ∷ ns) ss h k =
    let a = and-true (not (is_body n)) (no_body ns) h in true-and (not (is_body n)) _ a.0 (body_append ns ss a.1 k)

-- Every row: only a class line has a body.
abbrev line_s : List Symbol
line_s = name_s ∷ body_s ∷ text_s ∷ []

abbrev Lined : Symbol → Token → List Symbol → Type 0
Lined s t ns = (no_body ns ≡ true) ⊎ ((s ≡ text_s) × (t ≡ mark T.CLASS) × (ns ≡ line_s))

abbrev none_in : {s : Symbol} → List (Row s) → Bool
none_in [] = true
none_in (w ∷ ws) = no_body w.next && none_in ws

tested : (s : Symbol) (ws : List (Row s)) → none_in ws ≡ true → Each (Lined s) ws
tested s [] h = tt
tested s (w ∷ ws) h = let b = and-true (no_body w.next) (none_in ws) h in (λ v. inl b.0, tested s ws b.1)

lined : (s : Symbol) → Each (Lined s) (rows s)
lined (one x) = tested (one x) (rows (one x)) refl
lined (factor_s zero) = tested (factor_s zero) (rows (factor_s zero)) refl
lined (factor_s (suc d)) = tested (factor_s (suc d)) (rows (factor_s (suc d))) refl
lined (minus_s zero) = tested (minus_s zero) (rows (minus_s zero)) refl
lined (minus_s (suc d)) = tested (minus_s (suc d)) (rows (minus_s (suc d))) refl
lined (more d c) = tested (more d c) (rows (more d c)) refl
lined signed_s = tested signed_s (rows signed_s) refl
lined relation_s = tested relation_s (rows relation_s) refl
lined item_s = tested item_s (rows item_s) refl
lined claim_s = tested claim_s (rows claim_s) refl
lined items_s = tested items_s (rows items_s) refl
lined gives_s = tested gives_s (rows gives_s) refl
lined given_s = tested given_s (rows given_s) refl
lined actions_s = tested actions_s (rows actions_s) refl
lined try_s = tested try_s (rows try_s) refl
lined (few_s zero) = tested (few_s zero) (rows (few_s zero)) refl
lined (few_s (suc k)) = tested (few_s (suc k)) (rows (few_s (suc k))) refl
lined lines_s = tested lines_s (rows lines_s) refl
lined body_s = tested body_s (rows body_s) refl
lined text_s = (
  λ v. inl refl,
  (
    λ v. inl refl,
    (
      λ v. inl refl,
      (
        λ v. inl refl,
        (
          λ v. inl refl,
          (
            λ v. inl refl,
            (λ v. inr (refl, refl, refl), (λ v. inl refl, tt)),
          ),
        ),
      ),
    ),
  ),
)

name_rule : (t : Token) (p : Rule Of say name_s t) → step name_s t ≡ some p → (x : Name) × (t ≡ name x) × (p.next ≡ [])
name_rule (name x) p e = (x, refl, sym (ap next_in e))
name_rule (number n) p e = not_some e
name_rule (mark k) p e = not_some e
name_rule bad p e = not_some e

role_at : (r : Reader) (s : Symbol) (t : Token) (p : ℕ) → s ≡ text_s → t ≡ mark T.CLASS → (draft_after r s t p).role ≡ K.CLASS
unfolding draft_after
role_at r s t p e f =
    ap (λ (x : Symbol). (draft_after r x t p).role) e ∙ ap (λ (u : Token). (draft_after r text_s u p).role) f

named_line : (r : Reader) (t : Token) (y : Name) → r.draft.role ≡ K.CLASS → t ≡ name y →
    trouble r.known (event_at r name_s t) ≡ none →
    trouble (known_after r name_s t) (embodies (if M.calls r name_s then name_in t else r.called)) ≡ none
unfolding event_at known_after
named_line r t y e f =
    subst (λ (u : Token). trouble r.known (event_at r name_s u) ≡ none →
    trouble (known_after r name_s u) (embodies (if M.calls r name_s then name_in u else r.called)) ≡ none) (sym f)
    (subst (λ (w : ℕ). trouble r.known (M.asked w y) ≡ none →
    trouble (if leb ASK w || eqb w K.CLASS then r.known else M.keeps r.known (N.declares w y))
    (embodies (if eqb w K.CLASS then y else r.called)) ≡ none) (sym e) (λ g. g))

calling_step : (r : Reader) (s : Symbol) (ss : List Symbol) (t : Token) (p : ℕ) (x : Rule Of say s t) → step s t ≡ some x →
    trouble r.known (event_at r s t) ≡ none → Calling r.draft.role r.known r.called (s ∷ ss) →
    Calling (draft_after r s t p).role (known_after r s t) (if M.calls r s then name_in t else r.called) (x.next ++ ss)
calling_step r s ss t p x e g (silent h) = go (found_rule (Lined s) x (lined s) e)
  where
    below : no_body ss ≡ true
    below = (and-true (not (is_body s)) (no_body ss) h).1

    go : Lined s t x.next →
        Calling (draft_after r s t p).role (known_after r s t) (if M.calls r s then name_in t else r.called) (x.next ++ ss)
    go (inl n) = silent (body_append x.next ss n below)
    go (inr (a, b, c)) =
        subst (λ (ns : List Symbol). Calling (draft_after r s t p).role (known_after r s t)
        (if M.calls r s then name_in t else r.called) (ns ++ ss)) (sym c) (to_call (role_at r s t p a b) below)
calling_step r s ss t p x e g (to_call {ss = zs} f h) =
    let n = name_rule t x e in
    subst (λ (ns : List Symbol). Calling (draft_after r name_s t p).role (known_after r name_s t)
    (if M.calls r name_s then name_in t else r.called) (ns ++ (body_s ∷ zs))) (sym n.2)
    (called (named_line r t n.0 f n.1 g) h)
calling_step r s ss t p x e g (called f h) = go (found_rule (Lined body_s) x (lined body_s) e)
  where
    go : Lined body_s t x.next →
        Calling (draft_after r body_s t p).role (known_after r body_s t) (if M.calls r body_s then name_in t else r.called)
        (x.next ++ ss)
    go (inl n) = silent (body_append x.next ss n h)
    go (inr (a, b, c)) = let q : ◌≡◌ {A = ℕ} 0 1 = cc in absurd (omega arith)

-- WHAT A TOKEN WRITES DOWN.
done_written : {s : Sheet} (d : Draft) → Judged d.kind d.body → (M.done d s).full ≡ false → Written s → Written (M.done d s)
done_written {s} d j =
    if_has (λ (z : Sheet). z.full ≡ false → Written s → Written z) (M.is_declaration d)
    (λ e f w. written_declares d j f w) (λ e f w. written_acts d j w)

at_done : (s : Sheet) (d : Draft) (b : Bool) →
    (if b then over_limit (if b then M.done d s else s) d (faulty s d) else none) ≡ none → Written s →
    Written (if b then M.done d s else s)
at_done s d true e w =
    let l = within_limits (M.done d s) d (faulty s d) e in done_written d (not_faulty s d l.0).1 l.1 w
at_done s d false e w = w

at_sign : (s : Sheet) (d : Draft) (a b : Bool) →
    (if a || b then over_limit (if a then M.done d s else if b then opens d s else s) d (faulty s d) else none) ≡ none →
    Written s → Written (if a then M.done d s else if b then opens d s else s)
at_sign s d true b e w =
    let l = within_limits (M.done d s) d (faulty s d) e in done_written d (not_faulty s d l.0).1 l.1 w
at_sign s d false true e w =
    let l = within_limits (opens d s) d (faulty s d) e in written_opens d (not_faulty s d l.0).1 w
at_sign s d false false e w = w

written_behind : {s : Sheet} (t : Token) → Written s → Written (M.behind s t)
written_behind t w =
    if_has Written (eqb (mark_in t) T.RB) (λ e. written_closed w)
    (λ e. if_has Written (eqb (mark_in t) T.ETRY) (λ f. w) (λ f. written_settled w))

braces_full : (s : Sheet) → (braces s).full ≡ s.full
unfolding braces
braces_full s = refl

abbrev pub Numbers : Reader → Type 0
Numbers r = M.is_known r ≡ true → number_of r.known r.called < length r.sheet.class_at

at_body : (r : Reader) (d : Draft) (b : Bool) → Numbers r →
    over_limit (if b then classes d.line No.no_body r.sheet else M.embodied r) d false ≡ none → Written r.sheet →
    Written (if b then classes d.line No.no_body r.sheet else M.embodied r)
at_body r d true n e w =
    written_classes d.line No.no_body (within_limits (classes d.line No.no_body r.sheet) d false e).1 w
at_body r d false n e w =
    let f = (within_limits (M.embodied r) d false e).1 in
    written_braces (go (M.is_known r) refl (sym (braces_full _) ∙ f))
  where
    k : ℕ
    k = blocks_of r.sheet

    body : Bool → Sheet
    body b = if b then bodied (number_of r.known r.called) k r.sheet else classes r.draft.line k r.sheet

    go : (b : Bool) → M.is_known r ≡ b → (body b).full ≡ false → Written (body b)
    go true g f = written_bodied (number_of r.known r.called) k (n g) w
    go false g f = written_classes r.draft.line k f w

pub written_step : (r : Reader) (d : Draft) (s : Symbol) (t : Token) (p : ℕ) → (s ≡ body_s → Numbers r) →
    cut_at r d s t (sheet_after r d s t p) ≡ none → Written r.sheet → Written (sheet_after r d s t p)
unfolding sheet_after cut_at
written_step r d (one (the k)) t p n c w = at_sign r.sheet d (eqb k T.SEMI) (eqb k T.LB) c w
written_step r d (one a_name) t p n c w = w
written_step r d (one (a_number b)) t p n c w = w
written_step r d (factor_s b) t p n c w = w
written_step r d (minus_s b) t p n c w = w
written_step r d (more b m) t p n c w = at_done r.sheet d (eqb (mark_in t) T.SEMI) c w
written_step r d signed_s t p n c w = w
written_step r d relation_s t p n c w = w
written_step r d item_s t p n c w = w
written_step r d claim_s t p n c w = w
written_step r d items_s t p n c w = w
written_step r d gives_s t p n c w = w
written_step r d given_s t p n c w = w
written_step r d actions_s t p n c w = written_behind t w
written_step r d try_s t p n c w = written_behind t w
written_step r d (few_s b) t p n c w = w
written_step r d lines_s t p n c w = written_behind t w
written_step r d body_s t p n c w = at_body r d (eqb (mark_in t) T.SEMI) (n refl) c w
written_step r d text_s t p n c w =
    if_has Written (eqb r.sheet.total 0) (λ e. written_first p w) (λ e. w)

-- WHAT IS KNOWN THEN.
as_many : {ks : List Known} {xs ys : List ℕ} → ys ≡ xs → Sorted ks (length xs) → Sorted ks (length ys)
as_many {ks} e h = subst (λ (zs : List ℕ). Sorted ks (length zs)) (sym e) h

fine_name : (n : ℕ) (b : Bool) → wanting n b ≡ none → b ≡ true
fine_name n true e = refl
fine_name n false e = not_some (sym e)

sign_classes : (d : Draft) (s : Sheet) (a b : Bool) →
    (if a then M.done d s else if b then opens d s else s).class_at ≡ s.class_at
sign_classes d s true b = done_classes d s
sign_classes d s false true = opens_classes d s
sign_classes d s false false = refl

more_classes : (d : Draft) (s : Sheet) (b : Bool) → (if b then M.done d s else s).class_at ≡ s.class_at
more_classes d s true = done_classes d s
more_classes d s false = refl

first_classes : (p : ℕ) (s : Sheet) (b : Bool) → (if b then S.with_first s p else s).class_at ≡ s.class_at
first_classes p s true = refl
first_classes p s false = refl

sorted_name : (r : Reader) (n : ℕ) (t : Token) (y : Name) → t ≡ name y → trouble r.known (event_at r name_s t) ≡ none →
    Sorted r.known n → Sorted (known_after r name_s t) n
unfolding event_at known_after knows trouble
sorted_name r n t y e g h =
    subst (λ (u : Token). trouble r.known (event_at r name_s u) ≡ none → Sorted (known_after r name_s u) n) (sym e)
    (go (leb ASK w) (eqb w K.CLASS) refl) g
  where
    w : ℕ
    w = r.draft.role

    ks : List Known
    ks = r.known

    go : (a b : Bool) → eqb w K.CLASS ≡ b →
        trouble ks (if a then N.asks ((w - ASK) ∷ []) y else if b then embodies y else N.declares w y) ≡ none →
        Sorted (if a || b then ks else M.keeps ks (N.declares w y)) n
    go true b f i = h
    go false true f i = h
    go false false f i =
        if_has (λ (zs : List Known). Sorted zs n) (leb M.most_names (length ks)) (λ z. h)
        (λ z. sorted_other w y f (not-true (any (named y) ks) (fine_name No.AGAIN (not (any (named y) ks)) i)) h)

sorted_leaving : (r : Reader) (t : Token) → Sorted r.known (length r.sheet.class_at) →
    Sorted (M.leaving r t) (length (M.behind r.sheet t).class_at)
unfolding knows
sorted_leaving r t h =
    let b = as_many (behind_classes r.sheet t) h in
    if_has (λ (zs : List Known). Sorted zs (length (M.behind r.sheet t).class_at)) (M.last_brace r t)
    (λ e. sorted_keep N.stays b) (λ e. b)

keeps_sorted : (ks : List Known) (e : N.Event) (n m : ℕ) → n ≤ m → Sorted ks n → Sorted (knows ks e) m → Sorted (M.keeps ks e) m
keeps_sorted ks e n m l h k =
    if_has (λ (zs : List Known). Sorted zs m) (leb M.most_names (length ks)) (λ z. sorted_wider l h) (λ z. k)

sorted_body : (r : Reader) (d : Draft) (b : Bool) →
    trouble r.known (if b then N.announces r.called else leaves) ≡ none →
    over_limit (if b then classes d.line No.no_body r.sheet else M.embodied r) d false ≡ none →
    Sorted r.known (length r.sheet.class_at) →
    Sorted (if b then M.keeps r.known (N.announces r.called) else M.keeps r.known (embodies r.called))
    (length (if b then classes d.line No.no_body r.sheet else M.embodied r).class_at)
unfolding knows trouble braces bodied
sorted_body r d true g c h =
    let ks : List Known = r.known in
    let x : Name = r.called in
    let f = (within_limits (classes d.line No.no_body r.sheet) d false c).1 in
    let l = classes_one d.line No.no_body r.sheet f in
    subst (λ (m : ℕ). Sorted (M.keeps ks (N.announces x)) m) (sym l)
    (keeps_sorted ks (N.announces x) (length r.sheet.class_at) (suc (length r.sheet.class_at)) (omega arith) h
    (sorted_class x true (not-true (any (named x) ks) (fine_name No.AGAIN (not (any (named x) ks)) g)) h))
sorted_body r d false g c h = go (M.is_known r) refl (within_limits (M.embodied r) d false c).1
  where
    ks : List Known
    ks = r.known

    x : Name
    x = r.called

    n : ℕ
    n = length r.sheet.class_at

    body : Bool → Sheet
    body b =
        if b then bodied (number_of ks x) (blocks_of r.sheet) r.sheet
        else classes r.draft.line (blocks_of r.sheet) r.sheet

    go : (b : Bool) → any (named x) ks ≡ b → (braces (body b)).full ≡ false →
        Sorted (if leb M.most_names (length ks) then ks else if b then map (N.bodied x) ks else N.one_more ks K.CLASS x false)
        (length (braces (body b)).class_at)
    go true e f = if_has (λ (zs : List Known). Sorted zs n) (leb M.most_names (length ks)) (λ z. h) (λ z. sorted_map x h)
    go false e f =
        let l = classes_one r.draft.line (blocks_of r.sheet) r.sheet f in
        subst (λ (m : ℕ). Sorted (if leb M.most_names (length ks) then ks else N.one_more ks K.CLASS x false) m) (sym l)
        (if_has (λ (zs : List Known). Sorted zs (suc n)) (leb M.most_names (length ks)) (λ z. sorted_wider (omega arith) h)
        (λ z. sorted_class x false e h))

sorted_step : (r : Reader) (d : Draft) (s : Symbol) (t : Token) (p : ℕ) (x : Rule Of say s t) → step s t ≡ some x →
    trouble r.known (event_at r s t) ≡ none → cut_at r d s t (sheet_after r d s t p) ≡ none →
    Sorted r.known (length r.sheet.class_at) → Sorted (known_after r s t) (length (sheet_after r d s t p).class_at)
unfolding sheet_after cut_at known_after event_at
sorted_step r d (one (the k)) t p x e g c h = as_many (sign_classes d r.sheet (eqb k T.SEMI) (eqb k T.LB)) h
sorted_step r d (one a_name) t p x e g c h =
    let n = name_rule t x e in sorted_name r (length r.sheet.class_at) t n.0 n.1 g h
sorted_step r d (one (a_number b)) t p x e g c h = h
sorted_step r d (factor_s b) t p x e g c h = h
sorted_step r d (minus_s b) t p x e g c h = h
sorted_step r d (more b m) t p x e g c h = as_many (more_classes d r.sheet (eqb (mark_in t) T.SEMI)) h
sorted_step r d signed_s t p x e g c h = h
sorted_step r d relation_s t p x e g c h = h
sorted_step r d item_s t p x e g c h = h
sorted_step r d claim_s t p x e g c h = h
sorted_step r d items_s t p x e g c h = h
sorted_step r d gives_s t p x e g c h = h
sorted_step r d given_s t p x e g c h = h
sorted_step r d actions_s t p x e g c h = sorted_leaving r t h
sorted_step r d try_s t p x e g c h = sorted_leaving r t h
sorted_step r d (few_s b) t p x e g c h = h
sorted_step r d lines_s t p x e g c h = sorted_leaving r t h
sorted_step r d body_s t p x e g c h = sorted_body r d (eqb (mark_in t) T.SEMI) g c h
sorted_step r d text_s t p x e g c h = as_many (first_classes p r.sheet (eqb r.sheet.total 0)) h

pub record Fine (r : Reader) : Type 0 where
  pub written : Written r.sheet
  pub sorted : Sorted r.known (length r.sheet.class_at)
  pub calling : Calling r.draft.role r.known r.called r.pile

-- The number of a class that gets its body is one of a class.
pub numbers : (r : Reader) {ss : List Symbol} → Sorted r.known (length r.sheet.class_at) →
    Calling r.draft.role r.known r.called (body_s ∷ ss) → Numbers r
unfolding trouble
numbers r h (silent f) e = no_way f
numbers r h (called f g) e =
    number_in x (length r.sheet.class_at) ks h.apart h.each
    (go (any (awaited x) ks) (any (named x) ks) e (fine_name No.AGAIN _ f))
  where
    ks : List Known
    ks = r.known

    x : Name
    x = r.called

    go : (a b : Bool) → b ≡ true → (if a then true else not b) ≡ true → a ≡ true
    go true b i j = refl
    go false b i j = no_way (sym (not-true b j) ∙ i)

fine_after : (r : Reader) (k : Placed) (s : Symbol) (ss : List Symbol) (x : Rule Of say s k.token) →
    step s k.token ≡ some x → trouble r.known (event_at r s k.token) ≡ none →
    cut_at r (draft_after r s k.token k.place) s k.token
    (sheet_after r (draft_after r s k.token k.place) s k.token k.place) ≡ none →
    Written r.sheet → Sorted r.known (length r.sheet.class_at) →
    Calling r.draft.role r.known r.called (s ∷ ss) →
    Fine (after r (draft_after r s k.token k.place)
    (sheet_after r (draft_after r s k.token k.place) s k.token k.place) (x.next ++ ss) s k.token k.place)
unfolding after
fine_after r k s ss x e g c w h f =
    let d : Draft = draft_after r s k.token k.place in
    record {
      written = written_step r d s k.token k.place
          (λ i. numbers r h (subst (λ (y : Symbol). Calling r.draft.role r.known r.called (y ∷ ss)) i f)) c w;
      sorted = sorted_step r d s k.token k.place x e g c h;
      calling = calling_step r s ss k.token k.place x e g f;
    }

pub fine_turn : (r q : Reader) (k : Placed) → Fine r → turned r k ≡ goes q → Fine q
fine_turn r q k f e =
    let a = turns r k q e in
    subst Fine (sym a.now)
    (fine_after r k a.top a.rest a.rule a.fits a.told a.cut f.written f.sorted
    (subst (λ (ss : List Symbol). Calling r.draft.role r.known r.called ss) a.pile f.calling))

pub fine : {r : Reader} → Comes r → Fine r
fine starts =
    record {
      written = written_blank;
      sorted = record { apart = tt; each = tt; count = omega arith };
      calling = silent refl;
    }
fine (moves {r = r} {s = q} k c e) = fine_turn r q k (fine c) e

pub all_written : {r : Reader} → Comes r → Written r.sheet
all_written c = (fine c).written
