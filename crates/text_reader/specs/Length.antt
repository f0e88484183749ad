-- What the machine writes down is no longer than what it has counted: so the records fit where their total does.
-- Assumes nothing.
use Rattle.std.specs.Prelude.{ℕ, zero, suc, ◌+◌, ◌*◌, ◌≤◌, ◌<◌, ◌≡◌, refl, List, [], ◌∷◌, ◌++◌, Bool, true, false, ◌||◌, eqb, leb, ltb, get_or, take, drop, set, if◌then◌else◌}
use Rattle.std.proofs.Common.{arith, sym, ◌∙◌, ap, subst, length-append, length-take, length-drop, get_or-set_other, eqb-true, leb-true, leb-false, le-leb}
use Rattle.std.proofs.Math.Option.{Option, none, some}
use Rattle.std.proofs.Math.ListN.{length}
use Rattle.std.proofs.lemmas.Bool.{eqb-false, lt-leb}
use Rattle.semantics.specs.Words.{keep, collect}
use Rattle.semantics.specs.Words as W
use Rattle.semantics.specs.Numbers as F
use Rattle.semantics.specs.Kinds as K
use Rattle.promises.specs.Laws.{if_has}
use Rattle.text_semantics.specs.Written.{two}
use Rattle.text_semantics.specs.Numbers as No
use Rattle.text_semantics.specs.Token as T
use Rattle.text_semantics.specs.Token.{Token, name, number, mark, bad}
use Rattle.text_semantics.specs.Lexing.{Placed}
use Rattle.text_semantics.specs.Meaning.{number_of}
use Rattle.text_semantics.specs.Reading.{Symbol, one, the, a_name, a_number, factor_s, minus_s, more, signed_s, relation_s, item_s}
use Rattle.text_semantics.specs.Reading.{claim_s, items_s, gives_s, given_s, actions_s, try_s, few_s, lines_s, body_s, text_s}
use Rattle.text_machine.specs.Entry.{Draft, FULL, mark_in, at_action, at_text, drafted, put}
use Rattle.text_machine.specs.Sheet as S
use Rattle.text_machine.specs.Sheet.{Sheet, Piece, Kept, Level, headed, kept_in, keeping, outer, let_go, branches}
use Rattle.text_machine.specs.Sheet.{with_total, with_levels, blocks_of, innermost, long, class_bytes, DECLARED}
use Rattle.text_machine.specs.Sheet.{declaring, classed, classes, bodied, counts, stands, acts, settled, braces, tries, opens}
use Rattle.text_machine.specs.Sheet.{closed, standing, blocks_from, file}
use Rattle.text_machine.specs.Machine.{Reader, at_first, draft_after, sheet_after, after, goes, turned}
use Rattle.text_machine.specs.Machine as M
use Rattle.text_agrees.specs.Stages.{Comes}
use Rattle.text_agrees.specs.Seen.{begins, kind_kept}
use Rattle.text_agrees.specs.Goodness.{Item, a_class, another, joined, places_from, Written, Numbers, numbers}
use Rattle.text_agrees.specs.Goodness.{turns, fine, Calling}

-- THE BYTES that are written down: of pieces, and of tries that are kept.
abbrev spread : List Piece → ℕ
spread [] = 0
spread (p ∷ ps) = length p.bytes + spread ps

abbrev held_in : Option Kept → ℕ
held_in none = 0
held_in (some x) = 4 + length x.body

abbrev held : List Level → ℕ
held [] = 0
held (l ∷ ls) = held_in l.kept + held ls

abbrev weight : Sheet → ℕ
weight z = length z.declared + spread z.pieces + held z.levels + 4 * blocks_of z

-- n bytes more have been counted than are written down.
pub record Light (n : ℕ) (z : Sheet) : Type 0 where
  pub most : weight z + n ≤ z.total

spread-append : (ps qs : List Piece) → spread (ps ++ qs) ≡ spread ps + spread qs
spread-append [] qs = omega arith
spread-append (p ∷ ps) qs = let a = spread-append ps qs in omega arith

keeping-held : (o : Option Kept) (ls : List Level) → held (keeping o ls) + held_in (kept_in ls) ≤ held_in o + held ls
keeping-held o [] = omega arith
keeping-held o (l ∷ ls) = omega arith

outer-held : (ls : List Level) → held (outer ls) ≤ held ls
outer-held [] = omega arith
outer-held (l ∷ ls) = omega arith

headed-length : (k : ℕ) (bs : List ℕ) → length (headed k bs) ≡ 4 + length bs
headed-length k bs = omega arith

-- BLOCKS that are counted.
set_most : (xs : List ℕ) (i v : ℕ) → get_or (set xs i v) i 0 ≤ v
set_most [] i v = omega arith
set_most (x ∷ xs) zero v = omega arith
set_most (x ∷ xs) (suc i) v = set_most xs i v

-- CHANGES. So many bytes are counted, of a record that is no block.
light_counted : {s : Sheet} (g n : ℕ) → eqb g K.BLOCK ≡ false → Light 0 s → (with_total s (W.more s.seen g 1) n).total < FULL
    → Light n (with_total s (W.more s.seen g 1) n)
light_counted {s} g n e l h =
    let a = l.most in
    let b = get_or-set_other s.seen g K.BLOCK (get_or s.seen g 0 + 1) 0 (λ i. eqb-false g K.BLOCK e (sym i)) in
    record { most = omega arith }

light_declaring : {s : Sheet} (bs : List ℕ) → Light (length bs) s → Light 0 (declaring bs s)
unfolding declaring
light_declaring {s} bs l =
    let a = l.most in
    if_has (Light 0) (ltb DECLARED (length s.declared + length bs))
    (λ e. record { most = omega arith })
    (λ e. let b = length-append s.declared bs in record { most = omega arith })

light_classed : {s : Sheet} (n p : ℕ) → Light n s → Light n (classed p s)
unfolding classed
light_classed {s} n p l =
    if_has (Light n) (leb F.most_classes (length s.class_at)) (λ e. record { most = l.most }) (λ e. record { most = l.most })

-- A piece more: nothing else changes.
module _ (k : ℕ) (bs : List ℕ) (s : Sheet) where
  abbrev crowded : Bool
  crowded = leb F.most_actions (length s.pieces) || ltb F.longest_file (s.staged + length (headed k bs))

  stands-weight : weight (stands k bs s) ≤ weight s + (4 + length bs)
  unfolding stands
  stands-weight =
      let a = spread-append s.pieces (record { block = innermost s.levels; bytes = headed k bs } ∷ []) in
      if_has (λ (z : Sheet). weight z ≤ weight s + (4 + length bs)) crowded (λ e. omega arith) (λ e. omega arith)

  stands_total : (stands k bs s).total ≡ s.total
  unfolding stands
  stands_total = if_has (λ (z : Sheet). z.total ≡ s.total) crowded (λ e. refl) (λ e. refl)

  stands_levels : (stands k bs s).levels ≡ s.levels
  unfolding stands
  stands_levels = if_has (λ (z : Sheet). z.levels ≡ s.levels) crowded (λ e. refl) (λ e. refl)

light_counts : {s : Sheet} (d : Draft) → Light 0 s → (counts d s).total < FULL → Light (4 + d.size) (counts d s)
unfolding counts
light_counts {s} d l =
    if_has (λ (z : Sheet). z.total < FULL → Light (4 + d.size) z) (leb s.last_block (innermost s.levels))
    (λ e h. record { most = (counted h).most }) (λ e h. counted h)
  where
    counted : (with_total s (W.more s.seen K.ACTION 1) (long d)).total < FULL
        → Light (4 + d.size) (with_total s (W.more s.seen K.ACTION 1) (long d))
    counted h = light_counted K.ACTION (long d) refl l h

-- ACTIONS, where a draft's body is no longer than its size.
abbrev Sized : Draft → Type 0
Sized d = length d.body ≤ d.size

light_acts : {s : Sheet} (d : Draft) → Sized d → Light 0 s → (acts d s).total < FULL → Light 0 (acts d s)
unfolding acts
light_acts {s} d f l h =
    let e = stands_total d.kind d.body (counts d s) in
    let a = (light_counts d l (omega arith)).most in
    let b = stands-weight d.kind d.body (counts d s) in
    record { most = omega arith }

light_settled : {s : Sheet} → Light 0 s → Light 0 (settled s)
unfolding settled
light_settled {s} l = go (kept_in s.levels) refl
  where
    go : (o : Option Kept) → kept_in s.levels ≡ o → Light 0 (let_go o s)
    go none e = l
    go (some x) e =
        let a = stands-weight K.TRY x.body s in
        let b = stands_total K.TRY x.body s in
        let f = stands_levels K.TRY x.body s in
        let g = keeping-held none (stands K.TRY x.body s).levels in
        let h : held_in (kept_in (stands K.TRY x.body s).levels) ≡ 4 + length x.body =
        ap (λ ls. held_in (kept_in ls)) f ∙ ap held_in e in
        let m = l.most in
        record { most = omega arith }

light_closed : {s : Sheet} → Light 0 s → Light 0 (closed s)
unfolding closed
light_closed {s} l =
    let a = (light_settled l).most in let b = outer-held (settled s).levels in record { most = omega arith }

light_braces : {s : Sheet} → Light 0 s → (braces s).total < FULL → Light 0 (braces s)
unfolding braces
light_braces {s} l h =
    let a = l.most in
    let b = set_most s.seen K.BLOCK (get_or s.seen K.BLOCK 0 + 1) in
    record { most = omega arith }

early : (z : Sheet) → (braces z).total < FULL → z.total < FULL
unfolding braces
early z h = omega arith

light_tries : {s : Sheet} (d : Draft) → Sized d → Light 0 s → (tries d s).total < FULL → Light 0 (tries d s)
unfolding tries
light_tries {s} d f l = go (kept_in s.levels) refl
  where
    new : Option Kept
    new = some (record { line = d.line; body = d.body })

    go : (o : Option Kept) → kept_in s.levels ≡ o → (branches d o s).total < FULL
        → Light 0 (with_levels (branches d o s) (keeping new (branches d o s).levels))
    go none e h =
        let a = (light_counts d l h).most in
        let b = keeping-held new (counts d s).levels in
        record { most = omega arith }
    go (some x) e h =
        let a = l.most in
        let b = keeping-held new s.levels in
        let g : held_in (kept_in s.levels) ≡ 4 + length x.body = ap held_in e in
        record { most = omega arith }

light_opens : {s : Sheet} (d : Draft) → Sized d → Light 0 s → (opens d s).total < FULL → Light 0 (opens d s)
unfolding opens
light_opens {s} d f l h =
    light_braces (if_has (λ (z : Sheet). z.total < FULL → Light 0 z) (eqb d.kind K.TRY)
    (λ e. light_tries d f l) (λ e. light_acts d f l)
    (early (if eqb d.kind K.TRY then tries d s else acts d s) h)) h

-- DECLARATIONS.
declaring_total : (bs : List ℕ) (s : Sheet) → (declaring bs s).total ≡ s.total
unfolding declaring
declaring_total bs s =
    if_has (λ (z : Sheet). z.total ≡ s.total) (ltb DECLARED (length s.declared + length bs)) (λ e. refl) (λ e. refl)

light_declares : {s : Sheet} (d : Draft) → eqb d.kind K.BLOCK ≡ false → Sized d → Light 0 s → (S.declares d s).total < FULL
    → Light 0 (S.declares d s)
unfolding S.declares
light_declares {s} d k f l h =
    let t : Sheet = with_total s (W.more s.seen d.kind 1) (long d) in
    let e = declaring_total (headed d.kind d.body) t in
    let a = (light_counted d.kind (long d) k l (omega arith)).most in
    light_declaring {s = t} (headed d.kind d.body) (record { most = omega arith })

classed_total : (p : ℕ) (s : Sheet) → (classed p s).total ≡ s.total
unfolding classed
classed_total p s =
    if_has (λ (z : Sheet). z.total ≡ s.total) (leb F.most_classes (length s.class_at)) (λ e. refl) (λ e. refl)

light_classes : {s : Sheet} (p b : ℕ) → Light 0 s → (classes p b s).total < FULL → Light 0 (classes p b s)
unfolding classes
light_classes {s} p b l h =
    let t : Sheet = with_total s (W.more s.seen K.CLASS 1) class_bytes in
    let e = declaring_total (headed K.CLASS (two b)) (classed p t) in
    let f = classed_total p t in
    light_declaring (headed K.CLASS (two b)) (light_classed 6 p (light_counted K.CLASS class_bytes refl l (omega arith)))

light_done : {s : Sheet} (d : Draft) → eqb d.kind K.BLOCK ≡ false → Sized d → Light 0 s → (M.done d s).total < FULL
    → Light 0 (M.done d s)
light_done {s} d k f l =
    if_has (λ (z : Sheet). z.total < FULL → Light 0 z) (M.is_declaration d)
    (λ e. light_declares d k f l) (λ e. light_acts d f l)

-- The body block of a class stands within the declarations.
class_within : (c n : ℕ) (xs : List Item) → c < length (places_from n xs)
    → get_or (places_from n xs) c 0 + 2 ≤ n + length (joined xs)
class_within c n [] h = absurd (omega arith)
class_within zero n (a_class a b ∷ xs) h = omega arith
class_within (suc c) n (a_class a b ∷ xs) h = let e = class_within c (n + 6) xs (omega arith) in omega arith
class_within zero n (another k bs ∷ xs) h =
    let e = class_within zero (n + length (headed k bs)) xs h in
    let f = length-append (headed k bs) (joined xs) in omega arith
class_within (suc c) n (another k bs ∷ xs) h =
    let e = class_within (suc c) (n + length (headed k bs)) xs h in
    let f = length-append (headed k bs) (joined xs) in omega arith

light_bodied : {s : Sheet} (c b : ℕ) → c < length s.class_at → Written s → Light 0 s → Light 0 (bodied c b s)
unfolding bodied
light_bodied {s} c b h w l =
    let p : ℕ = get_or s.class_at c 0 in
    let g = ap length w.places in
    let e = class_within c 0 w.items (omega arith) in
    let i : get_or s.class_at c 0 ≡ get_or (places_from 0 w.items) c 0 = ap (λ ps. get_or ps c 0) w.places in
    let j = ap length w.declared in
    let m : length (take p s.declared ++ two b ++ drop (p + 2) s.declared) ≡ length s.declared =
    simp (length-append, length-take, length-drop) (omega arith) in
    let a = l.most in
    record { most = omega arith }

-- WHAT A TOKEN WRITES DOWN.
module _ (r : Reader) (d : Draft) (k : eqb d.kind K.BLOCK ≡ false) (f : Sized d) (l : Light 0 r.sheet) where
  abbrev Still : Sheet → Type 0
  Still z = z.total < FULL → Light 0 z

  light_sign : (a b : Bool) → Still (if a then M.done d r.sheet else if b then opens d r.sheet else r.sheet)
  light_sign true b = light_done d k f l
  light_sign false true = light_opens d f l
  light_sign false false = λ h. l

  light_more : (a : Bool) → Still (if a then M.done d r.sheet else r.sheet)
  light_more true = light_done d k f l
  light_more false = λ h. l

  light_behind : (t : Token) → Still (M.behind r.sheet t)
  light_behind t =
      if_has Still (eqb (mark_in t) T.RB) (λ e h. light_closed l)
      (λ e. if_has Still (eqb (mark_in t) T.ETRY) (λ g h. l) (λ g h. light_settled l))

  light_first : (a : Bool) (p : ℕ) → Still (if a then S.with_first r.sheet p else r.sheet)
  light_first true p = λ h. record { most = l.most }
  light_first false p = λ h. l

  light_body : (a : Bool) → Numbers r → Written r.sheet
      → Still (if a then classes d.line No.no_body r.sheet else M.embodied r)
  light_body true n w = light_classes d.line No.no_body l
  light_body false n w = λ h. light_braces (go (M.is_known r) refl (early _ h)) h
    where
      go : (b : Bool) → M.is_known r ≡ b
          → Still (if b then bodied (number_of r.known r.called) (blocks_of r.sheet) r.sheet
          else classes r.draft.line (blocks_of r.sheet) r.sheet)
      go true e = λ h. light_bodied (number_of r.known r.called) (blocks_of r.sheet) (n e) w l
      go false e = light_classes r.draft.line (blocks_of r.sheet) l

  light_step : (s : Symbol) (t : Token) (p : ℕ) → (s ≡ body_s → Numbers r) → Written r.sheet → Still (sheet_after r d s t p)
  unfolding sheet_after
  light_step (one (the c)) t p n w = light_sign (eqb c T.SEMI) (eqb c T.LB)
  light_step (one a_name) t p n w = λ h. l
  light_step (one (a_number b)) t p n w = λ h. l
  light_step (factor_s b) t p n w = λ h. l
  light_step (minus_s b) t p n w = λ h. l
  light_step (more b m) t p n w = light_more (eqb (mark_in t) T.SEMI)
  light_step signed_s t p n w = λ h. l
  light_step relation_s t p n w = λ h. l
  light_step item_s t p n w = λ h. l
  light_step claim_s t p n w = λ h. l
  light_step items_s t p n w = λ h. l
  light_step gives_s t p n w = λ h. l
  light_step given_s t p n w = λ h. l
  light_step actions_s t p n w = light_behind t
  light_step try_s t p n w = light_behind t
  light_step (few_s b) t p n w = λ h. l
  light_step lines_s t p n w = light_behind t
  light_step body_s t p n w = light_body (eqb (mark_in t) T.SEMI) (n refl) w
  light_step text_s t p n w = light_first (eqb r.sheet.total 0) p

-- KINDS. No draft is a block's.
pub record Plain (d : Draft) : Type 0 where
  pub is : eqb d.kind K.BLOCK ≡ false

plain_if : (b : Bool) {x y : Draft} → Plain x → Plain y → Plain (if b then x else y)
plain_if true e f = e
plain_if false e f = f

plain_kept : (o : Option Kept) → Plain (S.resumed o)
plain_kept none = record { is = refl }
plain_kept (some x) = record { is = refl }

set_plain : (b : Bool) → eqb (if b then K.SET else K.LSET) K.BLOCK ≡ false
set_plain true = refl
set_plain false = refl

plain_action : (w i k p : ℕ) (o : Option Kept) (t : Token) → Plain (at_action w i k p (S.resumed o) t)
unfolding at_action put
plain_action w i k p o (name x) = record { is = set_plain (eqb w K.VAR) }
plain_action w i k p o (number n) = record { is = refl }
plain_action w i k p o (mark s) =
    plain_if (eqb s T.HOLD) (record { is = refl }) (plain_if (eqb s T.PRIORITY) (record { is = refl })
    (plain_if (eqb s T.TRACE) (record { is = refl }) (plain_if (eqb s T.DO) (record { is = refl })
    (plain_if (eqb s T.PUTR) (record { is = refl }) (plain_if (eqb s T.PUTB) (record { is = refl })
    (plain_if (eqb s T.PUTS) (record { is = refl }) (plain_if (eqb s T.BECOME) (record { is = refl })
    (plain_if (eqb s T.REQ) (record { is = refl }) (plain_if (eqb s T.TRY) (record { is = refl })
    (plain_if (eqb s T.ETRY) (record { is = (plain_kept o).is }) (plain_if (eqb s T.WHILE) (record { is = refl })
    (plain_if (eqb s T.START) (record { is = refl }) (plain_if (eqb s T.CLOSE) (record { is = refl })
    (record { is = refl }))))))))))))))
plain_action w i k p o bad = record { is = refl }

plain_text : (p : ℕ) (t : Token) → Plain (at_text p t)
unfolding at_text
plain_text p (name x) = record { is = refl }
plain_text p (number n) = record { is = refl }
plain_text p (mark s) =
    plain_if (eqb s T.RES) (record { is = refl }) (plain_if (eqb s T.BIN) (record { is = refl })
    (plain_if (eqb s T.SYNC) (record { is = refl }) (plain_if (eqb s T.VAR) (record { is = refl })
    (plain_if (eqb s T.SAMPLER) (record { is = refl }) (plain_if (eqb s T.CLASS) (record { is = refl })
    (record { is = refl }))))))
plain_text p bad = record { is = refl }

plain_step : (r : Reader) (s : Symbol) (t : Token) (p : ℕ) → Plain r.draft → Plain (draft_after r s t p)
unfolding draft_after drafted
plain_step r s t p h = go s
  where
    same : (s : Symbol) → begins s ≡ false → Plain (draft_after r s t p)
    same s b = record { is = ap (λ n. eqb n K.BLOCK) (kind_kept r s t p b) ∙ h.is }

    go : (s : Symbol) → Plain (draft_after r s t p)
    go (one (the x)) = same (one (the x)) refl
    go (one a_name) = same (one a_name) refl
    go (one (a_number b)) = same (one (a_number b)) refl
    go (factor_s n) = same (factor_s n) refl
    go (minus_s n) = same (minus_s n) refl
    go (more n c) = same (more n c) refl
    go signed_s = same signed_s refl
    go relation_s = same relation_s refl
    go item_s = same item_s refl
    go claim_s = same claim_s refl
    go items_s = same items_s refl
    go gives_s = same gives_s refl
    go given_s = same given_s refl
    go actions_s = plain_action _ _ _ p (kept_in r.sheet.levels) t
    go try_s = plain_action _ _ _ p (kept_in r.sheet.levels) t
    go (few_s n) = same (few_s n) refl
    go lines_s = plain_action _ _ _ p (kept_in r.sheet.levels) t
    go body_s = same body_s refl
    go text_s = plain_text p t

-- EVERY READER of which this is so has it behind a token, too.
pub record Counts (r : Reader) : Type 0 where
  pub plain : Plain r.draft
  pub light : Light 0 r.sheet

pub counts_first : Counts at_first
counts_first = record { plain = record { is = refl }; light = record { most = omega arith } }

counts_after : (r : Reader) (s : Symbol) (ns : List Symbol) (t : Token) (p : ℕ) → (s ≡ body_s → Numbers r)
    → Written r.sheet → Counts r
    → length (draft_after r s t p).body ≤ (draft_after r s t p).size
    → (sheet_after r (draft_after r s t p) s t p).total < FULL
    → Counts (after r (draft_after r s t p) (sheet_after r (draft_after r s t p) s t p) ns s t p)
unfolding after
counts_after r s ns t p n w c f h =
    let k = plain_step r s t p c.plain in
    record { plain = k; light = light_step r (draft_after r s t p) k.is f c.light s t p n w h }

pub counts_turn : (r q : Reader) (k : Placed) → Comes r → turned r k ≡ goes q → length q.draft.body ≤ q.draft.size
    → q.sheet.total < FULL → Counts r → Counts q
unfolding after
counts_turn r q k c e f h l =
    let a = turns r k q e in
    let b = fine c in
    rw a.now
    (counts_after r a.top (a.rule.next ++ a.rest) k.token k.place
    (λ i. numbers r {ss = a.rest} b.sorted (subst (λ (ss : List Symbol). Calling r.draft.role r.known r.called ss)
    (a.pile ∙ ap (λ s. s ∷ a.rest) i) b.calling))
    b.written l (rw a.now at f) (rw a.now at h))

-- THE FILE. What stands in the blocks from b on, of all pieces.
abbrev from : ℕ → List Piece → ℕ
from b [] = 0
from b (p ∷ ps) = (if leb b p.block then length p.bytes else 0) + from b ps

from_all : (b : ℕ) (ps : List Piece) → from b ps ≤ spread ps
from_all b [] = omega arith
from_all b (p ∷ ps) = go (leb b p.block) (from_all b ps)
  where
    go : (t : Bool) → from b ps ≤ spread ps → (if t then length p.bytes else 0) + from b ps ≤ length p.bytes + spread ps
    go true h = omega arith
    go false h = omega arith

from_next : (b : ℕ) (ps : List Piece) → length (standing b ps) + from (suc b) ps ≡ from b ps
from_next b [] = refl
from_next b (p ∷ ps) = go (eqb b p.block) refl (from_next b ps)
  where
    go : (t : Bool) → eqb b p.block ≡ t → length (standing b ps) + from (suc b) ps ≡ from b ps
        → length (collect (λ q. q.bytes) (if t then p ∷ keep (λ q. eqb b q.block) ps else keep (λ q. eqb b q.block) ps))
        + ((if leb (suc b) p.block then length p.bytes else 0) + from (suc b) ps)
        ≡ (if leb b p.block then length p.bytes else 0) + from b ps
    go true e h =
        let f = eqb-true b p.block e in
        let g = length-append p.bytes (standing b ps) in
        rw (lt-leb (suc b) p.block (omega arith), le-leb b p.block (omega arith)) (omega arith)
    go false e h = other (leb (suc b) p.block) refl (leb b p.block) refl
      where
        other : (t : Bool) → leb (suc b) p.block ≡ t → (u : Bool) → leb b p.block ≡ u
            → length (standing b ps) + ((if t then length p.bytes else 0) + from (suc b) ps)
            ≡ (if u then length p.bytes else 0) + from b ps
        other true g true i = omega arith
        other true g false i = absurd (omega (arith, leb-true (suc b) p.block g, leb-false b p.block i))
        other false g true i =
            absurd (omega (arith, leb-false (suc b) p.block g, leb-true b p.block i, eqb-false b p.block e))
        other false g false i = omega arith

blocks_length : (n b : ℕ) (ps : List Piece) → length (blocks_from n b ps) ≤ 4 * n + from b ps
unfolding blocks_from
blocks_length zero b ps = omega arith
blocks_length (suc n) b ps =
    let a = blocks_length n (suc b) ps in
    let c = from_next b ps in
    let e = length-append (standing b ps) (blocks_from n (suc b) ps) in
    omega arith

pub file_fits : {r : Reader} → Counts r → length (file r.sheet) ≤ r.sheet.total
unfolding file
file_fits {r} c =
    let z : Sheet = r.sheet in
    let a = c.light.most in
    let b = blocks_length (blocks_of z) 0 z.pieces in
    let d = from_all 0 z.pieces in
    let e = length-append z.declared (blocks_from (blocks_of z) 0 z.pieces) in
    omega arith
