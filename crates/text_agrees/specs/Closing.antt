-- At a cut only braces and the end are still to come: what these make of the machine's reader, and what its sheet is then.
-- Assumes nothing.
use Rattle.std.specs.Prelude.{ℕ, zero, suc, ◌+◌, ◌≤◌, ◌≡◌, Bool, true, false, not, ◌&&◌, ◌||◌, ◌⊎◌, T, eqb, leb, ltb, length, if◌then◌else◌}
use Rattle.std.proofs.Common.{arith, sym, ◌∙◌, inl, inr, ne_eqb}
use Rattle.std.proofs.Math.Path.{refl, ap, subst}
use mathlib.Core.List.{List, [], ◌∷◌, ◌++◌, append-nil}
use Rattle.std.proofs.Math.Option.{Option, none, some}
use Rattle.semantics.specs.Words as W
use Rattle.semantics.specs.Numbers as F
use Rattle.semantics.specs.Kinds as L
use Rattle.promises.specs.Laws.{no_way, not_some, if_has}
use Rattle.text_semantics.specs.Numbers as No
use Rattle.text_semantics.specs.Token as K
use Rattle.text_semantics.specs.Token.{Token, mark}
use Rattle.text_semantics.specs.Grammar.{Text, spell_text}
use Rattle.text_semantics.specs.Table.{Result, right, wrong, Values, Rule, says, some_values}
use Rattle.text_semantics.specs.Reading.{Terminal, the, a_name, a_number, token, Val, Symbol, Of, say, Row, rows, step, some_of}
use Rattle.text_semantics.specs.Reading.{reading, sign, name_s, upto, pair_s, one, factor_s, minus_s, more, signed_s, relation_s}
use Rattle.text_semantics.specs.Reading.{item_s, claim_s, items_s, gives_s, given_s, actions_s, try_s, few_s, lines_s, body_s, text_s}
use Rattle.text_semantics.specs.Reading.{Closer, round, comma, semi}
use Rattle.text_semantics.specs.Answer.{is_cut, tree_in}
use Rattle.text_promises.specs.Tables.{piled, pushed, moved, and_then, piled_next, piled_completes, completed}
use Rattle.text_semantics.specs.Written.{two}
use Rattle.text_machine.specs.Entry.{Draft, begin, mark_in}
use Rattle.text_machine.specs.Sheet as S
use Rattle.text_machine.specs.Sheet.{Sheet, blank, innermost, declaring, classed, classes, counts, acts, braces, opens, closed}
use Rattle.text_machine.specs.Machine as M
use Rattle.text_machine.specs.Machine.{Reader, at_first, draft_after, sheet_after}
use Rattle.text_agrees.specs.Flow.{next_in, effect, flow}
use Rattle.text_agrees.specs.Events.{piled_from, flow-append}
use Rattle.text_agrees.specs.Height.{Each, blocks, found_rule}
use Rattle.text_agrees.specs.Declared.{reader, first_at, declared_all, past_text, text_reads}
use Rattle.text_agrees.specs.Accounts.{account, stands-account, settled-account, closed-account}

-- WHERE SYMBOLS STAND: in a line, at its end, where `;` or `{` is read, in a block, or at the bottom.
pub data Part : Type 0 where
  inside ending block whole : Part

abbrev is_ending : Terminal → Bool
is_ending (the k) = eqb k K.SEMI || eqb k K.LB
is_ending a_name = false
is_ending (a_number b) = false

abbrev ends_or : Bool → Part
ends_or b = if b then ending else inside

abbrev closer_part : Closer → Part
closer_part round = inside
closer_part comma = inside
closer_part semi = ending

abbrev pub part : Symbol → Part
part (one x) = ends_or (is_ending x)
part (factor_s d) = inside
part (minus_s d) = inside
part (more d c) = closer_part c
part signed_s = inside
part relation_s = inside
part item_s = inside
part claim_s = inside
part items_s = inside
part gives_s = inside
part given_s = inside
part actions_s = block
part try_s = block
part (few_s k) = ending
part lines_s = block
part body_s = ending
part text_s = whole

-- THE PILES. Only blocks, and `text_s` at the bottom; so many braces are to be closed there.
pub data Closing : List Symbol → Type 0 where
  bottom : Closing (text_s ∷ [])
  in_actions : {ss : List Symbol} → Closing ss → Closing (actions_s ∷ ss)
  in_try : {ss : List Symbol} → Closing ss → Closing (try_s ∷ ss)
  in_lines : {ss : List Symbol} → Closing ss → Closing (lines_s ∷ ss)

abbrev pub many : {ss : List Symbol} → Closing ss → ℕ
many bottom = 0
many (in_actions c) = suc (many c)
many (in_try c) = suc (many c)
many (in_lines c) = suc (many c)

pub many_blocks : {ss : List Symbol} (c : Closing ss) → many c ≡ blocks ss
many_blocks bottom = refl
many_blocks (in_actions c) = omega (arith, many_blocks c)
many_blocks (in_try c) = omega (arith, many_blocks c)
many_blocks (in_lines c) = omega (arith, many_blocks c)

-- THE INVARIANT: above those, at most the end of a line, and above that, only what stands in a line.
pub data Nested : List Symbol → Type 0 where
  closing : {ss : List Symbol} → Closing ss → Nested ss
  at_end : {s : Symbol} {ss : List Symbol} → part s ≡ ending → Closing ss → Nested (s ∷ ss)
  within : {s : Symbol} {ss : List Symbol} → part s ≡ inside → Nested ss → Nested (s ∷ ss)

-- What a token leaves, by whether it is a cut; behind the end nothing is to come.
pub data After : Bool → List Symbol → Type 0 where
  over : After false []
  still : {ss : List Symbol} → Nested ss → After false ss
  cut : {ss : List Symbol} → Closing ss → After true ss

-- TESTS of what comes instead of a symbol.
abbrev is_block : Part → Bool
is_block inside = false
is_block ending = false
is_block block = true
is_block whole = false

abbrev is_inside : Part → Bool
is_inside inside = true
is_inside ending = false
is_inside block = false
is_inside whole = false

abbrev all_blocks : List Symbol → Bool
all_blocks [] = true
all_blocks (n ∷ ns) = is_block (part n) && all_blocks ns

abbrev all_inside : List Symbol → Bool
all_inside [] = true
all_inside (n ∷ ns) = is_inside (part n) && all_inside ns

abbrev line_or : Part → Bool → Bool → Bool
line_or inside a b = a
line_or ending a b = b
line_or block a b = b
line_or whole a b = false

abbrev a_line : List Symbol → Bool
a_line [] = true
a_line (n ∷ ns) = line_or (part n) (a_line ns) (all_blocks ns)

abbrev instead : Part → Bool → List Symbol → Bool
instead inside c ns = not c && all_inside ns
instead ending c ns = if c then all_blocks ns else a_line ns
instead block c ns = if c then all_blocks ns else a_line ns
instead whole c ns = not c

both : (x y : Bool) → T (x && y) → T x × T y
both true y h = (tt, h)
both false y h = absurd h

on_block : (s : Symbol) {ss : List Symbol} → T (is_block (part s)) → Closing ss → Closing (s ∷ ss)
on_block (one x) h c = go (is_ending x) h
  where
    go : {A : Type 0} (b : Bool) → T (is_block (ends_or b)) → A
    go true k = absurd k
    go false k = absurd k
on_block (factor_s d) h c = absurd h
on_block (minus_s d) h c = absurd h
on_block (more d round) h c = absurd h
on_block (more d comma) h c = absurd h
on_block (more d semi) h c = absurd h
on_block signed_s h c = absurd h
on_block relation_s h c = absurd h
on_block item_s h c = absurd h
on_block claim_s h c = absurd h
on_block items_s h c = absurd h
on_block gives_s h c = absurd h
on_block given_s h c = absurd h
on_block actions_s h c = in_actions c
on_block try_s h c = in_try c
on_block (few_s k) h c = absurd h
on_block lines_s h c = in_lines c
on_block body_s h c = absurd h
on_block text_s h c = absurd h

blocks_on : (ns : List Symbol) {ss : List Symbol} → T (all_blocks ns) → Closing ss → Closing (ns ++ ss)
blocks_on [] h c = c
blocks_on (n ∷ ns) h c = let b = both (is_block (part n)) (all_blocks ns) h in on_block n b.0 (blocks_on ns b.1 c)

line_on : (ns : List Symbol) {ss : List Symbol} → T (a_line ns) → Closing ss → Nested (ns ++ ss)
line_on [] h c = closing c
line_on (n ∷ ns) {ss} h c = go (part n) refl h (λ k. line_on ns k c)
  where
    go : (p : Part) → part n ≡ p → T (line_or p (a_line ns) (all_blocks ns)) → (T (a_line ns) → Nested (ns ++ ss)) →
        Nested (n ∷ (ns ++ ss))
    go inside e k f = within e (f k)
    go ending e k f = at_end e (blocks_on ns k c)
    go block e k f = closing (on_block n (subst (λ (p : Part). T (is_block p)) (sym e) tt) (blocks_on ns k c))
    go whole e k f = absurd k

inside_on : (ns : List Symbol) {ss : List Symbol} → T (all_inside ns) → Nested ss → Nested (ns ++ ss)
inside_on [] h c = c
inside_on (n ∷ ns) {ss} h c =
    let b = both (is_inside (part n)) (all_inside ns) h in go (part n) refl b.0 (inside_on ns b.1 c)
  where
    go : (p : Part) → part n ≡ p → T (is_inside p) → Nested (ns ++ ss) → Nested (n ∷ (ns ++ ss))
    go inside e k m = within e m
    go ending e k m = absurd k
    go block e k m = absurd k
    go whole e k m = absurd k

-- EVERY ROW passes them.
abbrev Rows : {s : Symbol} → Part → List (Row s) → Type 0
Rows p ws = Each (λ t ns. T (instead p (is_cut t) ns)) ws

abbrev all_rows : {s : Symbol} → Part → List (Row s) → Bool
all_rows p [] = true
all_rows p (w ∷ ws) = instead p (is_ending w.first) w.next && all_rows p ws

cut_token : (x : Terminal) (v : Val x) → is_cut (token x v) ≡ is_ending x
cut_token (the k) v = refl
cut_token a_name v = refl
cut_token (a_number b) v = refl

tested : {s : Symbol} (p : Part) (ws : List (Row s)) → T (all_rows p ws) → Rows p ws
tested p [] h = tt
tested p (w ∷ ws) h =
    let b = both (instead p (is_ending w.first) w.next) (all_rows p ws) h in
    (λ v. subst (λ (x : Bool). T (instead p x w.next)) (sym (cut_token w.first v)) b.0, tested p ws b.1)

row_instead : (s : Symbol) → Rows (part s) (rows s)
row_instead (one x) = tested (part (one x)) (rows (one x)) (go (is_ending x))
  where
    go : (b : Bool) → T (instead (ends_or b) b [] && true)
    go true = tt
    go false = tt
row_instead (factor_s zero) = tested inside (rows (factor_s zero)) tt
row_instead (factor_s (suc d)) = tested inside (rows (factor_s (suc d))) tt
row_instead (minus_s zero) = tested inside (rows (minus_s zero)) tt
row_instead (minus_s (suc d)) = tested inside (rows (minus_s (suc d))) tt
row_instead (more d round) = tested inside (rows (more d round)) tt
row_instead (more d comma) = tested inside (rows (more d comma)) tt
row_instead (more d semi) = tested ending (rows (more d semi)) tt
row_instead signed_s = tested inside (rows signed_s) tt
row_instead relation_s = tested inside (rows relation_s) tt
row_instead item_s = tested inside (rows item_s) tt
row_instead claim_s = tested inside (rows claim_s) tt
row_instead items_s = tested inside (rows items_s) tt
row_instead gives_s = tested inside (rows gives_s) tt
row_instead given_s = tested inside (rows given_s) tt
row_instead actions_s = tested block (rows actions_s) tt
row_instead try_s = tested block (rows try_s) tt
row_instead (few_s zero) = tested ending (rows (few_s zero)) tt
row_instead (few_s (suc k)) = tested ending (rows (few_s (suc k))) tt
row_instead lines_s = tested block (rows lines_s) tt
row_instead body_s = tested ending (rows body_s) tt
row_instead text_s = tested whole (rows text_s) tt

-- Two things that hold, written as a chain.
infixr 4 ◌and◌
◌and◌ : {A B : Type 0} → A → B → A × B
◌and◌ a b = (a, b)

behind_text : (ns : List Symbol) → T (a_line ns) → After false (ns ++ (text_s ∷ []))
behind_text ns h = still (line_on ns h bottom)

text_rows : Each (λ t ns. After (is_cut t) ns) (rows text_s)
text_rows =
    (λ v. over)
    and (λ v. pair)
    and (λ v. pair)
    and (λ v. behind_text (sign K.LP ∷ name_s ∷ sign K.RP ∷ sign K.SEMI ∷ []) tt)
    and (λ v. behind_text (sign K.LP ∷ name_s ∷ sign K.COMMA ∷ signed_s ∷ sign K.RP ∷ sign K.SEMI ∷ []) tt)
    and (λ v. behind_text (sign K.LP ∷ name_s ∷ sign K.COMMA ∷ signed_s ∷ sign K.COMMA ∷ signed_s ∷ numbered) tt)
    and (λ v. behind_text (name_s ∷ body_s ∷ []) tt)
    and (λ v. pair)
    and tt
  where
    numbered : List Symbol
    numbered = sign K.COMMA ∷ upto No.top_number ∷ sign K.RP ∷ sign K.SEMI ∷ []

    pair : After false (pair_s No.top_number (sign K.SEMI ∷ text_s ∷ []))
    pair = behind_text (pair_s No.top_number (sign K.SEMI ∷ [])) tt

-- ONE TOKEN.
by_line : (c : Bool) (ns : List Symbol) {ss : List Symbol} → T (if c then all_blocks ns else a_line ns) → Closing ss →
    After c (ns ++ ss)
by_line true ns h k = cut (blocks_on ns h k)
by_line false ns h k = still (line_on ns h k)

by_inside : (c : Bool) (ns : List Symbol) {ss : List Symbol} → T (not c && all_inside ns) → Nested ss → After c (ns ++ ss)
by_inside true ns h k = absurd h
by_inside false ns h k = still (inside_on ns h k)

module _ {s : Symbol} {t : Token} (p : Rule Of say s t) (e : step s t ≡ some p) where
  in_row : (q : Part) → part s ≡ q → T (instead q (is_cut t) p.next)
  in_row q f =
      subst (λ (x : Part). T (instead x (is_cut t) p.next)) f
      (found_rule (λ t ns. T (instead (part s) (is_cut t) ns)) p (row_instead s) e)

closing_step : {s : Symbol} {ss : List Symbol} {t : Token} (p : Rule Of say s t) → Closing (s ∷ ss) → step s t ≡ some p →
    After (is_cut t) (p.next ++ ss)
closing_step p bottom e = rw append-nil (found_rule (λ t ns. After (is_cut t) ns) p text_rows e)
closing_step {t = t} p (in_actions c) e = by_line (is_cut t) p.next (in_row p e block refl) c
closing_step {t = t} p (in_try c) e = by_line (is_cut t) p.next (in_row p e block refl) c
closing_step {t = t} p (in_lines c) e = by_line (is_cut t) p.next (in_row p e block refl) c

pub nested_step : {s : Symbol} {ss : List Symbol} {t : Token} (p : Rule Of say s t) → Nested (s ∷ ss) → step s t ≡ some p →
    After (is_cut t) (p.next ++ ss)
nested_step p (closing c) e = closing_step p c e
nested_step {t = t} p (at_end f c) e = by_line (is_cut t) p.next (in_row p e ending f) c
nested_step {t = t} p (within f n) e = by_inside (is_cut t) p.next (in_row p e inside f) n

-- MANY TOKENS.
pub still_nested : {b : Bool} {ss : List Symbol} → After b ss → Nested ss ⊎ (ss ≡ [])
still_nested over = inr refl
still_nested (still n) = inl n
still_nested (cut c) = inl (closing c)

pushed_after : (t : Token) {zs ss : List Symbol} → Nested zs → pushed Of say step t zs ≡ some ss → After (is_cut t) ss
pushed_after t {zs = []} n e = not_some e
pushed_after t {zs = s ∷ zs} {ss = ss} n e = go (step s t) refl e
  where
    go : (o : Option (Rule Of say s t)) → step s t ≡ o → moved Of say s t zs o ≡ some ss → After (is_cut t) ss
    go none f g = not_some g
    go (some p) f g =
        let z : p.next ++ zs ≡ ss = cc in subst (λ (ns : List Symbol). After (is_cut t) ns) z (nested_step p n f)

pub nested_piled : (ts : List Token) {zs ss : List Symbol} → Nested zs ⊎ (zs ≡ []) → piled Of say step ts zs ≡ some ss →
    Nested ss ⊎ (ss ≡ [])
unfolding piled
nested_piled [] {zs = zs} {ss = ss} n e =
    let z : zs ≡ ss = cc in subst (λ (ns : List Symbol). Nested ns ⊎ (ns ≡ [])) z n
nested_piled (t ∷ ts) {zs = zs} {ss = ss} n e = go (pushed Of say step t zs) refl e (λ x m f. nested_piled ts {zs = x} m f)
  where
    left : {xs : List Symbol} → Nested zs ⊎ (zs ≡ []) → pushed Of say step t zs ≡ some xs → Nested xs ⊎ (xs ≡ [])
    left (inl m) f = still_nested (pushed_after t m f)
    left (inr g) f = not_some (sym (ap (λ (ys : List Symbol). pushed Of say step t ys) g) ∙ f)

    go : (o : Option (List Symbol)) → pushed Of say step t zs ≡ o →
        and_then o (λ xs. piled Of say step ts xs) ≡ some ss →
        ((xs : List Symbol) → Nested xs ⊎ (xs ≡ []) → piled Of say step ts xs ≡ some ss → Nested ss ⊎ (ss ≡ [])) →
        Nested ss ⊎ (ss ≡ [])
    go none f g k = not_some g
    go (some xs) f g k = k xs (left n f) g

-- AT A CUT.
is_closing : {b : Bool} {ss : List Symbol} → b ≡ true → After b ss → Closing ss
is_closing e over = no_way e
is_closing e (still n) = no_way e
is_closing e (cut c) = c

pub cut_closing : (ts : List Token) (t : Token) {ss : List Symbol} → is_cut t ≡ true →
    piled Of say step (ts ++ (t ∷ [])) (text_s ∷ []) ≡ some ss → Closing ss
cut_closing ts t {ss = ss} h e =
    go (piled Of say step ts (text_s ∷ [])) refl (sym (piled_next Of say step ts t (text_s ∷ [])) ∙ e)
  where
    last : {zs : List Symbol} → Nested zs ⊎ (zs ≡ []) → pushed Of say step t zs ≡ some ss → Closing ss
    last (inl n) f = is_closing h (pushed_after t n f)
    last (inr g) f = not_some (sym (ap (λ (ys : List Symbol). pushed Of say step t ys) g) ∙ f)

    go : (o : Option (List Symbol)) → piled Of say step ts (text_s ∷ []) ≡ o →
        and_then o (λ zs. pushed Of say step t zs) ≡ some ss → Closing ss
    go none f g = not_some g
    go (some zs) f g = last (nested_piled ts (inl (closing bottom)) f) g

-- WHAT IS STILL TO COME then, in the fewest words: so many braces, and the end.
unfoldable pub closers : ℕ → List Token
closers zero = mark K.END ∷ []
closers (suc n) = mark K.RB ∷ closers n

pub says-closers : {ss : List Symbol} (c : Closing ss) → says Of say ss (some_values Of some_of ss) [] ≡ closers (many c)
unfolding closers
says-closers bottom = refl
says-closers (in_actions c) = ap (λ (ts : List Token). mark K.RB ∷ ts) (says-closers c)
says-closers (in_try c) = ap (λ (ts : List Token). mark K.RB ∷ ts) (says-closers c)
says-closers (in_lines c) = ap (λ (ts : List Token). mark K.RB ∷ ts) (says-closers c)

-- What these make of the sheet.
unfoldable pub closed_by : ℕ → Sheet → Sheet
unfolding closed
closed_by zero s = s
closed_by (suc n) s = closed_by n (closed s)

pub closed_by-account : (n : ℕ) (s : Sheet) → account (closed_by n s) ≡ account s
unfolding closed_by
closed_by-account zero s = refl
closed_by-account (suc n) s = closed_by-account n (closed s) ∙ closed-account s

module _ (place : ℕ → ℕ) where
  one_on : {ss : List Symbol} (c : Closing ss) (at : ℕ) (s : Sheet) →
      first_at (place (suc at + many c)) (closed_by (many c) (closed s))
      ≡ first_at (place (at + suc (many c))) (closed_by (many c) (closed s))
  one_on c at s = ap (λ (n : ℕ). first_at (place n) (closed_by (many c) (closed s))) (omega arith)

  pub flow-closers : {ss : List Symbol} (c : Closing ss) (at : ℕ) (r : Reader) →
      (flow place at (closers (many c)) ss r).sheet ≡ first_at (place (at + many c)) (closed_by (many c) r.sheet)
  unfolding closers flow closed_by
  flow-closers bottom at r = ap (λ (n : ℕ). first_at (place n) r.sheet) (omega arith)
  flow-closers (in_actions c) at r = flow-closers c (suc at) (effect r actions_s (mark K.RB) (place at)) ∙ one_on c at r.sheet
  flow-closers (in_try c) at r = flow-closers c (suc at) (effect r try_s (mark K.RB) (place at)) ∙ one_on c at r.sheet
  flow-closers (in_lines c) at r = flow-closers c (suc at) (effect r lines_s (mark K.RB) (place at)) ∙ one_on c at r.sheet

-- The pile that a reader has is the one that tells what fits.
pub piled_from_lem : (ts : List Token) (zs : List Symbol) {ss : List Symbol} → piled Of say step ts zs ≡ some ss →
    piled_from ts zs ≡ ss
unfolding piled piled_from
piled_from_lem [] zs e = cc
piled_from_lem (t ∷ ts) [] e = not_some e
piled_from_lem (t ∷ ts) (s ∷ zs) {ss = ss} e = go (step s t) e (λ x f. piled_from_lem ts x f)
  where
    go : (o : Option (Rule Of say s t)) → and_then (moved Of say s t zs o) (λ xs. piled Of say step ts xs) ≡ some ss →
        ((xs : List Symbol) → piled Of say step ts xs ≡ some ss → piled_from ts xs ≡ ss) → piled_from ts (next_in o ++ zs) ≡ ss
    go none f k = not_some f
    go (some p) f k = k (p.next ++ zs) f

-- AT A CUT SOMETHING HAS BEEN COUNTED. Before the first cut only these symbols are to come.
abbrev early : Symbol → Bool
early (one x) = true
early (factor_s d) = true
early (minus_s d) = true
early (more d c) = true
early signed_s = true
early relation_s = true
early item_s = true
early claim_s = true
early items_s = true
early gives_s = true
early given_s = true
early actions_s = false
early try_s = false
early (few_s k) = false
early lines_s = false
early body_s = true
early text_s = true

abbrev all_early : List Symbol → Bool
all_early [] = true
all_early (s ∷ ss) = early s && all_early ss

early_append : (ns ss : List Symbol) → T (all_early ns) → T (all_early ss) → T (all_early (ns ++ ss))
early_append [] ss h k = k
early_append (n ∷ ns) ss h k = go (early n) h (λ x. early_append ns ss x k)
  where
    go : (b : Bool) → T (b && all_early ns) → (T (all_early ns) → T (all_early (ns ++ ss))) → T (b && all_early (ns ++ ss))
    go true x f = f x
    go false x f = x

abbrev early_rows : {s : Symbol} → List (Row s) → Bool
early_rows [] = true
early_rows (w ∷ ws) = all_early w.next && early_rows ws

abbrev Earlies : {s : Symbol} → List (Row s) → Type 0
Earlies ws = Each (λ t ns. T (all_early ns)) ws

earlies : {s : Symbol} (ws : List (Row s)) → T (early_rows ws) → Earlies ws
earlies [] h = tt
earlies (w ∷ ws) h = let b = both (all_early w.next) (early_rows ws) h in (λ v. b.0, earlies ws b.1)

early-rows : (s : Symbol) → T (early s) → (s ≡ body_s) ⊎ Earlies (rows s)
early-rows (one x) h = inr (earlies (rows (one x)) tt)
early-rows (factor_s zero) h = inr (earlies (rows (factor_s zero)) tt)
early-rows (factor_s (suc d)) h = inr (earlies (rows (factor_s (suc d))) tt)
early-rows (minus_s zero) h = inr (earlies (rows (minus_s zero)) tt)
early-rows (minus_s (suc d)) h = inr (earlies (rows (minus_s (suc d))) tt)
early-rows (more d c) h = inr (earlies (rows (more d c)) tt)
early-rows signed_s h = inr (earlies (rows signed_s) tt)
early-rows relation_s h = inr (earlies (rows relation_s) tt)
early-rows item_s h = inr (earlies (rows item_s) tt)
early-rows claim_s h = inr (earlies (rows claim_s) tt)
early-rows items_s h = inr (earlies (rows items_s) tt)
early-rows gives_s h = inr (earlies (rows gives_s) tt)
early-rows given_s h = inr (earlies (rows given_s) tt)
early-rows actions_s h = absurd h
early-rows try_s h = absurd h
early-rows (few_s k) h = absurd h
early-rows lines_s h = absurd h
early-rows body_s h = inl refl
early-rows text_s h = inr (earlies (rows text_s) tt)

-- A record or a block counts.
abbrev pub Counted : Sheet → Type 0
Counted s = 1 ≤ s.total

braces_counted : (s : Sheet) → Counted (braces s)
unfolding braces
braces_counted s = omega arith

acts_counted : (d : Draft) (s : Sheet) → Counted (acts d s)
unfolding acts counts
acts_counted d s =
    let e = ap (λ (x : Sheet). x.total) (stands-account d.kind d.body (counts d s)) in
    let c : Counted (counts d s) =
    if_has Counted (leb s.last_block (innermost s.levels)) (λ x. omega arith) (λ x. omega arith) in
    omega arith

declares_counted : (d : Draft) (s : Sheet) → Counted (S.declares d s)
unfolding S.declares declaring
declares_counted d s =
    if_has Counted (ltb S.DECLARED (length s.declared + length (S.headed d.kind d.body)))
    (λ x. omega arith) (λ x. omega arith)

done_counted : (d : Draft) (s : Sheet) → Counted (M.done d s)
done_counted d s = if_has Counted (M.is_declaration d) (λ x. declares_counted d s) (λ x. acts_counted d s)

opens_counted : (d : Draft) (s : Sheet) → Counted (opens d s)
unfolding opens
opens_counted d s = braces_counted (if eqb d.kind L.TRY then S.tries d s else acts d s)

classes_counted : (p b : ℕ) (s : Sheet) → Counted (classes p b s)
unfolding classes declaring classed
classes_counted p b s = go (leb F.most_classes (length s.class_at))
  where
    t : Sheet
    t = S.with_total s (W.more s.seen L.CLASS 1) S.class_bytes

    new : Sheet
    new = S.with_class t (s.class_at ++ ((length s.declared + 4) ∷ [])) (s.class_line ++ (p ∷ [])) (length s.class_at)

    go : (x : Bool) → Counted (declaring (S.headed L.CLASS (two b)) (if x then S.filled t else new))
    go true =
        if_has Counted (ltb S.DECLARED (length s.declared + length (S.headed L.CLASS (two b)))) (λ x. omega arith)
        (λ x. omega arith)
    go false =
        if_has Counted (ltb S.DECLARED (length s.declared + length (S.headed L.CLASS (two b)))) (λ x. omega arith)
        (λ x. omega arith)

body_counted : (r : Reader) (d : Draft) (b : Bool) →
    Counted (if b then classes d.line No.no_body r.sheet else M.embodied r)
body_counted r d true = classes_counted d.line No.no_body r.sheet
body_counted r d false = braces_counted _

behind_counted : (s : Sheet) (t : Token) → Counted s → Counted (M.behind s t)
behind_counted s t h =
    if_has Counted (eqb (mark_in t) K.RB) (λ x. let e = ap (λ (z : Sheet). z.total) (closed-account s) in omega arith)
    (λ x. if_has Counted (eqb (mark_in t) K.ETRY) (λ y. h)
    (λ y. let e = ap (λ (z : Sheet). z.total) (settled-account s) in omega arith))

still_counted : (r : Reader) (d : Draft) (s : Symbol) (t : Token) (p : ℕ) → Counted r.sheet → Counted (sheet_after r d s t p)
unfolding sheet_after
still_counted r d (one (the k)) t p h =
    if_has Counted (eqb k K.SEMI) (λ x. done_counted d r.sheet)
    (λ x. if_has Counted (eqb k K.LB) (λ y. opens_counted d r.sheet) (λ y. h))
still_counted r d (one a_name) t p h = h
still_counted r d (one (a_number b)) t p h = h
still_counted r d (factor_s n) t p h = h
still_counted r d (minus_s n) t p h = h
still_counted r d (more n c) t p h = if_has Counted (eqb (mark_in t) K.SEMI) (λ x. done_counted d r.sheet) (λ x. h)
still_counted r d signed_s t p h = h
still_counted r d relation_s t p h = h
still_counted r d item_s t p h = h
still_counted r d claim_s t p h = h
still_counted r d items_s t p h = h
still_counted r d gives_s t p h = h
still_counted r d given_s t p h = h
still_counted r d actions_s t p h = behind_counted r.sheet t h
still_counted r d try_s t p h = behind_counted r.sheet t h
still_counted r d (few_s n) t p h = h
still_counted r d lines_s t p h = behind_counted r.sheet t h
still_counted r d body_s t p h = body_counted r d (eqb (mark_in t) K.SEMI)
still_counted r d text_s t p h = if_has Counted (eqb r.sheet.total 0) (λ x. h) (λ x. h)

-- A cut that comes early counts.
no_cut : {A : Type 0} (b : Bool) → b ≡ true → T (not b) → A
no_cut true e h = absurd h
no_cut false e h = no_way e

not_inside : {A : Type 0} {s : Symbol} {t : Token} (x : Rule Of say s t) → is_cut t ≡ true → step s t ≡ some x →
    part s ≡ inside → A
not_inside {t = t} x h e f = no_cut (is_cut t) h (both (not (is_cut t)) (all_inside x.next) (in_row x e inside f)).0

sign_counted : (d : Draft) (s : Sheet) (a b : Bool) → a || b ≡ true →
    Counted (if a then M.done d s else if b then opens d s else s)
sign_counted d s true b e = done_counted d s
sign_counted d s false true e = opens_counted d s
sign_counted d s false false e = no_way e

-- Of what follows a factor only a semicolon is a cut.
abbrev pub Semicolon : Token → Type 0
Semicolon t = is_cut t ≡ true → eqb (mark_in t) K.SEMI ≡ true

pub more_cut : (n : ℕ) (c : Closer) → Each (λ t ns. Semicolon t) (rows (more n c))
more_cut n round = (λ v q. no_way q, (λ v q. no_way q, (λ v q. no_way q, (λ v q. no_way q, tt))))
more_cut n comma = (λ v q. no_way q, (λ v q. no_way q, (λ v q. no_way q, (λ v q. no_way q, tt))))
more_cut n semi = (λ v q. no_way q, (λ v q. no_way q, (λ v q. no_way q, (λ v q. refl, tt))))

cut_counted : (s : Symbol) {t : Token} (r : Reader) (d : Draft) (p : ℕ) (x : Rule Of say s t) → is_cut t ≡ true →
    step s t ≡ some x → T (early s) → Counted (sheet_after r d s t p)
unfolding sheet_after
cut_counted (one (the k)) r d p x h e y =
    sign_counted d r.sheet (eqb k K.SEMI) (eqb k K.LB) (go (eqb k K.SEMI || eqb k K.LB) refl)
  where
    go : (b : Bool) → (eqb k K.SEMI || eqb k K.LB) ≡ b → b ≡ true
    go true f = refl
    go false f = not_inside x h e (ap ends_or f)
cut_counted (one a_name) r d p x h e y = not_inside x h e refl
cut_counted (one (a_number b)) r d p x h e y = not_inside x h e refl
cut_counted (factor_s n) r d p x h e y = not_inside x h e refl
cut_counted (minus_s n) r d p x h e y = not_inside x h e refl
cut_counted (more n c) r d p x h e y =
    rw (found_rule (λ u ns. Semicolon u) x (more_cut n c) e h) (done_counted d r.sheet)
cut_counted signed_s r d p x h e y = not_inside x h e refl
cut_counted relation_s r d p x h e y = not_inside x h e refl
cut_counted item_s r d p x h e y = not_inside x h e refl
cut_counted claim_s r d p x h e y = not_inside x h e refl
cut_counted items_s r d p x h e y = not_inside x h e refl
cut_counted gives_s r d p x h e y = not_inside x h e refl
cut_counted given_s r d p x h e y = not_inside x h e refl
cut_counted actions_s r d p x h e y = absurd y
cut_counted try_s r d p x h e y = absurd y
cut_counted (few_s n) r d p x h e y = absurd y
cut_counted lines_s r d p x h e y = absurd y
cut_counted body_s {t} r d p x h e y = body_counted r d (eqb (mark_in t) K.SEMI)
cut_counted text_s {t} r d p x h e y = no_cut (is_cut t) h (in_row x e whole refl)

-- So nothing but early symbols is to come, or something has been counted; and behind a cut it has.
abbrev Begun : Sheet → List Symbol → Type 0
Begun s ss = Counted s ⊎ T (all_early ss)

effect_begun : (r : Reader) (s : Symbol) (ss : List Symbol) {t : Token} (p : ℕ) (x : Rule Of say s t) → step s t ≡ some x →
    Begun r.sheet (s ∷ ss) → Begun (effect r s t p).sheet (x.next ++ ss)
unfolding effect
effect_begun r s ss {t = t} p x e (inl h) = inl (still_counted r (draft_after r s t p) s t p h)
effect_begun r s ss {t} p x e (inr h) = go (early-rows s b.0)
  where
    b : T (early s) × T (all_early ss)
    b = both (early s) (all_early ss) h

    in_body : Counted (sheet_after r (draft_after r s t p) body_s t p)
    in_body = body_counted r (draft_after r s t p) (eqb (mark_in t) K.SEMI)

    go : (s ≡ body_s) ⊎ Earlies (rows s) → Begun (sheet_after r (draft_after r s t p) s t p) (x.next ++ ss)
    go (inl f) = inl (subst (λ (y : Symbol). Counted (sheet_after r (draft_after r s t p) y t p)) (sym f) in_body)
    go (inr w) = inr (early_append x.next ss (found_rule (λ u ns. T (all_early ns)) x w e) b.1)

module _ (place : ℕ → ℕ) where
  flow_begun : (at : ℕ) (ts : List Token) (zs : List Symbol) {ss : List Symbol} (r : Reader) → Begun r.sheet zs →
      piled Of say step ts zs ≡ some ss → Begun (flow place at ts zs r).sheet ss
  unfolding flow piled
  flow_begun at [] zs {ss} r h e = let z : zs ≡ ss = cc in subst (λ (ns : List Symbol). Begun r.sheet ns) z h
  flow_begun at (t ∷ ts) [] r h e = not_some e
  flow_begun at (t ∷ ts) (s ∷ zs) {ss} r h e = go (step s t) refl e (λ xs b f. flow_begun (suc at) ts xs _ b f)
    where
      go : (o : Option (Rule Of say s t)) → step s t ≡ o →
          and_then (moved Of say s t zs o) (λ xs. piled Of say step ts xs) ≡ some ss →
          ((xs : List Symbol) → Begun (effect r s t (place at)).sheet xs → piled Of say step ts xs ≡ some ss →
          Begun (flow place (suc at) ts xs (effect r s t (place at))).sheet ss) →
          Begun (flow place (suc at) ts (next_in o ++ zs) (effect r s t (place at))).sheet ss
      go none f g k = not_some g
      go (some x) f g k = k (x.next ++ zs) (effect_begun r s zs (place at) x f h) g

  last_counted : (at : ℕ) (t : Token) (zs : List Symbol) {ss : List Symbol} (r : Reader) → is_cut t ≡ true → Begun r.sheet zs →
      pushed Of say step t zs ≡ some ss → Counted (flow place at (t ∷ []) zs r).sheet
  unfolding flow effect
  last_counted at t [] r h b e = not_some e
  last_counted at t (s ∷ zs) {ss} r h b e = go (step s t) refl e b
    where
      d : Draft
      d = draft_after r s t (place at)

      go : (o : Option (Rule Of say s t)) → step s t ≡ o → moved Of say s t zs o ≡ some ss → Begun r.sheet (s ∷ zs) →
          Counted (sheet_after r d s t (place at))
      go none f g k = not_some g
      go (some x) f g (inl k) = still_counted r d s t (place at) k
      go (some x) f g (inr k) = cut_counted s r d (place at) x h f (both (early s) (all_early zs) k).0

  pub behind_cut : (ts : List Token) (t : Token) {ss : List Symbol} → is_cut t ≡ true →
      piled Of say step (ts ++ (t ∷ [])) (text_s ∷ []) ≡ some ss →
      Counted (flow place 0 (ts ++ (t ∷ [])) (text_s ∷ []) at_first).sheet
  behind_cut ts t {ss} h e =
      subst (λ (r : Reader). Counted r.sheet) (sym (flow-append place 0 ts (t ∷ []) (text_s ∷ []) at_first))
      (go (piled Of say step ts (text_s ∷ [])) refl (sym (piled_next Of say step ts t (text_s ∷ [])) ∙ e))
    where
      before : Reader
      before = flow place 0 ts (text_s ∷ []) at_first

      go : (o : Option (List Symbol)) → piled Of say step ts (text_s ∷ []) ≡ o →
          and_then o (λ zs. pushed Of say step t zs) ≡ some ss →
          Counted (flow place (0 + length ts) (t ∷ []) (piled_from ts (text_s ∷ [])) before).sheet
      go none f g = not_some g
      go (some zs) f g =
          subst (λ (ns : List Symbol). Counted (flow place (0 + length ts) (t ∷ []) ns before).sheet)
          (sym (piled_from_lem ts (text_s ∷ []) f))
          (last_counted (0 + length ts) t zs before h (flow_begun 0 ts (text_s ∷ []) at_first (inr tt) f) g)

-- Where something has been counted, the end leaves the sheet as it is.
first_total : (p : ℕ) (s : Sheet) → (first_at p s).total ≡ s.total
first_total p s = if_has (λ (x : Sheet). x.total ≡ s.total) (eqb s.total 0) (λ e. refl) (λ e. refl)

first_stays : (p : ℕ) (s : Sheet) → Counted s → first_at p s ≡ s
first_stays p s h = rw (ne_eqb s.total 0 (λ q. omega arith))

tree_is : (o : Result (Values Of (text_s ∷ []))) → (completed o).0 ≡ tree_in o
tree_is (right v) = refl
tree_is (wrong n v) = refl

-- The pile in a reader is not looked at.
from_start : (place : ℕ → ℕ) (ts : List Token) (t : Token) (us : List Token) →
    flow place 0 ((ts ++ (t ∷ [])) ++ us) (text_s ∷ []) at_first
    ≡ flow place 0 ((ts ++ (t ∷ [])) ++ us) (text_s ∷ []) (reader [] [] 0 (begin 0 0 0) blank)
unfolding flow effect
from_start place [] t us = refl
from_start place (x ∷ ts) t us = refl

-- AT A CUT the tree of the tokens so far, its braces closed, makes the reader's sheet with its open blocks closed.
module _ (place : ℕ → ℕ) (ts : List Token) (t : Token) (ss : List Symbol) (h : is_cut t ≡ true)
    (e : piled Of say step (ts ++ (t ∷ [])) (text_s ∷ []) ≡ some ss) where
  abbrev pub cut_tokens : List Token
  cut_tokens = ts ++ (t ∷ [])

  abbrev pub cut_tree : Text
  cut_tree = tree_in (reading cut_tokens)

  abbrev pub tree_sheet : Sheet
  tree_sheet = declared_all place [] cut_tree 0 blank

  abbrev pub cut_reader : Reader
  cut_reader = flow place 0 cut_tokens (text_s ∷ []) at_first

  abbrev pub open_braces : ℕ
  open_braces = many (cut_closing ts t h e)

  pub cut_spelled : spell_text cut_tree [] ≡ cut_tokens ++ closers open_braces
  unfolding reading
  cut_spelled =
      ap (λ (x : Text). spell_text x []) (sym (tree_is (reading cut_tokens)))
      ∙ (piled_completes Of say step some_of cut_tokens (text_s ∷ []) ss e).spelled
      ∙ ap (λ (us : List Token). cut_tokens ++ us) (says-closers (cut_closing ts t h e))

  cut_flow : (p q : ℕ) × (first_at p (closed_by open_braces cut_reader.sheet) ≡ first_at q tree_sheet)
  cut_flow =
      let c = cut_closing ts t h e in
      let n : ℕ = 0 + length cut_tokens in
      let w = text_reads place cut_tree in (
        place (n + many c),
        place (past_text place cut_tree 0),
        sym (flow-closers place c n cut_reader)
            ∙ ap (λ (r : Reader). r.sheet)
            (ap (λ (zs : List Symbol). flow place n (closers open_braces) zs cut_reader)
            (sym (piled_from_lem cut_tokens (text_s ∷ []) e))
            ∙ sym (flow-append place 0 cut_tokens (closers open_braces) (text_s ∷ []) at_first)
            ∙ from_start place ts t (closers open_braces)
            ∙ ap (λ (us : List Token). flow place 0 us (text_s ∷ []) (reader [] [] 0 (begin 0 0 0) blank)) (sym cut_spelled)
            ∙ w.3),
      )

  pub cut_sheet : closed_by open_braces cut_reader.sheet ≡ tree_sheet
  cut_sheet =
      let f = cut_flow in
      let s : Sheet = closed_by open_braces cut_reader.sheet in
      let l = behind_cut place ts t h e in
      let a = ap (λ (x : Sheet). x.total) (closed_by-account open_braces cut_reader.sheet) in
      let b = sym (first_total f.0 s) ∙ ap (λ (x : Sheet). x.total) f.2 ∙ first_total f.1 tree_sheet in
      sym (first_stays f.0 s (omega arith)) ∙ f.2 ∙ first_stays f.1 tree_sheet (omega arith)

  -- All but the pieces, their bytes, the levels and `full` are the reader's own.
  pub cut_account : account cut_reader.sheet ≡ account tree_sheet
  cut_account = sym (closed_by-account open_braces cut_reader.sheet) ∙ ap account cut_sheet
