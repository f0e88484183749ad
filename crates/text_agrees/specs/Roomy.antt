-- The machine's room is never used up: there is room for every pile that fits, and for every name.
-- Assumes nothing.
use Rattle.std.specs.Prelude.{ℕ, zero, suc, ◌+◌, ◌-◌, ◌≤◌, ◌<◌, ◌≡◌, refl, List, [], ◌∷◌, ◌++◌, Bool, true, false, ◌&&◌, ◌⊎◌, eqb, leb, length, get_or, if◌then◌else◌}
use Rattle.std.proofs.Common.{arith, ap, subst, inl, inr, le-ltb, leb-true}
use Rattle.std.proofs.Math.Option.{Option, some}
use Rattle.std.proofs.lemmas.Bool.{lt-leb, not-true}
use Rattle.semantics.specs.Kinds as K
use Rattle.semantics.specs.Numbers as F
use Rattle.text_semantics.specs.Token as T
use Rattle.text_semantics.specs.Token.{Token, name, number, mark, bad}
use Rattle.text_semantics.specs.Grammar.{Name}
use Rattle.text_semantics.specs.Names as N
use Rattle.text_semantics.specs.Names.{Known, Event, LOCAL, knows, trouble}
use Rattle.text_semantics.specs.Table.{Rule}
use Rattle.text_semantics.specs.Reading.{Symbol, Of, say, step, Row, rows, sign, name_s, one, the, a_name, a_number, factor_s}
use Rattle.text_semantics.specs.Reading.{minus_s, more, signed_s, relation_s, item_s, claim_s, items_s, gives_s, given_s, actions_s}
use Rattle.text_semantics.specs.Reading.{try_s, few_s, lines_s, body_s, text_s}
use Rattle.text_machine.specs.Entry.{ASK, mark_in, name_in}
use Rattle.text_machine.specs.Machine.{Reader, ruled, named, event_at, known_after, after, keeps, highest_pile, most_names}
use Rattle.text_agrees.specs.Height.{Low, low_step, left_height, most, blocks, is_block, Each, Found, found}
use Rattle.text_agrees.specs.Events.{Clue, clue_of, asked, of_name, lone, in_block, told, happens, Fewer, known_step}
use Rattle.text_agrees.specs.Sheets.{deepness}
use Rattle.text_agrees.specs.Tales.{never, both_true}
use Rattle.text_agrees.specs.Seen.{naming}
use Rattle.text_agrees.specs.Tallies.{tally, one_if, limit, Counted, Thing, counted_room, counted_most}
use Rattle.text_agrees.specs.Stages.{Comes, Blocks, outside, acting, trying, flat, Part, block, brace, rest, plain}
use Rattle.text_agrees.specs.Stages.{narrow, Rest, last, before, Stage, ended, fresh, opening, naming as at_name}
use Rattle.text_agrees.specs.Stages.{declared, entity, title, titled, lines, local, few, acts, Held, roomy}

-- THE PILE. Braces that still have to be opened.
abbrev pub is_brace : Symbol → Bool
is_brace (one (the k)) = eqb k T.LB
is_brace (one a_name) = false
is_brace (one (a_number b)) = false
is_brace (factor_s n) = false
is_brace (minus_s n) = false
is_brace (more n c) = false
is_brace signed_s = false
is_brace relation_s = false
is_brace item_s = false
is_brace claim_s = false
is_brace items_s = false
is_brace gives_s = false
is_brace given_s = false
is_brace actions_s = false
is_brace try_s = false
is_brace (few_s n) = false
is_brace lines_s = false
is_brace body_s = false
is_brace text_s = false

abbrev pub braces : List Symbol → ℕ
braces [] = 0
braces (s ∷ ss) = (if is_brace s then 1 else 0) + braces ss

-- n blocks are open, and at most one is about to be.
record Opens (n : ℕ) (ss : List Symbol) : Type 0 where
  each : blocks ss ≡ n + braces ss
  once : braces ss ≤ 1

flat_block : (a : Bool) (s : Symbol) → flat a s ≡ true → is_block s ≡ false
flat_block a (one x) e = refl
flat_block a (factor_s n) e = refl
flat_block a (minus_s n) e = refl
flat_block a (more n c) e = refl
flat_block a signed_s e = refl
flat_block a relation_s e = refl
flat_block a item_s e = refl
flat_block a claim_s e = refl
flat_block a items_s e = refl
flat_block a gives_s e = refl
flat_block a given_s e = refl
flat_block a actions_s e = never e
flat_block a try_s e = never e
flat_block a (few_s n) e = refl
flat_block a lines_s e = never e
flat_block a body_s e = refl
flat_block a text_s e = refl

flat_brace : (a : Bool) (s : Symbol) → flat a s ≡ true → is_brace s ≡ false
flat_brace a (one (the k)) e = not-true (eqb k T.LB) e
flat_brace a (one a_name) e = refl
flat_brace a (one (a_number b)) e = refl
flat_brace a (factor_s n) e = refl
flat_brace a (minus_s n) e = refl
flat_brace a (more n c) e = refl
flat_brace a signed_s e = refl
flat_brace a relation_s e = refl
flat_brace a item_s e = refl
flat_brace a claim_s e = refl
flat_brace a items_s e = refl
flat_brace a gives_s e = refl
flat_brace a given_s e = refl
flat_brace a actions_s e = refl
flat_brace a try_s e = refl
flat_brace a (few_s n) e = refl
flat_brace a lines_s e = refl
flat_brace a body_s e = refl
flat_brace a text_s e = refl

opens_flat : (a : Bool) (s : Symbol) {n : ℕ} {ss : List Symbol} → flat a s ≡ true → Opens n ss → Opens n (s ∷ ss)
opens_flat a s e x =
    let f : one_if (is_block s) ≡ 0 = ap one_if (flat_block a s e) in
    let g : one_if (is_brace s) ≡ 0 = ap one_if (flat_brace a s e) in
    record { each = omega (arith, x.each); once = omega (arith, x.once) }

blocks_opened : {n : ℕ} {ss : List Symbol} → Blocks n ss → (blocks ss ≡ n) × (braces ss ≡ 0)
blocks_opened outside = (refl, refl)
blocks_opened (acting x) = let h = blocks_opened x in (omega (arith, h.0), omega (arith, h.1))
blocks_opened (trying x) = let h = blocks_opened x in (omega (arith, h.0), omega (arith, h.1))

part_opens : {a b : Bool} {n : ℕ} {ss : List Symbol} → Part a b n ss → Opens n ss
part_opens (block x) = let h = blocks_opened x in record { each = omega (arith, h.0, h.1); once = omega (arith, h.1) }
part_opens (brace e x) = let h = blocks_opened x in record { each = omega (arith, h.0, h.1); once = omega (arith, h.1) }
part_opens {a = a} (rest {s = s} e f x) = opens_flat a s f (part_opens x)

rest_opens : {a : Bool} {ss : List Symbol} → Rest a ss → Opens 0 ss
rest_opens last = record { each = refl; once = omega arith }
rest_opens {a = a} (before {s = s} e x) = opens_flat a s (both_true (narrow s) (flat a s) e).1 (rest_opens x)

opens_as : {m n : ℕ} {ss : List Symbol} → m ≡ n → Opens n ss → Opens m ss
opens_as e x = rw e x

stage_opens : {role kind deep q l : ℕ} {ss : List Symbol} → Stage role kind deep q l ss → Opens deep ss
stage_opens (ended i) = opens_as i.closed (record { each = refl; once = omega arith })
stage_opens (fresh i) = opens_as i.closed (record { each = refl; once = omega arith })
stage_opens (opening i n x) =
    opens_as i.closed (opens_flat true (sign T.LP) refl (opens_flat true name_s refl (rest_opens x)))
stage_opens (at_name i n x) = opens_as i.closed (opens_flat true name_s refl (rest_opens x))
stage_opens (declared e f g t x) = opens_as e (rest_opens x)
stage_opens (entity i g e x) = opens_as i.closed (rest_opens x)
stage_opens (title i e) = opens_as i.closed (record { each = refl; once = omega arith })
stage_opens (titled i) = opens_as i.closed (record { each = refl; once = omega arith })
stage_opens (lines e f g) = opens_as e (record { each = refl; once = omega arith })
stage_opens (local e f g m) = opens_as e (record { each = refl; once = omega arith })
stage_opens (few e f g m) = opens_as e (record { each = refl; once = omega arith })
stage_opens (acts e f g x) = opens_as e (part_opens x)

-- A row has at most two blocks.
abbrev TwoBlocks : {s : Symbol} → List (Row s) → Type 0
TwoBlocks ws = Each (λ t ns. blocks ns ≤ 2) ws

abbrev two_blocks : {s : Symbol} → List (Row s) → Bool
two_blocks [] = true
two_blocks (w ∷ ws) = leb (blocks w.next) 2 && two_blocks ws

two_tested : {s : Symbol} (ws : List (Row s)) → two_blocks ws ≡ true → TwoBlocks ws
two_tested [] h = tt
two_tested (w ∷ ws) h =
    let b = both_true (leb (blocks w.next) 2) (two_blocks ws) h in
    (λ v. leb-true (blocks w.next) 2 b.0, two_tested ws b.1)

two_blocks_lem : (s : Symbol) → TwoBlocks (rows s)
two_blocks_lem (one x) = two_tested (rows (one x)) refl
two_blocks_lem (factor_s zero) = two_tested (rows (factor_s zero)) refl
two_blocks_lem (factor_s (suc n)) = two_tested (rows (factor_s (suc n))) refl
two_blocks_lem (minus_s zero) = two_tested (rows (minus_s zero)) refl
two_blocks_lem (minus_s (suc n)) = two_tested (rows (minus_s (suc n))) refl
two_blocks_lem (more n c) = two_tested (rows (more n c)) refl
two_blocks_lem signed_s = two_tested (rows signed_s) refl
two_blocks_lem relation_s = two_tested (rows relation_s) refl
two_blocks_lem item_s = two_tested (rows item_s) refl
two_blocks_lem claim_s = two_tested (rows claim_s) refl
two_blocks_lem items_s = two_tested (rows items_s) refl
two_blocks_lem gives_s = two_tested (rows gives_s) refl
two_blocks_lem given_s = two_tested (rows given_s) refl
two_blocks_lem actions_s = two_tested (rows actions_s) refl
two_blocks_lem try_s = two_tested (rows try_s) refl
two_blocks_lem (few_s zero) = two_tested (rows (few_s zero)) refl
two_blocks_lem (few_s (suc n)) = two_tested (rows (few_s (suc n))) refl
two_blocks_lem lines_s = two_tested (rows lines_s) refl
two_blocks_lem body_s = two_tested (rows body_s) refl
two_blocks_lem text_s = two_tested (rows text_s) refl

pub blocks_append : (ss zs : List Symbol) → blocks (ss ++ zs) ≡ blocks ss + blocks zs
blocks_append [] zs = omega arith
blocks_append (s ∷ ss) zs = omega (arith, blocks_append ss zs)

low_cons : {ss us : List Symbol} {s : Symbol} → us ≡ s ∷ ss → Low us ⊎ (us ≡ []) → Low (s ∷ ss)
low_cons e (inl x) = subst (λ (zs : List Symbol). Low zs) e x
low_cons e (inr f) = let z : ◌≡◌ {A = ℕ} 0 1 = cc in absurd (omega arith)

-- NAMES. A declaration is being read behind its name, and none comes before its semicolon; or there is room for one more.
few_locals : {role kind deep q l : ℕ} {ss : List Symbol} → Stage role kind deep q l ss → l ≤ F.locals
few_locals (ended i) = omega (arith, i.alone)
few_locals (fresh i) = omega (arith, i.alone)
few_locals (opening i n x) = omega (arith, i.alone)
few_locals (at_name i n x) = omega (arith, i.alone)
few_locals (declared e f g t x) = omega arith
few_locals (entity i g e x) = omega (arith, i.alone)
few_locals (title i e) = omega (arith, i.alone)
few_locals (titled i) = omega (arith, i.alone)
few_locals (lines e f g) = omega arith
few_locals (local e f g m) = omega arith
few_locals (few e f g m) = omega arith
few_locals (acts e f g x) = g

pub data Reading (kind q : ℕ) (ss : List Symbol) : Type 0 where
  nothing : q ≡ 0 → Reading kind q ss
  behind : q ≡ kind → Thing kind → Rest false ss → Reading kind q ss

stage_reading : {role kind deep q l : ℕ} {ss : List Symbol} → Stage role kind deep q l ss → Reading kind q ss
stage_reading (ended i) = nothing i.none
stage_reading (fresh i) = nothing i.none
stage_reading (opening i n x) = nothing i.none
stage_reading (at_name i n x) = nothing i.none
stage_reading (declared e f g t x) = behind g t x
stage_reading (entity i g e x) = nothing i.none
stage_reading (title i e) = nothing i.none
stage_reading (titled i) = nothing i.none
stage_reading (lines e f g) = nothing f
stage_reading (local e f g m) = nothing f
stage_reading (few e f g m) = nothing f
stage_reading (acts e f g x) = nothing f

abbrev pub Free : List Known → List Symbol → Type 0
Free ks ss = (length ks < most_names) ⊎ Rest false ss

counted_as : {q n l : ℕ} {ks : List Known} {xs : List ℕ} → q ≡ n → Counted q l ks xs → Counted n l ks xs
counted_as {l = l} {ks = ks} {xs = xs} e c = subst (λ (m : ℕ). Counted m l ks xs) e c

reading_free : {kind q l : ℕ} {ss : List Symbol} {ks : List Known} {xs : List ℕ} → Reading kind q ss → Counted q l ks xs →
    l ≤ F.locals → Free ks ss × (length ks ≤ most_names)
reading_free (nothing e) c h = let f = counted_room (counted_as e c) h in (inl f, omega arith)
reading_free (behind e t x) c h = (inr x, counted_most t (counted_as e c) h)

-- EVENTS: a token has at most one, and none where it stands behind the name of a declaration.
asked_one : (n : ℕ) (x : Name) → length (asked n x) ≤ 1
asked_one n x = go (leb ASK n) (eqb n K.CLASS)
  where
    go : (a b : Bool) → length (if a then N.asks ((n - ASK) ∷ []) x ∷ [] else if b then [] else N.declares n x ∷ []) ≤ 1
    go true b = omega arith
    go false true = omega arith
    go false false = omega arith

of_name_one : (t : Token) (f : Name → Event) → length (of_name t f) ≤ 1
of_name_one (name x) f = omega arith
of_name_one (number n) f = omega arith
of_name_one (mark k) f = omega arith
of_name_one bad f = omega arith

one_or_none : (b : Bool) (e : Event) → length (if b then e ∷ [] else []) ≤ 1
one_or_none true e = omega arith
one_or_none false e = omega arith

in_block_one : (n : ℕ) (t : Token) → length (in_block n t) ≤ 1
in_block_one n (name x) = omega arith
in_block_one n (number m) = omega arith
in_block_one n (mark k) = one_or_none (eqb k T.RB && lone n) N.leaves
in_block_one n bad = omega arith

told_one : (c : Clue) (s : Symbol) (t : Token) → length (told c s t) ≤ 1
unfolding told
told_one c (one (the k)) t = omega arith
told_one c (one a_name) t = asked_one c.role (name_in t)
told_one c (one (a_number b)) t = omega arith
told_one c (factor_s n) t = of_name_one t (N.asks N.value)
told_one c (minus_s n) t = of_name_one t (N.asks N.value)
told_one c (more n k) t = omega arith
told_one c signed_s t = omega arith
told_one c relation_s t = omega arith
told_one c item_s t = of_name_one t (N.asks N.variable)
told_one c claim_s t = of_name_one t (N.asks N.variable)
told_one c items_s t = omega arith
told_one c gives_s t = omega arith
told_one c given_s t = omega arith
told_one c actions_s t = in_block_one c.depth t
told_one c try_s t = in_block_one c.depth t
told_one c (few_s n) t = omega arith
told_one c lines_s t = in_block_one c.depth t
told_one c body_s t = go (eqb (mark_in t) T.SEMI)
  where
    go : (b : Bool) → length (if b then N.announces c.called ∷ [] else N.embodies c.called ∷ []) ≤ 1
    go true = omega arith
    go false = omega arith
told_one c text_s t = omega arith

plain-told : (c : Clue) (s : Symbol) (t : Token) → plain false s ≡ true → told c s t ≡ []
unfolding told
plain-told c (one (the k)) t e = refl
plain-told c (one a_name) t e = never e
plain-told c (one (a_number b)) t e = refl
plain-told c (factor_s n) t e = never e
plain-told c (minus_s n) t e = never e
plain-told c (more n k) t e = never e
plain-told c signed_s t e = refl
plain-told c relation_s t e = never e
plain-told c item_s t e = never e
plain-told c claim_s t e = never e
plain-told c items_s t e = never e
plain-told c gives_s t e = never e
plain-told c given_s t e = never e
plain-told c actions_s t e = never e
plain-told c try_s t e = never e
plain-told c (few_s n) t e = never e
plain-told c lines_s t e = never e
plain-told c body_s t e = never e
plain-told c text_s t e = never e

rest_told : (c : Clue) {s : Symbol} {ss : List Symbol} (t : Token) → Rest false (s ∷ ss) → told c s t ≡ []
unfolding told
rest_told c t last = refl
rest_told c t (before {s = s} e x) = plain-told c s t e

no_name : {ss : List Symbol} → Rest false (name_s ∷ ss) → ⊥
no_name (before e x) = never e

no_body : {ss : List Symbol} → Rest false (body_s ∷ ss) → ⊥
no_body (before e x) = never e

free_as : (ks : List Known) {us ss : List Symbol} → us ≡ ss → Free ks us → (Rest false ss → ⊥) → length ks < most_names
free_as ks e (inl h) n = h
free_as ks e (inr x) n = absurd (n (subst (λ (zs : List Symbol). Rest false zs) e x))

fewer_one : (ks : List Known) (es : List Event) → length es ≤ 1 → length ks < most_names → Fewer ks es
fewer_one ks [] f h = tt
fewer_one ks (e ∷ []) f h = (h, tt)
fewer_one ks (e ∷ d ∷ es) f h = absurd (omega arith)

free_fewer : (c : Clue) (ks : List Known) {us : List Symbol} {s : Symbol} {ss : List Symbol} (t : Token) → us ≡ s ∷ ss →
    Free ks us → Fewer ks (told c s t)
free_fewer c ks {s = s} t e (inl h) = fewer_one ks (told c s t) (told_one c s t) h
free_fewer c ks t e (inr x) =
    rw (rest_told c t (subst (λ (zs : List Symbol). Rest false zs) e x)) tt

module _ {r : Reader} (c : Comes r) where
  -- As many blocks are open as the pile has, but for the one whose brace is to come; and never more than eight.
  pub blocks_open : blocks r.pile ≡ deepness r.sheet + braces r.pile
  blocks_open = (stage_opens (roomy c).held.stage).each

  pub braces_open : braces r.pile ≤ 1
  braces_open = (stage_opens (roomy c).held.stage).once

  pub blocks_most : blocks r.pile ≤ deepness r.sheet + 1
  blocks_most = omega (arith, blocks_open, braces_open)

  pub never_deeper : deepness r.sheet ≤ F.deepest
  never_deeper = (roomy c).held.shallow

  pub never_higher : Low r.pile ⊎ (r.pile ≡ [])
  never_higher = (roomy c).low

  module _ {s : Symbol} {ss : List Symbol} (e : r.pile ≡ s ∷ ss) {t : Token} (x : Rule Of say s t) (f : step s t ≡ some x) where
    -- What comes to lie there has its place.
    pub pile_fits : length (x.next ++ ss) ≤ highest_pile
    pile_fits =
        let a : length (x.next ++ ss) ≤ most + blocks (x.next ++ ss) = left_height (low_step x (low_cons e never_higher) f) in
        let b : blocks x.next ≤ 2 = subst (λ (o : Option (Rule Of say s t)). Found (λ u ns. blocks ns ≤ 2) o) f
        (found (λ u ns. blocks ns ≤ 2) (rows s) t (two_blocks_lem s)) in
        let g : blocks r.pile ≡ blocks (s ∷ ss) = ap blocks e in
        omega (arith, blocks_append x.next ss, blocks_open, braces_open, never_deeper)

    -- So a token that fits isn't stopped by it.
    pub pile_free : (p : ℕ) → ruled r ss s t p (some x) ≡ named r (x.next ++ ss) s t p (trouble r.known (event_at r s t))
    pile_free p = rw (le-ltb highest_pile (length (x.next ++ ss)) pile_fits)

  -- The names that are known: as many of each kind as records of it are counted, and one more of the kind whose declaration is
  -- being read behind its name.
  pub reading : ℕ
  reading = (roomy c).held.q

  pub is_reading : Reading r.draft.kind reading r.pile
  unfolding reading
  is_reading = stage_reading (roomy c).held.stage

  pub names_counted : (w : ℕ) → naming w ≡ true → tally w r.known ≡ get_or r.sheet.seen w 0 + one_if (eqb w reading)
  unfolding reading
  names_counted = (roomy c).held.counted.kinds

  pub names_limits : (w : ℕ) → naming w ≡ true → get_or r.sheet.seen w 0 ≤ limit w
  names_limits = (roomy c).held.counted.limits

  pub locals_counted : tally LOCAL r.known ≤ F.locals
  locals_counted = omega (arith, (roomy c).held.counted.locals, few_locals (roomy c).held.stage)

  -- There is room for all, and for one more wherever a name may come.
  names_have : Free r.known r.pile × (length r.known ≤ most_names)
  names_have =
      let h : Held r.draft r.sheet r.known r.pile = (roomy c).held in
      reading_free (stage_reading h.stage) h.counted (few_locals h.stage)

  pub names_free : Free r.known r.pile
  names_free = names_have.0

  pub names_fit : length r.known ≤ most_names
  names_fit = names_have.1

  pub name_room : {ss : List Symbol} → r.pile ≡ name_s ∷ ss → length r.known < most_names
  name_room e = free_as r.known e names_free no_name

  pub class_room : {ss : List Symbol} → r.pile ≡ body_s ∷ ss → length r.known < most_names
  class_room e = free_as r.known e names_free no_body

  -- So the table keeps a name wherever one is declared.
  pub keeps-knows : length r.known < most_names → (e : Event) → keeps r.known e ≡ knows r.known e
  keeps-knows h e = rw (lt-leb most_names (length r.known) h)

  module _ {s : Symbol} {ss : List Symbol} (e : r.pile ≡ s ∷ ss) (t : Token) where
    pub names_fewer : Fewer r.known (happens r s t)
    unfolding happens
    names_fewer = free_fewer (clue_of r) r.known t e names_free

    -- So what is known then is what the token's events make known.
    pub known_on : known_after r s t ≡ N.after r.known (happens r s t)
    known_on = known_step r s t names_fewer
