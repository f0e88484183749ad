-- Where a token comes, for every reader that the machine comes to: its pile, its open blocks, and how many names it knows.
-- Assumes nothing.
use Prim.Native.Nat.{ℕ, zero, suc, ◌+◌, ◌≤◌, ◌<◌}
use Rattle.std.proofs.Common.{arith, sym, ◌∙◌, inl, inr, get_or-set_other}
use Rattle.std.specs.Prelude.{◌≡◌, Bool, not, ◌&&◌, ◌||◌, ◌⊎◌, length, set, if◌then◌else◌}
use Rattle.std.proofs.Math.Path.{refl, ap, subst}
use mathlib.Core.List.{List, [], ◌∷◌, ◌++◌, map}
use Rattle.std.proofs.Math.Bool.{true, false}
use Rattle.std.proofs.Math.Option.{Option, none, some}
use Rattle.std.proofs.Math.Dec.{eqb, leb, ltb}
use Rattle.std.proofs.Math.ListN.{get_or}
use borrow.Author.Tests.{lt-leb, ltb-true, ltb-false, not-false, not-true, eq-eqb, ne_eqb}
use Rattle.semantics.specs.Words.{Outcome, Passed, ◌>>◌, need}
use Rattle.semantics.specs.Words as W
use Rattle.semantics.specs.Kinds as K
use Rattle.semantics.specs.Numbers as F
use Rattle.semantics.specs.Record.{row_of}
use Rattle.semantics.specs.Decode.{judged, none_seen}
use Rattle.text_semantics.specs.Numbers as No
use Rattle.text_semantics.specs.Token as T
use Rattle.text_semantics.specs.Token.{Token, name, number, mark}
use Rattle.text_semantics.specs.Lexing.{Placed}
use Rattle.text_semantics.specs.Grammar.{Name, no_branches, no_locals, spell_act, actions}
use Rattle.text_semantics.specs.Grammar as G
use Rattle.text_semantics.specs.Names.{Known, knows, trouble, bodied, one_more, LOCAL}
use Rattle.text_semantics.specs.Meaning.{number_of, kind_of}
use Rattle.text_semantics.specs.Table.{Rule}
use Rattle.text_semantics.specs.Reading.{Symbol, Of, say, step, Row, rows, token, action_rows, try_row, local_row, sign, one, the}
use Rattle.text_semantics.specs.Reading.{a_name, a_number, factor_s, minus_s, more, signed_s, relation_s, item_s, claim_s, items_s}
use Rattle.text_semantics.specs.Reading.{gives_s, given_s, actions_s, try_s, few_s, lines_s, body_s, text_s, name_s, round}
use Rattle.text_machine.specs.Entry.{Draft, ASK, asking, drafted, at_action, at_text, mark_in, name_in, put}
use Rattle.text_machine.specs.Sheet.{Sheet, Kept, kept_in, resumed}
use Rattle.text_machine.specs.Sheet as S
use Rattle.text_machine.specs.Machine.{Reader, stops, goes, turned, on_pile, ruled, named, gone_on, at_first, highest_pile}
use Rattle.text_machine.specs.Machine.{most_names, known_after, draft_after, sheet_after, cut_at, after, event_at, done}
use Rattle.text_machine.specs.Machine.{is_declaration, over_limit, faulty, is_known, behind, passes, leaving}
use Rattle.text_agrees.specs.Flow.{effect}
use Rattle.text_agrees.specs.Height.{Low, bottom, Left, over, stands, low_step, Each, Found, found}
use Rattle.text_agrees.specs.Events.{Clue, clue_of}
use Rattle.text_agrees.specs.Clues.{Cue, cue_in, led, clue_effect, number_cue}
use Rattle.text_agrees.specs.Sheets.{deepness, classes_deep, bodied_deep, braces_deep, settled_deep, closed_deep}
use Rattle.text_agrees.specs.Sheets.{acts_deep}
use Rattle.text_agrees.specs.Tales.{never, both_true}
use Rattle.text_agrees.specs.Seen.{kind_kept, begins, Same, same_refl, same_more, saw_declares, saw_classes, saw_bodied}
use Rattle.text_agrees.specs.Seen.{saw_braces, saw_behind, same_done, same_opens}
use Rattle.text_agrees.specs.Tallies.{Counted, Thing, res, bin, sync, var, class, sampler, counted_same, counted_named}
use Rattle.text_agrees.specs.Tallies.{counted_local, counted_bodied, counted_left, counted_more, counted_room, limit}
use Rattle.text_agrees.specs.Tallies.{more_at, counted_first}

-- EVERY READER that the machine comes to.
pub data Comes : Reader → Type 0 where
  starts : Comes at_first
  moves : {r s : Reader} (k : Placed) → Comes r → turned r k ≡ goes s → Comes s

-- Where it goes on, the token fits, its name is in no trouble, and no limit is passed.
pub record Went (r : Reader) (ss : List Symbol) (s : Symbol) (t : Token) (p : ℕ) (z : Reader) : Type 0 where
  pub rule : Rule Of say s t
  pub fits : step s t ≡ some rule
  pub calm : trouble r.known (event_at r s t) ≡ none
  pub uncut : cut_at r (draft_after r s t p) s t (sheet_after r (draft_after r s t p) s t p) ≡ none
  pub is : z ≡ after r (draft_after r s t p) (sheet_after r (draft_after r s t p) s t p) (rule.next ++ ss) s t p

pub went : (r : Reader) (ss : List Symbol) (s : Symbol) (t : Token) (p : ℕ) {z : Reader} →
    ruled r ss s t p (step s t) ≡ goes z → Went r ss s t p z
went r ss s t p {z = z} h = go (step s t) refl h
  where
    d : Draft
    d = draft_after r s t p

    cut : (x : Rule Of say s t) → step s t ≡ some x → trouble r.known (event_at r s t) ≡ none → (o : Option ℕ) →
        cut_at r d s t (sheet_after r d s t p) ≡ o → gone_on r d (sheet_after r d s t p) (x.next ++ ss) s t p o ≡ goes z →
        Went r ss s t p z
    cut x e f none g h = record { rule = x; fits = e; calm = f; uncut = g; is = cc }
    cut x e f (some q) g h = let w : ◌≡◌ {A = ℕ} 0 1 = cc in absurd (omega arith)

    name_in : (x : Rule Of say s t) → step s t ≡ some x → (o : Option ℕ) → trouble r.known (event_at r s t) ≡ o →
        named r (x.next ++ ss) s t p o ≡ goes z → Went r ss s t p z
    name_in x e (some n) f h = let w : ◌≡◌ {A = ℕ} 0 1 = cc in absurd (omega arith)
    name_in x e none f h = cut x e f (cut_at r d s t (sheet_after r d s t p)) refl h

    high : (x : Rule Of say s t) → step s t ≡ some x → (b : Bool) →
        (if b then stops No.GRAMMAR p else named r (x.next ++ ss) s t p (trouble r.known (event_at r s t))) ≡ goes z →
        Went r ss s t p z
    high x e true h = let w : ◌≡◌ {A = ℕ} 0 1 = cc in absurd (omega arith)
    high x e false h = name_in x e (trouble r.known (event_at r s t)) refl h

    go : (o : Option (Rule Of say s t)) → step s t ≡ o → ruled r ss s t p o ≡ goes z → Went r ss s t p z
    go none e h = let w : ◌≡◌ {A = ℕ} 0 1 = cc in absurd (omega arith)
    go (some x) e h = high x e (ltb highest_pile (length (x.next ++ ss))) h

-- WHAT IS TO COME. Open blocks, the innermost first, above `text_s`.
pub data Blocks : ℕ → List Symbol → Type 0 where
  outside : Blocks 0 (text_s ∷ [])
  acting : {n : ℕ} {ss : List Symbol} → Blocks n ss → Blocks (suc n) (actions_s ∷ ss)
  trying : {n : ℕ} {ss : List Symbol} → Blocks n ss → Blocks (suc n) (try_s ∷ ss)

-- What an action has behind its first token, but for its brace and blocks; a says whether its names ask for something.
abbrev pub flat : Bool → Symbol → Bool
flat a (one (the k)) = not (eqb k T.LB)
flat a (one a_name) = a
flat a (one (a_number b)) = true
flat a (factor_s n) = true
flat a (minus_s n) = true
flat a (more n c) = true
flat a signed_s = true
flat a relation_s = true
flat a item_s = true
flat a claim_s = true
flat a items_s = true
flat a gives_s = a
flat a given_s = a
flat a actions_s = false
flat a try_s = false
flat a (few_s n) = false
flat a lines_s = false
flat a body_s = false
flat a text_s = false

abbrev flats : Bool → List Symbol → Bool
flats a [] = true
flats a (s ∷ ss) = flat a s && flats a ss

-- The rest of an action, and n blocks that are open; b says whether the draft is a declaration's.
pub data Part (a b : Bool) (n : ℕ) : List Symbol → Type 0 where
  block : {ss : List Symbol} → Blocks n ss → Part a b n ss
  brace : {ss : List Symbol} → b ≡ false → Blocks (suc n) ss → Part a b n (sign T.LB ∷ ss)
  rest : {s : Symbol} {ss : List Symbol} → b ≡ false → flat a s ≡ true → Part a b n ss → Part a b n (s ∷ ss)

-- The rest of a declaration, up to its semicolon; a says whether names may come.
abbrev pub narrow : Symbol → Bool
narrow (one (the k)) = not (eqb k T.SEMI)
narrow (one a_name) = true
narrow (one (a_number b)) = true
narrow (factor_s n) = false
narrow (minus_s n) = false
narrow (more n c) = false
narrow signed_s = true
narrow relation_s = false
narrow item_s = false
narrow claim_s = false
narrow items_s = false
narrow gives_s = false
narrow given_s = false
narrow actions_s = false
narrow try_s = false
narrow (few_s n) = false
narrow lines_s = false
narrow body_s = false
narrow text_s = false

abbrev pub plain : Bool → Symbol → Bool
plain a s = narrow s && flat a s

pub data Rest (a : Bool) : List Symbol → Type 0 where
  last : Rest a (sign T.SEMI ∷ text_s ∷ [])
  before : {s : Symbol} {ss : List Symbol} → plain a s ≡ true → Rest a ss → Rest a (s ∷ ss)

-- Between declarations and in a class line no block is open, no declaration is read behind its name, and no local is known.
pub record Idle (deep q l : ℕ) : Type 0 where
  pub closed : deep ≡ 0
  pub none : q ≡ 0
  pub alone : l ≡ 0

-- The next name is declared, and is no class.
pub record New (role kind : ℕ) : Type 0 where
  pub same : role ≡ kind
  pub thing : Thing kind
  pub other : eqb kind K.CLASS ≡ false

-- WHERE A TOKEN COMES: the text is over, or a declaration comes; in one, before its name, at it, and behind it; an entity; a
-- class line, at its name and behind it; its lines, the names of its locals and what comes behind each; and its actions.
pub data Stage (role kind deep q l : ℕ) : List Symbol → Type 0 where
  ended : Idle deep q l → Stage role kind deep q l []
  fresh : Idle deep q l → Stage role kind deep q l (text_s ∷ [])
  opening : {ss : List Symbol} → Idle deep q l → New role kind → Rest false ss →
      Stage role kind deep q l (sign T.LP ∷ name_s ∷ ss)
  naming : {ss : List Symbol} → Idle deep q l → New role kind → Rest false ss → Stage role kind deep q l (name_s ∷ ss)
  declared : {ss : List Symbol} → deep ≡ 0 → l ≡ 0 → q ≡ kind → Thing kind → Rest false ss → Stage role kind deep q l ss
  entity : {ss : List Symbol} → Idle deep q l → leb ASK role ≡ true → kind ≡ K.ENTITY → Rest true ss →
      Stage role kind deep q l ss
  title : Idle deep q l → role ≡ K.CLASS → Stage role kind deep q l (name_s ∷ body_s ∷ text_s ∷ [])
  titled : Idle deep q l → Stage role kind deep q l (body_s ∷ text_s ∷ [])
  lines : deep ≡ 1 → q ≡ 0 → l ≡ 0 → Stage role kind deep q l (lines_s ∷ text_s ∷ [])
  local : {k : ℕ} → deep ≡ 1 → q ≡ 0 → role ≡ LOCAL → l + k ≡ No.more_locals →
      Stage role kind deep q l (name_s ∷ few_s k ∷ actions_s ∷ text_s ∷ [])
  few : {k : ℕ} → deep ≡ 1 → q ≡ 0 → role ≡ LOCAL → l + k ≡ F.locals →
      Stage role kind deep q l (few_s k ∷ actions_s ∷ text_s ∷ [])
  acts : {n : ℕ} {ss : List Symbol} → deep ≡ suc n → q ≡ 0 → l ≤ F.locals → Part (leb ASK role) (ltb kind K.ACTION) (suc n) ss →
      Stage role kind deep q l ss

-- THE INVARIANT.
pub record Held (d : Draft) (z : Sheet) (ks : List Known) (ss : List Symbol) : Type 0 where
  pub q : ℕ
  pub l : ℕ
  pub stage : Stage d.role d.kind (deepness z) q l ss
  pub counted : Counted q l ks z.seen
  pub shallow : deepness z ≤ F.deepest

-- What one token does to it.
abbrev Uncut : Reader → Symbol → Token → ℕ → Type 0
Uncut r s t p = cut_at r (draft_after r s t p) s t (sheet_after r (draft_after r s t p) s t p) ≡ none

abbrev To : Reader → Symbol → Token → ℕ → List Symbol → Type 0
To r s t p ss = Held (draft_after r s t p) (sheet_after r (draft_after r s t p) s t p) (known_after r s t) ss

abbrev Ahead : Reader → Symbol → ℕ → List Symbol → Token → List Symbol → Type 0
Ahead r s p ss t ns = Uncut r s t p → To r s t p (ns ++ ss)

role_after : (r : Reader) (s : Symbol) (t : Token) (p : ℕ) → (draft_after r s t p).role ≡ (led (clue_of r) s t).role
unfolding effect after
role_after r s t p = ap (λ (c : Clue). c.role) (clue_effect r t p s)

deep_after : (r : Reader) (s : Symbol) (t : Token) (p : ℕ) →
    deepness (sheet_after r (draft_after r s t p) s t p) ≡ (led (clue_of r) s t).depth
unfolding effect after
deep_after r s t p = ap (λ (c : Clue). c.depth) (clue_effect r t p s)

-- A CUT that passes: what was looked at there.
neither : (x y : Bool) → x || y ≡ false → (x ≡ false) × (y ≡ false)
neither true y e = let z : ◌≡◌ {A = ℕ} 0 1 = cc in absurd (omega arith)
neither false y e = (refl, e)

not_some : (b : Bool) (n : ℕ) (o : Option ℕ) → (if b then some n else o) ≡ none → (b ≡ false) × (o ≡ none)
not_some true n o e = let z : ◌≡◌ {A = ℕ} 0 1 = cc in absurd (omega arith)
not_some false n o e = (refl, e)

record Passing (z : Sheet) (f : Bool) : Type 0 where
  sound : f ≡ false
  classes : get_or z.seen K.CLASS 0 ≤ F.most_classes
  shallow : deepness z ≤ F.deepest

kept : (z : Sheet) (d : Draft) (f : Bool) → over_limit z d f ≡ none → Passing z f
unfolding over_limit
kept z d f h =
    let a = not_some (ltb F.longest_file z.total) _ _ h in
    let b = not_some (f || ltb F.most_classes (get_or z.seen K.CLASS 0)) _ _ a.1 in
    let c = not_some (ltb F.most_actions (get_or z.seen K.ACTION 0)) _ _ b.1 in
    let e = not_some (ltb F.most_blocks (get_or z.seen K.BLOCK 0)) _ _ c.1 in
    let g = not_some (ltb F.deepest (length z.levels)) _ _ e.1 in
    let i = neither f (ltb F.most_classes (get_or z.seen K.CLASS 0)) b.0 in
    record {
      sound = i.0;
      classes = ltb-false F.most_classes (get_or z.seen K.CLASS 0) i.1;
      shallow = ltb-false F.deepest (length z.levels) g.0;
    }

-- A declaration that is right has its number.
passed_on : (n : ℕ) (b : Bool) (o : Outcome Passed) → passes (need n b >> o) ≡ true → (b ≡ true) × (passes o ≡ true)
unfolding need ◌>>◌
passed_on n true o h = (refl, h)
passed_on n false o h = let z : ◌≡◌ {A = ℕ} 0 1 = cc in absurd (omega arith)

judged_many : (seen : List ℕ) (k : ℕ) (bs : List ℕ) → passes (judged seen k bs) ≡ true →
    get_or seen (row_of k).group 0 < (row_of k).most
unfolding judged
judged_many seen k bs h =
    let a = passed_on _ _ _ h in
    let b = passed_on _ _ _ a.1 in
    let c = passed_on _ _ _ b.1 in ltb-true (get_or seen (row_of k).group 0) (row_of k).most c.0

right_many : (z : Sheet) (d : Draft) → Thing d.kind → faulty z d ≡ false → get_or z.seen d.kind 0 < limit d.kind
unfolding faulty row_of
right_many z d t h = go t (neither d.over _ h).1
  where
    many : (k : ℕ) → not (passes (judged (set z.seen K.BLOCK 0) k d.body)) ≡ false →
        get_or (set z.seen K.BLOCK 0) (row_of k).group 0 < (row_of k).most
    many k e =
        let xs : List ℕ = set z.seen K.BLOCK 0 in
        judged_many xs k d.body (not-false (passes (judged xs k d.body)) e)

    unmoved : (w : ℕ) → (w ≡ K.BLOCK → ⊥) → get_or (set z.seen K.BLOCK 0) w 0 ≡ get_or z.seen w 0
    unmoved w e = get_or-set_other z.seen K.BLOCK w 0 0 e

    go : {k : ℕ} → Thing k →
        not (passes (judged (if ltb k K.ACTION then set z.seen K.BLOCK 0 else set none_seen K.BLOCK 1) k d.body)) ≡ false →
        get_or z.seen k 0 < limit k
    go res e = omega (arith, many K.RES e, unmoved K.RES (λ f. omega (arith, f)))
    go bin e = omega (arith, many K.BIN e, unmoved K.BIN (λ f. omega (arith, f)))
    go sync e = omega (arith, many K.SYNC e, unmoved K.SYNC (λ f. omega (arith, f)))
    go var e = omega (arith, many K.VAR e, unmoved K.VAR (λ f. omega (arith, f)))
    go class e = omega (arith, many K.CLASS e, unmoved K.CLASS (λ f. omega (arith, f)))
    go sampler e = omega (arith, many K.SAMPLER e, unmoved K.SAMPLER (λ f. omega (arith, f)))

-- A number keeps that names ask for something.
number_asks : (c : Clue) (b : ℕ) → leb ASK c.role ≡ true → leb ASK (number_cue c b).0 ≡ true
number_asks c b h = go (eqb b No.top_count) (eqb b No.top_magnitude) (c.starting && eqb c.role (asking K.CLASS))
  where
    go : (x y z : Bool) →
        let k : Cue = if x then cue_in c else if y then cue_in c else if z then (asking K.RES, c.starting) else cue_in c in
        leb ASK k.0 ≡ true
    go true y z = h
    go false true z = h
    go false false true = refl
    go false false false = h

-- EVERY ROW. What is so of every row is so of the one that a token fits.
infixr 4 ◌and◌
◌and◌ : {A B : Type 0} → A → B → A × B
◌and◌ a b = (a, b)

chosen : (P : Token → List Symbol → Type 0) {s : Symbol} {t : Token} (x : Rule Of say s t) → Each P (rows s) →
    step s t ≡ some x → P t x.next
chosen P {s = s} {t = t} x a e = subst (λ (o : Option (Rule Of say s t)). Found P o) e (found P (rows s) t a)

stage_as : {a b j k m n q l : ℕ} {ss : List Symbol} → b ≡ a → k ≡ j → n ≡ m → Stage a j m q l ss → Stage b k n q l ss
stage_as e f g x = rw (e, f, g) x

no_read : {q l : ℕ} {ks : List Known} {xs : List ℕ} → q ≡ 0 → Counted q l ks xs → Counted 0 l ks xs
no_read {l = l} {ks = ks} {xs = xs} e c = subst (λ (n : ℕ). Counted n l ks xs) e c

thing_asks : {w : ℕ} → Thing w → leb ASK w ≡ false
thing_asks res = refl
thing_asks bin = refl
thing_asks sync = refl
thing_asks var = refl
thing_asks class = refl
thing_asks sampler = refl

thing_declares : {w : ℕ} → Thing w → ltb w K.ACTION ≡ true
thing_declares res = refl
thing_declares bin = refl
thing_declares sync = refl
thing_declares var = refl
thing_declares class = refl
thing_declares sampler = refl

each_map : (P Q : Token → List Symbol → Type 0) {s : Symbol} (ws : List (Row s)) →
    ((t : Token) (ns : List Symbol) → P t ns → Q t ns) → Each P ws → Each Q ws
each_map P Q [] f a = tt
each_map P Q (w ∷ ws) f a = (λ v. f (token w.first v) w.next (a.0 v), each_map P Q ws f a.1)

each_append : (P : Token → List Symbol → Type 0) {s : Symbol} (ws us : List (Row s)) → Each P ws → Each P us → Each P (ws ++ us)
each_append P [] us a b = b
each_append P (w ∷ ws) us a b = (a.0, each_append P ws us a.1 b)

-- THE ROWS OF ACTIONS. A brace is closed, an action begins, or locals do where m says so.
abbrev acted : Reader → Token → ℕ → Draft
acted r t p =
    at_action (kind_of r.known (name_in t)) (number_of r.known (name_in t)) (S.blocks_of r.sheet) p
    (resumed (kept_in r.sheet.levels)) t

data Act (r : Reader) (p : ℕ) (m : Bool) : Token → List Symbol → Type 0 where
  closes : Act r p m (mark T.RB) []
  begins_one : {t : Token} {ns : List Symbol} → eqb (mark_in t) T.RB ≡ false →
      ((n : ℕ) (ss : List Symbol) → Blocks n ss →
      Part (leb ASK (acted r t p).role) (ltb (acted r t p).kind K.ACTION) (suc n) (ns ++ ss)) → Act r p m t ns
  locals : m ≡ true → Act r p m (mark T.LOCAL) (name_s ∷ few_s No.more_locals ∷ actions_s ∷ [])

set_kind : (b : Bool) → ltb (if b then K.SET else K.LSET) K.ACTION ≡ false
set_kind true = refl
set_kind false = refl

kept_kind : (o : Option Kept) → ltb (resumed o).kind K.ACTION ≡ false
kept_kind none = refl
kept_kind (some x) = refl

module _ (r : Reader) (p : ℕ) (m : Bool) where
  action_rows_lem : (s : Symbol) (wrap : G.Act actions → Of s)
      (law : (b : G.Act actions) (x : List Token) → say s (wrap b) x ≡ spell_act b (mark T.RB ∷ x)) →
      Each (Act r p m) (action_rows s wrap law)
  unfolding at_action put
  action_rows_lem s wrap law =
      (λ v. closes)
      and (λ v. begins_one refl (λ n ss x. hold x))
      and (λ v. begins_one refl (λ n ss x. hold x))
      and (λ v. begins_one refl (λ n ss x. hold x))
      and (λ v. begins_one refl (λ n ss x. let e = set_kind (eqb (kind_of r.known v) K.VAR) in
      rest e refl (rest e refl (rest e refl (block (acting x))))))
      and (λ v. begins_one refl (λ n ss x. rest refl refl (brace refl (acting (acting x)))))
      and (λ v. begins_one refl (λ n ss x. pair x))
      and (λ v. begins_one refl (λ n ss x. pair x))
      and (λ v. begins_one refl (λ n ss x. pair x))
      and (λ v. begins_one refl (λ n ss x. rest refl refl (rest refl refl (rest refl refl (rest refl refl (block (acting x)))))))
      and (λ v. begins_one refl (λ n ss x. rest refl refl (rest refl refl (rest refl refl (block (acting x))))))
      and (λ v. begins_one refl (λ n ss x. rest refl refl (rest refl refl (rest refl refl (brace refl (acting (trying x)))))))
      and (λ v. begins_one refl (λ n ss x. rest refl refl (rest refl refl (brace refl (acting (acting x))))))
      and (λ v. begins_one refl (λ n ss x. rest refl refl (rest refl refl (rest refl refl (rest refl refl (rest refl refl
      (rest refl refl (block (acting x)))))))))
      and (λ v. begins_one refl (λ n ss x. rest refl refl (block (acting x))))
      and tt
    where
      hold : {n d : ℕ} {ss : List Symbol} → Blocks n ss →
          Part false false (suc n) (sign T.LP ∷ factor_s d ∷ more d round ∷ sign T.SEMI ∷ actions_s ∷ ss)
      hold x = rest refl refl (rest refl refl (rest refl refl (rest refl refl (block (acting x)))))

      pair : {n b : ℕ} {ss : List Symbol} → Blocks n ss →
          Part true false (suc n) (sign T.LP ∷ name_s ∷ sign T.COMMA ∷ one (a_number b) ∷ sign T.RP ∷ sign T.SEMI ∷ actions_s ∷ ss)
      pair x =
          rest refl refl (rest refl refl (rest refl refl (rest refl refl (rest refl refl (rest refl refl (block (acting x)))))))

  try_rows : Each (Act r p m) (rows try_s)
  unfolding at_action put
  try_rows =
      each_append (Act r p m) (action_rows try_s (λ b. (no_branches, b)) (λ b x. refl)) (try_row ∷ [])
      (action_rows_lem try_s (λ b. (no_branches, b)) (λ b x. refl))
      ((λ v. begins_one refl (λ n ss x. let e = kept_kind (kept_in r.sheet.levels) in
      rest e refl (rest e refl (rest e refl (brace e (acting (trying x))))))) and tt)

lines_rows : (r : Reader) (p : ℕ) → Each (Act r p true) (rows lines_s)
lines_rows r p =
    each_append (Act r p true) (action_rows lines_s (λ b. (no_locals, b)) (λ b x. refl)) (local_row ∷ [])
    (action_rows_lem r p true lines_s (λ b. (no_locals, b)) (λ b x. refl)) ((λ v. locals refl) and tt)

-- WHAT STANDS BEHIND the first token of an action.
flat_more : (s : Symbol) → flat false s ≡ true → flat true s ≡ true
flat_more (one (the k)) h = h
flat_more (one a_name) h = refl
flat_more (one (a_number b)) h = refl
flat_more (factor_s n) h = refl
flat_more (minus_s n) h = refl
flat_more (more n c) h = refl
flat_more signed_s h = refl
flat_more relation_s h = refl
flat_more item_s h = refl
flat_more claim_s h = refl
flat_more items_s h = refl
flat_more gives_s h = refl
flat_more given_s h = refl
flat_more actions_s h = h
flat_more try_s h = h
flat_more (few_s n) h = h
flat_more lines_s h = h
flat_more body_s h = h
flat_more text_s h = h

flat_up : (a b : Bool) (s : Symbol) → (a ≡ true → b ≡ true) → flat a s ≡ true → flat b s ≡ true
flat_up true true s f h = h
flat_up true false s f h = never (f refl)
flat_up false true s f h = flat_more s h
flat_up false false s f h = h

part_up : {a b c e : Bool} {n : ℕ} {ss : List Symbol} → (a ≡ true → b ≡ true) → e ≡ c → Part a c n ss → Part b e n ss
part_up f g (block x) = block x
part_up f g (brace h x) = brace (g ∙ h) x
part_up {a = a} {b = b} f g (rest {s = s} h k x) = rest (g ∙ h) (flat_up a b s f k) (part_up f g x)

part_append : {a b : Bool} {n : ℕ} (ns : List Symbol) {ss : List Symbol} → b ≡ false → flats a ns ≡ true → Part a b n ss →
    Part a b n (ns ++ ss)
part_append [] e h x = x
part_append {a = a} (s ∷ ns) e h x =
    let k = both_true (flat a s) (flats a ns) h in rest e k.0 (part_append ns e k.1 x)

-- What a token there makes of them.
abbrev FlatRow : Clue → Symbol → Token → List Symbol → Type 0
FlatRow c s t ns =
    (flats (leb ASK (led c s t).role) ns ≡ true) × (leb ASK c.role ≡ true → leb ASK (led c s t).role ≡ true)

flat_rows : (c : Clue) (s : Symbol) → flat (leb ASK c.role) s ≡ true → Each (FlatRow c s) (rows s)
unfolding led
flat_rows c (one (the k)) e = (λ v. (refl, λ g. g)) and tt
flat_rows c (one a_name) e = (λ v. (refl, λ g. g)) and tt
flat_rows c (one (a_number b)) e = (λ v. (refl, number_asks c b)) and tt
flat_rows c (factor_s zero) e =
    (λ v. (refl, λ g. g)) and (λ v. (refl, λ g. g)) and (λ v. (refl, λ g. g)) and (λ v. (refl, λ g. g)) and tt
flat_rows c (factor_s (suc n)) e =
    (λ v. (refl, λ g. g)) and (λ v. (refl, λ g. g)) and (λ v. (refl, λ g. g)) and (λ v. (refl, λ g. g))
    and (λ v. (refl, λ g. g)) and (λ v. (refl, λ g. g)) and (λ v. (refl, λ g. g)) and tt
flat_rows c (minus_s zero) e =
    (λ v. (refl, λ g. g)) and (λ v. (refl, λ g. g)) and (λ v. (refl, λ g. g)) and (λ v. (refl, λ g. g)) and tt
flat_rows c (minus_s (suc n)) e =
    (λ v. (refl, λ g. g)) and (λ v. (refl, λ g. g)) and (λ v. (refl, λ g. g)) and (λ v. (refl, λ g. g))
    and (λ v. (refl, λ g. g)) and (λ v. (refl, λ g. g)) and (λ v. (refl, λ g. g)) and tt
flat_rows c (more n k) e =
    (λ v. (refl, λ g. g)) and (λ v. (refl, λ g. g)) and (λ v. (refl, λ g. g)) and (λ v. (refl, λ g. g)) and tt
flat_rows c signed_s e = (λ v. (refl, λ g. g)) and (λ v. (refl, λ g. g)) and tt
flat_rows c relation_s e =
    (λ v. (refl, λ g. g)) and (λ v. (refl, λ g. g)) and (λ v. (refl, λ g. g)) and (λ v. (refl, λ g. g))
    and (λ v. (refl, λ g. g)) and (λ v. (refl, λ g. g)) and tt
flat_rows c item_s e =
    (λ v. (refl, λ g. refl)) and (λ v. (refl, λ g. refl)) and (λ v. (refl, λ g. refl)) and (λ v. (refl, λ g. g)) and tt
flat_rows c claim_s e =
    (λ v. (refl, λ g. g)) and (λ v. (refl, λ g. refl)) and (λ v. (refl, λ g. refl)) and (λ v. (refl, λ g. refl))
    and (λ v. (refl, λ g. g)) and tt
flat_rows c items_s e = (λ v. (refl, λ g. g)) and (λ v. (refl, λ g. g)) and tt
flat_rows c gives_s e = (λ v. (refl, λ g. g)) and (λ v. (rw e, λ g. g)) and tt
flat_rows c given_s e = (λ v. (refl, λ g. g)) and (λ v. (rw e, λ g. g)) and tt
flat_rows c actions_s e = never e
flat_rows c try_s e = never e
flat_rows c (few_s n) e = never e
flat_rows c lines_s e = never e
flat_rows c body_s e = never e
flat_rows c text_s e = never e

abbrev Onward : Reader → ℕ → List Symbol → Type 0
Onward r p [] = Unit
Onward r p (s ∷ ss) = Each (Ahead r s p ss) (rows s)

module _ (r : Reader) (p : ℕ) where
  -- Names.
  known_same : (t : Token) → leb ASK r.draft.role || eqb r.draft.role K.CLASS ≡ true →
      known_after r name_s t ≡ r.known
  unfolding known_after
  known_same t h = rw h

  known_one : (t : Token) {w : ℕ} → r.draft.role ≡ w → leb ASK w ≡ false → eqb w K.CLASS ≡ false →
      length r.known < most_names → known_after r name_s t ≡ one_more r.known w (name_in t) false
  unfolding known_after knows
  known_one t {w} e f g h =
      let a : leb ASK r.draft.role ≡ false = ap (leb ASK) e ∙ f in
      let b : eqb r.draft.role K.CLASS ≡ false = ap (λ (n : ℕ). eqb n K.CLASS) e ∙ g in
      rw (a, b, lt-leb most_names (length r.known) h) (ap (λ (n : ℕ). one_more r.known n (name_in t) false) e)

  -- Behind the first token of an action.
  record Quiet (s : Symbol) (t : Token) : Type 0 where
    same_kind : (draft_after r s t p).kind ≡ r.draft.kind
    same_known : known_after r s t ≡ r.known
    same_seen : Same r.sheet.seen (sheet_after r (draft_after r s t p) s t p).seen
    same_deep : deepness (sheet_after r (draft_after r s t p) s t p) ≡ deepness r.sheet

  unmoved : {s : Symbol} {t : Token} → begins s ≡ false → known_after r s t ≡ r.known →
      sheet_after r (draft_after r s t p) s t p ≡ r.sheet → Quiet s t
  unmoved {s = s} {t = t} e f g =
      record {
        same_kind = kind_kept r s t p e;
        same_known = f;
        same_seen = rw g (same_refl r.sheet.seen);
        same_deep = rw g;
      }

  module _ (b : ltb r.draft.kind K.ACTION ≡ false) where
    done_quiet : (x : Bool) (d : Draft) → d.kind ≡ r.draft.kind →
        Same r.sheet.seen (if x then done d r.sheet else r.sheet).seen
        × (deepness (if x then done d r.sheet else r.sheet) ≡ deepness r.sheet)
    done_quiet true d e =
        let f : is_declaration d ≡ false = ap (λ (n : ℕ). ltb n K.ACTION) e ∙ b in
        (same_done d r.sheet f, rw f (acts_deep d r.sheet))
    done_quiet false d e = (same_refl r.sheet.seen, refl)

    quiet : (s : Symbol) (t : Token) → flat (leb ASK r.draft.role) s ≡ true → Quiet s t
    unfolding sheet_after known_after
    quiet (one (the k)) t e =
        let f : (draft_after r (one (the k)) t p).kind ≡ r.draft.kind = kind_kept r (one (the k)) t p refl in
        let g = done_quiet (eqb k T.SEMI) (draft_after r (one (the k)) t p) f in
        let n = not-true (eqb k T.LB) e in
        record { same_kind = f; same_known = refl; same_seen = rw n g.0; same_deep = rw n g.1 }
    quiet (one a_name) t e =
        record {
          same_kind = kind_kept r (one a_name) t p refl;
          same_known = known_same t (rw e);
          same_seen = same_refl r.sheet.seen;
          same_deep = refl;
        }
    quiet (one (a_number n)) t e = unmoved refl refl refl
    quiet (factor_s n) t e = unmoved refl refl refl
    quiet (minus_s n) t e = unmoved refl refl refl
    quiet (more n k) t e =
        let f : (draft_after r (more n k) t p).kind ≡ r.draft.kind = kind_kept r (more n k) t p refl in
        let g = done_quiet (eqb (mark_in t) T.SEMI) (draft_after r (more n k) t p) f in
        record { same_kind = f; same_known = refl; same_seen = g.0; same_deep = g.1 }
    quiet signed_s t e = unmoved refl refl refl
    quiet relation_s t e = unmoved refl refl refl
    quiet item_s t e = unmoved refl refl refl
    quiet claim_s t e = unmoved refl refl refl
    quiet items_s t e = unmoved refl refl refl
    quiet gives_s t e = unmoved refl refl refl
    quiet given_s t e = unmoved refl refl refl
    quiet actions_s t e = never e
    quiet try_s t e = never e
    quiet (few_s n) t e = never e
    quiet lines_s t e = never e
    quiet body_s t e = never e
    quiet text_s t e = never e

  module _ {q l : ℕ} (c : Counted q l r.known r.sheet.seen) (h : deepness r.sheet ≤ F.deepest) where
    -- A token that changes neither the sheet nor what is known.
    still : (s : Symbol) (t : Token) {ss : List Symbol} → sheet_after r (draft_after r s t p) s t p ≡ r.sheet →
        known_after r s t ≡ r.known →
        Stage (draft_after r s t p).role (draft_after r s t p).kind (deepness r.sheet) q l ss → To r s t p ss
    still s t e f x = record { q = q; l = l; stage = rw e x; counted = rw (e, f) c; shallow = rw e h }

    -- A declaration begins.
    begun : (t : Token) {ss : List Symbol} →
        Stage (at_text p t).role (at_text p t).kind (deepness r.sheet) q l ss → To r text_s t p ss
    unfolding draft_after drafted sheet_after known_after
    begun t {ss = ss} x = go (eqb r.sheet.total 0)
      where
        go : (b : Bool) → Held (at_text p t) (if b then S.with_first r.sheet p else r.sheet) r.known ss
        go true = record { q = q; l = l; stage = x; counted = c; shallow = h }
        go false = record { q = q; l = l; stage = x; counted = c; shallow = h }

    fresh_step : Idle (deepness r.sheet) q l → Each (Ahead r text_s p []) (rows text_s)
    unfolding at_text
    fresh_step i =
        (λ v u. begun (mark T.END) (ended i))
        and (λ v u. begun (mark T.RES) (opening i (record { same = refl; thing = res; other = refl }) (pair refl)))
        and (λ v u. begun (mark T.BIN) (opening i (record { same = refl; thing = bin; other = refl }) (pair refl)))
        and (λ v u. begun (mark T.SYNC) (opening i (record { same = refl; thing = sync; other = refl }) (before refl last)))
        and (λ v u. begun (mark T.VAR) (opening i (record { same = refl; thing = var; other = refl }) (pair refl)))
        and (λ v u. begun (mark T.SAMPLER) (opening i (record { same = refl; thing = sampler; other = refl })
        (before refl (before refl (before refl (before refl (pair refl)))))))
        and (λ v u. begun (mark T.CLASS) (title i refl))
        and (λ v u. begun (mark T.ENTITY) (entity i refl refl (before refl (before refl (pair refl)))))
        and tt
      where
        pair : {a : Bool} {s : Symbol} → plain a s ≡ true → Rest a (sign T.COMMA ∷ s ∷ sign T.RP ∷ sign T.SEMI ∷ text_s ∷ [])
        pair e = before refl (before e (before refl last))

    -- .. its name comes,
    opening_step : {ss : List Symbol} → Idle (deepness r.sheet) q l → New r.draft.role r.draft.kind → Rest false ss →
        Each (Ahead r (sign T.LP) p (name_s ∷ ss)) (rows (sign T.LP))
    unfolding sheet_after known_after led
    opening_step i n x =
        (λ v u. still (sign T.LP) (mark T.LP) refl refl
        (stage_as (role_after r (sign T.LP) (mark T.LP) p) (kind_kept r (sign T.LP) (mark T.LP) p refl) refl (naming i n x)))
        and tt

    naming_step : {ss : List Symbol} → Idle (deepness r.sheet) q l → New r.draft.role r.draft.kind → Rest false ss →
        Each (Ahead r name_s p ss) (rows name_s)
    unfolding sheet_after led
    naming_step {ss = ss} i n x = (λ v u. at v) and tt
      where
        c0 : Counted 0 l r.known r.sheet.seen
        c0 = no_read i.none c

        few_locals : l ≤ F.locals
        few_locals = omega (arith, i.alone)

        at : (v : Name) → To r name_s (name v) p ss
        at v =
            record {
              q = r.draft.kind;
              l = l;
              stage = stage_as (role_after r name_s (name v) p) (kind_kept r name_s (name v) p refl) refl
                  (declared i.closed i.alone refl n.thing x);
              counted = rw (known_one (name v) n.same (thing_asks n.thing) n.other (counted_room c0 few_locals))
                  (counted_named c0 n.thing v false);
              shallow = h;
            }

    -- .. and the rest of it, up to its semicolon.
    module _ (a : Bool) (asks : a ≡ true → leb ASK r.draft.role ≡ true)
        (stage : (ss : List Symbol) (role kind : ℕ) → kind ≡ r.draft.kind →
        (leb ASK r.draft.role ≡ true → leb ASK role ≡ true) → Rest a ss → Stage role kind (deepness r.sheet) q l ss) where
      along : (s : Symbol) (t : Token) {ss : List Symbol} → begins s ≡ false →
          sheet_after r (draft_after r s t p) s t p ≡ r.sheet → known_after r s t ≡ r.known →
          (leb ASK r.draft.role ≡ true → leb ASK (led (clue_of r) s t).role ≡ true) → Rest a ss → To r s t p ss
      along s t {ss = ss} b e f g x =
          still s t e f
          (stage ss (draft_after r s t p).role (draft_after r s t p).kind (kind_kept r s t p b)
          (λ i. ap (leb ASK) (role_after r s t p) ∙ g i) x)

      plain_step : (s : Symbol) {ss : List Symbol} → plain a s ≡ true → Rest a ss → Each (Ahead r s p ss) (rows s)
      unfolding sheet_after known_after led
      plain_step (one (the k)) e x =
          let b = both_true (not (eqb k T.SEMI)) (not (eqb k T.LB)) e in
          (λ v u. along (one (the k)) (mark k) refl (rw (not-true (eqb k T.SEMI) b.0, not-true (eqb k T.LB) b.1)) refl
          (λ g. g) x)
          and tt
      plain_step (one a_name) e x =
          (λ v u. along (one a_name) (name v) refl refl (known_same (name v) (rw (asks e))) (λ g. g) x) and tt
      plain_step (one (a_number b)) e x =
          (λ v u. along (one (a_number b)) (number v.value) refl refl refl (number_asks (clue_of r) b) x) and tt
      plain_step (factor_s n) e x = never e
      plain_step (minus_s n) e x = never e
      plain_step (more n k) e x = never e
      plain_step signed_s e x =
          (λ v u. along signed_s (number v.value) refl refl refl (λ g. g) x)
          and (λ v u. along signed_s (mark T.MINUS) refl refl refl (λ g. g) (before refl x))
          and tt
      plain_step relation_s e x = never e
      plain_step item_s e x = never e
      plain_step claim_s e x = never e
      plain_step items_s e x = never e
      plain_step gives_s e x = never e
      plain_step given_s e x = never e
      plain_step actions_s e x = never e
      plain_step try_s e x = never e
      plain_step (few_s n) e x = never e
      plain_step lines_s e x = never e
      plain_step body_s e x = never e
      plain_step text_s e x = never e

    -- The semicolon of a declaration.
    abbrev cut_off : Draft
    cut_off = draft_after r (sign T.SEMI) (mark T.SEMI) p

    abbrev cut_to : Sheet
    cut_to = sheet_after r cut_off (sign T.SEMI) (mark T.SEMI) p

    cut_kind : cut_off.kind ≡ r.draft.kind
    cut_kind = kind_kept r (sign T.SEMI) (mark T.SEMI) p refl

    cut_seen : ltb r.draft.kind K.ACTION ≡ true → cut_to.seen ≡ W.more r.sheet.seen r.draft.kind 1
    unfolding sheet_after
    cut_seen b =
        let f : is_declaration cut_off ≡ true = ap (λ (n : ℕ). ltb n K.ACTION) cut_kind ∙ b in
        rw f ((saw_declares cut_off r.sheet).is ∙ ap (λ (n : ℕ). W.more r.sheet.seen n 1) cut_kind)

    cut_to_lem : deepness r.sheet ≡ 0 → l ≡ 0 → Counted 0 l r.known cut_to.seen →
        To r (sign T.SEMI) (mark T.SEMI) p (text_s ∷ [])
    unfolding known_after led
    cut_to_lem e f k =
        let g = deep_after r (sign T.SEMI) (mark T.SEMI) p in
        record {
          q = 0;
          l = l;
          stage = fresh (record { closed = g ∙ e; none = refl; alone = f });
          counted = k;
          shallow = omega (arith, g, h);
        }

    cut_right : Thing r.draft.kind → Uncut r (sign T.SEMI) (mark T.SEMI) p →
        get_or r.sheet.seen r.draft.kind 0 < limit r.draft.kind
    unfolding cut_at
    cut_right t u =
        let w : Thing cut_off.kind = subst (λ (n : ℕ). Thing n) (sym cut_kind) t in
        subst (λ (n : ℕ). get_or r.sheet.seen n 0 < limit n) cut_kind
        (right_many r.sheet cut_off w (kept cut_to cut_off (faulty r.sheet cut_off) u).sound)

    declared_step : {ss : List Symbol} → deepness r.sheet ≡ 0 → l ≡ 0 → q ≡ r.draft.kind → Thing r.draft.kind →
        Rest false ss → Onward r p ss
    declared_step e f g t last =
        (λ v u. cut_to_lem e f (rw (cut_seen (thing_declares t))
        (counted_more t (subst (λ (n : ℕ). Counted n l r.known r.sheet.seen) g c) (cut_right t u))))
        and tt
    declared_step e f g t (before {s = s} b x) =
        plain_step false never
        (λ ss role kind i j y. declared e f (g ∙ sym i) (subst (λ (n : ℕ). Thing n) (sym i) t) y) s b x

    entity_step : {ss : List Symbol} → Idle (deepness r.sheet) q l → leb ASK r.draft.role ≡ true →
        r.draft.kind ≡ K.ENTITY → Rest true ss → Onward r p ss
    entity_step i g e last =
        let b : ltb r.draft.kind K.ACTION ≡ true = ap (λ (n : ℕ). ltb n K.ACTION) e in
        let k : cut_to.seen ≡ W.more r.sheet.seen K.ENTITY 1 =
        cut_seen b ∙ ap (λ (n : ℕ). W.more r.sheet.seen n 1) e in
        (λ v u. cut_to_lem i.closed i.alone
        (rw k (counted_same (no_read i.none c) (same_more r.sheet.seen K.ENTITY 1 refl))))
        and tt
    entity_step i g e (before {s = s} b x) =
        plain_step true (λ j. g) (λ ss role kind j k y. entity i (k g) (j ∙ e) y) s b x

    -- A class line: its name, and what comes behind it.
    title_step : Idle (deepness r.sheet) q l → r.draft.role ≡ K.CLASS →
        Each (Ahead r name_s p (body_s ∷ text_s ∷ [])) (rows name_s)
    unfolding sheet_after
    title_step i e =
        (λ v u. still name_s (name v) refl
        (known_same (name v) (ap (λ (n : ℕ). leb ASK n || eqb n K.CLASS) e)) (titled i))
        and tt

    module _ (i : Idle (deepness r.sheet) q l) where
      class_none : Counted 0 l r.known r.sheet.seen
      class_none = no_read i.none c

      class_room : leb most_names (length r.known) ≡ false
      class_room = lt-leb most_names (length r.known) (counted_room class_none (omega (arith, i.alone)))

      -- A new class is counted.
      class_more : (b : Bool) → get_or (W.more r.sheet.seen K.CLASS 1) K.CLASS 0 ≤ F.most_classes →
          Counted 0 l (one_more r.known K.CLASS r.called b) (W.more r.sheet.seen K.CLASS 1)
      class_more b f =
          counted_more class (counted_named class_none class r.called b)
          (omega (arith, more_at r.sheet.seen K.CLASS (omega (arith, class_none.sized))))

      announced_to : Uncut r body_s (mark T.SEMI) p → To r body_s (mark T.SEMI) p (text_s ∷ [])
      unfolding draft_after drafted sheet_after known_after knows cut_at
      announced_to u =
          let z : Sheet = S.classes r.draft.line No.no_body r.sheet in
          let k : Passing z false = kept z r.draft false u in
          let e = (saw_classes r.draft.line No.no_body r.sheet).is in
          let g : deepness z ≡ deepness r.sheet = classes_deep r.draft.line No.no_body r.sheet in
          record {
            q = 0;
            l = l;
            stage = fresh (record { closed = g ∙ i.closed; none = refl; alone = i.alone });
            counted = rw (class_room, e) (class_more true (rw e at k.classes));
            shallow = k.shallow;
          }

      -- .. or an announced one gets its body.
      abbrev body_on : Bool → Sheet
      body_on b =
          if b then S.bodied (number_of r.known r.called) (S.blocks_of r.sheet) r.sheet
          else S.classes r.draft.line (S.blocks_of r.sheet) r.sheet

      body_deep : (b : Bool) → deepness (body_on b) ≡ deepness r.sheet
      body_deep true = bodied_deep (number_of r.known r.called) (S.blocks_of r.sheet) r.sheet
      body_deep false = classes_deep r.draft.line (S.blocks_of r.sheet) r.sheet

      body_counted : (b : Bool) → get_or (body_on b).seen K.CLASS 0 ≤ F.most_classes →
          Counted 0 l (if b then map (bodied r.called) r.known else one_more r.known K.CLASS r.called false)
          (body_on b).seen
      body_counted true f =
          rw (saw_bodied (number_of r.known r.called) (S.blocks_of r.sheet) r.sheet).is
          (counted_bodied class_none r.called)
      body_counted false f =
          let e = (saw_classes r.draft.line (S.blocks_of r.sheet) r.sheet).is in
          rw e (class_more false (rw e at f))

      embodied_to : Uncut r body_s (mark T.LB) p → To r body_s (mark T.LB) p (lines_s ∷ text_s ∷ [])
      unfolding draft_after drafted sheet_after known_after knows cut_at
      embodied_to u =
          let y : Sheet = body_on (is_known r) in
          let k : Passing (S.braces y) false = kept (S.braces y) r.draft false u in
          let e : (S.braces y).seen ≡ W.more y.seen K.BLOCK 1 = (saw_braces y).is in
          let m : Same y.seen (W.more y.seen K.BLOCK 1) = same_more y.seen K.BLOCK 1 refl in
          let f : get_or y.seen K.CLASS 0 ≤ F.most_classes = omega (arith, m.kept K.CLASS refl, rw e at k.classes) in
          record {
            q = 0;
            l = l;
            stage = lines (braces_deep y ∙ ap suc (body_deep (is_known r) ∙ i.closed)) refl i.alone;
            counted = rw (class_room, e) (counted_same (body_counted (is_known r) f) m);
            shallow = k.shallow;
          }

      titled_step : Each (Ahead r body_s p (text_s ∷ [])) (rows body_s)
      titled_step = (λ v u. announced_to u) and (λ v u. embodied_to u) and tt

    -- Locals.
    local_step : {k : ℕ} → deepness r.sheet ≡ 1 → q ≡ 0 → r.draft.role ≡ LOCAL → l + k ≡ No.more_locals →
        Each (Ahead r name_s p (few_s k ∷ actions_s ∷ text_s ∷ [])) (rows name_s)
    unfolding sheet_after led
    local_step {k = k} e f g m = (λ v u. at v) and tt
      where
        c0 : Counted 0 l r.known r.sheet.seen
        c0 = no_read f c

        few_locals : l ≤ F.locals
        few_locals = omega arith

        at : (v : Name) → To r name_s (name v) p (few_s k ∷ actions_s ∷ text_s ∷ [])
        at v =
            record {
              q = 0;
              l = suc l;
              stage = few {k = k} e refl (role_after r name_s (name v) p ∙ g) (omega arith);
              counted = rw (known_one (name v) g refl refl (counted_room c0 few_locals)) (counted_local c0 v false);
              shallow = h;
            }

    few_step : (k : ℕ) → deepness r.sheet ≡ 1 → q ≡ 0 → r.draft.role ≡ LOCAL → l + k ≡ F.locals →
        Each (Ahead r (few_s k) p (actions_s ∷ text_s ∷ [])) (rows (few_s k))
    unfolding draft_after drafted sheet_after known_after
    few_step zero e f g m =
        (λ v u. still (few_s zero) (mark T.SEMI) refl refl (acts e f (omega arith) (block (acting outside)))) and tt
    few_step (suc k) e f g m =
        (λ v u. still (few_s (suc k)) (mark T.SEMI) refl refl (acts e f (omega arith) (block (acting outside))))
        and (λ v u. still (few_s (suc k)) (mark T.COMMA) refl refl (local e f g (omega arith)))
        and tt

    -- Actions: a brace is closed, or one begins.
    behind_deep : (t : Token) → eqb (mark_in t) T.RB ≡ false → deepness (behind r.sheet t) ≡ deepness r.sheet
    behind_deep t e = rw e (go (eqb (mark_in t) T.ETRY))
      where
        go : (b : Bool) → deepness (if b then r.sheet else S.settled r.sheet) ≡ deepness r.sheet
        go true = refl
        go false = settled_deep r.sheet

    closed_in : {n : ℕ} {ss : List Symbol} → Blocks (suc n) ss → deepness r.sheet ≡ suc (suc n) → q ≡ 0 → l ≤ F.locals →
        Held (acted r (mark T.RB) p) (behind r.sheet (mark T.RB)) (leaving r (mark T.RB)) ss
    closed_in {n = n} x e f g =
        let d = closed_deep r.sheet (suc n) e in
        record {
          q = q;
          l = l;
          stage = acts d f g (block x);
          counted = rw ((saw_behind r.sheet (mark T.RB)).is, ne_eqb (deepness r.sheet) 1 (λ i. omega (arith, i, e))) c;
          shallow = omega (arith, d, e, h);
        }

    closed_to : {n : ℕ} {ss : List Symbol} → Blocks n ss → deepness r.sheet ≡ suc n → q ≡ 0 → l ≤ F.locals →
        Held (acted r (mark T.RB) p) (behind r.sheet (mark T.RB)) (leaving r (mark T.RB)) ss
    unfolding knows
    closed_to outside e f g =
        record {
          q = 0;
          l = 0;
          stage = fresh (record { closed = closed_deep r.sheet 0 e; none = refl; alone = refl });
          counted = rw ((saw_behind r.sheet (mark T.RB)).is, eq-eqb (deepness r.sheet) 1 e) (counted_left (no_read f c));
          shallow = omega (arith, closed_deep r.sheet 0 e);
        }
    closed_to (acting x) e f g = closed_in (acting x) e f g
    closed_to (trying x) e f g = closed_in (trying x) e f g

    act_to : (m : Bool) {n : ℕ} {ss : List Symbol} → Blocks n ss → deepness r.sheet ≡ suc n → q ≡ 0 → l ≤ F.locals →
        (m ≡ true → Held (acted r (mark T.LOCAL) p) (behind r.sheet (mark T.LOCAL)) (leaving r (mark T.LOCAL))
        (name_s ∷ few_s No.more_locals ∷ actions_s ∷ ss)) → (t : Token) (ns : List Symbol) → Act r p m t ns →
        Held (acted r t p) (behind r.sheet t) (leaving r t) (ns ++ ss)
    act_to m x e f g k _ _ closes = closed_to x e f g
    act_to m {n = n} {ss = ss} x e f g k t _ (begins_one i y) =
        record {
          q = q;
          l = l;
          stage = acts (behind_deep t i ∙ e) f g (y n ss x);
          counted = rw ((saw_behind r.sheet t).is, i) c;
          shallow = rw (behind_deep t i) h;
        }
    act_to m x e f g k _ _ (locals i) = k i

    block_step : {n : ℕ} {ss : List Symbol} → Blocks (suc n) ss → deepness r.sheet ≡ suc n → q ≡ 0 → l ≤ F.locals →
        Onward r p ss
    unfolding draft_after drafted sheet_after known_after
    block_step (acting {ss = ss} x) e f g =
        each_map (Act r p false) (Ahead r actions_s p ss) (rows actions_s) (λ t ns y u. act_to false x e f g never t ns y)
        (action_rows_lem r p false actions_s (λ b. b) (λ b y. refl))
    block_step (trying {ss = ss} x) e f g =
        each_map (Act r p false) (Ahead r try_s p ss) (rows try_s) (λ t ns y u. act_to false x e f g never t ns y)
        (try_rows r p false)

    lines_step : deepness r.sheet ≡ 1 → q ≡ 0 → l ≡ 0 → Each (Ahead r lines_s p (text_s ∷ [])) (rows lines_s)
    unfolding draft_after drafted sheet_after known_after at_action
    lines_step e f g =
        each_map (Act r p true) (Ahead r lines_s p (text_s ∷ [])) (rows lines_s)
        (λ t ns y u. act_to true outside e f (omega arith) (λ i. first) t ns y) (lines_rows r p)
      where
        first : Held (acted r (mark T.LOCAL) p) (behind r.sheet (mark T.LOCAL)) (leaving r (mark T.LOCAL))
            (name_s ∷ few_s No.more_locals ∷ actions_s ∷ text_s ∷ [])
        first =
            record {
              q = q;
              l = l;
              stage = local {k = No.more_locals} (behind_deep (mark T.LOCAL) refl ∙ e) f refl (omega arith);
              counted = rw (saw_behind r.sheet (mark T.LOCAL)).is c;
              shallow = rw (behind_deep (mark T.LOCAL) refl) h;
            }

    -- The brace of a do, a try or a while.
    brace_step : {n : ℕ} {ss : List Symbol} → Blocks (suc (suc n)) ss → deepness r.sheet ≡ suc n → q ≡ 0 → l ≤ F.locals →
        Each (Ahead r (sign T.LB) p ss) (rows (sign T.LB))
    unfolding sheet_after known_after cut_at led
    brace_step x e f g =
        (λ v u.
        let d : Draft = draft_after r (sign T.LB) (mark T.LB) p in
        record {
          q = q;
          l = l;
          stage = acts (deep_after r (sign T.LB) (mark T.LB) p ∙ ap suc e) f g (block x);
          counted = counted_same c (same_opens d r.sheet);
          shallow = (kept (S.opens d r.sheet) d (faulty r.sheet d) u).shallow;
        })
        and tt

    -- .. and what comes before it.
    rest_step : (s : Symbol) {n : ℕ} {ss : List Symbol} → ltb r.draft.kind K.ACTION ≡ false →
        flat (leb ASK r.draft.role) s ≡ true → Part (leb ASK r.draft.role) (ltb r.draft.kind K.ACTION) (suc n) ss →
        deepness r.sheet ≡ suc n → q ≡ 0 → l ≤ F.locals → Each (Ahead r s p ss) (rows s)
    rest_step s {ss = ss} b i x e f g =
        each_map (FlatRow (clue_of r) s) (Ahead r s p ss) (rows s) (λ t ns y u. at t ns y) (flat_rows (clue_of r) s i)
      where
        at : (t : Token) (ns : List Symbol) → FlatRow (clue_of r) s t ns → To r s t p (ns ++ ss)
        at t ns y =
            let k : Quiet s t = quiet b s t i in
            let m : leb ASK (draft_after r s t p).role ≡ leb ASK (led (clue_of r) s t).role =
            ap (leb ASK) (role_after r s t p) in
            let w : ltb (draft_after r s t p).kind K.ACTION ≡ ltb r.draft.kind K.ACTION =
            ap (λ (n : ℕ). ltb n K.ACTION) k.same_kind in
            record {
              q = q;
              l = l;
              stage = acts (k.same_deep ∙ e) f g (part_append ns (w ∙ b) (rw m y.0) (part_up (λ j. m ∙ y.1 j) w x));
              counted = rw k.same_known (counted_same c k.same_seen);
              shallow = omega (arith, k.same_deep, h);
            }

    part_step : {n : ℕ} {ss : List Symbol} → Part (leb ASK r.draft.role) (ltb r.draft.kind K.ACTION) (suc n) ss →
        deepness r.sheet ≡ suc n → q ≡ 0 → l ≤ F.locals → Onward r p ss
    part_step (block x) e f g = block_step x e f g
    part_step (brace b x) e f g = brace_step x e f g
    part_step (rest {s = s} b i x) e f g = rest_step s b i x e f g

    onward : {ss : List Symbol} → Stage r.draft.role r.draft.kind (deepness r.sheet) q l ss → Onward r p ss
    onward (ended i) = tt
    onward (fresh i) = fresh_step i
    onward (opening i n x) = opening_step i n x
    onward (naming i n x) = naming_step i n x
    onward (declared e f g t x) = declared_step e f g t x
    onward (entity i g e x) = entity_step i g e x
    onward (title i e) = title_step i e
    onward (titled i) = titled_step i
    onward (lines e f g) = lines_step e f g
    onward (local e f g m) = local_step e f g m
    onward (few {k = k} e f g m) = few_step k e f g m
    onward (acts e f g x) = part_step x e f g

-- EVERY READER that the machine comes to.
pub record Roomy (r : Reader) : Type 0 where
  pub held : Held r.draft r.sheet r.known r.pile
  pub low : Low r.pile ⊎ (r.pile ≡ [])

roomy_first : Roomy at_first
roomy_first =
    record {
      held = record {
        q = 0;
        l = 0;
        stage = fresh (record { closed = refl; none = refl; alone = refl });
        counted = counted_first;
        shallow = omega arith;
      };
      low = inl bottom;
    }

lower : {t : Token} {ss : List Symbol} → Left t ss → Low ss ⊎ (ss ≡ [])
lower over = inr refl
lower (stands x) = inl x

nothing_low : {s : Symbol} {ss : List Symbol} → Low (s ∷ ss) ⊎ (s ∷ ss ≡ []) → Low (s ∷ ss)
nothing_low (inl x) = x
nothing_low (inr e) = let z : ◌≡◌ {A = ℕ} 0 1 = cc in absurd (omega arith)

module _ (r : Reader) (t : Token) (p : ℕ) {z : Reader} where
  on_after : {s : Symbol} {ss : List Symbol} → Held r.draft r.sheet r.known (s ∷ ss) →
      Low (s ∷ ss) ⊎ (s ∷ ss ≡ []) → Went r ss s t p z → Roomy z
  unfolding after
  on_after {s = s} {ss = ss} x y w =
      rw w.is
      (record {
        held = chosen (Ahead r s p ss) w.rule (onward r p x.counted x.shallow x.stage) w.fits w.uncut;
        low = lower (low_step w.rule (nothing_low y) w.fits);
      })

  on_pile_lem : (ss : List Symbol) → Held r.draft r.sheet r.known ss → Low ss ⊎ (ss ≡ []) → on_pile r ss t p ≡ goes z →
      Roomy z
  on_pile_lem [] x y e = let w : ◌≡◌ {A = ℕ} 0 1 = cc in absurd (omega arith)
  on_pile_lem (s ∷ ss) x y e = on_after x y (went r ss s t p e)

pub roomy : {r : Reader} → Comes r → Roomy r
unfolding turned
roomy starts = roomy_first
roomy (moves {r = r} k x e) = on_pile_lem r k.token k.place r.pile (roomy x).held (roomy x).low e
