-- What a token makes of the clue alone: all else of a reader may be forgotten, where only names are asked for.
-- Assumes nothing.
use Prim.Native.Nat.{ℕ, zero, suc, ◌+◌}
use Rattle.std.specs.Prelude.{◌≡◌, List, [], ◌∷◌, Bool, true, false, ◌&&◌, ◌||◌, leb, if◌then◌else◌}
use Rattle.std.proofs.Math.Path.{refl, ap}
use Rattle.std.proofs.Common.{◌∙◌, ap₂}
use Rattle.std.proofs.Math.Option.{Option, none, some}
use Rattle.std.proofs.Math.Dec.{eqb, ltb}
use Rattle.std.proofs.Math.ListN.{length}
use Rattle.text_semantics.specs.Meaning.{kind_of, number_of}
use Rattle.semantics.specs.Words as W
use Rattle.semantics.specs.Kinds as K
use Rattle.semantics.specs.Numbers as F
use Rattle.text_semantics.specs.Numbers as No
use Rattle.text_semantics.specs.Token as T
use Rattle.text_semantics.specs.Token.{Token, name, number, mark, bad}
use Rattle.text_semantics.specs.Grammar.{Name}
use Rattle.text_semantics.specs.Written.{two}
use Rattle.text_semantics.specs.Reading.{Symbol, one, the, a_name, a_number, factor_s, minus_s, more, signed_s, relation_s, item_s}
use Rattle.text_semantics.specs.Reading.{claim_s, items_s, gives_s, given_s, actions_s, try_s, few_s, lines_s, body_s, text_s}
use Rattle.text_machine.specs.Entry as E
use Rattle.text_machine.specs.Entry.{Draft, begin, asking, drafted, mark_in, name_in}
use Rattle.text_machine.specs.Entry.{at_number, at_item, at_action, at_text}
use Rattle.text_machine.specs.Sheet as S
use Rattle.text_machine.specs.Sheet.{Sheet, Kept, kept_in, resumed, declaring, declares, classed, classes, bodied, counts}
use Rattle.text_machine.specs.Sheet.{stands, acts, settled, let_go, braces, tries, branches, closed, DECLARED}
use Rattle.text_machine.specs.Machine.{Reader, draft_after, sheet_after, after, done, is_declaration, behind, embodied, is_known}
use Rattle.text_agrees.specs.Flow.{effect}
use Rattle.text_agrees.specs.Steady.{Steady, still, steady_put, steady_one_more, steady_sign, steady_name, steady_factor}
use Rattle.text_agrees.specs.Steady.{steady_minus, steady_more}
use Rattle.text_agrees.specs.Events.{Clue, clue_of}

-- THE DRAFT'S PART: what the next name is for, and whether a start is being written.
abbrev pub Cue : Type 0
Cue = ℕ × Bool

abbrev pub cue : Draft → Cue
cue d = (d.role, eqb d.kind K.START)

module _ (c : Clue) where
  abbrev pub cue_in : Cue
  cue_in = (c.role, c.starting)

  abbrev pub with_cue : Cue → Clue
  with_cue q = record { role = q.0; starting = q.1; called = c.called; depth = c.depth }

  abbrev pub with_called : Name → Clue
  with_called x = record { role = c.role; starting = c.starting; called = x; depth = c.depth }

  abbrev pub with_depth : ℕ → Clue
  with_depth n = record { role = c.role; starting = c.starting; called = c.called; depth = n }

  abbrev pub number_cue : ℕ → Cue
  number_cue b =
      if eqb b No.top_count
      then cue_in
      else if eqb b No.top_magnitude
      then cue_in
      else if c.starting && eqb c.role (asking K.CLASS)
      then (asking K.RES, c.starting)
      else cue_in

  abbrev pub item_cue : Token → Cue
  item_cue (name x) = cue_in
  item_cue (number n) = cue_in
  item_cue (mark s) =
      if eqb s T.GETR
      then (asking K.RES, c.starting)
      else if eqb s T.GETB
      then (asking K.BIN, c.starting)
      else if eqb s T.GETS
      then (asking K.SYNC, c.starting)
      else cue_in
  item_cue bad = cue_in

unfoldable pub action_cue : Token → Cue
unfolding at_action
action_cue t = cue (at_action 0 0 0 0 (begin 0 0 0) t)

unfoldable pub text_cue : Token → Cue
unfolding at_text
text_cue t = cue (at_text 0 t)

abbrev pub fewer : ℕ → ℕ
fewer zero = zero
fewer (suc n) = n

abbrev pub in_action : Clue → Token → Clue
unfolding action_cue
in_action c t = with_depth (with_cue c (action_cue t)) (if eqb (mark_in t) T.RB then fewer c.depth else c.depth)

-- What a token makes of the clue.
unfoldable pub led : Clue → Symbol → Token → Clue
unfolding action_cue text_cue
led c (one (the s)) t =
    with_depth c (if eqb s T.SEMI then c.depth else if eqb s T.LB then suc c.depth else c.depth)
led c (one a_name) t = with_called c (if eqb c.role K.CLASS then name_in t else c.called)
led c (one (a_number b)) t = with_cue c (number_cue c b)
led c (factor_s n) t = c
led c (minus_s n) t = c
led c (more n k) t = c
led c signed_s t = c
led c relation_s t = c
led c item_s t = with_cue c (item_cue c t)
led c claim_s t = with_cue c (item_cue c t)
led c items_s t = c
led c gives_s t = c
led c given_s t = c
led c actions_s t = in_action c t
led c try_s t = in_action c t
led c (few_s n) t = c
led c lines_s t = in_action c t
led c body_s t = with_depth c (if eqb (mark_in t) T.SEMI then c.depth else suc c.depth)
led c text_s t = with_cue c (text_cue t)

-- DRAFTS.
record Cued (d : Draft) (q : Cue) : Type 0 where
  shown : cue d ≡ q

same : {d : Draft} → Cued d (cue d)
same = record { shown = refl }

cue_if : (b : Bool) (x y : Draft) {p q : Cue} → Cued x p → Cued y q → Cued (if b then x else y) (if b then p else q)
cue_if true x y e f = e
cue_if false x y e f = f

cue_keeps : (b : Bool) (x y : Draft) {q : Cue} → Cued x q → Cued y q → Cued (if b then x else y) q
cue_keeps true x y e f = e
cue_keeps false x y e f = f

cue_both : (b : Bool) (x y u v : Draft) → Cued x (cue u) → Cued y (cue v) →
    Cued (if b then x else y) (cue (if b then u else v))
cue_both true x y u v e f = e
cue_both false x y u v e f = f

cue_steady : {a d : Draft} → Steady a d → Cued d (cue a)
cue_steady h = record { shown = ap₂ (λ (r k : ℕ). (r, eqb k K.START)) h.role h.kind }

module _ {d : Draft} {q : Cue} (h : Cued d q) where
  cue_role : (w : ℕ) → Cued (E.with_role d w) (w, q.1)
  cue_role w = record { shown = ap (λ (x : Cue). (w, x.1)) h.shown }

module _ (r : Reader) where
  abbrev drawn : Cued r.draft (cue r.draft)
  drawn = same

  abbrev untouched : Steady r.draft r.draft
  untouched = still

  cue_number : (b n : ℕ) → Cued (at_number b n r.draft) (number_cue (clue_of r) b)
  unfolding at_number
  cue_number b n =
      cue_if (eqb b No.top_count) _ _ (record { shown = refl })
      (cue_if (eqb b No.top_magnitude) _ _ (record { shown = refl })
      (cue_if (eqb r.draft.kind K.START && eqb r.draft.role (asking K.CLASS)) _ _
      (record { shown = refl }) (record { shown = refl })))

  getting : (n w : ℕ) → Cued (E.getting n w r.draft) (asking w, (cue r.draft).1)
  getting n w = cue_role (cue_steady (steady_put (steady_one_more untouched) (n ∷ 0 ∷ []))) (asking w)

  cue_item : (i : ℕ) (t : Token) → Cued (at_item i t r.draft) (item_cue (clue_of r) t)
  unfolding at_item
  cue_item i (name x) = record { shown = (cue_steady (steady_one_more untouched)).shown }
  cue_item i (number n) = drawn
  cue_item i (mark s) =
      cue_if (eqb s T.GETR) _ _ (getting 0 K.RES)
      (cue_if (eqb s T.GETB) _ _ (getting 1 K.BIN)
      (cue_if (eqb s T.GETS) _ _ (getting 2 K.SYNC) drawn))
  cue_item i bad = drawn

cue_resumed : (o : Option Kept) → Cued (resumed o) (0, false)
cue_resumed none = record { shown = refl }
cue_resumed (some x) = record { shown = refl }

cue_set : (p : ℕ) (b : Bool) → Cued (begin p (if b then K.SET else K.LSET) 0) (0, false)
cue_set p true = record { shown = refl }
cue_set p false = record { shown = refl }

cue_action : (w i k p : ℕ) (o : Option Kept) (t : Token) → Cued (at_action w i k p (resumed o) t) (action_cue t)
unfolding at_action action_cue
cue_action w i k p o (name x) = record { shown = (cue_set p (eqb w K.VAR)).shown }
cue_action w i k p o (number n) = record { shown = refl }
cue_action w i k p o (mark s) =
    cue_both (eqb s T.HOLD) _ _ _ _ (record { shown = refl })
    (cue_both (eqb s T.PRIORITY) _ _ _ _ (record { shown = refl })
    (cue_both (eqb s T.TRACE) _ _ _ _ (record { shown = refl })
    (cue_both (eqb s T.DO) _ _ _ _ (record { shown = refl })
    (cue_both (eqb s T.PUTR) _ _ _ _ (record { shown = refl })
    (cue_both (eqb s T.PUTB) _ _ _ _ (record { shown = refl })
    (cue_both (eqb s T.PUTS) _ _ _ _ (record { shown = refl })
    (cue_both (eqb s T.BECOME) _ _ _ _ (record { shown = refl })
    (cue_both (eqb s T.REQ) _ _ _ _ (record { shown = refl })
    (cue_both (eqb s T.TRY) _ _ _ _ (record { shown = refl })
    (cue_both (eqb s T.ETRY) _ _ _ _ (record { shown = (cue_resumed o).shown })
    (cue_both (eqb s T.WHILE) _ _ _ _ (record { shown = refl })
    (cue_both (eqb s T.START) _ _ _ _ (record { shown = refl })
    (cue_both (eqb s T.CLOSE) _ _ _ _ (record { shown = refl }) (record { shown = refl }))))))))))))))
cue_action w i k p o bad = record { shown = refl }

cue_text : (p : ℕ) (t : Token) → Cued (at_text p t) (text_cue t)
unfolding at_text text_cue
cue_text p (name x) = record { shown = refl }
cue_text p (number n) = record { shown = refl }
cue_text p (mark s) =
    cue_both (eqb s T.RES) _ _ _ _ (record { shown = refl })
    (cue_both (eqb s T.BIN) _ _ _ _ (record { shown = refl })
    (cue_both (eqb s T.SYNC) _ _ _ _ (record { shown = refl })
    (cue_both (eqb s T.VAR) _ _ _ _ (record { shown = refl })
    (cue_both (eqb s T.SAMPLER) _ _ _ _ (record { shown = refl })
    (cue_both (eqb s T.CLASS) _ _ _ _ (record { shown = refl }) (record { shown = refl }))))))
cue_text p bad = record { shown = refl }

-- SHEETS: how many blocks are open.
record Deep (z : Sheet) (n : ℕ) : Type 0 where
  counted : length z.levels ≡ n

deep_if : (b : Bool) (x y : Sheet) {m n : ℕ} → Deep x m → Deep y n → Deep (if b then x else y) (if b then m else n)
deep_if true x y e f = e
deep_if false x y e f = f

deep_keeps : (b : Bool) (x y : Sheet) {n : ℕ} → Deep x n → Deep y n → Deep (if b then x else y) n
deep_keeps true x y e f = e
deep_keeps false x y e f = f

deep_keeping : (o : Option Kept) (ls : List S.Level) → length (S.keeping o ls) ≡ length ls
deep_keeping o [] = refl
deep_keeping o (l ∷ ls) = refl

deep_outer : (ls : List S.Level) → length (S.outer ls) ≡ fewer (length ls)
deep_outer [] = refl
deep_outer (l ∷ ls) = refl

module _ {z : Sheet} {n : ℕ} (h : Deep z n) where
  deep_declaring : (bs : List ℕ) → Deep (declaring bs z) n
  unfolding declaring
  deep_declaring bs =
      deep_keeps (ltb DECLARED (length z.declared + length bs)) _ _ (record { counted = h.counted })
      (record { counted = h.counted })

  deep_total : (ns : List ℕ) (m : ℕ) → Deep (S.with_total z ns m) n
  deep_total ns m = record { counted = h.counted }

  deep_classed : (p : ℕ) → Deep (classed p z) n
  unfolding classed
  deep_classed p =
      deep_keeps (leb F.most_classes (length z.class_at)) _ _ (record { counted = h.counted })
      (record { counted = h.counted })

  deep_bodied : (c b : ℕ) → Deep (bodied c b z) n
  unfolding bodied
  deep_bodied c b = record { counted = h.counted }

  deep_counts : (d : Draft) → Deep (counts d z) n
  unfolding counts
  deep_counts d =
      deep_keeps (leb z.last_block (S.innermost z.levels)) _ _ (record { counted = h.counted })
      (record { counted = h.counted })

  deep_stands : (k : ℕ) (bs : List ℕ) → Deep (stands k bs z) n
  unfolding stands
  deep_stands k bs =
      deep_keeps (leb F.most_actions (length z.pieces) || ltb F.longest_file (z.staged + length (S.headed k bs))) _ _
      (record { counted = h.counted }) (record { counted = h.counted })

  deep_braces : Deep (braces z) (suc n)
  unfolding braces
  deep_braces = record { counted = ap suc h.counted }

module _ {z : Sheet} {n : ℕ} (h : Deep z n) where
  deep_declares : (d : Draft) → Deep (declares d z) n
  unfolding declares
  deep_declares d =
      deep_declaring (deep_total h (W.more z.seen d.kind 1) (S.long d)) (S.headed d.kind d.body)

  deep_classes : (p b : ℕ) → Deep (classes p b z) n
  unfolding classes
  deep_classes p b =
      deep_declaring (deep_classed (deep_total h (W.more z.seen K.CLASS 1) S.class_bytes) p) (S.headed K.CLASS (two b))

  deep_acts : (d : Draft) → Deep (acts d z) n
  unfolding acts
  deep_acts d = deep_stands (deep_counts h d) d.kind d.body

  deep_let_go : (o : Option Kept) → Deep (let_go o z) n
  deep_let_go none = h
  deep_let_go (some x) =
      record { counted = deep_keeping none (stands K.TRY x.body z).levels ∙ (deep_stands h K.TRY x.body).counted }

  deep_settled : Deep (settled z) n
  unfolding settled
  deep_settled = deep_let_go (kept_in z.levels)

  deep_branches : (d : Draft) (o : Option Kept) → Deep (branches d o z) n
  deep_branches d none = deep_counts h d
  deep_branches d (some x) = deep_total h _ _

  deep_tries : (d : Draft) → Deep (tries d z) n
  unfolding tries
  deep_tries d =
      record {
        counted = deep_keeping _ (branches d (kept_in z.levels) z).levels ∙ (deep_branches d (kept_in z.levels)).counted;
      }

  deep_opens : (d : Draft) → Deep (S.opens d z) (suc n)
  unfolding S.opens
  deep_opens d = deep_braces (deep_keeps (eqb d.kind K.TRY) _ _ (deep_tries d) (deep_acts d))

  deep_closed : Deep (closed z) (fewer n)
  unfolding closed
  deep_closed = record { counted = deep_outer (settled z).levels ∙ ap fewer deep_settled.counted }

  deep_done : (d : Draft) → Deep (done d z) n
  deep_done d = deep_keeps (is_declaration d) _ _ (deep_declares d) (deep_acts d)

  deep_behind : (t : Token) → Deep (behind z t) (if eqb (mark_in t) T.RB then fewer n else n)
  deep_behind t = deep_if (eqb (mark_in t) T.RB) _ _ deep_closed (deep_keeps (eqb (mark_in t) T.ETRY) _ _ h deep_settled)

-- THE READER.
clued : {d : Draft} {z : Sheet} (x : Name) {q : Cue} {n : ℕ} → Cued d q → Deep z n →
    ◌≡◌ {A = Clue} (record { role = (cue d).0; starting = (cue d).1; called = x; depth = length z.levels })
    (record { role = q.0; starting = q.1; called = x; depth = n })
clued x e f =
    let a = e.shown in
    let b = f.counted in
    λ i. record { role = (a i).0; starting = (a i).1; called = x; depth = b i }

module _ (r : Reader) (t : Token) (p : ℕ) where
  abbrev open_blocks : Deep r.sheet (length r.sheet.levels)
  open_blocks = record { counted = refl }

  deep_embodied : Deep (embodied r) (suc (length r.sheet.levels))
  deep_embodied = deep_braces (deep_keeps (is_known r) _ _ (deep_bodied open_blocks _ _) (deep_classes open_blocks _ _))

  pub clue_effect : (s : Symbol) → clue_of (effect r s t p) ≡ led (clue_of r) s t
  unfolding effect draft_after sheet_after after drafted led
  clue_effect (one (the s)) =
      clued r.called (cue_steady (steady_sign (untouched r) _ s))
      (deep_if (eqb s T.SEMI) _ _ (deep_done open_blocks (draft_after r (one (the s)) t p))
      (deep_if (eqb s T.LB) _ _ (deep_opens open_blocks (draft_after r (one (the s)) t p)) open_blocks))
  clue_effect (one a_name) =
      clued (if eqb r.draft.role K.CLASS then name_in t else r.called) (cue_steady (steady_name (untouched r) _)) open_blocks
  clue_effect (one (a_number b)) = clued r.called (cue_number r b _) open_blocks
  clue_effect (factor_s n) = clued r.called (cue_steady (steady_factor (untouched r) (kind_of r.known (name_in t)) (number_of r.known (name_in t)) t)) open_blocks
  clue_effect (minus_s n) = clued r.called (cue_steady (steady_minus (untouched r) (kind_of r.known (name_in t)) (number_of r.known (name_in t)) t)) open_blocks
  clue_effect (more n k) =
      clued r.called (cue_steady (steady_more (untouched r) k (mark_in t)))
      (deep_keeps (eqb (mark_in t) T.SEMI) _ _ (deep_done open_blocks (draft_after r (more n k) t p)) open_blocks)
  clue_effect signed_s =
      clued r.called (cue_keeps (eqb (mark_in t) T.MINUS) _ _ (drawn r) (record { shown = refl })) open_blocks
  clue_effect relation_s = refl
  clue_effect item_s = clued r.called (cue_item r _ t) open_blocks
  clue_effect claim_s = clued r.called (cue_item r _ t) open_blocks
  clue_effect items_s = refl
  clue_effect gives_s = refl
  clue_effect given_s = refl
  clue_effect actions_s = clued r.called (cue_action _ _ _ p (kept_in r.sheet.levels) t) (deep_behind open_blocks t)
  clue_effect try_s = clued r.called (cue_action _ _ _ p (kept_in r.sheet.levels) t) (deep_behind open_blocks t)
  clue_effect (few_s n) = refl
  clue_effect lines_s = clued r.called (cue_action _ _ _ p (kept_in r.sheet.levels) t) (deep_behind open_blocks t)
  clue_effect body_s =
      clued r.called (drawn r) (deep_if (eqb (mark_in t) T.SEMI) _ _ (deep_classes open_blocks _ No.no_body) deep_embodied)
  clue_effect text_s =
      clued r.called (cue_text p t) (deep_keeps (eqb r.sheet.total 0) _ _ (record { counted = refl }) open_blocks)
