-- The body of a draft is as long as the machine counts, as long as it is kept: so of every reader that the machine comes to.
-- Assumes nothing.
use Rattle.text_semantics.specs.Meaning.{kind_of}
use Prim.Native.Nat.{ℕ, suc, ◌+◌, min}
use native.Mathlib.Omega.{arith}
use Rattle.std.specs.Prelude.{◌≡◌, Bool, ◌&&◌, ◌||◌, get_or, if◌then◌else◌}
use Rattle.std.proofs.Math.Path.{refl}
use Rattle.std.proofs.Common.{sym, ◌∙◌, subst, length-set}
use mathlib.Core.List.{List, [], ◌∷◌, ◌++◌}
use Rattle.std.proofs.Math.Bool.{true, false}
use Rattle.std.proofs.Math.Option.{Option, none, some}
use Rattle.std.proofs.Math.Dec.{eqb, leb, ltb}
use Rattle.std.proofs.Math.ListN.{length, take, drop, length-append, length-take, length-drop}
use borrow.Author.Tests.{ltb-false}
use Rattle.semantics.specs.Kinds as K
use Rattle.promises.specs.Laws.{no_way, or-false, if_has}
use Rattle.text_semantics.specs.Numbers as No
use Rattle.text_semantics.specs.Token as T
use Rattle.text_semantics.specs.Token.{Token, name, number, mark, bad}
use Rattle.text_semantics.specs.Names.{LOCAL}
use Rattle.text_semantics.specs.Meaning.{minus}
use Rattle.text_semantics.specs.Written.{two, four, code, node}
use Rattle.text_semantics.specs.Reading.{Symbol, Closer, one, the, a_name, a_number, factor_s, minus_s, more, signed_s, relation_s}
use Rattle.text_semantics.specs.Reading.{item_s, claim_s, items_s, gives_s, given_s, actions_s, try_s, few_s, lines_s, body_s, text_s}
use Rattle.text_semantics.specs.Reading.{round, comma, semi}
use Rattle.text_machine.specs.Entry as E
use Rattle.text_machine.specs.Entry.{Draft, KEPT, FULL, asking, begin, put, put_at, put_count, one_more, drafted, mark_in}
use Rattle.text_machine.specs.Entry.{number_in}
use Rattle.text_machine.specs.Entry.{at_sign, at_name, at_number, at_factor, at_minus, at_more, at_item, at_action, at_text}
use Rattle.text_machine.specs.Sheet.{Kept, kept_in, resumed}
use Rattle.text_machine.specs.Machine.{Reader, draft_after, after}
use Rattle.text_agrees.specs.Drafts.{Whole, whole_put}
use Rattle.text_agrees.specs.Stages.{Comes, starts, moves}
use Rattle.text_agrees.specs.Goodness.{turns}

-- A body with the same length and size; and one of which nothing is kept.
whole_as : {d : Draft} (e : Draft) → Whole d → (e.over ≡ false → d.over ≡ false) → length e.body ≡ length d.body →
    e.size ≡ d.size → Whole e
whole_as e w o l s = record { sized = λ f. l ∙ w.sized (o f) ∙ sym s }

whole_over : (d : Draft) → d.over ≡ true → Whole d
whole_over d o = record { sized = λ f. no_way (sym f ∙ o) }

whole_if : (b : Bool) {x y : Draft} → Whole x → Whole y → Whole (if b then x else y)
whole_if b x y = if_has Whole b (λ e. x) (λ e. y)

whole_begin : (p k r : ℕ) → Whole (begin p k r)
whole_begin p k r = record { sized = λ f. refl }

-- WHAT CHANGES A BODY.
module _ {d : Draft} (w : Whole d) where
  whole_put_at : (p : ℕ) (bs : List ℕ) → Whole (put_at d p bs)
  unfolding put_at
  whole_put_at p bs = record { sized = go (d.over || ltb KEPT (d.size + length bs)) refl }
    where
      go : (o : Bool) → d.over || ltb KEPT (d.size + length bs) ≡ o → o ≡ false →
          length (if o then [] else take p d.body ++ bs ++ drop p d.body) ≡ min FULL (d.size + length bs)
      go true e f = no_way (sym f)
      go false e f =
          let a = or-false d.over (ltb KEPT (d.size + length bs)) e in
          omega (
            arith,
            ltb-false KEPT (d.size + length bs) a.1,
            w.sized a.0,
            length-append (take p d.body ++ bs) (drop p d.body),
            length-append (take p d.body) bs,
            length-take p d.body,
            length-drop p d.body,
          )

  whole_put_count : Whole (put_count d)
  unfolding put_count
  whole_put_count = whole_as _ (whole_put d (two 0) w) (λ f. f) refl refl

  whole_dropped : Whole (E.dropped d)
  whole_dropped = whole_over (E.dropped d) refl

  whole_one_more : Whole (one_more d)
  unfolding one_more
  whole_one_more =
      if_has Whole (d.over || leb KEPT d.count) (λ e. whole_dropped)
      (λ e. whole_as _ w (λ f. (or-false d.over (leb KEPT d.count) e).0)
      (length-set d.body d.at (suc d.count)) refl)

  whole_starts : (ss : List E.Start) → Whole (E.with_starts d ss)
  whole_starts ss = whole_as _ w (λ f. f) refl refl

  whole_opens : Whole (E.opens d)
  whole_opens = whole_if (ltb (length d.starts) E.DEPTH) (whole_starts _) whole_dropped

  whole_branching : Whole (E.branching d)
  whole_branching = whole_as _ w (λ f. f) (length-set d.body 0 (suc (get_or d.body 0 0))) refl

-- THE TOKENS, by what was still to come when each was read.
module _ {d : Draft} (w : Whole d) where
  whole_sign : (k s : ℕ) → Whole (at_sign k s d)
  unfolding at_sign
  whole_sign k s =
      whole_if (eqb s T.LP)
      (whole_if (E.is_expression d.kind) (whole_opens w)
      (whole_if (eqb d.kind K.START && eqb d.role (asking K.RES)) (whole_one_more w) w))
      (whole_if (eqb s T.BECOMES) (whole_opens w)
      (whole_if (eqb s T.LS) (whole_if (eqb d.kind K.START) w (whole_put_count w))
      (whole_if (eqb s T.LB && eqb d.kind K.DO) (whole_put d (two k) w) w)))

  whole_name : (i : ℕ) → Whole (at_name i d)
  unfolding at_name
  whole_name i = whole_if (leb E.ASK d.role) (whole_put d (two i) w) w

  whole_number : (b n : ℕ) → Whole (at_number b n d)
  unfolding at_number
  whole_number b n =
      whole_if (eqb b No.top_count) (whole_put d (two n) w)
      (whole_if (eqb b No.top_magnitude) (whole_put d (four (code (minus n))) w)
      (whole_if (eqb d.kind K.START && eqb d.role (asking K.CLASS))
      (whole_as _ (whole_put_count (whole_put d (four n) w)) (λ f. f) refl refl) (whole_put d (four n) w)))

  whole_deep : (s : ℕ) → Whole (E.deep s d)
  whole_deep s =
      whole_if (eqb s T.CLOCK) (whole_put d (node 8 0) w)
      (whole_if (eqb s T.LESSER) (whole_put d (node 6 0) w)
      (whole_if (eqb s T.GREATER) (whole_put d (node 7 0) w) (whole_if (eqb s T.LP) (whole_opens w) w)))

  whole_factor : (v i : ℕ) (t : Token) → Whole (at_factor v i t d)
  unfolding at_factor
  whole_factor v i (number n) = whole_put d (node 0 n) w
  whole_factor v i (name x) = whole_put d (node (E.op_of v) i) w
  whole_factor v i (mark s) = whole_deep s
  whole_factor v i bad = w

  whole_closing : (c : Closer) → Whole (E.closing c d)
  whole_closing round = whole_starts w _
  whole_closing comma = whole_opens (whole_starts w (E.outer d.starts))
  whole_closing semi = whole_starts w _

  whole_before : (op p : ℕ) → Whole (E.new_term (E.before op p d))
  whole_before op p = whole_starts (whole_put_at w p (node op 0)) _

  whole_more : (c : Closer) (s : ℕ) → Whole (at_more c s d)
  unfolding at_more
  whole_more c s =
      whole_if (eqb s T.STAR) (whole_put_at w first.term (node 5 0))
      (whole_if (eqb s T.PLUS) (whole_before 3 first.sum)
      (whole_if (eqb s T.MINUS) (whole_before 4 first.sum) (whole_closing c)))
    where
      first : E.Start
      first = E.first_start d.starts

  whole_getting : (k v : ℕ) → Whole (E.getting k v d)
  whole_getting k v = whole_as _ (whole_put (one_more d) (k ∷ 0 ∷ []) (whole_one_more w)) (λ f. f) refl refl

  whole_item : (i : ℕ) (t : Token) → Whole (at_item i t d)
  unfolding at_item
  whole_item i (name x) = whole_as _ (whole_put (one_more d) (3 ∷ []) (whole_one_more w)) (λ f. f) refl refl
  whole_item i (number n) = w
  whole_item i (mark s) =
      whole_if (eqb s T.GETR) (whole_getting 0 K.RES)
      (whole_if (eqb s T.GETB) (whole_getting 1 K.BIN) (whole_if (eqb s T.GETS) (whole_getting 2 K.SYNC) w))
  whole_item i bad = w

whole_minus : {d : Draft} (v i : ℕ) (t : Token) → Whole d → Whole (at_minus v i t d)
unfolding at_minus
whole_minus {d} v i (number n) w = whole_put d (node 0 (code (minus n))) w
whole_minus {d} v i (name x) w = whole_put (put d (node 9 0)) (node (E.op_of v) i) (whole_put d (node 9 0) w)
whole_minus {d} v i (mark s) w = whole_deep (whole_put d (node 9 0) w) s
whole_minus v i bad w = w

-- A declaration or action begins.
whole_action : (v i k p : ℕ) (kept : Draft) (t : Token) → Whole kept → Whole (at_action v i k p kept t)
unfolding at_action
whole_action v i k p kept (name x) w =
    let k : ℕ = if eqb v K.VAR then K.SET else K.LSET in whole_put (begin p k 0) (two i) (whole_begin p k 0)
whole_action v i k p kept (number n) w = whole_begin p 0 0
whole_action v i k p kept (mark s) w =
    whole_if (eqb s T.HOLD) (whole_begin p K.HOLD 0)
    (whole_if (eqb s T.PRIORITY) (whole_begin p K.PRIO 0)
    (whole_if (eqb s T.TRACE) (whole_begin p K.TRACE 0)
    (whole_if (eqb s T.DO) (whole_begin p K.DO 0)
    (whole_if (eqb s T.PUTR) (whole_begin p K.PUTR (asking K.RES))
    (whole_if (eqb s T.PUTB) (whole_begin p K.PUTB (asking K.BIN))
    (whole_if (eqb s T.PUTS) (whole_begin p K.PUTS (asking K.SYNC))
    (whole_if (eqb s T.BECOME) (whole_begin p K.BECOME (asking K.SYNC))
    (whole_if (eqb s T.REQ) (whole_begin p K.REQ 0)
    (whole_if (eqb s T.TRY) (whole_put (begin p K.TRY 0) (two 1 ++ two k) (whole_begin p K.TRY 0))
    (whole_if (eqb s T.ETRY) (whole_put (E.branching kept) (two k) (whole_branching w))
    (whole_if (eqb s T.WHILE) (whole_put (begin p K.WHILE 0) (two k) (whole_begin p K.WHILE 0))
    (whole_if (eqb s T.START) (whole_begin p K.START (asking K.CLASS))
    (whole_if (eqb s T.CLOSE) (whole_begin p K.CLOSE 0) (whole_begin p 0 LOCAL))))))))))))))
whole_action v i k p kept bad w = whole_begin p 0 0

whole_text : (p : ℕ) (t : Token) → Whole (at_text p t)
unfolding at_text
whole_text p (name x) = whole_begin p 0 0
whole_text p (number n) = whole_begin p 0 0
whole_text p (mark s) =
    whole_if (eqb s T.RES) (whole_begin p K.RES K.RES)
    (whole_if (eqb s T.BIN) (whole_begin p K.BIN K.BIN)
    (whole_if (eqb s T.SYNC) (whole_begin p K.SYNC K.SYNC)
    (whole_if (eqb s T.VAR) (whole_begin p K.VAR K.VAR)
    (whole_if (eqb s T.SAMPLER) (whole_begin p K.SAMPLER K.SAMPLER)
    (whole_if (eqb s T.CLASS) (whole_begin p K.CLASS K.CLASS) (whole_begin p K.ENTITY (asking K.CLASS)))))))
whole_text p bad = whole_begin p 0 0

whole_resumed : (o : Option Kept) → Whole (resumed o)
whole_resumed none = whole_begin 0 K.TRY 0
whole_resumed (some x) = record { sized = λ f. refl }

module _ (v i k p : ℕ) (kept d : Draft) (u : Whole kept) (w : Whole d) where
  whole_drafted : (s : Symbol) (t : Token) → Whole (drafted v i k p kept s t d)
  unfolding drafted
  whole_drafted (one (the s)) t = whole_sign w k s
  whole_drafted (one a_name) t = whole_name w i
  whole_drafted (one (a_number b)) t = whole_number w b (number_in t)
  whole_drafted (factor_s n) t = whole_factor w v i t
  whole_drafted (minus_s n) t = whole_minus v i t w
  whole_drafted (more n c) t = whole_more w c (mark_in t)
  whole_drafted signed_s t = whole_if (eqb (mark_in t) T.MINUS) w (whole_put d (four (number_in t)) w)
  whole_drafted relation_s t = whole_put d (E.relation_of (mark_in t) ∷ two d.aside) w
  whole_drafted item_s t = whole_item w i t
  whole_drafted claim_s t = whole_item w i t
  whole_drafted items_s t = w
  whole_drafted gives_s t = w
  whole_drafted given_s t = w
  whole_drafted actions_s t = whole_action v i k p kept t u
  whole_drafted try_s t = whole_action v i k p kept t u
  whole_drafted (few_s n) t = w
  whole_drafted lines_s t = whole_action v i k p kept t u
  whole_drafted body_s t = w
  whole_drafted text_s t = whole_text p t

-- EVERY READER that the machine comes to.
pub whole_after : (r : Reader) (s : Symbol) (t : Token) (p : ℕ) → Whole r.draft → Whole (draft_after r s t p)
unfolding draft_after
whole_after r s t p w = whole_drafted (kind_of r.known (E.name_in t)) _ _ p _ r.draft (whole_resumed (kept_in r.sheet.levels)) w s t

pub whole_draft : {r : Reader} → Comes r → Whole r.draft
unfolding after
whole_draft starts = whole_begin 0 0 0
whole_draft (moves {r = r} {s = q} k c e) =
    let a = turns r k q e in
    subst (λ (z : Reader). Whole z.draft) (sym a.now) (whole_after r a.top k.token k.place (whole_draft c))
