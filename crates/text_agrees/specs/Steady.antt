-- A token in the middle of a declaration or action leaves the draft's kind, and what its next name is for.
-- Assumes nothing.
use Rattle.std.specs.Prelude.{ℕ, ◌≡◌, refl, List, Bool, true, false, ◌&&◌, ◌||◌, ltb, length, if◌then◌else◌}
use Rattle.std.proofs.Math.Dec.{eqb, leb}
use Rattle.semantics.specs.Kinds as K
use Rattle.text_semantics.specs.Token as T
use Rattle.text_semantics.specs.Token.{Token, name, number, mark, bad}
use Rattle.text_semantics.specs.Written.{node}
use Rattle.text_semantics.specs.Reading.{Closer, round, comma, semi}
use Rattle.text_machine.specs.Entry as E
use Rattle.text_machine.specs.Entry.{Draft, asking, put, put_count, one_more, at_sign, at_name, at_factor, at_minus, at_more}

pub record Steady (a d : Draft) : Type 0 where
  pub kind : d.kind ≡ a.kind
  pub role : d.role ≡ a.role

pub still : {d : Draft} → Steady d d
still = record { kind = refl; role = refl }

either : (b : Bool) (x y : Draft) {a : Draft} → Steady a x → Steady a y → Steady a (if b then x else y)
either true x y e f = e
either false x y e f = f

module _ {a d : Draft} (h : Steady a d) where
  pub steady_put : (bs : List ℕ) → Steady a (put d bs)
  unfolding put
  steady_put bs = record { kind = h.kind; role = h.role }

  steady_put_count : Steady a (put_count d)
  unfolding put_count
  steady_put_count = record { kind = h.kind; role = h.role }

  steady_starts : (ss : List E.Start) → Steady a (E.with_starts d ss)
  steady_starts ss = record { kind = h.kind; role = h.role }

  steady_dropped : Steady a (E.dropped d)
  steady_dropped = record { kind = h.kind; role = h.role }

  pub steady_one_more : Steady a (one_more d)
  unfolding one_more
  steady_one_more = either (d.over || leb E.KEPT d.count) _ _ steady_dropped (record { kind = h.kind; role = h.role })

  steady_opens : Steady a (E.opens d)
  steady_opens = either (ltb (length d.starts) E.DEPTH) _ _ (steady_starts _) steady_dropped

  steady_deep : (s : ℕ) → Steady a (E.deep s d)
  steady_deep s =
      either (eqb s T.CLOCK) _ _ (steady_put _)
      (either (eqb s T.LESSER) _ _ (steady_put _)
      (either (eqb s T.GREATER) _ _ (steady_put _) (either (eqb s T.LP) _ _ steady_opens h)))

  pub steady_sign : (k s : ℕ) → Steady a (at_sign k s d)
  unfolding at_sign
  steady_sign k s =
      either (eqb s T.LP) _ _
      (either (E.is_expression d.kind) _ _ steady_opens
      (either (eqb d.kind K.START && eqb d.role (asking K.RES)) _ _ steady_one_more h))
      (either (eqb s T.BECOMES) _ _ steady_opens
      (either (eqb s T.LS) _ _ (either (eqb d.kind K.START) _ _ h steady_put_count)
      (either (eqb s T.LB && eqb d.kind K.DO) _ _ (record { kind = h.kind; role = h.role }) h)))

  pub steady_name : (i : ℕ) → Steady a (at_name i d)
  unfolding at_name
  steady_name i = either (leb E.ASK d.role) _ _ (record { kind = h.kind; role = h.role }) h

  pub steady_factor : (w i : ℕ) (t : Token) → Steady a (at_factor w i t d)
  unfolding at_factor
  steady_factor w i (number n) = record { kind = h.kind; role = h.role }
  steady_factor w i (name x) = record { kind = h.kind; role = h.role }
  steady_factor w i (mark s) = steady_deep s
  steady_factor w i bad = h

module _ {a d : Draft} (h : Steady a d) where
  pub steady_minus : (w i : ℕ) (t : Token) → Steady a (at_minus w i t d)
  unfolding at_minus
  steady_minus w i (number n) = record { kind = h.kind; role = h.role }
  steady_minus w i (name x) = record { kind = h.kind; role = h.role }
  steady_minus w i (mark s) = steady_deep (steady_put h (node 9 0)) s
  steady_minus w i bad = h

  steady_closing : (c : Closer) → Steady a (E.closing c d)
  steady_closing round = steady_starts h _
  steady_closing comma = steady_opens (steady_starts h (E.outer d.starts))
  steady_closing semi = steady_starts h _

  pub steady_more : (c : Closer) (s : ℕ) → Steady a (at_more c s d)
  unfolding at_more
  steady_more c s =
      either (eqb s T.STAR) _ _ (record { kind = h.kind; role = h.role })
      (either (eqb s T.PLUS) _ _ (record { kind = h.kind; role = h.role })
      (either (eqb s T.MINUS) _ _ (record { kind = h.kind; role = h.role }) (steady_closing c)))
