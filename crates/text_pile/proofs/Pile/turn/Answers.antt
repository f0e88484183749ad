-- `turn` goes by the place that the table has for the token at the top. Assumes nothing.
use Rattle.std.proofs.Common.{sym, ◌∙◌, ap, length, arith, ◌+◌}
use Rattle.std.proofs.Math.Path.{refl}
use Rattle.text_pile.proofs.Table.{places, nexts}
use Rattle.text_pile.proofs.Piles.{no_top, turn_empty, turn_none, asked_none, ends_by, high_by, fits_by, next_length, next_all, shift_small}
use Rattle.text_pile.proofs.Pile.turn.Goals as goal

pub returns-in_default : goal.returns-in_default
returns-in_default c =
    turn_empty c.args.self.now c.args.kind c.args.value (no_top c.args.self.now (sym c.in_default.ensures.value))
    (rw (← c.self.view_is) c.self.invariant) _

pub returns-in_default-place_of : goal.returns-in_default-place_of
unfolding places
returns-in_default-place_of c =
    turn_none (asked_none c.args.self.now c.args.kind c.args.value c.in-Some.top c.class_of-class.result c.column_of.result
    (rw (← c.self.view_is) c.self.invariant) c.requires (sym c.in-Some.ensures.value) c.class_of-class.ensures.0 c.column_of.ensures.0
    (sym c.place_of.ensures ∙ c.in_default-place_of.is)) refl _

pub next_at-next-requires : goal.next_at-next-requires
unfolding nexts places
next_at-next-requires c =
    let e = ends_by c.args.self.now c.args.kind c.args.value c.in-Some.top c.class_of-class.result c.column_of.result
    (rw (← c.self.view_is) c.self.invariant) c.requires (sym c.in-Some.ensures.value) c.class_of-class.ensures.0 c.column_of.ensures.0
    c.in-Some-place_of.place (sym c.place_of.ensures ∙ c.in-Some-place_of.is) in
    (omega arith, e)

pub returns-then-rest-next-gt-HIGHEST : goal.returns-then-rest-next-gt-HIGHEST
unfolding nexts places
returns-then-rest-next-gt-HIGHEST c =
    let e = ends_by c.args.self.now c.args.kind c.args.value c.in-Some.top c.class_of-class.result c.column_of.result
    (rw (← c.self.view_is) c.self.invariant) c.requires (sym c.in-Some.ensures.value) c.class_of-class.ensures.0 c.column_of.ensures.0
    c.in-Some-place_of.place (sym c.place_of.ensures ∙ c.in-Some-place_of.is) in
    high_by c.args.self.now c.args.kind c.args.value c.in-Some.top c.class_of-class.result c.column_of.result
    (rw (← c.self.view_is) c.self.invariant) c.requires (sym c.in-Some.ensures.value) c.class_of-class.ensures.0 c.column_of.ensures.0
    c.in-Some-place_of.place (sym c.place_of.ensures ∙ c.in-Some-place_of.is) {n = c.len-rest.result} {m = length c.next_at-next.result.now}
    (rw (← c.self.view_is) c.len-rest.ensures.value)
    (ap length c.next_at-next.ensures ∙ next_length c.in-Some-place_of.place e) (omega arith) _

pub put-requires-clause-known : goal.put-requires-clause-known
unfolding nexts
put-requires-clause-known c = rw c.next_at-next.ensures (next_all _ (c.in-Some-place_of.place + 1))

pub put-requires-clause-by_bound : goal.put-requires-clause-by_bound
put-requires-clause-by_bound c = rw c.class_of-class.ensures.0 (shift_small c.in-Some.top c.in-Some.ensures.known)

pub invariant_of-self : goal.invariant_of-self
unfolding nexts places
invariant_of-self c =
    let e = ends_by c.args.self.now c.args.kind c.args.value c.in-Some.top c.class_of-class.result c.column_of.result
    (rw (← c.self.view_is) c.self.invariant) c.requires (sym c.in-Some.ensures.value) c.class_of-class.ensures.0 c.column_of.ensures.0
    c.in-Some-place_of.place (sym c.place_of.ensures ∙ c.in-Some-place_of.is) in
    (fits_by c.args.self.now c.args.kind c.args.value c.in-Some.top c.class_of-class.result c.column_of.result
    (rw (← c.self.view_is) c.self.invariant) c.requires (sym c.in-Some.ensures.value) c.class_of-class.ensures.0 c.column_of.ensures.0
    c.in-Some-place_of.place (sym c.place_of.ensures ∙ c.in-Some-place_of.is) {n = c.len-rest.result} {m = length c.next_at-next.result.now}
    (rw (← c.self.view_is) c.len-rest.ensures.value)
    (ap length c.next_at-next.ensures ∙ next_length c.in-Some-place_of.place e) (omega arith)
    (rw (c.put.ensures, c.truncate.ensures.items, c.next_at-next.ensures, ← c.self.view_is) refl)
    tt).piled

pub returns : goal.returns
unfolding nexts places
returns c =
    let e = ends_by c.args.self.now c.args.kind c.args.value c.in-Some.top c.class_of-class.result c.column_of.result
    (rw (← c.self.view_is) c.self.invariant) c.requires (sym c.in-Some.ensures.value) c.class_of-class.ensures.0 c.column_of.ensures.0
    c.in-Some-place_of.place (sym c.place_of.ensures ∙ c.in-Some-place_of.is) in
    fits_by c.args.self.now c.args.kind c.args.value c.in-Some.top c.class_of-class.result c.column_of.result
    (rw (← c.self.view_is) c.self.invariant) c.requires (sym c.in-Some.ensures.value) c.class_of-class.ensures.0 c.column_of.ensures.0
    c.in-Some-place_of.place (sym c.place_of.ensures ∙ c.in-Some-place_of.is) {n = c.len-rest.result} {m = length c.next_at-next.result.now}
    (rw (← c.self.view_is) c.len-rest.ensures.value)
    (ap length c.next_at-next.ensures ∙ next_length c.in-Some-place_of.place e) (omega arith)
    (rw (c.put.ensures, c.truncate.ensures.items, c.next_at-next.ensures, ← c.self.view_is) refl)
    tt
