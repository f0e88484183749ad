-- `act_putr_putb::putr` meets its contract: the amount is taken from the holder, and its return enters. Assumes nothing.
use mathlib.Core.Path.{◌∙◌}
use Rattle.act_floor.specs.Onward.{shown, low, passing}
use Rattle.act_putr_putb.proofs.Between.{known, enough_held, giving, given_is, giving_back}
use Rattle.act_putr_putb.proofs.Steps.{putr_faults, given_back, too_little}
use Rattle.act_putr_putb.proofs.putr.Goals as goal

pub held_of-requires : goal.held_of-requires
held_of-requires c = let v = c.requires in
    shown v (low v, known v)

pub returns-then-held_of-n : goal.returns-then-held_of-n
returns-then-held_of-n c = λ v. too_little v _ _ (c.held_of.ensures.0 (shown v (low v, known v))) c.if-held_of-n.true

pub returns-requires : goal.returns-requires
returns-requires c = shown c.requires tt

pub returns-then-returns-ge-RETURNS : goal.returns-then-returns-ge-RETURNS
returns-then-returns-ge-RETURNS c = λ v.
    let n = enough_held v (c.held_of.ensures.0 (shown v (low v, known v))) c.if-held_of-n.false in
    putr_faults v _ _ _ (c.returns.ensures (shown v tt)) n c.if-returns-ge-RETURNS.true

pub number_of-giver-requires : goal.number_of-giver-requires
number_of-giver-requires c = let v = c.requires in
    shown v (low v)

pub past-requires : goal.past-requires
past-requires c = passing c.requires

pub give_back-requires : goal.give_back-requires
give_back-requires c = let v = c.requires in
    let n = enough_held v (c.held_of.ensures.0 (shown v (low v, known v))) c.if-held_of-n.false in
    giving v n (c.past.ensures (passing v))

pub return_resource-requires : goal.return_resource-requires
return_resource-requires c = let v = c.requires in
    let n = enough_held v (c.held_of.ensures.0 (shown v (low v, known v))) c.if-held_of-n.false in
    let d = giving v n (c.past.ensures (passing v)) in
    giving_back v n (c.returns.ensures (shown v tt)) c.if-returns-ge-RETURNS.false
    (c.number_of-giver.ensures (shown v (low v)))
    (c.give_back.ensures d ∙ given_is v n)

pub returns : goal.returns
returns c = λ v.
    let n = enough_held v (c.held_of.ensures.0 (shown v (low v, known v))) c.if-held_of-n.false in
    let k = c.returns.ensures (shown v tt) in
    let g = c.number_of-giver.ensures (shown v (low v)) in
    let d = giving v n (c.past.ensures (passing v)) in
    let b = giving_back v n k c.if-returns-ge-RETURNS.false g (c.give_back.ensures d ∙ given_is v n) in
    given_back v _ _ _ k n c.if-returns-ge-RETURNS.false g (c.return_resource.ensures b)
