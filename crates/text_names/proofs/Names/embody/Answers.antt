-- Where each name is known once, only the one that the search found changes; else there is one more.
use Rattle.std.proofs.Common.{◌<◌, arith, sym, ◌∙◌, ap, length}
use Rattle.std.proofs.lemmas.Bool.{eqb-false}
use Rattle.text_machine.specs.Machine.{most_names}
use Rattle.text_names.specs.Table.{known_in}
use Rattle.text_names.proofs.Known.{embodied_some, embodied_none, known_bodied}
use Rattle.text_names.proofs.Names.embody.Goals as goal

pub returns-in-Some : goal.returns-in-Some
returns-in-Some c =
    let n = eqb-false _ _ (sym c.if-is_full.ensures.value) in
    let h : length c.args.self.now.rows < most_names = rw (← c.self.view_is) (omega (arith, n, c.is_full.ensures.fits)) in
    let k = c.give_body.ensures ∙ embodied_some c.args.self.now c.args.p c.args.e h _ (sym c.in-Some.ensures.value) in
    record { rows = k; known = ap known_in k ∙ known_bodied c.args.self.now c.args.p c.args.e c.requires.distinct }

pub returns-in_default : goal.returns-in_default
returns-in_default c =
    let n = eqb-false _ _ (sym c.if-is_full.ensures.value) in
    let h : length c.args.self.now.rows < most_names = rw (← c.self.view_is) (omega (arith, n, c.is_full.ensures.fits)) in
    let k = c.add.ensures ∙ embodied_none c.args.self.now c.args.p c.args.e h (sym c.in_default.ensures.value) in
    record { rows = k; known = ap known_in k ∙ known_bodied c.args.self.now c.args.p c.args.e c.requires.distinct }
