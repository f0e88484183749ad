-- By the sort of what was still to come. Assumes nothing.
use Rattle.std.proofs.Common.{◌≡◌, sym, ap}
use Rattle.std.proofs.Math.Path.{refl}
use Rattle.text_machine.specs.Codes.{token_of}
use Rattle.text_reader.specs.Named.{sort_number}
use Rattle.text_reader.proofs.Cuts.{sound_behind}
use Rattle.text_reader.proofs.sheet_after.Goals as goal

pub returns-in-Block : goal.returns-in-Block
returns-in-Block c = λ v line x h.
    rw c.in-Block.is (record {
      cut = refl;
      same = c.behind.ensures v x;
      sound = rw (c.behind.ensures v x)
          (sound_behind c.args.sheet.now (token_of c.args.token.kind v x) c.requires.sound);
    })

pub returns-in-Body : goal.returns-in-Body
returns-in-Body c = λ v line x h.
    let d = c.args.draft.now in
    let q : line ≡ d.line = h (ap sort_number c.in-Body.is) in
    let k : c.draft.inside.line ≡ d.line = ap (λ y. y.line) c.draft.view_is in
    rw (c.in-Body.is, q) (rw k at (c.body.ensures d v x (sym k)))
