-- `text_sheet::put` meets its contract. Assumes nothing.
use Rattle.std.proofs.Common.{refl}
use Rattle.text_sheet.specs.Told.{put_there}
use Rattle.text_sheet.proofs.put.Goals as goal

pub returns : goal.returns
returns c = let a = c.args in
    record {
      behind = refl;
      bytes = put_there a.out.now c.copy_from_slice.new.self a.bytes.now a.at c.copy_from_slice.ensures.after c.requires;
    }
