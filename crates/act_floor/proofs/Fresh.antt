-- The fresh run of an accepted file is open, by the file's map. Assumes nothing.
use Prim.Native.Nat.{ℕ}
use mathlib.Core.Path.{◌≡◌, refl}
use mathlib.Core.List.{List}
use Rattle.semantics.specs.Model.{Model}
use Rattle.semantics.specs.Bytes.{records_from}
use Rattle.semantics.specs.State.{fresh}
use Rattle.semantics.specs.Decode.{accepted, decode}
use Rattle.promises.specs.Laws.{AllOf}
use Rattle.promises.specs.Accepted.{accepted_fit}
use Rattle.promises.proofs.FreshSound.{fresh_sound}
use Rattle.row_work.specs.Work.{work_of}
use Rattle.row_work.specs.Sized.{IsByte}
use Rattle.row_work.specs.Underway.{accepted_run}
use Rattle.file_map.specs.MapOf.{map_of}
use Rattle.file_map.proofs.Mapped.{mapped as mapped_by}
use Rattle.act_floor.specs.Acting.{Open}

abbrev pub fresh_open : {bs : List ℕ} {m : Model} → AllOf IsByte bs → decode bs ≡ accepted m
    → Open bs (map_of (records_from 0 bs)) (work_of (fresh m))
fresh_open {bs} {m} h e =
    record {
      run = accepted_run bs m h e (fresh m) refl;
      mapped = mapped_by bs m e;
      sound = fresh_sound m (accepted_fit bs m e);
    }
