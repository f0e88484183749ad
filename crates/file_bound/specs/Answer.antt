-- The bound of a file as the code tells it. Assumes nothing.
use Rattle.std.specs.Prelude.{Result, Ok, Err}
use Rattle.semantics.specs.Decode.{Checked, refused, accepted}
use Rattle.semantics.specs.Bound as definition
use Rattle.semantics.specs.Bound.{NONE, OVER, AT}
use Rattle.file_check_record.specs.Refused.{number_of}
use Rattle.file_check.specs.declared.Refused.{Refused}
use Rattle.file_bound.specs.declared.Bounded.{Bounded}
use Rattle.file_bound.specs.declared.Bounded.TheVariants as B

abbrev pub bound_as : Bounded → definition.Bounded
bound_as B.None = NONE
bound_as B.Over = OVER
bound_as (B.At n) = AT n

abbrev pub bounded_of : Result Bounded Refused → Checked definition.Bounded
bounded_of (Ok b) = accepted (bound_as b)
bounded_of (Err r) = refused (number_of r.refusal) r.place
