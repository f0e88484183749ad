-- One answer: a map is its words. Assumes nothing.
use Rattle.std.specs.Prelude.{◌≡◌, List}
use Rattle.std.proofs.Common.{sym, ◌∙◌, ap}
use Rattle.semantics.specs.Bytes.{Raw}
use Rattle.file_map.specs.declared.Map.{Map}
use Rattle.file_map.specs.MapOf.{map_of}

pub same_map : (rs : List Raw) (r r' : Map) → r.words ≡ map_of rs → r'.words ≡ map_of rs → r ≡ r'
same_map rs r r' h k = ap (λ ws. record { words = ws }) (h ∙ sym k)
