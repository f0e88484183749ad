-- What the names of a token are found to be: its own, and that of the class line.
-- Assumes nothing.
use Rattle.std.specs.Prelude.{ℕ, ◌≤◌, ◌≡◌, List, Option, Some, None, Result, IfOk, if◌then◌else◌}
use Rattle.semantics.specs.Words.{any}
use Rattle.text_semantics.specs.Token as T
use Rattle.text_semantics.specs.Grammar.{Name}
use Rattle.text_semantics.specs.Names.{Known, named, trouble}
use Rattle.text_semantics.specs.Meaning.{kind_of, number_of}
use Rattle.text_machine.specs.Entry.{name_in}
use Rattle.text_machine.specs.Codes.{token_of}
use Rattle.text_tokens.specs.declared.Token.{Token}
use Rattle.text_names.specs.declared.Trouble.{Trouble}
use Rattle.text_names.specs.Table.{part_of}
use Rattle.text_names.specs.Trouble.{trouble_in}
use Rattle.text_reader.specs.declared.Named.{Named}
use Rattle.text_reader.specs.declared.sort.Sort.{Sort}
use Rattle.text_reader.specs.declared.sort.Sort.TheVariants as S
use Rattle.text_reader.specs.Sorts as Sorts
use Rattle.text_reader.specs.Sorts.{event_by}

-- The sorts of symbols as the code has them.
abbrev pub sort_number : Sort → ℕ
sort_number S.Other = Sorts.OTHER
sort_number S.Semi = Sorts.SEMI
sort_number S.Brace = Sorts.BRACE
sort_number S.Named = Sorts.NAMED
sort_number S.Value = Sorts.VALUE
sort_number S.More = Sorts.MORE
sort_number S.Variable = Sorts.VARIABLE
sort_number S.Block = Sorts.BLOCK
sort_number S.Body = Sorts.BODY
sort_number S.Text = Sorts.TEXT

abbrev pub number_if : List Known → Name → Option ℕ
number_if ks y = if any (named y) ks then Some (number_of ks y) else None

pub record Named_as (ks : List Known) (x y : Name) (r : Named) : Type 0 where
  pub kind : r.kind ≡ kind_of ks x
  pub number : r.number ≡ number_of ks x
  pub class : r.class ≡ number_if ks y

pub record Tells (ks : List Known) (sort role : ℕ) (called : Name) (t : T.Token) (r : Result Named Trouble) : Type 0 where
  pub trouble : trouble_in r ≡ trouble ks (event_by sort role called t)
  pub named : IfOk r (Named_as ks (name_in t) called)

-- Where the name ends that a token is; what is no name has none.
pub record End (t : Token) (r : ℕ) : Type 0 where
  pub behind : t.place ≤ r
  pub within : r ≤ t.end
  pub name : (v : ℕ) (bs : List ℕ) → part_of bs t.place r ≡ name_in (token_of t.kind v (part_of bs t.place t.end))
