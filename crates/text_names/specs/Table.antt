-- The table of names: the text and a row for each name, with where the name stands, its length, its key, what it is, its number,
-- and whether it lacks its body. What is known by it, and what a search finds.
-- Assumes nothing.
use Rattle.std.specs.Prelude.{ℕ, ◌+◌, ◌*◌, ◌-◌, ◌%◌, ◌≤◌, ◌≡◌, List, [], ◌∷◌, map, Bool, false, eqb, leb, length, take, drop, if◌then◌else◌}
use Rattle.std.specs.Prelude.{Option, Some, None, All}
use Rattle.semantics.specs.Words.{any, keep, first_at}
use Rattle.semantics.specs.Kinds as K
use Rattle.text_semantics.specs.Grammar.{Name}
use Rattle.text_semantics.specs.Names.{Known, named, one_more, LOCAL}
use Rattle.text_semantics.specs.Meaning.{kind_of, number_of}
use Rattle.text_machine.specs.Machine.{most_names, lacking}
use Rattle.text_names.specs.declared.Row.{Row}
use Rattle.text_names.specs.declared.Found.{Found}

-- THE TABLE.
pub record Table : Type 0 where
  pub text : List ℕ
  pub rows : List Row

abbrev pub name_of : List ℕ → Row → Name
name_of bs r = take r.len (drop r.at bs)

abbrev pub known_by : List ℕ → Row → Known
known_by bs r = record { name = name_of bs r; what = r.kind; number = r.number; lacks = r.lacks }

abbrev pub known_of : List ℕ → List Row → List Known
known_of bs rows = map (known_by bs) rows

abbrev pub known_in : Table → List Known
known_in t = known_of t.text t.rows

-- The name that stands from byte p up to byte e.
abbrev pub part_of : List ℕ → ℕ → ℕ → Name
part_of bs p e = take (e - p) (drop p bs)

-- A KEY of a name: two names with different keys are different. Those of short names are different, too.
abbrev pub key_base : ℕ
key_base = 257

abbrev pub keys : ℕ
keys = 4_294_967_296

unfoldable pub key_of : ℕ → Name → ℕ
key_of k [] = k
key_of k (b ∷ bs) = key_of ((k * key_base + b) % keys) bs

-- What a table is: there is room, each name stands in the text, and has its key.
pub record Right (bs : List ℕ) (r : Row) : Type 0 where
  pub inside : r.at + r.len ≤ length bs
  pub keyed : r.key ≡ key_of 0 (name_of bs r)

pub record Fine (bs : List ℕ) (rows : List Row) : Type 0 where
  pub few : length rows ≤ most_names
  pub right : All (Right bs) rows

-- Each name is known once.
abbrev pub Distinct : List Known → Type 0
Distinct [] = Unit {0}
Distinct (k ∷ ks) = (any (named k.name) ks ≡ false) × Distinct ks

-- ONE NAME: what is known of it, or of nobody.
abbrev pub nobody : Known
nobody = record { name = []; what = LOCAL; number = 0; lacks = false }

unfoldable pub the_one : List Known → Name → Known
the_one [] x = nobody
the_one (k ∷ ks) x = if named x k then k else the_one ks x

abbrev pub place_in : List Known → Name → Option ℕ
place_in ks x = if any (named x) ks then Some (first_at (named x) ks) else None

abbrev pub found_of : List Known → Name → Option Found
found_of ks x =
    if any (named x) ks
    then Some (record {
      place = first_at (named x) ks;
      kind = kind_of ks x;
      number = number_of ks x;
      lacks = (the_one ks x).lacks;
    })
    else None

-- One more, while there is room.
abbrev pub one_kept : List Known → ℕ → Name → Bool → List Known
one_kept ks w x l = if leb most_names (length ks) then ks else one_more ks w x l

-- The number of the first class that lacks its body; where no name does, as many as are kept.
abbrev pub lacking_in : List Known → ℕ
lacking_in ks = if any lacking ks then first_at lacking (keep (λ k. eqb k.what K.CLASS) ks) else most_names

-- It doesn't depend on the names and numbers: it is the same where there are none.
abbrev pub lacking_of : List Row → ℕ
lacking_of rows = lacking_in (known_of [] rows)

-- As it is told: there is one, or no name lacks its body.
abbrev pub lacking_class : List Known → Option ℕ
lacking_class ks = if any lacking ks then Some (first_at lacking (keep (λ k. eqb k.what K.CLASS) ks)) else None
