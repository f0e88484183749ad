-- What the reader's struct shows: the machine's reader.
-- Assumes nothing.
use Rattle.std.specs.Prelude.{ℕ, ◌≤◌, ◌≡◌, List, [], ◌∷◌, length}
use Rattle.text_machine.specs.Machine as M
use Rattle.text_machine.specs.Entry.{begin}
use Rattle.text_machine.specs.Sheet.{blank}
use Rattle.text_machine.specs.Codes.{TEXT}
use Rattle.text_agrees.specs.Stages.{Comes}
use Rattle.text_pile.specs.Pile.{stack_of}
use Rattle.text_names.specs.Table.{known_in, part_of}
use Rattle.text_reader.specs.declared.Reader.{Reader}
use Rattle.text_reader.specs.Sheets.{Sound}

-- The machine's reader that it shows.
abbrev pub reader_of : Reader → M.Reader
reader_of m =
    record {
      pile = stack_of m.pile;
      known = known_in m.names;
      called = part_of m.names.text m.called.at m.called.end;
      called_at = m.called.at;
      draft = m.draft;
      sheet = m.sheet;
    }

-- What it is between two tokens: it shows a reader that the machine comes to, and each part of it is as it has to be.
pub record Ready (m : Reader) : Type 0 where
  pub comes : Comes (reader_of m)
  pub begun : m.called.at ≤ m.called.end
  pub within : m.called.end ≤ length m.names.text
  pub sized : length m.draft.body ≤ m.draft.size
  pub sheet : Sound m.sheet

-- What it is before the first token of the text bs.
pub record Begins (bs : List ℕ) (m : Reader) : Type 0 where
  pub pile : m.pile ≡ TEXT ∷ []
  pub names : m.names ≡ record { text = bs; rows = [] }
  pub called : m.called ≡ record { at = 0; end = 0 }
  pub draft : m.draft ≡ begin 0 0 0
  pub sheet : m.sheet ≡ blank
