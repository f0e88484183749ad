-- The machine's sheet that the fields show, and what is true of them.
-- Assumes nothing.
use Rattle.std.specs.Prelude.{◌≡◌, refl, length, map}
use Rattle.text_machine.specs.Sheet as M
use Rattle.text_sheet.specs.declared.Sheet.TheInside.{Inside}
use Rattle.text_sheet.specs.Pieces.{pieces_from, ends_of, bytes_of, ends_same, bytes_same, Laid}
use Rattle.text_sheet.specs.Classes.{at_of, line_of, classes_of, classes_same}

abbrev pub sheet_of : Inside → M.Sheet
sheet_of s =
    record {
      seen = s.seen;
      total = s.total;
      first = s.first;
      last_block = s.last_block;
      last_line = s.last_line;
      declared = s.declared.items;
      class_at = map at_of s.classes.items;
      class_line = map line_of s.classes.items;
      current = s.current;
      pieces = pieces_from s.stage.items 0 s.pieces.items;
      staged = length s.stage.items;
      levels = s.levels.items;
      full = s.full;
    }

-- The fields that show a sheet: its pieces say where each ends, and have all the bytes.
abbrev pub fields_of : M.Sheet → Inside
fields_of z =
    record {
      seen = z.seen;
      total = z.total;
      first = z.first;
      last_block = z.last_block;
      last_line = z.last_line;
      declared = record { items = z.declared };
      classes = record { items = classes_of z.class_at z.class_line };
      current = z.current;
      pieces = record { items = ends_of 0 z.pieces };
      stage = record { items = bytes_of z.pieces };
      levels = record { items = z.levels };
      full = z.full;
    }

-- The records in blocks have all the bytes. No caller sees these but as the machine's pieces.
pub record Fine (s : Inside) : Type 0 where
  pub laid : Laid 0 (length s.stage.items) s.pieces.items

-- There is no other choice of them.
pub fields_same : (s : Inside) → Fine s → fields_of (sheet_of s) ≡ s
fields_same s h =
    rw (classes_same s.classes.items, ends_same s.stage.items 0 s.pieces.items h.laid, bytes_same s.stage.items 0 s.pieces.items h.laid) refl
