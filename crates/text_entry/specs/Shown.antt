-- The machine's draft that the fields show, and what is true of them.
-- Assumes nothing.
use Rattle.std.specs.Prelude.{◌≡◌, ◌≤◌, true, false, [], length}
use Rattle.text_machine.specs.Entry as M
use Rattle.text_machine.specs.Entry.{KEPT, FULL}
use Rattle.text_entry.specs.declared.Draft.TheInside.{Inside}

abbrev pub draft_of : Inside → M.Draft
draft_of d =
    record {
      line = d.line;
      kind = d.kind;
      role = d.role;
      body = d.body.items;
      over = d.over;
      size = d.size;
      count = d.count;
      at = d.at;
      aside = d.aside;
      starts = d.starts.items;
    }

-- The fields that show a draft: there is one choice of them.
abbrev pub fields_of : M.Draft → Inside
fields_of d =
    record {
      line = d.line;
      kind = d.kind;
      role = d.role;
      body = record { items = d.body };
      over = d.over;
      size = d.size;
      count = d.count;
      at = d.at;
      aside = d.aside;
      starts = record { items = d.starts };
    }

-- A length is counted so far and no farther; it is that of the body, unless the body is more than is kept: then none of it is.
-- No more items or shares are counted than bytes are kept, and their number stands among these.
pub record Fine (d : Inside) : Type 0 where
  pub counted : d.size ≤ FULL
  pub kept : d.over ≡ false → length d.body.items ≡ d.size
  pub dropped : d.over ≡ true → d.body.items ≡ []
  pub listed : d.count ≤ KEPT
  pub placed : d.at ≤ KEPT
