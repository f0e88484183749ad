-- What stands at a place of a model file, and a reader that moves on from record to record (document 01, "The model file").
-- Assumes nothing.
use Rattle.std.specs.Prelude.{ℕ, ◌+◌, List, true, false, drop, if◌then◌else◌}
use Rattle.std.specs.Borrow.{Bor}
use Rattle.semantics.specs.Bytes.{u16, spans, whole}
use Rattle.file_reader.specs.declared.Record.{Record}
use Rattle.file_reader.specs.declared.Reader.{Reader}

-- WHAT STANDS at byte place `at`: a whole record; or none, at the end and where the bytes end inside a record.
abbrev pub stands : ℕ → ℕ → ℕ → Record
stands k at z = record { whole = true; kind = k; next = at + z }

abbrev pub none : ℕ → Record
none at = record { whole = false; kind = 0; next = at }

-- It is the record with which the bytes from there on begin.
unfoldable pub record_at : List ℕ → ℕ → Record
record_at bs at = if whole (drop at bs) then stands (u16 (drop at bs) 2) at (spans (drop at bs)) else none at

-- The bytes that it has; 0 where there is none.
abbrev pub span_at : List ℕ → ℕ → ℕ
span_at bs at = if whole (drop at bs) then spans (drop at bs) else 0

-- A READER begins at the first record, stands at a record and moves on to the next.
abbrev pub start : Bor (List ℕ) → Reader
start src = record { src = src; at = 0 }

abbrev pub stands_at : Reader → Record
stands_at r = record_at r.src.now r.at

abbrev pub moves_on : Reader → Reader
moves_on r = record { src = r.src; at = (stands_at r).next }
