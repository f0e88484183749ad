-- One answer: the contracts of the reader admit one. Assumes nothing.
use Rattle.std.specs.Prelude.{ℕ, ◌≡◌, List}
use Rattle.std.proofs.Common.{sym, ◌∙◌}
use Rattle.std.specs.Borrow.{Bor}
use Rattle.file_reader.specs.declared.Record.{Record}
use Rattle.file_reader.specs.declared.Reader.{Reader}
use Rattle.file_reader.specs.Reads.{record_at, start, stands_at, moves_on}

pub same_start : (src : Bor (List ℕ)) (r r' : Reader) → r ≡ start src → r' ≡ start src → r ≡ r'
same_start src r r' h k = h ∙ sym k

pub same_stands_at : (r : Reader) (x x' : Record) → x ≡ stands_at r → x' ≡ stands_at r → x ≡ x'
same_stands_at r x x' h k = h ∙ sym k

pub same_moves_on : (r : Reader) (x x' : Reader) → x ≡ moves_on r → x' ≡ moves_on r → x ≡ x'
same_moves_on r x x' h k = h ∙ sym k

pub same_read : (s : List ℕ) (at : ℕ) (x x' : Record) → x ≡ record_at s at → x' ≡ record_at s at → x ≡ x'
same_read s at x x' h k = h ∙ sym k

pub same_first : (src : Bor (List ℕ)) (r r' : ℕ) → r ≡ (start src).at → r' ≡ (start src).at → r ≡ r'
same_first src r r' h k = h ∙ sym k

pub same_next : (s : List ℕ) (at r r' : ℕ) → r ≡ (record_at s at).next → r' ≡ (record_at s at).next → r ≡ r'
same_next s at r r' h k = h ∙ sym k
