-- The beginning: a new reader shows the machine's first one.
-- Assumes nothing.
use Rattle.std.specs.Prelude.{ℕ, ◌≡◌, List, [], ◌∷◌, length}
use Rattle.std.proofs.Common.{arith, sym}
use Rattle.std.proofs.Math.Path.{refl, ap, subst}
use Rattle.text_semantics.specs.Lexing.{clear, tokens, tokens_from}
use Rattle.text_machine.specs.Entry.{begin}
use Rattle.text_machine.specs.Sheet.{blank}
use Rattle.text_machine.specs.Codes.{TEXT}
use Rattle.text_machine.specs.Machine.{at_first, going, machine}
use Rattle.text_agrees.specs.Stages.{Comes, starts}
use Rattle.text_pile.specs.Pile.{pile_of}
use Rattle.text_sheet.specs.Fit.{fit_blank}
use Rattle.text_reader.specs.declared.Reader.{Reader}
use Rattle.text_reader.specs.Shown.{reader_of, Begins}
use Rattle.text_reader.specs.Length.{Counts, counts_first}
use Rattle.text_reader.specs.Going.{Reads}

abbrev at_start : List ℕ → Reader
at_start bs =
    record {
      pile = TEXT ∷ [];
      names = record { text = bs; rows = [] };
      called = record { at = 0; end = 0 };
      draft = begin 0 0 0;
      sheet = blank;
    }

start_first : (bs : List ℕ) → reader_of (at_start bs) ≡ at_first
unfolding pile_of
start_first bs = refl

-- So the loop's invariant holds at first.
reads_start : (bs : List ℕ) → Reads bs 0 (at_start bs)
unfolding machine tokens
reads_start bs =
    record {
      within = omega arith;
      text = refl;
      ready = record {
        comes = subst Comes (sym (start_first bs)) starts;
        begun = omega arith;
        within = omega arith;
        sized = omega arith;
        sheet = record { roomy = omega arith; shallow = omega arith; short = tt; fit = fit_blank };
      };
      counts = subst Counts (sym (start_first bs)) counts_first;
      same = λ room. ap (λ r. going r (tokens_from 0 clear bs) (length bs) room) (start_first bs);
    }

begins_so : (bs : List ℕ) {m : Reader} → Begins bs m → at_start bs ≡ m
begins_so bs b =
    λ i. record {
      pile = sym b.pile i;
      names = sym b.names i;
      called = sym b.called i;
      draft = sym b.draft i;
      sheet = sym b.sheet i;
    }

pub reads_first : (bs : List ℕ) {m : Reader} → Begins bs m → Reads bs 0 m
reads_first bs b = subst (Reads bs 0) (begins_so bs b) (reads_start bs)
