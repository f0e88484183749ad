-- The places of the rows are where the widths of their parts put them. Assumes nothing.
use Rattle.std.specs.Prelude.{ℕ, ◌+◌, ◌≡◌, refl, List, [], ◌∷◌}
use Rattle.base_numbers.specs.Row as Row
use Rattle.base_numbers.specs.Process as Process
use Rattle.row_work.specs.Work.{process_widths, work_widths}

-- Where parts of these widths begin, from n on, and where the last ends.
abbrev starts : ℕ → List ℕ → List ℕ
starts n [] = n ∷ []
starts n (w ∷ ws) = n ∷ starts (n + w) ws

pub work_places : starts 0 work_widths
    ≡ Row.CLOCK ∷ Row.FREE ∷ Row.BINS ∷ Row.GLOBALS ∷ Row.WAITS ∷ Row.QUEUE ∷ Row.KEYS ∷ Row.NOTICES ∷ Row.WAITING
    ∷ Row.PROCESSES ∷ Row.SEEDS ∷ Row.WORDS ∷ []
work_places = refl

pub process_places : starts 0 process_widths
    ≡ Process.NUMBER ∷ Process.LOCALS ∷ Process.HELD ∷ Process.BLOCKS ∷ Process.OWNED ∷ Process.WORDS ∷ []
process_places = refl
