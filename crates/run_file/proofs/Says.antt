-- What a whole run is, by what the check, the map, the fresh run and the run say. Assumes nothing.
use Prim.Native.Nat.{ℕ, suc}
use mathlib.Core.Path.{◌≡◌, refl, ◌∙◌, ap}
use mathlib.Core.List.{List, [], ◌∷◌}
use mir.Syntax.{w8}
use mir.Val.{Fits}
use lib.ListN.{get_or, replicate}
use Rattle.semantics.specs.Words.{passed}
use Rattle.semantics.specs.Model.{Model}
use Rattle.semantics.specs.Bytes.{records_from}
use Rattle.semantics.specs.Decode.{Checked, refused, accepted, decode}
use Rattle.semantics.specs.State.{fresh}
use Rattle.semantics.specs.Run.{run}
use Rattle.semantics.specs.Journal.{room_in}
use Rattle.semantics.specs.Desk.{Told, check_file, run_file}
use Rattle.promises.specs.Laws.{AllOf}
use Rattle.base_numbers.specs.Row as Row
use Rattle.file_index.specs.Index.{Readable}
use Rattle.file_index.proofs.Standing.{accepted_by}
use Rattle.file_check.proofs.Answer.{refuses, accepts}
use Rattle.row_work.specs.Work.{work_of}
use Rattle.row_work.specs.Sized.{IsByte}
use Rattle.row_work.specs.Underway.{in_state}
use Rattle.file_map.specs.Map.{Mapped}
use Rattle.file_map.specs.MapOf.{map_of}
use Rattle.run_fresh.specs.Fresh.{Loaded}
use Rattle.act_floor.specs.Acting.{Open}
use Rattle.act_floor.proofs.Fresh.{fresh_open}
use Rattle.run_limit.specs.declared.Ran.{Ran}
use Rattle.run_limit.specs.Ran.{answer_of, RanAs}
use Rattle.run_file.specs.Whole.{journal_after}

-- BYTES are below 256, by what is known of a slice of u8.
pub all_bytes : (bs : List ℕ) → ((i : ℕ) → Fits w8 (get_or bs i 0)) → AllOf IsByte bs
all_bytes [] h = tt
all_bytes (b ∷ bs) h = ((h 0).fits, all_bytes bs (λ i. h (suc i)))

-- What is answered of the file bs and left of the journal, which was j, is as defined.
abbrev pub Says : (bs : List ℕ) (limit : ℕ) (j : List ℕ) → Checked Told → List ℕ → Type 0
Says bs limit j r j' = (r ≡ run_file bs limit j) × (j' ≡ journal_after (run_file bs limit j) j)

-- THE CHECK.
module _ (bs : List ℕ) where
  pub refused_says : (n p : ℕ) → refused n p ≡ check_file bs → (limit : ℕ) (j : List ℕ) → Says bs limit j (refused n p) j
  unfolding run_file
  refused_says n p e limit j = let d = refuses bs n p e in (rw d refl, rw d refl)

  module _ (z : accepted passed ≡ check_file bs) where
    abbrev pub m : Model
    m = (accepts bs z).0

    pub passes : decode bs ≡ accepted m
    passes = (accepts bs z).1

    pub reads : Readable bs
    reads = (accepted_by bs m passes).readable

    -- THE MAP; the work, all zeros and then fresh; and the run of it, x.
    module _ (b : (i : ℕ) → Fits w8 (get_or bs i 0)) (map : List ℕ) (f : map ≡ map_of (records_from 0 bs)) where
      abbrev pub begun : Open bs (map_of (records_from 0 bs)) (work_of (fresh m))
      begun = fresh_open (all_bytes bs b) passes

      pub maps : Mapped bs m map
      maps = rw f begun.mapped

      abbrev pub loaded : Loaded bs map (replicate Row.WORDS 0)
      loaded = record { model = m; is_accepted = passes; is_mapped = maps; is_empty = refl }

      module _ (w : List ℕ) (g : (d : Loaded bs map (replicate Row.WORDS 0)) → w ≡ work_of (fresh d.model)) where
        abbrev pub opened : Open bs map w
        opened =
            let o = begun in
            record { run = in_state o.run (fresh m) (g loaded); mapped = maps; sound = o.sound }

        pub ran_says : (limit : ℕ) (j : List ℕ) (x : Ran) (w' j' : List ℕ)
            → ((v : Open bs map w) → RanAs (run v.run.model limit (room_in j) v.run.is) x w' j j')
            → Says bs limit j (accepted (record { answer = answer_of x.answer; steps = x.steps; journal = j' })) j'
        unfolding run_file
        ran_says limit j x w' j' h =
            let t = h opened in
            let d = passes in
            (rw (d, t.answer_is, t.steps_are, ← t.journal_is) refl, rw d t.journal_is)
