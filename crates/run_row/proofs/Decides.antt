-- What the counts, the view, the index, the map and the fresh work say decides whether a row is sound. Assumes nothing.
use Prim.Native.Nat.{ℕ}
use mathlib.Core.Path.{◌≡◌, refl, sym, ◌∙◌, ap}
use mathlib.Core.List.{List}
use mathlib.Core.Bool.{Bool, true, false}
use mir.Syntax.{w8}
use mir.Val.{Fits}
use lib.ListN.{get_or, replicate}
use Rattle.semantics.specs.Model.{Model}
use Rattle.semantics.specs.Bytes.{records_from}
use Rattle.semantics.specs.Decode.{accepted, gather}
use Rattle.semantics.specs.State.{fresh}
use Rattle.semantics.specs.Words.{passed}
use Rattle.semantics.specs.Desk.{check_file}
use Rattle.semantics.specs.Sound.{sound_in}
use Rattle.promises.specs.Fit.{Fit, Nested}
use Rattle.promises.specs.Says.{Says}
use Rattle.promises.specs.Laws.{no_way}
use Rattle.promises.specs.Accepted.{accepted_fit, accepted_nested}
use Rattle.base_numbers.specs.Row as Row
use Rattle.base_numbers.specs.Limit as Limit
use Rattle.file_index.specs.Index.{Readable, index_of, counts_in}
use Rattle.file_index.specs.declared.Index.{Index}
use Rattle.file_index.specs.declared.Counts.{Counts}
use Rattle.file_index.proofs.Standing.{accepted_by}
use Rattle.file_index.proofs.Counting.{counts_accepted}
use Rattle.file_index.proofs.Ties.{index_ties}
use Rattle.std.specs.Prelude.{Result, Ok, Err, is_err}
use Rattle.file_check.specs.Check.{passed_of}
use Rattle.file_check.specs.declared.Refused.{Refused}
use Rattle.file_check.proofs.Answer.{refuses, accepts}
use Rattle.row_work.specs.Work.{work_of}
use Rattle.row_work.specs.Sized.{Rounds, accepted_rounds}
use Rattle.file_map.specs.Map.{Mapped}
use Rattle.file_map.specs.MapOf.{map_of}
use Rattle.file_map.proofs.Mapped.{mapped as mapped_by}
use Rattle.run_fresh.specs.Fresh.{Loaded}
use Rattle.row_view.specs.View.{cut, view_in, sound_row}
use Rattle.row_view.specs.Fits.{Counted, Few, Showing}
use Rattle.row_view.specs.Rows.{says_sound_row, shows_none, counted_by, few_by}
use Rattle.row_sound.specs.Handed as sound
use Rattle.run_file.proofs.Says.{all_bytes}
use Rattle.run_row.specs.Handed.{Passing}
use Rattle.run_row.proofs.Shape.{shown_shaped}
use Rattle.run_row.proofs.Totals.{fresh_things}

-- THE CHECK.
module _ (bs : List ℕ) where
  pub passing : accepted passed ≡ check_file bs → ((i : ℕ) → Fits w8 (get_or bs i 0)) → Passing bs
  passing z b =
      let a = accepts bs z in record { model = a.0; passes = a.1; bytes_are = all_bytes bs b }

  -- Whether it refuses.
  module _ (r : Result (Unit {0}) Refused) (e : passed_of r ≡ check_file bs) where
    pub refused_row : (w : List ℕ) → is_err r ≡ true → false ≡ sound_row bs w
    unfolding sound_row
    refused_row w k = go r e k
      where
        go : (r : Result (Unit {0}) Refused) → passed_of r ≡ check_file bs → is_err r ≡ true → false ≡ sound_row bs w
        go (Ok a) e k = no_way k
        go (Err x) e k = let d = refuses bs _ _ e in rw (d, sound_row) refl

    pub passing_by : is_err r ≡ false → ((i : ℕ) → Fits w8 (get_or bs i 0)) → Passing bs
    passing_by k = passing (go r e k)
      where
        go : (r : Result (Unit {0}) Refused) → passed_of r ≡ check_file bs → is_err r ≡ false → accepted passed ≡ check_file bs
        go (Ok a) e k = e
        go (Err x) e k = no_way (sym k)

-- Where P holds, a test that says P and a says a.
agree : {P : Type 0} (a b : Bool) → P → Says b (P × (a ≡ true)) → a ≡ b
agree true b x s = sym (s.back (x, refl))
agree false true x s = (s.yes refl).1
agree false false x s = refl

-- A FILE THAT PASSES.
module _ {bs : List ℕ} (p : Passing bs) where
  abbrev m : Model
  m = p.model

  pub reads : Readable bs
  reads = (accepted_by bs m p.passes).readable

  abbrev fit : Fit m
  fit = accepted_fit bs m p.passes

  abbrev nested : Nested m
  nested = accepted_nested bs m p.passes

  abbrev rounds : Rounds m
  rounds = accepted_rounds bs m p.bytes_are p.passes

  module _ (map : List ℕ) (f : map ≡ map_of (records_from 0 bs)) where
    pub maps : Mapped bs m map
    maps = rw f (mapped_by bs m p.passes)

    abbrev pub loaded : Loaded bs map (replicate Row.WORDS 0)
    loaded = record { model = m; is_accepted = p.passes; is_mapped = maps; is_empty = refl }

  -- What it declares, k, and a row.
  module _ (k : Counts) (c : k ≡ counts_in (gather (records_from 0 bs)).model) where
    abbrev pub counted : Counted m k.resources k.bins k.syncs k.variables k.samplers
    counted = counted_by bs m p.passes (counts_accepted bs m p.passes c)

    pub few : Few k.resources k.bins k.syncs k.variables k.samplers
    few = few_by bs m p.passes (counts_accepted bs m p.passes c)

    module _ (w : List ℕ) (b : Bool)
        (s : (m : Model) → Counted m k.resources k.bins k.syncs k.variables k.samplers
        → (b ≡ true → Showing m w) × (b ≡ false → Showing m w → ⊥)) where
      pub shows_nothing : b ≡ false → false ≡ sound_row bs w
      shows_nothing z = sym (shows_none bs m p.passes p.bytes_are w ((s m counted).1 z))

      module _ (z : b ≡ true) where
        abbrev showing : Showing m w
        showing = (s m counted).0 z

        pub row_is : sound_in m (view_in m w) ≡ sound_row bs w
        row_is = agree _ _ showing.is_form (says_sound_row bs m p.passes w)

        -- The index i, the map and the fresh work x.
        module _ (i : Index) (n : i ≡ index_of (records_from 0 bs)) (map : List ℕ) (f : map ≡ map_of (records_from 0 bs))
            (x : List ℕ) (g : (d : Loaded bs map (replicate Row.WORDS 0)) → x ≡ work_of (fresh d.model)) where
          abbrev pub handed : sound.Handed bs map w (cut Row.FREE Limit.THINGS x) k.resources k.bins k.syncs i.classes
          handed =
              record {
                viewed =
                    record {
                      model = m;
                      fits = fit;
                      nested = nested;
                      mapped = maps map f;
                      classes_are =
                          ap (λ (y : Index). y.classes) n ∙ (index_ties bs m (accepted_by bs m p.passes)).classes_are;
                      is = view_in m w;
                      shows = showing.is_form;
                      sized = showing.is_sized;
                    };
                things = fresh_things fit nested rounds counted x (g (loaded map f));
                shaped = shown_shaped m w fit showing;
              }

          pub sound_says : (r : Bool)
              → ((v : sound.Handed bs map w (cut Row.FREE Limit.THINGS x) k.resources k.bins k.syncs i.classes)
              → r ≡ sound_in v.viewed.model v.viewed.is)
              → r ≡ sound_row bs w
          sound_says r h = h handed ∙ row_is
