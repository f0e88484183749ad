-- One answer: whether a row shows a state of a model depends on the model's counts alone, and every five counts are of a model.
-- Assumes nothing.
use Rattle.std.specs.Prelude.{ℕ, ◌≡◌, refl, List, [], Bool, true, false, pos, replicate}
use Rattle.std.proofs.lemmas.List.{length-replicate}
use Rattle.semantics.specs.Model.{Model, Sampler}
use Rattle.row_view.specs.Fits.{Counted, Showing}

module _ (resources bins syncs variables samplers : ℕ) where
  abbrev one : Sampler
  one = record { lowest = pos 0; highest = pos 0; seed = 1 }

  abbrev plain : Model
  plain =
      record {
        totals = replicate resources 0;
        amounts = replicate bins 0;
        syncs = syncs;
        vars = replicate variables (pos 0);
        classes = [];
        entities = [];
        samplers = replicate samplers one;
        blocks = [];
      }

  plain_counted : Counted plain resources bins syncs variables samplers
  plain_counted =
      record {
        resources_are = length-replicate resources 0;
        bins_are = length-replicate bins 0;
        syncs_are = refl;
        variables_are = length-replicate variables (pos 0);
        samplers_are = length-replicate samplers one;
      }

  pub same_shows : (w : List ℕ) (r r' : Bool)
      → ((m : Model) → Counted m resources bins syncs variables samplers
      → (r ≡ true → Showing m w) × (r ≡ false → Showing m w → ⊥))
      → ((m : Model) → Counted m resources bins syncs variables samplers
      → (r' ≡ true → Showing m w) × (r' ≡ false → Showing m w → ⊥))
      → r ≡ r'
  same_shows w true true h k = refl
  same_shows w false false h k = refl
  same_shows w true false h k = absurd ((k plain plain_counted).1 refl ((h plain plain_counted).0 refl))
  same_shows w false true h k = absurd ((h plain plain_counted).1 refl ((k plain plain_counted).0 refl))
