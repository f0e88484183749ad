-- The rule of barring (document 02, Three), for all claims: what bars by document 01 still does, nothing bars its equal, and to
-- bar is a strict order. Assumes nothing.
use Rattle.std.specs.Prelude.{suc, ◌≡◌, refl, List, [], ◌∷◌, true, false}
use Rattle.std.proofs.Common.{sym, ◌∙◌}
use Rattle.semantics.specs.Words.{is_empty}
use Rattle.semantics.specs.Model.{Claim}
use Rattle.semantics.specs.Claim.{Offer, names_of, amount_of}
use Rattle.semantics.specs.Claim.{bars}
use Rattle.promises.specs.Laws.{no_way, true-and, AllOf, all_map}
use Rattle.promises.specs.Covers.{not_so, names, part, own_names, part_self, Equal, bars_through, EqualIn, never_equal}

equal_self : (c : Claim) → Equal c c
equal_self c =
    record {
      names = true-and (part c c) _ (part_self c) (part_self c);
      amounts = all_map (λ x. names c x ≡ true) (λ x. amount_of c x ≡ amount_of c x) (λ x h. refl) (names_of c) (own_names c);
    }

-- So nobody bars itself, and no two bar each other.
pub never_itself : (q : List Offer) → is_empty q ≡ false → bars q q ≡ false
never_itself q n = never_equal q q n (each q)
  where
    later : {o : Offer} {os : List Offer} (y : Offer) → EqualIn os y → EqualIn (o ∷ os) y
    later y m = record { other = m.other; at = suc m.at; there = m.there; equal = m.equal }

    each : (os : List Offer) → AllOf (EqualIn os) os
    each [] = tt
    each (o ∷ os) = (
      record { other = o; at = 0; there = refl; equal = equal_self o.claim },
      all_map (EqualIn os) (EqualIn (o ∷ os)) later os (each os),
    )

pub never_both : (b q : List Offer) → is_empty q ≡ false → bars b q ≡ true → bars q b ≡ false
never_both [] [] n e = no_way (sym n)
never_both [] (x ∷ xs) n e = no_way e
never_both (y ∷ ys) q n e =
    not_so (bars q (y ∷ ys)) (λ f. no_way (sym (never_itself (y ∷ ys) refl) ∙ bars_through (y ∷ ys) q (y ∷ ys) e f))
