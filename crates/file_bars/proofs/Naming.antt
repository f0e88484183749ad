-- The tests on bits are the tests on names. Assumes nothing.
use Rattle.std.specs.Prelude.{if◌then◌else◌}
use Prim.Native.Nat.{ℕ, ◌^◌}
use mathlib.Core.Path.{◌≡◌, refl, sym, ◌∙◌}
use mathlib.Core.List.{List, [], ◌∷◌}
use mathlib.Core.Bool.{Bool, true, false, ◌&&◌, ◌||◌, and_assoc}
use lib.Dec.{eqb}
use Rattle.semantics.specs.Words.{all, any, is_empty}
use Rattle.semantics.specs.Model.{Kind, resource, bin, sync, get, condition, Claim}
use Rattle.semantics.specs.Claim.{Name, names_of, same_kind, same_name, strict_part, same_names}
use Rattle.file_map.specs.Map.{mask_of}
use Rattle.file_bars.specs.Bits.{bits_in, names_nothing, within, strictly_within, named_by}
use Rattle.file_bars.proofs.Digits.{and_swap, or_in, bit_in_none, bit_in_bit, bit_in_or, in_none}

abbrev named : Kind → ℕ → Name
named k i = record { kind = k; number = i }

-- A claim names a thing if the thing's bit is set.
one_named : (k : Kind) (i : ℕ) (d : Claim) → any (same_name (named k i)) (names_of d) ≡ bits_in (2 ^ i) (mask_of k d)
unfolding mask_of
one_named k i [] = sym (bit_in_none i)
one_named k i (get l j n ∷ is) =
    rw (bit_in_or i (if same_kind k l then 2 ^ j else 0) (mask_of k is), one_named k i is) (by (same_kind k l))
  where
    by : (t : Bool) → (t && eqb i j) || bits_in (2 ^ i) (mask_of k is)
        ≡ bits_in (2 ^ i) (if t then 2 ^ j else 0) || bits_in (2 ^ i) (mask_of k is)
    by true = rw (bit_in_bit i j)
    by false = rw (bit_in_none i)
one_named k i (condition j r v ∷ is) = one_named k i is

-- A claim's names are all another's if its bits are.
all_named : (c d : Claim) → all (λ x. any (same_name x) (names_of d)) (names_of c) ≡ within (named_by c) (named_by d)
unfolding mask_of bits_in
all_named [] d = refl
all_named (get l i n ∷ is) d = rw (one_named l i d, all_named is d) (by l)
  where
    by : (k : Kind) → bits_in (2 ^ i) (mask_of k d) && within (named_by is) (named_by d)
        ≡ within (named_by (get k i n ∷ is)) (named_by d)
    by resource = rw (or_in (2 ^ i) (mask_of resource is) (mask_of resource d), and_assoc)
    by bin = rw (or_in (2 ^ i) (mask_of bin is) (mask_of bin d), and_swap (bits_in (2 ^ i) (mask_of bin d)), and_assoc)
    by sync =
        let t = bits_in (2 ^ i) (mask_of sync d) in
        rw (or_in (2 ^ i) (mask_of sync is) (mask_of sync d), and_swap t, and_swap t)
all_named (condition i r v ∷ is) d = all_named is d

none_named : (c : Claim) → is_empty (names_of c) ≡ names_nothing (named_by c)
unfolding mask_of
none_named c =
    none (names_of c) ∙ all_named c []
    ∙ rw (in_none (mask_of resource c), in_none (mask_of bin c), in_none (mask_of sync c))
  where
    none : (xs : List Name) → is_empty xs ≡ all (λ x. any (same_name x) []) xs
    none [] = refl
    none (x ∷ xs) = refl

pub strict_named : (c d : Claim) → strictly_within (named_by c) (named_by d) ≡ strict_part (names_of c) (names_of d)
strict_named c d = rw (none_named c, all_named c d, all_named d c)

pub same_named : (c d : Claim)
    → within (named_by c) (named_by d) && within (named_by d) (named_by c) ≡ same_names (names_of c) (names_of d)
same_named c d = rw (all_named c d, all_named d c)
