-- What a token leaves of a pile is what the machine goes by.
-- Assumes nothing.
use Rattle.std.specs.Prelude.{ℕ, ◌≡◌, refl, List, [], ◌∷◌, ◌++◌, Bool, true, false, ltb, length, get_or, if◌then◌else◌}
use Rattle.std.proofs.Math.Option.{Option, none, some}
use Rattle.text_semantics.specs.Numbers as No
use Rattle.text_semantics.specs.Token.{Token}
use Rattle.text_semantics.specs.Table.{Rule}
use Rattle.text_semantics.specs.Names.{trouble}
use Rattle.text_semantics.specs.Reading.{Symbol, Of, say, step, text_s}
use Rattle.text_machine.specs.Codes.{TEXT}
use Rattle.text_machine.specs.Machine.{Reader, at_first, Turned, stops, highest_pile, event_at, named, ruled, on_pile}
use Rattle.text_pile.specs.Pile.{pile_of, next_of, roomed, turned_of}

-- The text itself is still to come: what the machine begins with.
pub at_first_lem : (p : List ℕ) → get_or p 0 0 ≡ TEXT → pile_of p 1 ≡ at_first.pile
unfolding pile_of
at_first_lem p e = rw e

abbrev pub top_of : List Symbol → Symbol
top_of [] = text_s
top_of (s ∷ ss) = s

-- The machine's turn on the pile ss, by what is left of it.
abbrev pub by_pile : Reader → List Symbol → Token → ℕ → Option (List Symbol) → Turned
by_pile r ss t p none = stops No.GRAMMAR p
by_pile r ss t p (some zs) = named r zs (top_of ss) t p (trouble r.known (event_at r (top_of ss) t))

by_room : (r : Reader) (ss zs : List Symbol) (s : Symbol) (t : Token) (p : ℕ) (b : Bool)
    → (if b then stops No.GRAMMAR p else named r zs s t p (trouble r.known (event_at r s t)))
    ≡ by_pile r (s ∷ ss) t p (if b then none else some zs)
by_room r ss zs s t p true = refl
by_room r ss zs s t p false = refl

by_rule : (r : Reader) (ss : List Symbol) (s : Symbol) (t : Token) (p : ℕ) (o : Option (Rule Of say s t))
    → ruled r ss s t p o ≡ by_pile r (s ∷ ss) t p (roomed ss (next_of o))
by_rule r ss s t p none = refl
by_rule r ss s t p (some x) = by_room r ss (x.next ++ ss) s t p (ltb highest_pile (length (x.next ++ ss)))

pub on_pile_lem : (r : Reader) (ss : List Symbol) (t : Token) (p : ℕ) → on_pile r ss t p ≡ by_pile r ss t p (turned_of ss t)
unfolding turned_of
on_pile_lem r [] t p = refl
on_pile_lem r (s ∷ ss) t p = by_rule r ss s t p (step s t)
