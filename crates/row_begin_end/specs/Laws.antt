-- The process that a class begins, with nothing handed over, is the one that its body block begins; and where it is then.
-- Assumes nothing.
use Rattle.std.specs.Prelude.{ℕ, ◌+◌, ◌≡◌, refl, List, [], ◌∷◌, map, length}
use Rattle.std.proofs.Common.{arith, ap, get_or-set_same}
use Rattle.semantics.specs.Numbers as No
use Rattle.semantics.specs.Model.{Model, body}
use Rattle.semantics.specs.State.{State, nobody, process, put, free_place, newcomer, with_last, wake, begin}
use Rattle.row_begin_end.specs.Begins.{newcomer_in, Roomy, numbered, begins}

pub newcomer_is : (m : Model) (n c : ℕ) (h : List ℕ) → newcomer m n c h ≡ newcomer_in n (body m c) h
newcomer_is m n c h = refl

same_zeros : (xs ys : List ℕ) → length xs ≡ length ys → ◌≡◌ {A = List ℕ} (map (λ x. 0) ys) (map (λ x. 0) xs)
same_zeros [] [] e = refl
same_zeros [] (y ∷ ys) e = absurd (omega arith)
same_zeros (x ∷ xs) [] e = absurd (omega arith)
same_zeros (x ∷ xs) (y ∷ ys) e = ap (λ l. 0 ∷ l) (same_zeros xs ys (omega arith))

pub begin_is : (m : Model) (c t : ℕ) (s : State) → length s.free ≡ length m.totals
    → begin m c t (map (λ x. 0) m.totals) s ≡ begins (body m c) t s
unfolding begin begins
begin_is m c t s e =
    ap (λ h. wake t (free_place s) (put (free_place s) (newcomer m (s.last + 1) c h) (with_last s (s.last + 1))))
    (same_zeros s.free m.totals e)

-- It stands in the place that was free.
pub begun_there : (b : ℕ) (s : State) → length s.processes ≡ No.places → Roomy s
    → process (numbered b s) (free_place s) ≡ newcomer_in (s.last + 1) b (map (λ x. 0) s.free)
begun_there b s h r =
    let p = r.in_places in get_or-set_same s.processes (free_place s) _ nobody (omega arith)
