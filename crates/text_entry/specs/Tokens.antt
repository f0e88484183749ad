-- What a token has, by the number of its kind. Assumes nothing.
use Rattle.std.specs.Prelude.{ℕ, zero, suc, ◌-◌, ◌≤◌, ◌≡◌, refl, Bool, true, false, List, eqb, leb, if◌then◌else◌}
use Rattle.std.proofs.Common.{arith, ap, ◌∙◌, leb-true, le-leb, ne_eqb}
use Rattle.text_semantics.specs.Token as T
use Rattle.text_semantics.specs.Token.{name, number, mark, bad}
use Rattle.text_semantics.specs.Meaning.{minus}
use Rattle.text_semantics.specs.Written.{TOP, code}
use Rattle.text_machine.specs.Entry.{mark_in, number_in}
use Rattle.text_machine.specs.Codes.{NUMBER, NAME, token_of}

pub a_mark : (k v : ℕ) (x : List ℕ) → k ≤ T.END → token_of k v x ≡ mark k
a_mark k v x h =
    ap (λ t. if t then mark k else if eqb k NUMBER then number v else if eqb k NAME then name x else bad) (le-leb k T.END h)

no_mark : (b c : Bool) (v : ℕ) (x : List ℕ) → mark_in (if b then number v else if c then name x else bad) ≡ T.END
no_mark true c v x = refl
no_mark false true v x = refl
no_mark false false v x = refl

mark_by : (k v : ℕ) (x : List ℕ) (t : Bool) → leb k T.END ≡ t → T.END ≤ k
    → mark_in (if t then mark k else if eqb k NUMBER then number v else if eqb k NAME then name x else bad) ≡ T.END
mark_by k v x true e h = omega (arith, leb-true k T.END e)
mark_by k v x false e h = no_mark (eqb k NUMBER) (eqb k NAME) v x

pub mark_end : (k v : ℕ) (x : List ℕ) → T.END ≤ k → mark_in (token_of k v x) ≡ T.END
mark_end k v x h = mark_by k v x (leb k T.END) refl h

no_number : (b c : Bool) (k : ℕ) (x : List ℕ) → number_in (if b then mark k else if c then name x else bad) ≡ 0
no_number true c k x = refl
no_number false true k x = refl
no_number false false k x = refl

pub number_none : (k v : ℕ) (x : List ℕ) → (k ≡ NUMBER → ⊥) → number_in (token_of k v x) ≡ 0
number_none k v x h =
    ap (λ t. number_in (if leb k T.END then mark k else if t then number v else if eqb k NAME then name x else bad))
    (ne_eqb k NUMBER h)
    ∙ no_number (leb k T.END) (eqb k NAME) k x

pub negative_code : (n : ℕ) → (n ≡ 0 → ⊥) → TOP - (n - 1) ≡ code (minus n)
negative_code zero h = absurd (h refl)
negative_code (suc n) h = let e : suc n - 1 ≡ n = omega arith in ap (λ m. TOP - m) e
