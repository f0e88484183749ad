-- The last line and a refusal, put word by word. Assumes nothing.
use Rattle.std.specs.Prelude.{◌≡◌, [], List, ◌++◌, ℕ, ◌^◌, ◌<◌}
use Rattle.std.specs.Fmt.{decimal as library_decimal}
use Rattle.std.proofs.Common.{sym, ◌∙◌, ap, append_assoc}
use Rattle.semantics.specs.Run.{Answer, FAULT}
use Rattle.semantics.specs.Bound.{Bounded, NONE, AT}
use Rattle.plan_text.specs.Text.{ascii, decimal, answer_text, bound_text, end_text, refused_text}
use Rattle.plan_text.proofs.Decimals.{same_decimal}
use Rattle.plan_text.proofs.Fields.{put_on}

fault_parts : (n : ℕ) → ascii "fault " ++ (decimal n ++ ascii " ") ≡ answer_text (FAULT n) ++ ascii " "
unfolding answer_text
fault_parts n = simp append_assoc

pub fault_put : (a : List ℕ) (n : ℕ) {b c : List ℕ} → n < 2 ^ 64 → b ≡ a ++ ascii "fault "
    → c ≡ b ++ (library_decimal n ++ ascii " ") → c ≡ a ++ (answer_text (FAULT n) ++ ascii " ")
fault_put a n h word number =
    put_on a _ _ word number ∙ ap (λ l. a ++ l) (rw (sym (same_decimal n h)) (fault_parts n))

-- THE BOUND, by its word or its number.
pub bound_none : (a : List ℕ) {b : List ℕ} {n : Bounded} → n ≡ NONE → b ≡ a ++ ascii "none\n"
    → b ≡ a ++ (bound_text n ++ ascii "\n")
unfolding bound_text
bound_none a e word = rw e word

pub number_put : (a : List ℕ) (n : ℕ) {b : List ℕ} → n < 2 ^ 64 → b ≡ a ++ (library_decimal n ++ ascii "\n")
    → b ≡ a ++ (bound_text (AT n) ++ ascii "\n")
unfolding bound_text
number_put a n h number = rw (same_decimal n h) number

end_parts : (a : Answer) (n : ℕ) (b : Bounded)
    → (((answer_text a ++ ascii " ") ++ (decimal n ++ ascii " ")) ++ ascii "bound ") ++ (bound_text b ++ ascii "\n") ≡ end_text a n b
unfolding end_text
end_parts a n b = simp append_assoc

refused_parts : (n p : ℕ)
    → ((ascii "refused " ++ (decimal n ++ ascii " ")) ++ ascii "at ") ++ (decimal p ++ ascii "\n") ≡ refused_text n p
unfolding refused_text
refused_parts n p = simp append_assoc

module _ {empty us vs ws ys : List ℕ} (begun : empty ≡ []) where
  pub end_put : (a : Answer) (n : ℕ) (b : Bounded) → n < 2 ^ 64 → us ≡ empty ++ (answer_text a ++ ascii " ")
      → vs ≡ us ++ (library_decimal n ++ ascii " ") → ws ≡ vs ++ ascii "bound " → ys ≡ ws ++ (bound_text b ++ ascii "\n")
      → ys ≡ end_text a n b
  end_put a n b h answer steps bound number =
      let put = put_on empty _ _ (put_on empty _ _ (put_on empty _ _ answer steps) bound) number in
      let text : List ℕ = (((answer_text a ++ ascii " ") ++ (library_decimal n ++ ascii " ")) ++ ascii "bound ")
      ++ (bound_text b ++ ascii "\n") in
      let parts : text ≡ end_text a n b = rw (sym (same_decimal n h)) (end_parts a n b) in
      put ∙ ap (λ l. l ++ text) begun ∙ parts

  pub refused_put : (n p : ℕ) → n < 2 ^ 64 → p < 2 ^ 64 → us ≡ empty ++ ascii "refused "
      → vs ≡ us ++ (library_decimal n ++ ascii " ") → ws ≡ vs ++ ascii "at " → ys ≡ ws ++ (library_decimal p ++ ascii "\n")
      → ys ≡ refused_text n p
  refused_put n p h k refused number at place =
      let put = put_on empty _ _ (put_on empty _ _ (put_on empty _ _ refused number) at) place in
      let text : List ℕ = ((ascii "refused " ++ (library_decimal n ++ ascii " ")) ++ ascii "at ") ++ (library_decimal p ++ ascii "\n") in
      let parts : text ≡ refused_text n p = rw (sym (same_decimal n h), sym (same_decimal p k)) (refused_parts n p) in
      put ∙ ap (λ l. l ++ text) begun ∙ parts
