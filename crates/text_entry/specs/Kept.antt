-- The try that an etry goes on with: only an etry asks for it, and it asks for nothing else. So one draft is handed in.
-- Assumes nothing.
use Rattle.std.specs.Prelude.{ℕ, ◌≡◌}
use Rattle.std.proofs.Math.Path.{refl}
use Rattle.std.proofs.Common.{ap, ne_eqb}
use Rattle.text_semantics.specs.Token as T
use Rattle.text_semantics.specs.Token.{Token, name, number, mark, bad}
use Rattle.text_semantics.specs.Reading.{Symbol, one, the, a_name, a_number, factor_s, minus_s, more, signed_s, relation_s, item_s}
use Rattle.text_semantics.specs.Reading.{claim_s, items_s, gives_s, given_s, actions_s, try_s, few_s, lines_s, body_s, text_s}
use Rattle.text_machine.specs.Entry as M
use Rattle.text_machine.specs.Entry.{Draft}

module _ (w i k p : ℕ) (x y : Draft) where
  action_else : (t : Token) → (t ≡ mark T.ETRY → ⊥) → M.at_action w i k p x t ≡ M.at_action w i k p y t
  unfolding M.at_action
  action_else (name n) h = refl
  action_else (number n) h = refl
  action_else (mark s) h = rw (ne_eqb s T.ETRY (λ e. h (ap mark e)))
  action_else bad h = refl

  -- No etry: what is kept doesn't matter.
  pub kept_else : (s : Symbol) (t : Token) → (t ≡ mark T.ETRY → ⊥) → M.drafted w i k p x s t y ≡ M.drafted w i k p y s t y
  unfolding M.drafted
  kept_else (one (the a)) t h = refl
  kept_else (one a_name) t h = refl
  kept_else (one (a_number b)) t h = refl
  kept_else (factor_s n) t h = refl
  kept_else (minus_s n) t h = refl
  kept_else (more n c) t h = refl
  kept_else signed_s t h = refl
  kept_else relation_s t h = refl
  kept_else item_s t h = refl
  kept_else claim_s t h = refl
  kept_else items_s t h = refl
  kept_else gives_s t h = refl
  kept_else given_s t h = refl
  kept_else actions_s t h = action_else t h
  kept_else try_s t h = action_else t h
  kept_else (few_s n) t h = refl
  kept_else lines_s t h = action_else t h
  kept_else body_s t h = refl
  kept_else text_s t h = refl

  -- An etry, which only the rest of a try begins with: the draft doesn't matter.
  pub kept_etry : (t : Token) → M.drafted w i k p x try_s t y ≡ M.drafted w i k p x try_s t x
  unfolding M.drafted
  kept_etry t = refl
