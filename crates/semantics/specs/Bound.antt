-- The bound (document 01, "The bound").
-- Assumes nothing.
use Rattle.std.specs.Prelude.{ℕ, zero, suc, ◌+◌, ◌*◌, ◌-◌, List, [], ◌∷◌, map, Bool, true, false, ◌||◌, length, get_or, leb, if◌then◌else◌}
use Rattle.semantics.specs.Words.{sum, largest, any}
use Rattle.semantics.specs.Numbers as No
use Rattle.semantics.specs.Kinds as K
use Rattle.semantics.specs.Model.{Action, HOLD, PRIO, TRACE, SET, LSET, DO, PUTR, PUTB, PUTS, BECOME, REQ, TRY, WHILE}
use Rattle.semantics.specs.Model.{START, CLOSE, kind_of, Model, block, body}

-- The table of own weights, for the kinds from 16 to 30: an action weighs 1, but PUTR (21) and PUTB (22) 2.
abbrev pub own_weights : List ℕ
own_weights = 1 ∷ 1 ∷ 1 ∷ 1 ∷ 1 ∷ 2 ∷ 2 ∷ 1 ∷ 1 ∷ 1 ∷ 1 ∷ 1 ∷ 1 ∷ 1 ∷ 1 ∷ []

abbrev pub own_weight : Action → ℕ
own_weight a = get_or own_weights (kind_of a - K.HOLD) 0

-- What an action weighs beside its own weight, given the weights of later blocks: START its class; DO n × (block + 1); TRY the
-- largest of its (block + 1). A class weighs its body block plus 1.
abbrev pub beside : Model → (ℕ → ℕ) → Action → ℕ
beside m w (HOLD e) = 0
beside m w (PRIO e) = 0
beside m w (TRACE e) = 0
beside m w (SET i e) = 0
beside m w (LSET i e) = 0
beside m w (DO n b) = n * (w b + 1)
beside m w (PUTR i n) = 0
beside m w (PUTB i n) = 0
beside m w (PUTS i n) = 0
beside m w (BECOME i) = 0
beside m w (REQ c) = 0
beside m w (TRY bs) = largest (map (λ b. w b.block + 1) bs)
beside m w (WHILE b c) = 0
beside m w (START c t h) = w (body m c) + 1
beside m w CLOSE = 0

unfoldable pub weigh : Model → (ℕ → ℕ) → Action → ℕ
weigh m w a = own_weight a + beside m w a

-- A block weighs the sum of its actions. Here the distance from block b to the last is at most d. Of an accepted model 0 is
-- reached only where the bound is NONE.
unfoldable pub weight_in : Model → ℕ → ℕ → ℕ
unfolding weigh
weight_in m zero b = 0
weight_in m (suc d) b = sum (map (weigh m (weight_in m d)) (block m b))

unfoldable pub weight : Model → ℕ → ℕ
unfolding weight_in
weight m b = weight_in m (length m.blocks - b) b

unfoldable pub class_weight : Model → ℕ → ℕ
unfolding weight
class_weight m c = weight m (body m c) + 1

-- The sum over the ENTITY records.
unfoldable pub bound : Model → ℕ
unfolding class_weight
bound m = sum (map (λ e. class_weight m e.class) m.entities)

-- NONE exactly if the model has a WHILE, or a START whose class's body block isn't greater than the START's own block.
abbrev pub may_loop : Model → ℕ → Action → Bool
may_loop m own (HOLD e) = false
may_loop m own (PRIO e) = false
may_loop m own (TRACE e) = false
may_loop m own (SET i e) = false
may_loop m own (LSET i e) = false
may_loop m own (DO n b) = false
may_loop m own (PUTR i n) = false
may_loop m own (PUTB i n) = false
may_loop m own (PUTS i n) = false
may_loop m own (BECOME i) = false
may_loop m own (REQ c) = false
may_loop m own (TRY bs) = false
may_loop m own (WHILE b c) = true
may_loop m own (START c t h) = leb (body m c) own
may_loop m own CLOSE = false

abbrev pub loops_from : Model → ℕ → List (List Action) → Bool
loops_from m own [] = false
loops_from m own (x ∷ xs) = any (may_loop m own) x || loops_from m (suc own) xs

abbrev pub loops : Model → Bool
loops m = loops_from m 0 m.blocks

pub data Bounded : Type 0 where
  NONE OVER : Bounded
  AT : ℕ → Bounded

unfoldable pub bound_is : Model → Bounded
unfolding bound
bound_is m = if loops m then NONE else if leb (bound m) No.largest_bound then AT (bound m) else OVER
