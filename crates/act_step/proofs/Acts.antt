-- What the definitions make of each action is what they make of its kind. Assumes nothing.
use Prim.Native.Nat.{ℕ}
use mathlib.Core.Path.{◌≡◌, refl}
use mathlib.Core.List.{List}
use Rattle.semantics.specs.Model.{Expr, Claim, Branch, Share, HOLD, PRIO, TRACE, SET, LSET, DO, PUTR, PUTB, PUTS, BECOME, REQ}
use Rattle.semantics.specs.Model.{TRY, WHILE, START, CLOSE, Model}
use Rattle.semantics.specs.State.{State}
use Rattle.semantics.specs.Step.{hold, prio, set_global, set_local, do_times, putr, putb, become, puts, start, request, while}
use Rattle.semantics.specs.Step.{trace, close, act}

module _ (m : Model) (s : State) (p : ℕ) where
  pub hold_is : (e : Expr) → act m s p (HOLD e) ≡ hold m s p e
  unfolding act
  hold_is e = refl

  pub prio_is : (e : Expr) → act m s p (PRIO e) ≡ prio m s p e
  unfolding act
  prio_is e = refl

  pub set_is : (i : ℕ) (e : Expr) → act m s p (SET i e) ≡ set_global m s p i e
  unfolding act
  set_is i e = refl

  pub lset_is : (i : ℕ) (e : Expr) → act m s p (LSET i e) ≡ set_local m s p i e
  unfolding act
  lset_is i e = refl

  pub do_is : (n b : ℕ) → act m s p (DO n b) ≡ do_times m s p n b
  unfolding act
  do_is n b = refl

  pub putr_is : (i n : ℕ) → act m s p (PUTR i n) ≡ putr m s p i n
  unfolding act
  putr_is i n = refl

  pub putb_is : (i n : ℕ) → act m s p (PUTB i n) ≡ putb m s p i n
  unfolding act
  putb_is i n = refl

  pub puts_is : (i n : ℕ) → act m s p (PUTS i n) ≡ puts m s p i n
  unfolding act
  puts_is i n = refl

  pub become_is : (i : ℕ) → act m s p (BECOME i) ≡ become m s p i
  unfolding act
  become_is i = refl

  pub req_is : (c : Claim) → act m s p (REQ c) ≡ request m s p (REQ c)
  unfolding act
  req_is c = refl

  pub try_is : (bs : List Branch) → act m s p (TRY bs) ≡ request m s p (TRY bs)
  unfolding act
  try_is bs = refl

  pub while_is : (b : ℕ) (c : Claim) → act m s p (WHILE b c) ≡ while m s p (WHILE b c)
  unfolding act
  while_is b c = refl

  pub start_is : (c t : ℕ) (h : List Share) → act m s p (START c t h) ≡ start m s p c t h
  unfolding act
  start_is c t h = refl

  pub trace_is : (e : Expr) → act m s p (TRACE e) ≡ trace m s p e
  unfolding act
  trace_is e = refl

  pub close_is : act m s p CLOSE ≡ close m s p
  unfolding act
  close_is = refl
