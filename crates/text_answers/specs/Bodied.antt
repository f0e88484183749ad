-- The body of a class from its line on: what its brace and its locals make of the machine's reader.
-- Assumes nothing.
use Prim.Native.Nat.{ℕ, suc}
use Rattle.std.specs.Prelude.{◌≡◌, List, [], ◌∷◌}
use Rattle.std.proofs.Math.Path.{refl}
use Rattle.std.proofs.Common.{◌∙◌}
use Rattle.semantics.specs.Kinds as K
use Rattle.text_semantics.specs.Numbers as No
use Rattle.text_semantics.specs.Token as Tk
use Rattle.text_semantics.specs.Token.{Token, name, mark}
use Rattle.text_semantics.specs.Grammar as G
use Rattle.text_semantics.specs.Grammar.{Name, Few, Locals, spell_few, spell_locals}
use Rattle.text_semantics.specs.Names.{Known, embodies, declares, in_few, in_locals, LOCAL}
use Rattle.text_semantics.specs.Reading.{Symbol, text_s, few_s, actions_s}
use Rattle.text_machine.specs.Entry.{Draft, begin}
use Rattle.text_machine.specs.Sheet as S
use Rattle.text_machine.specs.Sheet.{Sheet, braces}
use Rattle.text_machine.specs.Machine.{Reader, keeps}
use Rattle.text_agrees.specs.Flow.{flow}
use Rattle.text_agrees.specs.Actions.{symbol}
use Rattle.text_agrees.specs.Declared.{reader, first_at, remembered, bodied_in, past_few, past_locals, behind_locals, locals_read}
use Rattle.text_agrees.specs.Declared.{local_name}

-- How many names may come behind some.
abbrev pub left_of : {k : ℕ} → Few k → ℕ
left_of (G.no_names {k = k}) = k
left_of (G.also x xs) = left_of xs

module _ (place : ℕ → ℕ) where
  few_goes : {k : ℕ} (xs : Few k) (ks : List Known) (x : Name) (p : ℕ) (d : Draft) (s : Sheet) (at : ℕ) (ts : List Token)
      (us : List Symbol) → d.role ≡ LOCAL →
      flow place at (spell_few xs ts) (few_s k ∷ us) (reader ks x p d s)
      ≡ flow place (past_few xs at) ts (few_s (left_of xs) ∷ us) (reader (remembered ks (in_few xs)) x p d s)
  unfolding flow remembered
  few_goes G.no_names ks x p d s at ts us e = refl
  few_goes {k = suc k} (G.also y ys) ks x p d s at ts us e =
      local_name place y ks x p d s (suc at) (spell_few ys ts) (few_s k ∷ us) e
      ∙ few_goes ys (keeps ks (declares LOCAL y)) x p d s (suc (suc at)) ts us e

  module _ (c : Name) (ks : List Known) (y : Name) (q : ℕ) (d : Draft) (s : Sheet) (at : ℕ) where
    abbrev pub opened : Sheet
    opened = braces (bodied_in ks c (place at) (first_at (place at) s))

    abbrev from : Reader
    from = reader ks y q d s

    -- THE BRACE, and all locals behind it.
    pub body_opens : (l : Locals) (ts : List Token) → (f : Draft)
        × (flow place at (mark Tk.CLASS ∷ name c ∷ mark Tk.LB ∷ spell_locals l ts) (text_s ∷ []) from
        ≡ flow place (past_locals l (suc (suc (suc at)))) ts (symbol (behind_locals l) ∷ text_s ∷ [])
        (reader (remembered ks (embodies c ∷ in_locals l)) c (place (suc at)) f opened))
    unfolding flow remembered
    body_opens l ts =
        let a = locals_read place l (keeps ks (embodies c)) c (place (suc at)) (begin (place at) K.CLASS K.CLASS)
        (bodied_in ks c (place at) (first_at (place at) s)) (suc (suc (suc at))) ts (text_s ∷ []) in
        (a.0, a.1)

    -- The locals up to their semicolon.
    pub locals_open : (x : Name) (xs : Few No.more_locals) (ts : List Token) →
        flow place at (mark Tk.CLASS ∷ name c ∷ mark Tk.LB ∷ mark Tk.LOCAL ∷ name x ∷ spell_few xs ts) (text_s ∷ []) from
        ≡ flow place (past_few xs (suc (suc (suc (suc (suc at)))))) ts (few_s (left_of xs) ∷ actions_s ∷ text_s ∷ [])
        (reader (remembered (keeps (keeps ks (embodies c)) (declares LOCAL x)) (in_few xs)) c (place (suc at))
        (begin (place (suc (suc (suc at)))) 0 LOCAL) opened)
    unfolding flow S.settled braces
    locals_open x xs ts =
        let f : Draft = begin (place (suc (suc (suc at)))) 0 LOCAL in
        local_name place x (keeps ks (embodies c)) c (place (suc at)) f opened (suc (suc (suc (suc at)))) (spell_few xs ts)
        (few_s No.more_locals ∷ actions_s ∷ text_s ∷ []) refl
        ∙ few_goes xs (keeps (keeps ks (embodies c)) (declares LOCAL x)) c (place (suc at)) f opened
        (suc (suc (suc (suc (suc at))))) ts (actions_s ∷ text_s ∷ []) refl
