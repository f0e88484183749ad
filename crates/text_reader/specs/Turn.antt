-- What one token leads to: what `turn` answers. Assumes nothing.
use Rattle.std.specs.Prelude.{ℕ, ◌≤◌, ◌≡◌, refl, List, Bool, true, false, eqb, leb, length, if◌then◌else◌, Result, Ok, Err, OnOk}
use Rattle.std.proofs.Common.{arith, sym, ◌∙◌, ap, eqb-true, eq-eqb, ne_eqb, leb-true, leb-false}
use Rattle.std.proofs.lemmas.Bool.{eqb-false}
use Rattle.text_semantics.specs.Token as Tk
use Rattle.text_semantics.specs.Lexing.{Placed}
use Rattle.text_machine.specs.Codes as C
use Rattle.text_machine.specs.Machine as M
use Rattle.text_machine.specs.Machine.{stops, goes, turned}
use Rattle.text_tokens.specs.declared.Token.{Token}
use Rattle.text_tokens.specs.Next.{Next, NUMBER, NAME, BAD, part, token_of, token_at}
use Rattle.text_reader.specs.declared.Reader.{Reader}
use Rattle.text_reader.specs.declared.refused.Refused.{Refused}
use Rattle.text_reader.specs.Reason.{number_of}
use Rattle.text_reader.specs.Shown.{reader_of, Ready}

abbrev pub placed_of : List ℕ → Token → Placed
placed_of bs t = record { token = token_at bs t; place = t.place }

-- A token of the text: the next one from some place on.
abbrev pub Came : List ℕ → Token → Type 0
Came bs t = (at : ℕ) × Next bs at t

-- m is the reader before the token, and n the one behind it: the machine stops where the code refuses, and else both go on.
abbrev pub outcome : Result (Unit {0}) Refused → Reader → M.Turned
outcome (Ok x) n = goes (reader_of n)
outcome (Err e) n = stops (number_of e.reason) e.place

pub record Turns (t : Token) (m : Reader) (r : Result (Unit {0}) Refused) (n : Reader) : Type 0 where
  pub told : turned (reader_of m) (placed_of m.names.text t) ≡ outcome r n
  pub ready : OnOk r (Ready n)
  pub text : OnOk r (n.names.text ≡ m.names.text)

-- Where it stands in the text.
pub within_text : {bs : List ℕ} {t : Token} → Came bs t → (t.kind ≤ BAD) × (t.place ≤ t.end) × (t.end ≤ length bs)
within_text {bs} {t} (at, n) = go (eqb t.kind Tk.END) refl
  where
    go : (b : Bool) → eqb t.kind Tk.END ≡ b → (t.kind ≤ BAD) × (t.place ≤ t.end) × (t.end ≤ length bs)
    go true e = let l = n.last (eqb-true t.kind Tk.END e) in (n.known, omega (arith, l), omega (arith, l))
    go false e = let l = n.room (eqb-false t.kind Tk.END e) in (n.known, omega (arith, l), omega (arith, l))

-- THE SAME TOKEN, as the code has it and as the tokens of a text are told.
same_token : (k v : ℕ) (x : List ℕ) → k ≤ BAD → C.token_of k v x ≡ token_of k v x
same_token k v x h = go (leb k Tk.END) refl (eqb k NUMBER) refl (eqb k NAME) refl
  where
    go : (a : Bool) → leb k Tk.END ≡ a → (b : Bool) → eqb k NUMBER ≡ b → (c : Bool) → eqb k NAME ≡ c →
        (if a then Tk.mark k else if b then Tk.number v else if c then Tk.name x else Tk.bad)
        ≡ (if b then Tk.number v else if c then Tk.name x else if eqb k BAD then Tk.bad else Tk.mark k)
    go true e true f c g = absurd (omega (arith, leb-true k Tk.END e, eqb-true k NUMBER f))
    go true e false f true g = absurd (omega (arith, leb-true k Tk.END e, eqb-true k NAME g))
    go true e false f false g = rw (ne_eqb k BAD (λ i. omega (arith, leb-true k Tk.END e, i)))
    go false e true f c g = refl
    go false e false f true g = refl
    go false e false f false g =
        rw (eq-eqb k BAD (omega (arith, leb-false k Tk.END e, eqb-false k NUMBER f, eqb-false k NAME g)))

-- ONE TOKEN, as the code has it and as the tokens of a text are told.
pub turned_same : {t : Token} (m : Reader) → Came m.names.text t
    → turned (reader_of m) (placed_of m.names.text t)
    ≡ turned (reader_of m) (record { token = C.token_of t.kind t.value (part t.place t.end m.names.text); place = t.place })
turned_same {t} m c =
    ap (λ k. turned (reader_of m) (record { token = k; place = t.place }))
    (sym (same_token t.kind t.value (part t.place t.end m.names.text) c.1.known))

-- So one of them leads to what the other leads to.
pub turns_by : {t : Token} {m n : Reader} {r : Result (Unit {0}) Refused} → Came m.names.text t
    → turned (reader_of m) (record { token = C.token_of t.kind t.value (part t.place t.end m.names.text); place = t.place }) ≡ outcome r n
    → OnOk r (Ready n) → OnOk r (n.names.text ≡ m.names.text) → Turns t m r n
turns_by {t} {m} c x y z = record { told = turned_same m c ∙ x; ready = y; text = z }
