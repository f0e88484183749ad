-- The loop over the tokens: what holds before each of them, and what is so behind the last.
-- Assumes nothing.
use Rattle.std.specs.Prelude.{ℕ, ◌≤◌, ◌≡◌, Bool, true, false, not, ◌||◌, eqb, length, drop, if◌then◌else◌, Result, Ok, Err, OnOk}
use Rattle.std.proofs.Common.{arith, ◌∙◌, eqb-true, eq-eqb, ne_eqb}
use Rattle.std.proofs.Math.Path.{refl, sym, ap}
use mathlib.Core.List.{List, [], ◌∷◌}
use Rattle.std.proofs.lemmas.Bool.{eqb-false}
use Rattle.text_semantics.specs.Token as K
use Rattle.text_semantics.specs.Lexing.{Placed, clear, tokens_from}
use Rattle.text_semantics.specs.Answer.{refused}
use Rattle.text_machine.specs.Machine.{Reader, stops, goes, turned, ended, going, machine}
use Rattle.text_tokens.specs.declared.Token.{Token}
use Rattle.text_tokens.specs.Next.{Next, behind}
use Rattle.text_reader.specs.declared.Reader as Code
use Rattle.text_reader.specs.declared.refused.Refused.{Refused}
use Rattle.text_reader.specs.Reason.{number_of}
use Rattle.text_reader.specs.Shown.{reader_of, Ready}
use Rattle.text_reader.specs.Turn.{Turns, outcome, placed_of}
use Rattle.text_reader.specs.Length.{Counts, counts_turn}

-- Before the token from `at` on, m shows a reader that answers, with what is still to come, what the machine does.
pub record Reads (bs : List ℕ) (at : ℕ) (m : Code.Reader) : Type 0 where
  pub within : at ≤ length bs
  pub text : m.names.text ≡ bs
  pub ready : Ready m
  pub counts : Counts (reader_of m)
  pub same : (room : ℕ) → going (reader_of m) (tokens_from at clear (drop at bs)) (length bs) room ≡ machine bs room

-- Behind the last token: what the machine answers; or a token stopped the reader.
pub record Over (bs : List ℕ) (m : Code.Reader) : Type 0 where
  pub same : (room : ℕ) → machine bs room ≡ ended (reader_of m) (length bs) room
  pub ready : Ready m
  pub counts : Counts (reader_of m)

abbrev pub Done : List ℕ → Result (Unit {0}) Refused → Code.Reader → Type 0
Done bs (Ok x) m = Over bs m
Done bs (Err e) m = (room : ℕ) → machine bs room ≡ refused (number_of e.reason) e.place

-- ONE TOKEN of the machine: it stops there, or goes on.
going-stops : (r : Reader) (k : Placed) {n p : ℕ} (ks : List Placed) (len room : ℕ) → turned r k ≡ stops n p
    → going r (k ∷ ks) len room ≡ refused n p
unfolding going
going-stops r k ks len room e = rw (e, going)

going_on : (r : Reader) {s : Reader} (k : Placed) (ks : List Placed) (len room : ℕ) → turned r k ≡ goes s
    → going r (k ∷ ks) len room ≡ going s ks len room
unfolding going
going_on r k ks len room e = rw (e, going)

module _ {bs : List ℕ} {at : ℕ} {t : Token} {m : Code.Reader} (x : Reads bs at m) (y : Next bs at t) where
  -- What is still to come is this token, and what comes behind it.
  ahead : (room : ℕ) → going (reader_of m) (placed_of bs t ∷ behind bs t) (length bs) room ≡ machine bs room
  ahead room = ap (λ ks. going (reader_of m) ks (length bs) room) (sym y.tokens) ∙ x.same room

  told : {r : Result (Unit {0}) Refused} {n : Code.Reader} → Turns t m r n → turned (reader_of m) (placed_of bs t) ≡ outcome r n
  told z = ap (λ b. turned (reader_of m) (placed_of b t)) (sym x.text) ∙ z.told

  -- It stops the reader.
  pub reads_stopped : {e : Refused} {n : Code.Reader} → Turns t m (Err e) n → (room : ℕ) → machine bs room ≡ refused (number_of e.reason) e.place
  reads_stopped z room =
      sym (ahead room) ∙ going-stops (reader_of m) (placed_of bs t) (behind bs t) (length bs) room (told z)

  -- Or the reader goes on; behind the last one nothing comes.
  module _ {u : Unit {0}} {n : Code.Reader} (z : Turns t m (Ok u) n) where
    counts_on : Counts (reader_of n)
    counts_on =
        counts_turn (reader_of m) (reader_of n) (placed_of bs t) x.ready.comes (told z)
        z.ready.sized z.ready.sheet.roomy x.counts

    pub reads_over : t.kind ≡ K.END → Over bs n
    unfolding going
    reads_over f =
        record {
          same = λ room.
              sym (ahead room) ∙ going_on (reader_of m) (placed_of bs t) (behind bs t) (length bs) room (told z)
              ∙ ap (λ b. going (reader_of n) (if b then [] else tokens_from t.end clear (drop t.end bs)) (length bs) room)
              (eq-eqb t.kind K.END f);
          ready = z.ready;
          counts = counts_on;
        }

    pub reads_on : (t.kind ≡ K.END → ⊥) → Reads bs t.end n
    reads_on f =
        record {
          within = (y.room f).1;
          text = z.text ∙ x.text;
          ready = z.ready;
          counts = counts_on;
          same = λ room.
              sym (ap (λ b. going (reader_of n) (if b then [] else tokens_from t.end clear (drop t.end bs)) (length bs)
              room) (ne_eqb t.kind K.END f))
              ∙ sym (going_on (reader_of m) (placed_of bs t) (behind bs t) (length bs) room (told z)) ∙ ahead room;
        }

  -- So behind the last token, or where one stops the reader.
  pub reads_done : (r : Result (Unit {0}) Refused) {n : Code.Reader} → Turns t m r n → OnOk r (t.kind ≡ K.END) → Done bs r n
  reads_done (Ok u) z f = reads_over z f
  reads_done (Err e) z f = reads_stopped z

-- A TEST of numbers: a token of this kind stopped the reader, with a number that is not 0, or is the last one.
pub last_token : (n k : ℕ) → not (eqb n 0) || eqb k K.END ≡ true → n ≡ 0 → k ≡ K.END
last_token n k h e = eqb-true k K.END (sym (ap (λ b. not b || eqb k K.END) (eq-eqb n 0 e)) ∙ h)

pub more_tokens : (n k : ℕ) → not (eqb n 0) || eqb k K.END ≡ false → (n ≡ 0) × (k ≡ K.END → ⊥)
more_tokens n k h = go (eqb n 0) refl (eqb k K.END) refl h
  where
    go : (a : Bool) → eqb n 0 ≡ a → (b : Bool) → eqb k K.END ≡ b → not a || b ≡ false → (n ≡ 0) × (k ≡ K.END → ⊥)
    go true e false f h = (eqb-true n 0 e, eqb-false k K.END f)
    go true e true f h = let z : ◌≡◌ {A = ℕ} 0 1 = cc in absurd (omega arith)
    go false e b f h = let z : ◌≡◌ {A = ℕ} 0 1 = cc in absurd (omega arith)
