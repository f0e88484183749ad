-- The end: what is answered behind the last token.
-- Assumes nothing.
use Rattle.std.specs.Prelude.{ℕ, zero, suc, ◌≤◌, ◌<◌, ◌≡◌, List, [], ◌∷◌, ◌++◌, length, get_or, take, drop, Bool, eqb, leb, if◌then◌else◌, Result, Ok, Err, Some, None}
use Rattle.std.proofs.Common.{arith, ◌∙◌}
use Rattle.std.proofs.Math.Path.{refl}
use Rattle.std.proofs.Math.Bool.{true, false}
use borrow.Author.Tests.{lt-leb, le-leb}
use Rattle.semantics.specs.Words.{any, keep, first_at}
use Rattle.semantics.specs.Kinds as K
use Rattle.text_semantics.specs.Numbers as No
use Rattle.text_semantics.specs.Names.{Known}
use Rattle.text_semantics.specs.Answer.{refused, written}
use Rattle.text_machine.specs.Sheet.{file}
use Rattle.text_machine.specs.Machine.{lacking, ended}
use Rattle.text_names.specs.Table.{known_in, lacking_class}
use Rattle.text_reader.specs.declared.Reader.{Reader}
use Rattle.text_reader.specs.declared.refused.Refused.{Refused}
use Rattle.text_reader.specs.declared.refused.Reason.TheVariants.{Checks, Buffer}
use Rattle.text_reader.specs.Reason.{number_of}
use Rattle.text_reader.specs.Shown.{reader_of}
use Rattle.text_reader.specs.Answer.{Says}
use Rattle.text_reader.specs.Length.{file_fits}
use Rattle.text_reader.specs.Going.{Over}

-- WHAT IS TOLD THEN: a is the answer, and `after` what is left in the bytes that were lent for the records.
abbrev pub Answers : Reader → ℕ → List ℕ → Result ℕ Refused → List ℕ → Type 0
Answers m len out a after = Says (ended (reader_of m) len (length out)) a out after

-- Beyond the front of a list nothing stands in it.
beyond : (n c : ℕ) (xs : List ℕ) → n ≤ c → get_or (take n xs) c 0 ≡ 0
beyond zero c xs h = refl
beyond (suc n) c [] h = refl
beyond (suc n) zero (x ∷ xs) h = absurd (omega arith)
beyond (suc n) (suc c) (x ∷ xs) h = beyond n c xs (omega arith)

-- Each way through the code: what stopped the reader is told, and nothing is written.
pub answers_stopped : (e : Refused) (out : List ℕ) → Says (refused (number_of e.reason) e.place) (Err e) out out
answers_stopped e out = record { answer = refl; bytes = refl }

-- .. or the end.
module _ (m : Reader) (len : ℕ) (out : List ℕ) where
  abbrev ks : List Known
  ks = known_in m.names

  pub answers_full : m.sheet.full ≡ true → Answers m len out (Err (record { reason = Checks; place = 0 })) out
  unfolding ended
  answers_full f = rw f (record { answer = refl; bytes = refl })

  module _ (f : m.sheet.full ≡ false) where
    pub answers_lacking : {c p : ℕ} → Some c ≡ lacking_class ks → p ≡ get_or m.sheet.class_line c 0
        → Answers m len out (Err (record { reason = Checks; place = p })) out
    unfolding ended
    answers_lacking {c} {p} g h = rw f (go (any lacking ks) g)
      where
        first : ℕ
        first = first_at lacking (keep (λ k. eqb k.what K.CLASS) ks)

        go : (b : Bool) → Some c ≡ (if b then Some first else None)
            → Says (if b then refused No.CHECKS (get_or m.sheet.class_line first 0)
            else if leb m.sheet.total (length out) then written (file m.sheet) else refused No.BUFFER len)
            (Err (record { reason = Checks; place = p })) out out
        go true i = let e : c ≡ first = cc in rw (h, e) (record { answer = refl; bytes = refl })
        go false i = absurd (let z : ◌≡◌ {A = ℕ} 0 1 = cc in omega arith)

    module _ (g : None ≡ lacking_class ks) where
      none_lacks : any lacking ks ≡ false
      none_lacks = go (any lacking ks) g
        where
          go : (b : Bool) → None ≡ (if b then Some (first_at lacking (keep (λ k. eqb k.what K.CLASS) ks)) else None) → b ≡ false
          go true i = absurd (let z : ◌≡◌ {A = ℕ} 0 1 = cc in omega arith)
          go false i = refl

      pub answers_small : length out < m.sheet.total
          → Answers m len out (Err (record { reason = Buffer; place = len })) out
      unfolding ended
      answers_small i = rw (f, none_lacks, lt-leb m.sheet.total (length out) i) (record { answer = refl; bytes = refl })

      pub answers_written : {n : ℕ} {bs : List ℕ} → m.sheet.total ≤ length out → n ≡ length (file m.sheet)
          → bs ≡ file m.sheet ++ drop n out → Answers m len out (Ok n) bs
      unfolding ended
      answers_written i j k =
          rw (f, none_lacks, le-leb m.sheet.total (length out) i) (record { answer = rw j; bytes = k ∙ rw j })

-- BEHIND THE TOKENS what is asked there is so: the records are no longer than the total.
pub closes : {bs : List ℕ} {m : Reader} → Over bs m → length (file m.sheet) ≤ m.sheet.total
closes d = file_fits d.counts
