-- What is written is cut into the same records again; so the checks of a file that a text writes are those of its records.
-- Assumes nothing.
use Rattle.std.specs.Prelude.{ℕ, zero, suc, ◌+◌, ◌-◌, ◌≤◌, ◌<◌, ◌≡◌, refl, List, [], ◌∷◌, ◌++◌, true, false, eqb, length, take, drop}
use Rattle.std.proofs.Common.{arith, ap, ◌∙◌, le-leb, ne_eqb, length-append}
use Rattle.std.proofs.lemmas.Bool.{lt-leb}
use Rattle.std.proofs.Math.Seq.{take-append_seam, drop-append_seam}
use Rattle.semantics.specs.Numbers as F
use Rattle.semantics.specs.Bytes.{u16, Raw, raw, spans, whole, cut, records_from}
use Rattle.semantics.specs.Record.{Entry}
use Rattle.semantics.specs.Decode.{refused, accepted, if_accepted, none_seen, first_pass, second_pass, gather, third_pass, decode}
use Rattle.promises.specs.Laws.{true-and}
use Rattle.text_semantics.specs.Meaning.{Owned}
use Rattle.text_semantics.specs.Written.{kind_of, body_of, bytes_of, file_of}
use Rattle.text_semantics.specs.Answer.{so_far}

-- The records that are written, the first at byte place `at`.
abbrev pub raws_from : ℕ → List Owned → List Raw
raws_from at [] = []
raws_from at (o ∷ os) =
    raw at (kind_of o.entry) (body_of o.entry) ∷ raws_from (at + length (bytes_of o.entry)) os

pub bytes_long : (e : Entry) → length (bytes_of e) ≡ 4 + length (body_of e)
unfolding bytes_of
bytes_long e = omega arith

-- ONE RECORD.
cut_one : (n at : ℕ) (bs : List ℕ) (m k : ℕ) (b rest : List ℕ) → 0 < length bs → whole bs ≡ true → u16 bs 2 ≡ k → spans bs ≡ m
    → take (m - 4) (drop 4 bs) ≡ b → drop m bs ≡ rest → cut (suc n) at bs ≡ raw at k b ∷ cut n (at + m) rest
unfolding cut
cut_one n at bs m k b rest l w p s t d =
    let e : eqb (length bs) 0 ≡ false = ne_eqb (length bs) 0 (λ z. omega arith) in rw (e, w, p, s, t, d)

record_cut : (e : Entry) (rest : List ℕ) (n at : ℕ)
    → cut (suc n) at (bytes_of e ++ rest) ≡ raw at (kind_of e) (body_of e) ∷ cut n (at + length (bytes_of e)) rest
unfolding bytes_of
record_cut e rest n at =
    let w : List ℕ = bytes_of e in
    let l = length-append w rest in
    let s : 2 ≤ u16 (w ++ rest) 0 = omega arith in
    let f : spans (w ++ rest) ≤ length (w ++ rest) = omega arith in
    let t : length (bytes_of e) - 4 ≡ length (body_of e) = omega arith in
    cut_one n at (w ++ rest) (length w) (kind_of e) (body_of e) rest (omega arith)
    (true-and _ _ (le-leb _ _ s) (le-leb _ _ f))
    (omega arith) (omega arith) (rw t (take-append_seam (body_of e) rest)) (drop-append_seam w rest)

-- ALL OF THEM.
cut_all : (n at : ℕ) (os : List Owned) → length (file_of os) ≤ n → cut n at (file_of os) ≡ raws_from at os
unfolding cut
cut_all zero at [] l = refl
cut_all (suc n) at [] l = refl
cut_all zero at (o ∷ os) l =
    let a = length-append (bytes_of o.entry) (file_of os) in let b = bytes_long o.entry in absurd (omega arith)
cut_all (suc n) at (o ∷ os) l =
    let a = length-append (bytes_of o.entry) (file_of os) in
    let b = bytes_long o.entry in
    let ih = cut_all n (at + length (bytes_of o.entry)) os (omega arith) in
    record_cut o.entry (file_of os) n at ∙ ap (λ rs. raw at (kind_of o.entry) (body_of o.entry) ∷ rs) ih

pub recut : (at : ℕ) (os : List Owned) → records_from at (file_of os) ≡ raws_from at os
unfolding records_from
recut at os = cut_all (length (file_of os)) at os (omega arith)

-- THE CHECKS of a file that a text writes: so far, and all.
module _ (os : List Owned) where
  abbrev rs : List Raw
  rs = raws_from 0 os

  pub so_far_lem : length (file_of os) ≤ F.longest_file
      → so_far (file_of os) ≡ if_accepted (first_pass none_seen rs) (λ n. third_pass (gather rs).model rs)
  unfolding so_far
  so_far_lem l = rw (le-leb (length (file_of os)) F.longest_file l, recut 0 os)

  pub so_far_long : F.longest_file < length (file_of os) → so_far (file_of os) ≡ refused F.MANY 0
  unfolding so_far
  so_far_long l = rw (lt-leb (length (file_of os)) F.longest_file l)

  pub decoded : length (file_of os) ≤ F.longest_file
      → decode (file_of os)
      ≡ if_accepted (first_pass none_seen rs)
      λ n. if_accepted (second_pass n 0 rs) λ x. if_accepted (third_pass (gather rs).model rs) λ y. accepted (gather rs).model
  unfolding decode
  decoded l = rw (le-leb (length (file_of os)) F.longest_file l, decode, recut 0 os)

  pub decoded_long : F.longest_file < length (file_of os) → decode (file_of os) ≡ refused F.MANY 0
  unfolding decode
  decoded_long l = rw (lt-leb (length (file_of os)) F.longest_file l, decode)
