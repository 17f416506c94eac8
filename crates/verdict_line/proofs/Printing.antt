-- The line written in pieces, each where the last ended: a digit after those of the tenth part, a space before a number, and the whole
-- line at the start of a buffer.
-- Assumes nothing.
use mathlib.Core.Path.{◌≡◌, sym, ap, ◌∙◌}
use mathlib.Core.List.{List, [], ◌∷◌, ◌++◌, append_assoc}
use Prim.Native.Nat.{ℕ, ◌+◌, ◌/◌, ◌%◌, ◌^◌, ◌≤◌, ◌<◌}
use native.Mathlib.Omega.{arith}
use lib.ListN.{length, take, set, length-append, length-take, length-set}
use lib.Seq.{sets-eq, drop-drop, take-append_seam}
use borrow.Author.Tests.{le-leb, lt-leb}
use Rattle.slices.specs.Writing.{put, laid}
use Rattle.slices.proofs.Choice.{pick_yes, pick_no}
use Rattle.slices.proofs.Writing.{put_length, put_step, put_start, laid_fits, laid_short}
use Rattle.verdict_line.specs.Line.{word_of, decimal, field_of, line_of, line_size}
use Rattle.verdict.specs.declared.Finding.{Finding}
use Rattle.verdict_line.proofs.Digits.{decimal_small, decimal_large, small_length, large_length, field_length, decimal_most, decimal_some}

one_store : (d : List ℕ) (p x : ℕ) → p < length d → set d p x ≡ put (x ∷ []) p d
unfolding put
one_store d p x h = sets-eq (x ∷ []) d p (omega arith) ∙ (rw drop-drop (simp append_assoc))

module _ (d : List ℕ) (at n : ℕ) (room : at + length (decimal n) ≤ length d) where
  pub small_laid : n < 10 → set d at (0x30 + n) ≡ put (decimal n) at d
  small_laid h =
      let size = small_length n h in
      one_store d at (0x30 + n) (omega arith) ∙ ap (λ (l : List ℕ). put l at d) (sym (decimal_small n h))

  pub large_laid : 10 ≤ n → (out : List ℕ) (end : ℕ) → end ≡ at + length (decimal (n / 10)) → out ≡ put (decimal (n / 10)) at d
      → set out end (0x30 + n % 10) ≡ put (decimal n) at d
  large_laid h out end e o =
      let tenth = decimal (n / 10) in
      let last : List ℕ = (0x30 + n % 10) ∷ [] in
      let size = large_length n h in
      let fits : at + length tenth ≤ length d = omega arith in
      let long : length out ≡ length d = ap length o ∙ put_length tenth at d fits in
      one_store out end (0x30 + n % 10) (omega arith)
      ∙ (ap (put last end) o
      ∙ (ap (λ (p : ℕ). put last p (put tenth at d)) e
      ∙ (sym (put_step tenth last at d fits) ∙ ap (λ (l : List ℕ). put l at d) (sym (decimal_large n h)))))

-- a space, and the number after it
pub field_laid : (d : List ℕ) (at n : ℕ) (out : List ℕ) → at + length (field_of n) ≤ length d
    → out ≡ put (decimal n) (at + 1) (set d at 0x20)
    → out ≡ put (field_of n) at d
unfolding field_of
field_laid d at n out room o =
    let first : at < length d = omega arith in
    o ∙ (ap (put (decimal n) (at + 1)) (one_store d at 0x20 first) ∙ sym (put_step (0x20 ∷ []) (decimal n) at d (omega arith)))

-- a space and a 64-bit number take at most 21 bytes
pub field_most : (n : ℕ) → n < 2 ^ 64 → length (field_of n) ≤ 21
field_most n h = let e = field_length n in let most = decimal_most 19 n (omega arith) in omega arith

-- ---- the whole line

-- one piece more after those that stand at the start
then_put : (x y d out : List ℕ) (p : ℕ) → p ≡ length x → length x ≤ length d → out ≡ put x 0 d → put y p out ≡ put (x ++ y) 0 d
then_put x y d out p e h o =
    let here : p ≡ 0 + length x = omega arith in
    ap (put y p) o ∙ (ap (λ (k : ℕ). put y k (put x 0 d)) here ∙ sym (put_step x y 0 d (omega arith)))

pub line_length : (a : Finding)
    → length (line_of a)
    ≡ length (word_of a.ruling.verdict) +
    (length (field_of a.ruling.place) + (length (field_of a.ruling.code) + (length (field_of a.zeros) + 1)))
unfolding line_of
line_length a = simp length-append

module _ (a : Finding) (blank : List ℕ) where
  abbrev word : List ℕ
  word = word_of a.ruling.verdict

  abbrev first : List ℕ
  first = field_of a.ruling.place

  abbrev second : List ℕ
  second = field_of a.ruling.code

  abbrev third : List ℕ
  third = field_of a.zeros

  pub line_laid : (t u v x : List ℕ) (w f g e : ℕ) → w ≡ length word → f ≡ w + length first → g ≡ f + length second → e ≡ g + length third
      → e < length blank → t ≡ laid word 0 blank → u ≡ put first w t → v ≡ put second f u → x ≡ put third g v
      → set x e 0x0A ≡ put (line_of a) 0 blank
  unfolding line_of
  line_laid t u v x w f g e hw hf hg he room ot ou ov ox =
      let one : t ≡ put word 0 blank = ot ∙ laid_fits word 0 blank (omega arith) in
      let two : u ≡ put (word ++ first) 0 blank = ou ∙ then_put word first blank t w hw (omega arith) one in
      let m = length-append word first in
      let three : v ≡ put ((word ++ first) ++ second) 0 blank =
      ov ∙ then_put (word ++ first) second blank u f (omega arith) (omega arith) two in
      let k = length-append (word ++ first) second in
      let four : x ≡ put (((word ++ first) ++ second) ++ third) 0 blank
      = ox ∙ then_put ((word ++ first) ++ second) third blank v g (omega arith) (omega arith) three in
      let l = length-append ((word ++ first) ++ second) third in
      let long : length x ≡ length blank = ap length four ∙ put_length (((word ++ first) ++ second) ++ third) 0 blank (omega arith) in
      one_store x e 0x0A (omega arith)
      ∙ (then_put (((word ++ first) ++ second) ++ third) (0x0A ∷ []) blank x e (omega arith) (omega arith) four
      ∙ ap (λ (l : List ℕ). put l 0 blank) (simp append_assoc))

-- what stands at the start of the text is the line
pub line_taken : (a : Finding) (blank text : List ℕ) (n : ℕ) → n ≡ length (line_of a) → text ≡ put (line_of a) 0 blank
    → take n text ≡ line_of a
line_taken a blank text n e o =
    ap (λ (k : ℕ). take k text) e ∙ (ap (take (length (line_of a))) (o ∙ put_start (line_of a) blank) ∙ take-append_seam (line_of a) _)

module _ (a : Finding) (buf : List ℕ) where
  pub none_taken : length buf < length (line_of a) → line_size (length buf) a ≡ 0
  unfolding line_size
  none_taken h = pick_no _ _ _ (lt-leb (length (line_of a)) (length buf) h)

  pub all_taken : length (line_of a) ≤ length buf → line_size (length buf) a ≡ length (line_of a)
  unfolding line_size
  all_taken h = pick_yes _ _ _ (le-leb (length (line_of a)) (length buf) h)

-- ---- what the goals of the functions stand on, which name these sets

-- a number's digits
pub ruleset number_steps = (decimal_some, small_length, large_length, small_laid, large_laid)

-- a space and a number
pub ruleset field_steps = (field_length, field_laid, length-set)

-- the whole line
pub ruleset line_steps = (field_most, line_length, length-set, length-take, none_taken, all_taken, laid_short)
