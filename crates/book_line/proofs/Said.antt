-- What the judge writes is read as what it says: its word, its place and its code, with a fourth number behind them or without.
-- Assumes nothing.
use mathlib.Core.Path.{◌≡◌, refl, sym, ap, ap₂, ◌∙◌}
use mathlib.Core.Bool.{true}
use mathlib.Core.List.{List, [], ◌∷◌, ◌++◌, append_assoc, append-nil}
use Prim.Native.Nat.{ℕ, ◌+◌, ◌^◌, ◌≤◌, ◌<◌}
use native.Mathlib.Nat.{mod-eq_of_lt}
use native.Mathlib.Omega.{arith}
use Rattle.std.proofs.Common.{Option, Some, unwrap_or}
use lib.ListN.{length, take, length-append}
use lib.Seq.{take_at}
use borrow.Author.Tests.{le-leb, lt-leb, eq-eqb, ne_eqb}
use Rattle.slices.specs.Choice.{pick}
use Rattle.slices.specs.Tests.{alike}
use Rattle.slices.proofs.Choice.{pick_yes, pick_no}
use Rattle.text_lines.specs.Lines.{line_end, after_word}
use Rattle.verdict.specs.declared.Verdict.{Verdict}
use Rattle.verdict.specs.declared.Verdict.TheVariants.{Pass, Fail, Inconclusive, Unreadable}
use Rattle.verdict.specs.declared.Finding.{Finding}
use Rattle.verdict_line.specs.Line.{word_of, decimal, field_of, line_of}
use Rattle.book_block.specs.Entries.{made}
use Rattle.book_answer.specs.Answers.{verdict_number, entry_of}
use Rattle.text_lines.specs.Decimal.{no_number, number_in}
use Rattle.book_block.specs.declared.Entry.{Entry}
use Rattle.book_line.specs.Lines.{word_in, number_said, verdict_named, closes, nothing, fields_said, entry_said}
use Rattle.book_line.proofs.Words.{free, free_append, first_end, word_first, word_after, word_last, word_end}
use Rattle.book_line.proofs.Decimals.{some_digits, number_back, decimal_free}

word_free : (v : Verdict) → free 0x20 0x0A (word_of v) ≡ true
unfolding free word_of
word_free Pass = refl
word_free Fail = refl
word_free Inconclusive = refl
word_free Unreadable = refl

word_on_line : (v : Verdict) → free 0x0A 0x0A (word_of v) ≡ true
unfolding free word_of
word_on_line Pass = refl
word_on_line Fail = refl
word_on_line Inconclusive = refl
word_on_line Unreadable = refl

named_back : (v : Verdict) → verdict_named (word_of v) ≡ Some v
unfolding verdict_named word_of alike pick
named_back Pass = refl
named_back Fail = refl
named_back Inconclusive = refl
named_back Unreadable = refl

-- a number is a word
digits_word : (n : ℕ) → free 0x20 0x0A (decimal n) ≡ true
digits_word = decimal_free 0x20 0x0A (omega arith) (omega arith)

field_on_line : (n : ℕ) → free 0x0A 0x0A (field_of n) ≡ true
unfolding field_of free
field_on_line n = decimal_free 0x0A 0x0A (omega arith) (omega arith) n

-- what may stand behind the code: nothing, or a fourth number
pub data Tail : List ℕ → Type 0 where
  without : Tail []
  fourth : (k : ℕ) → k < no_number → Tail (field_of k)

tail_on_line : (r : List ℕ) → Tail r → free 0x0A 0x0A r ≡ true
unfolding free
tail_on_line r without = refl
tail_on_line r (fourth k h) = field_on_line k

-- a number that is said
said_number : (s : List ℕ) (n : ℕ) → number_in (word_in s) ≡ n → n < no_number → number_said s ≡ Some n
unfolding number_said
said_number s n is h = rw is (pick_no _ _ _ (lt-leb no_number n h))

module _ (c : ℕ) where
  code_word : (r : List ℕ) → Tail r → word_in (decimal c ++ r) ≡ decimal c
  unfolding field_of
  code_word r without = ap word_in (append-nil (decimal c)) ∙ word_last (decimal c) (digits_word c)
  code_word r (fourth k h) = word_first (decimal c) (digits_word c) (decimal k)

  code_closed : (r : List ℕ) → Tail r → closes (after_word (decimal c ++ r)) ≡ true
  unfolding field_of closes
  code_closed r without =
      let none : after_word (decimal c ++ []) ≡ [] = ap after_word (append-nil (decimal c)) ∙ word_end (decimal c) (digits_word c) in
      ap closes none ∙ pick_yes _ _ _ refl
  code_closed r (fourth k h) =
      let word : number_in (word_in (decimal k)) ≡ k = ap number_in (word_last (decimal k) (digits_word k)) ∙ number_back k h in
      ap closes (word_after (decimal c) (digits_word c) (decimal k))
      ∙ (pick_no _ _ _ (ne_eqb _ _ (some_digits k))
      ∙ rw (said_number (decimal k) k word h) (eq-eqb _ _ (ap length (word_end (decimal k) (digits_word k)))))

-- a line without its line feed
abbrev line : Verdict → ℕ → ℕ → List ℕ → List ℕ
line v p c r = word_of v ++ (field_of p ++ (field_of c ++ r))

module _ (tape : ℕ) (v : Verdict) (p c : ℕ) (r : List ℕ) (t : Tail r) (hp : p < no_number) (hc : c < no_number) where
  second : after_word (line v p c r) ≡ decimal p ++ (field_of c ++ r)
  unfolding field_of
  second = word_after (word_of v) (word_free v) (decimal p ++ (field_of c ++ r))

  third : after_word (after_word (line v p c r)) ≡ decimal c ++ r
  unfolding field_of
  third = ap after_word second ∙ word_after (decimal p) (digits_word p) (decimal c ++ r)

  place_said : number_said (after_word (line v p c r)) ≡ Some p
  unfolding field_of
  place_said =
      said_number _ p (ap number_in (ap word_in second ∙ word_first (decimal p) (digits_word p) (decimal c ++ r)) ∙ number_back p hp) hp

  code_said : number_said (after_word (after_word (line v p c r))) ≡ Some c
  code_said = said_number _ c (ap number_in (ap word_in third ∙ code_word c r t) ∙ number_back c hc) hc

  verdict_said : verdict_named (word_in (line v p c r)) ≡ Some v
  unfolding field_of
  verdict_said = ap verdict_named (word_first (word_of v) (word_free v) (decimal p ++ (field_of c ++ r))) ∙ named_back v

  closed : closes (after_word (after_word (after_word (line v p c r)))) ≡ true
  closed = ap (λ (s : List ℕ). closes (after_word s)) third ∙ code_closed c r t

  line_said : fields_said tape (line v p c r) ≡ Some (made tape (verdict_number v) p c)
  unfolding fields_said
  line_said = rw (verdict_said, place_said, code_said, closed)

  -- with its line feed
  one_line : free 0x0A 0x0A (line v p c r) ≡ true
  one_line =
      free_append 0x0A 0x0A (word_of v) _ (word_on_line v)
      (free_append 0x0A 0x0A (field_of p) _ (field_on_line p) (free_append 0x0A 0x0A (field_of c) r (field_on_line c) (tail_on_line r t)))

  pub text_said : entry_said tape (line v p c r ++ (0x0A ∷ [])) ≡ made tape (verdict_number v) p c
  unfolding entry_said
  text_said =
      let l = line v p c r in
      let end : line_end (l ++ (0x0A ∷ [])) 0 ≡ length l = first_end 0x0A 0x0A 0x0A l [] one_line refl in
      let size = length-append l (0x0A ∷ []) in
      let whole : length (l ++ (0x0A ∷ [])) ≤ line_end (l ++ (0x0A ∷ [])) 0 + 1 = omega arith in
      pick_yes _ _ _ (le-leb _ _ whole)
      ∙ ap (λ (said : Option Entry). unwrap_or said (nothing tape))
      (ap (λ (n : ℕ). fields_said tape (take n (l ++ (0x0A ∷ [])))) end
      ∙ (ap (fields_said tape) (take_at l (0x0A ∷ []) (length l) refl) ∙ line_said))

-- the line that the judge's program writes gives the entry of the answer that it says; the fourth number is not entered
pub answer_said : (tape : ℕ) (f : Finding) → f.ruling.place < 2 ^ 32 → f.ruling.code < 2 ^ 32 → f.zeros < 2 ^ 32
    → entry_said tape (line_of f) ≡ entry_of tape f.ruling
unfolding line_of entry_of
answer_said tape f p c z =
    let a = f.ruling in
    let v = a.verdict in
    ap (entry_said tape) (sym (regrouped (word_of v) (field_of a.place) (field_of a.code) (field_of f.zeros) (0x0A ∷ [])))
    ∙ (text_said tape v a.place a.code (field_of f.zeros) (fourth f.zeros z) p c
    ∙ ap₂ (made tape (verdict_number v)) (sym (mod-eq_of_lt p)) (sym (mod-eq_of_lt c)))
  where
    regrouped : (w x y k z : List ℕ) → (w ++ (x ++ (y ++ k))) ++ z ≡ w ++ (x ++ (y ++ (k ++ z)))
    regrouped w x y k z = simp append_assoc
