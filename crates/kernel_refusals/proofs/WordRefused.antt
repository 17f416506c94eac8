-- A number of a word is given only where that word is due and wrong: 6 only for HOST, 12 only for the results. The five lines before the
-- last have the numbers 1 to 5, and behind the fourth the event is the one that is waited for.
-- Assumes nothing.
use mathlib.Core.Path.{◌≡◌, refl, sym, ap, ◌∙◌, subst}
use mathlib.Core.Bool.{Bool, true, false, not, ◌&&◌, false≢true}
use mathlib.Core.List.{List}
use Prim.Native.Nat.{ℕ, ◌<◌}
use native.Mathlib.Omega.{arith}
use lib.Dec.{eqb}
use lib.ListN.{length}
use borrow.Author.Tests.{eqb-true, eqb-false, ne_eqb, not-true, not-false}
use Rattle.slices.specs.Choice.{first_of}
use Rattle.slices.proofs.Choice.{pick_yes, pick_no, picked, either}
use Rattle.numbers.specs.Tables.{answer, silence, refused_choice}
use Rattle.tape_read.specs.Entries.{Entry}
use Rattle.words.specs.Words.{word_kind, word_refusal}
use Rattle.words.specs.declared.Word.{Word}
use Rattle.words.specs.declared.Word.TheVariants.{Host, Results}
use Rattle.words.proofs.Laws.{other_kind}
use Rattle.session_phase.specs.Waiting.{kind_of, awaited}
use Rattle.session_phase.specs.Saying.{allowed_by, refusal_by}
use Rattle.session_phase.specs.declared.Speaker.TheVariants.{Terminal, Says, Shopper}
use Rattle.session_phase.specs.declared.Waiting.{Waiting}
use Rattle.session_phase.specs.declared.Waiting.TheVariants.{Searching, ForCard, ForWord, Decided, Closed}
use Rattle.kernel_refusals.specs.Refusals.{is_due, word_lines, refusal_lines, call_refusal}
use Rattle.kernel_refusals.specs.WrongWord.{WrongWord}

-- each word has a number behind those of the other lines, and its own
pub behind_five : (w : Word) → 5 < word_refusal w
unfolding word_refusal
behind_five Host = omega arith
behind_five Results = omega arith

pub own_number : (w v : Word) → word_refusal w ≡ word_refusal v → w ≡ v
unfolding word_refusal
own_number Host Host e = refl
own_number Host Results e = absurd (omega arith)
own_number Results Host e = absurd (omega arith)
own_number Results Results e = refl

-- nor is it the choice's
not_choice : (w : Word) → refused_choice ≡ word_refusal w → ⊥
unfolding word_refusal
not_choice Host e = omega arith
not_choice Results e = omega arith

not_answer : (word : Word) → eqb (word_kind word) answer ≡ false
not_answer word = ne_eqb (word_kind word) answer (λ h. eqb-false answer (word_kind word) (other_kind word).no_answer (sym h))

module _ (word : Word) (count : ℕ) (e : Entry) where
  -- the event that is due where a word is waited for has that word's kind
  due_kind_lem : is_due (ForWord (Says word count)) e ≡ true → e.kind ≡ word_kind word
  unfolding is_due awaited kind_of
  due_kind_lem d =
      either (eqb e.kind silence)
      (λ y.
      let none = ap (λ (t : Bool). t && eqb (length e.payload) 0) (not_answer word) in
      absurd (false≢true (sym none ∙ (sym (pick_yes _ _ _ y) ∙ d))))
      (λ n. eqb-true e.kind (word_kind word) (sym (pick_no _ _ _ n) ∙ d))

-- the last line, by what is waited for
module _ (word : Word) (e : Entry) where
  abbrev Wrong : Waiting → ℕ → Type 0
  Wrong waiting n = n ≡ word_refusal word → WrongWord word waiting e

  -- a number up to 5 is no word's
  other : (waiting : Waiting) (n : ℕ) → n < 6 → Wrong waiting n
  other waiting n h same = absurd (let b = behind_five word in omega arith)

  spoken : (said : Word) (count : ℕ) → is_due (ForWord (Says said count)) e ≡ true → allowed_by (Says said count) e.payload ≡ false
      → Wrong (ForWord (Says said count)) (word_refusal said)
  unfolding allowed_by
  spoken said count d h same =
      subst (λ (w : Word). WrongWord w (ForWord (Says said count)) e) (own_number said word same)
      (record { count = count; due = refl; kind = due_kind_lem said count e d; wrong = h })

  last_line : (waiting : Waiting) → is_due waiting e ≡ true → Wrong waiting (first_of (word_lines waiting e.payload))
  unfolding word_lines first_of refusal_by
  last_line Searching d = other Searching 0 (omega arith)
  last_line (ForCard question) d = other (ForCard question) 0 (omega arith)
  last_line (ForWord Terminal) d =
      picked (Wrong (ForWord Terminal)) (not (allowed_by Terminal e.payload)) 3 0
      (λ t. other (ForWord Terminal) 3 (omega arith)) (λ t. other (ForWord Terminal) 0 (omega arith))
  last_line (ForWord (Says said count)) d =
      picked (Wrong (ForWord (Says said count))) (not (allowed_by (Says said count) e.payload)) (word_refusal said) 0
      (λ t. spoken said count d (not-true _ t)) (λ t. other (ForWord (Says said count)) 0 (omega arith))
  last_line (ForWord (Shopper shown)) d =
      picked (Wrong (ForWord (Shopper shown))) (not (allowed_by (Shopper shown) e.payload)) refused_choice 0
      (λ t same. absurd (not_choice word same)) (λ t. other (ForWord (Shopper shown)) 0 (omega arith))
  last_line (Decided outcome reason) d = other (Decided outcome reason) 0 (omega arith)
  last_line Closed d = other Closed 0 (omega arith)

  -- a call is turned away with a word's number only where that word is due and wrong
  pub word_refused : (waiting : Waiting) (buf : List ℕ) → call_refusal waiting e buf ≡ word_refusal word → WrongWord word waiting e
  unfolding call_refusal refusal_lines first_of
  word_refused waiting buf =
      picked (Wrong waiting) _ 1 _ (λ t. other waiting 1 (omega arith)) (λ t1.
      picked (Wrong waiting) _ 2 _ (λ t. other waiting 2 (omega arith)) (λ t2.
      picked (Wrong waiting) _ 3 _ (λ t. other waiting 3 (omega arith)) (λ t3.
      picked (Wrong waiting) (not (is_due waiting e)) 4 _ (λ t. other waiting 4 (omega arith)) (λ d.
      picked (Wrong waiting) _ 5 _ (λ t. other waiting 5 (omega arith)) (λ t5. last_line waiting (not-false _ d))))))

module _ (waiting : Waiting) (e : Entry) (buf : List ℕ) where
  -- 6 only where HOST is due and wrong
  pub six : call_refusal waiting e buf ≡ 6 → WrongWord Host waiting e
  unfolding word_refusal
  six h = word_refused Host e waiting buf h

  -- 12 only where results are due and wrong
  pub twelve : call_refusal waiting e buf ≡ 12 → WrongWord Results waiting e
  unfolding word_refusal
  twelve h = word_refused Results e waiting buf h
