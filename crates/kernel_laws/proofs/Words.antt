-- The lines of 01's table at each word: a word that the kernel takes passes them, and one that passes them is taken; and what is taken
-- may be said.
-- Assumes nothing.
use mathlib.Core.Path.{◌≡◌, refl, sym, ap}
use mathlib.Core.Bool.{Bool, true, false, not}
use mathlib.Core.List.{List, []}
use Prim.Native.Nat.{ℕ}
use native.Mathlib.Omega.{arith}
use borrow.Author.Tests.{not-false, eqb-false}
use lib.Dec.{eqb}
use Rattle.slices.specs.Choice.{first_of}
use Rattle.slices.proofs.Lines.{line_clear, last_no}
use Rattle.start_valid.specs.Start.{begins_session}
use Rattle.start_valid.proofs.Laws.{begins_valid}
use Rattle.numbers.specs.Tables.{start, answer, choice}
use Rattle.tape_read.specs.Entries.{entry}
use Rattle.words.specs.Words.{word_kind, word_allowed}
use Rattle.words.specs.Choice.{is_choice}
use Rattle.words.proofs.Laws.{other_kind as word_kind_lem, no_start, some_refusal}
use Rattle.session_phase.specs.Waiting.{kind_of}
use Rattle.session_phase.specs.Saying.{allowed_by, refusal_by}
use Rattle.session_phase.specs.declared.Question.{Question}
use Rattle.session_phase.specs.declared.Speaker.{Speaker}
use Rattle.session_phase.specs.declared.Speaker.TheVariants.{Terminal, Says, Shopper}
use Rattle.session_phase.specs.declared.Waiting.TheVariants.{ForCard, ForWord}
use Rattle.kernel_refusals.specs.Refusals.{start_bad, answer_bad, word_lines}
use Rattle.kernel_refusals.proofs.OwnTests.{other_kind}

-- what the kernel takes: of the STARTs only those that a session can be begun with
unfoldable pub taken_by : Speaker → List ℕ → Bool
taken_by Terminal p = begins_session p
taken_by (Says word count) p = word_allowed word count p
taken_by (Shopper shown) p = is_choice shown p

pub taken_allowed : (p : List ℕ) (speaker : Speaker) → taken_by speaker p ≡ true → allowed_by speaker p ≡ true
unfolding taken_by allowed_by
taken_allowed p Terminal fits = begins_valid p fits
taken_allowed p (Says word count) fits = fits
taken_allowed p (Shopper shown) fits = fits

-- every word has a number
pub word_number : (speaker : Speaker) → refusal_by speaker ≡ 0 → ⊥
unfolding refusal_by
word_number Terminal e = omega arith
word_number (Says word count) e = some_refusal word e
word_number (Shopper shown) e = omega arith

-- an answer is no word, and passes them all
pub answer_passes : (question : Question) (a : List ℕ) → first_of (word_lines (ForCard question) a) ≡ 0
unfolding word_lines first_of
answer_passes question a = refl

-- a word is neither a bad START nor an answer
own_line : (k : ℕ) (p : List ℕ) → eqb k start ≡ false → start_bad (entry k p) ≡ false
unfolding start_bad
own_line k p h = other_kind k start _ (eqb-false k start h)

no_answer_line : (k : ℕ) (p : List ℕ) → eqb answer k ≡ false → answer_bad (entry k p) ≡ false
unfolding answer_bad
no_answer_line k p h = other_kind k answer _ (λ e. eqb-false answer k h (sym e))

module _ (p : List ℕ) where
  pub word_passes : (speaker : Speaker) → taken_by speaker p ≡ true
      → (start_bad (entry (kind_of speaker) p) ≡ false) × (answer_bad (entry (kind_of speaker) p) ≡ false)
      × (first_of (word_lines (ForWord speaker) p) ≡ 0)
  unfolding kind_of taken_by word_lines start_bad answer_bad
  word_passes Terminal fits = (ap not fits, refl, last_no refl _ (ap not (taken_allowed p Terminal fits)))
  word_passes (Says word count) fits = (
    own_line (word_kind word) p (no_start word),
    no_answer_line (word_kind word) p (word_kind_lem word).no_answer,
    last_no refl _ (ap not (taken_allowed p (Says word count) fits)),
  )
  word_passes (Shopper shown) fits = (
    own_line choice p refl,
    no_answer_line choice p refl,
    last_no refl _ (ap not (taken_allowed p (Shopper shown) fits)),
  )

  pub passed_word : (speaker : Speaker) → start_bad (entry (kind_of speaker) p) ≡ false
      → first_of (word_lines (ForWord speaker) p) ≡ 0 → taken_by speaker p ≡ true
  unfolding kind_of taken_by allowed_by start_bad word_lines
  passed_word Terminal s w = not-false _ s
  passed_word (Says word count) s w = not-false _ (line_clear _ _ [] (word_number (Says word count)) w).0
  passed_word (Shopper shown) s w = not-false _ (line_clear _ _ [] (word_number (Shopper shown)) w).0
