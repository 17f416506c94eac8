-- What is known of each word that somebody other than the card has: its kind is none of the others, the rulebook's kind and
-- test are the session's own, and what passes it fits a tape.
-- Assumes nothing.
use mathlib.Core.Path.{◌≡◌, refl, sym, ap, ap₂, ◌∙◌}
use mathlib.Core.Bool.{true, false, ◌||◌, false≢true}
use mathlib.Core.List.{List}
use Prim.Native.Nat.{ℕ, ◌≤◌}
use native.Mathlib.Omega.{arith}
use lib.ListN.{length}
use borrow.Author.Tests.{eqb-false}
use Rattle.start_valid.proofs.Laws.{valid_length}
use Rattle.numbers.specs.Tables.{answer, silence, is_kind}
use Rattle.tape_read.specs.Entries.{entry, payload_most}
use Rattle.words.specs.Words.{word_kind}
use Rattle.words.proofs.Laws.{other_kind, kind_readable, said_short}
use Rattle.rulebook.specs.Phase.{Heard, terminal, says, due_kind}
use Rattle.rulebook.specs.Turn.{wanted_in, allowed}
use Rattle.rulebook.specs.Roles.{given}
use Rattle.rulebook.proofs.Said.{wanted_most}
use Rattle.session_phase.specs.Waiting.{kind_of}
use Rattle.session_phase.specs.Saying.{allowed_by}
use Rattle.session_phase.specs.declared.Speaker.{Speaker}
use Rattle.session_phase.specs.declared.Speaker.TheVariants.{Terminal, Says, Shopper}
use Rattle.session_moves.specs.Moves.{speaker_of}

pub no_answer : (speaker : Speaker) → kind_of speaker ≡ answer → ⊥
unfolding kind_of
no_answer Terminal e = omega arith
no_answer (Says word count) e = eqb-false answer (word_kind word) (other_kind word).no_answer (sym e)
no_answer (Shopper shown) e = omega arith

pub no_silence : (speaker : Speaker) → kind_of speaker ≡ silence → ⊥
unfolding kind_of
no_silence Terminal e = omega arith
no_silence (Says word count) e = eqb-false silence (word_kind word) (other_kind word).no_silence (sym e)
no_silence (Shopper shown) e = omega arith

pub some_kind : (speaker : Speaker) → kind_of speaker ≡ 0 → ⊥
unfolding kind_of is_kind
some_kind Terminal e = omega arith
some_kind (Says word count) e = false≢true (sym (ap is_kind e) ∙ kind_readable word)
some_kind (Shopper shown) e = omega arith

pub not_given : (speaker : Speaker) (p : List ℕ) → given (entry (kind_of speaker) p) ≡ false
unfolding kind_of given
not_given Terminal p = refl
not_given (Says word count) p = ap₂ ◌||◌ (other_kind word).no_command (other_kind word).no_decision
not_given (Shopper shown) p = refl

-- the rulebook's kind is the session's own
pub kind_due : (h : Heard) → kind_of (speaker_of h) ≡ due_kind h
unfolding kind_of speaker_of due_kind
kind_due terminal = refl
kind_due (says word z) = refl

pub allowed_by_lem : (h : Heard) (p : List ℕ) → allowed_by (speaker_of h) p ≡ allowed h p
unfolding allowed speaker_of allowed_by
allowed_by_lem terminal p = refl
allowed_by_lem (says word z) p = refl

pub allowed_short : (h : Heard) (p : List ℕ) → allowed h p ≡ true → length p ≤ payload_most
unfolding allowed
allowed_short terminal p fits = let size = valid_length p fits in omega arith
allowed_short (says word z) p fits = said_short word (wanted_in word z) p (wanted_most word z) fits
