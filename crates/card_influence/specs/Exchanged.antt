-- Entries of a tape in which the card's answers are exchanged, where they are due, for others of which the same is seen; all else is the
-- same. 02, R-13. That such tapes are judged alike is proved (`verdict`, `zeros` of Theorem).
-- Assumes nothing.
use Rattle.std.specs.Prelude.{◌≡◌, true, List, ◌∷◌, ℕ}
use Rattle.std.proofs.Math.Option.{some}
use Rattle.numbers.specs.Tables.{answer}
use Rattle.tape_read.specs.Entries.{Entry, entry}
use Rattle.tape_read.specs.Tapes.{entries, read_tape}
use Rattle.sessions.specs.Session.{is_payload}
use Rattle.sessions.specs.Machine.{next}
use Rattle.rulebook.specs.Phase.{Asked, opens}
use Rattle.rulebook.specs.Turn.{turn}
use Rattle.rulebook.specs.Machine.{Machine, at, owes}
use Rattle.rulebook.specs.Session.{rules}
use Rattle.card_seen.specs.Seen.{seen}
use Rattle.card_seen.specs.Given.{place_of}

-- from a state of the rulebook's machine on
pub data Exchanged : Machine → List Entry → List Entry → Type 0 where
  -- from here on all entries are the same, whatever they are: a closing silence, what breaks the rules, what follows that
  rest : {σ : Machine} {es : List Entry} → Exchanged σ es es
  -- an entry that can be stays
  kept : {σ : Machine} {es fs : List Entry} (e : Entry) (τ : Machine) → next rules σ e ≡ some τ → Exchanged τ es fs
      → Exchanged σ (e ∷ es) (e ∷ fs)
  -- an answer where one is due
  other : {w : Asked} {es fs : List Entry} (a b : List ℕ) → is_payload a ≡ true → is_payload b ≡ true
      → seen (place_of w) a ≡ seen (place_of w) b → Exchanged (at (turn w a)) es fs
      → Exchanged (owes w) (entry answer a ∷ es) (entry answer b ∷ fs)

-- two tapes that read as such entries
pub record TapesAlike (t u : List ℕ) : Type 0 where
  pub first_entries : List Entry
  pub second_entries : List Entry
  pub first_read : read_tape t ≡ entries first_entries
  pub second_read : read_tape u ≡ entries second_entries
  pub exchanged : Exchanged (at opens) first_entries second_entries
