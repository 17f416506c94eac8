-- An edition that adds to today's rules, where today's speak: from a phase of theirs it goes where they go, and a START of an earlier edition
-- is allowed where they allow it, and leads where they lead.
-- Assumes nothing.
use mathlib.Core.Path.{◌≡◌, refl}
use mathlib.Core.List.{List}
use Prim.Native.Nat.{ℕ}
use Rattle.slices.proofs.Choice.{pick_no}
use Rattle.rulebook.specs.Phase.{Asked, Heard, terminal, says}
use Rattle.rulebook.specs.Session.{rules}
use Rattle.words.specs.declared.Word.{Word}
use Rattle.rulebook.specs.Situation.{Situation}
use Rattle.rulebook.specs.Later.{AskedLater, HeardLater, Added, as_was, command_later, turn_later, kind_later, allowed_later, after_later}
use Rattle.rulebook.specs.Later.{Earlier}

module _ {A H : Type 0} (added : Added A H) where
  pub was_command : (w : Asked) → command_later added (AskedLater.was w) ≡ rules.command_of w
  unfolding command_later
  was_command w = refl

  pub was_turn : (w : Asked) (a : List ℕ) → turn_later added (AskedLater.was w) a ≡ as_was (rules.turn w a)
  unfolding turn_later
  was_turn w a = refl

  pub was_kind : (h : Heard) → kind_later added (HeardLater.was h) ≡ rules.due_kind h
  unfolding kind_later
  was_kind h = refl

  -- a word other than START
  module _ (word : Word) (s : Situation) (p : List ℕ) where
    pub said_allows : allowed_later added (HeardLater.was (says word s)) p ≡ rules.allowed (says word s) p
    unfolding allowed_later
    said_allows = refl

    pub said_after : after_later added (HeardLater.was (says word s)) p ≡ as_was (rules.after (says word s) p)
    unfolding after_later
    said_after = refl

  -- a START of an earlier edition
  module _ (p : List ℕ) (earlier : Earlier added p) where
    pub start_allows : allowed_later added (HeardLater.was terminal) p ≡ rules.allowed terminal p
    unfolding allowed_later
    start_allows = pick_no _ _ _ earlier

    pub start_after : after_later added (HeardLater.was terminal) p ≡ as_was (rules.after terminal p)
    unfolding after_later
    start_after = pick_no _ _ _ earlier
