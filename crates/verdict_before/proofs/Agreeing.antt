-- Today's rules and those before cardholder verification agree wherever the terminal's data are those of a START of 74 bytes: no capabilities
-- are there, so nine names count, lists are filled alike, and no results become due. A START of at most 74 bytes leads there.
-- Assumes nothing.
use mathlib.Core.Path.{◌≡◌, refl, sym, ◌∙◌, subst}
use mathlib.Core.Bool.{true}
use mathlib.Core.List.{List, ◌∷◌}
use Prim.Native.Nat.{ℕ}
use native.Mathlib.Omega.{arith}
use lib.Dec.{eqb}
use lib.ListN.{length}
use borrow.Author.Tests.{eq-eqb}
use Rattle.slices.specs.Tests.{every}
use Rattle.slices.proofs.Choice.{pick_yes, pick_no, either}
use Rattle.start_fields.specs.Layout.{start_length}
use Rattle.start_valid.specs.Start.{valid_start}
use Rattle.start_valid.proofs.Laws.{valid_least}
use Rattle.numbers.specs.Tables.{start}
use Rattle.tape_read.specs.Entries.{entry}
use Rattle.words.specs.Words.{word_kind}
use Rattle.words.specs.declared.Word.{Word}
use Rattle.rulebook.specs.Situation.{Situation, begun}
use Rattle.rulebook.specs.Phase.{Heard, terminal, says, Phase, asks, hears, decides, situation_of}
use Rattle.rulebook.specs.Turn.{opened, managed, with_profile, with_record, answered, allowed, verified_by, after}
use Rattle.rulebook.specs.Session.{rules}
use Rattle.rulebook.proofs.Said.{other_kinds, sample}
use Rattle.rulebook.proofs.Kept.{sample_session}
use Rattle.rulebook.proofs.Passing.{left, Holds, Lasting, turn_holds, after_holds, Awaiting, turn_awaiting, after_awaiting}
use Rattle.rulebook_zeros.specs.Zeros.{unsupplied_in}
use Rattle.verdict_editions.specs.Editions.{First, OpenAlike, Some, itself, Agree}
use Rattle.verdict_editions.proofs.Agreeing.{itself_alike}
use Rattle.verdict_before.specs.Before.{valid_before}
use Rattle.verdict_before.specs.Filled.{unsupplied_in_before}
use Rattle.verdict_before.specs.Edition.{allowed_before, rules_before, Short}
use Rattle.verdict_before.proofs.Rules.{only_replies, turn_same}
use Rattle.verdict_before.proofs.Supplying.{Early, early_none}
use Rattle.verdict_before.proofs.Filling.{command_same, asking_same}

-- the terminal stays that of a START of 74 bytes
abbrev Old : Situation → Type 0
Old s = Early s.terminal

old_lasts : Lasting Old
unfolding with_profile with_record managed answered
old_lasts = record { profile = λ s v h. h; told = λ s a h. h; read = λ s h. h; first = λ s h. h }

-- and a word is due only where something makes it so
abbrev pub OldPhase : Phase → Type 0
OldPhase q = Holds Old q × Awaiting q

allows : (x : Heard) (p : List ℕ) → OldPhase (hears x) → allowed x p ≡ allowed_before x p
unfolding Holds Awaiting allowed_before word_kind
allows terminal p h = absurd h.0
allows (says word s) p h =
    subst (λ (w : Word). allowed (says w s) p ≡ allowed_before (says w s) p)
    (sym (only_replies word s (early_none s.terminal h.0) h.1)) refl

heeded : (x : Heard) (p : List ℕ) → OldPhase (hears x) → OldPhase (after x p)
unfolding Holds Awaiting verified_by
heeded terminal p h = absurd h.0
heeded (says word s) p h = (after_holds Old word s p (left Old word s p h.0 (λ e. h.0)), after_awaiting word s p h.1)

pub agree : Agree OldPhase rules rules_before
unfolding Holds
agree =
    record {
      commands = λ w h. command_same w h.0;
      turns = λ w a h. turn_same w a (early_none (situation_of w).terminal h.0);
      turned = λ w a h. (turn_holds Old old_lasts w a h.0, turn_awaiting w a);
      kinds = λ x h. refl;
      allows = allows;
      afters = λ x p h. refl;
      heeded = heeded;
      decisions = λ outcome reason s. refl;
    }

-- a phase makes as many zeros due as it did
pub due_same : (q : Phase) → OldPhase q → unsupplied_in q ≡ unsupplied_in_before q
unfolding Holds unsupplied_in unsupplied_in_before
due_same (asks w) h = asking_same w h.0
due_same (hears x) h = refl
due_same (decides outcome reason s) h = refl

-- ---- START

module _ (p : List ℕ) (few : Short p) where
  -- a valid one of at most 74 bytes has 74
  whole : valid_start p ≡ true → length p ≡ start_length
  whole valid = omega (arith, few, valid_least p valid)

  valid_same : valid_start p ≡ valid_before p
  unfolding valid_before every
  valid_same =
      either (valid_start p)
      (λ y. y ∙ sym (pick_yes _ _ _ (eq-eqb (length p) start_length (whole y)) ∙ pick_yes _ _ _ y))
      (λ n. n ∙ sym (either (eqb (length p) start_length) (λ y. pick_yes _ _ _ y ∙ pick_no _ _ _ n) (λ m. pick_no _ _ _ m)))

  begins_old : valid_start p ≡ true → OldPhase (after terminal p)
  unfolding Holds Awaiting after opened begun situation_of
  begins_old valid = ((p, (whole valid, refl)), tt)

pub opens_alike : OpenAlike (itself OldPhase) rules rules_before Short
unfolding allowed allowed_before
opens_alike =
    record {
      now = terminal;
      then = terminal;
      new_opens = refl;
      old_opens = refl;
      kind = refl;
      other = other_kinds terminal;
      allows = valid_same;
      afters = λ p few fits. itself_alike OldPhase (after terminal p) (begins_old p few fits);
    }

-- there is a session with a START of 74 bytes
pub some_short : Some rules Short
unfolding First
some_short = (entry start sample ∷ sample_session.0, (omega arith, sample_session.1))
