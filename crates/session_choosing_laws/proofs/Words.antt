-- What is known of each word that somebody other than the card has under the amended rules: the kind and the test are the session's own, but for
-- START, whose test goes by its length; and what passes it fits a tape.
-- Assumes nothing.
use mathlib.Core.Path.{◌≡◌, refl, sym, ◌∙◌}
use mathlib.Core.Bool.{true}
use mathlib.Core.List.{List, ◌∷◌, ◌++◌}
use Prim.Native.Nat.{ℕ, ◌≤◌}
use native.Mathlib.Omega.{arith}
use lib.ListN.{length}
use borrow.Author.Tests.{eqb-true}
use Rattle.slices.specs.Choice.{pick}
use Rattle.slices.proofs.Choice.{pick_no, either}
use Rattle.tape_read.specs.Entries.{payload_most}
use Rattle.words.proofs.Choices.{choice_length}
use Rattle.start_valid.specs.Start.{valid_start}
use Rattle.start_choosing.specs.Start.{listing_length, is_listing, valid_listing}
use Rattle.select_list.specs.Order.{Candidate, shown_of}
use Rattle.sessions.specs.Rules.{decides}
use Rattle.rulebook.specs.Situation.{Situation}
use Rattle.rulebook.specs.Phase.{terminal, says}
use Rattle.rulebook.specs.Turn.{allowed}
use Rattle.rulebook.specs.Later.{HeardLater, kind_later, allowed_later}
use Rattle.rulebook_choosing.specs.Choosing.{Choosing, may_choose}
use Rattle.rulebook_choosing.specs.Session.{rules}
use Rattle.session_phase.specs.Waiting.{kind_of}
use Rattle.session_phase.specs.Saying.{allowed_by}
use Rattle.session_state.specs.declared.State.{State}
use Rattle.session_laws.proofs.Words as today
use Rattle.session_laws.proofs.Standing as standing
use Rattle.session_choosing_laws.specs.Agreeing.{speaker_later, StandsAt}
use Rattle.session_choosing_laws.proofs.Carrying.{decides_before}

pub kind_due : (h : HeardLater Choosing) → kind_of (speaker_later h) ≡ rules.due_kind h
unfolding kind_of speaker_later kind_later
kind_due (HeardLater.was h) = today.kind_due h
kind_due (HeardLater.new x) = refl

-- START: valid by the rules of its own length
pub start_allowed : (p : List ℕ) → rules.allowed (HeardLater.was terminal) p ≡ pick (is_listing p) (valid_listing p) (valid_start p)
unfolding allowed_later allowed
start_allowed p = refl

-- any other word
abbrev pub NoStart : HeardLater Choosing → Type 0
NoStart (HeardLater.was terminal) = ⊥
NoStart (HeardLater.was (says word z)) = Unit {0}
NoStart (HeardLater.new x) = Unit {0}

pub allowed_by_lem : (h : HeardLater Choosing) → NoStart h → (p : List ℕ) → allowed_by (speaker_later h) p ≡ rules.allowed h p
unfolding speaker_later allowed_later allowed_by may_choose
allowed_by_lem (HeardLater.was terminal) n p = absurd n
allowed_by_lem (HeardLater.was (says word z)) n p = today.allowed_by_lem (says word z) p
allowed_by_lem (HeardLater.new x) n p = refl

pub allowed_short : (h : HeardLater Choosing) (p : List ℕ) → rules.allowed h p ≡ true → length p ≤ payload_most
unfolding allowed_later is_listing may_choose
allowed_short (HeardLater.was terminal) p fits =
    either (is_listing p)
    (λ y. let size = eqb-true (length p) listing_length y in omega arith)
    (λ n. today.allowed_short terminal p (sym (pick_no _ _ _ n) ∙ fits))
allowed_short (HeardLater.was (says word z)) p fits = today.allowed_short (says word z) p fits
allowed_short (HeardLater.new x) p fits = let size = choice_length (shown_of x.search.list) p fits in omega arith

-- the decision is written from the state
pub stands_decision : (s : State) (l : List Candidate) (outcome reason : ℕ) (z : Situation) → StandsAt s l (decides outcome reason z)
    → rules.decision_of outcome reason z ≡ outcome ∷ reason ∷ (s.tvr ++ s.tsi)
stands_decision s l outcome reason z h = standing.stands_decision s outcome reason z (decides_before s l outcome reason z h)
