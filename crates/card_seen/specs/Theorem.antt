-- What a card can influence (02, R-13), in one record. Everything that it is said with stands in specs/ of this crate and of the
-- rulebook; that it holds is `theorem` of proofs/Theorem. The third and the fourth part, the kernel's calls and verdicts, are in Theorem
-- of `card_influence`; that what is seen does count, in Theorem of `card_worked`.
-- Assumes nothing.
use Rattle.std.specs.Prelude.{◌≡◌, List, ℕ}
use Rattle.std.proofs.Math.Option.{some}
use Rattle.tape_read.specs.Entries.{Entry}
use Rattle.sessions.specs.Session.{phases_of}
use Rattle.sessions.specs.Machine.{run}
use Rattle.rulebook.specs.Phase.{Asked, Phase, opens}
use Rattle.rulebook.specs.Turn.{turn}
use Rattle.rulebook.specs.Session.{rules, Plays}
use Rattle.rulebook.specs.Machine.{Machine, at}
use Rattle.rulebook_zeros.specs.Zeros.{added_by}
use Rattle.card_seen.specs.Seen.{Place, options, generation, apart_options, apart_cryptogram, Seen, seen}
use Rattle.card_seen.specs.Given.{place_of, Given, given_to, but_answers, Same}
use Rattle.card_seen.specs.SideBySide.{reason_in, SideBySide, Alongside}
use Rattle.card_seen.specs.Used.{used_of}
use Rattle.card_seen.specs.Order.{Rearranged, EmptyIssuerData}
use Rattle.card_seen.specs.Dressing.{Dressed, JoinedAgain, OtherForm}

pub record Influence : Type 0 where
  -- 1. Every answer, good or bad: one function of what is seen of it, and of nothing else of it, says how the session goes on. So where
  -- the same is seen the session goes on alike, and ends with the same reason if it ends
  pub through : (f : Asked → Seen → Phase) × ((w : Asked) (a : List ℕ) → turn w a ≡ f w (seen (place_of w) a))
  pub same_turn : (w : Asked) (a b : List ℕ) → seen (place_of w) a ≡ seen (place_of w) b → turn w a ≡ turn w b
  -- 2. Whole sessions: functions of what a session is given, and of nothing else, say the phases that it passes, its entries but for the
  -- bytes of the card's answers, and what each entry adds to the fourth number. So two sessions that are given the same are the same
  -- but for these bytes
  pub phases : (f : List Given → List Phase) × ((es : List Entry) (play : Plays opens es) → phases_of rules play ≡ f (given_to play))
  pub entries : (f : List Given → List Entry) × ((es : List Entry) (play : Plays opens es) → but_answers es ≡ f (given_to play))
  pub zeros : (f : List Given → List ℕ) × ((es : List Entry) (play : Plays opens es) → added_by play ≡ f (given_to play))
  pub same_session : (es fs : List Entry) (one : Plays opens es) (other : Plays opens fs) → given_to one ≡ given_to other → Same one other
  -- 02's sentence: so are two sessions with the same words whose answers are alike and end no session
  pub as_written : (es fs : List Entry) (one : Plays opens es) (other : Plays opens fs) → SideBySide one other → Same one other
  -- and so are beginnings that are given the same, wherever they stop: they lead to the same state of the rulebook's machine
  pub same_beginning : (es fs : List Entry) → Alongside (at opens) es fs → (τ ρ : Machine) → run rules es (at opens) ≡ some τ
      → run rules fs (at opens) ≡ some ρ → (τ ≡ ρ) × (but_answers es ≡ but_answers fs)
  -- 5. Of two good answers only what the session goes on with matters
  pub good : (w : Asked) (a b : List ℕ) → used_of w a ≡ used_of w b → reason_in (turn w a) ≡ 0 → reason_in (turn w b) ≡ 0
      → turn w a ≡ turn w b
  -- 6. Nor does the order of the named objects matter
  pub any_order : (w : Asked) (a b : List ℕ) → Rearranged (place_of w) a b → turn w a ≡ turn w b
  -- nor, at GENERATE AC, whether an empty 9F10 stands there or none
  pub empty_issuer_data : (w : Asked) (a b : List ℕ) → place_of w ≡ generation → EmptyIssuerData a b → turn w a ≡ turn w b
  -- The freedoms, wherever they are taken: '00' bytes, objects that are not named and length forms, between members and around the one
  -- object; joined values written another way; and the other form, 77 for 80
  pub dressed : (p : Place) (a b : List ℕ) → Dressed p a b → seen p a ≡ seen p b
  pub joined_again : (p : Place) (a b : List ℕ) → JoinedAgain a b → seen p a ≡ seen p b
  pub options_forms : (a b : List ℕ) → OtherForm options apart_options a b → seen options a ≡ seen options b
  pub cryptogram_forms : (a b : List ℕ) → OtherForm generation apart_cryptogram a b → seen generation a ≡ seen generation b
