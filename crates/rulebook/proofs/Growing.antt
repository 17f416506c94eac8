-- Along any session no bit of the TVR or of the TSI is cleared: whatever is answered, each is kept as it is or joined with more.
-- Assumes nothing.
use mathlib.Core.Path.{◌≡◌}
use mathlib.Core.List.{List}
use Prim.Native.Nat.{ℕ}
use Rattle.slices.specs.Writing.{zeros}
use Rattle.start_fields.specs.Reading.{Terminal}
use Rattle.tape_read.specs.Entries.{Entry}
use Rattle.decide_tvr.specs.Bits.{joined}
use Rattle.decide_verification.proofs.Laws.{results_kept, performed_kept}
use Rattle.decide_tvr.proofs.Rows.{joined_self, kept_on}
use Rattle.decide_tvr.proofs.Laws.{tvr_kept, tsi_kept, tsi_kept_on}
use Rattle.sessions.proofs.Rows.{reading_in_row}
use Rattle.rulebook.specs.Situation.{Situation, begun}
use Rattle.words.specs.declared.Word.{Word}
use Rattle.rulebook.specs.Phase.{Asked, Heard, terminal, says, Phase, asks, hears, situation_of, tvr_of, tsi_of}
use Rattle.rulebook.specs.Turn.{opened, managed, with_profile, with_record, answered, turn, verified_by, after}
use Rattle.rulebook.specs.Stated.{Grows, Growing}
use Rattle.rulebook.specs.Session.{rules, Reads}
use Rattle.rulebook.proofs.Passing.{left, Holds, Lasting, holds_seen, turn_holds, after_holds}

-- every bit that is set in a situation is set in a phase
pub record Reaches (s : Situation) (q : Phase) : Type 0 where
  pub tvr : joined s.tvr (tvr_of q) ≡ tvr_of q
  pub tsi : joined s.tsi (tsi_of q) ≡ tsi_of q

-- a situation that keeps what another has
abbrev Kept : Situation → Situation → Type 0
Kept s t = (joined s.tvr t.tvr ≡ t.tvr) × (joined s.tsi t.tsi ≡ t.tsi)

self : (s : Situation) → Kept s s
self s = (joined_self s.tvr, joined_self s.tsi)

through : (s t u : Situation) → Kept s t → Kept t u → Kept s u
through s t u h k = (kept_on s.tvr t.tvr u.tvr h.0 k.0, kept_on s.tsi t.tsi u.tsi h.1 k.1)

kept_lasts : (s : Situation) → Lasting (Kept s)
unfolding with_profile with_record managed answered
kept_lasts s =
    record {
      profile = λ t v h. h;
      told = λ t a h. h;
      read = λ t h. through s t (managed t) h (tvr_kept t.terminal t.profile t.facts t.tvr, tsi_kept t.tsi t.profile);
      first = λ t h. through s t (answered t) h (joined_self t.tvr, tsi_kept_on t.tsi);
    }

reaches : (s : Situation) (q : Phase) → Holds (Kept s) q → Reaches s q
reaches s q h =
    let seen = holds_seen (λ (tvr tsi : List ℕ). (joined s.tvr tvr ≡ tvr) × (joined s.tsi tsi ≡ tsi)) q h in
    record { tvr = seen.0; tsi = seen.1 }

-- whatever the card answers
pub turn_kept : (w : Asked) (a : List ℕ) → Reaches (situation_of w) (turn w a)
turn_kept w a =
    let s = situation_of w in
    reaches s (turn w a) (turn_holds (Kept s) (kept_lasts s) w a (self s))

-- no step clears a bit: an answer, and what somebody else says
pub turn_grows : (w : Asked) (a : List ℕ) → Grows (asks w) (turn w a)
unfolding tvr_of tsi_of
turn_grows w a = record { tvr = (turn_kept w a).tvr; tsi = (turn_kept w a).tsi }

pub opened_grows : (t : Terminal) → Grows (hears terminal) (opened t)
unfolding tvr_of tsi_of opened begun situation_of
opened_grows t = record { tvr = joined_self (zeros 5); tsi = joined_self (zeros 2) }

pub word_grows : (word : Word) (s : Situation) (p : List ℕ) → Grows (hears (says word s)) (after (says word s) p)
unfolding tvr_of tsi_of verified_by
word_grows word s p =
    let more : Kept s (verified_by s p) = (results_kept s.terminal s.facts p s.tvr, performed_kept s.tsi) in
    let reached = reaches s _ (after_holds (Kept s) word s p (left (Kept s) word s p (self s) (λ e. more))) in
    record { tvr = reached.tvr; tsi = reached.tsi }

pub after_grows : (h : Heard) (p : List ℕ) → Grows (hears h) (after h p)
unfolding after
after_grows terminal p = opened_grows _
after_grows (says word s) p = word_grows word s p

stays : (p : Phase) → Grows p p
stays p = record { tvr = joined_self (tvr_of p); tsi = joined_self (tsi_of p) }

-- along any session and any beginning no bit of the TVR or the TSI is cleared
pub reading_grows : (es : List Entry) (ps : List Phase) → Reads es ps → Growing ps
reading_grows = reading_in_row rules Grows stays turn_grows after_grows
