-- How much can still come (01, "The tape"): START, two entries for SELECT, two for GPO, two for each record, one for the results of
-- cardholder verification, two for each GENERATE AC, HOST and DECISION. From each phase on there is a most that can come; every exchange
-- takes its two entries off it, and all that is heard its one; the records are at most as many as reason 7 lets pass.
-- Assumes nothing.
use mathlib.Core.Path.{◌≡◌}
use mathlib.Core.List.{List, [], ◌∷◌}
use Prim.Native.Nat.{ℕ, ◌+◌, ◌*◌, ◌≤◌}
use native.Mathlib.Omega.{arith}
use lib.Dec.{eqb}
use lib.ListN.{length}
use borrow.Author.Tests.{eqb-true}
use Rattle.slices.proofs.Choice.{picked}
use Rattle.dol_wanted.specs.Wanted.{fillable}
use Rattle.answer_afl.specs.Entries.{most_records, to_read}
use Rattle.answer_afl.proofs.Counting.{read_length}
use Rattle.answer_gpo.specs.Options.{profile_of, locator_of}
use Rattle.answer_record.specs.Records.{after_records}
use Rattle.decide_cryptogram.specs.declared.Cryptogram.TheVariants.{Aac, Tc, Arqc}
use Rattle.decide_cryptogram.specs.Cryptograms.{Given}
use Rattle.std.specs.Prelude.{Some, None}
use Rattle.answer_cryptogram.specs.Cryptogram.{cryptogram_of}
use Rattle.answer_laws.proofs.AcceptedAnswers.{options_entries}
use Rattle.decide_verification.specs.Verification.{results_due}
use Rattle.decide_requests.specs.Replies.{code_in, reply_of}
use Rattle.decide_requests.specs.declared.reply.HostReply.{HostReply}
use Rattle.decide_requests.specs.declared.reply.HostReply.TheVariants.{Unable}
use Rattle.words.specs.declared.Word.{Word}
use Rattle.words.specs.declared.Word.TheVariants.{Host, Results}
use Rattle.rulebook.specs.Situation.{Situation, list_in}
use Rattle.rulebook.specs.Phase.{Asked, selecting, optioning, reading, first, second, Heard, terminal}
use Rattle.rulebook.specs.Phase.{says, Phase, asks, hears, decides, decided as settled, ended}
use Rattle.rulebook.specs.Turn.{goes_on, opened, selected, managed, requested, verifying, all_read, read_on, with_profile}
use Rattle.rulebook.specs.Turn.{optioned, with_record, recorded, answered, replied, online, by_first, first_answered}
use Rattle.rulebook.specs.Turn.{second_answered, reply_made, turn, issuer_replied, verified_by, after}
use Rattle.rulebook.specs.Session.{longest}

-- the most that can still come: from the first request on; after the last record
abbrev from_first : ℕ
from_first = 6

abbrev after_last : ℕ
after_last = 1 + from_first

-- from a question on, from a word on, and from a phase on
unfoldable pub after_asking : Asked → ℕ
after_asking (selecting s) = 4 + 2 * most_records + after_last
after_asking (optioning s list) = 2 + 2 * most_records + after_last
after_asking (reading s number file rest) = 2 + 2 * length rest + after_last
after_asking (first s request) = from_first
after_asking (second s request code) = 3

unfoldable pub from_word : Word → Situation → ℕ
from_word Host s = 4
from_word Results s = after_last

unfoldable pub to_come : Phase → ℕ
to_come (asks w) = after_asking w
to_come (hears terminal) = longest
to_come (hears (says word s)) = from_word word s
to_come (decides outcome reason s) = 1

module _ (s : Situation) where
  -- a bad answer leaves the decision alone
  goes_few : (n reason : ℕ) (next : Phase) → 1 ≤ n → (reason ≡ 0 → to_come next ≤ n) → to_come (goes_on reason s next) ≤ n
  unfolding goes_on ended to_come
  goes_few n reason next one h = picked (λ (p : Phase). to_come p ≤ n) (eqb reason 0) _ _ (λ e. h (eqb-true reason 0 e)) (λ e. one)

  -- the same after an exchange
  goes_fewer : (n reason : ℕ) (next : Phase) → 3 ≤ n → (reason ≡ 0 → 2 + to_come next ≤ n) → 2 + to_come (goes_on reason s next) ≤ n
  unfolding goes_on ended to_come
  goes_fewer n reason next three h = picked (λ (p : Phase). 2 + to_come p ≤ n) (eqb reason 0) _ _ (λ e. h (eqb-true reason 0 e))
      (λ e. three)

  requested_few : (reason : ℕ) → to_come (requested reason s) ≤ from_first
  unfolding requested to_come after_asking
  requested_few reason = goes_few from_first reason _ (omega arith) (λ e. omega arith)

  verifying_few : to_come (verifying s) ≤ after_last
  unfolding verifying to_come from_word
  verifying_few =
      picked (λ (p : Phase). to_come p ≤ after_last) (results_due s.terminal s.profile s.facts) _ _ (λ e. omega arith)
      (λ e. omega (arith, requested_few (after_records s.facts)))

  replied_few : (reply : HostReply) (code : List ℕ) → to_come (replied s reply code) ≤ 3
  unfolding replied ended to_come after_asking
  replied_few reply code = picked (λ (p : Phase). to_come p ≤ 3) (fillable (list_in s 0x8D)) _ _ (λ e. omega arith) (λ e. omega arith)

  online_few : to_come (online s) ≤ 4
  unfolding online to_come from_word
  online_few =
      picked (λ (p : Phase). to_come p ≤ 4) _ _ _ (λ e. let h = replied_few Unable [] in omega arith) (λ e. omega arith)

  by_first_few : (given : Given) → to_come (by_first given s) ≤ 4
  unfolding by_first settled to_come
  by_first_few (Some Tc) = omega arith
  by_first_few (Some Aac) = omega arith
  by_first_few (Some Arqc) = online_few
  by_first_few None = omega arith

all_read_few : (s : Situation) → to_come (all_read s) ≤ after_last
unfolding all_read ended to_come
all_read_few s =
    picked (λ (p : Phase). to_come p ≤ after_last) (eqb (after_records s.facts) 8) _ _ (λ e. omega arith)
    (λ e. verifying_few (managed s))

-- two for each record that is left, and what comes after the last
read_few : (s : Situation) (rest : List (ℕ × ℕ)) → to_come (read_on s rest) ≤ 2 * length rest + after_last
unfolding read_on to_come after_asking
read_few s [] = all_read_few s
read_few s (r ∷ rest) = omega arith

-- an exchange takes its two entries off what can come
pub turn_fewer : (w : Asked) (a : List ℕ) → 2 + to_come (turn w a) ≤ to_come (asks w)
unfolding turn to_come after_asking selected optioned recorded first_answered second_answered settled
turn_fewer (selecting s) a = goes_fewer s _ _ _ (omega arith) (λ e. omega arith)
turn_fewer (optioning s list) a =
    goes_fewer s _ _ _ (omega arith) (λ e.
    let few = read_few (with_profile s (profile_of a)) (to_read (locator_of a)) in
    let counted = read_length (locator_of a) in
    let limit = (options_entries a e).1 in
    omega arith)
turn_fewer (reading s number file rest) a = goes_fewer s _ _ _ (omega arith) (λ e. let few = read_few (with_record s a) rest in omega arith)
turn_fewer (first s request) a = goes_fewer s _ _ _ (omega arith)
    (λ e. let few = by_first_few (answered s) (cryptogram_of a) in omega arith)
turn_fewer (second s request code) a = goes_fewer s _ _ _ (omega arith) (λ e. omega arith)

-- and what is heard its one
pub after_fewer : (h : Heard) (p : List ℕ) → 1 + to_come (after h p) ≤ to_come (hears h)
unfolding after issuer_replied to_come after_asking from_word opened
after_fewer terminal p = omega arith
after_fewer (says Host s) p = omega (arith, replied_few s (reply_made (reply_of p)) (code_in p))
after_fewer (says Results s) p = omega (arith, requested_few (verified_by s p) (after_records s.facts))

-- the decision is one
pub decision_left : (outcome reason : ℕ) (s : Situation) → 1 ≤ to_come (decides outcome reason s)
unfolding to_come
decision_left outcome reason s = omega arith
