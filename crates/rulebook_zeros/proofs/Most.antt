-- The sum stays small: each of the three lists has at most 252 bytes, for it is a part of an answer, and each of its entries takes two or
-- more. So no more than 126 entries of a list are ever counted, and what is still to be counted falls with each list that is.
-- Assumes nothing.
use mathlib.Core.List.{List, [], ◌∷◌}
use mathlib.Core.Option.{Option, none, some, get_or}
use Prim.Native.Nat.{ℕ, ◌+◌, ◌*◌, ◌≤◌}
use native.Mathlib.Omega.{arith}
use lib.Dec.{eqb}
use lib.ListN.{length}
use Rattle.slices.proofs.Choice.{picked}
use Rattle.tape_read.specs.Entries.{Entry}
use Rattle.answer_common.specs.Answer.{value_most}
use Rattle.answer_common.specs.Content.{record_tag, names_for}
use Rattle.answer_common.specs.Named.{direct, told, value_of, listed}
use Rattle.answer_common.proofs.Members.{direct_size}
use Rattle.answer_record.specs.Records.{value_in, named_in, after_records}
use Rattle.answer_select.specs.Select.{pdol_of}
use Rattle.answer_laws.proofs.AcceptedAnswers.{list_size_lem}
use Rattle.facts.specs.Facts.{Facts, or_else}
use Rattle.start_fields.specs.Reading.{Terminal}
use Rattle.dol_fill.specs.Filled.{unsupplied}
use Rattle.dol_fill.proofs.Missing.{unsupplied_half}
use Rattle.rulebook.specs.Situation.{Situation, begun, known_in, list_in}
use Rattle.rulebook.specs.Phase.{Asked, selecting, optioning, reading, first, second, Heard}
use Rattle.words.specs.declared.Word.{Word}
use Rattle.words.specs.declared.Word.TheVariants.{Host, Results}
use Rattle.rulebook.specs.Phase.{terminal, says, Phase, asks, hears, decides}
use Rattle.rulebook.specs.Turn.{goes_on, opened, selected, managed, requested, verifying, all_read, read_on}
use Rattle.rulebook.specs.Turn.{with_profile, optioned, with_record, recorded, answered, replied, online, by_first}
use Rattle.rulebook.specs.Turn.{first_answered, second_answered, turn, reply_made, issuer_replied, verified_by, after}
use Rattle.dol_wanted.specs.Wanted.{fillable}
use Rattle.answer_gpo.specs.Options.{profile_of, locator_of}
use Rattle.answer_cryptogram.specs.Cryptogram.{cryptogram_of}
use Rattle.answer_afl.specs.Entries.{to_read}
use Rattle.decide_verification.specs.Verification.{results_due}
use Rattle.decide_requests.specs.Requests.{first_request, second_request}
use Rattle.decide_cryptogram.specs.declared.Cryptogram.{Cryptogram}
use Rattle.decide_cryptogram.specs.declared.Cryptogram.TheVariants.{Aac, Tc, Arqc}
use Rattle.decide_cryptogram.specs.Cryptograms.{Given}
use Rattle.std.specs.Prelude.{Some, None}
use Rattle.decide_requests.specs.declared.reply.HostReply.{HostReply}
use Rattle.decide_requests.specs.declared.reply.HostReply.TheVariants.{Unable}
use Rattle.decide_requests.specs.Replies.{code_in, reply_of, response_code}
use Rattle.rulebook.specs.Phase.{situation_of, ended, decided}
use Rattle.verdict_under.proofs.Bounding.{sum_most}
use Rattle.rulebook_zeros.specs.Zeros.{most_entries, unsupplied_asking, unsupplied_in}
use Rattle.rulebook_zeros.specs.Summing.{zeros_of}
use Rattle.rulebook.specs.Session.{rules}

-- what was told of any tag is no longer than an answer has room for
abbrev pub Short : Situation → Type 0
Short s = (tag : ℕ) → length (list_in s tag) ≤ value_most

-- the situation of a phase is so, where a list may still be filled from it
abbrev pub ShortIn : Phase → Type 0
ShortIn (asks w) = Short (situation_of w)
ShortIn (hears terminal) = Unit {0}
ShortIn (hears (says word s)) = Short s
ShortIn (decides outcome reason s) = Unit {0}

-- the most that the lists still to come can add
unfoldable pub left_asking : Asked → ℕ
left_asking (selecting s) = 3 * most_entries
left_asking (optioning s list) = 2 * most_entries
left_asking (reading s number file rest) = 2 * most_entries
left_asking (first s request) = most_entries
left_asking (second s request code) = 0

unfoldable pub left_before : Word → ℕ
left_before Host = most_entries
left_before Results = 2 * most_entries

unfoldable pub left_in : Phase → ℕ
left_in (asks w) = left_asking w
left_in (hears terminal) = 3 * most_entries
left_in (hears (says word s)) = left_before word
left_in (decides outcome reason s) = 0

-- a phase adds and leaves no more than n
abbrev pub Within : ℕ → Phase → Type 0
Within n p = ShortIn p × (unsupplied_in p + left_in p ≤ n)

few : (t : Terminal) (k : Facts) (list : List ℕ) → length list ≤ value_most → unsupplied t k list ≤ most_entries
few t k list h = let two = unsupplied_half t k list in omega arith

pub options_few : (s : Situation) (list : List ℕ) → length list ≤ value_most → unsupplied_in (asks (optioning s list)) ≤ most_entries
unfolding unsupplied_in unsupplied_asking
options_few s list h = few s.terminal (known_in s none) list h

first_few : (s : Situation) (request : Cryptogram) → Short s → unsupplied_in (asks (first s request)) ≤ most_entries
unfolding unsupplied_in unsupplied_asking
first_few s request short = few s.terminal (known_in s none) (list_in s 0x8C) (short 0x8C)

second_few : (s : Situation) (request : Cryptogram) (code : List ℕ) → Short s → unsupplied_in (asks (second s request code)) ≤ most_entries
unfolding unsupplied_in unsupplied_asking
second_few s request code short = few s.terminal (known_in s (some code)) (list_in s 0x8D) (short 0x8D)

-- ---- what was told stays short

module _ (s : Situation) (short : Short s) where
  else_short : (o other : Option (List ℕ)) → length (get_or o []) ≤ value_most → length (get_or other []) ≤ value_most
      → length (get_or (or_else o other) []) ≤ value_most
  unfolding or_else
  else_short none other h k = k
  else_short (some v) other h k = h

  named_short : (names : List ℕ) (tag : ℕ) (a : List ℕ) → length (get_or (named_in names tag a) []) ≤ value_most
  unfolding named_in value_in value_of
  named_short names tag a =
      picked (λ (o : Option (List ℕ)). length (get_or o []) ≤ value_most) (listed tag names) (told (direct record_tag a tag)) none
      (λ y. direct_size record_tag a tag) (λ n. omega arith)

  record_short : (a : List ℕ) → Short (with_record s a)
  unfolding with_record list_in
  record_short a tag = else_short (s.facts tag) (named_in (names_for s.terminal) tag a) (short tag) (named_short (names_for
      s.terminal) tag a)

  profile_short : (profile : List ℕ) → Short (with_profile s profile)
  unfolding with_profile list_in
  profile_short profile tag = short tag

  managed_short : Short (managed s)
  unfolding managed list_in
  managed_short tag = short tag

  verified_short : (results : List ℕ) → Short (verified_by s results)
  unfolding verified_by list_in
  verified_short results tag = short tag

  answered_short : Short (answered s)
  unfolding answered list_in
  answered_short tag = short tag

-- ---- each turn adds no more than it takes off what is left

ended_within : (n reason : ℕ) (s : Situation) → Within n (ended reason s)
unfolding ended unsupplied_in left_in
ended_within n reason s = (tt, omega arith)

goes_within : (n reason : ℕ) (s : Situation) (p : Phase) → Within n p → Within n (goes_on reason s p)
unfolding goes_on
goes_within n reason s p h = picked (Within n) (eqb reason 0) p (ended reason s) (λ y. h) (λ f. ended_within n reason s)

decided_within : (n outcome : ℕ) (s : Situation) → Within n (decided outcome s)
unfolding decided unsupplied_in left_in
decided_within n outcome s = (tt, omega arith)

module _ (s : Situation) (short : Short s) where
  requested_within : (reason : ℕ) → Within (2 * most_entries) (requested reason s)
  unfolding requested left_in left_asking situation_of
  requested_within reason =
      let request = first_request s.terminal s.facts s.tvr in
      let h = first_few s request short in
      goes_within (2 * most_entries) reason s (asks (first s request)) (short, omega arith)

  verifying_within : Within (2 * most_entries) (verifying s)
  unfolding verifying unsupplied_in left_in left_before
  verifying_within =
      picked (Within (2 * most_entries)) (results_due s.terminal s.profile s.facts) _ _ (λ y. (short, omega arith))
      (λ n. requested_within (after_records s.facts))

  replied_within : (reply : HostReply) (code : List ℕ) → Within most_entries (replied s reply code)
  unfolding replied ended left_in left_asking situation_of
  replied_within reply code =
      let request = second_request reply s.terminal s.facts s.tvr in
      let h = second_few s request (response_code reply request code) short in
      picked (Within most_entries) (fillable (list_in s 0x8D)) (asks (second s request (response_code reply request code))) (ended 9 s)
      (λ y. (short, omega arith)) (λ n. ended_within most_entries 9 s)

  online_within : Within most_entries (online s)
  unfolding online unsupplied_in left_in left_before
  online_within =
      picked (Within most_entries) (eqb s.terminal.kind 0) _ _ (λ y. replied_within Unable []) (λ n. (short, omega arith))

  by_first_within : (given : Given) → Within most_entries (by_first given s)
  unfolding by_first decided unsupplied_in left_in
  by_first_within (Some Tc) = (tt, omega arith)
  by_first_within (Some Aac) = (tt, omega arith)
  by_first_within (Some Arqc) = online_within
  by_first_within None = (tt, omega arith)

all_read_within : (s : Situation) → Short s → Within (2 * most_entries) (all_read s)
unfolding all_read ended unsupplied_in left_in
all_read_within s short =
    picked (Within (2 * most_entries)) (eqb (after_records s.facts) 8) _ _ (λ y. (tt, omega arith))
    (λ n. verifying_within (managed s) (managed_short s short))

read_within : (s : Situation) → Short s → (rest : List (ℕ × ℕ)) → Within (2 * most_entries) (read_on s rest)
unfolding read_on unsupplied_in unsupplied_asking left_in left_asking situation_of
read_within s short [] = all_read_within s short
read_within s short (r ∷ rest) = (short, omega arith)

pub turn_within : (w : Asked) (a : List ℕ) → Short (situation_of w) → Within (left_asking w) (turn w a)
unfolding turn left_asking selected optioned recorded first_answered second_answered situation_of left_in
turn_within (selecting s) a short =
    let size = list_size_lem a in
    let h = options_few s (pdol_of a) (omega arith) in
    goes_within _ _ s (asks (optioning s (pdol_of a))) (short, omega arith)
turn_within (optioning s list) a short =
    goes_within _ _ s _ (read_within (with_profile s (profile_of a)) (profile_short s short (profile_of a)) (to_read (locator_of a)))
turn_within (reading s number file rest) a short = goes_within _ _ s _ (read_within (with_record s a) (record_short s short a) rest)
turn_within (first s request) a short = goes_within _ _ s _ (by_first_within (answered s) (answered_short s short) (cryptogram_of a))
turn_within (second s request code) a short = goes_within _ _ s _ (decided_within 0 _ s)

pub after_within : (h : Heard) (p : List ℕ) → ShortIn (hears h) → Within (left_in (hears h)) (after h p)
unfolding after opened issuer_replied left_in left_asking left_before unsupplied_in unsupplied_asking situation_of begun list_in
after_within terminal p short = ((λ tag. omega arith), omega arith)
after_within (says Host s) p short = replied_within s short (reply_made (reply_of p)) (code_in p)
after_within (says Results s) p short = requested_within (verified_by s p) (verified_short s short p) (after_records s.facts)

-- the fourth number of any entries is at most three lists' entries
pub zeros_most : (es : List Entry) → zeros_of es ≤ 3 * most_entries
unfolding left_in
zeros_most es = sum_most rules unsupplied_in ShortIn left_in turn_within after_within tt es
