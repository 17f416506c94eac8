-- What a session knows is bytes, at every phase: START's fields are parts of START, the card's data are parts of its answers, and TVR
-- and TSI are rows of bits joined to zeros.
-- Assumes nothing.
use mathlib.Core.Path.{◌≡◌, refl, ap, ◌∙◌}
use mathlib.Core.Bool.{Bool, true}
use mathlib.Core.List.{List, [], ◌∷◌}
use Prim.Native.Nat.{ℕ, ◌≤◌, ◌<◌}
use native.Mathlib.Omega.{arith}
use lib.Dec.{eqb}
use lib.ListN.{length, drop, get_or}
use lib.Pow.{are_bytes}
use Rattle.slices.specs.Writing.{zeros}
use Rattle.slices.proofs.Choice.{picked}
use Rattle.facts.specs.Facts.{Facts}
use Rattle.tape_crc.proofs.Bytes.{bytes_head, bytes_rest, bytes_cons, bytes_take, bytes_drop, bytes_each, bytes_at}
use Rattle.slices.specs.Tests.{is_some}
use Rattle.start_fields.specs.declared.fields.Field.{Field}
use Rattle.start_fields.specs.Layout.{begin_of, size_of, aid_room, aid_at}
use Rattle.start_fields.proofs.Reading.{bytes_read}
use Rattle.start_fields.specs.Reading.{Terminal, reading_of, bytes_of, run_in, aid_length_in, aid_room_in}
use Rattle.tape_read.proofs.Extra.{zeros_bytes}
use Rattle.dol_wanted.specs.Wanted.{fillable}
use Rattle.commands.proofs.Shapes.{aid_most}
use Rattle.answer_afl.specs.Entries.{to_read}
use Rattle.answer_select.specs.Select.{select_reason, pdol_of}
use Rattle.answer_gpo.specs.Options.{options_reason, profile_of, locator_of}
use Rattle.answer_common.specs.Content.{names_for}
use Rattle.answer_record.specs.Records.{record_reason, named_in, after_records}
use Rattle.answer_cryptogram.specs.Cryptogram.{cryptogram_reason, cryptogram_of}
use Rattle.answer_laws.proofs.Reasons.{select_small, options_small, record_small, cryptogram_small, after_small}
use Rattle.decide_requests.specs.Requests.{second_request}
use Rattle.decide_requests.specs.Replies.{code_in, response_code}
use Rattle.decide_cryptogram.specs.Cryptograms.{allowed_by}
use Rattle.decide_cryptogram.specs.declared.Cryptogram.{Cryptogram}
use Rattle.decide_cryptogram.specs.declared.Cryptogram.TheVariants.{Aac, Tc, Arqc}
use Rattle.decide_cryptogram.specs.Cryptograms.{Given}
use Rattle.std.specs.Prelude.{Some, None}
use Rattle.decide_cryptogram.specs.declared.Request.TheVariants.{First, Second}
use Rattle.decide_requests.specs.declared.reply.HostReply.{HostReply}
use Rattle.decide_requests.specs.declared.reply.HostReply.TheVariants.{Approve, Decline, Unable}
use Rattle.decide_tvr.proofs.Laws.{tvr_length, tvr_bytes, tsi_length, tsi_length_on, tsi_bytes, tsi_bytes_on}
use Rattle.decide_verification.specs.Verification.{results_due}
use Rattle.decide_verification.proofs.Laws.{results_length, results_bytes, performed_length, performed_bytes}
use Rattle.rulebook.specs.Situation.{Situation, begun, list_in}
use Rattle.rulebook.specs.Phase.{Asked, selecting, optioning, reading, first, second, Heard, terminal}
use Rattle.words.specs.declared.Word.TheVariants.{Host, Results}
use Rattle.numbers.specs.Tables.{terminated}
use Rattle.rulebook.specs.Phase.{says, Phase, asks, hears, decides, decided, ended}
use Rattle.rulebook.specs.Turn.{goes_on, opened, selected, managed, requested, verifying, all_read, read_on, with_profile}
use Rattle.rulebook.specs.Turn.{optioned, with_record, recorded, answered, replied, online, by_first, by_second}
use Rattle.rulebook.specs.Turn.{first_answered, second_answered, turn, issuer_replied, verified_by, after}
use Rattle.verdict_storable.proofs.Values.{profile_bytes, locator_bytes, named_bytes}
use Rattle.verdict_storable.proofs.Filling.{Told, else_bytes}
use Rattle.verdict_storable.proofs.Numbers.{numbers_of, read_numbers}

-- the terminal's data
pub record OfBytes (t : Terminal) : Type 0 where
  pub own : (f : Field) → are_bytes (bytes_of f t) ≡ true
  pub aid : are_bytes t.aid ≡ true
  pub few : length t.aid ≤ 16

-- a row of so many bytes
pub record Row (n : ℕ) (s : List ℕ) : Type 0 where
  pub bytes : are_bytes s ≡ true
  pub size : length s ≡ n

-- a situation
pub record Knows (s : Situation) : Type 0 where
  pub terminal : OfBytes s.terminal
  pub profile : are_bytes s.profile ≡ true
  pub facts : (tag : ℕ) → Told (s.facts tag)
  pub tvr : Row 5 s.tvr
  pub tsi : Row 2 s.tsi

-- what was asked
abbrev pub Asking : Asked → Type 0
Asking (selecting s) = Knows s
Asking (optioning s list) = Knows s
Asking (reading s number file rest) = Knows s × ((number < 256) × (are_bytes (numbers_of rest) ≡ true))
Asking (first s request) = Knows s
Asking (second s request code) = Knows s × (are_bytes code ≡ true)

-- and a phase
abbrev pub Stays : Phase → Type 0
Stays (asks w) = Asking w
Stays (hears terminal) = Unit {0}
Stays (hears (says word s)) = Knows s
Stays (decides outcome reason s) = Knows s × ((outcome < 256) × (reason < 256))

-- ---- after START

run_bytes : (f : Field) (b : List ℕ) → are_bytes b ≡ true → are_bytes (run_in f b) ≡ true
run_bytes f b h = bytes_take (size_of f) (drop (begin_of f) b) (bytes_drop (begin_of f) b h)

field_bytes : (b : List ℕ) → are_bytes b ≡ true → (f : Field) → are_bytes (bytes_of f (reading_of b)) ≡ true
field_bytes b h f = ap are_bytes (bytes_read f b) ∙ run_bytes f b h

terminal_bytes : (b : List ℕ) → are_bytes b ≡ true → OfBytes (reading_of b)
unfolding reading_of
terminal_bytes b h = record {
  own = field_bytes b h;
  aid = bytes_take (aid_length_in b) (aid_room_in b) (bytes_take aid_room (drop aid_at b) (bytes_drop aid_at b h));
  few = aid_most b;
}

opened_stays : (b : List ℕ) → are_bytes b ≡ true → Stays (opened (reading_of b))
unfolding opened begun zeros
opened_stays b h = record {
  terminal = terminal_bytes b h;
  profile = refl;
  facts = λ tag. refl;
  tvr = record { bytes = zeros_bytes 5; size = refl };
  tsi = record { bytes = zeros_bytes 2; size = refl };
}

-- ---- from one situation to the next

row : (n : ℕ) (s : List ℕ) → ((i : ℕ) → get_or s i 0 < 256) → length s ≡ n → Row n s
row n s h e = record { bytes = bytes_each s (λ i l. h i); size = e }

module _ (s : Situation) (k : Knows s) where
  goes_stays : (reason : ℕ) (next : Phase) → reason < 256 → Stays next → Stays (goes_on reason s next)
  unfolding goes_on ended
  goes_stays reason next small h = picked Stays (eqb reason 0) next (decides terminated reason s) (λ y. h) (λ n. (k, (omega arith, small)))

  managed_knows : Knows (managed s)
  unfolding managed
  managed_knows = record {
    terminal = k.terminal;
    profile = k.profile;
    facts = k.facts;
    tvr =
        row 5 _ (tvr_bytes s.terminal s.profile s.facts s.tvr (bytes_at s.tvr k.tvr.bytes))
        (tvr_length s.terminal s.profile s.facts s.tvr k.tvr.size);
    tsi = row 2 _ (tsi_bytes s.tsi s.profile (bytes_at s.tsi k.tsi.bytes)) (tsi_length s.tsi s.profile k.tsi.size);
  }

  answered_knows : Knows (answered s)
  unfolding answered
  answered_knows = record {
    terminal = k.terminal;
    profile = k.profile;
    facts = k.facts;
    tvr = k.tvr;
    tsi = row 2 _ (tsi_bytes_on s.tsi (bytes_at s.tsi k.tsi.bytes)) (tsi_length_on s.tsi k.tsi.size);
  }

  verified_knows : (p : List ℕ) → Knows (verified_by s p)
  unfolding verified_by
  verified_knows p = record {
    terminal = k.terminal;
    profile = k.profile;
    facts = k.facts;
    tvr =
        row 5 _ (results_bytes s.terminal s.facts p s.tvr (bytes_at s.tvr k.tvr.bytes))
        (results_length s.terminal s.facts p s.tvr k.tvr.size);
    tsi = row 2 _ (performed_bytes s.tsi (bytes_at s.tsi k.tsi.bytes)) (performed_length s.tsi k.tsi.size);
  }

  profile_knows : (a : List ℕ) → are_bytes a ≡ true → Knows (with_profile s (profile_of a))
  unfolding with_profile
  profile_knows a h = record { terminal = k.terminal; profile = profile_bytes a h; facts = k.facts; tvr = k.tvr; tsi = k.tsi }

  record_knows : (a : List ℕ) → are_bytes a ≡ true → Knows (with_record s a)
  unfolding with_record
  record_knows a h = record {
    terminal = k.terminal;
    profile = k.profile;
    facts = λ tag. let names = names_for s.terminal in
        else_bytes (s.facts tag) (named_in names tag a) (k.facts tag) (named_bytes a h names tag);
    tvr = k.tvr;
    tsi = k.tsi;
  }

  -- ---- the issuer

  code_bytes : (reply : HostReply) (request : Cryptogram) (code : List ℕ) → are_bytes code ≡ true
      → are_bytes (response_code reply request code) ≡ true
  unfolding response_code
  code_bytes Approve request code h = h
  code_bytes Decline request code h = h
  code_bytes Unable Tc code h = refl
  code_bytes Unable Aac code h = refl
  code_bytes Unable Arqc code h = refl

  replied_stays : (reply : HostReply) (code : List ℕ) → are_bytes code ≡ true → Stays (replied s reply code)
  unfolding replied ended
  replied_stays reply code h =
      let request = second_request reply s.terminal s.facts s.tvr in
      picked Stays (fillable (list_in s 0x8D)) (asks (second s request (response_code reply request code))) (decides terminated 9 s)
      (λ y. (k, code_bytes reply request code h))
      (λ n. (k, (omega arith, omega arith)))

  heard_stays : (reply : HostReply) (p : List ℕ) → are_bytes p ≡ true → Stays (replied s reply (code_in p))
  unfolding code_in
  heard_stays reply p h =
      replied_stays reply (code_in p) (bytes_cons (get_or p 1 0) (get_or p 2 0 ∷ []) (bytes_at p h 1)
      (bytes_cons (get_or p 2 0) [] (bytes_at p h 2) refl))

  first_stays : (given : Given) → Stays (by_first given s)
  unfolding by_first decided online
  first_stays (Some Tc) = (k, (omega arith, omega arith))
  first_stays (Some Aac) = (k, (omega arith, omega arith))
  first_stays (Some Arqc) =
      picked Stays (eqb s.terminal.kind 0) (replied s Unable []) (hears (says Host s)) (λ y. replied_stays Unable [] refl) (λ l. k)
  first_stays None = (k, (omega arith, omega arith))

-- ---- the records, and verification

requested_stays : (facts : Facts) (s : Situation) → Knows s → Stays (requested (after_records facts) s)
unfolding requested
requested_stays facts s k = goes_stays s k (after_records facts) _ (after_small facts) k

verifying_stays : (s : Situation) → Knows s → Stays (verifying s)
unfolding verifying
verifying_stays s k =
    picked Stays (results_due s.terminal s.profile s.facts) (hears (says Results s)) _ (λ y. k)
    (λ n. requested_stays s.facts s k)

read_stays : (s : Situation) (rest : List (ℕ × ℕ)) → Knows s → are_bytes (numbers_of rest) ≡ true → Stays (read_on s rest)
unfolding read_on all_read ended
read_stays s [] k h =
    picked Stays (eqb (after_records s.facts) 8) (decides terminated 8 s) _
    (λ y. (k, (omega arith, omega arith)))
    (λ n. verifying_stays (managed s) (managed_knows s k))
read_stays s (r ∷ rest) k h = (k, (bytes_head r.0 (numbers_of rest) h, bytes_rest r.0 (numbers_of rest) h))

-- ---- whatever somebody else says

pub after_stays : (h : Heard) (p : List ℕ) → Stays (hears h) → are_bytes p ≡ true → Stays (after h p)
unfolding after issuer_replied
after_stays terminal p k bytes = opened_stays p bytes
after_stays (says Host s) p k bytes = heard_stays s k _ p bytes
after_stays (says Results s) p k bytes = requested_stays s.facts (verified_by s p) (verified_knows s k p)

-- ---- whatever the card answers

outcome_byte : (given : Given) → by_second given < 256
unfolding by_second
outcome_byte (Some Tc) = omega arith
outcome_byte (Some Aac) = omega arith
outcome_byte (Some Arqc) = omega arith
outcome_byte None = omega arith

pub turn_stays : (w : Asked) (a : List ℕ) → Asking w → are_bytes a ≡ true → Stays (turn w a)
unfolding turn selected optioned recorded first_answered second_answered decided
turn_stays (selecting s) a k h =
    goes_stays s k (select_reason s.terminal a) (asks (optioning s (pdol_of a))) (select_small s.terminal a) k
turn_stays (optioning s list) a k h =
    goes_stays s k (options_reason a) _ (options_small a)
    (read_stays (with_profile s (profile_of a)) (to_read (locator_of a)) (profile_knows s k a h)
    (read_numbers (locator_of a) (locator_bytes a h)))
turn_stays (reading s number file rest) a k h =
    let names = names_for s.terminal in
    let before : ℕ → Bool = λ tag. is_some (s.facts tag) in
    goes_stays s k.0 (record_reason names before a) _ (record_small names before a)
    (read_stays (with_record s a) rest (record_knows s k.0 a h) k.1.1)
turn_stays (first s request) a k h =
    let allowed = allowed_by (First request) in
    goes_stays s k (cryptogram_reason allowed a) _ (cryptogram_small allowed a)
    (first_stays (answered s) (answered_knows s k) (cryptogram_of a))
turn_stays (second s request code) a k h =
    let allowed = allowed_by (Second request) in
    goes_stays s k.0 (cryptogram_reason allowed a) (decides (by_second (cryptogram_of a)) 0 s) (cryptogram_small allowed a)
    (k.0, (outcome_byte (cryptogram_of a), omega arith))
