-- Where a session can go from where it stands. What holds of its situation, and is kept by each of the four ways in which an answer of the
-- card's changes it, holds after every answer; and after somebody's word what holds of the situation that the word leaves. Laws over whole
-- sessions need then look at these ways alone, and at no word by its name.
-- Assumes nothing.
use mathlib.Core.Path.{◌≡◌, refl}
use mathlib.Core.Bool.{true, false}
use mathlib.Core.List.{List, [], ◌∷◌}
use Prim.Native.Nat.{ℕ}
use lib.Dec.{eqb}
use Rattle.slices.proofs.Choice.{picked}
use Rattle.slices.specs.Tests.{is_some}
use Rattle.dol_wanted.specs.Wanted.{fillable}
use Rattle.answer_select.specs.Select.{select_reason}
use Rattle.answer_gpo.specs.Options.{options_reason, profile_of, locator_of}
use Rattle.answer_afl.specs.Entries.{to_read}
use Rattle.answer_common.specs.Content.{names_for}
use Rattle.answer_record.specs.Records.{record_reason, after_records}
use Rattle.decide_cryptogram.specs.Cryptograms.{allowed_by}
use Rattle.decide_cryptogram.specs.declared.Cryptogram.{Cryptogram}
use Rattle.decide_cryptogram.specs.declared.Cryptogram.TheVariants.{Aac, Tc, Arqc}
use Rattle.decide_cryptogram.specs.Cryptograms.{Given}
use Rattle.std.specs.Prelude.{Some, None}
use Rattle.decide_cryptogram.specs.declared.Request.TheVariants.{First, Second}
use Rattle.answer_cryptogram.specs.Cryptogram.{cryptogram_reason, cryptogram_of}
use Rattle.decide_requests.specs.Replies.{code_in, reply_of}
use Rattle.decide_requests.specs.declared.reply.HostReply.{HostReply}
use Rattle.decide_requests.specs.declared.reply.HostReply.TheVariants.{Unable}
use Rattle.decide_verification.specs.Verification.{results_due}
use Rattle.rulebook.specs.Situation.{Situation, list_in}
use Rattle.words.specs.declared.Word.{Word}
use Rattle.words.specs.declared.Word.TheVariants.{Host, Results}
use Rattle.rulebook.specs.Phase.{Asked, selecting, optioning, reading, first, second, terminal, says}
use Rattle.rulebook.specs.Phase.{Phase, asks, hears, decides, situation_of, decided, ended, tvr_of, tsi_of}
use Rattle.rulebook.specs.Turn.{goes_on, selected, managed, requested, verifying, all_read, read_on, with_profile, optioned}
use Rattle.rulebook.specs.Turn.{with_record, recorded, answered, replied, online, by_first, first_answered, second_answered, turn}
use Rattle.rulebook.specs.Turn.{reply_made, issuer_replied, verified_by, after}

-- ---- what is known where a word is due, a line each

-- all records are read, and nothing mandatory is missing
abbrev pub Complete : Situation → Type 0
Complete s = eqb (after_records s.facts) 8 ≡ false

-- what is known of a situation once the records are read, for the words that are due before the first request
unfoldable pub Past : (Situation → Type 0) → Word → Situation → Type 0
Past C Host s = Unit {0}
Past C Results s = C s

-- what makes a word due
unfoldable pub Due : Word → Situation → Type 0
Due Host s = Unit {0}
Due Results s = results_due s.terminal s.profile s.facts ≡ true

pub past_all : (C : Situation → Type 0) → ((s : Situation) → C s) → (word : Word) (s : Situation) → Past C word s
unfolding Past
past_all C h Host s = tt
past_all C h Results s = h s

-- the situation that a word leaves: only the results change it
unfoldable pub leaving : Word → Situation → List ℕ → Situation
leaving Host s p = s
leaving Results s p = verified_by s p

pub left : (P : Situation → Type 0) (word : Word) (s : Situation) (p : List ℕ) → P s → (word ≡ Results → P (verified_by s p))
    → P (leaving word s p)
unfolding leaving
left P Host s p h k = h
left P Results s p h k = k refl

-- ---- where a session goes

-- it is kept: by the AIP, by a record, by the bits set after the last record, and by that of the first answer
pub record Lasting (Q : Situation → Type 0) : Type 0 where
  pub profile : (s : Situation) (v : List ℕ) → Q s → Q (with_profile s v)
  pub told : (s : Situation) (a : List ℕ) → Q s → Q (with_record s a)
  pub read : (s : Situation) → Q s → Q (managed s)
  pub first : (s : Situation) → Q s → Q (answered s)

-- what is to be shown of phases from the last record on (P), from what holds of situations (Q) and is known of them from there on (C)
pub record Leads (Q C : Situation → Type 0) (P : Phase → Type 0) : Type 0 where
  pub decision : (outcome reason : ℕ) (s : Situation) → Q s → P (decides outcome reason s)
  pub first : (s : Situation) (request : Cryptogram) → Q s → P (asks (first s request))
  pub second : (s : Situation) (request : Cryptogram) (code : List ℕ) → Q s → P (asks (second s request code))
  pub word : (word : Word) (s : Situation) → Q s → Past C word s → Due word s → P (hears (says word s))
  pub complete : (s : Situation) → Complete s → C s

module _ {Q C : Situation → Type 0} {P : Phase → Type 0} (leads : Leads Q C P) where
  module _ (s : Situation) (q : Q s) where
    goes : (reason : ℕ) (next : Phase) → P next → P (goes_on reason s next)
    unfolding goes_on ended
    goes reason next h = picked P (eqb reason 0) next _ (λ y. h) (λ n. leads.decision _ reason s q)

    requested_leads : (reason : ℕ) → P (requested reason s)
    unfolding requested
    requested_leads reason = goes reason _ (leads.first s _ q)

    verifying_leads : C s → P (verifying s)
    unfolding verifying Past Due
    verifying_leads c =
        picked P (results_due s.terminal s.profile s.facts) (hears (says Results s)) _
        (λ y. leads.word Results s q c y)
        (λ n. requested_leads (after_records s.facts))

    replied_leads : (reply : HostReply) (code : List ℕ) → P (replied s reply code)
    unfolding replied ended
    replied_leads reply code =
        picked P (fillable (list_in s 0x8D)) _ _ (λ y. leads.second s _ _ q) (λ n. leads.decision _ 9 s q)

    -- whatever the first cryptogram is
    pub first_leads : (given : Given) → P (by_first given s)
    unfolding by_first decided online Past Due
    first_leads (Some Tc) = leads.decision _ 0 s q
    first_leads (Some Aac) = leads.decision _ 0 s q
    first_leads (Some Arqc) =
        picked P (eqb s.terminal.kind 0) _ (hears (says Host s)) (λ y. replied_leads Unable []) (λ l. leads.word Host s q tt tt)
    first_leads None = leads.decision _ 0 s q

  -- whatever is said: from what holds of the situation that it leaves
  pub after_leads : (word : Word) (s : Situation) (p : List ℕ) → Q (leaving word s p) → Past C word s → P (after (says word s) p)
  unfolding after issuer_replied leaving
  after_leads Host s p q past = replied_leads s q (reply_made (reply_of p)) (code_in p)
  after_leads Results s p q past = requested_leads (verified_by s p) q (after_records s.facts)

  -- after the last record
  pub all_read_leads : (s : Situation) → Q s → Q (managed s) → P (all_read s)
  unfolding all_read ended managed
  all_read_leads s q m =
      picked P (eqb (after_records s.facts) 8) _ (verifying (managed s)) (λ y. leads.decision _ 8 s q)
      (λ n. verifying_leads (managed s) m (leads.complete (managed s) n))

  module _ (lasts : Lasting Q) (question : (w : Asked) → Q (situation_of w) → P (asks w)) where
    read_leads : (s : Situation) (rest : List (ℕ × ℕ)) → Q s → P (read_on s rest)
    unfolding read_on situation_of
    read_leads s [] q = all_read_leads s q (lasts.read s q)
    read_leads s (r ∷ rest) q = question (reading s r.0 r.1 rest) q

    -- whatever the card answers
    pub turn_leads : (w : Asked) (a : List ℕ) → Q (situation_of w) → P (turn w a)
    unfolding turn situation_of selected optioned recorded first_answered second_answered decided
    turn_leads (selecting s) a q = goes s q (select_reason s.terminal a) _ (question (optioning s _) q)
    turn_leads (optioning s list) a q =
        goes s q (options_reason a) _
        (read_leads (with_profile s (profile_of a)) (to_read (locator_of a)) (lasts.profile s (profile_of a) q))
    turn_leads (reading s number file rest) a q =
        goes s q (record_reason (names_for s.terminal) (λ tag. is_some (s.facts tag)) a) _
        (read_leads (with_record s a) rest (lasts.told s a q))
    turn_leads (first s request) a q =
        goes s q (cryptogram_reason (allowed_by (First request)) a) _ (first_leads (answered s) (lasts.first s q) (cryptogram_of a))
    turn_leads (second s request code) a q = goes s q (cryptogram_reason (allowed_by (Second request)) a) _ (leads.decision _ 0 s q)

-- ---- what holds of the situation of a phase

unfoldable pub Holds : (Situation → Type 0) → Phase → Type 0
Holds Q (asks w) = Q (situation_of w)
Holds Q (hears terminal) = ⊥
Holds Q (hears (says word s)) = Q s
Holds Q (decides outcome reason s) = Q s

-- what holds so of TVR and TSI holds of those of the phase
pub holds_seen : (P : List ℕ → List ℕ → Type 0) (q : Phase) → Holds (λ s. P s.tvr s.tsi) q → P (tvr_of q) (tsi_of q)
unfolding Holds tvr_of tsi_of
holds_seen P (asks w) h = h
holds_seen P (hears terminal) h = absurd h
holds_seen P (hears (says word s)) h = h
holds_seen P (decides outcome reason s) h = h

module _ (Q : Situation → Type 0) where
  holding : Leads Q (λ s. Unit {0}) (Holds Q)
  unfolding Holds situation_of
  holding =
      record {
        decision = λ outcome reason s q. q;
        first = λ s request q. q;
        second = λ s request code q. q;
        word = λ word s q past due. q;
        complete = λ s n. tt;
      }

  pub turn_holds : Lasting Q → (w : Asked) (a : List ℕ) → Q (situation_of w) → Holds Q (turn w a)
  unfolding Holds
  turn_holds lasts w a q = turn_leads holding lasts (λ x h. h) w a q

  pub after_holds : (word : Word) (s : Situation) (p : List ℕ) → Q (leaving word s p) → Holds Q (after (says word s) p)
  after_holds word s p q = after_leads holding word s p q (past_all (λ t. Unit {0}) (λ t. tt) word s)

-- ---- where a word is awaited

-- it is due, and nothing mandatory is missing
pub record Awaited (word : Word) (s : Situation) : Type 0 where
  pub complete : Past Complete word s
  pub due : Due word s

unfoldable pub Awaiting : Phase → Type 0
Awaiting (asks w) = Unit {0}
Awaiting (hears terminal) = Unit {0}
Awaiting (hears (says word s)) = Awaited word s
Awaiting (decides outcome reason s) = Unit {0}

awaiting : Leads (λ s. Unit {0}) Complete Awaiting
unfolding Awaiting
awaiting =
    record {
      decision = λ outcome reason s q. tt;
      first = λ s request q. tt;
      second = λ s request code q. tt;
      word = λ word s q past due. record { complete = past; due = due };
      complete = λ s n. n;
    }

-- what asks nothing is kept
pub anything_lasts : Lasting (λ s. Unit {0})
anything_lasts = record { profile = λ s v h. tt; told = λ s a h. tt; read = λ s h. tt; first = λ s h. tt }

pub turn_awaiting : (w : Asked) (a : List ℕ) → Awaiting (turn w a)
unfolding Awaiting
turn_awaiting w a = turn_leads awaiting anything_lasts (λ x h. tt) w a tt

pub after_awaiting : (word : Word) (s : Situation) (p : List ℕ) → Awaited word s → Awaiting (after (says word s) p)
after_awaiting word s p h = after_leads awaiting word s p tt h.complete
