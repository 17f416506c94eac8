-- From GPO on a session never goes back before it, and so looks at every field of START but the AID, to its end.
-- Assumes nothing.
use mathlib.Core.Path.{◌≡◌, refl, sym, ap, ap₂, ◌∙◌, subst}
use mathlib.Core.List.{List, [], ◌∷◌, map}
use Prim.Native.Nat.{ℕ}
use native.Mathlib.Omega.{arith}
use lib.Dec.{eqb}
use Rattle.slices.proofs.Choice.{picked}
use Rattle.numbers.specs.Tables.{terminated, for_missing, for_list}
use Rattle.tape_read.specs.Entries.{Entry}
use Rattle.decide_cryptogram.specs.Cryptograms.{allowed_by}
use Rattle.decide_cryptogram.specs.declared.Cryptogram.TheVariants.{Tc, Aac, Arqc}
use Rattle.decide_cryptogram.specs.Cryptograms.{Given}
use Rattle.std.specs.Prelude.{Some, None}
use Rattle.decide_cryptogram.specs.declared.Request.TheVariants.{First, Second}
use Rattle.decide_requests.specs.Replies.{code_in, reply_of}
use Rattle.decide_requests.specs.Requests.{first_request}
use Rattle.decide_requests.specs.declared.reply.HostReply.{HostReply}
use Rattle.decide_requests.specs.declared.reply.HostReply.TheVariants.{Unable}
use Rattle.decide_verification.specs.Verification.{results_due}
use Rattle.answer_afl.specs.Entries.{to_read}
use Rattle.answer_gpo.specs.Options.{options_reason, profile_of, locator_of}
use Rattle.answer_record.specs.Records.{after_records}
use Rattle.answer_cryptogram.specs.Cryptogram.{cryptogram_of, cryptogram_reason}
use Rattle.dol_wanted.specs.Wanted.{fillable}
use Rattle.words.specs.declared.Word.{Word}
use Rattle.words.specs.declared.Word.TheVariants.{Host, Results}
use Rattle.sessions.specs.Session.{exchanged, heard, decided as concludes, phases_of}
use Rattle.rulebook.specs.Situation.{Situation, list_in}
use Rattle.rulebook.specs.Phase.{Asked, selecting, optioning, reading, first, second, terminal, says, Phase, asks, hears, decides}
use Rattle.rulebook.specs.Phase.{due_kind, decision_of, decided, ended}
use Rattle.rulebook.specs.Turn.{goes_on, managed, requested, verifying, all_read, read_on, with_profile, optioned, with_record, recorded}
use Rattle.rulebook.specs.Turn.{answered, replied, online, by_first, first_answered, second_answered, turn}
use Rattle.rulebook.specs.Turn.{reply_made, issuer_replied, verified_by, after}
use Rattle.rulebook.specs.Session.{rules, Plays}
use Rattle.verdict_under.specs.Counted as Under
use Rattle.rulebook_zeros.specs.Zeros.{unsupplied_in, added_by}
use Rattle.rulebook.specs.Later.{AskedLater, HeardLater, as_was, command_later, turn_later, kind_later, allowed_later, after_later}
use Rattle.rulebook_choosing.specs.Choosing.{Choosing, ChoosingPhase}
use Rattle.rulebook_choosing.specs.Session as Later
use Rattle.rulebook_choosing.specs.Unlooked.{situation_with, asked_with, heard_with, phase_with, FromOptions, Unlooked}
use Rattle.rulebook_choosing.proofs.OtherTurns.{command_same, count_same, turn_same, allowed_same, after_same}

-- ---- it never goes back before GPO

goes_from_lem : (reason : ℕ) (s : Situation) (next : Phase) → FromOptions next → FromOptions (goes_on reason s next)
unfolding goes_on ended
goes_from_lem reason s next h = picked FromOptions (eqb reason 0) next (decides terminated reason s) (λ y. h) (λ n. tt)

requested_from : (reason : ℕ) (s : Situation) → FromOptions (requested reason s)
unfolding requested
requested_from reason s = goes_from_lem reason s (asks (first s (first_request s.terminal s.facts s.tvr))) tt

all_from : (s : Situation) → FromOptions (all_read s)
unfolding all_read verifying ended
all_from s =
    picked FromOptions (eqb (after_records s.facts) for_missing) (decides terminated for_missing s) (verifying (managed s)) (λ y. tt)
    (λ n.
    picked FromOptions (results_due (managed s).terminal (managed s).profile (managed s).facts) (hears (says Results (managed s)))
    (requested (after_records (managed s).facts) (managed s)) (λ y. tt)
    (λ m. requested_from (after_records (managed s).facts) (managed s)))

read_from_lem : (s : Situation) (rest : List (ℕ × ℕ)) → FromOptions (read_on s rest)
unfolding read_on
read_from_lem s [] = all_from s
read_from_lem s (r ∷ rest) = tt

replied_from : (s : Situation) (reply : HostReply) (code : List ℕ) → FromOptions (replied s reply code)
unfolding replied ended
replied_from s reply code = picked FromOptions (fillable (list_in s 0x8D)) (asks (second s _ _)) (decides terminated for_list s)
    (λ y. tt) (λ n. tt)

given_from : (g : Given) (s : Situation) → FromOptions (by_first g s)
unfolding by_first decided online
given_from (Some Tc) s = tt
given_from (Some Aac) s = tt
given_from (Some Arqc) s =
    picked FromOptions (eqb s.terminal.kind 0) (replied s Unable []) (hears (says Host s)) (λ y. replied_from s Unable []) (λ n. tt)
given_from None s = tt

turn_from : (w : Asked) (a : List ℕ) → FromOptions (asks w) → FromOptions (turn w a)
unfolding turn optioned recorded first_answered second_answered decided
turn_from (selecting s) a h = absurd h
turn_from (optioning s list) a h = goes_from_lem (options_reason a) s _
    (read_from_lem (with_profile s (profile_of a)) (to_read (locator_of a)))
turn_from (reading s number file rest) a h = goes_from_lem _ s _ (read_from_lem (with_record s a) rest)
turn_from (first s request) a h = goes_from_lem (cryptogram_reason (allowed_by (First request)) a) s _
    (given_from (cryptogram_of a) (answered s))
turn_from (second s request code) a h = goes_from_lem (cryptogram_reason (allowed_by (Second request)) a) s _ tt

after_from : (word : Word) (s : Situation) (p : List ℕ) → FromOptions (after (says word s) p)
unfolding after issuer_replied
after_from Host s p = replied_from s (reply_made (reply_of p)) (code_in p)
after_from Results s p = requested_from (after_records s.facts) (verified_by s p)

-- ---- whole sessions

module _ (aid : List ℕ) where
  -- what is played from another phase, with the phases that it passes and what it counts
  abbrev Others : Phase → List Entry → List Phase → List ℕ → Type 0
  Others q es phases counts = (other : Plays q es) × ((phases_of rules other ≡ phases) × (added_by other ≡ counts))

  others : {p : Phase} {es : List Entry} → FromOptions p → (play : Plays p es)
      → Others (phase_with aid p) es (map (phase_with aid) (phases_of rules play)) (added_by play)
  unfolding phases_of Under.added_by phase_with heard_with due_kind decision_of situation_with
  others h (exchanged {w} {c} {a} {es} same ok play) =
      let to = turn_same aid w a h in
      let o = subst (λ (q : Phase). Others q es (map (phase_with aid) (phases_of rules play)) (added_by play)) (sym to)
      (others (turn_from w a h) play) in (
        exchanged (same ∙ sym (command_same aid w h)) ok o.0,
        (
          ap (λ (ps : List Phase). asks (asked_with aid w) ∷ asks (asked_with aid w) ∷ ps) o.1.0,
          ap₂ (λ (n : ℕ) (ns : List ℕ). 0 ∷ n ∷ ns) (ap unsupplied_in to ∙ count_same aid (turn w a)) o.1.1,
        ),
      )
  others h (heard {h = terminal} same fits ok play) = absurd h
  others h (heard {h = says word s} {k} {p} {es} same fits ok play) =
      let to = after_same aid word s p in
      let o = subst (λ (q : Phase). Others q es (map (phase_with aid) (phases_of rules play)) (added_by play)) (sym to)
      (others (after_from word s p) play) in (
        heard {h = says word (situation_with aid s)} same (allowed_same aid word s p ∙ fits) ok o.0,
        (
          ap (λ (ps : List Phase). hears (says word (situation_with aid s)) ∷ ps) o.1.0,
          ap₂ (λ (n : ℕ) (ns : List ℕ). n ∷ ns) (ap unsupplied_in to ∙ count_same aid (after (says word s) p)) o.1.1,
        ),
      )
  others h (concludes same) = (concludes same, (refl, refl))

  pub unlooked : {p : Phase} {es : List Entry} → FromOptions p → (play : Plays p es) → Unlooked aid play
  unlooked h play = let o = others h play in record { other = o.0; phases = o.1.0; counts = o.1.1 }

-- ---- under the rules with choosing, which are today's from there on

to_today : {q : ChoosingPhase} {es : List Entry} → Later.Plays q es → (p : Phase) → q ≡ as_was p → FromOptions p → Plays p es
unfolding as_was command_later turn_later kind_later allowed_later after_later
to_today (exchanged {w = v} {c} {a} same ok play) (asks w) e h =
    let one : v ≡ AskedLater.was w = cc e in
    exchanged (same ∙ ap (Later.rules).command_of one) ok
    (to_today play (turn w a) (ap (λ (x : AskedLater Choosing). (Later.rules).turn x a) one) (turn_from w a h))
to_today (exchanged same ok play) (hears x) e h = absurd (let z : ◌≡◌ {A = ℕ} 0 1 = cc e in omega arith)
to_today (exchanged same ok play) (decides outcome reason s) e h = absurd (let z : ◌≡◌ {A = ℕ} 0 1 = cc e in omega arith)
to_today (heard same fits ok play) (asks w) e h = absurd (let z : ◌≡◌ {A = ℕ} 0 1 = cc e in omega arith)
to_today (heard same fits ok play) (hears terminal) e h = absurd h
to_today (heard {h = x} {k} {p} same fits ok play) (hears (says word s)) e h =
    let one : x ≡ HeardLater.was (says word s) = cc e in
    heard (same ∙ ap (Later.rules).due_kind one) (sym (ap (λ (y : HeardLater Choosing). (Later.rules).allowed y p) one) ∙ fits) ok
    (to_today play (after (says word s) p) (ap (λ (y : HeardLater Choosing). (Later.rules).after y p) one) (after_from word s p))
to_today (heard same fits ok play) (decides outcome reason s) e h = absurd (let z : ◌≡◌ {A = ℕ} 0 1 = cc e in omega arith)
to_today (concludes same) (asks w) e h = absurd (let z : ◌≡◌ {A = ℕ} 0 1 = cc e in omega arith)
to_today (concludes same) (hears x) e h = absurd (let z : ◌≡◌ {A = ℕ} 0 1 = cc e in omega arith)
to_today (concludes {outcome = o} {reason = r} {s = z} same) (decides outcome reason s) e h =
    let outcomes : o ≡ outcome = cc e in
    let reasons : r ≡ reason = cc e in
    let situations : z ≡ s = cc e in
    concludes (same ∙ (λ i. decision_of (outcomes i) (reasons i) (situations i)))

pub from_today : {p : Phase} {es : List Entry} → FromOptions p → Plays p es → Later.Plays (as_was p) es
unfolding as_was command_later turn_later kind_later allowed_later after_later
from_today h (exchanged {w} {a = a} same ok play) = exchanged same ok (from_today (turn_from w a h) play)
from_today h (heard {h = terminal} same fits ok play) = absurd h
from_today h (heard {h = says word s} {p = p} same fits ok play) = heard same fits ok (from_today (after_from word s p) play)
from_today h (concludes same) = concludes same

stays_from : (aid : List ℕ) (p : Phase) → FromOptions p → FromOptions (phase_with aid p)
unfolding phase_with asked_with heard_with
stays_from aid (asks (selecting s)) h = absurd h
stays_from aid (asks (optioning s list)) h = tt
stays_from aid (asks (reading s number file rest)) h = tt
stays_from aid (asks (first s request)) h = tt
stays_from aid (asks (second s request code)) h = tt
stays_from aid (hears terminal) h = absurd h
stays_from aid (hears (says word s)) h = tt
stays_from aid (decides outcome reason s) h = tt

-- with another AID, and whatever the list was, the same entries are played
pub unlooked_on : (aid : List ℕ) (p : Phase) (es : List Entry) → FromOptions p → Later.Plays (as_was p) es
    → Later.Plays (as_was (phase_with aid p)) es
unlooked_on aid p es h play = from_today (stays_from aid p h) (unlooked aid h (to_today play p refl h)).other
