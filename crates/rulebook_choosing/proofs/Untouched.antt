-- No bit is set before the last record's answer: until then every step hands TVR and TSI on as they are.
-- Assumes nothing.
use mathlib.Core.Path.{◌≡◌, refl}
use mathlib.Core.Bool.{true}
use mathlib.Core.List.{List, [], ◌∷◌}
use Prim.Native.Nat.{ℕ}
use lib.Dec.{eqb}
use Rattle.slices.proofs.Choice.{picked}
use Rattle.tape_read.specs.Entries.{Entry}
use Rattle.dol_wanted.specs.Wanted.{fillable}
use Rattle.answer_record.specs.Records.{after_records}
use Rattle.decide_verification.specs.Verification.{results_due}
use Rattle.decide_requests.specs.Replies.{code_in, reply_of}
use Rattle.decide_requests.specs.declared.reply.HostReply.{HostReply}
use Rattle.decide_requests.specs.declared.reply.HostReply.TheVariants.{Unable}
use Rattle.decide_cryptogram.specs.declared.Cryptogram.TheVariants.{Aac, Tc, Arqc}
use Rattle.decide_cryptogram.specs.Cryptograms.{Given}
use Rattle.std.specs.Prelude.{Some, None}
use Rattle.answer_cryptogram.specs.Cryptogram.{cryptogram_of}
use Rattle.words.specs.declared.Word.{Word}
use Rattle.words.specs.declared.Word.TheVariants.{Host, Results}
use Rattle.sessions.specs.Rules.{asks, hears}
use Rattle.rulebook.specs.Situation.{Situation, begun, list_in}
use Rattle.rulebook.specs.Phase.{Asked, selecting, optioning, reading, first, second, terminal, says, Phase, decided, ended}
use Rattle.rulebook.specs.Turn.{goes_on, opened, selected, managed, requested, verifying, all_read, read_on, with_profile, optioned}
use Rattle.rulebook.specs.Turn.{with_record, recorded, answered, replied, online, by_first, first_answered, second_answered}
use Rattle.rulebook.specs.Turn.{turn, reply_made, issuer_replied, verified_by, after}
use Rattle.rulebook.specs.Later.{AskedLater, HeardLater, as_was, turn_later, after_later}
use Rattle.start_choosing.specs.Start.{is_listing}
use Rattle.rulebook_choosing.specs.Choosing.{Choosing, ChoosingPhase, further, listed}
use Rattle.rulebook_choosing.specs.Session.{rules, Reads}
use Rattle.rulebook_choosing.specs.Sent.{Each}
use Rattle.rulebook_choosing.specs.Stated.{GoesOn, asked, shown, ran, ended as over, Takes, sent, stopped}
use Rattle.rulebook_choosing.specs.Untouched.{Zeros, Untouched}
use Rattle.rulebook_choosing.proofs.Selecting.{searched_on, chose_on}
use Rattle.rulebook_choosing.proofs.Along.{reading_along}

-- a phase of today's rules
abbrev Still : Phase → Type 0
Still q = Untouched (as_was q)

goes_still : (reason : ℕ) (s : Situation) (next : Phase) → Still next → Still (goes_on reason s next)
unfolding goes_on ended as_was
goes_still reason s next h = picked Still (eqb reason 0) next _ (λ y. h) (λ n. tt)

-- behind the last record nothing is asked of the bits here
requested_still : (reason : ℕ) (s : Situation) → Still (requested reason s)
unfolding requested as_was
requested_still reason s = goes_still reason s _ tt

verifying_still : (s : Situation) → Still (verifying s)
unfolding verifying as_was
verifying_still s =
    picked Still (results_due s.terminal s.profile s.facts) _ _ (λ y. tt) (λ n. requested_still (after_records s.facts) s)

all_read_still : (s : Situation) → Still (all_read s)
unfolding all_read ended as_was
all_read_still s = picked Still (eqb (after_records s.facts) 8) _ _ (λ y. tt) (λ n. verifying_still (managed s))

read_still : (s : Situation) (rest : List (ℕ × ℕ)) → Zeros s → Still (read_on s rest)
unfolding read_on as_was
read_still s [] h = all_read_still s
read_still s (r ∷ rest) h = h

-- nor behind a cryptogram
replied_still : (s : Situation) (reply : HostReply) (code : List ℕ) → Still (replied s reply code)
unfolding replied ended as_was
replied_still s reply code = picked Still (fillable (list_in s 0x8D)) _ _ (λ y. tt) (λ n. tt)

online_still : (s : Situation) → Still (online s)
unfolding online as_was
online_still s = picked Still (eqb s.terminal.kind 0) _ _ (λ y. replied_still s Unable []) (λ n. tt)

by_first_still : (given : Given) (s : Situation) → Still (by_first given s)
unfolding by_first decided as_was
by_first_still (Some Tc) s = tt
by_first_still (Some Aac) s = tt
by_first_still (Some Arqc) s = online_still s
by_first_still None s = tt

-- ---- each step

turn_still : (w : Asked) (a : List ℕ) → Untouched (asks (AskedLater.was w)) → Still (turn w a)
unfolding turn selected optioned recorded first_answered second_answered with_profile with_record decided as_was
turn_still (selecting s) a h = goes_still _ s _ h
turn_still (optioning s list) a h = goes_still _ s _ (read_still (with_profile s _) _ h)
turn_still (reading s number file rest) a h = goes_still _ s _ (read_still (with_record s a) rest h)
turn_still (first s request) a h = goes_still _ s _ (by_first_still (cryptogram_of a) (answered s))
turn_still (second s request code) a h = goes_still _ s _ tt

word_still : (word : Word) (s : Situation) (p : List ℕ) → Still (after (says word s) p)
unfolding after issuer_replied
word_still Host s p = replied_still s (reply_made (reply_of p)) (code_in p)
word_still Results s p = requested_still (after_records s.facts) (verified_by s p)

module _ (x : Choosing) (h : Zeros x.situation) where
  searched_still : (q : ChoosingPhase) → GoesOn x q → Untouched q
  unfolding further
  searched_still q (asked s e lt) = h
  searched_still q (shown s e lt) = h
  searched_still q (ran list) = h
  searched_still q (over reason l) = tt

  chose_still : (q : ChoosingPhase) → Takes x q → Untouched q
  unfolding further
  chose_still q (sent s e lt) = h
  chose_still q (stopped reason l) = tt

listing_still : (p : List ℕ) → Untouched (asks (AskedLater.new (listed p)))
unfolding listed begun
listing_still p = (refl, refl)

opened_still : (p : List ℕ) → Still (after terminal p)
unfolding after opened begun as_was
opened_still p = (refl, refl)

later_still : (w : AskedLater Choosing) (a : List ℕ) → Untouched (asks w) → Untouched (rules.turn w a)
unfolding turn_later
later_still (AskedLater.was w) a h = turn_still w a h
later_still (AskedLater.new x) a h = searched_still x h _ (searched_on x a)

after_still : (h : HeardLater Choosing) (p : List ℕ) → rules.allowed h p ≡ true → Untouched (hears h) → Untouched (rules.after h p)
unfolding after_later
after_still (HeardLater.was terminal) p fits h =
    picked Untouched (is_listing p) (asks (AskedLater.new (listed p))) (as_was (after terminal p)) (λ y. listing_still p)
    (λ n. opened_still p)
after_still (HeardLater.was (says word s)) p fits h = word_still word s p
after_still (HeardLater.new x) p fits h = chose_still x h _ (chose_on x p)

pub reading_untouched : (es : List Entry) (ps : List ChoosingPhase) → Reads es ps → Each Untouched ps
reading_untouched = reading_along rules Untouched later_still after_still tt
