-- Along any session no bit of the TVR or of the TSI is cleared: a selection leaves both as they are, and from GPO on it is today's law.
-- Assumes nothing.
use mathlib.Core.Path.{◌≡◌, refl, sym, subst}
use mathlib.Core.List.{List}
use Prim.Native.Nat.{ℕ}
use Rattle.slices.specs.Writing.{zeros}
use Rattle.slices.proofs.Choice.{picked}
use Rattle.tape_read.specs.Entries.{Entry}
use Rattle.decide_tvr.specs.Bits.{joined}
use Rattle.decide_tvr.proofs.Rows.{joined_self}
use Rattle.sessions.specs.Rules.{asks, hears, decides}
use Rattle.sessions.proofs.Rows.{reading_in_row}
use Rattle.rulebook.specs.Situation.{begun}
use Rattle.rulebook.specs.Phase.{terminal, says, Phase, situation_of, tvr_of, tsi_of}
use Rattle.rulebook.specs.Turn.{turn, after}
use Rattle.rulebook.specs.Stated as today
use Rattle.rulebook.proofs.Growing as grown
use Rattle.rulebook.specs.Later.{AskedLater, HeardLater, as_was, turn_later, after_later}
use Rattle.start_choosing.specs.Start.{is_listing}
use Rattle.rulebook_choosing.specs.Choosing.{Choosing, ChoosingPhase, further, listed}
use Rattle.rulebook_choosing.specs.Session.{rules, Reads}
use Rattle.rulebook_choosing.specs.Stated.{GoesOn, asked, shown, ran, ended, Takes, sent, stopped, tvr_in, tsi_in, Grows, Growing}
use Rattle.rulebook_choosing.proofs.Selecting.{searched_on, chose_on}

tvr_was : (q : Phase) → tvr_in (as_was q) ≡ tvr_of q
unfolding tvr_in as_was tvr_of
tvr_was (asks w) = refl
tvr_was (hears terminal) = refl
tvr_was (hears (says word s)) = refl
tvr_was (decides outcome reason s) = refl

tsi_was : (q : Phase) → tsi_in (as_was q) ≡ tsi_of q
unfolding tsi_in as_was tsi_of
tsi_was (asks w) = refl
tsi_was (hears terminal) = refl
tsi_was (hears (says word s)) = refl
tsi_was (decides outcome reason s) = refl

-- what is joined into itself, seen in both ways
seen : (f : ChoosingPhase → List ℕ) (h : Phase → List ℕ) → ((r : Phase) → f (as_was r) ≡ h r) → (p q : Phase) → joined (h p) (h q) ≡ h q
    → joined (f (as_was p)) (f (as_was q)) ≡ f (as_was q)
seen f h same p q e =
    subst (λ (v : List ℕ). joined (f (as_was p)) v ≡ v) (sym (same q))
    (subst (λ (v : List ℕ). joined v (h q) ≡ h q) (sym (same p)) e)

-- where today's rules clear none, none is
was_grows : (p q : Phase) → today.Grows p q → Grows (as_was p) (as_was q)
was_grows p q g = record { tvr = seen tvr_in tvr_of tvr_was p q g.tvr; tsi = seen tsi_in tsi_of tsi_was p q g.tsi }

stays : (p : ChoosingPhase) → Grows p p
stays p = record { tvr = joined_self (tvr_in p); tsi = joined_self (tsi_in p) }

module _ (x : Choosing) where
  searched_grows : (q : ChoosingPhase) → GoesOn x q → Grows (asks (AskedLater.new x)) q
  unfolding tvr_in tsi_in further situation_of
  searched_grows q (asked s e lt) = record { tvr = joined_self x.situation.tvr; tsi = joined_self x.situation.tsi }
  searched_grows q (shown s e lt) = record { tvr = joined_self x.situation.tvr; tsi = joined_self x.situation.tsi }
  searched_grows q (ran list) = record { tvr = joined_self x.situation.tvr; tsi = joined_self x.situation.tsi }
  searched_grows q (ended reason h) = record { tvr = joined_self x.situation.tvr; tsi = joined_self x.situation.tsi }

  chose_grows : (q : ChoosingPhase) → Takes x q → Grows (hears (HeardLater.new x)) q
  unfolding tvr_in tsi_in further
  chose_grows q (sent s e lt) = record { tvr = joined_self x.situation.tvr; tsi = joined_self x.situation.tsi }
  chose_grows q (stopped reason h) = record { tvr = joined_self x.situation.tvr; tsi = joined_self x.situation.tsi }

turn_grows : (w : AskedLater Choosing) (a : List ℕ) → Grows (asks w) (rules.turn w a)
unfolding turn_later as_was
turn_grows (AskedLater.was w) a = was_grows (asks w) (turn w a) (grown.turn_grows w a)
turn_grows (AskedLater.new x) a = searched_grows x _ (searched_on x a)

listing_grows : (p : List ℕ) → Grows (hears (HeardLater.was terminal)) (asks (AskedLater.new (listed p)))
unfolding tvr_in tsi_in tvr_of tsi_of listed begun
listing_grows p = record { tvr = joined_self (zeros 5); tsi = joined_self (zeros 2) }

start_grows : (p : List ℕ) → Grows (hears (HeardLater.was terminal)) (rules.after (HeardLater.was terminal) p)
unfolding after_later as_was
start_grows p =
    picked (Grows (hears (HeardLater.was terminal))) (is_listing p) (asks (AskedLater.new (listed p))) (as_was (after terminal p))
    (λ y. listing_grows p)
    (λ n. was_grows (hears terminal) (after terminal p) (grown.after_grows terminal p))

after_grows : (h : HeardLater Choosing) (p : List ℕ) → Grows (hears h) (rules.after h p)
unfolding after_later as_was
after_grows (HeardLater.was terminal) p = start_grows p
after_grows (HeardLater.was (says word s)) p = was_grows (hears (says word s)) (after (says word s) p) (grown.after_grows (says word s) p)
after_grows (HeardLater.new x) p = chose_grows x _ (chose_on x p)

pub reading_grows : (es : List Entry) (ps : List ChoosingPhase) → Reads es ps → Growing ps
reading_grows = reading_in_row rules Grows stays turn_grows after_grows
