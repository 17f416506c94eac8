-- The other way, and the law: whatever comes of the blocks of two ends, the receiver has a beginning of the message, and all of it once
-- it says so. Assumes nothing.
use mathlib.Core.Path.{◌≡◌, refl, sym, ap, subst, ◌∙◌}
use mathlib.Core.Bool.{Bool, true, false, not, false≢true}
use mathlib.Core.List.{List, [], ◌∷◌}
use Prim.Native.Nat.{ℕ, ◌+◌, ◌-◌, ◌≤◌, min}
use native.Mathlib.Omega.{arith}
use lib.ListN.{length, get_or, take, drop}
use lib.Seq.{take_all}
use borrow.Author.Tests.{ltb-true}
use Rattle.slices.specs.Writing.{zeros}
use Rattle.slices.proofs.Choice.{pick_yes, pick_no}
use Rattle.t1_block.specs.Blocks.{len_of}
use Rattle.t1_block.specs.Faults.{Heard, heard_of}
use Rattle.t1_state.specs.Limits.{message_most, room, more_of}
use Rattle.t1_state.specs.declared.Phase.{Phase}
use Rattle.t1_state.specs.declared.Phase.TheVariants.{Due, Sent, Over}
use Rattle.t1_state.specs.declared.State.{State}
use Rattle.t1_state.specs.declared.Turn.{Turn}
use Rattle.t1_line.specs.Line.{equal, sends_piece, sends_next, takes_fields, is_sent, on_ready, on_kind, on_line}
use Rattle.t1_turns.specs.Turns.{by_phase, on_block, message_of, on_send}
use Rattle.t1.specs.Steps.{block_of}
use Rattle.t1_laws.specs.Lossy.{Line, forth, back, Arrives, Arrival, there, here, arrive, Possible, arrive_all, AllPossible}
use Rattle.t1_laws.proofs.Rounds.{equal_same, not_not}
use Rattle.t1_laws.proofs.Delivery.{begun, bytes_are}
use Rattle.t1_laws.proofs.Still.{Says, Stays, on, over, Passes, again_passes, passes}
use Rattle.t1_laws.proofs.Hearing.{Out, info, ready, answer, bad, arrived, equal_not}
use Rattle.t1_laws.proofs.Lossy.{Sends, Ear, ready_to, shut, Both, Inv, before, behind}
use Rattle.t1_laws.proofs.Lossy.{whole, sender_still, information_passes, comes_forth}

-- the piece came, and the next one goes out
next_sends : (m rest : List ℕ) (s : State) → Sends m rest s → more_of s.message ≡ true → Sends m rest (sends_next s)
unfolding sends_next sends_piece more_of
next_sends m rest s d more =
    record {
      bytes = d.bytes;
      long = d.long;
      inside = let b = ltb-true (s.message.at + s.message.size) s.message.length more in let l = d.long in omega arith;
      size = ap (λ (l : ℕ). min (room s.sizes.theirs) (l - (s.message.at + s.message.size))) d.long;
      phase = on refl;
      says = record { plainly = refl; numbered = λ p e. absurd (let z : ◌≡◌ {A = ℕ} 0 1 = cc in omega arith) };
    }

module _ (m rest : List ℕ) (s r : State) (k : List ℕ) (b : List ℕ) where
  abbrev After : Turn → Type 0
  After t = Inv m rest t.state r k

  closed : s.phase ≡ Over → Inv m rest s r k → After (on_block b s)
  unfolding on_block by_phase
  closed e i = subst After (sym (ap (λ (p : Phase). by_phase p (heard_of b s.sizes.ours) (get_or b 3 0) (len_of b) s) e)) i

  line_is : s.phase ≡ Sent → (h : Heard) → heard_of b s.sizes.ours ≡ h → on_block b s ≡ on_line h (get_or b 3 0) (len_of b) s
  unfolding on_block by_phase
  line_is e h f =
      ap (λ (p : Phase). by_phase p (heard_of b s.sizes.ours) (get_or b 3 0) (len_of b) s) e
      ∙ ap (λ (y : Heard). on_line y (get_or b 3 0) (len_of b) s) f

  still : (t : Turn) → on_block b s ≡ t → Passes s t → Inv m rest s r k → After (on_block b s)
  still t e p i = subst After (sym e) (sender_still m rest s r k t.state p.still i)

  -- the I-block of the receiver's last message is an old one
  old : Both m rest s r → equal (not r.numbers.next) s.numbers.expected ≡ false
  old both = ap (equal (not r.numbers.next)) both.step ∙ equal_not r.numbers.next

  back_before : Both m rest s r → r.numbers.expected ≡ not s.numbers.next → Inv m rest s r k → s.phase ≡ Sent
      → Out r b (heard_of b s.sizes.ours) → After (on_block b s)
  unfolding on_line on_kind on_ready
  back_before both n i e (info same h) =
      still _ (line_is e _ h) (information_passes s both.sends.says (not r.numbers.next) (more_of r.message) (len_of b)
      (old both)) i
  back_before both n i e (ready h) =
      still _
      (line_is e _ h
      ∙ (pick_yes _ _ _ (ap is_sent e)
      ∙ pick_no _ _ _ (ap (λ (y : Bool). equal y s.numbers.next) n ∙ equal_not s.numbers.next)))
      (again_passes s both.sends.says) i
  back_before both n i e (answer v h) = still _ (line_is e _ h) (passes s both.sends.says 2) i
  back_before both n i e (bad c h) = still _ (line_is e _ h) (passes s both.sends.says c) i

  goes_on_lem : Both m rest s r → r.numbers.expected ≡ s.numbers.next → r.received ≡ s.message.at + s.message.size
      → k ≡ take (s.message.at + s.message.size) m → more_of s.message ≡ true → Inv m rest (sends_next s) r k
  unfolding sends_next sends_piece
  goes_on_lem both n c e o =
      before (record { sends = next_sends m rest s both.sends o; ear = both.ear; says = both.says; step = both.step })
      (n ∙ sym (not_not s.numbers.next)) c e

  back_behind : Both m rest s r → r.numbers.expected ≡ s.numbers.next → r.received ≡ s.message.at + s.message.size
      → k ≡ take (s.message.at + s.message.size) m → more_of s.message ≡ true → s.phase ≡ Sent
      → Out r b (heard_of b s.sizes.ours) → After (on_block b s)
  unfolding on_line on_kind on_ready
  back_behind both n c e o p (info same h) =
      still _ (line_is p _ h) (information_passes s both.sends.says (not r.numbers.next) (more_of r.message) (len_of b) (old both))
      (behind both n c e o)
  back_behind both n c e o p (ready h) =
      subst After
      (sym (line_is p _ h
      ∙ (pick_yes _ _ _ (ap is_sent p)
      ∙ (pick_yes _ _ _ (ap (λ (y : Bool). equal y s.numbers.next) n ∙ equal_same s.numbers.next) ∙ pick_yes _ _ _ o))))
      (goes_on_lem both n c e o)
  back_behind both n c e o p (answer v h) = still _ (line_is p _ h) (passes s both.sends.says 2) (behind both n c e o)
  back_behind both n c e o p (bad code h) = still _ (line_is p _ h) (passes s both.sends.says code) (behind both n c e o)

  pub comes_back : Arrives (block_of r) s.sizes.ours b → Inv m rest s r k → After (on_block b s)
  comes_back a (before both n c e) = by both.sends.phase
    where
      by : Stays Sent s.phase → After (on_block b s)
      by (on f) = back_before both n (before both n c e) f (arrived r s.sizes.ours both.says b a)
      by (over f) = closed f (before both n c e)
  comes_back a (behind both n c e o) = by both.sends.phase
    where
      by : Stays Sent s.phase → After (on_block b s)
      by (on f) = back_behind both n c e o f (arrived r s.sizes.ours both.says b a)
      by (over f) = closed f (behind both n c e o)
  comes_back a (whole d e) = whole d e

abbrev Holds : List ℕ → List ℕ → Line → Type 0
Holds m rest l = Inv m rest l.sender l.receiver l.kept

one_arrival : (m rest : List ℕ) (a : Arrival) (l : Line) → Possible a l → Holds m rest l → Holds m rest (arrive a l)
unfolding arrive Possible forth back
one_arrival m rest (there b) l p i = comes_forth m rest l.sender l.receiver l.kept b p i
one_arrival m rest (here b) l p i = comes_back m rest l.sender l.receiver l.kept b p i

all_arrivals : (m rest : List ℕ) (as' : List Arrival) (l : Line) → AllPossible as' l → Holds m rest l → Holds m rest (arrive_all as' l)
unfolding arrive_all AllPossible
all_arrivals m rest [] l p i = i
all_arrivals m rest (a ∷ as') l p i = all_arrivals m rest as' (arrive a l) p.1 (one_arrival m rest a l p.0 i)

-- what the receiver has: a beginning of the message, and all of it where it says that the message is whole
pub record Ordered (m : List ℕ) (l : Line) : Type 0 where
  pub count : ℕ
  pub beginning : l.kept ≡ take count m
  pub complete : l.receiver.phase ≡ Due → l.kept ≡ m

ordered : (m rest : List ℕ) (l : Line) → Holds m rest l → Ordered m l
ordered m rest l (before both n c e) = record {
  count = l.sender.message.at;
  beginning = e;
  complete = λ d. absurd
      (apart both.ear d);
}
  where
    apart : Ear l.receiver → l.receiver.phase ≡ Due → ⊥
    apart (ready_to f) d = false≢true (sym (ap (λ (p : Phase). takes_fields p (more_of l.receiver.message)) d) ∙ f)
    apart (shut f) d = let z : ◌≡◌ {A = ℕ} 0 1 = cc in omega arith
ordered m rest l (behind both n c e o) =
    record { count = l.sender.message.at + l.sender.message.size; beginning = e; complete = λ d. absurd (apart both.ear d) }
  where
    apart : Ear l.receiver → l.receiver.phase ≡ Due → ⊥
    apart (ready_to f) d = false≢true (sym (ap (λ (p : Phase). takes_fields p (more_of l.receiver.message)) d) ∙ f)
    apart (shut f) d = let z : ◌≡◌ {A = ℕ} 0 1 = cc in omega arith
ordered m rest l (whole d e) = record { count = length m; beginning = e ∙ sym (take_all (length m) m (omega arith)); complete = λ f. e }

-- the law: ends in step, a message sent, and anything that the line can do
module _ (m : List ℕ) (some : 1 ≤ length m) (most : length m ≤ message_most) (s r : State) (due : s.phase ≡ Due) where
  first_sends : Sends m (drop (length m) (zeros message_most)) (sends_piece (message_of s.sizes.theirs m) s)
  unfolding sends_piece message_of
  first_sends =
      record {
        bytes = bytes_are m some most s r due;
        long = refl;
        inside = some;
        size = refl;
        phase = on refl;
        says = record { plainly = refl; numbered = λ p e. absurd (let z : ◌≡◌ {A = ℕ} 0 1 = cc in omega arith) };
      }

  pub holds_first : Says r → takes_fields r.phase (more_of r.message) ≡ true → r.received ≡ 0 → r.numbers.expected ≡ s.numbers.next
      → s.numbers.expected ≡ r.numbers.next
      → Inv m (drop (length m) (zeros message_most)) (sends_piece (message_of s.sizes.theirs m) s) r []
  unfolding sends_piece message_of
  holds_first w takes none' step step' =
      before (record { sends = first_sends; ear = ready_to takes; says = w; step = step' })
      (step ∙ sym (not_not s.numbers.next)) none' refl

  pub in_order : Says r → takes_fields r.phase (more_of r.message) ≡ true → r.received ≡ 0 → r.numbers.expected ≡ s.numbers.next
      → s.numbers.expected ≡ r.numbers.next → (as' : List Arrival)
      → AllPossible as' (record { sender = (on_send m s).state; receiver = r; kept = [] })
      → Ordered m (arrive_all as' (record { sender = (on_send m s).state; receiver = r; kept = [] }))
  in_order w takes none' step step' as' p =
      ordered m (drop (length m) (zeros message_most)) _
      (all_arrivals m (drop (length m) (zeros message_most)) as' _ p
      (subst (λ (t : Turn). Inv m (drop (length m) (zeros message_most)) t.state r []) (sym (begun m some most s r due))
      (holds_first w takes none' step step')))
