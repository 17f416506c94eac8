-- A message cut into chained blocks and received by the rules is the same message, whatever size the blocks have; and so is the answer
-- that goes back. Each round keeps one piece; the last one makes the message whole. Assumes nothing.
use mathlib.Core.Path.{◌≡◌, refl, sym, ap, ap₂, ◌∙◌, subst}
use mathlib.Core.Bool.{Bool, true, false}
use mathlib.Core.List.{List, [], ◌++◌}
use Prim.Native.Nat.{ℕ, zero, suc, ◌+◌, ◌-◌, ◌≤◌}
use native.Mathlib.Omega.{arith}
use lib.ListN.{length, take, drop}
use lib.Seq.{take_all}
use borrow.Author.Tests.{ne_eqb, le-leb}
use Rattle.slices.specs.Choice.{pick}
use Rattle.slices.specs.Tests.{between}
use Rattle.slices.specs.Writing.{laid, zeros}
use Rattle.slices.proofs.Choice.{pick_yes, pick_no, either}
use Rattle.slices.proofs.Tests.{held, last}
use Rattle.slices.proofs.Writing.{laid_fits, put_start, zeros_length}
use Rattle.t1_block.specs.Blocks.{inf_of}
use Rattle.t1_state.specs.Limits.{message_most, room, more_of}
use Rattle.t1_state.specs.declared.Phase.{Phase}
use Rattle.t1_state.specs.declared.Phase.TheVariants.{Due}
use Rattle.t1_state.specs.declared.Sizes.{Sizes}
use Rattle.t1_state.specs.declared.State.{State}
use Rattle.t1_state.specs.declared.Act.{Act}
use Rattle.t1_state.specs.declared.Act.TheVariants.{Nothing, Keep, Whole}
use Rattle.t1_state.specs.declared.Turn.{Turn}
use Rattle.t1_again.specs.Again.{goes_out, ready_for}
use Rattle.t1_line.specs.Line.{sends_piece, sends_next, takes_fields, keeps}
use Rattle.t1_turns.specs.Turns.{message_of, sends_message, send_in, on_send}
use Rattle.t1.specs.Steps.{block_of, kept_by}
use Rattle.t1_laws.specs.Joined.{Pair, is_whole, answered, round, rounds}
use Rattle.t1_laws.proofs.Rounds.{Going, taken, field_kept, returned, goes_on_lem, ends, n_low, next_is, not_not}

-- two ends after a message went from s to r: it is whole and the same, and both are ready for the next one the other way
pub record Delivered (m : List ℕ) (s r : State) (p : Pair) : Type 0 where
  pub same : p.kept ≡ m
  pub whole : p.did ≡ Whole (length m)
  pub due : p.receiver.phase ≡ Due
  pub fresh : p.receiver.received ≡ 0
  pub in_step : p.receiver.numbers.expected ≡ p.sender.numbers.next
  pub waits : takes_fields p.sender.phase (more_of p.sender.message) ≡ true
  pub expects : p.sender.numbers.expected ≡ s.numbers.expected
  pub numbered : p.receiver.numbers.next ≡ r.numbers.next
  pub sender_sizes : p.sender.sizes ≡ s.sizes
  pub receiver_sizes : p.receiver.sizes ≡ r.sizes
  pub sender_received : p.sender.received ≡ s.received

abbrev joined : State → State → List ℕ → Act → Pair
joined s r k did = record { sender = s; receiver = r; kept = k; did = did }

stops : (n : ℕ) (p : Pair) → is_whole p.did ≡ true → rounds n p ≡ p
unfolding rounds
stops zero p e = refl
stops (suc n) p e = pick_yes _ _ _ e

module _ (m rest : List ℕ) (s r : State) (k : List ℕ) (did : Act) (g : Going m rest s r k) where
  -- a round with more to come
  on : more_of s.message ≡ true
      → round (joined s r k did) ≡ joined (sends_next s) (keeps true s.message.size r).state (k ++ inf_of (block_of s)) Keep
  unfolding round keeps pick kept_by
  on more =
      ap (answered s k) (taken m rest s r k g ∙ ap (λ (x : Bool). keeps x s.message.size r) more)
      ∙ ap (λ (t : Turn). joined t.state (keeps true s.message.size r).state (k ++ inf_of (block_of s)) Keep)
      (returned m rest s r k g more)

  -- the last round
  last_one : more_of s.message ≡ false → Delivered m s r (answered s k (keeps false s.message.size r))
  unfolding keeps pick kept_by
  last_one final =
      record {
        same = field_kept m rest s r k g ∙ (ap (λ (x : ℕ). take x m) (ends m rest s r k g final) ∙ take_all (length m) m (omega arith));
        whole = ap Whole (ap (λ (x : ℕ). x + s.message.size) g.received ∙ ends m rest s r k g final);
        due = refl;
        fresh = refl;
        in_step = next_is m rest s r k g;
        waits = ap₂ takes_fields g.phase final;
        expects = refl;
        numbered = refl;
        sender_sizes = refl;
        receiver_sizes = refl;
        sender_received = refl;
      }

  over : more_of s.message ≡ false → Delivered m s r (round (joined s r k did))
  unfolding round
  over final =
      subst (λ (t : Turn). Delivered m s r (answered s k t))
      (sym (taken m rest s r k g ∙ ap (λ (x : Bool). keeps x s.message.size r) final)) (last_one final)

-- ends that are the same in what a delivery says of them
moved : (m : List ℕ) (s r : State) (n : ℕ) (p : Pair) → Delivered m (sends_next s) (keeps true n r).state p → Delivered m s r p
unfolding sends_next sends_piece keeps ready_for pick
moved m s r n p d =
    record {
      same = d.same;
      whole = d.whole;
      due = d.due;
      fresh = d.fresh;
      in_step = d.in_step;
      waits = d.waits;
      expects = d.expects;
      numbered = d.numbered;
      sender_sizes = d.sender_sizes;
      receiver_sizes = d.receiver_sizes;
      sender_received = d.sender_received;
    }

did_whole : (n : ℕ) (a : Act) → a ≡ Whole n → is_whole a ≡ true
did_whole n a e = ap is_whole e

nearer : (n : ℕ) (m rest : List ℕ) (s r : State) (k : List ℕ) → Going m rest s r k → length m - s.message.at ≤ suc n
    → length m - (sends_next s).message.at ≤ n
unfolding sends_next sends_piece
nearer n m rest s r k g h = let low = n_low m rest s r k g in let i = g.inside in omega arith

-- as many rounds as bytes are left are enough
pub all_rounds : (n : ℕ) (m rest : List ℕ) (s r : State) (k : List ℕ) (did : Act) → Going m rest s r k → is_whole did ≡ false
    → length m - s.message.at ≤ n → Delivered m s r (rounds n (joined s r k did))
unfolding rounds
all_rounds zero m rest s r k did g w h = absurd (let i = g.inside in omega arith)
all_rounds (suc n) m rest s r k did g w h =
    subst (Delivered m s r) (sym (pick_no _ _ _ w))
    (either (more_of s.message)
    (λ more.
    subst (λ (p : Pair). Delivered m s r (rounds n p)) (sym (on m rest s r k did g more))
    (moved m s r s.message.size _
    (all_rounds n m rest (sends_next s) (keeps true s.message.size r).state (k ++ inf_of (block_of s)) Keep
    (goes_on_lem m rest s r k g more) refl
    (nearer n m rest s r k g h))))
    (λ final.
    let d = over m rest s r k did g final in
    subst (Delivered m s r) (sym (stops n (round (joined s r k did)) (did_whole (length m) _ d.whole))) d))

-- a message that may be sent goes out with its first piece
module _ (m : List ℕ) (some : 1 ≤ length m) (most : length m ≤ message_most) (s r : State) (due : s.phase ≡ Due) where
  pub begun : on_send m s ≡ goes_out (sends_piece (message_of s.sizes.theirs m) s)
  unfolding on_send send_in sends_message between
  begun =
      ap (λ (p : Phase). send_in p m s) due ∙ pick_yes _ _ _
      (held refl _ (le-leb 1 (length m) some) ∙ (last refl ∙ le-leb (length m) message_most most))

  abbrev first : State
  first = sends_piece (message_of s.sizes.theirs m) s

  pub bytes_are : laid m 0 (zeros message_most) ≡ m ++ drop (length m) (zeros message_most)
  bytes_are =
      laid_fits m 0 (zeros message_most) (let z = zeros_length message_most in omega arith) ∙ put_start m (zeros message_most)

  under_way : r.numbers.expected ≡ s.numbers.next → takes_fields r.phase (more_of r.message) ≡ true → r.received ≡ 0
      → room s.sizes.theirs ≤ r.sizes.ours → Going m (drop (length m) (zeros message_most)) first r []
  unfolding sends_piece message_of
  under_way step takes none' fits =
      record {
        out = refl;
        phase = refl;
        bytes = bytes_are;
        long = refl;
        inside = some;
        size = refl;
        number = step ∙ sym (not_not s.numbers.next);
        takes = takes;
        received = none';
        kept = refl;
        fits = fits;
        most = most;
      }

  same_ends : (p : Pair) → Delivered m first r p → Delivered m s r p
  unfolding sends_piece
  same_ends p d =
      record {
        same = d.same;
        whole = d.whole;
        due = d.due;
        fresh = d.fresh;
        in_step = d.in_step;
        waits = d.waits;
        expects = d.expects;
        numbered = d.numbered;
        sender_sizes = d.sender_sizes;
        receiver_sizes = d.receiver_sizes;
        sender_received = d.sender_received;
      }

  -- the law: what one end sends is what the other has, in at most as many rounds as the message has bytes
  pub delivered : r.numbers.expected ≡ s.numbers.next → takes_fields r.phase (more_of r.message) ≡ true → r.received ≡ 0
      → room s.sizes.theirs ≤ r.sizes.ours → Delivered m s r (rounds (length m) (joined (on_send m s).state r [] Nothing))
  delivered step takes none' fits =
      subst (λ (t : Turn). Delivered m s r (rounds (length m) (joined t.state r [] Nothing))) (sym begun)
      (same_ends _
      (all_rounds (length m) m (drop (length m) (zeros message_most)) first r [] Nothing (under_way step takes none' fits) refl
      (omega arith)))

-- every IFS from 1 to 254 is the room that it gives
pub every_size : (i : ℕ) → 1 ≤ i → i ≤ 254 → room i ≡ i
unfolding room
every_size i low high = pick_no _ _ _ (ne_eqb i 0 (λ e. omega arith)) ∙ pick_yes _ _ _ (le-leb i 254 high)

-- a command goes over and its answer comes back, both whole, and the ends stand in step for the next command
module _ (command answer : List ℕ) (t c : State) where
  -- the terminal's command at the card, and the card's answer at the terminal
  abbrev pub there : Pair
  there = rounds (length command) (joined (on_send command t).state c [] Nothing)

  abbrev pub back : Pair
  back = rounds (length answer) (joined (on_send answer there.receiver).state there.sender [] Nothing)

  pub exchanged : 1 ≤ length command → length command ≤ message_most → 1 ≤ length answer → length answer ≤ message_most → t.phase ≡ Due
      → takes_fields c.phase (more_of c.message) ≡ true → t.received ≡ 0 → c.received ≡ 0
      → c.numbers.expected ≡ t.numbers.next → t.numbers.expected ≡ c.numbers.next
      → room t.sizes.theirs ≤ c.sizes.ours → room c.sizes.theirs ≤ t.sizes.ours
      → Delivered command t c there × Delivered answer there.receiver there.sender back
  exchanged some most some' most' due takes mine yours step step' fits fits' =
      let over = delivered command some most t c due step takes yours fits in
      let room_back : room there.receiver.sizes.theirs ≤ there.sender.sizes.ours =
      subst (λ (z : Sizes). room there.receiver.sizes.theirs ≤ z.ours) (sym over.sender_sizes)
      (subst (λ (z : Sizes). room z.theirs ≤ t.sizes.ours) (sym over.receiver_sizes) fits')
      in (
        over,
        delivered answer some' most' there.receiver there.sender over.due (over.expects ∙ (step' ∙ sym over.numbered))
            over.waits
            (over.sender_received ∙ mine) room_back,
      )
