-- Over a line that spoils or repeats blocks the receiver has at each moment a beginning of the message, and the whole of it once it says
-- so. Between two arrivals the receiver has either all before the piece that is out and expects its number, or that piece too and expects
-- the next; only the piece itself moves it from the first to the second, and only its R-block lets the sender go on. Assumes nothing.
use mathlib.Core.Path.{◌≡◌, refl, sym, ap, ap₂, subst, ◌∙◌}
use mathlib.Core.Bool.{Bool, true, false, not, false≢true}
use mathlib.Core.List.{List, ◌++◌, append-nil}
use Prim.Native.Nat.{ℕ, ◌+◌, ◌-◌, ◌<◌, min}
use native.Mathlib.Omega.{arith}
use lib.ListN.{length, get_or, take}
use lib.Seq.{take-add, take_all}
use borrow.Author.Tests.{ltb-false}
use Rattle.slices.proofs.Choice.{pick_yes, pick_no, picked}
use Rattle.t1_block.specs.Blocks.{len_of, inf_of, kind_of, pcb_of_i, pcb_of_r, framed}
use Rattle.t1_block.specs.Faults.{Heard, heard_of}
use Rattle.t1_state.specs.Limits.{room, more_of}
use Rattle.t1_state.specs.declared.Phase.{Phase}
use Rattle.t1_state.specs.declared.Phase.TheVariants.{Start, Asking, Due, Sent, Receiving, Over}
use Rattle.t1_state.specs.declared.Last.TheVariants.{Ready}
use Rattle.t1_state.specs.declared.Numbers.{Numbers}
use Rattle.t1_state.specs.declared.Sizes.{Sizes}
use Rattle.t1_state.specs.declared.Message.{Message}
use Rattle.t1_state.specs.declared.State.{State}
use Rattle.t1_state.specs.declared.End.TheVariants.{Limit}
use Rattle.t1_state.specs.declared.Turn.{Turn}
use Rattle.t1_again.specs.Again.{ended_by, ready_for}
use Rattle.t1_line.specs.Line.{equal, takes_fields, is_sent, on_ready, keeps, on_information, on_kind, on_line}
use Rattle.t1_turns.specs.Turns.{by_phase, on_block}
use Rattle.t1.specs.Steps.{block_of, kept_by}
use Rattle.t1_laws.specs.Lossy.{Arrives}
use Rattle.t1_laws.proofs.Reading.{field_back}
use Rattle.t1_laws.proofs.Rounds.{equal_same, not_not, on_line_lem}
use Rattle.t1_laws.proofs.Still.{Says, Stays, on, over, Still, Passes, kind_of_r, nothing_moved, passes}
use Rattle.t1_laws.proofs.Pieces.{piece_inside, piece_of_lem, piece_size}
use Rattle.t1_laws.proofs.Hearing.{piece_of, info_of, Out, info, ready, answer, bad, arrived, equal_not}

-- the sender of m: a piece of m is out, or the end has come
pub record Sends (m rest : List ℕ) (s : State) : Type 0 where
  pub bytes : s.message.bytes ≡ m ++ rest
  pub long : s.message.length ≡ length m
  pub inside : s.message.at < length m
  pub size : s.message.size ≡ min (room s.sizes.theirs) (length m - s.message.at)
  pub phase : Stays Sent s.phase
  pub says : Says s

-- the receiver takes fields, or has stopped
pub data Ear (r : State) : Type 0 where
  ready_to : takes_fields r.phase (more_of r.message) ≡ true → Ear r
  shut : r.phase ≡ Over → Ear r

pub record Both (m rest : List ℕ) (s r : State) : Type 0 where
  pub sends : Sends m rest s
  pub ear : Ear r
  pub says : Says r
  pub step : s.numbers.expected ≡ r.numbers.next

-- before the piece that is out, behind it, or at the end
pub data Inv (m rest : List ℕ) (s r : State) (k : List ℕ) : Type 0 where
  before : Both m rest s r → r.numbers.expected ≡ not s.numbers.next → r.received ≡ s.message.at → k ≡ take s.message.at m
      → Inv m rest s r k
  behind : Both m rest s r → r.numbers.expected ≡ s.numbers.next → r.received ≡ s.message.at + s.message.size
      → k ≡ take (s.message.at + s.message.size) m → more_of s.message ≡ true → Inv m rest s r k
  whole : r.phase ≡ Due → k ≡ m → Inv m rest s r k

-- an end that stands still
ear_still : (r r' : State) → Still r r' → Ear r → Ear r'
ear_still r r' q e = by q.phase e
  where
    by : Stays r.phase r'.phase → Ear r → Ear r'
    by (on f) (ready_to g) = ready_to (ap₂ (λ (p : Phase) (x : Message). takes_fields p (more_of x)) f q.message ∙ g)
    by (on f) (shut g) = shut (f ∙ g)
    by (over f) g = shut f

stays_still : (p q t : Phase) → Stays p q → Stays q t → Stays p t
stays_still p q t (on e) (on f) = on (f ∙ e)
stays_still p q t (over e) (on f) = over (f ∙ e)
stays_still p q t a (over f) = over f

sends_still : (m rest : List ℕ) (s s' : State) → Still s s' → Sends m rest s → Sends m rest s'
sends_still m rest s s' q d =
    record {
      bytes = ap (λ (x : Message). x.bytes) q.message ∙ d.bytes;
      long = ap (λ (x : Message). x.length) q.message ∙ d.long;
      inside = subst (λ (x : Message). x.at < length m) (sym q.message) d.inside;
      size = ap (λ (x : Message). x.size) q.message
          ∙ (d.size
          ∙ (ap (λ (x : Sizes). min (room x.theirs) (length m - s.message.at)) (sym q.sizes)
          ∙ ap (λ (x : Message). min (room s'.sizes.theirs) (length m - x.at)) (sym q.message)));
      phase = stays_still Sent s.phase s'.phase d.phase q.phase;
      says = q.says;
    }

module _ (m rest : List ℕ) (s r : State) (k : List ℕ) where
  -- the receiver stood still
  receiver_still : (r' : State) → Still r r' → Inv m rest s r k → (r.phase ≡ Due → r'.phase ≡ Due) → Inv m rest s r' k
  receiver_still r' q (before b n c e) f =
      before (record {
        sends = b.sends;
        ear = ear_still r r' q b.ear;
        says = q.says;
        step = b.step ∙ ap
            (λ (x : Numbers). x.next) (sym q.numbers);
      })
      (ap (λ (x : Numbers). x.expected) q.numbers ∙ n) (q.received ∙ c) e
  receiver_still r' q (behind b n c e o) f =
      behind (record {
        sends = b.sends;
        ear = ear_still r r' q b.ear;
        says = q.says;
        step = b.step ∙ ap
            (λ (x : Numbers). x.next) (sym q.numbers);
      })
      (ap (λ (x : Numbers). x.expected) q.numbers ∙ n) (q.received ∙ c) e o
  receiver_still r' q (whole d e) f = whole (f d) e

  -- the sender stood still
  pub sender_still : (s' : State) → Still s s' → Inv m rest s r k → Inv m rest s' r k
  sender_still s' q (before b n c e) =
      before (record {
        sends = sends_still m rest s s' q b.sends;
        ear = b.ear;
        says = b.says;
        step = ap
            (λ (x : Numbers). x.expected) q.numbers ∙ b.step;
      })
      (n ∙ ap (λ (x : Numbers). not x.next) (sym q.numbers)) (c ∙ ap (λ (x : Message). x.at) (sym q.message))
      (e ∙ ap (λ (x : Message). take x.at m) (sym q.message))
  sender_still s' q (behind b n c e o) =
      behind (record {
        sends = sends_still m rest s s' q b.sends;
        ear = b.ear;
        says = b.says;
        step = ap
            (λ (x : Numbers). x.expected) q.numbers ∙ b.step;
      })
      (n ∙ ap (λ (x : Numbers). x.next) (sym q.numbers)) (c ∙ ap (λ (x : Message). x.at + x.size) (sym q.message))
      (e ∙ ap (λ (x : Message). take (x.at + x.size) m) (sym q.message)) (ap more_of q.message ∙ o)
  sender_still s' q (whole d e) = whole d e

-- R-blocks and I-blocks that do not come at their time
pub sent_more : (p : Phase) (more : Bool) → is_sent p ≡ true → takes_fields p more ≡ true → more ≡ true → ⊥
sent_more Start more e f g = false≢true e
sent_more Asking more e f g = false≢true e
sent_more Due more e f g = false≢true e
sent_more Sent more e f g = false≢true (sym (ap not g) ∙ f)
sent_more Receiving more e f g = false≢true e
sent_more Over more e f g = false≢true e

module _ (x : State) (w : Says x) where
  pub ready_passes : (n : Bool) → n ≡ x.numbers.next → takes_fields x.phase (more_of x.message) ≡ true → Passes x (on_ready n x)
  unfolding on_ready
  ready_passes n e f =
      picked (Passes x) _ _ _
      (λ i. subst (Passes x) (sym (pick_yes _ _ _ (ap (λ (y : Bool). equal y x.numbers.next) e ∙ equal_same x.numbers.next)))
      (picked (Passes x) _ _ _ (λ j. absurd (sent_more x.phase (more_of x.message) i f j)) (λ j. passes x w 2)))
      (λ i. passes x w 2)

  pub information_passes : (n more : Bool) (j : ℕ) → equal n x.numbers.expected ≡ false → Passes x (on_information n more j x)
  unfolding on_information
  information_passes n more j e =
      picked (Passes x) _ _ _ (λ f. subst (Passes x) (sym (pick_no _ _ _ e)) (passes x w 2)) (λ f. passes x w 2)

-- behind the last piece nothing is left
all_sent : (m rest : List ℕ) (s : State) → Sends m rest s → more_of s.message ≡ false → s.message.at + s.message.size ≡ length m
unfolding more_of
all_sent m rest s d final =
    let b = ltb-false (s.message.at + s.message.size) s.message.length final in
    let l = d.long in
    let i = piece_inside m rest s d.bytes d.inside d.size in
    omega arith

-- bytes come to the receiver
module _ (m rest : List ℕ) (s r : State) (k : List ℕ) (b : List ℕ) where
  abbrev After : Turn → Type 0
  After t = Inv m rest s t.state (k ++ kept_by t.act (inf_of b))

  passing : (t : Turn) → Passes r t → Inv m rest s r k → (r.phase ≡ Due → t.state.phase ≡ Due) → After t
  passing t p i f =
      subst (λ (y : List ℕ). Inv m rest s t.state y) (sym (ap (λ (y : List ℕ). k ++ y) (p.keeps (inf_of b)) ∙ append-nil k))
      (receiver_still m rest s r k t.state p.still i f)

  -- an end that stopped, or has its message
  over_passes : Says r → r.phase ≡ Over → Passes r (on_block b r)
  unfolding on_block by_phase kept_by
  over_passes w e =
      subst (Passes r) (sym (ap (λ (p : Phase). by_phase p (heard_of b r.sizes.ours) (get_or b 3 0) (len_of b) r) e))
      (record { still = nothing_moved r w; keeps = λ inf. refl })

  due_stays : r.phase ≡ Due → k ≡ m → After (on_block b r)
  unfolding on_block by_phase kept_by
  due_stays e f =
      subst After (sym (ap (λ (p : Phase). by_phase p (heard_of b r.sizes.ours) (get_or b 3 0) (len_of b) r) e))
      (whole e (append-nil k ∙ f))

  not_due : takes_fields r.phase (more_of r.message) ≡ true → {A : Type 0} → r.phase ≡ Due → A
  not_due f e = absurd (false≢true (sym (ap (λ (p : Phase). takes_fields p (more_of r.message)) e) ∙ f))

  -- the field of the piece that is out
  module _ (d : Sends m rest s) (e : k ≡ take s.message.at m) (same : b ≡ info_of s) where
    field_is : k ++ inf_of b ≡ take (s.message.at + s.message.size) m
    field_is =
        ap₂ (λ (x y : List ℕ). x ++ y) e
        (ap inf_of same
        ∙ (field_back (pcb_of_i (not s.numbers.next) (more_of s.message)) (piece_of s) ∙ piece_of_lem m rest s d.bytes d.inside
        d.size))
        ∙ sym (take-add s.message.at s.message.size m)

    len_is : len_of b ≡ s.message.size
    unfolding framed
    len_is = ap len_of same ∙ piece_size m rest s d.bytes d.inside d.size

    taken : Both m rest s r → r.numbers.expected ≡ not s.numbers.next → r.received ≡ s.message.at
        → After (keeps (more_of s.message) (len_of b) r)
    unfolding keeps ready_for kept_by
    taken both n c =
        picked After (more_of s.message) _ _
        (λ more.
        behind (record {
          sends = d;
          ear = ready_to refl;
          says = record { plainly = refl; numbered = λ p f. ap kind_of (same_pcb p f) ∙ kind_of_r (not r.numbers.expected) 0 };
          step = both.step;
        })
        (ap not n ∙ not_not s.numbers.next)
        (ap₂ (λ (x y : ℕ). x + y) c len_is) field_is more)
        (λ final.
        whole refl
        (field_is ∙ (ap (λ (x : ℕ). take x m) (ends final) ∙ take_all (length m) m (omega arith))))
      where
        same_pcb : (p : ℕ) → Ready (pcb_of_r (not r.numbers.expected) 0) ≡ Ready p → p ≡ pcb_of_r (not r.numbers.expected) 0
        same_pcb p f = cc

        ends : more_of s.message ≡ false → s.message.at + s.message.size ≡ length m
        ends final = all_sent m rest s d final

  -- a block heard where fields are taken
  pub on_line_is : takes_fields r.phase (more_of r.message) ≡ true → (h : Heard) → heard_of b r.sizes.ours ≡ h
      → on_block b r ≡ on_line h (get_or b 3 0) (len_of b) r
  unfolding on_block
  on_line_is f h e =
      on_line_lem r.phase (more_of r.message) (heard_of b r.sizes.ours) (get_or b 3 0) (len_of b) r f
      ∙ ap (λ (y : Heard). on_line y (get_or b 3 0) (len_of b) r) e

  limit_passes : Says r → Passes r (ended_by Limit r)
  unfolding kept_by
  limit_passes w =
      record {
        still = record {
          numbers = refl;
          received = refl;
          message = refl;
          sizes = refl;
          phase = over refl;
          says = record { plainly = w.plainly; numbered = w.numbered };
        };
        keeps = λ inf. refl;
      }

  -- any turn of a receiver that takes fields
  heard_before : Both m rest s r → r.numbers.expected ≡ not s.numbers.next → r.received ≡ s.message.at
      → k ≡ take s.message.at m
      → takes_fields r.phase (more_of r.message) ≡ true → Out s b (heard_of b r.sizes.ours) → After (on_block b r)
  unfolding on_line on_kind on_information
  heard_before both n c e f (info same h) =
      subst After
      (sym (on_line_is f _ h
      ∙ (pick_yes _ _ _ f ∙ pick_yes _ _ _ (ap (equal (not s.numbers.next)) n ∙ equal_same (not s.numbers.next)))))
      (picked After _ _ _ (λ g. passing _ (limit_passes both.says) (before both n c e) (not_due f))
      (λ g. taken both.sends e same both n c))
  heard_before both n c e f (ready h) =
      passing _ (subst (Passes r) (sym (on_line_is f _ h)) (ready_passes r both.says s.numbers.expected both.step f))
      (before both n c e)
      (not_due f)
  heard_before both n c e f (answer v h) =
      passing _ (subst (Passes r) (sym (on_line_is f _ h)) (passes r both.says 2)) (before both n c e) (not_due f)
  heard_before both n c e f (bad code h) =
      passing _ (subst (Passes r) (sym (on_line_is f _ h)) (passes r both.says code)) (before both n c e) (not_due f)

  heard_behind : (both : Both m rest s r) → r.numbers.expected ≡ s.numbers.next → Inv m rest s r k
      → takes_fields r.phase (more_of r.message) ≡ true → Out s b (heard_of b r.sizes.ours) → After (on_block b r)
  unfolding on_line on_kind
  heard_behind both n i f (info same h) =
      passing _
      (subst (Passes r) (sym (on_line_is f _ h))
      (information_passes r both.says (not s.numbers.next) (more_of s.message) (len_of b)
      (ap (equal (not s.numbers.next)) n ∙ equal_not s.numbers.next))) i (not_due f)
  heard_behind both n i f (ready h) =
      passing _ (subst (Passes r) (sym (on_line_is f _ h)) (ready_passes r both.says s.numbers.expected both.step f)) i
      (not_due f)
  heard_behind both n i f (answer v h) =
      passing _ (subst (Passes r) (sym (on_line_is f _ h)) (passes r both.says 2)) i (not_due f)
  heard_behind both n i f (bad code h) =
      passing _ (subst (Passes r) (sym (on_line_is f _ h)) (passes r both.says code)) i (not_due f)

  dead : {A : Type 0} → r.phase ≡ Over → r.phase ≡ Due → A
  dead e f = absurd (let z : ◌≡◌ {A = ℕ} 0 1 = cc in omega arith)

  pub comes_forth : Arrives (block_of s) r.sizes.ours b → Inv m rest s r k → After (on_block b r)
  comes_forth a (before both n c e) = ear both.ear
    where
      ear : Ear r → After (on_block b r)
      ear (ready_to f) = heard_before both n c e f (arrived s r.sizes.ours both.sends.says b a)
      ear (shut f) = passing _ (over_passes both.says f) (before both n c e) (dead f)
  comes_forth a (behind both n c e o) = ear both.ear
    where
      ear : Ear r → After (on_block b r)
      ear (ready_to f) = heard_behind both n (behind both n c e o) f (arrived s r.sizes.ours both.sends.says b a)
      ear (shut f) = passing _ (over_passes both.says f) (behind both n c e o) (dead f)
  comes_forth a (whole d e) = due_stays d e
