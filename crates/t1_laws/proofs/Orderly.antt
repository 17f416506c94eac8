-- An end as it is after any events, and what a turn of such an end sends: no I-block, the one that is out once more, or one with the
-- other number. Assumes nothing.
use mathlib.Core.Path.{◌≡◌, refl, sym, ap, ap₂, subst, ◌∙◌}
use mathlib.Core.Bool.{Bool, true, false, not, false≢true}
use mathlib.Core.List.{List, [], ◌∷◌}
use Prim.Native.Nat.{ℕ, ◌+◌, ◌-◌, ◌<◌, ◌≤◌, min}
use native.Mathlib.Omega.{arith}
use lib.ListN.{length, take, drop, length-take}
use borrow.Author.Tests.{le-leb}
use Rattle.slices.proofs.Choice.{pick_yes, pick_no, picked, either}
use Rattle.t1_block.specs.Blocks.{pcb_of, inf_most, kind_of, pcb_of_i, pcb_of_r, pcb_of_s, framed, written}
use Rattle.t1_block.specs.declared.What.{What}
use Rattle.t1_block.specs.declared.What.TheVariants.{Resynch, Ifs, Abort, Wtx}
use Rattle.t1_state.specs.Limits.{room, information_limit, more_of}
use Rattle.t1_state.specs.Changes.{at_phase, sending}
use Rattle.t1_state.specs.declared.Role.{Role}
use Rattle.t1_state.specs.declared.Role.TheVariants.{Terminal, Card}
use Rattle.t1_state.specs.declared.Phase.{Phase}
use Rattle.t1_state.specs.declared.Phase.TheVariants.{Start, Asking, Due, Sent, Receiving, Over}
use Rattle.t1_state.specs.declared.Last.{Last}
use Rattle.t1_state.specs.declared.Last.TheVariants.{Nothing, Information, Ready, Request, Response}
use Rattle.t1_state.specs.declared.State.{State}
use Rattle.t1_state.specs.declared.End.{End}
use Rattle.t1_state.specs.declared.Refusal.{Refusal}
use Rattle.t1_state.specs.declared.Numbers.{Numbers}
use Rattle.t1_state.specs.declared.Counts.{Counts}
use Rattle.t1_state.specs.declared.Message.{Message}
use Rattle.t1_state.specs.declared.Act.TheVariants.{Nothing as Quiet}
use Rattle.t1_state.specs.declared.Turn.{Turn}
use Rattle.t1_again.specs.Again.{goes_out, ended_by, refused_as, ready_for, remains}
use Rattle.t1_line.specs.Line.{answers, sends_piece, sends_next, is_sent, keeps}
use Rattle.t1_asking.specs.Asking.{settled}
use Rattle.t1_turns.specs.Turns.{asks_for, message_of}
use Rattle.t1.specs.Steps.{Event, block, silence, hello, ask, send, turn_of, block_for, block_of, sent_by, fresh_end}
use Rattle.t1_laws.specs.Stopping.{is_same}
use Rattle.t1_laws.specs.Conduct.{listens, is_request, fits}
use Rattle.t1_laws.specs.Sendings.{present, is_i, only_i, carried, number_of}
use Rattle.t1_laws.proofs.Reading.{kind_i, kind_request, kind_response}
use Rattle.t1_laws.proofs.Still.{kind_of_r}
use Rattle.t1_laws.proofs.Pieces.{room_high}
use Rattle.t1_laws.proofs.Cases.{every_block, every_silence, every_hello, every_ask, every_send}

-- the I-block that is out, or was last
abbrev pub info_block : State → List ℕ
info_block s = block_for Information s

-- an end as it is after any events
pub record Orderly (s : State) : Type 0 where
  pub fit : fits s.phase s.last ≡ true
  pub small : s.message.size ≤ 254
  pub other : (p : ℕ) → s.last ≡ Ready p → is_i (kind_of p) ≡ false

-- I-blocks among what is sent
pub skip : (x : List ℕ) (bs : List (List ℕ)) → only_i (present x []) ≡ [] → only_i (present x bs) ≡ only_i bs
unfolding only_i present
skip [] bs e = refl
skip (y ∷ x) bs e =
    either (is_i (kind_of (pcb_of (y ∷ x))))
    (λ f. absurd (some (sym (pick_yes (is_i (kind_of (pcb_of (y ∷ x)))) ((y ∷ x) ∷ []) [] f) ∙ e))) (λ f. pick_no _ _ _ f)
  where
    some : (y ∷ x) ∷ [] ≡ [] → ⊥
    some g = let z : ◌≡◌ {A = ℕ} 0 1 = cc in omega arith

framed_shown : (pcb : ℕ) (inf : List ℕ) (bs : List (List ℕ)) → is_i (kind_of pcb) ≡ true
    → only_i (present (framed pcb inf) bs) ≡ framed pcb inf ∷ only_i bs
unfolding only_i present framed
framed_shown pcb inf bs e = pick_yes _ _ _ e

framed_hidden : (pcb : ℕ) (inf : List ℕ) → is_i (kind_of pcb) ≡ false → only_i (present (framed pcb inf) []) ≡ []
unfolding only_i present framed
framed_hidden pcb inf e = pick_no _ _ _ e

pub nothing_shown : only_i (present [] []) ≡ []
unfolding only_i present
nothing_shown = refl

unseen : (pcb : ℕ) (inf : List ℕ) → is_i (kind_of pcb) ≡ false → only_i (present (written pcb inf) []) ≡ []
unfolding written
unseen pcb inf e =
    picked (λ (x : List ℕ). only_i (present x []) ≡ []) _ _ _ (λ f. framed_hidden pcb inf e) (λ f. nothing_shown)

module _ (s : State) where
  abbrev piece : List ℕ
  piece = take s.message.size (drop s.message.at s.message.bytes)

  info_is : s.message.size ≤ 254 → info_block s ≡ framed (pcb_of_i (not s.numbers.next) (more_of s.message)) piece
  unfolding block_for written
  info_is h = pick_yes _ _ _ (le-leb (length piece) inf_most
      (let n = length-take s.message.size (drop s.message.at s.message.bytes) in omega arith))

  pub shown : s.message.size ≤ 254 → (bs : List (List ℕ)) → only_i (present (info_block s) bs) ≡ info_block s ∷ only_i bs
  shown h bs =
      ap (λ (x : List ℕ). only_i (present x bs)) (info_is h)
      ∙ (framed_shown _ piece bs (ap is_i (kind_i (not s.numbers.next) (more_of s.message)))
      ∙ ap (λ (x : List ℕ). x ∷ only_i bs) (sym (info_is h)))

  pub number_is : s.message.size ≤ 254 → number_of (info_block s) ≡ not s.numbers.next
  unfolding number_of framed
  number_is h = ap number_of (info_is h) ∙ ap carried (kind_i (not s.numbers.next) (more_of s.message))

-- what a turn sends
pub data Goes (s : State) (t : Turn) : Type 0 where
  none : only_i (present (sent_by t.act t.state) []) ≡ [] → info_block t.state ≡ info_block s
      → t.state.counts.information ≡ s.counts.information → t.state.numbers.next ≡ s.numbers.next
      → (is_sent t.state.phase ≡ true → is_sent s.phase ≡ true) → Goes s t
  again : s.phase ≡ Sent → sent_by t.act t.state ≡ info_block s → info_block t.state ≡ info_block s
      → s.counts.information < information_limit s.role → t.state.counts.information ≡ s.counts.information + 1 → Goes s t
  new : sent_by t.act t.state ≡ info_block t.state → t.state.counts.information ≡ 1
      → t.state.numbers.next ≡ not s.numbers.next → Goes s t

pub record Sound (s : State) (t : Turn) : Type 0 where
  pub orderly : Orderly t.state
  pub role : t.state.role ≡ s.role
  pub goes : Goes s t

-- nothing goes out, or none of the I-blocks
not_sent : (x : List ℕ) → x ≡ [] → only_i (present x []) ≡ []
not_sent x e = ap (λ (y : List ℕ). only_i (present y [])) e ∙ nothing_shown

last_hidden : (s : State) (l : Last) → s.last ≡ l → is_same l ≡ true → ((p : ℕ) → s.last ≡ Ready p → is_i (kind_of p) ≡ false)
    → (x : State)
    → only_i (present (block_for l x) []) ≡ []
unfolding block_for
last_hidden s Nothing e f g x = absurd (false≢true f)
last_hidden s Information e f g x = absurd (false≢true f)
last_hidden s (Ready p) e f g x = unseen p [] (g p e)
last_hidden s (Request w v) e f g x = unseen (pcb_of_s false w) (v ∷ []) (ap is_i (kind_request w))
last_hidden s (Response w v) e f g x = absurd (false≢true f)

small_piece : (theirs at l : ℕ) → min (room theirs) (l - at) ≤ 254
small_piece theirs at l = let h = room_high theirs in omega arith

-- the turns of an orderly end
module _ (s : State) (o : Orderly s) where
  refused_sound : (why : Refusal) → Sound s (refused_as why s)
  unfolding sent_by
  refused_sound why = record { orderly = o; role = refl; goes = none nothing_shown refl refl refl (λ e. e) }

  ended_sound : (e : End) → Sound s (ended_by e s)
  unfolding sent_by block_for
  ended_sound e =
      record {
        orderly = record { fit = refl; small = o.small; other = o.other };
        role = refl;
        goes = none nothing_shown refl refl refl (λ f. absurd (false≢true f));
      }

  remains_sound : Sound s (remains s)
  unfolding sent_by
  remains_sound = record { orderly = o; role = refl; goes = none nothing_shown refl refl refl (λ e. e) }

  listening_fit : (l : Last) → is_request l ≡ false → (p : Phase) → listens p ≡ true → fits p l ≡ true
  listening_fit l e Start f = absurd (false≢true f)
  listening_fit l e Asking f = absurd (false≢true f)
  listening_fit l e Due f = absurd (false≢true f)
  listening_fit l e Sent f = ap not e
  listening_fit l e Receiving f = ap not e
  listening_fit l e Over f = absurd (false≢true f)

  ready_sound : (code : ℕ) → listens s.phase ≡ true → Sound s (goes_out (ready_for code s))
  unfolding sent_by block_of block_for ready_for
  ready_sound code e =
      record {
        orderly = record {
          fit = listening_fit (Ready (pcb_of_r s.numbers.expected code)) refl s.phase e;
          small = o.small;
          other = λ p f. ap (λ (q : ℕ). is_i (kind_of q)) (same_pcb p f) ∙ ap is_i (kind_of_r s.numbers.expected code);
        };
        role = refl;
        goes = none (unseen (pcb_of_r s.numbers.expected code) [] (ap is_i (kind_of_r s.numbers.expected code))) refl refl refl (λ f. f);
      }
    where
      same_pcb : (p : ℕ) → Ready (pcb_of_r s.numbers.expected code) ≡ Ready p → p ≡ pcb_of_r s.numbers.expected code
      same_pcb p f = cc

  same_sound : (c : Counts) → c.information ≡ s.counts.information → is_same s.last ≡ true → Sound s (goes_out (sending s.last c s))
  unfolding sent_by block_of block_for
  same_sound c e f =
      record {
        orderly = record { fit = o.fit; small = o.small; other = o.other };
        role = refl;
        goes = none (last_hidden s s.last refl f o.other _) refl e refl (λ g. g);
      }

  again_sound : s.phase ≡ Sent → s.counts.information < information_limit s.role
      → Sound s (goes_out (sending Information (record { information = s.counts.information + 1; same = s.counts.same }) s))
  unfolding sent_by block_of block_for
  again_sound e f =
      record {
        orderly = record {
          fit = ap (λ (p : Phase). fits p Information) e;
          small = o.small;
          other = λ p g. absurd (let z : ◌≡◌ {A = ℕ} 0 1 = cc in omega arith);
        };
        role = refl;
        goes = again e refl refl f refl;
      }

  answer_sound : (w : What) (v : ℕ) (x : State) → x.message ≡ s.message → x.counts ≡ s.counts → x.numbers ≡ s.numbers
      → x.phase ≡ s.phase → x.role ≡ s.role → listens s.phase ≡ true → Sound s (answers w v x)
  unfolding sent_by block_of block_for answers
  answer_sound w v x m c n p r e =
      record {
        orderly = record {
          fit = listening_fit (Response w v) refl x.phase (ap listens p ∙ e);
          small = subst (λ (y : Message). y.size ≤ 254) (sym m) o.small;
          other = λ q g. absurd (let z : ◌≡◌ {A = ℕ} 0 1 = cc in omega arith);
        };
        role = r;
        goes = none (unseen (pcb_of_s true w) (v ∷ []) (ap is_i (kind_response w))) (same_info x m n)
            (ap (λ (y : Counts). y.information) c)
            (ap (λ (y : Numbers). y.next) n) (λ f. ap is_sent (sym p) ∙ f);
      }
    where
      same_info : (x : State) → x.message ≡ s.message → x.numbers ≡ s.numbers → info_block x ≡ info_block s
      same_info x m n =
          ap₂ (λ (y : Message) (z : Numbers). written (pcb_of_i (not z.next) (more_of y)) (take y.size (drop y.at y.bytes))) m n

  piece_sound : (m : Message) → m.size ≤ 254 → Sound s (goes_out (sends_piece m s))
  unfolding sent_by block_of block_for sends_piece
  piece_sound m h =
      record {
        orderly = record { fit = refl; small = h; other = λ p g. absurd (let z : ◌≡◌ {A = ℕ} 0 1 = cc in omega arith) };
        role = refl;
        goes = new refl refl refl;
      }

  next_sound : Sound s (goes_out (sends_next s))
  unfolding sends_next
  next_sound = piece_sound _ (small_piece s.sizes.theirs (s.message.at + s.message.size) s.message.length)

  pub send_sound : (m : List ℕ) → Sound s (goes_out (sends_piece (message_of s.sizes.theirs m) s))
  unfolding message_of
  send_sound m = piece_sound _ (small_piece s.sizes.theirs 0 (length m))

  keeps_sound : (more : Bool) (n : ℕ) → Sound s (keeps more n s)
  unfolding keeps ready_for sent_by block_of block_for
  keeps_sound more n =
      picked (Sound s) more _ _
      (λ e. record {
        orderly = record {
          fit = refl;
          small = o.small;
          other = λ p f. ap (λ (q : ℕ). is_i (kind_of q)) (same_pcb p f) ∙ ap is_i (kind_of_r (not s.numbers.expected) 0);
        };
        role = refl;
        goes = none (unseen (pcb_of_r (not s.numbers.expected) 0) [] (ap is_i (kind_of_r (not s.numbers.expected) 0))) refl refl refl
            (λ f. absurd (false≢true f));
      })
      (λ e. record {
        orderly = record { fit = refl; small = o.small; other = o.other };
        role = refl;
        goes = none nothing_shown refl refl refl (λ f. absurd (false≢true f));
      })
    where
      same_pcb : (p : ℕ) → Ready (pcb_of_r (not s.numbers.expected) 0) ≡ Ready p → p ≡ pcb_of_r (not s.numbers.expected) 0
      same_pcb p f = cc

  settled_sound : (w : What) (v : ℕ) → Sound s (record { state = at_phase Due (settled w v s); act = Quiet })
  unfolding sent_by block_for
  settled_sound Resynch v = quiet
    where
      quiet : Sound s (record { state = at_phase Due s; act = Quiet })
      quiet =
          record {
            orderly = record { fit = refl; small = o.small; other = o.other };
            role = refl;
            goes = none nothing_shown refl refl refl (λ f. absurd (false≢true f));
          }
  settled_sound Ifs v =
      record {
        orderly = record { fit = refl; small = o.small; other = o.other };
        role = refl;
        goes = none nothing_shown refl refl refl (λ f. absurd (false≢true f));
      }
  settled_sound Abort v =
      record {
        orderly = record { fit = refl; small = o.small; other = o.other };
        role = refl;
        goes = none nothing_shown refl refl refl (λ f. absurd (false≢true f));
      }
  settled_sound Wtx v =
      record {
        orderly = record { fit = refl; small = o.small; other = o.other };
        role = refl;
        goes = none nothing_shown refl refl refl (λ f. absurd (false≢true f));
      }

  pub asks_sound : (w : What) (v : ℕ) → Sound s (goes_out (asks_for w v s))
  unfolding asks_for sent_by block_of block_for
  asks_sound w v =
      record {
        orderly = record { fit = refl; small = o.small; other = λ p f. absurd (let z : ◌≡◌ {A = ℕ} 0 1 = cc in omega arith) };
        role = refl;
        goes = none (unseen (pcb_of_s false w) (v ∷ []) (ap is_i (kind_request w))) refl refl refl (λ f. absurd (false≢true f));
      }

  pub event_sound : (e : Event) → Sound s (turn_of e s)
  unfolding turn_of
  event_sound (block b) =
      every_block s o.fit (Sound s) (λ why w. refused_sound why) (λ e w. ended_sound e) (λ e f g. remains_sound) ready_sound
      (λ w i h. same_sound _ refl i) again_sound (λ w v e. answer_sound w v s refl refl refl refl refl e)
      (λ v e f. answer_sound Ifs v _ refl refl refl refl refl e) (λ e f. next_sound) (λ more n e f. keeps_sound more n)
      (λ w v e f. settled_sound w v) b
  event_sound silence =
      every_silence s o.fit (Sound s) (λ why w. refused_sound why) (λ e w. ended_sound e) (λ e f g. remains_sound) ready_sound
      (λ w i h. same_sound _ refl i) again_sound (λ w v e. answer_sound w v s refl refl refl refl refl e)
      (λ v e f. answer_sound Ifs v _ refl refl refl refl refl e) (λ e f. next_sound) (λ more n e f. keeps_sound more n)
      (λ w v e f. settled_sound w v)
  event_sound hello = every_hello s (Sound s) refused_sound (λ e. asks_sound Ifs 0xFE)
  event_sound (ask w v) = every_ask s (Sound s) refused_sound w v (λ e f g. asks_sound w v)
  event_sound (send m) = every_send s (Sound s) refused_sound m (λ e f. send_sound m)

-- from the beginning
pub fresh_orderly : (role : Role) (theirs ours : ℕ) → Orderly (fresh_end role theirs ours)
unfolding fresh_end
fresh_orderly Terminal theirs ours =
    record { fit = refl; small = omega arith; other = λ p f. absurd (let z : ◌≡◌ {A = ℕ} 0 1 = cc in omega arith) }
fresh_orderly Card theirs ours =
    record { fit = refl; small = omega arith; other = λ p f. absurd (let z : ◌≡◌ {A = ℕ} 0 1 = cc in omega arith) }
