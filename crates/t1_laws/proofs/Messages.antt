-- A message on its way between two ends: each arrival brings the piece that is out, or asks for it, or is not taken; the last piece makes
-- the message whole, and then the other end is to send. Assumes nothing.
use mathlib.Core.Path.{◌≡◌, refl, sym, ap, ap₂, subst, ◌∙◌}
use mathlib.Core.Bool.{true, not, false≢true}
use mathlib.Core.List.{List, [], ◌∷◌, ◌++◌, append-nil}
use Prim.Native.Nat.{ℕ}
use native.Mathlib.Omega.{arith}
use Rattle.slices.proofs.Choice.{pick_yes, pick_no}
use Rattle.t1_block.specs.Blocks.{inf_of}
use Rattle.t1_state.specs.Limits.{more_of}
use Rattle.t1_state.specs.declared.Phase.{Phase}
use Rattle.t1_state.specs.declared.Phase.TheVariants.{Due, Sent, Receiving, Over}
use Rattle.t1_state.specs.declared.State.{State}
use Rattle.t1_state.specs.declared.Act.{Act}
use Rattle.t1_state.specs.declared.Act.TheVariants.{Send, Keep, Value, Whole, Refuse, Nothing as Quiet, End as Ends}
use Rattle.t1_state.specs.declared.Turn.{Turn}
use Rattle.t1_line.specs.Line.{takes_fields}
use Rattle.t1.specs.Steps.{block_of, kept_by}
use Rattle.t1_laws.specs.Stopping.{awaits}
use Rattle.t1_laws.specs.Conduct.{listens, fits}
use Rattle.t1_laws.specs.Lossy.{Arrives}
use Rattle.t1_laws.specs.Talks.{Side, speaks, part_by, whole_by}
use Rattle.t1_laws.proofs.Rounds.{not_not}
use Rattle.t1_laws.proofs.Still.{Stays, on, over}
use Rattle.t1_laws.proofs.Hearing.{arrived}
use Rattle.t1_laws.proofs.Lossy.{Ear, ready_to, shut, Both, Inv, before, behind, whole, comes_forth}
use Rattle.t1_laws.proofs.Arriving.{comes_back}
use Rattle.t1_laws.proofs.Completing.{Came, completes, never_completes}
use Rattle.t1_laws.proofs.Manner.{Listened, says, replies, takes, stops, listened}
use Rattle.t1_laws.proofs.Manner.{whole as has_whole}
use Rattle.t1_laws.proofs.Meeting.{Level, Going, to_y, to_x, idle, sending, Apart}
use Rattle.t1_laws.proofs.Meeting.{Left, goes_on_lem, changes, x_stops, y_stops, going_order, begun_part, takes_listens, takes_awaits}
use Rattle.t1_laws.proofs.Meeting.{keeps_none, part_same, whole_same, y_turn, x_turn, y_after, x_after, y_way, x_way, y_order, x_order}

-- what a phase says of an invariant
over_not : (p : Phase) → p ≡ Over → listens p ≡ true → {A : Type 0} → A
over_not p e f = absurd (false≢true (sym (ap listens e) ∙ f))

pub due_not : (p : Phase) → p ≡ Due → listens p ≡ true → {A : Type 0} → A
due_not p e f = absurd (false≢true (sym (ap listens e) ∙ f))

module _ (m rest : List ℕ) (s r : State) (k : List ℕ) where
  ear_takes : Ear r → listens r.phase ≡ true → takes_fields r.phase (more_of r.message) ≡ true
  ear_takes (ready_to f) e = f
  ear_takes (shut f) e = over_not r.phase f e

  live_ears : Inv m rest s r k → listens r.phase ≡ true → takes_fields r.phase (more_of r.message) ≡ true
  live_ears (before b n c e) f = ear_takes b.ear f
  live_ears (behind b n c e o) f = ear_takes b.ear f
  live_ears (whole d e) f = due_not r.phase d f

  due_whole : Inv m rest s r k → r.phase ≡ Due → k ≡ m
  due_whole (before b n c e) d = deaf b.ear
    where
      deaf : Ear r → k ≡ m
      deaf (ready_to f) = absurd (false≢true (sym (ap (λ (p : Phase). takes_fields p (more_of r.message)) d) ∙ f))
      deaf (shut f) = absurd (let z : ◌≡◌ {A = ℕ} 0 1 = cc in omega arith)
  due_whole (behind b n c e o) d = deaf b.ear
    where
      deaf : Ear r → k ≡ m
      deaf (ready_to f) = absurd (false≢true (sym (ap (λ (p : Phase). takes_fields p (more_of r.message)) d) ∙ f))
      deaf (shut f) = absurd (let z : ◌≡◌ {A = ℕ} 0 1 = cc in omega arith)
  due_whole (whole d e) f = e

  sender_stays : Inv m rest s r k → listens r.phase ≡ true → Stays Sent s.phase
  sender_stays (before b n c e) f = b.sends.phase
  sender_stays (behind b n c e o) f = b.sends.phase
  sender_stays (whole d e) f = due_not r.phase d f

-- what is kept, beside what has come
kept_part : (a : Act) (p inf : List ℕ) → keeps_none a ≡ true → p ++ kept_by a inf ≡ part_by a p inf
unfolding kept_by
kept_part Quiet p inf e = append-nil p
kept_part Send p inf e = append-nil p
kept_part Keep p inf e = absurd (false≢true e)
kept_part Value p inf e = append-nil p
kept_part (Whole n) p inf e = absurd (false≢true e)
kept_part (Ends f) p inf e = append-nil p
kept_part (Refuse why) p inf e = append-nil p

module _ (m rest : List ℕ) (x y : Side) (b : List ℕ) (g : Going m rest x y) (fit : fits x.end.phase x.end.last ≡ true)
    (fit' : fits y.end.phase y.end.last ≡ true) where
  ordered : Apart x y
  ordered = going_order m rest x y (begun_part m rest x.end y.end y.part g.inv) g.part g.all g.all'

  y_listens : listens y.end.phase ≡ true
  y_listens = takes_listens y.end.phase (more_of y.end.message) g.ears

  x_listens : listens x.end.phase ≡ true
  x_listens = ap listens g.live

  -- x's block comes to y
  module _ (a : Arrives (block_of x.end) y.end.sizes.ours b) where
    abbrev t : Turn
    t = y_turn x y b

    y_inv : Inv m rest x.end t.state (y.part ++ kept_by t.act (inf_of b))
    y_inv = comes_forth m rest x.end y.end y.part b a g.inv

    y_going : (q : List ℕ) → q ≡ y.part ++ kept_by t.act (inf_of b) → part_by t.act y.part (inf_of b) ≡ q
        → whole_by t.act y.whole (y.part ++ inf_of b) ≡ y.whole → listens t.state.phase ≡ true → Going m rest x (y_after x y b)
    y_going q e f h p =
        record {
          inv = subst (Inv m rest x.end t.state) (sym (f ∙ e)) y_inv;
          live = g.live;
          ears = live_ears m rest x.end t.state _ y_inv p;
          none = g.none;
          part = g.part;
          all = g.all ∙ ap (λ (ms : List (List ℕ)). ms ++ (m ∷ [])) (sym h);
          all' = g.all';
        }

    pub spoken : keeps_none t.act ≡ true → t.state.phase ≡ y.end.phase → Going m rest x (y_after x y b)
    spoken e p =
        y_going _ refl (sym (kept_part t.act y.part (inf_of b) e)) (whole_same t.act y.whole (y.part ++ inf_of b) e)
        (ap listens p ∙ y_listens)

    pub kept : t.act ≡ Keep → t.state.phase ≡ Receiving → Going m rest x (y_after x y b)
    unfolding kept_by
    kept e p =
        y_going _ refl (ap (λ (z : Act). part_by z y.part (inf_of b)) e ∙ sym (ap (λ (z : Act). y.part ++ kept_by z (inf_of b)) e))
        (ap (λ (z : Act). whole_by z y.whole (y.part ++ inf_of b)) e) (ap listens p)

    came : (n : ℕ) → t.act ≡ Whole n → Inv m rest x.end y.end y.part
        → Came x.end y.end t.state × (Both m rest x.end y.end) × (y.end.numbers.expected ≡ not x.end.numbers.next)
    came n e (before both k c f) =
        (completes m rest x.end y.end b both k g.ears (arrived x.end y.end.sizes.ours both.sends.says b a) n e, both, k)
    came n e (behind both k c f o) =
        never_completes m rest x.end y.end b both k g.ears (arrived x.end y.end.sizes.ours both.sends.says b a) n e
    came n e (whole d f) = due_not y.end.phase d y_listens

    pub complete : (n : ℕ) → t.act ≡ Whole n → t.state.phase ≡ Due → Level (y_after x y b) x
    unfolding kept_by
    complete n e p =
        let c = came n e g.inv in
        let all_of_it : y.part ++ inf_of b ≡ m
        = ap (λ (z : Act). y.part ++ kept_by z (inf_of b)) (sym e) ∙ due_whole m rest x.end t.state _ y_inv p
        in
        record {
          ears = ap₂ takes_fields g.live c.0.final;
          says = c.1.sends.says;
          number = c.1.step ∙ sym c.0.next;
          step = c.0.expected ∙ (ap not c.2 ∙ not_not x.end.numbers.next);
          none = c.0.received;
          none' = g.none;
          part = ap (λ (z : Act). part_by z y.part (inf_of b)) e;
          part' = g.part;
          all = g.all';
          all' = g.all
              ∙ (ap (λ (q : List ℕ). y.whole ++ (q ∷ [])) (sym all_of_it)
              ∙ sym (ap (λ (z : Act). whole_by z y.whole (y.part ++ inf_of b)) e));
        }

    pub piece_comes : Left x (y_after x y b) (y_way x y b)
    piece_comes = by (listened y.end fit' b y_listens)
      where
        by : Listened y.end t → Left x (y_after x y b) (y_way x y b)
        by (says e p r n) = goes_on_lem (sending m rest (spoken (ap keeps_none e) p) (to_x (pick_yes _ _ _ (ap speaks e))))
        by (replies e p r n) = goes_on_lem (sending m rest (spoken (ap keeps_none e) p) (to_x (pick_yes _ _ _ (ap speaks e))))
        by (takes e p n k q l) = goes_on_lem (sending m rest (kept e p) (to_x (pick_yes _ _ _ (ap speaks e))))
        by (has_whole n e p) = changes (pick_no _ _ _ (ap speaks e)) (idle (complete n e p) p refl)
        by (stops f e p) =
            y_stops p (pick_no _ _ _ (ap speaks e)) (ap awaits g.live) (y_order x y b (ap keeps_none e) ordered)

  -- y's block comes back to x
  module _ (a : Arrives (block_of y.end) x.end.sizes.ours b) where
    abbrev u : Turn
    u = x_turn x y b

    x_inv : Inv m rest u.state y.end y.part
    x_inv = comes_back m rest x.end y.end y.part b a g.inv

    x_sent : (p : Phase) → u.state.phase ≡ p → Stays Sent p
    x_sent p e = subst (Stays Sent) e (sender_stays m rest u.state y.end y.part x_inv y_listens)

    pub answered : keeps_none u.act ≡ true → u.state.phase ≡ x.end.phase → u.state.received ≡ x.end.received
        → Going m rest (x_after x y b) y
    answered e p r =
        record {
          inv = x_inv;
          live = p ∙ g.live;
          ears = g.ears;
          none = r ∙ g.none;
          part = part_same u.act x.part (inf_of b) e ∙ g.part;
          all = g.all;
          all' = g.all' ∙ sym (whole_same u.act x.whole (x.part ++ inf_of b) e);
        }

    not_receiving : Stays Sent Receiving → {A : Type 0} → A
    not_receiving (on e) = absurd (let z : ◌≡◌ {A = ℕ} 0 1 = cc in omega arith)
    not_receiving (over e) = absurd (let z : ◌≡◌ {A = ℕ} 0 1 = cc in omega arith)

    not_due : Stays Sent Due → {A : Type 0} → A
    not_due (on e) = absurd (let z : ◌≡◌ {A = ℕ} 0 1 = cc in omega arith)
    not_due (over e) = absurd (let z : ◌≡◌ {A = ℕ} 0 1 = cc in omega arith)

    pub response_comes : Left (x_after x y b) y (x_way x y b)
    response_comes = by (listened x.end fit b x_listens)
      where
        by : Listened x.end u → Left (x_after x y b) y (x_way x y b)
        by (says e p r n) = goes_on_lem (sending m rest (answered (ap keeps_none e) p r) (to_y (pick_yes _ _ _ (ap speaks e))))
        by (replies e p r n) = goes_on_lem (sending m rest (answered (ap keeps_none e) p r) (to_y (pick_yes _ _ _ (ap speaks e))))
        by (takes e p n k q l) = not_receiving (x_sent Receiving p)
        by (has_whole n e p) = not_due (x_sent Due p)
        by (stops f e p) =
            x_stops p (pick_no _ _ _ (ap speaks e)) (takes_awaits y.end.phase (more_of y.end.message) g.ears)
            (x_order x y b (ap keeps_none e) ordered)
