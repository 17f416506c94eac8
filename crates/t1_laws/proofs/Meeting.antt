-- Two ends and the line between them, seen from the end whose turn it is: x is to send, or asks, or sends a message of which y has all
-- before the piece that is out, or that piece too. Every arrival leads from one of these to one of these, the roles changed where the
-- message is whole, or to an end that has stopped or fallen silent. Assumes nothing.
use mathlib.Core.Path.{◌≡◌, refl, sym, ap, ap₂, subst, ◌∙◌}
use mathlib.Core.Bool.{Bool, true, false, false≢true}
use mathlib.Core.List.{List, [], ◌∷◌, ◌++◌, append-nil}
use Prim.Native.Nat.{ℕ, ◌+◌}
use native.Mathlib.Omega.{arith}
use lib.ListN.{length, get_or, take}
use lib.Seq.{take_all}
use Rattle.std.specs.Prelude.{Ok, Err}
use Rattle.slices.specs.Choice.{pick}
use Rattle.slices.proofs.Choice.{pick_yes, pick_no, picked}
use Rattle.t1_block.specs.Blocks.{len_of, inf_of, pcb_of_s, framed, written}
use Rattle.t1_block.specs.Faults.{Heard, tested, heard_as, heard_of}
use Rattle.t1_block.specs.declared.What.{What}
use Rattle.t1_block.specs.declared.What.TheVariants.{Resynch, Ifs, Abort, Wtx}
use Rattle.t1_block.specs.declared.Kind.TheVariants.{Request as Asks}
use Rattle.t1_state.specs.Limits.{more_of}
use Rattle.t1_state.specs.declared.Role.{Role}
use Rattle.t1_state.specs.declared.Role.TheVariants.{Terminal, Card}
use Rattle.t1_state.specs.declared.Phase.{Phase}
use Rattle.t1_state.specs.declared.Phase.TheVariants.{Start, Asking, Due, Sent, Receiving, Over}
use Rattle.t1_state.specs.declared.Last.{Last}
use Rattle.t1_state.specs.declared.Last.TheVariants.{Nothing, Information, Ready, Request, Response}
use Rattle.t1_state.specs.declared.Numbers.{Numbers}
use Rattle.t1_state.specs.declared.State.{State}
use Rattle.t1_state.specs.declared.End.{End}
use Rattle.t1_state.specs.declared.End.TheVariants.{Abort as Aborted}
use Rattle.t1_state.specs.declared.Act.{Act}
use Rattle.t1_state.specs.declared.Act.TheVariants.{Send, Keep, Value, Whole, Refuse, Nothing as Quiet, End as Ends}
use Rattle.t1_state.specs.declared.Turn.{Turn}
use Rattle.t1_again.specs.Again.{ended_by, wrong, for_role}
use Rattle.t1_line.specs.Line.{answers, on_request, takes_fields, on_kind, on_line}
use Rattle.t1_turns.specs.Turns.{on_block}
use Rattle.t1.specs.Steps.{block_for, block_of, kept_by}
use Rattle.t1_laws.specs.Stopping.{is_bad, awaits}
use Rattle.t1_laws.specs.Conduct.{listens, is_request, fits}
use Rattle.t1_laws.specs.Lossy.{Arrives, intact, spoiled}
use Rattle.t1_laws.specs.Talks.{Side, speaks, whole_by, part_by, heard, InOrder}
use Rattle.t1_laws.proofs.Reading.{kind_request}
use Rattle.t1_laws.proofs.Rounds.{on_line_lem}
use Rattle.t1_laws.proofs.Still.{Says, passes}
use Rattle.t1_laws.proofs.Hearing.{Hears, as_it_is, as_bad, hears_any}
use Rattle.t1_laws.proofs.Lossy.{Inv, before, behind, whole}
use Rattle.t1_laws.proofs.Manner.{Listened, says, replies, takes, stops, listened, Unmoved, Asked, asks, settles, remains, asked}
use Rattle.t1_laws.proofs.Manner.{whole as has_whole, stops as stops_asking}

-- what is on the line, seen from x
pub data Way : Type 0 where
  empty : Way
  there : List ℕ → Way
  here : List ℕ → Way

-- all messages have come; y listens, and expects the number of x's next I-block
pub record Level (x y : Side) : Type 0 where
  pub ears : takes_fields y.end.phase (more_of y.end.message) ≡ true
  pub says : Says y.end
  pub number : y.end.numbers.expected ≡ x.end.numbers.next
  pub step : x.end.numbers.expected ≡ y.end.numbers.next
  pub none : x.end.received ≡ 0
  pub none' : y.end.received ≡ 0
  pub part : x.part ≡ []
  pub part' : y.part ≡ []
  pub all : x.given ≡ y.whole
  pub all' : y.given ≡ x.whole

-- a message m of x's is on its way
pub record Going (m rest : List ℕ) (x y : Side) : Type 0 where
  pub inv : Inv m rest x.end y.end y.part
  pub live : x.end.phase ≡ Sent
  pub ears : takes_fields y.end.phase (more_of y.end.message) ≡ true
  pub none : x.end.received ≡ 0
  pub part : x.part ≡ []
  pub all : x.given ≡ y.whole ++ (m ∷ [])
  pub all' : y.given ≡ x.whole

-- the block under way is the last one of the end that sent it
pub data Flies (x y : Side) (w : Way) : Type 0 where
  to_y : w ≡ there (block_of x.end) → Flies x y w
  to_x : w ≡ here (block_of y.end) → Flies x y w

pub data Met (x y : Side) (w : Way) : Type 0 where
  idle : Level x y → x.end.phase ≡ Due → w ≡ empty → Met x y w
  asking : Level x y → x.end.phase ≡ Asking → Flies x y w → Met x y w
  sending : (m rest : List ℕ) → Going m rest x y → Flies x y w → Met x y w

pub record Apart (x y : Side) : Type 0 where
  pub there : InOrder x.given y.whole y.part
  pub back : InOrder y.given x.whole x.part

pub data Left (x y : Side) (w : Way) : Type 0 where
  goes_on_lem : Met x y w → Left x y w
  changes : w ≡ empty → Met y x empty → Left x y w
  x_stops : x.end.phase ≡ Over → w ≡ empty → awaits y.end.phase ≡ true → Apart x y → Left x y w
  y_stops : y.end.phase ≡ Over → w ≡ empty → awaits x.end.phase ≡ true → Apart x y → Left x y w
  x_mute : x.end.phase ≡ Asking → x.end.role ≡ Card → w ≡ empty → awaits y.end.phase ≡ true → Apart x y → Left x y w

-- in order all the time
pub level_order : (x y : Side) → Level x y → Apart x y
level_order x y l =
    record {
      there = record { rest = []; split = append-nil y.whole ∙ sym l.all; begins = l.part' };
      back = record { rest = []; split = append-nil x.whole ∙ sym l.all'; begins = l.part };
    }

pub begun_part : (m rest : List ℕ) (s r : State) (k : List ℕ) → Inv m rest s r k → (n : ℕ) × (k ≡ take n m)
begun_part m rest s r k (before b n c e) = (s.message.at, e)
begun_part m rest s r k (behind b n c e o) = (s.message.at + s.message.size, e)
begun_part m rest s r k (whole d e) = (length m, e ∙ sym (take_all (length m) m (omega arith)))

pub going_order : (m rest : List ℕ) (x y : Side) → (n : ℕ) × (y.part ≡ take n m) → x.part ≡ [] → x.given ≡ y.whole ++ (m ∷ [])
    → y.given ≡ x.whole → Apart x y
going_order m rest x y k p a b =
    record {
      there = record { rest = m ∷ []; split = sym a; begins = k };
      back = record { rest = []; split = append-nil x.whole ∙ sym b; begins = p };
    }

pub takes_awaits : (p : Phase) (more : Bool) → takes_fields p more ≡ true → awaits p ≡ true
takes_awaits Start more e = absurd (false≢true e)
takes_awaits Asking more e = refl
takes_awaits Due more e = absurd (false≢true e)
takes_awaits Sent more e = refl
takes_awaits Receiving more e = refl
takes_awaits Over more e = absurd (false≢true e)

pub takes_listens : (p : Phase) (more : Bool) → takes_fields p more ≡ true → listens p ≡ true
takes_listens Start more e = absurd (false≢true e)
takes_listens Asking more e = absurd (false≢true e)
takes_listens Due more e = absurd (false≢true e)
takes_listens Sent more e = refl
takes_listens Receiving more e = refl
takes_listens Over more e = absurd (false≢true e)

-- an end that hears a request, or nothing valid, answers it or says that it heard nothing, and is otherwise as it was
pub record Calm (y : State) (t : Turn) : Type 0 where
  pub numbers : t.state.numbers ≡ y.numbers
  pub received : t.state.received ≡ y.received
  pub message : t.state.message ≡ y.message
  pub says : Says t.state
  pub keeps : (inf : List ℕ) → kept_by t.act inf ≡ []

module _ (y : State) (w : Says y) where
  calm_wrong : (code : ℕ) → Calm y (wrong code y)
  calm_wrong code =
      let p = passes y w code in
      let q = p.still in
      record { numbers = q.numbers; received = q.received; message = q.message; says = q.says; keeps = p.keeps }

  calm_role : (r : Role) (t c : Turn) → Calm y t → Calm y c → Calm y (for_role r t c)
  unfolding for_role
  calm_role Terminal t c p q = p
  calm_role Card t c p q = q

  calm_answer : (v : What) (u : ℕ) (x : State) → x.numbers ≡ y.numbers → x.received ≡ y.received → x.message ≡ y.message
      → Calm y (answers v u x)
  unfolding answers kept_by
  calm_answer v u x n r m =
      record {
        numbers = n;
        received = r;
        message = m;
        says = record { plainly = refl; numbered = λ p e. absurd (let z : ◌≡◌ {A = ℕ} 0 1 = cc in omega arith) };
        keeps = λ inf. refl;
      }

  calm_end : (e : End) → Calm y (ended_by e y)
  unfolding kept_by
  calm_end e =
      record {
        numbers = refl;
        received = refl;
        message = refl;
        says = record { plainly = w.plainly; numbered = w.numbered };
        keeps = λ inf. refl;
      }

  calm_request : (v : What) (u : ℕ) → Calm y (on_request v u y)
  unfolding on_request
  calm_request Resynch u = calm_wrong 2
  calm_request Ifs u = picked (Calm y) _ _ _ (λ e. calm_answer Ifs u _ refl refl refl) (λ e. calm_wrong 2)
  calm_request Abort u = calm_role y.role _ _ (calm_end Aborted) (calm_wrong 2)
  calm_request Wtx u = calm_role y.role _ _ (calm_answer Wtx u y refl refl refl) (calm_wrong 2)

  calm_heard : (v : What) (h : Heard) (u n : ℕ) → Hears h (Asks v) → Calm y (on_line h u n y)
  unfolding on_line on_kind
  calm_heard v h u n (as_it_is e) = subst (λ (g : Heard). Calm y (on_line g u n y)) (sym e) (calm_request v u)
  calm_heard v h u n (as_bad c e) = subst (λ (g : Heard). Calm y (on_line g u n y)) (sym e) (calm_wrong c)

nothing_heard : (most : ℕ) (v : What) → Hears (heard_of [] most) (Asks v)
unfolding heard_of heard_as tested pick
nothing_heard most v = as_bad 2 refl

-- what comes of a request
hears_request : (l : Last) (x : State) (most : ℕ) (b : List ℕ) → is_request l ≡ true → Arrives (block_for l x) most b
    → (v : What) × Hears (heard_of b most) (Asks v)
unfolding block_for written framed
hears_request Nothing x most b e a = absurd (false≢true e)
hears_request Information x most b e a = absurd (false≢true e)
hears_request (Ready p) x most b e a = absurd (false≢true e)
hears_request (Request v u) x most b e (intact f) = (
  v,
  subst (λ (c : List ℕ). Hears (heard_of c most) (Asks v)) (sym f)
      (picked (λ (c : List ℕ). Hears (heard_of c most) (Asks v)) _ _ _
      (λ g. hears_any (framed (pcb_of_s false v) (u ∷ [])) most (Asks v) (kind_request v))
      (λ g. nothing_heard most v)),
)
hears_request (Request v u) x most b e (spoiled f) = (v, bad_heard (heard_of b most) f)
  where
    bad_heard : (h : Heard) → is_bad h ≡ true → Hears h (Asks v)
    bad_heard (Ok k) g = absurd (false≢true g)
    bad_heard (Err c) g = as_bad c refl
hears_request (Response v u) x most b e a = absurd (false≢true e)

-- a request comes to y, or what the line makes of it
pub calm : (x y : State) (b : List ℕ) → Says y → takes_fields y.phase (more_of y.message) ≡ true → is_request x.last ≡ true
    → Arrives (block_of x) y.sizes.ours b → Calm y (on_block b y)
unfolding on_block block_of
calm x y b w f e a =
    let h = hears_request x.last x y.sizes.ours b e a in
    subst (Calm y) (sym (on_line_lem y.phase (more_of y.message) (heard_of b y.sizes.ours) (get_or b 3 0) (len_of b) y f))
    (calm_heard y w h.0 (heard_of b y.sizes.ours) (get_or b 3 0) (len_of b) h.1)

some : ◌≡◌ {A = List ℕ} [] (0 ∷ []) → ⊥
some f = let z : ◌≡◌ {A = ℕ} 0 1 = cc in omega arith

not_kept : (y : State) (t : Turn) → Calm y t → t.act ≡ Keep → ⊥
unfolding kept_by
not_kept y t c e = some (sym (c.keeps (0 ∷ [])) ∙ ap (λ (a : Act). kept_by a (0 ∷ [])) e)

not_whole : (y : State) (t : Turn) → Calm y t → (n : ℕ) → t.act ≡ Whole n → ⊥
unfolding kept_by
not_whole y t c n e = some (sym (c.keeps (0 ∷ [])) ∙ ap (λ (a : Act). kept_by a (0 ∷ [])) e)

-- turns that neither lengthen nor complete what has come
abbrev pub keeps_none : Act → Bool
keeps_none Quiet = true
keeps_none Send = true
keeps_none Keep = false
keeps_none Value = true
keeps_none (Whole n) = false
keeps_none (Ends e) = true
keeps_none (Refuse why) = true

pub whole_same : (a : Act) (ms : List (List ℕ)) (m : List ℕ) → keeps_none a ≡ true → whole_by a ms m ≡ ms
whole_same Quiet ms m e = refl
whole_same Send ms m e = refl
whole_same Keep ms m e = absurd (false≢true e)
whole_same Value ms m e = refl
whole_same (Whole n) ms m e = absurd (false≢true e)
whole_same (Ends f) ms m e = refl
whole_same (Refuse why) ms m e = refl

pub part_same : (a : Act) (p inf : List ℕ) → keeps_none a ≡ true → part_by a p inf ≡ p
part_same Quiet p inf e = refl
part_same Send p inf e = refl
part_same Keep p inf e = absurd (false≢true e)
part_same Value p inf e = refl
part_same (Whole n) p inf e = absurd (false≢true e)
part_same (Ends f) p inf e = refl
part_same (Refuse why) p inf e = refl

module _ (x y : Side) (b : List ℕ) where
  -- y hears something and keeps none of it, or x does
  abbrev pub y_turn : Turn
  y_turn = on_block b y.end

  abbrev pub x_turn : Turn
  x_turn = on_block b x.end

  abbrev pub y_after : Side
  y_after = heard b y_turn y

  abbrev pub x_after : Side
  x_after = heard b x_turn x

  abbrev pub y_way : Way
  y_way = pick (speaks y_turn.act) (here (block_of y_turn.state)) empty

  abbrev pub x_way : Way
  x_way = pick (speaks x_turn.act) (there (block_of x_turn.state)) empty

  pub y_order : keeps_none y_turn.act ≡ true → Apart x y → Apart x y_after
  y_order e o =
      record {
        there = subst (λ (p : List ℕ). InOrder x.given y_after.whole p) (sym (part_same y_turn.act y.part (inf_of b) e))
            (subst (λ (ms : List (List ℕ)). InOrder x.given ms y.part) (sym (whole_same y_turn.act y.whole (y.part ++ inf_of b) e))
            o.there);
        back = o.back;
      }

  pub x_order : keeps_none x_turn.act ≡ true → Apart x y → Apart x_after y
  x_order e o =
      record {
        there = o.there;
        back = subst (λ (p : List ℕ). InOrder y.given x_after.whole p) (sym (part_same x_turn.act x.part (inf_of b) e))
            (subst (λ (ms : List (List ℕ)). InOrder y.given ms x.part) (sym (whole_same x_turn.act x.whole (x.part ++ inf_of b) e))
            o.back);
      }

  -- x asks, and y hears it
  module _ (l : Level x y) (asks_x : x.end.phase ≡ Asking) (fit : fits x.end.phase x.end.last ≡ true)
      (fit' : fits y.end.phase y.end.last ≡ true) where
    pub is_request_lem : is_request x.end.last ≡ true
    is_request_lem = subst (λ (p : Phase). fits p x.end.last ≡ true) asks_x fit

    pub y_level : Calm y.end y_turn → keeps_none y_turn.act ≡ true → y_turn.state.phase ≡ y.end.phase → Level x y_after
    y_level c e p =
        record {
          ears = ap₂ takes_fields p (ap more_of c.message) ∙ l.ears;
          says = c.says;
          number = ap (λ (n : Numbers). n.expected) c.numbers ∙ l.number;
          step = l.step ∙ sym (ap (λ (n : Numbers). n.next) c.numbers);
          none = l.none;
          none' = c.received ∙ l.none';
          part = l.part;
          part' = part_same y_turn.act y.part (inf_of b) e ∙ l.part';
          all = l.all ∙ sym (whole_same y_turn.act y.whole (y.part ++ inf_of b) e);
          all' = l.all';
        }

    pub request_comes : Arrives (block_of x.end) y.end.sizes.ours b → Left x y_after y_way
    request_comes a = by (calm x.end y.end b l.says l.ears is_request_lem a)
        (listened y.end fit' b (takes_listens y.end.phase (more_of y.end.message) l.ears))
      where
        by : Calm y.end y_turn → Listened y.end y_turn → Left x y_after y_way
        by c (says e p r n) =
            goes_on_lem (asking (y_level c (ap keeps_none e) p) asks_x (to_x (pick_yes _ _ _ (ap speaks e))))
        by c (replies e p r n) =
            goes_on_lem (asking (y_level c (ap keeps_none e) p) asks_x (to_x (pick_yes _ _ _ (ap speaks e))))
        by c (takes e p n k q l) = absurd (not_kept y.end y_turn c e)
        by c (has_whole n e p) = absurd (not_whole y.end y_turn c n e)
        by c (stops f e p) =
            y_stops p (pick_no _ _ _ (ap speaks e)) (ap awaits asks_x) (y_order (ap keeps_none e) (level_order x y l))

    -- and what comes back to x
    pub x_level : Unmoved x.end x_turn.state → keeps_none x_turn.act ≡ true → Level x_after y
    x_level u e =
        record {
          ears = l.ears;
          says = l.says;
          number = l.number ∙ sym (ap (λ (n : Numbers). n.next) u.numbers);
          step = ap (λ (n : Numbers). n.expected) u.numbers ∙ l.step;
          none = u.received ∙ l.none;
          none' = l.none';
          part = part_same x_turn.act x.part (inf_of b) e ∙ l.part;
          part' = l.part';
          all = l.all;
          all' = l.all' ∙ sym (whole_same x_turn.act x.whole (x.part ++ inf_of b) e);
        }

    pub reply_comes : Left x_after y x_way
    reply_comes = by (asked x.end fit b asks_x)
      where
        ready : awaits y.end.phase ≡ true
        ready = takes_awaits y.end.phase (more_of y.end.message) l.ears

        by : Asked x.end x_turn → Left x_after y x_way
        by (asks e p u f n) = goes_on_lem (asking (x_level u (ap keeps_none e)) p (to_y (pick_yes _ _ _ (ap speaks e))))
        by (settles e p u) = goes_on_lem (idle (x_level u (ap keeps_none e)) p (pick_no _ _ _ (ap speaks e)))
        by (stops_asking f e p u) =
            x_stops p (pick_no _ _ _ (ap speaks e)) ready (x_order (ap keeps_none e) (level_order x y l))
        by (remains e s c) =
            x_mute (ap (λ (z : State). z.phase) s ∙ asks_x) (ap (λ (z : State). z.role) s ∙ c) (pick_no _ _ _ (ap speaks e)) ready
            (x_order (ap keeps_none e) (level_order x y l))
