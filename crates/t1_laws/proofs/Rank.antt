-- Every arrival brings two ends nearer to a place where nothing is under way. While a request is open the asking end repeats it at most
-- three times; while a piece is out the other end says at most three times that it did not come, whatever the line does, since its
-- R-blocks count and nothing but a piece that is kept starts them anew; and a piece that is kept leaves fewer bytes. Assumes nothing.
use mathlib.Core.Path.{◌≡◌, refl, sym, ap, ap₂, subst, ◌∙◌}
use mathlib.Core.Bool.{Bool, true, false, not, false≢true}
use mathlib.Core.List.{List, []}
use Prim.Native.Nat.{ℕ, ◌+◌, ◌*◌, ◌-◌, ◌≤◌}
use native.Mathlib.Omega.{arith}
use lib.ListN.{get_or}
use borrow.Author.Tests.{ltb-true}
use Rattle.slices.specs.Choice.{pick}
use Rattle.slices.proofs.Choice.{pick_yes, pick_no, picked}
use Rattle.t1_block.specs.Blocks.{len_of}
use Rattle.t1_block.specs.Faults.{Heard, heard_of}
use Rattle.t1_state.specs.Limits.{same_limit, more_of}
use Rattle.t1_state.specs.Changes.{sending as sent_as}
use Rattle.t1_state.specs.declared.Phase.{Phase}
use Rattle.t1_state.specs.declared.Phase.TheVariants.{Sent}
use Rattle.t1_state.specs.declared.Last.{Last}
use Rattle.t1_state.specs.declared.Last.TheVariants.{Nothing, Information, Ready, Request, Response}
use Rattle.t1_state.specs.declared.Numbers.{Numbers}
use Rattle.t1_state.specs.declared.Message.{Message}
use Rattle.t1_state.specs.declared.State.{State}
use Rattle.t1_state.specs.declared.End.{End}
use Rattle.t1_state.specs.declared.End.TheVariants.{Limit}
use Rattle.t1_state.specs.declared.Act.TheVariants.{Send, Keep, Value}
use Rattle.t1_state.specs.declared.Turn.{Turn}
use Rattle.t1_again.specs.Again.{goes_out, ended_by, ready_for, exhausted, same_again, wrong_after, wrong, stays_open, remains}
use Rattle.t1_line.specs.Line.{equal, sends_piece, sends_next, is_sent, on_ready, takes_fields, keeps, on_information, on_kind, on_line}
use Rattle.t1_turns.specs.Turns.{by_phase, on_block}
use Rattle.t1.specs.Steps.{block_of}
use Rattle.t1_laws.specs.Conduct.{listens}
use Rattle.t1_laws.specs.Lossy.{Arrives}
use Rattle.t1_laws.specs.Talks.{Side}
use Rattle.t1_laws.proofs.Rounds.{equal_same}
use Rattle.t1_laws.proofs.Stopping.{same_limit_lem}
use Rattle.t1_laws.proofs.Still.{plain, Says, Passes, again_passes, passes}
use Rattle.t1_laws.proofs.Hearing.{Out, info, ready, answer, bad, arrived, equal_not}
use Rattle.t1_laws.proofs.Lossy.{Both, Inv, before, behind, whole, sent_more, information_passes, on_line_is}
use Rattle.t1_laws.proofs.Meeting.{Way, empty, there, here, Met, idle, asking, sending}
use Rattle.t1_laws.proofs.Messages.{due_not}

-- how often an end may still say that a piece did not come
abbrev pub tries_of : Last → ℕ → ℕ
tries_of Nothing same = 3
tries_of Information same = 3
tries_of (Ready p) same = 3 - same
tries_of (Request w v) same = 3
tries_of (Response w v) same = 3

abbrev pub tries : State → ℕ
tries y = tries_of y.last y.counts.same

-- how many bytes of x's message y does not have
abbrev pub lacks : State → State → ℕ
lacks x y =
    pick (equal y.numbers.expected x.numbers.next) (x.message.length - (x.message.at + x.message.size))
    (x.message.length - x.message.at)

abbrev pub ask_way : Way → ℕ
ask_way empty = 0
ask_way (there b) = 2
ask_way (here b) = 1

abbrev pub send_way : Way → ℕ
send_way empty = 0
send_way (there b) = 1
send_way (here b) = 2

abbrev pub rank_of : {x y : Side} {w : Way} → Met x y w → ℕ
rank_of {x} {y} {w} (idle l p e) = 0
rank_of {x} {y} {w} (asking l p f) = 2 * (3 - x.end.counts.same) + ask_way w
rank_of {x} {y} {w} (sending m rest g f) = 6 * lacks x.end y.end + 2 * tries y.end + send_way w

-- an R-block more, a try less
pub tries_most : (l : Last) (n : ℕ) → tries_of l n ≤ 3
tries_most Nothing n = omega arith
tries_most Information n = omega arith
tries_most (Ready p) n = omega arith
tries_most (Request w v) n = omega arith
tries_most (Response w v) n = omega arith

module _ (y : State) where
  -- what is said where a piece is not taken
  abbrev Lowers : Turn → Type 0
  Lowers t = (t.act ≡ Send → tries t.state + 1 ≤ tries y) × (t.act ≡ Value → ⊥) × (t.act ≡ Keep → ⊥)

  ended_lowers : (e : End) → Lowers (ended_by e y)
  ended_lowers e = (
    λ f. absurd (let z : ◌≡◌ {A = ℕ} 0 1 = cc in omega arith),
    λ f. let z : ◌≡◌ {A = ℕ} 0 1 = cc in omega arith,
    λ f. let z : ◌≡◌ {A = ℕ} 0 1 = cc in omega arith,
  )

  quiet_lowers : Lowers (remains y)
  quiet_lowers = (
    λ f. absurd (let z : ◌≡◌ {A = ℕ} 0 1 = cc in omega arith),
    λ f. let z : ◌≡◌ {A = ℕ} 0 1 = cc in omega arith,
    λ f. let z : ◌≡◌ {A = ℕ} 0 1 = cc in omega arith,
  )

  send_lowers : (x : State) → tries x + 1 ≤ tries y → Lowers (goes_out x)
  send_lowers x h = (λ f. h, λ f. let z : ◌≡◌ {A = ℕ} 0 1 = cc in omega arith, λ f. let z : ◌≡◌ {A = ℕ} 0 1 = cc in omega arith)

  wrong_lowers : (code : ℕ) (l : Last) → y.last ≡ l → Says y → Lowers (wrong_after l code y)
  unfolding wrong_after ready_for same_again exhausted
  wrong_lowers code Nothing e w = send_lowers (ready_for code y) (let n = ap (λ (k : Last). tries_of k y.counts.same) e in omega arith)
  wrong_lowers code Information e w = send_lowers (ready_for code y) (let n = ap (λ (k : Last). tries_of k y.counts.same) e in omega arith)
  wrong_lowers code (Ready p) e w =
      picked Lowers _ _ _
      (λ f. send_lowers (sent_as y.last (record { information = y.counts.information; same = y.counts.same + 1 }) y)
      (let b = ltb-true y.counts.same (same_limit y.role y.last) f in
      let k = same_limit_lem y.role y.last in
      let n = ap (λ (z : Last). tries_of z y.counts.same) e in
      let m = ap (λ (z : Last). tries_of z (y.counts.same + 1)) e in
      omega arith))
      (λ f. picked Lowers (stays_open y.role y.last) (remains y) (ended_by Limit y) (λ g. quiet_lowers) (λ g. ended_lowers Limit))
  wrong_lowers code (Request v u) e w = absurd (false≢true (sym (ap plain e) ∙ w.plainly))
  wrong_lowers code (Response v u) e w = send_lowers (ready_for code y)
      (let n = ap (λ (k : Last). tries_of k y.counts.same) e in omega arith)

  pub lowers : (code : ℕ) → Says y → Lowers (wrong code y)
  unfolding wrong
  lowers code w = wrong_lowers code y.last refl w

-- y's turn while x's message is on its way
module _ (m rest : List ℕ) (x y : State) (b : List ℕ) (both : Both m rest x y)
    (ears : takes_fields y.phase (more_of y.message) ≡ true) (out : Out x b (heard_of b y.sizes.ours)) where
  -- where the piece that is out has not come: kept, or a try less
  abbrev Tried : Turn → Type 0
  Tried t = (t.act ≡ Send → tries t.state + 1 ≤ tries y) × (t.act ≡ Value → ⊥)

  lowered : (t : Turn) → Lowers y t → Tried t
  lowered t l = (l.0, l.1)

  ready_tried : (n : Bool) → n ≡ y.numbers.next → Lowers y (on_ready n y)
  unfolding on_ready
  ready_tried n e =
      picked (Lowers y) _ _ _
      (λ i. subst (Lowers y) (sym (pick_yes _ _ _ (ap (λ (z : Bool). equal z y.numbers.next) e ∙ equal_same y.numbers.next)))
      (picked (Lowers y) _ _ _ (λ j. absurd (sent_more y.phase (more_of y.message) i ears j)) (λ j. lowers y 2 both.says)))
      (λ i. lowers y 2 both.says)

  kept_tried : (more : Bool) (n : ℕ) → Tried (keeps more n y)
  unfolding keeps
  kept_tried more n =
      picked Tried more _ _
      (λ e. (λ f. absurd (let z : ◌≡◌ {A = ℕ} 0 1 = cc in omega arith), λ f. let z : ◌≡◌ {A = ℕ} 0 1 = cc in omega arith))
      (λ e. (λ f. absurd (let z : ◌≡◌ {A = ℕ} 0 1 = cc in omega arith), λ f. let z : ◌≡◌ {A = ℕ} 0 1 = cc in omega arith))

  info_tried : (n more : Bool) (k : ℕ) → Tried (on_information n more k y)
  unfolding on_information
  info_tried n more k =
      picked Tried _ _ _
      (λ e. picked Tried _ _ _
      (λ f. picked Tried _ _ _ (λ g. lowered (ended_by Limit y) (ended_lowers y Limit)) (λ g. kept_tried more k))
      (λ f. lowered (wrong 2 y) (lowers y 2 both.says)))
      (λ e. lowered (wrong 2 y) (lowers y 2 both.says))

  tried_by : Out x b (heard_of b y.sizes.ours) → Tried (on_block b y)
  unfolding on_line on_kind
  tried_by (info same h) = subst Tried (sym (on_line_is m rest x y [] b ears _ h)) (info_tried _ _ _)
  tried_by (ready h) = subst Tried (sym (on_line_is m rest x y [] b ears _ h))
      (lowered (on_ready x.numbers.expected y) (ready_tried x.numbers.expected both.step))
  tried_by (answer v h) = subst Tried (sym (on_line_is m rest x y [] b ears _ h)) (lowered (wrong 2 y) (lowers y 2 both.says))
  tried_by (bad c h) = subst Tried (sym (on_line_is m rest x y [] b ears _ h)) (lowered (wrong c y) (lowers y c both.says))

  pub tried : Tried (on_block b y)
  tried = tried_by out

  -- behind the piece nothing is kept
  old_lowers : (n more : Bool) (k : ℕ) → equal n y.numbers.expected ≡ false → Lowers y (on_information n more k y)
  unfolding on_information
  old_lowers n more k e =
      picked (Lowers y) _ _ _ (λ f. subst (Lowers y) (sym (pick_no _ _ _ e)) (lowers y 2 both.says)) (λ f. lowers y 2 both.says)

  behind_by : y.numbers.expected ≡ x.numbers.next → Out x b (heard_of b y.sizes.ours) → Lowers y (on_block b y)
  unfolding on_line on_kind
  behind_by n (info same h) =
      subst (Lowers y) (sym (on_line_is m rest x y [] b ears _ h))
      (old_lowers (not x.numbers.next) (more_of x.message) (len_of b) (ap (equal (not x.numbers.next)) n ∙ equal_not x.numbers.next))
  behind_by n (ready h) = subst (Lowers y) (sym (on_line_is m rest x y [] b ears _ h)) (ready_tried _ both.step)
  behind_by n (answer v h) = subst (Lowers y) (sym (on_line_is m rest x y [] b ears _ h)) (lowers y 2 both.says)
  behind_by n (bad c h) = subst (Lowers y) (sym (on_line_is m rest x y [] b ears _ h)) (lowers y c both.says)

  pub never_kept : y.numbers.expected ≡ x.numbers.next → (on_block b y).act ≡ Keep → ⊥
  never_kept n e = (behind_by n out).2 e

pub other : (n : Bool) → equal n (not n) ≡ false
unfolding equal pick
other true = refl
other false = refl

-- x's turn: the piece again, or the next one, and no more bytes are lacking
module _ (m rest : List ℕ) (x y : State) (b : List ℕ) (live : x.phase ≡ Sent) where
  abbrev Lacks : Turn → Type 0
  Lacks t = lacks t.state y ≤ lacks x y

  line_is : (h : Heard) → heard_of b x.sizes.ours ≡ h → on_block b x ≡ on_line h (get_or b 3 0) (len_of b) x
  unfolding on_block by_phase
  line_is h f =
      ap (λ (p : Phase). by_phase p (heard_of b x.sizes.ours) (get_or b 3 0) (len_of b) x) live
      ∙ ap (λ (z : Heard). on_line z (get_or b 3 0) (len_of b) x) f

  still_lacks : (t : Turn) → Passes x t → Lacks t
  still_lacks t p =
      let e : lacks t.state y ≡ lacks x y
      = ap₂ (λ (n : Numbers) (k : Message). pick (equal y.numbers.expected n.next) (k.length - (k.at + k.size)) (k.length - k.at))
      p.still.numbers p.still.message
      in
      omega arith

  next_lacks : y.numbers.expected ≡ x.numbers.next → Lacks (goes_out (sends_next x))
  unfolding sends_next sends_piece
  next_lacks n =
      let away : equal y.numbers.expected (not x.numbers.next) ≡ false
      = ap (λ (z : Bool). equal z (not x.numbers.next)) n ∙ other x.numbers.next
      in
      let same : equal y.numbers.expected x.numbers.next ≡ true
      = ap (λ (z : Bool). equal z x.numbers.next) n ∙ equal_same x.numbers.next
      in
      let a = pick_no (equal y.numbers.expected (not x.numbers.next))
      (x.message.length - (x.message.at + x.message.size + (sends_next x).message.size))
      (x.message.length - (x.message.at + x.message.size)) away
      in
      let c = pick_yes (equal y.numbers.expected x.numbers.next) (x.message.length - (x.message.at + x.message.size))
      (x.message.length - x.message.at) same
      in
      omega arith

  pub lacks_less : Arrives (block_of y) x.sizes.ours b → (k : List ℕ) → Inv m rest x y k → listens y.phase ≡ true → Lacks (on_block b x)
  unfolding on_line on_kind on_ready
  lacks_less a k (before both n c e) f = by (arrived y x.sizes.ours both.says b a)
    where
      by : Out y b (heard_of b x.sizes.ours) → Lacks (on_block b x)
      by (info same h) =
          still_lacks (on_block b x) (subst (Passes x) (sym (line_is _ h))
          (information_passes x both.sends.says (not y.numbers.next) (more_of y.message) (len_of b)
          (ap (equal (not y.numbers.next)) both.step ∙ equal_not y.numbers.next)))
      by (ready h) =
          still_lacks (on_block b x) (subst (Passes x)
          (sym (line_is _ h
          ∙ (pick_yes _ _ _ (ap is_sent live)
          ∙ pick_no _ _ _ (ap (λ (z : Bool). equal z x.numbers.next) n ∙ equal_not x.numbers.next))))
          (again_passes x both.sends.says))
      by (answer v h) = still_lacks (on_block b x) (subst (Passes x) (sym (line_is _ h)) (passes x both.sends.says 2))
      by (bad code h) = still_lacks (on_block b x) (subst (Passes x) (sym (line_is _ h)) (passes x both.sends.says code))
  lacks_less a k (behind both n c e o) f = by (arrived y x.sizes.ours both.says b a)
    where
      by : Out y b (heard_of b x.sizes.ours) → Lacks (on_block b x)
      by (info same h) =
          still_lacks (on_block b x) (subst (Passes x) (sym (line_is _ h))
          (information_passes x both.sends.says (not y.numbers.next) (more_of y.message) (len_of b)
          (ap (equal (not y.numbers.next)) both.step ∙ equal_not y.numbers.next)))
      by (ready h) =
          subst Lacks
          (sym (line_is _ h
          ∙ (pick_yes _ _ _ (ap is_sent live)
          ∙ (pick_yes _ _ _ (ap (λ (z : Bool). equal z x.numbers.next) n ∙ equal_same x.numbers.next) ∙ pick_yes _ _ _ o))))
          (next_lacks n)
      by (answer v h) = still_lacks (on_block b x) (subst (Passes x) (sym (line_is _ h)) (passes x both.sends.says 2))
      by (bad code h) = still_lacks (on_block b x) (subst (Passes x) (sym (line_is _ h)) (passes x both.sends.says code))
  lacks_less a k (whole d e) f = due_not y.phase d f
