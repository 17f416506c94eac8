-- One round of two joined ends: the receiver keeps the piece that is out, and the sender brings out the next. Assumes nothing.
use mathlib.Core.Path.{◌≡◌, refl, sym, ap, ap₂, ◌∙◌}
use mathlib.Core.Bool.{Bool, true, false, not}
use mathlib.Core.List.{List, [], ◌++◌}
use Prim.Native.Nat.{ℕ, ◌+◌, ◌-◌, ◌<◌, ◌≤◌, min}
use native.Mathlib.Omega.{arith}
use lib.ListN.{length, get_or, take, drop}
use lib.Seq.{take-add}
use borrow.Author.Tests.{eq-eqb, ne_eqb, le-leb, le-ltb, ltb-true, ltb-false}
use Rattle.std.specs.Prelude.{Ok}
use Rattle.slices.specs.Choice.{pick}
use Rattle.slices.proofs.Choice.{pick_yes, pick_no}
use Rattle.t1_block.specs.Blocks.{len_of, inf_of, pcb_of_i, pcb_of_r, framed}
use Rattle.t1_block.specs.Faults.{Heard, sized, heard_of}
use Rattle.t1_block.proofs.Framing.{not_too_long}
use Rattle.t1_block.specs.declared.Kind.TheVariants.{Information as I, Ready as R}
use Rattle.t1_state.specs.Limits.{message_most, room, more_of}
use Rattle.t1_state.specs.declared.Phase.{Phase}
use Rattle.t1_state.specs.declared.Phase.TheVariants.{Start, Asking, Due, Sent, Receiving, Over}
use Rattle.t1_state.specs.declared.Last.{Last}
use Rattle.t1_state.specs.declared.Last.TheVariants.{Information}
use Rattle.t1_state.specs.declared.State.{State}
use Rattle.t1_again.specs.Again.{goes_out, ready_for}
use Rattle.t1_line.specs.Line.{equal, sends_piece, sends_next, takes_fields, is_sent, on_ready, keeps, on_information, on_kind, on_line}
use Rattle.t1_turns.specs.Turns.{by_phase, on_block}
use Rattle.t1.specs.Steps.{block_for, block_of}
use Rattle.t1_laws.proofs.Pieces.{piece_low, piece_high, piece_inside, piece_of_lem, piece_size}
use Rattle.t1_laws.proofs.Reading.{field_back, heard_back, kind_i, kind_r}

pub equal_same : (a : Bool) → equal a a ≡ true
unfolding equal pick
equal_same true = refl
equal_same false = refl

pub not_not : (b : Bool) → not (not b) ≡ b
not_not true = refl
not_not false = refl

-- a message under way: its piece is out, the receiver has kept all before it and expects the piece's number
pub record Going (m rest : List ℕ) (s r : State) (k : List ℕ) : Type 0 where
  pub out : s.last ≡ Information
  pub phase : s.phase ≡ Sent
  pub bytes : s.message.bytes ≡ m ++ rest
  pub long : s.message.length ≡ length m
  pub inside : s.message.at < length m
  pub size : s.message.size ≡ min (room s.sizes.theirs) (length m - s.message.at)
  pub number : r.numbers.expected ≡ not s.numbers.next
  pub takes : takes_fields r.phase (more_of r.message) ≡ true
  pub received : r.received ≡ s.message.at
  pub kept : k ≡ take s.message.at m
  pub fits : room s.sizes.theirs ≤ r.sizes.ours
  pub most : length m ≤ message_most

-- an end that takes fields looks at a block as one without a request of its own
pub on_line_lem : (p : Phase) (more : Bool) (h : Heard) (v n : ℕ) (r : State) → takes_fields p more ≡ true → by_phase p h v n r
    ≡ on_line h v n r
unfolding by_phase
on_line_lem Start more h v n r e = absurd (let z : ◌≡◌ {A = ℕ} 0 1 = cc in omega arith)
on_line_lem Asking more h v n r e = absurd (let z : ◌≡◌ {A = ℕ} 0 1 = cc in omega arith)
on_line_lem Due more h v n r e = absurd (let z : ◌≡◌ {A = ℕ} 0 1 = cc in omega arith)
on_line_lem Sent more h v n r e = refl
on_line_lem Receiving more h v n r e = refl
on_line_lem Over more h v n r e = absurd (let z : ◌≡◌ {A = ℕ} 0 1 = cc in omega arith)

module _ (m rest : List ℕ) (s r : State) (k : List ℕ) (g : Going m rest s r k) where
  abbrev at : ℕ
  at = s.message.at

  abbrev n : ℕ
  n = s.message.size

  abbrev piece : List ℕ
  piece = take n (drop at s.message.bytes)

  pub n_low : 1 ≤ n
  n_low = piece_low m rest s g.bytes g.inside g.size

  pub n_high : n ≤ 254
  n_high = piece_high m rest s g.bytes g.inside g.size

  pub n_room : n ≤ r.sizes.ours
  n_room = let f = g.fits in let e = g.size in omega arith

  pub n_inside : at + n ≤ length m
  n_inside = piece_inside m rest s g.bytes g.inside g.size

  pub piece_is : piece ≡ take n (drop at m)
  piece_is = piece_of_lem m rest s g.bytes g.inside g.size

  pub piece_length : length piece ≡ n
  piece_length = piece_size m rest s g.bytes g.inside g.size

  -- the block that is out, and what the receiver hears
  pub block_is : block_of s ≡ framed (pcb_of_i (not s.numbers.next) (more_of s.message)) piece
  unfolding block_of block_for
  block_is =
      ap (λ (l : Last). block_for l s) g.out
      ∙ not_too_long _ piece (let l = piece_length in let h = n_high in omega arith)

  heard : heard_of (framed (pcb_of_i (not s.numbers.next) (more_of s.message)) piece) r.sizes.ours ≡ Ok
      (I (not s.numbers.next) (more_of s.message))
  unfolding sized
  heard =
      let l = piece_length in let low = n_low in let high = n_high in let fit = n_room in
      heard_back _ piece r.sizes.ours (I (not s.numbers.next) (more_of s.message)) (omega arith)
      (kind_i (not s.numbers.next) (more_of s.message))
      (pick_no _ _ _ (ne_eqb (length piece) 0 (λ e. omega arith)) ∙ pick_yes _ _ _ (le-leb (length piece) r.sizes.ours (omega arith)))

  -- it is taken
  pub taken : on_block (block_of s) r ≡ keeps (more_of s.message) n r
  unfolding on_block on_line on_kind on_information framed
  taken =
      let number = not s.numbers.next in
      let more = more_of s.message in
      let b = framed (pcb_of_i number more) piece in
      let in_most : r.received + n ≤ message_most = let i = n_inside in let e = g.received in let h = g.most in omega arith in
      ap (λ (x : List ℕ). on_block x r) block_is
      ∙ (on_line_lem r.phase (more_of r.message) (heard_of b r.sizes.ours) (get_or b 3 0) (length piece) r g.takes
      ∙ (ap (λ (h : Heard). on_line h (get_or b 3 0) (length piece) r) heard
      ∙ (ap (λ (j : ℕ). on_information number more j r) piece_length
      ∙ (pick_yes _ _ _ g.takes
      ∙ (pick_yes _ _ _ (ap (equal number) g.number ∙ equal_same number) ∙ pick_no _ _ _
      (le-ltb message_most (r.received + n) in_most))))))

  -- what the receiver has then
  pub field_kept : k ++ inf_of (block_of s) ≡ take (at + n) m
  field_kept =
      ap₂ (λ (x y : List ℕ). x ++ y) g.kept
      (ap inf_of block_is ∙ (field_back (pcb_of_i (not s.numbers.next) (more_of s.message)) piece ∙ piece_is))
      ∙ sym (take-add at n m)

  -- the R-block that comes back for a piece with more behind it
  abbrev taker : State
  taker = (keeps true n r).state

  ready_is : block_of taker ≡ framed (pcb_of_r (not r.numbers.expected) 0) []
  unfolding block_of block_for keeps ready_for pick
  ready_is = not_too_long (pcb_of_r (not r.numbers.expected) 0) [] (omega arith)

  pub next_is : not r.numbers.expected ≡ s.numbers.next
  next_is = ap not g.number ∙ not_not s.numbers.next

  ready_heard : heard_of (framed (pcb_of_r (not r.numbers.expected) 0) []) s.sizes.ours ≡ Ok (R (not r.numbers.expected))
  unfolding sized
  ready_heard =
      heard_back _ [] s.sizes.ours (R (not r.numbers.expected)) (omega arith) (kind_r (not r.numbers.expected))
      (pick_yes _ _ _ (eq-eqb 0 0 refl))

  pub returned : more_of s.message ≡ true → on_block (block_of taker) s ≡ goes_out (sends_next s)
  unfolding on_block by_phase on_line on_kind on_ready
  returned more =
      let x = not r.numbers.expected in
      let b = framed (pcb_of_r x 0) [] in
      ap (λ (y : List ℕ). on_block y s) ready_is
      ∙ (ap (λ (p : Phase). by_phase p (heard_of b s.sizes.ours) (get_or b 3 0) (len_of b) s) g.phase
      ∙ (ap (λ (h : Heard). on_line h (get_or b 3 0) (len_of b) s) ready_heard
      ∙ (pick_yes _ _ _ (ap is_sent g.phase)
      ∙ (pick_yes _ _ _ (ap (λ (y : Bool). equal y s.numbers.next) next_is ∙ equal_same s.numbers.next) ∙ pick_yes _ _ _ more))))

  -- and the message is under way with the next piece
  pub goes_on_lem : more_of s.message ≡ true → Going m rest (sends_next s) taker (k ++ inf_of (block_of s))
  unfolding more_of sends_next sends_piece keeps ready_for pick
  goes_on_lem more =
      record {
        out = refl;
        phase = refl;
        bytes = g.bytes;
        long = g.long;
        inside = let b = ltb-true (at + n) s.message.length more in let l = g.long in omega arith;
        size = ap (λ (l : ℕ). min (room s.sizes.theirs) (l - (at + n))) g.long;
        number = ap not g.number;
        takes = refl;
        received = ap (λ (x : ℕ). x + n) g.received;
        kept = field_kept;
        fits = g.fits;
        most = g.most;
      }

  -- behind the last piece the message is whole
  pub ends : more_of s.message ≡ false → at + n ≡ length m
  unfolding more_of
  ends final = let b = ltb-false (at + n) s.message.length final in let l = g.long in let i = n_inside in omega arith
