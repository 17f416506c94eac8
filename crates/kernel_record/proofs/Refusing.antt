-- When the entries of a call are turned away: one of them is wrong, or there is no room for all of them; of a single entry this is
-- what the writer says of it.
-- Assumes nothing.
use mathlib.Core.Path.{◌≡◌, refl, sym, ap, ◌∙◌}
use mathlib.Core.Bool.{true, false, not, false≢true}
use mathlib.Core.List.{List, [], ◌∷◌}
use Prim.Native.Nat.{ℕ, ◌+◌, ◌*◌, ◌≤◌, ◌<◌}
use native.Mathlib.Omega.{arith}
use lib.Dec.{leb, ltb}
use lib.ListN.{length}
use borrow.Author.Tests.{le-ltb, ltb-true, ltb-false, le-leb, lt-leb, leb-true, leb-false, not-false}
use Rattle.slices.proofs.Choice.{pick_yes, pick_no, either, and_left, and_right}
use Rattle.numbers.specs.Tables.{is_kind}
use Rattle.tape_read.specs.Entries.{Entry, block_size, blocks_most, payload_most, storable, all_storable}
use Rattle.tape_read.proofs.Back.{storable_kind, storable_fits}
use Rattle.tape_read.proofs.Extra.{first_hit, first_skip, first_end, first_none}
use Rattle.tape_read.proofs.Roundtrip.{first_storable, rest_storable}
use Rattle.tape_write.specs.Appending.{refusal_of}
use Rattle.tape_write.proofs.Refusals.{refused_kind, refused_payload, refused_blocks, refused_room_lem, not_refused}
use Rattle.kernel.specs.declared.Session.{Session}
use Rattle.session_phase.specs.declared.Reply.{Reply}
use Rattle.session_phase.specs.declared.Reply.TheVariants.{Command, Due, Decided, Closed, Refused}
use Rattle.kernel_record.specs.Recording.{recorded, wrong, any_wrong, has_room, blocks_of_call, tape_refusal}

-- ---- room

module _ (more used : ℕ) (t : List ℕ) where
  pub room_last : used + more ≤ blocks_most → has_room more used t ≡ leb ((used + more) * block_size) (length t)
  unfolding has_room
  room_last h = rw (le-leb _ _ h)

  pub room_none : blocks_most < used + more → has_room more used t ≡ false
  unfolding has_room
  room_none h = rw (lt-leb _ _ h)

  pub room_there : used + more ≤ blocks_most → (used + more) * block_size ≤ length t → has_room more used t ≡ true
  room_there h k = room_last h ∙ le-leb _ _ k

  pub room_blocks : has_room more used t ≡ true → used + more ≤ blocks_most
  unfolding has_room
  room_blocks h = leb-true _ _ (and_left (leb (used + more) blocks_most) _ h)

  pub room_bytes : has_room more used t ≡ true → (used + more) * block_size ≤ length t
  unfolding has_room
  room_bytes h = leb-true _ _ (and_right (leb (used + more) blocks_most) _ h)

-- ---- entries that are not wrong

module _ (e : Entry) where
  pub wrong_kind : is_kind e.kind ≡ false → wrong e ≡ true
  unfolding wrong
  wrong_kind h = pick_no _ _ _ h

  pub wrong_length : is_kind e.kind ≡ true → wrong e ≡ ltb payload_most (length e.payload)
  unfolding wrong
  wrong_length h = pick_yes _ _ _ h

  pub right_kind : wrong e ≡ false → is_kind e.kind ≡ true
  right_kind h = either (is_kind e.kind) (λ yes. yes) (λ no. absurd (false≢true (sym h ∙ wrong_kind no)))

  pub right_length : wrong e ≡ false → length e.payload ≤ payload_most
  right_length h = ltb-false _ _ (sym (wrong_length (right_kind h)) ∙ h)

  pub storable_right : storable e ≡ true → wrong e ≡ false
  storable_right h = wrong_length (storable_kind e h) ∙ le-ltb _ _ (storable_fits e h)

  module _ (es : List Entry) where
    pub any_first : wrong e ≡ true → any_wrong (e ∷ es) ≡ true
    unfolding any_wrong
    any_first h = pick_yes _ _ _ h

    pub any_rest : wrong e ≡ false → any_wrong (e ∷ es) ≡ any_wrong es
    unfolding any_wrong
    any_rest h = pick_no _ _ _ h

    pub none_first : any_wrong (e ∷ es) ≡ false → wrong e ≡ false
    none_first h = either (wrong e) (λ yes. absurd (false≢true (sym h ∙ any_first yes))) (λ no. no)

    pub none_rest : any_wrong (e ∷ es) ≡ false → any_wrong es ≡ false
    none_rest h = sym (any_rest (none_first h)) ∙ h

pub none_wrong : (es : List Entry) → all_storable es ≡ true → any_wrong es ≡ false
unfolding any_wrong
none_wrong [] h = refl
none_wrong (e ∷ es) h = any_rest e es (storable_right e (first_storable e es h)) ∙ none_wrong es (rest_storable e es h)

-- ---- the entries of a call

-- what entries fulfil that are taken
pub record Fitting (used : ℕ) (es : List Entry) (t : List ℕ) : Type 0 where
  pub right : any_wrong es ≡ false
  pub blocks : used + length es ≤ blocks_most
  pub bytes : (used + length es) * block_size ≤ length t

module _ (used : ℕ) (e : Entry) (es : List Entry) (t : List ℕ) where
  pub call_wrong : any_wrong (e ∷ es) ≡ true → tape_refusal used (e ∷ es) t ≡ 7
  unfolding tape_refusal
  call_wrong h = first_hit _ _ _ h

  pub call_full : any_wrong (e ∷ es) ≡ false → has_room (length (e ∷ es)) used t ≡ false → tape_refusal used (e ∷ es) t ≡ 8
  unfolding tape_refusal
  call_full h k = first_skip _ _ _ h ∙ first_hit _ _ _ (ap not k)

  pub call_taken : any_wrong (e ∷ es) ≡ false → has_room (length (e ∷ es)) used t ≡ true → tape_refusal used (e ∷ es) t ≡ 0
  unfolding tape_refusal
  call_taken h k = first_skip _ _ _ h ∙ (first_skip _ _ _ (ap not k) ∙ first_end)

  pub call_fits : tape_refusal used (e ∷ es) t ≡ 0 → Fitting used (e ∷ es) t
  unfolding tape_refusal
  call_fits h =
      let first = first_none _ 6 _ h in
      let room = not-false _ (first_none _ 7 _ first.1).0 in
      record { right = first.0; blocks = room_blocks _ used t room; bytes = room_bytes _ used t room }

  -- where there is room for all, the refusal is not 8
  never_full : has_room (length (e ∷ es)) used t ≡ true → tape_refusal used (e ∷ es) t ≡ 8 → ⊥
  never_full room h =
      either (any_wrong (e ∷ es))
      (λ yes. let z : ◌≡◌ {A = ℕ} 7 8 = sym (call_wrong yes) ∙ h in omega arith)
      (λ no. let z : ◌≡◌ {A = ℕ} 0 8 = sym (call_taken no room) ∙ h in omega arith)

any_room : (used : ℕ) (es : List Entry) (t : List ℕ) → has_room (length es) used t ≡ true → tape_refusal used es t ≡ 8 → ⊥
unfolding tape_refusal
any_room used [] t room h = omega arith
any_room used (e ∷ es) t room h = never_full used e es t room h

pub fits_call : (used : ℕ) (es : List Entry) (t : List ℕ) → Fitting used es t → tape_refusal used es t ≡ 0
unfolding tape_refusal
fits_call used [] t f = refl
fits_call used (e ∷ es) t f = call_taken used e es t f.right (room_there _ used t f.blocks f.bytes)

-- ---- what a call can lead to

module _ (event : Entry) (buf : List ℕ) (s : Session) where
  -- no reply leads to more blocks than a caller asks room for,
  pub few_entries : (reply : Reply) → length (recorded event reply buf s) ≤ blocks_of_call
  unfolding recorded
  few_entries (Command n) = omega arith
  few_entries (Due kind) = omega arith
  few_entries Decided = omega arith
  few_entries Closed = omega arith
  few_entries (Refused n) = omega arith

  -- so where there is room for as many, no call is turned away with 8
  pub call_room : (used : ℕ) (t : List ℕ) (reply : Reply) → has_room blocks_of_call used t ≡ true
      → tape_refusal used (recorded event reply buf s) t ≡ 8 → ⊥
  call_room used t reply room h =
      let blocks = room_blocks blocks_of_call used t room in
      let bytes = room_bytes blocks_of_call used t room in
      let few = few_entries reply in
      any_room used (recorded event reply buf s) t (room_there _ used t (omega arith) (omega arith)) h

-- ---- one entry

module _ (used : ℕ) (e : Entry) (t : List ℕ) where
  pub fits_one : (es : List Entry) → Fitting used (e ∷ es) t → refusal_of used e t ≡ 0
  fits_one es f =
      let right = none_first e es f.right in
      not_refused used e t (right_kind e right) (right_length e right) (let k = f.blocks in omega arith) (let k = f.bytes in omega arith)

  one_right : wrong e ≡ false → tape_refusal used (e ∷ []) t ≡ refusal_of used e t
  unfolding any_wrong
  one_right right =
      let none = any_rest e [] right in
      let kind = right_kind e right in
      let fits = right_length e right in
      either (leb (used + 1) blocks_most)
      (λ few.
      let blocks : used + 1 ≤ blocks_most = leb-true _ _ few in
      either (leb ((used + 1) * block_size) (length t))
      (λ all.
      let bytes : (used + 1) * block_size ≤ length t = leb-true _ _ all in
      call_taken used e [] t none (room_there 1 used t blocks bytes) ∙ sym (not_refused used e t kind fits (omega arith) (omega arith)))
      (λ short.
      let bytes : length t < (used + 1) * block_size = leb-false _ _ short in
      call_full used e [] t none (room_last 1 used t blocks ∙ short)
      ∙ sym (refused_room_lem used e t kind fits (omega arith) (omega arith))))
      (λ many.
      let blocks : blocks_most < used + 1 = leb-false _ _ many in
      call_full used e [] t none (room_none 1 used t blocks) ∙ sym (refused_blocks used e t kind fits (omega arith)))

  -- a call with a single entry is turned away as the writer turns that entry away
  pub one_refusal : tape_refusal used (e ∷ []) t ≡ refusal_of used e t
  one_refusal =
      either (is_kind e.kind)
      (λ kind.
      either (ltb payload_most (length e.payload))
      (λ long.
      call_wrong used e [] t (any_first e [] (wrong_length e kind ∙ long)) ∙ sym (refused_payload used e t kind (ltb-true _ _ long)))
      (λ short. one_right (wrong_length e kind ∙ short)))
      (λ none. call_wrong used e [] t (any_first e [] (wrong_kind e none)) ∙ sym (refused_kind used e t none))
