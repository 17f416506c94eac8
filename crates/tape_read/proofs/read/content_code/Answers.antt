-- `tape_read::read::content_code` meets its contract: each answer is the line of the list that its test stands on.
-- Assumes nothing.
use mathlib.Core.Path.{◌≡◌, sym, ap, ◌∙◌}
use mathlib.Core.Bool.{Bool, false, not}
use mathlib.Core.List.{List}
use Prim.Native.Nat.{ℕ, ◌+◌, ◌-◌, ◌≤◌}
use native.Mathlib.Omega.{arith}
use borrow.Author.Tests.{eq-eqb, ne_eqb, lt-ltb, le-ltb}
use lib.ListN.{get_or}
use Rattle.tape_crc.specs.Check.{covered}
use Rattle.numbers.specs.Tables.{is_kind}
use Rattle.tape_read.specs.Entries.{payload_most}
use Rattle.tape_read.specs.Blocks.{window, kind_in, spare_in, length_in, payload_at, all_zero}
use Rattle.tape_read.specs.Blocks.{padding_in, kind_bad, spare_bad, length_bad, padding_bad}
use Rattle.tape_read.proofs.Windows.{byte_field}
use Rattle.tape_read.proofs.Codes.{content_kind, content_spare, content_length, content_padding, content_good}
use Rattle.tape_read.proofs.read.content_code.Goals as goal

-- what the calls tell of a block, said of its tests
module _ (b : List ℕ) where
  kind_told : (k : ℕ) (r : Bool) → r ≡ not (is_kind k) → k ≡ kind_in b → kind_bad b ≡ r
  unfolding kind_bad
  kind_told k r e f = sym (e ∙ ap (λ (n : ℕ). not (is_kind n)) f)

  spare_told : (n : ℕ) → n ≡ get_or b 9 0 → spare_in b ≡ n
  spare_told n e = byte_field 9 b ∙ sym e

  spare_right : (n : ℕ) → n ≡ get_or b 9 0 → n ≡ 0 → spare_bad b ≡ false
  unfolding spare_bad
  spare_right n e z = ap not (eq-eqb _ _ (spare_told n e ∙ z))

  length_right : (n : ℕ) → n ≡ length_in b → n ≤ payload_most → length_bad b ≡ false
  unfolding length_bad
  length_right n e h = le-ltb payload_most (length_in b) (omega arith)

  padding_told : (n : ℕ) (r : Bool) → n ≡ length_in b → n ≤ payload_most
      → r ≡ all_zero (window (covered - (payload_at + n)) (payload_at + n) b) → all_zero (padding_in b) ≡ r
  unfolding padding_in
  padding_told n r e h f =
      let rest : payload_most - length_in b ≡ covered - (payload_at + n) = omega arith in
      ap (λ (w : ℕ). all_zero (window w (payload_at + length_in b) b)) rest
      ∙ (ap (λ (k : ℕ). all_zero (window (covered - (payload_at + n)) (payload_at + k) b)) (sym e) ∙ sym f)

pub returns-then-no_kind : goal.returns-then-no_kind
returns-then-no_kind c =
    sym (content_kind _ (kind_told c.args.block.now _ _ c.no_kind.ensures c.kind.ensures ∙ c.if-no_kind.true))

pub returns-then-byte-ne0 : goal.returns-then-byte-ne0
unfolding spare_bad
returns-then-byte-ne0 c =
    let b = c.args.block.now in
    let kind = kind_told b _ _ c.no_kind.ensures c.kind.ensures ∙ c.if-no_kind.false in
    let other = ne_eqb _ _ (λ e. c.if-byte-ne0.true (sym (spare_told b _ c.byte.ensures.0) ∙ e)) in
    sym (content_spare b kind (ap not other))

pub returns-then-n-gt-PAYLOAD : goal.returns-then-n-gt-PAYLOAD
unfolding length_bad
returns-then-n-gt-PAYLOAD c =
    let b = c.args.block.now in
    let kind = kind_told b _ _ c.no_kind.ensures c.kind.ensures ∙ c.if-no_kind.false in
    let spare = spare_right b _ c.byte.ensures.0 c.if-byte-ne0.false in
    sym (content_length b kind spare (lt-ltb payload_most (length_in b) (omega arith)))

pub returns-then-zeros_from : goal.returns-then-zeros_from
unfolding padding_bad
returns-then-zeros_from c =
    let b = c.args.block.now in
    let n = c.payload_length-n.ensures.0 in
    let kind = kind_told b _ _ c.no_kind.ensures c.kind.ensures ∙ c.if-no_kind.false in
    let spare = spare_right b _ c.byte.ensures.0 c.if-byte-ne0.false in
    let padding = padding_told b _ _ n (omega arith) c.zeros_from.ensures in
    sym (content_good b kind spare (length_right b _ n (omega arith)) (ap not (padding ∙ c.if-zeros_from.true)))

pub returns-else-zeros_from : goal.returns-else-zeros_from
unfolding padding_bad
returns-else-zeros_from c =
    let b = c.args.block.now in
    let n = c.payload_length-n.ensures.0 in
    let kind = kind_told b _ _ c.no_kind.ensures c.kind.ensures ∙ c.if-no_kind.false in
    let spare = spare_right b _ c.byte.ensures.0 c.if-byte-ne0.false in
    let padding = padding_told b _ _ n (omega arith) c.zeros_from.ensures in
    sym (content_padding b kind spare (length_right b _ n (omega arith)) (ap not (padding ∙ c.if-zeros_from.false)))
