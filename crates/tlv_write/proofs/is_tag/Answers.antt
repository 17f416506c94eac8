-- `tlv_write::is_tag` meets its contract: the definition's tests, one after the other.
-- Assumes nothing.
use mathlib.Core.Path.{◌≡◌, sym, ap, ap₂, ◌∙◌}
use mathlib.Core.Bool.{Bool, false, not, ◌&&◌}
use Prim.Native.Nat.{ℕ, ◌/◌, ◌%◌, ◌<◌, ◌≤◌}
use lib.Dec.{ltb, eqb}
use borrow.Author.Tests.{lt-ltb, le-ltb, eq-eqb, ne_eqb}
use Rattle.slices.proofs.Choice.{pick_yes, pick_no}
use Rattle.tlv_head.specs.Head.{two_bytes}
use Rattle.tlv_write.specs.Written.{is_tag}
use Rattle.tlv_write.proofs.is_tag.Goals as goal
use Rattle.tlv_write.proofs.is_tag.Goals.{then-t-lt65536, else-t-lt65536}

module _ (t : ℕ) where
  one : t < 256 → is_tag t ≡ (not (eqb t 0) && not (two_bytes t))
  unfolding is_tag
  one h = pick_yes _ _ _ (lt-ltb t 256 h)

  two : 256 ≤ t → t < 65536 → is_tag t ≡ (two_bytes (t / 256) && ltb (t % 256) 0x80)
  unfolding is_tag
  two h k = pick_no _ _ _ (le-ltb t 256 h) ∙ ap (λ (b : Bool). b && (two_bytes (t / 256) && ltb (t % 256) 0x80)) (lt-ltb t 65536 k)

  more : 256 ≤ t → 65536 ≤ t → is_tag t ≡ false
  unfolding is_tag
  more h k = pick_no _ _ _ (le-ltb t 256 h) ∙ ap (λ (b : Bool). b && (two_bytes (t / 256) && ltb (t % 256) 0x80)) (le-ltb t 65536 k)

pub returns-then-t-ne0 : goal.returns-then-t-ne0
returns-then-t-ne0 c =
    let t = c.args.t in
    sym
    (one t c.if-t-lt256.true
    ∙ ap₂ (λ (a b : Bool). not a && not b) (ne_eqb t 0 c.if-t-ne0.true) (sym c.has_two_bytes.ensures))

pub returns-else-t-ne0 : goal.returns-else-t-ne0
returns-else-t-ne0 c =
    let t = c.args.t in
    let zero = eq-eqb t 0 c.if-t-ne0.false in
    ap not zero ∙ sym (one t c.if-t-lt256.true ∙ ap (λ (b : Bool). not b && not (two_bytes t)) zero)

pub returns-then-has_two_bytes : goal.returns-then-has_two_bytes
returns-then-has_two_bytes c =
    let t = c.args.t in
    elim c.if-t-lt65536.branch [
      | then-t-lt65536 w ↦
          sym
          (two t c.if-t-lt256.false w.if-t-lt65536.true
          ∙ ap (λ (b : Bool). b && ltb (t % 256) 0x80)
          (sym w.has_two_bytes-then-t-lt65536.ensures ∙ (sym w.value-is ∙ c.if-has_two_bytes.true)))
      | else-t-lt65536 w ↦ let e = le-ltb t 65536 w.if-t-lt65536.false in let f = w.value-is in let g = c.if-has_two_bytes.true in cc
    ]

pub returns-else-has_two_bytes : goal.returns-else-has_two_bytes
returns-else-has_two_bytes c =
    let t = c.args.t in
    elim c.if-t-lt65536.branch [
      | then-t-lt65536 w ↦
          c.if-has_two_bytes.false ∙
          sym
          (two t c.if-t-lt256.false w.if-t-lt65536.true
          ∙ ap (λ (b : Bool). b && ltb (t % 256) 0x80)
          (sym w.has_two_bytes-then-t-lt65536.ensures ∙ (sym w.value-is ∙ c.if-has_two_bytes.false)))
      | else-t-lt65536 w ↦ c.if-has_two_bytes.false ∙ sym (more t c.if-t-lt256.false w.if-t-lt65536.false)
    ]
