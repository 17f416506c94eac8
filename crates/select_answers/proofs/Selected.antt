-- In 6F, and in its A5, the search by place finds what stands among their members; s are the bytes that the code was handed.
-- Assumes nothing.
use mathlib.Core.Path.{◌≡◌, refl, ap, ◌∙◌}
use mathlib.Core.List.{List}
use Prim.Native.Nat.{ℕ}
use Rattle.slices.specs.Choice.{pick}
use Rattle.tlv_head.specs.Head.{first_byte, constructed}
use Rattle.answer_common.specs.Answer.{inside}
use Rattle.answer_common.specs.Named.{direct, standing, value_of}
use Rattle.answer_common.proofs.Members.{direct_standing, inner_standing}
use Rattle.answer_select.specs.Select.{select_tag, inner}

module _ (a : List ℕ) {s : List ℕ} where
  pub outer_found : s ≡ inside select_tag a → standing s ≡ direct select_tag a
  unfolding constructed first_byte pick
  outer_found e = ap standing e ∙ direct_standing select_tag a refl

  pub inner_found : s ≡ value_of (direct select_tag a 0xA5) → standing s ≡ inner a
  unfolding constructed first_byte pick inner
  inner_found e = ap standing e ∙ inner_standing select_tag 0xA5 a refl refl
