-- In an answer's template the search by place finds what stands among its members; s are the bytes that the code was handed
-- for the template's value.
-- Assumes nothing.
use mathlib.Core.Path.{◌≡◌, refl, ap, ◌∙◌}
use mathlib.Core.List.{List}
use Prim.Native.Nat.{ℕ}
use Rattle.slices.specs.Choice.{pick}
use Rattle.tlv_head.specs.Head.{first_byte, constructed}
use Rattle.answer_common.specs.Answer.{inside}
use Rattle.answer_common.specs.Named.{direct, standing}
use Rattle.answer_common.proofs.Members.{direct_standing}
use Rattle.answer_common.specs.Forms.{template}

module _ (a : List ℕ) {s : List ℕ} where
  pub template_found : s ≡ inside template a → standing s ≡ direct template a
  unfolding constructed first_byte pick
  template_found e = ap standing e ∙ direct_standing template a refl
