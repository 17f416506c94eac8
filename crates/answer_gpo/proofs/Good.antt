-- Of an answer that has no reason the values by place are what it tells.
-- Assumes nothing.
use mathlib.Core.Path.{◌≡◌, refl, ap, ◌∙◌}
use mathlib.Core.List.{List}
use Prim.Native.Nat.{ℕ, ◌+◌, ◌≤◌}
use native.Mathlib.Omega.{arith}
use lib.ListN.{length, take, drop}
use Rattle.slices.specs.Choice.{pick}
use Rattle.slices.proofs.Cutting.{to_end}
use Rattle.answer_common.specs.Answer.{is_one, inside, most}
use Rattle.answer_common.specs.Forms.{template, joined, both_forms, read_form}
use Rattle.answer_common.specs.Named.{direct, value_of}
use Rattle.answer_common.proofs.Good.{answered, form_by}
use Rattle.answer_common.proofs.Members.{inside_size}
use Rattle.answer_gpo.specs.Options.{profile_of, locator_of, profile_read, locator_read, options_lines, options_reason}

module _ (a : List ℕ) (good : options_reason a ≡ 0) where
  by_place : (from n name : ℕ) → read_form from n name a
      ≡ pick (is_one joined a) (take n (drop from (inside joined a))) (value_of (direct template a name))
  unfolding options_reason
  by_place = form_by (answered a both_forms (options_lines a) good) refl

  pub profile_good : profile_read a ≡ profile_of a
  unfolding profile_of
  profile_good = by_place 0 2 0x82

  pub locator_good : locator_read a ≡ locator_of a
  unfolding locator_of
  locator_good =
      let size = inside_size joined a in
      let fits : length (inside joined a) ≤ 2 + most = omega arith in
      by_place 2 most 0x94
      ∙ ap (λ (x : List ℕ). pick (is_one joined a) x (value_of (direct template a 0x94))) (to_end most 2 (inside joined a) fits)
