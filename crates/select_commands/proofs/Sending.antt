-- SELECT by name, laid in three pieces: the head, the name where it ends, and '00' after that.
-- Assumes nothing.
use mathlib.Core.Path.{◌≡◌, refl, ap, ◌∙◌}
use mathlib.Core.List.{List, [], ◌∷◌, ◌++◌}
use Prim.Native.Nat.{ℕ, ◌+◌, ◌≤◌, ◌<◌}
use native.Mathlib.Omega.{arith}
use lib.ListN.{length}
use Rattle.slices.specs.Writing.{put, laid}
use Rattle.slices.proofs.Writing.{put_length, laid_fits}
use Rattle.commands.specs.Commands.{size_in}
use Rattle.commands.proofs.Sizes.{unissued, issued, two_laid, two_pieces}
use Rattle.commands.proofs.Shapes.{ended_length}
use Rattle.select_search.specs.Search.{select_by}

module _ (p2 : ℕ) (name buf : List ℕ) where
  pub unsent : length buf < length name + 6 → (0 ≡ size_in (length buf) (select_by p2 name)) × (buf ≡ laid (select_by p2 name) 0 buf)
  unfolding select_by
  unsent h = let n = ended_length name in unissued (select_by p2 name) buf (omega arith)

  pub sent : length name + 6 ≤ length buf → (out : List ℕ)
      → out ≡ laid (0 ∷ []) (5 + length name) (laid name 5 (laid (0x00 ∷ 0xA4 ∷ 0x04 ∷ p2 ∷ length name ∷ []) 0 buf))
      → (length name + 6 ≡ size_in (length buf) (select_by p2 name)) × (out ≡ laid (select_by p2 name) 0 buf)
  unfolding select_by
  sent room out o =
      let head : List ℕ = 0x00 ∷ 0xA4 ∷ 0x04 ∷ p2 ∷ length name ∷ [] in
      let m = ended_length name in
      let fits : 0 + 5 ≤ length buf = omega arith in
      let one : laid head 0 buf ≡ put head 0 buf = laid_fits head 0 buf fits in
      let long : length (laid head 0 buf) ≡ length buf = ap length one ∙ put_length head 0 buf fits in
      issued (select_by p2 name) buf out (length name + 6) (omega arith) (omega arith)
      (o
      ∙ (two_laid name (0 ∷ []) (laid head 0 buf) 5 (5 + length name) (omega arith) (omega arith)
      ∙ two_pieces head (name ++ (0 ∷ [])) buf 5 refl (omega arith)))
