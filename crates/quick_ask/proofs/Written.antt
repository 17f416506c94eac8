-- A command that has room in a buffer is there: the bytes that its size names are the command.
-- Assumes nothing.
use mathlib.Core.Path.{◌≡◌, refl, ap, ◌∙◌}
use mathlib.Core.List.{List}
use Prim.Native.Nat.{ℕ, ◌≤◌}
use native.Mathlib.Omega.{arith}
use lib.ListN.{length, take, drop}
use lib.Seq.{take_at}
use borrow.Author.Tests.{le-leb}
use Rattle.slices.specs.Writing.{laid, zeros}
use Rattle.slices.proofs.Choice.{pick_yes}
use Rattle.slices.proofs.Writing.{put_start, laid_fits, zeros_length}
use Rattle.start_fields.specs.Reading.{Terminal}
use Rattle.facts.specs.Facts.{Facts}
use Rattle.dol_wanted.specs.Wanted.{most}
use Rattle.dol_fill.specs.Filled.{filling}
use Rattle.commands.specs.Commands.{size_in}
use Rattle.commands.proofs.Sizes.{data_length, data_most_lem}

pub filling_most : (t : Terminal) (k : Facts) (list : List ℕ) → length (filling t k list) ≤ most
filling_most t k list = let size = data_length t k list in let limit = data_most_lem list in omega arith

-- in a buffer of zeros
pub written_there : (c out : List ℕ) (n room : ℕ) → length c ≤ room → n ≡ size_in (length (zeros room)) c → out ≡ laid c 0 (zeros room)
    → take n (drop 0 out) ≡ c
unfolding size_in
written_there c out n room few size there =
    let all = zeros_length room in
    let whole : n ≡ length c = size ∙ pick_yes _ _ _ (le-leb (length c) (length (zeros room)) (omega arith)) in
    (λ i. take (whole i) (there i))
    ∙ (ap (take (length c)) (laid_fits c 0 (zeros room) (omega arith) ∙ put_start c (zeros room)) ∙ take_at c _ (length c) refl)
