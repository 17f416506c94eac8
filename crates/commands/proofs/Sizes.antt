-- How long the data of a command is, and writing a command in pieces, each where the last ended.
-- Assumes nothing.
use mathlib.Core.Path.{◌≡◌, sym, ap, ◌∙◌}
use mathlib.Core.Bool.{true, false}
use mathlib.Core.List.{List, [], ◌++◌}
use Prim.Native.Nat.{ℕ, ◌+◌, ◌≤◌, ◌<◌}
use native.Mathlib.Nat.{zero-add}
use native.Mathlib.Omega.{arith}
use lib.Dec.{leb}
use lib.ListN.{length}
use borrow.Author.Tests.{le-leb, lt-leb, leb-true, leb-false}
use Rattle.slices.specs.Choice.{pick}
use Rattle.slices.specs.Writing.{put, laid}
use Rattle.slices.proofs.Choice.{pick_yes, pick_no, pick_ap, either}
use Rattle.slices.proofs.Writing.{put_length, put_step, laid_fits, laid_short}
use Rattle.start_fields.specs.Reading.{Terminal}
use Rattle.dol_wanted.specs.Wanted.{tally, fillable, most}
use Rattle.dol_fill.specs.Filled.{filling, filled_list}
use Rattle.facts.specs.Facts.{Facts}
use Rattle.dol_wanted.proofs.Entries.{tally_fillable}
use Rattle.dol_fill.proofs.Filling.{list_length}
use Rattle.commands.specs.Commands.{data_size, size_in}

module _ (list : List ℕ) where
  can : tally list ≤ most → fillable list ≡ true
  can h = sym (tally_fillable list) ∙ le-leb (tally list) most h

  cannot : most < tally list → fillable list ≡ false
  cannot h = sym (tally_fillable list) ∙ lt-leb (tally list) most h

  pub size_all : tally list ≤ most → data_size list ≡ tally list
  unfolding data_size tally
  size_all h = let y = can h in pick_yes _ _ _ y ∙ sym (pick_yes _ _ _ y)

  pub size_none : most < tally list → data_size list ≡ 0
  unfolding data_size
  size_none h = pick_no _ _ _ (cannot h)

pub data_length : (t : Terminal) (k : Facts) (list : List ℕ) → length (filling t k list) ≡ data_size list
unfolding filling data_size
data_length t k list =
    pick_ap length (fillable list) (filled_list t k list) []
    ∙ ap (λ (n : ℕ). pick (fillable list) n 0) (list_length t k list)

pub counted : (t : Terminal) (k : Facts) (list : List ℕ) {n : ℕ} → n ≡ data_size list → length (filling t k list) ≡ n
counted t k list e = data_length t k list ∙ sym e

pub data_most_lem : (list : List ℕ) → data_size list ≤ most
data_most_lem list =
    either (leb (tally list) most)
    (λ y. let h = leb-true (tally list) most y in let e = size_all list h in omega arith)
    (λ n. let e = size_none list (leb-false (tally list) most n) in omega arith)

-- a command that has no room, and one that was written
pub unissued : (command buf : List ℕ) → length buf < length command → (0 ≡ size_in (length buf) command) × (buf ≡ laid command 0 buf)
unfolding size_in
unissued command buf h = (sym (pick_no _ _ _ (lt-leb (length command) (length buf) h)), sym (laid_short command 0 buf (omega arith)))

pub issued : (command buf out : List ℕ) (n : ℕ) → n ≡ length command → length command ≤ length buf → out ≡ put command 0 buf
    → (n ≡ size_in (length buf) command) × (out ≡ laid command 0 buf)
unfolding size_in
issued command buf out n e h o =
    (e ∙ sym (pick_yes _ _ _ (le-leb (length command) (length buf) h)), o ∙ sym (laid_fits command 0 buf (omega arith)))

-- two pieces laid one after the other
pub two_laid : (y z d : List ℕ) (a b : ℕ) → b ≡ a + length y → a + (length y + length z) ≤ length d
    → laid z b (laid y a d) ≡ put (y ++ z) a d
two_laid y z d a b e h =
    let fits : a + length y ≤ length d = omega arith in
    let long : length (put y a d) ≡ length d = put_length y a d fits in
    ap (laid z b) (laid_fits y a d fits)
    ∙ (laid_fits z b (put y a d) (omega arith)
    ∙ (ap (λ (k : ℕ). put z k (put y a d)) e ∙ sym (put_step y z a d fits)))

-- a head laid at the start, and the rest put where it ends
pub two_pieces : (head rest buf : List ℕ) (n : ℕ) → length head ≡ n → length head + length rest ≤ length buf
    → put rest n (laid head 0 buf) ≡ put (head ++ rest) 0 buf
two_pieces head rest buf n e h =
    let fits : 0 + length head ≤ length buf = omega arith in
    ap (put rest n) (laid_fits head 0 buf fits)
    ∙ (ap (λ (k : ℕ). put rest k (put head 0 buf)) (sym e ∙ sym (zero-add (length head))) ∙ sym (put_step head rest 0 buf fits))
