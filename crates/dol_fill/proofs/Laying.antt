-- A list laid into a buffer: what cannot be filled, or has no room, changes nothing.
-- Assumes nothing.
use Rattle.std.proofs.Common.{◌≡◌, ℕ, ◌+◌, ◌≤◌, ◌<◌, true, leb, List, [], length, sym, ap, ◌∙◌, arith, le-leb}
use Rattle.slices.specs.Choice.{pick}
use Rattle.slices.specs.Writing.{put, laid}
use Rattle.slices.proofs.Choice.{pick_same, pick_yes}
use Rattle.slices.proofs.Writing.{laid_fits, laid_short, put_nothing}
use Rattle.start_fields.specs.Reading.{Terminal}
use Rattle.facts.specs.Facts.{Facts}
use Rattle.dol_wanted.specs.Wanted.{tally, total_of, most, fillable}
use Rattle.dol_wanted.proofs.Entries.{tally_fillable}
use Rattle.dol_fill.specs.Filled.{filled_list, filling}
use Rattle.dol_fill.proofs.Filling.{filling_yes, filling_no, list_length}

nothing_laid : (at : ℕ) (d : List ℕ) → laid [] at d ≡ d
unfolding laid
nothing_laid at d = ap (λ (x : List ℕ). pick (leb (at + 0) (length d)) x d) (put_nothing at d) ∙ pick_same _ _

-- a list that asks for no more than it may
module _ (list : List ℕ) (few : tally list ≤ most) where
  pub can : fillable list ≡ true
  can = sym (tally_fillable list) ∙ le-leb (tally list) most few

  pub tally_total : tally list ≡ total_of list
  unfolding tally
  tally_total = pick_yes _ _ _ can

-- a list of n bytes, filled from a place of a buffer on
module _ (t : Terminal) (k : Facts) (list buf : List ℕ) (at : ℕ) {n : ℕ} (size : n ≡ tally list) where
  pub too_much : most < n → buf ≡ laid (filling t k list) at buf
  too_much h = sym (ap (λ (s : List ℕ). laid s at buf) (filling_no t k list (omega arith)) ∙ nothing_laid at buf)

  module _ (few : n ≤ most) where
    all : (fillable list ≡ true) × (tally list ≡ total_of list) × (filling t k list ≡ filled_list t k list)
    all = filling_yes t k list (omega arith)

    pub no_room : length buf < at + n → buf ≡ laid (filling t k list) at buf
    no_room h =
        let sum = all.1 in
        let long = list_length t k list in
        sym (ap (λ (s : List ℕ). laid s at buf) all.2 ∙ laid_short (filled_list t k list) at buf (omega arith))

    pub written : at + n ≤ length buf → put (filled_list t k list) at buf ≡ laid (filling t k list) at buf
    written h =
        let sum = all.1 in
        let long = list_length t k list in
        sym (ap (λ (s : List ℕ). laid s at buf) all.2 ∙ laid_fits (filled_list t k list) at buf (omega arith))

pub ruleset laying = (too_much, no_room, can, tally_total, written)
