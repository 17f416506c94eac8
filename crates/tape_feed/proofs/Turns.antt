-- One piece further, case by case; and what is said where the tape ends.
-- Assumes nothing.
use mathlib.Core.Path.{◌≡◌, sym, ap, ◌∙◌}
use mathlib.Core.Bool.{true, false}
use mathlib.Core.List.{List, []}
use Prim.Native.Nat.{ℕ, ◌+◌, ◌≤◌, ◌<◌}
use native.Mathlib.Omega.{arith}
use lib.Dec.{eqb, ltb}
use lib.ListN.{length}
use borrow.Author.Tests.{lt-ltb, le-ltb, eq-eqb, ne_eqb, eqb-true, ltb-true, ltb-false}
use Rattle.slices.proofs.Choice.{pick_yes, pick_no, picked, either}
use Rattle.tape_read.specs.Entries.{block_size, blocks_most}
use Rattle.tape_feed.specs.declared.Reader.{Reader}
use Rattle.tape_feed.specs.declared.Taken.{Taken}
use Rattle.tape_feed.specs.declared.Damage.{Damage}
use Rattle.tape_feed.specs.Feeding.{looked, passed, ended, unread, read, next, too_long, damaged, damage_of}

module _ (r : Reader) (p : List ℕ) where
  pub next_torn : r.torn ≡ true → next r p ≡ unread r
  unfolding next
  next_torn h = pick_yes _ _ _ h

  module _ (on : r.torn ≡ false) where
    pub next_full : blocks_most < r.blocks → next r p ≡ unread r
    unfolding next
    next_full h = pick_no _ _ _ on ∙ pick_yes _ _ _ (lt-ltb _ _ h)

    module _ (few : r.blocks ≤ blocks_most) where
      pub next_ended : (length p ≡ block_size → ⊥) → next r p ≡ unread (ended r p)
      unfolding next
      next_ended h = pick_no _ _ _ on ∙ (pick_no _ _ _ (le-ltb _ _ few) ∙ pick_no _ _ _ (ne_eqb _ _ h))

      module _ (whole : length p ≡ block_size) where
        pub next_passed : (r.code ≡ 0 → ⊥) → next r p ≡ unread (passed r)
        unfolding next
        next_passed h =
            pick_no _ _ _ on ∙ (pick_no _ _ _ (le-ltb _ _ few) ∙ (pick_yes _ _ _ (eq-eqb _ _ whole) ∙ pick_no _ _ _ (ne_eqb _ _ h)))

        pub next_looked : r.code ≡ 0 → next r p ≡ read (looked r p)
        unfolding next
        next_looked h =
            pick_no _ _ _ on ∙ (pick_no _ _ _ (le-ltb _ _ few) ∙ (pick_yes _ _ _ (eq-eqb _ _ whole) ∙ pick_yes _ _ _ (eq-eqb _ _ h)))

-- a piece of no bytes changes nothing
pub next_none : (r : Reader) → (next r []).reader ≡ r
next_none r =
    either r.torn (λ y. ap (λ (t : Taken). t.reader) (next_torn r [] y))
    (λ n.
    either (ltb blocks_most r.blocks)
    (λ y. ap (λ (t : Taken). t.reader) (next_full r [] n (ltb-true blocks_most r.blocks y)))
    (λ m.
    ap (λ (t : Taken). t.reader) (next_ended r [] n (ltb-false blocks_most r.blocks m) (λ e. omega arith))
    ∙ (λ i. record { blocks = r.blocks; session = r.session; place = r.place; code = r.code; torn = sym n i })))

-- ---- where the tape ends

module _ (r : Reader) where
  pub long_blocks : blocks_most < r.blocks → too_long r ≡ true
  unfolding too_long
  long_blocks h = pick_yes _ _ _ (lt-ltb _ _ h)

  pub short_blocks : r.blocks < blocks_most → too_long r ≡ false
  unfolding too_long
  short_blocks h = pick_no _ _ _ (le-ltb blocks_most r.blocks (omega arith)) ∙ pick_yes _ _ _ (lt-ltb _ _ h)

  pub most_blocks : r.blocks ≤ blocks_most → blocks_most ≤ r.blocks → too_long r ≡ r.torn
  unfolding too_long
  most_blocks h k = pick_no _ _ _ (le-ltb _ _ h) ∙ pick_no _ _ _ (le-ltb _ _ k)

  pub damage_long : too_long r ≡ true → damage_of r ≡ damaged 0 1
  unfolding damage_of
  damage_long h = pick_yes _ _ _ h

  module _ (fits : too_long r ≡ false) where
    pub damage_torn : r.torn ≡ true → damage_of r ≡ damaged r.blocks 2
    unfolding damage_of
    damage_torn h = pick_no _ _ _ fits ∙ pick_yes _ _ _ h

    pub damage_first : r.torn ≡ false → damage_of r ≡ damaged r.place r.code
    unfolding damage_of
    damage_first h = pick_no _ _ _ fits ∙ pick_no _ _ _ h

  -- a tape with nothing wrong has no bad block
  pub none_bad : (damage_of r).code ≡ 0 → r.code ≡ 0
  unfolding damage_of
  none_bad =
      picked (λ (d : Damage). d.code ≡ 0 → r.code ≡ 0) (too_long r) _ _ (λ y e. absurd (omega arith))
      (λ n.
      picked (λ (d : Damage). d.code ≡ 0 → r.code ≡ 0) r.torn _ _ (λ y e. absurd (omega arith)) (λ m e. e))

-- ---- the blocks read and the blocks counted

-- while no block was bad, so many were read
abbrev pub InStep : Reader → ℕ → Type 0
InStep r n = r.code ≡ 0 → r.blocks ≡ n

-- a good block is the one after those read, and one more; any other piece leaves their number
pub record Steps (r : Reader) (t : Taken) (n : ℕ) : Type 0 where
  pub good : t.good ≡ true → (r.blocks ≡ n) × InStep t.reader (n + 1)
  pub other : t.good ≡ false → InStep t.reader n

pub next_steps : (r : Reader) (p : List ℕ) (n : ℕ) → InStep r n → Steps r (next r p) n
unfolding next
next_steps r p n h =
    let no : true ≡ false → ⊥ = λ e. let k : ◌≡◌ {A = ℕ} 0 1 = cc in omega arith in
    let stays : (q : Reader) → InStep q n → Steps r (unread q) n = λ q s. record { good = λ e. absurd (no (sym e)); other = λ e. s } in
    picked (λ (t : Taken). Steps r t n) r.torn _ _ (λ y. stays r h)
    (λ a.
    picked (λ (t : Taken). Steps r t n) (ltb blocks_most r.blocks) _ _ (λ y. stays r h)
    (λ b.
    picked (λ (t : Taken). Steps r t n) (eqb (length p) block_size) _ _
    (λ c.
    picked (λ (t : Taken). Steps r t n) (eqb r.code 0) _ _
    (λ z.
    let before = h (eqb-true r.code 0 z) in
    record {
      good = λ g. (before, λ e. ap (λ (k : ℕ). k + 1) before);
      other = λ g e. absurd (no (sym (eq-eqb _ 0 e) ∙ g));
    })
    (λ z. stays (passed r) (λ e. absurd (no (sym (eq-eqb r.code 0 e) ∙ z)))))
    (λ c. stays (ended r p) h)))
