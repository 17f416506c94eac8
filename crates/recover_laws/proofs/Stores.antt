-- Stores within the steps of a tape, whole or torn, overwrite in place: every step that none of them went to is as it was. Where each
-- of the others fails its check afterwards, that is damage of the kind that leaves exactly the untouched blocks.
-- Assumes nothing.
use mathlib.Core.Path.{◌≡◌, refl, sym, ap, ◌∙◌}
use mathlib.Core.Bool.{true, false, ◌&&◌}
use mathlib.Core.List.{List, [], ◌∷◌, ◌++◌}
use Prim.Native.Nat.{ℕ, ◌+◌, ◌-◌, ◌*◌, ◌/◌, ◌≤◌, ◌<◌}
use native.Mathlib.Omega.{arith}
use lib.Dec.{eqb, ltb, leb}
use lib.ListN.{length, take, drop, length-take, length-drop}
use lib.Seq.{length-take-le, take-add, take-append-add, drop_at}
use borrow.Author.Tests.{ltb-true, ltb-false, leb-true, lt-ltb, le-leb, eqb-true, eq-eqb, ne_eqb}
use Rattle.slices.specs.Writing.{put}
use Rattle.slices.proofs.Choice.{pick_yes, pick_no, either, and_left, and_right, and_both}
use Rattle.slices.proofs.Writing.{put_length}
use Rattle.session_records.proofs.Cells.{put_before, put_behind}
use Rattle.tape_read.specs.Entries.{block_size}
use Rattle.tape_read.specs.Blocks.{check_bad}
use Rattle.tape_read.specs.Tapes.{block_at}
use Rattle.recover_laws.specs.Damage.{Overwritten, Store, torn, stored, in_place, struck}
use Rattle.recover_laws.proofs.Steps.{steps}

-- ---- one store

module _ (w : Store) (t : List ℕ) (there : w.step < steps t) (small : length w.bytes ≤ block_size) where
  one_size : length (put w.bytes (w.step * block_size) t) ≡ length t
  one_size = put_length w.bytes (w.step * block_size) t (omega arith)

  one_other : (k : ℕ) → (k ≡ w.step → ⊥) → block_at k (put w.bytes (w.step * block_size) t) ≡ block_at k t
  unfolding block_at
  one_other k other =
      either (ltb k w.step)
      (λ y.
      let low = ltb-true k w.step y in
      put_before block_size (k * block_size) w.bytes (w.step * block_size) t (omega arith) (omega arith))
      (λ n.
      let high = ltb-false k w.step n in
      let above : w.step < k = omega (arith, other) in
      ap (take block_size) (put_behind (k * block_size) w.bytes (w.step * block_size) t (omega arith) (omega arith)))

-- ---- any stores

module _ (n : ℕ) (w : Store) (ws : List Store) (ok : in_place n (w ∷ ws) ≡ true) where
  first_in : (ltb w.step n && leb (length w.bytes) block_size) ≡ true
  unfolding in_place
  first_in = and_left _ (in_place n ws) ok

  first_there : w.step < n
  first_there = ltb-true w.step n (and_left _ (leb (length w.bytes) block_size) first_in)

  first_small : length w.bytes ≤ block_size
  first_small = leb-true _ _ (and_right (ltb w.step n) _ first_in)

  others_in : in_place n ws ≡ true
  unfolding in_place
  others_in = and_right (ltb w.step n && leb (length w.bytes) block_size) _ ok

module _ (w : Store) (ws : List Store) (k : ℕ) (h : struck (w ∷ ws) k ≡ false) where
  first_apart : k ≡ w.step → ⊥
  unfolding struck
  first_apart same =
      let yes = pick_yes (eqb k w.step) true (struck ws k) (eq-eqb k w.step same) in
      let z : ◌≡◌ {A = ℕ} 0 1 = cc in
      omega arith

  others_apart : struck ws k ≡ false
  unfolding struck
  others_apart = sym (pick_no (eqb k w.step) true (struck ws k) (ne_eqb k w.step first_apart)) ∙ h

pub stored_size : (ws : List Store) (t : List ℕ) → in_place (steps t) ws ≡ true → length (stored ws t) ≡ length t
unfolding stored
stored_size [] t ok = refl
stored_size (w ∷ ws) t ok =
    let size = one_size w t (first_there _ w ws ok) (first_small _ w ws ok) in
    stored_size ws (put w.bytes (w.step * block_size) t)
    (ap (λ (n : ℕ). in_place (n / block_size) ws) size ∙ others_in _ w ws ok)
    ∙ size

pub stored_other : (ws : List Store) (t : List ℕ) → in_place (steps t) ws ≡ true → (k : ℕ) → struck ws k ≡ false
    → block_at k (stored ws t) ≡ block_at k t
unfolding stored
stored_other [] t ok k h = refl
stored_other (w ∷ ws) t ok k h =
    let size = one_size w t (first_there _ w ws ok) (first_small _ w ws ok) in
    stored_other ws (put w.bytes (w.step * block_size) t)
    (ap (λ (n : ℕ). in_place (n / block_size) ws) size ∙ others_in _ w ws ok) k (others_apart w ws k h)
    ∙ one_other w t (first_there _ w ws ok) (first_small _ w ws ok) k (first_apart w ws k h)

-- stores after which each step that they went to fails its check
pub stores_overwrite : (ws : List Store) (t : List ℕ) → in_place (steps t) ws ≡ true
    → ((k : ℕ) → k < steps t → struck ws k ≡ true → check_bad (block_at k (stored ws t)) ≡ true)
    → Overwritten (struck ws) t (stored ws t)
stores_overwrite ws t ok fails = record { size = stored_size ws t ok; kept = stored_other ws t ok; fails = fails }

-- a store that was torn after any of its bytes: a beginning of the new bytes over the old ones
module _ (w : Store) (n : ℕ) (t : List ℕ) (there : w.step < steps t) (small : length w.bytes ≤ block_size) where
  torn_in_place : in_place (steps t) (torn n w ∷ []) ≡ true
  unfolding in_place
  torn_in_place =
      and_both _ true
      (and_both (ltb w.step (steps t)) _ (lt-ltb _ _ there)
      (le-leb (length (take n w.bytes)) block_size (omega (arith, length-take n w.bytes))))
      refl

  torn_alone : (k : ℕ) → struck (torn n w ∷ []) k ≡ true → k ≡ w.step
  unfolding struck
  torn_alone k h =
      either (eqb k w.step) (λ y. eqb-true k w.step y)
      (λ f.
      let no = pick_no (eqb k w.step) true false f in
      let z : ◌≡◌ {A = ℕ} 0 1 = cc in
      absurd (omega arith))

  pub torn_overwrites : check_bad (block_at w.step (stored (torn n w ∷ []) t)) ≡ true
      → Overwritten (struck (torn n w ∷ [])) t (stored (torn n w ∷ []) t)
  torn_overwrites bad =
      stores_overwrite (torn n w ∷ []) t torn_in_place
      (λ k known h. ap (λ (i : ℕ). check_bad (block_at i (stored (torn n w ∷ []) t))) (torn_alone k h) ∙ bad)

  -- what then stands at its step
  pub torn_mixed : length w.bytes ≡ block_size → n ≤ block_size
      → block_at w.step (stored (torn n w ∷ []) t) ≡ take n w.bytes ++ drop n (block_at w.step t)
  unfolding stored block_at put
  torn_mixed full most =
      let at = w.step * block_size in
      let c = take n w.bytes in
      let l = drop at t in
      let rest = block_size - n in
      let size : length c ≡ n = length-take-le n w.bytes (omega arith) in
      let old : block_size ≤ length l = omega (arith, length-drop at t) in
      let all : block_size ≡ length c + rest = omega arith in
      let both : block_size ≡ n + rest = omega arith in
      let behind : drop n (take block_size l) ≡ take rest (drop n l) =
      ap (drop n) (ap (λ (k : ℕ). take k l) both ∙ take-add n rest l)
      ∙ drop_at (take n l) (take rest (drop n l)) n (length-take-le n l (omega arith)) in
      ap (take block_size) (drop_at (take at t) (c ++ drop (length c) l) at (length-take-le at t (omega arith)))
      ∙ (ap (λ (k : ℕ). take k (c ++ drop (length c) l)) all
      ∙ (take-append-add c (drop (length c) l) rest
      ∙ ap (◌++◌ c) (ap (λ (k : ℕ). take rest (drop k l)) size ∙ sym behind)))
