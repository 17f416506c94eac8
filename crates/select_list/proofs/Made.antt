-- A row that was made for an application reads as that application; and the list after one joined, from its rows.
-- Assumes nothing.
use mathlib.Core.Path.{◌≡◌, refl, sym, ap, ap₂, ◌∙◌}
use mathlib.Core.Bool.{Bool, true, false}
use mathlib.Core.List.{List, ◌∷◌, ◌++◌, map, map-append}
use Prim.Native.Nat.{ℕ, ◌%◌, ◌≤◌, ◌<◌}
use native.Mathlib.Omega.{arith}
use lib.Dec.{leb, eqb}
use lib.ListN.{length, get_or, take, drop, set, length-set}
use lib.Seq.{get_or-set_same, get_or-set_other, drop-set-add, take-set-le, take-take, take-append_seam}
use borrow.Author.Tests.{eq-eqb, ne_eqb, eqb-true, eqb-false}
use Rattle.slices.specs.Writing.{put, laid}
use Rattle.slices.proofs.Choice.{pick_yes, pick_no}
use Rattle.slices.proofs.Writing.{put_length, laid_fits}
use Rattle.start_list.specs.Rows.{row_size, name_room, room_in, name_in, mark_in}
use Rattle.select_list.specs.Order.{Candidate, candidate_of}
use Rattle.select_list.specs.Kept.{most_kept, list_size, candidate_in, room_of, kept_in, list_in}
use Rattle.select_list.specs.Steps.{mark_of}
use Rattle.select_list.proofs.Bytes.{put_before, put_drop}
use Rattle.select_list.proofs.Standing.{mark_standing, mark_confirms}
use Rattle.select_list.proofs.Keeping.{kept_wrong}
use Rattle.select_list.proofs.Filling.{map_take, map_drop}

module _ (v : List ℕ) (m : ℕ) (z : List ℕ) (short : length v ≤ name_room) (size : length z ≡ row_size) where
  abbrev headed : List ℕ
  headed = set z 0 (length v)

  headed_length : length headed ≡ row_size
  headed_length = length-set z 0 (length v) ∙ size

  abbrev named : List ℕ
  named = put v 1 headed

  named_length : length named ≡ row_size
  named_length = let h = headed_length in put_length v 1 headed (omega arith) ∙ h

  abbrev row : List ℕ
  row = set (laid v 1 headed) 17 m

  row_put : row ≡ set named 17 m
  row_put = let h = headed_length in ap (λ l. set l 17 m) (laid_fits v 1 headed (omega arith))

  pub row_name : name_in row ≡ v
  unfolding name_in room_in
  row_name =
      let h = headed_length in
      let long = named_length in
      let first : get_or (set named 17 m) 0 0 ≡ length v =
      get_or-set_other named 17 0 m 0 (λ e. absurd (omega arith))
      ∙ (put_before v 1 headed 0 (omega arith) (omega arith) ∙ get_or-set_same z 0 (length v) 0 (omega arith)) in
      let rest : take name_room (drop 1 (set named 17 m)) ≡ take name_room (v ++ drop (length v) (drop 1 headed)) =
      ap (take name_room) (drop-set-add 1 named 16 m)
      ∙ (take-set-le name_room (drop 1 named) 16 m (omega arith) ∙ ap (take name_room) (put_drop v 1 headed (omega arith))) in
      ap (λ x. take (get_or x 0 0) (take name_room (drop 1 x))) row_put
      ∙ (ap₂ (λ (n : ℕ) (x : List ℕ). take n x) first rest
      ∙ (take-take (length v) name_room (v ++ drop (length v) (drop 1 headed)) short
      ∙ take-append_seam v (drop (length v) (drop 1 headed))))

  pub row_mark : mark_in row ≡ m
  unfolding mark_in
  row_mark = let long = named_length in ap (λ x. get_or x 17 0) row_put ∙ get_or-set_same named 17 m 0 (omega arith)

  pub row_length : length row ≡ row_size
  row_length = let long = named_length in ap length row_put ∙ (length-set named 17 m ∙ long)

pub row_candidate : (r v : List ℕ) (choice : Bool) (b : ℕ) → name_in r ≡ v → mark_in r ≡ mark_of choice b
    → candidate_in r ≡ candidate_of choice v b
unfolding candidate_in candidate_of
row_candidate r v choice b e f =
    λ i.
    record {
      name = e i;
      standing = (ap (λ (n : ℕ). n % 128) f ∙ mark_standing choice b) i;
      confirm = (ap (leb 128) f ∙ mark_confirms choice b) i;
    }

-- bytes that are no list have no room
pub no_room : (d : List ℕ) → (length d ≡ list_size → ⊥) → (l : List Candidate) → list_in d ≡ take (room_of d) l
unfolding list_in room_of
no_room d e l = ap (map candidate_in) (kept_wrong d e) ∙ sym (ap (λ (n : ℕ). take n l) (pick_no _ _ _ (ne_eqb _ _ e)))

pub room_right : (d : List ℕ) → length d ≡ list_size → room_of d ≡ most_kept
unfolding room_of
room_right d e = pick_yes _ _ _ (eq-eqb _ _ e)

-- a row between rows is an application between applications
pub read_between : (d d' r : List ℕ) (c : Candidate) (p k : ℕ) → candidate_in r ≡ c
    → kept_in d' ≡ take p (kept_in d) ++ (r ∷ take k (drop p (kept_in d)))
    → list_in d' ≡ take p (list_in d) ++ (c ∷ take k (drop p (list_in d)))
unfolding list_in
read_between d d' r c p k e f =
    ap (map candidate_in) f
    ∙ (map-append candidate_in (take p (kept_in d)) (r ∷ take k (drop p (kept_in d)))
    ∙ ap₂ (λ (x y : List Candidate). x ++ y) (map_take candidate_in p (kept_in d))
    (ap₂ ◌∷◌ e (map_take candidate_in k (drop p (kept_in d)) ∙ ap (take k) (map_drop candidate_in p (kept_in d)))))

pub read_without : (d d' : List ℕ) (i j : ℕ) → kept_in d' ≡ take i (kept_in d) ++ drop j (kept_in d)
    → list_in d' ≡ take i (list_in d) ++ drop j (list_in d)
unfolding list_in
read_without d d' i j f =
    ap (map candidate_in) f
    ∙ (map-append candidate_in (take i (kept_in d)) (drop j (kept_in d))
    ∙ ap₂ (λ (x y : List Candidate). x ++ y) (map_take candidate_in i (kept_in d)) (map_drop candidate_in j (kept_in d)))

-- where a row counts, the bytes are a list
pub kept_size : (d : List ℕ) → 0 < length (kept_in d) → length d ≡ list_size
kept_size d h = go (eqb (length d) list_size) refl
  where
    go : (t : Bool) → eqb (length d) list_size ≡ t → length d ≡ list_size
    go true e = eqb-true _ _ e
    go false e = let none' = ap length (kept_wrong d (eqb-false _ _ e)) in absurd (omega arith)
