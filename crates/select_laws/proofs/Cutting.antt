-- One answer further commutes with cutting the list to what can still matter (`cut_turn`), as one choice further does (`cut_choice` of
-- `Blind`): so a state that keeps 355 applications decides as the whole list does.
-- Assumes nothing.
use mathlib.Core.Path.{◌≡◌, refl, sym, ap, ◌∙◌}
use mathlib.Core.Bool.{Bool, true, not, ◌&&◌}
use mathlib.Core.List.{List, [], ◌∷◌}
use Prim.Native.Nat.{ℕ, suc, ◌+◌, ◌-◌, ◌≤◌, ◌<◌}
use native.Mathlib.Omega.{arith}
use lib.ListN.{take}
use lib.Seq.{take-take, get_or-take}
use Rattle.slices.specs.Choice.{pick}
use Rattle.slices.specs.Tests.{every, alike}
use Rattle.slices.proofs.Choice.{pick_cong, pick_ap}
use Rattle.start_list.specs.Listing.{Applications}
use Rattle.select_names.specs.Names.{supported}
use Rattle.select_answers.specs.Files.{directory_file, is_application, application_name, application_indicator}
use Rattle.select_answers.specs.Directory.{Met, applications_of}
use Rattle.select_list.specs.Order.{Candidate, candidate_of, placed, without, most_shown}
use Rattle.select_list.specs.Kept.{most_kept, candidate_at}
use Rattle.select_list.proofs.Placing.{cut_placed, cut_without}
use Rattle.select_list.proofs.Seen.{none_seen}
use Rattle.select_search.specs.Search.{Search, Found, asks, shows, runs, over, most_exchanges, goes, with_list, has_status, cut_to}
use Rattle.select_search.specs.Final.{final_selection, less_one, selected, after_final}
use Rattle.select_search.specs.Listing.{from_first, next_aid, joined_by, compared, after_listed}
use Rattle.select_search.specs.Directory.{after_environment, next_record, joined_all, after_record}
use Rattle.select_search.specs.Heard.{heard_at, heard}
use Rattle.select_search.specs.Turns.{kept}
use Rattle.select_search.specs.declared.Step.{Step}
use Rattle.select_search.specs.declared.Step.TheVariants.{Environment, Directory, Listed, Final}
use Rattle.select_search.proofs.Joining.{joined_stand}
use Rattle.select_laws.specs.Cut.{room_now, room_next, cut, AmongShown}
use Rattle.select_laws.proofs.Blind.{Blind, cut_pick, goes_blind, final_blind, next_blind, first_blind, alike_cut}

-- joining sees no further than is kept
placed_seen : (m : ℕ) (c : Candidate) (l l' : List Candidate) → take m l ≡ take m l' → take m (placed c l) ≡ take m (placed c l')
placed_seen m c l l' e =
    cut_placed m m c l (omega arith) ∙ (ap (λ x. take m (placed c x)) e ∙ sym (cut_placed m m c l' (omega arith)))

joined_seen : (t : Applications) (m : ℕ) (ms : List Met) (l l' : List Candidate) → take m l ≡ take m l'
    → take m (joined_all t ms l) ≡ take m (joined_all t ms l')
unfolding joined_all
joined_seen t m [] l l' e = e
joined_seen t m (x ∷ ms) l l' e =
    let c = candidate_of t.choice x.name x.indicator in
    joined_seen t m ms (pick (supported t x.name) (placed c l) l) (pick (supported t x.name) (placed c l') l')
    (pick_ap (take m) (supported t x.name) (placed c l) l
    ∙ (pick_cong (supported t x.name) (take m (placed c l)) (take m (placed c l')) (take m l) (take m l')
    (λ y. placed_seen m c l l' e)
    (λ n. e)
    ∙ sym (pick_ap (take m) (supported t x.name) (placed c l') l')))

-- so does falling out, for one place less
fallen_seen : (m i : ℕ) (l : List Candidate) → i ≤ m → take m (without i l) ≡ take m (without i (take (suc m) l))
fallen_seen m i l h =
    cut_without m i l h
    ∙ sym (cut_without m i (take (suc m) l) h ∙ ap (without i) (take-take (suc m) (suc m) l (omega arith)))

module _ (t : Applications) (a : List ℕ) (s : Search) (h : s.stand.exchanges ≤ most_exchanges) where
  abbrev n : ℕ
  n = room_now s

  abbrev m : ℕ
  m = room_next s

  abbrev s' : Search
  s' = cut_to n s

  -- the list itself, as far as is kept next
  as_it_is : take m s.list ≡ take m (take n s.list)
  as_it_is = sym (take-take m n s.list (omega arith))

  same : (f : Search → Found) → Blind f → cut (f s) ≡ cut (f s')
  same f blind = alike_cut f blind s s' refl h as_it_is

  turn_environment : cut (after_environment s a) ≡ cut (after_environment s' a)
  unfolding after_environment
  turn_environment =
      cut_pick (over 12) (over 12) _ _ refl refl
      (cut_pick (goes s (Directory (directory_file a) 1)) (goes s' (Directory (directory_file a) 1)) (from_first s) (from_first s') refl
      (same (λ x. goes x (Directory (directory_file a) 1)) (goes_blind (Directory (directory_file a) 1)))
      (same from_first first_blind))

  turn_record : (file number : ℕ) → cut (after_record t s file number a) ≡ cut (after_record t s' file number a)
  unfolding after_record with_list
  turn_record file number =
      cut_pick (final_selection t s) (final_selection t s') _ _
      (ap (λ (b : Bool). has_status 0x6A83 a && not b) (none_seen n s.list (omega arith)))
      (same (final_selection t) (final_blind t))
      (cut_pick (goes (with_list (joined_all t (applications_of a) s.list) s) (Directory file (next_record number)))
      (goes (with_list (joined_all t (applications_of a) (take n s.list)) s') (Directory file (next_record number)))
      (from_first (with_list [] s))
      (from_first (with_list [] s'))
      refl
      (alike_cut (λ x. goes x (Directory file (next_record number))) (goes_blind (Directory file (next_record number)))
      (with_list (joined_all t (applications_of a) s.list) s)
      (with_list (joined_all t (applications_of a) (take n s.list)) s')
      refl
      h
      (joined_seen t m (applications_of a) s.list (take n s.list) as_it_is))
      refl)

  joined_alike : take m (joined_by t a s).list ≡ take m (joined_by t a s').list
  unfolding joined_by with_list
  joined_alike =
      let c = candidate_of t.choice (application_name a) (application_indicator a) in
      let x : Search = with_list (placed c s.list) s in
      let y : Search = with_list (placed c (take n s.list)) s' in
      pick_ap (λ z. take m z.list) (has_status 0x9000 a) x s
      ∙ (pick_cong (has_status 0x9000 a) (take m x.list) (take m y.list) (take m s.list) (take m s'.list)
      (λ z. placed_seen m c s.list (take n s.list) as_it_is)
      (λ z. as_it_is)
      ∙ sym (pick_ap (λ z. take m z.list) (has_status 0x9000 a) y s'))

  joined : (f : Search → Found) → Blind f → cut (f (joined_by t a s)) ≡ cut (f (joined_by t a s'))
  joined f blind =
      let e = joined_stand t a s in
      let exchanges : (joined_by t a s).stand.exchanges ≡ s.stand.exchanges = ap (λ z. z.exchanges) e in
      let room : room_next (joined_by t a s) ≡ m = ap (λ (k : ℕ). most_kept - (k + 1)) exchanges in
      alike_cut f blind (joined_by t a s) (joined_by t a s') (e ∙ sym (joined_stand t a s')) (omega arith)
      (ap (λ (k : ℕ). take k (joined_by t a s).list) room
      ∙ (joined_alike ∙ sym (ap (λ (k : ℕ). take k (joined_by t a s').list) room)))

  turn_listed : (k : ℕ) (again : Bool) → cut (after_listed t s k again a) ≡ cut (after_listed t s' k again a)
  unfolding after_listed compared
  turn_listed k again =
      cut_pick (over 12) (over 12) _ _ refl refl
      (cut_pick _ _ (next_aid t s k) (next_aid t s' k) refl
      (cut_pick (next_aid t (joined_by t a s) k) (next_aid t (joined_by t a s') k) _ _ refl
      (joined (λ x. next_aid t x k) (next_blind t k))
      (cut_pick (goes (joined_by t a s) (Listed k true)) (goes (joined_by t a s') (Listed k true)) (next_aid t s k) (next_aid t s' k) refl
      (joined (λ x. goes x (Listed k true)) (goes_blind (Listed k true)))
      (same (λ x. next_aid t x k) (next_blind t k))))
      (same (λ x. next_aid t x k) (next_blind t k)))

  turn_final : (place : ℕ) (taken : Bool) → place < most_shown → cut (after_final t s place taken a) ≡ cut (after_final t s' place taken a)
  unfolding after_final selected less_one candidate_at
  turn_final place taken shown =
      let more : n ≡ suc m = omega arith in
      cut_pick _ _ (final_selection t (less_one place taken s)) (final_selection t (less_one place taken s'))
      (ap (λ (c : Candidate). every (has_status 0x9000 a ∷ is_application a ∷ alike c.name (application_name a) ∷ []))
      (sym (get_or-take n s.list place _ (omega arith))))
      refl
      (alike_cut (final_selection t) (final_blind t) (less_one place taken s) (less_one place taken s') refl h
      (fallen_seen m place s.list (omega arith) ∙ ap (λ (k : ℕ). take m (without place (take k s.list))) (sym more)))

  at_step : (step : Step) → AmongShown step → cut (heard_at t s a step) ≡ cut (heard_at t s' a step)
  unfolding heard_at
  at_step Environment p = turn_environment
  at_step (Directory file number) p = turn_record file number
  at_step (Listed aid again) p = turn_listed aid again
  at_step (Final place taken) p = turn_final place taken p

  pub cut_turn : AmongShown s.stand.step → cut (heard t s a) ≡ cut (heard t s' a)
  unfolding heard
  cut_turn p =
      cut_pick (over 1) (over 1) (heard_at t s a s.stand.step) (heard_at t s' a s.stand.step) refl refl
      (at_step s.stand.step p)

-- the room of the lent bytes is no less: what the code keeps of what was found is as good, wherever it is cut
pub kept_cut : (f : Found) → cut (kept f) ≡ cut f
unfolding cut kept
kept_cut (asks x) = ap (λ l. asks (record { stand = x.stand; list = l })) (take-take (room_now x) most_kept x.list (omega arith))
kept_cut (shows x) = ap (λ l. shows (record { stand = x.stand; list = l })) (take-take (room_next x) most_kept x.list (omega arith))
kept_cut (runs list) = refl
kept_cut (over reason) = refl
