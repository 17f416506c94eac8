-- After every answer and every choice no more choices can come than could before it, and a choice is one less: so a selection has at most
-- `choices_asked` of where it begins.
-- Assumes nothing.
use mathlib.Core.Path.{◌≡◌, refl, ap, subst}
use mathlib.Core.Bool.{Bool, true, false, not, ◌&&◌, ◌||◌}
use mathlib.Core.List.{List, [], ◌∷◌}
use Prim.Native.Nat.{ℕ, zero, suc, ◌+◌, ◌-◌, ◌≤◌, ◌<◌}
use native.Mathlib.Omega.{arith}
use lib.Dec.{eqb, leb, ltb}
use lib.ListN.{length}
use borrow.Author.Tests.{ltb-true, ltb-false, eqb-false}
use Rattle.slices.specs.Choice.{pick}
use Rattle.slices.specs.Tests.{alike}
use Rattle.slices.proofs.Choice.{picked, and_right}
use Rattle.dol_wanted.specs.Wanted.{fillable}
use Rattle.start_list.specs.Listing.{Applications, listed_at}
use Rattle.select_names.specs.Names.{supported, begins_with}
use Rattle.answer_common.specs.Answer.{size_bad}
use Rattle.answer_select.specs.Select.{pdol_of}
use Rattle.select_answers.specs.Files.{directory_file, is_application, application_name, application_indicator}
use Rattle.select_answers.specs.Directory.{Met, record_right, applications_of}
use Rattle.select_list.specs.Order.{Candidate, candidate_of, placed, without}
use Rattle.select_list.specs.Kept.{candidate_at}
use Rattle.select_search.specs.Search.{Search, Found, shows, runs, over, most_exchanges, may_go_on, goes, offers, with_list, has_status}
use Rattle.select_search.specs.Final.{attended, unattended, final_selection, chosen, less_one, selected, after_final}
use Rattle.select_search.specs.Listing.{from_first, next_aid, joined_by, compared, after_listed}
use Rattle.select_search.specs.Directory.{after_environment, next_record, joined_all, after_record}
use Rattle.select_search.specs.Heard.{heard_at, heard}
use Rattle.select_search.specs.declared.Step.{Step}
use Rattle.select_search.specs.declared.Step.TheVariants.{Environment, Directory, Listed, Final}
use Rattle.select_laws.specs.Choices.{lesser, evened, choices_at, choices_shown, choices_asked, choices_in}
use Rattle.select_laws.proofs.Packed.{few_applications}

-- ---- the lesser of two

lesser_left : (a b : ℕ) → lesser a b ≤ a
unfolding lesser
lesser_left a b = picked (λ (n : ℕ). n ≤ a) (ltb a b) a b (λ y. omega arith) (λ n. omega (arith, ltb-false a b n))

lesser_right : (a b : ℕ) → lesser a b ≤ b
unfolding lesser
lesser_right a b = picked (λ (n : ℕ). n ≤ b) (ltb a b) a b (λ y. omega (arith, ltb-true a b y)) (λ n. omega arith)

under_both : (n a b : ℕ) → n ≤ a → n ≤ b → n ≤ lesser a b
unfolding lesser
under_both n a b h k = picked (λ (m : ℕ). n ≤ m) (ltb a b) a b (λ y. h) (λ m. k)

-- under both, and so under what both even out to
under_evened : (n c r : ℕ) → n ≤ c → n ≤ r → n ≤ evened c r
under_evened n c r h k = omega arith

-- ---- lists

placed_length : (c : Candidate) (l : List Candidate) → length (placed c l) ≡ length l + 1
unfolding placed
placed_length c [] = refl
placed_length c (d ∷ l) =
    picked (λ (x : List Candidate). length x ≡ length (d ∷ l) + 1) (leb d.standing c.standing) (d ∷ placed c l) (c ∷ d ∷ l)
    (λ y. let rest = placed_length c l in omega arith)
    (λ n. omega arith)

joined_length : (t : Applications) (ms : List Met) (l : List Candidate) → length (joined_all t ms l) ≤ length l + length ms
unfolding joined_all
joined_length t [] l = omega arith
joined_length t (m ∷ ms) l =
    let c = candidate_of t.choice m.name m.indicator in
    picked (λ (x : List Candidate). length (joined_all t ms x) ≤ length l + length (m ∷ ms)) (supported t m.name) (placed c l) l
    (λ y. let rest = joined_length t ms (placed c l) in let one = placed_length c l in omega arith)
    (λ n. let rest = joined_length t ms l in omega arith)

without_least : (i : ℕ) (l : List Candidate) → length (without i l) ≤ length l
unfolding without
without_least i [] = omega arith
without_least zero (d ∷ l) = omega arith
without_least (suc i) (d ∷ l) = let rest = without_least i l in omega arith

without_fewer : (i : ℕ) (l : List Candidate) → i < length l → length (without i l) + 1 ≡ length l
unfolding without
without_fewer i [] h = absurd (omega arith)
without_fewer zero (d ∷ l) h = omega arith
without_fewer (suc i) (d ∷ l) h = let rest = without_fewer i l (omega arith) in omega arith

-- ---- where a search goes

-- the exchange after it, while there is one
goes_few : (n : ℕ) (s : Search) (step : Step)
    → (s.stand.exchanges < most_exchanges → choices_at (s.stand.exchanges + 1) s.list step ≤ n) → choices_in (goes s step) ≤ n
unfolding goes may_go_on choices_in choices_asked
goes_few n s step h =
    picked (λ (f : Found). choices_in f ≤ n) (ltb s.stand.exchanges most_exchanges) _ (over 11)
    (λ y. h (ltb-true _ _ y))
    (λ m. omega arith)

module _ (s : Search) where
  abbrev e : ℕ
  e = s.stand.exchanges

  abbrev c : ℕ
  c = length s.list

  abbrev left : ℕ
  left = most_exchanges - e

  -- the first of the list is selected unasked
  first_few : choices_in (goes s (Final 0 false)) ≤ lesser c left
  unfolding choices_at
  first_few =
      goes_few (lesser c left) s (Final 0 false)
      (λ h.
      let l = length (without 0 s.list) in
      let r = most_exchanges - (e + 1) in
      let a = lesser_left l r in
      let b = lesser_right l r in
      let fewer = without_least 0 s.list in
      under_both (lesser l r) c left (omega arith) (omega arith))

  offers_few : 0 < c → choices_in (offers s) ≤ lesser c left
  unfolding offers may_go_on choices_in choices_shown
  offers_few some =
      picked (λ (f : Found). choices_in f ≤ lesser c left) (ltb e most_exchanges) (shows s) (over 11)
      (λ y.
      let h : e < most_exchanges = ltb-true _ _ y in
      let r = most_exchanges - (e + 1) in
      let a = lesser_left (c - 1) r in
      let b = lesser_right (c - 1) r in
      under_both (1 + lesser (c - 1) r) c left (omega arith) (omega arith))
      (λ n. omega arith)

  attended_few : 0 < c → choices_in (attended s) ≤ lesser c left
  unfolding attended
  attended_few some =
      picked (λ (f : Found). choices_in f ≤ lesser c left) (ltb 1 c || ((candidate_at s.list 0).confirm || s.stand.fallen))
      (offers s)
      (goes s (Final 0 false))
      (λ y. offers_few some)
      (λ n. first_few)

  unattended_few : choices_in (unattended s) ≤ lesser c left
  unfolding unattended choices_in
  unattended_few =
      picked (λ (f : Found). choices_in f ≤ lesser c left) (candidate_at s.list 0).confirm (over 12) (goes s (Final 0 false))
      (λ y. omega arith)
      (λ n. first_few)

  -- the list is complete
  final_few : (t : Applications) → choices_in (final_selection t s) ≤ lesser c left
  unfolding final_selection choices_in
  final_few t =
      picked (λ (f : Found). choices_in f ≤ lesser c left) (eqb c 0) (over 12) (pick t.choice (attended s) (unattended s))
      (λ y. omega arith)
      (λ n.
      let other = eqb-false c 0 n in
      picked (λ (f : Found). choices_in f ≤ lesser c left) t.choice (attended s) (unattended s)
      (λ y. attended_few (positive c other))
      (λ m. unattended_few))
    where
      positive : (n : ℕ) → (n ≡ 0 → ⊥) → 0 < n
      positive zero h = absurd (h refl)
      positive (suc n) h = omega arith

  final_evened : (t : Applications) (k : ℕ) → c ≤ k → choices_in (final_selection t s) ≤ evened k left
  final_evened t k h =
      let few = final_few t in
      let a = lesser_left c left in
      let b = lesser_right c left in
      under_evened (choices_in (final_selection t s)) k left (omega arith) (omega arith)

  -- the next AID, where one has joined or nobody has
  next_few : (t : Applications) (k n : ℕ) → c ≤ n + 1 → choices_in (next_aid t s k) ≤ evened (n + 1) left
  unfolding next_aid choices_at
  next_few t k n h =
      picked (λ (f : Found). choices_in f ≤ evened (n + 1) left) (ltb (k + 1) (length t.list)) (goes s (Listed (k + 1) false))
      (final_selection t s)
      (λ y. goes_few (evened (n + 1) left) s (Listed (k + 1) false) (λ lt. omega arith))
      (λ m. final_evened t (n + 1) h)

  again_few : (k n : ℕ) → c ≤ n + 1 → choices_in (goes s (Listed k true)) ≤ evened (n + 1) left
  unfolding choices_at
  again_few k n h = goes_few (evened (n + 1) left) s (Listed k true) (λ lt. omega arith)

-- ---- an answer

module _ (t : Applications) (s : Search) (a : List ℕ) where
  environment_few : choices_in (after_environment s a) ≤ choices_at (e s) s.list Environment
  unfolding after_environment from_first choices_in choices_at
  environment_few =
      let most = choices_at (e s) s.list Environment in
      picked (λ (f : Found). choices_in f ≤ most) (has_status 0x6A81 a) (over 12) _
      (λ y. omega arith)
      (λ n.
      picked (λ (f : Found). choices_in f ≤ most) (has_status 0x9000 a && not (eqb (directory_file a) 0))
      (goes s (Directory (directory_file a) 1))
      (goes s (Listed 0 false))
      (λ y. goes_few most s (Directory (directory_file a) 1) (λ lt. omega arith))
      (λ m. goes_few most s (Listed 0 false) (λ lt. omega arith)))

  record_few : (file number : ℕ) → choices_in (after_record t s file number a) ≤ evened (c s) (left s)
  unfolding after_record from_first with_list choices_at
  record_few file number =
      let most = evened (c s) (left s) in
      let longer = joined_all t (applications_of a) s.list in
      picked (λ (f : Found). choices_in f ≤ most) (has_status 0x6A83 a && not (eqb (length s.list) 0)) (final_selection t s) _
      (λ y. final_evened s t (c s) (omega arith))
      (λ n.
      picked (λ (f : Found). choices_in f ≤ most) (has_status 0x9000 a && record_right a)
      (goes (with_list longer s) (Directory file (next_record number)))
      (goes (with_list [] s) (Listed 0 false))
      (λ y.
      let few = few_applications a (and_right (has_status 0x9000 a) (record_right a) y) in
      let size = joined_length t (applications_of a) s.list in
      goes_few most (with_list longer s) (Directory file (next_record number)) (λ lt. omega arith))
      (λ m. goes_few most (with_list [] s) (Listed 0 false) (λ lt. omega arith)))

  joined_few : length (joined_by t a s).list ≤ c s + 1
  unfolding joined_by with_list
  joined_few =
      let x = candidate_of t.choice (application_name a) (application_indicator a) in
      picked (λ (z : Search). length z.list ≤ c s + 1) (has_status 0x9000 a) (with_list (placed x s.list) s) s
      (λ y. let one = placed_length x s.list in omega arith)
      (λ n. omega arith)

  joined_stays : (joined_by t a s).stand ≡ s.stand
  unfolding joined_by with_list
  joined_stays = picked (λ (z : Search). z.stand ≡ s.stand) (has_status 0x9000 a) _ s (λ y. refl) (λ n. refl)

  -- what holds behind the one that joined holds by the same number of exchanges
  behind_joined : (f : Found) → choices_in f ≤ evened (c s + 1) (left (joined_by t a s)) → choices_in f ≤ evened (c s + 1) (left s)
  behind_joined f h =
      let same : (joined_by t a s).stand.exchanges ≡ s.stand.exchanges = ap (λ x. x.exchanges) joined_stays in
      subst (λ (n : ℕ). choices_in f ≤ evened (c s + 1) (most_exchanges - n)) same h

  compared_few : (k : ℕ) → choices_in (compared t s k a) ≤ evened (c s + 1) (left s)
  unfolding compared
  compared_few k =
      let most = evened (c s + 1) (left s) in
      picked (λ (f : Found). choices_in f ≤ most) (alike (listed_at t k).aid (application_name a)) (next_aid t (joined_by t a s) k) _
      (λ y. behind_joined (next_aid t (joined_by t a s) k) (next_few (joined_by t a s) t k (c s) joined_few))
      (λ n.
      picked (λ (f : Found). choices_in f ≤ most) (begins_with (listed_at t k).aid (application_name a) && (listed_at t k).partial)
      (goes (joined_by t a s) (Listed k true))
      (next_aid t s k)
      (λ y. behind_joined (goes (joined_by t a s) (Listed k true)) (again_few (joined_by t a s) k (c s) joined_few))
      (λ m. next_few s t k (c s) (omega arith)))

  listed_few : (k : ℕ) (again : Bool) → choices_in (after_listed t s k again a) ≤ evened (c s + 1) (left s)
  unfolding after_listed choices_in
  listed_few k again =
      let most = evened (c s + 1) (left s) in
      picked (λ (f : Found). choices_in f ≤ most) (eqb k 0 && (not again && has_status 0x6A81 a)) (over 12) _
      (λ y. omega arith)
      (λ n.
      picked (λ (f : Found). choices_in f ≤ most) ((has_status 0x9000 a || has_status 0x6283 a) && is_application a) (compared t s k a)
      (next_aid t s k)
      (λ y. compared_few k)
      (λ m. next_few s t k (c s) (omega arith)))

  last_few : (place : ℕ) (taken : Bool) → choices_in (after_final t s place taken a) ≤ lesser (length (without place s.list)) (left s)
  unfolding after_final less_one choices_in
  last_few place taken =
      let most = lesser (length (without place s.list)) (left s) in
      picked (λ (f : Found). choices_in f ≤ most) (selected s.list place a) (pick (fillable (pdol_of a)) (runs (pdol_of a)) (over 9))
      (final_selection t (less_one place taken s))
      (λ y. picked (λ (f : Found). choices_in f ≤ most) (fillable (pdol_of a)) (runs (pdol_of a)) (over 9) (λ f. omega arith)
      (λ f. omega arith))
      (λ n. final_few (less_one place taken s) t)

  at_step : (step : Step) → choices_in (heard_at t s a step) ≤ choices_at (e s) s.list step
  unfolding heard_at choices_at
  at_step Environment = environment_few
  at_step (Directory file number) = record_few file number
  at_step (Listed aid again) = listed_few aid again
  at_step (Final place taken) = last_few place taken

  pub heard_few : choices_in (heard t s a) ≤ choices_asked s
  unfolding heard choices_asked choices_in
  heard_few =
      picked (λ (f : Found). choices_in f ≤ choices_asked s) (size_bad a) (over 1) (heard_at t s a s.stand.step)
      (λ y. omega arith)
      (λ n. at_step s.stand.step)

-- ---- a choice of one that stands in the list, or of none

pub chosen_few : (s : Search) (place : ℕ) → (eqb place 0xFF ≡ false → place < length s.list) → 1
    + choices_in (chosen s place) ≤ choices_shown s
unfolding chosen choices_shown choices_in choices_at
chosen_few s place h =
    let r = most_exchanges - (e s + 1) in
    let most = lesser (c s - 1) r in
    picked (λ (f : Found). 1 + choices_in f ≤ 1 + most) (eqb place 0xFF) (over 12) (goes s (Final place true))
    (λ y. omega arith)
    (λ n.
    let few =
    goes_few most s (Final place true)
    (λ lt.
    let fewer = without_fewer place s.list (h n) in
    let l = length (without place s.list) in
    let a = lesser_left l r in
    let b = lesser_right l r in
    under_both (lesser l r) (c s - 1) r (omega arith) (omega arith)) in
    omega arith)
