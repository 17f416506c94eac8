-- Only what the terminal lists joins, and only its AIDs are asked for: by every answer and every choice.
-- Assumes nothing.
use mathlib.Core.Path.{◌≡◌, refl, sym, ap, ◌∙◌}
use mathlib.Core.Bool.{Bool, true, false, not, ◌&&◌, ◌||◌}
use mathlib.Core.List.{List, [], ◌∷◌, map}
use Prim.Native.Nat.{ℕ, zero, suc, ◌+◌, ◌<◌}
use native.Mathlib.Omega.{arith}
use lib.Dec.{eqb, ltb, leb}
use lib.ListN.{length, get_or, take}
use lib.Seq.{take-length}
use borrow.Author.Tests.{ltb-true}
use Rattle.slices.specs.Choice.{pick}
use Rattle.slices.specs.Tests.{alike}
use Rattle.slices.specs.Tables.{any_of}
use Rattle.slices.proofs.Choice.{pick_yes, picked, and_left, and_right}
use Rattle.slices.proofs.Comparing.{alike_same, same_alike}
use Rattle.dol_wanted.specs.Wanted.{fillable}
use Rattle.start_list.specs.Listing.{Listed as Entry, Applications, listed_of, listed_at}
use Rattle.answer_common.specs.Answer.{size_bad}
use Rattle.answer_select.specs.Select.{pdol_of}
use Rattle.select_names.specs.Names.{begins_with, matches, supported}
use Rattle.select_answers.specs.Files.{directory_file, is_application, application_name, application_indicator}
use Rattle.select_answers.specs.Directory.{Met, record_right, applications_of}
use Rattle.select_list.specs.Order.{Candidate, candidate_of, placed, without}
use Rattle.select_list.specs.Kept.{candidate_at}
use Rattle.select_search.specs.Search.{Search, asks, shows, runs, over, begun, may_go_on, goes, offers, with_list, has_status}
use Rattle.select_search.specs.Final.{attended, unattended, final_selection, chosen, less_one, selected, after_final}
use Rattle.select_search.specs.Listing.{from_first, next_aid, joined_by, compared, after_listed}
use Rattle.select_search.specs.Directory.{after_environment, next_record, joined_all, after_record}
use Rattle.select_search.specs.Heard.{heard_at, heard}
use Rattle.select_search.specs.declared.Step.{Step}
use Rattle.select_search.specs.declared.Step.TheVariants.{Environment, Directory, Listed, Final}
use Rattle.select_laws.specs.Supported.{AllSupported, OneOfStart, Known}

-- one that passes, by its place
any_in : {A : Type 0} (p : A → Bool) (l : List A) (d : A) (k : ℕ) → k < length l → p (get_or l k d) ≡ true → any_of (map p l) ≡ true
unfolding any_of
any_in p [] d k h e = absurd (omega arith)
any_in p (x ∷ l) d zero h e = pick_yes _ _ _ e
any_in p (x ∷ l) d (suc k) h e =
    picked (λ (b : Bool). b ≡ true) (p x) true (any_of (map p l)) (λ y. refl) (λ n. any_in p l d k (omega arith) e)

-- a name that equals an AID, and one that begins with one that is partial
same_matches : (name : List ℕ) (l : Entry) → alike l.aid name ≡ true → matches name l ≡ true
unfolding matches begins_with
same_matches name l e =
    picked (λ (b : Bool). b ≡ true) l.partial (alike l.aid (take (length l.aid) name)) (alike l.aid name)
    (λ y.
    ap (λ n. alike l.aid (take (length l.aid) n)) (sym (alike_same l.aid name e))
    ∙ (ap (alike l.aid) (take-length l.aid) ∙ same_alike l.aid))
    (λ n. e)

longer_matches : (name : List ℕ) (l : Entry) → begins_with l.aid name ≡ true → l.partial ≡ true → matches name l ≡ true
unfolding matches
longer_matches name l e p = pick_yes _ _ _ p ∙ e

module _ (t : Applications) where
  at_place : (name : List ℕ) (k : ℕ) → k < length t.list → matches name (listed_at t k) ≡ true → supported t name ≡ true
  unfolding supported listed_at
  at_place name k h e = any_in (matches name) t.list (listed_of []) k h e

  all_placed : (c : Candidate) (l : List Candidate) → supported t c.name ≡ true → AllSupported t l → AllSupported t (placed c l)
  unfolding placed
  all_placed c [] e o = (e, o)
  all_placed c (d ∷ l) e o =
      picked (AllSupported t) (leb d.standing c.standing) (d ∷ placed c l) (c ∷ d ∷ l)
      (λ y. (o.0, all_placed c l e o.1))
      (λ n. (e, o))

  all_without : (i : ℕ) (l : List Candidate) → AllSupported t l → AllSupported t (without i l)
  unfolding without
  all_without zero [] o = o
  all_without (suc i) [] o = o
  all_without zero (d ∷ l) o = o.1
  all_without (suc i) (d ∷ l) o = (o.0, all_without i l o.1)

  all_joined : (ms : List Met) (l : List Candidate) → AllSupported t l → AllSupported t (joined_all t ms l)
  unfolding joined_all candidate_of
  all_joined [] l o = o
  all_joined (m ∷ ms) l o =
      all_joined ms _
      (picked (AllSupported t) (supported t m.name) (placed (candidate_of t.choice m.name m.indicator) l) l
      (λ y. all_placed (candidate_of t.choice m.name m.indicator) l y o)
      (λ n. o))

  by_answer : (a : List ℕ) (s : Search) → supported t (application_name a) ≡ true → AllSupported t s.list
      → AllSupported t (joined_by t a s).list
  unfolding joined_by with_list candidate_of
  by_answer a s e o =
      picked (λ x. AllSupported t x.list) (has_status 0x9000 a) _ s
      (λ y. all_placed (candidate_of t.choice (application_name a) (application_indicator a)) s.list e o)
      (λ n. o)

  on : (s : Search) (step : Step) → AllSupported t s.list → OneOfStart t step → Known t (goes s step)
  unfolding goes
  on s step o k = picked (Known t) (may_go_on s) _ (over 11) (λ y. (o, k)) (λ n. tt)

  final_known : (s : Search) → AllSupported t s.list → Known t (final_selection t s)
  unfolding final_selection attended unattended offers
  final_known s o =
      picked (Known t) (eqb (length s.list) 0) (over 12) (pick t.choice (attended s) (unattended s))
      (λ y. tt)
      (λ n.
      picked (Known t) t.choice (attended s) (unattended s)
      (λ can.
      picked (Known t) (ltb 1 (length s.list) || ((candidate_at s.list 0).confirm || s.stand.fallen)) (offers s)
      (goes s (Final 0 false))
      (λ y. picked (Known t) (may_go_on s) (shows s) (over 11) (λ z. o) (λ z. tt))
      (λ z. on s (Final 0 false) o tt))
      (λ cannot.
      picked (Known t) (candidate_at s.list 0).confirm (over 12) (goes s (Final 0 false)) (λ y. tt) (λ z. on s (Final 0 false) o tt)))

  next_known : (s : Search) (k : ℕ) → AllSupported t s.list → Known t (next_aid t s k)
  unfolding next_aid
  next_known s k o =
      picked (Known t) (ltb (k + 1) (length t.list)) (goes s (Listed (k + 1) false)) (final_selection t s)
      (λ y. on s (Listed (k + 1) false) o (ltb-true _ _ y))
      (λ n. final_known s o)

  module _ (some : 0 < length t.list) (s : Search) (o : AllSupported t s.list) (a : List ℕ) where
    compared_known : (k : ℕ) → k < length t.list → Known t (compared t s k a)
    unfolding compared
    compared_known k h =
        picked (Known t) (alike (listed_at t k).aid (application_name a)) (next_aid t (joined_by t a s) k) _
        (λ y.
        next_known (joined_by t a s) k
        (by_answer a s (at_place (application_name a) k h (same_matches (application_name a) (listed_at t k) y)) o))
        (λ n.
        picked (Known t) (begins_with (listed_at t k).aid (application_name a) && (listed_at t k).partial)
        (goes (joined_by t a s) (Listed k true)) (next_aid t s k)
        (λ y.
        on (joined_by t a s) (Listed k true)
        (by_answer a s
        (at_place (application_name a) k h
        (longer_matches (application_name a) (listed_at t k) (and_left _ _ y)
        (and_right (begins_with (listed_at t k).aid (application_name a)) (listed_at t k).partial y)))
        o)
        h)
        (λ m. next_known s k o))

    at_step : (step : Step) → OneOfStart t step → Known t (heard_at t s a step)
    unfolding heard_at after_environment after_record after_listed after_final from_first with_list less_one
    at_step Environment p =
        picked (Known t) (has_status 0x6A81 a) (over 12) _
        (λ y. tt)
        (λ n.
        picked (Known t) (has_status 0x9000 a && not (eqb (directory_file a) 0)) (goes s (Directory (directory_file a) 1)) (from_first s)
        (λ y. on s (Directory (directory_file a) 1) o tt)
        (λ m. on s (Listed 0 false) o some))
    at_step (Directory file number) p =
        picked (Known t) (has_status 0x6A83 a && not (eqb (length s.list) 0)) (final_selection t s) _
        (λ y. final_known s o)
        (λ n.
        picked (Known t) (has_status 0x9000 a && record_right a)
        (goes (with_list (joined_all t (applications_of a) s.list) s) (Directory file (next_record number)))
        (from_first (with_list [] s))
        (λ y.
        on (with_list (joined_all t (applications_of a) s.list) s) (Directory file (next_record number))
        (all_joined (applications_of a) s.list o) tt)
        (λ m. on (with_list [] s) (Listed 0 false) tt some))
    at_step (Listed k again) p =
        picked (Known t) (eqb k 0 && (not again && has_status 0x6A81 a)) (over 12) _
        (λ y. tt)
        (λ n.
        picked (Known t) ((has_status 0x9000 a || has_status 0x6283 a) && is_application a) (compared t s k a) (next_aid t s k)
        (λ y. compared_known k p)
        (λ m. next_known s k o))
    at_step (Final place taken) p =
        picked (Known t) (selected s.list place a) (pick (fillable (pdol_of a)) (runs (pdol_of a)) (over 9))
        (final_selection t (less_one place taken s))
        (λ y. picked (Known t) (fillable (pdol_of a)) (runs (pdol_of a)) (over 9) (λ f. tt) (λ f. tt))
        (λ n. final_known (less_one place taken s) (all_without place s.list o))

    pub heard_known : OneOfStart t s.stand.step → Known t (heard t s a)
    unfolding heard
    heard_known p = picked (Known t) (size_bad a) (over 1) (heard_at t s a s.stand.step) (λ y. tt) (λ n. at_step s.stand.step p)

  -- a choice, and the beginning
  pub chosen_known : (s : Search) → AllSupported t s.list → (place : ℕ) → Known t (chosen s place)
  unfolding chosen
  chosen_known s o place =
      picked (Known t) (eqb place 0xFF) (over 12) (goes s (Final place true)) (λ y. tt) (λ n. on s (Final place true) o tt)

  pub begun_known : Known t (asks begun)
  unfolding begun
  begun_known = (tt, tt)
