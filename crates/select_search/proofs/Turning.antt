-- A turn and the list beside it are what the definitions find. What goes on has the search's own list (`Own`), and cut before or behind it
-- is the same (`Cuts`): so the lent bytes, which have room for 355, decide as the whole list does.
-- Assumes nothing.
use mathlib.Core.Path.{◌≡◌, refl, sym, ap, ap₂, ◌∙◌}
use mathlib.Core.Bool.{Bool, true, false, not, ◌&&◌, ◌||◌}
use mathlib.Core.List.{List, []}
use Prim.Native.Nat.{ℕ, ◌+◌}
use native.Mathlib.Omega.{arith}
use lib.Dec.{eqb, ltb}
use lib.ListN.{length, take}
use Rattle.slices.specs.Choice.{pick}
use Rattle.slices.proofs.Choice.{picked, pick_ap, pick_cong}
use Rattle.start_list.specs.Listing.{Applications}
use Rattle.select_answers.specs.Files.{directory_file}
use Rattle.select_list.specs.Order.{Candidate}
use Rattle.select_list.specs.Kept.{most_kept}
use Rattle.select_list.proofs.Seen.{first_seen, none_seen, two_seen}
use Rattle.select_search.specs.Search.{Search, Found, shows, over, most_exchanges, may_go_on, goes, offers, has_status, cut_to}
use Rattle.select_search.specs.Final.{attended, unattended, final_selection, chosen}
use Rattle.select_search.specs.Listing.{from_first, next_aid}
use Rattle.select_search.specs.Directory.{after_environment}
use Rattle.select_search.specs.Turns.{search_of, turn_of, turned, kept}
use Rattle.select_search.specs.declared.Stand.{Stand}
use Rattle.select_search.specs.declared.Turn.{Turn}
use Rattle.select_search.specs.declared.Step.{Step}
use Rattle.select_search.specs.declared.Step.TheVariants.{Directory, Listed, Final}

-- where the selection goes on it does so with this list; and it is no GPO
abbrev Own : List Candidate → Found → Type 0
Own l f = (a : List ℕ) → turned (turn_of f) l a ≡ f

-- a choice between two
own_pick : (l : List Candidate) (t : Bool) (x y : Found) → Own l x → Own l y → Own l (pick t x y)
own_pick l t x y e f = picked (Own l) t x y (λ z. e) (λ z. f)

over_own : (l : List Candidate) (reason : ℕ) → Own l (over reason)
unfolding turn_of turned
over_own l reason a = refl

module _ (s : Search) where
  goes_own : (step : Step) → Own s.list (goes s step)
  unfolding goes turn_of turned
  goes_own step = own_pick s.list (may_go_on s) _ (over 11) (λ a. refl) (λ a. refl)

  offers_own : Own s.list (offers s)
  unfolding offers turn_of turned
  offers_own = own_pick s.list (may_go_on s) (shows s) (over 11) (λ a. refl) (λ a. refl)

  final_own : (t : Applications) → Own s.list (final_selection t s)
  unfolding final_selection attended unattended
  final_own t =
      own_pick s.list (eqb (length s.list) 0) (over 12) _ (over_own s.list 12)
      (own_pick s.list t.choice _ _
      (own_pick s.list _ (offers s) (goes s (Final 0 false)) offers_own (goes_own (Final 0 false)))
      (own_pick s.list _ (over 12) (goes s (Final 0 false)) (over_own s.list 12) (goes_own (Final 0 false))))

  next_own : (t : Applications) (k : ℕ) → Own s.list (next_aid t s k)
  unfolding next_aid
  next_own t k =
      own_pick s.list _ (goes s (Listed (k + 1) false)) (final_selection t s) (goes_own (Listed (k + 1) false)) (final_own t)

  environment_own : (b : List ℕ) → Own s.list (after_environment s b)
  unfolding after_environment from_first
  environment_own b =
      own_pick s.list (has_status 0x6A81 b) (over 12) _ (over_own s.list 12)
      (own_pick s.list _ (goes s (Directory (directory_file b) 1)) (goes s (Listed 0 false)) (goes_own (Directory (directory_file b) 1))
      (goes_own (Listed 0 false)))

-- cut before or behind
abbrev Cuts : (Search → Found) → Type 0
Cuts f = (s : Search) → kept (f s) ≡ f (cut_to most_kept s)

kept_pick : {t t' : Bool} (x x' y y' : Found) → t ≡ t' → kept x ≡ x' → kept y ≡ y' → kept (pick t x y) ≡ pick t' x' y'
kept_pick {t} {t'} x x' y y' e f g =
    pick_ap kept t x y
    ∙ (pick_cong t (kept x) x' (kept y) y' (λ z. f) (λ z. g) ∙ ap (λ (b : Bool). pick b x' y') e)

goes_cuts : (step : Step) → Cuts (λ s. goes s step)
unfolding goes may_go_on kept
goes_cuts step s = pick_ap kept (ltb s.stand.exchanges most_exchanges) _ (over 11)

offers_cuts : Cuts offers
unfolding offers may_go_on kept
offers_cuts s = pick_ap kept (ltb s.stand.exchanges most_exchanges) (shows s) (over 11)

over_cuts : (reason : ℕ) → kept (over reason) ≡ over reason
unfolding kept
over_cuts reason = refl

attended_cuts : Cuts attended
unfolding attended
attended_cuts s =
    let s' : Search = cut_to most_kept s in
    kept_pick (offers s) (offers s') (goes s (Final 0 false)) (goes s' (Final 0 false))
    (ap₂ (λ (x y : Bool). x || y) (two_seen most_kept s.list (omega arith))
    (ap (λ (c : Candidate). c.confirm || s.stand.fallen) (sym (first_seen most_kept s.list (omega arith)))))
    (offers_cuts s)
    (goes_cuts (Final 0 false) s)

unattended_cuts : Cuts unattended
unfolding unattended
unattended_cuts s =
    kept_pick (over 12) (over 12) (goes s (Final 0 false)) (goes (cut_to most_kept s) (Final 0 false))
    (ap (λ (c : Candidate). c.confirm) (sym (first_seen most_kept s.list (omega arith))))
    (over_cuts 12)
    (goes_cuts (Final 0 false) s)

final_cuts : (t : Applications) → Cuts (final_selection t)
unfolding final_selection
final_cuts t s =
    let s' : Search = cut_to most_kept s in
    kept_pick (over 12) (over 12) (pick t.choice (attended s) (unattended s)) (pick t.choice (attended s') (unattended s'))
    (none_seen most_kept s.list (omega arith))
    (over_cuts 12)
    (kept_pick (attended s) (attended s') (unattended s) (unattended s') refl (attended_cuts s) (unattended_cuts s))

next_cuts : (t : Applications) (k : ℕ) → Cuts (λ s. next_aid t s k)
unfolding next_aid
next_cuts t k s =
    kept_pick (goes s (Listed (k + 1) false)) (goes (cut_to most_kept s) (Listed (k + 1) false)) (final_selection t s)
    (final_selection t (cut_to most_kept s)) refl (goes_cuts (Listed (k + 1) false) s) (final_cuts t s)

environment_cuts : (b : List ℕ) → Cuts (λ s. after_environment s b)
unfolding after_environment from_first
environment_cuts b s =
    let s' : Search = cut_to most_kept s in
    kept_pick (over 12) (over 12) _ _ refl (over_cuts 12)
    (kept_pick (goes s (Directory (directory_file b) 1)) (goes s' (Directory (directory_file b) 1)) (goes s (Listed 0 false))
    (goes s' (Listed 0 false)) refl (goes_cuts (Directory (directory_file b) 1) s) (goes_cuts (Listed 0 false) s))

-- a turn that the code found with the list as it is kept
settles : (f : Search → Found) → ((s : Search) → Own s.list (f s)) → Cuts f → (s : Search) (r : Turn) (l : List Candidate)
    (a : List ℕ) → l ≡ take most_kept s.list → r ≡ turn_of (f (search_of s.stand l)) → turned r l a ≡ kept (f s)
settles f own cuts s r l a e g =
    ap (λ x. turned x l a) g
    ∙ (own (search_of s.stand l) a ∙ (ap (λ x. f (search_of s.stand x)) e ∙ sym (cuts s)))

-- whether another exchange can be made is not asked of the list
pub goes_any : (stand : Stand) (step : Step) (l : List Candidate)
    → turn_of (goes (search_of stand []) step) ≡ turn_of (goes (search_of stand l) step)
unfolding goes may_go_on turn_of
goes_any stand step l =
    pick_ap turn_of (ltb stand.exchanges most_exchanges) _ (over 11)
    ∙ sym (pick_ap turn_of (ltb stand.exchanges most_exchanges) _ (over 11))

pub offers_any : (stand : Stand) (l : List Candidate) → turn_of (offers (search_of stand [])) ≡ turn_of (offers (search_of stand l))
unfolding offers may_go_on turn_of
offers_any stand l =
    pick_ap turn_of (ltb stand.exchanges most_exchanges) (shows (search_of stand [])) (over 11)
    ∙ sym (pick_ap turn_of (ltb stand.exchanges most_exchanges) (shows (search_of stand l)) (over 11))

environment_any : (stand : Stand) (b : List ℕ) (l : List Candidate)
    → turn_of (after_environment (search_of stand []) b) ≡ turn_of (after_environment (search_of stand l) b)
unfolding after_environment from_first
environment_any stand b l =
    same (has_status 0x6A81 b) (over 12) (over 12) _ _ refl
    (same (has_status 0x9000 b && not (eqb (directory_file b) 0)) _ _ (goes (search_of stand []) (Listed 0 false))
    (goes (search_of stand l) (Listed 0 false))
    (goes_any stand (Directory (directory_file b) 1) l)
    (goes_any stand (Listed 0 false) l))
  where
    same : (t : Bool) (x x' y y' : Found) → turn_of x ≡ turn_of x' → turn_of y ≡ turn_of y' → turn_of (pick t x y) ≡ turn_of (pick t x' y')
    same t x x' y y' e f =
        pick_ap turn_of t x y ∙ (pick_cong t (turn_of x) (turn_of x') (turn_of y) (turn_of y') (λ z. e) (λ z. f)
        ∙ sym (pick_ap turn_of t x' y'))

-- a choice, whoever stands in the list
pub chosen_turned : (stand : Stand) (place : ℕ) (l : List Candidate) (a : List ℕ)
    → turned (turn_of (chosen (search_of stand []) place)) l a ≡ chosen (search_of stand l) place
unfolding chosen
chosen_turned stand place l a =
    ap (λ x. turned x l a)
    (pick_ap turn_of (eqb place 0xFF) (over 12) _
    ∙ (pick_cong (eqb place 0xFF) (turn_of (over 12)) (turn_of (over 12)) _ _ (λ y. refl) (λ n. goes_any stand (Final place true) l)
    ∙ sym (pick_ap turn_of (eqb place 0xFF) (over 12) (goes (search_of stand l) (Final place true)))))
    ∙ own_pick l (eqb place 0xFF) (over 12) (goes (search_of stand l) (Final place true)) (over_own l 12)
    (goes_own (search_of stand l) (Final place true)) a

-- the next exchange, whoever stands in the list
pub goes_settles : (s : Search) (step : Step) (r : Turn) (l : List Candidate) (a : List ℕ) → l ≡ take most_kept s.list
    → r ≡ turn_of (goes (search_of s.stand []) step) → turned r l a ≡ kept (goes s step)
goes_settles s step r l a e g =
    settles (λ x. goes x step) (λ x. goes_own x step) (goes_cuts step) s r l a e (g ∙ goes_any s.stand step l)

pub next_settles : (t : Applications) (k : ℕ) (s : Search) (r : Turn) (l : List Candidate) (a : List ℕ) → l ≡ take most_kept s.list
    → r ≡ turn_of (next_aid t (search_of s.stand l) k) → turned r l a ≡ kept (next_aid t s k)
next_settles t k = settles (λ x. next_aid t x k) (λ x. next_own x t k) (next_cuts t k)

pub final_settles : (t : Applications) (s : Search) (r : Turn) (l : List Candidate) (a : List ℕ) → l ≡ take most_kept s.list
    → r ≡ turn_of (final_selection t (search_of s.stand l)) → turned r l a ≡ kept (final_selection t s)
final_settles t = settles (final_selection t) (λ x. final_own x t) (final_cuts t)

pub environment_settles : (s : Search) (b : List ℕ) (r : Turn) (l : List Candidate) (a : List ℕ) → l ≡ take most_kept s.list
    → r ≡ turn_of (after_environment (search_of s.stand []) b) → turned r l a ≡ kept (after_environment s b)
environment_settles s b r l a e g =
    settles (λ x. after_environment x b) (λ x. environment_own x b) (environment_cuts b) s r l a e (g ∙ environment_any s.stand b l)
