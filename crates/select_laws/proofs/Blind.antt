-- Final selection, the next AID and the next exchange look at no more of the list than is kept: cut before or behind, the same is found.
-- Assumes nothing.
use mathlib.Core.Path.{◌≡◌, refl, sym, ap, ap₂, ◌∙◌}
use mathlib.Core.Bool.{Bool, true, false, ◌||◌}
use Prim.Native.Nat.{ℕ, ◌+◌, ◌-◌, ◌≤◌}
use native.Mathlib.Omega.{arith}
use lib.Dec.{ltb}
use lib.ListN.{take}
use lib.Seq.{take-take}
use Rattle.slices.specs.Choice.{pick}
use Rattle.slices.proofs.Choice.{pick_ap, pick_cong}
use Rattle.start_list.specs.Listing.{Applications}
use Rattle.select_list.specs.Order.{Candidate}
use Rattle.select_list.specs.Kept.{most_kept}
use Rattle.select_list.proofs.Seen.{first_seen, none_seen, two_seen}
use Rattle.select_search.specs.Search.{Search, Found, asks, shows, over, most_exchanges, may_go_on, goes, offers, cut_to}
use Rattle.select_search.specs.Final.{attended, unattended, final_selection, chosen}
use Rattle.select_search.specs.Listing.{from_first, next_aid}
use Rattle.select_search.specs.declared.Step.{Step}
use Rattle.select_search.specs.declared.Step.TheVariants.{Listed, Final}
use Rattle.select_laws.specs.Cut.{room_next, cut}

-- a choice between two ends, cut
pub cut_pick : {t t' : Bool} (a a' b b' : Found) → t ≡ t' → cut a ≡ cut a' → cut b ≡ cut b' → cut (pick t a b) ≡ cut (pick t' a' b')
cut_pick {t} {t'} a a' b b' e f g =
    pick_ap cut t a b
    ∙ (pick_cong t (cut a) (cut a') (cut b) (cut b') (λ y. f) (λ n. g)
    ∙ (ap (λ (x : Bool). pick x (cut a') (cut b')) e ∙ sym (pick_ap cut t' a' b')))

-- what it is that a step sees no more than is kept
abbrev pub Blind : (Search → Found) → Type 0
Blind f = (s : Search) → s.stand.exchanges ≤ most_exchanges → cut (f s) ≡ cut (f (cut_to (room_next s) s))

pub goes_blind : (step : Step) → Blind (λ s. goes s step)
unfolding goes may_go_on cut
goes_blind step s h =
    let again = sym (take-take (room_next s) (room_next s) s.list (omega arith)) in
    pick_ap cut (ltb s.stand.exchanges most_exchanges) _ (over 11)
    ∙ (ap
    (λ l.
    pick (ltb s.stand.exchanges most_exchanges)
    (asks
    (record {
      stand = record { exchanges = s.stand.exchanges + 1; step = step; fallen = s.stand.fallen };
      list = l;
    }))
    (over 11))
    again
    ∙ sym (pick_ap cut (ltb s.stand.exchanges most_exchanges) _ (over 11)))

pub offers_blind : Blind offers
unfolding offers may_go_on cut
offers_blind s h =
    let again = sym (take-take (room_next s) (room_next s) s.list (omega arith)) in
    pick_ap cut (ltb s.stand.exchanges most_exchanges) (shows s) (over 11)
    ∙ (ap (λ l. pick (ltb s.stand.exchanges most_exchanges) (shows (record { stand = s.stand; list = l })) (over 11)) again
    ∙ sym (pick_ap cut (ltb s.stand.exchanges most_exchanges) (shows (cut_to (room_next s) s)) (over 11)))

pub attended_blind : Blind attended
unfolding attended
attended_blind s h =
    let m = room_next s in
    cut_pick (offers s) (offers (cut_to m s)) (goes s (Final 0 false)) (goes (cut_to m s) (Final 0 false))
    (ap₂ (λ (x y : Bool). x || y) (two_seen m s.list (omega arith))
    (ap (λ (c : Candidate). c.confirm || s.stand.fallen) (sym (first_seen m s.list (omega arith)))))
    (offers_blind s h)
    (goes_blind (Final 0 false) s h)

pub unattended_blind : Blind unattended
unfolding unattended
unattended_blind s h =
    let m = room_next s in
    cut_pick (over 12) (over 12) (goes s (Final 0 false)) (goes (cut_to m s) (Final 0 false))
    (ap (λ (c : Candidate). c.confirm) (sym (first_seen m s.list (omega arith))))
    refl
    (goes_blind (Final 0 false) s h)

pub final_blind : (t : Applications) → Blind (final_selection t)
unfolding final_selection
final_blind t s h =
    let m = room_next s in
    cut_pick (over 12) (over 12) (pick t.choice (attended s) (unattended s))
    (pick t.choice (attended (cut_to m s)) (unattended (cut_to m s)))
    (none_seen m s.list (omega arith))
    refl
    (cut_pick (attended s) (attended (cut_to m s)) (unattended s) (unattended (cut_to m s)) refl (attended_blind s h)
    (unattended_blind s h))

pub next_blind : (t : Applications) (k : ℕ) → Blind (λ s. next_aid t s k)
unfolding next_aid
next_blind t k s h =
    let m = room_next s in
    cut_pick (goes s (Listed (k + 1) false)) (goes (cut_to m s) (Listed (k + 1) false)) (final_selection t s)
    (final_selection t (cut_to m s))
    refl
    (goes_blind (Listed (k + 1) false) s h)
    (final_blind t s h)

pub first_blind : Blind from_first
unfolding from_first
first_blind = goes_blind (Listed 0 false)

-- two searches that stand alike and whose lists are alike as far as is kept
pub alike_cut : (f : Search → Found) → Blind f → (x y : Search) → x.stand ≡ y.stand → x.stand.exchanges ≤ most_exchanges
    → take (room_next x) x.list ≡ take (room_next x) y.list → cut (f x) ≡ cut (f y)
alike_cut f blind x y e h same =
    let exchanges : x.stand.exchanges ≡ y.stand.exchanges = ap (λ z. z.exchanges) e in
    let lists : take (room_next x) x.list ≡ take (room_next y) y.list =
    same ∙ ap (λ (n : ℕ). take (most_kept - (n + 1)) y.list) exchanges in
    blind x h ∙ (ap (λ z. cut (f z)) (λ i. record { stand = e i; list = lists i }) ∙ sym (blind y (omega arith)))

-- a choice
pub cut_choice : (place : ℕ) → Blind (λ s. chosen s place)
unfolding chosen
cut_choice place s h =
    cut_pick (over 12) (over 12) (goes s (Final place true)) (goes (cut_to (room_next s) s) (Final place true)) refl refl
    (goes_blind (Final place true) s h)
