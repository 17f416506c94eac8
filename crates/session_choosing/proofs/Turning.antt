-- A step of the code is the step of the definition: by what an answer found, by what a choice found, and at the beginning.
-- Assumes nothing.
use mathlib.Core.Path.{◌≡◌, refl, sym, ap, ◌∙◌}
use mathlib.Core.Bool.{Bool, true, false}
use mathlib.Core.List.{List, []}
use Prim.Native.Nat.{ℕ}
use native.Mathlib.Nat.{mod-eq_of_lt}
use lib.ListN.{length, take, get_or}
use borrow.Author.Tests.{eqb-true}
use Rattle.slices.specs.Choice.{pick}
use Rattle.slices.specs.Writing.{laid}
use Rattle.numbers.specs.Tables.{choice, terminated}
use Rattle.commands.specs.Commands.{size_in}
use Rattle.start_choosing.specs.Start.{listing_length, is_listing}
use Rattle.start_list.specs.Listing.{applications_in}
use Rattle.select_list.specs.Order.{Candidate, shown_of}
use Rattle.select_list.specs.Kept.{most_kept}
use Rattle.select_search.specs.Search as search
use Rattle.select_search.specs.Search.{Search, Found, runs, over, command_at, asked, goes, may_go_on}
use Rattle.select_search.specs.Final.{chosen}
use Rattle.select_search.specs.Heard.{heard}
use Rattle.select_search.specs.Turns.{search_of, turn_of, list_left, turned, kept}
use Rattle.select_search.specs.declared.Stand.{Stand}
use Rattle.select_search.specs.declared.Turn.{Turn}
use Rattle.select_laws.specs.Bounds.{Bounded}
use Rattle.select_laws.proofs.Bounds.{heard_bounded}
use Rattle.rulebook.specs.Phase.{decides}
use Rattle.rulebook_choosing.specs.Choosing.{further, following, searched, chose, listed}
use Rattle.session_phase.specs.declared.Speaker.TheVariants.{Shopper}
use Rattle.session_phase.specs.declared.Waiting.TheVariants.{Searching, ForWord}
use Rattle.session_phase.specs.declared.Reply.TheVariants.{Command, Due}
use Rattle.session_state.specs.Reading.{early}
use Rattle.session_records.proofs.There.{fixed_all}
use Rattle.session_state.specs.Keeping.{with_stand, changed, state_at, begun_listing}
use Rattle.session_state.specs.declared.State.{State}
use Rattle.session_moves.specs.Moves.{Moved, played, moved, waiting_for}
use Rattle.session_moves.specs.declared.Step.{Step}
use Rattle.session_choosing.specs.Moves.{played_later, beside, waits_at, asking, offering, moved_later}
use Rattle.session_choosing.specs.Turns.{found}
use Rattle.session_choosing.specs.Events.{choosing_in, begins}

-- a step with its list is the step with the list beside it
pub with_list_lem : (r : Step) (l : List Candidate) (out : List ℕ) {m : Moved} → played r out ≡ m → played_later r l out ≡ beside l m
unfolding played played_later beside
with_list_lem r l out e = ap (beside l) e

-- ---- what is due next
module _ (s : State) (z : Search) (buf : List ℕ) where
  pub asks_next : (n : ℕ) (out : List ℕ) (u : State) (r : Step)
      → n ≡ size_in (length buf) (command_at (applications_in s.listing) z.list z.stand.step)
      → out ≡ laid (command_at (applications_in s.listing) z.list z.stand.step) 0 buf → u ≡ with_stand z.stand s
      → r ≡ waiting_for Searching (Command n) u
      → played r out ≡ asking (applications_in s.listing) z s buf
  unfolding played waiting_for asking waits_at with_stand asked
  asks_next n out u r e f g h =
      ap (λ (x : Step). played x out) h
      ∙ (λ i. record {
        state = changed Searching (g i).tvr (g i).tsi (g i).cursor (g i);
        reply = Command (e i);
        buffer = f i;
        zeros = 0;
      })

  pub shows_next : (n : ℕ) (u : State) (r : Step) → n ≡ shown_of z.list → u ≡ with_stand z.stand s
      → r ≡ waiting_for (ForWord (Shopper n)) (Due choice) u
      → played r buf ≡ offering z s buf
  unfolding played waiting_for offering waits_at with_stand
  shows_next n u r e g h =
      ap (λ (x : Step). played x buf) h
      ∙ (λ i. record {
        state = changed (ForWord (Shopper (e i))) (g i).tvr (g i).tsi (g i).cursor (g i);
        reply = Due choice;
        buffer = buf;
        zeros = 0;
      })

module _ (s : State) (l : List Candidate) (buf : List ℕ) where
  -- ---- after an answer
  by_found : (f : Found) → Bounded f → beside (list_left f) (found (kept f) s buf) ≡ moved_later (following (choosing_in s l) f) s [] buf
  unfolding list_left kept found following further choosing_in moved_later
  by_found (search.asks z) h = refl
  by_found (search.shows z) h = refl
  by_found (runs list) h = refl
  by_found (over reason) h = ap (λ (n : ℕ). beside [] (moved (decides terminated n (early s)) s buf)) (mod-eq_of_lt h)

  pub searches : (a out : List ℕ) (r : Step) (turn : Turn) (left : List Candidate) → played r out ≡ found (turned turn left a) s buf
      → turned turn left a ≡ kept (heard (applications_in s.listing) (search_of s.stand l) a)
      → left ≡ list_left (heard (applications_in s.listing) (search_of s.stand l) a)
      → played_later r left out ≡ moved_later (searched (choosing_in s l) a) s [] buf
  unfolding searched choosing_in
  searches a out r turn left g f e =
      let it = heard (applications_in s.listing) (search_of s.stand l) a in
      with_list_lem r left out (g ∙ ap (λ (x : Found). found x s buf) f)
      ∙ (ap (λ (x : List Candidate). beside x (found (kept it) s buf)) e
      ∙ by_found it (heard_bounded (applications_in s.listing) (search_of s.stand l) a))

  -- ---- after a choice, which leaves the list as it is
  module _ (whole : take most_kept l ≡ l) (a : List ℕ) where
    abbrev Same : Found → Found → Type 0
    Same f g = beside l (found (turned (turn_of f) l a) s buf) ≡ moved_later (following (choosing_in s l) g) s l buf

    by_tests : (t u : Bool) (stand : Stand)
        → Same (pick t (over 12) (pick u (search.asks (search_of stand [])) (over 11)))
        (pick t (over 12) (pick u (search.asks (search_of stand l)) (over 11)))
    unfolding pick turn_of turned found following further choosing_in moved_later
    by_tests true u stand = refl
    by_tests false true stand =
        ap (λ (x : List Candidate). beside x (asking (applications_in s.listing) (search_of stand x) s buf)) (sym whole)
    by_tests false false stand = refl

    pub chooses : (k : ℕ) → k ≡ get_or a 0 0 → (out : List ℕ) (r : Step) (turn : Turn) → turn ≡ turn_of (chosen (search_of s.stand []) k)
        → played r out ≡ found (turned turn l a) s buf
        → played_later r l out ≡ moved_later (chose (choosing_in s l) a) s l buf
    unfolding chose choosing_in chosen goes may_go_on
    chooses k e out r turn f g =
        with_list_lem r l out (g ∙ ap (λ (x : Turn). found (turned x l a) s buf) f)
        ∙ (by_tests _ _ _ ∙ ap (λ (n : ℕ). moved_later (following (choosing_in s l) (chosen (search_of s.stand l) n)) s l buf) e)

-- ---- at the beginning
pub begins_search : (p buf out : List ℕ) (r : Step) (u : State) (stand : Stand) (left : List Candidate)
    → played r out ≡ asking (applications_in u.listing) (search_of stand left) u buf
    → is_listing p ≡ true → stand ≡ (search.begun).stand → left ≡ (search.begun).list → u ≡ begun_listing p
    → played_later r left out ≡ begins p buf
unfolding begins moved_later listed search.begun is_listing begun_listing state_at
begins_search p buf out r u stand left g y e f h =
    let size = eqb-true (length p) listing_length y in
    with_list_lem r left out g
    ∙ ((λ i. beside (f i) (asking (applications_in (h i).listing) (search_of (e i) (f i)) (h i) buf))
    ∙ ap (λ (x : List ℕ). beside [] (asking (applications_in x) search.begun (begun_listing p) buf)) (fixed_all listing_length p size))
