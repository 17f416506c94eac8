-- What a turn says and what it leaves in the list are read off what was found, and the other way round.
-- Assumes nothing.
use mathlib.Core.Path.{◌≡◌, refl, sym, ap, ◌∙◌}
use mathlib.Core.Bool.{true, false, false≢true}
use mathlib.Core.List.{List, []}
use Prim.Native.Nat.{ℕ}
use Rattle.select_list.specs.Order.{Candidate}
use Rattle.select_search.specs.Search.{Found, asks, shows, runs, over}
use Rattle.select_search.specs.Turns.{turn_of, list_left, turned, kept, goes_on}
use Rattle.select_search.specs.declared.Turn.{Turn}
use Rattle.select_search.specs.declared.Turn.TheVariants.{Asks, Shows, Runs, Over}

-- the list that what was found goes on with
unfoldable list_of : Found → List Candidate
list_of (asks s) = s.list
list_of (shows s) = s.list
list_of (runs list) = []
list_of (over reason) = []

kept_list : (f : Found) → list_of (kept f) ≡ list_left f
unfolding list_of kept list_left
kept_list (asks s) = refl
kept_list (shows s) = refl
kept_list (runs list) = refl
kept_list (over reason) = refl

kept_turn : (f : Found) → turn_of (kept f) ≡ turn_of f
unfolding turn_of kept
kept_turn (asks s) = refl
kept_turn (shows s) = refl
kept_turn (runs list) = refl
kept_turn (over reason) = refl

module _ (a : List ℕ) where
  -- the same turn
  back : (r : Turn) (l : List Candidate) → turn_of (turned r l a) ≡ r
  unfolding turn_of turned
  back (Asks stand) l = refl
  back (Shows stand) l = refl
  back Runs l = refl
  back (Over reason) l = refl

  -- with its list where it goes on; else with none, and it does not matter which stands beside it
  on_list : (r : Turn) (l : List Candidate) → goes_on r ≡ true → list_of (turned r l a) ≡ l
  unfolding list_of turned goes_on
  on_list (Asks stand) l e = refl
  on_list (Shows stand) l e = refl
  on_list Runs l e = absurd (false≢true e)
  on_list (Over reason) l e = absurd (false≢true e)

  end_list : (r : Turn) (l : List Candidate) → goes_on r ≡ false → list_of (turned r l a) ≡ []
  unfolding list_of turned goes_on
  end_list (Asks stand) l e = absurd (false≢true (sym e))
  end_list (Shows stand) l e = absurd (false≢true (sym e))
  end_list Runs l e = refl
  end_list (Over reason) l e = refl

  any_list : (r : Turn) (l l' : List Candidate) → goes_on r ≡ false → turned r l' a ≡ turned r l a
  unfolding turned goes_on
  any_list (Asks stand) l l' e = absurd (false≢true (sym e))
  any_list (Shows stand) l l' e = absurd (false≢true (sym e))
  any_list Runs l l' e = refl
  any_list (Over reason) l l' e = refl

  -- what `heard` promises
  abbrev pub Meets : Found → Turn → List Candidate → Type 0
  Meets f r l = (r ≡ turn_of f) × ((l ≡ list_left f) × (turned r l a ≡ kept f))

  module _ (f : Found) (r : Turn) (l : List Candidate) (e : turned r l a ≡ kept f) where
    same_turn : r ≡ turn_of f
    same_turn = sym (back r l) ∙ (ap turn_of e ∙ kept_turn f)

    pub meets_on : goes_on r ≡ true → Meets f r l
    meets_on g = (same_turn, (sym (on_list r l g) ∙ (ap list_of e ∙ kept_list f), e))

    pub meets_end : goes_on r ≡ false → (l' : List Candidate) → l' ≡ [] → Meets f r l'
    meets_end g l' h =
        (same_turn, (h ∙ (sym (end_list r l g) ∙ (ap list_of e ∙ kept_list f)), any_list r l l' g ∙ e))
