-- A directory without end ends the session with 11 at the hundredth answer, whatever matched.
-- Assumes nothing.
use mathlib.Core.Path.{◌≡◌, refl, ap, ◌∙◌}
use mathlib.Core.Bool.{Bool, true, false, not, ◌&&◌}
use mathlib.Core.List.{List, [], ◌∷◌}
use Prim.Native.Nat.{ℕ, ◌+◌, ◌*◌, ◌-◌, ◌≤◌}
use native.Mathlib.Omega.{arith}
use lib.Dec.{eqb}
use lib.ListN.{length, get_or}
use borrow.Author.Tests.{eqb-true, ne_eqb, lt-ltb, le-ltb}
use Rattle.slices.proofs.Choice.{pick_yes, pick_no, and_both}
use Rattle.start_list.specs.Listing.{Applications}
use Rattle.select_answers.specs.Directory.{applications_of}
use Rattle.select_search.specs.Search.{Search, asks, over, most_exchanges, may_go_on, goes, with_list, has_status}
use Rattle.select_search.specs.Directory.{next_record, joined_all, after_record}
use Rattle.select_search.specs.Heard.{heard_at, heard}
use Rattle.select_search.specs.declared.Step.TheVariants.{Directory}
use Rattle.select_laws.specs.Repeated.{answered}
use Rattle.select_laws.specs.Endless.{GoodRecord, AllGood, through}

-- a good status is not the last record's
not_last : (a : List ℕ) → has_status 0x9000 a ≡ true → has_status 0x6A83 a ≡ false
unfolding has_status
not_last a e =
    let is = eqb-true (256 * get_or a (length a - 2) 0 + get_or a (length a - 1) 0) 0x9000 e in
    ne_eqb (256 * get_or a (length a - 2) 0 + get_or a (length a - 1) 0) 0x6A83 (λ z. absurd (omega arith))

-- the search one record further
abbrev pub more : Applications → List ℕ → Search → Search
more t a s = record { stand = s.stand; list = joined_all t (applications_of a) s.list }

pub good_turn : (t : Applications) (s : Search) (a : List ℕ) (file number : ℕ) → s.stand.step ≡ Directory file number → GoodRecord a
    → heard t s a ≡ goes (more t a s) (Directory file (next_record number))
unfolding heard heard_at after_record with_list
good_turn t s a file number e g =
    pick_no _ _ _ g.size
    ∙ (ap (heard_at t s a) e
    ∙ (pick_no _ _ _ (ap (λ (b : Bool). b && not (eqb (length s.list) 0)) (not_last a g.status))
    ∙ pick_yes _ _ _ (and_both _ _ g.status g.right)))

-- and as many as are left
pub without_end : (t : Applications) (records : List (List ℕ)) (s : Search) (file number : ℕ) → s.stand.step ≡ Directory file number
    → s.stand.exchanges ≤ most_exchanges → s.stand.exchanges + length records ≡ most_exchanges + 1 → AllGood records
    → through t records (asks s) ≡ over 11
unfolding through answered goes may_go_on
without_end t [] s file number e h n g = absurd (omega arith)
without_end t (a ∷ []) s file number e h n g =
    good_turn t s a file number e g.0 ∙ pick_no _ _ _ (le-ltb s.stand.exchanges most_exchanges (omega arith))
without_end t (a ∷ b ∷ rest) s file number e h n g =
    let next : Search =
    record {
      stand = record { exchanges = s.stand.exchanges + 1; step = Directory file (next_record number); fallen = s.stand.fallen };
      list = joined_all t (applications_of a) s.list;
    } in
    ap (through t (b ∷ rest))
    (good_turn t s a file number e g.0 ∙ pick_yes _ _ _ (lt-ltb s.stand.exchanges most_exchanges (omega arith)))
    ∙ without_end t (b ∷ rest) next file (next_record number) refl (omega arith) (omega arith) g.1
