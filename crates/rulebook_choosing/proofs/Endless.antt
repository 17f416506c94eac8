-- A directory without end: the hundredth answer ends the session with 11.
-- Assumes nothing.
use mathlib.Core.Path.{◌≡◌, refl, ap, ◌∙◌, subst}
use mathlib.Core.Bool.{true, false, not}
use mathlib.Core.List.{List, [], ◌∷◌}
use Prim.Native.Nat.{ℕ, zero, suc, ◌+◌, ◌*◌, ◌-◌, ◌≤◌}
use native.Mathlib.Omega.{arith}
use lib.ListN.{length, get_or}
use borrow.Author.Tests.{eqb-true, ne_eqb, lt-ltb, le-ltb}
use Rattle.slices.proofs.Choice.{pick_yes, pick_no, and_both}
use Rattle.numbers.specs.Tables.{start, command, answer, for_exchanges}
use Rattle.tape_read.specs.Entries.{Entry, entry}
use Rattle.start_list.specs.Listing.{Applications}
use Rattle.select_answers.specs.Files.{directory_file}
use Rattle.select_search.specs.Search as search
use Rattle.select_search.specs.Search.{Search, over, most_exchanges, may_go_on, goes, has_status}
use Rattle.select_search.specs.Directory.{next_record, after_environment}
use Rattle.select_search.specs.Heard.{heard_at, heard as heard_of}
use Rattle.select_search.specs.declared.Step.TheVariants.{Directory}
use Rattle.select_laws.specs.Endless.{GoodRecord}
use Rattle.select_laws.proofs.WithoutEnd.{more, good_turn}
use Rattle.sessions.specs.Rules.{asks}
use Rattle.sessions.specs.Session as Under
use Rattle.sessions.specs.Session.{exchanged, heard}
use Rattle.rulebook.specs.Later.{AskedLater, turn_later, after_later}
use Rattle.start_choosing.specs.Start.{is_listing}
use Rattle.rulebook_choosing.specs.Choosing.{Choosing, ChoosingPhase, further, following, listed}
use Rattle.rulebook_choosing.specs.Session.{Plays, Session}
use Rattle.rulebook_choosing.specs.Endless.{GoodEnvironment, RecordsAll, Endless, Exhausted}
use Rattle.rulebook_choosing.proofs.Ends.{Left, two_before, one_left, gone_on}

-- the search at the next record
abbrev next : Applications → List ℕ → ℕ → ℕ → Search → Search
next t a file number s =
    record {
      stand = record { exchanges = s.stand.exchanges + 1; step = Directory file (next_record number); fallen = s.stand.fallen };
      list = (more t a s).list;
    }

module _ (t : Applications) (s : Search) (a : List ℕ) (file number : ℕ) (e : s.stand.step ≡ Directory file number)
    (good : GoodRecord a) where
  -- an exchange is left
  to_next : s.stand.exchanges + 1 ≤ most_exchanges → heard_of t s a ≡ search.asks (next t a file number s)
  unfolding goes may_go_on
  to_next h = good_turn t s a file number e good ∙ pick_yes _ _ _ (lt-ltb s.stand.exchanges most_exchanges (omega arith))

  -- none is
  to_end : s.stand.exchanges ≡ most_exchanges → heard_of t s a ≡ over 11
  unfolding goes may_go_on
  to_end h = good_turn t s a file number e good ∙ pick_no _ _ _ (le-ltb s.stand.exchanges most_exchanges (omega arith))

module _ (x : Choosing) where
  from_record : (n : ℕ) (s : Search) (file number : ℕ) → s.stand.step ≡ Directory file number
      → s.stand.exchanges + n ≡ most_exchanges → (es : List Entry) → Plays (asks (AskedLater.new (further s x))) es → RecordsAll es
      → Left for_exchanges x.situation (2 * n + 3) es
  unfolding turn_later following further
  from_record zero s file number e n es (exchanged {c} {a} {es = rest} f ok play) h =
      let here = gone_on x s a a (over 11) refl (to_end x.applications s a file number e (h.1.0 refl) (omega arith)) in
      let last = one_left for_exchanges x.situation rest (subst (λ (q : ChoosingPhase). Plays q rest) here play) in
      two_before for_exchanges x.situation 1 (entry command c) (entry answer a) rest last
  from_record (suc n) s file number e m es (exchanged {c} {a} {es = rest} f ok play) h =
      let here = gone_on x s a a _ refl (to_next x.applications s a file number e (h.1.0 refl) (omega arith)) in
      let on = next x.applications a file number s in
      let rest_left =
      from_record n on file (next_record number) refl (omega arith) rest (subst (λ (q : ChoosingPhase). Plays q rest) here play)
      h.1.1 in
      let all : Left for_exchanges x.situation (2 * n + 3 + 2) (entry command c ∷ entry answer a ∷ rest) =
      two_before for_exchanges x.situation (2 * n + 3) (entry command c) (entry answer a) rest rest_left in
      let size : length (entry command c ∷ entry answer a ∷ rest) ≡ 2 * n + 3 + 2 = all.0 in
      (omega arith, all.1)

-- a good status is not '6A81'
not_blocked : (a : List ℕ) → has_status 0x9000 a ≡ true → has_status 0x6A81 a ≡ false
unfolding has_status
not_blocked a e =
    let is = eqb-true (256 * get_or a (length a - 2) 0 + get_or a (length a - 1) 0) 0x9000 e in
    ne_eqb (256 * get_or a (length a - 2) 0 + get_or a (length a - 1) 0) 0x6A81 (λ z. absurd (omega arith))

-- the search at the first record of a file
abbrev at_first : ℕ → Search
at_first file = record { stand = record { exchanges = 2; step = Directory file 1; fallen = false }; list = [] }

to_directory : (t : Applications) (a : List ℕ) → GoodEnvironment a → heard_of t search.begun a ≡ search.asks (at_first (directory_file a))
unfolding heard_of heard_at after_environment search.begun goes may_go_on
to_directory t a good =
    pick_no _ _ _ good.size
    ∙ (pick_no _ _ _ (not_blocked a good.status)
    ∙ (pick_yes _ _ _ (and_both _ _ good.status (ap not good.file)) ∙ pick_yes _ _ _ refl))

from_environment_lem : (x : Choosing) (es : List Entry) → Plays (asks (AskedLater.new (further search.begun x))) es → Endless es
    → Left for_exchanges x.situation 201 es
unfolding turn_later following further
from_environment_lem x es (exchanged {c} {a} {es = rest} f ok play) h =
    let here = gone_on x search.begun a a _ refl (to_directory x.applications a h.0) in
    let rest_left =
    from_record x 98 (at_first (directory_file a)) (directory_file a) 1 refl refl rest
    (subst (λ (q : ChoosingPhase). Plays q rest) here play) h.1 in
    two_before for_exchanges x.situation 199 (entry command c) (entry answer a) rest rest_left

pub endless : (p : List ℕ) (es : List Entry) → is_listing p ≡ true → Session (entry start p ∷ es) → Endless es → Exhausted p es
unfolding Under.Session after_later listed further
endless p es own (heard f fits ok play) h =
    let left = from_environment_lem (listed p) es (subst (λ (q : ChoosingPhase). Plays q es) (pick_yes _ _ _ own) play) h in
    let size : length es ≡ 201 = left.0 in
    record { entries = omega arith; decided = left.1 }
