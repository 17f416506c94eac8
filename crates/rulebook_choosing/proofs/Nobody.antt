-- A card that answers '6A82' to everything: the environment is asked for, then each AID, and nobody is left.
-- Assumes nothing.
use mathlib.Core.Path.{◌≡◌, refl, sym, ◌∙◌, subst}
use mathlib.Core.Bool.{true}
use mathlib.Core.List.{List, ◌∷◌}
use Prim.Native.Nat.{ℕ, zero, suc, ◌+◌, ◌*◌, ◌<◌, ◌≤◌}
use native.Mathlib.Omega.{arith}
use lib.Dec.{leb}
use lib.ListN.{length, get_or}
use borrow.Author.Tests.{leb-true}
use Rattle.slices.proofs.Choice.{picked, pick_yes}
use Rattle.numbers.specs.Tables.{start, command, answer, for_nobody}
use Rattle.tape_read.specs.Entries.{Entry, entry}
use Rattle.start_list.specs.Listing.{applications_in, count_in, count_at}
use Rattle.select_search.specs.Search as search
use Rattle.select_search.specs.Search.{over, most_exchanges}
use Rattle.select_laws.specs.Repeated.{missing}
use Rattle.select_laws.proofs.Missing.{at_aid, after_environment_lem, further as to_the_next, ends}
use Rattle.sessions.specs.Rules.{asks}
use Rattle.sessions.specs.Session as Under
use Rattle.sessions.specs.Session.{exchanged, heard, decided}
use Rattle.rulebook.specs.Later.{AskedLater, turn_later, allowed_later, after_later}
use Rattle.start_choosing.specs.Start.{is_listing}
use Rattle.rulebook_choosing.specs.Choosing.{Choosing, ChoosingPhase, further, following, listed}
use Rattle.rulebook_choosing.specs.Session.{Plays, Session}
use Rattle.rulebook_choosing.specs.Nobody.{AnswersAll, NobodyFound}
use Rattle.rulebook_choosing.proofs.Ends.{Left, two_before, one_left, gone_on}
use Rattle.rulebook_choosing.proofs.Sent.{list_count, list_some}

module _ (x : Choosing) (few : length x.applications.list + 2 ≤ most_exchanges) where
  from_aid : (j k : ℕ) → length x.applications.list ≡ k + suc j → (es : List Entry)
      → Plays (asks (AskedLater.new (further (at_aid k) x))) es → AnswersAll missing es → Left for_nobody x.situation (2 * j + 3) es
  unfolding turn_later following further
  from_aid zero k e es (exchanged {c} {a} {es = rest} f ok play) h =
      let here = gone_on x (at_aid k) a missing (over 12) (h.1.0 refl) (ends x.applications few k (omega arith)) in
      let last = one_left for_nobody x.situation rest (subst (λ (q : ChoosingPhase). Plays q rest) here play) in
      two_before for_nobody x.situation 1 (entry command c) (entry answer a) rest last
  from_aid (suc j) k e es (exchanged {c} {a} {es = rest} f ok play) h =
      let here = gone_on x (at_aid k) a missing _ (h.1.0 refl) (to_the_next x.applications few k (omega arith)) in
      let more = from_aid j (k + 1) (omega arith) rest (subst (λ (q : ChoosingPhase). Plays q rest) here play) h.1.1 in
      let all : Left for_nobody x.situation (2 * j + 3 + 2) (entry command c ∷ entry answer a ∷ rest) =
      two_before for_nobody x.situation (2 * j + 3) (entry command c) (entry answer a) rest more in
      let size : length (entry command c ∷ entry answer a ∷ rest) ≡ 2 * j + 3 + 2 = all.0 in
      (omega arith, all.1)

  -- from the environment on
  from_environment_lem : (n : ℕ) → length x.applications.list ≡ suc n → (es : List Entry)
      → Plays (asks (AskedLater.new (further search.begun x))) es → AnswersAll missing es → Left for_nobody x.situation (2 * n + 3 + 2) es
  unfolding turn_later following further
  from_environment_lem n e es (exchanged {c} {a} {es = rest} f ok play) h =
      let here = gone_on x search.begun a missing _ (h.1.0 refl) (after_environment_lem x.applications) in
      let more = from_aid n 0 (omega arith) rest (subst (λ (q : ChoosingPhase). Plays q rest) here play) h.1.1 in
      two_before for_nobody x.situation (2 * n + 3) (entry command c) (entry answer a) rest more

-- a list of START has at most eight
list_few : (p : List ℕ) → length (applications_in p).list + 2 ≤ most_exchanges
unfolding count_in
list_few p =
    let many = list_count p in
    let few : count_in p ≤ 8 =
    picked (λ (n : ℕ). n ≤ 8) (leb (get_or p count_at 0) 8) (get_or p count_at 0) 8 (λ y. leb-true (get_or p count_at 0) 8 y)
    (λ n. omega arith) in
    omega arith

some_suc : (n : ℕ) → 0 < n → (m : ℕ) × (n ≡ suc m)
some_suc zero h = absurd (omega arith)
some_suc (suc m) h = (m, refl)

pub nobody : (p : List ℕ) (es : List Entry) → is_listing p ≡ true → Session (entry start p ∷ es) → AnswersAll missing es → NobodyFound p es
unfolding Under.Session after_later allowed_later listed further
nobody p es own (heard f fits ok play) h =
    let some = list_some p (sym (pick_yes _ _ _ own) ∙ fits) in
    let n = some_suc _ some in
    let left =
    from_environment_lem (listed p) (list_few p) n.0 n.1 es
    (subst (λ (q : ChoosingPhase). Plays q es) (pick_yes _ _ _ own) play) h in
    let size : length es ≡ 2 * n.0 + 3 + 2 = left.0 in
    let count : length (applications_in p).list ≡ suc n.0 = n.1 in
    record { entries = omega arith; decided = left.1 }
