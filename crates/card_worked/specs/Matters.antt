-- That a named object counts: two sessions that differ in one answer, in that object alone, and then in a command or in the decision.
-- 02, R-13. There is such a pair for every named object (`every` of Theorem).
-- Assumes nothing.
use Rattle.std.specs.Prelude.{◌≡◌, true, List, [], ◌∷◌, ◌++◌, ℕ, eqb, get_or}
use Rattle.std.proofs.Math.Option.{Option, none, some}
use Rattle.slices.specs.Choice.{pick}
use Rattle.tlv_list.specs.Objects.{Object}
use Rattle.numbers.specs.Tables.{answer, decision}
use Rattle.tape_read.specs.Entries.{Entry, entry}
use Rattle.sessions.specs.Rules.{Rules}
use Rattle.sessions.specs.Session.{Session}
use Rattle.sessions.specs.Machine.{Machine, at, owes, done, run}
use Rattle.rulebook.specs.Session as today
use Rattle.rulebook.specs.Roles.{given}
use Rattle.card_seen.specs.Seen.{Place, Shown, Seen, seen}
use Rattle.card_seen.specs.Given as today_given

-- objects without those that have a name
unfoldable pub others : ℕ → List Object → List Object
others name [] = []
others name (m ∷ ms) = pick (eqb m.tag name) (others name ms) (m ∷ others name ms)

unfoldable pub besides : ℕ → List Shown → List Shown
besides name [] = []
besides name (t ∷ ts) =
    pick (eqb t.tag name) (besides name ts)
    (record { tag = t.tag; value = t.value; members = others name t.members } ∷ besides name ts)

-- what is seen of an answer beside the objects with a name, at their place or inside another object
unfoldable pub seen_beside : ℕ → Seen → Seen
seen_beside name v =
    record { size_wrong = v.size_wrong; status = v.status; form_wrong = v.form_wrong; objects = besides name v.objects }

-- the place of the answer that is due after some entries
unfoldable pub place_due : {A H S : Type 0} → (A → Place) → Option (Machine A H S) → Option Place
place_due place_of none = none
place_due place_of (some (at p)) = none
place_due place_of (some (owes w)) = some (place_of w)
place_due place_of (some done) = none

-- the reason that an entry says: that of a decision, 0 for a command
unfoldable pub reason_said : Entry → ℕ
reason_said e = pick (eqb e.kind decision) (get_or e.payload 1 0) 0

-- under any rules, by the place of the answer to each question
module _ {A H S : Type 0} (rules : Rules A H S) (place_of : A → Place) where
  pub record MattersUnder (name reason : ℕ) : Type 0 where
    -- up to the answer, and where that stands
    pub before : List Entry
    pub place : Place
    pub due : place_due place_of (run rules before (at rules.opens)) ≡ some place
    -- the two answers, which differ in the object alone
    pub one : List ℕ
    pub other : List ℕ
    pub alone : seen_beside name (seen place one) ≡ seen_beside name (seen place other)
    -- the same entries for a while; then a command or a decision each, which is not the other's
    pub middle : List Entry
    pub asked : Entry
    pub otherwise : Entry
    pub first_given : given asked ≡ true
    pub second_given : given otherwise ≡ true
    pub first_reason : reason_said asked ≡ 0
    pub second_reason : reason_said otherwise ≡ reason
    pub apart : asked ≡ otherwise → ⊥
    -- and each goes on to its end
    pub rest : List Entry
    pub more : List Entry
    pub session : Session rules (before ++ (entry answer one ∷ (middle ++ (asked ∷ rest))))
    pub another : Session rules (before ++ (entry answer other ∷ (middle ++ (otherwise ∷ more))))

-- by the rules of 01. A reason of 0 says there that the object counts by its value: both answers are good
abbrev pub Matters : ℕ → ℕ → Type 0
Matters = MattersUnder today.rules today_given.place_of
