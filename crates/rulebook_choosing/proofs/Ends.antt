-- The end of a selection, counted: the decision that ends it, and two entries for each exchange before it.
-- Assumes nothing.
use mathlib.Core.Path.{◌≡◌, refl, ap, ◌∙◌}
use mathlib.Core.List.{List, [], ◌∷◌}
use Prim.Native.Nat.{ℕ, ◌+◌}
use native.Mathlib.Omega.{arith}
use lib.ListN.{length}
use Rattle.numbers.specs.Tables.{decision, terminated}
use Rattle.tape_read.specs.Entries.{Entry, entry}
use Rattle.select_search.specs.Search as search
use Rattle.select_search.specs.Search.{Found}
use Rattle.select_search.specs.Heard.{heard as heard_of}
use Rattle.sessions.specs.Rules.{decides}
use Rattle.sessions.specs.Session.{decided}
use Rattle.rulebook.specs.Situation.{Situation}
use Rattle.rulebook.specs.Phase.{decision_of}
use Rattle.rulebook_choosing.specs.Choosing.{Choosing, further, following, searched}
use Rattle.rulebook_choosing.specs.Session.{Plays}
use Rattle.rulebook_choosing.specs.Nobody.{EndsWith}

before : (e f : Entry) (es : List Entry) → EndsWith e es → EndsWith e (f ∷ es)
before e f [] h = absurd h
before e f (g ∷ es) h = h

-- so many entries, the last of them the decision with a reason
abbrev pub Left : ℕ → Situation → ℕ → List Entry → Type 0
Left reason s n es = (length es ≡ n) × EndsWith (entry decision (decision_of terminated reason s)) es

pub two_before : (reason : ℕ) (s : Situation) (n : ℕ) (e f : Entry) (es : List Entry) → Left reason s n es
    → Left reason s (n + 2) (e ∷ f ∷ es)
two_before reason s n e f es h = (let size = h.0 in omega arith, before _ e (f ∷ es) (before _ f es h.1))

pub one_left : (reason : ℕ) (s : Situation) (es : List Entry) → Plays (decides terminated reason s) es → Left reason s 1 es
one_left reason s es (decided f) = (refl, ap (entry decision) f)

-- a selection goes on as the search does
pub gone_on : (x : Choosing) (s : search.Search) (a b : List ℕ) (f : Found) → a ≡ b → heard_of x.applications s b ≡ f
    → searched (further s x) a ≡ following (further s x) f
unfolding searched further
gone_on x s a b f same e =
    ap (λ (c : List ℕ). following (further s x) (heard_of x.applications s c)) same ∙ ap (following (further s x)) e
