-- An entry of the new kind on a tape whose START has at most 74 bytes: it can be read, and no session with such a START has one (rulebook,
-- Verifying), so the rules are broken there unless they were broken before.
-- Assumes nothing.
use mathlib.Core.Path.{◌≡◌, refl, ap, subst}
use mathlib.Core.Bool.{true}
use mathlib.Core.List.{List, [], ◌∷◌, ◌++◌, append_assoc}
use mathlib.Core.Logic.{⊎_elim}
use native.Mathlib.Omega.{arith}
use lib.ListN.{length}
use Rattle.numbers.specs.Tables.{silence, results, is_kind}
use Rattle.tape_read.specs.Entries.{Entry, entry}
use Rattle.sessions.specs.Session as Under
use Rattle.sessions.proofs.Lists.{snoc_same}
use Rattle.sessions.proofs.Breaks.{break_here}
use Rattle.rulebook.specs.Phase.{opens, due_kind}
use Rattle.rulebook.specs.Session.{Plays, heard, Session, Beginning, Closed, Lawful, BreaksAt}
use Rattle.rulebook.proofs.Kept.{kept}
use Rattle.rulebook.proofs.Verifying.{Without, old_session}
use Rattle.verdict_editions.specs.Editions.{First}
use Rattle.verdict_before.specs.Edition.{Short}

-- it can be read
pub new_kind_readable : is_kind results ≡ true
unfolding is_kind
new_kind_readable = refl

-- no session with such a START has one
without : {es : List Entry} → Plays opens es → First Short es → Without es
unfolding First due_kind
without (heard {k} {p} {es} f fits ok play) short =
    (λ e. omega (arith, f), (old_session p es short (heard refl fits ok play)).0.1)

without_at : (es : List Entry) (e : Entry) (more : List Entry) → Without (es ++ (e ∷ more)) → e.kind ≡ results → ⊥
without_at [] e more h new = h.0 new
without_at (x ∷ es) e more h new = without_at es e more h.1 new

module _ (es : List Entry) (e : Entry) (new : e.kind ≡ results) where
  -- however they go on, the first entry is the one that it is
  short_on : (fs more rest : List Entry) → First Short (fs ++ (e ∷ more)) → First Short (fs ++ (e ∷ rest))
  unfolding First
  short_on [] more rest h = h
  short_on (x ∷ fs) more rest h = h

  module _ (more : List Entry) (short : First Short (es ++ (e ∷ more))) where
    no_session : (rest : List Entry) → Session (es ++ (e ∷ rest)) → ⊥
    unfolding Under.Session
    no_session rest play = without_at es e rest (without play (short_on es more rest short)) new

    no_beginning : Beginning (es ++ (e ∷ [])) → ⊥
    unfolding Under.Beginning
    no_beginning b =
        let rest = b.0 ∷ b.1.0 in
        no_session rest (subst Session (append_assoc es (e ∷ []) rest) b.1.1)

    no_closing : Closed (es ++ (e ∷ [])) → ⊥
    unfolding Under.Closed
    no_closing c =
        let same : e ≡ entry silence [] = (snoc_same es c.0 e (entry silence []) c.1.1).1 in
        let kind : e.kind ≡ silence = ap (λ (x : Entry). x.kind) same in
        omega (arith, kind, new)

    never_lawful : Lawful (es ++ (e ∷ [])) → ⊥
    unfolding Under.Lawful Under.Open
    never_lawful l = ⊎_elim (no_session []) (λ o. ⊎_elim no_beginning no_closing o) l

    -- where nothing is broken before it, the rules are broken by it
    pub new_kind_breaks : Lawful es → BreaksAt (es ++ (e ∷ more)) (length es)
    new_kind_breaks l = break_here kept es e more l never_lawful
