-- A tape whose START has 74 bytes is judged by the rules before cardholder verification: verdict, place, code and fourth number are what
-- they were, since both editions go alike from such a START on. An entry of the new kind in it can be read, and is never due (02, R-7).
-- Assumes nothing.
use mathlib.Core.Path.{◌≡◌, refl, sym, ◌∙◌, subst}
use mathlib.Core.List.{List, ◌∷◌, ◌++◌}
use Prim.Native.Nat.{ℕ}
use native.Mathlib.Omega.{arith}
use lib.ListN.{length}
use Rattle.start_fields.specs.Layout.{start_length}
use Rattle.numbers.specs.Tables.{start, results}
use Rattle.tape_read.specs.Entries.{Entry, entry}
use Rattle.tape_read.specs.Tapes.{entries, read_tape}
use Rattle.rulebook.specs.Session.{Lawful}
use Rattle.rulebook_zeros.specs.Zeros.{unsupplied_in}
use Rattle.verdict.specs.Saying.{says}
use Rattle.verdict.specs.declared.Verdict.TheVariants.{Fail}
use Rattle.verdict.specs.declared.Ruling.{Ruling}
use Rattle.verdict_under.specs.Judged.{fails, JudgedUnder, readable}
use Rattle.verdict_under.specs.Zeroed.{ZeroedUnder}
use Rattle.verdict_judged.specs.Judged.{Judged}
use Rattle.verdict_judged.specs.Zeroed.{Zeroed}
use Rattle.verdict_editions.specs.Editions.{Same, First, FirstOf, itself}
use Rattle.verdict_editions.proofs.Tapes.{judged_same, zeroed_same}
use Rattle.verdict_editions.proofs.Agreeing.{agree_goes, itself_counts}
use Rattle.verdict_before.specs.Filled.{unsupplied_in_before}
use Rattle.verdict_before.specs.Edition.{rules_before, Short}
use Rattle.verdict_before.proofs.Agreeing.{OldPhase, agree, due_same, opens_alike, some_short}
use Rattle.verdict_before.proofs.NewKind.{new_kind_breaks}

-- ---- which tapes these are

entries_same : (es fs : List Entry) → entries es ≡ entries fs → es ≡ fs
entries_same es fs e = cc

-- a tape that reads as such entries,
pub short_tape : (t : List ℕ) (es : List Entry) → read_tape t ≡ entries es → First Short es → FirstOf Short t
unfolding FirstOf
short_tape t es e short fs f = subst (First Short) (entries_same es fs (sym e ∙ f)) short

-- so every tape whose START has 74 bytes
pub start_of_74 : (t b : List ℕ) (es : List Entry) → read_tape t ≡ entries (entry start b ∷ es) → length b ≡ start_length → FirstOf Short t
unfolding First
start_of_74 t b es e h = short_tape t (entry start b ∷ es) e (omega arith)

-- ---- what is said of them

-- the answer for such a tape is the one that it had
pub as_before : (t : List ℕ) (a : Ruling) → FirstOf Short t → Same (Judged t a) (JudgedUnder rules_before t a)
as_before = judged_same (itself OldPhase) (agree_goes OldPhase agree) opens_alike some_short

-- and so is its fourth number
pub zeros_as_before : (t : List ℕ) (n : ℕ) → FirstOf Short t → Same (Zeroed t n) (ZeroedUnder rules_before unsupplied_in_before t n)
zeros_as_before =
    zeroed_same (itself OldPhase) (agree_goes OldPhase agree) opens_alike some_short unsupplied_in unsupplied_in_before
    (itself_counts OldPhase unsupplied_in unsupplied_in_before due_same)

-- an entry of the new kind fails there, where nothing is broken before it
pub new_kind_fails : (t : List ℕ) (es : List Entry) (e : Entry) (more : List Entry) → read_tape t ≡ entries (es ++ (e ∷ more))
    → First Short (es ++ (e ∷ more)) → e.kind ≡ results → Lawful es
    → Judged t (says Fail (length es) 0)
new_kind_fails t es e more read short new l =
    readable (es ++ (e ∷ more)) read (fails (length es) (new_kind_breaks es e new more short l) refl)
