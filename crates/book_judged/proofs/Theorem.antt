-- An entry made from the judge's answer on a tape is the one that demand 3 names for it, verdict, place and code, and no other: from
-- the judge's promise, and since no place and no code that it gives is too large for the layout. Assumes nothing.
use mathlib.Core.Path.{◌≡◌, sym, ap, ap₂, ◌∙◌, subst}
use mathlib.Core.List.{List}
use Prim.Native.Nat.{ℕ, ◌+◌, ◌^◌, ◌≤◌, ◌<◌}
use native.Mathlib.Decide.{dec_lt}
use native.Mathlib.Nat.{mod-eq_of_lt}
use native.Mathlib.Omega.{arith}
use lib.ListN.{length, take}
use lib.Seq.{take_all}
use Rattle.tape_read.specs.Entries.{Entry as TapeEntry, blocks_most}
use Rattle.rulebook.specs.Session.{BreaksAt, Lawful}
use Rattle.verdict.specs.Saying.{says}
use Rattle.verdict.specs.declared.Verdict.{Verdict}
use Rattle.verdict.specs.declared.Verdict.TheVariants.{Pass, Fail, Inconclusive, Unreadable}
use Rattle.verdict.specs.declared.Ruling.{Ruling}
use Rattle.verdict_judged.specs.Judged as judged
use Rattle.verdict_judged.proofs.Once.{judged_once}
use Rattle.book_block.specs.Entries.{made}
use Rattle.book_block.specs.declared.Entry.{Entry}
use Rattle.book_answer.specs.Answers.{verdict_number, entry_of}
use Rattle.book_judged.specs.Judging.{EnteredFor, Named, passes, undecided, fails, damaged}
use Rattle.book_judged.proofs.Bounds.{code_most, Small, tape_small}

-- one tape, one number, one entry
pub entered_once : (number : ℕ) (t : List ℕ) (e f : Entry) → EnteredFor number t e → EnteredFor number t f → e ≡ f
entered_once number t e f a b =
    a.entry ∙ (ap (entry_of number) (judged_once a.promised b.promised) ∙ sym b.entry)

-- what the layout keeps of an answer whose place and code are small
kept : (number place code : ℕ) (v : Verdict) → place < 2 ^ 32 → code < 2 ^ 32
    → entry_of number (says v place code) ≡ made number (verdict_number v) place code
unfolding entry_of
kept number place code v p c = ap₂ (made number (verdict_number v)) (mod-eq_of_lt p) (mod-eq_of_lt c)

-- the rules are broken at an entry that is there
break_there : (es : List TapeEntry) (k : ℕ) → BreaksAt es k → k < length es
break_there es k b = go (dec_lt k (length es))
  where
    go : Dec (k < length es) → k < length es
    go (yes h) = h
    go (no h) =
        let whole : take k es ≡ take (k + 1) es = take_all k es (omega (arith, h)) ∙ sym (take_all (k + 1) es (omega (arith, h))) in
        absurd (b.broken (subst Lawful whole (b.before k (omega arith))))

module _ (number : ℕ) (t : List ℕ) (e : Entry) where
  by_ruling : (a : Ruling) → judged.Judged t a → e ≡ entry_of number a → Named number t e
  unfolding Small verdict_number
  by_ruling a (judged.readable es r (judged.passes s is)) entry =
      let small : length es ≤ blocks_most = subst Small r (tape_small t) in
      passes es r s (entry ∙ (ap (entry_of number) is ∙ kept number (length es) 0 Pass (omega arith) (omega arith)))
  by_ruling a (judged.readable es r (judged.undecided o is)) entry =
      let small : length es ≤ blocks_most = subst Small r (tape_small t) in
      undecided es r o (entry ∙ (ap (entry_of number) is ∙ kept number (length es) 0 Inconclusive (omega arith) (omega arith)))
  by_ruling a (judged.readable es r (judged.fails k b is)) entry =
      let small : length es ≤ blocks_most = subst Small r (tape_small t) in
      let there = break_there es k b in
      fails es k r b (entry ∙ (ap (entry_of number) is ∙ kept number k 0 Fail (omega arith) (omega arith)))
  by_ruling a (judged.damaged place code r is) entry =
      let small : (place ≤ blocks_most) × (code ≤ code_most) = subst Small r (tape_small t) in
      let p = small.0 in
      let c = small.1 in
      damaged place code r (entry ∙ (ap (entry_of number) is ∙ kept number place code Unreadable (omega arith) (omega arith)))

  -- what is entered for a tape is what demand 3 names
  pub entered_named : EnteredFor number t e → Named number t e
  entered_named f = by_ruling f.ruling f.promised f.entry
