-- The end of a book, entry by entry: one entry more raises the count of its own verdict, and no count is ever above the number of
-- entries, so that none is held back by the limit. Assumes nothing.
use mathlib.Core.Path.{◌≡◌, refl, sym, ap, ◌∙◌}
use mathlib.Core.List.{List, [], ◌∷◌, ◌++◌}
use Prim.Native.Nat.{ℕ, ◌+◌, ◌≤◌, ◌<◌}
use native.Mathlib.Omega.{arith}
use lib.Dec.{eqb}
use lib.ListN.{length, length-append}
use borrow.Author.Tests.{lt-ltb}
use Rattle.slices.specs.Choice.{pick}
use Rattle.slices.proofs.Choice.{pick_yes, pick_no, pick_ap, pick_cong, picked, either}
use Rattle.book_block.specs.Entries.{pass, fail, inconclusive, unreadable}
use Rattle.book_block.specs.declared.Entry.{Entry}
use Rattle.book.specs.Counting.{entries_most, count_of, end_of, one_more, raised, counted}

pub count_most : (v : ℕ) (es : List Entry) → count_of v es ≤ length es
unfolding count_of
count_most v [] = omega arith
count_most v (e ∷ es) =
    let before = count_most v es in
    picked (λ n. n ≤ length (e ∷ es)) (eqb e.verdict v) (count_of v es + 1) (count_of v es) (λ y. omega arith) (λ n. omega arith)

-- one entry more at the end
pub count_more : (v : ℕ) (es : List Entry) (e : Entry)
    → count_of v (es ++ (e ∷ [])) ≡ pick (eqb e.verdict v) (count_of v es + 1) (count_of v es)
unfolding count_of
count_more v [] e = refl
count_more v (f ∷ es) e =
    either (eqb f.verdict v)
    (λ y.
    pick_yes _ _ _ y
    ∙ (ap (λ (n : ℕ). n + 1) (count_more v es e)
    ∙ (pick_ap (λ (n : ℕ). n + 1) (eqb e.verdict v) (count_of v es + 1) (count_of v es)
    ∙ sym (ap (λ (n : ℕ). pick (eqb e.verdict v) (n + 1) n) (pick_yes _ _ _ y)))))
    (λ n.
    pick_no _ _ _ n ∙ (count_more v es e ∙ sym (ap (λ (n : ℕ). pick (eqb e.verdict v) (n + 1) n) (pick_no _ _ _ n))))

one_more_lem : (n : ℕ) → n < entries_most → one_more n ≡ n + 1
unfolding one_more
one_more_lem n h = pick_yes _ _ _ (lt-ltb _ _ h)

module _ (es : List Entry) (e : Entry) (room : length es < entries_most) where
  raised_count : (v : ℕ) → raised e.verdict v (count_of v es) ≡ count_of v (es ++ (e ∷ []))
  unfolding raised
  raised_count v =
      pick_cong (eqb e.verdict v) _ _ _ _ (λ y. one_more_lem (count_of v es) (omega (arith, count_most v es))) (λ n. refl)
      ∙ sym (count_more v es e)

  -- one entry more, counted
  pub counted_more : counted e.verdict (end_of es) ≡ end_of (es ++ (e ∷ []))
  unfolding counted end_of
  counted_more =
      let more : one_more (length es) ≡ length (es ++ (e ∷ [])) = one_more_lem (length es) room ∙ sym (length-append es (e ∷ [])) in
      λ i.
      record {
        used = more i;
        pass = raised_count pass i;
        fail = raised_count fail i;
        inconclusive = raised_count inconclusive i;
        unreadable = raised_count unreadable i;
      }
