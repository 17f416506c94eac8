-- A history as it stands at its end: entry by entry it stands as the entries accepted so far say, and each reply is the one that
-- these call for. Assumes nothing.
use mathlib.Core.Path.{◌≡◌, refl, sym, ap, ap₂, ◌∙◌, subst}
use mathlib.Core.Bool.{true, and-eq-true_iff}
use mathlib.Core.List.{List, [], ◌∷◌, ◌++◌, append_assoc, append-nil}
use Prim.Native.Nat.{ℕ, ◌+◌, ◌*◌, ◌≤◌}
use native.Mathlib.Omega.{arith}
use Rattle.std.proofs.Common.{Ok}
use lib.ListN.{length, length-append}
use Rattle.tape_read.specs.Entries.{block_size}
use Rattle.book_block.specs.Entries.{fits, all_fit}
use Rattle.book_block.specs.declared.Entry.{Entry}
use Rattle.book.specs.Counting.{entries_most}
use Rattle.book.specs.Entering.{Reply, reply_to, reply_of, end_after, bytes_by, book_after, bytes_after}
use Rattle.book.specs.declared.Book.{Book}
use Rattle.book.proofs.Refusals.{accepts}
use Rattle.book_laws.specs.History.{Left, handed_in, joined_by, accepted_from, replies_from}
use Rattle.book_laws.proofs.Written.{Holds}
use Rattle.book_laws.proofs.Standing.{Stands, reply_is, stands_by, length_by}

-- where a history has led: how it stands, and its replies
pub record Led (room : ℕ) (done es : List Entry) (l : Left) : Type 0 where
  pub stands : Stands (accepted_from room done es) l.book l.bytes
  pub replies : l.replies ≡ replies_from room done es
  pub size : length l.bytes ≡ room

-- after one entry
module _ (done : List Entry) (b : Book) (t : List ℕ) (s : Stands done b t) (e : Entry) (f : fits e ≡ true) where
  next_stands : Stands (joined_by (reply_to done (length done) (length t) e) done e) (book_after b e t) (bytes_after b e t)
  unfolding book_after bytes_after
  next_stands =
      subst (λ (r : Reply). Stands (joined_by (reply_to done (length done) (length t) e) done e) (end_after r e b) (bytes_by r b.used e t))
      (sym (reply_is done b t s e))
      (stands_by done b t s e f (reply_to done (length done) (length t) e) refl)

  next_length : length (bytes_after b e t) ≡ length t
  unfolding bytes_after
  next_length = length_by done b t s e (reply_of b.used e t) (sym (reply_is done b t s e))

  next_reply : reply_of b.used e t ≡ reply_to done (length done) (length t) e
  next_reply = reply_is done b t s e

pub tracked : (done es : List Entry) (b : Book) (t : List ℕ) → Stands done b t → all_fit es ≡ true
    → Led (length t) done es (handed_in b t es)
unfolding handed_in accepted_from replies_from all_fit
tracked done [] b t s f = record { stands = s; replies = refl; size = refl }
tracked done (e ∷ es) b t s f =
    let both = (and-eq-true_iff (fits e) (all_fit es)).0 f in
    let joined = joined_by (reply_to done (length done) (length t) e) done e in
    let size = next_length done b t s e both.0 in
    let later : Led (length t) joined es (handed_in (book_after b e t) (bytes_after b e t) es) =
    subst (λ (n : ℕ). Led n joined es (handed_in (book_after b e t) (bytes_after b e t) es)) size
    (tracked joined es (book_after b e t) (bytes_after b e t) (next_stands done b t s e both.0) both.1) in
    record {
      stands = later.stands;
      replies = ap₂ ◌∷◌ (next_reply done b t s e both.0) later.replies;
      size = later.size;
    }

-- entries that can stand in a book, where there is room for all of them, are all accepted
pub all_accepted : (room : ℕ) (done es : List Entry) → Holds done es → length done + length es ≤ entries_most
    → (length done + length es) * block_size ≤ room → accepted_from room done es ≡ done ++ es
unfolding accepted_from Holds joined_by
all_accepted room done [] h most fit = sym (append-nil done)
all_accepted room done (e ∷ es) h most fit =
    let taken : reply_to done (length done) room e ≡ Ok tt =
    accepts done (length done) room e
    (record { verdict = h.0.verdict; first = h.0.first; entries = omega arith; fits = omega arith }) in
    let one = length-append done (e ∷ []) in
    ap (λ (r : Reply). accepted_from room (joined_by r done e) es) taken
    ∙ (all_accepted room (done ++ (e ∷ [])) es h.1 (omega arith) (omega arith) ∙ append_assoc done (e ∷ []) es)

-- and they are entries that can be handed in
pub holds_fit : (done es : List Entry) → Holds done es → all_fit es ≡ true
unfolding all_fit Holds
holds_fit done [] h = refl
holds_fit done (e ∷ es) h = (and-eq-true_iff (fits e) (all_fit es)).1 (h.0.numbers, holds_fit (done ++ (e ∷ [])) es h.1)
