-- What was written in order reopens as exactly those entries, so does every beginning that ends with a block; and bytes that reopen
-- are their entries written. Assumes nothing.
use mathlib.Core.Path.{◌≡◌, refl, sym, ap, ap₂, ◌∙◌, subst}
use mathlib.Core.Bool.{true, false}
use mathlib.Core.List.{List, [], ◌∷◌, ◌++◌, append_assoc, append-nil}
use Prim.Native.Nat.{ℕ, zero, suc, ◌+◌, ◌*◌, ◌^◌, ◌≤◌, ◌<◌}
use native.Mathlib.Nat.{add-zero}
use native.Mathlib.Omega.{arith}
use Rattle.std.proofs.Common.{Option, Some, None}
use lib.ListN.{length, take, drop, length-append, length-drop, take-append-drop}
use lib.Pow.{are_bytes}
use lib.Seq.{take_at, drop_at, take-nil, take-append-add, length-take-le}
use Rattle.slices.proofs.Cutting.{none_left}
use Rattle.tape_crc.proofs.Bytes.{bytes_take, bytes_drop}
use Rattle.tape_read.specs.Entries.{block_size}
use Rattle.tape_read.specs.Tapes.{cut}
use Rattle.book_block.specs.Entries.{is_verdict, fits}
use Rattle.book_block.specs.Blocks.{block, tape_in, entry_in}
use Rattle.book_block.specs.declared.Entry.{Entry}
use Rattle.book_block.specs.declared.Fault.{Fault}
use Rattle.book_block.proofs.Filling.{block_length}
use Rattle.book.specs.Counting.{entries_most}
use Rattle.book.specs.Entering.{entries_in, entered}
use Rattle.book_open.specs.Reopening.{Reading, good, bad, fault_after, unless_bad, read_on, written}
use Rattle.book_open.proofs.Faults.{no_fault, faultless}
use Rattle.book_laws.proofs.Back.{fitting, block_fine, entry_back}
use Rattle.book_laws.proofs.Unique.{entry_fits, entry_verdict, block_is}

-- an entry that can stand in a book after others
pub record Fit (done : List Entry) (e : Entry) : Type 0 where
  pub verdict : is_verdict e.verdict ≡ true
  pub numbers : fits e ≡ true
  pub first : entered e.tape done ≡ false

-- entries that can stand in a book after others, each after those before it
unfoldable pub Holds : List Entry → List Entry → Type 0
Holds done [] = Unit {0}
Holds done (e ∷ es) = Fit done e × Holds (done ++ (e ∷ [])) es

-- one more at the end
pub holds_more : (done es : List Entry) (e : Entry) → Holds done es → Fit (done ++ es) e → Holds done (es ++ (e ∷ []))
unfolding Holds
holds_more done [] e h f = (subst (λ (l : List Entry). Fit l e) (append-nil done) f, tt)
holds_more done (d ∷ es) e h f =
    (h.0, holds_more (done ++ (d ∷ [])) es e h.1 (subst (λ (l : List Entry). Fit l e) (sym (append_assoc done (d ∷ []) es)) f))

-- fewer of them
pub holds_take : (k : ℕ) (done es : List Entry) → Holds done es → Holds done (take k es)
unfolding Holds
holds_take zero done es h = tt
holds_take (suc k) done [] h = tt
holds_take (suc k) done (e ∷ es) h = (h.0, holds_take k (done ++ (e ∷ [])) es h.1)

-- so many blocks as entries
pub written_length : (n : ℕ) (es : List Entry) → length (written n es) ≡ length es * block_size
unfolding written
written_length n [] = refl
written_length n (e ∷ es) = length-append (block n e) _ ∙ omega (arith, block_length n e, written_length (n + 1) es)

pub written_more : (n : ℕ) (es : List Entry) (e : Entry) → written n (es ++ (e ∷ [])) ≡ written n es ++ block (n + length es) e
unfolding written
written_more n [] e = append-nil (block n e) ∙ ap (λ (k : ℕ). block k e) (sym (add-zero n))
written_more n (d ∷ es) e =
    let place : n + 1 + length es ≡ n + length (d ∷ es) = omega arith in
    ap (◌++◌ (block n d)) (written_more (n + 1) es e ∙ ap (λ (k : ℕ). written (n + 1) es ++ block k e) place)
    ∙ sym (append_assoc (block n d) (written (n + 1) es) (block (n + length (d ∷ es)) e))

-- the writing cut after k blocks
pub written_cut : (k n : ℕ) (es : List Entry) → take (k * block_size) (written n es) ≡ written n (take k es)
unfolding written
written_cut zero n es = refl
written_cut (suc k) n [] = take-nil (suc k * block_size)
written_cut (suc k) n (e ∷ es) =
    let one : suc k * block_size ≡ length (block n e) + k * block_size = omega (arith, block_length n e) in
    ap (λ (m : ℕ). take m (block n e ++ written (n + 1) es)) one
    ∙ (take-append-add (block n e) (written (n + 1) es) (k * block_size) ∙ ap (◌++◌ (block n e)) (written_cut k (n + 1) es))

-- the blocks hold the entries, whatever follows them
pub entries_written : (n : ℕ) (done es : List Entry) (rest : List ℕ) → Holds done es → entries_in (length es) (written n es ++ rest) ≡ es
unfolding written entries_in Holds
entries_written n done [] rest h = refl
entries_written n done (e ∷ es) rest h =
    let split = append_assoc (block n e) (written (n + 1) es) rest in
    let more = written (n + 1) es ++ rest in
    ap₂ ◌∷◌
    (ap entry_in (ap (take block_size) split ∙ take_at (block n e) more block_size (block_length n e))
    ∙ entry_back n e (fitting e h.0.numbers))
    (ap (entries_in (length es)) (ap (drop block_size) split ∙ drop_at (block n e) more block_size (block_length n e))
    ∙ entries_written (n + 1) (done ++ (e ∷ [])) es rest h.1)

tape_of_lem : (b : List ℕ) → (entry_in b).tape ≡ tape_in b
unfolding entry_in
tape_of_lem b = refl

-- the next block of a writing has no fault
written_fine : (done : List Entry) (e : Entry) → Fit done e → length done < 2 ^ 32 → fault_after done (block (length done) e) ≡ None
unfolding entry_in
written_fine done e f h =
    let tape : tape_in (block (length done) e) ≡ e.tape =
    ap (λ (x : Entry). x.tape) (entry_back (length done) e (fitting e f.numbers)) in
    no_fault done (block (length done) e) (block_fine (length done) e f.verdict h) (ap (λ (k : ℕ). entered k done) tape ∙ f.first)

-- what was written reads back, after the entries before it
pub reads_written : (done es : List Entry) → Holds done es → length done + length es ≤ entries_most
    → read_on done (cut (length es) (written (length done) es)) ≡ good (done ++ es)
unfolding written cut read_on unless_bad Holds
reads_written done [] h most = ap good (sym (append-nil done))
reads_written done (e ∷ es) h most =
    let n = length done in
    let rest = written (n + 1) es in
    let front = take_at (block n e) rest block_size (block_length n e) in
    let back = drop_at (block n e) rest block_size (block_length n e) in
    let next : n + 1 ≡ length (done ++ (e ∷ [])) = sym (length-append done (e ∷ [])) in
    let fine : fault_after done (block n e) ≡ None = written_fine done e h.0 (omega arith) in
    ap₂ (λ (b t : List ℕ). read_on done (b ∷ cut (length es) t)) front back
    ∙ (rw fine refl
    ∙ (ap₂ (λ (d : Entry) (k : ℕ). read_on (done ++ (d ∷ [])) (cut (length es) (written k es)))
    (entry_back n e (fitting e h.0.numbers)) next
    ∙ (reads_written (done ++ (e ∷ [])) es h.1 (omega arith) ∙ ap good (append_assoc done (e ∷ []) es))))

-- bytes in whole blocks that read as entries: those before, and the ones that were written
pub record Wrote (done : List Entry) (t : List ℕ) (es : List Entry) : Type 0 where
  pub more : List Entry
  pub entries : es ≡ done ++ more
  pub bytes : t ≡ written (length done) more
  pub holds : Holds done more

pub good_bad : (r : Reading) (es : List Entry) (place : ℕ) (fault : Fault) → r ≡ good es → r ≡ bad place fault → ⊥
good_bad r es place fault p q =
    let z : ◌≡◌ {A = ℕ} 0 1 = cc in
    omega arith

good_same : (es fs : List Entry) → good es ≡ good fs → fs ≡ es
good_same es fs p = cc

-- one block, where what follows is known
block_wrote : (n : ℕ) (done : List Entry) (t : List ℕ) (es : List Entry) → are_bytes t ≡ true → block_size ≤ length t
    → read_on done (cut (suc n) t) ≡ good es
    → ((e : Entry) → read_on (done ++ (e ∷ [])) (cut n (drop block_size t)) ≡ good es → Wrote (done ++ (e ∷ [])) (drop block_size t) es)
    → Wrote done t es
unfolding written cut read_on unless_bad Holds
block_wrote n done t es bytes more r rest = go (fault_after done (take block_size t)) refl
  where
    go : (fault : Option Fault) → fault_after done (take block_size t) ≡ fault → Wrote done t es
    go (Some fault) is = absurd (good_bad _ es (length done) fault (rw is at r) refl)
    go None fine =
        let b = take block_size t in
        let own = faultless done b fine in
        let are = bytes_take block_size t bytes in
        let later = rest (entry_in b) (rw fine at r) in
        record {
          more = entry_in b ∷ later.more;
          entries = later.entries ∙ append_assoc done (entry_in b ∷ []) later.more;
          bytes =
              sym (take-append-drop block_size t)
              ∙ ap₂ ◌++◌ (block_is (length done) b are own.0 (length-take-le block_size t more))
              (later.bytes ∙ ap (λ (k : ℕ). written k later.more) (length-append done (entry_in b ∷ [])));
          holds = (
            record {
              verdict = entry_verdict (length done) b are own.0;
              numbers = entry_fits (length done) b are own.0;
              first = ap (λ (k : ℕ). entered k done) (tape_of_lem b) ∙ own.1;
            },
            later.holds,
          );
        }

pub read_is : (n : ℕ) (done : List Entry) (t : List ℕ) (es : List Entry) → are_bytes t ≡ true → length t ≡ n * block_size
    → read_on done (cut n t) ≡ good es → Wrote done t es
unfolding written cut read_on Holds
read_is zero done t es bytes size r =
    record {
      more = [];
      entries = good_same done es r ∙ sym (append-nil done);
      bytes = none_left t (omega arith);
      holds = tt;
    }
read_is (suc n) done t es bytes size r =
    block_wrote n done t es bytes (omega arith) r
    (λ e later. read_is n (done ++ (e ∷ [])) (drop block_size t) es (bytes_drop block_size t bytes) (length-drop block_size t
    ∙ omega arith) later)
