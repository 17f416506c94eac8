-- What is known of an answer where no reason was found: each line's test failed. An answer that passes the first three lines
-- has a right size, status 9000 and one expected object; a name that is neither missing nor there twice stands there once.
-- Assumes nothing.
use mathlib.Core.Path.{◌≡◌, refl, sym, ap, ◌∙◌}
use mathlib.Core.Bool.{Bool, true, false, not, ◌||◌, false≢true}
use mathlib.Core.List.{List, [], ◌∷◌, map}
use Prim.Native.Nat.{ℕ}
use lib.Dec.{eqb}
use lib.ListN.{length}
use borrow.Author.Tests.{eqb-true, eqb-false, eq-eqb, ne_eqb, not-false, le-ltb}
use Rattle.slices.specs.Choice.{first_of}
use Rattle.slices.proofs.Choice.{pick_yes, pick_no, either}
use Rattle.tlv_list.specs.Lookup.{Lookup, absent, once, twice}
use Rattle.slices.specs.Tables.{any_of}
use Rattle.answer_common.specs.Content.{right_value}
use Rattle.answer_common.specs.Answer.{size_bad, status_bad, outer_bad, frame}
use Rattle.answer_common.specs.Named.{listed, times, wrong_value, any_times, any_wrong}
use Rattle.answer_common.specs.Right.{Framed}
use Rattle.slices.proofs.Tables.{or_no}
use Rattle.answer_common.proofs.Alike.{listed_first, listed_also}
use Rattle.slices.proofs.Lines.{Numbered, line_clear}
use Rattle.answer_common.proofs.Outer.{size_right}

-- neither of two tests holds
pub or_clear : (s t : Bool) → (s || t) ≡ false → (s ≡ false) × (t ≡ false)
or_clear true t e = absurd (false≢true (sym e))
or_clear false t e = (refl, e)

-- none of several
pub any_clear : (p : ℕ → Bool) (names : List ℕ) → any_of (map p names) ≡ false → (name : ℕ) → listed name names ≡ true → p name ≡ false
unfolding any_of listed
any_clear p [] e name l = absurd (false≢true l)
any_clear p (n ∷ ns) e name l =
    either (p n)
    (λ y. absurd (false≢true (sym e ∙ pick_yes _ _ _ y)))
    (λ f.
    either (eqb name n)
    (λ y. ap p (eqb-true name n y) ∙ f)
    (λ k. any_clear p ns (sym (pick_no _ _ _ f) ∙ e) name (sym (pick_no _ _ _ k) ∙ l)))

pub any_none : (p : ℕ → Bool) (names : List ℕ) → ((name : ℕ) → listed name names ≡ true → p name ≡ false) → any_of (map p names) ≡ false
unfolding any_of listed
any_none p [] f = refl
any_none p (n ∷ ns) f = pick_no _ _ _ (f n (listed_first n ns)) ∙ any_none p ns (λ name l. f name (listed_also name n ns l))

-- where no line applies there is no reason, and where there is none no line applies
abbrev pub AllClear : List (Bool × ℕ) → Type 0
AllClear [] = Unit {0}
AllClear (line ∷ lines) = (line.0 ≡ false) × AllClear lines

pub no_reason : (lines : List (Bool × ℕ)) → AllClear lines → first_of lines ≡ 0
unfolding first_of
no_reason [] c = refl
no_reason (line ∷ lines) c = pick_no _ _ _ c.0 ∙ no_reason lines c.1

pub none_applies : (lines : List (Bool × ℕ)) → Numbered lines → first_of lines ≡ 0 → AllClear lines
none_applies [] n e = tt
none_applies (line ∷ lines) n e =
    let clear = line_clear line.0 line.1 lines n.0 e in (clear.0, none_applies lines n.1 clear.1)

module _ (expected a : List ℕ) where
  pub frame_accepted : AllClear (frame expected a) → Framed expected a
  unfolding frame status_bad outer_bad
  frame_accepted c =
      let size = size_right a c.0 in
      let status = or_clear _ _ c.1.0 in
      record {
        fewest = size.0;
        most = size.1;
        first = eqb-true _ _ (not-false _ status.0);
        second = eqb-true _ _ (not-false _ status.1);
        one = not-false _ c.1.1.0;
      }

  pub frame_right : Framed expected a → AllClear (frame expected a)
  unfolding frame size_bad status_bad outer_bad
  frame_right f = (
    or_no refl _ (le-ltb (length a) 2 f.fewest) ∙ le-ltb 258 (length a) f.most,
    (or_no refl _ (ap not (eq-eqb _ 0x90 f.first)) ∙ ap not (eq-eqb _ 0x00 f.second), (ap not f.one, tt)),
  )

-- a name that is neither missing nor there twice
once_found : (l : Lookup) → (times l ≡ 2 → ⊥) → (times l ≡ 0 → ⊥) → (v : List ℕ) × (l ≡ once v)
unfolding times
once_found absent t m = absurd (m refl)
once_found (once v) t m = (v, refl)
once_found twice t m = absurd (t refl)

module _ (names : List ℕ) (look : ℕ → Lookup) where
  pub named_times : (n : ℕ) → any_times n names look ≡ false → (name : ℕ) → listed name names ≡ true → times (look name) ≡ n → ⊥
  unfolding any_times
  named_times n e name l = eqb-false _ n (any_clear (λ name. eqb (times (look name)) n) names e name l)

  pub times_none : (n : ℕ) → ((name : ℕ) → listed name names ≡ true → times (look name) ≡ n → ⊥) → any_times n names look ≡ false
  unfolding any_times
  times_none n f = any_none (λ name. eqb (times (look name)) n) names (λ name l. ne_eqb _ n (f name l))

  pub named_once : any_times 2 names look ≡ false → any_times 0 names look ≡ false → (name : ℕ) → listed name names ≡ true
      → (v : List ℕ) × (look name ≡ once v)
  named_once t m name l = once_found (look name) (named_times 2 t name l) (named_times 0 m name l)

  pub named_right : any_wrong names look ≡ false → (name : ℕ) (v : List ℕ) → listed name names ≡ true → look name ≡ once v
      → right_value name v ≡ true
  unfolding any_wrong wrong_value
  named_right e name v l f =
      not-false _ (sym (ap (wrong_value name) f) ∙ any_clear (λ name. wrong_value name (look name)) names e name l)

  right_none : (name : ℕ) (l : Lookup) → ((v : List ℕ) → l ≡ once v → right_value name v ≡ true) → wrong_value name l ≡ false
  unfolding wrong_value
  right_none name absent f = refl
  right_none name (once v) f = ap not (f v refl)
  right_none name twice f = refl

  pub wrong_none : ((name : ℕ) (v : List ℕ) → listed name names ≡ true → look name ≡ once v → right_value name v ≡ true)
      → any_wrong names look ≡ false
  unfolding any_wrong
  wrong_none f = any_none (λ name. wrong_value name (look name)) names (λ name l. right_none name (look name) (λ v. f name v l))
