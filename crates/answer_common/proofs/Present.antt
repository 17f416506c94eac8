-- Names that must stand in an answer and names that may: what the tests of names come to. A name that is neither missing nor
-- there twice has one value; of one that is not there twice, there is one or none.
-- Assumes nothing.
use mathlib.Core.Path.{◌≡◌, refl, sym, ap, subst, ◌∙◌}
use mathlib.Core.Bool.{true, false, false≢true}
use mathlib.Core.List.{List, [], ◌∷◌}
use mathlib.Core.Logic.{◌⊎◌, inl, inr}
use Prim.Native.Nat.{ℕ}
use native.Mathlib.Omega.{arith}
use lib.Dec.{eqb}
use lib.ListN.{length}
use borrow.Author.Tests.{eqb-true}
use Rattle.slices.proofs.Choice.{pick_no, either}
use Rattle.tlv_list.specs.Lookup.{Lookup, absent, once, twice}
use Rattle.slices.specs.Tables.{any_of}
use Rattle.answer_common.specs.Content.{meets, rule_for, right_value}
use Rattle.answer_common.specs.Named.{listed, times, any_times, any_wrong}
use Rattle.answer_common.specs.Right.{There, MayBe, Right, Sized}
use Rattle.answer_common.specs.declared.content.Rule.{Rule}
use Rattle.answer_common.specs.declared.content.Rule.TheVariants.{Sizes}
use Rattle.answer_common.proofs.Limits.{between_in}
use Rattle.answer_common.proofs.Accepted.{named_times, named_right, times_none, wrong_none}

pub of_size : (name fewest most : ℕ) (v : List ℕ) → rule_for name ≡ Sizes fewest most → Sized fewest most v → Right name v
unfolding right_value meets
of_size name fewest most v e s = ap (λ (rule : Rule). meets rule v) e ∙ between_in fewest most (length v) s.0 s.1

module _ {P Q : List ℕ → Type 0} {l : Lookup} (f : (v : List ℕ) → l ≡ once v → P v → Q v) where
  pub there_so : There P l → There Q l
  there_so h = (h.0, h.1, f h.0 h.1 h.2)

  pub may_be_so : MayBe P l → MayBe Q l
  may_be_so (inl e) = inl e
  may_be_so (inr h) = inr (there_so h)

not_two : {P : List ℕ → Type 0} (l : Lookup) → MayBe P l → times l ≡ 2 → ⊥
unfolding times
not_two l (inl e) k = let z : ◌≡◌ {A = ℕ} 0 2 = sym (ap times e) ∙ k in omega arith
not_two l (inr h) k = let z : ◌≡◌ {A = ℕ} 1 2 = sym (ap times h.1) ∙ k in omega arith

not_none : {P : List ℕ → Type 0} (l : Lookup) → There P l → times l ≡ 0 → ⊥
unfolding times
not_none l h k = let z : ◌≡◌ {A = ℕ} 1 0 = sym (ap times h.1) ∙ k in omega arith

right_one : (name : ℕ) (l : Lookup) → MayBe (Right name) l → (v : List ℕ) → l ≡ once v → Right name v
right_one name l (inl e) v f = absurd (let z : ◌≡◌ {A = Lookup} absent (once v) = sym e ∙ f in let k : ◌≡◌ {A = ℕ} 0 1 = cc in omega arith)
right_one name l (inr h) v f =
    let same : h.0 ≡ v = cc in
    subst (Right name) same h.2

one_or_none : (l : Lookup) → (times l ≡ 2 → ⊥) → (l ≡ absent) ⊎ ((v : List ℕ) × (l ≡ once v))
unfolding times
one_or_none absent t = inl refl
one_or_none (once v) t = inr (v, refl)
one_or_none twice t = absurd (t refl)

module _ (names : List ℕ) (look : ℕ → Lookup) where
  pub must_be : {P : List ℕ → Type 0} → any_times 0 names look ≡ false → (name : ℕ) → listed name names ≡ true → MayBe P (look name)
      → There P (look name)
  unfolding times
  must_be m name l (inl e) = absurd (named_times names look 0 m name l (ap times e))
  must_be m name l (inr h) = h

  pub may_be : any_times 2 names look ≡ false → any_wrong names look ≡ false → (name : ℕ) → listed name names ≡ true
      → MayBe (Right name) (look name)
  may_be t w name l = go (one_or_none (look name) (named_times names look 2 t name l))
    where
      go : (look name ≡ absent) ⊎ ((v : List ℕ) × (look name ≡ once v)) → MayBe (Right name) (look name)
      go (inl e) = inl e
      go (inr h) = inr (h.0, h.1, named_right names look w name h.0 l h.1)

  -- and back
  pub none_twice : ((name : ℕ) → listed name names ≡ true → MayBe (Right name) (look name)) → any_times 2 names look ≡ false
  none_twice f = times_none names look 2 (λ name l. not_two (look name) (f name l))

  pub none_wrong : ((name : ℕ) → listed name names ≡ true → MayBe (Right name) (look name)) → any_wrong names look ≡ false
  none_wrong f = wrong_none names look (λ name v l. right_one name (look name) (f name l) v)

  pub none_missing : ((name : ℕ) → listed name names ≡ true → There (Right name) (look name)) → any_times 0 names look ≡ false
  none_missing f = times_none names look 0 (λ name l. not_none (look name) (f name l))

-- what holds of each name of a list, said one after the other
abbrev pub Each : (ℕ → Type 0) → List ℕ → Type 0
Each P [] = Unit {0}
Each P (n ∷ ns) = P n × Each P ns

pub by_name : (P : ℕ → Type 0) (names : List ℕ) → Each P names → (name : ℕ) → listed name names ≡ true → P name
unfolding listed any_of
by_name P [] h name l = absurd (false≢true l)
by_name P (n ∷ ns) h name l =
    either (eqb name n)
    (λ y. subst P (sym (eqb-true name n y)) h.0)
    (λ k. by_name P ns h.1 name (sym (pick_no _ _ _ k) ∙ l))
