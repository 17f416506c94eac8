-- An object at a place where a tag stands, by the form of its length: where its value starts, and that it is there exactly if it fits.
-- Assumes nothing.
use mathlib.Core.Path.{◌≡◌, ◌∙◌, sym, ap, ap₂}
use mathlib.Core.Bool.{Bool, true, false}
use mathlib.Core.List.{List}
use Prim.Native.Nat.{ℕ, suc, ◌+◌, ◌*◌, ◌-◌, ◌<◌, ◌≤◌}
use native.Mathlib.Nat.{add_assoc}
use native.Mathlib.Omega.{arith}
use lib.Dec.{leb, ltb}
use lib.ListN.{length, drop, get_or, length-drop}
use lib.Seq.{get_or-drop}
use borrow.Author.Tests.{leb-true, leb-false, le-leb, lt-leb, lt-ltb, le-ltb, eq-eqb, ne_eqb}
use Rattle.slices.specs.Choice.{pick}
use Rattle.slices.proofs.Choice.{pick_yes, pick_no, either}
use Rattle.tlv_head.specs.Head.{tag_of, tag_size, tag_right, length_byte, length_form}
use Rattle.tlv_head.specs.Head.{length_size, length_of, value_start, value_end, whole}
use Rattle.tlv_head.specs.Member.{member_at}
use Rattle.tlv_head.specs.declared.Next.{Next}
use Rattle.tlv_head.specs.declared.Next.TheVariants.{Member, Broken}

-- what fits from a place on fits where the bytes before it are not counted
fits_behind : (p e n : ℕ) → p ≤ n → leb (p + e) n ≡ leb e (n - p)
fits_behind p e n h =
    either (leb (p + e) n)
    (λ y. let l = leb-true (p + e) n y in let m : e ≤ n - p = omega arith in y ∙ sym (le-leb _ _ m))
    (λ y. let l = leb-false (p + e) n y in let m : n - p < e = omega arith in y ∙ sym (lt-leb _ _ m))

-- of an object whose tag and length are legal only the end is in question
by_end : (t : List ℕ) → tag_right t ≡ true → (length_size t ≡ 0 → ⊥) → whole t ≡ leb (value_end t) (length t)
unfolding whole
by_end t right some_form = rw (right, ne_eqb _ _ some_form)

module _ (s : List ℕ) (p : ℕ) where
  pub no_tag : tag_right (drop p s) ≡ false → Broken ≡ member_at s p
  unfolding member_at whole
  no_tag e = sym (pick_no _ _ _ (rw e))

  module _ (right : tag_right (drop p s) ≡ true) where
    no_form : length_size (drop p s) ≡ 0 → Broken ≡ member_at s p
    unfolding member_at whole
    no_form e = sym (pick_no _ _ _ (rw (right, e)))

    -- by how many bytes the length takes, and what it says
    by_form : (k n : ℕ) → p ≤ length s → length_size (drop p s) ≡ suc k → length_of (drop p s) ≡ n
        → (start : ℕ) → start ≡ p + tag_size (drop p s) + suc k
        → pick (leb (start + n) (length s)) (Member (tag_of (drop p s)) start (start + n)) Broken ≡ member_at s p
    unfolding member_at value_start value_end
    by_form k n h form size start e =
        let t = drop p s in
        let from : start ≡ p + value_start t = e ∙ add_assoc p (tag_size t) (suc k) ∙ ap (λ (x : ℕ). p + (tag_size t + x)) (sym form) in
        let to : start + n ≡ p + value_end t =
        ap₂ (λ (x y : ℕ). x + y) from (sym size) ∙ add_assoc p (value_start t) (length_of t)
        in
        let there : leb (start + n) (length s) ≡ whole t =
        ap (λ (x : ℕ). leb x (length s)) to
        ∙ (fits_behind p (value_end t) (length s) h
        ∙ (ap (leb (value_end t)) (sym (length-drop p s))
        ∙ sym (by_end t right (λ z. let y : ◌≡◌ {A = ℕ} 0 (suc k) = sym z ∙ form in omega arith))))
        in
        ap₂ (λ (b : Bool) (m : Next). pick b m Broken) there (ap₂ (λ (x y : ℕ). Member (tag_of t) x y) from to)

    -- in the terms of the code, which has read the first length byte b behind a tag of so many bytes
    module _ (tag size b : ℕ) (h : p ≤ length s) (named : tag ≡ tag_of (drop p s)) (long : size ≡ tag_size (drop p s))
        (read : b ≡ get_or s (p + size) 0) where
      placed : (k : ℕ) → get_or s (p + size + k) 0 ≡ get_or (drop p s) (tag_size (drop p s) + k) 0
      placed k =
          ap (λ (i : ℕ). get_or s i 0) (add_assoc p size k) ∙ sym (get_or-drop p s (size + k) 0)
          ∙ ap (λ (i : ℕ). get_or (drop p s) (i + k) 0) long

      first : b ≡ length_byte (drop p s)
      unfolding length_byte
      first = read ∙ ap (λ (i : ℕ). get_or s (p + i) 0) long ∙ sym (get_or-drop p s (tag_size (drop p s)) 0)

      found : (k n : ℕ) → length_form b ≡ suc k → length_of (drop p s) ≡ n → {r : Next}
          → r ≡ pick (leb (p + size + suc k + n) (length s)) (Member tag (p + size + suc k) (p + size + suc k + n)) Broken
          → r ≡ member_at s p
      unfolding length_size
      found k n form says e =
          e
          ∙ ap (λ (x : ℕ). pick (leb (p + size + suc k + n) (length s)) (Member x (p + size + suc k) (p + size + suc k + n)) Broken) named
          ∙ by_form k n h (ap length_form (sym first) ∙ form) says (p + size + suc k) (ap (λ (x : ℕ). p + x + suc k) long)

      pub in_itself : b < 0x80 → {r : Next}
          → r ≡ pick (leb (p + size + 1 + b) (length s)) (Member tag (p + size + 1) (p + size + 1 + b)) Broken → r ≡ member_at s p
      unfolding length_form length_of
      in_itself below =
          let small = lt-ltb b 0x80 below in
          found 0 b (pick_yes _ _ _ small) (pick_yes _ _ _ (ap (λ (x : ℕ). ltb x 0x80) (sym first) ∙ small) ∙ sym first)

      module _ (above : 0x80 ≤ b) where
        past : ltb (length_byte (drop p s)) 0x80 ≡ false
        past = ap (λ (x : ℕ). ltb x 0x80) (sym first) ∙ le-ltb _ _ above

        pub in_one : (n : ℕ) → b ≡ 0x81 → n ≡ get_or s (p + size + 1) 0 → {r : Next}
            → r ≡ pick (leb (p + size + 2 + n) (length s)) (Member tag (p + size + 2) (p + size + 2 + n)) Broken → r ≡ member_at s p
        unfolding length_form length_of
        in_one n one says =
            found 1 n (pick_no _ _ _ (le-ltb _ _ above) ∙ pick_yes _ _ _ (eq-eqb _ _ one))
            (pick_no _ _ _ past ∙ pick_yes _ _ _ (eq-eqb _ _ (sym first ∙ one)) ∙ sym (says ∙ placed 1))

        pub in_two : (x y : ℕ) → (b ≡ 0x81 → ⊥) → b ≡ 0x82 → x ≡ get_or s (p + size + 1) 0 → y ≡ get_or s (p + size + 2) 0 → {r : Next}
            → r ≡ pick (leb (p + size + 3 + (256 * x + y)) (length s)) (Member tag (p + size + 3) (p + size + 3 + (256 * x + y))) Broken
            → r ≡ member_at s p
        unfolding length_form length_of
        in_two x y not-one two high low =
            found 2 (256 * x + y) (pick_no _ _ _ (le-ltb _ _ above) ∙ pick_no _ _ _ (ne_eqb _ _ not-one) ∙ pick_yes _ _ _ (eq-eqb _ _ two))
            (pick_no _ _ _ past ∙ pick_no _ _ _ (ne_eqb _ _ (λ e. not-one (first ∙ e)))
            ∙ sym (ap₂ (λ (a c : ℕ). 256 * a + c) (high ∙ placed 1) (low ∙ placed 2)))

        pub in_none : (b ≡ 0x81 → ⊥) → (b ≡ 0x82 → ⊥) → Broken ≡ member_at s p
        unfolding length_form length_size
        in_none not-one not_two =
            no_form
            (ap length_form (sym first) ∙ pick_no _ _ _ (le-ltb _ _ above) ∙ pick_no _ _ _ (ne_eqb _ _ not-one)
            ∙ pick_no _ _ _ (ne_eqb _ _ not_two))
