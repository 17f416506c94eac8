-- A block laid into a buffer field by field. Assumes nothing.
use mathlib.Core.Path.{◌≡◌, refl, sym, ap, ◌∙◌}
use mathlib.Core.List.{List, [], ◌∷◌, ◌++◌}
use Prim.Native.Nat.{ℕ, ◌+◌, ◌≤◌}
use native.Mathlib.Omega.{arith}
use lib.ListN.{length, take, drop, length-append}
use lib.Seq.{take_at}
use borrow.Author.Tests.{le-leb}
use Rattle.slices.specs.Writing.{put, laid}
use Rattle.slices.proofs.Choice.{pick_yes, picked}
use Rattle.slices.proofs.Writing.{put_step, put_start, put_length, put_nothing, laid_fits}
use Rattle.t1_block.specs.Blocks.{lrc_of, inf_most, body_of, framed, written}

-- nothing laid, nothing changed
pub laid_nothing : (p : ℕ) (d : List ℕ) → laid [] p d ≡ d
unfolding laid
laid_nothing p d = picked (λ (x : List ℕ). x ≡ d) _ _ _ (λ e. put_nothing p d) (λ e. refl)

pub not_too_long : (pcb : ℕ) (inf : List ℕ) → length inf ≤ inf_most → written pcb inf ≡ framed pcb inf
unfolding written
not_too_long pcb inf h = pick_yes _ _ _ (le-leb _ _ h)

pub framed_length : (pcb : ℕ) (inf : List ℕ) → length (framed pcb inf) ≡ 4 + length inf
unfolding framed
framed_length pcb inf = simp length-append (omega arith)

module _ (pcb : ℕ) (inf d : List ℕ) (fits : 4 + length inf ≤ length d) where
  abbrev head : List ℕ
  head = 0x00 ∷ pcb ∷ length inf ∷ []

  -- the buffer with prologue and field
  pub prologue : laid head 0 d ≡ put head 0 d
  prologue = laid_fits head 0 d (omega arith)

  pub with_field : laid inf 3 (laid head 0 d) ≡ put (body_of pcb inf) 0 d
  with_field =
      ap (laid inf 3) prologue
      ∙ (laid_fits inf 3 (put head 0 d) (let e = put_length head 0 d (omega arith) in omega arith)
      ∙ sym (put_step head inf 0 d (omega arith)))

  -- what stands there is what the LRC is taken over
  pub body_there : take (3 + length inf) (drop 0 (laid inf 3 (laid head 0 d))) ≡ body_of pcb inf
  body_there = ap (take (3 + length inf)) (with_field ∙ put_start (body_of pcb inf) d) ∙ take_at (body_of pcb inf) _ (3 + length inf)
      (omega arith)

  -- and the whole block
  pub with_lrc : laid (lrc_of (body_of pcb inf) ∷ []) (3 + length inf) (laid inf 3 (laid head 0 d)) ≡ laid (framed pcb inf) 0 d
  unfolding framed
  with_lrc =
      let seam : 3 + length inf ≡ 0 + length (body_of pcb inf) = omega arith in
      ap (laid (lrc_of (body_of pcb inf) ∷ []) (3 + length inf)) with_field
      ∙ (laid_fits (lrc_of (body_of pcb inf) ∷ []) (3 + length inf) (put (body_of pcb inf) 0 d)
      (let e = put_length (body_of pcb inf) 0 d (omega arith) in omega arith)
      ∙ (ap (λ (n : ℕ). put (lrc_of (body_of pcb inf) ∷ []) n (put (body_of pcb inf) 0 d)) seam
      ∙ (sym (put_step (body_of pcb inf) (lrc_of (body_of pcb inf) ∷ []) 0 d (omega arith))
      ∙ sym (laid_fits (body_of pcb inf ++ (lrc_of (body_of pcb inf) ∷ [])) 0 d (simp length-append (omega arith))))))
