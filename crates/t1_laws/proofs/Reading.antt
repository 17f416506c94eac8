-- A block that was written reads back: its field, its kind, and no fault but what its kind and the length of its field give.
-- Assumes nothing.
use mathlib.Core.Path.{◌≡◌, refl, sym, ap, ◌∙◌}
use mathlib.Core.Bool.{Bool, true, false}
use mathlib.Core.List.{List, []}
use Prim.Native.Nat.{ℕ, ◌+◌, ◌≤◌}
use native.Mathlib.Omega.{arith}
use lib.ListN.{length, get_or, take}
use lib.Seq.{take_at, get_or_at, take-append_seam}
use borrow.Author.Tests.{eq-eqb, ne_eqb, le-ltb}
use Rattle.std.specs.Prelude.{Ok, Option, Some}
use Rattle.slices.specs.Choice.{pick}
use Rattle.slices.specs.Tables.{beside}
use Rattle.slices.proofs.Choice.{pick_yes, pick_no}
use Rattle.t1_block.specs.Blocks.{len_of, inf_of, lrc_of, inf_most, kind_of, pcb_of_i, pcb_of_r, pcb_of_s, body_of, framed}
use Rattle.t1_block.specs.Faults.{sized, of_kind, in_frame, tested, heard_as, heard_of}
use Rattle.t1_block.proofs.Framing.{framed_length}
use Rattle.t1_block.specs.declared.What.{What}
use Rattle.t1_block.specs.declared.What.TheVariants.{Resynch, Ifs, Abort, Wtx}
use Rattle.t1_block.specs.declared.Kind.{Kind}
use Rattle.t1_block.specs.declared.Kind.TheVariants.{Information, Ready, Request, Response}

module _ (pcb : ℕ) (inf : List ℕ) where
  pub field_back : inf_of (framed pcb inf) ≡ inf
  unfolding inf_of framed
  field_back = take-append_seam inf _

  pub len_back : len_of (framed pcb inf) ≡ length inf
  unfolding framed
  len_back = refl

  lrc_back : lrc_of (take (3 + length inf) (framed pcb inf)) ≡ get_or (framed pcb inf) (3 + length inf) 0
  unfolding framed
  lrc_back =
      let three : length (body_of pcb inf) ≡ 3 + length inf = omega arith in
      ap lrc_of (take_at (body_of pcb inf) _ (3 + length inf) three)
      ∙ sym (get_or_at (body_of pcb inf) (lrc_of (body_of pcb inf)) [] 0 (3 + length inf) three)

  -- the one test that is left
  pub tested_back : (most : ℕ) → length inf ≤ inf_most → tested (framed pcb inf) most ≡ of_kind (kind_of pcb) (length inf) most
  unfolding tested in_frame framed
  tested_back most h =
      let long = framed_length pcb inf in
      pick_no _ _ _ (le-ltb (length (framed pcb inf)) (4 + length inf) (omega arith))
      ∙ (pick_no _ _ _ (le-ltb (4 + length inf) (length (framed pcb inf)) (omega arith))
      ∙ (pick_yes _ _ _ (eq-eqb _ _ lrc_back)
      ∙ (pick_no _ _ _ (ne_eqb (length inf) 0xFF (λ e. omega arith)) ∙ pick_yes _ _ _ (eq-eqb 0 0 refl))))

  -- so it is heard as what it is
  pub heard_back : (most : ℕ) (k : Kind) → length inf ≤ inf_most → kind_of pcb ≡ Some k → sized k (length inf) most ≡ Ok k
      → heard_of (framed pcb inf) most ≡ Ok k
  unfolding heard_of heard_as of_kind
  heard_back most k h e f =
      ap heard_as (tested_back most h ∙ (ap (λ (x : Option Kind). of_kind x (length inf) most) e ∙ f))

-- the kinds of the control bytes that we write
pub kind_i : (number more : Bool) → kind_of (pcb_of_i number more) ≡ Some (Information number more)
unfolding kind_of beside pick
kind_i false false = refl
kind_i false true = refl
kind_i true false = refl
kind_i true true = refl

pub kind_r : (number : Bool) → kind_of (pcb_of_r number 0) ≡ Some (Ready number)
unfolding kind_of pick
kind_r false = refl
kind_r true = refl

pub kind_request : (w : What) → kind_of (pcb_of_s false w) ≡ Some (Request w)
unfolding kind_of beside pick
kind_request Resynch = refl
kind_request Ifs = refl
kind_request Abort = refl
kind_request Wtx = refl

pub kind_response : (w : What) → kind_of (pcb_of_s true w) ≡ Some (Response w)
unfolding kind_of beside pick
kind_response Resynch = refl
kind_response Ifs = refl
kind_response Abort = refl
kind_response Wtx = refl
