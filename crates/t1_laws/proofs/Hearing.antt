-- What one end can hear of another that has no request of its own open: its I-block, an R-block for the number that it expects, a
-- response, or nothing valid. Assumes nothing.
use mathlib.Core.Path.{◌≡◌, refl, sym, ap, subst, ◌∙◌}
use mathlib.Core.Bool.{Bool, true, false, not, false≢true}
use mathlib.Core.List.{List, [], ◌∷◌}
use Prim.Native.Nat.{ℕ}
use lib.ListN.{take, drop}
use Rattle.std.specs.Prelude.{Option, Some, None, Result, Ok, Err}
use Rattle.slices.specs.Choice.{pick}
use Rattle.slices.proofs.Choice.{picked}
use Rattle.t1_block.specs.Blocks.{pcb_of, len_of, kind_of, pcb_of_i, pcb_of_s, framed, written}
use Rattle.t1_block.specs.Faults.{Heard, sized, of_kind, in_frame, tested, heard_as, heard_of}
use Rattle.t1_block.specs.declared.What.{What}
use Rattle.t1_block.specs.declared.Kind.{Kind}
use Rattle.t1_block.specs.declared.Kind.TheVariants.{Information as I, Ready as R, Request as Asks, Response as Answers}
use Rattle.t1_block.specs.declared.Fault.{Fault}
use Rattle.t1_state.specs.Limits.{more_of}
use Rattle.t1_state.specs.declared.Last.{Last}
use Rattle.t1_state.specs.declared.Last.TheVariants.{Nothing, Information, Ready, Request, Response}
use Rattle.t1_state.specs.declared.State.{State}
use Rattle.t1_line.specs.Line.{equal}
use Rattle.t1.specs.Steps.{block_for, block_of}
use Rattle.t1_laws.specs.Stopping.{is_bad}
use Rattle.t1_laws.specs.Lossy.{Arrives, intact, spoiled}
use Rattle.t1_laws.proofs.Reading.{kind_i, kind_response}
use Rattle.t1_laws.proofs.Still.{plain, Says}

-- what is heard of a block: what its control byte says, or that it is not valid
pub data Hears (h : Heard) (k : Kind) : Type 0 where
  as_it_is : h ≡ Ok k → Hears h k
  as_bad : (c : ℕ) → h ≡ Err c → Hears h k

abbrev Told : Kind → Result Kind Fault → Type 0
Told k x = Hears (heard_as x) k

told_field : (k : Kind) (n most : ℕ) → Told k (sized k n most)
unfolding sized heard_as
told_field (I number more) n most =
    picked (Told (I number more)) _ _ _ (λ e. as_bad _ refl)
    (λ e. picked (Told (I number more)) _ _ _ (λ f. as_it_is refl) (λ f. as_bad _ refl))
told_field (R number) n most = picked (Told (R number)) _ _ _ (λ e. as_it_is refl) (λ e. as_bad _ refl)
told_field (Asks w) n most = picked (Told (Asks w)) _ _ _ (λ e. as_it_is refl) (λ e. as_bad _ refl)
told_field (Answers w) n most = picked (Told (Answers w)) _ _ _ (λ e. as_it_is refl) (λ e. as_bad _ refl)

told_kind : (k : Kind) (n most : ℕ) (x : Option Kind) → x ≡ Some k → Told k (of_kind x n most)
unfolding of_kind
told_kind k n most x e = subst (λ (y : Option Kind). Told k (of_kind y n most)) (sym e) (told_field k n most)

pub hears_any : (b : List ℕ) (most : ℕ) (k : Kind) → kind_of (pcb_of b) ≡ Some k → Hears (heard_of b most) k
unfolding heard_of heard_as tested in_frame
hears_any b most k e =
    picked (Told k) _ _ _ (λ f. as_bad _ refl)
    (λ f. picked (Told k) _ _ _ (λ g. as_bad _ refl)
    (λ g. picked (Told k) _ _ _
    (λ i. picked (Told k) _ _ _ (λ j. as_bad _ refl)
    (λ j. picked (Told k) _ _ _ (λ m. told_kind k (len_of b) most _ e) (λ m. as_bad _ refl)))
    (λ i. as_bad _ refl)))

-- where its control byte says nothing, it is not valid
abbrev Unsaid : Result Kind Fault → Type 0
Unsaid x = is_bad (heard_as x) ≡ true

unsaid_kind : (n most : ℕ) (x : Option Kind) → x ≡ None → Unsaid (of_kind x n most)
unfolding of_kind heard_as
unsaid_kind n most x e = subst (λ (y : Option Kind). Unsaid (of_kind y n most)) (sym e) refl

pub hears_none : (b : List ℕ) (most : ℕ) → kind_of (pcb_of b) ≡ None → is_bad (heard_of b most) ≡ true
unfolding heard_of heard_as tested in_frame
hears_none b most e =
    picked Unsaid _ _ _ (λ f. refl)
    (λ f. picked Unsaid _ _ _ (λ g. refl)
    (λ g. picked Unsaid _ _ _
    (λ i. picked Unsaid _ _ _ (λ j. refl)
    (λ j. picked Unsaid _ _ _ (λ m. unsaid_kind (len_of b) most _ e) (λ m. refl)))
    (λ i. refl)))

abbrev pub piece_of : State → List ℕ
piece_of x = take x.message.size (drop x.message.at x.message.bytes)

abbrev pub info_of : State → List ℕ
info_of x = framed (pcb_of_i (not x.numbers.next) (more_of x.message)) (piece_of x)

-- what another end can hear of an end without requests
pub data Out (x : State) (b : List ℕ) (h : Heard) : Type 0 where
  info : b ≡ info_of x → h ≡ Ok (I (not x.numbers.next) (more_of x.message)) → Out x b h
  ready : h ≡ Ok (R x.numbers.expected) → Out x b h
  answer : (w : What) → h ≡ Ok (Answers w) → Out x b h
  bad : (c : ℕ) → h ≡ Err c → Out x b h

module _ (x : State) (most : ℕ) where
  empty_out : (b : List ℕ) → b ≡ [] → Out x b (heard_of b most)
  unfolding heard_of heard_as tested pick
  empty_out b e = bad 2 (ap (λ (y : List ℕ). heard_of y most) e)

  framed_out : (b : List ℕ) (k : Kind) → (heard_of b most ≡ Ok k → Out x b (heard_of b most)) → Hears (heard_of b most) k
      → Out x b (heard_of b most)
  framed_out b k good (as_it_is e) = good e
  framed_out b k good (as_bad c e) = bad c e

  last_out : (w : Says x) (l : Last) → x.last ≡ l → Out x (block_for l x) (heard_of (block_for l x) most)
  unfolding block_for written framed
  last_out w Nothing e = empty_out [] refl
  last_out w Information e =
      picked (λ (b : List ℕ). Out x b (heard_of b most)) _ _ _
      (λ f. framed_out (info_of x) _ (info refl) (hears_any (info_of x) most _ (kind_i (not x.numbers.next) (more_of x.message))))
      (λ f. empty_out [] refl)
  last_out w (Ready p) e =
      picked (λ (b : List ℕ). Out x b (heard_of b most)) _ _ _
      (λ f. framed_out (framed p []) _ ready (hears_any (framed p []) most _ (w.numbered p e)))
      (λ f. empty_out [] refl)
  last_out w (Request v u) e = absurd (false≢true (sym (ap plain e) ∙ w.plainly))
  last_out w (Response v u) e =
      picked (λ (b : List ℕ). Out x b (heard_of b most)) _ _ _
      (λ f. let b = framed (pcb_of_s true v) (u ∷ []) in framed_out b _ (answer v) (hears_any b most _ (kind_response v)))
      (λ f. empty_out [] refl)

  pub arrived : Says x → (b : List ℕ) → Arrives (block_of x) most b → Out x b (heard_of b most)
  unfolding block_of
  arrived w b (intact e) = subst (λ (y : List ℕ). Out x y (heard_of y most)) (sym e) (last_out w x.last refl)
  arrived w b (spoiled f) = code (heard_of b most) f
    where
      code : (h : Heard) → is_bad h ≡ true → Out x b h
      code (Ok k) g = absurd (false≢true g)
      code (Err c) g = bad c refl

pub equal_not : (a : Bool) → equal (not a) a ≡ false
unfolding equal pick
equal_not true = refl
equal_not false = refl
