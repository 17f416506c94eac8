-- What is wrong with a received block, in the order of the tests, and what the state of an end is told of a block.
-- 000, I-5.2.4.1 and I-5.2.5. The house's order: characters, LRC, LEN, NAD, PCB, information field.
-- Assumes nothing.
use Rattle.std.specs.Prelude.{Result, Ok, Err, Option, Some, None, List, ℕ, ◌+◌, eqb, leb, ltb, length, get_or, take}
use Rattle.slices.specs.Choice.{pick}
use Rattle.t1_block.specs.Blocks.{nad_of, pcb_of, len_of, lrc_of, kind_of}
use Rattle.t1_block.specs.declared.What.{What}
use Rattle.t1_block.specs.declared.What.TheVariants.{Resynch, Ifs, Abort, Wtx}
use Rattle.t1_block.specs.declared.Kind.{Kind}
use Rattle.t1_block.specs.declared.Kind.TheVariants.{Information, Ready, Request, Response}
use Rattle.t1_block.specs.declared.Fault.{Fault}
use Rattle.t1_block.specs.declared.Fault.TheVariants.{Under, Over, Edc, Len, Nad, Pcb, Empty, Size, Inf}

-- how many bytes the field of an S-block has (000, I-5.2.4.3)
abbrev pub size_of : What → ℕ
size_of Resynch = 0
size_of Ifs = 1
size_of Abort = 0
size_of Wtx = 1

-- the kind, where its field is one that it may have: of an I-block some bytes and at most as many as we take (000, I-5.2.4.1.1.3 and
-- I-5.2.4.2.1); of an R-block none
unfoldable pub sized : Kind → ℕ → ℕ → Result Kind Fault
sized (Information number more) n most =
    pick (eqb n 0) (Err Empty) (pick (leb n most) (Ok (Information number more)) (Err Size))
sized (Ready number) n most = pick (eqb n 0) (Ok (Ready number)) (Err Inf)
sized (Request w) n most = pick (eqb n (size_of w)) (Ok (Request w)) (Err Inf)
sized (Response w) n most = pick (eqb n (size_of w)) (Ok (Response w)) (Err Inf)

unfoldable pub of_kind : Option Kind → ℕ → ℕ → Result Kind Fault
of_kind (Some kind) n most = sized kind n most
of_kind None n most = Err Pcb

-- the bytes that are as many as LEN says: LRC, LEN 'FF', NAD, PCB, field
unfoldable pub in_frame : List ℕ → ℕ → Result Kind Fault
in_frame b most =
    pick (eqb (lrc_of (take (3 + len_of b) b)) (get_or b (3 + len_of b) 0))
    (pick (eqb (len_of b) 0xFF) (Err Len) (pick (eqb (nad_of b) 0x00) (of_kind (kind_of (pcb_of b)) (len_of b) most) (Err Nad)))
    (Err Edc)

-- the kind of a valid block, or the first fault that applies, where the most bytes of information that we take are given
unfoldable pub tested : List ℕ → ℕ → Result Kind Fault
tested b most =
    pick (ltb (length b) (4 + len_of b)) (Err Under) (pick (ltb (4 + len_of b) (length b)) (Err Over) (in_frame b most))

-- the error code of an R-block (000, Table I-24): 1 for the LRC, 2 for the rest
abbrev pub code_of : Fault → ℕ
code_of Under = 2
code_of Over = 2
code_of Edc = 1
code_of Len = 2
code_of Nad = 2
code_of Pcb = 2
code_of Empty = 2
code_of Size = 2
code_of Inf = 2

-- what the state of an end is told of a block: the kind of a valid one, or the code that an R-block is to carry
abbrev pub Heard : Type 0
Heard = Result Kind ℕ

unfoldable pub heard_as : Result Kind Fault → Heard
heard_as (Ok kind) = Ok kind
heard_as (Err fault) = Err (code_of fault)

unfoldable pub heard_of : List ℕ → ℕ → Heard
heard_of b most = heard_as (tested b most)
