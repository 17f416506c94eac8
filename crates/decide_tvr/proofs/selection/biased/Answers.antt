-- `decide_tvr::selection::biased` meets its contract: percentages are bytes and amounts stay below their limit, so no difference
-- and no product leaves the range of an i64, and the machine compares the integers themselves. Assumes nothing.
use mathlib.Core.Path.{ap₂}
use native.Mathlib.Omega.{arith}
use lib.Signed.{le_z}
use Rattle.decide_tvr.specs.Selection.{biased}
use Rattle.decide_tvr.proofs.Signed.{difference_fits, product_fits, product_back}
use Rattle.decide_tvr.proofs.selection.biased.Goals as goal

pub overflow_sub-spread : goal.overflow_sub-spread
overflow_sub-spread c = difference_fits c.args.maximum c.args.target (omega arith) (omega arith)

pub overflow_sub-above : goal.overflow_sub-above
overflow_sub-above c = difference_fits c.args.amount c.args.threshold (omega arith) (omega arith)

pub overflow_sub-room : goal.overflow_sub-room
overflow_sub-room c = difference_fits c.args.floor c.args.threshold (omega arith) (omega arith)

pub overflow_sub-result : goal.overflow_sub-result
overflow_sub-result c = difference_fits c.args.random c.args.target (omega arith) (omega arith)

pub overflow_mul-result : goal.overflow_mul-result
overflow_mul-result c =
    product_fits c.args.random c.args.target c.args.floor c.args.threshold (omega arith) (omega arith) (omega arith)
    (omega arith)

pub overflow_mul-result-2 : goal.overflow_mul-result-2
overflow_mul-result-2 c =
    product_fits c.args.maximum c.args.target c.args.amount c.args.threshold (omega arith) (omega arith) (omega arith)
    (omega arith)

pub returns : goal.returns
unfolding biased
returns c =
    ap₂ le_z
    (product_back c.args.random c.args.target c.args.floor c.args.threshold (omega arith) (omega arith) (omega arith)
    (omega arith))
    (product_back c.args.maximum c.args.target c.args.amount c.args.threshold (omega arith) (omega arith) (omega arith)
    (omega arith))
