-- Reading what was written on a tree of one value.
use Rattle.std.proofs.Common.{◌≡◌, Ok}
use Rattle.ottl_eval.proofs.Worths.{worth-Path}
use Rattle.ottl_eval.specs.OneValue.{body, one_value, read_after}
use Rattle.ottl_eval.specs.Stages.{Stage}
use Rattle.pdata_value.specs.declared.value.Value.{Value}

pub read_back : (v : Value) (s : Stage Value) → read_after v s ≡ Ok v
read_back v s = worth-Path one_value body (record s { tree = v })
