use Rattle.std.proofs.Common.{sym, arith}
use Rattle.sheet_json.proofs.Counting.{too_many, all_read}
use Rattle.sheet_json.proofs.arguments.args_of.Goals as goal

pub returns-then-items-gt-MOST : goal.returns-then-items-gt-MOST
returns-then-items-gt-MOST c = sym (too_many c.args.items.now c.if-items-gt-MOST.true)

pub returns : goal.returns
returns c = sym (all_read c.args.items.now c.loop-item.args c.loop-item.item-index c.if-items-gt-MOST.false (omega arith) c.loop-item.invariant.so_far)
