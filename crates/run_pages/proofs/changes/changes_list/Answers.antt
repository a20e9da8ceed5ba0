use Rattle.std.proofs.Common.{vec_items, arith}
use Rattle.run_pages.specs.Changes.{held_in_register, held_in_flags}
use Rattle.run_pages.proofs.Joined.{register_more, flags_more}
use Rattle.run_pages.proofs.changes.changes_list.Goals as goal

pub loop-number-preserved : goal.loop-number-preserved
loop-number-preserved c =
    register_more (held_in_register c.args.step.now) c.loop-number.number (vec_items c.loop-number.list) (vec_items c.push_register.new.list) c.loop-number.invariant c.in_ok-push_register.ensures

pub returns : goal.returns
returns c =
    flags_more (held_in_register c.args.step.now) (held_in_flags c.args.step.now) c.loop-number.number (vec_items c.loop-number.list) (vec_items c.push_flags.new.list) (omega arith) c.loop-number.invariant c.in_ok-push_flags.ensures
