-- Each arm makes the call of its number; the last one's number is any that is left.
-- Assumes nothing.
use Rattle.std.proofs.Common.{◌≤◌, arith}
use Rattle.window_scripts.specs.AskingLaws.{call_known, call_beyond, gave}
use Rattle.window_scripts.proofs.asking.call.Goals as goal

pub returns-in-0 : goal.returns-in-0
returns-in-0 c = let a = c.args in rw (call_known a.op a.arg 0 (omega arith)) (gave c.next_token.ensures c.told.ensures)

pub returns-in-1 : goal.returns-in-1
returns-in-1 c = let a = c.args in rw (call_known a.op a.arg 1 (omega arith)) (gave c.peek_token.ensures c.told-in-1.ensures)

pub returns-in-2 : goal.returns-in-2
returns-in-2 c = let a = c.args in rw (call_known a.op a.arg 2 (omega arith)) (gave c.has_more.ensures c.told-in-2.ensures)

pub returns-in-3 : goal.returns-in-3
returns-in-3 c = let a = c.args in rw (call_known a.op a.arg 3 (omega arith)) (gave c.bookmark.ensures c.told-in-3.ensures)

pub returns-in-4 : goal.returns-in-4
returns-in-4 c = let a = c.args in rw (call_known a.op a.arg 4 (omega arith)) (gave c.restore_bookmark.ensures c.told-in-4.ensures)

pub returns-in-5 : goal.returns-in-5
returns-in-5 c = let a = c.args in rw (call_known a.op a.arg 5 (omega arith)) (gave c.remove_bookmark.ensures c.told-in-5.ensures)

pub returns-in-6 : goal.returns-in-6
returns-in-6 c = let a = c.args in rw (call_known a.op a.arg 6 (omega arith)) (gave c.enter_hex_pattern_mode.ensures c.told-in-6.ensures)

pub returns-in-7 : goal.returns-in-7
returns-in-7 c = let a = c.args in rw (call_known a.op a.arg 7 (omega arith)) (gave c.enter_hex_jump_mode.ensures c.told-in-7.ensures)

pub returns-in_default : goal.returns-in_default
returns-in_default c =
    let a = c.args in
    let h : 8 ≤ a.op = omega arith in
    rw (call_beyond a.op a.arg h) (gave c.current_token_index.ensures c.told-in_default.ensures)
