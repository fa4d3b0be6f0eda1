-- The number says which call it is, or, being none of the calls', a pop; its answer is told as numbers.
-- Assumes nothing.
use Rattle.std.proofs.Common.{refl, arith}
use Rattle.event_record.specs.Record.{push_token, push_error, begin, span}
use Rattle.event_scripts.specs.AskingLaws.{of_number, of_kind, of_none, gave}
use Rattle.event_scripts.proofs.asking.call.Goals as goal

pub returns-in-0 : goal.returns-in-0
returns-in-0 c =
    let a = c.args.asked in
    gave (of_kind a _ (λ k. push_token k (span a.start a.end)) 0 refl refl (omega arith) c.push_token.ensures) c.told.ensures

pub returns-in-1 : goal.returns-in-1
returns-in-1 c =
    let a = c.args.asked in
    gave (of_kind a _ (λ k. push_error k (span a.start a.end)) 1 refl refl (omega arith) c.push_error.ensures) c.told-in-1.ensures

pub returns-in-2 : goal.returns-in-2
returns-in-2 c = gave (of_kind c.args.asked _ begin 2 refl refl (omega arith) c.begin.ensures) c.told-in-2.ensures

pub returns-in-3 : goal.returns-in-3
returns-in-3 c = gave (of_number _ _ 3 (omega arith) c.end.ensures) c.told-in-3.ensures

pub returns-in-4 : goal.returns-in-4
returns-in-4 c = gave (of_number _ _ 4 (omega arith) c.end_with_error.ensures) c.told-in-4.ensures

pub returns-in-5 : goal.returns-in-5
returns-in-5 c = gave (of_number _ _ 5 (omega arith) c.bookmark.ensures) c.told-in-5.ensures

pub returns-in-6 : goal.returns-in-6
returns-in-6 c = gave (of_number _ _ 6 (omega arith) c.truncate.ensures) c.told-in-6.ensures

pub returns-in-7 : goal.returns-in-7
returns-in-7 c = gave (of_number _ _ 7 (omega arith) c.remove_bookmark.ensures) c.told-in-7.ensures

pub returns-in_default : goal.returns-in_default
returns-in_default c = gave (of_none _ _ (omega arith) c.pop.ensures) c.told-in_default.ensures
