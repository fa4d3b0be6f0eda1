use Rattle.std.proofs.Common.{Bool, ◌&&◌, ◌+◌, leb, get_or, drop, sym, ap, ◌∙◌}
use Rattle.std.proofs.Math.Bool.{and_assoc}
use Rattle.std.proofs.lemmas.List.{at_drop_more, at_drop_all}
use Rattle.bookmarks.specs.Bookmarks.{unused_place, in_order}
use Rattle.bookmarks.proofs.is_in_order.Goals as goal

pub loop-mark-preserved : goal.loop-mark-preserved
unfolding in_order
loop-mark-preserved c =
    let l = c.loop-mark in
    let xs = c.args.marks.now in
    let m = (get_or xs l.mark-index unused_place).0 in
    let e = at_drop_more (in_order l.low c.args.top.0) xs l.mark-index unused_place c.loop-mark-test.true in
    and_assoc l.ordered (leb l.low m) (in_order m c.args.top.0 (drop (l.mark-index + 1) xs)) ∙ ap (λ (b : Bool). l.ordered && b) (sym e) ∙ l.invariant

pub returns : goal.returns
unfolding in_order
returns c =
    let l = c.loop-mark in
    let e = at_drop_all (in_order l.low c.args.top.0) c.args.marks.now l.mark-index c.loop-mark-test.false in
    ap (λ (b : Bool). l.ordered && b) (sym e) ∙ l.invariant
