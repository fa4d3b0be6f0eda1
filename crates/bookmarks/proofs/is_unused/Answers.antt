use Rattle.std.proofs.Common.{Bool, ◌&&◌, ◌+◌, eqb, get_or, drop, sym, ap, ◌∙◌}
use Rattle.std.proofs.Math.Bool.{and-true, and_assoc}
use Rattle.std.proofs.lemmas.List.{at_drop_more, at_drop_all}
use Rattle.bookmarks.specs.Bookmarks.{unused_place, unused}
use Rattle.bookmarks.proofs.is_unused.Goals as goal

pub loop-place-preserved : goal.loop-place-preserved
unfolding unused
loop-place-preserved c =
    let l = c.loop-place in
    let xs = c.args.places.now in
    let e = at_drop_more unused xs l.place-index unused_place c.loop-place-test.true in
    and_assoc l.zero (eqb (get_or xs l.place-index unused_place).0 0) (unused (drop (l.place-index + 1) xs)) ∙ ap (λ (b : Bool). l.zero && b) (sym e) ∙ l.invariant

pub returns : goal.returns
unfolding unused
returns c =
    let l = c.loop-place in
    let e = at_drop_all unused c.args.places.now l.place-index c.loop-place-test.false in
    sym (and-true l.zero) ∙ ap (λ (b : Bool). l.zero && b) (sym e) ∙ l.invariant
