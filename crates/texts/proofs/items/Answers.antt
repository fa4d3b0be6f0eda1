use Rattle.std.proofs.Common.{refl, sym, ap, ◌∙◌, arith}
use Rattle.patterns.proofs.Walk.{start, over, free}
use Rattle.texts.specs.Items.{pair_within, on_plain, on_pair, items_go, items_end}
use Rattle.texts.specs.Quoted.{plain, plain_bare}
use Rattle.texts.proofs.items.Goals as goal

pub loop-b-init : goal.loop-b-init
loop-b-init c = start _ _ _

pub loop-b-preserved-then-plain : goal.loop-b-preserved-then-plain
loop-b-preserved-then-plain c =
    let b = c.in-Some.ensures.lookup.3 in
    let yes = ap (plain c.args.close c.args.lines) (sym (b.1 0)) ∙ sym c.plain.ensures ∙ c.if-plain.true in
    free (on_plain c.loop-b.invariant (items_go _ (plain_bare _ _)) b.0 yes) refl

pub overflow_add-i-then-pair : goal.overflow_add-i-then-pair
overflow_add-i-then-pair c = omega (arith, pair_within _ _ (sym c.pair.ensures ∙ c.if-pair.true))

pub loop-b-preserved : goal.loop-b-preserved
loop-b-preserved c =
    let yes = sym c.pair.ensures ∙ c.if-pair.true in
    free (on_pair c.loop-b.invariant (items_go _ (plain_bare _ _)) yes) refl

pub returns-else-pair : goal.returns-else-pair
returns-else-pair c =
    let b = c.in-Some.ensures.lookup.3 in
    let not_plain = ap (plain c.args.close c.args.lines) (sym (b.1 0)) ∙ sym c.plain.ensures ∙ c.if-plain.false in
    let no-pair = sym c.pair.ensures ∙ c.if-pair.false in
    items_end _ (plain_bare _ _) c.loop-b.invariant b.0 not_plain no-pair

pub returns : goal.returns
returns c = over c.loop-b.invariant (omega (arith, c.in_default.ensures))
