-- `finish_at` is `finish` read at a place (rest_end, rest_out, rest_last, rest_on). The bits so far leave room for those to come
-- (join_bounded), and the measure is the number of bytes still to come after the next. Assumes nothing.
use Rattle.std.proofs.Common.{sym, ap, ◌∙◌, arith}
use Rattle.patterns.specs.Utf8.{longer}
use Rattle.utf8.specs.Rest.{bits_small, read_size, rest_end, rest_out, rest_last, rest_on, mapped}
use Rattle.utf8.proofs.+finish_at.Goals as goal

pub returns-in_err-b : goal.returns-in_err-b
returns-in_err-b t c = c.from_residual.ensures ∙ rest_end _ _ _ _ c.args.src.now c.args.at (omega (arith, c.in_err-b.ensures))

pub returns-then-b-low : goal.returns-then-b-low
returns-then-b-low t c =
    let b = c.in_ok-b.ensures.lookup.3 in
    rest_out _ _ _ _ c.args.src.now c.args.at b.0 (λ p q. omega (arith, b.1 0, c.then-b-low.either))

pub overflow_mul-joined : goal.overflow_mul-joined
overflow_mul-joined t c = omega (arith, bits_small c.requires)

pub overflow_add-joined : goal.overflow_add-joined
overflow_add-joined t c = omega (arith, bits_small c.requires)

pub returns-then-k-eq0 : goal.returns-then-k-eq0
returns-then-k-eq0 t c =
    let b = c.in_ok-b.ensures.lookup.3 in
    let e = b.1 0 in
    rest_last _ _ _ _ c.args.src.now c.args.at b.0 (omega arith) (omega arith) (omega arith) c.if-k-eq0.true

pub map-requires : goal.map-requires
map-requires t c = λ x e. omega (arith, read_size _ _ _ _ _ (sym e ∙ c.finish_at.ensures))

pub returns : goal.returns
returns t c =
    let b = c.in_ok-b.ensures.lookup.3 in
    let e = b.1 0 in
    mapped _ _ c.map.ensures.cases ∙ ap longer c.finish_at.ensures
    ∙ rest_on _ _ _ _ c.args.src.now c.args.at b.0 (omega arith) (omega arith) (omega arith) c.if-k-eq0.false
