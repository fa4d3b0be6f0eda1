-- `decode_at` reads the first byte and goes by what it asks for, as `decode` does (decode_lead); every first byte asks for a rest that
-- `finish_at` may read (lead_bounded), of at most three bytes (read_size). Assumes nothing.
use Rattle.std.proofs.Common.{ℕ, sym, ap, ◌∙◌, arith}
use Rattle.patterns.specs.Utf8.{whole, longer, after_lead}
use Rattle.utf8.specs.Rest.{lead_bounded, mapped, read_size, decode_end, decode_lead}
use Rattle.utf8.proofs.decode_at.Goals as goal

pub returns-in_err-b : goal.returns-in_err-b
returns-in_err-b c = c.from_residual.ensures ∙ decode_end c.args.src.now c.args.at (omega (arith, c.in_err-b.ensures))

pub finish_at-requires : goal.finish_at-requires
finish_at-requires c = lead_bounded c.type_inv.b.fits (sym c.lead_of.ensures ∙ c.in-More.is)

pub map-requires : goal.map-requires
map-requires c = λ x e.
    omega (arith, lead_bounded c.type_inv.b.fits (sym c.lead_of.ensures ∙ c.in-More.is), read_size _ _ _ _ _ (sym e ∙ c.finish_at.ensures))

pub returns-in-Alone : goal.returns-in-Alone
unfolding after_lead
returns-in-Alone c =
    let b = c.in_ok-b.ensures.lookup.3 in
    ap (λ (v : ℕ). whole v 1) c.from.ensures
    ∙ decode_lead c.args.src.now c.args.at b.0 (b.1 0) (sym c.lead_of.ensures ∙ c.in-Alone.is)

pub returns-in-More : goal.returns-in-More
unfolding after_lead
returns-in-More c =
    let b = c.in_ok-b.ensures.lookup.3 in
    mapped _ _ c.map.ensures.cases ∙ ap longer c.finish_at.ensures
    ∙ decode_lead c.args.src.now c.args.at b.0 (b.1 0) (sym c.lead_of.ensures ∙ c.in-More.is)

pub returns-in-Bad : goal.returns-in-Bad
unfolding after_lead
returns-in-Bad c =
    let b = c.in_ok-b.ensures.lookup.3 in
    decode_lead c.args.src.now c.args.at b.0 (b.1 0) (sym c.lead_of.ensures ∙ c.in-Bad.is)
