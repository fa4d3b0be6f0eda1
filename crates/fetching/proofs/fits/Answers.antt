-- Either no more are asked for than are spare, or no more bytes are left; else it is looked up whether more tokens are.
-- Assumes nothing.
use Rattle.std.proofs.Common.{refl, sym, ◌∙◌, leb-true, le-leb}
use Rattle.std.proofs.lemmas.Bool.{false≢true}
use Rattle.std.proofs.lemmas.Iterator.Consumers.{nth_from_yields_List, YieldsList-from_first}
use Rattle.reader.specs.Following.{rest}
use Rattle.fetching.proofs.FetchingLaws.{few_fit, short_fits, nth_fits}
use Rattle.fetching.proofs.fits.Goals as goal
use Rattle.fetching.proofs.fits.Goals.{then-need-spare, else-need-spare}

pub returns-then-tokens-spare : goal.returns-then-tokens-spare
returns-then-tokens-spare c =
    let a = c.args in
    let r = a.tokens.reader in
    elim c.if-need-spare.branch [
      | then-need-spare w ↦ c.if-tokens-spare.true ∙ few_fit a.tokens.src.now r a.need a.spare w.if-need-spare.true
      | else-need-spare w ↦ c.if-tokens-spare.true ∙ short_fits a.tokens.src.now r a.need a.spare a.tokens.sound (leb-true _ _ (sym w.value-is ∙ c.if-tokens-spare.true))
    ]

pub returns-else-tokens-spare : goal.returns-else-tokens-spare
returns-else-tokens-spare c =
    let a = c.args in
    let r = a.tokens.reader in
    let found = nth_from_yields_List c.nth.result c.nth.new.self a.spare c.nth.ensures.ran (YieldsList-from_first (λ x. x) (λ s. rest s.src.now s.reader) _ refl) in
    elim c.if-need-spare.branch [
      | then-need-spare w ↦ absurd (false≢true (sym c.if-tokens-spare.false ∙ w.value-is ∙ le-leb _ _ w.if-need-spare.true))
      | else-need-spare w ↦ nth_fits a.tokens.src.now r a.need a.spare w.if-need-spare.false c.nth.result found c.is_none.result c.is_none.ensures
    ]
