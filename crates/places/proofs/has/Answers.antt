-- `places::has` meets its contract: what is left of the source from the place on starts with the text, or does not (starts_is); past the
-- end nothing is left. Assumes nothing.
use Rattle.std.proofs.Common.{ℕ, ◌≡◌, ◌+◌, ◌<◌, ◌≤◌, ◌⊎◌, refl, sym, ap, ◌∙◌, List, [], length, drop, take_all, length-drop, drop_of_length-le, eqb, arith, Option, Some, None, MatchOption, Bor, unwrap_or}
use Rattle.std.specs.List.{starts_with, slice_range}
use Rattle.places.specs.Places.{starts_is}
use Rattle.places.proofs.has.Goals as goal

-- what is left from the place on
left : (s : List ℕ) (at : ℕ) (o : Option (Bor (List ℕ))) (d : Bor (List ℕ)) → d.now ≡ []
    → MatchOption o ((length s < at) ⊎ (length s < length s)) (λ x. (at ≤ length s) × (length s ≤ length s) × (x.now ≡ slice_range s at (length s)) × (length x.now + at ≡ length s))
    → (unwrap_or o d).now ≡ drop at s
left s at None d e past = e ∙ sym (drop_of_length-le s (omega arith))
left s at (Some x) d e h = h.2 ∙ take_all _ (drop at s) (omega (arith, length-drop at s))

pub returns : goal.returns
returns c =
    let a = c.args in
    c.starts_with.ensures.value
    ∙ ap (λ (xs : List ℕ). starts_with eqb xs a.text.now) (ap (λ (x : Bor (List ℕ)). x.now) c.unwrap_or.ensures ∙ left a.src.now a.at c.get.result _ refl c.get.ensures.lookup.0)
    ∙ starts_is a.text.now (drop a.at a.src.now)
