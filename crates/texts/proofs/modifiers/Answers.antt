-- `texts::modifiers` meets its contract: a letter leaves at most one more to be read, and that one leaves nothing.
-- Assumes nothing.
use Rattle.std.proofs.Common.{ℕ, List, true, false, ◌≡◌, ◌+◌, ◌<◌, min, ap, ◌∙◌, length, drop, take, take_all, length-drop, length-take, arith, rules, tests}
use Rattle.std.proofs.Math.Decide.{dec_lt}
use Rattle.std.specs.List.{prefix_len}
use Rattle.std.proofs.lemmas.List.Folds.{length-prefix_len}
use Rattle.std.proofs.lemmas.List.Sums.{prefix_len-drop_all, prefix_len-drop_no, prefix_len-drop_yes}
use Rattle.std.proofs.lemmas.Iterator.{YieldsList-from_slice, YieldsList-from_take}
use Rattle.std.proofs.lemmas.Iterator.Consumers.{YieldsList-at, count_from_yields_List}
use Rattle.std.proofs.lemmas.Iterator.Search.{YieldsList-from_take_while}
use Rattle.patterns.proofs.Bools.{by_test}
use Rattle.patterns.specs.Pattern.{byte, optional, longest}
use Rattle.patterns.specs.Walk.{Came}
use Rattle.patterns.proofs.Walk.{start, done}
use Rattle.tokens.specs.Tokens.{letter}
use Rattle.places.specs.Places.{stands, stands_within, stands_yes, stands_no, takes, lacks}
use Rattle.texts.specs.Regexps.{modifiers, two_reads, one_reads}
use Rattle.texts.proofs.modifiers.Goals as goal

module _ (s : List ℕ) where
  -- how many letters stand from a place on, by whether one stands there
  no_letter : (i : ℕ) → stands letter s i ≡ false → prefix_len letter (drop i s) ≡ 0
  no_letter i e = go (dec_lt i (length s))
    where
      go : Dec (i < length s) → prefix_len letter (drop i s) ≡ 0
      go (yes l) = prefix_len-drop_no letter s i 0 l (stands_no letter s i l e)
      go (no l) = prefix_len-drop_all letter s i (omega arith)

  a_letter : (i : ℕ) → stands letter s i ≡ true → prefix_len letter (drop i s) ≡ 1 + prefix_len letter (drop (i + 1) s)
  a_letter i e = prefix_len-drop_yes letter s i 0 (stands_within letter s i e) (stands_yes letter s i e)

  -- two of them at most are modifiers
  counted : (at : ℕ) → at + min 2 (prefix_len letter (drop at s)) ≡ at + longest modifiers (drop at s)
  counted at = by_test (stands letter s at) some (λ e. omega (arith, no_letter at e, lacks (two_reads letter) (start modifiers s at) e))
    where
      some : stands letter s at ≡ true → at + min 2 (prefix_len letter (drop at s)) ≡ at + longest modifiers (drop at s)
      some e =
          let one : Came modifiers s at (optional (byte letter)) (at + 1) at = takes (two_reads letter) (start modifiers s at) e in
          by_test (stands letter s (at + 1))
          (λ f. omega (arith, a_letter at e, a_letter (at + 1) f, done (takes (one_reads letter) one f)))
          (λ f. omega (arith, a_letter at e, no_letter (at + 1) f, lacks (one_reads letter) one f))

pub returns : goal.returns
returns c =
    let a = c.args in
    let rest = drop a.at a.src.now in
    let n = count_from_yields_List c.take.result c.count.result c.count.ensures.ran
    (YieldsList-from_take 2
    (YieldsList-at c.take.ensures.source
    (YieldsList-from_take_while _ letter
    (YieldsList-at c.take_while.ensures.source (YieldsList-from_slice rest (c.iter.ensures.rest ∙ take_all _ rest (omega (arith, length-drop a.at a.src.now)))))
    c.take_while.ensures.closure c.take_while.ensures.done (λ x b q k. search (rules, tests))))
    c.take.ensures.count) in
    ap (λ (n : ℕ). a.at + n) (n ∙ length-take 2 (take (prefix_len letter rest) rest) ∙ ap (min 2) (length-prefix_len letter rest)) ∙ counted a.src.now a.at
