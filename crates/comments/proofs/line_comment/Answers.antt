-- `comments::line_comment` meets its contract: behind `//` a run of bytes without LF is left, which ends where the first LF stands, or at
-- the end of the source. Assumes nothing.
use Rattle.std.specs.Prelude.{Option, Some, None}
use Rattle.std.specs.Option.{unwrap_or}
use Rattle.std.specs.List.{position_or_len}
use Rattle.std.proofs.lemmas.List.{take_all}
use Rattle.std.proofs.lemmas.List.Sums.{prefix_len-le-length}
use Rattle.std.proofs.lemmas.Iterator.{YieldsList-from_slice}
use Rattle.std.proofs.lemmas.Iterator.Search.{position_from_yields_List}
use Rattle.std.proofs.Common.{ℕ, suc, ◌+◌, ◌-◌, ◌≤◌, ◌≡◌, ◌||◌, ltb-false, take, refl, sym, ap, ◌∙◌, Bool, true, false, not, cond, List, [], ◌∷◌, eqb, ltb, arith, rules, tests, length, drop, length-drop}
use Rattle.patterns.specs.Walk.{prefix, span}
use Rattle.patterns.proofs.Bools.{by_test}
use Rattle.patterns.proofs.Walk.{start, prefix_within, text_then, text_yes, text_no, free, through, span_within}
use Rattle.tokens.specs.Tokens.{ascii, none_of}
use Rattle.places.specs.Places.{reads_yes, reads_no, run_reads}
use Rattle.comments.proofs.line_comment.Goals as goal

-- where the first LF stands the run of other bytes ends
before_lf : (xs : List ℕ) → position_or_len (λ x. eqb x 10) xs ≡ span (none_of "\n") xs
unfolding span
before_lf [] = refl
before_lf (x ∷ xs) = go (eqb x 10) (before_lf xs)
  where
    go : (t : Bool) → position_or_len (λ x. eqb x 10) xs ≡ span (none_of "\n") xs
        → cond (not t) (1 + position_or_len (λ x. eqb x 10) xs) 0 ≡ cond (not (t || false)) (suc (span (none_of "\n") xs)) 0
    go true e = refl
    go false e = rw e (omega arith)

found : (n m : ℕ) {r : Option ℕ} → n ≤ m → r ≡ cond (ltb n m) (Some n) None → unwrap_or r m ≡ n
found n m h e = by_test (ltb n m) (λ t. rw (e, t)) (λ t. rw (e, t) (omega (arith, ltb-false n m t)))

-- `//` stands in the source
within : (s : List ℕ) (at : ℕ) {t : Bool} → t ≡ prefix (ascii "//") (drop at s) → t ≡ true → at + 2 ≤ length s
within s at e h = prefix_within (ascii "//") s at (sym e ∙ h) (omega arith)

-- the first LF behind it, or the end
lf : (c : goal.After-unwrap_or) → c.unwrap_or.result ≡ span (none_of "\n") (drop (c.args.at + 2) c.args.src.now)
lf c =
    let s = drop (c.args.at + 2) c.args.src.now in
    let here : take (length c.args.src.now - (c.args.at + 2)) s ≡ s = take_all _ _ (omega (arith, length-drop (c.args.at + 2) c.args.src.now)) in
    let p = position_from_yields_List (λ x. eqb x 10) _ _ c.position.result c.position.ensures.ran (YieldsList-from_slice s (c.iter.ensures.rest ∙ here)) (λ x b q k. search (rules, tests)) in
    c.unwrap_or.ensures ∙ ap (λ (xs : List ℕ). unwrap_or c.position.result (length xs)) here
    ∙ found _ _ (prefix_len-le-length _ s) p ∙ before_lf s

pub slice_bounds-rest-start : goal.slice_bounds-rest-start
slice_bounds-rest-start c = within c.args.src.now c.args.at c.has.ensures c.if-not-has.false

pub overflow_add-result : goal.overflow_add-result
overflow_add-result c = omega (arith, within c.args.src.now c.args.at c.has.ensures c.if-not-has.false)

pub overflow_add-result-2 : goal.overflow_add-result-2
overflow_add-result-2 c =
    let h = within c.args.src.now c.args.at c.has.ensures c.if-not-has.false in
    omega (arith, span_within (none_of "\n") c.args.src.now (c.args.at + 2) (ap (c.args.at + 2 +◌) (lf c)) h)

pub returns-then-not-has : goal.returns-then-not-has
returns-then-not-has c = text_no (text_then _ (ascii "//")) (start _ _ _) (sym c.has.ensures ∙ c.if-not-has.true)

pub returns : goal.returns
returns c =
    let left = text_yes (text_then _ (ascii "//")) (start _ _ _) (sym c.has.ensures ∙ c.if-not-has.false) in
    through (none_of "\n") (free left {b' = c.args.at + 2} refl) (ap (c.args.at + 2 +◌) (lf c))
    (reads_yes (run_reads (none_of "\n"))) (reads_no (run_reads (none_of "\n")))

pub overflow_add-rest : goal.overflow_add-rest
overflow_add-rest c = omega (arith, within c.args.src.now c.args.at c.has.ensures c.if-not-has.false)

pub slice_bounds-rest-count : goal.slice_bounds-rest-count
slice_bounds-rest-count c = within c.args.src.now c.args.at c.has.ensures c.if-not-has.false
